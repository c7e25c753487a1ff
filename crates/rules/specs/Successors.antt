-- Successors (document 02, No. 8): which account a toll posts on, and which account may be named as a successor.
use Rattle.std.specs.Prelude.{Bool, not, cond, ◌&&◌, ◌||◌, ℕ, List}
use Rattle.records.specs.Codes.{event_toll}
use Rattle.records.specs.Updates.{on_account}
use Rattle.lists.specs.Tests.{◌is◌}
use Rattle.rules.specs.Book.{Account, Instruction, state_unused, state_open, state_pending, state_closed, Book, account_no, account}

-- "another used account's number": s is neither n itself, nor unused or outside the table
unfoldable pub other_used : List Account → ℕ → ℕ → Bool
other_used xs n s = not (s is n) && not ((account_no xs s).state is state_unused)

-- "a successor that is open or pending"
abbrev pub takes_tolls : Account → Bool
takes_tolls x = x.state is state_open || x.state is state_pending

-- "a closed account with" such a successor has an heir; "Successors are not followed further"
unfoldable pub has_heir : Book → ℕ → Bool
has_heir b n = (account b n).state is state_closed && takes_tolls (account b (account b n).successor)

-- the account on which a toll of account n posts: its heir, else itself
unfoldable pub toll_account : Book → ℕ → ℕ
toll_account b n = cond (has_heir b n) (account b n).successor n

-- "A toll .. posts on the successor, and the row carries the successor's number": it is posted as if it had been sent to the heir; every
-- other event as it is
unfoldable pub forwarded : Book → Instruction → Instruction
forwarded b e = cond (e.kind is event_toll) (on_account (toll_account b e.account) e) e

-- the account whose rows an event but a tick adds, changes and settles: "no other event but a tick touches an account it doesn't name"
abbrev pub posts_on : Book → Instruction → ℕ
posts_on b e = (forwarded b e).account
