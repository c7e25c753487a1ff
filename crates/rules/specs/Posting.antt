-- The posting of an event: its answer and the book after it (document 01, "Events").
use Rattle.std.specs.Prelude.{cond, ◌&&◌, ℕ, ◌+◌, ◌-◌, List, [], ◌∷◌, length}
use Rattle.records.specs.Codes.{event_topup_result, event_tick}
use Rattle.records.specs.AccountOperations.{last_decline}
use Rattle.lists.specs.Tests.{◌is◌}
use Rattle.rules.specs.Book.{Instruction, Answer, Book, account}
use Rattle.rules.specs.Successors.{forwarded}
use Rattle.rules.specs.Tick.{raised_by}
use Rattle.rules.specs.Refusals.{Refusal, answer_number, after}

-- ---- "Answer, five words: number, first new row (0 if none), new rows, tolls raised, 1 if the top-up was removed"

-- event 7: "the third clears all four words"; "with a reserve, only then is the answer's last word 1" (document 02, No. 4)
unfoldable pub removes_topup : Refusal
removes_topup b e = e.kind is event_topup_result && e.b is 0 && last_decline (account b e.account)

-- "new rows": how many rows the event adds
unfoldable pub new_rows : Book → Instruction → ℕ
new_rows b e = length (after b e).rows - length b.rows

-- the answer of an accepted event
unfoldable pub acceptance : Book → Instruction → Answer
acceptance b e = record {
  number = 0;
  first = cond (new_rows b e is 0) 0 (length b.rows + 1);
  added = new_rows b e;
  raised = cond (e.kind is event_tick) (raised_by b) 0;
  removed = cond (removes_topup b e) 1 0;
}

-- "The book's tables stay unchanged and other words are 0"
abbrev pub refusal_by : ℕ → Answer
refusal_by n = record { number = n; first = 0; added = 0; raised = 0; removed = 0 }

-- ---- one event

pub record Posted : Type 0 where
  pub answer : Answer
  pub book : Book

-- refused by the first refusal that applies, else accepted
unfoldable pub post : Book → Instruction → Posted
post b e =
    cond (answer_number b e is 0)
    (record { answer = acceptance b e; book = after b e })
    (record { answer = refusal_by (answer_number b e); book = b })

-- ---- an event as it is handed over

-- "A toll for a closed account with a successor that is open or pending posts on the successor" (document 02, No. 8)
abbrev pub receive : Book → Instruction → Posted
receive b e = post b (forwarded b e)

-- ---- events in order: "it goes on after a refusal"

-- the book after a list of events
unfoldable pub book_after : Book → List Instruction → Book
book_after b [] = b
book_after b (e ∷ es) = book_after (receive b e).book es

-- their answers, in order
unfoldable pub answers_to : Book → List Instruction → List Answer
answers_to b [] = []
answers_to b (e ∷ es) = (receive b e).answer ∷ answers_to (receive b e).book es
