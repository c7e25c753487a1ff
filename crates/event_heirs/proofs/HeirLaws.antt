-- The account on which a toll posts, with what the code's tests of the accounts that it read came to. No holiday is read for it.
use mathlib.Core.Path.{◌≡◌}
use mathlib.Core.List.{List, map}
use lib.IntN.{ℤ}
use mathlib.Core.Bool.{Bool, cond, ◌&&◌}
use Prim.Native.Nat.{ℕ}
use Rattle.lists.specs.Tests.{◌is◌}
use Rattle.records.specs.Encoding.{nat_of}
use Rattle.rules.specs.Book.{Account, Instruction, Book, state_closed, account}
use Rattle.rules.specs.Successors.{takes_tolls, has_heir, toll_account, forwarded}
use Rattle.rules.specs.Tables.{Tables, tables_with, book_of}
use Rattle.rules.proofs.HolidayFrame.{forwarded-with_holidays}

pub toll_account-by : (b : Book) (n : ℕ) (x y : Account) → x ≡ account b n → y ≡ account b x.successor → (c t : Bool) → x.state is state_closed ≡ c
    → takes_tolls y ≡ t → cond (c && t) x.successor n ≡ toll_account b n
unfolding toll_account has_heir
toll_account-by b n x y r s c t p q = rw (← r, ← s, p, q)

-- an event goes to the same account with any holidays
pub forwarded-any : (hs : List ℤ) (t : Tables) (e : Instruction) → forwarded (book_of (tables_with hs t)) e ≡ forwarded (book_of t) e
unfolding book_of
forwarded-any hs t e = forwarded-with_holidays (map nat_of hs) (book_of t) e
