-- Whether an event passes the refusals that concern every kind alike, and the account that it names.
use Rattle.std.specs.Prelude.{ℕ, ◌≡◌, length, Result, IfOk}
use Rattle.records.specs.declared.refusals.Refusal.{Refusal}
use Rattle.records.specs.Outcomes.{number_by}
use Rattle.lists.specs.Tests.{first}
use Rattle.rules.specs.Book.{Account, Instruction, Book, account}
use Rattle.rules.specs.Refusals.{shared_refusals}
use Rattle.rules.specs.Tables.{Tables, book_of}

-- of the book b, there are `count` accounts, and x is the one that the event e names
pub record Read (b : Book) (e : Instruction) (count : ℕ) (x : Account) : Type 0 where
  pub size : count ≡ length b.accounts
  pub account : x ≡ account b e.account

-- no shared refusal applies to the event e on the tables t
abbrev pub Admitted : Tables → Instruction → Type 0
Admitted t e = first (shared_refusals (book_of t) e) ≡ 0

-- x is the account that the event e names
abbrev pub Names : Tables → Instruction → Account → Type 0
Names t e x = x ≡ account (book_of t) e.account

-- m is the first shared refusal that applies to the event e, or the account that it names
pub record Admits (t : Tables) (e : Instruction) (m : Result Account Refusal) : Type 0 where
  pub number : number_by m ≡ first (shared_refusals (book_of t) e)
  pub account : IfOk m (Names t e)
