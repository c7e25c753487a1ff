-- What the tests of the shared refusals come to, and what an admission says of the answer.
use mathlib.Core.Path.{◌≡◌, refl, sym, ap, ◌∙◌}
use mathlib.Core.Bool.{Bool, true, false, not, cond, ◌&&◌}
use mathlib.Core.List.{List, [], ◌∷◌, map}
use Rattle.records.specs.Numbers.{answer_malformed, answer_unknown, answer_taken, answer_closed, answer_list_refused}
use Rattle.lists.specs.Tests.{first}
use Rattle.rules.specs.Book.{Account, Instruction, Book}
use Rattle.rules.specs.Refusals.{well_formed, list_refused, unknown, taken, on_closed, shared_count, refusals, answer_number, shared_refusals}
use Rattle.rules.specs.Tables.{Tables, tables_with, later_list_at, lists_used, lists_in, book_of}
use Rattle.lists.proofs.ListLaws.{length-tabulate}
use native.Mathlib.Omega.{arith}
use Prim.Native.Nat.{◌+◌}
use lib.ListN.{length}
use lib.IntN.{ℤ}
use Rattle.rules.proofs.RefusalLaws.{answer_number-shared}
use Rattle.rules.proofs.HolidayFrame.{shared-with_holidays}
use Rattle.records.specs.Encoding.{nat_of}
use Rattle.std.specs.Prelude.{Result, Err}
use Rattle.records.specs.declared.refusals.Refusal.{Refusal}
use Rattle.records.specs.Outcomes.{number_of}
use Rattle.records.proofs.OutcomeLaws.{number_of-not_0}
use Rattle.event_refusals.specs.Admissions.{Admits}

-- a test that holds of one value only, without a branch
pub cond-not : (t u : Bool) → not t && u ≡ cond t false u
cond-not true u = refl
cond-not false u = refl

-- the first shared refusal, with what each test came to
pub shared-by : (b : Book) (e : Instruction) (f l u t c : Bool) → f ≡ well_formed e → l ≡ list_refused b e → u ≡ unknown b e → t ≡ taken b e → c ≡ on_closed b e
    → first ((answer_malformed, not f) ∷ (answer_list_refused, l) ∷ (answer_unknown, u) ∷ (answer_taken, t) ∷ (answer_closed, c) ∷ []) ≡ first (shared_refusals b e)
unfolding shared_refusals shared_count refusals
shared-by b e f l u t c p k q v w = rw (p, k, q, v, w)

-- the lists are the first and the used ones after it
pub lists-counted : (h : List ℤ) → length (lists_in h) ≡ lists_used h + 1
unfolding lists_in
lists-counted h = omega (arith, length-tabulate (later_list_at h) (lists_used h))

-- a shared refusal that applies is the answer
pub admits-refused : (t : Tables) (e : Instruction) (r : Refusal) → Admits t e (Err r) → number_of r ≡ answer_number (book_of t) e
admits-refused t e r a = a.number ∙ answer_number-shared (book_of t) e (rw a.number at (number_of-not_0 r))

-- what is admitted of the three tables that events write is admitted with any holidays
pub admits-with : (hs : List ℤ) (t : Tables) (e : Instruction) (m : Result Account Refusal) → Admits t e m → Admits (tables_with hs t) e m
unfolding book_of
admits-with hs t e m a = record { number = a.number ∙ sym (ap first (shared-with_holidays (map nat_of hs) (book_of t) e)); account = a.account }
