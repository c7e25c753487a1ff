-- The answer's number, told by the refusals that concern every kind alike and, where none of them applies, by the others; the others' tests,
-- to be unfolded together.
use mathlib.Core.Path.{◌≡◌, refl, sym, ap, ◌∙◌}
use mathlib.Core.Bool.{true, false}
use mathlib.Core.List.{◌++◌}
use lib.ListN.{take-append-drop}
use borrow.Author.Tests.{not-false}
use Rattle.records.specs.Numbers.{answer_malformed}
use Rattle.lists.specs.Tests.{◌is◌, first}
use Rattle.lists.proofs.TestLaws.{positive, case_of, first-zero, first-append, first-append-none}
use Rattle.rules.specs.Book.{Instruction, Book}
use Rattle.rules.specs.Refusals.{well_formed, successor_refused, unclassed, misdated, duplicate, barred, no_row, untimely, reserve_refused, last_day, shared_count, refusals, answer_number, shared_refusals, own_refusals}

-- the refusals of the kinds' own, with the tests that compute at a known kind: `unfolding own_tests` unfolds them all
unfoldable pub own_tests : Unit {0}
unfolding own_refusals shared_count refusals successor_refused unclassed misdated duplicate barred no_row untimely reserve_refused last_day first
own_tests = tt

module _ (b : Book) (e : Instruction) where
  joined : shared_refusals b e ++ own_refusals b e ≡ refusals b e
  unfolding shared_refusals own_refusals
  joined = take-append-drop shared_count (refusals b e)

  -- a shared refusal that applies is the answer
  pub answer_number-shared : first (shared_refusals b e) is 0 ≡ false → first (shared_refusals b e) ≡ answer_number b e
  unfolding answer_number
  answer_number-shared q = sym (first-append (shared_refusals b e) (own_refusals b e) q) ∙ ap first joined

  -- where none applies, the others decide
  pub answer_number-own : first (shared_refusals b e) ≡ 0 → answer_number b e ≡ first (own_refusals b e)
  unfolding answer_number
  answer_number-own q = sym (ap first joined) ∙ first-append-none (shared_refusals b e) (own_refusals b e) (unfold positive shared_refusals shared_count refusals in refl) q

  -- the event then has the words of its kind
  pub shared-formed : first (shared_refusals b e) ≡ 0 → well_formed e ≡ true
  unfolding shared_refusals shared_count refusals positive case_of
  shared-formed q = not-false (well_formed e) (first-zero (shared_refusals b e) refl q answer_malformed)
