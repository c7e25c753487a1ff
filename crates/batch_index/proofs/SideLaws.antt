-- The two sides of an account: a row that has a kind is of one side of one account, and adds to that one alone.
use mathlib.Core.Path.{◌≡◌, refl, sym, ap, ◌∙◌}
use mathlib.Core.Logic.{◌≢◌}
use mathlib.Core.Bool.{Bool, true, false, and-false, true≢false, false≢true}
use Prim.Native.Nat.{ℕ}
use native.Mathlib.Decide.{ℕ_discrete}
use lib.Dec.{ltb}
use borrow.Author.Tests.{eq-eqb, ne_eqb}
use Rattle.lists.specs.Lists.{only}
use Rattle.rules.specs.Rows.{Row, source, remaining, source_of, debit_of}
use Rattle.rules.specs.Soundness.{kind_fits}
use Rattle.account_sums.proofs.SumsLaws.{source-no-debit, no-source-debit}
use Rattle.batch_index.specs.declared.slots.Side.{Side}
use Rattle.batch_index.specs.declared.slots.Side.TheVariants.{Sources, Debits}
use Rattle.batch_index.specs.Slots.{on_side, of_side, side_of}

-- ---- the sides are those of the rules

pub side-sources : (a : ℕ) → of_side Sources a ≡ source_of a
unfolding of_side on_side source_of
side-sources a = refl

pub side-debits : (a : ℕ) → of_side Debits a ≡ debit_of a
unfolding of_side on_side debit_of
side-debits a = refl

-- ---- a row's side

is_sources : Side → Bool
is_sources Sources = true
is_sources Debits = false

pub source-side : (r : Row) → source r ≡ true → side_of r ≡ Sources
unfolding side_of
source-side r e = rw e

pub debit-side : (r : Row) → source r ≡ false → side_of r ≡ Debits
unfolding side_of
debit-side r e = rw e

on-own : (s : Side) (r : Row) → side_of r ≡ s → kind_fits r ≡ true → on_side s r ≡ true
unfolding on_side is_sources
on-own s r q k = go s (source r) refl q
  where
    go : (s : Side) (v : Bool) → source r ≡ v → side_of r ≡ s → on_side s r ≡ true
    go Sources true e q = e
    go Sources false e q = absurd (false≢true (ap is_sources (sym (debit-side r e) ∙ q)))
    go Debits true e q = absurd (true≢false (ap is_sources (sym (source-side r e) ∙ q)))
    go Debits false e q = no-source-debit r k e

on-other : (s : Side) (r : Row) → side_of r ≢ s → on_side s r ≡ false
unfolding on_side
on-other s r n = go s (source r) refl n
  where
    go : (s : Side) (v : Bool) → source r ≡ v → side_of r ≢ s → on_side s r ≡ false
    go Sources true e n = absurd (n (source-side r e))
    go Sources false e n = e
    go Debits true e n = source-no-debit r e
    go Debits false e n = absurd (n (debit-side r e))

-- ---- what a row adds to a side

module _ (f : Row → ℕ) (s : Side) (a : ℕ) (r : Row) where
  pub side-other-account : r.account ≢ a → only (of_side s a) f r ≡ 0
  unfolding only of_side
  side-other-account n = rw (ne_eqb r.account a n)

  pub side-own : kind_fits r ≡ true → r.account ≡ a → side_of r ≡ s → only (of_side s a) f r ≡ f r
  unfolding only of_side
  side-own k e q = rw (eq-eqb r.account a e, on-own s r q k)

  pub side-other-side : side_of r ≢ s → only (of_side s a) f r ≡ 0
  unfolding only of_side
  side-other-side n = rw (on-other s r n, and-false)

  -- another account or another side
  pub side-other : (r.account ≡ a → side_of r ≡ s → ⊥) → only (of_side s a) f r ≡ 0
  side-other n = elim (ℕ_discrete r.account a) [
    | yes e ↦ side-other-side (n e)
    | no e ↦ side-other-account e
  ]

-- ---- whether something of it is left

module _ (s : Side) (a : ℕ) (x : Row) (n : ℕ) (e : n ≡ x.account) where
  pub closed-account : n ≢ a → false ≡ ltb 0 (only (of_side s a) remaining x)
  closed-account q = rw (side-other-account remaining s a x (λ w. q (e ∙ w)))

  module _ (r : Row) (q : r ≡ x) (v : Side) (w : v ≡ side_of r) where
    pub closed-side : v ≢ s → false ≡ ltb 0 (only (of_side s a) remaining x)
    closed-side d = rw (side-other-side remaining s a x (λ z. d (w ∙ rw q z)))

    pub open_own : kind_fits x ≡ true → n ≡ a → v ≡ s → (m : ℕ) → m ≡ remaining r → ltb 0 m ≡ ltb 0 (only (of_side s a) remaining x)
    open_own k d z m y = rw (side-own remaining s a x k (sym e ∙ d) (rw q at (sym w ∙ z)), y, q)
