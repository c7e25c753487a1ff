-- Passage numbers differ just where no two tolls have one.
use mathlib.Core.Path.{◌≡◌, refl, sym}
use mathlib.Core.Logic.{◌≢◌}
use mathlib.Core.Bool.{Bool, true, false, ◌&&◌}
use Prim.Native.Nat.{ℕ, ◌≤◌, ◌<◌}
use native.Mathlib.Omega.{arith}
use native.Mathlib.Decide.{dec_lt}
use mathlib.Core.List.{List}
use lib.IntN.{ℤ}
use borrow.Author.Tests.{eq-eqb, ne_eqb, eqb-true}
use Rattle.lists.specs.Tests.{◌is◌, ◌implies◌}
use Rattle.lists.specs.Lists.{count}
use Rattle.lists.proofs.ListLaws.{every-tabulate, every-fails}
use Rattle.lists.proofs.SumLaws.{count-single, count-pair}
use Rattle.records.specs.Encoding.{row_at, rows_of}
use Rattle.rules.specs.Rows.{Row, kind_toll, toll}
use Rattle.rules.specs.Soundness.{passage, passage_once}
use Rattle.sound_passages.specs.Trees.{passages_differ}
use Rattle.sound_passages.specs.Trees.{IsToll, HasPassage}

passage-hit : (p : ℕ) (r : Row) → r.kind ≡ kind_toll → r.reference ≡ p → passage p r ≡ true
unfolding passage
passage-hit p r k e = simp (eq-eqb _ _ k, eq-eqb _ _ e)

passage-miss : (p : ℕ) (r : Row) → (r.kind ≡ kind_toll → r.reference ≡ p → ⊥) → passage p r ≡ false
unfolding passage
passage-miss p r q = go (toll r) (r.reference is p) (λ a b. q (eqb-true _ _ a) (eqb-true _ _ b))
  where
    go : (a b : Bool) → (a ≡ true → b ≡ true → ⊥) → a && b ≡ false
    go true true h = absurd (h refl refl)
    go true false h = refl
    go false b h = refl

abbrev Clean : List ℤ → ℕ → Type 0
Clean t n = (j k : ℕ) → j < k → k < n → IsToll t j → IsToll t k → HasPassage t j (row_at t k).reference → ⊥

pub clean-differ : (t : List ℤ) (n : ℕ) → Clean t n → passages_differ (rows_of t n) ≡ true
unfolding passages_differ passage_once
clean-differ t n c = every-tabulate _ (row_at t) n (λ k h. once k h (toll (row_at t k)) refl)
  where
    other : (k j : ℕ) → k < n → j < n → j ≢ k → IsToll t k → passage (row_at t k).reference (row_at t j) ≡ false
    other k j h b q a =
        passage-miss (row_at t k).reference (row_at t j) (λ d e.
        elim (dec_lt j k) [
          | yes l ↦ c j k l h d a e
          | no l ↦ c k j (omega arith) b a d (sym e)
        ])

    once : (k : ℕ) → k < n → (b : Bool) → toll (row_at t k) ≡ b → (b implies count (passage (row_at t k).reference) (rows_of t n) is 1) ≡ true
    once k h false e = refl
    once k h true e =
        let a : IsToll t k = eqb-true _ _ e in
        eq-eqb _ _ (count-single (passage (row_at t k).reference) (row_at t) n k h (passage-hit _ (row_at t k) a refl) (λ j b q. other k j h b q a))

pub clash-same : (t : List ℤ) (n j k : ℕ) → j < k → k < n → IsToll t j → IsToll t k → HasPassage t j (row_at t k).reference → passages_differ (rows_of t n) ≡ false
unfolding passages_differ passage_once
clash-same t n j k h b a d e =
    let p : ℕ = (row_at t k).reference in
    let two : 2 ≤ count (passage p) (rows_of t n) = count-pair (passage p) (row_at t) n j k h b (passage-hit p (row_at t j) a e) (passage-hit p (row_at t k) d refl) in
    every-fails _ (row_at t) n k b (rw (eq-eqb (row_at t k).kind kind_toll d) (ne_eqb (count (passage p) (rows_of t n)) 1 (λ w. omega arith)))
