-- Laws of arrays of sums over the first rows.
use Prim.Native.Nat.{ℕ, ◌+◌, ◌*◌, ◌≤◌, ◌<◌}
use native.Mathlib.Omega.{arith}
use native.Mathlib.Decide.{ℕ_discrete}
use mathlib.Core.Path.{◌≡◌, ◌∙◌}
use mathlib.Core.Logic.{◌≢◌}
use mathlib.Core.List.{List}
use lib.IntN.{ℤ}
use lib.ListN.{length, get_or, set, replicate, length-set, length-replicate}
use lib.Seq.{get_or-set_same, get_or-set_other}
use Rattle.lists.specs.Lists.{sum_by, tabulate}
use Rattle.lists.proofs.ListLaws.{zeros}
use Rattle.lists.proofs.SumLaws.{sum_by-more, sum_by-small}
use Rattle.records.specs.Encoding.{row_at}
use Rattle.rules.specs.Rows.{Row}
use Rattle.account_sums.specs.Tallies.{Tallied}

module _ (f : ℕ → Row → ℕ) (size : ℕ) (t : List ℤ) where
  pub tallied-none : Tallied f size t (replicate size 0) 0
  unfolding sum_by tabulate
  tallied-none = record { sized = length-replicate size 0; each = λ n b. zeros size n }

  pub tallied-skip : (xs : List ℕ) (i : ℕ) → Tallied f size t xs i → ((n : ℕ) → n < size → f n (row_at t i) ≡ 0) → Tallied f size t xs (i + 1)
  tallied-skip xs i s z = record { sized = s.sized; each = λ n b. omega (arith, s.each n b, z n b, sum_by-more (f n) (row_at t) i) }

  pub tallied-add : (xs : List ℕ) (i k v : ℕ) → Tallied f size t xs i → k < size → v ≡ f k (row_at t i) → ((n : ℕ) → n ≢ k → f n (row_at t i) ≡ 0) → Tallied f size t (set xs k (get_or xs k 0 + v)) (i + 1)
  tallied-add xs i k v s b e z =
      let d : k < length xs = omega (arith, s.sized) in
      record {
        sized = length-set xs k _ ∙ s.sized;
        each = λ n q.
            elim (ℕ_discrete n k) [
              | yes w ↦ rw (w, get_or-set_same xs k (get_or xs k 0 + v) 0 d) (omega (arith, s.each k b, sum_by-more (f k) (row_at t) i))
              | no w ↦ rw (get_or-set_other xs k n (get_or xs k 0 + v) 0 w) (omega (arith, s.each n q, z n w, sum_by-more (f n) (row_at t) i))
            ];
      }

  pub tallied-small : (b : ℕ) (xs : List ℕ) (i n : ℕ) → Tallied f size t xs i → n < size → ((k : ℕ) → k < i → f n (row_at t k) ≤ b) → get_or xs n 0 ≤ i * b
  tallied-small b xs i n s h q = omega (arith, s.each n h, sum_by-small (f n) (row_at t) b i q)
