-- Lists of numbers that signed words can hold: made one by one, all zero, one replaced.
use Prim.Native.Nat.{ℕ, zero, suc, ◌^◌, ◌<◌}
use native.Mathlib.Omega.{arith}
use mathlib.Core.List.{List, [], ◌∷◌}
use lib.ListN.{get_or, set, replicate}
use Rattle.lists.proofs.ListLaws.{zeros}
use Rattle.records.specs.Encoding.{Storable, StorableRow}
use Rattle.records.specs.declared.Row.{Row}

pub storable-none : Storable []
storable-none = record { each = λ k. omega arith }

pub storable-more : {x : ℕ} {xs : List ℕ} → x < 2 ^ 63 → Storable xs → Storable (x ∷ xs)
storable-more {x} {xs} h s = record { each = go }
  where
    go : (k : ℕ) → get_or (x ∷ xs) k 0 < 2 ^ 63
    go zero = h
    go (suc k) = s.each k

pub storable-zeros : (n : ℕ) → Storable (replicate n 0)
storable-zeros n = record { each = λ k. omega (arith, zeros n k) }

-- one number replaced
pub storable-set : (xs : List ℕ) (i v : ℕ) → v < 2 ^ 63 → Storable xs → Storable (set xs i v)
storable-set [] i v h s = s
storable-set (x ∷ xs) zero v h s = storable-more h (record { each = λ k. s.each (suc k) })
storable-set (x ∷ xs) (suc i) v h s = storable-more (s.each 0) (storable-set xs i v h (record { each = λ k. s.each (suc k) }))

-- the words of a row that words can hold, in the layout's order
pub storable-row : (r : Row) → StorableRow r
    → Storable (r.kind ∷ r.account ∷ r.day ∷ r.amount ∷ r.settled ∷ r.mark ∷ r.due ∷ r.dispute ∷ r.hold ∷ r.reference ∷ [])
storable-row r s =
    storable-more s.kind (storable-more s.account (storable-more s.day (storable-more s.amount (storable-more s.settled
    (storable-more s.mark (storable-more s.due (storable-more s.dispute (storable-more s.hold (storable-more s.reference storable-none)))))))))
