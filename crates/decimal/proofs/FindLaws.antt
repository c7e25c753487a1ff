-- The first byte c of a list, as a search for it gives it.
use mathlib.Core.Path.{◌≡◌, refl}
use mathlib.Core.Bool.{Bool, true, false, not, cond}
use mathlib.Core.List.{List, [], ◌∷◌}
use Prim.Native.Nat.{ℕ, suc, ◌+◌, ◌≤◌}
use native.Mathlib.Omega.{arith}
use lib.Dec.{eqb}
use borrow.Author.Tests.{lt-ltb, le-ltb}
use lib.ListN.{length}
use Rattle.std.specs.Prelude.{Some, None, unwrap_or}
use Rattle.std.specs.List.{position_or_len}
use Rattle.std.proofs.lemmas.Bool.{cases_lt}
use Rattle.std.proofs.Common.{inl, inr}
use lib.Dec.{ltb}
use Rattle.decimal.specs.Bytes.{index_of, index_after}

pub index_of-le : (c : ℕ) (bs : List ℕ) → index_of c bs ≤ length bs
unfolding index_of index_after
index_of-le c [] = omega arith
index_of-le c (b ∷ bs) = go (eqb b c) (index_of-le c bs)
  where
    go : (t : Bool) → index_of c bs ≤ length bs → index_after t (index_of c bs) ≤ suc (length bs)
    go true h = omega arith
    go false h = omega arith

pub position-index_of : (c : ℕ) (bs : List ℕ) → position_or_len (λ x. eqb x c) bs ≡ index_of c bs
unfolding index_of index_after
position-index_of c [] = refl
position-index_of c (b ∷ bs) = go (eqb b c) (position-index_of c bs)
  where
    go : (t : Bool) → position_or_len (λ x. eqb x c) bs ≡ index_of c bs
        → cond (not t) (1 + position_or_len (λ x. eqb x c) bs) 0 ≡ index_after t (index_of c bs)
    go true e = refl
    go false e = omega arith

-- the length stands for no place
pub place-or-length : (k n : ℕ) → k ≤ n → unwrap_or (cond (ltb k n) (Some k) None) n ≡ k
place-or-length k n h = elim (cases_lt k n) [
  | inl less ↦ rw (lt-ltb k n less) refl
  | inr same ↦ rw (le-ltb k n same) (omega arith)
]
