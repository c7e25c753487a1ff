-- The lines of an input that comes in parts: a line feed ends a line whatever comes after it.
use mathlib.Core.Path.{◌≡◌, refl, ap}
use mathlib.Core.Bool.{Bool, true, false, cond}
use mathlib.Core.List.{List, [], ◌∷◌, ◌++◌}
use Prim.Native.Nat.{ℕ, suc, ◌<◌}
use native.Mathlib.Nat.{not-suc-le-zero}
use native.Mathlib.Omega.{arith}
use lib.Dec.{eqb}
use lib.ListN.{length, take, drop}
use Rattle.decimal.specs.Bytes.{index_of, index_after}
use Rattle.decimal.specs.Decimal.{in_first}
use Rattle.decimal.proofs.PartLaws.{parts_cut, parts_last}
use Rattle.listing_rules.specs.Texts.{lines_of}

-- ---- lines_of

lines_step : (b : ℕ) (bs : List ℕ) → lines_of (b ∷ bs) ≡ cond (eqb b 10) ([] ∷ lines_of bs) (in_first b (lines_of bs))
unfolding lines_of
lines_step b bs = refl

-- the first line feed ends the first line, whatever comes after
pub lines_cut : (bs : List ℕ) (k : ℕ) (more : List ℕ) → index_of 10 bs ≡ k → k < length bs
    → lines_of (bs ++ more) ≡ take k bs ∷ lines_of (drop (suc k) bs ++ more)
lines_cut = parts_cut 10 lines_of lines_step

-- no line feed: one line, where there is a byte
pub lines-last : (bs : List ℕ) → index_of 10 bs ≡ length bs → 0 < length bs → lines_of bs ≡ bs ∷ []
unfolding lines_of in_first
lines-last = parts_last 10 lines_of lines_step (λ b. refl)

-- a first line that begins with the given bytes, and the lines after it
pub record Begins (bs : List ℕ) (lines : List (List ℕ)) : Type 0 where
  pub rest : List ℕ
  pub later : List (List ℕ)
  pub are : lines ≡ (bs ++ rest) ∷ later

-- no line feed yet: the first line begins so, whatever comes after
pub lines-begin : (bs more : List ℕ) → index_of 10 bs ≡ length bs → 0 < length bs → Begins bs (lines_of (bs ++ more))
unfolding lines_of index_of index_after in_first
lines-begin [] more e h = absurd (not-suc-le-zero h)
lines-begin (b ∷ []) more e h = go (eqb b 10) e (lines_of more)
  where
    go : (t : Bool) → index_after t 0 ≡ 1 → (ls : List (List ℕ)) → Begins (b ∷ []) (cond t ([] ∷ ls) (in_first b ls))
    go true q ls = absurd (omega arith)
    go false q [] = record { rest = []; later = []; are = refl }
    go false q (l ∷ ls) = record { rest = l; later = ls; are = refl }
lines-begin (b ∷ c ∷ bs) more e h = go (eqb b 10) e (λ q. lines-begin (c ∷ bs) more q (omega arith))
  where
    go : (t : Bool) → index_after t (index_of 10 (c ∷ bs)) ≡ suc (suc (length bs)) → (index_of 10 (c ∷ bs) ≡ suc (length bs) → Begins (c ∷ bs) (lines_of (c ∷ bs ++ more)))
        → Begins (b ∷ c ∷ bs) (cond t ([] ∷ lines_of (c ∷ bs ++ more)) (in_first b (lines_of (c ∷ bs ++ more))))
    go true q f = absurd (omega arith)
    go false q f = let s = f (omega arith) in record { rest = s.rest; later = s.later; are = ap (in_first b) s.are }
