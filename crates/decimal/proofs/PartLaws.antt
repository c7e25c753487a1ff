-- Bytes cut into parts at each byte c, as a line into fields and an input into lines.
use mathlib.Core.Path.{◌≡◌, refl, ap, ◌∙◌}
use mathlib.Core.Bool.{Bool, true, false, cond}
use mathlib.Core.List.{List, [], ◌∷◌, ◌++◌}
use Prim.Native.Nat.{ℕ, zero, suc, ◌<◌}
use native.Mathlib.Nat.{not-suc-le-zero}
use native.Mathlib.Omega.{arith}
use lib.Dec.{eqb}
use lib.ListN.{length, take, drop}
use Rattle.decimal.specs.Bytes.{index_of, index_after}
use Rattle.decimal.specs.Decimal.{in_first}

module _ (c : ℕ) (parts : List ℕ → List (List ℕ)) (step : (b : ℕ) (bs : List ℕ) → parts (b ∷ bs) ≡ cond (eqb b c) ([] ∷ parts bs) (in_first b (parts bs))) where
  -- the first c ends the first part, whatever comes after
  pub parts_cut : (bs : List ℕ) (k : ℕ) (more : List ℕ) → index_of c bs ≡ k → k < length bs → parts (bs ++ more) ≡ take k bs ∷ parts (drop (suc k) bs ++ more)
  unfolding index_of index_after in_first
  parts_cut [] k more e h = absurd (not-suc-le-zero h)
  parts_cut (b ∷ bs) k more e h = step b (bs ++ more) ∙ go (eqb b c) k e h (parts_cut bs)
    where
      go : (t : Bool) (k : ℕ) → index_after t (index_of c bs) ≡ k → k < suc (length bs)
          → ((j : ℕ) (more : List ℕ) → index_of c bs ≡ j → j < length bs → parts (bs ++ more) ≡ take j bs ∷ parts (drop (suc j) bs ++ more))
          → cond t ([] ∷ parts (bs ++ more)) (in_first b (parts (bs ++ more))) ≡ take k (b ∷ bs) ∷ parts (drop (suc k) (b ∷ bs) ++ more)
      go true zero q l f = refl
      go true (suc k) q l f = absurd (omega arith)
      go false zero q l f = absurd (omega arith)
      go false (suc k) q l f = ap (in_first b) (f k more (omega arith) (omega arith))

  -- no c: one part, where there is a byte
  pub parts_last : ((b : ℕ) → in_first b (parts []) ≡ (b ∷ []) ∷ []) → (bs : List ℕ) → index_of c bs ≡ length bs → 0 < length bs → parts bs ≡ bs ∷ []
  unfolding index_of index_after in_first
  parts_last end [] e h = absurd (not-suc-le-zero h)
  parts_last end (b ∷ []) e h = step b [] ∙ go (eqb b c) e
    where
      go : (t : Bool) → index_after t 0 ≡ 1 → cond t ([] ∷ parts []) (in_first b (parts [])) ≡ (b ∷ []) ∷ []
      go true q = absurd (omega arith)
      go false q = end b
  parts_last end (b ∷ d ∷ bs) e h = step b (d ∷ bs) ∙ go (eqb b c) e (λ q. parts_last end (d ∷ bs) q (omega arith))
    where
      go : (t : Bool) → index_after t (index_of c (d ∷ bs)) ≡ suc (suc (length bs)) → (index_of c (d ∷ bs) ≡ suc (length bs) → parts (d ∷ bs) ≡ (d ∷ bs) ∷ [])
          → cond t ([] ∷ parts (d ∷ bs)) (in_first b (parts (d ∷ bs))) ≡ (b ∷ d ∷ bs) ∷ []
      go true q f = absurd (omega arith)
      go false q f = ap (in_first b) (f (omega arith))
