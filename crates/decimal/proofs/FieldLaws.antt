-- The fields of a line, read from comma to comma.
use mathlib.Core.Path.{◌≡◌, refl, sym, ap, ◌∙◌}
use mathlib.Core.Bool.{Bool, true, false, cond, ◌&&◌}
use mathlib.Core.List.{List, [], ◌∷◌, ◌++◌, append-nil}
use Prim.Native.Nat.{ℕ, suc, ◌+◌, ◌≤◌, ◌<◌}
use native.Mathlib.Omega.{arith}
use native.Mathlib.Numerals.{add-one}
use lib.Dec.{eqb}
use borrow.Author.Tests.{eq-eqb, ne_eqb}
use lib.IntN.{ℤ, pos}
use lib.ListN.{length, take, drop, set, length-set}
use lib.Seq.{take-suc-set, take_all, append_snoc}
use Rattle.std.specs.Prelude.{Option, Some, None, is_some, unwrap_or, MatchOption}
use Rattle.std.specs.Option.{option_copied}
use Rattle.std.specs.Borrow.{Bor}
use Rattle.decimal.specs.Bytes.{index_of}
use Rattle.decimal.specs.Decimal.{number_of, in_first, fields_of, all_numbers, numbers_in, is_numbers, numbers_of}
use Rattle.decimal.proofs.PartLaws.{parts_cut, parts_last}

-- ---- a field and the rest

fields-step : (b : ℕ) (bs : List ℕ) → fields_of (b ∷ bs) ≡ cond (eqb b 44) ([] ∷ fields_of bs) (in_first b (fields_of bs))
unfolding fields_of
fields-step b bs = refl

-- no comma: one field
pub fields-last : (bs : List ℕ) → index_of 44 bs ≡ length bs → fields_of bs ≡ bs ∷ []
unfolding fields_of in_first
fields-last [] e = refl
fields-last (b ∷ bs) e = parts_last 44 fields_of fields-step (λ d. refl) (b ∷ bs) e (omega arith)

-- the first comma ends the first field
pub fields-cut : (bs : List ℕ) (k : ℕ) → index_of 44 bs ≡ k → k < length bs → fields_of bs ≡ take k bs ∷ fields_of (drop (suc k) bs)
fields-cut bs k e h = rw (append-nil bs, append-nil (drop (suc k) bs)) at (parts_cut 44 fields_of fields-step bs k [] e h)

-- a line has a field at least
pub fields-some : (bs : List ℕ) → 1 ≤ length (fields_of bs)
unfolding fields_of in_first
fields-some [] = omega arith
fields-some (b ∷ bs) = go (eqb b 44) (fields_of bs)
  where
    go : (t : Bool) (fs : List (List ℕ)) → 1 ≤ length (cond t ([] ∷ fs) (in_first b fs))
    go true fs = omega arith
    go false [] = omega arith
    go false (f ∷ fs) = omega arith

-- ---- the walk

-- the fields that are left: none after the last
abbrev pub fields_left : Option (List ℕ) → List (List ℕ)
fields_left None = []
fields_left (Some bs) = fields_of bs

-- the first field, and those that are left after it
pub fields_next : (line f : List ℕ) (o : Option (Bor (List ℕ)))
    → MatchOption o (fields_of line ≡ f ∷ []) (λ after. fields_of line ≡ f ∷ fields_of after.now)
    → fields_of line ≡ f ∷ fields_left (option_copied o)
fields_next line f None e = e
fields_next line f (Some after) e = e

-- i fields are read: the first i of n values hold their numbers, and the others are left
pub record Fields (whole left : List (List ℕ)) (values : List ℤ) (n i : ℕ) : Type 0 where
  pub size : length values ≡ n
  pub counted : length whole ≡ i + length left
  pub numbers : all_numbers whole ≡ all_numbers left
  pub held : numbers_in whole ≡ take i values ++ numbers_in left

-- one field more
pub fields-more : (whole left : List (List ℕ)) (f : List ℕ) (values : List ℤ) (n i : ℕ) (z : ℤ)
    → Fields whole (f ∷ left) values n i → i < n → Some z ≡ number_of f
    → Fields whole left (set values i z) n (i + 1)
unfolding all_numbers numbers_in
fields-more whole left f values n i z r h e =
    rw (add-one i) (record {
      size = length-set values i z ∙ r.size;
      counted = omega (arith, r.counted);
      numbers = r.numbers ∙ ap (λ (o : Option ℤ). is_some o && all_numbers left) (sym e);
      held =
          r.held
          ∙ ap (λ (o : Option ℤ). take i values ++ unwrap_or o (pos 0) ∷ numbers_in left) (sym e)
          ∙ sym (append_snoc (take i values) z (numbers_in left))
          ∙ ap (λ (xs : List ℤ). xs ++ numbers_in left) (sym (take-suc-set values i z (omega (arith, r.size))));
    })

module _ (line : List ℕ) (left : List (List ℕ)) (values : List ℤ) (n i : ℕ) (r : Fields (fields_of line) left values n i) where
  -- another count of fields
  pub fields-other : (length (fields_of line) ≡ n → ⊥) → is_numbers n line ≡ false
  unfolding is_numbers
  fields-other h = ap (λ (b : Bool). b && all_numbers (fields_of line)) (ne_eqb (length (fields_of line)) n h)

  -- a field that states no number
  pub fields-bad : all_numbers left ≡ false → is_numbers n line ≡ false
  unfolding is_numbers
  fields-bad e = go (eqb (length (fields_of line)) n) (r.numbers ∙ e)
    where
      go : (t : Bool) → all_numbers (fields_of line) ≡ false → (t && all_numbers (fields_of line)) ≡ false
      go true q = q
      go false q = refl

-- the next one
pub numbers-bad : (f : List ℕ) (left : List (List ℕ)) → None ≡ number_of f → all_numbers (f ∷ left) ≡ false
unfolding all_numbers
numbers-bad f left e = ap (λ (o : Option ℤ). is_some o && all_numbers left) (sym e)

-- none is left
module _ (line : List ℕ) (values : List ℤ) (n : ℕ) (r : Fields (fields_of line) [] values n n) where
  pub fields-all : is_numbers n line ≡ true
  unfolding is_numbers all_numbers
  fields-all = rw (eq-eqb (length (fields_of line)) n (omega (arith, r.counted))) r.numbers

  pub fields-held : values ≡ numbers_of line
  unfolding numbers_of numbers_in
  fields-held = sym (r.held ∙ append-nil (take n values) ∙ take_all n values (omega (arith, r.size)))
