-- A good line is short: 11 numbers of at most 20 bytes and the commas between them are 230 bytes.
use mathlib.Core.Path.{◌≡◌, refl, sym, ap, ◌∙◌}
use mathlib.Core.Bool.{Bool, true, false, cond, true≢false}
use mathlib.Core.List.{List, [], ◌∷◌}
use Prim.Native.Nat.{ℕ, zero, suc, ◌+◌, ◌*◌, ◌≤◌, ◌<◌}
use native.Mathlib.Nat.{le_of_suc-le-suc, lt_of_not-le}
use native.Mathlib.Omega.{arith}
use lib.Dec.{eqb}
use borrow.Author.Tests.{eqb-true}
use lib.ListN.{length}
use Rattle.records.specs.Layout.{opening_width, event_width}
use Rattle.lists.specs.Tests.{◌is◌}
use Rattle.lists.specs.Lists.{sum_by}
use Rattle.lists.proofs.TestLaws.{and_left, and_right}
use Rattle.std.specs.Prelude.{Option, is_some, option_and_then}
use Rattle.decimal.specs.Decimal.{held_plain, held_minus, plain, minus, number_of, in_first, fields_of, all_numbers, is_numbers}
use Rattle.decimal.proofs.ReadingLaws.{magnitude-long}
use Rattle.listing_rules.specs.Texts.{bytes_of, same}
use Rattle.listing_rules.specs.Listing.{opens, is_good}
use Rattle.listing_rules.specs.Sizes.{most_line_bytes}

-- ---- lengths

-- the same bytes are as many
same_length : (xs ys : List ℕ) → same xs ys ≡ true → length xs ≡ length ys
unfolding same
same_length [] [] e = refl
same_length [] (y ∷ ys) e = absurd (true≢false (sym e))
same_length (x ∷ xs) [] e = absurd (true≢false (sym e))
same_length (x ∷ xs) (y ∷ ys) e = omega (arith, same_length xs ys (and_right (x is y) (same xs ys) e))

-- a field and the comma or end after it
abbrev width : List ℕ → ℕ
width f = length f + 1

-- the fields and their commas are the line
fields-width : (bs : List ℕ) → sum_by width (fields_of bs) ≡ length bs + 1
unfolding fields_of in_first sum_by
fields-width [] = refl
fields-width (b ∷ bs) = go (eqb b 44) (fields_of bs) (fields-width bs)
  where
    go : (t : Bool) (fs : List (List ℕ)) → sum_by width fs ≡ length bs + 1 → sum_by width (cond t ([] ∷ fs) (in_first b fs)) ≡ suc (length bs) + 1
    go true fs e = omega arith
    go false [] e = absurd (omega arith)
    go false (f ∷ fs) e = omega arith

-- more than 20 bytes state no number
long-number : (f : List ℕ) → 20 < length f → is_some (number_of f) ≡ false
unfolding number_of plain minus
long-number [] h = absurd (omega arith)
long-number (b ∷ bs) h = go (eqb b 45)
  where
    go : (t : Bool) → is_some (cond t (minus bs) (plain (b ∷ bs))) ≡ false
    go true = ap (λ (o : Option ℕ). is_some (option_and_then held_minus o)) (magnitude-long bs (omega arith))
    go false = ap (λ (o : Option ℕ). is_some (option_and_then held_plain o)) (magnitude-long (b ∷ bs) (omega arith))

-- a number has at most 20 bytes
number-width : (f : List ℕ) → is_some (number_of f) ≡ true → length f ≤ 20
number-width f e = le_of_suc-le-suc (lt_of_not-le (λ h. true≢false (sym e ∙ long-number f h)))

numbers-width : (fs : List (List ℕ)) → all_numbers fs ≡ true → sum_by width fs ≤ 21 * length fs
unfolding all_numbers sum_by
numbers-width [] e = omega arith
numbers-width (f ∷ fs) e =
    omega (arith, number-width f (and_left (is_some (number_of f)) (all_numbers fs) e), numbers-width fs (and_right (is_some (number_of f)) (all_numbers fs) e))

-- so many numbers, and the commas between them
line-width : (n : ℕ) (l : List ℕ) → is_numbers n l ≡ true → length l + 1 ≤ 21 * n
unfolding is_numbers
line-width n l e =
    let counted : Bool = eqb (length (fields_of l)) n in
    let numbers : Bool = all_numbers (fields_of l) in
    omega (arith, eqb-true (length (fields_of l)) n (and_left counted numbers e), numbers-width (fields_of l) (and_right counted numbers e), fields-width l)

-- what is not true is false
refuted : (b : Bool) → (b ≡ true → ⊥) → b ≡ false
refuted true h = absurd (h refl)
refuted false h = refl

-- ---- is_good

pub long-bad : (n : ℕ) (l : List ℕ) → most_line_bytes < length l → is_good n l ≡ false
unfolding is_good opens bytes_of
long-bad zero l h = refuted _ (λ e. omega (arith, same_length l _ e))
long-bad (suc zero) l h = refuted _ (λ e. omega (arith, line-width opening_width l (and_left _ _ e)))
long-bad (suc (suc zero)) l h = refuted _ (λ e. omega (arith, same_length l _ e))
long-bad (suc (suc (suc n))) l h = refuted _ (λ e. omega (arith, line-width event_width l e))
