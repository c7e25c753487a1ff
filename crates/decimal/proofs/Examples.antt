-- The definitions at work: the lowest number, leap day, and lines that are numbers or not.
use mathlib.Core.Path.{◌≡◌, refl}
use mathlib.Core.Bool.{true, false}
use mathlib.Core.List.{[], ◌∷◌}
use lib.IntN.{pos, negsuc}
use Rattle.std.specs.Prelude.{Some, None}
use Rattle.dates.specs.Gregorian.{leap, month_days, days_of_month, date_in, date_from, date_of}
use Rattle.decimal.specs.Decimal.{digits_within, digits_of, text_of, two_digits, text_of_date, date_text, digit_value, all_digits, value_after, magnitude, held_plain, held_minus, plain, minus, negated, number_of, in_first, fields_of, all_numbers, is_numbers, numbers_in, numbers_of}

-- -120
minus-120 : text_of (negsuc 119) ≡ 45 ∷ 49 ∷ 50 ∷ 48 ∷ []
unfolding text_of digits_of digits_within
minus-120 = refl

-- day 60 is 2000-02-29
leap-day : date_text 60 ≡ 50 ∷ 48 ∷ 48 ∷ 48 ∷ 45 ∷ 48 ∷ 50 ∷ 45 ∷ 50 ∷ 57 ∷ []
unfolding date_text text_of_date two_digits date_of date_from date_in days_of_month month_days leap
leap-day = refl

-- -0 is 0, a minus alone is no number, and neither is -9223372036854775809
minus-zero : number_of (45 ∷ 48 ∷ []) ≡ Some (pos 0)
unfolding number_of minus held_minus magnitude all_digits value_after digit_value negated
minus-zero = refl

minus-alone : number_of (45 ∷ []) ≡ None
unfolding number_of minus held_minus magnitude all_digits value_after digit_value negated
minus-alone = refl

past-lowest : number_of (45 ∷ 57 ∷ 50 ∷ 50 ∷ 51 ∷ 51 ∷ 55 ∷ 50 ∷ 48 ∷ 51 ∷ 54 ∷ 56 ∷ 53 ∷ 52 ∷ 55 ∷ 55 ∷ 53 ∷ 56 ∷ 48 ∷ 57 ∷ []) ≡ None
unfolding number_of minus held_minus magnitude all_digits value_after digit_value negated
past-lowest = refl

-- "07,-1" is two numbers, "7," is not
two-numbers : is_numbers 2 (48 ∷ 55 ∷ 44 ∷ 45 ∷ 49 ∷ []) ≡ true
unfolding is_numbers fields_of in_first all_numbers number_of minus plain held_minus held_plain magnitude all_digits value_after digit_value negated
two-numbers = refl

their-values : numbers_of (48 ∷ 55 ∷ 44 ∷ 45 ∷ 49 ∷ []) ≡ pos 7 ∷ negsuc 0 ∷ []
unfolding numbers_of numbers_in fields_of in_first number_of minus plain held_minus held_plain magnitude all_digits value_after digit_value negated
their-values = refl

comma-last : is_numbers 2 (55 ∷ 44 ∷ []) ≡ false
unfolding is_numbers fields_of in_first all_numbers number_of minus plain held_minus held_plain magnitude all_digits value_after digit_value negated
comma-last = refl
