-- The texts of numbers and dates as bytes, and the numbers that a line states. The sentences quoted are of document 01, "Questions, dates,
-- listing".
use Rattle.std.specs.Prelude.{ℕ, zero, suc, ◌+◌, ◌-◌, ◌*◌, ◌/◌, ◌%◌, ◌^◌, Bool, true, cond, ◌&&◌, List, [], ◌∷◌, ◌++◌}
use Rattle.std.specs.Prelude.{ℤ, pos, negsuc, eqb, leb, ltb, length, Option, Some, None, is_some, unwrap_or, option_and_then}
use Rattle.lists.specs.Tests.{◌from◌to◌}
use Rattle.dates.specs.declared.Date.{Date}
use Rattle.dates.specs.Gregorian.{date_of}

-- ---- signed numbers as natural ones

-- the size of a number, without its sign
unfoldable pub size_of : ℤ → ℕ
size_of (pos n) = n
size_of (negsuc n) = n + 1

-- minus a number
unfoldable pub negated : ℕ → ℤ
negated zero = pos 0
negated (suc n) = negsuc n

-- ---- writing: what "prints event answers, rows, used accounts" shows of numbers and dates, `7,1,700` and `2000-01-01`

-- the digits of a number, with no 0 before them and one digit for 0; at most k of them, the last ones. The byte of the digit 0 is 48
unfoldable pub digits_within : ℕ → ℕ → List ℕ
digits_within zero n = []
digits_within (suc k) n = cond (ltb n 10) [] (digits_within k (n / 10)) ++ ((48 + n % 10) ∷ [])

-- the digits of a number; 20 are enough for 64 bits
unfoldable pub digits_of : ℕ → List ℕ
digits_of n = digits_within 20 n

-- the text of a number: 45 is the minus
unfoldable pub text_of : ℤ → List ℕ
text_of (pos n) = digits_of n
text_of (negsuc n) = 45 ∷ digits_of (n + 1)

-- the last two digits of a number
unfoldable pub two_digits : ℕ → List ℕ
two_digits n = (48 + n / 10 % 10) ∷ (48 + n % 10) ∷ []

-- a date as yyyy-mm-dd: "2000-01-01"
unfoldable pub text_of_date : Date → List ℕ
text_of_date d =
    two_digits (d.year / 100) ++ two_digits (d.year % 100) ++ (45 ∷ []) ++ two_digits d.month ++ (45 ∷ []) ++ two_digits d.day

-- the date of a day number: "Day 1 is 2000-01-01, day 36,525 is 2099-12-31"
unfoldable pub date_text : ℕ → List ℕ
date_text day = text_of_date (date_of day)

-- ---- reading: "signed 64-bit numbers (perhaps a minus, 1 to 19 digits)". So 007 is 7 and -0 is 0; a plus, a blank or a 20th digit is no
-- number

-- the value of a digit's byte
unfoldable pub digit_value : ℕ → Option ℕ
digit_value b = cond (b from 48 to 57) (Some (b - 48)) None

-- every byte is a digit
unfoldable pub all_digits : List ℕ → Bool
all_digits [] = true
all_digits (b ∷ bs) = is_some (digit_value b) && all_digits bs

-- the value of digits that come after others of value v
unfoldable pub value_after : ℕ → List ℕ → ℕ
value_after v [] = v
value_after v (b ∷ bs) = value_after (v * 10 + unwrap_or (digit_value b) 0) bs

-- the value of 1 to 19 digits
unfoldable pub magnitude : List ℕ → Option ℕ
magnitude bs = cond ((length bs from 1 to 19) && all_digits bs) (Some (value_after 0 bs)) None

-- a number, and minus it, where signed 64 bits hold them
unfoldable pub held_plain : ℕ → Option ℤ
held_plain n = cond (ltb n (2 ^ 63)) (Some (pos n)) None

unfoldable pub held_minus : ℕ → Option ℤ
held_minus n = cond (leb n (2 ^ 63)) (Some (negated n)) None

-- the number that digits state, without and with a minus before them, where signed 64 bits hold it
unfoldable pub plain : List ℕ → Option ℤ
plain bs = option_and_then held_plain (magnitude bs)

unfoldable pub minus : List ℕ → Option ℤ
minus bs = option_and_then held_minus (magnitude bs)

-- the number that a field states
unfoldable pub number_of : List ℕ → Option ℤ
number_of [] = None
number_of (b ∷ bs) = cond (eqb b 45) (minus bs) (plain (b ∷ bs))

-- ---- a line: "its exact count of signed 64-bit numbers", with commas between them as in the example

-- a byte before the first of the fields
unfoldable pub in_first : ℕ → List (List ℕ) → List (List ℕ)
in_first b [] = (b ∷ []) ∷ []
in_first b (f ∷ fs) = (b ∷ f) ∷ fs

-- the fields of a line: a comma, 44, ends one and begins the next
unfoldable pub fields_of : List ℕ → List (List ℕ)
fields_of [] = [] ∷ []
fields_of (b ∷ bs) = cond (eqb b 44) ([] ∷ fields_of bs) (in_first b (fields_of bs))

-- each field states a number
unfoldable pub all_numbers : List (List ℕ) → Bool
all_numbers [] = true
all_numbers (f ∷ fs) = is_some (number_of f) && all_numbers fs

-- the line is exactly so many numbers
unfoldable pub is_numbers : ℕ → List ℕ → Bool
is_numbers n bs = eqb (length (fields_of bs)) n && all_numbers (fields_of bs)

-- the number that each field states
unfoldable pub numbers_in : List (List ℕ) → List ℤ
numbers_in [] = []
numbers_in (f ∷ fs) = unwrap_or (number_of f) (pos 0) ∷ numbers_in fs

-- the numbers of a line
unfoldable pub numbers_of : List ℕ → List ℤ
numbers_of bs = numbers_in (fields_of bs)
