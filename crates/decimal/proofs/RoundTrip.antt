-- Printing a number is undone by reading it: the number that the text of z states is z, for every signed 64-bit z.
use mathlib.Core.Path.{◌≡◌, refl, sym, ap, subst, ◌∙◌}
use mathlib.Core.Bool.{Bool, true, false, cond, ◌&&◌, true≢false}
use mathlib.Core.List.{List, [], ◌∷◌, ◌++◌}
use Prim.Native.Nat.{ℕ, zero, suc, ◌+◌, ◌-◌, ◌*◌, ◌/◌, ◌%◌, ◌^◌, ◌≤◌, ◌<◌}
use native.Mathlib.Nat.{pow-suc}
use native.Mathlib.Omega.{arith}
use native.Mathlib.Numerals.{add-one}
use lib.Dec.{eqb, ltb}
use Rattle.std.specs.Prelude.{Some, is_some, unwrap_or, option_and_then}
use borrow.Author.Tests.{lt-ltb, ltb-true, eqb-true}
use lib.IntN.{ℤ, pos, negsuc}
use lib.ListN.{length, length-append}
use mir.Syntax.{w64}
use mir.Val.{SFits}
use Rattle.decimal.specs.Decimal.{digits_within, digits_of, text_of, digit_value, all_digits, value_after, magnitude, held_plain, held_minus, plain, minus, number_of, negated}
use Rattle.decimal.proofs.ReadingLaws.{digit-within, magnitude-digits, plain-is, minus-is}

-- ---- one digit more at the end

all_digits-snoc : (bs : List ℕ) (b d : ℕ) → all_digits bs ≡ true → digit_value b ≡ Some d → all_digits (bs ++ (b ∷ [])) ≡ true
unfolding all_digits
all_digits-snoc [] b d e h = rw h refl
all_digits-snoc (x ∷ xs) b d e h = go (is_some (digit_value x)) e (λ q. all_digits-snoc xs b d q h)
  where
    go : (t : Bool) → (t && all_digits xs) ≡ true → (all_digits xs ≡ true → all_digits (xs ++ (b ∷ [])) ≡ true) → (t && all_digits (xs ++ (b ∷ []))) ≡ true
    go true q f = f q
    go false q f = q

value_after-snoc : (v : ℕ) (bs : List ℕ) (b d : ℕ) → digit_value b ≡ Some d → value_after v (bs ++ (b ∷ [])) ≡ value_after v bs * 10 + d
unfolding value_after
value_after-snoc v [] b d h = rw h refl
value_after-snoc v (x ∷ xs) b d h = value_after-snoc (v * 10 + unwrap_or (digit_value x) 0) xs b d h

-- the byte of a digit
last-digit : (n : ℕ) → digit_value (48 + n % 10) ≡ Some (n % 10)
last-digit n =
    let same : 48 + n % 10 - 48 ≡ n % 10 = omega arith in
    sym (digit-within (48 + n % 10) (omega arith) (omega arith)) ∙ ap Some same

-- ---- the digits of a number

digits-all : (k n : ℕ) → all_digits (digits_within k n) ≡ true
unfolding digits_within all_digits
digits-all zero n = refl
digits-all (suc k) n =
    all_digits-snoc (cond (ltb n 10) [] (digits_within k (n / 10))) (48 + n % 10) (n % 10) (go (ltb n 10) (digits-all k (n / 10))) (last-digit n)
  where
    go : (t : Bool) → all_digits (digits_within k (n / 10)) ≡ true → all_digits (cond t [] (digits_within k (n / 10))) ≡ true
    go true e = refl
    go false e = e

-- ten times as many, with one digit more
tenth : (k n : ℕ) → n < 10 ^ suc k → n / 10 < 10 ^ k
tenth k n h =
    let p : n < 10 ^ k * 10 = rw (← pow-suc 10 k) h in
    omega arith

digits_value : (k n : ℕ) → n < 10 ^ suc k → value_after 0 (digits_within (suc k) n) ≡ n
unfolding digits_within value_after
digits_value zero n h =
    value_after-snoc 0 (cond (ltb n 10) [] []) (48 + n % 10) (n % 10) (last-digit n) ∙ rw (lt-ltb n 10 h) (omega arith)
digits_value (suc k) n h =
    value_after-snoc 0 (cond (ltb n 10) [] (digits_within (suc k) (n / 10))) (48 + n % 10) (n % 10) (last-digit n) ∙ go (ltb n 10) refl (digits_value k (n / 10) (tenth (suc k) n h))
  where
    go : (t : Bool) → ltb n 10 ≡ t → value_after 0 (digits_within (suc k) (n / 10)) ≡ n / 10
        → value_after 0 (cond t [] (digits_within (suc k) (n / 10))) * 10 + n % 10 ≡ n
    go true e v = omega (arith, ltb-true n 10 e)
    go false e v = rw v (omega arith)

digits-few : (m k n : ℕ) → n < 10 ^ suc m → length (digits_within k n) ≤ suc m
unfolding digits_within
digits-few m zero n h = omega arith
digits-few zero (suc k) n h =
    rw (length-append (cond (ltb n 10) [] (digits_within k (n / 10))) ((48 + n % 10) ∷ []), lt-ltb n 10 h) (omega arith)
digits-few (suc m) (suc k) n h =
    rw (length-append (cond (ltb n 10) [] (digits_within k (n / 10))) ((48 + n % 10) ∷ [])) (go (ltb n 10) (digits-few m k (n / 10) (tenth (suc m) n h)))
  where
    go : (t : Bool) → length (digits_within k (n / 10)) ≤ suc m → length (cond t [] (digits_within k (n / 10))) + length ((48 + n % 10) ∷ []) ≤ suc (suc m)
    go true e = omega arith
    go false e = omega arith

digits-some : (n : ℕ) → 1 ≤ length (digits_of n)
unfolding digits_of digits_within
digits-some n = rw (length-append (cond (ltb n 10) [] (digits_within 19 (n / 10))) ((48 + n % 10) ∷ [])) (omega arith)

-- a number below 10 ^ m has at most m digits
pub digits-short : (m n : ℕ) → n < 10 ^ suc m → length (digits_of n) ≤ suc m
unfolding digits_of
digits-short m n h = digits-few m 20 n h

-- a text has at most 20 bytes
pub text-short : (z : ℤ) → SFits w64 z → length (text_of z) ≤ 20
unfolding text_of digits_of
text-short (pos n) f = omega (arith, digits-few 18 20 n (omega arith))
text-short (negsuc n) f = omega (arith, digits-few 18 20 (n + 1) (omega arith))

pub magnitude-of-digits : (n : ℕ) → n ≤ 2 ^ 63 → magnitude (digits_of n) ≡ Some n
unfolding digits_of
magnitude-of-digits n h =
    magnitude-digits (digits_of n) (digits-some n) (digits-few 18 20 n (omega arith)) (digits-all 20 n)
    ∙ ap Some (digits_value 19 n (omega arith))

-- ---- the number of a text

-- digits alone begin with no minus
number_digits : (bs : List ℕ) → all_digits bs ≡ true → 1 ≤ length bs → number_of bs ≡ plain bs
unfolding number_of all_digits digit_value
number_digits [] e h = absurd (omega arith)
number_digits (b ∷ bs) e h = go (eqb b 45) refl
  where
    go : (t : Bool) → eqb b 45 ≡ t → cond t (minus bs) (plain (b ∷ bs)) ≡ plain (b ∷ bs)
    go true q = absurd (true≢false (sym (subst (λ (x : ℕ). all_digits (x ∷ bs) ≡ true) (eqb-true b 45 q) e)))
    go false q = refl

pub number-of-text : (z : ℤ) → SFits w64 z → number_of (text_of z) ≡ Some z
unfolding text_of digits_of number_of plain minus negated
number-of-text (pos n) f =
    number_digits (digits_of n) (digits-all 20 n) (digits-some n)
    ∙ ap (option_and_then held_plain) (magnitude-of-digits n (omega arith))
    ∙ plain-is n (omega arith)
number-of-text (negsuc n) f =
    ap (option_and_then held_minus) (magnitude-of-digits (n + 1) (omega arith))
    ∙ minus-is (n + 1) (omega arith)
    ∙ ap (λ (k : ℕ). Some (negated k)) (add-one n)
