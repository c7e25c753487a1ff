-- The numbers of a line, read byte by byte.
use mathlib.Core.Path.{◌≡◌, refl, sym, ap, ◌∙◌}
use mathlib.Core.Bool.{Bool, true, false, cond, ◌&&◌}
use mathlib.Core.List.{List, [], ◌∷◌}
use Prim.Native.Nat.{ℕ, zero, suc, ◌+◌, ◌-◌, ◌*◌, ◌^◌, ◌≤◌, ◌<◌}
use native.Mathlib.Nat.{pow-suc, pow-le-pow_right}
use native.Mathlib.Omega.{arith}
use native.Mathlib.Numerals.{add-one}
use borrow.Author.Tests.{lt-ltb, le-ltb, le-leb, lt-leb}
use lib.IntN.{ℤ, pos, negsuc}
use lib.ListN.{length, get_or, take, drop}
use lib.Seq.{drop-cons, drop-length}
use Rattle.std.specs.Prelude.{Option, Some, None, is_some, unwrap_or, option_and_then}
use Rattle.std.specs.Prelude.{FitsSigned, ◌+ℤ◌, ◌-ℤ◌}
use Rattle.std.specs.Int.{w64}
use Rattle.std.specs.Option.{SomeIff}
use Rattle.std.specs.Cmp.Lexicographic.{pointwise}
use lib.Dec.{eqb}
use Rattle.std.proofs.lemmas.Bool.{cases_lt}
use Rattle.std.proofs.Common.{inl, inr}
use Rattle.decimal.specs.Decimal.{digit_value, all_digits, value_after, magnitude, held_plain, held_minus, plain, minus, number_of, negated}

-- ---- a digit

pub digit-within : (b : ℕ) → 48 ≤ b → b ≤ 57 → Some (b - 48) ≡ digit_value b
unfolding digit_value
digit-within b h k = rw (le-leb 48 b h, le-leb b 57 k) refl

pub digit-early : (b : ℕ) → b < 48 → None ≡ digit_value b
unfolding digit_value
digit-early b h = rw (lt-leb 48 b h) refl

pub digit-late : (b : ℕ) → 57 < b → None ≡ digit_value b
unfolding digit_value
digit-late b h = rw (le-leb 48 b (omega arith), lt-leb b 57 h) refl

-- a digit's value is below 10
pub digit-small : (b d : ℕ) → Some d ≡ digit_value b → d < 10
digit-small b d e = elim (cases_lt b 48) [
  | inl early ↦ let none = digit-early b early in absurd (cc)
  | inr from ↦ elim (cases_lt 57 b) [
    | inl late ↦ let none = digit-late b late in absurd (cc)
    | inr to ↦ let same : d ≡ b - 48 = cc (digit-within b from to) in omega arith
  ]
]

-- ---- digits

pub magnitude-long : (bs : List ℕ) → 19 < length bs → magnitude bs ≡ None
unfolding magnitude
magnitude-long bs h = rw (le-leb 1 (length bs) (omega arith), lt-leb (length bs) 19 h) refl

pub magnitude-empty : (bs : List ℕ) → length bs ≡ 0 → magnitude bs ≡ None
unfolding magnitude
magnitude-empty bs h = rw h refl

pub magnitude-other : (bs : List ℕ) → 1 ≤ length bs → length bs ≤ 19 → all_digits bs ≡ false → magnitude bs ≡ None
unfolding magnitude
magnitude-other bs h k e = rw (le-leb 1 (length bs) h, le-leb (length bs) 19 k, e) refl

pub magnitude-digits : (bs : List ℕ) → 1 ≤ length bs → length bs ≤ 19 → all_digits bs ≡ true → magnitude bs ≡ Some (value_after 0 bs)
unfolding magnitude
magnitude-digits bs h k e = rw (le-leb 1 (length bs) h, le-leb (length bs) 19 k, e) refl

-- the first i bytes are digits of the value v; those from there on are still to read
pub record Reading (bs : List ℕ) (v i : ℕ) : Type 0 where
  pub below : v < 10 ^ i
  pub digits : all_digits bs ≡ all_digits (drop i bs)
  pub value : value_after 0 bs ≡ value_after v (drop i bs)

-- 19 digits stay below 10 ^ 19, so 64 bits hold them
pub reading-room : (bs : List ℕ) (v i : ℕ) → Reading bs v i → i < length bs → length bs ≤ 19 → v < 10 ^ 18
reading-room bs v i r h k =
    let one : 0 < 10 = omega arith in
    let few : i ≤ 18 = omega arith in
    let q : 10 ^ i ≤ 10 ^ 18 = pow-le-pow_right one few in
    omega (arith, r.below)

module _ (bs : List ℕ) (v i : ℕ) (r : Reading bs v i) (h : i < length bs) where
  here : drop i bs ≡ get_or bs i 0 ∷ drop (suc i) bs
  here = drop-cons bs i 0 h

  pub reading-more : (d : ℕ) → Some d ≡ digit_value (get_or bs i 0) → Reading bs (v * 10 + d) (i + 1)
  unfolding all_digits value_after
  reading-more d e =
      let small = digit-small _ d e in
      rw (add-one i) (record {
        below = rw (pow-suc 10 i) (omega (arith, r.below));
        digits = r.digits ∙ ap all_digits here ∙ ap (λ (o : Option ℕ). is_some o && all_digits (drop (suc i) bs)) (sym e);
        value = r.value ∙ ap (value_after v) here ∙ ap (λ (o : Option ℕ). value_after (v * 10 + unwrap_or o 0) (drop (suc i) bs)) (sym e);
      })

  -- another byte
  pub reading-stop : length bs ≤ 19 → None ≡ digit_value (get_or bs i 0) → None ≡ magnitude bs
  unfolding all_digits
  reading-stop few e =
      sym (magnitude-other bs (omega arith) few (r.digits ∙ ap all_digits here ∙ ap (λ (o : Option ℕ). is_some o && all_digits (drop (suc i) bs)) (sym e)))

-- all is read
pub reading-all : (bs : List ℕ) (v i : ℕ) → Reading bs v i → i ≡ length bs → 0 < length bs → length bs ≤ 19 → Some v ≡ magnitude bs
unfolding all_digits value_after
reading-all bs v i r e some few =
    let rest : drop i bs ≡ [] = rw e (drop-length bs) in
    sym (magnitude-digits bs some few (r.digits ∙ ap all_digits rest) ∙ ap Some (r.value ∙ ap (value_after v) rest))

-- ---- numbers

pub minus-past : (n : ℕ) → 2 ^ 63 < n → held_minus n ≡ None
unfolding held_minus
minus-past n h = rw (lt-leb n (2 ^ 63) h) refl

pub minus-is : (n : ℕ) → n ≤ 2 ^ 63 → held_minus n ≡ Some (negated n)
unfolding held_minus
minus-is n h = rw (le-leb n (2 ^ 63) h) refl

pub plain-past : (n : ℕ) → 2 ^ 63 ≤ n → held_plain n ≡ None
unfolding held_plain
plain-past n h = rw (le-ltb n (2 ^ 63) h) refl

pub plain-is : (n : ℕ) → n < 2 ^ 63 → held_plain n ≡ Some (pos n)
unfolding held_plain
plain-is n h = rw (lt-ltb n (2 ^ 63) h) refl

-- the number of digits that have a value, or that have none
module _ (bs : List ℕ) where
  pub plain-of : (o : Option ℕ) → o ≡ magnitude bs → option_and_then held_plain o ≡ plain bs
  unfolding plain
  plain-of o e = ap (option_and_then held_plain) e

  pub minus-of : (o : Option ℕ) → o ≡ magnitude bs → option_and_then held_minus o ≡ minus bs
  unfolding minus
  minus-of o e = ap (option_and_then held_minus) e

-- 0 less a number is minus it
pub less-negated : (n : ℕ) → pos 0 -ℤ pos n ≡ negated n
unfolding negated
less-negated zero = refl
less-negated (suc n) =
    let one : suc n - 1 ≡ n = omega arith in
    rw (le-leb 1 (suc n) (omega arith)) (ap negsuc one)

negated-fits : (n : ℕ) → n ≤ 2 ^ 63 → FitsSigned w64 (negated n)
unfolding negated
negated-fits zero h = record { sfits = omega arith }
negated-fits (suc n) h = record { sfits = omega arith }

fits-negated : (n : ℕ) → FitsSigned w64 (negated n) → n ≤ 2 ^ 63
unfolding negated
fits-negated zero h = omega arith
fits-negated (suc n) h = omega arith

-- a signed number is held exactly where it fits
pub plain-held : (n : ℕ) (r : Option ℤ) → SomeIff r (FitsSigned w64 (pos 0 +ℤ pos n)) (pos 0 +ℤ pos n) → r ≡ held_plain n
plain-held n None h = elim (cases_lt n (2 ^ 63)) [
  | inl fits ↦ absurd (h (record { sfits = omega arith }))
  | inr past ↦ sym (plain-past n past)
]
plain-held n (Some x) h =
    let same : 0 + n ≡ n = omega arith in
    ap Some (h.1 ∙ ap pos same) ∙ sym (plain-is n (omega (arith, h.0)))

pub minus-held : (n : ℕ) (r : Option ℤ) → SomeIff r (FitsSigned w64 (pos 0 -ℤ pos n)) (pos 0 -ℤ pos n) → r ≡ held_minus n
minus-held n None h = elim (cases_lt (2 ^ 63) n) [
  | inl past ↦ sym (minus-past n past)
  | inr fits ↦ absurd (h (rw (less-negated n) (negated-fits n fits)))
]
minus-held n (Some x) h = ap Some (h.1 ∙ less-negated n) ∙ sym (minus-is n (fits-negated n (rw (less-negated n) at h.0)))

-- ---- a field

-- a minus first
pub number-minus : (f digits : List ℕ) → pointwise eqb (take 1 f) (45 ∷ []) ≡ true → digits ≡ drop 1 f → minus digits ≡ number_of f
unfolding number_of
number-minus [] digits h e = absurd (cc)
number-minus (b ∷ bs) digits h e = go (eqb b 45) h
  where
    go : (t : Bool) → (t && true) ≡ true → minus digits ≡ cond t (minus bs) (plain (b ∷ bs))
    go true q = ap minus e
    go false q = absurd (cc)

-- none first, or no byte
pub number-plain : (f : List ℕ) → pointwise eqb (take 1 f) (45 ∷ []) ≡ false → plain f ≡ number_of f
unfolding number_of plain magnitude
number-plain [] h = refl
number-plain (b ∷ bs) h = go (eqb b 45) h
  where
    go : (t : Bool) → (t && true) ≡ false → option_and_then held_plain (magnitude (b ∷ bs)) ≡ cond t (minus bs) (option_and_then held_plain (magnitude (b ∷ bs)))
    go true q = absurd (cc)
    go false q = refl
