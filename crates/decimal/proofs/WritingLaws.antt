-- Laws of the digits of a number, and of its text.
use mathlib.Core.Path.{◌≡◌, sym, ap, ◌∙◌}
use mathlib.Core.List.{List, [], ◌∷◌, ◌++◌, append_assoc}
use Prim.Native.Nat.{ℕ, zero, suc, ◌+◌, ◌*◌, ◌/◌, ◌%◌, ◌^◌, ◌≤◌, ◌<◌}
use native.Mathlib.Nat.{pow-suc}
use native.Mathlib.Omega.{arith}
use native.Mathlib.Numerals.{add-one}
use borrow.Author.Tests.{lt-ltb, le-ltb}
use lib.IntN.{ℤ, pos, negsuc}
use mir.Syntax.{w64}
use mir.Val.{SFits}
use Rattle.std.specs.Fmt.{decimal, signed_decimal}
use Rattle.std.proofs.lemmas.Fmt.{decimal_by_steps}
use Rattle.decimal.specs.Decimal.{digits_within, digits_of, text_of}

-- ---- texts one after the other

pub appended : (a b c s t : List ℕ) → b ≡ a ++ s → c ≡ b ++ t → c ≡ a ++ (s ++ t)
appended a b c s t p q = q ∙ ap (λ (x : List ℕ). x ++ t) p ∙ append_assoc a s t

-- ---- digits

-- the kit's digits of a number are those of the definition, at most k + 1 where so many are enough
abbrev Spelled : ℕ → List ℕ → Type 0
Spelled n ds = (k : ℕ) → n < 10 ^ suc k → ds ≡ digits_within (suc k) n

one-digit : (n : ℕ) → n < 10 → Spelled n ((48 + n) ∷ [])
unfolding digits_within
one-digit n h k b =
    let same : n % 10 ≡ n = omega arith in
    rw (lt-ltb n 10 h, same)

more-digits : (n : ℕ) (ds : List ℕ) → 10 ≤ n → Spelled (n / 10) ds → Spelled n (ds ++ ((48 + n % 10) ∷ []))
unfolding digits_within
more-digits n ds some e zero b = absurd (omega arith)
more-digits n ds some e (suc k) b =
    let p : n < 10 ^ suc k * 10 = rw (← pow-suc 10 (suc k)) b in
    let few : n / 10 < 10 ^ suc k = omega arith in
    rw (le-ltb n 10 some, e k few)

pub decimal-digits : (n : ℕ) → n < 2 ^ 64 → decimal n ≡ digits_of n
unfolding digits_of
decimal-digits n h = decimal_by_steps Spelled one-digit more-digits n h 19 (omega arith)

-- ---- numbers

-- with a minus before them where it is below 0
pub signed-text : (v : ℤ) → SFits w64 v → signed_decimal v ≡ text_of v
unfolding text_of
signed-text (pos n) h = decimal-digits n (omega arith)
signed-text (negsuc n) h = ap (λ (ds : List ℕ). 45 ∷ ds) (decimal-digits (suc n) (omega arith) ∙ ap digits_of (sym (add-one n)))
