-- A signed word read as a number: below 0 it is past every limit, else its size.
use Prim.Native.Nat.{◌^◌}
use native.Mathlib.Omega.{arith}
use mathlib.Core.Path.{◌≡◌, refl}
use mathlib.Core.Bool.{true, false, true≢false}
use lib.IntN.{ℤ, pos, negsuc, nat_abs}
use lib.Signed.{lt_z}
use borrow.Author.Tests.{ltb-true}
use Rattle.records.specs.Encoding.{nat_of}

pub is_negative : (z : ℤ) → lt_z z (pos 0) ≡ true → 2 ^ 63 ≡ nat_of z
unfolding nat_of
is_negative (pos n) h = omega (arith, ltb-true n 0 h)
is_negative (negsuc n) h = refl

pub not_negative : (z : ℤ) → lt_z z (pos 0) ≡ false → nat_abs z ≡ nat_of z
unfolding nat_of
not_negative (pos n) h = refl
not_negative (negsuc n) h = absurd (true≢false h)
