-- A signed word that is not below 0, as a number without sign.
use mathlib.Core.Path.{◌≡◌}
use mathlib.Core.Bool.{false, true≢false}
use native.Mathlib.Omega.{arith}
use lib.Dec.{T}
use lib.IntN.{ℤ, pos, negsuc, nat_abs}
use lib.Signed.{lt_z, non_neg}
use mir.Syntax.{w64}
use mir.Val.{Fits, SFits}

pub cast_fits : (z : ℤ) → SFits w64 z → lt_z z (pos 0) ≡ false → T (non_neg z) × Fits w64 (nat_abs z)
cast_fits (pos n) f h = (tt, omega arith)
cast_fits (negsuc n) f h = absurd (true≢false h)
