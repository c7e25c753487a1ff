-- A difference of two numbers fits a signed word.
use Prim.Native.Nat.{ℕ, zero, suc, ◌-◌, ◌^◌, ◌<◌}
use native.Mathlib.Omega.{arith}
use mathlib.Core.Bool.{Bool, true, false, cond}
use lib.Dec.{ltb}
use lib.IntN.{pos, negsuc, ◌-ℤ◌}
use mir.Syntax.{w64}
use mir.Val.{SFits}
pub use Rattle.records.proofs.WordLaws.{is_negative, not_negative}

below : (a b : ℕ) (t : Bool) → a < 2 ^ 63 → b < 2 ^ 63 → SFits w64 (cond t (negsuc (b - suc a)) (pos (a - b)))
below a b true p q = record { sfits = omega arith }
below a b false p q = record { sfits = omega arith }

-- a difference of two numbers that a word holds fits a word
pub difference-fits : (a b : ℕ) → a < 2 ^ 63 → b < 2 ^ 63 → SFits w64 (pos a -ℤ pos b)
difference-fits a zero p q = record { sfits = omega arith }
difference-fits a (suc b) p q = below a (suc b) (ltb a (suc b)) p q
