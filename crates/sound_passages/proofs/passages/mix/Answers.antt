-- `mix` meets its contract: a remainder is below its divisor.
use Rattle.sound_passages.specs.Trees.{mix_of}
use mathlib.Core.Path.{refl}
use native.Mathlib.Omega.{arith}
use native.Mathlib.Nat.{mod-lt}
use Rattle.sound_passages.proofs.passages.mix.Goals as goal

pub returns : goal.returns
unfolding mix_of
returns c = (refl, mod-lt _ (omega arith))
