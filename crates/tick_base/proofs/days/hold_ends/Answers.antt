-- `days::hold_ends` meets its contract.
use native.Mathlib.Omega.{arith}
use mathlib.Core.Path.{◌≡◌, sym, ◌∙◌}
use mathlib.Core.Bool.{false}
use Rattle.rules.specs.Rows.{held_toll}
use Rattle.rules.specs.Tick.{hold_ends}
use Rattle.tick_base.proofs.StageLaws.{ends-before, ends_at}
use Rattle.tick_base.proofs.days.hold_ends.Goals as goal

pub returns-then-not-held_toll : goal.returns-then-not-held_toll
unfolding hold_ends
returns-then-not-held_toll c = let h : held_toll c.args.r ≡ false = sym c.held_toll.ensures ∙ c.if-not-held_toll.true in rw h

pub returns-then-today-r : goal.returns-then-today-r
returns-then-today-r c = ends-before _ _ (sym c.held_toll.ensures ∙ c.if-not-held_toll.false) c.if-today-r.true

pub returns : goal.returns
returns c = ends_at _ _ (sym c.held_toll.ensures ∙ c.if-not-held_toll.false) (omega arith)
