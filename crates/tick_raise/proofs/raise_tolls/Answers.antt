-- `raise_tolls` meets its contract: turn after turn, the rows passed are raised and their fees added.
use native.Mathlib.Omega.{arith}
use mathlib.Core.Path.{refl}
use Rattle.tick_base.proofs.MidwayLaws.{midway-header, midway-few}
use Rattle.tick_raise.proofs.RaisingLaws.{turns-none, turn-raisable, turn-marked, turns_more, turns-few, turns-counted, turns-written}
use Rattle.tick_raise.proofs.raise_tolls.Goals as goal

pub day-today-requires : goal.day-today-requires
day-today-requires c = omega (arith, midway-header _ _ c.requires.0)

pub used-used-requires : goal.used-used-requires
used-used-requires c = omega (arith, midway-header _ _ c.requires.0)

pub loop-i-init : goal.loop-i-init
loop-i-init c =
    let p = c.requires in
    turns-none _ _ p.0 p.1 _ c.day-today.ensures

pub bounds-marks-i : goal.bounds-marks-i
bounds-marks-i c =
    let p = c.requires in
    omega (arith, midway-few _ _ p.0, c.loop-i-test.true, c.used-used.ensures, p.2.sized)

pub raise_marked-requires : goal.raise_marked-requires
raise_marked-requires c =
    let p = c.requires in
    let v = c.loop-i.invariant in
    let d = c.day-today.ensures in
    let l = rw c.used-used.ensures at c.loop-i-test.true in
    (turn-raisable _ _ p.0 p.1 _ d _ _ _ _ v l, turn-marked _ _ p.0 p.1 _ d _ _ _ _ v l c.args.marks.now p.2 _ refl)

pub loop-i-preserved : goal.loop-i-preserved
loop-i-preserved c =
    let p = c.requires in
    rw c.from-n.ensures (turns_more _ _ p.0 p.1 _ c.day-today.ensures _ _ _ _ c.loop-i.invariant (rw c.used-used.ensures at c.loop-i-test.true) _ _ _ c.raise_marked.ensures)

pub overflow_add-n : goal.overflow_add-n
overflow_add-n c =
    let p = c.requires in
    omega (arith, turns-few _ _ p.0 p.1 _ c.day-today.ensures _ _ _ _ (loop-i-preserved c))

pub returns-clause-raised : goal.returns-clause-raised
returns-clause-raised c =
    let p = c.requires in
    let l = c.loop-i in
    turns-counted _ _ p.0 p.1 _ c.day-today.ensures _ _ _ _ l.invariant (omega (arith, l.invariant.within, c.used-used.ensures))

pub returns-clause-written : goal.returns-clause-written
returns-clause-written c =
    let p = c.requires in
    let l = c.loop-i in
    turns-written _ _ p.0 p.1 _ c.day-today.ensures _ _ _ _ l.invariant (omega (arith, l.invariant.within, c.used-used.ensures))
