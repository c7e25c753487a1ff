-- `seek` meets its contract: the invariant is the way down; the cells on it only grow, so the measure is the cells above.
use Rattle.sound_passages.specs.Trees.{IsToll}
use Rattle.sound_passages.proofs.TreeLaws.{root-fits, root-low, way-start, way-row, way_next, way-taken, way-free}
use mathlib.Core.Path.{◌≡◌, sym, ◌∙◌}
use native.Mathlib.Omega.{arith}
use Prim.Native.Nat.{◌+◌, ◌*◌, ◌-◌, ◌<◌}
use Rattle.sound_passages.proofs.passages.seek.Goals as goal
use Rattle.sound_passages.proofs.passages.seek.Goals.{In-loop-s}

-- the row of the cell
row_low : (a : In-loop-s) → (a.loop-s.s ≡ 0 → ⊥)
    → ((a.loop-s.s - 1 < a.args.passed.now.used) × IsToll a.args.passed.now.journal.now (a.loop-s.s - 1) × (a.loop-s.c < 2 * a.args.space + 2 * (a.loop-s.s - 1)))
row_low a q =
    way-row a.args.space a.args.passed.now.journal.now a.args.cells.now a.args.passed.now.used a.args.x a.loop-s.y a.loop-s.c a.loop-s.s (a.loop-s.s - 1) a.requires.1 a.loop-s.invariant (omega arith)

pub overflow_mul-c : goal.overflow_mul-c
overflow_mul-c c = omega (arith, root-fits c.args.space c.mix-y.result c.mix-y.ensures.1 c.requires.1.few)

pub offset_bounds-cells-c : goal.offset_bounds-cells-c
offset_bounds-cells-c c = let g = c.requires.1 in omega (arith, g.few, root-low c.args.space c.mix-y.result c.mix-y.ensures.1 g.some)

pub bounds-cells-c : goal.bounds-cells-c
bounds-cells-c c = let g = c.requires.1 in omega (arith, g.size, root-low c.args.space c.mix-y.result c.mix-y.ensures.1 g.some)

pub loop-s-init : goal.loop-s-init
loop-s-init c =
    rw (c.from-s.ensures, c.mix-y.ensures.0) (way-start _ _ c.args.cells.now _ _ c.requires.1 (rw c.mix-y.ensures.0 at c.mix-y.ensures.1))

pub reference_at-requires : goal.reference_at-requires
reference_at-requires c = omega (arith, c.args.passed.now.within, (row_low (goal.at.reference_at-requires c).In-loop-s c.loop-s-test.true).0)

pub returns-then-reference_at-x : goal.returns-then-reference_at-x
returns-then-reference_at-x c =
    way-taken _ _ c.args.cells.now _ _ _ c.loop-s.c _ (c.loop-s.s - 1) c.requires.1 c.loop-s.invariant (omega arith) (sym c.reference_at.ensures ∙ c.if-reference_at-x.true)

pub overflow_mul-c-in-loop-s : goal.overflow_mul-c-in-loop-s
overflow_mul-c-in-loop-s c = omega (arith, c.requires.1.few)

pub overflow_mul-c-in-loop-s-2 : goal.overflow_mul-c-in-loop-s-2
overflow_mul-c-in-loop-s-2 c = omega (arith, (row_low (goal.at.overflow_mul-c-in-loop-s-2 c).In-loop-s c.loop-s-test.true).0)

pub overflow_add-c : goal.overflow_add-c
overflow_add-c c = omega (arith, c.requires.1.few, (row_low (goal.at.overflow_add-c c).In-loop-s c.loop-s-test.true).0)

pub overflow_add-c-in-loop-s : goal.overflow_add-c-in-loop-s
overflow_add-c-in-loop-s c = omega (arith, c.requires.1.few, (row_low (goal.at.overflow_add-c-in-loop-s c).In-loop-s c.loop-s-test.true).0)

pub offset_bounds-cells-c-in-loop-s : goal.offset_bounds-cells-c-in-loop-s
offset_bounds-cells-c-in-loop-s c = omega (arith, c.requires.1.few, (row_low (goal.at.offset_bounds-cells-c-in-loop-s c).In-loop-s c.loop-s-test.true).0)

pub bounds-cells-c-in-loop-s : goal.bounds-cells-c-in-loop-s
bounds-cells-c-in-loop-s c =
    let a = (goal.at.bounds-cells-c-in-loop-s c).In-loop-s in
    omega (arith, a.requires.1.size, (row_low a c.loop-s-test.true).0)

pub loop-s-smaller : goal.loop-s-smaller
loop-s-smaller c =
    let a = (goal.at.loop-s-smaller c).In-loop-s in
    let r = row_low a c.loop-s-test.true in
    omega (arith, r.0, r.2)

pub loop-s-preserved : goal.loop-s-preserved
loop-s-preserved c =
    rw c.from-s-in-loop-s.ensures
    (way_next _ _ c.args.cells.now _ _ _ c.loop-s.c _ (c.loop-s.s - 1) c.requires.1 c.loop-s.invariant (omega arith) (rw c.reference_at.ensures at c.if-reference_at-x.false))

pub returns : goal.returns
returns c = way-free _ _ c.args.cells.now _ _ _ _ _ c.loop-s.invariant (omega arith)
