-- `settlement::settle_rank` meets its contract: at each turn the walk of WalkLaws.
use Prim.Native.Nat.{min}
use native.Mathlib.Omega.{arith}
use mathlib.Core.Path.{◌≡◌, refl, sym}
use mathlib.Core.List.{List}
use lib.IntN.{ℤ}
use Rattle.records.specs.Encoding.{row_at, rows_of}
use Rattle.lists.specs.Lists.{only}
use Rattle.rules.specs.Rows.{remaining}
use Rattle.settlement.specs.Settling.{of_rank}
use Rattle.settlement.proofs.WalkLaws.{Walking, walking_start, walking-debit, walking-source, walking-pay, source-left, no-source-left, no-debit-left, Turn, source_fits, debit-fits}
use Rattle.settlement.proofs.settle_rank.Goals as goal
use Rattle.settlement.proofs.settle_rank.Goals.{After-min-m}

turn-from : (c : After-min-m) → c.min-m.result ≡ min c.loop-x.x c.wanted.result → (old : List ℤ)
    → Walking c.args.rank c.args.account c.args.used old c.sources.journal c.sources.i c.sources.j
    → Turn c.args.rank c.args.account c.args.used old c.loop-x.journal c.sources.i c.in-Some.next c.min-m.result
turn-from c m old start =
    let l = c.loop-x in
    let n = c.in-Some in
    let y : c.wanted.result ≡ only (of_rank c.args.rank (rows_of l.journal c.args.used) c.args.account) remaining (row_at l.journal n.next) = c.wanted.ensures in
    let x = l.invariant.1 in
    let p = n.ensures.wants in
    let q = c.loop-x-test.true in
    record {
      walk = walking-debit _ _ _ _ _ _ _ _ (l.invariant.0 old start) n.ensures.after (omega (arith, n.ensures.within)) n.ensures.passed;
      in-i = omega arith;
      in-j = n.ensures.within;
      has = omega arith;
      wants = omega arith;
      some = omega arith;
    }

turn : (c : After-min-m) → c.min-m.result ≡ min c.loop-x.x c.wanted.result
    → Turn c.args.rank c.args.account c.args.used c.args.journal.now c.loop-x.journal c.sources.i c.in-Some.next c.min-m.result
turn c m = turn-from c m c.args.journal.now c.sources.invariant.0

pub sources-init : goal.sources-init
sources-init c = (walking_start _ _ _ _ _ _ c.requires.0 c.requires.1, refl)

pub unused-x-requires : goal.unused-x-requires
unused-x-requires c =
    let w = c.sources.invariant.0.journal.room in
    omega arith

pub loop-x-init : goal.loop-x-init
loop-x-init c = (λ old w. w, c.unused-x.ensures, c.sources.invariant.1)

pub next_debit-requires : goal.next_debit-requires
next_debit-requires c = (c.loop-x.invariant.0 c.args.journal.now c.sources.invariant.0).j-in

pub wanted-requires : goal.wanted-requires
wanted-requires c = c.in-Some.ensures.within

pub add_settled-requires : goal.add_settled-requires
add_settled-requires c =
    let w = turn (goal.at.add_settled-requires c).After-min-m c.min-m.ensures in
    let r = w.walk.journal.room in
    (omega (arith, w.in-i), source_fits _ _ _ _ _ _ _ _ w)

pub add_settled-requires-in-loop-x : goal.add_settled-requires-in-loop-x
add_settled-requires-in-loop-x c =
    let w = turn (goal.at.add_settled-requires-in-loop-x c).After-min-m c.min-m.ensures in
    let r = w.walk.journal.room in
    let s = c.add_settled.ensures in
    let z = s.size in
    (omega (arith, w.in-j), debit-fits _ _ _ _ _ _ _ _ w _ s)

pub overflow_sub-x : goal.overflow_sub-x
overflow_sub-x c = let w = turn (goal.at.overflow_sub-x c).After-min-m c.min-m.ensures in omega (arith, w.has, c.loop-x.invariant.1)

pub loop-x-smaller : goal.loop-x-smaller
loop-x-smaller c = let w = turn (goal.at.loop-x-smaller c).After-min-m c.min-m.ensures in omega (arith, w.some, w.has, c.loop-x.invariant.1)

pub loop-x-preserved : goal.loop-x-preserved
loop-x-preserved c =
    let s = c.add_settled.ensures in
    let d = c.add_settled-in-loop-x.ensures in
    let w = turn (goal.at.loop-x-preserved c).After-min-m c.min-m.ensures in (
      λ old start. let v = turn-from (goal.at.loop-x-preserved c).After-min-m c.min-m.ensures old start in walking-pay _ _ _ _ _ _ _ _ _ _ v s d,
      rw c.loop-x.invariant.1 (sym (source-left _ _ _ _ _ _ _ _ _ _ w s d)),
      c.loop-x.invariant.2,
    )

pub sources-preserved : goal.sources-preserved
sources-preserved c =
    let l = c.loop-x in (
      walking-source _ _ _ _ _ _ _ (l.invariant.0 c.args.journal.now c.sources.invariant.0) (omega arith) (omega (arith, c.loop-x-test.false, l.invariant.1)),
      l.invariant.2,
    )

pub returns-after-sources : goal.returns-after-sources
returns-after-sources c =
    let w = c.sources.invariant.0 in
    let e : c.sources.i ≡ c.sources.left = omega (arith, w.i-in, c.sources.invariant.1) in
    rw e at (no-source-left _ _ _ _ _ _ _ _ _ c.requires.1 w (omega arith))

pub returns-in_default : goal.returns-in_default
returns-in_default c =
    let w = c.loop-x.invariant.0 c.args.journal.now c.sources.invariant.0 in
    no-debit-left _ _ _ _ _ _ _ _ c.args.used c.requires.1 (walking-debit _ _ _ _ _ _ _ _ w w.j-in (omega arith) c.in_default.ensures) (omega arith)
