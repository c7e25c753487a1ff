-- `due_fits` meets its contract: each way through the tests decides the clause.
use Prim.Native.Nat.{◌+◌}
use Rattle.rules.specs.Soundness.{due_within}
use borrow.Author.Tests.{eq-eqb, le-leb, lt-leb, le-ltb, lt-ltb}
use mathlib.Core.Bool.{Bool, true, false, cond}
use mathlib.Core.Path.{◌≡◌, refl, sym, ◌∙◌}
use native.Mathlib.Omega.{arith}
use Rattle.sound_tolls.proofs.Term.due_fits.Goals as goal

-- due after today, a toll stands whether it runs or not
either-way : (runs : Bool) → true ≡ cond runs true true
either-way true = refl
either-way false = refl

pub returns-then-r-self : goal.returns-then-r-self
unfolding due_within
returns-then-r-self c =
    let s = c in
    let r = s.args.r in
    simp (eq-eqb r.kind 1 (omega arith), lt-leb r.due (s.args.self.today + s.args.self.stage) (omega arith))

pub returns-then-self-r : goal.returns-then-self-r
unfolding due_within
returns-then-self-r c =
    let s = c in
    let r = s.args.r in
    rw (
      eq-eqb r.kind 1 (omega arith),
      le-leb r.due (s.args.self.today + s.args.self.stage) (omega arith),
      lt-ltb s.args.self.today r.due (omega arith),
      le-leb 1 r.due (omega arith),
    ) (either-way _)

pub returns-then-running : goal.returns-then-running
unfolding due_within
returns-then-running c =
    let s = c in
    let r = s.args.r in
    let e = sym c.running.ensures ∙ c.if-running.true in
    rw (e, eq-eqb r.kind 1 (omega arith), le-leb r.due (s.args.self.today + s.args.self.stage) (omega arith), le-ltb s.args.self.today r.due (omega arith))

pub returns : goal.returns
unfolding due_within
returns c =
    let s = c in
    let r = s.args.r in
    let e = sym c.running.ensures ∙ c.if-running.false in
    rw (e, eq-eqb r.kind 1 (omega arith), le-leb r.due (s.args.self.today + s.args.self.stage) (omega arith))
