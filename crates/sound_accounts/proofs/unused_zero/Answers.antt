-- `unused_zero` meets its contract: only an unused account is asked to be the default one.
use mathlib.Core.Bool.{true, and-true}
use mathlib.Core.Path.{◌≡◌}
use Rattle.std.proofs.Common.{rules}
use Rattle.lists.specs.Tests.{◌is◌, all_of}
use Rattle.rules.specs.Book.{unused}
use Rattle.rules.specs.Soundness.{unused_zero}
use native.Mathlib.Omega.{arith}
use borrow.Author.Tests.{eq-eqb, ne_eqb}
use Rattle.sound_accounts.proofs.unused_zero.Goals as goal

pub returns-then-x-ne-STATE_UNUSED : goal.returns-then-x-ne-STATE_UNUSED
unfolding unused_zero
returns-then-x-ne-STATE_UNUSED c = rw (ne_eqb c.args.x.state 0 c.if-x-ne-STATE_UNUSED.true)

pub returns : goal.returns
unfolding unused_zero all_of
returns c =
    let x = c.args.x in
    let none : c.default.result ≡ unused = search rules in
    let zero : x.state is 0 ≡ true = eq-eqb x.state 0 (omega arith) in
    rw (zero, and-true) (rw (none, zero) at c.eq.ensures)
