-- `account_alone` meets its contract: the first test that fails decides.
use Rattle.sound_accounts.specs.Alone.{account_alone}
use Rattle.lists.specs.Tests.{all_of}
use mathlib.Core.Bool.{and-true, and-false}
use mathlib.Core.Path.{sym, ◌∙◌}
use Rattle.sound_accounts.proofs.account_alone.Goals as goal

pub returns-then-not-state_fits : goal.returns-then-not-state_fits
unfolding account_alone all_of
returns-then-not-state_fits c =
    let e = sym c.state_fits.ensures ∙ c.if-not-state_fits.true in
    simp e

pub returns-then-not-unused_zero : goal.returns-then-not-unused_zero
unfolding account_alone all_of
returns-then-not-unused_zero c =
    let e = sym c.unused_zero.ensures ∙ c.if-not-unused_zero.true in
    simp (e, and-false)

pub returns-then-not-request_fits : goal.returns-then-not-request_fits
unfolding account_alone all_of
returns-then-not-request_fits c =
    let e = sym c.request_fits.ensures ∙ c.if-not-request_fits.true in
    simp (e, and-false)

pub returns-then-not-topup_fits : goal.returns-then-not-topup_fits
unfolding account_alone all_of
returns-then-not-topup_fits c =
    let e = sym c.topup_fits.ensures ∙ c.if-not-topup_fits.true in
    simp (e, and-false)

pub returns : goal.returns
unfolding account_alone all_of
returns c =
    let e4 = c in
    let e3 = e4.before.before in
    let e2 = e3.before.before in
    let e1 = e2.before.before in
    let t1 = sym e1.state_fits.ensures ∙ e1.if-not-state_fits.false in
    let t2 = sym e2.unused_zero.ensures ∙ e2.if-not-unused_zero.false in
    let t3 = sym e3.request_fits.ensures ∙ e3.if-not-request_fits.false in
    let t4 = sym e4.topup_fits.ensures ∙ e4.if-not-topup_fits.false in
    rw (t1, t2, t3, t4, and-true) c.decline_fits.ensures
