-- `set_reserve` meets its contract: refused, the tables stay; accepted, they hold the book with the reserve added or removed.
use Rattle.std.proofs.Common.{rules}
use Rattle.std.specs.Prelude.{◌≡◌, Err}
use mathlib.Core.Path.{◌∙◌}
use Rattle.posting_laws.proofs.AnyHolidays.{refused-any}
use Rattle.event_accounts.proofs.ReserveLaws.{answer-reserve, reserve-puts}
use Rattle.event_accounts.proofs.set_reserve.Goals as goal

pub returns-in_err-check_reserve : goal.returns-in_err-check_reserve
returns-in_err-check_reserve c =
    let s = c.requires.0 in
    let q : c.from_residual.result ≡ Err c.in_err-check_reserve.field-0.0 = search rules in
    rw q
    (refused-any _ s c.args.e _ (rw c.requires.1) (c.in_err-check_reserve.ensures _ c.requires.3 ∙ answer-reserve _ s _ c.requires.1 c.requires.2))

pub put_account-requires : goal.put_account-requires
put_account-requires c =
    let s = c.requires.0 in
    let q = c.in_ok-check_reserve.ensures _ c.requires.3 ∙ answer-reserve _ s _ c.requires.1 c.requires.2 in
    (s, rw (c.set_reserve-reserved.ensures, c.requires.3) (reserve-puts _ s _ c.requires.1 q))
