-- `hold_toll` meets its contract: refused, the tables stay; accepted, they hold the book with the toll held and its account settled.
use Rattle.std.proofs.Common.{rules}
use Rattle.std.specs.Prelude.{◌≡◌, Err}
use Rattle.posting_laws.proofs.AnyHolidays.{refused-any}
use Rattle.event_dispute.proofs.DisputeLaws.{dispute-puts}
use Rattle.event_dispute.proofs.hold_toll.Goals as goal

pub returns-in_err-check_dispute : goal.returns-in_err-check_dispute
returns-in_err-check_dispute c =
    let q : c.from_residual.result ≡ Err c.in_err-check_dispute.field-0.0 = search rules in
    rw q (refused-any _ c.requires.0 c.args.e _ (rw c.requires.1) c.in_err-check_dispute.ensures)

pub put_and_settle-requires : goal.put_and_settle-requires
put_and_settle-requires c = (
  c.requires.0,
  c.requires.2,
  rw c.held_row-held.ensures (dispute-puts _ c.requires.0 _ c.requires.1 c.in_ok-check_dispute.ensures),
)
