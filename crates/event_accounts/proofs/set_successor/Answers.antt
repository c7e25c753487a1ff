-- `set_successor` meets its contract: refused, the tables stay; accepted, they hold the book with the successor named.
use Rattle.std.proofs.Common.{rules}
use Rattle.std.specs.Prelude.{◌≡◌, Err}
use mathlib.Core.Path.{◌∙◌}
use Rattle.posting_laws.proofs.AnyHolidays.{refused-any}
use Rattle.event_accounts.proofs.SuccessorLaws.{answer-successor, successor-puts}
use Rattle.event_accounts.proofs.set_successor.Goals as goal

pub returns-in_err-check_successor : goal.returns-in_err-check_successor
returns-in_err-check_successor c =
    let s = c.requires.0 in
    let q : c.from_residual.result ≡ Err c.in_err-check_successor.field-0.0 = search rules in
    rw q
    (refused-any _ s c.args.e _ (rw c.requires.1) (c.in_err-check_successor.ensures ∙ answer-successor _ s _ c.requires.1 c.requires.2))

pub put_account-requires : goal.put_account-requires
put_account-requires c =
    let s = c.requires.0 in
    let q = c.in_ok-check_successor.ensures ∙ answer-successor _ s _ c.requires.1 c.requires.2 in
    (s, rw (c.set_successor-named.ensures, c.requires.3) (successor-puts _ s _ c.requires.1 q))
