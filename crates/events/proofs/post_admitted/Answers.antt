-- `post_admitted` meets its contract: each kind has its function, and another is not admitted. The three tables are sound without holidays
-- too, which is what all but the tick ask.
use mathlib.Core.Path.{refl, sym, ◌∙◌}
use mathlib.Core.Bool.{true≢false}
use Rattle.rules.proofs.RefusalLaws.{shared-formed}
use Rattle.rules.proofs.HolidayTables.{sound-without}
use Rattle.lent.specs.Lent.{lent_mut}
use Rattle.event_forms.proofs.KindLaws.{no-form, well_formed-of}
use Rattle.events.proofs.post_admitted.Goals as goal

pub open_account-requires : goal.open_account-requires
open_account-requires c = (sound-without c.args.holidays.now (lent_mut c.args.t.now) c.requires.0, c.in-1.is, c.requires.2)

pub post_toll-requires : goal.post_toll-requires
post_toll-requires c = (sound-without c.args.holidays.now (lent_mut c.args.t.now) c.requires.0, c.in-2.is, c.requires.1, c.requires.2)

pub post_payment-requires : goal.post_payment-requires
post_payment-requires c = (sound-without c.args.holidays.now (lent_mut c.args.t.now) c.requires.0, c.in-3.is, c.requires.1, c.requires.2, c.requires.3)

pub return_check-requires : goal.return_check-requires
return_check-requires c = (sound-without c.args.holidays.now (lent_mut c.args.t.now) c.requires.0, c.in-4.is, c.requires.1, c.requires.2, c.requires.3)

pub hold_toll-requires : goal.hold_toll-requires
hold_toll-requires c = (sound-without c.args.holidays.now (lent_mut c.args.t.now) c.requires.0, c.in-5.is, c.requires.1, c.requires.2)

pub decide-requires : goal.decide-requires
decide-requires c = (sound-without c.args.holidays.now (lent_mut c.args.t.now) c.requires.0, c.in-6.is, c.requires.1, c.requires.2)

pub topup_result-requires : goal.topup_result-requires
topup_result-requires c = (sound-without c.args.holidays.now (lent_mut c.args.t.now) c.requires.0, c.in-7.is, c.requires.1, c.requires.2, c.requires.3)

pub request_close-requires : goal.request_close-requires
request_close-requires c = (sound-without c.args.holidays.now (lent_mut c.args.t.now) c.requires.0, c.in-8.is, c.requires.2, c.requires.3)

pub tick-requires : goal.tick-requires
tick-requires c = (c.requires.0, c.in-9.is, c.requires.2)

pub add_list-requires : goal.add_list-requires
add_list-requires c = (sound-without c.args.holidays.now (lent_mut c.args.t.now) c.requires.0, c.in-10.is, c.requires.2)

pub set_reserve-requires : goal.set_reserve-requires
set_reserve-requires c = (sound-without c.args.holidays.now (lent_mut c.args.t.now) c.requires.0, c.in-11.is, c.requires.2, c.requires.3)

pub set_successor-requires : goal.set_successor-requires
set_successor-requires c = (sound-without c.args.holidays.now (lent_mut c.args.t.now) c.requires.0, c.in-12.is, c.requires.2, c.requires.3)

pub returns-in_default-clause-posts : goal.returns-in_default-clause-posts
returns-in_default-clause-posts c =
    let r = c.in_default.in_default-own.rest in
    let formed = shared-formed _ _ c.requires.2 in
    let none = no-form _ _ r.0.0.0.0.0.0.0.0.0.0.0.1 r.0.0.0.0.0.0.0.0.0.0.1 r.0.0.0.0.0.0.0.0.0.1 r.0.0.0.0.0.0.0.0.1 r.0.0.0.0.0.0.0.1
    r.0.0.0.0.0.0.1 r.0.0.0.0.0.1 r.0.0.0.0.1 r.0.0.0.1 r.0.0.1 r.0.1 r.1 in
    absurd (true≢false (sym formed ∙ sym (well_formed-of _ _ refl) ∙ none))
