-- `well_formed` meets its contract: each kind has its form, and another has none.
use mathlib.Core.Path.{refl, sym, ◌∙◌}
use Rattle.rules.specs.Refusals.{form_of}
use Rattle.event_forms.proofs.KindLaws.{no-form, well_formed-of}
use Rattle.event_forms.proofs.well_formed.Goals as goal

pub returns-in-1 : goal.returns-in-1
unfolding form_of
returns-in-1 c = c.open_form.ensures ∙ well_formed-of _ 1 c.in-1.is

pub returns-in-2 : goal.returns-in-2
unfolding form_of
returns-in-2 c = c.toll_form.ensures ∙ well_formed-of _ 2 c.in-2.is

pub returns-in-3 : goal.returns-in-3
unfolding form_of
returns-in-3 c = c.payment_form.ensures ∙ well_formed-of _ 3 c.in-3.is

pub returns-in-4 : goal.returns-in-4
unfolding form_of
returns-in-4 c = c.return_form.ensures ∙ well_formed-of _ 4 c.in-4.is

pub returns-in-5 : goal.returns-in-5
unfolding form_of
returns-in-5 c = c.dispute_form.ensures ∙ well_formed-of _ 5 c.in-5.is

pub returns-in-6 : goal.returns-in-6
unfolding form_of
returns-in-6 c = c.decision_form.ensures ∙ well_formed-of _ 6 c.in-6.is

pub returns-in-7 : goal.returns-in-7
unfolding form_of
returns-in-7 c = c.result_form.ensures ∙ well_formed-of _ 7 c.in-7.is

pub returns-in-8 : goal.returns-in-8
unfolding form_of
returns-in-8 c = c.request_form.ensures ∙ well_formed-of _ 8 c.in-8.is

pub returns-in-9 : goal.returns-in-9
unfolding form_of
returns-in-9 c = c.tick_form.ensures ∙ well_formed-of _ 9 c.in-9.is

pub returns-in-10 : goal.returns-in-10
unfolding form_of
returns-in-10 c = c.list_form.ensures ∙ well_formed-of _ 10 c.in-10.is

pub returns-in-11 : goal.returns-in-11
unfolding form_of
returns-in-11 c = c.reserve_form.ensures ∙ well_formed-of _ 11 c.in-11.is

pub returns-in-12 : goal.returns-in-12
unfolding form_of
returns-in-12 c = c.successor_form.ensures ∙ well_formed-of _ 12 c.in-12.is

pub returns-in_default : goal.returns-in_default
returns-in_default c =
    let r = c.in_default.in_default-own.rest in
    sym (no-form _ _ r.0.0.0.0.0.0.0.0.0.0.0.1 r.0.0.0.0.0.0.0.0.0.0.1 r.0.0.0.0.0.0.0.0.0.1 r.0.0.0.0.0.0.0.0.1 r.0.0.0.0.0.0.0.1
    r.0.0.0.0.0.0.1 r.0.0.0.0.0.1 r.0.0.0.0.1 r.0.0.0.1 r.0.0.1 r.0.1 r.1) ∙ well_formed-of _ _ refl
