-- `check_shared` meets its contract: each way through the tests is a case of the table.
use mathlib.Core.Path.{◌≡◌, refl, sym, ◌∙◌}
use mathlib.Core.Bool.{true, false}
use Rattle.lists.specs.Tests.{first}
use Rattle.rules.specs.Refusals.{well_formed}
use Rattle.event_refusals.proofs.AdmissionLaws.{shared-by}
use Rattle.event_refusals.proofs.check_shared.Goals as goal
use Rattle.event_refusals.proofs.check_shared.Goals.{Else-not-formed}

-- the event has its form, once tested
formed : (f : Else-not-formed) → true ≡ well_formed f.args.e
formed f = sym (f.if-not-formed.false) ∙ f.well_formed-formed.ensures

pub returns-then-not-formed : goal.returns-then-not-formed
unfolding first
returns-then-not-formed c b l r =
    shared-by b _ false _ _ _ _ (sym (c.if-not-formed.true) ∙ c.well_formed-formed.ensures) refl refl refl refl

pub returns-then-late : goal.returns-then-late
unfolding first
returns-then-late c b l r = shared-by b _ true true _ _ _ (formed (goal.at.returns-then-late c).Else-not-formed) (sym c.if-late.true ∙ l) refl refl refl

pub returns-then-unknown : goal.returns-then-unknown
unfolding first
returns-then-unknown c b l r =
    shared-by b _ true false true _ _ (formed (goal.at.returns-then-unknown c).Else-not-formed) (sym c.if-late.false ∙ l) (sym c.if-unknown.true ∙ c.account_unknown-unknown.ensures b r) refl refl

pub returns-then-taken : goal.returns-then-taken
unfolding first
returns-then-taken c b l r =
    shared-by b _ true false false true _ (formed (goal.at.returns-then-taken c).Else-not-formed) (sym c.if-late.false ∙ l) (sym c.if-unknown.false ∙ c.account_unknown-unknown.ensures b r)
    (sym c.if-taken.true ∙ c.account_taken-taken.ensures b r.account) refl

pub returns-then-closed : goal.returns-then-closed
unfolding first
returns-then-closed c b l r =
    shared-by b _ true false false false true (formed (goal.at.returns-then-closed c).Else-not-formed) (sym c.if-late.false ∙ l) (sym c.if-unknown.false ∙ c.account_unknown-unknown.ensures b r)
    (sym c.if-taken.false ∙ c.account_taken-taken.ensures b r.account) (sym c.if-closed.true ∙ c.account_closed-closed.ensures b r.account)

pub returns : goal.returns
unfolding first
returns c b l r =
    shared-by b _ true false false false false (formed (goal.at.returns c).Else-not-formed) (sym c.if-late.false ∙ l) (sym c.if-unknown.false ∙ c.account_unknown-unknown.ensures b r)
    (sym c.if-taken.false ∙ c.account_taken-taken.ensures b r.account) (sym c.if-closed.false ∙ c.account_closed-closed.ensures b r.account)
