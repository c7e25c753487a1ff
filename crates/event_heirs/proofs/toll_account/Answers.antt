-- `toll_account` meets its contract: each way through the tests is one of the definition's.
use mathlib.Core.Path.{refl, sym, ◌∙◌}
use mathlib.Core.Bool.{true, false}
use borrow.Author.Tests.{eq-eqb, ne_eqb}
use Rattle.rules.specs.Tables.{book_of}
use Rattle.event_heirs.proofs.HeirLaws.{toll_account-by}
use Rattle.event_heirs.proofs.toll_account.Goals as goal

pub returns-then-x-ne-STATE_CLOSED : goal.returns-then-x-ne-STATE_CLOSED
unfolding book_of
returns-then-x-ne-STATE_CLOSED c =
    toll_account-by _ _ _ _ c.account-x.ensures refl false _ (ne_eqb _ _ c.if-x-ne-STATE_CLOSED.true) refl

pub returns-then-not-takes_tolls : goal.returns-then-not-takes_tolls
unfolding book_of
returns-then-not-takes_tolls c =
    toll_account-by _ _ _ _ c.account-x.ensures c.account-successor.ensures true false (eq-eqb _ _ c.if-x-ne-STATE_CLOSED.false)
    (sym c.takes_tolls.ensures ∙ c.if-not-takes_tolls.true)

pub returns : goal.returns
unfolding book_of
returns c =
    toll_account-by _ _ _ _ c.account-x.ensures c.account-successor.ensures true true (eq-eqb _ _ c.if-x-ne-STATE_CLOSED.false)
    (sym c.takes_tolls.ensures ∙ c.if-not-takes_tolls.false)
