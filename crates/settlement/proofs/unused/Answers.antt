-- `settlement::unused` meets its contract.
use mathlib.Core.Bool.{true, false}
use mathlib.Core.Path.{sym, ◌∙◌}
use Rattle.settlement.proofs.RowTestLaws.{no-source-of-others, source-has}
use Rattle.settlement.proofs.unused.Goals as goal

pub returns-then-account_at-account : goal.returns-then-account_at-account
returns-then-account_at-account c = no-source-of-others _ _ _ c.account_at.ensures c.if-account_at-account.true

pub returns-then-is_source : goal.returns-then-is_source
returns-then-is_source c =
    let t = c in
    c.remaining_of.ensures
    ∙ source-has _ _ _ t.account_at.ensures t.if-account_at-account.false _ t.read_row-r.ensures true (sym c.is_source.ensures ∙ c.if-is_source.true)

pub returns : goal.returns
returns c =
    let t = c in
    source-has _ _ _ t.account_at.ensures t.if-account_at-account.false _ t.read_row-r.ensures false (sym c.is_source.ensures ∙ c.if-is_source.false)
