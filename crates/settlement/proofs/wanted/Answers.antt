-- `settlement::wanted` meets its contract.
use mathlib.Core.Bool.{true, false}
use mathlib.Core.Path.{sym, ◌∙◌}
use Rattle.settlement.proofs.RowTestLaws.{no-debit-of-others, no-debit, debit-wants}
use Rattle.settlement.proofs.wanted.Goals as goal

pub returns-then-account_at-account : goal.returns-then-account_at-account
returns-then-account_at-account c = no-debit-of-others _ _ _ c.account_at.ensures c.args.rank _ c.if-account_at-account.true

pub returns-then-is_held : goal.returns-then-is_held
returns-then-is_held c =
    let t = c in
    debit-wants _ _ _ t.account_at.ensures t.if-account_at-account.false _ t.read_row-r.ensures _ c.args.rank true true
    (sym c.in_rank.ensures ∙ c.if-in_rank.true) (sym c.is_held.ensures ∙ c.if-is_held.true)

pub returns-then-in_rank : goal.returns-then-in_rank
returns-then-in_rank c =
    let t = c in
    c.remaining_of.ensures
    ∙ debit-wants _ _ _ t.account_at.ensures t.if-account_at-account.false _ t.read_row-r.ensures _ c.args.rank true false
    (sym c.in_rank.ensures ∙ c.if-in_rank.true) (sym c.is_held.ensures ∙ c.if-is_held.false)

pub returns : goal.returns
returns c =
    let t = c in
    no-debit _ _ _ t.account_at.ensures t.if-account_at-account.false _ t.read_row-r.ensures _ c.args.rank (sym c.in_rank.ensures ∙ c.if-in_rank.false)
