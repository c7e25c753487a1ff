-- `settlement::settle_from` meets its contract: both ranks one after the other are settlement.
use mathlib.Core.Path.{◌∙◌}
use Rattle.settlement.proofs.RankTestLaws.{settle-both}
use Rattle.settlement.proofs.settle_from.Goals as goal

pub returns : goal.returns
returns c =
    let t = c.settle_rank-rest.ensures.become in
    let u = c.settle_rank.ensures.become in
    record {
      size = u.size ∙ t.size;
      rows = settle-both c.args.account _ _ _ t.rows u.rows;
      rest = λ k q. u.rest k q ∙ t.rest k q;
    }
