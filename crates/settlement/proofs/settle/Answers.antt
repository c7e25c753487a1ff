-- `settlement::settle` meets its contract: from the first row on nothing lies before.
use Rattle.settlement.proofs.WalkLaws.{begun_first}
use Rattle.settlement.proofs.settle.Goals as goal

pub settle_from-requires : goal.settle_from-requires
settle_from-requires c = (c.requires, begun_first _ _ _)
