-- `fees::settle_fees` meets its contract: each used row can be settled, and is where it is a fee of the toll.
use Rattle.std.proofs.Common.{rules}
use Rattle.event_decision.specs.Decision.{fee_settled}
use Rattle.event_decision.proofs.FeeLaws.{amount-left}
use Rattle.event_decision.proofs.fees.settle_fees.Goals as goal

pub change_rows-requires : goal.change_rows-requires
change_rows-requires c =
    (fee_settled c.args.n, record { takes = λ p i l. let a = amount-left _ _ _ _ c.requires l in search a; gives = λ p q i l m. search rules })

pub returns : goal.returns
returns c =
    c.change_rows.ensures (fee_settled c.args.n) (record { takes = λ p i l. let a = amount-left _ _ _ _ c.requires l in search a; gives = λ p q i l m. search rules })
