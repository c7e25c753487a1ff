-- `end_holds` meets its contract: each used row can be released, and is where its hold ends.
use Rattle.std.proofs.Common.{rules}
use Rattle.rules.specs.Tick.{end_hold}
use Rattle.tick_holds.proofs.HoldLaws.{ending-left}
use Rattle.tick_holds.proofs.end_holds.Goals as goal

pub change_rows-requires : goal.change_rows-requires
change_rows-requires c =
    (end_hold c.args.today, record { takes = λ p i l. let a = ending-left _ _ _ _ _ c.requires l in search a; gives = λ p q i l m. search rules })

pub returns : goal.returns
returns c =
    c.change_rows.ensures (end_hold c.args.today) (record { takes = λ p i l. let a = ending-left _ _ _ _ _ c.requires l in search a; gives = λ p q i l m. search rules })
