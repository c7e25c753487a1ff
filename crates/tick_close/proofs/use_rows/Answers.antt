-- `use_rows` meets its contract: each used row is of an account of the table, and a source of a closing account is used whole.
use Rattle.std.proofs.Common.{rules}
use Rattle.tick_close.specs.Closing.{use_up_by}
use Rattle.tick_close.proofs.CloseLaws.{usable-left}
use Rattle.tick_close.proofs.use_rows.Goals as goal

pub change_rows-requires : goal.change_rows-requires
change_rows-requires c = (
  use_up_by c.args.today c.args.accounts.now c.args.owed.now,
  record { takes = λ p i l. let a = usable-left _ _ _ _ _ c.requires l in search a; gives = λ p q i l m. search rules },
)

pub returns : goal.returns
returns c =
    c.change_rows.ensures (use_up_by c.args.today c.args.accounts.now c.args.owed.now)
    (record { takes = λ p i l. let a = usable-left _ _ _ _ _ c.requires l in search a; gives = λ p q i l m. search rules })
