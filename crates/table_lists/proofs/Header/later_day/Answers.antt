-- `later_day` meets its contract: it is the word that is read.
use Rattle.rules.specs.Tables.{list_from}
use Rattle.table_lists.proofs.Header.later_day.Goals as goal

pub returns : goal.returns
unfolding list_from
returns c = c.get.ensures
