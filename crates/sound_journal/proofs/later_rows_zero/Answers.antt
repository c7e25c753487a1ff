-- `later_rows_zero` meets its contract: the words past the used rows are 0 where each later row is empty.
use Rattle.std.proofs.Common.{rules}
use Rattle.std.proofs.lemmas.Iterator.{cases_from_all, YieldsList-from_range}
use Rattle.sound_journal.proofs.JournalLaws.{EmptyIs, rest-by}
use mathlib.Core.Bool.{true, false}
use mathlib.Core.Path.{refl}
use Rattle.sound_journal.proofs.later_rows_zero.Goals as goal

pub returns : goal.returns
returns c =
    let t = c.args.journal.now in
    rest-by t c.args.room c.requires.0 c.args.used c.requires.1 _
    (cases_from_all _ _ _ (EmptyIs t true) (EmptyIs t false) c.all.ensures.ran
    (YieldsList-from_range c.args.used c.args.room _ refl refl) (λ i q k. search rules) (λ i q k. search rules))
