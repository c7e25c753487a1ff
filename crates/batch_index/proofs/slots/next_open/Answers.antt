-- `slots::next_open` meets its contract: of the rows passed none has something left on this side.
use Rattle.std.proofs.Common.{rules}
use mathlib.Core.Path.{◌≡◌}
use Rattle.std.specs.Bool.{⊤}
use Rattle.std.proofs.lemmas.Iterator.{first_from_Range}
use Rattle.records.specs.Encoding.{row_at}
use Rattle.lists.specs.Lists.{only}
use Rattle.rules.specs.Rows.{remaining}
use Rattle.batch_index.specs.Slots.{of_side}
use Rattle.batch_index.proofs.SlotLaws.{nothing-at, next-found}
use Rattle.batch_index.proofs.slots.next_open.Goals as goal

pub returns : goal.returns
returns c =
    let r = first_from_Range _ _ _ _ (λ k. ⊤) (λ k. only (of_side c.args.side c.args.account) remaining (row_at c.args.countable.now.rows.journal.now k) ≡ 0) c.find.ensures.ran (λ k q d. tt) (λ k q d. search (rules, nothing-at)) in
    rw c.unwrap_or.ensures (next-found _ _ _ _ c.requires _ r)
