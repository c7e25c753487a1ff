-- `list_on` meets its contract: the first list that is unused or has not begun is found, or none.
use Rattle.std.proofs.Common.{rules}
use Rattle.std.proofs.lemmas.Iterator.{IsFirst-from_position, YieldsList-from_range}
use Rattle.records.specs.Layout.{later_lists}
use Rattle.table_lists.specs.HeaderLists.{unbegun}
use Rattle.table_lists.proofs.OnDayLaws.{on-first}
use mathlib.Core.Bool.{true, false}
use mathlib.Core.Path.{◌≡◌, refl}
use Rattle.table_lists.proofs.Header.list_on.Goals as goal

pub returns : goal.returns
returns c =
    let h = c.args.self.words.now in
    rw c.unwrap_or.ensures
    (on-first h c.requires c.args.day _
    (IsFirst-from_position _ _ _ (λ i. unbegun h c.args.day i ≡ true) (λ i. unbegun h c.args.day i ≡ false) c.position.ensures.ran
    (YieldsList-from_range 0 later_lists later_lists refl refl) (λ i q k. search rules) (λ i q k. search rules)))
