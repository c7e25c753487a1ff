-- `last_day` meets its contract: the first list's day where no other is used, else the last used one's.
use Rattle.table_lists.proofs.OnDayLaws.{last-first, last-later}
use Rattle.table_lists.proofs.UsedLaws.{used-few}
use native.Mathlib.Omega.{arith}
use mathlib.Core.Path.{◌≡◌, sym, ◌∙◌}
use Prim.Native.Nat.{suc, ◌-◌}
use Rattle.table_lists.proofs.Header.last_day.Goals as goal

pub returns-then-used-eq0 : goal.returns-then-used-eq0
returns-then-used-eq0 c =
    let a = c in
    c.get.ensures ∙ sym (last-first _ (sym a.requires ∙ c.if-used-eq0.true))

pub later_day-requires : goal.later_day-requires
later_day-requires c = omega (arith, used-few c.args.self.words.now)

pub returns : goal.returns
returns c =
    let a = c in
    let n : a.args.used ≡ suc (a.args.used - 1) = omega arith in
    c.later_day.ensures ∙ sym (last-later _ (a.args.used - 1) (sym a.requires ∙ n))
