-- `next_field` meets its contract: the first comma ends the first field.
use Rattle.std.proofs.Common.{◌≡◌, arith, ◌+◌, ◌-◌, sym, take, drop, length, length-drop, add-one}
use Rattle.std.proofs.Math.Seq.{take_all}
use Rattle.decimal.proofs.FieldLaws.{fields-cut, fields-last}
use Rattle.decimal.proofs.next_field.Goals as goal

pub returns-in-Some : goal.returns-in-Some
returns-in-Some c =
    let line = c.args.line.now in
    let stop = c.in-Some.stop in
    let e = c.in-Some.ensures in
    let rest = drop (stop + 1) line in
    let all : take (length line - (stop + 1)) rest ≡ rest = take_all _ _ (omega (arith, length-drop (stop + 1) line)) in
    rw (all, add-one stop) (fields-cut line stop (sym e.value) e.within)

pub returns-in-None : goal.returns-in-None
returns-in-None c = fields-last c.args.line.now (sym c.in-None.ensures.value)
