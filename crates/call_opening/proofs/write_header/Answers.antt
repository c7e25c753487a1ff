-- `write_header` meets its contract: each step's list is the one before it with the words stored, and the last is the opened book's.
use Rattle.std.proofs.Common.{rules, to_z, of_z, w64, get_or, pos}
use Rattle.call_opening.proofs.OpenedLaws.{words-given, copied-fits, header-written}
use native.Mathlib.Omega.{arith}
use mathlib.Core.Path.{◌≡◌}
use Rattle.call_opening.proofs.write_header.Goals as goal

pub bounds-schedule-0 : goal.bounds-schedule-0
bounds-schedule-0 c = omega (arith, words-given _ c.requires.1)

pub slice_bounds-copy_from_slice-count-2 : goal.slice_bounds-copy_from_slice-count-2
slice_bounds-copy_from_slice-count-2 c = omega (arith, words-given _ c.requires.1)

pub slice_bounds-copy_from_slice-start-2 : goal.slice_bounds-copy_from_slice-start-2
slice_bounds-copy_from_slice-start-2 c = omega (arith, words-given _ c.requires.1)

pub copy_from_slice-requires : goal.copy_from_slice-requires
copy_from_slice-requires c = copied-fits c.args.header.now c.args.schedule.now _ _ c.requires.0 (words-given _ c.requires.1)

pub returns : goal.returns
returns c = λ t.
    let d : to_z w64 (of_z w64 (get_or c.args.schedule.now 0 (pos 0))) ≡ get_or c.args.schedule.now 0 (pos 0) = search rules in
    header-written c.args.schedule.now c.requires.1 c.args.header.now _ _ _ c.requires.0 d
    c.copy_from_slice.ensures.after (c.fill.ensures.after (λ y e. e)) t
