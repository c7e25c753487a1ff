-- `carry_out` meets its contract: the number of lines before it decides what the line must be.
use Rattle.std.proofs.Common.{◌≡◌, arith}
use Rattle.listing_lines.proofs.TakenLaws.{carried-first, carried-second, carried-third}
use Rattle.listing_lines.proofs.carry_out.Goals as goal

pub returns-in-0-clause-carried : goal.returns-in-0-clause-carried
returns-in-0-clause-carried g c =
    let z : c.args.n ≡ 0 = omega arith in
    rw z (carried-first _ _ _ _ c.first_line.ensures (rw z at c.requires.2))

pub returns-in-1-clause-carried : goal.returns-in-1-clause-carried
returns-in-1-clause-carried g c =
    let z : c.args.n ≡ 1 = omega arith in
    rw z (carried-second _ _ _ _ _ c.second_line.ensures.judged)

pub returns-in-2-clause-carried : goal.returns-in-2-clause-carried
returns-in-2-clause-carried g c =
    let z : c.args.n ≡ 2 = omega arith in
    let w = c.third_line.ensures in
    rw z (carried-third _ _ _ _ _ w.good w.text w.short (rw z at c.requires.2))
