-- `write_rest` meets its contract: the bytes that are left are the last line, and the end comes after it.
use Rattle.std.proofs.Common.{arith, rules, sym, ◌∙◌}
use Rattle.listing_steps.proofs.StepLaws.{rest-none, rest-bad, rest-ready, rest-good}
use Rattle.listing_steps.proofs.write_rest.Goals as goal

pub returns-then-is_empty-clause-text : goal.returns-then-is_empty-clause-text
returns-then-is_empty-clause-text g c =
    rw (← rest-none c.args.lines _ c.args.rest.now (search rules)) (rw c.read.ensures.tables at c.write_end.ensures)

pub write_end-requires-then-is_ok : goal.write_end-requires-then-is_ok
write_end-requires-then-is_ok g c =
    let w = c.take_line.ensures.taken in
    let good = sym c.is_ok.ensures.value ∙ c.if-is_ok.true in
    rw c.read-then-is_ok.ensures.tables
    (search rules, (rest-ready c.args.lines _ _ c.args.rest.now _ _ _ w c.requires.1 (search rules) good, omega (arith, w.short)))

pub returns-then-is_ok-clause-text : goal.returns-then-is_ok-clause-text
returns-then-is_ok-clause-text g c =
    let w = c.take_line.ensures.taken in
    let good = sym c.is_ok.ensures.value ∙ c.if-is_ok.true in
    let end = rw c.read-then-is_ok.ensures.tables at c.write_end-then-is_ok.ensures in
    rest-good c.args.lines _ _ c.args.rest.now _ _ _ w c.requires.1 (search rules) good _ end

pub returns-else-is_ok-clause-text : goal.returns-else-is_ok-clause-text
returns-else-is_ok-clause-text g c =
    let w = c.take_line.ensures.taken in
    let bad = sym c.is_ok.ensures.value ∙ c.if-is_ok.false in
    rest-bad c.args.lines _ _ c.args.rest.now _ _ _ w c.requires.1 (search rules) bad
