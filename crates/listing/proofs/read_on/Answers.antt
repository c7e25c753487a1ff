-- `read_on` meets its contract: what is read follows the bytes that wait, or they are the last line.
use Rattle.std.proofs.Common.{arith}
use Rattle.listing.proofs.TurnLaws.{read-some, read-none}
use Rattle.listing.proofs.read_on.Goals as goal

pub returns-then-more-eq0-clause-reads : goal.returns-then-more-eq0-clause-reads
returns-then-more-eq0-clause-reads c =
    let r = c.read_more-more in
    read-none _ _ _ _ _ r.result r.ensures.kept r.ensures.longer (c.requires.0.empty c.requires.1) (omega arith) _ c.write_rest.ensures.over c.write_rest.ensures.text

pub returns-clause-reads : goal.returns-clause-reads
returns-clause-reads c =
    let r = c.read_more-more in
    read-some _ _ _ _ _ r.result r.ensures.kept r.ensures.longer (c.requires.0.empty c.requires.1) (omega arith)
