-- `most_of` meets its contract: each arm is the definition's entry, and a number that is no kind has none.
use Rattle.sound_tolls.proofs.RowLaws.{most-none}
use Rattle.rules.specs.Soundness.{most_of}
use Rattle.sound_rows.proofs.row.most_of.Goals as goal

pub returns-in-1 : goal.returns-in-1
unfolding most_of
returns-in-1 c = rw c.in-1.is

pub returns-in-2 : goal.returns-in-2
unfolding most_of
returns-in-2 c = rw c.in-2.is

pub returns-in-3 : goal.returns-in-3
unfolding most_of
returns-in-3 c = rw c.in-3.is

pub returns-in-4 : goal.returns-in-4
unfolding most_of
returns-in-4 c = rw c.in-4.is

pub returns-in-5 : goal.returns-in-5
unfolding most_of
returns-in-5 c = rw c.in-5.is

pub returns-in-6 : goal.returns-in-6
unfolding most_of
returns-in-6 c = rw c.in-6.is

pub returns-in_default : goal.returns-in_default
returns-in_default c = let q = c.in_default.in_default-own.rest in most-none c.args.kind q.0.0.0.0.0.1 q.0.0.0.0.1 q.0.0.0.1 q.0.0.1 q.0.1 q.1
