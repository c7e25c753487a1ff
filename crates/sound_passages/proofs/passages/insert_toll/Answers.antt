-- `insert_toll` meets its contract: the toll grows the trees by its cell, or clashes.
use Rattle.sound_passages.proofs.TreeLaws.{trees-add, taken-same}
use mathlib.Core.Bool.{true≢false, false≢true}
use Rattle.sound_passages.proofs.passages.insert_toll.Goals as goal

pub returns-in_default : goal.returns-in_default
returns-in_default c =
    record {
      good = λ e. absurd (false≢true e);
      bad = λ e. taken-same c.args.journal.now c.args.n _ c.requires.3 (rw (← c.requires.4) at c.in_default.ensures);
    }

pub returns : goal.returns
returns c =
    record {
      good = λ e. trees-add c.args.space c.args.journal.now c.args.cells.now c.args.n c.in-Ok.c c.requires.2 c.requires.1 c.requires.3 (rw (← c.requires.4) at c.in-Ok.ensures);
      bad = λ e. absurd (true≢false e);
    }
