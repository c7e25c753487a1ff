-- `stand_with` meets its contract: the first test that fails decides; the walked rows are those of the definitions.
use Rattle.soundness.proofs.SoundParts.{unfit-passes, sums-decide}
use Rattle.sound_passages.proofs.TreeLaws.{trees-none}
use Rattle.sound_fees.proofs.FeeLaws.{counted_none}
use Rattle.account_sums.proofs.AccountSumsLaws.{tallies-none}
use borrow.Author.Count.{below_none}
use mathlib.Core.Path.{◌≡◌, ◌∙◌}
use Rattle.std.proofs.Common.{rules}
use Rattle.account_sums.specs.AccountSums.{no_sums}
use Rattle.soundness.proofs.stand_with.Goals as goal

-- no row is walked yet
pub walk-requires : goal.walk-requires
walk-requires g c =
    let f = c.args.f.now in
    let none : c.default-sums.result ≡ no_sums = search rules in
    record {
      held = c.requires.0;
      stood = below_none _;
      trees = trees-none g.row.ROWS f.rows.journal.now g.row.CELLS c.requires.3 c.requires.1 c.requires.2;
      fees = counted_none g.row.ROWS f.rows.journal.now g.row.COUNTS c.requires.4;
      tallies = rw none (tallies-none f.rows.journal.now f.rows.used);
    }

pub returns-then-not-walk : goal.returns-then-not-walk
returns-then-not-walk g c = unfit-passes c.args.f.now (c.walk.ensures.walks.bad c.if-not-walk.true)

pub returns : goal.returns
returns g c = c.all_agree.ensures ∙ sums-decide c.args.f.now (c.walk.ensures.walks.good c.if-not-walk.false)
