-- `get_small` meets its contract: a word that reads as a small number is not negative.
use Rattle.records.specs.Encoding.{word}
use Rattle.std.proofs.Common.{w64}
use lib.IntN.{pos}
use lib.ListN.{get_or}
use mir.Val.{SFits}
use mir.Facts.{to_z-of_z}
use borrow.Author.Rules.{sfits_of}
use Rattle.plain_rows.proofs.AlikeLaws.{not-below}
use Rattle.tables.proofs.WordLaws.{not_negative}
use Rattle.lists.proofs.SignLaws.{cast_fits}
use Rattle.plain_rows.proofs.get_small.Goals as goal

pub overflow_cast-result : goal.overflow_cast-result
unfolding word
overflow_cast-result c =
    let f : SFits w64 (get_or c.args.t.now c.args.i (pos 0)) = sfits_of c.result-1.given in
    rw (to_z-of_z f) (cast_fits _ f (not-below _ c.requires.1))

pub returns : goal.returns
unfolding word
returns c =
    let f : SFits w64 (get_or c.args.t.now c.args.i (pos 0)) = sfits_of c.result-1.given in
    rw (to_z-of_z f) (not_negative _ (not-below _ c.requires.1))
