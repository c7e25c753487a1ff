-- `first_line` meets its contract: the names or a bad line.
use Rattle.std.proofs.Common.{sym, ◌∙◌}
use Rattle.listing_rules.specs.Texts.{bytes_of}
use Rattle.listing_lines.proofs.TakenLaws.{names-other, names-same, first_good}
use Rattle.listing_lines.proofs.first_line.Goals as goal

pub returns-then-ne : goal.returns-then-ne
unfolding bytes_of
returns-then-ne c = names-other _ _ c.if-ne.ensures ∙ sym (first_good c.args.line.now)

pub returns : goal.returns
unfolding bytes_of
returns c = names-same _ _ c.if-ne.ensures ∙ sym (first_good c.args.line.now)
