-- `third_line` meets its contract: the names, and then those of the answers, or a bad line.
use Rattle.std.proofs.Common.{◌≡◌, arith, sym, ◌∙◌, true, false, append-nil}
use Rattle.listing_rules.specs.Texts.{bytes_of, line}
use Rattle.listing_rules.specs.Listing.{is_good}
use Rattle.listing_lines.proofs.TakenLaws.{names-other, names-same, third-good}
use Rattle.listing_lines.proofs.third_line.Goals as goal

pub returns-then-ne : goal.returns-then-ne
unfolding bytes_of
returns-then-ne g c =
    let bad : false ≡ is_good 2 c.args.line.now = names-other _ _ c.if-ne.ensures ∙ sym (third-good c.args.line.now) in
    record { good = bad; text = rw (← bad, append-nil c.args.out.now); short = omega arith }

pub returns : goal.returns
unfolding bytes_of line
returns g c =
    let good : true ≡ is_good 2 c.args.line.now = names-same _ _ c.if-ne.ensures ∙ sym (third-good c.args.line.now) in
    record { good = good; text = rw (← good) c.extend_from_slice.ensures.text; short = omega arith }
