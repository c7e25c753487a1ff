-- `print_due` meets its contract: nothing is left where it is printed.
use Rattle.std.proofs.Common.{refl, sym, ◌∙◌}
use Rattle.listing.proofs.TurnLaws.{printed-due, printed-else}
use Rattle.listing.proofs.print_due.Goals as goal

pub returns-then-not-must_print-clause-printed : goal.returns-then-not-must_print-clause-printed
returns-then-not-must_print-clause-printed c =
    let l = c.args.listing.now in
    rw (printed-else l.place l.out (sym c.must_print.ensures ∙ c.if-not-must_print.true)) refl

pub returns-clause-printed : goal.returns-clause-printed
returns-clause-printed c =
    let l = c.args.listing.now in
    rw (printed-due l.place l.out (sym c.must_print.ensures ∙ c.if-not-must_print.false), c.clear.ensures) refl
