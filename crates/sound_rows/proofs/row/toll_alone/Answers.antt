-- `toll_alone` meets its contract: the first test that fails decides.
use Rattle.sound_rows.proofs.KindLaws.{toll-clauses}
use mathlib.Core.Path.{sym, ◌∙◌}
use Rattle.sound_rows.proofs.row.toll_alone.Goals as goal

pub returns-then-not-between : goal.returns-then-not-between
returns-then-not-between c =
    let t = sym c.between.ensures ∙ c.if-not-between.true in
    rw (toll-clauses c.args.term.today c.args.term.stage c.args.r c.requires, t)

pub returns-then-not-settled_fits : goal.returns-then-not-settled_fits
returns-then-not-settled_fits c =
    let t = sym c.between.ensures ∙ c.if-not-between.false in
    let u = sym c.settled_fits.ensures ∙ c.if-not-settled_fits.true in
    rw (toll-clauses c.args.term.today c.args.term.stage c.args.r c.requires, t, u)

pub returns : goal.returns
returns c =
    let t = sym c.between.ensures ∙ c.if-not-between.false in
    let u = sym c.settled_fits.ensures ∙ c.if-not-settled_fits.false in
    rw (toll-clauses c.args.term.today c.args.term.stage c.args.r c.requires, t, u) c.toll_fits.ensures
