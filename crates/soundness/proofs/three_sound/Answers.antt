-- `three_sound` meets its contract: the first test that fails decides, and behind the lengths and the header the rest is book_passes.
use Rattle.soundness.proofs.SoundParts.{unfit-lengths, unfit-used, unfit-later, unfit-day, unfit-schedule, unfit-lists, Fit, fit-sound, fit-bounds, fit-term}
use Rattle.sound_header.specs.Clauses.{rest_zero}
use Rattle.sound_header.proofs.LengthLaws.{Lengths, lengths-known}
use Rattle.rules.specs.Tables.{book_of, used_fits, later_rows_zero, rows_used, room_in}
use Rattle.rules.specs.Opening.{day_fits}
use borrow.Author.Tests.{not-true, not-false, lt-leb}
use mathlib.Core.Path.{sym, ap, ◌∙◌}
use native.Mathlib.Omega.{arith}
use Rattle.soundness.proofs.three_sound.Goals as goal
use Rattle.lent.specs.Lent.{lent}
use Rattle.soundness.proofs.three_sound.Goals.{After-get, Else-not-lengths_fit}

-- what the passed tests have shown
lengths : (e : Else-not-lengths_fit) → Lengths e.args.t.header.now e.args.t.accounts.now e.args.t.journal.now
lengths e = lengths-known _ _ _ (sym e.lengths_fit.ensures ∙ not-false _ e.if-not-lengths_fit.false-raw)

fit : (g : After-get)
    → Fit g.args.t.header.now
    g.args.t.accounts.now
    g.args.t.journal.now
    g.used-used.result
    g.day-today.result
    g.get.result
fit g =
    record {
      lengths = sym g.lengths_fit.ensures ∙ not-false _ g.if-not-lengths_fit.false-raw;
      read_day = g.day-today.ensures;
      read_used = g.used-used.ensures;
      read_stage = g.get.ensures;
      day = sym g.day_fits.ensures ∙ not-false _ g.if-not-day_fits.false-raw;
      schedule = sym g.schedule_fits.ensures ∙ not-false _ g.if-not-schedule_fits.false-raw;
      lists = sym g.lists_stand.ensures ∙ not-false _ g.if-not-lists_stand.false-raw;
      fits = rw g.room-room.ensures at g.if-used-room.false;
      later = sym g.later_rows_zero.ensures ∙ not-false _ g.if-not-later_rows_zero.false-raw;
    }

pub returns-then-not-lengths_fit : goal.returns-then-not-lengths_fit
returns-then-not-lengths_fit c = sym (unfit-lengths _ (sym c.lengths_fit.ensures ∙ not-true _ c.if-not-lengths_fit.true-raw))

pub day-today-requires : goal.day-today-requires
day-today-requires c = omega (arith, (lengths (goal.at.day-today-requires c).Else-not-lengths_fit).words)

pub returns-then-not-day_fits : goal.returns-then-not-day_fits
unfolding book_of
returns-then-not-day_fits c =
    sym (unfit-day (lent c.args.t) (ap day_fits (sym c.day-today.ensures) ∙ sym c.day_fits.ensures ∙ not-true _ c.if-not-day_fits.true-raw))

pub schedule_fits-requires : goal.schedule_fits-requires
schedule_fits-requires c = omega (arith, (lengths (goal.at.schedule_fits-requires c).Else-not-lengths_fit).words)

pub returns-then-not-schedule_fits : goal.returns-then-not-schedule_fits
unfolding book_of
returns-then-not-schedule_fits c =
    sym (unfit-schedule (lent c.args.t) (sym c.schedule_fits.ensures ∙ not-true _ c.if-not-schedule_fits.true-raw))

pub invariant_of-lists_stand : goal.invariant_of-lists_stand
invariant_of-lists_stand c = record { wide = omega (arith, (lengths (goal.at.invariant_of-lists_stand c).Else-not-lengths_fit).words) }

pub returns-then-not-lists_stand : goal.returns-then-not-lists_stand
returns-then-not-lists_stand c =
    sym (unfit-lists (lent c.args.t) (sym c.lists_stand.ensures ∙ not-true _ c.if-not-lists_stand.true-raw))

pub used-used-requires : goal.used-used-requires
used-used-requires c = omega (arith, (lengths (goal.at.used-used-requires c).Else-not-lengths_fit).words)

pub returns-then-used-room : goal.returns-then-used-room
unfolding used_fits
returns-then-used-room c =
    let t = lent c.args.t in
    sym (unfit-used t (lt-leb (rows_used t) (room_in t) (omega (arith, c.used-used.ensures, c.room-room.ensures))))

pub later_rows_zero-requires : goal.later_rows_zero-requires
later_rows_zero-requires c =
    let l = lengths (goal.at.later_rows_zero-requires c).Else-not-lengths_fit in
    (rw c.room-room.ensures (sym l.whole_rows), c.if-used-room.false)

pub returns-then-not-later_rows_zero : goal.returns-then-not-later_rows_zero
unfolding later_rows_zero
returns-then-not-later_rows_zero c =
    sym (unfit-later (lent c.args.t) (unfold rest_zero in (rw c.used-used.ensures at (sym c.later_rows_zero.ensures ∙ not-true _ c.if-not-later_rows_zero.true-raw))))

pub get-requires : goal.get-requires
get-requires c = omega (arith, (lengths (goal.at.get-requires c).Else-not-lengths_fit).words)

pub invariant_of-term : goal.invariant_of-term
invariant_of-term c = record { within = fit-term c.args.t.header.now c.args.t.accounts.now c.args.t.journal.now _ _ _ (fit (goal.at.invariant_of-term c).After-get) }

pub rows-requires : goal.rows-requires
rows-requires c =
    let l = lengths (goal.at.rows-requires c).Else-not-lengths_fit in
    let f = (fit (goal.at.rows-requires c).After-get).fits in
    (omega (arith, l.words), omega (arith, f, c.used-used.ensures))

pub invariant_of-f-clause-bounds : goal.invariant_of-f-clause-bounds
invariant_of-f-clause-bounds c = rw (c.count-count.ensures, c.rows.ensures.used, ← c.used-used.ensures) (fit-bounds c.args.t.header.now c.args.t.accounts.now c.args.t.journal.now _ _ _ (fit (goal.at.invariant_of-f-clause-bounds c).After-get))

pub invariant_of-f-clause-marked : goal.invariant_of-f-clause-marked
invariant_of-f-clause-marked c = c.mark_used.ensures

pub returns : goal.returns
returns c =
    c.book_passes.ensures ∙ rw (c.count-count.ensures, c.rows.ensures.journal, c.rows.ensures.used, ← c.used-used.ensures) (fit-sound c.args.t.header.now c.args.t.accounts.now c.args.t.journal.now _ _ _ (fit (goal.at.returns c).After-get))
