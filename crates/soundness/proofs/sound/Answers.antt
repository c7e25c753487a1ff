-- `sound` meets its contract: the test is that of the three other tables, and of the holidays.
use mathlib.Core.List.{map}
use Rattle.records.specs.Encoding.{nat_of}
use Rattle.rules.specs.BusinessDays.{holidays_fit}
use Rattle.rules.specs.Tables.{tables_with, sound_tables}
use Rattle.rules.proofs.HolidayTables.{sound_tables-with}
use Rattle.lent.specs.Lent.{lent}
use borrow.Author.Tests.{not-true, not-false}
use mathlib.Core.Path.{◌≡◌, sym, ◌∙◌}
use Rattle.soundness.proofs.sound.Goals as goal

pub returns-then-not-three_sound : goal.returns-then-not-three_sound
returns-then-not-three_sound c =
    sym (sound_tables-with c.args.holidays.now (lent c.args.t) ∙ rw (sym c.three_sound.ensures ∙ not-true _ c.if-not-three_sound.true-raw))

pub returns : goal.returns
returns c =
    let h : sound_tables (tables_with c.args.holidays.now (lent c.args.t)) ≡ holidays_fit (map nat_of c.args.holidays.now) =
    sound_tables-with c.args.holidays.now (lent c.args.t) ∙ rw (sym c.three_sound.ensures ∙ not-false _ c.if-not-three_sound.false-raw) in
    c.holidays_fit.ensures ∙ sym h
