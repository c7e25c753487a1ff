-- What the steps of a tick that never read the holidays leave of the three tables that they write, said of the tables with any holidays.
use mathlib.Core.Path.{◌≡◌, refl}
use Prim.Native.Nat.{ℕ}
use mathlib.Core.List.{List, [], map}
use lib.IntN.{ℤ}
use Rattle.lists.specs.Lists.{count}
use Rattle.records.specs.Encoding.{nat_of}
use Rattle.rules.specs.Book.{Instruction, Book, with_holidays, settled}
use Rattle.rules.specs.Tick.{next_day, end_holds, before_raising, rises, raise_tolls}
use Rattle.rules.specs.Tables.{Tables, tables_at, three_tables, tables_with, book_of, whole_records, lengths_fit, used_fits}
use Rattle.rules.proofs.HolidayFrame.{shared-with_holidays}
use Rattle.rules.proofs.HolidayLaws.{near-with_holidays}
use Rattle.rules.proofs.HolidayTables.{none-fit}
use Rattle.posting.specs.Written.{Written}
use Rattle.tick_base.specs.Midway.{Midway}
use Rattle.event_refusals.specs.Admissions.{Admitted}
use Rattle.tick_plan.specs.declared.Plan.{Plan}
use Rattle.tick_plan.specs.Plans.{PlansHolds}
use Rattle.tick_holds.specs.Holds.{UnraisedRows}

-- midway, they are so without holidays
pub midway-without : (h a j hs : List ℤ) (past : ℕ) → Midway past (tables_at h a j hs) → Midway past (three_tables h a j)
unfolding book_of lengths_fit whole_records used_fits
midway-without h a j hs past m = record { lengths = m.lengths; used = m.used; near = near-with_holidays past [] (book_of (tables_at h a j hs)) none-fit m.near }

module _ (hs : List ℤ) (t : Tables) where
  -- the rows of the settlement after holds have ended
  pub unraised-with : (j : List ℤ) → UnraisedRows t j → UnraisedRows (tables_with hs t) j
  unfolding before_raising settled end_holds next_day book_of
  unraised-with j r = r

  -- the tolls that rise
  pub unraised-count : (n today : ℕ) → n ≡ count (rises today) (book_of t).rows → n ≡ count (rises today) (book_of (tables_with hs t)).rows
  unfolding book_of
  unraised-count n today e = e

  -- tolls raised
  pub raised-rows : (raise_tolls (book_of (tables_with hs t))).rows ≡ (raise_tolls (book_of t)).rows
  unfolding raise_tolls book_of
  raised-rows = refl

  pub written-with : (u : Tables) (b : Book) → Written t u b → Written (tables_with hs t) (tables_with hs u) (with_holidays (map nat_of hs) b)
  unfolding book_of
  written-with u b w = record {
    header-size = w.header-size;
    accounts-size = w.accounts-size;
    journal-size = w.journal-size;
    day = w.day;
    used = w.used;
    fixed = w.fixed;
    schedule = w.schedule;
    lists = w.lists;
    holidays = refl;
    same-holidays = refl;
    accounts = w.accounts;
    rows = w.rows;
    room = w.room;
    longer = w.longer;
    rest = w.rest;
  }

  pub raised-with : (u : Tables) → Written t u (raise_tolls (book_of t)) → Written (tables_with hs t) (tables_with hs u) (raise_tolls (book_of (tables_with hs t)))
  unfolding raise_tolls book_of
  raised-with u w = written-with u (raise_tolls (book_of t)) w

  -- an event that is admitted on the three tables is so with any holidays
  pub admitted-with : (e : Instruction) → Admitted t e → Admitted (tables_with hs t) e
  unfolding book_of
  admitted-with e a = rw (shared-with_holidays (map nat_of hs) (book_of t) e) a

  -- the plan says whether a hold ends
  pub holds-planned : (p : Plan) → PlansHolds (book_of (tables_with hs t)) p → PlansHolds (book_of t) p
  unfolding book_of
  holds-planned p e = e
