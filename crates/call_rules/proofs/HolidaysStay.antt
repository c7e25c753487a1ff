-- No call changes the holidays: each is lent those that the opening took.
use mathlib.Core.Path.{◌≡◌, refl, ap, ◌∙◌}
use mathlib.Core.Bool.{Bool, true, false}
use Prim.Native.Nat.{ℕ}
use mathlib.Core.List.{List, map}
use lib.IntN.{ℤ, pos}
use borrow.Author.Tests.{eqb-true}
use Rattle.std.specs.Prelude.{cond}
use Rattle.records.specs.Encoding.{instruction_of, instruction_from}
use Rattle.lists.specs.Tests.{◌is◌, first}
use Rattle.lists.proofs.TestLaws.{cond_either}
use Rattle.rules.specs.Book.{Book}
use Rattle.rules.specs.Successors.{forwarded}
use Rattle.rules.specs.Posting.{receive, book_after}
use Rattle.rules.specs.Tables.{Tables, book_of, tables_of, sound_tables}
use Rattle.rules.proofs.HolidayLaws.{holidays-again}
use Rattle.rules.proofs.HolidaysKept.{Same, post-keeps-holidays, book_after-keeps-holidays}
use Rattle.rules.proofs.TableLaws.{sound-book}
use Rattle.call_rules.specs.Calls.{Event, Called, opening_refusals, opened_book, open_call, event_refusals, event_call, batch_refusals, batch_call}
use Rattle.call_rules.proofs.OpenCallLaws.{holidays-fit}

module _ (t : Tables) where
  -- the tables of a book with the holidays of sound ones
  tables_of-keeps-holidays : sound_tables t ≡ true → (b : Book) → Same (book_of t) b → (tables_of b).holidays ≡ t.holidays
  unfolding tables_of book_of
  tables_of-keeps-holidays s b e = ap (λ (hs : List ℕ). map pos hs) e ∙ holidays-again t.holidays (sound-book t s).near.holidays

  pub event_call-keeps-holidays : (e w : List ℤ) → (event_call t e w).tables.holidays ≡ t.holidays
  unfolding event_call
  event_call-keeps-holidays e w = go (sound_tables t) refl
    where
      go : (v : Bool) → sound_tables t ≡ v → (event_call t e w).tables.holidays ≡ t.holidays
      go true s = cond_either (λ (u : Tables). u.holidays ≡ t.holidays) _ _ t (tables_of-keeps-holidays s (receive (book_of t) (instruction_from e)).book (post-keeps-holidays (book_of t) (forwarded (book_of t) (instruction_from e)))) refl
      go false s = unfold event_refusals first in (rw s refl)

  pub batch_call-keeps-holidays : (es : List Event) (w : List ℤ) → (batch_call t es w).tables.holidays ≡ t.holidays
  unfolding batch_call
  batch_call-keeps-holidays es w = go (sound_tables t) refl
    where
      go : (v : Bool) → sound_tables t ≡ v → (batch_call t es w).tables.holidays ≡ t.holidays
      go true s = cond_either (λ (c : Called). c.tables.holidays ≡ t.holidays) _ _ _ (tables_of-keeps-holidays s (book_after (book_of t) (map instruction_of es)) (book_after-keeps-holidays (book_of t) (map instruction_of es))) refl
      go false s = unfold batch_refusals first in (rw s refl)

pub open_call-keeps-holidays : (t : Tables) (w : List ℤ) → (open_call t w).tables.holidays ≡ t.holidays
unfolding open_call tables_of opened_book
open_call-keeps-holidays t w = go (first (opening_refusals t w) is 0) refl
  where
    go : (v : Bool) → first (opening_refusals t w) is 0 ≡ v → (cond v (tables_of (opened_book t w)) t).holidays ≡ t.holidays
    go true e = holidays-again t.holidays (holidays-fit t w (eqb-true _ 0 e))
    go false e = refl
