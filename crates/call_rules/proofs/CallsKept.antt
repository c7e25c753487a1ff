-- Sound stays sound: the tables after a call, and the book that they are of.
use mathlib.Core.Path.{◌≡◌, refl, sym, ap, ◌∙◌}
use mathlib.Core.Bool.{Bool, true, false}
use Prim.Native.Nat.{ℕ, ◌*◌, ◌≤◌}
use mathlib.Core.List.{List, [], ◌∷◌, map}
use lib.ListN.{length}
use lib.Dec.{eqb}
use lib.IntN.{ℤ}
use borrow.Author.Tests.{eqb-true, eq-eqb, le-ltb}
use Rattle.records.specs.Layout.{event_width, answer_width}
use Rattle.records.specs.Encoding.{instruction_of, instruction_from}
use Rattle.lists.specs.Tests.{first}
use Rattle.lists.proofs.TestLaws.{all_of-at}
use Rattle.records.specs.Limits.{most_events}
use Rattle.rules.specs.Book.{Instruction, Book}
use Rattle.rules.specs.Soundness.{sound}
use Rattle.rules.specs.Successors.{forwarded}
use Rattle.rules.specs.Posting.{receive, book_after}
use Rattle.rules.specs.Tables.{Tables, book_of, tables_of, lengths_fit, used_fits, later_rows_zero, unused_lists_zero, sound_tables}
use Rattle.call_rules.proofs.CallLaws.{event_call-refused-tables, batch_call-refused, batch_call-runs}
use Rattle.call_rules.specs.Calls.{Event, event_refusals, event_call, batch_refusals, batch_call}
use Rattle.rules.proofs.SoundnessLaws.{sound-facts}
use Rattle.rules.proofs.PostingLaws.{post-refused, post-number}
use Rattle.rules.proofs.TableLaws.{book_of-tables_of, sound_tables-tables_of}
use Rattle.preservation.proofs.SoundKept.{post-keeps-sound, book_after-keeps-sound}

-- ---- sound tables

book-sound : (t : Tables) → sound_tables t ≡ true → sound (book_of t) ≡ true
unfolding sound_tables
book-sound t s = all_of-at (lengths_fit t ∷ used_fits t ∷ later_rows_zero t ∷ unused_lists_zero t ∷ sound (book_of t) ∷ []) s 4

-- a sound book is read back from its tables
pub book_of-sound : (b : Book) → sound b ≡ true → book_of (tables_of b) ≡ b
book_of-sound b s = book_of-tables_of b (sound-facts b s).near

-- ---- a single event

module _ (t : Tables) (e answers : List ℤ) (s : sound_tables t ≡ true) where
  after-book : sound (receive (book_of t) (instruction_from e)).book ≡ true
  after-book = post-keeps-sound (book_of t) (forwarded (book_of t) (instruction_from e)) (book-sound t s)

  -- where the call's number is 0, the event was posted
  posted : (event_call t e answers).number ≡ 0 → (event_call t e answers).tables ≡ tables_of (receive (book_of t) (instruction_from e)).book
  unfolding event_call
  posted q = rw q

  pub event_call-keeps-sound : sound_tables (event_call t e answers).tables ≡ true
  event_call-keeps-sound = go (eqb (event_call t e answers).number 0) refl
    where
      go : (v : Bool) → eqb (event_call t e answers).number 0 ≡ v → sound_tables (event_call t e answers).tables ≡ true
      go true q = rw (posted (eqb-true (event_call t e answers).number 0 q)) (sound_tables-tables_of (receive (book_of t) (instruction_from e)).book after-book)
      go false q = rw (event_call-refused-tables t e answers q) s

  -- the book afterwards, where the event and the answer table have the right lengths
  pub book_of-event_call : length e ≡ event_width → answer_width ≤ length answers → book_of (event_call t e answers).tables ≡ (receive (book_of t) (instruction_from e)).book
  book_of-event_call w a = go (eqb (receive (book_of t) (instruction_from e)).answer.number 0) refl
    where
      runs : first (event_refusals t e answers) ≡ 0
      runs = unfold event_refusals first in rw (s, eq-eqb (length e) event_width w, le-ltb (length answers) answer_width a)

      number : (event_call t e answers).number ≡ (receive (book_of t) (instruction_from e)).answer.number
      number = unfold event_call in rw runs

      go : (v : Bool) → eqb (receive (book_of t) (instruction_from e)).answer.number 0 ≡ v → book_of (event_call t e answers).tables ≡ (receive (book_of t) (instruction_from e)).book
      go true q = rw (posted (number ∙ eqb-true _ 0 q)) (book_of-sound (receive (book_of t) (instruction_from e)).book after-book)
      go false q =
          rw (event_call-refused-tables t e answers (ap (λ (n : ℕ). eqb n 0) number ∙ q), post-refused (book_of t) (forwarded (book_of t) (instruction_from e)) (sym (post-number (book_of t) (forwarded (book_of t) (instruction_from e))) ∙ q))

-- ---- a batch

module _ (t : Tables) (es : List Event) (answers : List ℤ) (s : sound_tables t ≡ true) where
  abbrev list : List Instruction
  list = map instruction_of es

  after_list : sound (book_after (book_of t) list) ≡ true
  after_list = book_after-keeps-sound (book_of t) list (book-sound t s)

  ran : first (batch_refusals t es answers) ≡ 0 → (batch_call t es answers).tables ≡ tables_of (book_after (book_of t) list)
  unfolding batch_call
  ran q = rw q

  pub batch_call-keeps-sound : sound_tables (batch_call t es answers).tables ≡ true
  batch_call-keeps-sound = go (eqb (first (batch_refusals t es answers)) 0) refl
    where
      go : (v : Bool) → eqb (first (batch_refusals t es answers)) 0 ≡ v → sound_tables (batch_call t es answers).tables ≡ true
      go true q = rw (ran (eqb-true (first (batch_refusals t es answers)) 0 q)) (sound_tables-tables_of (book_after (book_of t) list) after_list)
      go false q = rw (batch_call-refused t es answers q) s

  -- the book afterwards, where the batch is not too long and the answer table has room
  pub book_of-batch_call : length es ≤ most_events → length es * answer_width ≤ length answers
      → book_of (batch_call t es answers).tables ≡ book_after (book_of t) (map instruction_of es)
  book_of-batch_call m a = rw (ran (batch_call-runs t es answers s m a)) (book_of-sound (book_after (book_of t) list) after_list)
