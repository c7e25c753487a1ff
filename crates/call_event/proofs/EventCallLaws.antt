-- A call that is refused before its event, one that posts it, and the answer written: each is the call of the rules.
use mathlib.Core.Path.{◌≡◌, refl, sym, ap, ◌∙◌}
use mathlib.Core.Bool.{Bool, true, false, not, ◌||◌}
use Prim.Native.Nat.{◌≤◌, ◌<◌}
use native.Mathlib.Omega.{arith}
use mathlib.Core.List.{List, [], ◌∷◌}
use lib.ListN.{length}
use lib.IntN.{ℤ, pos}
use lib.Dec.{ltb}
use borrow.Author.Tests.{ltb-false, eqb-true, le-leb, lt-leb, not-false}
use Rattle.std.specs.Prelude.{Err}
use Rattle.records.specs.declared.refusals.Refusal.{Refusal}
use Rattle.records.specs.Outcomes.{number_of, answer_of}
use Rattle.records.proofs.OutcomeLaws.{number_of-not_0}
use Rattle.records.specs.Numbers.{answer_unsound, answer_malformed}
use Rattle.records.specs.Layout.{event_width, answer_width}
use Rattle.records.specs.Encoding.{instruction_from, answer_words}
use Rattle.lists.specs.Tests.{◌is◌, first}
use Rattle.lists.proofs.TestLaws.{or_left, or_right, first-none}
use Rattle.rules.specs.Book.{Answer}
use Rattle.rules.specs.Successors.{forwarded}
use Rattle.rules.specs.Posting.{refusal_by, receive}
use Rattle.rules.specs.Tables.{Tables, book_of, tables_of, sound_tables}
use Rattle.call_rules.specs.Calls.{Gives, event_refusals, answered, event_call}
use Rattle.rules.proofs.TableLaws.{tables_of-book_of}
use Rattle.call_rules.proofs.CallsKept.{event_call-keeps-sound, book_of-event_call}
use Rattle.tables.specs.Changes.{put_all}
use Rattle.event_heirs.specs.Heirs.{Receives}
use Rattle.call_words.proofs.AnswerLaws.{small-storable, refusal-small, answer-storable}
use Rattle.call_words.proofs.WrittenLaws.{written_one}
use Rattle.call_refusals.proofs.RefusalLaws.{event-refusals-by}
use Rattle.call_event.specs.EventCalls.{call_answer, AnswersTo}

-- ---- event_refusals

-- the highest number is 2
refusals-le : (s m : Bool) → first ((answer_unsound, not s) ∷ (answer_malformed, m) ∷ []) ≤ 2
unfolding first
refusals-le true true = omega arith
refusals-le true false = omega arith
refusals-le false m = omega arith

number-le : (t : Tables) (e w : List ℤ) → first (event_refusals t e w) ≤ 2
number-le t e w =
    rw (← event-refusals-by t e w (sound_tables t) (not (length e is event_width) || ltb (length w) answer_width) refl refl) (refusals-le (sound_tables t) (not (length e is event_width) || ltb (length w) answer_width))

-- a call that is not refused has sound tables, nine words and room for an answer
pub record Taken (t : Tables) (e w : List ℤ) : Type 0 where
  pub sound : sound_tables t ≡ true
  pub event : length e ≡ event_width
  pub room : answer_width ≤ length w

pub taken : (t : Tables) (e w : List ℤ) → 0 ≡ first (event_refusals t e w) → Taken t e w
unfolding event_refusals
taken t e w q =
    let other : Bool = not (length e is event_width) in
    let short : Bool = ltb (length w) answer_width in
    let a = first-none (answer_unsound, not (sound_tables t)) ((answer_malformed, other || short) ∷ []) (omega arith) (sym q) in
    let b = first-none (answer_malformed, other || short) [] (omega arith) a.1 in
    record {
      sound = not-false _ a.0;
      event = eqb-true (length e) event_width (not-false _ (or_left other short b.0));
      room = ltb-false _ _ (or_right other short b.0);
    }

-- ---- the answer

-- refused before the event: the tables stay
pub refused-answers : (t : Tables) (e w : List ℤ) (r : Refusal) → number_of r ≡ first (event_refusals t e w) → AnswersTo t t e w (answer_of (Err r))
unfolding call_answer event_call
refused-answers t e w r q =
    let z = number_of-not_0 r in
    record {
      answer = rw (← q, z);
      tables = rw (← q, z, z);
      storable = small-storable (refusal_by (number_of r)) (refusal-small (number_of r) (rw q (omega (arith, number-le t e w))));
    }

-- posted: the tables are those of the book after the event, which are the same where it is refused
pub posted-answers : (t u : Tables) (e w : List ℤ) (x : Answer) → 0 ≡ first (event_refusals t e w) → Receives t u (instruction_from e) x → AnswersTo t u e w x
unfolding call_answer
posted-answers t u e w x q p =
    let k = taken t e w q in
    record {
      answer = rw (← q) p.answer;
      tables = p.tables ∙ sym (event_call-tables t e w k);
      storable = answer-storable t k.sound (forwarded (book_of t) (instruction_from e)) x p.answer;
    }
  where
    event_call-tables : (t : Tables) (e w : List ℤ) → Taken t e w → (event_call t e w).tables ≡ tables_of (receive (book_of t) (instruction_from e)).book
    event_call-tables t e w k =
        sym (tables_of-book_of (event_call t e w).tables (event_call-keeps-sound t e w k.sound))
        ∙ ap tables_of (book_of-event_call t e w k.sound k.event k.room)

-- ---- the answer table

module _ (t u : Tables) (e w : List ℤ) (x : Answer) (a : AnswersTo t u e w x) where
  -- too short for an answer: it stays
  pub call-unwritten : length w < answer_width → Gives (event_call t e w) (pos x.number) u w
  unfolding call_answer event_call answered
  call-unwritten h = record { number = rw a.answer; tables = a.tables; answers = rw (lt-leb answer_width (length w) h) }

  -- else the answer stands in its first five words
  pub call-written : answer_width ≤ length w → Gives (event_call t e w) (pos x.number) u (put_all w 0 0 (answer_words x))
  unfolding call_answer event_call answered
  call-written h = record {
    number = rw a.answer;
    tables = a.tables;
    answers = rw (le-leb answer_width (length w) h, ← a.answer) (written_one x w h);
  }
