-- A batch that is refused, and what holds after each of its events.
use mathlib.Core.Path.{◌≡◌, refl, sym, ap, ◌∙◌}
use mathlib.Core.Bool.{Bool, true, not, ◌||◌}
use Prim.Native.Nat.{ℕ, ◌+◌, ◌*◌, ◌≤◌, ◌<◌}
use native.Mathlib.Omega.{arith}
use native.Mathlib.Numerals.{add-one}
use mathlib.Core.List.{List, [], ◌∷◌, ◌++◌, map}
use lib.ListN.{length, get_or, take, length-map, get_or-map}
use lib.Seq.{take-suc, take_all, length-take-le}
use lib.IntN.{ℤ, pos}
use lib.Dec.{ltb}
use borrow.Author.Tests.{ltb-false, not-false}
use Rattle.records.specs.declared.refusals.Refusal.{Refusal}
use Rattle.records.specs.Outcomes.{number_of}
use Rattle.records.proofs.OutcomeLaws.{number_of-not_0}
use Rattle.records.specs.Numbers.{answer_unsound, answer_malformed}
use Rattle.records.specs.Layout.{answer_width}
use Rattle.records.specs.Encoding.{instruction_of, answer_words}
use Rattle.lists.specs.Tests.{first}
use Rattle.lists.proofs.TestLaws.{or_right, first-none}
use Rattle.records.specs.Limits.{most_events}
use Rattle.rules.specs.Book.{Instruction, Answer, Book}
use Rattle.rules.specs.Soundness.{sound}
use Rattle.rules.specs.Posting.{receive, book_after, answers_to}
use Rattle.rules.specs.Tables.{Tables, book_of, tables_of, sound_tables}
use Rattle.call_rules.specs.Calls.{Event, Gives, batch_refusals, batch_call, written}
use Rattle.rules.proofs.PostingLaws.{book_after-append, answers_to-append, length-answers_to}
use Rattle.call_rules.proofs.CallLaws.{batch_call-refused}
use Rattle.rules.proofs.SoundnessLaws.{facts-sound}
use Rattle.rules.proofs.TableLaws.{sound-book, tables_of-book_of, sound_tables-tables_of}
use Rattle.preservation.proofs.SoundKept.{book_after-keeps-sound}
use Rattle.call_rules.proofs.CallsKept.{book_of-sound}
use Rattle.tables.specs.Changes.{put_all}
use Rattle.call_words.specs.Answers.{AnswerIn}
use Rattle.call_words.proofs.WrittenLaws.{written_none, written_next}
use Rattle.call_batch.specs.BatchCalls.{RecordPosted}

-- ---- batch_refusals

-- refused: nothing is written
pub batch-refused : (t : Tables) (es : List Event) (w : List ℤ) (f : Refusal) → number_of f ≡ first (batch_refusals t es w) → Gives (batch_call t es w) (pos (number_of f)) t w
batch-refused t es w f q =
    let r = batch_call-refused t es w (rw q at (number_of-not_0 f)) in
    record { number = rw r (ap pos q); tables = rw r; answers = rw r }

-- not refused: sound tables, and words for every answer
pub record Taken (t : Tables) (es : List Event) (w : List ℤ) : Type 0 where
  pub refusal : first (batch_refusals t es w) ≡ 0
  pub sound : sound_tables t ≡ true
  pub room : length es * answer_width ≤ length w

pub taken : (t : Tables) (es : List Event) (w : List ℤ) → 0 ≡ first (batch_refusals t es w) → Taken t es w
unfolding batch_refusals
taken t es w q =
    let many : Bool = ltb most_events (length es) in
    let short : Bool = ltb (length w) (length es * answer_width) in
    let a = first-none (answer_unsound, not (sound_tables t)) ((answer_malformed, many || short) ∷ []) (omega arith) (sym q) in
    let b = first-none (answer_malformed, many || short) [] (omega arith) a.1 in
    record { refusal = sym q; sound = not-false _ a.0; room = ltb-false _ _ (or_right many short b.0) }

-- what stands past the end of a list of events
abbrev pub no_event : Event
no_event = record { kind = pos 0; account = pos 0; a = pos 0; b = pos 0; c = pos 0; d = pos 0; e = pos 0; f = pos 0; g = pos 0 }

-- ---- events in order

-- the first i events as instructions
abbrev first_of : List Event → ℕ → List Instruction
first_of es i = take i (map instruction_of es)

-- i events of the batch es are posted: the tables t have become u, and the answer table w has become v
pub record After (t : Tables) (es : List Event) (w : List ℤ) (i : ℕ) (u : Tables) (v : List ℤ) : Type 0 where
  pub within : i ≤ length es
  pub size : length v ≡ length w
  pub tables : u ≡ tables_of (book_after (book_of t) (first_of es i))
  pub answers : v ≡ written (answers_to (book_of t) (first_of es i)) w

module _ (t : Tables) (es : List Event) (w : List ℤ) (r : Taken t es w) where
  abbrev b : Book
  b = book_of t

  sound-after : (l : List Instruction) → sound (book_after b l) ≡ true
  sound-after l = book_after-keeps-sound b l (facts-sound b (sound-book t r.sound))

  pub after_none : After t es w 0 t w
  unfolding book_after answers_to
  after_none = record {
    within = omega arith;
    size = refl;
    tables = sym (tables_of-book_of t r.sound);
    answers = sym (written_none w);
  }

  module _ (i : ℕ) (u : Tables) (v : List ℤ) (h : After t es w i u v) where
    -- the tables are sound again
    pub after-sound : sound_tables u ≡ true
    after-sound = rw h.tables (sound_tables-tables_of (book_after b (first_of es i)) (sound-after (first_of es i)))

    read-after : book_of u ≡ book_after b (first_of es i)
    read-after = rw h.tables (book_of-sound (book_after b (first_of es i)) (sound-after (first_of es i)))

    module _ (below : i < length es) where
      -- there is room for the next answer
      pub after-room : AnswerIn v i
      after-room = omega (arith, h.size, r.room)

      abbrev x : Event
      x = get_or es i no_event

      abbrev e : Instruction
      e = instruction_of x

      next : first_of es (i + 1) ≡ first_of es i ++ (e ∷ [])
      next =
          rw (add-one) (take-suc (map instruction_of es) i (instruction_of no_event) (rw (length-map es instruction_of) below)
          ∙ ap (λ (y : Instruction). first_of es i ++ (y ∷ [])) (get_or-map instruction_of es i no_event))

      count : length (answers_to b (first_of es i)) ≡ i
      count = length-answers_to b (first_of es i) ∙ length-take-le i (map instruction_of es) (rw (length-map es instruction_of) h.within)

      book-next : book_after b (first_of es (i + 1)) ≡ (receive (book_of u) e).book
      unfolding book_after
      book-next = rw (next, book_after-append b (first_of es i) (e ∷ []), read-after)

      answers_next : answers_to b (first_of es (i + 1)) ≡ answers_to b (first_of es i) ++ ((receive (book_of u) e).answer ∷ [])
      unfolding answers_to
      answers_next = rw (next, answers_to-append b (first_of es i) (e ∷ []), read-after)

      -- one event more
      pub after_more : (u' : Tables) (v' : List ℤ) → length v' ≡ length v → RecordPosted u u' v v' i x → After t es w (i + 1) u' v'
      after_more u' v' n p = record {
        within = omega arith;
        size = n ∙ h.size;
        tables = rw book-next p.tables;
        answers = rw answers_next (p.answers ∙ written-more);
      }
        where
          a : Answer
          a = (receive (book_of u) e).answer

          written-more : put_all v (i * answer_width) 0 (answer_words a) ≡ written (answers_to b (first_of es i) ++ (a ∷ [])) w
          written-more =
              let z = written_next (answers_to b (first_of es i)) a w (rw count (omega (arith, r.room))) in
              rw h.answers (rw count at z)

    -- after the last
    pub after-all : length es ≤ i → Gives (batch_call t es w) (pos 0) u v
    unfolding batch_call
    after-all past =
        let l : first_of es i ≡ map instruction_of es = take_all i (map instruction_of es) (rw (length-map es instruction_of) past) in
        record { number = rw r.refusal; tables = rw r.refusal (rw l at h.tables); answers = rw r.refusal (rw l at h.answers) }
