-- A batch is its events sent singly, in the same order.
use mathlib.Core.Path.{◌≡◌, refl, sym, ap, ◌∙◌}
use mathlib.Core.Bool.{true}
use Prim.Native.Nat.{ℕ, ◌*◌, ◌≤◌}
use native.Mathlib.Omega.{arith}
use mathlib.Core.List.{List, [], ◌∷◌, ◌++◌, map, append-nil}
use lib.ListN.{length, drop, length-map}
use lib.Seq.{drop-length}
use lib.IntN.{ℤ}
use borrow.Author.Tests.{le-leb, le-ltb, eq-eqb}
use Rattle.records.specs.Layout.{event_width, answer_width}
use Rattle.records.specs.Encoding.{word, instruction_of, instruction_from, answer_words, write_all}
use Rattle.lists.specs.Tests.{first}
use Rattle.records.specs.Limits.{most_events}
use Rattle.rules.specs.Book.{Book}
use Rattle.rules.specs.Soundness.{sound}
use Rattle.rules.specs.Successors.{forwarded}
use Rattle.rules.specs.Posting.{receive, book_after, answers_to}
use Rattle.rules.specs.Tables.{Tables, book_of, tables_of, sound_tables}
use Rattle.call_rules.specs.Calls.{Event, event_refusals, answered, event_call, batch_call, written}
use Rattle.rules.proofs.PostingLaws.{length-answers_to}
use Rattle.call_rules.proofs.CallLaws.{batch_call-runs}
use Rattle.rules.proofs.SoundnessLaws.{facts-sound}
use Rattle.rules.proofs.TableLaws.{sound-book, tables_of-book_of, sound_tables-tables_of}
use Rattle.preservation.proofs.SoundKept.{post-keeps-sound}
use Rattle.call_rules.proofs.CallsKept.{book_of-sound, event_call-keeps-sound, book_of-event_call}
use Rattle.call_batch.specs.Singly.{event_words, sent, tables_singly, answers_singly}

-- a record's words read as the record
read-words : (x : Event) → instruction_from (event_words x) ≡ instruction_of x
unfolding event_words instruction_from instruction_of word
read-words x = refl

width : (x : Event) → length (event_words x) ≡ event_width
unfolding event_words
width x = refl

module _ (w : List ℤ) (five : length w ≡ answer_width) where
  enough : answer_width ≤ length w
  enough = omega arith

  -- ---- one event

  module _ (b : Book) (s : sound b ≡ true) (x : Event) where
    t-sound : sound_tables (tables_of b) ≡ true
    t-sound = sound_tables-tables_of b s

    runs : first (event_refusals (tables_of b) (event_words x) w) ≡ 0
    unfolding event_refusals first
    runs = rw (t-sound, eq-eqb (length (event_words x)) event_width (width x), le-ltb (length w) answer_width enough)

    sent-tables : (sent (tables_of b) w x).tables ≡ tables_of (receive b (instruction_of x)).book
    sent-tables =
        let k = book_of-event_call (tables_of b) (event_words x) w t-sound (width x) enough in
        sym (tables_of-book_of (sent (tables_of b) w x).tables (event_call-keeps-sound (tables_of b) (event_words x) w t-sound))
        ∙ ap tables_of (k ∙ rw (book_of-sound b s, read-words x))

    sent-answers : (sent (tables_of b) w x).answers ≡ answer_words (receive b (instruction_of x)).answer
    unfolding event_call answered written write_all
    sent-answers =
        let d : drop answer_width w ≡ [] = ap (λ (n : ℕ). drop n w) (sym five) ∙ drop-length w in
        let a : List ℤ = answer_words (receive b (instruction_of x)).answer in
        rw (runs, le-leb answer_width (length w) enough, book_of-sound b s, read-words x, d) (append-nil (a ++ []) ∙ append-nil a)

  -- ---- events in order

  tables-in-turn : (es : List Event) (b : Book) → sound b ≡ true → tables_singly (tables_of b) w es ≡ tables_of (book_after b (map instruction_of es))
  unfolding tables_singly book_after
  tables-in-turn [] b s = refl
  tables-in-turn (x ∷ es) b s =
      rw (sent-tables b s x) (tables-in-turn es (receive b (instruction_of x)).book (post-keeps-sound b (forwarded b (instruction_of x)) s))

  answers-in-turn : (es : List Event) (b : Book) → sound b ≡ true → answers_singly (tables_of b) w es ≡ write_all answer_words (answers_to b (map instruction_of es))
  unfolding answers_singly answers_to write_all
  answers-in-turn [] b s = refl
  answers-in-turn (x ∷ es) b s =
      rw (sent-tables b s x, sent-answers b s x, answers-in-turn es (receive b (instruction_of x)).book (post-keeps-sound b (forwarded b (instruction_of x)) s))

  -- ---- a batch

  module _ (t : Tables) (es : List Event) (answers : List ℤ) (s : sound_tables t ≡ true) (few : length es ≤ most_events) (room : length es * answer_width ≤ length answers) where
    sound-read : sound (book_of t) ≡ true
    sound-read = facts-sound (book_of t) (sound-book t s)

    -- the tables and the answers are those of the events sent singly, each with an answer table of five words
    pub batch-singly : batch_call t es answers ≡ record { number = 0; tables = tables_singly t w es; answers = answers_singly t w es ++ drop (length es * answer_width) answers }
    unfolding batch_call written
    batch-singly =
        let k : tables_singly t w es ≡ tables_of (book_after (book_of t) (map instruction_of es)) = rw (tables_of-book_of t s) at (tables-in-turn es (book_of t) sound-read) in
        let a : answers_singly t w es ≡ write_all answer_words (answers_to (book_of t) (map instruction_of es)) = rw (tables_of-book_of t s) at (answers-in-turn es (book_of t) sound-read) in
        let n : length (answers_to (book_of t) (map instruction_of es)) ≡ length es = length-answers_to (book_of t) (map instruction_of es) ∙ length-map es instruction_of in
        rw (batch_call-runs t es answers s few room, k, a, n)
