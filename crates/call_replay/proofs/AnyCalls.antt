-- Any list of calls keeps book and replay alike: a call posts events in order, or leaves the tables.
use mathlib.Core.Path.{◌≡◌, refl, sym, ap}
use mathlib.Core.Bool.{Bool, true, false, cond}
use Prim.Native.Nat.{ℕ}
use mathlib.Core.List.{List, [], ◌∷◌, map}
use Rattle.records.specs.Encoding.{instruction_of, instruction_from}
use Rattle.lists.specs.Tests.{◌is◌, first}
use Rattle.rules.specs.Book.{Instruction}
use Rattle.rules.specs.Successors.{forwarded}
use Rattle.rules.specs.Refusals.{answer_number}
use Rattle.rules.specs.Posting.{Posted, receive, book_after}
use Rattle.rules.specs.Soundness.{sound}
use Rattle.rules.specs.Tables.{Tables, book_of, tables_of, sound_tables}
use Rattle.rules.proofs.SoundnessLaws.{sound-facts, facts-sound}
use Rattle.rules.proofs.PostingLaws.{post-refused, post-number}
use Rattle.rules.proofs.TableLaws.{book_of-tables_of, sound_tables-tables_of, sound-book}
use Rattle.preservation.proofs.SoundKept.{book_after-keeps-sound}
use Rattle.call_rules.specs.Calls.{event_refusals, event_call, batch_refusals, batch_call}
use Rattle.replay.specs.Replay.{Replay, Report, replay}
use Rattle.replay.specs.Demand3.{reports_of}
use Rattle.replay.proofs.FeesAlong.{ends-none}
use Rattle.replay.proofs.AnyEvents.{Underway, Ended, events-ended}
use Rattle.call_replay.specs.CallLists.{Call, single, batch, called, tables_after, reports_if, reports_at, reports}

-- ---- a call: the events that it stands for

record Posts (t : Tables) (hs : List Report) (u : Tables) : Type 0 where
  events : List Instruction
  reported : hs ≡ reports_of (book_of t) events
  book : book_of u ≡ book_after (book_of t) events
  tables-sound : sound_tables u ≡ true

-- tables that are not touched, and the tables of the book after events
untouched : (t : Tables) → sound_tables t ≡ true → Posts t [] t
unfolding reports_of book_after
untouched t s = record { events = []; reported = refl; book = refl; tables-sound = s }

posted : (t : Tables) → sound_tables t ≡ true → (es : List Instruction) → Posts t (reports_of (book_of t) es) (tables_of (book_after (book_of t) es))
posted t s es =
    let b : sound (book_after (book_of t) es) ≡ true = book_after-keeps-sound (book_of t) es (facts-sound (book_of t) (sound-book t s)) in
    record {
      events = es;
      reported = refl;
      book = book_of-tables_of (book_after (book_of t) es) (sound-facts _ b).near;
      tables-sound = sound_tables-tables_of (book_after (book_of t) es) b;
    }

-- a single event, posted or refused
one-posts : (t : Tables) → sound_tables t ≡ true → (e : Instruction)
    → Posts t (reports_of (book_of t) (e ∷ [])) (cond ((receive (book_of t) e).answer.number is 0) (tables_of (receive (book_of t) e).book) t)
unfolding book_after
one-posts t s e = rw (post-number (book_of t) f) (go (answer_number (book_of t) f is 0) refl)
  where
    f : Instruction
    f = forwarded (book_of t) e

    go : (v : Bool) → answer_number (book_of t) f is 0 ≡ v → Posts t (reports_of (book_of t) (e ∷ [])) (cond v (tables_of (receive (book_of t) e).book) t)
    go true z = posted t s (e ∷ [])
    go false z = record { events = e ∷ []; reported = refl; book = sym (ap (λ (x : Posted). x.book) (post-refused (book_of t) f z)); tables-sound = s }

call-posts : (t : Tables) → sound_tables t ≡ true → (c : Call) → Posts t (reports_at t c) (called t c).tables
unfolding reports_at reports_if called event_call batch_call
call-posts t s (single e answers) = go (first (event_refusals t e answers) is 0) refl
  where
    go : (v : Bool) → first (event_refusals t e answers) is 0 ≡ v → Posts t (reports_at t (single e answers)) (called t (single e answers)).tables
    go true z = rw z (one-posts t s (instruction_from e))
    go false z = rw (z, z) (untouched t s)
call-posts t s (batch es answers) = go (first (batch_refusals t es answers) is 0) refl
  where
    go : (v : Bool) → first (batch_refusals t es answers) is 0 ≡ v → Posts t (reports_at t (batch es answers)) (called t (batch es answers)).tables
    go true z = rw z (posted t s (map instruction_of es))
    go false z = rw z (untouched t s)

-- ---- any list of calls

pub calls-ended : (cs : List Call) (t : Tables) (p : Replay) (days : ℕ → ℕ → ℕ) → sound_tables t ≡ true → Underway (book_of t) p days
    → Ended (book_of (tables_after t cs)) p days (reports t cs)
unfolding tables_after reports replay
calls-ended [] t p days s g = record { is-sound = g.is-sound; alike = g.alike; schedule = refl; fees = ends-none p days g.fees }
calls-ended (c ∷ cs) t p days s g =
    let u = call-posts t s c in
    rw u.reported
    (events-ended (book_of (tables_after (called t c).tables cs)) (reports (called t c).tables cs) u.events (book_of t) p days g
    (λ q then h. calls-ended cs (called t c).tables q then u.tables-sound (rw u.book h)))
