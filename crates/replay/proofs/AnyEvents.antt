-- Any list of events keeps book and replay alike: the one induction over the list.
use mathlib.Core.Path.{◌≡◌, refl, ◌∙◌}
use mathlib.Core.Bool.{Bool, true, false, cond}
use Prim.Native.Nat.{ℕ}
use mathlib.Core.List.{List, [], ◌∷◌, ◌++◌}
use borrow.Author.Tests.{eqb-true}
use Rattle.lists.specs.Tests.{◌is◌}
use Rattle.rules.specs.Book.{Instruction, Book}
use Rattle.rules.specs.Successors.{forwarded}
use Rattle.rules.specs.Refusals.{answer_number}
use Rattle.rules.specs.Posting.{receive, book_after}
use Rattle.rules.specs.Soundness.{sound}
use Rattle.rules.proofs.SoundnessLaws.{sound-facts}
use Rattle.rules.proofs.PostingLaws.{post-accepted, post-refused}
use Rattle.preservation.proofs.SoundKept.{post-keeps-sound}
use Rattle.replay.specs.Replay.{Replay, Report, settled_replay, step_of, replay_one, replay}
use Rattle.replay.specs.Demand3.{reports_of}
use Rattle.replay.proofs.Relation.{Agrees}
use Rattle.replay.proofs.SoundRows.{stage-length}
use Rattle.replay.proofs.PassedOn.{step-forwarded, proper-forwarded}
use Rattle.replay.proofs.AnyEvent.{accepted-proper, event-agrees}
use Rattle.replay.proofs.FeesAlong.{FeesOf, later, Advanced, report-advanced, fees-advance, Ends, ends_more}

-- where a list of events stands: a sound book, a replay like it, and the days on which stages were reached
pub record Underway (b : Book) (p : Replay) (days : ℕ → ℕ → ℕ) : Type 0 where
  pub is-sound : sound b ≡ true
  pub alike : Agrees b p
  pub fees : FeesOf p days

-- where it ends, seen from p: the book, and the reports hs from here on
pub record Ended (b : Book) (p : Replay) (days : ℕ → ℕ → ℕ) (hs : List Report) : Type 0 where
  pub is-sound : sound b ≡ true
  pub alike : Agrees b (replay p hs)
  pub schedule : (replay p hs).schedule ≡ p.schedule
  pub fees : Ends p days hs

abbrev report_of : Book → Instruction → Report
report_of b e = record { event = e; accepted = answer_number b (forwarded b e) is 0 }

-- ---- one event

report-agrees : (b : Book) (p : Replay) (e : Instruction) → sound b ≡ true → Agrees b p → Agrees (receive b e).book (replay_one p (report_of b e))
unfolding replay_one
report-agrees b p e s a = go (answer_number b (forwarded b e) is 0) refl
  where
    go : (v : Bool) → answer_number b (forwarded b e) is 0 ≡ v → Agrees (receive b e).book (cond v (settled_replay (step_of e.kind p e)) p)
    go true z = rw (post-accepted b (forwarded b e) z, ← (step-forwarded b p a e)) (event-agrees b (forwarded b e) (eqb-true _ _ z) p (sound-facts b s) a)
    go false z = rw (post-refused b (forwarded b e) z) a

advanced : (b : Book) (p : Replay) (e : Instruction) → Advanced p (replay_one p (report_of b e))
advanced b p e = report-advanced p (report_of b e) (λ z. proper-forwarded b e (accepted-proper b (forwarded b e) (eqb-true _ _ z)))

event-underway : (b : Book) (p : Replay) (days : ℕ → ℕ → ℕ) (e : Instruction) → Underway b p days
    → Underway (receive b e).book (replay_one p (report_of b e)) (later p (replay_one p (report_of b e)) days)
event-underway b p days e s = record {
  is-sound = post-keeps-sound b (forwarded b e) s.is-sound;
  alike = report-agrees b p e s.is-sound s.alike;
  fees = fees-advance p (replay_one p (report_of b e)) days
      (rw s.alike.schedule at (stage-length b (sound-facts b s.is-sound).near)) (advanced b p e) s.fees;
}

-- ---- events in order, and then the reports hs

pub events-ended : (end : Book) (hs : List Report) (es : List Instruction) (b : Book) (p : Replay) (days : ℕ → ℕ → ℕ) → Underway b p days
    → ((q : Replay) (then : ℕ → ℕ → ℕ) → Underway (book_after b es) q then → Ended end q then hs) → Ended end p days (reports_of b es ++ hs)
unfolding book_after reports_of replay
events-ended end hs [] b p days s f = f p days s
events-ended end hs (e ∷ es) b p days s f =
    let q : Replay = replay_one p (report_of b e) in
    let r : Ended end q (later p q days) (reports_of (receive b e).book es ++ hs) = events-ended end hs es (receive b e).book q (later p q days) (event-underway b p days e s) f in
    record {
      is-sound = r.is-sound;
      alike = r.alike;
      schedule = r.schedule ∙ (advanced b p e).schedule;
      fees = ends_more p days (report_of b e) (reports_of (receive b e).book es ++ hs) (advanced b p e) r.fees;
    }
