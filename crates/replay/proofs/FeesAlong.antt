-- The fees of each toll along a list of reports: by stages reached, each on the day of the report that reached it.
use mathlib.Core.Path.{◌≡◌, refl, sym, ap, ap₂, ◌∙◌}
use mathlib.Core.Bool.{Bool, true, false, cond, ◌&&◌, true≢false}
use Prim.Native.Nat.{ℕ, ◌+◌, ◌*◌, ◌≤◌}
use native.Mathlib.Omega.{arith}
use native.Mathlib.Decide.{ℕ_discrete}
use mathlib.Core.List.{List, [], ◌∷◌, ◌++◌, append-nil}
use lib.Dec.{leb}
use borrow.Author.Tests.{le-leb, leb-true}
use Rattle.records.specs.Codes.{event_tick}
use Rattle.records.specs.declared.Instruction.{Instruction}
use Rattle.lists.specs.Tests.{◌is◌}
use Rattle.lists.proofs.CollectLaws.{collect}
use Rattle.rules.specs.Schedule.{Schedule}
use Rattle.replay.specs.Entries.{entry_no}
use Rattle.replay.specs.Replay.{Replay, Report, settled_replay, gains, reaches, close_all, tick_replay, step_of, replay_one, replay}
use Rattle.replay.specs.Demand3.{day_reached}
use Rattle.replay.proofs.StageFees.{fees_at, fees_at-none, fees_at-same, fees_at-more}
use Rattle.replay.proofs.ReplaySteps.{fee_share, steady_self, Stepped, Proper, step-steady, settle-steady}
use Rattle.replay.proofs.TickFees.{tick-fees, tick-opened}

-- toll n's open days
abbrev pub opened : Replay → ℕ → ℕ
opened p n = (entry_no p.entries n).open-days

-- stage k is reached
abbrev pub attained : Replay → ℕ → ℕ → Bool
attained p n k = leb (k * p.schedule.stage) (opened p n)

-- the fees that name toll n are those of the stages reached; `days n k` is the day of stage k
abbrev pub FeesOf : Replay → (ℕ → ℕ → ℕ) → Type 0
FeesOf p days = (n : ℕ) → 1 ≤ n → collect (fee_share n) p.entries ≡ fees_at p.schedule (attained p n) (days n)

-- the days once p has become q
abbrev pub later : Replay → Replay → (ℕ → ℕ → ℕ) → ℕ → ℕ → ℕ
later p q days n k = cond (attained p n k) (days n k) q.day

-- ---- one report

-- from p to q, each toll that gains (w) gains an open day and the fees of the stages that it reaches
pub record Advanced (p q : Replay) : Type 0 where
  pub gained : ℕ → Bool
  pub schedule : q.schedule ≡ p.schedule
  pub counts : (n : ℕ) → opened q n ≡ opened p n + cond (gained n) 1 0
  pub fees : (n : ℕ) → 1 ≤ n → collect (fee_share n) q.entries ≡ collect (fee_share n) p.entries ++ fees_at p.schedule (λ k. gained n && opened p n + 1 is k * p.schedule.stage) (λ k. q.day)

steady-advanced : (p q : Replay) → Stepped p q → Advanced p q
unfolding fees_at
steady-advanced p q s = record {
  gained = λ n. false;
  schedule = s.schedule;
  counts = λ n. s.steady.opened n ∙ omega arith;
  fees = λ n h. s.steady.fees n h ∙ sym (append-nil _);
}

settle-advanced : (p q : Replay) → Advanced p q → Advanced p (settled_replay q)
unfolding settled_replay
settle-advanced p q a =
    let s = settle-steady _ q.entries in
    record { gained = a.gained; schedule = a.schedule; counts = λ n. s.opened n ∙ a.counts n; fees = λ n h. s.fees n h ∙ a.fees n h }

tick-advanced : (p : Replay) (e : Instruction) → Advanced p (tick_replay p e)
unfolding tick_replay close_all reaches
tick-advanced p e = record {
  gained = λ n. gains (entry_no p.entries n);
  schedule = refl;
  counts = tick-opened p e;
  fees = tick-fees p e;
}

pub report-advanced : (p : Replay) (h : Report) → (h.accepted ≡ true → Proper h.event) → Advanced p (replay_one p h)
unfolding replay_one
report-advanced p h f = go h.accepted f
  where
    e : Instruction
    e = h.event

    by_kind : Dec (e.kind ≡ event_tick) → Proper e → Advanced p (step_of e.kind p e)
    by_kind (yes q) f = rw q (unfold step_of in (tick-advanced p _))
    by_kind (no q) f = steady-advanced p (step_of e.kind p e) (step-steady e.kind p e q f.dispute f.decision)

    go : (v : Bool) → (v ≡ true → Proper e) → Advanced p (cond v (settled_replay (step_of e.kind p e)) p)
    go true f = settle-advanced p (step_of e.kind p e) (by_kind (ℕ_discrete e.kind 9) (f refl))
    go false f = steady-advanced p p (record { schedule = refl; steady = steady_self p.entries })

-- the fees after it
pub fees-advance : (p q : Replay) (days : ℕ → ℕ → ℕ) → 1 ≤ p.schedule.stage → Advanced p q → FeesOf p days → FeesOf q (later p q days)
fees-advance p q days l a f n h =
    a.fees n h ∙ ap {B = List (ℕ × ℕ)} (λ (xs : List (ℕ × ℕ)). xs ++ fees_at s (λ k. a.gained n && m + 1 is k * L) (λ k. q.day)) (f n h)
    ∙ go (a.gained n) ∙ sym (ap₂ {C = List (ℕ × ℕ)} (λ (t : Schedule) (o : ℕ). fees_at t (λ k. leb (k * t.stage) o) (later p q days n)) a.schedule (a.counts n))
  where
    s : Schedule
    s = p.schedule

    L : ℕ
    L = s.stage

    m : ℕ
    m = opened p n

    go : (v : Bool) → fees_at s (attained p n) (days n) ++ fees_at s (λ k. v && m + 1 is k * L) (λ k. q.day) ≡ fees_at s (λ k. leb (k * L) (m + cond v 1 0)) (later p q days n)
    go true = sym (fees_at-more s L m q.day (days n) l)
    go false =
        let z : m ≡ m + 0 = omega arith in
        ap {B = List (ℕ × ℕ)} (λ (xs : List (ℕ × ℕ)). fees_at s (attained p n) (days n) ++ xs) (fees_at-none s (λ k. q.day)) ∙ append-nil (fees_at s (attained p n) (days n))
        ∙ fees_at-same s (attained p n) (days n) (later p q days n) (λ k h v. rw v) ∙ ap {B = List (ℕ × ℕ)} (λ (o : ℕ). fees_at s (λ k. leb (k * L) o) (later p q days n)) z

-- ---- a list of reports

-- the fees at the end of the reports hs, as seen from p
abbrev pub Ends : Replay → (ℕ → ℕ → ℕ) → List Report → Type 0
Ends p days hs = (n : ℕ) → 1 ≤ n → collect (fee_share n) (replay p hs).entries
    ≡ fees_at p.schedule (λ k. leb (k * p.schedule.stage) (opened (replay p hs) n)) (λ k. cond (attained p n k) (days n k) (day_reached n k p hs))

pub ends-none : (p : Replay) (days : ℕ → ℕ → ℕ) → FeesOf p days → Ends p days []
unfolding replay day_reached
ends-none p days f n h = f n h ∙ fees_at-same p.schedule (attained p n) (days n) _ (λ k h v. rw v)

pub ends_more : (p : Replay) (days : ℕ → ℕ → ℕ) (h : Report) (hs : List Report) → Advanced p (replay_one p h) → Ends (replay_one p h) (later p (replay_one p h) days) hs → Ends p days (h ∷ hs)
unfolding replay day_reached
ends_more p days h hs a f n l =
    f n l ∙ ap {B = List (ℕ × ℕ)} (λ (t : Schedule). fees_at t (λ k. leb (k * t.stage) (opened (replay q hs) n)) (λ k. cond (attained q n k) (later p q days n k) (day_reached n k q hs))) a.schedule
    ∙ fees_at-same p.schedule _ _ _ (λ k b v. go k (attained p n k) (attained q n k) refl refl)
  where
    q : Replay
    q = replay_one p h

    go : (k : ℕ) (u w : Bool) → attained p n k ≡ u → attained q n k ≡ w
        → cond w (cond u (days n k) q.day) (day_reached n k q hs) ≡ cond u (days n k) (cond w q.day (day_reached n k q hs))
    go k true true e z = refl
    go k true false e z =
        let t : k * q.schedule.stage ≡ k * p.schedule.stage = ap (λ (r : Schedule). k * r.stage) a.schedule in
        let b : k * p.schedule.stage ≤ opened p n = leb-true _ _ e in
        absurd (true≢false (sym (le-leb (k * q.schedule.stage) (opened q n) (omega (arith, a.counts n))) ∙ z))
    go k false true e z = refl
    go k false false e z = refl
