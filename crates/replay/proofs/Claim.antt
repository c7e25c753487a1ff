-- Demand 3, from the relation at the end of any list of events.
use mathlib.Core.Path.{◌≡◌, refl, sym, ap, ◌∙◌}
use mathlib.Core.Bool.{Bool, true, false, ◌&&◌}
use Prim.Native.Nat.{ℕ, zero, suc, ◌+◌, ◌*◌, ◌/◌, ◌-◌, ◌≤◌, ◌<◌, min}
use native.Mathlib.Nat.{le-div_iff_mul-le, mul-le-mul}
use native.Mathlib.Omega.{arith}
use native.Mathlib.Decide.{dec_lt}
use mathlib.Core.List.{List, [], map}
use lib.ListN.{replicate}
use lib.Dec.{leb}
use borrow.Author.Tests.{eq-eqb, lt-leb}
use Rattle.lists.specs.Tests.{◌is◌}
use Rattle.lists.specs.Lists.{one}
use Rattle.lists.proofs.PairLaws.{Pairs, none, more, pairs-to, pairs-same}
use Rattle.lists.proofs.CollectLaws.{collect, gather-collect, collect-pairs}
use Rattle.rules.specs.Schedule.{Schedule}
use Rattle.rules.specs.Rows.{Row, kind_toll, dispute_held, last_stage, blank, toll, held_toll, fee_naming}
use Rattle.rules.specs.Book.{unused, Book, row}
use Rattle.rules.specs.SoundFacts.{Sound}
use Rattle.rules.proofs.SoundnessLaws.{sound-facts}
use Rattle.replay.specs.Entries.{entry_no, is_toll}
use Rattle.replay.specs.Replay.{no_note, Replay, Report, replay}
use Rattle.replay.specs.Demand3.{line_of_row, line_of_entry, stage_of, day_reached, stage_fees, fees_naming, Demand3}
use Rattle.replay.proofs.Relation.{Match, Named, Noted}
use Rattle.replay.proofs.SoundRows.{sound-row, stage-length}
use Rattle.replay.proofs.Growing.{Place, row-place, number_at, rows-no}
use Rattle.replay.proofs.PlainEvents.{noted-no}
use Rattle.replay.proofs.RowEvents.{fee-same}
use Rattle.replay.proofs.Balances.{balance-same}
use Rattle.replay.proofs.Idle.{idle-none}
use Rattle.replay.proofs.StageFees.{stage_fees-at, fees_at-same}
use Rattle.replay.proofs.ReplaySteps.{fee_share}
use Rattle.replay.proofs.FeesAlong.{opened, attained}
use Rattle.replay.proofs.AnyEvents.{Ended}

-- ---- stages

-- n open days are m stages of L, or all four
stage-of : (L m n : ℕ) → 1 ≤ L → m ≤ last_stage → m * L ≤ n → (m < last_stage → n < m * L + L + 0) → m ≡ min last_stage (n / L)
stage-of L m n l h lo hi = go (dec_lt m last_stage)
  where
    least : m ≤ n / L
    least = (le-div_iff_mul-le {x = m} {y = n} l).1 lo

    go : Dec (m < last_stage) → m ≡ min last_stage (n / L)
    go (yes q) = below (dec_lt m (n / L))
      where
        below : Dec (m < n / L) → m ≡ min last_stage (n / L)
        below (yes w) = let u : (m + 1) * L ≤ n = (le-div_iff_mul-le {x = m + 1} {y = n} l).0 (omega arith) in let v = hi q in absurd (omega arith)
        below (no w) = omega (arith, least)
    go (no q) = omega (arith, least)

-- ---- the parts of demand 3, at the end of a list of reports

module _ (b : Book) (start : Replay) (days : ℕ → ℕ → ℕ) (hs : List Report) (ended : Ended b start days hs) where
  facts : Sound b
  facts = sound-facts b ended.is-sound

  schedule-same : b.schedule ≡ start.schedule
  schedule-same = ended.alike.schedule ∙ ended.schedule

  abbrev L : ℕ
  L = start.schedule.stage

  stage-some : 1 ≤ L
  stage-some = rw schedule-same at (stage-length b facts.near)

  stages : (n : ℕ) → (row b n).kind ≡ kind_toll → (row b n).mark ≡ stage_of L (entry_no (replay start hs).entries n)
  unfolding stage_of
  stages n k =
      let t = (rows-no ended.alike.rows n).is.counts in
      let q : toll (row b n) ≡ true = eq-eqb _ _ k in
      let s : b.schedule.stage ≡ L = ap (λ (x : Schedule). x.stage) schedule-same in
      let place : Place b.rows n = row-place b.rows n 0 k in
      let top : (row b n).mark ≤ last_stage = rw (number_at b.rows n blank place.low) at ((sound-row b facts.near (n - 1) place.high).stage (rw (number_at b.rows n blank place.low) q)) in
      stage-of L (row b n).mark (entry_no (replay start hs).entries n).open-days stage-some top (rw s at (t.low q)) (λ u. rw s at (t.high q u))

  -- the fee rows that name toll n are the fee entries that do
  fees-named : (n : ℕ) → (row b n).kind ≡ kind_toll → fees_naming n b.rows ≡ collect (fee_share n) (replay start hs).entries
  unfolding fees_naming
  fees-named n k =
      gather-collect (λ (r : Row). one {A = ℕ × ℕ} (fee_naming n r) (r.amount, r.day)) 1 b.rows
      ∙ collect-pairs (pairs-to {R = Named (Match 0 b.day b.schedule.stage) b.rows} (λ r x m. let f = m.is.line in rw (fee-same b.rows n k r x f m.toll, f.amount, f.day)) ended.alike.rows)

  fees : ((n k : ℕ) → 2 ≤ k → attained start n k ≡ false) → (n : ℕ) → (row b n).kind ≡ kind_toll
      → fees_naming n b.rows ≡ stage_fees start.schedule (row b n).mark (λ k. day_reached n k start hs)
  unfolding stage_of
  fees unreached n k =
      let s : Schedule = start.schedule in
      let m : ℕ = opened (replay start hs) n in
      let reached : ℕ → ℕ = λ j. day_reached n j start hs in
      fees-named n k
      ∙ ended.fees n (row-place b.rows n 0 k).low
      ∙ fees_at-same s (λ j. leb (j * L) m) _ reached (λ j h v. rw (unreached n j h))
      ∙ sym (stage_fees-at s L m reached stage-some)
      ∙ ap {B = List (ℕ × ℕ)} (λ (j : ℕ). stage_fees s j reached) (sym (stages n k))

  lines : map line_of_row b.rows ≡ map line_of_entry (replay start hs).entries
  lines = pairs-same (pairs-to {R = Named (Match 0 b.day b.schedule.stage) b.rows} (λ r x m. let f = m.is.line in rw (f.kind, f.account, f.day, f.amount, f.settled)) ended.alike.rows)

  held : map held_toll b.rows ≡ map (λ x. is_toll x && x.hold) (replay start hs).entries
  held = pairs-same (pairs-to {R = Named (Match 0 b.day b.schedule.stage) b.rows} (λ r x m. let f = m.is.line in rw (← f.hold, ← f.kind) (twice (r.kind is kind_toll) (r.dispute is dispute_held))) ended.alike.rows)
    where
      twice : (v w : Bool) → v && w ≡ v && (v && w)
      twice true w = refl
      twice false w = refl

  pub demand3 : ((n k : ℕ) → 2 ≤ k → attained start n k ≡ false) → Demand3 b start hs (replay start hs)
  demand3 unreached = record {
    balances = balance-same b (replay start hs).entries (pairs-to (λ r x m. m.is.line) ended.alike.rows);
    no-idle-money = idle-none b (replay start hs) facts ended.alike;
    stages = stages;
    fees = fees unreached;
    lines = lines;
    held = held;
    fee-tolls = pairs-same (pairs-to (λ r x m. m.toll) ended.alike.rows);
    closed = λ n. (noted-no b (replay start hs) ended.alike n).closed;
    successors = λ n. (noted-no b (replay start hs) ended.alike n).successor;
  }

-- ---- the opening

pub notes-noted : (n : ℕ) → Pairs Noted (replicate n unused) (replicate n no_note)
notes-noted zero = none
notes-noted (suc n) = more (record { request = refl; topup = λ h. refl; successor = refl; closed = refl }) (notes-noted n)

-- no stage is reached where there is no entry
pub none-attained : (p : Replay) → p.entries ≡ [] → 1 ≤ p.schedule.stage → (n k : ℕ) → 2 ≤ k → attained p n k ≡ false
none-attained p e l n k h =
    let z : opened p n ≡ 0 = rw e (go n) in
    let m : 2 * 1 ≤ k * p.schedule.stage = mul-le-mul h l in
    rw z (lt-leb (k * p.schedule.stage) 0 (omega arith))
  where
    go : (j : ℕ) → (entry_no [] j).open-days ≡ 0
    go zero = refl
    go (suc j) = refl
