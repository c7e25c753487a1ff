-- The tolls that rise can be told from the book before the tick: neither the holds that end nor the settlement after them change which.
use mathlib.Core.Path.{◌≡◌, refl, sym, ap, ◌∙◌}
use mathlib.Core.Bool.{Bool, true, false, false≢true}
use Prim.Native.Nat.{ℕ, ◌+◌, ◌-◌, ◌≤◌, ◌<◌}
use native.Mathlib.Omega.{arith}
use lib.ListN.{length, get_or}
use lib.Dec.{eqb}
use borrow.Author.Tests.{eqb-true, lt-ltb, ltb-true}
use Rattle.records.specs.Codes.{kind_toll}
use Rattle.lists.specs.Lists.{gather}
use Rattle.lists.proofs.TestLaws.{and_left, and_right}
use Rattle.lists.proofs.GatherLaws.{gather-same}
use Rattle.records.specs.Limits.{hold_days}
use Rattle.rules.specs.Rows.{Row, blank, held_toll}
use Rattle.rules.specs.Book.{Book}
use Rattle.rules.specs.Events.{release}
use Rattle.rules.specs.Tick.{hold_ends, rises, fee_row}
use Rattle.rules.proofs.AllocationLaws.{bare}
use Rattle.rules.proofs.SettlementAccountsLaws.{MoreSettled}
use Rattle.rules.specs.SoundFacts.{Sound}
use Rattle.preservation.proofs.DisputeKept.{HeldToll, held-is}
use Rattle.preservation.proofs.TickSteps.{end_hold-ends, end_hold-goes-on, Rising, rising, risen, today, ended, ended_at, unraised, unraised-row, unraised-length}
use Rattle.preservation.proofs.OpenTolls.{open_stays}

-- the stage and the due day of a row that settlement has grown from a released one
released-words : (day : ℕ) (r z : Row) → bare z ≡ bare (release day r) → (z.due ≡ r.due + (day - r.hold)) × (z.mark ≡ r.mark)
unfolding release
released-words day r z e = (ap (λ (x : Row). x.due) e, ap (λ (x : Row). x.mark) e)

module _ (b : Book) (s : Sound b) where
  module _ (k : ℕ) (l : k < length b.rows) where
    abbrev r : Row
    r = get_or b.rows k blank

    abbrev z : Row
    z = get_or (unraised b) k blank

    grown : MoreSettled (get_or (ended b) k blank) z
    grown = unraised-row b k

    pub riser-stays : rises (today b) r ≡ true → z ≡ r
    riser-stays e = let w = rising (today b) r e in open_stays b s k l w.toll w.free w.open-still

    -- a toll that rises after settlement would rise before it
    rises-before : rises (today b) z ≡ true → rises (today b) r ≡ true
    rises-before e = go (hold_ends (today b) r) refl
      where
        w : Rising (today b) z
        w = rising (today b) z e

        go : (v : Bool) → hold_ends (today b) r ≡ v → rises (today b) r ≡ true
        go true h =
            let d : get_or (ended b) k blank ≡ release (today b) r = ended_at b k ∙ end_hold-ends (today b) r h in
            let same : bare z ≡ bare (release (today b) r) = grown.kept ∙ ap bare d in
            let ht : held_toll r ≡ true = unfold hold_ends in and_left (held_toll r) (eqb (r.hold + hold_days) (today b)) h in
            let kind : r.kind ≡ kind_toll = eqb-true r.kind 1 (and_left (eqb r.kind 1) (eqb r.dispute 1) ht) in
            let held : r.dispute ≡ 1 = eqb-true r.dispute 1 (and_right (eqb r.kind 1) (eqb r.dispute 1) ht) in
            let f : HeldToll b.day b.schedule.stage r = held-is b.day b.schedule.stage r kind held (s.near.live k l).hold in
            let words = released-words (today b) r z same in
            let due = words.0 in
            let mark = words.1 in
            let low : r.mark < 4 = omega (arith, w.under) in
            let later : r.hold < r.due = ltb-true r.hold r.due (rw (lt-ltb r.mark 4 low) at f.due-after) in
            absurd (omega (arith, w.due, f.begun))
        go false h =
            let d : get_or (ended b) k blank ≡ r = ended_at b k ∙ end_hold-goes-on (today b) r h in
            let same : bare z ≡ bare r = grown.kept ∙ ap bare d in
            let more : r.settled ≤ z.settled = rw d at grown.grows in
            let amount : z.amount ≡ r.amount = ap (λ (x : Row). x.amount) same in
            let kind : z.kind ≡ r.kind = ap (λ (x : Row). x.kind) same in
            let under = w.under in
            let mark : z.mark ≡ r.mark = ap (λ (x : Row). x.mark) same in
            let due : z.due ≡ r.due = ap (λ (x : Row). x.due) same in
            risen (today b) r (record {
              toll = sym kind ∙ w.toll;
              free = ap (λ (x : Row). held_toll x) (sym same) ∙ w.free;
              open-still = lt-ltb r.settled r.amount (omega (arith, ltb-true z.settled z.amount w.open-still));
              under = omega arith;
              due = sym due ∙ w.due;
            })

    pub rises-same : rises (today b) z ≡ rises (today b) r
    rises-same = go (rises (today b) r) (rises (today b) z) refl refl
      where
        go : (v w : Bool) → rises (today b) r ≡ v → rises (today b) z ≡ w → w ≡ v
        go true w e f = sym f ∙ ap (rises (today b)) (riser-stays e) ∙ e
        go false true e f = absurd (false≢true (sym e ∙ rises-before f))
        go false false e f = refl

    fee-same : (n : ℕ) → fee_row b.schedule (today b) n z ≡ fee_row b.schedule (today b) n r
    fee-same n = go (rises (today b) r) refl
      where
        go : (v : Bool) → rises (today b) r ≡ v → fee_row b.schedule (today b) n z ≡ fee_row b.schedule (today b) n r
        go true e = ap (fee_row b.schedule (today b) n) (riser-stays e)
        go false e = unfold fee_row in rw (rises-same, e)

  -- the fees that are added
  pub fees-same : gather (fee_row b.schedule (today b)) (unraised b) ≡ gather (fee_row b.schedule (today b)) b.rows
  fees-same = gather-same (fee_row b.schedule (today b)) (fee_row b.schedule (today b)) 1 (unraised b) b.rows blank (unraised-length b) (λ n k e h. fee-same k (omega (arith, unraised-length b)) n)
