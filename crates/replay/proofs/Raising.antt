-- A tick's fourth step keeps the relation: a toll rises exactly when this tick gave it its (stage + 1) × L-th open day, and the same fees
-- are added.
use mathlib.Core.Path.{◌≡◌, refl, sym, ap, ◌∙◌}
use mathlib.Core.Bool.{Bool, true, false, not, cond, true≢false}
use Prim.Native.Nat.{ℕ, ◌+◌, ◌*◌, ◌<◌}
use native.Mathlib.Omega.{arith}
use native.Mathlib.Decide.{dec_lt}
use mathlib.Core.List.{List, map}
use lib.ListN.{length, get_or}
use borrow.Author.Tests.{eqb-true, eq-eqb, not-true}
use Rattle.lists.proofs.TestLaws.{and3}
use Rattle.lists.proofs.ListLaws.{map_at}
use Rattle.lists.proofs.PairLaws.{pairs-in}
use Rattle.rules.specs.Rows.{Row, kind_toll, last_stage, blank, with_due, with_mark, toll, held_toll, held, unsettled}
use Rattle.rules.specs.Book.{Book}
use Rattle.rules.specs.Events.{release}
use Rattle.rules.specs.Tick.{rises, raise}
use Rattle.rules.specs.SoundFacts.{Sound}
use Rattle.preservation.proofs.TickSteps.{Rising, rising, risen, today, unraised, unraised-length, unraised-keeps}
use Rattle.preservation.proofs.OpenTolls.{open_stays}
use Rattle.replay.specs.Entries.{Entry, no_entry, settle_all_entries}
use Rattle.replay.specs.Replay.{Replay, gains, count_day}
use Rattle.replay.proofs.Relation.{CountsOf, Match, Agrees}
use Rattle.replay.proofs.SoundRows.{stage-length}
use Rattle.replay.proofs.HoldsEnded.{gains-same, unraised-agrees}
use Rattle.replay.proofs.EntryLaws.{bare_entry, settle-bare-entry, count-open}

-- ---- a row, before the tick and before the raising

pub free-toll : (rows : List Row) (r : Row) → r.kind ≡ kind_toll → held_toll r ≡ false → held rows r ≡ false
unfolding held
free-toll rows r t f = rw (f, t)

module _ (b : Book) (p : Replay) (sound : Sound b) (a : Agrees b p) where
  abbrev L : ℕ
  L = b.schedule.stage

  abbrev pub unraised_entries : List Entry
  unraised_entries = settle_all_entries (length p.notes) (map count_day p.entries)

  module _ (k : ℕ) (h : k < length b.rows) where
    abbrev r : Row
    r = get_or b.rows k blank

    abbrev x : Entry
    x = get_or p.entries k no_entry

    abbrev s : Row
    s = get_or (unraised b) k blank

    abbrev y : Entry
    y = get_or unraised_entries k no_entry

    pub old : Match 0 b.day L r x
    old = (pairs-in blank no_entry a.rows k h).is

    pub new : Match 1 (today b) L s y
    new = (pairs-in blank no_entry (unraised-agrees b p sound.near a) k (rw (unraised-length b) h)).is

    -- an open toll has no money beside it, so settlement leaves it
    pub gaining-stays : gains x ≡ true → s ≡ r
    gaining-stays g =
        let q = and3 (toll r) (unsettled r) (not (held_toll r)) (sym (gains-same r x old.line) ∙ g) in
        open_stays b sound k h (eqb-true _ _ q.0) (not-true _ q.2) q.1

    pub kind-same : s.kind ≡ r.kind
    kind-same = unraised-keeps b (λ q. q.kind) (λ q. refl) (λ q t. unfold release in refl) k

    pub account-same : s.account ≡ r.account
    account-same = unraised-keeps b (λ q. q.account) (λ q. refl) (λ q t. unfold release in refl) k

    pub mark-same : s.mark ≡ r.mark
    mark-same = unraised-keeps b (λ q. q.mark) (λ q. refl) (λ q t. unfold release in refl) k

    pub reference-same : s.reference ≡ r.reference
    reference-same = unraised-keeps b (λ q. q.reference) (λ q. refl) (λ q t. unfold release in refl) k

    pub toll-same : toll s ≡ toll r
    toll-same = rw kind-same

    pub open-same : y.open-days ≡ x.open-days + cond (gains x) 1 0
    open-same =
        let e : bare_entry y ≡ bare_entry (get_or (map count_day p.entries) k no_entry) = settle-bare-entry (length p.notes) (map count_day p.entries) k in
        let d : get_or (map count_day p.entries) k no_entry ≡ count_day x = map_at count_day p.entries k no_entry (unfold count_day gains in refl) in
        ap (λ (q : Entry). q.open-days) e ∙ ap (λ (q : Entry). q.open-days) d ∙ count-open x

    -- a toll that rises got this stage's last open day by this tick
    pub record Reached : Type 0 where
      pub gained : gains x ≡ true
      pub under : s.mark < last_stage
      pub days : x.open-days + 1 ≡ s.mark * L + L

    pub rises-reached : rises (today b) s ≡ true → Reached
    rises-reached e = go (gains x) refl
      where
        q : Rising (today b) s
        q = rising (today b) s e

        is-toll : toll s ≡ true
        is-toll = eq-eqb s.kind kind_toll q.toll

        counted : y.open-days ≡ s.mark * L + L
        counted = let c : y.open-days + s.due ≡ s.mark * L + L + today b = rw q.free at (new.counts.clock is-toll q.open-still q.under) in omega (arith, q.due)

        go : (v : Bool) → gains x ≡ v → Reached
        go true g = let o : y.open-days ≡ x.open-days + 1 = rw g at open-same in record { gained = g; under = q.under; days = omega (arith, counted) }
        go false g =
            let o : y.open-days ≡ x.open-days + 0 = rw g at open-same in
            let l : x.open-days < s.mark * L + L + 0 = rw (← mark-same) at (old.counts.high (sym toll-same ∙ is-toll) (rw mark-same at q.under)) in
            absurd (omega (arith, counted))

    pub reached-rises : Reached → rises (today b) s ≡ true
    reached-rises c =
        let e : s ≡ r = gaining-stays c.gained in
        let q = and3 (toll r) (unsettled r) (not (held_toll r)) (sym (gains-same r x old.line) ∙ c.gained) in
        let t : toll s ≡ true = rw e q.0 in
        let u : unsettled s ≡ true = rw e q.1 in
        let f : held_toll s ≡ false = rw e (not-true _ q.2) in
        let o : y.open-days ≡ x.open-days + 1 = rw c.gained at open-same in
        let k : y.open-days + s.due ≡ s.mark * L + L + today b = rw f at (new.counts.clock t u c.under) in
        risen (today b) s (record { toll = eqb-true s.kind kind_toll t; free = f; open-still = u; under = c.under; due = omega (arith, c.days) })

    -- a toll that does not rise has not got it
    not-reached : rises (today b) s ≡ false → toll s ≡ true → s.mark < last_stage → y.open-days < s.mark * L + L
    not-reached e i n = go (dec_lt y.open-days (s.mark * L + L)) (gains x) refl
      where
        go : Dec (y.open-days < s.mark * L + L) → (v : Bool) → gains x ≡ v → y.open-days < s.mark * L + L
        go (yes l) v g = l
        go (no l) true g =
            let o : y.open-days ≡ x.open-days + 1 = rw g at open-same in
            absurd (true≢false (sym (reached-rises (record { gained = g; under = n; days = omega (arith, new.counts.high i n) })) ∙ e))
        go (no l) false g =
            let o : y.open-days ≡ x.open-days + 0 = rw g at open-same in
            let m : x.open-days < s.mark * L + L + 0 = rw (← mark-same) at (old.counts.high (sym toll-same ∙ i) (rw mark-same at n)) in
            omega arith

    -- the row after the raising
    pub raise-match : Match 0 (today b) L (raise b.schedule (today b) s) y
    unfolding raise
    raise-match = go (rises (today b) s) refl
      where
        t : CountsOf 1 (today b) L s y
        t = new.counts

        go : (v : Bool) → rises (today b) s ≡ v → Match 0 (today b) L (cond v (with_due (s.due + L) (with_mark (s.mark + 1) s)) s) y
        go true e =
            let c = rises-reached e in
            let q = rising (today b) s e in
            let f = new.line in
            let o : y.open-days ≡ x.open-days + 1 = rw c.gained at open-same in
            let l = stage-length b sound.near in
            record {
              line = record { kind = f.kind; account = f.account; day = f.day; amount = f.amount; settled = f.settled; hold = f.hold };
              counts = record {
                ticks = t.ticks;
                fresh = t.fresh;
                clock = λ i u n. rw q.free (omega (arith, c.days, q.due));
                low = λ i. omega (arith, c.days);
                high = λ i n. omega (arith, c.days);
              };
            }
        go false e = record {
          line = new.line;
          counts = record {
            ticks = t.ticks;
            fresh = t.fresh;
            clock = t.clock;
            low = t.low;
            high = λ i n. omega (arith, not-reached e i n);
          };
        }
