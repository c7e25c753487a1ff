-- A tick's first steps keep the relation: the day rises, old holds end, open days and ticks are counted, and settlement follows.
use mathlib.Core.Path.{◌≡◌, refl, sym, ap, ◌∙◌}
use mathlib.Core.Bool.{Bool, true, false, not, cond, ◌&&◌, true≢false, false≢true, and-false}
use Prim.Native.Nat.{ℕ, suc, ◌+◌, ◌*◌, ◌≤◌}
use native.Mathlib.Omega.{arith}
use mathlib.Core.List.{List, map}
use lib.ListN.{length}
use lib.Dec.{eqb, ltb}
use borrow.Author.Tests.{eqb-true, eqb-false}
use Rattle.lists.specs.Tests.{◌is◌}
use Rattle.lists.proofs.TestLaws.{cond_either}
use Rattle.lists.proofs.PairLaws.{pairs-map-in, pairs-map-self, pairs-length}
use Rattle.records.specs.Limits.{hold_days}
use Rattle.rules.specs.Rows.{Row, blank, toll, held_toll, unsettled}
use Rattle.rules.specs.Book.{Book, settled}
use Rattle.rules.specs.Events.{release}
use Rattle.rules.specs.Tick.{next_day, hold_ends, end_hold, end_holds, before_raising}
use Rattle.rules.specs.SoundFacts.{Near}
use Rattle.preservation.proofs.TickSteps.{end_hold-keeps}
use Rattle.replay.specs.Entries.{Entry, no_entry, is_toll, with_hold, with_ticks, with_open_days, settle_all_entries}
use Rattle.replay.specs.Replay.{Replay, gains, count_tick, count_day}
use Rattle.replay.proofs.Relation.{SameLine, CountsOf, Match, Rows, Agrees}
use Rattle.replay.proofs.SoundRows.{SoundRow, sound-row}
use Rattle.replay.proofs.Settling.{settle_all-pairs}
use Rattle.replay.proofs.Growing.{referring, SameToll, regrow, match-keep}
use Rattle.replay.proofs.RowEvents.{release-match}

-- ---- a row whose hold may end, and its entry

-- "neither covered whole nor held"
pub gains-same : (r : Row) (x : Entry) → SameLine r x → gains x ≡ (toll r && unsettled r && not (held_toll r))
unfolding gains
gains-same r x f = rw (f.hold, f.kind, f.amount, f.settled) (go (is_toll x) (ltb x.covered x.amount) (not x.hold))
  where
    go : (a c d : Bool) → a && not (not c) && d ≡ a && c && d
    go a true d = refl
    go a false d = refl

module _ (today L : ℕ) (r : Row) (x : Entry) (m : Match 0 today L r x) where
  f : SameLine r x
  f = m.line

  t : CountsOf 0 today L r x
  t = m.counts

  -- a held toll: its ticks are counted, and its hold ends by the thirtieth
  held-ended : held_toll r ≡ true → r.hold ≤ today → Match 1 (today + 1) L (end_hold (today + 1) r) (count_day x)
  unfolding end_hold hold_ends count_day count_tick f t
  held-ended h l =
      let held : x.hold ≡ true = sym f.hold ∙ h in
      let g : gains x ≡ false = gains-same r x f ∙ rw h (and-false (toll r && unsettled r)) in
      let c : x.ticks + r.hold ≡ today = t.ticks h in
      rw (g, held, h) (go (eqb (r.hold + hold_days) (today + 1)) (eqb (x.ticks + 1) hold_days) refl refl)
    where
      disputed : r.dispute ≡ 0 → ⊥
      disputed z = false≢true (sym (and-false (toll r)) ∙ rw z at h)

      -- one more tick
      counted : Match 1 (today + 1) L r (with_hold true (with_ticks (x.ticks + 1) x))
      counted = record {
        line = record { kind = f.kind; account = f.account; day = f.day; amount = f.amount; settled = f.settled; hold = h };
        counts = record {
          ticks = λ i. omega (arith, t.ticks h);
          fresh = λ i. absurd (disputed i);
          clock = λ i u n. rw h (rw h at (t.clock i u n));
          low = t.low;
          high = λ i n. omega (arith, t.high i n);
        };
      }

      go : (v w : Bool) → eqb (r.hold + hold_days) (today + 1) ≡ v → eqb (x.ticks + 1) hold_days ≡ w
          → Match 1 (today + 1) L (cond v (release (today + 1) r) r) (with_hold (not w) (with_ticks (x.ticks + 1) x))
      go true false p q = let z : r.hold + 30 ≡ today + 1 = eqb-true _ _ p in absurd (eqb-false (x.ticks + 1) 30 q (omega (arith, t.ticks h)))
      go false true p q = let z : x.ticks + 1 ≡ 30 = eqb-true _ _ q in absurd (eqb-false (r.hold + 30) (today + 1) p (omega (arith, t.ticks h)))
      go true true p q = release-match 1 (today + 1) L r (with_hold true (with_ticks (x.ticks + 1) x)) h (omega arith) counted
      go false false p q = counted

  -- one that is not held
  free_ended : held_toll r ≡ false → Match 1 (today + 1) L (end_hold (today + 1) r) (count_day x)
  unfolding end_hold hold_ends count_day f t
  free_ended h =
      let free : x.hold ≡ false = sym f.hold ∙ h in
      let e : count_day x ≡ cond (gains x) (with_open_days (x.open-days + 1) x) x =
      ap {B = Entry} (λ (v : Bool). cond (gains x) (with_open_days (x.open-days + 1) x) (cond v (count_tick x) x)) free in
      rw (e, gains-same r x f, h) (go (toll r && unsettled r) refl)
    where
      go : (v : Bool) → toll r && unsettled r ≡ v → Match 1 (today + 1) L r (cond (v && true) (with_open_days (x.open-days + 1) x) x)
      go true e = record {
        line = record { kind = f.kind; account = f.account; day = f.day; amount = f.amount; settled = f.settled; hold = f.hold };
        counts = record {
          ticks = λ i. absurd (false≢true (sym h ∙ i));
          fresh = t.fresh;
          clock = λ i u n. rw h (let c : x.open-days + r.due ≡ r.mark * L + L + today = rw h at (t.clock i u n) in omega arith);
          low = λ i. omega (arith, t.low i);
          high = λ i n. omega (arith, t.high i n);
        };
      }
      go false e = record {
        line = f;
        counts = record {
          ticks = λ i. absurd (false≢true (sym h ∙ i));
          fresh = t.fresh;
          clock = λ i u n. absurd (true≢false (sym (rw (i, u)) ∙ e));
          low = t.low;
          high = λ i n. omega (arith, t.high i n);
        };
      }

pub ended-match : (today L accounts : ℕ) (rows : List Row) (n : ℕ) (r : Row) (x : Entry) → SoundRow today accounts rows n r → Match 0 today L r x
    → Match 1 (today + 1) L (end_hold (today + 1) r) (count_day x)
ended-match today L accounts rows n r x s m = go (held_toll r) refl
  where
    go : (v : Bool) → held_toll r ≡ v → Match 1 (today + 1) L (end_hold (today + 1) r) (count_day x)
    go true h = held-ended today L r x m h (s.holding h).past
    go false h = free_ended today L r x m h

day-toll : (x : Entry) → SameToll x (count_day x)
unfolding count_day count_tick
day-toll x =
    cond_either (λ (y : Entry). SameToll x y) (gains x) (with_open_days (x.open-days + 1) x) _ refl
    (cond_either (λ (y : Entry). SameToll x y) x.hold (with_hold (not (x.ticks + 1 is hold_days)) (with_ticks (x.ticks + 1) x)) x refl refl)

-- ---- all rows, settled

module _ (b : Book) (p : Replay) (near : Near b.day b) (a : Agrees b p) where
  pub ended-agrees : Rows (Match 1 (b.day + 1) b.schedule.stage) (map (end_hold (b.day + 1)) b.rows) (map count_day p.entries)
  ended-agrees =
      regrow b.rows p.entries (referring b near) a.rows _ _
      (pairs-map-self (end_hold (b.day + 1)) (λ r. record {
        kind = end_hold-keeps (λ s. s.kind) (λ s today. unfold release in refl) (b.day + 1) r;
        reference = end_hold-keeps (λ s. s.reference) (λ s today. unfold release in refl) (b.day + 1) r;
      }) b.rows)
      (pairs-map-self count_day day-toll p.entries)
      (pairs-map-in (end_hold (b.day + 1)) count_day blank no_entry a.rows
      (λ k h m. ended-match b.day b.schedule.stage (length b.accounts) b.rows (suc k) _ _ (sound-row b near k h) m.is))

  pub unraised-agrees : Rows (Match 1 (b.day + 1) b.schedule.stage) (before_raising b).rows (settle_all_entries (length p.notes) (map count_day p.entries))
  unfolding before_raising settled end_holds next_day
  unraised-agrees =
      rw (← (pairs-length a.notes))
      (settle_all-pairs (Match 1 (b.day + 1) b.schedule.stage) (λ r x m. m.line) (match-keep 1 (b.day + 1) b.schedule.stage) (length b.accounts) ended-agrees)
