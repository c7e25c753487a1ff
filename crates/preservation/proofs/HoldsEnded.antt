-- A tick's first steps keep a book nearly sound: the day rises, holds begun 30 days ago end, settlement.
use mathlib.Core.Path.{◌≡◌, refl, sym, ap, ◌∙◌}
use mathlib.Core.Logic.{◌≢◌}
use mathlib.Core.Bool.{Bool, true, false, not, cond, ◌&&◌}
use Prim.Native.Nat.{ℕ, suc, ◌+◌, ◌≤◌}
use native.Mathlib.Omega.{arith}
use mathlib.Core.List.{List, map}
use lib.ListN.{get_or}
use lib.Dec.{eqb, leb, ltb}
use borrow.Author.Tests.{leb-true, le-leb, eqb-true, eqb-false}
use Rattle.records.specs.Codes.{kind_toll}
use Rattle.lists.specs.Tests.{◌from◌to◌, ◌implies◌}
use Rattle.lists.specs.Lists.{sum_by, only, count}
use Rattle.lists.proofs.TestLaws.{and_left, and_right, and_both}
use Rattle.lists.proofs.SumLaws.{sum_by-map, sum_by-ext}
use Rattle.records.specs.Limits.{final_day}
use Rattle.rules.specs.Rows.{Row, blank, remaining, held_toll, unsettled, source_of, debit_of}
use Rattle.rules.specs.Settlement.{money, used, paid, owed}
use Rattle.rules.specs.Book.{Account, unused, Book}
use Rattle.rules.specs.Events.{release}
use Rattle.rules.specs.Tick.{next_day, hold_ends, end_hold, end_holds, before_raising}
use Rattle.rules.specs.Opening.{day_fits}
use Rattle.rules.specs.Soundness.{settled_fits, row_day_fits, due_within, hold_fits, request_fits, decline_fits, returned_of, returned_fits, used_is_paid, closed_clear}
use Rattle.rules.specs.SoundFacts.{Shape, Live, Standing, SumsFit, Near}
use Rattle.preservation.proofs.SettledLaws.{hold-free, settled-near}
use Rattle.preservation.proofs.KeepingLaws.{framed-near, framed-map, core}
use Rattle.preservation.proofs.DisputeKept.{HeldToll, held-is, live-released, shape-released}
use Rattle.preservation.proofs.TickSteps.{end_hold-keeps}

-- ---- every row changed in its due day, dispute and hold alone

counted-map : (f : Row → Row) → ((r : Row) → core (f r) ≡ core r) → (rows : List Row) (n : ℕ) (x : Account) → SumsFit rows n x → SumsFit (map f rows) n x
unfolding returned_fits used_is_paid closed_clear returned_of used paid money owed only source_of debit_of count
counted-map f same rows n x c = record {
  returned = rw (sum-map (λ y. cond (returned_of n y) 1 0) (λ y. refl)) c.returned;
  used-is-paid = rw (sum-map (only (source_of n) (λ y. y.settled)) (λ y. refl), sum-map (only (debit_of n) (λ y. y.settled)) (λ y. refl)) c.used-is-paid;
  clear = rw (sum-map (only (source_of n) remaining) (λ y. refl), sum-map (only (debit_of n) remaining) (λ y. refl)) c.clear;
}
  where
    sum-map : (g : Row → ℕ) → ((y : Row) → g (core y) ≡ g y) → sum_by g (map f rows) ≡ sum_by g rows
    sum-map g s = sum_by-map g f rows ∙ sum_by-ext (λ y. g (f y)) g rows (λ y. sym (s (f y)) ∙ ap g (same y) ∙ s y)

-- ---- a day later

leb-up : (m n : ℕ) → leb m n ≡ true → leb m (n + 1) ≡ true
leb-up m n e = le-leb m (n + 1) (omega (arith, leb-true m n e))

shape-later : (today : ℕ) (xs : List Account) (rows : List Row) (n : ℕ) (r : Row) → Shape today xs rows n r → Shape (today + 1) xs rows n r
unfolding row_day_fits
shape-later today xs rows n r s = record {
  kind = s.kind;
  amount = s.amount;
  mark = s.mark;
  words = s.words;
  none = s.none;
  account = s.account;
  reference = s.reference;
  passage = s.passage;
  fees = s.fees;
  day = and_both (leb 1 r.day) _ (and_left (leb 1 r.day) _ s.day) (leb-up r.day today (and_right (leb 1 r.day) _ s.day));
}

standing-later : (today : ℕ) (x : Account) → Standing today x → Standing (today + 1) x
unfolding request_fits decline_fits
standing-later today x s = record {
  state = s.state;
  zero = s.zero;
  request = and_both (eqb x.state 1 implies eqb x.request 0) _ (and_left _ _ s.request) (later (leb 2 x.state) (and_right (eqb x.state 1 implies eqb x.request 0) _ s.request));
  topup = s.topup;
  decline = leb-up x.declined today s.decline;
}
  where
    later : (t : Bool) → (t implies x.request from 1 to today) ≡ true → (t implies x.request from 1 to (today + 1)) ≡ true
    later true e = and_both (leb 1 x.request) _ (and_left (leb 1 x.request) _ e) (leb-up x.request today (and_right (leb 1 x.request) _ e))
    later false e = refl

-- ---- a row whose hold may end

ending : (today : ℕ) (r : Row) → hold_ends today r ≡ true → (r.kind ≡ kind_toll) × (r.dispute ≡ 1)
unfolding hold_ends
ending today r e = let h = and_left (held_toll r) _ e in (eqb-true r.kind 1 (and_left (eqb r.kind 1) _ h), eqb-true r.dispute 1 (and_right (eqb r.kind 1) _ h))

-- the holds that stay, and what was due: old facts at the new day
live-stays : (today L : ℕ) (r : Row) → hold_ends (today + 1) r ≡ false → Live today today L r → Live today (today + 1) L r
unfolding hold_ends settled_fits due_within hold_fits
live-stays today L r n v = record { settled = v.settled; due = due (eqb r.kind 1) v.due; hold = hold (held_toll r) refl }
  where
    later : Bool
    later = cond (unsettled r && not (held_toll r) && ltb r.mark 4) (ltb today r.due) (leb 1 r.due)

    due : (t : Bool) → t implies leb r.due (today + L) && later ≡ true → t implies leb r.due (today + 1 + L) && later ≡ true
    due true e =
        let l : r.due ≤ today + L = leb-true r.due (today + L) (and_left (leb r.due (today + L)) later e) in
        and_both (leb r.due (today + 1 + L)) later (le-leb r.due (today + 1 + L) (omega arith)) (and_right (leb r.due (today + L)) later e)
    due false e = refl

    hold : (t : Bool) → held_toll r ≡ t → hold_fits (today + 1) L r ≡ true
    hold true e =
        let k : r.kind ≡ kind_toll = eqb-true r.kind 1 (and_left (eqb r.kind 1) _ e) in
        let d : r.dispute ≡ 1 = eqb-true r.dispute 1 (and_right (eqb r.kind 1) _ e) in
        let w : HeldToll today L r = held-is today L r k d v.hold in
        let recent : today ≤ r.hold + 29 = w.recent in
        let begun : r.hold ≤ today = w.begun in
        let ne : r.hold + 30 ≢ today + 1 = eqb-false (r.hold + 30) (today + 1) (rw e at n) in
        rw (
          k,
          d,
          le-leb 1 r.hold w.start,
          le-leb (today + 1) (r.hold + 29) (omega arith),
          le-leb r.hold (today + 1) (omega arith),
          w.open-still,
          le-leb r.due (r.hold + L) w.due-by,
        ) w.due-after
    hold false e = hold-free (eqb r.kind 1) (eqb r.dispute 1) _ _ (eqb r.hold 0) e v.hold

live-end_hold : (today L : ℕ) (r : Row) → Live today today L r → Live today (today + 1) L (end_hold (today + 1) r)
unfolding end_hold
live-end_hold today L r v = go (hold_ends (today + 1) r) refl
  where
    go : (t : Bool) → hold_ends (today + 1) r ≡ t → Live today (today + 1) L (cond t (release (today + 1) r) r)
    go true e = let f = ending (today + 1) r e in live-released today today today (today + 1) L r f.0 f.1 (omega arith) (omega arith) v
    go false e = live-stays today L r e v

shape-end_hold : (today : ℕ) (xs : List Account) (rows : List Row) (n : ℕ) (r : Row) → Shape today xs rows n r → Shape today xs rows n (end_hold today r)
unfolding end_hold
shape-end_hold today xs rows n r s = go (hold_ends today r) refl
  where
    go : (t : Bool) → hold_ends today r ≡ t → Shape today xs rows n (cond t (release today r) r)
    go true e = shape-released today today xs rows n r (ending today r e).0 s
    go false e = s

pub end_holds-near : (b : Book) → Near b.day b → b.day ≢ final_day → Near b.day (end_holds (next_day b))
unfolding end_holds next_day day_fits end_hold hold_ends
end_holds-near b s ne =
    let f : Row → Row = end_hold (b.day + 1) in
    let same : (r : Row) → core (f r) ≡ core r = end_hold-keeps core (λ r t. unfold release in refl) (b.day + 1) in
    let d1 : 1 ≤ b.day = leb-true 1 b.day (and_left (leb 1 b.day) _ s.day) in
    let d2 : b.day ≤ final_day = leb-true b.day final_day (and_right (leb 1 b.day) _ s.day) in
    framed-near b.day (end_holds (next_day b))
    (framed-map b.day (next_day b) f refl
    (λ r. record { kind = ap (λ (x : Row). x.kind) (same r); account = ap (λ (x : Row). x.account) (same r); reference = ap (λ (x : Row). x.reference) (same r) })
    (and_both _ _ (le-leb 1 (b.day + 1) (omega arith)) (le-leb (b.day + 1) final_day (omega arith))) s.schedule s.lists s.holidays s.sizes s.fits
    (λ k l. shape-end_hold (b.day + 1) b.accounts b.rows (suc k) (get_or b.rows k blank) (shape-later b.day b.accounts b.rows (suc k) (get_or b.rows k blank) (s.shape k l)))
    (λ k l. live-end_hold b.day b.schedule.stage (get_or b.rows k blank) (s.live k l))
    (λ k h. standing-later b.day (get_or b.accounts k unused) (s.standing k h)) s.successors)
    (λ k h. counted-map f same b.rows (suc k) (get_or b.accounts k unused) (s.counted k h))

pub before_raising-near : (b : Book) → Near b.day b → b.day ≢ final_day → Near b.day (before_raising b)
unfolding before_raising
before_raising-near b s ne = settled-near b.day (end_holds (next_day b)) (end_holds-near b s ne)
