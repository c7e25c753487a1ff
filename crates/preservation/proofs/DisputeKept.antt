-- Sound stays sound: a dispute (event 5) and a decision against the motorist (event 6, verdict 0).
use mathlib.Core.Path.{◌≡◌, refl}
use mathlib.Core.Bool.{Bool, true, false, not, cond, ◌&&◌, ◌||◌}
use Prim.Native.Nat.{ℕ, ◌+◌, ◌-◌, ◌≤◌, ◌<◌}
use native.Mathlib.Omega.{arith}
use mathlib.Core.List.{List}
use lib.Dec.{eqb, leb, ltb}
use borrow.Author.Tests.{leb-true, le-leb, ltb-true, lt-ltb, eqb-true, not-false}
use Rattle.records.specs.Updates.{of_kind}
use Rattle.records.specs.Codes.{event_dispute, event_decision}
use Rattle.lists.specs.Tests.{◌implies◌}
use Rattle.lists.proofs.TestLaws.{and_left, and_right, or_left, or_right}
use Rattle.rules.specs.Rows.{Row, kind_toll, held_toll, unsettled}
use Rattle.rules.specs.Book.{Account, Instruction, Book, row}
use Rattle.rules.specs.Events.{hold_from, hold_toll, release, reject}
use Rattle.rules.specs.Soundness.{kind_fits, amount_fits, settled_fits, mark_fits, toll_words_fit, no_reference, row_day_fits, due_within, hold_fits, account_used, names, reference_fits, passage_once, fees_fit}
use Rattle.rules.specs.Refusals.{change_of, no_row, untimely}
use Rattle.rules.specs.SoundFacts.{Shape, Live, Near}
use Rattle.preservation.proofs.Accepted.{Accepted}
use Rattle.preservation.proofs.LookupLaws.{day-from, shape_of, live_of, near-put_row, named-kind, named-account}

-- ---- event 5

module _ (b : Book) (i : Instruction) where
  abbrev event5 : Instruction
  event5 = of_kind event_dispute i

  module _ (s : Near b.day b) (q : Accepted b event5) where
    abbrev it : Row
    it = row b i.a

    is-toll : it.kind ≡ kind_toll
    unfolding no_row
    is-toll = named-kind b i.a i.account 1 q.named

    has-kind : 0 < it.kind
    has-kind = omega (arith, is-toll)

    open-toll : not (unsettled it) || not (eqb it.dispute 0) ≡ false
    unfolding untimely
    open-toll = q.timely

    still_open : unsettled it ≡ true
    still_open = not-false _ (or_left (not (unsettled it)) _ open-toll)

    never : it.dispute ≡ 0
    never = eqb-true it.dispute 0 (not-false _ (or_right (not (unsettled it)) _ open-toll))

    -- what its due day was known to be
    due-was : leb it.due (b.day + b.schedule.stage) && cond (ltb it.mark 4) (ltb b.day it.due) (leb 1 it.due) ≡ true
    unfolding due_within
    due-was = rw (is-toll, never, still_open) at (live_of b.day b s i.a has-kind).due

    live : Live b.day b.day b.schedule.stage (hold_from b.day it)
    unfolding hold_from settled_fits due_within hold_fits
    live =
        let L : ℕ = b.schedule.stage in
        let due-by : leb it.due (b.day + L) ≡ true = and_left (leb it.due (b.day + L)) _ due-was in
        let due-from = and_right (leb it.due (b.day + L)) _ due-was in
        let day1 : leb 1 b.day ≡ true = day-from b.day b s in
        let day2 : leb b.day (b.day + 29) ≡ true = le-leb b.day (b.day + 29) (omega arith) in
        let day3 : leb b.day b.day ≡ true = le-leb b.day b.day (omega arith) in
        record {
          settled = (live_of b.day b s i.a has-kind).settled;
          due = rw (is-toll, still_open, due-by) (from_one (ltb it.mark 4) due-from);
          hold = rw (is-toll, day1, day2, day3, still_open, due-by) (after-today (ltb it.mark 4) due-from);
        }
      where
        from_one : (t : Bool) → cond t (ltb b.day (row b i.a).due) (leb 1 (row b i.a).due) ≡ true → leb 1 (row b i.a).due ≡ true
        from_one true e = le-leb 1 (row b i.a).due (omega (arith, ltb-true b.day (row b i.a).due e))
        from_one false e = e

        after-today : (t : Bool) → cond t (ltb b.day (row b i.a).due) (leb 1 (row b i.a).due) ≡ true → t implies ltb b.day (row b i.a).due ≡ true
        after-today true e = e
        after-today false e = refl

    shape : Shape b.day b.accounts b.rows i.a (hold_from b.day it)
    unfolding hold_from kind_fits amount_fits mark_fits toll_words_fit no_reference row_day_fits account_used reference_fits passage_once fees_fit names
    shape = let v = shape_of b.day b s i.a has-kind in record {
      kind = v.kind;
      amount = v.amount;
      mark = v.mark;
      words = rw is-toll (and_right (leb it.dispute 3) _ (rw is-toll at v.words));
      none = v.none;
      day = v.day;
      account = v.account;
      reference = v.reference;
      passage = v.passage;
      fees = v.fees;
    }

    pub hold_toll-near : Near b.day (change_of event_dispute b event5)
    unfolding change_of hold_toll hold_from
    hold_toll-near = near-put_row b.day b s i.a (hold_from b.day it) has-kind refl shape live

-- ---- a held toll

pub record HeldToll (today L : ℕ) (r : Row) : Type 0 where
  pub start : 1 ≤ r.hold
  pub recent : today ≤ r.hold + 29
  pub begun : r.hold ≤ today
  pub open-still : unsettled r ≡ true
  pub due-by : r.due ≤ r.hold + L
  pub due-after : ltb r.mark 4 implies ltb r.hold r.due ≡ true

pub held-is : (today L : ℕ) (r : Row) → r.kind ≡ kind_toll → r.dispute ≡ 1 → hold_fits today L r ≡ true → HeldToll today L r
unfolding hold_fits
held-is today L r k d f =
    let a1 : Bool = leb 1 r.hold in
    let a2 : Bool = leb today (r.hold + 29) in
    let a3 : Bool = leb r.hold today in
    let a4 : Bool = unsettled r in
    let a5 : Bool = leb r.due (r.hold + L) in
    let a6 : Bool = ltb r.mark 4 implies ltb r.hold r.due in
    let e : a1 && a2 && a3 && a4 && a5 && a6 ≡ true = rw (k, d) at f in
    let e5 = and_left (a1 && a2 && a3 && a4 && a5) a6 e in
    let e4 = and_left (a1 && a2 && a3 && a4) a5 e5 in
    let e3 = and_left (a1 && a2 && a3) a4 e4 in
    let e2 = and_left (a1 && a2) a3 e3 in
    record {
      start = leb-true 1 r.hold (and_left a1 a2 e2);
      recent = leb-true today (r.hold + 29) (and_right a1 a2 e2);
      begun = leb-true r.hold today (and_right (a1 && a2) a3 e3);
      open-still = and_right (a1 && a2 && a3) a4 e4;
      due-by = leb-true r.due (r.hold + L) (and_right (a1 && a2 && a3 && a4) a5 e5);
      due-after = and_right (a1 && a2 && a3 && a4 && a5) a6 e;
    }

pub held-due : (past last : ℕ) (r : Row) → r.kind ≡ kind_toll → r.dispute ≡ 1 → unsettled r ≡ true → due_within past last r ≡ true → 1 ≤ r.due
unfolding due_within
held-due past last r k d u e =
    let z : leb r.due last && leb 1 r.due ≡ true = rw (k, d, u) at e in
    leb-true 1 r.due (and_right (leb r.due last) (leb 1 r.due) z)

-- its hold ends: today, or on the day after
pub live-released : (past past' today now L : ℕ) (r : Row) → r.kind ≡ kind_toll → r.dispute ≡ 1 → past' ≤ now → today ≤ now → Live past today L r → Live past' now L (release now r)
unfolding release settled_fits due_within hold_fits
live-released past past' today now L r k d p t v =
    let w : HeldToll today L r = held-is today L r k d v.hold in
    let by : r.due ≤ r.hold + L = w.due-by in
    let begun : r.hold ≤ today = w.begun in
    let from : 1 ≤ r.due = held-due past (today + L) r k d w.open-still v.due in
    record {
      settled = v.settled;
      due = rw (k, w.open-still, le-leb (r.due + (now - r.hold)) (now + L) (omega arith)) (go begun from (ltb r.mark 4) w.due-after);
      hold = rw k;
    }
  where
    go : r.hold ≤ today → 1 ≤ r.due → (t : Bool) → t implies ltb r.hold r.due ≡ true
        → cond t (ltb past' (r.due + (now - r.hold))) (leb 1 (r.due + (now - r.hold))) ≡ true
    go h from true e = lt-ltb past' (r.due + (now - r.hold)) (omega (arith, ltb-true r.hold r.due e))
    go h from false e = le-leb 1 (r.due + (now - r.hold)) (omega arith)

pub shape-released : (today now : ℕ) (xs : List Account) (rows : List Row) (n : ℕ) (r : Row) → r.kind ≡ kind_toll → Shape today xs rows n r → Shape today xs rows n (release now r)
unfolding release kind_fits amount_fits mark_fits toll_words_fit no_reference row_day_fits account_used reference_fits passage_once fees_fit names
shape-released today now xs rows n r k s = record {
  kind = s.kind;
  amount = s.amount;
  mark = s.mark;
  words = rw k (and_right (leb r.dispute 3) _ (rw k at s.words));
  none = s.none;
  day = s.day;
  account = s.account;
  reference = s.reference;
  passage = s.passage;
  fees = s.fees;
}

-- ---- event 6

module _ (b : Book) (i : Instruction) where
  abbrev pub event6 : Instruction
  event6 = of_kind event_decision i

  -- the row that it names
  pub record Decided : Type 0 where
    pub toll : (row b i.a).kind ≡ kind_toll
    pub account : (row b i.a).account ≡ i.account
    pub held : (row b i.a).dispute ≡ 1

  pub decided : Accepted b event6 → Decided
  unfolding no_row untimely
  decided q =
      let it : Row = row b i.a in
      let is_held_lem = not-false (held_toll it) q.timely in
      record { toll = named-kind b i.a i.account 1 q.named; account = named-account b i.a i.account 1 q.named; held = eqb-true it.dispute 1 (and_right (eqb it.kind 1) _ is_held_lem) }

  pub reject-near : Near b.day b → Accepted b event6 → Near b.day (reject b event6)
  unfolding reject release
  reject-near s q =
      let t : (row b i.a).kind ≡ kind_toll = (decided q).toll in
      let h : 0 < (row b i.a).kind = omega arith in
      near-put_row b.day b s i.a (release b.day (row b i.a)) h refl
      (shape-released b.day b.day b.accounts b.rows i.a (row b i.a) t (shape_of b.day b s i.a h))
      (live-released b.day b.day b.day b.day b.schedule.stage (row b i.a) t (decided q).held (omega arith) (omega arith) (live_of b.day b s i.a h))
