-- Event 9 keeps the relation: after the closings, the rows and the entries, the accounts and the notes are still alike.
use mathlib.Core.Path.{◌≡◌, refl, sym, ap, subst, ◌∙◌}
use mathlib.Core.Bool.{Bool, true, false, cond, ◌&&◌, and-false}
use Prim.Native.Nat.{ℕ, suc, ◌+◌, ◌-◌, ◌≤◌, ◌<◌}
use native.Mathlib.Omega.{arith}
use native.Mathlib.Decide.{dec_lt}
use mathlib.Core.List.{List, ◌++◌, map}
use lib.ListN.{length, get_or, length-map}
use lib.Dec.{ltb}
use borrow.Author.Tests.{le-ltb, lt-ltb}
use Rattle.records.specs.AccountOperations.{closed}
use Rattle.lists.specs.Tests.{◌is◌}
use Rattle.lists.specs.Lists.{one, gather, change}
use Rattle.lists.proofs.TestLaws.{cond_either}
use Rattle.lists.proofs.ListLaws.{append_at}
use Rattle.lists.proofs.PairLaws.{Pairs, none, pairs-in, pairs-length, pairs-map-in, pairs-map-self, pairs-gather, pairs-one, pairs-change}
use Rattle.rules.specs.Rows.{Row, kind_fee, kind_refund, blank, new_row, source, settle_whole, remaining}
use Rattle.rules.specs.Settlement.{money}
use Rattle.rules.specs.Book.{Account, unused, state_closed, Instruction, Book, settled, account}
use Rattle.rules.specs.Tick.{next_day, end_holds, before_raising, rises, fee_row, raise_tolls, closes, close_if, refund_row, use_up, close_accounts, tick}
use Rattle.rules.specs.Schedule.{stage_fee}
use Rattle.rules.specs.SoundFacts.{Sound}
use Rattle.preservation.proofs.TickSteps.{raise-keeps}
use Rattle.replay.specs.Entries.{Entry, no_entry, new_entry, with_covered, cover_whole, is_money, money_in, money_out}
use Rattle.replay.specs.Replay.{Note, no_note, with_closed, Replay, note_no, closing, add_refund, use_money, close_note, close_all, tick_replay}
use Rattle.replay.specs.Demand3.{toll_named}
use Rattle.replay.proofs.Relation.{Match, Named, Noted, Rows, Agrees, counts-other}
use Rattle.replay.proofs.Growing.{Referring, Kept, SameToll, grow}
use Rattle.replay.proofs.RowEvents.{whole-match}
use Rattle.replay.proofs.Idle.{money-least}
use Rattle.replay.proofs.RaisedFees.{raised, fees, raise-at, unraised-referring}
use Rattle.replay.proofs.RaisedSums.{after_raising, unraised-fits}
use Rattle.replay.proofs.Closing.{raised_entries, closes_now, closing_now, rows, Judged, same, idle, judge}

-- ---- a row and a refund, however the book judges (v) and the replay (w)

module _ (today L : ℕ) (r : Row) (y : Entry) (m : Match 0 today L r y) (v w : Bool) where
  source-same : is_money y ≡ source r
  source-same = rw m.line.kind

  use-same : v ≡ w → Match 0 today L (cond (source r && v) (settle_whole r) r) (cond (is_money y && w) (cover_whole y) y)
  use-same e = rw (source-same, e) (go (source r && w))
    where
      go : (u : Bool) → Match 0 today L (cond u (settle_whole r) r) (cond u (cover_whole y) y)
      go true = whole-match 0 today L r y m
      go false = m

  -- the account has no unused money
  use-idle : v ≡ false → (source r ≡ true → r.settled ≡ r.amount) → Match 0 today L (cond (source r && v) (settle_whole r) r) (cond (is_money y && w) (cover_whole y) y)
  use-idle e f = rw (source-same, e) (go (source r) refl)
    where
      go : (s : Bool) → source r ≡ s → Match 0 today L (cond (s && false) (settle_whole r) r) (cond (s && w) (cover_whole y) y)
      go false q = m
      go true q =
          let z : y.amount ≡ y.covered = sym m.line.amount ∙ sym (f q) ∙ m.line.settled in
          let c : y ≡ cover_whole y = ap {B = Entry} (λ (n : ℕ). with_covered n y) (sym z) in
          cond_either (λ (u : Entry). Match 0 today L r u) w (cover_whole y) y (subst (λ (u : Entry). Match 0 today L r u) c m) m

-- with m of money unused, i of money in and o out
module _ (S : Row → Entry → Type 0) (f : ℕ → Row) (g : ℕ → Entry) where
  refund-same : ((n : ℕ) → S (f n) (g n)) → (v w : Bool) (m i o : ℕ) → v ≡ w → (w ≡ true → i ≡ o + m) → Pairs S (one (v && ltb 0 m) (f m)) (one (w && ltb o i) (g (i - o)))
  refund-same s v w m i o e q = rw e (go w q)
    where
      go : (u : Bool) → (u ≡ true → i ≡ o + m) → Pairs S (one (u && ltb 0 m) (f m)) (one (u && ltb o i) (g (i - o)))
      go false h = none
      go true h =
          let z : i ≡ o + m = h refl in
          let l : i - o ≡ m = omega arith in
          rw (l, test z (dec_lt 0 m)) (pairs-one (ltb 0 m) (f m) (g m) (λ u. s m))
        where
          test : i ≡ o + m → Dec (0 < m) → ltb o i ≡ ltb 0 m
          test z (yes d) = rw (lt-ltb o i (omega arith), lt-ltb 0 m d)
          test z (no d) = rw (le-ltb o i (omega arith), le-ltb 0 m (omega arith))

  refund-idle : (v w : Bool) (m i o : ℕ) → v ≡ false → i ≡ o → Pairs S (one (v && ltb 0 m) (f m)) (one (w && ltb o i) (g (i - o)))
  refund-idle v w m i o e q = rw (e, le-ltb o i (omega arith), and-false w) none

-- ---- the tick

module _ (b : Book) (p : Replay) (sound : Sound b) (a : Agrees b p) where
  abbrev book_now : Book
  book_now = raise_tolls (before_raising b)

  closes_at : {c d : ℕ} → c ≡ d → closes book_now c (account book_now c) ≡ closes_now b p sound a d
  unfolding raise_tolls before_raising settled end_holds next_day
  closes_at {c} {d} e = ap (λ (n : ℕ). closes book_now n (account b n)) e

  abbrev today : ℕ
  today = b.day + 1

  abbrev stage : ℕ
  stage = b.schedule.stage

  abbrev unraised_rows : List Row
  unraised_rows = (before_raising b).rows

  abbrev rows_now : List Row
  rows_now = after_raising b p sound a

  abbrev entries_now : List Entry
  entries_now = raised_entries b p sound a

  -- ---- the rows before the closings

  after_raising-is : rows_now ≡ raised b p sound a ++ fees b p sound a
  unfolding raise_tolls before_raising settled end_holds next_day
  after_raising-is = refl

  after_raising-day : book_now.day ≡ today
  unfolding raise_tolls before_raising settled end_holds next_day
  after_raising-day = refl

  -- a fee row of this tick
  record Fresh (r : Row) : Type 0 where
    settled : r.settled ≡ 0
    reference : r.reference ≤ length unraised_rows

  fresh-fees : Pairs (λ r s. Fresh r) (fees b p sound a) (fees b p sound a)
  unfolding fee_row
  fresh-fees = pairs-gather (fee_row b.schedule today) (fee_row b.schedule today) blank blank 1 unraised_rows unraised_rows refl
      (λ k n q l. pairs-one (rises today (get_or unraised_rows k blank) && ltb 0 (stage_fee b.schedule ((get_or unraised_rows k blank).mark + 1))) _ _ (λ v. record { settled = refl; reference = omega arith }))

  length-raised : length (raised b p sound a) ≡ length unraised_rows
  length-raised = length-map unraised_rows _

  after_raising-fits : (k : ℕ) → k < length rows_now → (get_or rows_now k blank).settled ≤ (get_or rows_now k blank).amount
  after_raising-fits = rw after_raising-is (append_at (λ k r. r.settled ≤ r.amount) (raised b p sound a) (fees b p sound a) blank
      (λ k h. rw (raise-at b p sound a k, raise-keeps (λ q. q.settled) (λ q v w. refl) b.schedule today (get_or unraised_rows k blank), raise-keeps (λ q. q.amount) (λ q v w. refl) b.schedule today (get_or unraised_rows k blank))
      (unraised-fits b p sound a k (rw length-raised at h)))
      (λ k h. let f = pairs-in blank blank fresh-fees k h in omega (arith, f.settled)))

  after_raising-referring : Referring rows_now
  after_raising-referring = rw after_raising-is (append_at (λ k r. r.kind is kind_fee ≡ true → r.reference ≤ k) (raised b p sound a) (fees b p sound a) blank
      (λ k h. rw (raise-at b p sound a k, raise-keeps (λ q. q.kind) (λ q v w. refl) b.schedule today (get_or unraised_rows k blank), raise-keeps (λ q. q.reference) (λ q v w. refl) b.schedule today (get_or unraised_rows k blank))
      (unraised-referring b p sound a k (rw length-raised at h)))
      (λ k h e. let f = pairs-in blank blank fresh-fees k h in omega (arith, f.reference, length-raised)))

  -- ---- money used up

  use-match : (k : ℕ) → k < length rows_now → Match 0 today stage (get_or rows_now k blank) (get_or entries_now k no_entry)
      → Match 0 today stage (use_up book_now (get_or rows_now k blank)) (use_money p.holidays today p.notes entries_now (get_or entries_now k no_entry))
  unfolding use_up use_money
  use-match k h m = by (judge b p sound a y-account)
    where
      r : Row
      r = get_or rows_now k blank

      y : Entry
      y = get_or entries_now k no_entry

      y-account : ℕ
      y-account = y.account

      v : Bool
      v = closes book_now r.account (account book_now r.account)

      at_entry : v ≡ closes_now b p sound a y-account
      at_entry = closes_at m.line.account

      by : Judged b p sound a y-account → Match 0 today stage (cond (source r && v) (settle_whole r) r) (cond (is_money y && closing_now b p sound a y-account) (cover_whole y) y)
      by (same t f) = use-same today stage r y m v (closing_now b p sound a y-account) (at_entry ∙ t)
      by (idle t z i s) =
          use-idle today stage r y m v (closing_now b p sound a y-account) (at_entry ∙ t)
          (λ e. let l : remaining r ≤ 0 = omega (arith, money-least rows_now y-account k h m.line.account e) in omega (arith, after_raising-fits k h))

  -- ---- refunds

  refund-pairs : (rows : List Row) (k n : ℕ) → n ≡ 1 + k → k < length b.accounts
      → Pairs (Named (Match 0 today stage) rows) (refund_row book_now n (get_or b.accounts k unused)) (add_refund p.holidays today entries_now n (get_or p.notes k no_note))
  unfolding refund_row add_refund toll_named
  refund-pairs rows k n e h = let z : n ≡ suc k = omega arith in rw z (by (judge b p sound a (suc k)))
    where
      c : ℕ
      c = suc k

      S : Row → Entry → Type 0
      S r y = Named (Match 0 today stage) rows r y

      f : ℕ → Row
      f m = settle_whole (new_row kind_refund c book_now.day m)

      g : ℕ → Entry
      g m = cover_whole (new_entry kind_refund c today m)

      pair : (m : ℕ) → S (f m) (g m)
      pair m = record {
        is = record { line = record { kind = refl; account = refl; day = after_raising-day; amount = refl; settled = refl; hold = refl }; counts = counts-other 0 today stage _ _ refl (λ q. refl) };
        toll = refl;
      }

      by : Judged b p sound a c
          → Pairs S (one (closes_now b p sound a c && ltb 0 (money c rows_now)) (f (money c rows_now)))
          (one (closing_now b p sound a c && ltb (money_out c entries_now) (money_in c entries_now)) (g (money_in c entries_now - money_out c entries_now)))
      by (same t q) = refund-same S f g pair (closes_now b p sound a c) (closing_now b p sound a c) (money c rows_now) (money_in c entries_now) (money_out c entries_now) t q
      by (idle t z i s) = refund-idle S f g (closes_now b p sound a c) (closing_now b p sound a c) (money c rows_now) (money_in c entries_now) (money_out c entries_now) t i

  -- ---- the whole

  use_kept : (r : Row) → Kept r (use_up book_now r)
  unfolding use_up
  use_kept r = cond_either (λ (s : Row). Kept r s) (source r && closes book_now r.account (account book_now r.account)) (settle_whole r) r (record { kind = refl; reference = refl }) (record { kind = refl; reference = refl })

  use-toll : (y : Entry) → SameToll y (use_money p.holidays today p.notes entries_now y)
  unfolding use_money
  use-toll y = cond_either (λ (z : Entry). SameToll y z) (is_money y && closing p.holidays today entries_now y.account (note_no p.notes y.account)) (cover_whole y) y refl refl

  -- the replay takes an account as closed with the book, or again
  close-noted : (k n : ℕ) → n ≡ 1 + k → k < length b.accounts → Noted (get_or b.accounts k unused) (get_or p.notes k no_note)
      → Noted (close_if book_now n (get_or b.accounts k unused)) (close_note p.holidays today entries_now n (get_or p.notes k no_note))
  unfolding close_if close_note
  close-noted k n e h q = let z : n ≡ suc k = omega arith in rw z (by (judge b p sound a (suc k)))
    where
      x : Account
      x = get_or b.accounts k unused

      y : Note
      y = get_or p.notes k no_note

      both : (v : Bool) → Noted (cond v (closed x) x) (cond v (with_closed true y) y)
      both true = record { request = q.request; topup = q.topup; successor = q.successor; closed = refl }
      both false = q

      again : x.state ≡ state_closed → (w : Bool) → Noted x (cond w (with_closed true y) y)
      again s true = record { request = q.request; topup = q.topup; successor = q.successor; closed = rw s refl }
      again s false = q

      by : Judged b p sound a (suc k) → Noted (cond (closes_now b p sound a (suc k)) (closed x) x) (cond (closing_now b p sound a (suc k)) (with_closed true y) y)
      by (same t f) = rw t (both (closing_now b p sound a (suc k)))
      by (idle t z i s) = rw t (again s (closing_now b p sound a (suc k)))

  close-rows : Rows (Match 0 today stage) (map (use_up book_now) rows_now ++ gather (refund_row book_now) b.accounts)
      (map (use_money p.holidays today p.notes entries_now) entries_now ++ gather (add_refund p.holidays today entries_now) p.notes)
  close-rows =
      grow rows_now entries_now after_raising-referring (rows b p sound a) _ _
      (pairs-map-self (use_up book_now) use_kept rows_now) (pairs-map-self (use_money p.holidays today p.notes entries_now) use-toll entries_now)
      (pairs-map-in (use_up book_now) (use_money p.holidays today p.notes entries_now) blank no_entry (rows b p sound a) (λ k h m. use-match k h m.is))
      _ _ (pairs-gather (refund_row book_now) (add_refund p.holidays today entries_now) unused no_note 1 b.accounts p.notes (pairs-length a.notes) (refund-pairs _))

  close-notes : Pairs Noted (change (close_if book_now) b.accounts) (change (close_note p.holidays today entries_now) p.notes)
  close-notes = pairs-change (close_if book_now) (close_note p.holidays today entries_now) unused no_note 1 a.notes close-noted

  pub tick-agrees : (e : Instruction) → Agrees (tick b e) (tick_replay p e)
  unfolding tick close_accounts raise_tolls before_raising settled end_holds next_day tick_replay close_all
  tick-agrees e = record {
    day = ap (λ (n : ℕ). n + 1) a.day;
    schedule = a.schedule;
    lists = a.lists;
    holidays = a.holidays;
    rows = rw (← a.day) (rw (← a.day) at close-rows);
    notes = rw (← a.day) (rw (← a.day) at close-notes);
  }
