-- Nothing is left to settle at the end of a tick: raising and closing leave every account with one side spent.
use mathlib.Core.Path.{◌≡◌, refl, sym, ap, ◌∙◌}
use mathlib.Core.Logic.{◌≢◌}
use mathlib.Core.Bool.{Bool, true, false, ◌&&◌, and-false}
use Prim.Native.Nat.{ℕ, zero, suc, ◌≤◌, ◌<◌, min}
use native.Mathlib.Omega.{arith}
use native.Mathlib.Decide.{dec_lt}
use mathlib.Core.List.{List, map}
use lib.ListN.{length, get_or, length-append, length-map, get_or-eq_default}
use lib.Dec.{ltb}
use Rattle.records.specs.Codes.{event_tick}
use Rattle.lists.specs.Lists.{only, one}
use Rattle.lists.proofs.TestLaws.{cond-zero}
use Rattle.lists.proofs.GatherLaws.{gather-each, grown-at, grown-each, length-change}
use Rattle.records.specs.Limits.{final_day}
use Rattle.rules.specs.Rows.{Row, blank, remaining, source, debit_of}
use Rattle.rules.specs.Settlement.{money, debt, moved}
use Rattle.rules.specs.Book.{unused, Instruction, Book, with_rows, settled}
use Rattle.rules.specs.Tick.{next_day, end_holds, before_raising, raise_tolls, closes, close_if, refund_row, use_up, close_accounts, tick}
use Rattle.rules.specs.Refusals.{change_of, after}
use Rattle.rules.proofs.SettlementAccountsLaws.{settle_accounts-no-idle-money, settle_accounts-same}
use Rattle.rules.specs.SoundFacts.{Near, Sound}
use Rattle.rules.proofs.StorableLaws.{settled-le}
use Rattle.preservation.proofs.HoldsEnded.{before_raising-near}
use Rattle.preservation.proofs.TollsRaised.{raise_tolls-near}
use Rattle.preservation.proofs.ClosingLaws.{keeps, up-blank, refunds, refund, rows', money-closed}
use Rattle.preservation.proofs.TickSteps.{ended, unraised-day, unraised-room, unraised-rows}
use Rattle.tick_rules.proofs.KeptLaws.{gist, Kept, debt-kept}
use Rattle.tick_rules.proofs.LateLaws.{late, moved-late}

-- ---- any book whose accounts close

module _ (b : Book) where
  -- what holds of each refund, whatever its account and amount, holds of each row added
  pub refunded-each : (P : Row → Type 0) → ((n : ℕ) → P (refund b n)) → (k : ℕ) → length b.rows ≤ k → k < length (rows' b) → P (get_or (rows' b) k blank)
  refunded-each P f k l h = grown-each (use_up b) blank (up-blank b) b.rows (refunds b) k P h (λ q. absurd (omega arith)) (λ j e q. each j q)
    where
      go : (n : ℕ) (v : Bool) (j : ℕ) → j < length (one v (refund b n)) → P (get_or (one v (refund b n)) j blank)
      go n true zero h = f n
      go n true (suc j) h = absurd (omega arith)
      go n false j h = absurd (omega arith)

      each : (j : ℕ) → j < length (refunds b) → P (get_or (refunds b) j blank)
      each = unfold refund_row in (gather-each (refund_row b) P 1 b.accounts unused blank (λ n k e l j q. go n (closes b n (get_or b.accounts k unused) && ltb 0 (money n b.rows)) j q))

  module _ (j : ℕ) (open-still : closes b (suc j) (get_or b.accounts j unused) ≡ false) where
    stays : (r : Row) → r.account ≡ suc j → use_up b r ≡ r
    unfolding use_up
    stays r a = rw (a, open-still, and-false (source r))

    kept-closed : Kept (suc j) b.rows (rows' b)
    kept-closed = record {
      longer = omega (arith, length-append (map (use_up b) b.rows) (refunds b), length-map b.rows (use_up b));
      mine = λ k l a. ap gist (grown-at (use_up b) blank (up-blank b) b.rows (refunds b) k l ∙ stays (get_or b.rows k blank) a);
      others = λ k l n a. n (sym (keeps b (λ y. y.account) (λ x v. refl) (get_or b.rows k blank)) ∙ sym (ap (λ (x : Row). x.account) (grown-at (use_up b) blank (up-blank b) b.rows (refunds b) k l)) ∙ a);
    }

    debt-closed : (past : ℕ) → Near past b → debt (suc j) (rows' b) ≡ debt (suc j) b.rows
    debt-closed past s =
        debt-kept past b s (suc j) (rows' b) kept-closed
        (refunded-each (λ r. only (debit_of (suc j)) remaining r ≡ 0) (λ n. unfold only in (cond-zero (debit_of (suc j) (refund b n)) _ (omega arith))))

  pub moved-closed : (past : ℕ) → Near past b → (j : ℕ) → j < length b.accounts → moved (suc j) b.rows ≡ 0 → moved (suc j) (rows' b) ≡ 0
  unfolding moved
  moved-closed past s j h z = go (closes b (suc j) (get_or b.accounts j unused)) refl
    where
      fits : (i : ℕ) → (get_or b.rows i blank).settled ≤ (get_or b.rows i blank).amount
      fits i =
          elim (dec_lt i (length b.rows)) [
            | yes l ↦ settled-le (get_or b.rows i blank) (s.live i l).settled
            | no l ↦ rw (get_or-eq_default b.rows blank {n = i} (omega arith)) (omega arith)
          ]

      go : (v : Bool) → closes b (suc j) (get_or b.accounts j unused) ≡ v → min (money (suc j) (rows' b)) (debt (suc j) (rows' b)) ≡ 0
      go true e = let m : money (suc j) (rows' b) ≡ 0 = money-closed b fits j h ∙ rw e in omega arith
      go false e =
          let m : money (suc j) (rows' b) ≡ money (suc j) b.rows = money-closed b fits j h ∙ rw e in
          omega (arith, debt-closed j e past s)

-- ---- the tick

module _ (b : Book) (s : Sound b) (ne : b.day ≢ final_day) (room : length (late (before_raising b)) ≤ b.room) where
  abbrev late_book : Book
  late_book = raise_tolls (before_raising b)

  same-accounts : late_book.accounts ≡ b.accounts
  unfolding raise_tolls before_raising settled end_holds next_day
  same-accounts = refl

  pub near-late : Near (before_raising b).day late_book
  near-late = raise_tolls-near b.day (before_raising b) (before_raising-near b s.near ne) (unraised-day b) (omega (arith, unraised-room b))

  moved-after_raising : (j : ℕ) → j < length b.accounts → moved (suc j) (late (before_raising b)) ≡ 0
  moved-after_raising j h =
      moved-late (before_raising b) b.day (before_raising-near b s.near ne) (suc j)
      (rw (unraised-rows b) (settle_accounts-no-idle-money (length b.accounts) (ended b) j h))

  moved-end : (m : ℕ) → 1 ≤ m → m ≤ length (close_accounts late_book).accounts → moved m (close_accounts late_book).rows ≡ 0
  unfolding close_accounts
  moved-end zero l h = absurd (omega arith)
  moved-end (suc j) l h =
      let q : j < length b.accounts = rw (length-change (close_if late_book) 1 late_book.accounts, same-accounts) at h in
      moved-closed late_book (before_raising b).day near-late j (rw same-accounts q) (moved-after_raising j q)

  pub after-tick : (e : Instruction) → e.kind ≡ event_tick → after b e ≡ close_accounts late_book
  unfolding after change_of tick settled
  after-tick e k =
      rw k (ap (λ (rows : List Row). with_rows rows (close_accounts late_book)) (settle_accounts-same (length (close_accounts late_book).accounts) (close_accounts late_book).rows moved-end))
