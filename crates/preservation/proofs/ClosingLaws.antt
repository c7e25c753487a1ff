-- A tick's last step: accounts close, their money leaving as a refund. What this does to sums, to one account's and to its words.
use mathlib.Core.Path.{◌≡◌, refl, sym, ap, ◌∙◌}
use mathlib.Core.Logic.{◌≢◌}
use mathlib.Core.Bool.{Bool, true, false, not, cond, ◌&&◌, ◌||◌, true≢false, and-false}
use Prim.Native.Nat.{ℕ, zero, suc, ◌+◌, ◌-◌, ◌≤◌, ◌<◌}
use native.Mathlib.Nat.{add-zero}
use native.Mathlib.Omega.{arith}
use mathlib.Core.List.{List, [], ◌∷◌, ◌++◌, map}
use lib.ListN.{length, get_or}
use lib.Dec.{eqb, leb, ltb}
use borrow.Author.Tests.{le-leb, ltb-false, lt-ltb, eqb-true, eq-eqb, ne_eqb, not-true}
use Rattle.records.specs.AccountOperations.{closed}
use Rattle.lists.specs.Tests.{◌implies◌}
use Rattle.lists.specs.Lists.{sum_by, only, count, exists, one, gather}
use Rattle.lists.proofs.TestLaws.{and_left, and_right, and_both, cond-zero}
use Rattle.lists.proofs.SumLaws.{sum_by-ext, sum_by-zero}
use Rattle.lists.proofs.GatherLaws.{gather_none, gather-only, sum_by-grown}
use Rattle.records.specs.Limits.{closing_days}
use Rattle.rules.specs.BusinessDays.{business_day}
use Rattle.rules.specs.Rows.{Row, Test, kind_refund, blank, new_row, with_settled, remaining, settle_whole, source, debit, unsettled, source_of, debit_of}
use Rattle.rules.specs.Settlement.{money, used, paid, owed}
use Rattle.rules.specs.Book.{Account, unused, Book, account}
use Rattle.rules.specs.Tick.{closes, close_if, refund_row, use_up}
use Rattle.rules.specs.Soundness.{settled_fits, due_within, hold_fits, returned_of, returned_fits, used_is_paid, closed_clear, state_fits, unused_zero, request_fits, topup_fits, decline_fits}
use Rattle.rules.proofs.RankLaws.{kinds-apart}
use Rattle.rules.specs.SoundFacts.{Live, Standing, SumsFit}

-- ---- sums

-- under any test, the amounts are what is settled and what remains
pub settled-remaining : (t : Test) (rows : List Row) → ((i : ℕ) → (get_or rows i blank).settled ≤ (get_or rows i blank).amount)
    → sum_by (only t (λ r. r.amount)) rows ≡ sum_by (only t (λ r. r.settled)) rows + sum_by (only t remaining) rows
unfolding sum_by only
settled-remaining t [] h = refl
settled-remaining t (r ∷ rs) h = go (t r) (h 0) (settled-remaining t rs (λ i. h (suc i)))
  where
    go : (b : Bool) → r.settled ≤ r.amount
        → sum_by (only t (λ x. x.amount)) rs ≡ sum_by (only t (λ x. x.settled)) rs + sum_by (only t remaining) rs
        → cond b r.amount 0 + sum_by (only t (λ x. x.amount)) rs
        ≡ cond b r.settled 0 + sum_by (only t (λ x. x.settled)) rs + (cond b (remaining r) 0 + sum_by (only t remaining) rs)
    go true l e = omega arith
    go false l e = omega arith

-- ---- what "no unsettled debit" says

none-unsettled : (n : ℕ) (rows : List Row) → count (λ r. debit_of n r && unsettled r) rows ≤ 0 → owed n rows ≡ 0
unfolding count owed only sum_by
none-unsettled n [] z = refl
none-unsettled n (r ∷ rs) z = at (debit_of n r) (unsettled r) refl z (none-unsettled n rs)
  where
    at : (d u : Bool) → unsettled r ≡ u → cond (d && u) 1 0 + sum_by (λ x. cond (debit_of n x && unsettled x) 1 0) rs ≤ 0
        → (sum_by (λ x. cond (debit_of n x && unsettled x) 1 0) rs ≤ 0 → sum_by (only (debit_of n) remaining) rs ≡ 0)
        → cond d (remaining r) 0 + sum_by (only (debit_of n) remaining) rs ≡ 0
    at true true q e ih = absurd (omega arith)
    at true false q e ih = omega (arith, ih (omega arith), ltb-false r.settled r.amount q)
    at false u q e ih = omega (arith, ih (omega arith))

pub none-owed : (n : ℕ) (rows : List Row) → not (exists (λ r. debit_of n r && unsettled r) rows) ≡ true → owed n rows ≡ 0
unfolding exists
none-owed n rows e = none-unsettled n rows (ltb-false 0 (count (λ r. debit_of n r && unsettled r) rows) (not-true _ e))

-- a source settled whole
pub whole-live : (past today L : ℕ) (r : Row) → source r ≡ true → Live past today L (settle_whole r)
unfolding settled_fits due_within hold_fits
whole-live past today L r e =
    let a : r.amount ≤ r.amount = omega arith in
    let t : eqb r.kind 1 ≡ false = not-toll (eqb r.kind 4) refl e in
    record { settled = and_both (leb r.amount r.amount) _ (le-leb _ _ a) (any (eqb r.kind 6)); due = rw t; hold = rw t }
  where
    any : (t : Bool) → (t implies eqb r.amount r.amount) ≡ true
    any true = eq-eqb r.amount r.amount refl
    any false = refl

    not-toll : (t : Bool) → eqb r.kind 4 ≡ t → t || eqb r.kind 5 ≡ true → eqb r.kind 1 ≡ false
    not-toll true p q = rw (eqb-true r.kind 4 p)
    not-toll false p q = rw (eqb-true r.kind 5 q)

module _ (b : Book) where
  -- what does not look at the part settled
  pub keeps : {B : Type 0} (g : Row → B) → ((r : Row) (v : ℕ) → g (with_settled v r) ≡ g r) → (r : Row) → g (use_up b r) ≡ g r
  unfolding use_up
  keeps g f r = go (source r && closes b r.account (account b r.account))
    where
      go : (t : Bool) → g (cond t (settle_whole r) r) ≡ g r
      go true = f r r.amount
      go false = refl

  pub up-blank : use_up b blank ≡ blank
  unfolding use_up
  up-blank = refl

  abbrev pub refunds : List Row
  refunds = gather (refund_row b) b.accounts

  abbrev pub refund : ℕ → Row
  refund n = settle_whole (new_row kind_refund n b.day (money n b.rows))

  refund-zero : (g : Row → ℕ) (n : ℕ) (x : Account) → (closes b n x ≡ true → g (refund n) ≡ 0) → sum_by g (refund_row b n x) ≡ 0
  unfolding sum_by refund_row
  refund-zero g n x f = go (closes b n x) (ltb 0 (money n b.rows)) f
    where
      go : (t u : Bool) → (t ≡ true → g (refund n) ≡ 0) → sum_by g (one (t && u) (refund n)) ≡ 0
      go true true f = omega (arith, f refl)
      go true false f = refl
      go false u f = refl

  none-refunded : (g : Row → ℕ) → ((n m : ℕ) → g (settle_whole (new_row kind_refund n b.day m)) ≡ 0) → sum_by g refunds ≡ 0
  none-refunded g z = gather_none (refund_row b) g 1 b.accounts unused (λ n k e l. refund-zero g n (get_or b.accounts k unused) (λ q. z n (money n b.rows)))

  -- a sum that does not look at the part settled, and to which no refund adds
  pub same-closed : (g : Row → ℕ) → ((r : Row) (v : ℕ) → g (with_settled v r) ≡ g r) → ((n m : ℕ) → g (settle_whole (new_row kind_refund n b.day m)) ≡ 0)
      → sum_by g (map (use_up b) b.rows ++ refunds) ≡ sum_by g b.rows
  same-closed g f z =
      sum_by-grown (use_up b) blank up-blank b.rows refunds g
      ∙ rw (none-refunded g z, sum_by-ext (λ r. g (use_up b r)) g b.rows (keeps g f), add-zero)

  up-source : (n : ℕ) (r : Row) → source_of n r ≡ true → use_up b r ≡ cond (closes b n (account b n)) (settle_whole r) r
  unfolding use_up source_of
  up-source n r e =
      let q : r.account ≡ n = eqb-true r.account n (and_left (eqb r.account n) _ e) in
      let w : source r ≡ true = and_right (eqb r.account n) _ e in
      let z : closes b r.account (account b r.account) ≡ closes b n (account b n) = ap (λ (m : ℕ). closes b m (account b m)) q in
      rw (w, z)

  source_keeps : (n : ℕ) (r : Row) → source_of n (use_up b r) ≡ source_of n r
  unfolding source_of
  source_keeps n r = keeps (source_of n) (λ x v. refl) r

  source_up : (f : Row → ℕ) (n : ℕ) (r : Row) → only (source_of n) f (use_up b r) ≡ only (source_of n) (λ x. cond (closes b n (account b n)) (f (settle_whole x)) (f x)) r
  unfolding only
  source_up f n r = rw (source_keeps n r) (go (source_of n r) refl)
    where
      pick : (c : Bool) → f (cond c (settle_whole r) r) ≡ cond c (f (settle_whole r)) (f r)
      pick true = refl
      pick false = refl

      go : (t : Bool) → source_of n r ≡ t → cond t (f (use_up b r)) 0 ≡ cond t (cond (closes b n (account b n)) (f (settle_whole r)) (f r)) 0
      go true e = ap f (up-source n r e) ∙ pick (closes b n (account b n))
      go false e = refl

  up-debit : (n : ℕ) (r : Row) → debit_of n r ≡ true → use_up b r ≡ r
  unfolding use_up debit_of
  up-debit n r e =
      let z : source r ≡ false = other (source r) (debit r) (kinds-apart r.kind) (and_right (eqb r.account n) _ e) in
      rw z
    where
      other : (s d : Bool) → s && d ≡ false → d ≡ true → s ≡ false
      other true d p q = absurd (true≢false (sym q ∙ p))
      other false d p q = refl

  debit-keeps : (n : ℕ) (r : Row) → debit_of n (use_up b r) ≡ debit_of n r
  unfolding debit_of
  debit-keeps n r = keeps (debit_of n) (λ x v. refl) r

  debit-up : (f : Row → ℕ) (n : ℕ) (r : Row) → only (debit_of n) f (use_up b r) ≡ only (debit_of n) f r
  unfolding only
  debit-up f n r = rw (debit-keeps n r) (go (debit_of n r) refl)
    where
      go : (t : Bool) → debit_of n r ≡ t → cond t (f (use_up b r)) 0 ≡ cond t (f r) 0
      go true e = ap f (up-debit n r e)
      go false e = refl

  abbrev pub rows' : List Row
  rows' = map (use_up b) b.rows ++ refunds

  no_source : (f : Row → ℕ) (n m k : ℕ) → only (source_of n) f (settle_whole (new_row kind_refund m b.day k)) ≡ 0
  unfolding only source_of
  no_source f n m k = rw (and-false (eqb m n))

  sources-closed : (f : Row → ℕ) (n : ℕ) → sum_by (only (source_of n) f) rows' ≡ sum_by (only (source_of n) (λ x. cond (closes b n (account b n)) (f (settle_whole x)) (f x))) b.rows
  sources-closed f n =
      sum_by-grown (use_up b) blank up-blank b.rows refunds (only (source_of n) f)
      ∙ rw (none-refunded (only (source_of n) f) (no_source f n), sum_by-ext (λ r. only (source_of n) f (use_up b r)) (only (source_of n) (λ x. cond (closes b n (account b n)) (f (settle_whole x)) (f x))) b.rows (source_up f n), add-zero)

  debits-closed : (f : Row → ℕ) (n : ℕ) → sum_by (only (debit_of n) f) rows' ≡ sum_by (only (debit_of n) f) b.rows + sum_by (only (debit_of n) f) refunds
  debits-closed f n =
      sum_by-grown (use_up b) blank up-blank b.rows refunds (only (debit_of n) f)
      ∙ rw (sum_by-ext (λ r. only (debit_of n) f (use_up b r)) (only (debit_of n) f) b.rows (debit-up f n))

  -- the refunds of one account
  refunded : (f : Row → ℕ) (k : ℕ) → k < length b.accounts → sum_by (only (debit_of (suc k)) f) refunds
      ≡ cond (closes b (suc k) (get_or b.accounts k unused) && ltb 0 (money (suc k) b.rows)) (f (refund (suc k))) 0
  unfolding only debit_of refund_row sum_by
  refunded f k l =
      gather-only (refund_row b) (only (debit_of (suc k)) f) (suc k) other 1 b.accounts unused k (omega arith) l
      ∙ self (closes b (suc k) (get_or b.accounts k unused) && ltb 0 (money (suc k) b.rows))
    where
      other : (m : ℕ) (x : Account) → m ≢ suc k → sum_by (only (debit_of (suc k)) f) (refund_row b m x) ≡ 0
      other m x ne = refund-zero (only (debit_of (suc k)) f) m x (λ q. rw (ne_eqb m (suc k) ne))

      self : (t : Bool) → sum_by (only (debit_of (suc k)) f) (one t (refund (suc k))) ≡ cond t (f (refund (suc k))) 0
      self true = rw (eq-eqb (suc k) (suc k) refl, add-zero)
      self false = refl

  -- ---- one account's sums

  module _ (fits : (i : ℕ) → (get_or b.rows i blank).settled ≤ (get_or b.rows i blank).amount) (k : ℕ) (l : k < length b.accounts) where
    abbrev n : ℕ
    n = suc k

    abbrev c : Bool
    c = closes b (suc k) (get_or b.accounts k unused)

    used-closed : used n rows' ≡ used n b.rows + cond c (money n b.rows) 0
    unfolding used money
    used-closed = sources-closed (λ r. r.settled) n ∙ go c
      where
        go : (t : Bool) → sum_by (only (source_of n) (λ x. cond t x.amount x.settled)) b.rows ≡ sum_by (only (source_of n) (λ x. x.settled)) b.rows + cond t (sum_by (only (source_of n) remaining) b.rows) 0
        go true = settled-remaining (source_of n) b.rows fits
        go false = omega arith

    pub money-closed : money n rows' ≡ cond c 0 (money n b.rows)
    unfolding money only
    money-closed = sources-closed remaining n ∙ go c
      where
        go : (t : Bool) → sum_by (only (source_of n) (λ x. cond t (x.amount - x.amount) (remaining x))) b.rows ≡ cond t 0 (sum_by (only (source_of n) remaining) b.rows)
        go true = sum_by-zero (only (source_of n) (λ x. x.amount - x.amount)) b.rows (λ r. cond-zero (source_of n r) (r.amount - r.amount) (omega arith))
        go false = refl

    paid-closed : paid n rows' ≡ paid n b.rows + cond c (money n b.rows) 0
    unfolding paid
    paid-closed = debits-closed (λ r. r.settled) n ∙ ap (λ (m : ℕ). sum_by (only (debit_of n) (λ r. r.settled)) b.rows + m) (refunded (λ r. r.settled) k l ∙ go c (money n b.rows))
      where
        go : (t : Bool) (m : ℕ) → cond (t && ltb 0 m) m 0 ≡ cond t m 0
        go true zero = refl
        go true (suc m) = rw (lt-ltb 0 (suc m) (omega arith))
        go false m = refl

    owed-closed : owed n rows' ≡ owed n b.rows
    unfolding owed
    owed-closed = debits-closed remaining n ∙ rw (refunded remaining k l) (go (c && ltb 0 (money n b.rows)) (money n b.rows) (sum_by (only (debit_of n) remaining) b.rows))
      where
        go : (t : Bool) (m z : ℕ) → z + cond t (m - m) 0 ≡ z
        go true m z = omega arith
        go false m z = omega arith

    pub closing : c ≡ true → ((get_or b.accounts k unused).state ≡ 2) × (owed n b.rows ≡ 0)
    unfolding closes
    closing e =
        let x : Account = get_or b.accounts k unused in
        let a1 : Bool = eqb x.state 2 in
        let a2 : Bool = business_day b.holidays b.day in
        let a3 : Bool = leb (x.request + closing_days) b.day in
        let pending : a1 ≡ true = and_left a1 a2 (and_left (a1 && a2) a3 (and_left (a1 && a2 && a3) _ e)) in
        (eqb-true x.state 2 pending, none-owed n b.rows (and_right (a1 && a2 && a3) _ e))

    pub counted-closed : SumsFit b.rows n (get_or b.accounts k unused) → SumsFit rows' n (close_if b n (get_or b.accounts k unused))
    unfolding close_if returned_fits used_is_paid closed_clear returned_of count
    counted-closed s = go c refl
      where
        ret : sum_by (λ r. cond (returned_of n r) 1 0) rows' ≡ sum_by (λ r. cond (returned_of n r) 1 0) b.rows
        ret = same-closed (λ r. cond (returned_of n r) 1 0) (λ r v. refl) (λ m i. rw (and-false (eqb m n)))

        ev : eqb (used n rows') (paid n rows') ≡ true
        ev = eq-eqb (used n rows') (paid n rows') (used-closed ∙ ap (λ (m : ℕ). m + cond c (money n b.rows) 0) (eqb-true (used n b.rows) (paid n b.rows) s.used-is-paid) ∙ sym paid-closed)

        go : (t : Bool) → c ≡ t → SumsFit rows' n (cond t (closed (get_or b.accounts k unused)) (get_or b.accounts k unused))
        go true e = record {
          returned = rw ret s.returned;
          used-is-paid = ev;
          clear = rw (money-closed, e, owed-closed, (closing e).1);
        }
        go false e = record {
          returned = rw ret s.returned;
          used-is-paid = ev;
          clear = rw (money-closed, e, owed-closed) s.clear;
        }

    pub standing-closed : Standing b.day (get_or b.accounts k unused) → Standing b.day (close_if b n (get_or b.accounts k unused))
    unfolding close_if state_fits unused_zero request_fits topup_fits decline_fits
    standing-closed s = go c refl
      where
        go : (t : Bool) → c ≡ t → Standing b.day (cond t (closed (get_or b.accounts k unused)) (get_or b.accounts k unused))
        go true e =
            let z : (get_or b.accounts k unused).state ≡ 2 = (closing e).0 in
            record { state = refl; zero = refl; request = rw z at s.request; topup = s.topup; decline = s.decline }
        go false e = s
