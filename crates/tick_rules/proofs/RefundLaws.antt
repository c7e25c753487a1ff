-- The refunds of a tick can be told from the book before it: an account closes with money left just if its days are over, none of its
-- tolls stays held, and its money exceeds what it owes.
use mathlib.Core.Path.{◌≡◌, refl, sym, ap, ◌∙◌}
use mathlib.Core.Logic.{◌≢◌}
use mathlib.Core.Bool.{Bool, true, false, not, cond, ◌&&◌, ◌||◌, true≢false, false≢true, and-false}
use Prim.Native.Nat.{ℕ, zero, suc, ◌+◌, ◌≤◌, ◌<◌, min}
use native.Mathlib.Omega.{arith}
use native.Mathlib.Decide.{ℕ_discrete}
use mathlib.Core.List.{List}
use lib.ListN.{length, get_or}
use lib.Dec.{eqb, leb, ltb}
use borrow.Author.Tests.{eqb-true, eq-eqb, ne_eqb, lt-ltb, le-leb, ltb-true, not-true}
use Rattle.records.specs.Codes.{kind_toll}
use Rattle.lists.specs.Lists.{only, exists}
use Rattle.lists.proofs.TestLaws.{and_left, and_right}
use Rattle.lists.proofs.SumLaws.{sum_by-at-le, sum_by-ext, sum_by-ext-at, sum_by-map}
use Rattle.lists.proofs.ExistsLaws.{exists-none, none-exists}
use Rattle.records.specs.Limits.{closing_days, final_day}
use Rattle.rules.specs.BusinessDays.{business_day}
use Rattle.rules.specs.Rows.{Row, blank, row_no, remaining, debit, held, held_toll, unsettled, debit_of, payable}
use Rattle.rules.specs.Settlement.{money, debt, moved, owed}
use Rattle.rules.specs.Book.{Account, state_pending, Book, settled}
use Rattle.rules.specs.Events.{release}
use Rattle.rules.specs.Tick.{next_day, hold_ends, end_hold, end_holds, before_raising, raise_tolls, closes}
use Rattle.rules.proofs.AllocationLaws.{bare}
use Rattle.rules.proofs.SettlementAccountsLaws.{Remains, settle_accounts-remains}
use Rattle.rules.specs.SoundFacts.{Near, Sound}
use Rattle.preservation.proofs.FeeLaws.{Named, fee-at}
use Rattle.preservation.proofs.DisputeKept.{HeldToll, held-is}
use Rattle.preservation.proofs.HoldsEnded.{end_holds-near, before_raising-near}
use Rattle.preservation.proofs.ClosingLaws.{none-owed}
use Rattle.preservation.proofs.TickSteps.{end_hold-keeps, end_hold-goes-on, today, ended, ended-rows, ended-length, ended_at, ended-account, money-ended, unraised, unraised-rows, unraised-row, unraised-length}
use Rattle.tick_rules.specs.Ticks.{stays_held, will_refund, will_close}
use Rattle.tick_rules.proofs.LateLaws.{late, money-late, owed-grows, clear-late}

-- a debit of account n that is unsettled is owed
owes : (n : ℕ) (rows : List Row) (k : ℕ) → k < length rows → debit_of n (get_or rows k blank) ≡ true → unsettled (get_or rows k blank) ≡ true → 0 < owed n rows
unfolding owed only
owes n rows k l d u =
    let f = sum_by-at-le (only (debit_of n) remaining) rows k blank l in
    omega (arith, rw d at f, ltb-true (get_or rows k blank).settled (get_or rows k blank).amount u)

toll-debit : (n : ℕ) (r : Row) → r.account ≡ n → r.kind ≡ kind_toll → debit_of n r ≡ true
unfolding debit_of
toll-debit n r a k = rw (a, k, eq-eqb n n refl)

-- where nothing is owed, no debit is unsettled
pub none-unsettled : (n : ℕ) (rows : List Row) → owed n rows ≡ 0 → exists (λ r. debit_of n r && unsettled r) rows ≡ false
none-unsettled n rows z = none-exists (λ r. debit_of n r && unsettled r) rows blank (λ k l. go k l (debit_of n (get_or rows k blank)) (unsettled (get_or rows k blank)) refl refl)
  where
    go : (k : ℕ) → k < length rows → (d u : Bool) → debit_of n (get_or rows k blank) ≡ d → unsettled (get_or rows k blank) ≡ u → d && u ≡ false
    go k l true true e f = absurd (omega (arith, owes n rows k l e f))
    go k l true false e f = refl
    go k l false u e f = refl

module _ (b : Book) (s : Sound b) (ne : b.day ≢ final_day) (j : ℕ) (h : j < length b.accounts) where
  abbrev n : ℕ
  n = suc j

  owed_ended : owed n (ended b) ≡ owed n b.rows
  unfolding owed only debit_of release
  owed_ended =
      let f : Row → ℕ = only (debit_of n) remaining in
      rw (ended-rows b) (sum_by-map f (end_hold (today b)) b.rows ∙ sum_by-ext (λ r. f (end_hold (today b) r)) f b.rows (end_hold-keeps f (λ r t. refl) (today b)))

  -- settlement takes as much from both sides
  remains : Remains n (ended b) (unraised b) (moved n (ended b))
  remains = rw (unraised-rows b) (settle_accounts-remains (length b.accounts) (ended b) j h)

  abbrev settled_book : Book
  settled_book = before_raising b

  near-unraised : Near b.day settled_book
  near-unraised = before_raising-near b s.near ne

  -- ---- from the late book to the one before

  -- a toll that stays held is held and unsettled before tolls are raised
  held-owes : (k : ℕ) → k < length b.rows → stays_held (today b) n (get_or b.rows k blank) ≡ true → 0 < owed n (unraised b)
  unfolding stays_held
  held-owes k l e =
      let r : Row = get_or b.rows k blank in
      let z : Row = get_or (unraised b) k blank in
      let a : r.account ≡ n = eqb-true r.account n (and_left (eqb r.account n) _ e) in
      let f = and_right (eqb r.account n) (held_toll r && not (hold_ends (today b) r)) e in
      let ht : held_toll r ≡ true = and_left (held_toll r) (not (hold_ends (today b) r)) f in
      let stays : hold_ends (today b) r ≡ false = not-true _ (and_right (held_toll r) (not (hold_ends (today b) r)) f) in
      let d : get_or (ended b) k blank ≡ r = ended_at b k ∙ end_hold-goes-on (today b) r stays in
      let same : bare z ≡ bare r = rw (← d) (unraised-row b k).kept in
      let lz : k < length (unraised b) = omega (arith, unraised-length b) in
      let hz : held_toll z ≡ true = ap (λ (x : Row). held_toll x) same ∙ ht in
      let kind : z.kind ≡ kind_toll = eqb-true z.kind 1 (and_left (eqb z.kind 1) (eqb z.dispute 1) hz) in
      let disp : z.dispute ≡ 1 = eqb-true z.dispute 1 (and_right (eqb z.kind 1) (eqb z.dispute 1) hz) in
      let w : HeldToll settled_book.day settled_book.schedule.stage z = held-is settled_book.day settled_book.schedule.stage z kind disp (near-unraised.live k lz).hold in
      let acc : z.account ≡ n = ap (λ (x : Row). x.account) same ∙ a in
      owes n (unraised b) k lz (toll-debit n z acc kind) w.open-still

  abbrev late_rows : List Row
  late_rows = late settled_book

  -- where nothing is owed then, no toll stays held
  none_stays : owed n (unraised b) ≡ 0 → not (exists (stays_held (today b) n) b.rows) ≡ true
  none_stays z = rw (none-exists (stays_held (today b) n) b.rows blank (λ k l. none k l (stays_held (today b) n (get_or b.rows k blank)) refl))
    where
      none : (k : ℕ) → k < length b.rows → (v : Bool) → stays_held (today b) n (get_or b.rows k blank) ≡ v → v ≡ false
      none k l true e = absurd (omega (arith, held-owes k l e))
      none k l false e = refl

  told-after : not (exists (λ r. debit_of n r && unsettled r) late_rows) ≡ true → ltb 0 (money n late_rows) ≡ true
      → (not (exists (stays_held (today b) n) b.rows) ≡ true) × (ltb (owed n b.rows) (money n b.rows) ≡ true)
  told-after q m =
      let o : owed n late_rows ≡ 0 = none-owed n late_rows q in
      let z : owed n (unraised b) ≡ 0 = omega (arith, owed-grows settled_book n) in
      let p : 0 < money n (unraised b) = omega (arith, money-late settled_book n, ltb-true 0 (money n late_rows) m) in
      (none_stays z, lt-ltb (owed n b.rows) (money n b.rows) (omega (arith, remains.money, remains.owed, owed_ended, money-ended b n)))

  -- an account that closes was to close
  told-closing : not (exists (λ r. debit_of n r && unsettled r) late_rows) ≡ true
      → (not (exists (stays_held (today b) n) b.rows) ≡ true) × (leb (owed n b.rows) (money n b.rows) ≡ true)
  told-closing q =
      let z : owed n (unraised b) ≡ 0 = omega (arith, owed-grows settled_book n, none-owed n late_rows q) in
      (none_stays z, le-leb (owed n b.rows) (money n b.rows) (omega (arith, remains.money, remains.owed, owed_ended, money-ended b n)))

  pub none-closing : (x : Account) → will_close b n x ≡ false → closes (raise_tolls settled_book) n x ≡ false
  unfolding closes will_close raise_tolls before_raising settled end_holds next_day
  none-closing x w = go (eqb x.state state_pending && business_day b.holidays (b.day + 1) && leb (x.request + closing_days) (b.day + 1)) _ _ _ told-closing w
    where
      go : (p q q' m' : Bool) → (q ≡ true → (q' ≡ true) × (m' ≡ true)) → p && q' && m' ≡ false → p && q ≡ false
      go true true q' m' f e = let t = f refl in absurd (true≢false (rw (t.0, t.1) at e))
      go true false q' m' f e = refl
      go false q q' m' f e = refl

  -- ---- from the book before to the late one

  module _ (q : not (exists (stays_held (today b) n) b.rows) ≡ true) where
    -- no toll of the account is held once holds have ended
    free_ended : (k : ℕ) → k < length b.rows → (get_or b.rows k blank).account ≡ n → held_toll (get_or (ended b) k blank) ≡ false
    unfolding stays_held end_hold
    free_ended k l a = rw (ended_at b k) (go (hold_ends (today b) (get_or b.rows k blank)) (held_toll (get_or b.rows k blank)) refl refl)
      where
        r : Row
        r = get_or b.rows k blank

        go : (v w : Bool) → hold_ends (today b) r ≡ v → held_toll r ≡ w → held_toll (cond v (release (today b) r) r) ≡ false
        go true w e f = unfold release in (and-false (eqb r.kind 1))
        go false true e f =
            let x : eqb r.account n && (held_toll r && not (hold_ends (today b) r)) ≡ false = exists-none (stays_held (today b) n) b.rows blank (not-true _ q) k l in
            absurd (true≢false (rw (eq-eqb r.account n a, e, f) at x))
        go false false e f = f

    free-number : (i : ℕ) → i ≤ length b.rows → (row_no (ended b) i).account ≡ n → held_toll (row_no (ended b) i) ≡ false
    free-number zero l e = refl
    free-number (suc k) l e = free_ended k l (sym (ended-account b k) ∙ e)

    -- so all its debits are payable
    all-payable : (k : ℕ) → k < length (ended b) → only (payable (ended b) n) remaining (get_or (ended b) k blank) ≡ only (debit_of n) remaining (get_or (ended b) k blank)
    unfolding only payable debit_of held
    all-payable k l = go (ℕ_discrete (get_or (ended b) k blank).account n)
      where
        r : Row
        r = get_or (ended b) k blank

        free : r.account ≡ n → held_toll r || eqb r.kind 2 && held_toll (row_no (ended b) r.reference) ≡ false
        free a = rw (free_ended k (omega (arith, ended-length b)) (sym (ended-account b k) ∙ a)) (fee (eqb r.kind 2) refl)
          where
            fee : (v : Bool) → eqb r.kind 2 ≡ v → v && held_toll (row_no (ended b) r.reference) ≡ false
            fee true e =
                let f : Named (ended b) (suc k) r = fee-at b.day (end_holds (next_day b)) (end_holds-near b s.near ne) k l (eqb-true r.kind 2 e) in
                free-number r.reference (omega (arith, f.before, ended-length b)) (f.account ∙ a)
            fee false e = refl

        go : Dec (r.account ≡ n) → cond (eqb r.account n && (debit r && not (held_toll r || eqb r.kind 2 && held_toll (row_no (ended b) r.reference)))) (remaining r) 0 ≡ cond (eqb r.account n && debit r) (remaining r) 0
        go (yes a) = rw (free a) (rest (eqb r.account n) (debit r))
          where
            rest : (x d : Bool) → cond (x && (d && true)) (remaining r) 0 ≡ cond (x && d) (remaining r) 0
            rest true true = refl
            rest true false = refl
            rest false d = refl
        go (no a) = rw (ne_eqb r.account n a)

    debt-ended : debt n (ended b) ≡ owed n (ended b)
    unfolding debt owed
    debt-ended = sum_by-ext-at (only (payable (ended b) n) remaining) (only (debit_of n) remaining) blank (ended b) all-payable

    told-before : ltb (owed n b.rows) (money n b.rows) ≡ true → (not (exists (λ r. debit_of n r && unsettled r) late_rows) ≡ true) × (ltb 0 (money n late_rows) ≡ true)
    unfolding moved
    told-before m =
        let l = ltb-true (owed n b.rows) (money n b.rows) m in
        let v : min (money n (ended b)) (debt n (ended b)) ≡ owed n b.rows = omega (arith, debt-ended, owed_ended, money-ended b n) in
        let z : owed n (unraised b) ≡ 0 = omega (arith, remains.owed, owed_ended) in
        let p : 0 < money n (unraised b) = omega (arith, remains.money, money-ended b n) in (
          rw (none-unsettled n late_rows (clear-late settled_book n z)),
          lt-ltb 0 (money n late_rows) (omega (arith, money-late settled_book n)),
        )

  -- ---- the two tests are one

  told : not (exists (λ r. debit_of n r && unsettled r) late_rows) && ltb 0 (money n late_rows)
      ≡ not (exists (stays_held (today b) n) b.rows) && ltb (owed n b.rows) (money n b.rows)
  told =
      go (not (exists (λ r. debit_of n r && unsettled r) late_rows)) (ltb 0 (money n late_rows)) (not (exists (stays_held (today b) n) b.rows)) (ltb (owed n b.rows) (money n b.rows))
      told-after told-before
    where
      go : (q m q' m' : Bool) → (q ≡ true → m ≡ true → (q' ≡ true) × (m' ≡ true)) → (q' ≡ true → m' ≡ true → (q ≡ true) × (m ≡ true)) → q && m ≡ q' && m'
      go true true q' m' f g = let t = f refl refl in rw (t.0, t.1)
      go true false true true f g = absurd (false≢true (g refl refl).1)
      go true false true false f g = refl
      go true false false m' f g = refl
      go false m true true f g = absurd (false≢true (g refl refl).0)
      go false m true false f g = refl
      go false m false m' f g = refl

  pub refund-told : (x : Account) → closes (raise_tolls settled_book) n x && ltb 0 (money n late_rows) ≡ will_refund b n x
  unfolding closes will_refund raise_tolls before_raising settled end_holds next_day
  refund-told x = regroup (eqb x.state state_pending && business_day b.holidays (b.day + 1) && leb (x.request + closing_days) (b.day + 1)) _ _ _ _ told
    where
      regroup : (p q m q' m' : Bool) → q && m ≡ q' && m' → p && q && m ≡ p && q' && m'
      regroup true q m q' m' e = e
      regroup false q m q' m' e = refl
