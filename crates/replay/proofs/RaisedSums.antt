-- An account's sums once a tick has settled and raised: used = settled, no unused money beside an unheld debt, nothing at all in a closed
-- account. So "no unsettled debit, held ones counted" is "no toll held, and the debits are at most the sources".
use mathlib.Core.Path.{◌≡◌, refl, sym, ap, ◌∙◌}
use mathlib.Core.Bool.{Bool, true, false, not, cond, ◌&&◌, false≢true, and-true, and-false}
use Prim.Native.Nat.{ℕ, zero, suc, ◌+◌, ◌-◌, ◌≤◌, ◌<◌}
use native.Mathlib.Omega.{arith}
use native.Mathlib.Decide.{dec_lt}
use mathlib.Core.List.{List, map}
use lib.ListN.{length, get_or}
use lib.Dec.{ltb}
use borrow.Author.Tests.{eqb-true, eq-eqb, ltb-true}
use Rattle.lists.specs.Tests.{◌is◌}
use Rattle.lists.specs.Lists.{sum_by, only, one, gather}
use Rattle.lists.proofs.TestLaws.{and_left, and_right}
use Rattle.lists.proofs.SumLaws.{sum_by-append, sum_by-map, sum_by-ext, sum_by-ext-at, sum_by_le, sum_by-at-le, sum_by-some, sum_by-gather, sum_by-gather-none}
use Rattle.rules.specs.Schedule.{stage_fee}
use Rattle.rules.specs.Rows.{Row, kind_toll, kind_fee, dispute_held, blank, new_row, with_reference, with_due, with_mark, row_no, debit, toll, held_toll, held, unsettled, source_of, debit_of, payable, remaining}
use Rattle.rules.specs.Settlement.{money, debt, moved, used, paid, owed}
use Rattle.rules.specs.Book.{state_closed, Book, settled, account, sources, debits}
use Rattle.rules.specs.Events.{release}
use Rattle.rules.specs.Tick.{next_day, hold_ends, end_hold, end_holds, before_raising, rises, raise, fee_row, raise_tolls}
use Rattle.rules.specs.Soundness.{used_is_paid, closed_clear}
use Rattle.rules.proofs.AllocationLaws.{bare}
use Rattle.rules.proofs.BalanceLaws.{sum-split}
use Rattle.rules.specs.SoundFacts.{Sound}
use Rattle.rules.proofs.SettlementLaws.{payable-le}
use Rattle.rules.proofs.SettlementAccountsLaws.{Remains, settle_accounts-held, settle_accounts-used-is-paid, settle_accounts-no-idle-money, settle_accounts-remains}
use Rattle.preservation.proofs.TickSteps.{end_hold-keeps, rising, raise-keeps, ended, ended-rows, ended_at, unraised-rows, unraised-row, unraised-length}
use Rattle.replay.specs.Replay.{Replay}
use Rattle.replay.proofs.Relation.{Agrees}
use Rattle.replay.proofs.SoundRows.{Refers, sound-row}
use Rattle.replay.proofs.Idle.{debt-least}
use Rattle.replay.proofs.Raising.{free-toll, kind-same, account-same, reference-same}

-- ---- a fee row's share of a sum

one_none : (f : Row → ℕ) (v : Bool) (r : Row) → (v ≡ true → f r ≡ 0) → sum_by f (one v r) ≡ 0
unfolding sum_by
one_none f true r e = omega (arith, e refl)
one_none f false r e = refl

one_same : (f g : Row → ℕ) (v : Bool) (r : Row) → f r ≡ g r → sum_by f (one v r) ≡ sum_by g (one v r)
unfolding sum_by
one_same f g true r e = omega (arith, e)
one_same f g false r e = refl

and_none : (v : Bool) (n : ℕ) → cond (v && false) n 0 ≡ 0
and_none v n = rw (and-false v)

zero-either : (v : Bool) → ◌≡◌ {A = ℕ} (cond v 0 0) 0
zero-either true = refl
zero-either false = refl

whole : (v : Bool) (n : ℕ) → cond v n 0 ≡ cond v (n - 0) 0
whole true n = omega arith
whole false n = refl

-- a held toll of account c, counted
abbrev pub held_of : ℕ → Row → ℕ
held_of c r = cond (r.account is c && (toll r && held_toll r)) 1 0

held-of : (c : ℕ) (r : Row) → 0 < held_of c r → (r.account is c ≡ true) × (held_toll r ≡ true)
held-of c r h = go (r.account is c) (toll r) (held_toll r) h
  where
    go : (v t w : Bool) → 0 < cond (v && (t && w)) 1 0 → (v ≡ true) × (w ≡ true)
    go true true true q = (refl, refl)
    go true true false q = absurd (omega arith)
    go true false w q = absurd (omega arith)
    go false t w q = absurd (omega arith)

not-held : (c : ℕ) (r : Row) → held_of c r ≤ 0 → r.account is c ≡ true → held_toll r ≡ false
not-held c r h e = go (r.kind is kind_toll) (r.dispute is dispute_held) (rw e at h)
  where
    go : (t w : Bool) → cond (t && (t && w)) 1 0 ≤ 0 → t && w ≡ false
    go true true q = absurd (omega arith)
    go true false q = refl
    go false w q = refl

owes : (c : ℕ) (r : Row) → r.account is c ≡ true → held_toll r ≡ true → unsettled r ≡ true → 0 < only (debit_of c) remaining r
unfolding only debit_of
owes c r e h u =
    let t : r.kind ≡ kind_toll = eqb-true _ _ (and_left (r.kind is kind_toll) (r.dispute is dispute_held) h) in
    let l : r.settled < r.amount = ltb-true _ _ u in
    rw (e, t) (omega arith)

payable-all : (rows : List Row) (c : ℕ) (r : Row) → (r.account is c ≡ true → held rows r ≡ false) → only (debit_of c) remaining r ≡ only (payable rows c) remaining r
unfolding only debit_of payable
payable-all rows c r f = go (r.account is c) refl
  where
    go : (v : Bool) → r.account is c ≡ v → cond (v && debit r) (remaining r) 0 ≡ cond (v && (debit r && not (held rows r))) (remaining r) 0
    go true e = rw (f e, and-true (debit r))
    go false e = refl

-- a toll that is held once holds have ended was held before, and stays as it was
end_hold-held : (today : ℕ) (r : Row) → held_toll (end_hold today r) ≡ true → end_hold today r ≡ r
unfolding end_hold release
end_hold-held today r = go (hold_ends today r)
  where
    go : (v : Bool) → held_toll (cond v (release today r) r) ≡ true → cond v (release today r) r ≡ r
    go true e = absurd (false≢true (sym (and-false (toll r)) ∙ e))
    go false e = refl

module _ (b : Book) (p : Replay) (sound : Sound b) (a : Agrees b p) where
  abbrev now : ℕ
  now = b.day + 1

  abbrev unraised : List Row
  unraised = (before_raising b).rows

  abbrev fees : List Row
  fees = gather (fee_row b.schedule now) unraised

  abbrev pub after_raising : List Row
  after_raising = (raise_tolls (before_raising b)).rows

  -- a sum that looks at neither stage, due day nor hold
  after_raising-sum : (f : Row → ℕ) → ((r : Row) (v w : ℕ) → f (with_due v (with_mark w r)) ≡ f r) → sum_by f after_raising ≡ sum_by f unraised + sum_by f fees
  unfolding raise_tolls before_raising settled end_holds next_day
  after_raising-sum f e =
      sum_by-append f (map (raise b.schedule now) unraised) fees
      ∙ ap (λ (n : ℕ). n + sum_by f fees) (sum_by-map f (raise b.schedule now) unraised ∙ sum_by-ext _ _ unraised (raise-keeps f e b.schedule now))

  ended-sum : (f : Row → ℕ) → ((r : Row) (today : ℕ) → f (release today r) ≡ f r) → sum_by f (ended b) ≡ sum_by f b.rows
  ended-sum f e = rw (ended-rows b) (sum_by-map f (end_hold now) b.rows ∙ sum_by-ext _ _ b.rows (end_hold-keeps f e now))

  -- a sum to which the fee rows add nothing, and two to which they add the same
  abbrev fee_on : ℕ → Row → Row
  fee_on n r = with_reference n (new_row kind_fee r.account now (stage_fee b.schedule (r.mark + 1)))

  fees-none : (f : Row → ℕ) → ((k n : ℕ) → k < length unraised → rises now (get_or unraised k blank) ≡ true → f (fee_on n (get_or unraised k blank)) ≡ 0) → sum_by f fees ≡ 0
  unfolding fee_row
  fees-none f e = sum_by-gather-none (fee_row b.schedule now) f blank 1 unraised (λ k n q l.
      let s : Row = get_or unraised k blank in
      one_none f (rises now s && ltb 0 (stage_fee b.schedule (s.mark + 1))) (fee_on n s) (λ v. e k n l (and_left (rises now s) (ltb 0 (stage_fee b.schedule (s.mark + 1))) v)))

  fees-same : (f g : Row → ℕ) → ((n : ℕ) (r : Row) → f (fee_on n r) ≡ g (fee_on n r)) → sum_by f fees ≡ sum_by g fees
  unfolding fee_row
  fees-same f g e = sum_by-gather (fee_row b.schedule now) f g blank 1 unraised (λ k n q l.
      let s : Row = get_or unraised k blank in
      one_same f g (rises now s && ltb 0 (stage_fee b.schedule (s.mark + 1))) (fee_on n s) (e n s))

  -- ---- the rows before the raising

  pub unraised-fits : (k : ℕ) → k < length unraised → (get_or unraised k blank).settled ≤ (get_or unraised k blank).amount
  unraised-fits k h =
      let l : k < length b.rows = rw (unraised-length b) at h in
      let r : Row = get_or b.rows k blank in
      let u : (end_hold now r).settled ≡ r.settled = end_hold-keeps (λ q. q.settled) (λ q t. unfold release in refl) now r in
      let v : (end_hold now r).amount ≡ r.amount = end_hold-keeps (λ q. q.amount) (λ q t. unfold release in refl) now r in
      (unraised-row b k).fits (rw (ended_at b k) (omega (arith, (sound-row b sound.near k l).fits)))

  -- a held toll was held before, and is unsettled
  unraised-held : (k : ℕ) → k < length unraised → held_toll (get_or unraised k blank) ≡ true → unsettled (get_or unraised k blank) ≡ true
  unraised-held k h e =
      let l : k < length b.rows = rw (unraised-length b) at h in
      let r : Row = get_or b.rows k blank in
      let d : held_toll (end_hold now r) ≡ true = sym (ap (λ (q : Row). held_toll q) ((unraised-row b k).kept ∙ ap (λ (q : Row). bare q) (ended_at b k))) ∙ e in
      let s : end_hold now r ≡ r = end_hold-held now r d in
      let q : get_or (ended b) k blank ≡ r = ended_at b k ∙ s in
      let t : get_or unraised k blank ≡ r = rw (unraised-rows b) (settle_accounts-held (length b.accounts) (ended b) k (rw q (rw s at d)) ∙ q) in
      rw t ((sound-row b sound.near k l).holding (rw s at d)).open-still

  -- ---- one account's sums

  module _ (j : ℕ) (h : j < length b.accounts) where
    abbrev c : ℕ
    c = suc j

    money-after_raising : money c after_raising ≡ money c unraised
    unfolding money only source_of
    money-after_raising = after_raising-sum (only (source_of c) remaining) (λ r v w. refl) ∙ omega (arith, fees-none (only (source_of c) remaining) (λ k n l e. and_none ((get_or unraised k blank).account is c) _))

    used-after_raising : used c after_raising ≡ used c unraised
    unfolding used only source_of
    used-after_raising =
        after_raising-sum (only (source_of c) (λ r. r.settled)) (λ r v w. refl)
        ∙ omega (arith, fees-none (only (source_of c) (λ r. r.settled)) (λ k n l e. and_none ((get_or unraised k blank).account is c) _))

    paid-after_raising : paid c after_raising ≡ paid c unraised
    unfolding paid only debit_of
    paid-after_raising =
        after_raising-sum (only (debit_of c) (λ r. r.settled)) (λ r v w. refl)
        ∙ omega (arith, fees-none (only (debit_of c) (λ r. r.settled)) (λ k n l e. zero-either ((get_or unraised k blank).account is c && true)))

    owed-after_raising : owed c after_raising ≡ owed c unraised + sum_by (only (debit_of c) remaining) fees
    unfolding owed only debit_of
    owed-after_raising = after_raising-sum (only (debit_of c) remaining) (λ r v w. refl)

    -- "used sources = settled debits"
    pub after_raising-used-is-paid : used c after_raising ≡ paid c after_raising
    after_raising-used-is-paid =
        let e : used c b.rows ≡ paid c b.rows = unfold used_is_paid in (eqb-true _ _ (sound.near.counted j h).used-is-paid) in
        let u : used c (ended b) ≡ used c b.rows = unfold used only source_of in (ended-sum (only (source_of c) (λ r. r.settled)) (λ r t. unfold release in refl)) in
        let v : paid c (ended b) ≡ paid c b.rows = unfold paid only debit_of in (ended-sum (only (debit_of c) (λ r. r.settled)) (λ r t. unfold release in refl)) in
        used-after_raising ∙ rw (unraised-rows b) (settle_accounts-used-is-paid (length b.accounts) (ended b) c (u ∙ e ∙ sym v)) ∙ sym paid-after_raising

    -- the amounts of sources and debits
    pub after_raising-sources : sources after_raising c ≡ used c after_raising + money c after_raising
    unfolding sources used money
    after_raising-sources =
        let f : Row → ℕ = only (source_of c) (λ r. r.amount) in
        let z : sum_by f fees ≡ 0 = fees-none f (λ k n l e. unfold only source_of in (and_none ((get_or unraised k blank).account is c) _)) in
        let n : sum_by f after_raising ≡ sum_by f unraised + sum_by f fees = after_raising-sum f (λ r v w. unfold only source_of in refl) in
        let q = sum-split (source_of c) unraised unraised-fits in
        omega (arith, money-after_raising, used-after_raising)

    pub after_raising-debits : debits after_raising c ≡ paid c after_raising + owed c after_raising
    unfolding debits paid owed
    after_raising-debits =
        let f : Row → ℕ = only (debit_of c) (λ r. r.amount) in
        let z : sum_by f fees ≡ sum_by (only (debit_of c) remaining) fees = fees-same f (only (debit_of c) remaining) (λ n r. unfold only debit_of in (whole (r.account is c && true) _)) in
        let n : sum_by f after_raising ≡ sum_by f unraised + sum_by f fees = after_raising-sum f (λ r v w. unfold only debit_of in refl) in
        let q = sum-split (debit_of c) unraised unraised-fits in
        omega (arith, owed-after_raising, paid-after_raising)

    -- an account without an unsettled unheld debit gets no fee
    fees-owed : debt c unraised ≡ 0 → sum_by (only (debit_of c) remaining) fees ≡ 0
    unfolding only debit_of
    fees-owed z = fees-none (only (debit_of c) remaining) (λ k n l e.
        let s : Row = get_or unraised k blank in
        let q = rising now s e in
        go (s.account is c) refl _ (λ v.
        let u : s.settled < s.amount = ltb-true _ _ q.open-still in
        omega (arith, debt-least unraised c k l (eqb-true _ _ v) (rw q.toll) (free-toll unraised s q.toll q.free))))
      where
        go : (v : Bool) {u : Bool} → u ≡ v → (n : ℕ) → (u ≡ true → ⊥) → cond (v && true) n 0 ≡ 0
        go true e n f = absurd (f e)
        go false e n f = refl

    -- no unused money beside it
    after_raising-no-idle-money : 0 < money c after_raising → debt c unraised ≡ 0
    unfolding moved
    after_raising-no-idle-money m =
        let e : moved c unraised ≡ 0 = rw (unraised-rows b) (settle_accounts-no-idle-money (length b.accounts) (ended b) j h) in
        omega (arith, money-after_raising)

    -- ---- the account's held tolls

    held-after_raising : sum_by (held_of c) after_raising ≡ sum_by (held_of c) unraised
    held-after_raising = after_raising-sum (held_of c) (λ r v w. refl) ∙ omega (arith, fees-none (held_of c) (λ k n l e. and_none ((get_or unraised k blank).account is c) 1))

    -- a held toll is an unsettled debit
    pub held-owes : 0 < sum_by (held_of c) after_raising → 0 < owed c after_raising
    unfolding owed
    held-owes m =
        let q : 0 < sum_by (held_of c) unraised = rw held-after_raising at m in
        let o : 0 < sum_by (only (debit_of c) remaining) unraised =
        sum_by-some (held_of c) (only (debit_of c) remaining) blank unraised
        (λ k l v. let e = held-of c (get_or unraised k blank) v in owes c (get_or unraised k blank) e.0 e.1 (unraised-held k l e.1)) q in
        omega (arith, owed-after_raising)

    -- without one, all that is owed is payable
    module _ (z : sum_by (held_of c) unraised ≡ 0) where
      free : (k : ℕ) → k < length unraised → (get_or unraised k blank).account is c ≡ true → held_toll (get_or unraised k blank) ≡ false
      free k l e = not-held c (get_or unraised k blank) (omega (arith, sum_by-at-le (held_of c) unraised k blank l)) e

      named-free : (k : ℕ) → k < length unraised → (get_or unraised k blank).account is c ≡ true → (get_or unraised k blank).kind is kind_fee ≡ true
          → held_toll (row_no unraised (get_or unraised k blank).reference) ≡ false
      named-free k l e f =
          let i : k < length b.rows = rw (unraised-length b) at l in
          let r : Row = get_or b.rows k blank in
          let g : Refers b.rows (suc k) r = (sound-row b sound.near k i).refers (rw (kind-same b p sound a k i) at f) in
          rw (reference-same b p sound a k i) (at-no r.reference (omega (arith, g.earlier)) (g.same ∙ sym (account-same b p sound a k i) ∙ eqb-true _ _ e))
        where
          at-no : (n : ℕ) → n ≤ length unraised → (row_no b.rows n).account ≡ c → held_toll (row_no unraised n) ≡ false
          at-no zero m q = refl
          at-no (suc n) m q = free n (omega arith) (eq-eqb _ _ (account-same b p sound a n (omega (arith, unraised-length b)) ∙ q))

      owed-debt : owed c unraised ≡ debt c unraised
      unfolding owed debt held
      owed-debt = sum_by-ext-at (only (debit_of c) remaining) (only (payable unraised c) remaining) blank unraised
          (λ k l. payable-all unraised c (get_or unraised k blank) (λ e. rw (free k l e) (go ((get_or unraised k blank).kind is kind_fee) refl (named-free k l e))))
        where
          go : (v : Bool) {f w : Bool} → f ≡ v → (f ≡ true → w ≡ false) → v && w ≡ false
          go true e q = q e
          go false e q = refl

    pub none-owed : sum_by (held_of c) after_raising ≡ 0 → owed c after_raising ≤ money c after_raising → owed c after_raising ≡ 0
    none-owed z l = go (dec_lt 0 (money c after_raising))
      where
        go : Dec (0 < money c after_raising) → owed c after_raising ≡ 0
        go (yes m) = omega (arith, owed-after_raising, owed-debt (sym held-after_raising ∙ z), after_raising-no-idle-money m, fees-owed (after_raising-no-idle-money m))
        go (no m) = omega arith

    -- ---- a closed account

    pub closed_none : (account b c).state ≡ state_closed → (money c after_raising ≡ 0) × (owed c after_raising ≡ 0)
    unfolding money owed debt closed_clear
    closed_none e =
        let m : money c b.rows is 0 && owed c b.rows is 0 ≡ true = rw (eq-eqb _ _ e) at (sound.near.counted j h).clear in
        let m0 : money c b.rows ≡ 0 = eqb-true _ _ (and_left (money c b.rows is 0) (owed c b.rows is 0) m) in
        let o0 : owed c b.rows ≡ 0 = eqb-true _ _ (and_right (money c b.rows is 0) (owed c b.rows is 0) m) in
        let md : money c (ended b) ≡ 0 = ended-sum (only (source_of c) remaining) (λ r t. unfold release only source_of in refl) ∙ m0 in
        let od : owed c (ended b) ≡ 0 = ended-sum (only (debit_of c) remaining) (λ r t. unfold release only debit_of in refl) ∙ o0 in
        let left : Remains c (ended b) unraised (moved c (ended b)) = rw (unraised-rows b) (settle_accounts-remains (length b.accounts) (ended b) j h) in
        let me : money c unraised ≡ 0 = omega (arith, left.money) in
        let oe : owed c unraised ≡ 0 = omega (arith, left.owed) in
        let de : debt c unraised ≤ owed c unraised = sum_by_le (only (payable unraised c) remaining) (only (debit_of c) remaining) unraised (payable-le unraised c) in
        (money-after_raising ∙ me, omega (arith, owed-after_raising, fees-owed (omega arith)))
