-- A tick's last step: the book and the replay close the same accounts, with the same refunds, and use up the same money. An account that is
-- closed already may close again in the replay, to no effect.
use mathlib.Core.Path.{◌≡◌, refl, sym, ap, ◌∙◌}
use mathlib.Core.Bool.{Bool, true, false, not, cond, ◌&&◌, false≢true, and_assoc}
use Prim.Native.Nat.{ℕ, zero, suc, ◌+◌, ◌≤◌, ◌<◌}
use native.Mathlib.Omega.{arith}
use native.Mathlib.Decide.{dec_lt}
use mathlib.Core.List.{List, ◌++◌}
use lib.ListN.{length, get_or, get_or-eq_default}
use lib.Dec.{eqb, leb, ltb}
use borrow.Author.Tests.{eqb-true, eqb-false, eq-eqb, ne_eqb, ltb-true, ltb-false, lt-ltb, le-ltb, leb-true, le-leb, lt-leb}
use Rattle.lists.specs.Tests.{◌is◌, ◌from◌to◌, ◌implies◌}
use Rattle.lists.specs.Lists.{sum_by, only, count, exists, gather}
use Rattle.lists.proofs.TestLaws.{and_left, and_right}
use Rattle.lists.proofs.SumLaws.{sum_by-some}
use Rattle.lists.proofs.PairLaws.{Pairs, pairs-to, pairs-sum}
use Rattle.records.specs.Limits.{closing_days}
use Rattle.records.specs.Layout.{request_place}
use Rattle.rules.specs.BusinessDays.{business_day}
use Rattle.rules.specs.Rows.{Row, blank, unsettled, debit_of, remaining}
use Rattle.rules.specs.Settlement.{money, used, paid, owed}
use Rattle.rules.specs.Book.{Account, state_unused, state_open, state_pending, state_closed, unused, Book, settled, account}
use Rattle.rules.specs.Soundness.{state_fits, unused_zero, request_fits}
use Rattle.rules.specs.Tick.{next_day, end_holds, before_raising, raise_tolls, closes}
use Rattle.rules.specs.SoundFacts.{Sound}
use Rattle.rules.proofs.StorableLaws.{unused-zero}
use Rattle.replay.specs.Entries.{Entry, is_toll, money_in, money_out}
use Rattle.replay.specs.Replay.{Note, Replay, note_no, add_fees, closing}
use Rattle.replay.proofs.Relation.{SameLine, Match, Rows, Agrees}
use Rattle.replay.proofs.PlainEvents.{noted-no}
use Rattle.replay.proofs.Balances.{sources-same, debits-same}
use Rattle.replay.proofs.Raising.{unraised_entries}
use Rattle.replay.proofs.RaisedFees.{raise-rows}
use Rattle.replay.proofs.RaisedSums.{held_of, after_raising, after_raising-used-is-paid, after_raising-sources, after_raising-debits, held-owes, none-owed, closed_none}

-- ---- an account's state and its request day

request-none : (today : ℕ) (x : Account) → unused_zero x ≡ true → request_fits today x ≡ true → state_fits x ≡ true → x.state is state_pending ≡ false → x.state is state_closed ≡ false → x.request ≡ 0
unfolding request_fits state_fits
request-none today x z q f p c = go (x.state is state_open) refl
  where
    go : (v : Bool) → x.state is state_open ≡ v → x.request ≡ 0
    go true e = eqb-true _ _ (rw e at (and_left (x.state is state_open implies x.request is 0) _ q))
    go false e =
        let l : x.state ≤ state_closed = leb-true _ _ f in
        let n : x.state ≡ state_unused = omega (arith, eqb-false x.state state_open e, eqb-false x.state state_pending p, eqb-false x.state state_closed c) in
        unused-zero x n z request_place

request-some : (today : ℕ) (x : Account) → request_fits today x ≡ true → x.state ≡ state_pending → 1 ≤ x.request
unfolding request_fits
request-some today x q e =
    let f : x.request from 1 to today ≡ true = rw e at q in
    leb-true _ _ (and_left (leb 1 x.request) (leb x.request today) f)

-- ---- what an account owes, judged by its unsettled debits and by its sums

owes-some : (c : ℕ) (r : Row) → (0 < cond (debit_of c r && unsettled r) 1 0 → 0 < only (debit_of c) remaining r) × (0 < only (debit_of c) remaining r → 0 < cond (debit_of c r && unsettled r) 1 0)
unfolding only
owes-some c r = go (debit_of c r) (unsettled r) refl
  where
    go : (d u : Bool) → unsettled r ≡ u → (0 < cond (d && u) 1 0 → 0 < cond d (remaining r) 0) × (0 < cond d (remaining r) 0 → 0 < cond (d && u) 1 0)
    go true true e = (λ h. let l : r.settled < r.amount = ltb-true _ _ e in omega arith, λ h. omega arith)
    go true false e = (λ h. absurd (omega arith), λ h. let l : r.amount ≤ r.settled = ltb-false _ _ e in absurd (omega arith))
    go false u e = (λ h. absurd (omega arith), λ h. absurd (omega arith))

zero_test : (m n : ℕ) → (0 < m → 0 < n) → (0 < n → 0 < m) → not (ltb 0 m) ≡ eqb n 0
zero_test m n f g = go (dec_lt 0 m)
  where
    go : Dec (0 < m) → not (ltb 0 m) ≡ eqb n 0
    go (yes h) = rw (lt-ltb 0 m h) (sym (ne_eqb n 0 (λ z. let l = f h in omega arith)))
    go (no h) = let u : n ≡ 0 = none (dec_lt 0 n) in rw (le-ltb 0 m (omega arith)) (sym (eq-eqb n 0 u))
      where
        none : Dec (0 < n) → n ≡ 0
        none (yes l) = absurd (h (g l))
        none (no l) = omega arith

unsettled-owed : (c : ℕ) (rows : List Row) → not (exists (λ r. debit_of c r && unsettled r) rows) ≡ (owed c rows is 0)
unfolding exists count owed
unsettled-owed c rows =
    zero_test _ (sum_by (only (debit_of c) remaining) rows)
    (sum_by-some _ (only (debit_of c) remaining) blank rows (λ k h. (owes-some c (get_or rows k blank)).0))
    (sum_by-some (only (debit_of c) remaining) _ blank rows (λ k h. (owes-some c (get_or rows k blank)).1))

-- with debits v + o and sources u + m, and h held tolls, each an unsettled debit
judged : (u v o m h : ℕ) → u ≡ v → (0 < h → 0 < o) → (h ≡ 0 → o ≤ m → o ≡ 0) → eqb o 0 ≡ not (ltb 0 h) && leb (v + o) (u + m)
judged u v o m h e f g = go (dec_lt 0 h) (dec_lt m o)
  where
    go : Dec (0 < h) → Dec (m < o) → eqb o 0 ≡ not (ltb 0 h) && leb (v + o) (u + m)
    go (yes p) d = rw (lt-ltb 0 h p) (ne_eqb o 0 (λ z. let l = f p in omega arith))
    go (no p) (yes q) = rw (le-ltb 0 h (omega arith), lt-leb (v + o) (u + m) (omega arith)) (ne_eqb o 0 (λ z. omega arith))
    go (no p) (no q) = rw (le-ltb 0 h (omega arith), le-leb (v + o) (u + m) (omega arith)) (eq-eqb o 0 (g (omega arith) (omega arith)))

-- ---- the accounts that close

module _ (b : Book) (p : Replay) (sound : Sound b) (a : Agrees b p) where
  abbrev pub now : ℕ
  now = b.day + 1

  abbrev pub L : ℕ
  L = b.schedule.stage

  abbrev raised_book : Book
  raised_book = raise_tolls (before_raising b)

  abbrev pub raised_entries : List Entry
  raised_entries = unraised_entries b p sound a ++ gather (add_fees p.schedule (p.day + 1)) p.entries

  pub rows : Rows (Match 0 now L) (after_raising b p sound a) raised_entries
  rows = raise-rows b p sound a

  lines : Pairs SameLine (after_raising b p sound a) raised_entries
  lines = pairs-to (λ r x m. m.is.line) rows

  abbrev pub note_of : ℕ → Note
  note_of c = note_no p.notes c

  abbrev pub closes_now : ℕ → Bool
  closes_now c = closes raised_book c (account b c)

  abbrev pub closing_now : ℕ → Bool
  closing_now c = closing p.holidays now raised_entries c (note_of c)

  -- the book and the replay judge alike, or the account is closed already and has nothing
  pub data Judged (c : ℕ) : Type 0 where
    same : closes_now c ≡ closing_now c → (closing_now c ≡ true → money_in c raised_entries ≡ money_out c raised_entries + money c (after_raising b p sound a)) → Judged c
    idle : closes_now c ≡ false → money c (after_raising b p sound a) ≡ 0 → money_in c raised_entries ≡ money_out c raised_entries → (account b c).state ≡ state_closed → Judged c

  -- an account without a request
  quiet : (c : ℕ) → (account b c).state is state_pending ≡ false → (account b c).request ≡ 0 → Judged c
  unfolding closes closing
  quiet c e z =
      let n : (note_of c).request ≡ 0 = sym (noted-no b p a c).request ∙ z in
      same (rw (e, n)) (λ v. absurd (false≢true (rw n at v)))

  -- ---- an account in the table

  module _ (j : ℕ) (h : j < length b.accounts) where
    abbrev c : ℕ
    c = suc j

    sums-in : money_in c raised_entries ≡ used c (after_raising b p sound a) + money c (after_raising b p sound a)
    sums-in = sym (sources-same lines c) ∙ after_raising-sources b p sound a j h

    sums-out : money_out c raised_entries ≡ paid c (after_raising b p sound a) + owed c (after_raising b p sound a)
    sums-out = sym (debits-same lines c) ∙ after_raising-debits b p sound a j h

    held-count : sum_by (held_of c) (after_raising b p sound a) ≡ count (λ y. y.account is c && (is_toll y && y.hold)) raised_entries
    unfolding count
    held-count = pairs-sum (pairs-to (λ r x f. rw (f.hold, f.kind, f.account)) lines)

    -- "no unsettled debit, held ones counted"
    clear-same : not (exists (λ r. debit_of c r && unsettled r) (after_raising b p sound a))
        ≡ not (exists (λ y. y.account is c && (is_toll y && y.hold)) raised_entries) && leb (money_out c raised_entries) (money_in c raised_entries)
    unfolding exists
    clear-same =
        unsettled-owed c (after_raising b p sound a)
        ∙ rw (sums-in, sums-out, ← held-count)
        (judged (used c (after_raising b p sound a)) (paid c (after_raising b p sound a)) (owed c (after_raising b p sound a)) (money c (after_raising b p sound a)) (sum_by (held_of c) (after_raising b p sound a))
        (after_raising-used-is-paid b p sound a j h) (held-owes b p sound a j h) (none-owed b p sound a j h))

    pending : (account b c).state ≡ state_pending → Judged c
    unfolding closes closing raise_tolls before_raising settled end_holds next_day
    pending e =
        let n = noted-no b p a c in
        let r : 1 ≤ (account b c).request = request-some b.day (account b c) (sound.near.standing j h).request e in
        let day : business_day b.holidays now ≡ business_day p.holidays now = ap (λ (hs : List ℕ). business_day hs now) a.holidays in
        let over : Bool = leb ((account b c).request + closing_days) now in
        let unheld : Bool = not (exists (λ y. y.account is c && (is_toll y && y.hold)) raised_entries) in
        let covered : Bool = leb (money_out c raised_entries) (money_in c raised_entries) in
        let t : closes_now c ≡ closing_now c = rw (e, ← n.request, lt-ltb 0 (account b c).request r, clear-same)
        (sym (and_assoc (business_day b.holidays now && over) unheld covered) ∙ ap (λ (v : Bool). v && over && unheld && covered) day) in
        same t (λ v.
        let o : owed c (after_raising b p sound a) ≡ 0 = eqb-true _ _ (sym (unsettled-owed c (after_raising b p sound a)) ∙ and_right ((account b c).state is state_pending && business_day b.holidays now && leb ((account b c).request + closing_days) now) _ (t ∙ v)) in
        omega (arith, sums-in, sums-out, after_raising-used-is-paid b p sound a j h))

    closed-idle : (account b c).state ≡ state_closed → Judged c
    unfolding closes
    closed-idle e =
        let z = closed_none b p sound a j h e in
        idle (rw e) z.0 (omega (arith, sums-in, sums-out, after_raising-used-is-paid b p sound a j h, z.0, z.1)) e

    in_table : Judged c
    in_table = go ((account b c).state is state_pending) ((account b c).state is state_closed) refl refl
      where
        go : (v w : Bool) → (account b c).state is state_pending ≡ v → (account b c).state is state_closed ≡ w → Judged c
        go true w e f = pending (eqb-true _ _ e)
        go false true e f = closed-idle (eqb-true _ _ f)
        go false false e f =
            let s = sound.near.standing j h in
            quiet c e (request-none b.day (account b c) s.zero s.request s.state e f)

  pub judge : (c : ℕ) → Judged c
  judge zero = quiet zero refl refl
  judge (suc j) = go (dec_lt j (length b.accounts))
    where
      go : Dec (j < length b.accounts) → Judged (suc j)
      go (yes h) = in_table j h
      go (no h) =
          let e : get_or b.accounts j unused ≡ unused = get_or-eq_default b.accounts unused {n = j} (omega arith) in
          quiet (suc j) (rw e) (rw e)
