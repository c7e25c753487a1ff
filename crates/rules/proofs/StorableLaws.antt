-- In a sound book every word is one that a signed word holds.
use mathlib.Core.Path.{◌≡◌, refl, sym, ap, ◌∙◌}
use mathlib.Core.Bool.{Bool, true, false, cond, ◌&&◌, ◌||◌, true≢false}
use Prim.Native.Nat.{ℕ, zero, suc, ◌+◌, ◌≤◌, ◌<◌}
use native.Mathlib.Omega.{arith}
use native.Mathlib.Decide.{dec_lt}
use mathlib.Core.List.{List, ◌∷◌}
use lib.ListN.{length, get_or, get_or-eq_default}
use lib.Dec.{eqb, leb, ltb}
use borrow.Author.Tests.{leb-true, leb-false, ltb-true, eqb-true, eqb-false, not-true}
use Rattle.records.specs.Layout.{request_place}
use Rattle.records.specs.Encoding.{account_fields, StorableAccount, StorableRow}
use Rattle.records.proofs.FieldLaws.{storable-none, storable-more}
use Rattle.lists.specs.Tests.{◌is◌, ◌from◌to◌, ◌implies◌}
use Rattle.lists.specs.Lists.{count}
use Rattle.lists.proofs.TestLaws.{and_left, and_right, all_of-zero}
use Rattle.lists.proofs.SumLaws.{count-le}
use Rattle.records.specs.Codes.{code_yes}
use Rattle.records.specs.Limits.{final_day, most_accounts, most_rows, longest_stage, highest_fee, highest_rate, highest_refund, highest_passage, highest_topup, most_declines}
use Rattle.rules.specs.Schedule.{Rates, Schedule, schedule_fits, rates_fit}
use Rattle.rules.specs.RateLists.{RateList, no_list, list_in_range}
use Rattle.rules.specs.Rows.{Row, blank, kind_toll, kind_fee, kind_reversal, kind_payment, kind_credit, row_no, toll, unsettled}
use Rattle.rules.specs.Book.{Account, state_unused, unused, account_no, Book}
use Rattle.rules.specs.Successors.{other_used}
use Rattle.rules.specs.Opening.{day_fits, sizes_fit}
use Rattle.rules.specs.Soundness.{kind_fits, most_of, amount_fits, settled_fits, mark_fits, toll_words_fit, no_reference, row_day_fits, due_within, hold_fits, account_used, names, reference_fits, state_fits, unused_zero, request_fits, topup_fits, decline_fits, successor_fits, returned_of, returned_fits}
use Rattle.rules.specs.SoundFacts.{Near}
use Rattle.rules.proofs.RateListLaws.{list-in-range}

-- ---- what the tests bound

-- an account number with a state is one of the table's
pub used-inside : (xs : List Account) (n : ℕ) → eqb (account_no xs n).state 0 ≡ false → n ≤ length xs
used-inside xs n e =
    elim (dec_lt (length xs) n) [
      | yes h ↦ absurd (true≢false (sym (ap (λ (x : Account). eqb x.state 0) (get_or-eq_default (unused ∷ xs) unused {n = n} h)) ∙ e))
      | no h ↦ omega arith
    ]

-- another used account is one of the table's
pub other-inside : (xs : List Account) (n s : ℕ) → other_used xs n s ≡ true → s ≤ length xs
unfolding other_used
other-inside xs n s e = used-inside xs s (not-true _ (and_right _ _ e))

-- a successor is one of the accounts
pub successor-le : (xs : List Account) (n : ℕ) (x : Account) → successor_fits xs n x ≡ true → x.successor ≤ length xs
unfolding successor_fits
successor-le xs n x = go (x.successor is 0) refl
  where
    go : (v : Bool) → x.successor is 0 ≡ v → v || other_used xs n x.successor ≡ true → x.successor ≤ length xs
    go true z e = omega (arith, eqb-true x.successor 0 z)
    go false z e = other-inside xs n x.successor e

pub most_of-le : (k : ℕ) → most_of k ≤ highest_refund
unfolding most_of
most_of-le zero = omega arith
most_of-le (suc zero) = omega arith
most_of-le (suc (suc zero)) = omega arith
most_of-le (suc (suc (suc zero))) = omega arith
most_of-le (suc (suc (suc (suc zero)))) = omega arith
most_of-le (suc (suc (suc (suc (suc zero))))) = omega arith
most_of-le (suc (suc (suc (suc (suc (suc zero)))))) = omega arith
most_of-le (suc (suc (suc (suc (suc (suc (suc k))))))) = omega arith

pub between_le : (lo hi n : ℕ) → n from lo to hi ≡ true → n ≤ hi
between_le lo hi n e = leb-true n hi (and_right (leb lo n) (leb n hi) e)

pub amount-le : (r : Row) → amount_fits r ≡ true → r.amount ≤ highest_refund
unfolding amount_fits
amount-le r e = omega (arith, between_le 1 (most_of r.kind) r.amount e, most_of-le r.kind)

pub settled-le : (r : Row) → settled_fits r ≡ true → r.settled ≤ r.amount
unfolding settled_fits
settled-le r e = leb-true r.settled r.amount (and_left (leb r.settled r.amount) _ e)

pub mark-le : (r : Row) → mark_fits r ≡ true → r.mark ≤ 4
unfolding mark_fits
mark-le r = go (toll r) (r.kind is kind_payment)
  where
    go : (p q : Bool) → cond p (leb r.mark 4) (cond q (r.mark from 1 to 4) (r.mark is 0)) ≡ true → r.mark ≤ 4
    go true q e = leb-true r.mark 4 e
    go false true e = between_le 1 4 r.mark e
    go false false e = omega (arith, eqb-true r.mark 0 e)

-- a test under `implies` bounds a word, and outside it the word is 0
implied-le : (t c : Bool) (n hi : ℕ) → t implies c ≡ true → (c ≡ true → n ≤ hi) → (t ≡ false → n ≡ 0) → n ≤ hi
implied-le true c n hi e f g = f e
implied-le false c n hi e f g = omega (arith, g refl)

module _ (r : Row) (w : toll_words_fit r ≡ true) where
  other-zero : toll r ≡ false → (r.due ≡ 0) × (r.dispute ≡ 0) × (r.hold ≡ 0)
  unfolding toll_words_fit
  other-zero e =
      let z : r.due is 0 && r.dispute is 0 && r.hold is 0 ≡ true = rw e at w in
      let y = and_left (r.due is 0 && r.dispute is 0) (r.hold is 0) z in (
        eqb-true r.due 0 (and_left (r.due is 0) (r.dispute is 0) y),
        eqb-true r.dispute 0 (and_right (r.due is 0) (r.dispute is 0) y),
        eqb-true r.hold 0 (and_right (r.due is 0 && r.dispute is 0) (r.hold is 0) z),
      )

  pub dispute-le : r.dispute ≤ 3
  unfolding toll_words_fit
  dispute-le = go (toll r) refl w
    where
      go : (b : Bool) → toll r ≡ b → cond b (leb r.dispute 3 && r.reference from 1 to highest_passage) (r.due is 0 && r.dispute is 0 && r.hold is 0) ≡ true → r.dispute ≤ 3
      go true e t = leb-true r.dispute 3 (and_left (leb r.dispute 3) (r.reference from 1 to highest_passage) t)
      go false e t = omega (arith, (other-zero e).1)

  pub due-le : (past last : ℕ) → due_within past last r ≡ true → r.due ≤ last
  unfolding due_within
  due-le past last e =
      implied-le (toll r) _ r.due last e (λ c. leb-true r.due last (and_left (leb r.due last) _ c)) (λ o. (other-zero o).0)

  pub hold-le : (today L : ℕ) → hold_fits today L r ≡ true → r.hold ≤ today
  unfolding hold_fits
  hold-le today L e = implied-le (toll r) _ r.hold today e (go (eqb r.dispute 1)) (λ o. (other-zero o).2)
    where
      c1 : Bool
      c1 = leb 1 r.hold && leb today (r.hold + 29)

      c2 : Bool
      c2 = leb r.hold today

      c3 : Bool
      c3 = leb r.due (r.hold + L)

      c4 : Bool
      c4 = ltb r.mark 4 implies ltb r.hold r.due

      go : (b : Bool) → cond b (c1 && c2 && unsettled r && c3 && c4) (r.hold is 0) ≡ true → r.hold ≤ today
      go true c =
          leb-true r.hold today (and_right c1 c2 (and_left (c1 && c2) (unsettled r) (and_left (c1 && c2 && unsettled r) c3 (and_left (c1 && c2 && unsettled r && c3) c4 c))))
      go false c = omega (arith, eqb-true r.hold 0 c)

-- a reference is a passage number, an earlier row or 0
names-lt : (rows : List Row) (n : ℕ) (r : Row) (k : ℕ) → names rows n r k ≡ true → r.reference < n
unfolding names
names-lt rows n r k e =
    let p : Bool = (row_no rows r.reference).kind is k in
    let q : Bool = (row_no rows r.reference).account is r.account in
    ltb-true r.reference n (and_left (ltb r.reference n) p (and_left (ltb r.reference n && p) q e))

or_lt : (rows : List Row) (n : ℕ) (r : Row) (k m : ℕ) → names rows n r k || names rows n r m ≡ true → r.reference < n
or_lt rows n r k m = go (names rows n r k) refl
  where
    go : (b : Bool) → names rows n r k ≡ b → b || names rows n r m ≡ true → r.reference < n
    go true e h = names-lt rows n r k e
    go false e h = names-lt rows n r m h

module _ (rows : List Row) (n : ℕ) (r : Row) (k : kind_fits r ≡ true) (w : toll_words_fit r ≡ true) (z : no_reference r ≡ true) (f : reference_fits rows n r ≡ true) where
  abbrev fee-part : Bool
  fee-part = r.kind is kind_fee implies names rows n r kind_toll || names rows n r kind_payment

  abbrev reversal-part : Bool
  reversal-part = r.kind is kind_reversal implies names rows n r kind_payment

  abbrev credit-part : Bool
  credit-part = r.kind is kind_credit implies names rows n r kind_toll

  pub reference-le : r.reference ≤ highest_passage + n
  unfolding kind_fits toll_words_fit no_reference reference_fits
  reference-le = go (eqb r.kind 1) (eqb r.kind 2) (eqb r.kind 3) (eqb r.kind 4) (eqb r.kind 5) (eqb r.kind 6) refl refl refl refl refl refl
    where
      go : (t u v x y s : Bool) → eqb r.kind 1 ≡ t → eqb r.kind 2 ≡ u → eqb r.kind 3 ≡ v → eqb r.kind 4 ≡ x → eqb r.kind 5 ≡ y → eqb r.kind 6 ≡ s
          → r.reference ≤ highest_passage + n
      go true u v x y s a b c d e g =
          let q : leb r.dispute 3 && r.reference from 1 to highest_passage ≡ true = rw a at w in
          omega (arith, between_le 1 highest_passage r.reference (and_right (leb r.dispute 3) _ q))
      go false true v x y s a b c d e g = let q = rw b at (and_left fee-part reversal-part (and_left (fee-part && reversal-part) credit-part f)) in omega (arith, or_lt rows n r 1 4 q)
      go false false true x y s a b c d e g = let q = rw c at (and_right fee-part reversal-part (and_left (fee-part && reversal-part) credit-part f)) in omega (arith, names-lt rows n r 4 q)
      go false false false true y s a b c d e g = let q = rw d at z in omega (arith, eqb-true r.reference 0 q)
      go false false false false true s a b c d e g = let q = rw e at (and_right (fee-part && reversal-part) credit-part f) in omega (arith, names-lt rows n r 1 q)
      go false false false false false true a b c d e g = let q = rw (d, g) at z in omega (arith, eqb-true r.reference 0 q)
      go false false false false false false a b c d e g =
          let l = leb-true 1 r.kind (and_left (leb 1 r.kind) (leb r.kind 6) k) in
          let h = leb-true r.kind 6 (and_right (leb 1 r.kind) (leb r.kind 6) k) in
          absurd (omega (arith, eqb-false))

-- an account's words: each is 0 where it is unused
pub unused-zero : (x : Account) → x.state ≡ state_unused → unused_zero x ≡ true → (k : ℕ) → get_or (account_fields x) k 0 ≡ 0
unfolding unused_zero
unused-zero x e z = all_of-zero (account_fields x) (rw e (rw e at z))

request-le : (today : ℕ) (x : Account) → state_fits x ≡ true → unused_zero x ≡ true → request_fits today x ≡ true → x.request ≤ today
unfolding state_fits request_fits
request-le today x s z f = go (eqb x.state 0) (eqb x.state 1) (leb 2 x.state) refl refl refl
  where
    one-part : Bool
    one-part = x.state is 1 implies x.request is 0

    two-part : Bool
    two-part = leb 2 x.state implies x.request from 1 to today

    go : (p q v : Bool) → eqb x.state 0 ≡ p → eqb x.state 1 ≡ q → leb 2 x.state ≡ v → x.request ≤ today
    go true q v a c d = let r : x.request ≡ 0 = unused-zero x (eqb-true x.state 0 a) z request_place in omega arith
    go false true v a c d = omega (arith, eqb-true x.request 0 (rw c at (and_left one-part two-part f)))
    go false false true a c d = between_le 1 today x.request (rw d at (and_right one-part two-part f))
    go false false false a c d = absurd (omega (arith, eqb-false x.state 0 a, eqb-false x.state 1 c, leb-false 2 x.state d))

-- what the clause on the top-up's words says of each of them
pub record TopupParts (x : Account) : Type 0 where
  pub threshold : leb x.threshold highest_topup ≡ true
  pub topup : leb x.topup highest_topup ≡ true
  pub declines : leb x.declines most_declines ≡ true
  pub reserve : leb x.reserve code_yes ≡ true
  pub uncounted : x.declines is 0 implies x.declined is 0 ≡ true
  pub undated : x.declined is 0 implies x.declines is 0 ≡ true

pub topup-parts : (x : Account) → topup_fits x ≡ true → TopupParts x
unfolding topup_fits
topup-parts x e =
    let p : Bool = leb x.threshold highest_topup in
    let q : Bool = leb x.topup highest_topup in
    let d : Bool = leb x.declines most_declines in
    let f : Bool = x.declines is 0 implies x.declined is 0 in
    let g : Bool = x.declined is 0 implies x.declines is 0 in
    let v : Bool = leb x.reserve code_yes in
    let h : Bool = x.topup is 0 implies x.threshold is 0 && x.declines is 0 && x.reserve is 0 in
    let all = and_left (p && q && d && f && g && v) h e in
    let days = and_left (p && q && d && f && g) v all in
    let counts = and_left (p && q && d && f) g days in
    let bounds = and_left (p && q && d) f counts in
    let amounts = and_left (p && q) d bounds in
    record {
      threshold = and_left p q amounts;
      topup = and_right p q amounts;
      declines = and_right (p && q) d bounds;
      reserve = and_right (p && q && d && f && g) v all;
      uncounted = and_right (p && q && d) f counts;
      undated = and_right (p && q && d && f) g days;
    }

-- ---- a schedule's words

pub record StorableSchedule (s : Schedule) : Type 0 where
  pub least : 1 ≤ s.stage
  pub stage : s.stage ≤ longest_stage
  pub fee2 : s.fee2 ≤ highest_fee
  pub fee3 : s.fee3 ≤ highest_fee
  pub fee4 : s.fee4 ≤ highest_fee

pub schedule-storable : (s : Schedule) → schedule_fits s ≡ true → StorableSchedule s
unfolding schedule_fits
schedule-storable s e =
    let l : Bool = s.stage from 1 to longest_stage in
    let f2 : Bool = leb s.fee2 highest_fee in
    let f3 : Bool = leb s.fee3 highest_fee in
    let f4 : Bool = leb s.fee4 highest_fee in
    let e3 = and_left (l && f2 && f3) f4 e in
    let e2 = and_left (l && f2) f3 e3 in
    record {
      least = leb-true 1 s.stage (and_left (leb 1 s.stage) _ (and_left l f2 e2));
      stage = between_le 1 longest_stage s.stage (and_left l f2 e2);
      fee2 = leb-true s.fee2 highest_fee (and_right l f2 e2);
      fee3 = leb-true s.fee3 highest_fee (and_right (l && f2) f3 e3);
      fee4 = leb-true s.fee4 highest_fee (and_right (l && f2 && f3) f4 e);
    }

-- ---- a rate list's words

pub record StorableRates (r : Rates) : Type 0 where
  pub tag1 : r.tag1 ≤ highest_rate
  pub plate1 : r.plate1 ≤ highest_rate
  pub tag2 : r.tag2 ≤ highest_rate
  pub plate2 : r.plate2 ≤ highest_rate
  pub tag3 : r.tag3 ≤ highest_rate
  pub plate3 : r.plate3 ≤ highest_rate

pub rates-storable : (r : Rates) → rates_fit r ≡ true → StorableRates r
unfolding rates_fit
rates-storable r q6 =
    let fit : ℕ → Bool = λ n. n from 1 to highest_rate in
    let r1 : Bool = fit r.tag1 in
    let r2 : Bool = fit r.plate1 in
    let r3 : Bool = fit r.tag2 in
    let r4 : Bool = fit r.plate2 in
    let r5 : Bool = fit r.tag3 in
    let r6 : Bool = fit r.plate3 in
    let q5 = and_left (r1 && r2 && r3 && r4 && r5) r6 q6 in
    let q4 = and_left (r1 && r2 && r3 && r4) r5 q5 in
    let q3 = and_left (r1 && r2 && r3) r4 q4 in
    let q2 = and_left (r1 && r2) r3 q3 in
    record {
      tag1 = between_le 1 highest_rate r.tag1 (and_left r1 r2 q2);
      plate1 = between_le 1 highest_rate r.plate1 (and_right r1 r2 q2);
      tag2 = between_le 1 highest_rate r.tag2 (and_right (r1 && r2) r3 q3);
      plate2 = between_le 1 highest_rate r.plate2 (and_right (r1 && r2 && r3) r4 q4);
      tag3 = between_le 1 highest_rate r.tag3 (and_right (r1 && r2 && r3 && r4) r5 q5);
      plate3 = between_le 1 highest_rate r.plate3 (and_right (r1 && r2 && r3 && r4 && r5) r6 q6);
    }

pub record StorableList (l : RateList) : Type 0 where
  pub day : l.first_day ≤ final_day
  pub rates : StorableRates l.rates

pub list-storable : (l : RateList) → list_in_range l ≡ true → StorableList l
unfolding list_in_range
list-storable l e = record {
  day = between_le 1 final_day l.first_day (and_left (l.first_day from 1 to final_day) (rates_fit l.rates) e);
  rates = rates-storable l.rates (and_right (l.first_day from 1 to final_day) (rates_fit l.rates) e);
}

-- ---- a nearly sound book's own limits

module _ (past : ℕ) (b : Book) (n : Near past b) where
  pub day-le : b.day ≤ final_day
  unfolding day_fits
  day-le = between_le 1 final_day b.day n.day

  pub stage-le : b.schedule.stage ≤ longest_stage
  stage-le = (schedule-storable b.schedule n.schedule).stage

  pub list-at-storable : (k : ℕ) → k < length b.lists → StorableList (get_or b.lists k no_list)
  list-at-storable k h = list-storable (get_or b.lists k no_list) (list-in-range b.lists n.lists k h)

  pub accounts-le : length b.accounts ≤ most_accounts
  unfolding sizes_fit
  accounts-le = between_le 1 most_accounts (length b.accounts) (and_left (length b.accounts from 1 to most_accounts) (b.room from 1 to most_rows) n.sizes)

  pub room-le : b.room ≤ most_rows
  unfolding sizes_fit
  room-le = between_le 1 most_rows b.room (and_right (length b.accounts from 1 to most_accounts) (b.room from 1 to most_rows) n.sizes)

  pub rows-le : length b.rows ≤ b.room
  rows-le = leb-true (length b.rows) b.room n.fits

  -- ---- rows

  pub row-storable : (k : ℕ) → k < length b.rows → StorableRow (get_or b.rows k blank)
  unfolding kind_fits row_day_fits account_used
  row-storable k h =
      let r : Row = get_or b.rows k blank in
      let s = n.shape k h in
      let l = n.live k h in
      let part = settled-le r l.settled in
      let whole = amount-le r s.amount in
      let d = day-le in
      let a = accounts-le in
      let q = room-le in
      let w = rows-le in
      record {
        kind = omega (arith, between_le 1 6 r.kind s.kind);
        account = omega (arith, used-inside b.accounts r.account (not-true _ s.account));
        day = omega (arith, between_le 1 b.day r.day s.day);
        amount = omega arith;
        settled = omega arith;
        mark = omega (arith, mark-le r s.mark);
        due = omega (arith, due-le r s.words past (b.day + b.schedule.stage) l.due, stage-le);
        dispute = omega (arith, dispute-le r s.words);
        hold = omega (arith, hold-le r s.words b.day b.schedule.stage l.hold);
        reference = omega (arith, reference-le b.rows (suc k) r s.kind s.words s.none s.reference);
      }

  -- ---- accounts

  pub account-storable : (k : ℕ) → k < length b.accounts → StorableAccount (get_or b.accounts k unused)
  unfolding state_fits decline_fits returned_fits topup_fits
  account-storable k h =
      let x : Account = get_or b.accounts k unused in
      let s = n.standing k h in
      let t = topup-parts x s.topup in
      let d = day-le in
      let a = accounts-le in
      let q = room-le in
      let w = rows-le in
      storable-more (omega (arith, leb-true x.state 3 s.state))
      (storable-more (omega (arith, request-le b.day x s.state s.zero s.request))
      (storable-more (omega (arith, eqb-true x.returned (count (returned_of (suc k)) b.rows) (n.counted k h).returned, count-le (returned_of (suc k)) b.rows))
      (storable-more (omega (arith, leb-true x.threshold highest_topup t.threshold))
      (storable-more (omega (arith, leb-true x.topup highest_topup t.topup))
      (storable-more (omega (arith, leb-true x.declines most_declines t.declines))
      (storable-more (omega (arith, leb-true x.declined b.day s.decline))
      (storable-more (omega (arith, leb-true x.reserve code_yes t.reserve))
      (storable-more (omega (arith, successor-le b.accounts (suc k) x (n.successors k h), a))
      storable-none))))))))
