-- Sound stays sound: a payment (event 3) and a top-up, paid or declined (event 7).
use mathlib.Core.Path.{◌≡◌, refl}
use mathlib.Core.Bool.{Bool, true, false, not, cond, ◌&&◌, false≢true, and-false}
use Prim.Native.Nat.{ℕ, suc, ◌+◌, ◌≤◌, ◌<◌}
use native.Mathlib.Omega.{arith}
use mathlib.Core.List.{[], ◌∷◌}
use lib.ListN.{length, length-append}
use lib.Dec.{eqb, leb, ltb}
use borrow.Author.Tests.{leb-true, leb-false, le-leb, ltb-true, eqb-true, ne_eqb, not-false}
use Rattle.records.specs.Codes.{event_payment, event_topup_result, code_yes}
use Rattle.records.specs.AccountOperations.{last_decline, topup_removed, topup_paid, declined_on}
use Rattle.records.specs.Updates.{with_declines, of_kind}
use Rattle.lists.specs.Tests.{◌from◌to◌}
use Rattle.lists.proofs.TestLaws.{and_left, and_right, and_both}
use Rattle.records.specs.Limits.{highest_payment, most_declines}
use Rattle.records.proofs.AccountLaws.{declined-cases}
use Rattle.rules.proofs.StorableLaws.{TopupParts, topup-parts}
use Rattle.rules.specs.Rows.{Row, kind_payment, new_row, with_mark, fee_naming}
use Rattle.rules.specs.Book.{Account, Instruction, Book, account, add_row, put_account, topup_due, low_balance}
use Rattle.rules.specs.Events.{post_payment, pay_topup, decline_topup, topup_result}
use Rattle.rules.specs.Soundness.{kind_fits, most_of, amount_fits, settled_fits, mark_fits, toll_words_fit, no_reference, row_day_fits, due_within, hold_fits, account_used, reference_fits, passage, passage_once, fees_fit, returned_of, state_fits, unused_zero, request_fits, topup_fits, decline_fits, successor_fits, returned_fits, used_is_paid, closed_clear}
use Rattle.rules.specs.Refusals.{change_of, well_formed, form_of, payment_form, unknown, on_closed, untimely}
use Rattle.rules.specs.SoundFacts.{Shape, Live, Standing, SumsFit, Near}
use Rattle.preservation.proofs.Accepted.{Accepted}
use Rattle.preservation.proofs.KeepingLaws.{grown, Distinct, Quiet, near-add-quiet}
use Rattle.preservation.proofs.LookupLaws.{today-fits, day-positive, standing-of, counted_of, successor_of, near-put_account, account-put, inside, used-state, after-fits}

-- ---- a payment row of today, by any of the three methods

module _ (b : Book) (n amount method : ℕ) where
  abbrev payment : Row
  payment = with_mark method (new_row kind_payment n b.day amount)

  pub near-payment : Near b.day b → length b.rows < b.room → amount from 1 to highest_payment ≡ true → method from 1 to 3 ≡ true
      → eqb (account b n).state 0 ≡ false → eqb (account b n).state 3 ≡ false → Near b.day (add_row payment b)
  near-payment s room a m u o = near-add-quiet b.day b payment s room distinct quiet shape live
    where
      small : method ≤ 3
      small = leb-true method 3 (and_right (leb 1 method) (leb method 3) m)

      distinct : Distinct b.rows payment
      distinct = unfold passage fee_naming in record { passage = λ p e. absurd (false≢true e); fee = λ k h t. refl }

      quiet : Quiet b.accounts payment
      quiet = unfold returned_of in record { returned = λ p. rw (ne_eqb method 4 (λ e. omega (arith, small))) (and-false (eqb n p && true)); settled = refl; state = o }

      shape : Shape b.day b.accounts (grown b.rows payment) (suc (length b.rows)) payment
      shape = unfold kind_fits amount_fits most_of mark_fits toll_words_fit no_reference row_day_fits account_used reference_fits passage_once fees_fit in record {
        kind = refl;
        amount = a;
        mark = and_both (leb 1 method) _ (and_left (leb 1 method) (leb method 3) m) (le-leb method 4 (omega (arith, small)));
        words = refl;
        none = refl;
        day = today-fits b.day b s;
        account = rw u;
        reference = refl;
        passage = refl;
        fees = refl;
      }

      live : Live b.day b.day b.schedule.stage payment
      live = unfold settled_fits due_within hold_fits in record { settled = and_both (leb 0 amount) _ (le-leb 0 amount (omega arith)) refl; due = refl; hold = refl }

-- ---- event 3

module _ (b : Book) (i : Instruction) where
  abbrev event3 : Instruction
  event3 = of_kind event_payment i

  pub post_payment-near : Near b.day b → Accepted b event3 → Near b.day (change_of event_payment b event3)
  unfolding change_of post_payment well_formed form_of payment_form unknown on_closed
  post_payment-near s q =
      let amounts : Bool = i.a from 1 to highest_payment in
      let methods : Bool = i.b from 1 to 3 in
      let form = and_left (amounts && methods) _ (not-false _ q.formed) in
      near-payment b i.account i.a i.b s (omega (arith, after-fits b event3 q.fits, length-append b.rows (payment b i.account i.a i.b ∷ [])))
      (and_left amounts methods form) (and_right amounts methods form) (used-state i.account (length b.accounts) _ q.known) q.unclosed

-- ---- event 7

module _ (b : Book) (i : Instruction) where
  abbrev event7 : Instruction
  event7 = of_kind event_topup_result i

  module _ (s : Near b.day b) (q : Accepted b event7) where
    abbrev it : Account
    it = account b i.account

    in_table : i.account from 1 to length b.accounts ≡ true
    unfolding unknown
    in_table = inside i.account (length b.accounts) _ q.known

    due : topup_due b i.account ≡ true
    unfolding untimely
    due = not-false (topup_due b i.account) q.timely

    first_two : eqb it.state 1 && ltb 0 it.topup ≡ true
    unfolding topup_due
    first_two =
        let p : Bool = eqb it.state 1 && ltb 0 it.topup in
        let o : Bool = not (eqb it.declined b.day) in
        and_left p o (and_left (p && o) (low_balance b i.account) due)

    is_open : it.state ≡ 1
    is_open = eqb-true it.state 1 (and_left (eqb it.state 1) _ first_two)

    has-amount : 0 < it.topup
    has-amount = ltb-true 0 it.topup (and_right (eqb it.state 1) _ first_two)

    some-amount : eqb it.topup 0 ≡ false
    some-amount = ne_eqb it.topup 0 (λ e. omega (arith, has-amount))

    parts : TopupParts it
    parts = topup-parts it (standing-of b.day b s i.account in_table).topup

    paid-reserve : leb (topup_paid it).reserve code_yes ≡ true
    paid-reserve = go (last_decline it)
      where
        go : (t : Bool) → leb (cond t 0 it.reserve) code_yes ≡ true
        go true = refl
        go false = parts.reserve

    paid-standing : Standing b.day (topup_paid it)
    unfolding state_fits unused_zero request_fits topup_fits decline_fits
    paid-standing = let v = standing-of b.day b s i.account in_table in record {
      state = v.state;
      zero = rw is_open;
      request = v.request;
      topup = rw (parts.threshold, parts.topup, paid-reserve, some-amount);
      decline = le-leb 0 b.day (omega arith);
    }

    paid-successor : successor_fits b.accounts i.account (topup_paid it) ≡ true
    unfolding successor_fits
    paid-successor = successor_of b.day b s i.account in_table

    paid-counted : SumsFit b.rows i.account (topup_paid it)
    unfolding returned_fits used_is_paid closed_clear
    paid-counted = let v = counted_of b.day b s i.account in_table in record { returned = v.returned; used-is-paid = v.used-is-paid; clear = v.clear }

    pay_topup-near : length (pay_topup b event7).rows ≤ b.room → Near b.day (pay_topup b event7)
    unfolding pay_topup
    pay_topup-near room =
        let e : account (put_account i.account (topup_paid it) b) i.account ≡ topup_paid it = account-put b.day b s i.account (topup_paid it) in_table in
        near-payment (put_account i.account (topup_paid it) b) i.account it.topup 1
        (near-put_account b.day b s i.account (topup_paid it) in_table (rw is_open) paid-standing paid-successor paid-counted)
        (omega (arith, length-append b.rows (payment b i.account it.topup 1 ∷ [])))
        (and_both (leb 1 it.topup) _ (le-leb 1 it.topup has-amount) parts.topup) refl (rw (e, is_open)) (rw (e, is_open))

    declined-standing : Standing b.day (declined_on b.day it)
    unfolding state_fits unused_zero request_fits topup_fits decline_fits
    declined-standing = declined-cases (Standing b.day) b.day it removed counted
      where
        v : Standing b.day it
        v = standing-of b.day b s i.account in_table

        removed : Standing b.day (topup_removed it)
        removed = record { state = v.state; zero = rw is_open; request = v.request; topup = refl; decline = le-leb 0 b.day (omega arith) }

        counted : last_decline it ≡ false → Standing b.day (with_declines (it.declines + 1) b.day it)
        counted e = record {
          state = v.state;
          zero = rw is_open;
          request = v.request;
          topup =
              rw (
                parts.threshold,
                parts.topup,
                le-leb (it.declines + 1) most_declines (omega (arith, leb-false most_declines it.declines e)),
                ne_eqb (it.declines + 1) 0 (λ w. omega arith),
                ne_eqb b.day 0 (λ w. omega (arith, day-positive b.day b s)),
                parts.reserve,
                some-amount,
              );
          decline = le-leb b.day b.day (omega arith);
        }

    declined-successor : successor_fits b.accounts i.account (declined_on b.day it) ≡ true
    unfolding successor_fits
    declined-successor =
        let e = successor_of b.day b s i.account in_table in
        declined-cases (λ x. successor_fits b.accounts i.account x ≡ true) b.day it e (λ w. e)

    declined-counted : SumsFit b.rows i.account (declined_on b.day it)
    unfolding returned_fits used_is_paid closed_clear
    declined-counted =
        let v = counted_of b.day b s i.account in_table in
        declined-cases (SumsFit b.rows i.account) b.day it
        (record { returned = v.returned; used-is-paid = v.used-is-paid; clear = v.clear })
        (λ e. record { returned = v.returned; used-is-paid = v.used-is-paid; clear = v.clear })

    declined-used : eqb (declined_on b.day it).state 0 ≡ false
    declined-used = declined-cases (λ x. eqb x.state 0 ≡ false) b.day it (rw is_open) (λ e. rw is_open)

    decline_topup-near : Near b.day (decline_topup b event7)
    unfolding decline_topup
    decline_topup-near = near-put_account b.day b s i.account (declined_on b.day it) in_table declined-used declined-standing declined-successor declined-counted

    pub topup_result-near : Near b.day (change_of event_topup_result b event7)
    unfolding change_of topup_result
    topup_result-near = go (eqb i.b 1) (after-fits b event7 q.fits)
      where
        go : (t : Bool) → length (cond t (pay_topup b event7) (decline_topup b event7)).rows ≤ b.room → Near b.day (cond t (pay_topup b event7) (decline_topup b event7))
        go true room = pay_topup-near room
        go false room = decline_topup-near
