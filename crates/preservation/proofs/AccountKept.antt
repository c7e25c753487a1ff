-- Sound stays sound: an account opened (event 1), a close request (event 8), a reserve added or removed (event 11), a
-- successor named (event 12).
use mathlib.Core.Path.{◌≡◌, refl}
use mathlib.Core.Bool.{Bool, true, false, not, ◌&&◌, or-true}
use native.Mathlib.Omega.{arith}
use lib.ListN.{length}
use lib.Dec.{eqb, leb}
use borrow.Author.Tests.{le-leb, eqb-true, not-false}
use Rattle.records.specs.Layout.{returned_place}
use Rattle.records.specs.Updates.{of_kind}
use Rattle.records.specs.Codes.{event_open, event_close_request, event_reserve, event_successor, code_yes}
use Rattle.records.specs.AccountOperations.{opened, close_requested_on, reserve_set, successor_set}
use Rattle.lists.specs.Tests.{◌is◌, ◌from◌to◌, ◌implies◌}
use Rattle.lists.proofs.TestLaws.{and_left, and_right, or_right}
use Rattle.records.specs.Limits.{highest_topup}
use Rattle.rules.specs.Book.{state_closed, Instruction, Book, account}
use Rattle.rules.specs.Successors.{other_used}
use Rattle.rules.specs.Events.{open_account, request_close, set_reserve, set_successor}
use Rattle.rules.specs.Soundness.{state_fits, unused_zero, request_fits, topup_fits, decline_fits, successor_fits, returned_fits, used_is_paid, closed_clear}
use Rattle.rules.specs.Refusals.{change_of, well_formed, form_of, open_form, reserve_form, zero_from-b, unknown, taken, successor_refused, untimely}
use Rattle.rules.specs.SoundFacts.{Standing, SumsFit, Near}
use Rattle.rules.proofs.StorableLaws.{unused-zero, topup-parts}
use Rattle.preservation.proofs.Accepted.{Accepted}
use Rattle.preservation.proofs.LookupLaws.{today-fits, standing-of, counted_of, successor_of, near-put_account, inside, used-state}

-- ---- event 1

module _ (b : Book) (i : Instruction) where
  abbrev event1 : Instruction
  event1 = of_kind event_open i

  module _ (s : Near b.day b) (q : Accepted b event1) where
    in_table : i.account from 1 to length b.accounts ≡ true
    unfolding unknown
    in_table = inside i.account (length b.accounts) false q.known

    was-unused : (account b i.account).state ≡ 0
    unfolding taken
    was-unused = eqb-true (account b i.account).state 0 (not-false (eqb (account b i.account).state 0) q.free)

    was-zero : (account b i.account).returned ≡ 0
    was-zero = unused-zero (account b i.account) was-unused (standing-of b.day b s i.account in_table).zero returned_place

    standing : Standing b.day (opened i.a i.b)
    unfolding state_fits unused_zero request_fits topup_fits decline_fits well_formed form_of open_form
    standing =
        let p1 : Bool = leb i.a highest_topup in
        let p2 : Bool = leb i.b highest_topup in
        let p3 : Bool = i.b is 0 implies i.a is 0 in
        let form = and_left (p1 && p2 && p3) _ (not-false _ q.formed) in
        let two = and_left (p1 && p2) p3 form in
        record {
          state = refl;
          zero = refl;
          request = refl;
          topup = rw (and_left p1 p2 two, and_right p1 p2 two) (together (eqb i.b 0) (and_right (p1 && p2) p3 form));
          decline = le-leb 0 b.day (omega arith);
        }
      where
        together : (t : Bool) → t implies i.a is 0 ≡ true → t implies i.a is 0 && true && true ≡ true
        together true e = rw e
        together false e = refl

    counted : SumsFit b.rows i.account (opened i.a i.b)
    unfolding returned_fits used_is_paid closed_clear
    counted = let v = counted_of b.day b s i.account in_table in record { returned = rw was-zero at v.returned; used-is-paid = v.used-is-paid; clear = refl }

    pub open_account-near : Near b.day (change_of event_open b event1)
    unfolding change_of open_account successor_fits
    open_account-near = near-put_account b.day b s i.account (opened i.a i.b) in_table refl standing refl counted

-- ---- event 8

module _ (b : Book) (i : Instruction) where
  abbrev event8 : Instruction
  event8 = of_kind event_close_request i

  pub request_close-near : Near b.day b → Accepted b event8 → Near b.day (change_of event_close_request b event8)
  unfolding change_of request_close unknown state_fits unused_zero request_fits topup_fits decline_fits successor_fits returned_fits used_is_paid closed_clear
  request_close-near s q =
      let in_table : i.account from 1 to length b.accounts ≡ true = inside i.account (length b.accounts) _ q.known in
      let v = standing-of b.day b s i.account in_table in
      let w = counted_of b.day b s i.account in_table in
      near-put_account b.day b s i.account (close_requested_on b.day (account b i.account)) in_table refl
      (record { state = refl; zero = refl; request = today-fits b.day b s; topup = v.topup; decline = v.decline })
      (successor_of b.day b s i.account in_table)
      (record { returned = w.returned; used-is-paid = w.used-is-paid; clear = refl })

-- ---- event 11

module _ (b : Book) (i : Instruction) where
  abbrev event11 : Instruction
  event11 = of_kind event_reserve i

  pub set_reserve-near : Near b.day b → Accepted b event11 → Near b.day (change_of event_reserve b event11)
  unfolding change_of set_reserve unknown untimely well_formed form_of reserve_form state_fits unused_zero request_fits topup_fits decline_fits successor_fits returned_fits used_is_paid closed_clear
  set_reserve-near s q =
      let in_table : i.account from 1 to length b.accounts ≡ true = inside i.account (length b.accounts) _ q.known in
      let used = used-state i.account (length b.accounts) _ q.known in
      let v = standing-of b.day b s i.account in_table in
      let w = counted_of b.day b s i.account in_table in
      let parts = topup-parts (account b i.account) v.topup in
      let valid = and_left (leb i.a code_yes) (zero_from-b i) (not-false _ q.formed) in
      near-put_account b.day b s i.account (reserve_set i.a (account b i.account)) in_table used
      (record {
        state = v.state;
        zero = rw used;
        request = v.request;
        topup = rw (parts.threshold, parts.topup, parts.declines, parts.uncounted, parts.undated, valid, q.timely);
        decline = v.decline;
      })
      (successor_of b.day b s i.account in_table)
      (record { returned = w.returned; used-is-paid = w.used-is-paid; clear = w.clear })

-- ---- event 12

module _ (b : Book) (i : Instruction) where
  abbrev event12 : Instruction
  event12 = of_kind event_successor i

  pub set_successor-near : Near b.day b → Accepted b event12 → Near b.day (change_of event_successor b event12)
  unfolding change_of set_successor unknown successor_refused state_fits unused_zero request_fits topup_fits decline_fits successor_fits returned_fits used_is_paid closed_clear
  set_successor-near s q =
      let in_table : i.account from 1 to length b.accounts ≡ true = inside i.account (length b.accounts) _ q.known in
      let used = used-state i.account (length b.accounts) _ q.known in
      let v = standing-of b.day b s i.account in_table in
      let w = counted_of b.day b s i.account in_table in
      let named : other_used b.accounts i.account i.a ≡ true = not-false _ (or_right (not ((account b i.account).state is state_closed)) _ q.nameable) in
      near-put_account b.day b s i.account (successor_set i.a (account b i.account)) in_table used
      (record { state = v.state; zero = rw used; request = v.request; topup = v.topup; decline = v.decline })
      (rw named (or-true (i.a is 0)))
      (record { returned = w.returned; used-is-paid = w.used-is-paid; clear = w.clear })
