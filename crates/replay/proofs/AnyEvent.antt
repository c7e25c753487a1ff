-- Any accepted event keeps the relation: the refusals that do not apply give each event what its law needs.
use mathlib.Core.Path.{◌≡◌, refl}
use mathlib.Core.Bool.{Bool, true, false, not, ◌&&◌, ◌||◌, false≢true}
use Prim.Native.Nat.{ℕ, suc, ◌≤◌, ◌<◌}
use native.Mathlib.Omega.{arith}
use lib.Dec.{leb, ltb}
use borrow.Author.Tests.{eqb-true, leb-true, ltb-true, lt-ltb, not-false}
use Rattle.records.specs.Codes.{event_open, event_toll, event_payment, event_dispute, event_decision, event_topup_result, event_close_request, event_reserve}
use Rattle.lists.specs.Tests.{◌is◌}
use Rattle.lists.proofs.TestLaws.{and_left, and_right, and_then, or_left, or_right}
use Rattle.rules.specs.Rows.{held_toll, unsettled}
use Rattle.rules.specs.Book.{state_unused, state_open, state_closed, Instruction, Book, account, row, topup_due, low_balance}
use Rattle.rules.specs.Refusals.{whole_book, change_of, after, in_table, state_of, unknown, taken, on_closed, named_kind, no_row, untimely, answer_number}
use Rattle.rules.specs.SoundFacts.{Sound}
use Rattle.rules.proofs.KindLaws.{by_kind}
use Rattle.preservation.proofs.Accepted.{Accepted, accepted}
use Rattle.replay.specs.Replay.{Replay, settled_replay, step_of}
use Rattle.replay.proofs.Relation.{Agrees}
use Rattle.replay.proofs.Growing.{row-place, settled-agrees}
use Rattle.replay.proofs.PlainEvents.{open_account-agrees, request_close-agrees, add_list-agrees, set_reserve-agrees, set_successor-agrees, post_toll-agrees, post_payment-agrees, topup_result-agrees}
use Rattle.replay.proofs.RowEvents.{return_check-agrees, hold_toll-agrees, decide-agrees}
use Rattle.replay.proofs.Ticking.{tick-agrees}
use Rattle.replay.proofs.ReplaySteps.{Proper}

-- ---- no refusal applies

module _ (b : Book) (e : Instruction) (z : answer_number b e ≡ 0) where
  acc : Accepted b e
  acc = accepted b e z

  -- 3
  known : whole_book e ≡ false → 1 ≤ e.account
  unfolding unknown
  known k =
      let h : not (in_table b e) || not (e.kind is event_open) && state_of b e is state_unused ≡ false = rw k at acc.known in
      leb-true _ _ (and_left (leb 1 e.account) _ (not-false (in_table b e) (or_left (not (in_table b e)) _ h)))

  -- 4
  free : e.kind is event_open ≡ true → (account b e.account).state ≡ state_unused
  unfolding taken
  free k = eqb-true _ _ (not-false _ (and_then (e.kind is event_open) _ k acc.free))

  -- 5
  unclosed : (e.kind is event_toll || e.kind is event_close_request) ≡ true → (account b e.account).state is state_closed ≡ false
  unfolding on_closed
  unclosed k = and_then _ _ (some (e.kind is event_toll) (e.kind is event_payment) (e.kind is event_topup_result) (e.kind is event_close_request) (e.kind is event_reserve) k) acc.unclosed
    where
      some : (t p r c v : Bool) → t || c ≡ true → t || p || r || c || v ≡ true
      some true p r c v q = refl
      some false true r c v q = refl
      some false false true c v q = refl
      some false false false true v q = refl
      some false false false false v q = absurd (false≢true q)

  -- 10
  there : (j : ℕ) → named_kind e ≡ suc j → (row b e.a).kind ≡ suc j
  unfolding no_row
  there j q =
      let h : not ((row b e.a).kind is named_kind e && (row b e.a).account is e.account) ≡ false = and_then (ltb 0 (named_kind e)) _ (rw q (lt-ltb 0 (suc j) (omega arith))) acc.named in
      eqb-true _ _ (rw q at (and_left ((row b e.a).kind is named_kind e) _ (not-false _ h)))

  -- 11
  undisputed : e.kind is event_dispute ≡ true → (row b e.a).dispute ≡ 0
  unfolding untimely
  undisputed k = eqb-true _ _ (not-false _ (or_right (not (unsettled (row b e.a))) _ (rw (eqb-true _ _ k) at acc.timely)))

  held-still : e.kind is event_decision ≡ true → held_toll (row b e.a) ≡ true
  unfolding untimely
  held-still k = not-false _ (rw (eqb-true _ _ k) at acc.timely)

  topped-up : e.kind is event_topup_result ≡ true → 0 < (account b e.account).topup
  unfolding untimely topup_due
  topped-up k =
      let x = account b e.account in
      let o : Bool = x.state is state_open && ltb 0 x.topup in
      let d : Bool = not (x.declined is b.day) in
      let h : o && d && low_balance b e.account ≡ true = not-false _ (rw (eqb-true _ _ k) at acc.timely) in
      ltb-true _ _ (and_right (x.state is state_open) (ltb 0 x.topup) (and_left o d (and_left (o && d) (low_balance b e.account) h)))

  -- ---- each event by its kind

  pub accepted-proper : Proper e
  accepted-proper = record {
    dispute = λ q. (row-place b.rows e.a 0 (there 0 (rw q))).low;
    decision = λ q. (row-place b.rows e.a 0 (there 0 (rw q))).low;
  }

  changed-agrees : (p : Replay) → Sound b → Agrees b p → (k : ℕ) → e.kind ≡ k → Agrees (change_of k b e) (step_of k p e)
  unfolding change_of step_of
  changed-agrees p s a =
      by_kind (λ k. e.kind ≡ k → Agrees (change_of k b e) (step_of k p e))
      (record {
        opened = λ q. open_account-agrees b p e s.near a (free (rw q));
        toll = λ q. post_toll-agrees b p e s.near a (unclosed (rw q refl));
        payment = λ q. post_payment-agrees b p e s.near a;
        returned-check = λ q. return_check-agrees b p e s.near a (there 3 (rw q));
        dispute = λ q. hold_toll-agrees b p e s.near a (there 0 (rw q)) (undisputed (rw q));
        decision = λ q. decide-agrees b p e s.near a (held-still (rw q));
        topup-result = λ q. topup_result-agrees b p e s.near a (known (rw q)) (topped-up (rw q));
        close-request = λ q. request_close-agrees b p e a (unclosed (rw q refl));
        tick = λ q. tick-agrees b p s a e;
        rate-list = λ q. add_list-agrees b p e a;
        reserve = λ q. set_reserve-agrees b p e a (known (rw q));
        successor = λ q. set_successor-agrees b p e a;
        none = λ q. a;
        past = λ k q. a;
      })

  pub event-agrees : (p : Replay) → Sound b → Agrees b p → Agrees (after b e) (settled_replay (step_of e.kind p e))
  unfolding after
  event-agrees p s a = settled-agrees (change_of e.kind b e) (step_of e.kind p e) (changed-agrees p s a e.kind refl)
