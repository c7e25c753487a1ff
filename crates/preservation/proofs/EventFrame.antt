-- Events but the tick change no account and no row of an account that they do not name, before settlement.
use mathlib.Core.Path.{◌≡◌, refl, ap}
use mathlib.Core.Logic.{◌≢◌}
use mathlib.Core.Bool.{Bool, true, false, not, cond, ◌||◌, true≢false}
use Prim.Native.Nat.{ℕ, zero, suc, ◌-◌, ◌<◌}
use native.Mathlib.Omega.{arith}
use mathlib.Core.List.{List}
use lib.ListN.{length, set}
use lib.Seq.{get_or-set_other}
use lib.Dec.{eqb}
use Rattle.records.specs.Updates.{of_kind, on_row}
use Rattle.records.specs.Codes.{kind_toll, kind_payment, method_check_returned, event_returned_check, event_dispute, event_decision, event_topup_result, event_tick}
use Rattle.records.specs.AccountOperations.{opened, check_returned, declined_on, topup_paid, close_requested_on, reserve_set, successor_set}
use Rattle.lists.specs.Tests.{◌from◌to◌}
use Rattle.rules.specs.Rows.{Row, with_mark}
use Rattle.rules.specs.Book.{Account, unused, Instruction, Book, account, account_no, row, put_account}
use Rattle.rules.specs.Events.{open_account, post_toll, post_payment, return_check, hold_from, hold_toll, release, uphold, reject, decide, pay_topup, decline_topup, topup_result, request_close, add_list, set_reserve, set_successor}
use Rattle.rules.specs.Refusals.{change_of, unknown, no_row}
use Rattle.rules.specs.SoundFacts.{Near}
use Rattle.rules.proofs.KindLaws.{by_kind}
use Rattle.preservation.proofs.Accepted.{Accepted}
use Rattle.preservation.proofs.OthersLaws.{Others, others_same, others-others, others-add, others-set}
use Rattle.preservation.proofs.LookupLaws.{named-kind, named-account}
use Rattle.preservation.proofs.DisputeKept.{event6, decided}
use Rattle.preservation.proofs.UpholdKept.{uphold-others}

-- ---- one row or one account put back

put-others : (b : Book) (n a : ℕ) (r : Row) → 0 < (row b a).kind → (row b a).account ≡ n → r.account ≡ n → Others n b.rows (set b.rows (a - 1) r)
put-others b n zero r h o e = absurd (omega arith)
put-others b n (suc j) r h o e =
    let z : suc j - 1 ≡ j = omega arith in
    rw z (others-set n b.rows j r o e)

put-account : (b : Book) (n m : ℕ) (x : Account) (t : Bool) → not (n from 1 to length b.accounts) || t ≡ false → m ≢ n → account (put_account n x b) m ≡ account b m
put-account b zero m x t i ne = absurd (true≢false i)
put-account b (suc k) zero x t i ne = refl
put-account b (suc k) (suc j) x t i ne =
    let z : suc k - 1 ≡ k = omega arith in
    rw z (get_or-set_other b.accounts k j x unused (λ e. ne (omega arith)))

-- ---- the rows

return-others : (b : Book) (e : Instruction) → Accepted b (of_kind event_returned_check e) → Others e.account b.rows (return_check b e).rows
unfolding return_check no_row
return-others b e q =
    let n : ℕ = e.account in
    let r : Row = row b e.a in
    let k : r.kind ≡ kind_payment = named-kind b e.a n kind_payment q.named in
    let o : r.account ≡ n = named-account b e.a n kind_payment q.named in
    let xs : List Row = set b.rows (e.a - 1) (with_mark method_check_returned r) in
    others-others n b.rows xs _ (put-others b n e.a (with_mark method_check_returned r) (omega arith) o o)
    (others-others n xs _ _ (others-add n xs _ refl) (others-add n _ _ refl))

hold-others : (b : Book) (e : Instruction) → Accepted b (of_kind event_dispute e) → Others e.account b.rows (hold_toll b e).rows
unfolding hold_toll hold_from no_row
hold-others b e q =
    let k : (row b e.a).kind ≡ kind_toll = named-kind b e.a e.account kind_toll q.named in
    let o : (row b e.a).account ≡ e.account = named-account b e.a e.account kind_toll q.named in
    put-others b e.account e.a (hold_from b.day (row b e.a)) (omega arith) o o

reject-others : (b : Book) (e : Instruction) → Accepted b (event6 b e) → Others e.account b.rows (reject b e).rows
unfolding reject release
reject-others b e q =
    let k : (row b e.a).kind ≡ kind_toll = (decided b e q).toll in
    let o : (row b e.a).account ≡ e.account = (decided b e q).account in
    put-others b e.account e.a (release b.day (row b e.a)) (omega arith) o o

upheld-others : (b : Book) (e : Instruction) → Near b.day b → Accepted b (event6 b e) → Others e.account b.rows (uphold b e).rows
unfolding uphold
upheld-others b e s q = go e.a q
  where
    go : (a : ℕ) → Accepted b (event6 b (on_row a e)) → Others e.account b.rows (uphold b (on_row a e)).rows
    go zero q = let z : ◌≡◌ {A = ℕ} 0 1 = (decided b (on_row 0 e) q).toll in absurd (omega arith)
    go (suc j) q =
        let w : suc j - 1 ≡ j = omega arith in
        rw w (uphold-others b j e s q)

decide-others : (b : Book) (e : Instruction) → Near b.day b → Accepted b (event6 b e) → Others e.account b.rows (decide b e).rows
unfolding decide
decide-others b e s q = go (eqb e.b 1)
  where
    go : (t : Bool) → Others e.account b.rows (cond t (uphold b e) (reject b e)).rows
    go true = upheld-others b e s q
    go false = reject-others b e q

topup-others : (b : Book) (e : Instruction) → Others e.account b.rows (topup_result b e).rows
unfolding topup_result pay_topup decline_topup
topup-others b e = go (eqb e.b 1)
  where
    go : (t : Bool) → Others e.account b.rows (cond t (pay_topup b e) (decline_topup b e)).rows
    go true = others-add e.account b.rows _ refl
    go false = others_same e.account b.rows

-- an event but a tick changes rows of its own account alone
pub change-others : (b : Book) (e : Instruction) (k : ℕ) → Near b.day b → k ≢ event_tick → Accepted b (of_kind k e)
    → Others e.account b.rows (change_of k b (of_kind k e)).rows
unfolding change_of open_account post_toll post_payment request_close add_list set_reserve set_successor
change-others b e k s ne q =
    let n : ℕ = e.account in
    by_kind (λ k. k ≢ event_tick → Accepted b (of_kind k e) → Others n b.rows (change_of k b (of_kind k e)).rows)
    (record {
      opened = λ ne q. others_same n b.rows;
      toll = λ ne q. others-add n b.rows _ refl;
      payment = λ ne q. others-add n b.rows _ refl;
      returned-check = λ ne q. return-others b (of_kind event_returned_check e) q;
      dispute = λ ne q. hold-others b (of_kind event_dispute e) q;
      decision = λ ne q. decide-others b (of_kind event_decision e) s q;
      topup-result = λ ne q. topup-others b (of_kind event_topup_result e);
      close-request = λ ne q. others_same n b.rows;
      tick = λ ne q. absurd (ne refl);
      rate-list = λ ne q. others_same n b.rows;
      reserve = λ ne q. others_same n b.rows;
      successor = λ ne q. others_same n b.rows;
      none = λ ne q. others_same n b.rows;
      past = λ k ne q. others_same n b.rows;
    }) k ne q

-- ---- the accounts

decide-accounts : (b : Book) (e : Instruction) → (decide b e).accounts ≡ b.accounts
unfolding decide uphold reject
decide-accounts b e = go (eqb e.b 1)
  where
    go : (t : Bool) → (cond t (uphold b e) (reject b e)).accounts ≡ b.accounts
    go true = refl
    go false = refl

topup-account : (b : Book) (e : Instruction) (i : ℕ) → i ≢ e.account → Accepted b (of_kind event_topup_result e) → account (topup_result b e) i ≡ account b i
unfolding topup_result pay_topup decline_topup unknown
topup-account b e i ne q = go (eqb e.b 1)
  where
    go : (t : Bool) → account (cond t (pay_topup b e) (decline_topup b e)) i ≡ account b i
    go true = put-account b e.account i (topup_paid (account b e.account)) _ q.known ne
    go false = put-account b e.account i (declined_on b.day (account b e.account)) _ q.known ne

-- an event but a tick changes no account but its own
pub change-account : (b : Book) (e : Instruction) (k : ℕ) → k ≢ event_tick → Accepted b (of_kind k e) → (i : ℕ) → i ≢ e.account
    → account (change_of k b (of_kind k e)) i ≡ account b i
unfolding change_of open_account post_toll post_payment return_check hold_toll request_close add_list set_reserve set_successor unknown
change-account b e k ne q i w =
    let n : ℕ = e.account in
    by_kind (λ k. k ≢ event_tick → Accepted b (of_kind k e) → account (change_of k b (of_kind k e)) i ≡ account b i)
    (record {
      opened = λ ne q. put-account b n i (opened e.a e.b) false q.known w;
      toll = λ ne q. refl;
      payment = λ ne q. refl;
      returned-check = λ ne q. put-account b n i (check_returned (account b n)) _ q.known w;
      dispute = λ ne q. refl;
      decision = λ ne q. ap (λ (xs : List Account). account_no xs i) (decide-accounts b (of_kind event_decision e));
      topup-result = λ ne q. topup-account b (of_kind event_topup_result e) i w q;
      close-request = λ ne q. put-account b n i (close_requested_on b.day (account b n)) _ q.known w;
      tick = λ ne q. absurd (ne refl);
      rate-list = λ ne q. refl;
      reserve = λ ne q. put-account b n i (reserve_set e.a (account b n)) _ q.known w;
      successor = λ ne q. put-account b n i (successor_set e.a (account b n)) _ q.known w;
      none = λ ne q. refl;
      past = λ k ne q. refl;
    }) k ne q
