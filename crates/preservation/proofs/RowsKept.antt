-- No event takes a row away: whatever is posted, the old rows come first, each with its kind, account, amount and reference, and no more
-- of it remains than before.
use mathlib.Core.Path.{◌≡◌, refl, ap, ◌∙◌}
use mathlib.Core.Bool.{Bool, true, false, cond, ◌&&◌}
use Prim.Native.Nat.{ℕ, zero, suc, ◌+◌, ◌-◌, ◌≤◌, ◌<◌}
use native.Mathlib.Omega.{arith}
use native.Mathlib.Decide.{ℕ_discrete}
use mathlib.Core.List.{List, ◌++◌, map}
use lib.ListN.{length, get_or, set, length-append, length-map, length-set, get_or-append}
use lib.Seq.{get_or-set_same, get_or-set_other}
use lib.Dec.{eqb}
use borrow.Author.Tests.{eqb-true}
use Rattle.records.specs.Updates.{of_kind}
use Rattle.records.specs.Codes.{method_check_returned, dispute_upheld, kind_toll, kind_payment, event_returned_check, event_dispute, event_decision, event_topup_result, event_tick}
use Rattle.rules.specs.Rows.{Row, blank, with_mark, with_hold_start, with_dispute, remaining, settle_whole, fee_naming, source}
use Rattle.rules.specs.Settlement.{settle, settle_accounts}
use Rattle.rules.specs.Book.{Instruction, Book, account, row, settled}
use Rattle.rules.specs.Events.{open_account, post_toll, post_payment, return_check, hold_from, hold_toll, release, uphold, reject, decide, pay_topup, decline_topup, topup_result, request_close, add_list, set_reserve, set_successor}
use Rattle.rules.specs.Tick.{next_day, hold_ends, end_hold, end_holds, before_raising, rises, raise, raise_tolls, closes, use_up, close_accounts, tick}
use Rattle.rules.specs.Refusals.{change_of, after, answer_number, no_row}
use Rattle.rules.specs.Posting.{post}
use Rattle.rules.proofs.SettlementLaws.{settle-row, length-settle}
use Rattle.rules.proofs.PostingLaws.{post-refused, post-accepted}
use Rattle.rules.proofs.KindLaws.{by_kind}
use Rattle.preservation.proofs.Accepted.{Accepted, accepted}
use Rattle.preservation.proofs.LookupLaws.{named-kind}
use Rattle.preservation.proofs.DisputeKept.{event6, decided}
use Rattle.lists.proofs.ListLaws.{map_at}

-- a row in place of another
pub record RowKept (r s : Row) : Type 0 where
  pub kind : s.kind ≡ r.kind
  pub account : s.account ≡ r.account
  pub amount : s.amount ≡ r.amount
  pub reference : s.reference ≡ r.reference
  pub left : remaining s ≤ remaining r

-- the old rows come first
pub record RowsKept (rows rows' : List Row) : Type 0 where
  pub longer : length rows ≤ length rows'
  pub each : (k : ℕ) → k < length rows → RowKept (get_or rows k blank) (get_or rows' k blank)

-- ---- one row

row_same : (r : Row) → RowKept r r
row_same r = record { kind = refl; account = refl; amount = refl; reference = refl; left = omega arith }

row_kept : (r s t : Row) → RowKept r s → RowKept s t → RowKept r t
row_kept r s t p q = record {
  kind = q.kind ∙ p.kind;
  account = q.account ∙ p.account;
  amount = q.amount ∙ p.amount;
  reference = q.reference ∙ p.reference;
  left = let a : remaining s ≤ remaining r = p.left in let b : remaining t ≤ remaining s = q.left in omega arith;
}

row-whole : (r : Row) → RowKept r (settle_whole r)
row-whole r = record { kind = refl; account = refl; amount = refl; reference = refl; left = omega arith }

row-released : (today : ℕ) (r : Row) → RowKept r (release today r)
unfolding release
row-released today r = record { kind = refl; account = refl; amount = refl; reference = refl; left = omega arith }

-- changed or not
row-cond : (b : Bool) (r s : Row) → RowKept r s → RowKept r (cond b s r)
row-cond true r s k = k
row-cond false r s k = row_same r

-- ---- all rows

rows_same : (rows : List Row) → RowsKept rows rows
rows_same rows = record { longer = omega arith; each = λ k h. row_same (get_or rows k blank) }

rows-kept : (rows rows₁ rows₂ : List Row) → RowsKept rows rows₁ → RowsKept rows₁ rows₂ → RowsKept rows rows₂
rows-kept rows rows₁ rows₂ p q =
    let a : length rows ≤ length rows₁ = p.longer in
    let b : length rows₁ ≤ length rows₂ = q.longer in
    record { longer = omega arith; each = λ k h. row_kept (get_or rows k blank) (get_or rows₁ k blank) (get_or rows₂ k blank) (p.each k h) (q.each k (omega arith)) }

rows-add : (rows more : List Row) → RowsKept rows (rows ++ more)
rows-add rows more = record {
  longer = omega (arith, length-append rows more);
  each = λ k h. rw (get_or-append rows more blank k h) (row_same (get_or rows k blank));
}

rows-set : (rows : List Row) (j : ℕ) (r : Row) → RowKept (get_or rows j blank) r → RowsKept rows (set rows j r)
rows-set rows j r p = record { longer = omega (arith, length-set rows j r); each = λ k h. at k h (ℕ_discrete k j) }
  where
    at : (k : ℕ) → k < length rows → Dec (k ≡ j) → RowKept (get_or rows k blank) (get_or (set rows j r) k blank)
    at k h (yes e) = let l : j < length rows = omega arith in rw (e, get_or-set_same rows j r blank l) p
    at k h (no e) = rw (get_or-set_other rows j k r blank e) (row_same (get_or rows k blank))

rows-map : (f : Row → Row) → f blank ≡ blank → ((r : Row) → RowKept r (f r)) → (rows : List Row) → RowsKept rows (map f rows)
rows-map f rest p rows = record {
  longer = omega (arith, length-map rows f);
  each = λ k h. rw (map_at f rows k blank rest) (p (get_or rows k blank));
}

row_settled : (a : ℕ) (rows : List Row) (k : ℕ) → RowKept (get_or rows k blank) (get_or (settle a rows) k blank)
row_settled a rows k =
    let p = settle-row a rows k in
    let e : (get_or (settle a rows) k blank).amount ≡ (get_or rows k blank).amount = ap (λ (r : Row). r.amount) p.kept in
    record {
      kind = ap (λ (r : Row). r.kind) p.kept;
      account = ap (λ (r : Row). r.account) p.kept;
      amount = e;
      reference = ap (λ (r : Row). r.reference) p.kept;
      left = omega (arith, p.grows);
    }

rows_settled : (n : ℕ) (rows : List Row) → RowsKept rows (settle_accounts n rows)
unfolding settle_accounts
rows_settled zero rows = rows_same rows
rows_settled (suc n) rows =
    let xs : List Row = settle_accounts n rows in
    rows-kept rows xs _ (rows_settled n rows) (record { longer = omega (arith, length-settle (suc n) xs); each = λ k h. row_settled (suc n) xs k })

pub settled-keeps-rows : (b : Book) → RowsKept b.rows (settled b).rows
unfolding settled
settled-keeps-rows b = rows_settled (length b.accounts) b.rows

-- the row that an event names is put back changed
put-kept : (b : Book) (a : ℕ) (r : Row) → 0 < (row b a).kind → RowKept (row b a) r → RowsKept b.rows (set b.rows (a - 1) r)
put-kept b zero r h p = absurd (omega arith)
put-kept b (suc j) r h p = let z : suc j - 1 ≡ j = omega arith in rw z (rows-set b.rows j r p)

-- ---- events 4 to 7

return_kept : (b : Book) (e : Instruction) → Accepted b (of_kind event_returned_check e) → RowsKept b.rows (return_check b e).rows
unfolding return_check no_row
return_kept b e q =
    let k : (row b e.a).kind ≡ kind_payment = named-kind b e.a e.account kind_payment q.named in
    let r : Row = with_mark method_check_returned (row b e.a) in
    let xs : List Row = set b.rows (e.a - 1) (with_mark method_check_returned (row b e.a)) in
    rows-kept b.rows xs _
    (put-kept b e.a r (omega arith) (record { kind = refl; account = refl; amount = refl; reference = refl; left = omega arith }))
    (rows-kept xs _ _ (rows-add xs _) (rows-add _ _))

hold-kept : (b : Book) (e : Instruction) → Accepted b (of_kind event_dispute e) → RowsKept b.rows (hold_toll b e).rows
unfolding hold_toll hold_from no_row
hold-kept b e q =
    let k : (row b e.a).kind ≡ kind_toll = named-kind b e.a e.account kind_toll q.named in
    put-kept b e.a (hold_from b.day (row b e.a)) (omega arith) (record { kind = refl; account = refl; amount = refl; reference = refl; left = omega arith })

module _ (b : Book) (e : Instruction) (q : Accepted b (event6 b e)) where
  abbrev it : Row
  it = row b e.a

  there : 0 < it.kind
  there = let k : it.kind ≡ kind_toll = (decided b e q).toll in omega arith

  uphold-kept : RowsKept b.rows (uphold b e).rows
  unfolding uphold fee_naming
  uphold-kept =
      let r : Row = settle_whole (with_hold_start 0 (with_dispute dispute_upheld it)) in
      let xs : List Row = set b.rows (e.a - 1) (settle_whole (with_hold_start 0 (with_dispute dispute_upheld it))) in
      rows-kept b.rows xs _ (put-kept b e.a r there (record { kind = refl; account = refl; amount = refl; reference = refl; left = omega arith }))
      (rows-kept xs _ _ (rows-map (λ y. cond (fee_naming e.a y) (settle_whole y) y) refl (λ y. row-cond (fee_naming e.a y) y (settle_whole y) (row-whole y)) xs) (rows-add _ _))

  decide-kept : RowsKept b.rows (decide b e).rows
  unfolding decide reject
  decide-kept = go (eqb e.b 1)
    where
      go : (t : Bool) → RowsKept b.rows (cond t (uphold b e) (reject b e)).rows
      go true = uphold-kept
      go false = put-kept b e.a (release b.day it) there (row-released b.day it)

topup-kept : (b : Book) (e : Instruction) → RowsKept b.rows (topup_result b e).rows
unfolding topup_result pay_topup decline_topup
topup-kept b e = go (eqb e.b 1)
  where
    go : (t : Bool) → RowsKept b.rows (cond t (pay_topup b e) (decline_topup b e)).rows
    go true = rows-add b.rows _
    go false = rows_same b.rows

-- ---- the tick

ended-kept : (b : Book) → RowsKept b.rows (before_raising b).rows
unfolding before_raising end_holds next_day end_hold hold_ends
ended-kept b =
    rows-kept b.rows (end_holds (next_day b)).rows _
    (rows-map (end_hold (b.day + 1)) refl (λ r. row-cond (hold_ends (b.day + 1) r) r (release (b.day + 1) r) (row-released (b.day + 1) r)) b.rows)
    (settled-keeps-rows (end_holds (next_day b)))

raised-kept : (b : Book) → RowsKept b.rows (raise_tolls b).rows
unfolding raise_tolls raise rises
raised-kept b =
    rows-kept b.rows _ _
    (rows-map (raise b.schedule b.day) refl (λ r. row-cond (rises b.day r) r _ (record { kind = refl; account = refl; amount = refl; reference = refl; left = omega arith })) b.rows)
    (rows-add _ _)

closed-kept : (b : Book) → RowsKept b.rows (close_accounts b).rows
unfolding close_accounts use_up
closed-kept b =
    rows-kept b.rows _ _ (rows-map (use_up b) refl (λ r. row-cond (source r && closes b r.account (account b r.account)) r (settle_whole r) (row-whole r)) b.rows) (rows-add _ _)

tick-kept : (b : Book) (e : Instruction) → RowsKept b.rows (tick b e).rows
unfolding tick
tick-kept b e =
    rows-kept b.rows _ _ (ended-kept b) (rows-kept (before_raising b).rows _ _ (raised-kept (before_raising b)) (closed-kept (raise_tolls (before_raising b))))

-- ---- every event

change-kept : (b : Book) (e : Instruction) (k : ℕ) → Accepted b (of_kind k e) → RowsKept b.rows (change_of k b (of_kind k e)).rows
unfolding change_of open_account post_toll post_payment request_close add_list set_reserve set_successor
change-kept b e k q =
    by_kind (λ k. Accepted b (of_kind k e) → RowsKept b.rows (change_of k b (of_kind k e)).rows)
    (record {
      opened = λ q. rows_same b.rows;
      toll = λ q. rows-add b.rows _;
      payment = λ q. rows-add b.rows _;
      returned-check = return_kept b (of_kind event_returned_check e);
      dispute = hold-kept b (of_kind event_dispute e);
      decision = decide-kept b (of_kind event_decision e);
      topup-result = λ q. topup-kept b (of_kind event_topup_result e);
      close-request = λ q. rows_same b.rows;
      tick = λ q. tick-kept b (of_kind event_tick e);
      rate-list = λ q. rows_same b.rows;
      reserve = λ q. rows_same b.rows;
      successor = λ q. rows_same b.rows;
      none = λ q. rows_same b.rows;
      past = λ k q. rows_same b.rows;
    }) k q

after_kept : (b : Book) (e : Instruction) → Accepted b e → RowsKept b.rows (after b e).rows
unfolding after
after_kept b e q =
    rows-kept b.rows (change_of e.kind b e).rows _ (change-kept b e e.kind q) (settled-keeps-rows (change_of e.kind b e))

pub post-keeps-rows : (b : Book) (e : Instruction) → RowsKept b.rows (post b e).book.rows
post-keeps-rows b e = go (eqb (answer_number b e) 0) refl
  where
    go : (t : Bool) → eqb (answer_number b e) 0 ≡ t → RowsKept b.rows (post b e).book.rows
    go true q = rw (post-accepted b e q) (after_kept b e (accepted b e (eqb-true (answer_number b e) 0 q)))
    go false q = rw (post-refused b e q) (rows_same b.rows)
