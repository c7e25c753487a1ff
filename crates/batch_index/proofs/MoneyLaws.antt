-- What the rows that an event adds make of an account's unused money is its unused money after the event.
use mathlib.Core.Path.{◌≡◌, refl, sym, ap, ◌∙◌, fun_ext}
use mathlib.Core.Logic.{◌≢◌}
use mathlib.Core.Bool.{Bool, true, false, not, cond, ◌&&◌, ◌||◌, false≢true, and-false}
use Prim.Native.Nat.{ℕ, zero, suc, ◌+◌, ◌-◌, ◌≤◌, ◌<◌}
use native.Mathlib.Omega.{arith}
use native.Mathlib.Decide.{ℕ_discrete, dec_lt}
use mathlib.Core.List.{List, [], ◌∷◌, map}
use lib.ListN.{length, get_or, drop, set, length-drop, length-set, length-map, get_or-append}
use lib.Seq.{drop-length, get_or-drop}
use lib.Dec.{eqb, leb}
use borrow.Author.Tests.{leb-true, ltb-true, eqb-true, eq-eqb, not-false}
use Rattle.records.specs.Updates.{of_kind, on_row}
use Rattle.records.specs.Codes.{method_check_returned, code_yes, event_toll, event_returned_check, event_dispute, event_decision, event_topup_result, event_tick}
use Rattle.lists.specs.Tests.{◌is◌, ◌from◌to◌}
use Rattle.lists.specs.Lists.{sum_by, only}
use Rattle.lists.proofs.TestLaws.{and_right, or_left, or_right, cond_either}
use Rattle.lists.proofs.SumLaws.{sum_by-snoc, sum_by-set-same, sum_by-at-le, sum_by-zero-at, sum_by-map}
use Rattle.rules.specs.Rows.{Row, Test, kind_toll, kind_payment, blank, row_no, with_mark, remaining, source, debit, unsettled, held_toll, held, source_of, payable}
use Rattle.rules.specs.Settlement.{money, debt, moved}
use Rattle.rules.specs.Book.{Instruction, Book, settled}
use Rattle.rules.specs.Events.{open_account, post_toll, post_payment, return_check, hold_toll, uphold, reject, decide, pay_topup, decline_topup, topup_result, request_close, add_list, set_reserve, set_successor}
use Rattle.rules.specs.Soundness.{sound}
use Rattle.rules.specs.SoundFacts.{Sound}
use Rattle.rules.specs.Refusals.{change_of, after, unknown, no_row, untimely, answer_number}
use Rattle.rules.specs.Posting.{post}
use Rattle.rules.proofs.KindLaws.{by_kind}
use Rattle.rules.proofs.AllocationLaws.{bare}
use Rattle.rules.proofs.SettlementAccountsLaws.{settle_accounts-bare, settle_accounts-still, settle_accounts-remains}
use Rattle.rules.proofs.SoundnessLaws.{sound-facts}
use Rattle.rules.proofs.PostingLaws.{post-refused, post-accepted}
use Rattle.preservation.proofs.Accepted.{Accepted, accepted}
use Rattle.preservation.proofs.KeepingLaws.{grown, sum-add, grown-row, set-row}
use Rattle.preservation.proofs.SettledLaws.{length-settled}
use Rattle.preservation.proofs.LookupLaws.{there, named-kind, named-account, inside}
use Rattle.preservation.proofs.PostFrame.{row-no-idle-money, post-frame-row, post-frame-added}
use Rattle.preservation.proofs.NamedLaws.{sound-moved}
use Rattle.preservation.proofs.OpenTolls.{open-wants}
use Rattle.preservation.proofs.OthersLaws.{other-account}
use Rattle.preservation.proofs.RowsKept.{RowKept, RowsKept, settled-keeps-rows, post-keeps-rows}
use Rattle.batch_index.specs.Money.{money_with, money_after}

-- ---- what rows make of money

-- the amount of a row of account a that is no source
unfoldable charge : ℕ → Row → ℕ
charge a r = cond (r.account is a && not (source r)) r.amount 0

-- x is what money m becomes once sources give g and debits take c in some order: one value where g or c is 0
record Between (m x c g : ℕ) : Type 0 where
  least : m + g ≤ x + c
  most : x ≤ (m - c) + g

-- what rows make of the money m of account a
after-between : (a m : ℕ) (rs : List Row) → Between m (money_after a m rs) (sum_by (charge a) rs) (money a rs)
unfolding money_after money_with money sum_by charge only source_of
after-between a m [] = record { least = omega arith; most = omega arith }
after-between a m (r ∷ rs) = go (r.account is a) (source r) (λ k. after-between a k rs)
  where
    go : (p v : Bool) → ((k : ℕ) → Between k (money_after a k rs) (sum_by (charge a) rs) (money a rs))
        → Between m (money_after a (cond p (cond v (m + remaining r) (m - r.amount)) m) rs)
        (cond (p && not v) r.amount 0 + sum_by (charge a) rs) (cond (p && v) (remaining r) 0 + money a rs)
    go true true f = let h = f (m + remaining r) in record { least = omega (arith, h.least); most = omega (arith, h.most) }
    go true false f = let h = f (m - r.amount) in record { least = omega (arith, h.least); most = omega (arith, h.most) }
    go false v f = let h = f m in record { least = omega (arith, h.least); most = omega (arith, h.most) }

-- ---- old rows and new rows

-- a sum over the rows after an event, where each old row keeps its share
sum_added : (f : Row → ℕ) (xs ys : List Row) → length xs ≤ length ys
    → ((i : ℕ) → i < length xs → f (get_or xs i blank) ≡ f (get_or ys i blank)) → sum_by f ys ≡ sum_by f xs + sum_by f (drop (length xs) ys)
unfolding sum_by
sum_added f [] ys l e = omega arith
sum_added f (x ∷ xs) [] l e = absurd (omega arith)
sum_added f (x ∷ xs) (y ∷ ys) l e =
    omega (arith, e 0 (omega arith), sum_added f xs ys (omega arith) (λ i h. e (suc i) (omega arith)))

-- what holds of each new row
record Added (P : Row → Type 0) (rows rows' : List Row) : Type 0 where
  each : (i : ℕ) → length rows ≤ i → i < length rows' → P (get_or rows' i blank)

-- each new row is a source, or none is
abbrev Sources : Bool → List Row → List Row → Type 0
Sources v = Added (λ r. source r ≡ v)

-- the new rows have no share in a sum
added_none : (f : Row → ℕ) (P : Row → Type 0) (rows rows' : List Row) → ((r : Row) → P r → f r ≡ 0) → Added P rows rows'
    → sum_by f (drop (length rows) rows') ≡ 0
added_none f P rows rows' z c =
    let L : ℕ = length rows in
    sum_by-zero-at f blank (drop L rows') (λ i h.
    rw (get_or-drop L rows' i blank) (z (get_or rows' (L + i) blank) (c.each (L + i) (omega arith) (omega (arith, length-drop L rows')))))

-- no row is added
sources-same : (v : Bool) (rows rows₁ : List Row) → length rows₁ ≡ length rows → Sources v rows rows₁
sources-same v rows rows₁ e = record { each = λ i l h. absurd (omega arith) }

-- a row more
sources-add : (v : Bool) (rows rows₁ : List Row) (r : Row) → source r ≡ v → Sources v rows rows₁ → Sources v rows (grown rows₁ r)
sources-add v rows rows₁ r e c = record { each = λ i l h. grown-row rows₁ r i (λ x. source x ≡ v) h (λ q. c.each i l q) (λ q. e) }

-- ---- money that follows the new rows

-- the unused money of account a after an event is what the new rows make of it
abbrev Follows : ℕ → List Row → List Row → Type 0
Follows a rows rows' = money_after a (money a rows) (drop (length rows) rows') ≡ money a rows'

-- what is left of an old source: a row of the account that has something left stays as it was
left-same : (a : ℕ) (x y : Row) → RowKept x y → (x.account ≡ a → 0 < only (source_of a) remaining x → y ≡ x)
    → only (source_of a) remaining x ≡ only (source_of a) remaining y
unfolding only source_of
left-same a x y k f = rw (k.kind, k.account) (go (x.account is a) refl (source x) f)
  where
    go : (p : Bool) → (x.account is a) ≡ p → (v : Bool) → (x.account ≡ a → 0 < cond (p && v) (remaining x) 0 → y ≡ x)
        → cond (p && v) (remaining x) 0 ≡ cond (p && v) (remaining y) 0
    go true e true f = elim (dec_lt 0 (remaining x)) [ yes h ↦ rw (f (eqb-true x.account a e) h) | no h ↦ omega (arith, k.left) ]
    go true e false f = refl
    go false e v f = refl

-- no new row takes anything, and the account's old rows stay while it has unused money
follows-kept : (a : ℕ) (rows rows' : List Row) → RowsKept rows rows'
    → ((i : ℕ) → i < length rows → (get_or rows i blank).account ≡ a → 0 < money a rows → get_or rows' i blank ≡ get_or rows i blank)
    → sum_by (charge a) (drop (length rows) rows') ≡ 0 → Follows a rows rows'
unfolding money
follows-kept a rows rows' k f z =
    let left : Row → ℕ = only (source_of a) remaining in
    let b = after-between a (money a rows) (drop (length rows) rows') in
    let e = sum_added left rows rows' k.longer (λ i l.
    left-same a (get_or rows i blank) (get_or rows' i blank) (k.each i l) (λ q h. f i l q (omega (arith, sum_by-at-le left rows i blank l)))) in
    omega (arith, b.least, b.most)

-- ---- the rows of a change, and once settled

-- the new rows are sources; while the account has unused money, its debt and the old rows stay
record Gains (n : ℕ) (rows rows₁ : List Row) : Type 0 where
  new : Sources true rows rows₁
  same-debt : 0 < money n rows → debt n rows₁ ≡ debt n rows
  same_rows : 0 < money n rows → (i : ℕ) → i < length rows → get_or rows₁ i blank ≡ get_or rows i blank

-- the new rows are debits, and what settlement may pay grows by their amounts
record Charges (n : ℕ) (rows rows₁ : List Row) : Type 0 where
  new : Sources false rows rows₁
  same-payable : payable rows₁ n ≡ payable rows n
  same-money : money n rows₁ ≡ money n rows
  more-debt : debt n rows₁ + sum_by (charge n) rows ≡ debt n rows + sum_by (charge n) rows₁

module _ (b b₁ : Book) (s : Sound b) (k : RowsKept b.rows (settled b₁).rows) where
  -- settlement keeps the kinds of the new rows
  new_none : (v : Bool) → Sources v b.rows b₁.rows → (f : Row → ℕ) → ((r : Row) → source r ≡ v → f r ≡ 0)
      → sum_by f (drop (length b.rows) (settled b₁).rows) ≡ 0
  new_none v c f z =
      added_none f (λ r. source r ≡ v) b.rows (settled b₁).rows z (record {
        each = λ i l h.
            let m : i < length b₁.rows = rw (length-settled b₁) at h in
            rw ((settled-keeps-rows b₁).each i m).kind (c.each i l m);
      })

  -- sources: while there is unused money settlement moves nothing
  gains-follow : (n : ℕ) → Gains n b.rows b₁.rows → Follows n b.rows (settled b₁).rows
  unfolding settled moved charge
  gains-follow n g =
      follows-kept n b.rows (settled b₁).rows k
      (λ i l q h.
      let e : get_or b₁.rows i blank ≡ get_or b.rows i blank = g.same_rows h i l in
      let z : moved n b.rows ≡ 0 = rw q at (row-no-idle-money b s i l) in
      settle_accounts-still n (length b₁.accounts) b₁.rows i (rw e q) (omega (arith, g.same-debt h)) ∙ e)
      (new_none true g.new (charge n) (λ r e. rw (e, and-false (r.account is n))))

  -- the debits that the change adds are those of the new rows once settled
  charge-added : (n : ℕ)
      → sum_by (charge n) b₁.rows ≡ sum_by (charge n) b.rows + sum_by (charge n) (drop (length b.rows) (settled b₁).rows)
  unfolding settled charge
  charge-added n =
      sym (sum_by-map (charge n) bare b₁.rows) ∙ ap (sum_by (charge n)) (sym (settle_accounts-bare (length b₁.accounts) b₁.rows))
      ∙ sum_by-map (charge n) bare (settled b₁).rows
      ∙ sum_added (charge n) b.rows (settled b₁).rows k.longer
      (λ i l. rw ((k.each i l).kind, (k.each i l).account, (k.each i l).amount))

  -- debits: settlement takes their amounts from the unused money
  charges-follow : (n : ℕ) → n from 1 to length b.accounts ≡ true → length b₁.accounts ≡ length b.accounts
      → Charges n b.rows b₁.rows → Follows n b.rows (settled b₁).rows
  unfolding settled moved money only source_of
  charges-follow zero i m c = absurd (false≢true i)
  charges-follow (suc j) i m c =
      let h : suc j ≤ length b.accounts = leb-true (suc j) (length b.accounts) (and_right (leb 1 (suc j)) _ i) in
      let x = after-between (suc j) (money (suc j) b.rows) (drop (length b.rows) (settled b₁).rows) in
      let z = new_none false c.new (only (source_of (suc j)) remaining) (λ r e. rw (e, and-false (r.account is suc j))) in
      let v = (settle_accounts-remains (length b₁.accounts) b₁.rows j (omega arith)).money in
      omega (arith, x.least, x.most, c.same-money, c.more-debt, charge-added (suc j), sound-moved b s (suc j) (omega arith) h)

-- ---- what settlement may pay: a new row that is no held toll leaves it, and so does a mark

-- a held toll among the rows with one more
held_at : (r : Row) → held_toll r ≡ false → (rows : List Row) (j : ℕ)
    → held_toll (get_or (grown rows r) j blank) ≡ held_toll (get_or rows j blank)
held_at r e [] zero = e
held_at r e [] (suc j) = refl
held_at r e (x ∷ xs) zero = refl
held_at r e (x ∷ xs) (suc j) = held_at r e xs j

-- one row more
payable-add : (n : ℕ) (rows : List Row) (r : Row) → held_toll r ≡ false → payable (grown rows r) n ≡ payable rows n
unfolding payable held
payable-add n rows r e = fun_ext λ x. rw (held_at r e (blank ∷ rows) x.reference)

-- a row's mark changes
payable-mark : (n : ℕ) (rows : List Row) (i m : ℕ) → i < length rows
    → payable (set rows i (with_mark m (get_or rows i blank))) n ≡ payable rows n
unfolding payable held
payable-mark n rows i m l = fun_ext λ x.
    let v : Row = with_mark m (get_or rows i blank) in
    let j : ℕ = x.reference in
    let e : held_toll (row_no (set rows i v) j) ≡ held_toll (row_no rows j) =
    set-row (blank ∷ rows) (suc i) v (omega arith) j (λ y. held_toll y ≡ held_toll (row_no rows j)) refl (λ w. rw w) in
    rw e

-- what the debits of an account want, with one row more
debt-add : (n : ℕ) (rows : List Row) (r : Row) → held_toll r ≡ false
    → debt n (grown rows r) ≡ debt n rows + only (payable rows n) remaining r
unfolding debt
debt-add n rows r e = rw (payable-add n rows r e) (sum_by-snoc (only (payable rows n) remaining) rows r)

-- ---- the events that add sources or no rows

-- an event that leaves the rows
gains-same : (n : ℕ) (rows : List Row) → Gains n rows rows
gains-same n rows = record { new = sources-same true rows rows refl; same-debt = λ h. refl; same_rows = λ h i l. refl }

-- an event on an account without unused money that adds sources or no row
gains-none : (n : ℕ) (rows rows₁ : List Row) → money n rows ≡ 0 → Sources true rows rows₁ → Gains n rows rows₁
gains-none n rows rows₁ z c = record { new = c; same-debt = λ h. absurd (omega arith); same_rows = λ h. absurd (omega arith) }

-- a payment more
gains-payment : (n : ℕ) (rows : List Row) (r : Row) → r.kind ≡ kind_payment → Gains n rows (grown rows r)
unfolding only payable
gains-payment n rows r k = record {
  new = sources-add true rows rows r (rw k) (sources-same true rows rows refl);
  same-debt = λ h.
      let z : only (payable rows n) remaining r ≡ 0 = rw (k, and-false (r.account is n)) in
      omega (arith, debt-add n rows r (rw k));
  same_rows = λ h i l. get_or-append rows (r ∷ []) blank i l;
}

-- a top-up, paid or declined
gains-topup : (b : Book) (e : Instruction) → Gains e.account b.rows (topup_result b e).rows
unfolding topup_result pay_topup decline_topup
gains-topup b e =
    cond_either (λ (c : Book). Gains e.account b.rows c.rows) (e.b is code_yes) (pay_topup b e) (decline_topup b e)
    (gains-payment e.account b.rows _ refl) (gains-same e.account b.rows)

-- a toll that can be disputed is unsettled and not held, so its account has no unused money
dispute-none : (b : Book) (e : Instruction) → Sound b → Accepted b (of_kind event_dispute e) → money e.account b.rows ≡ 0
unfolding no_row untimely moved debt
dispute-none b e s q = go e.a q
  where
    go : (a : ℕ) → Accepted b (of_kind event_dispute (on_row a e)) → money e.account b.rows ≡ 0
    go zero q = let z : ◌≡◌ {A = ℕ} 0 kind_toll = named-kind b 0 e.account kind_toll q.named in absurd (omega arith)
    go (suc j) q =
        let r : Row = get_or b.rows j blank in
        let k : r.kind ≡ kind_toll = named-kind b (suc j) e.account kind_toll q.named in
        let o : r.account ≡ e.account = named-account b (suc j) e.account kind_toll q.named in
        let l : j < length b.rows = there b.day b s.near j (omega arith) in
        let t : not (unsettled r) || not (r.dispute is 0) ≡ false = q.timely in
        let d : r.dispute ≡ 0 = eqb-true r.dispute 0 (not-false _ (or_right (not (unsettled r)) _ t)) in
        let u : r.settled < r.amount = ltb-true r.settled r.amount (not-false _ (or_left (not (unsettled r)) _ t)) in
        let x = sum_by-at-le (only (payable b.rows r.account) remaining) b.rows j blank l in
        rw (← o) (omega (arith, row-no-idle-money b s j l, open-wants b.rows r k (rw (k, d)) u))

-- a decision, upheld or rejected, on an account without unused money
gains-decision : (b : Book) (e : Instruction) → money e.account b.rows ≡ 0 → Gains e.account b.rows (decide b e).rows
unfolding decide uphold reject
gains-decision b e z =
    gains-none e.account b.rows _ z
    (cond_either (λ (c : Book). Sources true b.rows c.rows) (e.b is code_yes) (uphold b e) (reject b e)
    (sources-add true b.rows (map _ (set b.rows _ _)) _ refl
    (sources-same true b.rows _ (length-map (set b.rows _ _) _ ∙ length-set b.rows _ _)))
    (sources-same true b.rows _ (length-set b.rows _ _)))

-- ---- the events that add debits

-- a debit more, unsettled and not held
charges-add : (n : ℕ) (rows rows₁ : List Row) (r : Row) → r.account ≡ n → debit r ≡ true → source r ≡ false → r.settled ≡ 0
    → held_toll r ≡ false → held rows r ≡ false → Charges n rows rows₁ → Charges n rows (grown rows₁ r)
unfolding money only source_of payable charge
charges-add n rows rows₁ r o d v z t h c =
    let i : (r.account is n) ≡ true = eq-eqb r.account n o in
    let p : only (payable rows₁ n) remaining r ≡ r.amount =
    ap (λ (u : Test). only u remaining r) c.same-payable ∙ rw (i, d, h, z) (omega arith) in
    let x : charge n r ≡ r.amount = rw (i, v) in
    record {
      new = sources-add false rows rows₁ r v c.new;
      same-payable = payable-add n rows₁ r t ∙ c.same-payable;
      same-money = sum-add (only (source_of n) remaining) rows₁ r (rw (v, i)) ∙ c.same-money;
      more-debt = omega (arith, c.more-debt, debt-add n rows₁ r t, sum_by-snoc (charge n) rows₁ r);
    }

-- a toll more
charges-toll : (b : Book) (e : Instruction) → Charges e.account b.rows (post_toll b e).rows
unfolding post_toll held
charges-toll b e =
    charges-add e.account b.rows b.rows _ refl refl refl refl refl refl
    (record { new = sources-same false b.rows b.rows refl; same-payable = refl; same-money = refl; more-debt = refl })

-- a row's mark changes
charges-mark : (n : ℕ) (rows : List Row) (i m : ℕ) → i < length rows → Charges n rows (set rows i (with_mark m (get_or rows i blank)))
unfolding money debt only source_of charge
charges-mark n rows i m l =
    let v : Row = with_mark m (get_or rows i blank) in
    let p : payable (set rows i v) n ≡ payable rows n = payable-mark n rows i m l in
    let d : debt n (set rows i v) ≡ debt n rows =
    rw p (sum_by-set-same (only (payable rows n) remaining) rows i v blank (unfold payable held in refl)) in
    record {
      new = sources-same false rows _ (length-set rows i v);
      same-payable = p;
      same-money = sum_by-set-same (only (source_of n) remaining) rows i v blank refl;
      more-debt = omega (arith, d, sum_by-set-same (charge n) rows i v blank refl);
    }

-- a payment marked returned, a reversal and a fee more
charges-return : (b : Book) (e : Instruction) → Sound b → Accepted b (of_kind event_returned_check e)
    → Charges e.account b.rows (return_check b e).rows
unfolding return_check held no_row
charges-return b e s q = go e.a q
  where
    go : (a : ℕ) → Accepted b (of_kind event_returned_check (on_row a e)) → Charges e.account b.rows (return_check b (on_row a e)).rows
    go zero q = let z : ◌≡◌ {A = ℕ} 0 kind_payment = named-kind b 0 e.account kind_payment q.named in absurd (omega arith)
    go (suc j) q =
        let k : (get_or b.rows j blank).kind ≡ kind_payment = named-kind b (suc j) e.account kind_payment q.named in
        let z : suc j - 1 ≡ j = omega arith in
        rw z (charges-add e.account b.rows _ _ refl refl refl refl refl (rw k)
        (charges-add e.account b.rows _ _ refl refl refl refl refl refl
        (charges-mark e.account b.rows j method_check_returned (there b.day b s.near j (omega arith)))))

-- ---- every event but a tick

-- the claim for an accepted event of kind k, on its own account
abbrev Claim : Book → Instruction → ℕ → Type 0
Claim b e k =
    k ≢ event_tick → (k ≡ event_decision → money e.account b.rows ≡ 0) → Accepted b (of_kind k e)
    → RowsKept b.rows (settled (change_of k b (of_kind k e))).rows
    → Follows e.account b.rows (settled (change_of k b (of_kind k e))).rows

-- an accepted event of every kind
change-follows : (b : Book) (e : Instruction) → Sound b → (k : ℕ) → Claim b e k
unfolding change_of open_account post_toll post_payment return_check hold_toll request_close add_list set_reserve set_successor unknown
change-follows b e s =
    let n : ℕ = e.account in
    by_kind (Claim b e) (record {
      opened = λ ne d q k. gains-follow b _ s k n (gains-same n b.rows);
      toll = λ ne d q k. charges-follow b _ s k n (inside n (length b.accounts) _ q.known) refl (charges-toll b (of_kind event_toll e));
      payment = λ ne d q k. gains-follow b _ s k n (gains-payment n b.rows _ refl);
      returned-check = λ ne d q k.
          charges-follow b _ s k n (inside n (length b.accounts) _ q.known) (length-set b.accounts _ _)
          (charges-return b (of_kind event_returned_check e) s q);
      dispute = λ ne d q k.
          gains-follow b _ s k n
          (gains-none n b.rows _ (dispute-none b e s q) (sources-same true b.rows _ (length-set b.rows _ _)));
      decision = λ ne d q k. gains-follow b _ s k n (gains-decision b (of_kind event_decision e) (d refl));
      topup-result = λ ne d q k. gains-follow b _ s k n (gains-topup b (of_kind event_topup_result e));
      close-request = λ ne d q k. gains-follow b _ s k n (gains-same n b.rows);
      tick = λ ne d q k. absurd (ne refl);
      rate-list = λ ne d q k. gains-follow b _ s k n (gains-same n b.rows);
      reserve = λ ne d q k. gains-follow b _ s k n (gains-same n b.rows);
      successor = λ ne d q k. gains-follow b _ s k n (gains-same n b.rows);
      none = λ ne d q k. gains-follow b _ s k n (gains-same n b.rows);
      past = λ i ne d q k. gains-follow b _ s k n (gains-same n b.rows);
    })

module _ (b : Book) (e : Instruction) (s : sound b ≡ true) (ne : e.kind ≢ event_tick) where
  -- another account's money stays, and no new row is of it
  others-follow : (a : ℕ) → a ≢ e.account → Follows a b.rows (post b e).book.rows
  unfolding charge
  others-follow a w =
      let n : ℕ = e.account in
      let rows' : List Row = (post b e).book.rows in
      follows-kept a b.rows rows' (post-keeps-rows b e) (λ i l q h. post-frame-row b e s ne i l (λ o. w (sym q ∙ o)))
      (added_none (charge a) (λ r. r.account ≡ n) b.rows rows' (λ r o. rw (other-account n a w r o))
      (record { each = post-frame-added b e s ne }))

  -- the event's own account
  named-follows : (e.kind ≡ event_decision → money e.account b.rows ≡ 0) → Follows e.account b.rows (post b e).book.rows
  unfolding after money_after
  named-follows d = go (eqb (answer_number b e) 0) refl (post-keeps-rows b e)
    where
      go : (t : Bool) → eqb (answer_number b e) 0 ≡ t → RowsKept b.rows (post b e).book.rows
          → Follows e.account b.rows (post b e).book.rows
      go true q k =
          let p : Accepted b e = accepted b e (eqb-true (answer_number b e) 0 q) in
          rw (post-accepted b e q) (change-follows b e (sound-facts b s) e.kind ne d p (rw (post-accepted b e q) at k))
      go false q k = rw (post-refused b e q, drop-length b.rows)

-- the unused money of any account after an event but a tick, a decision being on an account without unused money
pub post-money : (b : Book) (e : Instruction) → sound b ≡ true → e.kind ≢ event_tick
    → (e.kind ≡ event_decision → money e.account b.rows ≡ 0) → (a : ℕ)
    → money_after a (money a b.rows) (drop (length b.rows) (post b e).book.rows) ≡ money a (post b e).book.rows
post-money b e s ne d a =
    elim (ℕ_discrete a e.account) [
      | yes w ↦ rw w (named-follows b e s ne d)
      | no w ↦ others-follow b e s ne a w
    ]
