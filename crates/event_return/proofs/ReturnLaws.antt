-- Event 4: which refusals concern it, and the book that it makes.
use mathlib.Core.Path.{◌≡◌, refl, sym, ap, ◌∙◌}
use mathlib.Core.Logic.{◌≢◌}
use mathlib.Core.Bool.{Bool, true, false, not, ◌&&◌}
use Prim.Native.Nat.{ℕ, zero, suc, ◌+◌, ◌-◌, ◌^◌, ◌≤◌, ◌<◌}
use native.Mathlib.Omega.{arith}
use mathlib.Core.List.{List, [], ◌∷◌, ◌++◌, append_assoc}
use lib.ListN.{length, set, length-set, length-append}
use lib.IntN.{ℤ}
use lib.Dec.{leb, ltb}
use borrow.Author.Tests.{leb-true, le-leb, ltb-false, eqb-true, not-false}
use Rattle.records.specs.Numbers.{answer_no_row, answer_untimely, answer_full}
use Rattle.records.specs.Codes.{method_check, method_check_returned, event_returned_check, event_tick}
use Rattle.records.specs.Layout.{day_place, used_place, state_place, returned_place}
use Rattle.records.specs.Encoding.{word, rows_of, accounts_of, StorableRow, StorableAccount}
use Rattle.records.proofs.FieldLaws.{storable-set}
use Rattle.records.specs.AccountOperations.{check_returned}
use Rattle.records.specs.Updates.{with_state}
use Rattle.lists.specs.Tests.{◌is◌, ◌from◌to◌, first}
use Rattle.lists.specs.Lists.{sum_by, count}
use Rattle.lists.proofs.TestLaws.{and_left, and_both, cond_either}
use Rattle.lists.proofs.SumLaws.{count-le}
use Rattle.records.specs.Limits.{most_rows, highest_charge, return_fee}
use Rattle.rules.specs.Rows.{Row, kind_fee, kind_reversal, kind_payment, row_no, new_row, with_mark, with_reference}
use Rattle.rules.specs.Settlement.{settle}
use Rattle.rules.specs.Book.{Account, Instruction, state_closed, state_pending, Book, account, row, with_rows, with_accounts}
use Rattle.rules.specs.Events.{return_check}
use Rattle.rules.specs.Soundness.{returned_of, returned_fits}
use Rattle.rules.specs.Refusals.{whole_book, change_of, after, zero_from-c, return_form, form_of, well_formed, no_row, full, answer_number, shared_refusals, own_refusals}
use Rattle.rules.specs.Posting.{removes_topup}
use Rattle.rules.specs.Tables.{Tables, accounts_in, room_in, rows_used, book_of, sound_tables}
use Rattle.rules.proofs.RefusalLaws.{own_tests, answer_number-own}
use Rattle.rules.proofs.StorableLaws.{day-le, accounts-le}
use Rattle.rules.proofs.TableLaws.{sound-book}
use Rattle.preservation.proofs.Accepted.{Accepted, accepted}
use Rattle.preservation.proofs.LookupLaws.{counted_of, there, named-kind}
use Rattle.preservation.proofs.NamedLaws.{after-named}
use Rattle.tables.specs.Changes.{RowChanged, AccountChanged}
use Rattle.tables.proofs.ChangeLaws.{changed-accounts}
use Rattle.settlement.specs.Settling.{Journal, Begun, Settled}
use Rattle.event_lookups.specs.declared.Lookup.{Lookup}
use Rattle.event_lookups.specs.Lookups.{LooksUp}
use Rattle.event_lookups.proofs.LookupLaws.{still_before, still-put, still-add, begun-still, row-at}
use Rattle.posting.specs.Posts.{tables_over, acceptance_of, RowRoom, RowAdded, Posts}
use Rattle.posting.proofs.BookLaws.{row_read, row-read-in, day-read, used-read, room-read, count-read, used-small, used-room, row-holds, account-holds}
use Rattle.posting_laws.proofs.EventLaws.{known-inside}
use Rattle.records.specs.Updates.{of_kind}
use Rattle.posting_laws.proofs.RefusalLaws.{at-kind, length-after, no-ceiling}
use Rattle.posting_laws.proofs.AddedLaws.{acceptance-plain, posts-accepted}
use Rattle.posting.specs.Written.{UsedRows}
use Rattle.posting_laws.proofs.UsedRowsLaws.{used-rows-before, rows-put, used-rows-add, rows-settle, rows_written, used-rows-room, rows-day, used-rows-settles, SmallAmounts, small-before, small_put, small-add}
use Rattle.event_return.specs.Return.{return_refusals, Counts, Marks, Marked}

-- ---- what event 4 writes: the payment marked, its reversal and the fee, and the account

abbrev pub marked_row : Book → Instruction → Row
marked_row b e = with_mark method_check_returned (row b e.a)

abbrev pub reversal_row : Book → Instruction → Row
reversal_row b e = with_reference e.a (new_row kind_reversal e.account b.day (row b e.a).amount)

abbrev pub fee_row : Book → Instruction → Row
fee_row b e = with_reference e.a (new_row kind_fee e.account b.day (e.b + return_fee))

abbrev marked_rows : Book → Instruction → List Row
marked_rows b e = set b.rows (e.a - 1) (marked_row b e)

abbrev returned_rows : Book → Instruction → List Row
returned_rows b e = (marked_rows b e ++ (reversal_row b e ∷ [])) ++ (fee_row b e ∷ [])

abbrev returned_accounts : Book → Instruction → List Account
returned_accounts b e = set b.accounts (e.account - 1) (check_returned (account b e.account))

-- ---- the number that event 4 gets

added-both : (b : Book) (e : Instruction) → returned_rows b e ≡ marked_rows b e ++ (reversal_row b e ∷ fee_row b e ∷ [])
added-both b e = append_assoc (marked_rows b e) (reversal_row b e ∷ []) (fee_row b e ∷ [])

module _ (b : Book) (e : Instruction) where
  abbrev event4 : Instruction
  event4 = of_kind event_returned_check e

  change-return : (change_of event_returned_check b event4).rows ≡ marked_rows b event4 ++ (reversal_row b event4 ∷ fee_row b event4 ∷ [])
  unfolding change_of return_check
  change-return = added-both b event4

  own-4 : first (own_refusals b event4) ≡ first (return_refusals b event4)
  unfolding own_tests full return_refusals count sum_by
  own-4 =
      let more : List Row = reversal_row b event4 ∷ fee_row b event4 ∷ [] in
      let n : length (marked_rows b event4) ≡ length b.rows = length-set b.rows (e.a - 1) (marked_row b event4) in
      let l = length-after b event4 (marked_rows b event4) more change-return n in
      let z = no-ceiling b event4 (marked_rows b event4) more change-return n refl in
      rw (l, z)

pub answer-return : (b : Book) (e : Instruction) → e.kind ≡ event_returned_check → first (shared_refusals b e) ≡ 0 → answer_number b e ≡ first (return_refusals b e)
answer-return b e k a = answer_number-own b e a ∙ at-kind (λ x. first (own_refusals b x) ≡ first (return_refusals b x)) e 4 k (own-4 b e)

-- the same with what each test came to
pub answer-by : (b : Book) (e : Instruction) → e.kind ≡ event_returned_check → first (shared_refusals b e) ≡ 0 → (n m r : Bool)
    → (row b e.a).kind is kind_payment && (row b e.a).account is e.account ≡ n → not ((row b e.a).mark is method_check) ≡ m
    → ltb b.room (length b.rows + 2) ≡ r
    → first ((answer_no_row, not n) ∷ (answer_untimely, m) ∷ (answer_full, r) ∷ []) ≡ answer_number b e
unfolding return_refusals
answer-by b e k a n m r v w z = rw (answer-return b e k a, v, w, z)

-- ---- the steps

pub counts-below : (x : Account) → StorableAccount (check_returned x) → x.returned < 2 ^ 63
unfolding check_returned
counts-below x s = let r : x.returned + 1 < 2 ^ 63 = s.each returned_place in omega arith

pub mark-storable : (r : Row) (m : ℕ) → m < 2 ^ 63 → StorableRow r → StorableRow (with_mark m r)
mark-storable r m l s = record {
  kind = s.kind;
  account = s.account;
  day = s.day;
  amount = s.amount;
  settled = s.settled;
  mark = l;
  due = s.due;
  dispute = s.dispute;
  hold = s.hold;
  reference = s.reference;
}

counted-storable : (x : Account) → StorableAccount x → x.returned + 1 < 2 ^ 63 → StorableAccount (check_returned x)
unfolding check_returned
counted-storable x s l =
    let reopened = storable-set _ state_place state_pending (omega arith) s in
    storable-set _ returned_place (x.returned + 1) l (cond_either StorableAccount (x.state is state_closed) (with_state state_pending x) x reopened s)

-- ---- what an accepted event 4 leaves

module _ (t : Tables) (s : sound_tables t ≡ true) (e : Instruction) (k : e.kind ≡ event_returned_check) (q : 0 ≡ answer_number (book_of t) e) where
  abbrev b : Book
  b = book_of t

  acc : Accepted b e
  acc = accepted b e (sym q)

  names-account : whole_book e ≡ false
  names-account = rw k

  inside : (1 ≤ e.account) × (e.account ≤ length b.accounts)
  inside = known-inside b e names-account acc.known

  is-payment : (row b e.a).kind ≡ kind_payment
  unfolding no_row
  is-payment = at-kind (λ x. no_row b x ≡ false → (row b x.a).kind ≡ kind_payment) e 4 k (named-kind b e.a e.account 4) acc.named

  -- the row that it names is a used one
  named-used : (1 ≤ e.a) × (e.a ≤ length b.rows)
  named-used = go e.a is-payment
    where
      go : (n : ℕ) → (row b n).kind ≡ kind_payment → (1 ≤ n) × (n ≤ length b.rows)
      go zero z = absurd (omega arith)
      go (suc j) z = (omega arith, there b.day b (sound-book t s).near j (omega arith))

  changed : change_of e.kind b e ≡ with_rows (returned_rows b e) (with_accounts (returned_accounts b e) b)
  unfolding change_of return_check
  changed = at-kind (λ x. change_of x.kind b x ≡ with_rows (returned_rows b x) (with_accounts (returned_accounts b x) b)) e 4 k refl

  after-return : after b e ≡ with_rows (settle e.account (returned_rows b e)) (with_accounts (returned_accounts b e) b)
  after-return =
      let not-tick : e.kind ≢ event_tick = λ z. omega arith in
      let same : length (returned_accounts b e) ≡ length b.accounts = length-set b.accounts (e.account - 1) (check_returned (account b e.account)) in
      after-named b e (sound-book t s) not-tick acc inside.0 inside.1 (rw changed same) ∙ rw changed

  length_marked : length (marked_rows b e) ≡ rows_used t
  length_marked = length-set b.rows (e.a - 1) (marked_row b e) ∙ sym (used-read t s)

  length-returned : length (returned_rows b e) ≡ rows_used t + 2
  length-returned =
      length-append (marked_rows b e ++ (reversal_row b e ∷ [])) (fee_row b e ∷ [])
      ∙ omega (arith, length-append (marked_rows b e) (reversal_row b e ∷ []), length_marked)

  grows : length (after b e).rows ≡ length b.rows + 2
  grows =
      length-after b e (marked_rows b e) (reversal_row b e ∷ fee_row b e ∷ []) (ap (λ (x : Book). x.rows) changed ∙ added-both b e)
      (length-set b.rows (e.a - 1) (marked_row b e))

  -- there are two rows for it
  fits : rows_used t + 2 ≤ room_in t
  unfolding full
  fits =
      let l = grows in
      let r = ltb-false b.room (length (after b e).rows) acc.fits in
      omega (arith, room-read t s, used-read t s)

  pub charge-le : e.b ≤ highest_charge
  unfolding well_formed form_of return_form
  charge-le =
      let f : leb e.b highest_charge && zero_from-c e ≡ true = at-kind (λ x. not (well_formed x) ≡ false → return_form x ≡ true) e 4 k (λ w. not-false _ w) acc.formed in
      leb-true e.b highest_charge (and_left (leb e.b highest_charge) (zero_from-c e) f)

  -- ---- the account

  returned-small : (account b e.account).returned ≤ most_rows
  unfolding returned_fits
  returned-small =
      let n : ℕ = e.account in
      let i : n from 1 to length b.accounts ≡ true = and_both (leb 1 n) (leb n (length b.accounts)) (le-leb 1 n inside.0) (le-leb n (length b.accounts) inside.1) in
      let c = eqb-true (account b n).returned (count (returned_of n) b.rows) (counted_of b.day b (sound-book t s).near n i).returned in
      omega (arith, count-le (returned_of n) b.rows, used-read t s, used-small t s)

  pub return-counts : Counts t.accounts e.account (account b e.account)
  return-counts = record {
    from = inside.0;
    to = omega (arith, count-read t s, inside.1);
    holds = counted-storable (account b e.account) (account-holds t s e.account) (omega (arith, returned-small));
  }

  -- ---- the payment

  pub return-marks : (used : ℕ) → used ≡ rows_used t → Marks t.journal used e.a
  return-marks used u = rw u (record {
    room = used-room t s;
    from = named-used.0;
    to = omega (arith, used-read t s, named-used.1);
    holds = rw (row_read t s e.a) (row-holds t s e.a);
  })

  pub marked-read : (used m : ℕ) (j : List ℤ) → used ≡ rows_used t → Marked t.journal j used e.a m → RowChanged t.journal j (e.a - 1) (marked_row b e)
  marked-read used m j u c = rw (u, row_read t s e.a) at c.marked

  pub amount-read : (used m : ℕ) (j : List ℤ) → used ≡ rows_used t → Marked t.journal j used e.a m → m ≡ (row b e.a).amount
  amount-read used m j u c = c.amount ∙ ap (λ (r : Row). r.amount) (row-read-in t s t.journal used refl u e.a (row_no (rows_of t.journal used) e.a) refl)

  -- ---- the rows added

  pub reversal-read : (amount : ℕ) → amount ≡ (row b e.a).amount → with_reference e.a (new_row kind_reversal e.account (word t.header day_place) amount) ≡ reversal_row b e
  reversal-read amount a = rw (day-read t s, a)

  naming-storable : (kind amount : ℕ) → kind < 2 ^ 63 → amount < 2 ^ 63 → StorableRow (with_reference e.a (new_row kind e.account b.day amount))
  naming-storable kind amount x y =
      let d = day-le b.day b (sound-book t s).near in
      let n = accounts-le b.day b (sound-book t s).near in
      record {
        kind = x;
        account = omega (arith, inside.1);
        day = omega arith;
        amount = y;
        settled = omega arith;
        mark = omega arith;
        due = omega arith;
        dispute = omega arith;
        hold = omega arith;
        reference = omega (arith, named-used.1, used-read t s, used-small t s);
      }

  pub reversal-storable : StorableRow (reversal_row b e)
  reversal-storable = naming-storable kind_reversal (row b e.a).amount (omega arith) (row-holds t s e.a).amount

  pub fee-storable : StorableRow (fee_row b e)
  fee-storable = naming-storable kind_fee (e.b + return_fee) (omega arith) (omega (arith, charge-le))

  -- ---- the tables on the way: the payment marked, then the reversal added, then the fee

  within : e.a - 1 < length b.rows
  within = omega (arith, named-used.0, named-used.1)

  module _ (j : List ℤ) (m : RowChanged t.journal j (e.a - 1) (marked_row b e)) where
    marked-used : UsedRows t t.header j (marked_rows b e)
    marked-used = rows-put t t.header t.journal j b.rows (used-rows-before t s) (e.a - 1) (marked_row b e) within m

    pub reversal-room : RowRoom t.header j
    reversal-room = used-rows-room t s t.header j (marked_rows b e) marked-used (rw length_marked (omega (arith, fits)))

    module _ (h' j' : List ℤ) (w : RowAdded t.header h' j j' (reversal_row b e)) where
      abbrev reversed_rows : List Row
      reversed_rows = marked_rows b e ++ (reversal_row b e ∷ [])

      length-reversed : length reversed_rows ≡ rows_used t + 1
      length-reversed = length-append (marked_rows b e) (reversal_row b e ∷ []) ∙ rw length_marked

      reversed-used : UsedRows t h' j' reversed_rows
      reversed-used = used-rows-add t s t.header j j' (marked_rows b e) marked-used h' (reversal_row b e) w

      pub fee-room : RowRoom h' j'
      fee-room = used-rows-room t s h' j' reversed_rows reversed-used (rw length-reversed (omega (arith, fits)))

      pub fee-read : with_reference e.a (new_row kind_fee e.account (word h' day_place) (e.b + return_fee)) ≡ fee_row b e
      fee-read = rw (rows-day t h' j' reversed_rows reversed-used)

      module _ (h'' j'' : List ℤ) (v : RowAdded h' h'' j' j'' (fee_row b e)) where
        returned-used : UsedRows t h'' j'' (returned_rows b e)
        returned-used = used-rows-add t s h' j' j'' reversed_rows reversed-used h'' (fee_row b e) v

        small : SmallAmounts (returned_rows b e)
        small =
            small-add reversed_rows (fee_row b e) fee-storable.amount
            (small-add (marked_rows b e) (reversal_row b e) reversal-storable.amount
            (small_put b.rows (e.a - 1) (marked_row b e) within (row-holds t s e.a).amount (small-before t s)))

        pub return-settles : Journal j'' (rows_used t + 2)
        return-settles = rw length-returned at (used-rows-settles t s h'' j'' (returned_rows b e) returned-used (rw length-returned fits) small)

        -- settlement begins where it may before the event: the mark is not read by it, and the two rows come last
        pub return-begins : (x : Lookup) → LooksUp t e x → Begun j'' (rows_used t + 2) e.account x.source x.debit
        return-begins x l =
            let n : word h' used_place ≡ rows_used t + 1 = reversed-used.used ∙ length-reversed in
            let marked = still-put e x t.journal j (e.a - 1) (marked_row b e) m (still_before t e x l) (row b e.a) (row-at t s e.a named-used.0 (omega (arith, used-read t s, named-used.1))) refl refl refl refl in
            let reversed = still-add e x j j' (rows_used t) (reversal_row b e) w.row marked l.source_in l.debit-in in
            begun-still t e x j'' (rows_used t + 2) l (omega arith)
            (still-add e x j' j'' (word h' used_place) (fee_row b e) v.row reversed (omega (arith, l.source_in)) (omega (arith, l.debit-in)))

        -- the size stays
        pub return-size : length j'' ≡ length t.journal
        return-size = returned-used.journal-size

        pub header-size : length h'' ≡ length t.header
        header-size = returned-used.header-size

        pub return-posts : (xs j''' : List ℤ) → AccountChanged t.accounts xs (e.account - 1) (check_returned (account b e.account))
            → Settled j'' j''' (rows_used t + 2) e.account → Posts t (tables_over t h'' xs j''') e (acceptance_of (rows_used t) 2 0 0)
        return-posts xs j''' c d =
            posts-accepted t (tables_over t h'' xs j''') s e (acceptance_of (rows_used t) 2 0 0) q
            (rw (used-read t s) (acceptance-plain b e 2 grows names-account keeps-topup))
            (rw after-return
            (rows_written t h'' j''' (settle e.account (returned_rows b e))
            (rows-settle t h'' j'' j''' (returned_rows b e) returned-used e.account (rw length-returned d))
            xs (returned_accounts b e) c.size counted))
          where
            keeps-topup : removes_topup b e ≡ false
            keeps-topup = unfold removes_topup in (rw k)

            counted : accounts_of xs (accounts_in t) ≡ returned_accounts b e
            counted =
                changed-accounts t.accounts xs (e.account - 1) (check_returned (account b e.account)) c (accounts_in t) (omega (arith, count-read t s, inside.0, inside.1))
                ∙ (unfold book_of in refl)
