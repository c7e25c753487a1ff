-- Event 3: which refusals concern it, and the book that it makes.
use mathlib.Core.Path.{◌≡◌, refl, sym, ap, ◌∙◌}
use mathlib.Core.Logic.{◌≢◌}
use mathlib.Core.Bool.{Bool, true, false, not, ◌&&◌}
use Prim.Native.Nat.{◌+◌, ◌≤◌, ◌<◌}
use native.Mathlib.Omega.{arith}
use mathlib.Core.List.{List, [], ◌∷◌, ◌++◌}
use lib.ListN.{length}
use lib.IntN.{ℤ}
use lib.Dec.{leb, ltb}
use borrow.Author.Tests.{ltb-false, not-false}
use Rattle.records.specs.Numbers.{answer_barred, answer_full}
use Rattle.records.specs.Codes.{method_check, event_payment, event_tick}
use Rattle.records.specs.Encoding.{accounts_of, StorableRow}
use Rattle.lists.specs.Tests.{◌is◌, ◌from◌to◌, first}
use Rattle.lists.specs.Lists.{sum_by, count}
use Rattle.lists.proofs.TestLaws.{and_left, and_right}
use Rattle.records.specs.Limits.{barring_returns, highest_payment}
use Rattle.rules.specs.Rows.{Row, kind_payment, new_row, with_mark}
use Rattle.rules.specs.Settlement.{settle}
use Rattle.rules.specs.Book.{Instruction, Book, account, add_row, with_rows}
use Rattle.rules.specs.Events.{post_payment}
use Rattle.rules.specs.Refusals.{whole_book, change_of, after, zero_from-c, payment_form, form_of, well_formed, full, answer_number, shared_refusals, own_refusals}
use Rattle.rules.specs.Posting.{removes_topup}
use Rattle.rules.specs.Tables.{Tables, accounts_in, room_in, rows_used, book_of, sound_tables}
use Rattle.rules.proofs.RefusalLaws.{own_tests, answer_number-own}
use Rattle.rules.proofs.StorableLaws.{between_le, day-le, accounts-le}
use Rattle.rules.proofs.TableLaws.{sound-book}
use Rattle.preservation.proofs.Accepted.{Accepted, accepted}
use Rattle.preservation.proofs.NamedLaws.{after-named}
use Rattle.settlement.specs.Settling.{Settled}
use Rattle.posting.specs.Posts.{tables_over, acceptance_of, RowAdded, Posts}
use Rattle.posting.proofs.BookLaws.{used-read, room-read}
use Rattle.records.specs.Updates.{of_kind}
use Rattle.posting_laws.proofs.RefusalLaws.{at-kind, length-after, no-ceiling}
use Rattle.posting_laws.proofs.AddedLaws.{acceptance-plain, posts-accepted, row_written}
use Rattle.posting_laws.proofs.EventLaws.{known-inside}
use Rattle.event_payment.specs.Payment.{payment_refusals}

-- the row that event 3 adds
abbrev pub payment_row : Book → Instruction → Row
payment_row b e = with_mark e.b (new_row kind_payment e.account b.day e.a)

module _ (b : Book) (e : Instruction) where
  abbrev event3 : Instruction
  event3 = of_kind event_payment e

  change-payment : (change_of event_payment b event3).rows ≡ b.rows ++ (payment_row b event3 ∷ [])
  unfolding change_of post_payment
  change-payment = refl

  own-3 : first (own_refusals b event3) ≡ first (payment_refusals b event3)
  unfolding own_tests full payment_refusals count sum_by
  own-3 =
      let l = length-after b event3 b.rows (payment_row b event3 ∷ []) change-payment refl in
      let z = no-ceiling b event3 b.rows (payment_row b event3 ∷ []) change-payment refl refl in
      rw (l, z)

-- the number that event 3 gets where no shared refusal applies
pub answer-payment : (b : Book) (e : Instruction) → e.kind ≡ event_payment → first (shared_refusals b e) ≡ 0 → answer_number b e ≡ first (payment_refusals b e)
answer-payment b e k a = answer_number-own b e a ∙ at-kind (λ x. first (own_refusals b x) ≡ first (payment_refusals b x)) e 3 k (own-3 b e)

-- the same with what each test came to
pub answer-by : (b : Book) (e : Instruction) → e.kind ≡ event_payment → first (shared_refusals b e) ≡ 0 → (s r : Bool)
    → e.b is method_check && leb barring_returns (account b e.account).returned ≡ s → ltb b.room (length b.rows + 1) ≡ r
    → first ((answer_barred, s) ∷ (answer_full, r) ∷ []) ≡ answer_number b e
unfolding payment_refusals
answer-by b e k a s r w z = rw (answer-payment b e k a, w, z)

-- ---- what an accepted event 3 leaves

module _ (t : Tables) (s : sound_tables t ≡ true) (e : Instruction) (k : e.kind ≡ event_payment) (q : 0 ≡ answer_number (book_of t) e) where
  abbrev b : Book
  b = book_of t

  acc : Accepted b e
  acc = accepted b e (sym q)

  pub payment-inside : (1 ≤ e.account) × (e.account ≤ length b.accounts)
  payment-inside = known-inside b e (rw k) acc.known

  changed : change_of e.kind b e ≡ add_row (payment_row b e) b
  unfolding change_of post_payment
  changed = at-kind (λ x. change_of x.kind b x ≡ add_row (payment_row b x) b) e 3 k refl

  not-tick : e.kind ≢ event_tick
  not-tick z = omega arith

  -- there is a row for it
  pub payment-fits : rows_used t < room_in t
  unfolding full
  payment-fits =
      let l = length-after b e b.rows (payment_row b e ∷ []) (ap (λ (x : Book). x.rows) changed) refl in
      let r = ltb-false b.room (length (after b e).rows) acc.fits in
      omega (arith, room-read t s, used-read t s)

  formed : payment_form e ≡ true
  unfolding well_formed form_of
  formed = at-kind (λ x. not (well_formed x) ≡ false → payment_form x ≡ true) e 3 k (λ w. not-false _ w) acc.formed

  pub payment-storable : StorableRow (payment_row b e)
  unfolding payment_form
  payment-storable =
      let amount-part : Bool = e.a from 1 to highest_payment in
      let method-part : Bool = e.b from 1 to 3 in
      let both = and_left (amount-part && method-part) (zero_from-c e) formed in
      let d = day-le b.day b (sound-book t s).near in
      let n = accounts-le b.day b (sound-book t s).near in
      record {
        kind = omega arith;
        account = omega (arith, payment-inside.1);
        day = omega arith;
        amount = omega (arith, between_le 1 highest_payment e.a (and_left amount-part method-part both));
        settled = omega arith;
        mark = omega (arith, between_le 1 3 e.b (and_right amount-part method-part both));
        due = omega arith;
        dispute = omega arith;
        hold = omega arith;
        reference = omega arith;
      }

  pub after-payment : after b e ≡ with_rows (settle e.account (b.rows ++ (payment_row b e ∷ []))) b
  after-payment =
      after-named b e (sound-book t s) not-tick acc payment-inside.0 payment-inside.1 (rw changed) ∙ rw changed

  pub payment-posts : (h j j'' : List ℤ) → RowAdded t.header h t.journal j (payment_row b e) → Settled j j'' (rows_used t + 1) e.account
      → rows_used t < room_in t → Posts t (tables_over t h t.accounts j'') e (acceptance_of (rows_used t) 1 0 0)
  payment-posts h j j'' w d l =
      posts-accepted t (tables_over t h t.accounts j'') s e (acceptance_of (rows_used t) 1 0 0) q
      (rw (used-read t s) (acceptance-plain b e 1 (length-after b e b.rows (payment_row b e ∷ []) (ap (λ (x : Book). x.rows) changed) refl) names-account keeps-topup))
      (rw after-payment (row_written t s h j j'' t.accounts (payment_row b e) e.account b.accounts w d l refl same-accounts))
    where
      names-account : whole_book e ≡ false
      names-account = rw k

      keeps-topup : removes_topup b e ≡ false
      keeps-topup = unfold removes_topup in (rw k)

      same-accounts : accounts_of t.accounts (accounts_in t) ≡ b.accounts
      same-accounts = unfold book_of in refl
