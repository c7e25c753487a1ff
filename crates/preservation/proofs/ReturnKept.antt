-- Sound stays sound: a returned check (event 4).
use mathlib.Core.Path.{◌≡◌, refl, ap, ◌∙◌}
use mathlib.Core.Bool.{Bool, true, false, not, cond, false≢true, true≢false, and-false, or-true}
use Prim.Native.Nat.{ℕ, zero, suc, ◌+◌, ◌-◌, ◌≤◌, ◌<◌}
use native.Mathlib.Omega.{arith}
use native.Mathlib.Decide.{ℕ_discrete}
use mathlib.Core.List.{List, [], ◌∷◌}
use lib.ListN.{length, get_or, set, length-append, length-set, get_or-append}
use lib.Seq.{get_or-set_same, get_or-set_other}
use lib.Dec.{eqb, leb}
use borrow.Author.Tests.{leb-true, le-leb, lt-ltb, eqb-true, eq-eqb, ne_eqb, not-false}
use Rattle.records.specs.Codes.{kind_payment, event_returned_check}
use Rattle.records.specs.Updates.{with_state, with_returned, of_kind, on_account, on_row}
use Rattle.records.specs.AccountOperations.{check_returned}
use Rattle.lists.specs.Tests.{◌from◌to◌}
use Rattle.lists.specs.Lists.{only, count}
use Rattle.lists.proofs.TestLaws.{and_left, and_right, and_both, cond_either}
use Rattle.lists.proofs.SumLaws.{sum_by-set, sum_by-set-same}
use Rattle.records.specs.Limits.{highest_payment, highest_fee, highest_charge, return_fee}
use Rattle.rules.specs.Rows.{Row, kind_fee, kind_reversal, blank, row_no, toll, new_row, with_mark, with_reference, fee_naming, source_of, debit_of}
use Rattle.rules.specs.Settlement.{used, paid}
use Rattle.rules.specs.Book.{Account, unused, Instruction, Book, with_rows, with_accounts, account_no, add_row}
use Rattle.rules.specs.Events.{return_check}
use Rattle.rules.specs.Soundness.{kind_fits, most_of, amount_fits, settled_fits, mark_fits, toll_words_fit, no_reference, row_day_fits, due_within, hold_fits, account_used, names, reference_fits, passage, passage_once, fees_fit, returned_of, state_fits, unused_zero, request_fits, topup_fits, decline_fits, successor_fits, returned_fits, used_is_paid, closed_clear}
use Rattle.rules.specs.Refusals.{change_of, well_formed, form_of, return_form, unknown, no_row, untimely}
use Rattle.rules.specs.SoundFacts.{Shape, Live, Standing, SumsFit, Near}
use Rattle.preservation.proofs.Accepted.{Accepted}
use Rattle.preservation.proofs.KeepingLaws.{grown, near-framed, framed-near, near-add-quiet, kept_set, framed-put}
use Rattle.preservation.proofs.OthersLaws.{others-set, counted-others}
use Rattle.preservation.proofs.LookupLaws.{there, today-fits, inside, used-state, named-kind, named-account, after-fits}

-- ---- the account

module _ (today : ℕ) (y : Account) (u : eqb y.state 0 ≡ false) where
  returned-standing : Standing today y → Standing today (check_returned y)
  unfolding check_returned state_fits unused_zero request_fits topup_fits decline_fits
  returned-standing v = go (eqb y.state 3) refl
    where
      go : (t : Bool) → eqb y.state 3 ≡ t → Standing today (with_returned (y.returned + 1) (cond t (with_state 2 y) y))
      go true e = record {
        state = refl;
        zero = refl;
        request = rw (eqb-true y.state 3 e) at v.request;
        topup = v.topup;
        decline = v.decline;
      }
      go false e = record { state = v.state; zero = rw u; request = v.request; topup = v.topup; decline = v.decline }

  returned-used : eqb (check_returned y).state 0 ≡ false
  unfolding check_returned
  returned-used = go (eqb y.state 3)
    where
      go : (t : Bool) → eqb (with_returned (y.returned + 1) (cond t (with_state 2 y) y)).state 0 ≡ false
      go true = refl
      go false = u

returned-successor : (xs : List Account) (n : ℕ) (y : Account) → successor_fits xs n y ≡ true → successor_fits xs n (check_returned y) ≡ true
unfolding check_returned successor_fits
returned-successor xs n y e =
    cond_either (λ (x : Account). successor_fits xs n (with_returned (y.returned + 1) x) ≡ true) (eqb y.state 3) (with_state 2 y) y e e

returned-unclosed : (y : Account) → eqb (check_returned y).state 3 ≡ false
unfolding check_returned
returned-unclosed y = go (eqb y.state 3) refl
  where
    go : (t : Bool) → eqb y.state 3 ≡ t → eqb (with_returned (y.returned + 1) (cond t (with_state 2 y) y)).state 3 ≡ false
    go true e = refl
    go false e = e

returned-count : (y : Account) → (check_returned y).returned ≡ y.returned + 1
unfolding check_returned
returned-count y = refl

-- ---- a new row that names payment row j

named-payment : (rows : List Row) (y : Row) (j : ℕ) → j < length rows → y.reference ≡ suc j → (get_or rows j blank).kind ≡ kind_payment → (get_or rows j blank).account ≡ y.account
    → names (grown rows y) (suc (length rows)) y 4 ≡ true
unfolding names
named-payment rows y j l e k a =
    let f : row_no (grown rows y) y.reference ≡ get_or rows j blank = ap (λ (n : ℕ). row_no (grown rows y) n) e ∙ get_or-append rows (y ∷ []) blank j l in
    let p : (row_no (grown rows y) y.reference).kind ≡ kind_payment = ap (λ (r : Row). r.kind) f ∙ k in
    let q : (row_no (grown rows y) y.reference).account ≡ y.account = ap (λ (r : Row). r.account) f ∙ a in
    rw (lt-ltb y.reference (suc (length rows)) (omega arith), p, q) (eq-eqb y.account y.account refl)

-- ---- event 4

module _ (b : Book) (k j : ℕ) (i : Instruction) where
  abbrev event4 : Instruction
  event4 = of_kind event_returned_check (on_account (suc k) (on_row (suc j) i))

  abbrev it : Row
  it = get_or b.rows j blank

  abbrev holder : Account
  holder = get_or b.accounts k unused

  abbrev rows₁ : List Row
  rows₁ = set b.rows j (with_mark 4 it)

  abbrev accounts₁ : List Account
  accounts₁ = set b.accounts k (check_returned holder)

  -- the check marked and counted
  abbrev marked : Book
  marked = with_rows rows₁ (with_accounts accounts₁ b)

  abbrev reversal : Row
  reversal = with_reference (suc j) (new_row kind_reversal (suc k) b.day it.amount)

  abbrev fee : Row
  fee = with_reference (suc j) (new_row kind_fee (suc k) b.day (i.b + return_fee))

  module _ (s : Near b.day b) (q : Accepted b event4) where
    is-payment : it.kind ≡ kind_payment
    unfolding no_row
    is-payment = named-kind b (suc j) (suc k) 4 q.named

    its-account : it.account ≡ suc k
    unfolding no_row
    its-account = named-account b (suc j) (suc k) 4 q.named

    is-check : it.mark ≡ 3
    unfolding untimely
    is-check = eqb-true it.mark 3 (not-false _ q.timely)

    row-there : j < length b.rows
    row-there = there b.day b s j (omega (arith, is-payment))

    account-there : k < length b.accounts
    unfolding unknown
    account-there = leb-true (suc k) (length b.accounts) (and_right (leb 1 (suc k)) _ (inside (suc k) (length b.accounts) _ q.known))

    account-used : eqb holder.state 0 ≡ false
    unfolding unknown
    account-used = used-state (suc k) (length b.accounts) (eqb holder.state 0) q.known

    charge-le : i.b ≤ highest_charge
    unfolding well_formed form_of return_form
    charge-le = leb-true i.b highest_charge (and_left (leb i.b highest_charge) _ (not-false _ q.formed))

    -- the marked row

    marked-shape : Shape b.day b.accounts b.rows (suc j) (with_mark 4 it)
    unfolding kind_fits amount_fits mark_fits toll_words_fit no_reference row_day_fits account_used reference_fits passage_once fees_fit names
    marked-shape = let v = s.shape j row-there in record {
      kind = v.kind;
      amount = v.amount;
      mark = rw is-payment;
      words = v.words;
      none = v.none;
      day = v.day;
      account = v.account;
      reference = v.reference;
      passage = v.passage;
      fees = rw is-payment;
    }

    marked-live : Live b.day b.day b.schedule.stage (with_mark 4 it)
    unfolding settled_fits due_within hold_fits
    marked-live = record { settled = (s.live j row-there).settled; due = rw is-payment; hold = rw is-payment }

    one_more : count (returned_of (suc k)) rows₁ ≡ count (returned_of (suc k)) b.rows + 1
    unfolding count returned_of
    one_more =
        let f : Row → ℕ = λ r. cond (returned_of (suc k) r) 1 0 in
        let new : f (with_mark 4 it) ≡ 1 = rw (its-account, is-payment, eq-eqb (suc k) (suc k) refl) in
        let old : f it ≡ 0 = rw (its-account, is-payment, is-check, eq-eqb (suc k) (suc k) refl) in
        omega (arith, sum_by-set f b.rows j (with_mark 4 it) blank row-there)

    used-is-paid-kept : used_is_paid b.rows (suc k) ≡ true → used_is_paid rows₁ (suc k) ≡ true
    unfolding used_is_paid used paid only source_of debit_of
    used-is-paid-kept e =
        rw (
          sum_by-set-same (only (source_of (suc k)) (λ r. r.settled)) b.rows j (with_mark 4 it) blank refl,
          sum_by-set-same (only (debit_of (suc k)) (λ r. r.settled)) b.rows j (with_mark 4 it) blank refl,
        ) e

    marked-counted : (i : ℕ) → i < length b.accounts → SumsFit rows₁ (suc i) (get_or accounts₁ i unused)
    unfolding returned_fits closed_clear
    marked-counted i l = go (ℕ_discrete i k)
      where
        go : Dec (i ≡ k) → SumsFit rows₁ (suc i) (get_or accounts₁ i unused)
        go (yes e) =
            let v = s.counted k account-there in
            rw (e, get_or-set_same b.accounts k (check_returned holder) unused account-there) (record {
              returned = eq-eqb _ _ (returned-count holder ∙ omega (arith, one_more, eqb-true holder.returned (count (returned_of (suc k)) b.rows) v.returned));
              used-is-paid = used-is-paid-kept v.used-is-paid;
              clear = rw (returned-unclosed holder);
            })
        go (no e) =
            rw (get_or-set_other b.accounts k i (check_returned holder) unused e)
            (counted-others (suc k) b.rows rows₁ (others-set (suc k) b.rows j (with_mark 4 it) its-account its-account) (suc i) (λ w. e (omega arith))
            (get_or b.accounts i unused) (s.counted i l))

    marked-near : Near b.day marked
    marked-near =
        framed-near b.day marked
        (framed-put b.day b accounts₁ j (with_mark 4 it) (near-framed b.day b s) row-there (record { kind = refl; account = refl; reference = refl })
        (kept_set b.day b k (check_returned holder) s account-there (returned-used b.day holder account-used)
        (returned-standing b.day holder account-used (s.standing k account-there))
        (returned-successor b.accounts (suc k) holder (s.successors k account-there)))
        marked-shape marked-live)
        (λ i l. marked-counted i (rw (length-set b.accounts k (check_returned holder)) at l))

    -- the two new rows

    now-used : not (eqb (account_no accounts₁ (suc k)).state 0) ≡ true
    now-used = rw (get_or-set_same b.accounts k (check_returned holder) unused account-there, returned-used b.day holder account-used)

    now-unclosed : eqb (account_no accounts₁ (suc k)).state 3 ≡ false
    now-unclosed = rw (get_or-set_same b.accounts k (check_returned holder) unused account-there) (returned-unclosed holder)

    marked-there : j < length rows₁
    marked-there = rw (length-set b.rows j (with_mark 4 it)) row-there

    marked_row : get_or rows₁ j blank ≡ with_mark 4 it
    marked_row = get_or-set_same b.rows j (with_mark 4 it) blank row-there

    reversal-near : length rows₁ < b.room → Near b.day (add_row reversal marked)
    reversal-near room =
        near-add-quiet b.day marked reversal marked-near room
        (unfold passage fee_naming in record { passage = λ p e. absurd (false≢true e); fee = λ i h t. refl })
        (unfold returned_of in record { returned = λ p. rw (and-false (eqb (suc k) p)); settled = refl; state = now-unclosed })
        shape
        (unfold settled_fits due_within hold_fits in record { settled = and_both (leb 0 it.amount) _ (le-leb 0 it.amount (omega arith)) refl; due = refl; hold = refl })
      where
        amount-in : it.amount from 1 to highest_payment ≡ true
        amount-in = unfold amount_fits most_of in (rw is-payment at (s.shape j row-there).amount)

        shape : Shape b.day accounts₁ (grown rows₁ reversal) (suc (length rows₁)) reversal
        shape = unfold kind_fits amount_fits most_of mark_fits toll_words_fit no_reference row_day_fits account_used reference_fits passage_once fees_fit in record {
          kind = refl;
          amount = amount-in;
          mark = refl;
          words = refl;
          none = refl;
          day = today-fits b.day b s;
          account = now-used;
          reference = rw (named-payment rows₁ reversal j marked-there refl (ap (λ (r : Row). r.kind) marked_row ∙ is-payment) (ap (λ (r : Row). r.account) marked_row ∙ its-account));
          passage = refl;
          fees = refl;
        }

    abbrev rows₂ : List Row
    rows₂ = grown rows₁ reversal

    reversed-row : get_or rows₂ j blank ≡ with_mark 4 it
    reversed-row = get_or-append rows₁ (reversal ∷ []) blank j marked-there ∙ marked_row

    pub fee-near : length rows₂ < b.room → Near b.day (add_row fee (add_row reversal marked))
    fee-near room =
        near-add-quiet b.day (add_row reversal marked) fee (reversal-near (omega (arith, length-append rows₁ (reversal ∷ [])))) room
        (unfold passage fee_naming in record { passage = λ p e. absurd (false≢true e); fee = no-toll })
        (unfold returned_of in record { returned = λ p. rw (and-false (eqb (suc k) p)); settled = refl; state = now-unclosed })
        shape
        (unfold settled_fits due_within hold_fits in record { settled = and_both (leb 0 (i.b + return_fee)) _ (le-leb 0 (i.b + return_fee) (omega arith)) refl; due = refl; hold = refl })
      where
        kind-there : (get_or rows₂ j blank).kind ≡ kind_payment
        kind-there = ap (λ (r : Row). r.kind) reversed-row ∙ is-payment

        there₂ : j < length rows₂
        there₂ = omega (arith, length-append rows₁ (reversal ∷ []), marked-there)

        no-toll : (i : ℕ) → i < length rows₂ → toll (get_or rows₂ i blank) ≡ true → eqb (suc j) (suc i) ≡ false
        no-toll i h t = ne_eqb (suc j) (suc i) (λ e.
            let z : i ≡ j = omega arith in
            let w : (get_or rows₂ i blank).kind ≡ kind_payment = rw z kind-there in
            absurd (omega (arith, eqb-true (get_or rows₂ i blank).kind 1 t)))

        shape : Shape b.day accounts₁ (grown rows₂ fee) (suc (length rows₂)) fee
        shape = unfold kind_fits amount_fits most_of mark_fits toll_words_fit no_reference row_day_fits account_used reference_fits passage_once fees_fit in record {
          kind = refl;
          amount = and_both (leb 1 (i.b + return_fee)) _ (le-leb 1 (i.b + return_fee) (omega arith)) (le-leb (i.b + return_fee) highest_fee (omega (arith, charge-le)));
          mark = refl;
          words = refl;
          none = refl;
          day = today-fits b.day b s;
          account = now-used;
          reference = rw (named-payment rows₂ fee j there₂ refl kind-there (ap (λ (r : Row). r.account) reversed-row ∙ its-account), or-true (names (grown rows₂ fee) (suc (length rows₂)) fee 1));
          passage = refl;
          fees = refl;
        }

pub return_check-near : (b : Book) (i : Instruction) → Near b.day b → Accepted b (of_kind event_returned_check i)
    → Near b.day (change_of event_returned_check b (of_kind event_returned_check i))
unfolding change_of return_check unknown no_row
return_check-near b i s q = go i.account i.a q
  where
    at : ℕ → ℕ → Instruction
    at n a = of_kind event_returned_check (on_account n (on_row a i))

    go : (n a : ℕ) → Accepted b (at n a) → Near b.day (change_of event_returned_check b (at n a))
    go zero a q = absurd (true≢false q.known)
    go (suc k) zero q = absurd (true≢false q.named)
    go (suc k) (suc j) q =
        let z : suc k - 1 ≡ k = omega arith in
        let w : suc j - 1 ≡ j = omega arith in
        let f : length (grown (rows₂ b k j i s q) (fee b k j i)) ≤ b.room = simp (w) at (after-fits b (event4 b k j i) q.fits) in
        rw (z, w) (fee-near b k j i s q (omega (arith, length-append (rows₂ b k j i s q) (fee b k j i ∷ []))))
