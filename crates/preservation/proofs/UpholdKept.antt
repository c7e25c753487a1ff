-- Sound stays sound: a decision for the motorist (event 6, verdict 1), and so event 6 under either verdict.
use mathlib.Core.Path.{◌≡◌, refl, sym, ap, subst, ◌∙◌}
use mathlib.Core.Logic.{◌≢◌}
use mathlib.Core.Bool.{Bool, true, false, cond, ◌&&◌, false≢true, and-false}
use Prim.Native.Nat.{ℕ, zero, suc, ◌+◌, ◌*◌, ◌-◌, ◌≤◌, ◌<◌}
use native.Mathlib.Nat.{add-zero}
use native.Mathlib.Omega.{arith}
use native.Mathlib.Decide.{ℕ_discrete}
use mathlib.Core.List.{List, [], ◌∷◌, map}
use lib.ListN.{length, get_or, set, length-append, length-set, length-map}
use lib.Seq.{get_or-set_same}
use lib.Dec.{eqb, leb}
use borrow.Author.Tests.{leb-true, le-leb, ltb-true, le-ltb, lt-ltb, eqb-true, eq-eqb}
use Rattle.records.specs.Updates.{on_row}
use Rattle.records.specs.Codes.{kind_toll, kind_fee, event_decision}
use Rattle.lists.specs.Tests.{◌from◌to◌}
use Rattle.lists.specs.Lists.{sum_by, only, count}
use Rattle.lists.proofs.TestLaws.{and_left, and_right, and_both}
use Rattle.lists.proofs.SumLaws.{sum_by-snoc, sum_by-set, sum_by-set-same, sum_by-map, sum_by-ext, sum_by-ext-at, sum_by-add, sum_by_le, sum_by-only-le, sum_by-at-le}
use Rattle.records.specs.Limits.{highest_rate, highest_fee, highest_credit}
use Rattle.rules.specs.Rows.{Row, kind_credit, blank, row_no, new_row, with_settled, with_dispute, with_hold_start, with_reference, remaining, settle_whole, fee_naming, source_of, debit_of}
use Rattle.rules.specs.Settlement.{money, used, paid, owed}
use Rattle.rules.specs.Book.{unused, Instruction, Book, with_rows, account, add_row}
use Rattle.rules.specs.Events.{with_fees, uphold, reject, decide}
use Rattle.rules.specs.Soundness.{kind_fits, most_of, amount_fits, settled_fits, mark_fits, toll_words_fit, no_reference, row_day_fits, due_within, hold_fits, account_used, names, reference_fits, passage, passage_once, fees_fit, returned_of, returned_fits, used_is_paid, closed_clear}
use Rattle.rules.specs.Refusals.{change_of, unknown}
use Rattle.rules.specs.SoundFacts.{Shape, Live, SumsFit, Near}
use Rattle.preservation.proofs.Accepted.{Accepted}
use Rattle.preservation.proofs.CarriedLaws.{Carries, carries-set, carries-map, carries-append, carries-carries}
use Rattle.rules.proofs.StorableLaws.{settled-le}
use Rattle.preservation.proofs.KeepingLaws.{Framed, near-framed, framed-near, grown, framed-add, kept_same, framed-put, framed-map}
use Rattle.preservation.proofs.OthersLaws.{Others, others-others, others-set, others-map, others-add, counted-others}
use Rattle.preservation.proofs.FeeLaws.{Named, fee-names}
use Rattle.preservation.proofs.ForgiveLaws.{forgive, forgive-keeps, naming-fee, live-forgiven, shape-forgiven}
use Rattle.preservation.proofs.LookupLaws.{there, today-fits, counted_of, inside, used-state, after-fits}
use Rattle.preservation.proofs.DisputeKept.{HeldToll, held-is, held-due, event6, decided, reject-near}

-- ---- event 6, verdict 1, on toll row j of the account named

module _ (b : Book) (j : ℕ) (i : Instruction) where
  abbrev it : Row
  it = get_or b.rows j blank

  abbrev upheld : Row
  upheld = settle_whole (with_hold_start 0 (with_dispute 3 it))

  abbrev rows₁ : List Row
  rows₁ = set b.rows j upheld

  abbrev rows₂ : List Row
  rows₂ = map (forgive (suc j)) rows₁

  abbrev credit : Row
  credit = with_reference (suc j) (with_settled (with_fees b (suc j) remaining) (new_row kind_credit i.account b.day (with_fees b (suc j) (λ r. r.amount))))

  abbrev rows₃ : List Row
  rows₃ = grown rows₂ credit

  module _ (s : Near b.day b) (q : Accepted b (event6 b (on_row (suc j) i))) where
    is-toll : it.kind ≡ kind_toll
    is-toll = (decided b (on_row (suc j) i) q).toll

    its-account : it.account ≡ i.account
    its-account = (decided b (on_row (suc j) i) q).account

    is_held : it.dispute ≡ 1
    is_held = (decided b (on_row (suc j) i) q).held

    row-there : j < length b.rows
    row-there = there b.day b s j (omega (arith, is-toll))

    held-facts : HeldToll b.day b.schedule.stage it
    held-facts = held-is b.day b.schedule.stage it is-toll is_held (s.live j row-there).hold

    -- ---- the three lists of rows

    others₁ : Others i.account b.rows rows₁
    others₁ = others-set i.account b.rows j upheld its-account its-account

    upheld-shape : Shape b.day b.accounts b.rows (suc j) upheld
    unfolding kind_fits amount_fits mark_fits toll_words_fit no_reference row_day_fits account_used reference_fits passage_once fees_fit names
    upheld-shape = let v = s.shape j row-there in record {
      kind = v.kind;
      amount = v.amount;
      mark = v.mark;
      words = rw is-toll (and_right (leb it.dispute 3) _ (rw is-toll at v.words));
      none = v.none;
      day = v.day;
      account = v.account;
      reference = v.reference;
      passage = v.passage;
      fees = v.fees;
    }

    upheld-live : Live b.day b.day b.schedule.stage upheld
    unfolding settled_fits due_within hold_fits
    upheld-live =
        let L : ℕ = b.schedule.stage in
        let least : 1 ≤ it.due = held-due b.day (b.day + L) it is-toll is_held held-facts.open-still (s.live j row-there).due in
        let by : it.due ≤ it.hold + L = held-facts.due-by in
        let begun : it.hold ≤ b.day = held-facts.begun in
        record {
          settled = rw is-toll (and_both (leb it.amount it.amount) _ (le-leb it.amount it.amount (omega arith)) refl);
          due = rw (is-toll, le-leb it.due (b.day + L) (omega arith), le-ltb it.amount it.amount (omega arith)) (le-leb 1 it.due least);
          hold = rw is-toll;
        }

    framed₁ : Framed b.day (with_rows rows₁ b)
    framed₁ =
        framed-put b.day b b.accounts j upheld (near-framed b.day b s) row-there (record { kind = refl; account = refl; reference = refl })
        (kept_same b.day b (near-framed b.day b s)) upheld-shape upheld-live

    framed₂ : Framed b.day (with_rows rows₂ b)
    unfolding fee_naming
    framed₂ =
        framed-map b.day (with_rows rows₁ b) (forgive (suc j)) refl
        (λ r. record {
          kind = forgive-keeps (λ y. y.kind) (λ y v. refl) (suc j) r;
          account = forgive-keeps (λ y. y.account) (λ y v. refl) (suc j) r;
          reference = forgive-keeps (λ y. y.reference) (λ y v. refl) (suc j) r;
        })
        framed₁.day framed₁.schedule framed₁.lists framed₁.holidays framed₁.sizes framed₁.fits
        (λ k l. shape-forgiven b.day b.accounts rows₁ (suc k) (suc j) (get_or rows₁ k blank) (framed₁.shape k l))
        (λ k l. live-forgiven b.day b.day b.schedule.stage (suc j) (get_or rows₁ k blank) (framed₁.live k l)) framed₁.standing framed₁.successors

    -- ---- the toll's fees: of its account, and few

    fee-facts : (k : ℕ) → k < length rows₁ → fee_naming (suc j) (get_or rows₁ k blank) ≡ true → ((get_or rows₁ k blank).kind ≡ kind_fee) × ((get_or rows₁ k blank).account ≡ i.account)
    fee-facts k l e =
        let r : Row = get_or rows₁ k blank in
        let f = naming-fee (suc j) r e in
        let g : Named rows₁ (suc k) r = fee-names rows₁ (suc k) r f.0 (framed₁.shape k l).reference in
        let u : (get_or rows₁ j blank).account ≡ i.account = ap (λ (y : Row). y.account) (get_or-set_same b.rows j upheld blank row-there) ∙ its-account in
        let w : (get_or rows₁ j blank).account ≡ r.account = rw f.1 at g.account in
        (f.0, sym w ∙ u)

    -- sums over the fees: the toll itself is none
    fees-sum : (f : Row → ℕ) → sum_by (only (fee_naming (suc j)) f) rows₁ ≡ sum_by (only (fee_naming (suc j)) f) b.rows
    unfolding only fee_naming
    fees-sum f = sum_by-set-same (only (fee_naming (suc j)) f) b.rows j upheld blank (rw is-toll)

    toll-amount : it.amount from 1 to highest_rate ≡ true
    unfolding amount_fits most_of
    toll-amount = rw is-toll at (s.shape j row-there).amount

    few-fees : count (fee_naming (suc j)) b.rows ≤ 3
    unfolding fees_fit mark_fits
    few-fees =
        let v = s.shape j row-there in
        let f : leb (count (fee_naming (suc j)) b.rows) (it.mark - 1) ≡ true = rw is-toll at v.fees in
        let g : leb it.mark 4 ≡ true = rw is-toll at v.mark in
        omega (arith, leb-true (count (fee_naming (suc j)) b.rows) (it.mark - 1) f, leb-true it.mark 4 g)

    fees-le : sum_by (only (fee_naming (suc j)) (λ r. r.amount)) b.rows ≤ 3 * highest_fee
    unfolding amount_fits most_of
    fees-le =
        let z = sum_by-only-le (fee_naming (suc j)) (λ r. r.amount) highest_fee blank b.rows (λ i l e.
        let r : Row = get_or b.rows i blank in
        let k : r.kind ≡ kind_fee = (naming-fee (suc j) r e).0 in
        let a : r.amount from 1 to highest_fee ≡ true = rw k at (s.shape i l).amount in
        leb-true r.amount highest_fee (and_right (leb 1 r.amount) _ a)) in
        omega (arith, few-fees)

    -- ---- the credit

    credit-in : with_fees b (suc j) (λ r. r.amount) from 1 to highest_credit ≡ true
    unfolding with_fees
    credit-in =
        let lo : 1 ≤ it.amount = leb-true 1 it.amount (and_left (leb 1 it.amount) _ toll-amount) in
        let hi : it.amount ≤ highest_rate = leb-true it.amount highest_rate (and_right (leb 1 it.amount) _ toll-amount) in
        let f = fees-le in
        let t : ℕ = it.amount + sum_by (only (fee_naming (suc j)) (λ r. r.amount)) b.rows in
        and_both (leb 1 t) _ (le-leb 1 t (omega arith)) (le-leb t highest_credit (omega arith))

    part-le : with_fees b (suc j) remaining ≤ with_fees b (suc j) (λ r. r.amount)
    unfolding with_fees only
    part-le =
        omega (arith, sum_by_le (only (fee_naming (suc j)) remaining) (only (fee_naming (suc j)) (λ r. r.amount)) b.rows (λ r. go (fee_naming (suc j) r) r))
      where
        go : (t : Bool) (r : Row) → cond t (remaining r) 0 ≤ cond t r.amount 0
        go true r = omega arith
        go false r = omega arith

    length₂ : length rows₂ ≡ length b.rows
    length₂ = length-map rows₁ (forgive (suc j)) ∙ length-set b.rows j upheld

    -- the toll's kind and account, under its number
    carries : Carries b.rows rows₂
    unfolding fee_naming
    carries =
        let m : length rows₁ ≡ length b.rows = length-set b.rows j upheld in
        carries-carries b.rows rows₁ rows₂ (omega arith) (carries-set b.rows j upheld refl refl)
        (carries-map (forgive (suc j)) refl (forgive-keeps (λ y. y.kind) (λ y v. refl) (suc j)) (forgive-keeps (λ y. y.account) (λ y v. refl) (suc j)) rows₁)

    credit-names : names rows₃ (suc (length rows₂)) credit 1 ≡ true
    unfolding names
    credit-names =
        let l : suc j ≤ length rows₂ = omega (arith, length₂, row-there) in
        let o : Carries rows₂ rows₃ = carries-append rows₂ (credit ∷ []) in
        let k : (row_no rows₃ (suc j)).kind ≡ kind_toll = o.kind (suc j) l ∙ carries.kind (suc j) (omega (arith, row-there)) ∙ is-toll in
        let a : (row_no rows₃ (suc j)).account ≡ i.account = o.account (suc j) l ∙ carries.account (suc j) (omega (arith, row-there)) ∙ its-account in
        rw (lt-ltb (suc j) (suc (length rows₂)) (omega arith), k, a) (eq-eqb i.account i.account refl)

    credit-shape : Shape b.day b.accounts rows₃ (suc (length rows₂)) credit
    unfolding kind_fits amount_fits most_of mark_fits toll_words_fit no_reference row_day_fits account_used reference_fits passage_once fees_fit unknown
    credit-shape = record {
      kind = refl;
      amount = credit-in;
      mark = refl;
      words = refl;
      none = refl;
      day = today-fits b.day b s;
      account = rw (used-state i.account (length b.accounts) (eqb (account b i.account).state 0) q.known);
      reference = credit-names;
      passage = refl;
      fees = refl;
    }

    credit-live : Live b.day b.day b.schedule.stage credit
    unfolding settled_fits due_within hold_fits
    credit-live = record { settled = and_both (leb (with_fees b (suc j) remaining) (with_fees b (suc j) (λ r. r.amount))) _ (le-leb _ _ part-le) refl; due = refl; hold = refl }

    framed₃ : length rows₃ ≤ b.room → Framed b.day (add_row credit (with_rows rows₂ b))
    framed₃ room =
        framed-add b.day (with_rows rows₂ b) credit framed₂ (omega (arith, length-append rows₂ (credit ∷ [])))
        (unfold passage fee_naming in record { passage = λ p e. absurd (false≢true e); fee = λ k h t. refl }) credit-shape credit-live

    -- ---- the account's sums

    abbrev fees-open : ℕ
    fees-open = sum_by (only (fee_naming (suc j)) remaining) b.rows

    settled-fits : (k : ℕ) → k < length rows₁ → (get_or rows₁ k blank).settled ≤ (get_or rows₁ k blank).amount
    settled-fits k l = settled-le (get_or rows₁ k blank) (framed₁.live k l).settled

    -- settled debits: the toll's and the fees' open parts more
    paid₁ : paid i.account rows₁ ≡ paid i.account b.rows + remaining it
    unfolding paid only debit_of
    paid₁ =
        let f : Row → ℕ = only (debit_of i.account) (λ r. r.settled) in
        let new : f upheld ≡ it.amount = rw (its-account, is-toll, eq-eqb i.account i.account refl) in
        let old : f it ≡ it.settled = rw (its-account, is-toll, eq-eqb i.account i.account refl) in
        omega (arith, sum_by-set f b.rows j upheld blank row-there, settled-le it (s.live j row-there).settled)

    forgiven-paid : (k : ℕ) → k < length rows₁
        → only (debit_of i.account) (λ r. r.settled) (forgive (suc j) (get_or rows₁ k blank)) ≡ only (debit_of i.account) (λ r. r.settled) (get_or rows₁ k blank) + only (fee_naming (suc j)) remaining (get_or rows₁ k blank)
    unfolding only debit_of
    forgiven-paid k l = go (fee_naming (suc j) (get_or rows₁ k blank)) refl
      where
        r : Row
        r = get_or rows₁ k blank

        go : (t : Bool) → fee_naming (suc j) r ≡ t
            → cond (debit_of i.account (cond t (settle_whole r) r)) (cond t (settle_whole r) r).settled 0 ≡ cond (debit_of i.account r) r.settled 0 + cond t (remaining r) 0
        go true e = let f = fee-facts k l e in rw (f.0, f.1, eq-eqb i.account i.account refl) (omega (arith, settled-fits k l))
        go false e = omega arith

    paid₃ : paid i.account rows₃ ≡ paid i.account b.rows + (remaining it + fees-open)
    unfolding paid
    paid₃ =
        let f : Row → ℕ = only (debit_of i.account) (λ r. r.settled) in
        let g : Row → ℕ = only (fee_naming (suc j)) remaining in
        let a : sum_by f rows₃ ≡ sum_by f rows₂ + f credit = sum_by-snoc f rows₂ credit in
        let z : f credit ≡ 0 = unfold only debit_of in rw (and-false (eqb i.account i.account)) in
        let e : sum_by f rows₂ ≡ sum_by (λ r. f r + g r) rows₁ = sum_by-map f (forgive (suc j)) rows₁ ∙ sum_by-ext-at (λ r. f (forgive (suc j) r)) (λ r. f r + g r) blank rows₁ forgiven-paid in
        omega (arith, sum_by-add f g rows₁, fees-sum remaining, paid₁)

    -- used sources: the credit's part used more
    forgiven-used : (r : Row) → only (source_of i.account) (λ y. y.settled) (forgive (suc j) r) ≡ only (source_of i.account) (λ y. y.settled) r
    unfolding only source_of
    forgiven-used r = go (fee_naming (suc j) r) refl
      where
        go : (t : Bool) → fee_naming (suc j) r ≡ t → cond (source_of i.account (cond t (settle_whole r) r)) (cond t (settle_whole r) r).settled 0 ≡ cond (source_of i.account r) r.settled 0
        go true e = rw ((naming-fee (suc j) r e).0, and-false (eqb r.account i.account))
        go false e = refl

    used₃ : used i.account rows₃ ≡ used i.account b.rows + (remaining it + fees-open)
    unfolding used
    used₃ =
        let f : Row → ℕ = only (source_of i.account) (λ r. r.settled) in
        let a : sum_by f rows₃ ≡ sum_by f rows₂ + f credit = sum_by-snoc f rows₂ credit in
        let c : f credit ≡ remaining it + fees-open = unfold only source_of with_fees in rw (eq-eqb i.account i.account refl) in
        let e : sum_by f rows₂ ≡ sum_by f rows₁ = sum_by-map f (forgive (suc j)) rows₁ ∙ sum_by-ext (λ r. f (forgive (suc j) r)) f rows₁ forgiven-used in
        let g : sum_by f rows₁ ≡ sum_by f b.rows = sum_by-set-same f b.rows j upheld blank (unfold only source_of in rw (is-toll, its-account, eq-eqb i.account i.account refl)) in
        omega arith

    returned₃ : count (returned_of i.account) rows₃ ≡ count (returned_of i.account) b.rows
    unfolding count returned_of
    returned₃ =
        let f : Row → ℕ = λ r. cond (returned_of i.account r) 1 0 in
        sum_by-snoc f rows₂ credit ∙ rw (and-false (eqb i.account i.account), add-zero) (
        sum_by-map f (forgive (suc j)) rows₁ ∙ sum_by-ext (λ r. f (forgive (suc j) r)) f rows₁ (forgive-keeps f (λ r v. refl) (suc j))
        ∙ sum_by-set-same f b.rows j upheld blank refl)

    -- an account with a toll that is unsettled is not closed
    unclosed : eqb (account b i.account).state 3 ≡ false
    unfolding closed_clear owed only debit_of
    unclosed = go (eqb (account b i.account).state 3) refl
      where
        in_table : i.account from 1 to length b.accounts ≡ true
        in_table = unfold unknown in inside i.account (length b.accounts) _ q.known

        wants : remaining (get_or b.rows j blank) ≤ owed i.account b.rows
        wants =
            let z : only (debit_of i.account) remaining (get_or b.rows j blank) ≡ remaining (get_or b.rows j blank) = rw (its-account, is-toll, eq-eqb i.account i.account refl) in
            omega (arith, sum_by-at-le (only (debit_of i.account) remaining) b.rows j blank row-there)

        go : (t : Bool) → eqb (account b i.account).state 3 ≡ t → eqb (account b i.account).state 3 ≡ false
        go true e =
            let c : eqb (money i.account b.rows) 0 && eqb (owed i.account b.rows) 0 ≡ true = rw e at (counted_of b.day b s i.account in_table).clear in
            absurd (omega (
              arith,
              wants,
              ltb-true it.settled it.amount held-facts.open-still,
              eqb-true (owed i.account b.rows) 0 (and_right (eqb (money i.account b.rows) 0) _ c),
            ))
        go false e = e

    counted-self : SumsFit rows₃ i.account (account b i.account)
    unfolding returned_fits used_is_paid closed_clear unknown
    counted-self =
        let v = counted_of b.day b s i.account (inside i.account (length b.accounts) _ q.known) in
        record {
          returned = rw returned₃ v.returned;
          used-is-paid = eq-eqb (used i.account rows₃) (paid i.account rows₃) (omega (arith, used₃, paid₃, eqb-true (used i.account b.rows) (paid i.account b.rows) v.used-is-paid));
          clear = rw unclosed;
        }

    -- only rows of account i.account change
    pub uphold-others : Others i.account b.rows rows₃
    unfolding fee_naming
    uphold-others =
        others-others i.account b.rows rows₁ rows₃ others₁
        (others-others i.account rows₁ rows₂ rows₃ (others-map i.account rows₁ (forgive (suc j)) refl (forgive-keeps (λ y. y.account) (λ y v. refl) (suc j)) still) (others-add i.account rows₂ credit refl))
      where
        still : (k : ℕ) → k < length rows₁ → (get_or rows₁ k blank).account ≢ i.account → forgive (suc j) (get_or rows₁ k blank) ≡ get_or rows₁ k blank
        still k l ne = go (fee_naming (suc j) (get_or rows₁ k blank)) refl
          where
            go : (t : Bool) → fee_naming (suc j) (get_or rows₁ k blank) ≡ t → cond t (settle_whole (get_or rows₁ k blank)) (get_or rows₁ k blank) ≡ get_or rows₁ k blank
            go true e = absurd (ne (fee-facts k l e).1)
            go false e = refl

    counted₃ : (k : ℕ) → k < length b.accounts → SumsFit rows₃ (suc k) (get_or b.accounts k unused)
    counted₃ k l =
        elim (ℕ_discrete (suc k) i.account) [
          | yes e ↦ subst (λ (k : ℕ). SumsFit rows₃ k (account b k)) (sym e) counted-self
          | no e ↦ counted-others i.account b.rows rows₃ uphold-others (suc k) e (get_or b.accounts k unused) (s.counted k l)
        ]

    pub upheld-near : length rows₃ ≤ b.room → Near b.day (add_row credit (with_rows rows₂ b))
    upheld-near room = framed-near b.day (add_row credit (with_rows rows₂ b)) (framed₃ room) counted₃

-- ---- event 6

pub uphold-near : (b : Book) (i : Instruction) → Near b.day b → Accepted b (event6 b i) → length (uphold b (event6 b i)).rows ≤ b.room
    → Near b.day (uphold b (event6 b i))
unfolding uphold
uphold-near b i s q room = go i.a q room
  where
    go : (a : ℕ) → Accepted b (event6 b (on_row a i)) → length (uphold b (event6 b (on_row a i))).rows ≤ b.room → Near b.day (uphold b (event6 b (on_row a i)))
    go zero q room = let z : ◌≡◌ {A = ℕ} 0 1 = (decided b (on_row 0 i) q).toll in absurd (omega arith)
    go (suc j) q room =
        let w : suc j - 1 ≡ j = omega arith in
        rw w (upheld-near b j i s q (rw w at room))

pub decide-near : (b : Book) (i : Instruction) → Near b.day b → Accepted b (event6 b i) → Near b.day (change_of event_decision b (event6 b i))
unfolding change_of decide
decide-near b i s q = go (eqb i.b 1) (after-fits b e q.fits)
  where
    e : Instruction
    e = event6 b i

    go : (t : Bool) → length (cond t (uphold b e) (reject b e)).rows ≤ b.room → Near b.day (cond t (uphold b e) (reject b e))
    go true room = uphold-near b i s q room
    go false room = reject-near b i s q
