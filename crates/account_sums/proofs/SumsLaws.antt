-- Laws of the sums of each account: every share is of the form "a row of the account that passes a test counts so much".
use Prim.Native.Nat.{ℕ, ◌+◌, ◌-◌, ◌^◌, ◌≤◌, ◌<◌}
use native.Mathlib.Omega.{arith}
use native.Mathlib.Decide.{ℕ_discrete}
use mathlib.Core.Path.{◌≡◌, refl, sym, ◌∙◌}
use mathlib.Core.Logic.{◌≢◌}
use mathlib.Core.Bool.{Bool, true, false, cond, not, ◌&&◌, and_assoc, and-false, false≢true}
use mathlib.Core.List.{List}
use lib.Dec.{eqb, leb}
use borrow.Author.Tests.{eq-eqb, ne_eqb, eqb-false, leb-true}
use lib.IntN.{ℤ}
use lib.ListN.{get_or, set}
use Rattle.records.specs.Codes.{kind_refund}
use Rattle.lists.specs.Tests.{◌is◌}
use Rattle.lists.specs.Lists.{only}
use Rattle.lists.proofs.TestLaws.{and_left, and_right, or_left, or_right}
use Rattle.records.specs.Encoding.{row_at}
use Rattle.records.specs.Limits.{highest_refund, slot_count}
use Rattle.rules.specs.Rows.{Row, Test, kind_payment, remaining, source, debit, held, source_of, debit_of, payable}
use Rattle.rules.specs.Soundness.{kind_fits, returned_of}
use Rattle.tables.specs.Changes.{RowIn}
use Rattle.account_sums.specs.Tallies.{Tallied, return_of, drawn_of, money_of, paid_of, debt_of, owed_of, Countable}
use Rattle.account_sums.proofs.TallyLaws.{tallied-skip, tallied-add, tallied-small}

-- a row's share of its account's sum
pub record Share (f : ℕ → Row → ℕ) (u : Test) (v : Row → ℕ) : Type 0 where
  pub form : (n : ℕ) (r : Row) → f n r ≡ cond (eqb r.account n && u r) (v r) 0

pub part-le : (b : Bool) (n m : ℕ) → n ≤ m → cond b n 0 ≤ m
part-le true n m h = h
part-le false n m h = omega arith

module _ (f : ℕ → Row → ℕ) (u : Test) (v : Row → ℕ) (share : Share f u v) where
  pub share-own : (n : ℕ) (r : Row) → n ≡ r.account → f n r ≡ cond (u r) (v r) 0
  share-own n r e = share.form n r ∙ rw (eq-eqb r.account n (sym e))

  pub share_other : (n : ℕ) (r : Row) → n ≢ r.account → f n r ≡ 0
  share_other n r q = share.form n r ∙ rw (ne_eqb r.account n (λ e. q (sym e)))

  share-le : (n : ℕ) (r : Row) → f n r ≤ v r
  share-le n r = rw (share.form n r) (go (eqb r.account n && u r))
    where
      go : (b : Bool) → cond b (v r) 0 ≤ v r
      go true = omega arith
      go false = omega arith

  -- a row that fails the test leaves the sums
  pub share-skipped : (t : List ℤ) (xs : List ℕ) (i : ℕ) → Tallied f slot_count t xs i → u (row_at t i) ≡ false → Tallied f slot_count t xs (i + 1)
  share-skipped t xs i s e = tallied-skip f slot_count t xs i s (λ n b. share.form n (row_at t i) ∙ rw (e, and-false))

  -- row i is added: a is its account, w its share
  module _ (t : List ℤ) (xs : List ℕ) (i : ℕ) (s : Tallied f slot_count t xs i) (used : ℕ) (c : Countable t used) (h : i < used) (a : ℕ) (e : a ≡ (row_at t i).account) (w : ℕ) (q : w ≡ cond (u (row_at t i)) (v (row_at t i)) 0) where
    pub slot-asked : ((k : ℕ) → k < used → v (row_at t k) ≤ highest_refund) → (a < slot_count) × (get_or xs a 0 + w < 2 ^ 64)
    slot-asked small =
        let d : a < slot_count = rw e (omega (arith, c.account i h)) in
        let b : w ≤ highest_refund = rw q (part-le (u (row_at t i)) (v (row_at t i)) highest_refund (small i h)) in
        let few = c.few in
        let sum = tallied-small f slot_count t highest_refund xs i a s d (λ k m. omega (arith, share-le a (row_at t k), small k (omega arith))) in
        (d, omega arith)

    pub slot_added : (ys : List ℕ) → ys ≡ set xs a (get_or xs a 0 + w) → Tallied f slot_count t ys (i + 1)
    slot_added ys z =
        let d : a < slot_count = rw e (omega (arith, c.account i h)) in
        rw z (tallied-add f slot_count t xs i a w s d (q ∙ sym (share-own a (row_at t i) e)) (λ m n. share_other m (row_at t i) (λ x. n (x ∙ sym e))))

  -- the same, where the row was read: r is the row
  module _ (t : List ℤ) (xs : List ℕ) (i : ℕ) (s : Tallied f slot_count t xs i) (used : ℕ) (c : Countable t used) (h : i < used) (r : Row) (e : r ≡ row_at t i) (w : ℕ) (q : w ≡ cond (u r) (v r) 0) where
    pub share-asked : ((k : ℕ) → k < used → v (row_at t k) ≤ highest_refund) → (r.account < slot_count) × (get_or xs r.account 0 + w < 2 ^ 64)
    share-asked = slot-asked t xs i s used c h r.account (rw e) w (q ∙ rw e)

    pub share-added : (ys : List ℕ) → ys ≡ set xs r.account (get_or xs r.account 0 + w) → Tallied f slot_count t ys (i + 1)
    share-added = slot_added t xs i s used c h r.account (rw e) w (q ∙ rw e)

-- ---- the six sums

abbrev pub returned_check : Test
returned_check r = r.kind is kind_payment && r.mark is 4

pub share-return : Share return_of returned_check (λ r. 1)
unfolding return_of returned_of
share-return = record { form = λ n r. rw (and_assoc (eqb r.account n) (r.kind is kind_payment) (r.mark is 4)) }

pub share-drawn : Share drawn_of source (λ r. r.settled)
unfolding only source_of
share-drawn = record { form = λ n r. refl }

pub share-money : Share money_of source remaining
unfolding only source_of
share-money = record { form = λ n r. refl }

pub share-paid : Share paid_of debit (λ r. r.settled)
unfolding only debit_of
share-paid = record { form = λ n r. refl }

pub share-debt : (rows : List Row) → Share (debt_of rows) (λ r. debit r && not (held rows r)) remaining
unfolding only payable
share-debt rows = record { form = λ n r. refl }

pub share-owed : Share owed_of debit remaining
unfolding only debit_of
share-owed = record { form = λ n r. refl }

-- ---- a row is a source or a debit

pub source-no-debit : (r : Row) → source r ≡ true → debit r ≡ false
source-no-debit r e =
    elim (ℕ_discrete r.kind 4) [
      | yes v ↦ rw v
      | no v ↦ elim (ℕ_discrete r.kind 5) [
        | yes w ↦ rw w
        | no w ↦ absurd (false≢true (simp (ne_eqb r.kind 4 v, ne_eqb r.kind 5 w) at e))
      ]
    ]

pub no-source-debit : (r : Row) → kind_fits r ≡ true → source r ≡ false → debit r ≡ true
unfolding kind_fits
no-source-debit r k e =
    let low = leb-true 1 r.kind (and_left (leb 1 r.kind) (leb r.kind 6) k) in
    let high = leb-true r.kind 6 (and_right (leb 1 r.kind) (leb r.kind 6) k) in
    let p = eqb-false r.kind 4 (or_left (eqb r.kind 4) (eqb r.kind 5) e) in
    let c = eqb-false r.kind 5 (or_right (eqb r.kind 4) (eqb r.kind 5) e) in
    elim (ℕ_discrete r.kind 1) [
      | yes v ↦ rw v
      | no v ↦ elim (ℕ_discrete r.kind 2) [
        | yes w ↦ rw w
        | no w ↦ elim (ℕ_discrete r.kind 3) [
          | yes x ↦ rw x
          | no x ↦ let y : r.kind ≡ kind_refund = omega arith in rw y
        ]
      ]
    ]

pub no-source-return : (r : Row) → source r ≡ false → returned_check r ≡ false
no-source-return r e = rw (or_left (eqb r.kind 4) (eqb r.kind 5) e)

-- ---- bounds

module _ (t : List ℤ) (used : ℕ) (c : Countable t used) where
  pub one-small : (k : ℕ) → k < used → 1 ≤ highest_refund
  one-small k h = omega arith

  pub settled-small : (k : ℕ) → k < used → (row_at t k).settled ≤ highest_refund
  settled-small k h = omega (arith, c.settled k h, c.amount k h)

  pub remaining-small : (k : ℕ) → k < used → (row_at t k).amount - (row_at t k).settled ≤ highest_refund
  remaining-small k h = omega (arith, c.amount k h)
