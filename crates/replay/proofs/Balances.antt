-- The balance is the six sums' (demand 3's formula), and no money lies idle beside an uncovered debt that is not held.
use mathlib.Core.Path.{◌≡◌, refl, sym, ap, ap₂, ◌∙◌}
use mathlib.Core.Bool.{Bool, true, false, cond, ◌&&◌, ◌||◌, true≢false, and-false}
use Prim.Native.Nat.{ℕ, ◌+◌}
use native.Mathlib.Omega.{arith}
use mathlib.Core.List.{List}
use lib.IntN.{ℤ, pos, neg_ℤ, ◌+ℤ◌, ◌-ℤ◌, +ℤ_assoc, neg_ℤ-+ℤ, pos-+ℤ-pos}
use borrow.Author.Tests.{eqb-true}
use Rattle.lists.specs.Tests.{◌is◌}
use Rattle.lists.specs.Lists.{sum_by, only}
use Rattle.lists.proofs.SumLaws.{sum_by-add}
use Rattle.lists.proofs.PairLaws.{Pairs, pairs-to, pairs-sum}
use Rattle.rules.specs.Rows.{Row, kind_toll, kind_fee, kind_reversal, kind_payment, kind_credit, kind_refund, source_of, debit_of}
use Rattle.rules.specs.Book.{Book, sources, debits, minus, balance}
use Rattle.replay.specs.Entries.{Entry, sum_of, payments, credits, tolls, fees, reversals, refunds, balance_of, money_in, money_out}
use Rattle.replay.proofs.Relation.{SameLine}

-- ---- the sums

abbrev of_kind : ℕ → ℕ → Entry → ℕ
of_kind kind a x = cond (x.kind is kind && x.account is a) x.amount 0

-- the share of an amount that falls on either of two kinds
module _ (m : ℕ) where
  split : (p q v : Bool) → p && q ≡ false → cond (v && (p || q)) m 0 ≡ cond (v && p) m 0 + cond (q && v) m 0
  split true true v e = absurd (true≢false e)
  split true false true e = omega arith
  split true false false e = refl
  split false true true e = omega arith
  split false true false e = refl
  split false false true e = refl
  split false false false e = refl

  swap : (p v : Bool) → cond (v && p) m 0 ≡ cond (p && v) m 0
  swap true true = refl
  swap true false = refl
  swap false true = refl
  swap false false = refl

apart : (f : ℕ → Bool) (k n : ℕ) → f n ≡ false → f k && k is n ≡ false
apart f k n e = go (k is n) refl
  where
    go : (v : Bool) → k is n ≡ v → f k && v ≡ false
    go true q = rw (eqb-true k n q, e)
    go false q = and-false (f k)

source-share : (a : ℕ) (r : Row) (x : Entry) → SameLine r x → only (source_of a) (λ s. s.amount) r ≡ of_kind kind_payment a x + of_kind kind_credit a x
unfolding only source_of
source-share a r x f =
    let k : ℕ = x.kind in
    let v : Bool = x.account is a in
    rw (f.kind, f.account, f.amount)
    (omega (arith, split x.amount (k is kind_payment) (k is kind_credit) v (apart (λ j. j is kind_payment) k kind_credit refl), swap x.amount (k is kind_payment) v))

debit-share : (a : ℕ) (r : Row) (x : Entry) → SameLine r x → only (debit_of a) (λ s. s.amount) r ≡ of_kind kind_toll a x + of_kind kind_fee a x + of_kind kind_reversal a x + of_kind kind_refund a x
unfolding only debit_of
debit-share a r x f =
    let k : ℕ = x.kind in
    let v : Bool = x.account is a in
    let m : ℕ = x.amount in
    rw (f.kind, f.account, f.amount)
    (omega (
      arith,
      split m (k is kind_toll || k is kind_fee || k is kind_reversal) (k is kind_refund) v (apart (λ j. j is kind_toll || j is kind_fee || j is kind_reversal) k kind_refund refl),
      split m (k is kind_toll || k is kind_fee) (k is kind_reversal) v (apart (λ j. j is kind_toll || j is kind_fee) k kind_reversal refl),
      split m (k is kind_toll) (k is kind_fee) v (apart (λ j. j is kind_toll) k kind_fee refl),
      swap m (k is kind_toll) v,
    ))

pub sources-same : {rows : List Row} {xs : List Entry} → Pairs SameLine rows xs → (a : ℕ) → sources rows a ≡ money_in a xs
unfolding sources money_in sum_of
sources-same {rows} {xs} p a = pairs-sum (pairs-to (source-share a) p) ∙ sum_by-add (of_kind kind_payment a) (of_kind kind_credit a) xs

pub debits-same : {rows : List Row} {xs : List Entry} → Pairs SameLine rows xs → (a : ℕ) → debits rows a ≡ money_out a xs
unfolding debits money_out sum_of
debits-same {rows} {xs} p a =
    let t : Entry → ℕ = of_kind kind_toll a in
    let f : Entry → ℕ = of_kind kind_fee a in
    let r : Entry → ℕ = of_kind kind_reversal a in
    let u : Entry → ℕ = of_kind kind_refund a in
    let q : debits rows a ≡ sum_by (λ x. t x + f x + r x + u x) xs = unfold debits in (pairs-sum (pairs-to (debit-share a) p)) in
    q ∙ omega (arith, sum_by-add (λ x. t x + f x + r x) u xs, sum_by-add (λ x. t x + f x) r xs, sum_by-add t f xs)

-- ---- the balance

minus_minus : (m n k : ℕ) → minus m n -ℤ pos k ≡ minus m (n + k)
unfolding minus
minus_minus m n k =
    +ℤ_assoc (pos m) (neg_ℤ (pos n)) (neg_ℤ (pos k)) ∙ ap {B = ℤ} (λ (z : ℤ). pos m +ℤ z) (sym (neg_ℤ-+ℤ (pos n) (pos k)) ∙ ap neg_ℤ (pos-+ℤ-pos n k))

six-sums : (p c t f r u : ℕ) → pos p +ℤ pos c -ℤ pos t -ℤ pos f -ℤ pos r -ℤ pos u ≡ minus (p + c) (t + f + r + u)
unfolding minus
six-sums p c t f r u =
    ap {B = ℤ} (λ (z : ℤ). z -ℤ pos r -ℤ pos u) (minus_minus (p + c) t f) ∙ ap {B = ℤ} (λ (z : ℤ). z -ℤ pos u) (minus_minus (p + c) (t + f) r) ∙ minus_minus (p + c) (t + f + r) u

pub balance-same : (b : Book) (xs : List Entry) → Pairs SameLine b.rows xs → (a : ℕ) → balance b a ≡ balance_of a xs
unfolding balance balance_of
balance-same b xs p a =
    ap₂ {C = ℤ} minus (sources-same p a) (debits-same p a)
    ∙ unfold money_in money_out in (sym (six-sums (payments a xs) (credits a xs) (tolls a xs) (fees a xs) (reversals a xs) (refunds a xs)))
