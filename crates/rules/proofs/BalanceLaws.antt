-- An account's amounts by what is settled and what remains of them; a sound book's top-up test by the unused money.
use mathlib.Core.Path.{◌≡◌, refl, sym, ◌∙◌}
use mathlib.Core.Bool.{Bool, true, false, not, cond, ◌&&◌, ◌||◌}
use Prim.Native.Nat.{ℕ, zero, suc, ◌+◌, ◌≤◌, ◌<◌}
use native.Mathlib.Omega.{arith}
use native.Mathlib.Decide.{dec_le}
use mathlib.Core.List.{List}
use lib.ListN.{length, get_or}
use lib.Dec.{leb, ltb}
use borrow.Author.Tests.{eqb-true, ne_eqb, le-leb, lt-leb}
use Rattle.lists.specs.Tests.{◌is◌}
use Rattle.lists.specs.Lists.{sum_by, only}
use Rattle.lists.proofs.SumLaws.{sum_by-ext, sum_by-ext-at, sum_by-add}
use Rattle.rules.specs.Rows.{Row, Test, kind_toll, kind_fee, kind_reversal, kind_refund, dispute_held, blank, remaining, row_no, held_toll, held, source_of, debit_of, payable, held_debit}
use Rattle.rules.specs.Settlement.{money, debt, used, paid, owed, held_debt}
use Rattle.rules.specs.Book.{state_unused, state_open, Book, account, sources, debits, low_balance, topup_due}
use Rattle.rules.specs.Soundness.{used_is_paid, no_idle_money}
use Rattle.rules.specs.SoundFacts.{Sound}
use Rattle.rules.proofs.StorableLaws.{settled-le, used-inside}

-- ---- settled and remaining

-- an amount is what is settled and what remains
only-split : (t : Test) (r : Row) → r.settled ≤ r.amount → only t (λ s. s.amount) r ≡ only t (λ s. s.settled) r + only t remaining r
unfolding only
only-split t r h = go (t r)
  where
    go : (v : Bool) → cond v r.amount 0 ≡ cond v r.settled 0 + cond v (remaining r) 0
    go true = omega arith
    go false = refl

pub sum-split : (t : Test) (rows : List Row) → ((k : ℕ) → k < length rows → (get_or rows k blank).settled ≤ (get_or rows k blank).amount)
    → sum_by (only t (λ s. s.amount)) rows ≡ sum_by (only t (λ s. s.settled)) rows + sum_by (only t remaining) rows
sum-split t rows e =
    sum_by-ext-at (only t (λ s. s.amount)) (λ r. only t (λ s. s.settled) r + only t remaining r) blank rows
    (λ k h. only-split t (get_or rows k blank) (e k h))
    ∙ sum_by-add (only t (λ s. s.settled)) (only t remaining) rows

-- ---- held and not held

-- a debit is held or payable, and only tolls and fees are held
only-owed : (rows : List Row) (a : ℕ) (r : Row)
    → only (debit_of a) remaining r ≡ only (payable rows a) remaining r + only (held_debit rows a) remaining r
unfolding only debit_of payable held_debit held
only-owed rows a r =
    go (r.account is a) (r.kind is kind_toll) (r.kind is kind_fee) (r.kind is kind_reversal) (r.kind is kind_refund)
    (r.dispute is dispute_held) (held_toll (row_no rows r.reference))
  where
    go : (v t f o p d h : Bool) → cond (v && (t || f || o || p)) (remaining r) 0
        ≡ cond (v && ((t || f || o || p) && not (t && d || f && h))) (remaining r) 0 + cond (v && (t && d || f && h)) (remaining r) 0
    go false t f o p d h = refl
    go true true f o p true h = omega arith
    go true true true o p false true = omega arith
    go true true true o p false false = omega arith
    go true true false o p false h = omega arith
    go true false true o p d true = omega arith
    go true false true o p d false = omega arith
    go true false false true p d h = omega arith
    go true false false false true d h = omega arith
    go true false false false false d h = refl

-- what is unsettled of an account's debits: what is payable, and what is held
pub owed-split : (rows : List Row) (a : ℕ) → owed a rows ≡ debt a rows + held_debt a rows
unfolding owed debt held_debt
owed-split rows a =
    sum_by-ext (only (debit_of a) remaining) (λ r. only (payable rows a) remaining r + only (held_debit rows a) remaining r) rows
    (only-owed rows a)
    ∙ sum_by-add (only (payable rows a) remaining) (only (held_debit rows a) remaining) rows

-- ---- a sound book's account

-- two comparisons that agree either way
leb-alike : (w x y z : ℕ) → (y ≤ z → w ≤ x) → (z < y → x < w) → leb w x ≡ leb y z
leb-alike w x y z p q = elim (dec_le y z) [
  | yes l ↦ le-leb w x (p l) ∙ sym (le-leb y z l)
  | no l ↦ lt-leb w x (q (omega arith)) ∙ sym (lt-leb y z (omega arith))
]

module _ (b : Book) (s : Sound b) (k : ℕ) (h : k < length b.accounts) where
  amounts-fit : (i : ℕ) → i < length b.rows → (get_or b.rows i blank).settled ≤ (get_or b.rows i blank).amount
  amounts-fit i l = settled-le (get_or b.rows i blank) (s.near.live i l).settled

  -- balance and held debts come to the unused money less the payable debts: "used sources = settled debits"
  pub balance-and-held : sources b.rows (suc k) + held_debt (suc k) b.rows + debt (suc k) b.rows
      ≡ debits b.rows (suc k) + money (suc k) b.rows
  unfolding sources debits money used paid owed used_is_paid
  balance-and-held =
      let e = eqb-true (used (suc k) b.rows) (paid (suc k) b.rows) (s.near.counted k h).used-is-paid in
      omega (
        arith,
        sum-split (source_of (suc k)) b.rows amounts-fit,
        sum-split (debit_of (suc k)) b.rows amounts-fit,
        owed-split b.rows (suc k),
      )

  -- .. of which one is 0
  idle : 0 < money (suc k) b.rows → debt (suc k) b.rows ≡ 0
  unfolding no_idle_money
  idle m = go (money (suc k) b.rows is 0) refl (s.no-idle-money k h)
    where
      go : (t : Bool) → money (suc k) b.rows is 0 ≡ t → t || debt (suc k) b.rows is 0 ≡ true → debt (suc k) b.rows ≡ 0
      go true e z = absurd (omega (arith, eqb-true (money (suc k) b.rows) 0 e))
      go false e z = eqb-true (debt (suc k) b.rows) 0 z

  low-money : low_balance b (suc k) ≡ leb (money (suc k) b.rows) (account b (suc k)).threshold
  unfolding low_balance
  low-money =
      leb-alike (sources b.rows (suc k) + held_debt (suc k) b.rows) (debits b.rows (suc k) + (account b (suc k)).threshold)
      (money (suc k) b.rows) (account b (suc k)).threshold (λ l. omega (arith, balance-and-held))
      (λ l. omega (arith, balance-and-held, idle (omega arith)))

-- ---- top-up due

-- on a sound book the test is "unused money at most the threshold"
pub due-money : (b : Book) → Sound b → (n : ℕ) → topup_due b n
    ≡ (account b n).state is state_open && ltb 0 (account b n).topup && not ((account b n).declined is b.day)
    && leb (money n b.rows) (account b n).threshold
unfolding topup_due
due-money b s zero = refl
due-money b s (suc k) = go ((account b (suc k)).state is state_open) refl
  where
    go : (t : Bool) → (account b (suc k)).state is state_open ≡ t
        → t && ltb 0 (account b (suc k)).topup && not ((account b (suc k)).declined is b.day) && low_balance b (suc k)
        ≡ t && ltb 0 (account b (suc k)).topup && not ((account b (suc k)).declined is b.day)
        && leb (money (suc k) b.rows) (account b (suc k)).threshold
    go false e = refl
    go true e =
        let o : (account b (suc k)).state ≡ state_open = eqb-true (account b (suc k)).state state_open e in
        rw (low-money b s k (used-inside b.accounts (suc k) (ne_eqb (account b (suc k)).state state_unused (λ z. omega arith))))
