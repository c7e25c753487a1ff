-- Laws of settlement of several accounts: settling one leaves the sums of another, every count and every field but settled.
use mathlib.Core.Path.{◌≡◌, refl, sym, ap, ◌∙◌}
use mathlib.Core.Logic.{◌≢◌}
use mathlib.Core.Bool.{Bool, true, false, not, cond, ◌&&◌}
use Prim.Native.Nat.{ℕ, zero, suc, ◌+◌, ◌≤◌, ◌<◌}
use native.Mathlib.Omega.{arith}
use native.Mathlib.Decide.{ℕ_discrete}
use mathlib.Core.List.{List, map}
use lib.ListN.{length, get_or}
use lib.Dec.{eqb}
use borrow.Author.Tests.{eqb-true, ne_eqb}
use Rattle.lists.specs.Lists.{sum_by, only, count}
use Rattle.lists.proofs.SumLaws.{sum_by-ext, sum_by-map}
use Rattle.rules.specs.Rows.{Row, Test, blank, source, debit, held, held_toll, row_no, remaining, source_of, debit_of, payable}
use Rattle.rules.specs.Settlement.{money, debt, moved, ranks, settle, settle_accounts, used, paid, owed}
use Rattle.rules.proofs.AllocationLaws.{bare, Steady, Apart}
use Rattle.rules.proofs.SettlementLaws.{other-ranks, ranks-part, payable-settle, money-settle, owed-settle, settle-no-idle-money, settle-same, settle-fair, settle-bare, settle-row, settle-held, length-settle}

-- ---- another account's sums stay

-- no row is of two accounts
of_two : (x a b : ℕ) → a ≢ b → (s d : Bool) → (eqb x a && s) && (eqb x b && d) ≡ false
of_two x a b n s d = go (eqb x a) (eqb x b) s refl refl
  where
    go : (p q s : Bool) → eqb x a ≡ p → eqb x b ≡ q → (p && s) && (q && d) ≡ false
    go true true s e f = absurd (n (sym (eqb-true x a e) ∙ eqb-true x b f))
    go true false true e f = refl
    go true false false e f = refl
    go false q s e f = refl

module _ (a b : ℕ) (ne : a ≢ b) (v : Test) (s : Steady v) where
  u : Test
  u r = eqb r.account b && v r

  u-steady : Steady u
  unfolding u
  u-steady r k = rw (s r k)

  source-u : Apart (source_of a) u
  unfolding u source_of
  source-u r = of_two r.account a b ne (source r) (v r)

  payable-u : (rows : List Row) → Apart (payable rows a) u
  unfolding u payable
  payable-u rows r = of_two r.account a b ne (debit r && not (held rows r)) (v r)

  pub other-settle : (f : Row → ℕ) (rows : List Row)
      → sum_by (only (λ r. eqb r.account b && v r) f) (settle a rows) ≡ sum_by (only (λ r. eqb r.account b && v r) f) rows
  unfolding u settle
  other-settle f rows = other-ranks a (ranks rows a) (payable rows a) u f (ranks-part rows a) source-u (payable-u rows) u-steady rows

module _ (a b : ℕ) (ne : a ≢ b) (rows : List Row) where
  pub used-other : used b (settle a rows) ≡ used b rows
  unfolding used source_of
  used-other = other-settle a b ne source (λ r k. refl) (λ r. r.settled) rows

  pub money-other : money b (settle a rows) ≡ money b rows
  unfolding money source_of
  money-other = other-settle a b ne source (λ r k. refl) remaining rows

  pub paid_other : paid b (settle a rows) ≡ paid b rows
  unfolding paid debit_of
  paid_other = other-settle a b ne debit (λ r k. refl) (λ r. r.settled) rows

  pub owed-other : owed b (settle a rows) ≡ owed b rows
  unfolding owed debit_of
  owed-other = other-settle a b ne debit (λ r k. refl) remaining rows

  pub debt-other : debt b (settle a rows) ≡ debt b rows
  unfolding debt
  debt-other = rw (payable-settle a b rows) debt-kept
    where
      debt-kept : sum_by (only (payable rows b) remaining) (settle a rows) ≡ sum_by (only (payable rows b) remaining) rows
      debt-kept = unfold payable held in other-settle a b ne (λ r. debit r && not (held rows r)) (λ r k. refl) remaining rows

  pub moved_other : moved b (settle a rows) ≡ moved b rows
  unfolding moved
  moved_other = rw (money-other, debt-other)

-- ---- what does not look at what is settled stays

pub sum-settle : (f : Row → ℕ) → ((r : Row) → f (bare r) ≡ f r) → (a : ℕ) (rows : List Row) → sum_by f (settle a rows) ≡ sum_by f rows
sum-settle f s a rows =
    sum_by-ext f (λ r. f (bare r)) (settle a rows) (λ r. sym (s r)) ∙ sym (sum_by-map f bare (settle a rows))
    ∙ ap (sum_by f) (settle-bare a rows)
    ∙ sum_by-map f bare rows ∙ sum_by-ext (λ r. f (bare r)) f rows s

pub count-settle : (t : Test) → ((r : Row) → t (bare r) ≡ t r) → (a : ℕ) (rows : List Row) → count t (settle a rows) ≡ count t rows
unfolding count
count-settle t s a rows = sum-settle (λ r. cond (t r) 1 0) (λ r. rw (s r)) a rows

pub named-settle : (a : ℕ) (rows : List Row) (j : ℕ) → bare (row_no (settle a rows) j) ≡ bare (row_no rows j)
named-settle a rows zero = refl
named-settle a rows (suc i) = (settle-row a rows i).kept

-- ---- settle_accounts

pub length-settle_accounts : (n : ℕ) (rows : List Row) → length (settle_accounts n rows) ≡ length rows
unfolding settle_accounts
length-settle_accounts zero rows = refl
length-settle_accounts (suc n) rows = length-settle (suc n) (settle_accounts n rows) ∙ length-settle_accounts n rows

-- what it does to one row
pub record MoreSettled (r s : Row) : Type 0 where
  pub kept : bare s ≡ bare r
  pub grows : r.settled ≤ s.settled
  pub fits : r.settled ≤ r.amount → s.settled ≤ s.amount

pub settle_accounts-row : (n : ℕ) (rows : List Row) (i : ℕ) → MoreSettled (get_or rows i blank) (get_or (settle_accounts n rows) i blank)
unfolding settle_accounts
settle_accounts-row zero rows i = record { kept = refl; grows = omega arith; fits = λ h. h }
settle_accounts-row (suc n) rows i =
    let f = settle_accounts-row n rows i in
    let g = settle-row (suc n) (settle_accounts n rows) i in
    record { kept = g.kept ∙ f.kept; grows = omega (arith, f.grows, g.grows); fits = λ h. g.fits (f.fits h) }

pub settle_accounts-bare : (n : ℕ) (rows : List Row) → map bare (settle_accounts n rows) ≡ map bare rows
unfolding settle_accounts
settle_accounts-bare zero rows = refl
settle_accounts-bare (suc n) rows = settle-bare (suc n) (settle_accounts n rows) ∙ settle_accounts-bare n rows

pub settle_accounts-held : (n : ℕ) (rows : List Row) (i : ℕ) → held_toll (get_or rows i blank) ≡ true → get_or (settle_accounts n rows) i blank ≡ get_or rows i blank
unfolding settle_accounts
settle_accounts-held zero rows i h = refl
settle_accounts-held (suc n) rows i h = let e = settle_accounts-held n rows i h in settle-held (suc n) (settle_accounts n rows) i (rw e h) ∙ e

-- "used sources = settled debits"
pub settle_accounts-used-is-paid : (n : ℕ) (rows : List Row) (a : ℕ) → used a rows ≡ paid a rows → used a (settle_accounts n rows) ≡ paid a (settle_accounts n rows)
unfolding settle_accounts
settle_accounts-used-is-paid zero rows a e = e
settle_accounts-used-is-paid (suc n) rows a e = go (ℕ_discrete (suc n) a) (settle_accounts-used-is-paid n rows a e)
  where
    go : Dec (suc n ≡ a) → used a (settle_accounts n rows) ≡ paid a (settle_accounts n rows) → used a (settle (suc n) (settle_accounts n rows)) ≡ paid a (settle (suc n) (settle_accounts n rows))
    go (yes q) ih = rw q (settle-fair a (settle_accounts n rows) ih)
    go (no q) ih = used-other (suc n) a q (settle_accounts n rows) ∙ ih ∙ sym (paid_other (suc n) a q (settle_accounts n rows))

-- of each account one side is spent
pub settle_accounts-no-idle-money : (n : ℕ) (rows : List Row) (k : ℕ) → k < n → moved (suc k) (settle_accounts n rows) ≡ 0
unfolding settle_accounts
settle_accounts-no-idle-money zero rows k h = absurd (omega arith)
settle_accounts-no-idle-money (suc n) rows k h = go (ℕ_discrete k n) (settle_accounts-no-idle-money n rows k)
  where
    go : Dec (k ≡ n) → (k < n → moved (suc k) (settle_accounts n rows) ≡ 0) → moved (suc k) (settle (suc n) (settle_accounts n rows)) ≡ 0
    go (yes q) ih = rw q (settle-no-idle-money (suc n) (settle_accounts n rows))
    go (no q) ih = moved_other (suc n) (suc k) (λ e. q (omega arith)) (settle_accounts n rows) ∙ ih (omega arith)

-- where nothing can move in an account, settlement moves nothing in it and leaves its rows
pub settle_accounts-none : (a n : ℕ) (rows : List Row) → moved a rows ≡ 0 → moved a (settle_accounts n rows) ≡ 0
unfolding settle_accounts
settle_accounts-none a zero rows z = z
settle_accounts-none a (suc n) rows z = go (ℕ_discrete a (suc n)) (settle_accounts-none a n rows z)
  where
    go : Dec (a ≡ suc n) → moved a (settle_accounts n rows) ≡ 0 → moved a (settle (suc n) (settle_accounts n rows)) ≡ 0
    go (yes q) ih = rw q (settle-no-idle-money (suc n) (settle_accounts n rows))
    go (no q) ih = moved_other (suc n) a (λ e. q (sym e)) (settle_accounts n rows) ∙ ih

pub settle_accounts-still : (a n : ℕ) (rows : List Row) (i : ℕ) → (get_or rows i blank).account ≡ a → moved a rows ≡ 0
    → get_or (settle_accounts n rows) i blank ≡ get_or rows i blank
unfolding settle_accounts
settle_accounts-still a zero rows i e z = refl
settle_accounts-still a (suc n) rows i e z = go (ℕ_discrete a (suc n)) (settle_accounts-still a n rows i e z)
  where
    go : Dec (a ≡ suc n) → get_or (settle_accounts n rows) i blank ≡ get_or rows i blank → get_or (settle (suc n) (settle_accounts n rows)) i blank ≡ get_or rows i blank
    go (yes q) ih = let m : moved (suc n) (settle_accounts n rows) ≡ 0 = rw q at (settle_accounts-none a n rows z) in rw (settle-same (suc n) (settle_accounts n rows) m) ih
    go (no q) ih =
        let o : (get_or (settle_accounts n rows) i blank).account ≡ a = ap (λ (r : Row). r.account) ih ∙ e in
        (settle-row (suc n) (settle_accounts n rows) i).others (ne_eqb (get_or (settle_accounts n rows) i blank).account (suc n) (λ w. q (sym o ∙ w))) ∙ ih

-- what remains of account k + 1 on either side: what is moved is gone
pub record Remains (m : ℕ) (rows rows' : List Row) (v : ℕ) : Type 0 where
  pub money : money m rows' + v ≡ money m rows
  pub owed : owed m rows' + v ≡ owed m rows

settle_accounts-beyond : (n : ℕ) (rows : List Row) (m : ℕ) → n < m → Remains m rows (settle_accounts n rows) 0 × (moved m (settle_accounts n rows) ≡ moved m rows)
unfolding settle_accounts
settle_accounts-beyond zero rows m h = (record { money = omega arith; owed = omega arith }, refl)
settle_accounts-beyond (suc n) rows m h =
    let ih = settle_accounts-beyond n rows m (omega arith) in
    let ne : suc n ≢ m = λ e. omega arith in
    let mo = money-other (suc n) m ne (settle_accounts n rows) in
    let ow = owed-other (suc n) m ne (settle_accounts n rows) in
    (record { money = omega (arith, ih.0.money); owed = omega (arith, ih.0.owed) }, moved_other (suc n) m ne (settle_accounts n rows) ∙ ih.1)

pub settle_accounts-remains : (n : ℕ) (rows : List Row) (k : ℕ) → k < n → Remains (suc k) rows (settle_accounts n rows) (moved (suc k) rows)
unfolding settle_accounts
settle_accounts-remains zero rows k h = absurd (omega arith)
settle_accounts-remains (suc n) rows k h = go (ℕ_discrete k n) (settle_accounts-remains n rows k)
  where
    go : Dec (k ≡ n) → (k < n → Remains (suc k) rows (settle_accounts n rows) (moved (suc k) rows)) → Remains (suc k) rows (settle (suc n) (settle_accounts n rows)) (moved (suc k) rows)
    go (yes q) ih =
        let f = settle_accounts-beyond n rows (suc n) (omega arith) in
        let mo = money-settle (suc n) (settle_accounts n rows) in
        let ow = owed-settle (suc n) (settle_accounts n rows) in
        rw q (record { money = omega (arith, f.0.money, f.1); owed = omega (arith, f.0.owed, f.1) })
    go (no q) ih =
        let ne : suc n ≢ suc k = λ e. q (omega arith) in
        let mo = money-other (suc n) (suc k) ne (settle_accounts n rows) in
        let ow = owed-other (suc n) (suc k) ne (settle_accounts n rows) in
        let i = ih (omega arith) in
        record { money = omega (arith, i.money); owed = omega (arith, i.owed) }

-- where no account has something to move, settlement is the identity; where one has, it is that account's
pub settle_accounts-same : (n : ℕ) (rows : List Row) → ((m : ℕ) → 1 ≤ m → m ≤ n → moved m rows ≡ 0) → settle_accounts n rows ≡ rows
unfolding settle_accounts
settle_accounts-same zero rows z = refl
settle_accounts-same (suc n) rows z =
    rw (settle_accounts-same n rows (λ m l h. z m l (omega arith))) (settle-same (suc n) rows (z (suc n) (omega arith) (omega arith)))

pub settle_accounts-one : (a n : ℕ) (rows : List Row) → 1 ≤ a → a ≤ n → ((m : ℕ) → 1 ≤ m → m ≤ n → m ≢ a → moved m rows ≡ 0) → settle_accounts n rows ≡ settle a rows
unfolding settle_accounts
settle_accounts-one a zero rows l h z = absurd (omega arith)
settle_accounts-one a (suc n) rows l h z = go (ℕ_discrete (suc n) a) (λ q. settle_accounts-one a n rows l q (λ m i j ne. z m i (omega arith) ne))
  where
    go : Dec (suc n ≡ a) → (a ≤ n → settle_accounts n rows ≡ settle a rows) → settle (suc n) (settle_accounts n rows) ≡ settle a rows
    go (yes e) ih =
        let s : settle_accounts n rows ≡ rows = settle_accounts-same n rows (λ m i j. z m i (omega arith) (λ w. omega arith)) in
        rw (s, e)
    go (no ne) ih =
        let s : settle_accounts n rows ≡ settle a rows = ih (omega arith) in
        let q : moved (suc n) (settle a rows) ≡ 0 = moved_other a (suc n) (λ w. ne (sym w)) rows ∙ z (suc n) (omega arith) (omega arith) ne in
        rw s (settle-same (suc n) (settle a rows) q)
