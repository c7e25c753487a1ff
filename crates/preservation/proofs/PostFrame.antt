-- "Unnamed accounts and their rows change only at a tick": on a sound book an event of another kind changes no account and no row
-- of an account that it does not name, and every row that it adds is of the account that it names.
use mathlib.Core.Path.{◌≡◌, refl, sym, ap, ◌∙◌}
use mathlib.Core.Logic.{◌≢◌}
use mathlib.Core.Bool.{Bool, true, false, ◌&&◌, ◌||◌, true≢false}
use Prim.Native.Nat.{ℕ, zero, suc, ◌≤◌, ◌<◌, min}
use native.Mathlib.Omega.{arith}
use native.Mathlib.Decide.{ℕ_discrete}
use mathlib.Core.List.{List}
use lib.ListN.{length, get_or}
use lib.Dec.{eqb}
use borrow.Author.Tests.{eqb-true, not-true}
use Rattle.records.specs.Codes.{event_tick}
use Rattle.lists.specs.Lists.{only}
use Rattle.lists.proofs.SumLaws.{sum_by-longer}
use Rattle.rules.specs.Rows.{Row, blank, row_no, held, held_toll, remaining, payable}
use Rattle.rules.specs.Settlement.{money, debt, moved}
use Rattle.rules.specs.Book.{Instruction, Book, account, settled}
use Rattle.rules.specs.Soundness.{account_used, no_idle_money, sound}
use Rattle.rules.specs.Refusals.{change_of, after, answer_number}
use Rattle.rules.specs.Posting.{post}
use Rattle.rules.proofs.SettlementAccountsLaws.{length-settle_accounts, settle_accounts-row, settle_accounts-still}
use Rattle.rules.specs.SoundFacts.{Near, Sound}
use Rattle.rules.proofs.SoundnessLaws.{sound-facts}
use Rattle.rules.proofs.StorableLaws.{used-inside}
use Rattle.rules.proofs.PostingLaws.{post-refused, post-accepted}
use Rattle.preservation.proofs.Accepted.{Accepted, accepted}
use Rattle.preservation.proofs.OthersLaws.{Others, money-others, other-account}
use Rattle.preservation.proofs.FeeLaws.{Named, fee-at}
use Rattle.preservation.proofs.EventFrame.{change-others, change-account}

-- ---- what another account's debits want

module _ (b : Book) (s : Near b.day b) (n : ℕ) (rows' : List Row) (o : Others n b.rows rows') where
  -- the row that a fee of another account names
  named-others : (j : ℕ) → j ≤ length b.rows → (row_no b.rows j).account ≢ n → row_no rows' j ≡ row_no b.rows j
  named-others zero h ne = refl
  named-others (suc i) h ne = o.same i h ne

  held-others : (i : ℕ) → i < length b.rows → (get_or b.rows i blank).account ≢ n → held rows' (get_or b.rows i blank) ≡ held b.rows (get_or b.rows i blank)
  unfolding held
  held-others i l ne = go (eqb (get_or b.rows i blank).kind 2) refl
    where
      go : (t : Bool) → eqb (get_or b.rows i blank).kind 2 ≡ t
          → held_toll (get_or b.rows i blank) || t && held_toll (row_no rows' (get_or b.rows i blank).reference)
          ≡ held_toll (get_or b.rows i blank) || t && held_toll (row_no b.rows (get_or b.rows i blank).reference)
      go true e =
          let f : Named b.rows (suc i) (get_or b.rows i blank) = fee-at b.day b s i l (eqb-true (get_or b.rows i blank).kind 2 e) in
          rw (named-others (get_or b.rows i blank).reference (omega (arith, f.before)) (λ w. ne (sym f.account ∙ w)))
      go false e = refl

  pub debt-others : (m : ℕ) → m ≢ n → debt m rows' ≡ debt m b.rows
  unfolding debt only payable
  debt-others m ne =
      sym (sum_by-longer (only (payable b.rows m) remaining) (only (payable rows' m) remaining) blank b.rows rows' o.longer
      (λ i l. at i l (ℕ_discrete (get_or b.rows i blank).account n)) (λ i l h. rw (other-account n m ne (get_or rows' i blank) (o.added i l h))))
    where
      at : (i : ℕ) → i < length b.rows → Dec ((get_or b.rows i blank).account ≡ n)
          → only (payable b.rows m) remaining (get_or b.rows i blank) ≡ only (payable rows' m) remaining (get_or rows' i blank)
      at i l (yes e) = rw (other-account n m ne (get_or b.rows i blank) e, other-account n m ne (get_or rows' i blank) (o.mine i l e))
      at i l (no e) = rw (o.same i l e, held-others i l e)

-- ---- settlement moves nothing in another account

pub no-idle-money-moved : (rows : List Row) (n : ℕ) → no_idle_money rows n ≡ true → moved n rows ≡ 0
unfolding no_idle_money moved
no-idle-money-moved rows n e = go (eqb (money n rows) 0) refl e
  where
    go : (t : Bool) → eqb (money n rows) 0 ≡ t → t || eqb (debt n rows) 0 ≡ true → min (money n rows) (debt n rows) ≡ 0
    go true z e = omega (arith, eqb-true (money n rows) 0 z)
    go false z e = omega (arith, eqb-true (debt n rows) 0 e)

-- a row's account is one of the table's, and one side of it is spent
pub row-no-idle-money : (b : Book) → Sound b → (i : ℕ) → i < length b.rows → moved (get_or b.rows i blank).account b.rows ≡ 0
unfolding account_used
row-no-idle-money b s i l = go (get_or b.rows i blank).account (not-true _ (s.near.shape i l).account)
  where
    go : (m : ℕ) → eqb (account b m).state 0 ≡ false → moved m b.rows ≡ 0
    go zero e = absurd (true≢false e)
    go (suc k) e = no-idle-money-moved b.rows (suc k) (s.no-idle-money k (used-inside b.accounts (suc k) e))

module _ (b : Book) (e : Instruction) (s : Sound b) (ne : e.kind ≢ event_tick) (q : Accepted b e) where
  changed : Others (e.account) b.rows (change_of e.kind b e).rows
  changed = change-others b e e.kind s.near ne q

  after-row : (k : ℕ) → k < length b.rows → (get_or b.rows k blank).account ≢ e.account → get_or (after b e).rows k blank ≡ get_or b.rows k blank
  unfolding after settled moved
  after-row k l w =
      let rows₁ : List Row = (change_of e.kind b e).rows in
      let m : ℕ = (get_or b.rows k blank).account in
      let f : get_or rows₁ k blank ≡ get_or b.rows k blank = changed.same k l w in
      let z : moved m rows₁ ≡ 0 = rw (money-others e.account b.rows rows₁ changed m w, debt-others b s.near e.account rows₁ changed m w) (row-no-idle-money b s k l) in
      settle_accounts-still m (length (change_of e.kind b e).accounts) rows₁ k (ap (λ (r : Row). r.account) f) z ∙ f

  after-added : (k : ℕ) → length b.rows ≤ k → k < length (after b e).rows → (get_or (after b e).rows k blank).account ≡ e.account
  unfolding after settled
  after-added k l h =
      let rows₁ : List Row = (change_of e.kind b e).rows in
      let n : ℕ = length (change_of e.kind b e).accounts in
      ap (λ (r : Row). r.account) (settle_accounts-row n rows₁ k).kept ∙ changed.added k l (rw (length-settle_accounts n rows₁) at h)

  after-account : (n : ℕ) → n ≢ e.account → account (after b e) n ≡ account b n
  unfolding after settled
  after-account n w = change-account b e e.kind ne q n w

-- ---- post

module _ (b : Book) (e : Instruction) (s : sound b ≡ true) (ne : e.kind ≢ event_tick) where
  pub post-frame-account : (n : ℕ) → n ≢ e.account → account (post b e).book n ≡ account b n
  post-frame-account n w = go (eqb (answer_number b e) 0) refl
    where
      go : (t : Bool) → eqb (answer_number b e) 0 ≡ t → account (post b e).book n ≡ account b n
      go true q = rw (post-accepted b e q) (after-account b e (sound-facts b s) ne (accepted b e (eqb-true (answer_number b e) 0 q)) n w)
      go false q = rw (post-refused b e q)

  pub post-frame-row : (k : ℕ) → k < length b.rows → (get_or b.rows k blank).account ≢ e.account → get_or (post b e).book.rows k blank ≡ get_or b.rows k blank
  post-frame-row k l w = go (eqb (answer_number b e) 0) refl
    where
      go : (t : Bool) → eqb (answer_number b e) 0 ≡ t → get_or (post b e).book.rows k blank ≡ get_or b.rows k blank
      go true q = rw (post-accepted b e q) (after-row b e (sound-facts b s) ne (accepted b e (eqb-true (answer_number b e) 0 q)) k l w)
      go false q = rw (post-refused b e q)

  pub post-frame-added : (k : ℕ) → length b.rows ≤ k → k < length (post b e).book.rows → (get_or (post b e).book.rows k blank).account ≡ e.account
  post-frame-added k l h = go (eqb (answer_number b e) 0) refl
    where
      go : (t : Bool) → eqb (answer_number b e) 0 ≡ t → (get_or (post b e).book.rows k blank).account ≡ e.account
      go true q = rw (post-accepted b e q) (after-added b e (sound-facts b s) ne (accepted b e (eqb-true (answer_number b e) 0 q)) k l (rw (post-accepted b e q) at h))
      go false q = let h' : k < length b.rows = rw (post-refused b e q) at h in absurd (omega arith)
