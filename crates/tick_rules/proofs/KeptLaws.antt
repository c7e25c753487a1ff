-- What stays of an account's sums where its own rows keep all that settlement looks at.
use mathlib.Core.Path.{◌≡◌, refl, sym, ap, ◌∙◌}
use mathlib.Core.Logic.{◌≢◌}
use mathlib.Core.Bool.{Bool, true, false, ◌&&◌, ◌||◌}
use Prim.Native.Nat.{ℕ, zero, suc, ◌≤◌, ◌<◌}
use native.Mathlib.Omega.{arith}
use native.Mathlib.Decide.{ℕ_discrete}
use mathlib.Core.List.{List}
use lib.ListN.{length, get_or}
use lib.Dec.{eqb}
use borrow.Author.Tests.{eqb-true, ne_eqb}
use Rattle.lists.specs.Lists.{sum_by, only}
use Rattle.lists.proofs.SumLaws.{sum_by-longer}
use Rattle.rules.specs.Rows.{Row, blank, row_no, with_mark, with_due, with_hold_start, remaining, held, held_toll, source_of, debit_of, payable}
use Rattle.rules.specs.Settlement.{money, debt, owed}
use Rattle.rules.specs.Book.{Book}
use Rattle.rules.specs.SoundFacts.{Near}
use Rattle.rules.proofs.SettlementLaws.{payable-le}
use Rattle.preservation.proofs.FeeLaws.{Named, fee-at}

-- a row but for its mark, due day and hold start, which settlement does not look at
abbrev pub gist : Row → Row
gist r = with_hold_start 0 (with_due 0 (with_mark 0 r))

-- the rows of account m keep their gist, and every other row stays another's
pub record Kept (m : ℕ) (rows rows' : List Row) : Type 0 where
  pub longer : length rows ≤ length rows'
  pub mine : (k : ℕ) → k < length rows → (get_or rows k blank).account ≡ m → gist (get_or rows' k blank) ≡ gist (get_or rows k blank)
  pub others : (k : ℕ) → k < length rows → (get_or rows k blank).account ≢ m → (get_or rows' k blank).account ≢ m

module _ (m : ℕ) (rows rows' : List Row) (c : Kept m rows rows') where
  -- a sum over the account's rows to which no new row adds
  sum_kept : (f : Row → ℕ) → ((r : Row) → f (gist r) ≡ f r) → ((r : Row) → r.account ≢ m → f r ≡ 0)
      → ((k : ℕ) → length rows ≤ k → k < length rows' → f (get_or rows' k blank) ≡ 0) → sum_by f rows' ≡ sum_by f rows
  sum_kept f g z added = sym (sum_by-longer f f blank rows rows' c.longer (λ k l. at k l (ℕ_discrete (get_or rows k blank).account m)) added)
    where
      at : (k : ℕ) → k < length rows → Dec ((get_or rows k blank).account ≡ m) → f (get_or rows k blank) ≡ f (get_or rows' k blank)
      at k l (yes e) = sym (g (get_or rows k blank)) ∙ ap f (sym (c.mine k l e)) ∙ g (get_or rows' k blank)
      at k l (no e) = z (get_or rows k blank) e ∙ sym (z (get_or rows' k blank) (c.others k l e))

  pub money-kept : ((k : ℕ) → length rows ≤ k → k < length rows' → only (source_of m) remaining (get_or rows' k blank) ≡ 0) → money m rows' ≡ money m rows
  unfolding money only source_of
  money-kept = sum_kept (only (source_of m) remaining) (λ r. refl) (λ r e. rw (ne_eqb r.account m e))

  pub owed-kept : ((k : ℕ) → length rows ≤ k → k < length rows' → only (debit_of m) remaining (get_or rows' k blank) ≡ 0) → owed m rows' ≡ owed m rows
  unfolding owed only debit_of
  owed-kept = sum_kept (only (debit_of m) remaining) (λ r. refl) (λ r e. rw (ne_eqb r.account m e))

-- what the account's debits want: its fees name tolls of its own
module _ (past : ℕ) (b : Book) (s : Near past b) (m : ℕ) (rows' : List Row) (c : Kept m b.rows rows') where
  held-toll-kept : (j : ℕ) → j ≤ length b.rows → (row_no b.rows j).account ≡ m → held_toll (row_no rows' j) ≡ held_toll (row_no b.rows j)
  held-toll-kept zero h e = refl
  held-toll-kept (suc i) h e = ap (λ (r : Row). held_toll r) (c.mine i h e)

  held_kept : (k : ℕ) → k < length b.rows → (get_or b.rows k blank).account ≡ m → held rows' (get_or b.rows k blank) ≡ held b.rows (get_or b.rows k blank)
  unfolding held
  held_kept k l q = go (eqb (get_or b.rows k blank).kind 2) refl
    where
      go : (t : Bool) → eqb (get_or b.rows k blank).kind 2 ≡ t
          → held_toll (get_or b.rows k blank) || t && held_toll (row_no rows' (get_or b.rows k blank).reference)
          ≡ held_toll (get_or b.rows k blank) || t && held_toll (row_no b.rows (get_or b.rows k blank).reference)
      go true e =
          let f : Named b.rows (suc k) (get_or b.rows k blank) = fee-at past b s k l (eqb-true (get_or b.rows k blank).kind 2 e) in
          rw (held-toll-kept (get_or b.rows k blank).reference (omega (arith, f.before)) (f.account ∙ q))
      go false e = refl

  wanted-gist : (rows : List Row) (r : Row) → only (payable rows m) remaining (gist r) ≡ only (payable rows m) remaining r
  unfolding only payable held
  wanted-gist rows r = refl

  pub debt-kept : ((k : ℕ) → length b.rows ≤ k → k < length rows' → only (debit_of m) remaining (get_or rows' k blank) ≡ 0) → debt m rows' ≡ debt m b.rows
  unfolding debt
  debt-kept added =
      sym (sum_by-longer (only (payable b.rows m) remaining) (only (payable rows' m) remaining) blank b.rows rows' c.longer
      (λ k l. at k l (ℕ_discrete (get_or b.rows k blank).account m)) (λ k l h. omega (arith, payable-le rows' m (get_or rows' k blank), added k l h)))
    where
      other : (rows : List Row) (r : Row) → r.account ≢ m → only (payable rows m) remaining r ≡ 0
      other rows r e = unfold only payable in rw (ne_eqb r.account m e)

      same : (k : ℕ) → k < length b.rows → (get_or b.rows k blank).account ≡ m → only (payable rows' m) remaining (get_or b.rows k blank) ≡ only (payable b.rows m) remaining (get_or b.rows k blank)
      same k l e = unfold only payable in rw (held_kept k l e)

      at : (k : ℕ) → k < length b.rows → Dec ((get_or b.rows k blank).account ≡ m) → only (payable b.rows m) remaining (get_or b.rows k blank) ≡ only (payable rows' m) remaining (get_or rows' k blank)
      at k l (yes e) =
          sym (same k l e) ∙ sym (wanted-gist rows' (get_or b.rows k blank)) ∙ ap (only (payable rows' m) remaining) (sym (c.mine k l e)) ∙ wanted-gist rows' (get_or rows' k blank)
      at k l (no e) = other b.rows (get_or b.rows k blank) e ∙ sym (other rows' (get_or rows' k blank) (c.others k l e))
