-- A journal in which only rows of one account change and are added: what this leaves alone of the other accounts.
use mathlib.Core.Path.{◌≡◌, refl, sym, ap, ◌∙◌}
use mathlib.Core.Logic.{◌≢◌}
use mathlib.Core.Bool.{false, cond}
use Prim.Native.Nat.{ℕ, ◌+◌, ◌≤◌, ◌<◌}
use native.Mathlib.Omega.{arith}
use native.Mathlib.Decide.{ℕ_discrete, dec_lt}
use mathlib.Core.List.{List, [], ◌∷◌, ◌++◌, map}
use lib.ListN.{length, get_or, set, length-append, length-set, length-map, get_or-append}
use lib.Seq.{get_or-append_seam, get_or-set_same, get_or-set_other}
use lib.Dec.{eqb}
use borrow.Author.Tests.{ne_eqb}
use Rattle.lists.specs.Lists.{sum_by, only, count}
use Rattle.lists.proofs.SumLaws.{sum_by-longer}
use Rattle.rules.specs.Rows.{Row, blank, remaining, source_of, debit_of}
use Rattle.rules.specs.Settlement.{money, used, paid, owed}
use Rattle.rules.specs.Book.{Account}
use Rattle.rules.specs.Soundness.{returned_of, returned_fits, used_is_paid, closed_clear}
use Rattle.rules.specs.SoundFacts.{SumsFit}
use Rattle.lists.proofs.ListLaws.{map_at}

pub record Others (n : ℕ) (rows rows' : List Row) : Type 0 where
  pub longer : length rows ≤ length rows'
  pub same : (k : ℕ) → k < length rows → (get_or rows k blank).account ≢ n → get_or rows' k blank ≡ get_or rows k blank
  pub mine : (k : ℕ) → k < length rows → (get_or rows k blank).account ≡ n → (get_or rows' k blank).account ≡ n
  pub added : (k : ℕ) → length rows ≤ k → k < length rows' → (get_or rows' k blank).account ≡ n

-- ---- such changes

pub others_same : (n : ℕ) (rows : List Row) → Others n rows rows
others_same n rows = record { longer = omega arith; same = λ k l e. refl; mine = λ k l e. e; added = λ k l h. absurd (omega arith) }

pub others-others : (n : ℕ) (rows rows₁ rows₂ : List Row) → Others n rows rows₁ → Others n rows₁ rows₂ → Others n rows rows₂
others-others n rows rows₁ rows₂ p q =
    let a : length rows ≤ length rows₁ = p.longer in
    let b : length rows₁ ≤ length rows₂ = q.longer in
    record {
      longer = omega arith;
      same = λ k l e.
          let f : get_or rows₁ k blank ≡ get_or rows k blank = p.same k l e in
          q.same k (omega arith) (λ w. e (sym (ap (λ (r : Row). r.account) f) ∙ w)) ∙ f;
      mine = λ k l e. q.mine k (omega arith) (p.mine k l e);
      added = λ k l h. new k l h (dec_lt k (length rows₁));
    }
  where
    new : (k : ℕ) → length rows ≤ k → k < length rows₂ → Dec (k < length rows₁) → (get_or rows₂ k blank).account ≡ n
    new k l h (yes i) = q.mine k i (p.added k l i)
    new k l h (no i) = q.added k (omega arith) h

pub others-add : (n : ℕ) (rows : List Row) (r : Row) → r.account ≡ n → Others n rows (rows ++ (r ∷ []))
others-add n rows r e =
    let m : length (rows ++ (r ∷ [])) ≡ length rows + 1 = length-append rows (r ∷ []) in
    record {
      longer = omega arith;
      same = λ k l o. get_or-append rows (r ∷ []) blank k l;
      mine = λ k l o. ap (λ (x : Row). x.account) (get_or-append rows (r ∷ []) blank k l) ∙ o;
      added = λ k l h.
          let z : k ≡ length rows = omega arith in
          let w : get_or (rows ++ (r ∷ [])) k blank ≡ r = rw z (get_or-append_seam rows r [] blank) in
          rw w e;
    }

pub others-set : (n : ℕ) (rows : List Row) (j : ℕ) (r : Row) → (get_or rows j blank).account ≡ n → r.account ≡ n → Others n rows (set rows j r)
others-set n rows j r o e =
    let m : length (set rows j r) ≡ length rows = length-set rows j r in
    record {
      longer = omega arith;
      same = λ k l w. get_or-set_other rows j k r blank (λ z. w (ap (λ (i : ℕ). (get_or rows i blank).account) z ∙ o));
      mine = λ k l w. at k l w (ℕ_discrete k j);
      added = λ k l h. absurd (omega arith);
    }
  where
    at : (k : ℕ) → k < length rows → (get_or rows k blank).account ≡ n → Dec (k ≡ j) → (get_or (set rows j r) k blank).account ≡ n
    at k l w (yes z) = let i : j < length rows = omega arith in rw (z, get_or-set_same rows j r blank i) e
    at k l w (no z) = rw (get_or-set_other rows j k r blank z) w

pub others-map : (n : ℕ) (rows : List Row) (f : Row → Row) → f blank ≡ blank → ((r : Row) → (f r).account ≡ r.account)
    → ((k : ℕ) → k < length rows → (get_or rows k blank).account ≢ n → f (get_or rows k blank) ≡ get_or rows k blank) → Others n rows (map f rows)
others-map n rows f rest a e =
    let m : length (map f rows) ≡ length rows = length-map rows f in
    record {
      longer = omega arith;
      same = λ k l w. map_at f rows k blank rest ∙ e k l w;
      mine = λ k l w. rw (map_at f rows k blank rest) (a (get_or rows k blank) ∙ w);
      added = λ k l h. absurd (omega arith);
    }

-- ---- what they leave alone

pub other-account : (n m : ℕ) → m ≢ n → (r : Row) → r.account ≡ n → eqb r.account m ≡ false
other-account n m ne r e = ne_eqb r.account m (λ w. ne (sym w ∙ e))

module _ (n : ℕ) (rows rows' : List Row) (o : Others n rows rows') where
  -- a sum to which rows of account n add nothing
  pub sum-others : (f : Row → ℕ) → ((r : Row) → r.account ≡ n → f r ≡ 0) → sum_by f rows' ≡ sum_by f rows
  sum-others f z =
      sym (sum_by-longer f f blank rows rows' o.longer (λ i l. at i l (ℕ_discrete (get_or rows i blank).account n)) (λ i l h. z (get_or rows' i blank) (o.added i l h)))
    where
      at : (i : ℕ) → i < length rows → Dec ((get_or rows i blank).account ≡ n) → f (get_or rows i blank) ≡ f (get_or rows' i blank)
      at i l (yes e) = z (get_or rows i blank) e ∙ sym (z (get_or rows' i blank) (o.mine i l e))
      at i l (no e) = ap f (sym (o.same i l e))

  module _ (m : ℕ) (ne : m ≢ n) where
    pub used-others : used m rows' ≡ used m rows
    unfolding used only source_of
    used-others = sum-others (only (source_of m) (λ r. r.settled)) (λ r e. rw (other-account n m ne r e))

    pub paid-others : paid m rows' ≡ paid m rows
    unfolding paid only debit_of
    paid-others = sum-others (only (debit_of m) (λ r. r.settled)) (λ r e. rw (other-account n m ne r e))

    pub money-others : money m rows' ≡ money m rows
    unfolding money only source_of
    money-others = sum-others (only (source_of m) remaining) (λ r e. rw (other-account n m ne r e))

    pub owed-others : owed m rows' ≡ owed m rows
    unfolding owed only debit_of
    owed-others = sum-others (only (debit_of m) remaining) (λ r e. rw (other-account n m ne r e))

    returned-others : count (returned_of m) rows' ≡ count (returned_of m) rows
    unfolding count returned_of
    returned-others = sum-others (λ r. cond (returned_of m r) 1 0) (λ r e. rw (other-account n m ne r e))

    pub counted-others : (x : Account) → SumsFit rows m x → SumsFit rows' m x
    unfolding returned_fits used_is_paid closed_clear
    counted-others x c = record {
      returned = rw returned-others c.returned;
      used-is-paid = rw (used-others, paid-others) c.used-is-paid;
      clear = rw (money-others, owed-others) c.clear;
    }
