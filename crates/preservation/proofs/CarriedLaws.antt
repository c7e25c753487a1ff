-- A journal changed and grown so that rows keep their kind and account: references stay good, and with them the shape of rows.
use mathlib.Core.Path.{◌≡◌, refl, ap, ◌∙◌}
use mathlib.Core.Bool.{Bool, true, false, ◌&&◌}
use Prim.Native.Nat.{ℕ, zero, suc, ◌≤◌, ◌<◌}
use native.Mathlib.Omega.{arith}
use native.Mathlib.Decide.{ℕ_discrete}
use mathlib.Core.List.{List, ◌++◌, map}
use lib.ListN.{length, get_or, set, get_or-append}
use lib.Seq.{get_or-set_same, get_or-set_other}
use lib.Dec.{eqb, ltb}
use borrow.Author.Tests.{ltb-true}
use Rattle.lists.proofs.GatherLaws.{grown-at}
use Rattle.rules.specs.Rows.{Row, blank, row_no}
use Rattle.rules.specs.Book.{Account}
use Rattle.rules.specs.Soundness.{names, reference_fits, passage_once, fees_fit}
use Rattle.rules.specs.SoundFacts.{Shape}
use Rattle.lists.proofs.ListLaws.{map_at}

-- the second list of rows has those of the first under their numbers, with their kind and account
pub record Carries (rows rows' : List Row) : Type 0 where
  pub kind : (j : ℕ) → j ≤ length rows → (row_no rows' j).kind ≡ (row_no rows j).kind
  pub account : (j : ℕ) → j ≤ length rows → (row_no rows' j).account ≡ (row_no rows j).account

-- ---- what carries: rows changed and rows added

pub carries-grown : (f : Row → Row) → f blank ≡ blank → ((r : Row) → (f r).kind ≡ r.kind) → ((r : Row) → (f r).account ≡ r.account) → (rows more : List Row)
    → Carries rows (map f rows ++ more)
carries-grown f rest p q rows more = record { kind = kinds; account = accounts }
  where
    kinds : (j : ℕ) → j ≤ length rows → (row_no (map f rows ++ more) j).kind ≡ (row_no rows j).kind
    kinds zero h = refl
    kinds (suc i) h = rw (grown-at f blank rest rows more i h) (p (get_or rows i blank))

    accounts : (j : ℕ) → j ≤ length rows → (row_no (map f rows ++ more) j).account ≡ (row_no rows j).account
    accounts zero h = refl
    accounts (suc i) h = rw (grown-at f blank rest rows more i h) (q (get_or rows i blank))

pub carries-map : (f : Row → Row) → f blank ≡ blank → ((r : Row) → (f r).kind ≡ r.kind) → ((r : Row) → (f r).account ≡ r.account) → (rows : List Row) → Carries rows (map f rows)
carries-map f rest p q rows = record { kind = λ j h. at j (λ r. r.kind) p; account = λ j h. at j (λ r. r.account) q }
  where
    at : (j : ℕ) (g : Row → ℕ) → ((r : Row) → g (f r) ≡ g r) → g (row_no (map f rows) j) ≡ g (row_no rows j)
    at zero g e = refl
    at (suc i) g e = rw (map_at f rows i blank rest) (e (get_or rows i blank))

pub carries-append : (rows more : List Row) → Carries rows (rows ++ more)
carries-append rows more = record { kind = λ j h. ap (λ (r : Row). r.kind) (named j h); account = λ j h. ap (λ (r : Row). r.account) (named j h) }
  where
    named : (j : ℕ) → j ≤ length rows → row_no (rows ++ more) j ≡ row_no rows j
    named zero h = refl
    named (suc i) h = get_or-append rows more blank i h

pub carries-set : (rows : List Row) (j : ℕ) (r : Row) → r.kind ≡ (get_or rows j blank).kind → r.account ≡ (get_or rows j blank).account → Carries rows (set rows j r)
carries-set rows j r p q = record { kind = λ i h. at i h (λ x. x.kind) p; account = λ i h. at i h (λ x. x.account) q }
  where
    at : (i : ℕ) → i ≤ length rows → (f : Row → ℕ) → f r ≡ f (get_or rows j blank) → f (row_no (set rows j r) i) ≡ f (row_no rows i)
    at zero h f e = refl
    at (suc i) h f e = go (ℕ_discrete i j)
      where
        go : Dec (i ≡ j) → f (get_or (set rows j r) i blank) ≡ f (get_or rows i blank)
        go (yes w) = let l : j < length rows = omega arith in rw (w, get_or-set_same rows j r blank l) e
        go (no w) = rw (get_or-set_other rows j i r blank w)

pub carries-carries : (rows rows₁ rows₂ : List Row) → length rows ≤ length rows₁ → Carries rows rows₁ → Carries rows₁ rows₂ → Carries rows rows₂
carries-carries rows rows₁ rows₂ l c d = record {
  kind = λ j h. d.kind j (omega arith) ∙ c.kind j h;
  account = λ j h. d.account j (omega arith) ∙ c.account j h;
}

-- ---- what is carried

module _ (rows rows' : List Row) (c : Carries rows rows') where
  pub names-carried : (n : ℕ) (x : Row) (k : ℕ) → n ≤ suc (length rows) → names rows' n x k ≡ names rows n x k
  unfolding names
  names-carried n x k h = go (ltb x.reference n) refl
    where
      go : (b : Bool) → ltb x.reference n ≡ b
          → b && eqb (row_no rows' x.reference).kind k && eqb (row_no rows' x.reference).account x.account
          ≡ b && eqb (row_no rows x.reference).kind k && eqb (row_no rows x.reference).account x.account
      go true e =
          let l : x.reference ≤ length rows = omega (arith, ltb-true x.reference n e) in
          rw (c.kind x.reference l, c.account x.reference l)
      go false e = refl

  pub reference-carried : (n : ℕ) (x : Row) → n ≤ suc (length rows) → reference_fits rows' n x ≡ reference_fits rows n x
  unfolding reference_fits
  reference-carried n x h = rw (names-carried n x 1 h, names-carried n x 4 h)

  -- a row's own fields stay; what it says of the rest of the journal is given
  pub shape-carried : (today : ℕ) (xs : List Account) (n : ℕ) (r : Row) → n ≤ suc (length rows) → passage_once rows' r ≡ true → fees_fit rows' n r ≡ true
      → Shape today xs rows n r → Shape today xs rows' n r
  shape-carried today xs n r h p f s = record {
    kind = s.kind;
    amount = s.amount;
    mark = s.mark;
    words = s.words;
    none = s.none;
    day = s.day;
    account = s.account;
    reference = reference-carried n r h ∙ s.reference;
    passage = p;
    fees = f;
  }
