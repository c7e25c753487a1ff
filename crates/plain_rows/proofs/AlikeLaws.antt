-- Words read as they are, what tests tell of them, and rows of which each word is small.
use Prim.Native.Nat.{ℕ, zero, suc, ◌^◌, ◌<◌}
use native.Mathlib.Omega.{arith}
use mathlib.Core.Path.{◌≡◌, refl, sym, ap, ◌∙◌}
use mathlib.Core.Bool.{Bool, true, false}
use mathlib.Core.List.{List, [], ◌∷◌, map}
use lib.ListN.{length, get_or}
use lib.IntN.{ℤ, pos, negsuc}
use lib.Signed.{lt_z}
use mir.Syntax.{w64}
use mir.Val.{SFits, of_z}
use lib.Dec.{eqb, leb}
use borrow.Author.Tests.{le-ltb, eqb-true, leb-true, leb-false}
use Rattle.lists.specs.Tests.{◌is◌}
use Rattle.records.specs.Encoding.{nat_of, StorableRow}
use Rattle.rules.specs.Rows.{Row}
use Rattle.plain_rows.specs.Alike.{Alike, AlikeRow, AlikeWords}

-- ---- one word

-- the same number
pub alike_same : (a b : ℕ) → a ≡ b → Alike a b
alike_same a b e = record { first = λ q. e; second = λ q. e }

-- a word's bits: the number, or past every limit where it is negative
pub alike-bits : (z : ℤ) → SFits w64 z → Alike (of_z w64 z) (nat_of z)
unfolding nat_of
alike-bits (pos n) f = alike_same n n refl
alike-bits (negsuc n) f =
    let b = f.sfits in
    record { first = λ q. absurd (omega arith); second = λ q. absurd (omega arith) }

-- a word that reads as a small number is not negative
pub not-below : (z : ℤ) → nat_of z < 2 ^ 63 → lt_z z (pos 0) ≡ false
unfolding nat_of
not-below (pos n) h = le-ltb n 0 (omega arith)
not-below (negsuc n) h = absurd (omega arith)

-- a test that two pass only where they are one does not tell them apart
pub same_test : {A : Type 0} (t : A → Bool) (a b : A) → (t a ≡ true → a ≡ b) → (t b ≡ true → a ≡ b) → t a ≡ t b
same_test t a b f g = go (t a) (t b) refl refl
  where
    go : (x y : Bool) → t a ≡ x → t b ≡ y → x ≡ y
    go true y p q = sym p ∙ ap t (f p) ∙ q
    go false true p q = sym p ∙ ap t (g q) ∙ q
    go false false p q = refl

-- nor does a comparison of alike words with a small number
module _ (a b : ℕ) (w : Alike a b) (n : ℕ) (h : n < 2 ^ 63) where
  pub alike_is : eqb a n ≡ eqb b n
  alike_is = same_test (λ m. eqb m n) a b (λ e. w.first (omega (arith, eqb-true a n e))) (λ e. w.second (omega (arith, eqb-true b n e)))

  pub alike-most : leb a n ≡ leb b n
  alike-most = same_test (λ m. leb m n) a b (λ e. w.first (omega (arith, leb-true a n e))) (λ e. w.second (omega (arith, leb-true b n e)))

  pub alike-least : leb n a ≡ leb n b
  alike-least = go (leb n a) (leb n b) refl refl
    where
      go : (x y : Bool) → leb n a ≡ x → leb n b ≡ y → x ≡ y
      go true true p q = refl
      go true false p q = sym p ∙ ap (leb n) (w.second (omega (arith, leb-false n b q))) ∙ q
      go false y p q = sym p ∙ ap (leb n) (w.first (omega (arith, leb-false n a p))) ∙ q

-- ---- lists of words

pub alike-none : AlikeWords [] []
alike-none = record { each = λ k. alike_same 0 0 refl }

pub alike-more : {a b : ℕ} {xs ys : List ℕ} → Alike a b → AlikeWords xs ys → AlikeWords (a ∷ xs) (b ∷ ys)
alike-more {a} {b} {xs} {ys} h w = record { each = go }
  where
    go : (k : ℕ) → Alike (get_or (a ∷ xs) k 0) (get_or (b ∷ ys) k 0)
    go zero = h
    go (suc k) = w.each k

-- which of them are 0
pub alike-zeros : (xs ys : List ℕ) → length xs ≡ length ys → AlikeWords xs ys → map (λ n. n is 0) xs ≡ map (λ n. n is 0) ys
alike-zeros [] [] e w = refl
alike-zeros [] (y ∷ ys) e w = absurd (omega arith)
alike-zeros (x ∷ xs) [] e w = absurd (omega arith)
alike-zeros (x ∷ xs) (y ∷ ys) e w =
    rw (alike_is x y (w.each 0) 0 (omega arith), alike-zeros xs ys (omega arith) (record { each = λ k. w.each (suc k) }))

-- ---- rows

module _ (a b : Row) (w : AlikeRow a b) where
  pub alike-first : StorableRow a → a ≡ b
  alike-first s =
      rw (w.kind.first s.kind, w.account.first s.account, w.day.first s.day, w.amount.first s.amount, w.settled.first s.settled, w.mark.first s.mark, w.due.first s.due, w.dispute.first s.dispute, w.hold.first s.hold, w.reference.first s.reference)

  pub alike-second : StorableRow b → a ≡ b
  alike-second s =
      rw (w.kind.second s.kind, w.account.second s.account, w.day.second s.day, w.amount.second s.amount, w.settled.second s.settled, w.mark.second s.mark, w.due.second s.due, w.dispute.second s.dispute, w.hold.second s.hold, w.reference.second s.reference)

-- a test that only rows of small words pass does not tell alike rows apart
pub alike-test : (t : Row → Bool) → ((r : Row) → t r ≡ true → StorableRow r) → (a b : Row) → AlikeRow a b → t a ≡ t b
alike-test t small a b w = same_test t a b (λ p. alike-first a b w (small a p)) (λ q. alike-second a b w (small b q))
