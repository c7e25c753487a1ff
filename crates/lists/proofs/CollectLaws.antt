-- Laws of gathering: what each element of a list adds, with or without its number in view.
use mathlib.Core.Path.{◌≡◌, refl, sym, ap₂, ◌∙◌}
use mathlib.Core.Logic.{◌≢◌}
use Prim.Native.Nat.{ℕ, zero, suc, ◌+◌, ◌<◌}
use native.Mathlib.Omega.{arith}
use mathlib.Core.List.{List, [], ◌∷◌, ◌++◌, append_assoc, append-nil}
use lib.ListN.{get_or}
use Rattle.lists.specs.Lists.{gather_from}
use Rattle.lists.proofs.PairLaws.{Pairs, none, more}

-- what each element adds, its number not in view
unfoldable pub collect : {A B : Type 0} → (A → List B) → List A → List B
collect f [] = []
collect f (x ∷ xs) = f x ++ collect f xs

module _ {A B : Type 0} where
  pub gather-collect : (f : A → List B) (i : ℕ) (xs : List A) → gather_from (λ n x. f x) i xs ≡ collect f xs
  unfolding gather_from collect
  gather-collect f i [] = refl
  gather-collect f i (x ∷ xs) = rw (gather-collect f (i + 1) xs)

  pub collect-append : (f : A → List B) (xs ys : List A) → collect f (xs ++ ys) ≡ collect f xs ++ collect f ys
  unfolding collect
  collect-append f [] ys = refl
  collect-append f (x ∷ xs) ys = rw (collect-append f xs ys, append_assoc)

  -- where each element of one list adds what its partner does
  pub collect-pairs : {C : Type 0} {f : A → List B} {g : C → List B} {xs : List A} {ys : List C} → Pairs (λ x y. f x ≡ g y) xs ys → collect f xs ≡ collect g ys
  unfolding collect
  collect-pairs none = refl
  collect-pairs (more r p) = ap₂ {C = List B} ◌++◌ r (collect-pairs p)

  pub collect-none : (f : A → List B) → (xs : List A) → Pairs (λ x y. f x ≡ []) xs xs → collect f xs ≡ []
  unfolding collect
  collect-none f [] none = refl
  collect-none f (x ∷ xs) (more r p) = rw (r, collect-none f xs p)

-- what is collected from what each element adds, where only element n adds to it
module _ {A B C : Type 0} (f : B → List C) (h : ℕ → A → List B) (n : ℕ) (others : (m : ℕ) (x : A) → m ≢ n → collect f (h m x) ≡ []) where
  pub collect-past : (i : ℕ) (xs : List A) → n < i → collect f (gather_from h i xs) ≡ []
  unfolding gather_from
  collect-past i [] l = unfold collect in refl
  collect-past i (x ∷ xs) l =
      collect-append f (h i x) (gather_from h (i + 1) xs) ∙ rw (others i x (λ z. omega arith), collect-past (i + 1) xs (omega arith))

  pub collect-only : (i k : ℕ) (xs : List A) (d : A) → n ≡ i + k → collect f (h n d) ≡ [] → collect f (gather_from h i xs) ≡ collect f (h n (get_or xs k d))
  unfolding gather_from
  collect-only i k [] d e z = unfold collect in (sym z)
  collect-only i zero (x ∷ xs) d e z =
      let q : i ≡ n = omega arith in
      collect-append f (h i x) (gather_from h (i + 1) xs)
      ∙ rw (collect-past (i + 1) xs (omega arith), append-nil (collect f (h i x)), q)
  collect-only i (suc k) (x ∷ xs) d e z =
      collect-append f (h i x) (gather_from h (i + 1) xs)
      ∙ rw (others i x (λ w. omega arith)) (collect-only (i + 1) k xs d (omega arith) z)
