-- Two lists of one length, related element by element, and how the relation passes through appends, stores, maps and gathers.
use mathlib.Core.Path.{◌≡◌, refl, ap, ap₂}
use mathlib.Core.Bool.{Bool, true, false}
use Prim.Native.Nat.{ℕ, zero, suc, ◌+◌, ◌<◌}
use native.Mathlib.Omega.{arith}
use mathlib.Core.List.{List, [], ◌∷◌, ◌++◌, map}
use lib.ListN.{length, get_or, set}
use Rattle.lists.specs.Lists.{sum_by, one, change_from, gather_from}

pub data Pairs {A B : Type 0} (R : A → B → Type 0) : List A → List B → Type 0 where
  none : Pairs R [] []
  more : {x : A} {y : B} {xs : List A} {ys : List B} → R x y → Pairs R xs ys → Pairs R (x ∷ xs) (y ∷ ys)

module _ {A B : Type 0} {R : A → B → Type 0} where
  pub pairs-length : {xs : List A} {ys : List B} → Pairs R xs ys → length xs ≡ length ys
  pairs-length none = refl
  pairs-length (more r p) = ap suc (pairs-length p)

  -- at each place; d and e stand past the end
  pub pairs-at : {xs : List A} {ys : List B} (d : A) (e : B) → R d e → Pairs R xs ys → (k : ℕ) → R (get_or xs k d) (get_or ys k e)
  pairs-at d e q none k = q
  pairs-at d e q (more r p) zero = r
  pairs-at d e q (more r p) (suc k) = pairs-at d e q p k

  pub pairs-in : {xs : List A} {ys : List B} (d : A) (e : B) → Pairs R xs ys → (k : ℕ) → k < length xs → R (get_or xs k d) (get_or ys k e)
  pairs-in d e none k h = absurd (omega arith)
  pairs-in d e (more r p) zero h = r
  pairs-in d e (more r p) (suc k) h = pairs-in d e p k (omega arith)

  pub pairs-each : (d : A) (e : B) (xs : List A) (ys : List B) → length xs ≡ length ys → ((k : ℕ) → k < length xs → R (get_or xs k d) (get_or ys k e)) → Pairs R xs ys
  pairs-each d e [] [] l f = none
  pairs-each d e [] (y ∷ ys) l f = absurd (omega arith)
  pairs-each d e (x ∷ xs) [] l f = absurd (omega arith)
  pairs-each d e (x ∷ xs) (y ∷ ys) l f = more (f 0 (omega arith)) (pairs-each d e xs ys (omega arith) (λ k h. f (suc k) (omega arith)))

  pub pairs-append : {xs us : List A} {ys vs : List B} → Pairs R xs ys → Pairs R us vs → Pairs R (xs ++ us) (ys ++ vs)
  pairs-append none q = q
  pairs-append (more r p) q = more r (pairs-append p q)

  pub pairs_set : {xs : List A} {ys : List B} (i : ℕ) (x : A) (y : B) → R x y → Pairs R xs ys → Pairs R (set xs i x) (set ys i y)
  pairs_set i x y q none = none
  pairs_set zero x y q (more r p) = more q p
  pairs_set (suc i) x y q (more r p) = more r (pairs_set i x y q p)

  -- a store on one side
  pub pairs-set-left : {xs : List A} {ys : List B} (i : ℕ) (x : A) (e : B) → R x (get_or ys i e) → Pairs R xs ys → Pairs R (set xs i x) ys
  pairs-set-left i x e q none = none
  pairs-set-left zero x e q (more r p) = more q p
  pairs-set-left (suc i) x e q (more r p) = more r (pairs-set-left i x e q p)

module _ {A B C D : Type 0} {R : A → B → Type 0} {S : C → D → Type 0} where
  pub pairs-map : (f : A → C) (g : B → D) → ((x : A) (y : B) → R x y → S (f x) (g y)) → {xs : List A} {ys : List B} → Pairs R xs ys → Pairs S (map f xs) (map g ys)
  pairs-map f g h none = none
  pairs-map f g h (more {x} {y} r p) = more (h x y r) (pairs-map f g h p)

  pub pairs-map-in : (f : A → C) (g : B → D) (d : A) (e : B) {xs : List A} {ys : List B} → Pairs R xs ys
      → ((k : ℕ) → k < length xs → R (get_or xs k d) (get_or ys k e) → S (f (get_or xs k d)) (g (get_or ys k e))) → Pairs S (map f xs) (map g ys)
  pairs-map-in f g d e none h = none
  pairs-map-in f g d e (more r p) h = more (h 0 (omega arith) r) (pairs-map-in f g d e p (λ k l. h (suc k) (omega arith)))

module _ {A B : Type 0} {R S : A → B → Type 0} where
  pub pairs-to : ((x : A) (y : B) → R x y → S x y) → {xs : List A} {ys : List B} → Pairs R xs ys → Pairs S xs ys
  pairs-to h none = none
  pairs-to h (more {x} {y} r p) = more (h x y r) (pairs-to h p)

module _ {A B : Type 0} {R S : A → B → Type 0} where
  -- a map on one side
  pub pairs-map-right : (g : B → B) → ((x : A) (y : B) → R x y → S x (g y)) → {xs : List A} {ys : List B} → Pairs R xs ys → Pairs S xs (map g ys)
  pairs-map-right g h none = none
  pairs-map-right g h (more {x} {y} r p) = more (h x y r) (pairs-map-right g h p)

-- ---- a list and what it becomes

module _ {A : Type 0} {R : A → A → Type 0} where
  pub pairs-self : ((x : A) → R x x) → (xs : List A) → Pairs R xs xs
  pairs-self f [] = none
  pairs-self f (x ∷ xs) = more (f x) (pairs-self f xs)

  pub pairs-map-self : (f : A → A) → ((x : A) → R x (f x)) → (xs : List A) → Pairs R xs (map f xs)
  pairs-map-self f h [] = none
  pairs-map-self f h (x ∷ xs) = more (h x) (pairs-map-self f h xs)

  pub pairs-set-self : ((x : A) → R x x) → (xs : List A) (i : ℕ) (y d : A) → R (get_or xs i d) y → Pairs R xs (set xs i y)
  pairs-set-self f [] i y d q = none
  pairs-set-self f (x ∷ xs) zero y d q = more q (pairs-self f xs)
  pairs-set-self f (x ∷ xs) (suc i) y d q = more (f x) (pairs-set-self f xs i y d q)

-- ---- one, change, gather, map and sum_by

module _ {A B : Type 0} {R : A → B → Type 0} where
  pub pairs-one : (v : Bool) (x : A) (y : B) → (v ≡ true → R x y) → Pairs R (one v x) (one v y)
  pairs-one true x y q = more (q refl) none
  pairs-one false x y q = none

  -- each element changed, its number in view
  pub pairs-change : (f : ℕ → A → A) (g : ℕ → B → B) (d : A) (e : B) (i : ℕ) {xs : List A} {ys : List B} → Pairs R xs ys
      → ((k n : ℕ) → n ≡ i + k → k < length xs → R (get_or xs k d) (get_or ys k e) → R (f n (get_or xs k d)) (g n (get_or ys k e)))
      → Pairs R (change_from f i xs) (change_from g i ys)
  unfolding change_from
  pairs-change f g d e i none h = none
  pairs-change f g d e i (more r p) h =
      more (h 0 i (omega arith) (omega arith) r) (pairs-change f g d e (i + 1) p (λ k n q l s. h (suc k) n (omega arith) (omega arith) s))

module _ {A B C D : Type 0} {S : C → D → Type 0} where
  -- what each element adds
  pub pairs-gather : (f : ℕ → A → List C) (g : ℕ → B → List D) (d : A) (e : B) (i : ℕ) (xs : List A) (ys : List B) → length xs ≡ length ys
      → ((k n : ℕ) → n ≡ i + k → k < length xs → Pairs S (f n (get_or xs k d)) (g n (get_or ys k e))) → Pairs S (gather_from f i xs) (gather_from g i ys)
  unfolding gather_from
  pairs-gather f g d e i [] [] l h = none
  pairs-gather f g d e i [] (y ∷ ys) l h = absurd (omega arith)
  pairs-gather f g d e i (x ∷ xs) [] l h = absurd (omega arith)
  pairs-gather f g d e i (x ∷ xs) (y ∷ ys) l h =
      pairs-append (h 0 i (omega arith) (omega arith)) (pairs-gather f g d e (i + 1) xs ys (omega arith) (λ k n q b. h (suc k) n (omega arith) (omega arith)))

module _ {A B : Type 0} where
  pub pairs-same : {C : Type 0} {f : A → C} {g : B → C} {xs : List A} {ys : List B} → Pairs (λ x y. f x ≡ g y) xs ys → map f xs ≡ map g ys
  pairs-same none = refl
  pairs-same {C = C} (more r p) = ap₂ {C = List C} ◌∷◌ r (pairs-same p)

  pub pairs-sum : {f : A → ℕ} {g : B → ℕ} {xs : List A} {ys : List B} → Pairs (λ x y. f x ≡ g y) xs ys → sum_by f xs ≡ sum_by g ys
  unfolding sum_by
  pairs-sum none = refl
  pairs-sum (more r p) = omega (arith, r, pairs-sum p)
