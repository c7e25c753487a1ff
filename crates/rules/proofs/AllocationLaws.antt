-- Laws of allocate: what an amount allocated over rows in row order does to each row and to every sum.
use mathlib.Core.Path.{◌≡◌, refl, ap, ap₂, ◌∙◌}
use mathlib.Core.Bool.{Bool, true, false, not, cond, ◌&&◌, true≢false}
use Prim.Native.Nat.{ℕ, zero, suc, ◌+◌, ◌-◌, ◌≤◌, ◌<◌, min}
use native.Mathlib.Nat.{add-zero, add_assoc, min-zero, zero-sub, le_of_suc-le-suc, not-suc-le-zero}
use native.Mathlib.Omega.{arith}
use mathlib.Core.List.{List, [], ◌∷◌, map}
use lib.ListN.{length, take, get_or, set}
use Rattle.lists.specs.Lists.{sum_by, only}
use Rattle.rules.specs.Rows.{Row, Test, blank, with_settled, remaining, settle_more}
use Rattle.rules.specs.Settlement.{allocate}

-- ---- the words of these laws

-- a row without what is settled of it
abbrev pub bare : Row → Row
bare r = with_settled 0 r

-- a test that does not look at what is settled; two tests that no row passes both of
abbrev pub Steady : Test → Type 0
Steady t = (r : Row) (n : ℕ) → t (settle_more r n) ≡ t r

abbrev pub Apart : Test → Test → Type 0
Apart t u = (r : Row) → t r && u r ≡ false

-- a row that passes t passes u
abbrev pub Within : Test → Test → Type 0
Within t u = (r : Row) → t r && not (u r) ≡ false

pub within-self : (t : Test) → Within t t
within-self t r = go (t r)
  where
    go : (b : Bool) → b && not b ≡ false
    go true = refl
    go false = refl

-- ---- one row

pub settle_more-zero : (r : Row) → settle_more r 0 ≡ r
settle_more-zero r = rw add-zero

pub settle_more-settle_more : (r : Row) (n m : ℕ) → settle_more (settle_more r n) m ≡ settle_more r (n + m)
settle_more-settle_more r n m = rw add_assoc

pub only-settle_more : (t : Test) → Steady t → (r : Row) (n : ℕ) → only t remaining (settle_more r n) ≡ only t remaining r - n
unfolding only
only-settle_more t s r n = rw (s r n) (go (t r))
  where
    go : (b : Bool) → cond b (r.amount - (r.settled + n)) 0 ≡ cond b (r.amount - r.settled) 0 - n
    go true = omega arith
    go false = omega arith

pub only-settle_more-other : (t u : Test) (f g : Row → ℕ) → Apart t u → Steady u → (r : Row) (n : ℕ) → n ≤ only t g r → only u f (settle_more r n) ≡ only u f r
unfolding only
only-settle_more-other t u f g a s r n h = rw (s r n) (go (t r) (u r) (a r) h)
  where
    go : (b c : Bool) → b && c ≡ false → n ≤ cond b (g r) 0 → cond c (f (settle_more r n)) 0 ≡ cond c (f r) 0
    go true true e l = absurd (true≢false e)
    go true false e l = refl
    go false c e l = let z : n ≡ 0 = omega arith in rw (z, settle_more-zero r)

-- ---- allocate

pub allocate-zero : (t : Test) (rows : List Row) → allocate t 0 rows ≡ rows
unfolding allocate
allocate-zero t [] = refl
allocate-zero t (r ∷ rs) = simp (min-zero, zero-sub, settle_more-zero, allocate-zero t rs)

-- two allocations are one of their sum
pub allocate-allocate : (t : Test) → Steady t → (p q : ℕ) (rows : List Row) → allocate t q (allocate t p rows) ≡ allocate t (p + q) rows
unfolding allocate
allocate-allocate t s p q [] = refl
allocate-allocate t s p q (r ∷ rs) =
    let c : ℕ = only t remaining r in
    let e : only t remaining (settle_more r (min c p)) ≡ c - min c p = only-settle_more t s r (min c p) in
    rw (e, settle_more-settle_more r (min c p) (min (c - min c p) q), allocate-allocate t s (p - c) (q - (c - min c p)) rs)
    (ap₂ {C = List Row} (λ (n m : ℕ). settle_more r n ∷ allocate t m rs) (omega arith) (omega arith))

-- allocations under tests that are apart change places
pub allocate-comm : (t u : Test) → Steady t → Steady u → Apart t u → Apart u t → (p q : ℕ) (rows : List Row) → allocate u q (allocate t p rows) ≡ allocate t p (allocate u q rows)
unfolding allocate
allocate-comm t u st su a b p q [] = refl
allocate-comm t u st su a b p q (r ∷ rs) =
    let c : ℕ = only t remaining r in
    let d : ℕ = only u remaining r in
    let e : only u remaining (settle_more r (min c p)) ≡ d = only-settle_more-other t u remaining remaining a su r (min c p) (omega arith) in
    let f : only t remaining (settle_more r (min d q)) ≡ c = only-settle_more-other u t remaining remaining b st r (min d q) (omega arith) in
    rw (e, f, settle_more-settle_more r (min c p) (min d q), settle_more-settle_more r (min d q) (min c p), allocate-comm t u st su a b (p - c) (q - d) rs)
    (ap {B = List Row} (λ (n : ℕ). settle_more r n ∷ allocate t (p - c) (allocate u (q - d) rs)) (omega arith))

-- what an allocation under t does to the sums under a wider test u
settled-settle_more : (t u : Test) → Within t u → Steady u → (r : Row) (n : ℕ) → n ≤ only t remaining r
    → only u (λ x. x.settled) (settle_more r n) ≡ only u (λ x. x.settled) r + n
unfolding only
settled-settle_more t u w s r n = rw (s r n) (go (t r) (u r) (w r))
  where
    go : (b c : Bool) → b && not c ≡ false → n ≤ cond b (r.amount - r.settled) 0 → cond c (r.settled + n) 0 ≡ cond c r.settled 0 + n
    go true false e l = absurd (true≢false e)
    go true true e l = refl
    go false true e l = refl
    go false false e l = omega arith

remaining-settle_more : (t u : Test) → Within t u → Steady u → (r : Row) (n : ℕ) → n ≤ only t remaining r → only u remaining (settle_more r n) + n ≡ only u remaining r
unfolding only
remaining-settle_more t u w s r n = rw (s r n) (go (t r) (u r) (w r))
  where
    go : (b c : Bool) → b && not c ≡ false → n ≤ cond b (r.amount - r.settled) 0
        → cond c (r.amount - (r.settled + n)) 0 + n ≡ cond c (r.amount - r.settled) 0
    go true false e l = absurd (true≢false e)
    go true true e l = omega arith
    go false true e l = omega arith
    go false false e l = omega arith

pub settled-allocate : (t u : Test) → Within t u → Steady u → (p : ℕ) (rows : List Row)
    → sum_by (only u (λ x. x.settled)) (allocate t p rows) ≡ sum_by (only u (λ x. x.settled)) rows + min p (sum_by (only t remaining) rows)
unfolding allocate sum_by
settled-allocate t u w s p [] = omega arith
settled-allocate t u w s p (r ∷ rs) =
    omega (arith, settled-settle_more t u w s r (min (only t remaining r) p) (omega arith), settled-allocate t u w s (p - only t remaining r) rs)

pub remaining-allocate : (t u : Test) → Within t u → Steady u → (p : ℕ) (rows : List Row)
    → sum_by (only u remaining) (allocate t p rows) + min p (sum_by (only t remaining) rows) ≡ sum_by (only u remaining) rows
unfolding allocate sum_by
remaining-allocate t u w s p [] = omega arith
remaining-allocate t u w s p (r ∷ rs) =
    omega (arith, remaining-settle_more t u w s r (min (only t remaining r) p) (omega arith), remaining-allocate t u w s (p - only t remaining r) rs)

-- nothing is seen of an allocation under another test
pub other-allocate : (t u : Test) (f : Row → ℕ) → Apart t u → Steady u → (p : ℕ) (rows : List Row) → sum_by (only u f) (allocate t p rows) ≡ sum_by (only u f) rows
unfolding allocate sum_by
other-allocate t u f a s p [] = refl
other-allocate t u f a s p (r ∷ rs) =
    omega (arith, only-settle_more-other t u f remaining a s r (min (only t remaining r) p) (omega arith), other-allocate t u f a s (p - only t remaining r) rs)

-- nor by what does not look at what is settled: the length, and every other field
pub map-allocate : {B : Type 0} (f : Row → B) → ((r : Row) (n : ℕ) → f (settle_more r n) ≡ f r) → (t : Test) (p : ℕ) (rows : List Row) → map f (allocate t p rows) ≡ map f rows
unfolding allocate
map-allocate f e t p [] = refl
map-allocate f e t p (r ∷ rs) = rw (e r, map-allocate f e t (p - only t remaining r) rs)

pub length-allocate : (t : Test) (p : ℕ) (rows : List Row) → length (allocate t p rows) ≡ length rows
unfolding allocate
length-allocate t p [] = refl
length-allocate t p (r ∷ rs) = ap suc (length-allocate t (p - only t remaining r) rs)

-- what row i takes: the minus of what remains of it and what the rows before it leave
unfoldable pub share : Test → ℕ → List Row → ℕ → ℕ
share t p rows i = min (only t remaining (get_or rows i blank)) (p - sum_by (only t remaining) (take i rows))

pub only-blank : (t : Test) → only t remaining blank ≡ 0
unfolding only
only-blank t = go (t blank)
  where
    go : (b : Bool) → ◌≡◌ {A = ℕ} (cond b 0 0) 0
    go true = refl
    go false = refl

pub allocate-at : (t : Test) (p : ℕ) (rows : List Row) (i : ℕ) → get_or (allocate t p rows) i blank ≡ settle_more (get_or rows i blank) (share t p rows i)
unfolding allocate share sum_by
allocate-at t p [] i = let z : share t p [] i ≡ 0 = omega (arith, only-blank t) in rw z
allocate-at t p (r ∷ rs) zero = ap {B = Row} (λ (n : ℕ). settle_more r n) (omega arith)
allocate-at t p (r ∷ rs) (suc i) =
    allocate-at t (p - only t remaining r) rs i ∙ ap {B = Row} (λ (n : ℕ). settle_more (get_or rs i blank) n) (omega arith)

-- an allocation that the first row with something remaining can take is a store to that row
pub allocate-first : (t : Test) (m : ℕ) (rows : List Row) (i : ℕ) → i < length rows → sum_by (only t remaining) (take i rows) ≡ 0 → m ≤ only t remaining (get_or rows i blank)
    → allocate t m rows ≡ set rows i (settle_more (get_or rows i blank) m)
unfolding allocate sum_by
allocate-first t m [] i h z l = absurd (not-suc-le-zero h)
allocate-first t m (r ∷ rs) zero h z l =
    let e : min (only t remaining r) m ≡ m = omega arith in
    let g : m - only t remaining r ≡ 0 = omega arith in
    rw (e, g, allocate-zero t rs)
allocate-first t m (r ∷ rs) (suc i) h z l =
    let e : min (only t remaining r) m ≡ 0 = omega arith in
    let g : m - only t remaining r ≡ m = omega arith in
    rw (e, g, settle_more-zero r, allocate-first t m rs i (le_of_suc-le-suc h) (omega arith) l)

-- a row has enough remaining for what tests that are apart give it
pub apart-remaining : (t u : Test) → Apart t u → (r : Row) → only t remaining r + only u remaining r ≤ remaining r
unfolding only
apart-remaining t u a r = go (t r) (u r) (a r)
  where
    go : (b c : Bool) → b && c ≡ false → cond b (remaining r) 0 + cond c (remaining r) 0 ≤ remaining r
    go true true e = absurd (true≢false e)
    go true false e = omega arith
    go false true e = omega arith
    go false false e = omega arith

pub take-allocate : (t : Test) (p : ℕ) (i : ℕ) (rows : List Row) → take i (allocate t p rows) ≡ allocate t p (take i rows)
unfolding allocate
take-allocate t p zero rows = refl
take-allocate t p (suc i) [] = refl
take-allocate t p (suc i) (r ∷ rs) = rw (take-allocate t (p - only t remaining r) i rs)

pub share-le : (t : Test) (p : ℕ) (rows : List Row) (i : ℕ) → share t p rows i ≤ only t remaining (get_or rows i blank)
unfolding share
share-le t p rows i = omega arith

-- what a row takes is not changed by an allocation under another test
pub share_other : (t u : Test) → Apart t u → Steady u → (p q : ℕ) (rows : List Row) (i : ℕ) → share u q (allocate t p rows) i ≡ share u q rows i
unfolding share
share_other t u a s p q rows i =
    rw (
      allocate-at t p rows i,
      take-allocate t p i rows,
      other-allocate t u remaining a s p (take i rows),
      only-settle_more-other t u remaining remaining a s (get_or rows i blank) (share t p rows i) (share-le t p rows i),
    )

-- nor is what remains of it
pub remaining-allocate-at : (t u : Test) → Apart t u → Steady u → (p : ℕ) (rows : List Row) (i : ℕ)
    → only u remaining (get_or (allocate t p rows) i blank) ≡ only u remaining (get_or rows i blank)
remaining-allocate-at t u a s p rows i =
    rw (allocate-at t p rows i, only-settle_more-other t u remaining remaining a s (get_or rows i blank) (share t p rows i) (share-le t p rows i))

-- the first row with something remaining, after it took its part
pub remaining-first : (t : Test) → Steady t → (m : ℕ) (rows : List Row) (i : ℕ) → sum_by (only t remaining) (take i rows) ≡ 0
    → only t remaining (get_or (allocate t m rows) i blank) ≡ only t remaining (get_or rows i blank) - m
unfolding share
remaining-first t s m rows i z = rw (allocate-at t m rows i, only-settle_more t s (get_or rows i blank) (share t m rows i)) (omega arith)

pub apart_none : (t u : Test) → Apart t u → (r : Row) (n : ℕ) → n ≤ only t remaining r → n ≤ only u remaining r → n ≡ 0
unfolding only
apart_none t u a r n = go (t r) (u r) (a r)
  where
    go : (b c : Bool) → b && c ≡ false → n ≤ cond b (remaining r) 0 → n ≤ cond c (remaining r) 0 → n ≡ 0
    go true true e p q = absurd (true≢false e)
    go true false e p q = omega arith
    go false c e p q = omega arith
