-- Laws of tests, of conjunctions and of tables of cases.
use mathlib.Core.Path.{◌≡◌, refl, sym, ◌∙◌}
use mathlib.Core.Bool.{Bool, true, false, not, cond, ◌&&◌, ◌||◌, false≢true, true≢false, and-true, and_assoc}
use Prim.Native.Nat.{ℕ, zero, suc, ◌≤◌, ◌<◌}
use native.Mathlib.Omega.{arith}
use mathlib.Core.List.{List, [], ◌∷◌, ◌++◌, map}
use lib.ListN.{get_or}
use lib.Dec.{eqb, ltb}
use mir.Val.{bool_byte}
use borrow.Author.Tests.{ltb-true, eqb-true}
use Rattle.lists.specs.Tests.{◌is◌, ◌implies◌, all_of, Cases, first}

-- ---- _&&_

pub and_left : (a b : Bool) → a && b ≡ true → a ≡ true
and_left true b e = refl
and_left false b e = e

pub and_right : (a b : Bool) → a && b ≡ true → b ≡ true
and_right true b e = e
and_right false b e = absurd (false≢true e)

pub and_both : (a b : Bool) → a ≡ true → b ≡ true → a && b ≡ true
and_both a b p q = rw p q

-- each of three
pub and3 : (a b c : Bool) → a && b && c ≡ true → (a ≡ true) × (b ≡ true) × (c ≡ true)
and3 a b c e = let d = and_left (a && b) c e in (and_left a b d, and_right a b d, and_right (a && b) c e)

-- ---- tests that fail

pub and_then : (a b : Bool) → a ≡ true → a && b ≡ false → b ≡ false
and_then a b p e = rw p at e

-- ---- _||_

pub or_left : (a b : Bool) → a || b ≡ false → a ≡ false
or_left true b e = e
or_left false b e = refl

pub or_right : (a b : Bool) → a || b ≡ false → b ≡ false
or_right true b e = absurd (true≢false e)
or_right false b e = e

-- ---- cond

pub cond-zero : (b : Bool) (n : ℕ) → n ≡ 0 → cond b n 0 ≡ 0
cond-zero true n e = e
cond-zero false n e = refl

pub cond_both : (c a b : Bool) → a ≡ true → b ≡ true → cond c a b ≡ true
cond_both true a b p q = p
cond_both false a b p q = q

-- what holds of both holds of either
pub cond_either : {A : Type 0} (P : A → Type 0) (v : Bool) (x y : A) → P x → P y → P (cond v x y)
cond_either P true x y p q = p
cond_either P false x y p q = q

-- ---- tests without branches

pub or-implies : (a b : Bool) → not a || b ≡ a implies b
or-implies true b = refl
or-implies false b = refl

-- ---- all_of

-- each test of a conjunction that holds
pub all_of-at : (ts : List Bool) → all_of ts ≡ true → (k : ℕ) → get_or ts k true ≡ true
unfolding all_of
all_of-at [] e k = refl
all_of-at (t ∷ ts) e zero = and_left t (all_of ts) e
all_of-at (t ∷ ts) e (suc k) = all_of-at ts (and_right t (all_of ts) e) k

-- the same from the left, as code joins tests; on a list that is written out it computes
abbrev pub all_left : Bool → List Bool → Bool
all_left b [] = b
all_left b (t ∷ ts) = all_left (b && t) ts

pub all_left_lem : (b : Bool) (ts : List Bool) → all_left b ts ≡ all_of (b ∷ ts)
unfolding all_of
all_left_lem b [] = sym (and-true b)
all_left_lem b (t ∷ ts) = all_left_lem (b && t) ts ∙ and_assoc b t (all_of ts)

-- each number of a list where all are 0
pub all_of-zero : (xs : List ℕ) → all_of (map (λ n. n is 0) xs) ≡ true → (k : ℕ) → get_or xs k 0 ≡ 0
unfolding all_of
all_of-zero [] e k = refl
all_of-zero (x ∷ xs) e zero = eqb-true x 0 (and_left (x is 0) (all_of (map (λ n. n is 0) xs)) e)
all_of-zero (x ∷ xs) e (suc k) = all_of-zero xs (and_right (x is 0) (all_of (map (λ n. n is 0) xs)) e) k

-- ---- first

pub first-none : (c : ℕ × Bool) (cs : Cases) → 0 < c.0 → first (c ∷ cs) ≡ 0 → (c.1 ≡ false) × (first cs ≡ 0)
unfolding first
first-none c cs h e = go c.1 e
  where
    go : (b : Bool) → cond b c.0 (first cs) ≡ 0 → (b ≡ false) × (first cs ≡ 0)
    go true q = absurd (omega arith)
    go false q = (refl, q)

-- each number of a table is above 0
unfoldable pub positive : Cases → Bool
positive [] = true
positive (c ∷ cs) = ltb 0 c.0 && positive cs

-- where a case of the first table holds, those of a second table after it do not matter
pub first-append : (cs ds : Cases) → first cs is 0 ≡ false → first (cs ++ ds) ≡ first cs
unfolding first
first-append [] ds e = absurd (true≢false e)
first-append (c ∷ cs) ds e = go c.1 (first-append cs ds) e
  where
    go : (b : Bool) → (first cs is 0 ≡ false → first (cs ++ ds) ≡ first cs) → cond b c.0 (first cs) is 0 ≡ false
        → cond b c.0 (first (cs ++ ds)) ≡ cond b c.0 (first cs)
    go true h q = refl
    go false h q = h q

-- where none does, in a table of numbers above 0, the second table decides
pub first-append-none : (cs ds : Cases) → positive cs ≡ true → first cs ≡ 0 → first (cs ++ ds) ≡ first ds
unfolding first positive
first-append-none [] ds p e = refl
first-append-none (c ∷ cs) ds p e =
    let n = first-none c cs (ltb-true 0 c.0 (and_left (ltb 0 c.0) (positive cs) p)) e in
    rw n.0 (first-append-none cs ds (and_right (ltb 0 c.0) (positive cs) p) n.1)

-- the test of the case that a table has under the number n, false where it has none
unfoldable pub case_of : Cases → ℕ → Bool
case_of [] n = false
case_of (c ∷ cs) n = cond (eqb c.0 n) c.1 (case_of cs n)

-- such a table gives 0 only where the test of every number fails
pub first-zero : (cs : Cases) → positive cs ≡ true → first cs ≡ 0 → (n : ℕ) → case_of cs n ≡ false
unfolding positive case_of
first-zero [] p e n = refl
first-zero (c ∷ cs) p e n =
    let q = first-none c cs (ltb-true 0 c.0 (and_left (ltb 0 c.0) (positive cs) p)) e in
    go (eqb c.0 n) q.0 (first-zero cs (and_right (ltb 0 c.0) (positive cs) p) q.1 n)
  where
    go : (t : Bool) → c.1 ≡ false → case_of cs n ≡ false → cond t c.1 (case_of cs n) ≡ false
    go true x y = x
    go false x y = y

-- ---- a test as a number

pub byte-one : (b : Bool) → bool_byte b ≡ cond b 1 0
byte-one true = refl
byte-one false = refl

pub byte-few : (b : Bool) → bool_byte b ≤ 1
byte-few true = omega arith
byte-few false = omega arith
