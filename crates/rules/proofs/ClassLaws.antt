-- The class of a vehicle by the printed page's cases (document 02, No. 3): the first that holds gives it, and just one holds.
use mathlib.Core.Path.{◌≡◌, refl, ◌∙◌}
use mathlib.Core.Bool.{Bool, true, false, not, cond, ◌&&◌, ◌||◌}
use Prim.Native.Nat.{ℕ, zero, suc, ◌+◌, ◌≤◌}
use native.Mathlib.Omega.{arith}
use native.Mathlib.Decide.{dec_le}
use lib.Dec.{leb, ltb}
use borrow.Author.Tests.{le-leb, lt-leb, le-ltb, lt-ltb, ne_eqb}
use Rattle.lists.specs.Tests.{◌is◌, first}
use Rattle.lists.specs.Lists.{sum_by, count}
use Rattle.records.specs.Limits.{low_height}
use Rattle.rules.specs.Schedule.{classes, class}
use Rattle.rules.specs.ClassCases.{class_cases}

-- the first case that holds gives the class
pub class-case : (axles height : ℕ) → first (class_cases axles height) ≡ class axles height
unfolding class classes class_cases first
class-case axles height =
    go (leb axles 2 && leb height low_height) (axles is 2 && ltb low_height height) (axles is 3) (axles is 4) (leb 5 axles)
  where
    go : (a b c d e : Bool)
        → ◌≡◌ {A = ℕ} (cond a 1 (cond b 2 (cond c 2 (cond d 2 (cond e 3 0))))) (cond a 1 (cond (b || c || d) 2 (cond e 3 0)))
    go true b c d e = refl
    go false true c d e = refl
    go false false true d e = refl
    go false false false true e = refl
    go false false false false e = refl

-- how many cases hold of n axles, at most 90 inches (low) or above (high)
abbrev holding : Bool → Bool → ℕ → ℕ
holding low high n =
    cond (leb n 2 && low) 1 0 + (cond (n is 2 && high) 1 0 + (cond (n is 3) 1 0 + (cond (n is 4) 1 0 + (cond (leb 5 n) 1 0 + 0))))

-- five axles or more: the last case alone
holding-many : (low high : Bool) (n : ℕ) → 5 ≤ n → holding low high n ≡ cond (n is 1 && high) 0 1
holding-many low high n l =
    rw (
      lt-leb n 2 (omega arith),
      ne_eqb n 2 (λ e. omega arith),
      ne_eqb n 3 (λ e. omega arith),
      ne_eqb n 4 (λ e. omega arith),
      le-leb 5 n l,
      ne_eqb n 1 (λ e. omega arith),
    )

-- any number of axles: a height is low or high
holding-one : (low : Bool) (n : ℕ) → 1 ≤ n → holding low (not low) n ≡ cond (n is 1 && not low) 0 1
holding-one low zero l = absurd (omega arith)
holding-one true (suc zero) l = refl
holding-one false (suc zero) l = refl
holding-one true (suc (suc zero)) l = refl
holding-one false (suc (suc zero)) l = refl
holding-one low (suc (suc (suc zero))) l = refl
holding-one low (suc (suc (suc (suc zero)))) l = refl
holding-one low (suc (suc (suc (suc (suc k))))) l = holding-many low (not low) (suc (suc (suc (suc (suc k))))) (omega arith)

-- "exactly one case is shown to hold for any axles 1 to 99 and height 0 to 999, but none for one axle above 90 inches": of the cases as
-- tests, whatever class they give, for any axles from 1 on and any height
pub one-class-case : (axles height : ℕ) → 1 ≤ axles
    → count (λ c. c.1) (class_cases axles height) ≡ cond (axles is 1 && ltb low_height height) 0 1
unfolding class_cases count sum_by
one-class-case axles height l = elim (dec_le height low_height) [
  | yes h ↦ rw (le-leb height low_height h, le-ltb low_height height h) (holding-one true axles l)
  | no h ↦ rw (lt-leb height low_height (omega arith), lt-ltb low_height height (omega arith)) (holding-one false axles l)
]

-- joining tests of which at most one holds leaves how many hold of all
joined : (a b c d e : Bool) → cond a 1 0 + (cond b 1 0 + (cond c 1 0 + (cond d 1 0 + (cond e 1 0 + 0)))) ≤ 1
    → cond a 1 0 + (cond (b || c || d) 1 0 + (cond e 1 0 + 0)) ≡ cond a 1 0 + (cond b 1 0 + (cond c 1 0 + (cond d 1 0 + (cond e 1 0 + 0))))
joined a true true d e l = absurd (omega (arith, l))
joined a true false true e l = absurd (omega (arith, l))
joined a true false false e l = omega arith
joined a false true true e l = absurd (omega (arith, l))
joined a false true false e l = omega arith
joined a false false d e l = omega arith

-- the same of the classes that the rules use, which join the page's three clauses of class 2
pub one-class : (axles height : ℕ) → 1 ≤ axles → count (λ c. c.1) (classes axles height) ≡ cond (axles is 1 && ltb low_height height) 0 1
unfolding classes class_cases count sum_by
one-class axles height l =
    let one : count (λ c. c.1) (class_cases axles height) ≡ cond (axles is 1 && ltb low_height height) 0 1 = one-class-case axles height l in
    joined (leb axles 2 && leb height low_height) (axles is 2 && ltb low_height height) (axles is 3) (axles is 4) (leb 5 axles)
    (rw one (at-most-1 (axles is 1 && ltb low_height height))) ∙ one
  where
    at-most-1 : (b : Bool) → cond b 0 1 ≤ 1
    at-most-1 true = omega arith
    at-most-1 false = omega arith
