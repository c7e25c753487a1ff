-- The first number of a range that passes a test, as `find` gives it.
use Prim.Native.Nat.{ℕ, ◌+◌, ◌-◌, ◌≤◌, ◌<◌}
use native.Mathlib.Omega.{arith}
use mathlib.Core.Path.{◌≡◌, sym, ◌∙◌}
use mathlib.Core.List.{List}
use lib.ListN.{length, get_or}
use Rattle.std.specs.Prelude.{Option, Some, None, unwrap_or, MatchOption}
use Rattle.std.specs.List.{AllWithin, HoldsAt, range_with_len}
use Rattle.std.proofs.lemmas.List.FromFn.{length-range_with_len, get_or-range_with_len}

-- k is the first number from a on, below b, that has Yes, or b where none has; those before it have No
pub record FirstFrom (Yes No : ℕ → Type 0) (a b k : ℕ) : Type 0 where
  pub after : a ≤ k
  pub within : k ≤ b
  pub passed : (i : ℕ) → a ≤ i → i < k → No i
  pub found : k < b → Yes k

module _ (Yes No : ℕ → Type 0) (a b : ℕ) where
  abbrev pub numbers : List ℕ
  numbers = range_with_len a (b - a)

  -- what `find` says of its answer
  abbrev pub Finds : Option ℕ → Type 0
  Finds r =
      MatchOption r
      (AllWithin No numbers 0 (length numbers))
      (λ x. Yes x × (i : ℕ) × (i < length numbers) × HoldsAt (λ y. y ≡ x) numbers i × AllWithin No numbers 0 i)

  number : (i : ℕ) → i < b - a → get_or numbers i 0 ≡ a + i
  number i h = get_or-range_with_len a (b - a) i 0 h

  passed-at : (i : ℕ) → a ≤ i → i < b → get_or numbers (i - a) 0 ≡ i
  passed-at i p q = number (i - a) (omega arith) ∙ omega arith

  pub first-from : a ≤ b → (r : Option ℕ) → Finds r → FirstFrom Yes No a b (unwrap_or r b)
  first-from h None m =
      record {
        after = h;
        within = omega arith;
        passed = λ i p q. rw (passed-at i p q) at (m (i - a) 0 (omega arith) (rw length-range_with_len (omega arith)));
        found = λ w. absurd (omega arith);
      }
  first-from h (Some x) (good, i, inside, there, before) =
      let l : i < b - a = rw length-range_with_len at inside in
      let e : a + i ≡ x = sym (number i l) ∙ there 0 in
      record {
        after = omega arith;
        within = omega arith;
        passed = λ k p q. rw (passed-at k p (omega arith)) at (before (k - a) 0 (omega arith) (omega arith));
        found = λ w. good;
      }
