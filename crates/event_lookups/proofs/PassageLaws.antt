-- The search for a passage number over the rows of the journal.
use mathlib.Core.Path.{◌≡◌, sym, ◌∙◌}
use mathlib.Core.Bool.{Bool, true, false, ◌&&◌, and-false}
use Prim.Native.Nat.{ℕ, ◌<◌}
use native.Mathlib.Omega.{arith}
use mathlib.Core.List.{List}
use lib.ListN.{length, get_or}
use lib.IntN.{ℤ}
use Rattle.std.specs.Bool.{MatchBool}
use Rattle.std.specs.List.{AllWithin, HoldsAt, range_with_len}
use Rattle.std.proofs.lemmas.List.FromFn.{length-range_with_len, get_or-range_with_len}
use borrow.Author.Tests.{eq-eqb, ne_eqb, lt-ltb}
use Rattle.records.specs.Codes.{kind_toll}
use Rattle.records.specs.Encoding.{row_at, rows_of}
use Rattle.lists.specs.Tests.{◌is◌}
use Rattle.lists.specs.Lists.{count, exists}
use Rattle.lists.proofs.SumLaws.{count_none, count-some}
use Rattle.rules.specs.Rows.{Row, Test, toll}

-- a toll of this passage number
abbrev pub toll_of : ℕ → Test
toll_of p r = toll r && r.reference is p

-- ---- a row

pub other-kind : (p : ℕ) (r : Row) → (r.kind ≡ kind_toll → ⊥) → toll_of p r ≡ false
other-kind p r n = rw (ne_eqb r.kind kind_toll n)

pub other-passage : (p : ℕ) (r : Row) → (r.reference ≡ p → ⊥) → toll_of p r ≡ false
other-passage p r n = rw (ne_eqb r.reference p n) (and-false (toll r))

-- ---- the used rows

module _ (j : List ℤ) (p : ℕ) where
  pub passage-some : (used i : ℕ) → i < used → toll_of p (row_at j i) ≡ true → true ≡ exists (toll_of p) (rows_of j used)
  unfolding exists
  passage-some used i h e =
      sym (lt-ltb 0 (count (toll_of p) (rows_of j used)) (omega (arith, count-some (toll_of p) (row_at j) used i h e)))

  pub passage-found : (used i : ℕ) → i < used → (row_at j i).kind ≡ kind_toll → (row_at j i).reference ≡ p → true ≡ exists (toll_of p) (rows_of j used)
  passage-found used i h k r = passage-some used i h (rw (eq-eqb (row_at j i).kind kind_toll k) (eq-eqb (row_at j i).reference p r))

  pub passage-absent : (used : ℕ) → ((k : ℕ) → k < used → toll_of p (row_at j k) ≡ false) → false ≡ exists (toll_of p) (rows_of j used)
  unfolding exists
  passage-absent used f = rw (count_none (toll_of p) (row_at j) used f)

  -- as `any` tells its answer
  pub passage-either : (used : ℕ) (b : Bool)
      → MatchBool b
      ((k : ℕ) × (k < length (range_with_len 0 used)) × HoldsAt (λ i. toll_of p (row_at j i) ≡ true) (range_with_len 0 used) k)
      (AllWithin (λ i. toll_of p (row_at j i) ≡ false) (range_with_len 0 used) 0 (length (range_with_len 0 used)))
      → b ≡ exists (toll_of p) (rows_of j used)
  passage-either used true (k, h, e) =
      let l : k < used = rw length-range_with_len at h in
      let number : get_or (range_with_len 0 used) k 0 ≡ k = get_or-range_with_len 0 used k 0 l ∙ omega arith in
      passage-some used k l (rw number at (e 0))
  passage-either used false f = passage-absent used (λ k h.
      let number : get_or (range_with_len 0 used) k 0 ≡ k = get_or-range_with_len 0 used k 0 h ∙ omega arith in
      rw number at (f k 0 (omega arith) (rw length-range_with_len h)))
