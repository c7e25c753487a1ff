-- A pass over a tabulated list that changes each element where it stands, and adds to the end what the element adds.
use mathlib.Core.Path.{◌≡◌, ap, ◌∙◌}
use mathlib.Core.Logic.{◌≢◌}
use mathlib.Core.Bool.{cond}
use Prim.Native.Nat.{ℕ, ◌+◌, ◌<◌}
use native.Mathlib.Omega.{arith}
use native.Mathlib.Decide.{dec_lt}
use mathlib.Core.List.{List, ◌++◌, map, append_assoc, append-nil}
use lib.ListN.{length, get_or, set, length-append, get_or-append}
use lib.Seq.{set-append_left}
use lib.Dec.{ltb}
use borrow.Author.Tests.{lt-ltb, le-ltb}
use Rattle.lists.specs.Lists.{tabulate, gather_from, gather}
use Rattle.lists.proofs.ListLaws.{length-tabulate, tabulate-at, tabulate-same, tabulate-set, tabulate-map}
use Rattle.lists.proofs.GatherLaws.{gather-tabulate}

module _ {A : Type 0} (f : A → A) (g : ℕ → A → List A) (r : ℕ → A) (n : ℕ) where
  abbrev passed : ℕ → ℕ → A
  passed i k = cond (ltb k i) (f (r k)) (r k)

  -- after i of the n values r: these are changed by f, and what g gives for them is added
  abbrev pub passed_to : ℕ → List A
  passed_to i = tabulate (passed i) n ++ gather g (tabulate r i)

  pub passed_none : passed_to 0 ≡ tabulate r n
  unfolding tabulate gather_from
  passed_none = append-nil (tabulate (passed 0) n) ∙ tabulate-same (passed 0) r n (λ k h. rw (le-ltb k 0 (omega arith)))

  pub passed-all : passed_to n ≡ map f (tabulate r n) ++ gather g (tabulate r n)
  passed-all = ap (λ (xs : List A). xs ++ gather g (tabulate r n)) (tabulate-map f (passed n) r n (λ k h. rw (lt-ltb k n h)))

  -- one value more
  pub passed-more : (i : ℕ) → i < n → set (passed_to i) i (f (r i)) ++ g (i + 1) (r i) ≡ passed_to (i + 1)
  passed-more i h =
      rw (
        set-append_left (tabulate (passed i) n) (gather g (tabulate r i)) i (f (r i)) (rw length-tabulate h),
        ← tabulate-set (passed (i + 1)) (passed i) n i (f (r i)) h (rw (lt-ltb i (i + 1) (omega arith))) other,
        append_assoc (tabulate (passed (i + 1)) n) (gather g (tabulate r i)) (g (i + 1) (r i)),
        gather-tabulate g r i,
      )
    where
      other : (k : ℕ) → k ≢ i → passed (i + 1) k ≡ passed i k
      other k q =
          elim (dec_lt k i) [
            | yes l ↦ rw (lt-ltb k i l, lt-ltb k (i + 1) (omega arith))
            | no l ↦ rw (le-ltb k i (omega arith), le-ltb k (i + 1) (omega arith))
          ]

  -- value i before its turn
  pub passed-at : (i : ℕ) (d : A) → i < n → get_or (passed_to i) i d ≡ r i
  passed-at i d h =
      get_or-append (tabulate (passed i) n) (gather g (tabulate r i)) d i (rw length-tabulate h)
      ∙ (tabulate-at (passed i) n i d h ∙ rw (le-ltb i i (omega arith)))

  pub length-passed : (i : ℕ) → length (passed_to i) ≡ n + length (gather g (tabulate r i))
  length-passed i = length-append (tabulate (passed i) n) (gather g (tabulate r i)) ∙ rw (length-tabulate (passed i) n)
