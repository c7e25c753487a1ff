-- Laws of the marks on blocks of rows.
use mathlib.Core.Path.{◌≡◌, sym, ◌∙◌}
use mathlib.Core.Bool.{false}
use Prim.Native.Nat.{ℕ, ◌+◌, ◌/◌, ◌<◌}
use native.Mathlib.Omega.{arith}
use native.Mathlib.Decide.{ℕ_discrete}
use mathlib.Core.List.{List}
use lib.IntN.{ℤ}
use lib.ListN.{length, set, replicate, length-set, length-replicate}
use lib.Seq.{get_or-set_same, get_or-set_other}
use Rattle.records.specs.Encoding.{row_at}
use Rattle.records.specs.Limits.{most_rows}
use Rattle.rules.specs.Tick.{rises}
use Rattle.tick_base.proofs.StageLaws.{not-due}
use Rattle.tick_plan.specs.Marks.{block_rows, block_count, Marked}

-- of no rows
pub marked-none : (today : ℕ) (t : List ℤ) → Marked today t (replicate block_count 0) 0
marked-none today t = record { sized = length-replicate {A = ℕ} block_count 0; none = λ k h e. absurd (omega arith) }

module _ (today : ℕ) (t : List ℤ) (marks : List ℕ) (i : ℕ) (m : Marked today t marks i) where
  -- a row that does not rise
  pub marked-past : rises today (row_at t i) ≡ false → Marked today t marks (i + 1)
  marked-past z =
      record {
        sized = m.sized;
        none = λ k h e.
            elim (ℕ_discrete k i) [
              | yes q ↦ rw q z
              | no q ↦ m.none k (omega arith) e
            ];
      }

  -- nor does a row that is not due
  pub marked-later : ((row_at t i).due ≡ today → ⊥) → Marked today t marks (i + 1)
  marked-later n = marked-past (not-due today (row_at t i) n)

  -- a row whose block is marked
  pub marked-more : i < most_rows → Marked today t (set marks (i / block_rows) 1) (i + 1)
  marked-more l =
      let d : i / block_rows < length marks = omega (arith, m.sized) in
      record {
        sized = length-set marks (i / block_rows) 1 ∙ m.sized;
        none = λ k h e.
            elim (ℕ_discrete (k / block_rows) (i / block_rows)) [
              | yes q ↦ absurd (omega (arith, rw q at e, get_or-set_same marks (i / block_rows) 1 0 d))
              | no q ↦ m.none k (omega (arith, q)) (sym (get_or-set_other marks (i / block_rows) (k / block_rows) 1 0 q) ∙ e)
            ];
      }
