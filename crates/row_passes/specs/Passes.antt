-- What a step of a pass over the rows of a journal may ask, and what it does.
use Rattle.std.specs.Prelude.{◌≡◌, ℕ, ◌<◌, List, ℤ, length}
use Rattle.std.specs.Fn.{Shared}
use denote.Ref.{MutBor}
use Rattle.records.specs.Encoding.{row_at}
use Rattle.rules.specs.Rows.{Row}
use Rattle.tables.specs.Changes.{RowChanged}

-- in the journal u, which is of the length of t, row i is one of the used ones, and as in t
pub record RowLeft (t u : List ℤ) (used i : ℕ) : Type 0 where
  pub inside : i < used
  pub size : length u ≡ length t
  pub same : row_at u i ≡ row_at t i

-- from the journal t on, the step may be called at each used row, and makes of it what f gives
pub record MapsRows {F : Type 0} (g : Shared F (MutBor (List ℤ) × (ℕ × Unit {0})) (Unit {0} × (MutBor (List ℤ) × Unit {0})))
    (step : F) (f : Row → Row) (t : List ℤ) (used : ℕ) : Type 0 where
  pub takes : (p : MutBor (List ℤ)) (i : ℕ) → RowLeft t p.now used i → g.pre step (p, (i, tt))
  pub gives : (p q : MutBor (List ℤ)) (i : ℕ) → RowLeft t p.now used i → g.post step (p, (i, tt)) (tt, (q, tt))
      → RowChanged p.now q.now i (f (row_at p.now i))
