-- The tables midway through a tick: they hold a book that is sound but for what settlement makes.
use Rattle.std.specs.Prelude.{◌≡◌, true, ℕ}
use Rattle.rules.specs.Tables.{Tables, book_of, lengths_fit, used_fits}
use Rattle.rules.specs.SoundFacts.{Near}

-- open tolls are due after `past`: yesterday until tolls are raised, then today
pub record Midway (past : ℕ) (t : Tables) : Type 0 where
  pub lengths : lengths_fit t ≡ true
  pub used : used_fits t ≡ true
  pub near : Near past (book_of t)
