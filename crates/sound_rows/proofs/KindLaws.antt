-- The clauses on a row by itself, where its kind is known.
use mathlib.Core.Path.{◌≡◌}
use mathlib.Core.Bool.{◌&&◌, and-true}
use Prim.Native.Nat.{ℕ}
use Rattle.lists.specs.Tests.{◌from◌to◌, all_of}
use Rattle.records.specs.Limits.{highest_rate}
use Rattle.rules.specs.Rows.{Row, kind_toll}
use Rattle.rules.specs.Soundness.{kind_fits, most_of, amount_fits, settled_fits}
use Rattle.sound_header.specs.Clauses.{own_words, row_alone}

pub toll-clauses : (today L : ℕ) (r : Row) → r.kind ≡ kind_toll → row_alone today L r ≡ (r.amount from 1 to highest_rate) && (settled_fits r && own_words today L r)
unfolding row_alone kind_fits amount_fits most_of all_of
toll-clauses today L r e = simp (e, and-true)
