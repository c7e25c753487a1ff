-- Numbers stored as words one after the other.
use Prim.Native.Nat.{ℕ, ◌+◌, ◌≤◌, ◌<◌}
use mathlib.Core.Path.{◌≡◌}
use mathlib.Core.List.{List, map}
use lib.IntN.{ℤ, pos}
use lib.ListN.{length, get_or, set, drop}
use Rattle.std.proofs.lemmas.List.{at_drop_more, at_drop_all}
use Rattle.tables.specs.Changes.{put_all}

-- the numbers from the i-th on: the i-th, then those after it
pub put_all-more : (t : List ℤ) (p i : ℕ) (xs : List ℕ) → i < length xs
    → put_all t p i (map pos (drop i xs)) ≡ put_all (set t (p + i) (pos (get_or xs i 0))) p (i + 1) (map pos (drop (i + 1) xs))
unfolding put_all
put_all-more t p i xs h = at_drop_more (λ l. put_all t p i (map pos l)) xs i 0 h

-- none is left after the last
pub put_all-none : (t : List ℤ) (p i : ℕ) (xs : List ℕ) → length xs ≤ i → put_all t p i (map pos (drop i xs)) ≡ t
unfolding put_all
put_all-none t p i xs h = at_drop_all (λ l. put_all t p i (map pos l)) xs i h
