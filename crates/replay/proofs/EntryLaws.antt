-- Laws of the replay alone: what settlement and a counted day leave of an entry.
use mathlib.Core.Path.{◌≡◌, refl, ◌∙◌}
use mathlib.Core.Bool.{Bool, true, false, cond}
use Prim.Native.Nat.{ℕ, zero, suc, ◌+◌, ◌-◌}
use native.Mathlib.Omega.{arith}
use mathlib.Core.List.{List, [], ◌∷◌}
use lib.ListN.{get_or}
use Rattle.replay.specs.Entries.{Entry, no_entry, with_covered, with_open_days, unused_of, cover, cover_rank, settle_entries, settle_all_entries}
use Rattle.replay.specs.Replay.{gains, count_tick, count_day}

-- an entry without its part covered
abbrev pub bare_entry : Entry → Entry
bare_entry x = with_covered 0 x

pub cover-bare : (f : Entry → ℕ) (n : ℕ) (xs : List Entry) (k : ℕ) → bare_entry (get_or (cover f n xs) k no_entry) ≡ bare_entry (get_or xs k no_entry)
unfolding cover
cover-bare f n [] k = refl
cover-bare f n (x ∷ xs) zero = refl
cover-bare f n (x ∷ xs) (suc k) = cover-bare f (n - f x) xs k

rank-bare : (want : Entry → ℕ) (a : ℕ) (xs : List Entry) (k : ℕ) → bare_entry (get_or (cover_rank want a xs) k no_entry) ≡ bare_entry (get_or xs k no_entry)
unfolding cover_rank
rank-bare want a xs k = cover-bare want _ (cover (unused_of a) _ xs) k ∙ cover-bare (unused_of a) _ xs k

pub settle-bare-entry : (n : ℕ) (xs : List Entry) (k : ℕ) → bare_entry (get_or (settle_all_entries n xs) k no_entry) ≡ bare_entry (get_or xs k no_entry)
unfolding settle_all_entries settle_entries
settle-bare-entry zero xs k = refl
settle-bare-entry (suc n) xs k = rank-bare _ (suc n) _ k ∙ rank-bare _ (suc n) _ k ∙ settle-bare-entry n xs k

pub count-open : (x : Entry) → (count_day x).open-days ≡ x.open-days + cond (gains x) 1 0
unfolding count_day count_tick
count-open x = go (gains x) x.hold
  where
    go : (v w : Bool) → (cond v (with_open_days (x.open-days + 1) x) (cond w (count_tick x) x)).open-days ≡ x.open-days + cond v 1 0
    go true w = refl
    go false true = omega arith
    go false false = omega arith
