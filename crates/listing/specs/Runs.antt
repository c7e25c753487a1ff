-- The turns of the program together: a run over an input that comes in parts.
use Rattle.std.specs.Prelude.{◌≡◌, true, false, ℕ, ◌+◌, ◌-◌, List, [], ◌++◌}
use Rattle.listing_rules.specs.Listing.{most_lines}
use Rattle.listing_steps.specs.Steps.{waits, over}
use Rattle.listing.specs.declared.Ending.{Ending}
use Rattle.listing.specs.declared.Ending.TheVariants.{Listed, Unended}
use Rattle.listing.specs.Turns.{State, Starts, Gets, Ends, Steps, handed, after_print}

-- so many turns that every line is counted
abbrev pub most_turns : ℕ
most_turns = most_lines - 1

-- for a byte of the input it takes at most so many: a read, a step that takes the byte, and one that waits for the next
abbrev pub turns_per_byte : ℕ
turns_per_byte = 3

-- n turns over this input lead to state s; `left` is still to be read, and `said` is what has been handed to be printed. A read gets at
-- least one byte of what is left, however many; it gets none where nothing is left
pub data Run (input : List ℕ) : ℕ → State → List ℕ → List ℕ → Type 0 where
  begins : {s : State} → Starts s → Run input 0 s input []
  steps : {n : ℕ} {s : State} (q : State) {left said : List ℕ} → Run input n s left said
      → over s.place ≡ false → waits s.place ≡ false → Steps s q
      → Run input (n + 1) (after_print q) left (said ++ handed q)
  reads : {n : ℕ} {s : State} (q : State) (got left : List ℕ) {said : List ℕ} → Run input n s (got ++ left) said
      → over s.place ≡ false → waits s.place ≡ true → Gets s q got
      → Run input (n + 1) (after_print q) left (said ++ handed q)
  ends : {n : ℕ} {s : State} (q : State) {said : List ℕ} → Run input n s [] said
      → over s.place ≡ false → waits s.place ≡ true → Ends s q
      → Run input (n + 1) (after_print q) [] (said ++ handed q)

-- n turns have led to s, whatever input is still to come
pub record Going (s : State) (n : ℕ) : Type 0 where
  pub got : List ℕ
  pub said : List ℕ
  pub run : (more : List ℕ) → Run (got ++ more) n s more said

-- the program has ended for reason r, in state s, after a run over the bytes that it got
pub record Ran (s : State) (r : Ending) : Type 0 where
  pub turns : ℕ
  pub got : List ℕ
  pub said : List ℕ
  pub run : Run got turns s [] said
  pub listed : r ≡ Listed → over s.place ≡ true
  pub unended : r ≡ Unended → (turns ≡ most_turns) × (over s.place ≡ false)
