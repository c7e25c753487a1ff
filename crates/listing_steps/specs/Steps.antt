-- A step of the listing: what is to be listed before it is what it prints, and what is to be listed after it, whatever input is still to
-- come.
use Rattle.std.specs.Prelude.{◌≡◌, Bool, true, false, cond, ℕ, ◌+◌, ◌≤◌, ◌<◌, List, [], ◌++◌, length, drop}
use Rattle.decimal.specs.Bytes.{index_of}
use Rattle.rules.specs.Tables.{Tables, book_of}
use Rattle.listing_rules.specs.Texts.{lines_of, bad_line}
use Rattle.listing_rules.specs.Listing.{most_lines, listed}
use Rattle.listing_rules.specs.Sizes.{most_line_bytes, most_answer_bytes}
use Rattle.listing_lines.specs.Lines.{Ready}
use Rattle.listing_steps.specs.declared.Phase.{Phase}
use Rattle.listing_steps.specs.declared.Phase.TheVariants as phase
use Rattle.listing_steps.specs.declared.Place.{Place}

-- it waits for more of the input
abbrev pub is_waiting : Phase → Bool
is_waiting phase.Taking = false
is_waiting phase.Waiting = true
is_waiting phase.Over = false

-- a bad line or the end of the input has ended the output
abbrev pub is_over : Phase → Bool
is_over phase.Taking = false
is_over phase.Waiting = false
is_over phase.Over = true

-- the same of a place
abbrev pub waits : Place → Bool
waits p = is_waiting p.phase

abbrev pub over : Place → Bool
over p = is_over p.phase

-- the tables are ready, there is room for one more line of output in a text of so many bytes, and the lines can be counted on
pub record Stands (bytes : ℕ) (t : Tables) (out : List ℕ) (p : Place) : Type 0 where
  pub ready : Ready p.lines t
  pub room : length out + most_answer_bytes ≤ bytes
  pub few : p.lines < most_lines

-- the bytes read and not taken, and then more, listed after the lines taken
unfoldable pub to_list : Tables → List ℕ → Place → List ℕ → List ℕ
to_list t input p more = listed p.lines (book_of t) (lines_of (input ++ more))

-- the bytes have no line feed, and are no more than a good line has
pub record Waiting (input : List ℕ) : Type 0 where
  pub unended : index_of 10 input ≡ length input
  pub few : length input ≤ most_line_bytes

-- place p, where it waits for more bytes
abbrev pub waiting_at : Place → Place
waiting_at p = record { lines = p.lines; phase = phase.Waiting }

-- n lines are taken, and the output has ended
abbrev pub over_at : ℕ → Place
over_at n = record { lines = n; phase = phase.Over }

-- a line that has not ended, n lines before it: it waits, or it is too long and bad. The printed bytes b become c
pub record Awaits (input b c : List ℕ) (n : ℕ) (q : Place) : Type 0 where
  pub waits : length input ≤ most_line_bytes → q ≡ record { lines = n; phase = phase.Waiting }
  pub silent : length input ≤ most_line_bytes → c ≡ b
  pub over : most_line_bytes < length input → q ≡ over_at n
  pub text : most_line_bytes < length input → c ≡ b ++ bad_line (n + 1)
  pub short : length c ≤ length b + most_answer_bytes

-- from place p to place q: the tables t become u, the bytes i that are read and not taken become j, the printed bytes b become c. Unless it
-- is over it takes a line, and so a byte, or waits where it stands and says nothing
pub record Stepped (t u : Tables) (i j b c : List ℕ) (p q : Place) : Type 0 where
  pub said : List ℕ
  pub taken : ℕ
  pub text : c ≡ b ++ said
  pub goes : (more : List ℕ) → to_list t i p more ≡ said ++ cond (over q) [] (to_list u j q more)
  pub ready : over q ≡ false → Ready q.lines u
  pub left : j ≡ drop taken i
  pub within : taken ≤ length i
  pub lines : q.lines ≤ p.lines + 1
  pub short : length c ≤ length b + most_answer_bytes
  pub takes : over q ≡ false → waits q ≡ false → (0 < taken) × (q.lines ≡ p.lines + 1)
  pub waiting : waits q ≡ true → Waiting j
  pub stays : waits q ≡ true → (q ≡ waiting_at p) × (j ≡ i)
  pub keeps : waits q ≡ true → u ≡ t
  pub silent : waits q ≡ true → said ≡ []
