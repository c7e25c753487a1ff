-- A turn of the program: a step of the listing, or a read, or the end of the input; and what is printed after it.
use Rattle.std.specs.Prelude.{◌≡◌, Bool, true, false, cond, ◌||◌, ℕ, ◌<◌, List, [], ◌++◌, leb, length}
use Rattle.decimal.specs.Bytes.{text_bytes}
use Rattle.rules.specs.Tables.{Tables}
use Rattle.lent.specs.Lent.{lent_mut}
use Rattle.listing_steps.specs.declared.Phase.TheVariants as phase
use Rattle.listing_steps.specs.declared.Place.{Place}
use Rattle.listing_steps.specs.declared.Listing.{Listing}
use Rattle.listing_steps.specs.Steps.{waits, over, Stands, to_list, Waiting, Stepped}

-- ---- where the program stands

-- from here on the text is printed before more is written
abbrev pub nearly_full : ℕ
nearly_full = 65000

-- the tables, the bytes that are read and not taken, those that are written and not printed, and the place
pub record State : Type 0 where
  pub tables : Tables
  pub input : List ℕ
  pub out : List ℕ
  pub place : Place

-- where the listing stands
abbrev pub state_of : Listing → State
state_of l = record { tables = lent_mut l.t; input = l.input; out = l.out; place = l.place }

-- no line is taken
abbrev pub start_place : Place
start_place = record { lines = 0; phase = phase.Waiting }

-- so many lines are taken, and the next one is to be
abbrev pub taking_at : ℕ → Place
taking_at lines = record { lines = lines; phase = phase.Taking }

-- no byte is read, and none is written
pub record Starts (s : State) : Type 0 where
  pub place : s.place ≡ start_place
  pub input : s.input ≡ []
  pub out : s.out ≡ []

-- the program can take its next turn: where it waits everything is printed
pub record Standing (s : State) : Type 0 where
  pub stands : Stands text_bytes s.tables s.out s.place
  pub waiting : waits s.place ≡ true → Waiting s.input
  pub empty : waits s.place ≡ true → s.out ≡ []

-- ---- reading

-- a read from s to q that got these bytes: they follow those that waited, and the tables and the count of lines are kept
pub record Gets (s q : State) (got : List ℕ) : Type 0 where
  pub empty : s.out ≡ []
  pub some : 0 < length got
  pub place : q.place ≡ taking_at s.place.lines
  pub bytes : q.input ≡ s.input ++ got
  pub tables : q.tables ≡ s.tables
  pub out : q.out ≡ s.out

-- a read from s to q that got nothing: what is left to list is written, and the program is over
pub record Ends (s q : State) : Type 0 where
  pub empty : s.out ≡ []
  pub over : over q.place ≡ true
  pub rest : q.out ≡ s.out ++ to_list s.tables s.input s.place []

-- a read from s to q: it got bytes, or none and the program is over
pub record Reads (s q : State) : Type 0 where
  pub got : List ℕ
  pub some : over q.place ≡ false → Gets s q got
  pub none : over q.place ≡ true → Ends s q

-- ---- a turn

-- a step of the listing
abbrev pub Steps : State → State → Type 0
Steps s q = Stepped s.tables q.tables s.input q.input s.out q.out s.place q.place

-- where it waits it reads, else it takes a step
pub record Turned (s q : State) : Type 0 where
  pub steps : waits s.place ≡ false → Steps s q
  pub reads : waits s.place ≡ true → Reads s q

-- ---- printing

-- before it waits, at the end and where little room is left, what is written is printed
unfoldable pub due : Place → List ℕ → Bool
due p out = waits p || over p || leb nearly_full (length out)

-- the bytes that are handed to be printed
unfoldable pub handed : State → List ℕ
handed s = cond (due s.place s.out) s.out []

-- and those that are left: none exactly where they were handed over
unfoldable pub unprinted : Place → List ℕ → List ℕ
unprinted p out = cond (due p out) [] out

-- the state after that: nothing but what is written changes
abbrev pub after_print : State → State
after_print s = record { tables = s.tables; input = s.input; out = unprinted s.place s.out; place = s.place }
