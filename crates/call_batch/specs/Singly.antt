-- The events of a batch sent one by one, each with an answer table of its own.
use Rattle.std.specs.Prelude.{List, [], ◌∷◌, ◌++◌, ℤ}
use Rattle.rules.specs.Tables.{Tables}
use Rattle.call_rules.specs.Calls.{Event, Called, event_call}

-- a record's nine words, as a single event has them
unfoldable pub event_words : Event → List ℤ
event_words x = x.kind ∷ x.account ∷ x.a ∷ x.b ∷ x.c ∷ x.d ∷ x.e ∷ x.f ∷ x.g ∷ []

-- one event sent singly, its answer table having held w
abbrev pub sent : Tables → List ℤ → Event → Called
sent t w x = event_call t (event_words x) w

-- the tables after the last
unfoldable pub tables_singly : Tables → List ℤ → List Event → Tables
tables_singly t w [] = t
tables_singly t w (x ∷ xs) = tables_singly (sent t w x).tables w xs

-- the answer tables, one after the other
unfoldable pub answers_singly : Tables → List ℤ → List Event → List ℤ
answers_singly t w [] = []
answers_singly t w (x ∷ xs) = (sent t w x).answers ++ answers_singly (sent t w x).tables w xs
