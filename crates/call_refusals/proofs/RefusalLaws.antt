-- The refusals of a call with what each test came to.
use mathlib.Core.Path.{◌≡◌, sym, ap, ◌∙◌}
use mathlib.Core.Bool.{Bool, not, ◌||◌}
use Prim.Native.Nat.{◌*◌}
use mathlib.Core.List.{List, [], ◌∷◌}
use lib.ListN.{length}
use lib.IntN.{ℤ}
use lib.Dec.{ltb}
use Rattle.records.specs.Numbers.{answer_unsound, answer_malformed}
use Rattle.records.specs.Layout.{event_width, answer_width}
use Rattle.lists.specs.Tests.{◌is◌, first}
use Rattle.records.specs.Limits.{most_events}
use Rattle.rules.specs.Tables.{Tables, tables_with, sound_tables}
use Rattle.call_rules.specs.Calls.{Event, event_refusals, batch_refusals}

pub event-refusals-by : (t : Tables) (e w : List ℤ) (s m : Bool) → sound_tables t ≡ s → not (length e is event_width) || ltb (length w) answer_width ≡ m
    → first ((answer_unsound, not s) ∷ (answer_malformed, m) ∷ []) ≡ first (event_refusals t e w)
unfolding event_refusals
event-refusals-by t e w s m p q = rw (p, q)

pub batch-refusals-by : (t : Tables) (es : List Event) (w : List ℤ) (s m r : Bool) → sound_tables t ≡ s → ltb most_events (length es) ≡ m → ltb (length w) (length es * answer_width) ≡ r
    → first ((answer_unsound, not s) ∷ (answer_malformed, m || r) ∷ []) ≡ first (batch_refusals t es w)
unfolding batch_refusals
batch-refusals-by t es w s m r p q z = rw (p, q, z)

-- the test of the tables as they are read is that of the lent ones
pub sound-read : (hs : List ℤ) (t u : Tables) (s : Bool) → t ≡ u → s ≡ sound_tables (tables_with hs t) → sound_tables (tables_with hs u) ≡ s
sound-read hs t u s e q = sym (q ∙ ap (λ (t : Tables). sound_tables (tables_with hs t)) e)
