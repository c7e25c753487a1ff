-- Laws of the calls: one that is refused leaves the tables as they were and the other answer words 0, for every refusal.
use mathlib.Core.Path.{◌≡◌, refl, ap}
use mathlib.Core.Bool.{Bool, true, false, cond}
use Prim.Native.Nat.{ℕ, ◌*◌, ◌≤◌}
use mathlib.Core.List.{List, []}
use lib.ListN.{length}
use lib.Dec.{eqb}
use lib.IntN.{ℤ}
use borrow.Author.Tests.{le-ltb}
use Rattle.lists.specs.Tests.{first}
use Rattle.records.specs.Limits.{most_events}
use Rattle.records.specs.Encoding.{instruction_from}
use Rattle.records.specs.Layout.{answer_width}
use Rattle.rules.specs.Book.{Answer}
use Rattle.rules.specs.Successors.{forwarded}
use Rattle.rules.specs.Posting.{refusal_by, Posted, receive}
use Rattle.rules.specs.Tables.{Tables, book_of, sound_tables}
use Rattle.rules.proofs.PostingLaws.{post-number-alone}
use Rattle.call_rules.specs.Calls.{Event, opening_refusals, open_call, event_refusals, event_call, answered, batch_refusals, batch_call}

-- "The book's tables stay unchanged and other words are 0; a refused batch or opening writes nothing"

pub event_call-refused-tables : (t : Tables) (e answers : List ℤ) → eqb (event_call t e answers).number 0 ≡ false → (event_call t e answers).tables ≡ t
unfolding event_call
event_call-refused-tables t e answers q = rw q

pub event_call-refused-answers : (t : Tables) (e answers : List ℤ) → eqb (event_call t e answers).number 0 ≡ false
    → (event_call t e answers).answers ≡ answered (refusal_by (event_call t e answers).number) answers
unfolding event_call
event_call-refused-answers t e answers = go (eqb (first (event_refusals t e answers)) 0)
  where
    p : Posted
    p = receive (book_of t) (instruction_from e)

    n : ℕ
    n = first (event_refusals t e answers)

    go : (v : Bool) → eqb (cond v p.answer (refusal_by n)).number 0 ≡ false
        → answered (cond v p.answer (refusal_by n)) answers ≡ answered (refusal_by (cond v p.answer (refusal_by n)).number) answers
    go true q = ap (λ (a : Answer). answered a answers) (post-number-alone (book_of t) (forwarded (book_of t) (instruction_from e)) q)
    go false q = refl

pub batch_call-refused : (t : Tables) (es : List Event) (answers : List ℤ) → eqb (first (batch_refusals t es answers)) 0 ≡ false
    → batch_call t es answers ≡ record { number = first (batch_refusals t es answers); tables = t; answers = answers }
unfolding batch_call
batch_call-refused t es answers q = rw q

-- a batch on sound tables that is not too long and has room for its answers
pub batch_call-runs : (t : Tables) (es : List Event) (answers : List ℤ) → sound_tables t ≡ true → length es ≤ most_events → length es * answer_width ≤ length answers
    → first (batch_refusals t es answers) ≡ 0
unfolding batch_refusals first
batch_call-runs t es answers s m a = rw (s, le-ltb most_events (length es) m, le-ltb (length answers) (length es * answer_width) a)

pub open_call-refused : (t : Tables) (w : List ℤ) → eqb (first (opening_refusals t w)) 0 ≡ false
    → open_call t w ≡ record { number = first (opening_refusals t w); tables = t; answers = [] }
unfolding open_call
open_call-refused t w q = rw q
