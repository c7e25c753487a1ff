-- Event 9: its refusals, and a tick that is not refused.
use Rattle.std.specs.Prelude.{◌≡◌, true, false, ℕ, suc, ◌+◌, ◌≤◌, ◌<◌, [], ◌∷◌, length, get_or, ltb, Result, IfOk}
use Rattle.records.specs.declared.refusals.Refusal.{Refusal}
use Rattle.records.specs.Outcomes.{number_by}
use Rattle.records.specs.Numbers.{answer_last_day, answer_full}
use Rattle.records.specs.Codes.{event_tick}
use Rattle.records.specs.Layout.{day_place}
use Rattle.records.specs.Encoding.{word}
use Rattle.lists.specs.Tests.{◌is◌, Cases}
use Rattle.records.specs.Limits.{final_day}
use Rattle.rules.specs.Book.{unused, Instruction, Book}
use Rattle.rules.specs.Refusals.{answer_number}
use Rattle.rules.specs.BusinessDays.{business_day}
use Rattle.rules.specs.Tick.{closes, close_accounts}
use Rattle.rules.specs.Tables.{Tables, room_in, holidays_in, book_of, sound_tables}
use Rattle.tick_rules.specs.Ticks.{fees_added, refunds_added}
use Rattle.tick_plan.specs.declared.Plan.{Plan}
use Rattle.tick_plan.specs.Plans.{Planned}
use Rattle.tick_base.specs.Midway.{Midway}

-- the refusals of event 9's own, out of the table of all, in checking order; 14 never applies
unfoldable pub tick_refusals : Book → Instruction → Cases
tick_refusals b e =
    (answer_last_day, b.day is final_day)
    ∷ (answer_full, ltb b.room (length b.rows + fees_added b + refunds_added b))
    ∷ []

-- j is the refusal of the tick e, or its plan
pub record Judges (b : Book) (e : Instruction) (j : Result Plan Refusal) : Type 0 where
  pub number : number_by j ≡ answer_number b e
  pub plan : IfOk j (Planned b)

-- sound tables whose book takes the tick e, and its plan
pub record Accepts (t : Tables) (e : Instruction) (p : Plan) : Type 0 where
  pub sound : sound_tables t ≡ true
  pub kind : e.kind ≡ event_tick
  pub taken : 0 ≡ answer_number (book_of t) e
  pub plan : Planned (book_of t) p

-- tables midway whose accounts can be closed, and a plan that is right about whether one closes, which it has on business days only
pub record Closes (t : Tables) (p : Plan) : Type 0 where
  pub midway : Midway (word t.header day_place) t
  pub room : length (close_accounts (book_of t)).rows ≤ room_in t
  pub business : p.closing ≡ true → business_day (holidays_in t) (word t.header day_place) ≡ true
  pub quiet : p.closing ≡ false → (k : ℕ) → k < length (book_of t).accounts →
      closes (book_of t) (suc k) (get_or (book_of t).accounts k unused) ≡ false
