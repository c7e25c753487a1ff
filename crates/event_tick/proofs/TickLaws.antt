-- Event 9: which refusals concern it, and the tables that its steps leave.
use mathlib.Core.Path.{◌≡◌, refl, ◌∙◌}
use mathlib.Core.Logic.{◌≢◌}
use mathlib.Core.Bool.{Bool, true, false}
use Prim.Native.Nat.{ℕ, ◌+◌, ◌≤◌, ◌<◌}
use native.Mathlib.Omega.{arith}
use mathlib.Core.List.{[], ◌∷◌}
use lib.ListN.{length}
use lib.Dec.{ltb}
use borrow.Author.Tests.{eqb-false, ltb-false, lt-ltb, le-leb, le-ltb}
use Rattle.std.specs.Prelude.{Ok}
use Rattle.records.specs.Numbers.{answer_last_day, answer_full, answer_ceiling}
use Rattle.records.specs.Codes.{event_tick}
use Rattle.lists.specs.Tests.{◌is◌, first}
use Rattle.records.specs.Limits.{final_day}
use Rattle.rules.specs.Book.{Instruction, Book}
use Rattle.rules.specs.Refusals.{after, full, ceiling, answer_number, shared_refusals, own_refusals}
use Rattle.rules.specs.Tables.{Tables, room_in, rows_used, book_of, whole_records, lengths_fit, used_fits, sound_tables}
use Rattle.rules.proofs.RefusalLaws.{own_tests, answer_number-own}
use Rattle.rules.specs.SoundFacts.{Near, Sound}
use Rattle.tick_rules.specs.Ticks.{fees_added, refunds_added}
use Rattle.tick_rules.proofs.CountLaws.{rows-after, tick-low}
use Rattle.posting.proofs.BookLaws.{used-read, room-read}
use Rattle.records.specs.Updates.{of_kind}
use Rattle.posting_laws.proofs.RefusalLaws.{at-kind}
use Rattle.posting.specs.Written.{Written}
use Rattle.posting_laws.proofs.WrittenLaws.{written-book}
use Rattle.tick_base.specs.Midway.{Midway}
use Rattle.tick_plan.specs.declared.Plan.{Plan}
use Rattle.tick_close.specs.Closing.{ReadyToClose}
use Rattle.event_tick.specs.TickEvent.{tick_refusals, Judges, Accepts, Closes}

-- ---- the number

-- 14 where nothing before it applies is no number of its own; 13 is told from the book before the tick, which has a day to come
in_order : (d r r' c : Bool) → (d ≡ false → r ≡ r') → (d ≡ false → r ≡ false → c ≡ false)
    → first ((answer_last_day, d) ∷ (answer_full, r) ∷ (answer_ceiling, c) ∷ [])
    ≡ first ((answer_last_day, d) ∷ (answer_full, r') ∷ [])
unfolding first
in_order true r r' c p q = refl
in_order false true r' c p q = rw (← p refl)
in_order false false r' c p q = rw (← p refl, q refl refl)

module _ (b : Book) (e : Instruction) (s : Sound b) where
  abbrev event9 : Instruction
  event9 = of_kind event_tick e

  lacking : b.day is final_day ≡ false → ltb b.room (length (after b event9).rows) ≡ ltb b.room (length b.rows + fees_added b + refunds_added b)
  lacking d = rw (rows-after b s (eqb-false b.day final_day d) event9 refl)

  low : b.day is final_day ≡ false → ltb b.room (length (after b event9).rows) ≡ false → ceiling b event9 ≡ false
  low d r =
      let ne : b.day ≢ final_day = eqb-false b.day final_day d in
      tick-low b s ne event9 refl (omega (arith, rows-after b s ne event9 refl, ltb-false b.room (length (after b event9).rows) r))

  own-9 : first (own_refusals b event9) ≡ first (tick_refusals b event9)
  unfolding own_tests full tick_refusals
  own-9 =
      in_order (b.day is final_day) (ltb b.room (length (after b event9).rows)) (ltb b.room (length b.rows + fees_added b + refunds_added b)) (ceiling b event9)
      lacking low

pub answer-tick : (b : Book) (e : Instruction) → Sound b → e.kind ≡ event_tick → first (shared_refusals b e) ≡ 0 → answer_number b e ≡ first (tick_refusals b e)
answer-tick b e s k a = answer_number-own b e a ∙ at-kind (λ x. first (own_refusals b x) ≡ first (tick_refusals b x)) e 9 k (own-9 b e s)

-- the same with what each test came to
pub tick-by : (b : Book) (e : Instruction) → Sound b → e.kind ≡ event_tick → first (shared_refusals b e) ≡ 0 → (d r : Bool) → b.day is final_day ≡ d
    → ltb b.room (length b.rows + fees_added b + refunds_added b) ≡ r → first ((answer_last_day, d) ∷ (answer_full, r) ∷ []) ≡ answer_number b e
unfolding tick_refusals
tick-by b e s k a d r q w = rw (answer-tick b e s k a, q, w)

-- ---- tables that hold a book of rows that fit

pub written-midway : (t u : Tables) (b : Book) (past : ℕ) → lengths_fit t ≡ true → Written t u b → length b.rows ≤ room_in t → Near past b → Midway past u
unfolding lengths_fit whole_records used_fits
written-midway t u b past l w h n = record {
  lengths = rw (w.header-size, w.accounts-size, w.journal-size) l;
  used = rw (w.used, w.journal-size) (le-leb (length b.rows) (room_in t) h);
  near = rw (written-book t u b w h) n;
}

-- ---- 13, over sound tables: n rows are added

module _ (t : Tables) (s : sound_tables t ≡ true) (n : ℕ) (e : n ≡ fees_added (book_of t) + refunds_added (book_of t)) where
  pub tick-lacks : room_in t < rows_used t + n → ltb (book_of t).room (length (book_of t).rows + fees_added (book_of t) + refunds_added (book_of t)) ≡ true
  tick-lacks h = lt-ltb (book_of t).room _ (omega (arith, room-read t s, used-read t s))

  pub tick-fits : rows_used t + n ≤ room_in t → ltb (book_of t).room (length (book_of t).rows + fees_added (book_of t) + refunds_added (book_of t)) ≡ false
  tick-fits h = le-ltb (book_of t).room _ (omega (arith, room-read t s, used-read t s))

-- ---- closings as planned

pub ready : (t : Tables) (p : Plan) → Closes t p → p.closing ≡ true → ReadyToClose t
ready t p c e = record { midway = c.midway; business = c.business e; room = c.room }

pub accepts-planned : (t : Tables) → sound_tables t ≡ true → (e : Instruction) → e.kind ≡ event_tick → (p : Plan) → Judges (book_of t) e (Ok p) → Accepts t e p
accepts-planned t s e k p j = record { sound = s; kind = k; taken = j.number; plan = j.plan }
