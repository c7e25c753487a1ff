-- Demand 3 of calls: the opening, and from it any list of calls.
use mathlib.Core.Path.{◌≡◌, refl}
use mathlib.Core.Bool.{false}
use Prim.Native.Nat.{ℕ, ◌≤◌}
use native.Mathlib.Omega.{arith}
use mathlib.Core.List.{List}
use lib.IntN.{ℤ}
use Rattle.lists.proofs.PairLaws.{none}
use Rattle.lists.proofs.CollectLaws.{collect}
use Rattle.rules.specs.Opening.{opening}
use Rattle.rules.specs.Tables.{Tables, accounts_in, book_of}
use Rattle.rules.proofs.SoundnessLaws.{sound-facts}
use Rattle.call_rules.specs.Calls.{opened_book, open_call}
use Rattle.call_rules.proofs.OpenCallLaws.{opened_book-sound, open_call-sound, book_of-open_call}
use Rattle.replay.specs.Replay.{begin}
use Rattle.replay.proofs.SoundRows.{stage-length}
use Rattle.replay.proofs.StageFees.{fees_at}
use Rattle.replay.proofs.FeesAlong.{FeesOf, attained}
use Rattle.replay.proofs.AnyEvents.{Underway}
use Rattle.replay.proofs.Claim.{demand3, notes-noted, none-attained}
use Rattle.call_replay.specs.CallLists.{reports, tables_after, replay_start, Claim3}
use Rattle.call_replay.proofs.AnyCalls.{calls-ended}

module _ (t : Tables) (w : List ℤ) (z : (open_call t w).number ≡ 0) where
  start-stage : 1 ≤ (replay_start t w).schedule.stage
  unfolding replay_start begin opened_book opening
  start-stage = stage-length (opened_book t w) (sound-facts (opened_book t w) (opened_book-sound t w z)).near

  start_none : (n k : ℕ) → 2 ≤ k → attained (replay_start t w) n k ≡ false
  start_none = none-attained (replay_start t w) (unfold replay_start begin in refl) start-stage

  start-fees : FeesOf (replay_start t w) (λ n k. 0)
  unfolding replay_start begin collect fees_at
  start-fees n h = rw (start_none n 2 (omega arith), start_none n 3 (omega arith), start_none n 4 (omega arith))

  start-underway : Underway (opened_book t w) (replay_start t w) (λ n k. 0)
  unfolding replay_start begin opened_book opening
  start-underway = record {
    is-sound = opened_book-sound t w z;
    alike = record { day = refl; schedule = refl; lists = refl; holidays = refl; rows = none; notes = notes-noted (accounts_in t) };
    fees = start-fees;
  }

-- ---- the claim

pub demand-3 : Claim3
demand-3 t w z cs =
    demand3 (book_of (tables_after (open_call t w).tables cs)) (replay_start t w) (λ n k. 0) (reports (open_call t w).tables cs)
    (calls-ended cs (open_call t w).tables (replay_start t w) (λ n k. 0) (open_call-sound t w z) (rw (book_of-open_call t w z) (start-underway t w z)))
    (start_none t w z)
