-- Lists of events through the book and through the replay, computed from both sets of definitions: they agree row by row, and about which
-- accounts are closed.
use mathlib.Core.Path.{◌≡◌, refl}
use Prim.Native.Nat.{ℕ}
use mathlib.Core.Bool.{Bool, true, false, ◌&&◌}
use mathlib.Core.List.{List, [], ◌∷◌, ◌++◌, map}
use lib.IntN.{pos, negsuc}
use Rattle.lists.specs.Tests.{◌is◌, all_of}
use Rattle.rules.specs.Rows.{Row, held_toll}
use Rattle.rules.specs.Book.{Account, state_closed, Instruction, Book, row, balance}
use Rattle.rules.specs.Posting.{book_after}
use Rattle.rules.specs.Opening.{opening}
use Rattle.rules.proofs.Computing.{computing}
use Rattle.rules.proofs.Examples.{event, ticks, schedule, rates}
use Rattle.replay.specs.Entries
use Rattle.replay.specs.Replay
use Rattle.replay.specs.Demand3
use Rattle.replay.specs.Entries.{Entry, entry_no, is_toll, balance_of}
use Rattle.replay.specs.Replay.{Note, Replay, replay, begin}
use Rattle.replay.specs.Demand3.{reports_of, toll_named, stage_of, stage_fees, day_reached, fees_naming}

-- what unfolds for the replay to compute
unfoldable replaying : Unit {0}
unfolding Entries.fee_of Entries.on_hold Entries.sum_of Entries.balance_of Entries.money_in Entries.money_out Entries.unused_of Entries.wanted_by Entries.wanted_by_toll Entries.wanted_by_rest Entries.cover Entries.cover_rank Entries.settle_entries Entries.settle_all_entries Replay.settled_replay Replay.toll_goes_to Replay.note_topup Replay.note_request Replay.note_successor Replay.note_list Replay.add_toll Replay.add_payment Replay.add_topup Replay.add_return Replay.set_hold Replay.toll_and_fees Replay.add_credit Replay.free_toll Replay.gains Replay.count_tick Replay.count_day Replay.reaches Replay.add_fee Replay.add_fees Replay.closing Replay.add_refund Replay.use_money Replay.close_note Replay.close_all Replay.tick_replay Replay.step_of Replay.replay_one Replay.replay Replay.begin Demand3.reports_of Demand3.toll_named Demand3.stage_of Demand3.day_reached Demand3.stage_fees Demand3.fees_naming
replaying = tt

-- two accounts: a duplicate passage that is refused; a hold freed by its thirtieth tick, its toll paid after 29 open days; an account that closes with a refund, pends again by
-- a returned check and closes again; a toll raised twice, disputed with its fee and upheld while a top-up lies idle beside them; a
-- passage of one day posted before and after a rate list is added
abbrev listed : List Instruction
listed =
    event 1 1 100 2000 0 0 0
    ∷ event 1 2 0 0 0 0 0
    ∷ event 2 1 41 1 2 60 2
    ∷ event 2 1 41 1 2 60 2
    ∷ event 3 2 900 3 0 0 0
    ∷ event 2 1 42 1 5 0 1
    ∷ event 5 1 1 0 0 0 0
    ∷ ticks 10
    ++ event 8 2 0 0 0 0 0
    ∷ event 2 2 43 11 3 0 1
    ∷ record { kind = 10; account = 0; a = 5; b = 260; c = 510; d = 610; e = 910; f = 1210; g = 1610 }
    ∷ event 2 2 44 11 3 0 1
    ∷ ticks 49
    ++ event 3 1 500 2 0 0 0
    ∷ ticks 1
    ++ event 4 2 2 100 0 0 0
    ∷ event 3 1 200 2 0 0 0
    ∷ event 5 1 3 0 0 0 0
    ∷ event 7 1 0 1 0 0 0
    ∷ event 6 1 3 1 0 0 0
    ∷ event 3 2 5000 1 0 0 0
    ∷ ticks 30

-- account 1 closes and has account 2 as its successor, which takes a toll of it; a returned check reopens it, and it takes a toll itself; paid,
-- it closes again, and account 2 takes another
abbrev passed_on : List Instruction
passed_on =
    event 1 1 0 0 0 0 0
    ∷ event 1 2 0 0 0 0 0
    ∷ event 3 1 700 3 0 0 0
    ∷ event 8 1 0 0 0 0 0
    ∷ ticks 16
    ++ event 12 1 2 0 0 0 0
    ∷ event 2 1 41 17 2 60 2
    ∷ event 4 1 1 100 0 0 0
    ∷ event 2 1 42 17 2 60 2
    ∷ event 3 1 1800 2 0 0 0
    ∷ ticks 1
    ++ event 2 1 43 18 2 60 2
    ∷ []

abbrev opened : Book
opened = opening 1 schedule rates 2 24

abbrev book : List Instruction → Book
book es = book_after opened es

abbrev start : Replay
start = begin 1 schedule rates [] 2

abbrev ended : List Instruction → Replay
ended es = replay start (reports_of opened es)

-- ---- both sides as numbers, compared by a test that computes

abbrev same : List ℕ → List ℕ → Bool
same [] [] = true
same [] (y ∷ ys) = false
same (x ∷ xs) [] = false
same (x ∷ xs) (y ∷ ys) = x is y && same xs ys

abbrev joined : {A : Type 0} → (A → List ℕ) → List A → List ℕ
joined f [] = []
joined f (x ∷ xs) = f x ++ joined f xs

abbrev digit : Bool → ℕ
digit true = 1
digit false = 0

abbrev row_numbers : List Row → Row → List ℕ
row_numbers rows r = r.kind ∷ r.account ∷ r.day ∷ r.amount ∷ r.settled ∷ digit (held_toll r) ∷ toll_named rows r ∷ []

abbrev entry_numbers : Entry → List ℕ
entry_numbers x = x.kind ∷ x.account ∷ x.day ∷ x.amount ∷ x.covered ∷ digit (is_toll x && x.hold) ∷ x.toll ∷ []

abbrev account_numbers : Account → List ℕ
account_numbers x = digit (x.state is state_closed) ∷ x.successor ∷ []

abbrev note_numbers : Note → List ℕ
note_numbers n = digit n.closed ∷ n.successor ∷ []

abbrev pairs : List (ℕ × ℕ) → List ℕ
pairs ps = joined (λ p. p.0 ∷ p.1 ∷ []) ps

-- the rows are the entries; the stages and the fees of these tolls follow from open days; the accounts are as noted
abbrev agree_on : List ℕ → List Instruction → Bool
agree_on tolls es =
    all_of
    (same (joined (row_numbers (book es).rows) (book es).rows) (joined entry_numbers (ended es).entries)
    ∷ same (map (λ n. (row (book es) n).mark) tolls) (map (λ n. stage_of schedule.stage (entry_no (ended es).entries n)) tolls)
    ∷ same (joined (λ n. pairs (fees_naming n (book es).rows)) tolls)
    (joined (λ n. pairs (stage_fees schedule (row (book es) n).mark (λ k. day_reached n k start (reports_of opened es)))) tolls)
    ∷ same (joined account_numbers (book es).accounts) (joined note_numbers (ended es).notes)
    ∷ [])

pub agreement : (agree_on (1 ∷ 3 ∷ []) listed ≡ true) × (agree_on (3 ∷ 6 ∷ 8 ∷ []) passed_on ≡ true)
unfolding computing replaying
agreement = (refl, refl)

-- and the balances from the six sums; the tolls passed on are the successor's
pub balances
    : (balance (book listed) 1 ≡ pos 2200) × (balance_of 1 (ended listed).entries ≡ pos 2200)
    × (balance (book listed) 2 ≡ pos 0) × (balance_of 2 (ended listed).entries ≡ pos 0)
    × (balance_of 1 (ended passed_on).entries ≡ pos 0) × (balance_of 2 (ended passed_on).entries ≡ negsuc 999)
unfolding computing replaying
balances = (refl, refl, refl, refl, refl, refl)
