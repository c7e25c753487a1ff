-- Demand 3 (document 01, "What demand 3 counts"): what the replay is fed of a list of events, and what a book and a replay are compared in.
use Rattle.std.specs.Prelude.{◌≡◌, true, not, cond, ◌&&◌, ℕ, ◌*◌, ◌/◌, min, List, [], ◌∷◌, map, leb, ltb}
use Rattle.records.specs.Codes.{last_stage}
use Rattle.lists.specs.Tests.{◌is◌}
use Rattle.lists.specs.Lists.{one, gather, gather_from}
use Rattle.rules.specs.Schedule.{Schedule}
use Rattle.rules.specs.Rows.{Row, kind_toll, kind_fee, row_no, held_toll, fee_naming}
use Rattle.rules.specs.Book.{state_closed, Instruction, Book, account, row, balance}
use Rattle.rules.specs.Successors.{forwarded}
use Rattle.rules.specs.Refusals.{answer_number}
use Rattle.rules.specs.Posting.{receive}
use Rattle.replay.specs.Entries.{Entry, entry_no, is_money, is_debt, is_toll, covered_whole, on_hold, balance_of}
use Rattle.replay.specs.Replay.{Replay, Report, note_no, replay_one}

-- ---- what the replay is fed

-- "Accepted events are exactly those to which no refusal of the table applies"; the replay is fed them as they were handed over
unfoldable pub reports_of : Book → List Instruction → List Report
reports_of b [] = []
reports_of b (e ∷ es) = record { event = e; accepted = answer_number b (forwarded b e) is 0 } ∷ reports_of (receive b e).book es

-- ---- what is compared

-- "equal the entries in kind, account, day, amount and settled (part covered)"
pub record Line : Type 0 where
  pub kind : ℕ
  pub account : ℕ
  pub day : ℕ
  pub amount : ℕ
  pub settled : ℕ

-- a row of the book as a line
abbrev pub line_of_row : Row → Line
line_of_row r = record { kind = r.kind; account = r.account; day = r.day; amount = r.amount; settled = r.settled }

-- an entry of the replay as a line
abbrev pub line_of_entry : Entry → Line
line_of_entry x = record { kind = x.kind; account = x.account; day = x.day; amount = x.amount; settled = x.covered }

-- the toll that a fee row names, 0 for any other row
unfoldable pub toll_named : List Row → Row → ℕ
toll_named rows r = cond (r.kind is kind_fee && (row_no rows r.reference).kind is kind_toll) r.reference 0

-- "Stage = the lesser of 4 and the whole part of open days ÷ L"
unfoldable pub stage_of : ℕ → Entry → ℕ
stage_of L x = min last_stage (x.open-days / L)

-- the day of the first tick, after the beginning, at which entry n had k × L open days
unfoldable pub day_reached : ℕ → ℕ → Replay → List Report → ℕ
day_reached n k p [] = 0
day_reached n k p (h ∷ hs) =
    let q : Replay = replay_one p h in
    cond (leb (k * q.schedule.stage) (entry_no q.entries n).open-days) q.day (day_reached n k q hs)

-- "the nonzero ones from stage 2 to its stage, each added at the tick that reaches it": amounts and days
unfoldable pub stage_fees : Schedule → ℕ → (ℕ → ℕ) → List (ℕ × ℕ)
stage_fees s stage reached = gather_from (λ k fee. one (leb k stage && ltb 0 fee) (fee, reached k)) 2 (s.fee2 ∷ s.fee3 ∷ s.fee4 ∷ [])

-- "its fees, the fee rows that name it": amounts and days, in row order
unfoldable pub fees_naming : ℕ → List Row → List (ℕ × ℕ)
fees_naming n rows = gather (λ i r. one (fee_naming n r) (r.amount, r.day)) rows

-- ---- the claim: b is the book, start the replay at the opening, hs what it is fed, p where it ends

pub record Demand3 (b : Book) (start : Replay) (hs : List Report) (p : Replay) : Type 0 where
  -- balance = payments + credits - tolls - fees - reversals - refunds
  pub balances : (a : ℕ) → balance b a ≡ balance_of a p.entries
  -- no money of an account is unused while a debt of it that is not held is uncovered
  pub no-idle-money : (i j : ℕ)
      → is_money (entry_no p.entries i) && not (covered_whole (entry_no p.entries i)) ≡ true
      → is_debt (entry_no p.entries j) && not (covered_whole (entry_no p.entries j))
      && not (on_hold p.entries (entry_no p.entries j)) ≡ true
      → (entry_no p.entries i).account ≡ (entry_no p.entries j).account → ⊥
  -- each toll's stage and fees follow from its open days
  pub stages : (n : ℕ) → (row b n).kind ≡ kind_toll → (row b n).mark ≡ stage_of start.schedule.stage (entry_no p.entries n)
  pub fees : (n : ℕ) → (row b n).kind ≡ kind_toll
      → fees_naming n b.rows ≡ stage_fees start.schedule (row b n).mark (λ k. day_reached n k start hs)
  -- the rows are the entries, the same tolls are held, and each fee names the toll of its entry
  pub lines : map line_of_row b.rows ≡ map line_of_entry p.entries
  pub held : map held_toll b.rows ≡ map (λ x. is_toll x && x.hold) p.entries
  pub fee-tolls : map (toll_named b.rows) b.rows ≡ map (λ x. x.toll) p.entries
  -- an account is closed exactly where the replay takes it as closed, and has the successor that it notes
  pub closed : (a : ℕ) → ((account b a).state is state_closed) ≡ (note_no p.notes a).closed
  pub successors : (a : ℕ) → (account b a).successor ≡ (note_no p.notes a).successor
