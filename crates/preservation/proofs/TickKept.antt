-- Sound stays sound: a day tick (event 9). Refusal 14 bounds the refunds, refusal 13 the rows, refusal 12 the day.
use mathlib.Core.Path.{◌≡◌, refl, sym, ap, ◌∙◌}
use mathlib.Core.Logic.{◌≢◌}
use mathlib.Core.Bool.{Bool, true, false, cond, ◌&&◌, true≢false}
use Prim.Native.Nat.{ℕ, suc, ◌+◌, ◌-◌, ◌≤◌, ◌<◌}
use native.Mathlib.Omega.{arith}
use mathlib.Core.List.{List, ◌++◌, map}
use lib.ListN.{length, get_or, drop, length-append, length-map, length-drop}
use lib.Seq.{get_or-drop, drop-append-le}
use lib.Dec.{eqb, ltb}
use borrow.Author.Tests.{ltb-false, eq-eqb}
use Rattle.records.specs.Updates.{of_kind}
use Rattle.records.specs.Codes.{event_tick}
use Rattle.lists.specs.Lists.{sum_by, count, exists, one, gather}
use Rattle.lists.proofs.SumLaws.{sum_by-append, sum_by-longer}
use Rattle.lists.proofs.GatherLaws.{gather-at-le}
use Rattle.records.specs.Limits.{final_day, highest_refund}
use Rattle.rules.specs.Rows.{Row, Test, blank}
use Rattle.rules.specs.Settlement.{money, settle_accounts}
use Rattle.rules.specs.Book.{Account, unused, Instruction, Book, settled}
use Rattle.rules.specs.Tick.{before_raising, raise, fee_row, raise_tolls, closes, refund_row, use_up, close_accounts, tick}
use Rattle.rules.specs.Refusals.{change_of, after, last_day, ceiling}
use Rattle.rules.proofs.AllocationLaws.{bare}
use Rattle.rules.proofs.SettlementAccountsLaws.{length-settle_accounts, settle_accounts-row}
use Rattle.rules.specs.SoundFacts.{Near}
use Rattle.preservation.proofs.Accepted.{Accepted}
use Rattle.preservation.proofs.LookupLaws.{after-fits}
use Rattle.preservation.proofs.HoldsEnded.{before_raising-near}
use Rattle.preservation.proofs.TollsRaised.{raise_tolls-near}
use Rattle.preservation.proofs.ClosingLaws.{refunds, refund, rows'}
use Rattle.preservation.proofs.AccountsClosed.{close_accounts-near}
use Rattle.preservation.proofs.TickSteps.{unraised-day, unraised-room, unraised-length}

-- a count over the later rows that does not look at what is settled stays under settlement
count-later : (t : Test) → ((r : Row) → t (bare r) ≡ t r) → (a n : ℕ) (rows : List Row) → count t (drop n (settle_accounts a rows)) ≡ count t (drop n rows)
unfolding count
count-later t s a n rows =
    let xs : List Row = settle_accounts a rows in
    let l : length xs ≡ length rows = length-settle_accounts a rows in
    let m : length (drop n xs) ≡ length xs - n = length-drop n xs in
    let o : length (drop n rows) ≡ length rows - n = length-drop n rows in
    sum_by-longer (λ r. cond (t r) 1 0) (λ r. cond (t r) 1 0) blank (drop n xs) (drop n rows) (omega arith)
    (λ i h. rw (get_or-drop n xs i blank, get_or-drop n rows i blank, same (n + i))) (λ i h q. absurd (omega arith))
  where
    same : (i : ℕ) → t (get_or (settle_accounts a rows) i blank) ≡ t (get_or rows i blank)
    same i = sym (s (get_or (settle_accounts a rows) i blank)) ∙ ap t (settle_accounts-row a rows i).kept ∙ s (get_or rows i blank)

module _ (b : Book) (i : Instruction) where
  abbrev event9 : Instruction
  event9 = of_kind event_tick i

  -- the book in which accounts are about to close
  abbrev late : Book
  late = raise_tolls (before_raising b)

  -- ---- its day, its rooms and its rows

  late-longer : length b.rows ≤ length late.rows
  unfolding raise_tolls
  late-longer =
      let r : Book = before_raising b in
      omega (
        arith,
        unraised-length b,
        length-append (map (raise r.schedule r.day) r.rows) (gather (fee_row r.schedule r.day) r.rows),
        length-map r.rows (raise r.schedule r.day),
      )

  module _ (q : Accepted b event9) where
    not_last : b.day ≢ final_day
    unfolding last_day
    not_last e = true≢false (sym (eq-eqb b.day final_day e) ∙ q.later)

    closed-fits : length (rows' late) ≤ b.room
    unfolding change_of tick close_accounts
    closed-fits = after-fits b event9 q.fits

    late-fits : length late.rows ≤ b.room
    late-fits = omega (arith, closed-fits, length-append (map (use_up late) late.rows) (refunds late), length-map late.rows (use_up late))

    -- ---- no refund is above the ceiling

    above : Test
    above r = eqb r.kind 6 && ltb highest_refund r.amount

    none_above : count above (refunds late) ≡ 0
    unfolding ceiling exists after change_of tick close_accounts settled above count
    none_above =
        let g : Row → ℕ = λ r. cond (above r) 1 0 in
        let xs : List Row = map (use_up late) late.rows in
        let all = ltb-false 0 (count above (drop (length b.rows) (after b event9).rows)) q.low in
        let e = count-later above (λ r. refl) (length (close_accounts late).accounts) (length b.rows) (rows' late) in
        let f : drop (length b.rows) (rows' late) ≡ drop (length b.rows) xs ++ refunds late =
        drop-append-le (length b.rows) xs (refunds late) (omega (arith, late-longer, length-map late.rows (use_up late))) in
        omega (arith, ap (sum_by g) f, sum_by-append g (drop (length b.rows) xs) (refunds late))

    refund-low : (k : ℕ) → k < length late.accounts → closes late (suc k) (get_or late.accounts k unused) ≡ true → money (suc k) late.rows ≤ highest_refund
    unfolding count above refund_row sum_by
    refund-low k l e =
        let g : Row → ℕ = λ r. cond (above r) 1 0 in
        let y : Account = get_or late.accounts k unused in
        let z : sum_by g (refund_row late (suc k) y) ≤ 0 = omega (arith, gather-at-le (refund_row late) g 1 late.accounts unused k (suc k) (omega arith) l, none_above) in
        go (ltb 0 (money (suc k) late.rows)) refl (rw e at z)
      where
        big : (t : Bool) → ltb highest_refund (money (suc k) late.rows) ≡ t → cond t 1 0 + 0 ≤ 0 → money (suc k) late.rows ≤ highest_refund
        big true f h = absurd (omega arith)
        big false f h = ltb-false highest_refund (money (suc k) late.rows) f

        go : (t : Bool) → ltb 0 (money (suc k) late.rows) ≡ t
            → sum_by (λ r. cond (eqb r.kind 6 && ltb highest_refund r.amount) 1 0) (one (true && t) (refund late (suc k))) ≤ 0 → money (suc k) late.rows ≤ highest_refund
        go true f h = big (ltb highest_refund (money (suc k) late.rows)) refl h
        go false f h = omega (arith, ltb-false 0 (money (suc k) late.rows) f)

  same-day : Near (before_raising b).day (close_accounts late) → Near (close_accounts late).day (close_accounts late)
  unfolding close_accounts raise_tolls
  same-day s = s

  late-room : late.room ≡ b.room
  unfolding raise_tolls
  late-room = unraised-room b

  pub tick-near : Near b.day b → Accepted b event9 → Near (change_of event_tick b event9).day (change_of event_tick b event9)
  unfolding change_of tick
  tick-near s q =
      same-day
      (close_accounts-near late (before_raising b).day
      (raise_tolls-near b.day (before_raising b) (before_raising-near b s (not_last q)) (unraised-day b) (omega (arith, late-fits q, unraised-room b)))
      (omega (arith, closed-fits q, late-room)) (refund-low q))
