-- How many rows a tick adds, told from the book before it; and that no refund is above the ceiling.
use mathlib.Core.Path.{◌≡◌, refl, sym, ap, ◌∙◌}
use mathlib.Core.Logic.{◌≢◌}
use mathlib.Core.Bool.{Bool, true, false, ◌&&◌, ◌||◌, true≢false}
use Prim.Native.Nat.{ℕ, zero, suc, ◌+◌, ◌*◌, ◌≤◌, ◌<◌}
use native.Mathlib.Omega.{arith}
use mathlib.Core.List.{map}
use lib.ListN.{length, get_or, drop, length-append, length-map, length-drop}
use lib.Seq.{get_or-drop}
use lib.Dec.{eqb, ltb}
use borrow.Author.Tests.{eqb-true, le-ltb}
use Rattle.records.specs.Codes.{event_tick}
use Rattle.lists.specs.Tests.{◌is◌}
use Rattle.lists.specs.Lists.{count, one, gather}
use Rattle.lists.proofs.TestLaws.{and_right}
use Rattle.lists.proofs.SumLaws.{sum_by-only-le, count-le}
use Rattle.lists.proofs.ExistsLaws.{none-exists}
use Rattle.lists.proofs.GatherLaws.{gather-each, grown-each, length-gather-same}
use Rattle.records.specs.Limits.{final_day, highest_credit, highest_refund}
use Rattle.rules.specs.Rows.{Row, Test, kind_refund, blank, remaining, source, source_of}
use Rattle.rules.specs.Settlement.{money}
use Rattle.rules.specs.Book.{unused, Instruction, Book, settled}
use Rattle.rules.specs.Soundness.{most_of, amount_fits}
use Rattle.rules.specs.Tick.{next_day, end_holds, before_raising, fee_row, raise_tolls, closes, refund_row, use_up, close_accounts, tick}
use Rattle.rules.specs.Refusals.{change_of, after, ceiling}
use Rattle.rules.specs.SoundFacts.{Sound}
use Rattle.rules.proofs.StorableLaws.{between_le, room-le, rows-le}
use Rattle.preservation.proofs.SettledLaws.{length-settled}
use Rattle.preservation.proofs.HoldsEnded.{before_raising-near}
use Rattle.preservation.proofs.ClosingLaws.{keeps, up-blank, refunds, refund, rows'}
use Rattle.preservation.proofs.TickSteps.{unraised, unraised-length}
use Rattle.tick_rules.specs.Ticks.{will_refund, fees_added, refunds_added}
use Rattle.tick_rules.proofs.RisingLaws.{fees-same}
use Rattle.tick_rules.proofs.LateLaws.{fees, late, late-length, money-late, added-each}
use Rattle.tick_rules.proofs.RefundLaws.{refund-told}
use Rattle.tick_rules.proofs.QuietLaws.{after-tick}

one-length : {A B : Type 0} (v w : Bool) (x : A) (y : B) → v ≡ w → length (one v x) ≡ length (one w y)
one-length true true x y e = refl
one-length true false x y e = absurd (true≢false e)
one-length false true x y e = absurd (true≢false (sym e))
one-length false false x y e = refl

module _ (b : Book) (s : Sound b) (ne : b.day ≢ final_day) where
  abbrev late_book : Book
  late_book = raise_tolls (before_raising b)

  -- ---- the rows added

  fees-length : length (fees (before_raising b)) ≡ fees_added b
  unfolding fees_added
  fees-length = ap length told
    where
      told : fees (before_raising b) ≡ gather (fee_row b.schedule (b.day + 1)) b.rows
      told = unfold before_raising settled end_holds next_day in (fees-same b s)

  refunds-length : length (refunds late_book) ≡ refunds_added b
  unfolding refunds_added refund_row
  refunds-length =
      same-accounts
      ∙ length-gather-same (refund_row late_book) (λ n x. one (will_refund b n x) blank) 1 b.accounts unused
      (λ n k e h. let z : n ≡ suc k = omega arith in rw z (one-length _ _ _ _ (refund-told b s ne k h (get_or b.accounts k unused))))
    where
      same-accounts : length (gather (refund_row late_book) late_book.accounts) ≡ length (gather (refund_row late_book) b.accounts)
      same-accounts = unfold raise_tolls before_raising settled end_holds next_day in refl

  -- the rows of the book in which tolls are raised
  late-count : length (late (before_raising b)) ≡ length b.rows + fees_added b
  late-count = late-length (before_raising b) ∙ omega (arith, fees-length, unraised-length b)

  closed-count : length (close_accounts late_book).rows ≡ length b.rows + fees_added b + refunds_added b
  unfolding close_accounts
  closed-count =
      length-append (map (use_up late_book) late_book.rows) (refunds late_book)
      ∙ omega (arith, length-map late_book.rows (use_up late_book), late-count, refunds-length)

  pub rows-after : (e : Instruction) → e.kind ≡ event_tick → length (after b e).rows ≡ length b.rows + fees_added b + refunds_added b
  unfolding after change_of tick
  rows-after e k = rw k (length-settled (close_accounts late_book) ∙ closed-count)

  pub late-fits : length b.rows + fees_added b + refunds_added b ≤ b.room → length (late (before_raising b)) ≤ b.room
  late-fits h = omega (arith, late-count)

  -- ---- no refund is above the ceiling: 8,192 sources of at most 1,300,000 each

  source-small : (m k : ℕ) → k < length (unraised b) → source_of m (get_or (unraised b) k blank) ≡ true → remaining (get_or (unraised b) k blank) ≤ highest_credit
  unfolding source_of
  source-small m k l e = go (eqb r.kind 4) refl (and_right (eqb r.account m) (source r) e)
    where
      r : Row
      r = get_or (unraised b) k blank

      fits : r.amount ≤ most_of r.kind
      fits = unfold amount_fits in (between_le 1 (most_of r.kind) r.amount ((before_raising-near b s.near ne).shape k l).amount)

      low : (n : ℕ) → r.kind ≡ n → most_of n ≤ highest_credit → remaining r ≤ highest_credit
      low n e h = let f : r.amount ≤ most_of n = rw e at fits in omega arith

      go : (v : Bool) → eqb r.kind 4 ≡ v → v || eqb r.kind 5 ≡ true → remaining r ≤ highest_credit
      go true f g = low 4 (eqb-true r.kind 4 f) (unfold most_of in (omega arith))
      go false f g = low 5 (eqb-true r.kind 5 g) (unfold most_of in (omega arith))

  money-small : (m : ℕ) → money m (late (before_raising b)) ≤ highest_refund
  money-small m =
      let f = sum-small in
      let c = count-le (source_of m) (unraised b) in
      let few : length (unraised b) ≤ 8192 = omega (arith, unraised-length b, rows-le b.day b s.near, room-le b.day b s.near) in
      omega (arith, money-late (before_raising b) m)
    where
      sum-small : money m (unraised b) ≤ count (source_of m) (unraised b) * highest_credit
      sum-small = unfold money in (sum_by-only-le (source_of m) remaining highest_credit blank (unraised b) (source-small m))

  abbrev above : Test
  above r = r.kind is kind_refund && ltb highest_refund r.amount

  -- a row added: a fee, or a refund
  low-row : (k : ℕ) → length b.rows ≤ k → k < length (rows' late_book) → above (get_or (rows' late_book) k blank) ≡ false
  low-row k l h =
      grown-each (use_up late_book) blank (up-blank late_book) late_book.rows (refunds late_book) k (λ r. above r ≡ false) h
      (λ q. keeps late_book (λ r. above r) (λ r v. refl) (get_or late_book.rows k blank)
      ∙ added-each (before_raising b) (λ r. above r ≡ false) (λ n i z e. refl) k (omega (arith, unraised-length b)) q)
      (λ j e q. each j q)
    where
      go : (n : ℕ) (v : Bool) (j : ℕ) → j < length (one v (refund late_book n)) → above (get_or (one v (refund late_book n)) j blank) ≡ false
      go n true zero h = le-ltb highest_refund (money n late_book.rows) (money-small n)
      go n true (suc j) h = absurd (omega arith)
      go n false j h = absurd (omega arith)

      each : (j : ℕ) → j < length (refunds late_book) → above (get_or (refunds late_book) j blank) ≡ false
      each = unfold refund_row in
          (gather-each (refund_row late_book) (λ r. above r ≡ false) 1 late_book.accounts unused blank
          (λ n k e l j q. go n (closes late_book n (get_or late_book.accounts k unused) && ltb 0 (money n late_book.rows)) j q))

  pub tick-low : (e : Instruction) → e.kind ≡ event_tick → length b.rows + fees_added b + refunds_added b ≤ b.room → ceiling b e ≡ false
  unfolding ceiling close_accounts
  tick-low e k room =
      rw (after-tick b s ne (late-fits room) e k)
      (none-exists above (drop (length b.rows) (rows' late_book)) blank (λ i l.
      rw (get_or-drop (length b.rows) (rows' late_book) i blank) (low-row (length b.rows + i) (omega arith) (omega (arith, length-drop (length b.rows) (rows' late_book))))))
