-- The book after tolls are raised, in which accounts are about to close: its sums beside those before.
use mathlib.Core.Path.{◌≡◌, refl, sym, ap, ◌∙◌}
use mathlib.Core.Logic.{◌≢◌}
use mathlib.Core.Bool.{Bool, true, false, cond, ◌&&◌, and-false}
use Prim.Native.Nat.{ℕ, zero, suc, ◌+◌, ◌≤◌, ◌<◌, min}
use native.Mathlib.Omega.{arith}
use mathlib.Core.List.{List, ◌++◌, map}
use lib.ListN.{length, get_or, length-append, length-map}
use lib.Dec.{eqb}
use borrow.Author.Tests.{ne_eqb, ltb-true}
use Rattle.lists.specs.Lists.{sum_by, only, one, gather}
use Rattle.lists.proofs.SumLaws.{sum_by-at-le, sum_by-append, sum_by_le, sum_by-map, sum_by-ext}
use Rattle.lists.proofs.GatherLaws.{gather-each, grown-at, grown-each}
use Rattle.rules.specs.Schedule.{Schedule, stage_fee}
use Rattle.rules.specs.Rows.{Row, kind_fee, blank, new_row, with_mark, with_due, with_reference, remaining, source_of, debit_of, payable}
use Rattle.rules.specs.Settlement.{money, debt, moved, owed}
use Rattle.rules.specs.Book.{Book}
use Rattle.rules.specs.Tick.{rises, raise, fee_row, raise_tolls}
use Rattle.rules.specs.SoundFacts.{Near}
use Rattle.rules.proofs.SettlementLaws.{payable-le}
use Rattle.preservation.proofs.TickSteps.{rising}
use Rattle.preservation.proofs.OpenTolls.{open-wants}
use Rattle.tick_rules.proofs.KeptLaws.{gist, Kept, money-kept, owed-kept, debt-kept}

-- ---- one row raised

raise-gist : (s : Schedule) (today : ℕ) (r : Row) → gist (raise s today r) ≡ gist r
unfolding raise
raise-gist s today r = go (rises today r)
  where
    go : (v : Bool) → gist (cond v (with_due (r.due + s.stage) (with_mark (r.mark + 1) r)) r) ≡ gist r
    go true = refl
    go false = refl

raise-blank : (s : Schedule) (today : ℕ) → raise s today blank ≡ blank
unfolding raise rises
raise-blank s today = refl

-- the fee of a toll that rises
abbrev fee_of : Schedule → ℕ → ℕ → Row → Row
fee_of s today n r = with_reference n (new_row kind_fee r.account today (stage_fee s (r.mark + 1)))

-- ---- any book whose tolls rise

module _ (b : Book) where
  abbrev pub fees : List Row
  fees = gather (fee_row b.schedule b.day) b.rows

  abbrev pub late : List Row
  late = (raise_tolls b).rows

  late-rows : late ≡ map (raise b.schedule b.day) b.rows ++ fees
  unfolding raise_tolls
  late-rows = refl

  pub late-length : length late ≡ length b.rows + length fees
  late-length = rw late-rows (length-append (map (raise b.schedule b.day) b.rows) fees ∙ rw (length-map b.rows (raise b.schedule b.day)))

  late-at : (k : ℕ) → k < length b.rows → get_or late k blank ≡ raise b.schedule b.day (get_or b.rows k blank)
  late-at k l = rw late-rows (grown-at (raise b.schedule b.day) blank (raise-blank b.schedule b.day) b.rows fees k l)

  pub late-gist : (k : ℕ) → k < length b.rows → gist (get_or late k blank) ≡ gist (get_or b.rows k blank)
  late-gist k l = ap gist (late-at k l) ∙ raise-gist b.schedule b.day (get_or b.rows k blank)

  -- what holds of the fee of each toll that rises holds of each row added
  pub added-each : (P : Row → Type 0) → ((n k : ℕ) → k < length b.rows → rises b.day (get_or b.rows k blank) ≡ true → P (fee_of b.schedule b.day n (get_or b.rows k blank)))
      → (k : ℕ) → length b.rows ≤ k → k < length late → P (get_or late k blank)
  added-each P f k l h =
      rw late-rows (grown-each (raise b.schedule b.day) blank (raise-blank b.schedule b.day) b.rows fees k P (rw late-rows at h) (λ q. absurd (omega arith)) (λ j e q. each j q))
    where
      go : (n k : ℕ) → k < length b.rows → (v : Bool) → rises b.day (get_or b.rows k blank) ≡ v → (w : Bool) (j : ℕ)
          → j < length (one (v && w) (fee_of b.schedule b.day n (get_or b.rows k blank))) → P (get_or (one (v && w) (fee_of b.schedule b.day n (get_or b.rows k blank))) j blank)
      go n k l true e true zero h = f n k l e
      go n k l true e true (suc j) h = absurd (omega arith)
      go n k l true e false j h = absurd (omega arith)
      go n k l false e w j h = absurd (omega arith)

      each : (j : ℕ) → j < length fees → P (get_or fees j blank)
      each = unfold fee_row in (gather-each (fee_row b.schedule b.day) P 1 b.rows blank blank (λ n k e l j q. go n k l (rises b.day (get_or b.rows k blank)) refl _ j q))

  kept-late : (m : ℕ) → Kept m b.rows late
  kept-late m = record {
    longer = omega (arith, late-length);
    mine = λ k l e. late-gist k l;
    others = λ k l ne e. ne (sym (ap (λ (r : Row). r.account) (late-gist k l)) ∙ e);
  }

  -- fees are no money
  pub money-late : (m : ℕ) → money m late ≡ money m b.rows
  money-late m =
      money-kept m b.rows late (kept-late m)
      (added-each (λ r. only (source_of m) remaining r ≡ 0) (λ n k l e. unfold only source_of in rw (and-false (eqb (get_or b.rows k blank).account m))))

  -- ---- an account that wants nothing gets no fee

  module _ (m : ℕ) (none : (k : ℕ) → k < length b.rows → rises b.day (get_or b.rows k blank) ≡ true → (get_or b.rows k blank).account ≢ m) where
    no-fee : (k : ℕ) → length b.rows ≤ k → k < length late → only (debit_of m) remaining (get_or late k blank) ≡ 0
    no-fee = added-each (λ r. only (debit_of m) remaining r ≡ 0) (λ n k l e. unfold only debit_of in rw (ne_eqb (get_or b.rows k blank).account m (none k l e)))

    pub owed-late : owed m late ≡ owed m b.rows
    owed-late = owed-kept m b.rows late (kept-late m) no-fee

    pub debt-late : (past : ℕ) → Near past b → debt m late ≡ debt m b.rows
    debt-late past s = debt-kept past b s m late (kept-late m) no-fee

  riser-wants : (m k : ℕ) → k < length b.rows → rises b.day (get_or b.rows k blank) ≡ true → (get_or b.rows k blank).account ≡ m → 0 < debt m b.rows
  unfolding debt
  riser-wants m k l e q =
      let w = rising b.day (get_or b.rows k blank) e in
      let a = open-wants b.rows (get_or b.rows k blank) w.toll w.free (ltb-true _ _ w.open-still) in
      omega (arith, sum_by-at-le (only (payable b.rows m) remaining) b.rows k blank l, rw q at a)

  -- raising leaves nothing to move where there was nothing
  pub moved-late : (past : ℕ) → Near past b → (m : ℕ) → moved m b.rows ≡ 0 → moved m late ≡ 0
  unfolding moved
  moved-late past s m z = go (money m b.rows) refl
    where
      go : (v : ℕ) → money m b.rows ≡ v → min (money m late) (debt m late) ≡ 0
      go zero e = omega (arith, money-late m)
      go (suc v) e =
          let d : debt m b.rows ≡ 0 = omega arith in
          omega (arith, debt-late m (λ k l r q. omega (arith, riser-wants m k l r q)) past s)

  -- nor can an account that owes nothing have a toll that rises
  pub debt-le : (m : ℕ) → debt m b.rows ≤ owed m b.rows
  unfolding debt owed
  debt-le m = sum_by_le (only (payable b.rows m) remaining) (only (debit_of m) remaining) b.rows (payable-le b.rows m)

  pub clear-late : (m : ℕ) → owed m b.rows ≡ 0 → owed m late ≡ 0
  clear-late m z = owed-late m (λ k l r q. omega (arith, riser-wants m k l r q, debt-le m)) ∙ z

  -- and what is owed grows
  pub owed-grows : (m : ℕ) → owed m b.rows ≤ owed m late
  unfolding owed
  owed-grows m =
      rw (late-rows, sum_by-append (only (debit_of m) remaining) (map (raise b.schedule b.day) b.rows) fees)
      (omega (arith, sum_by-map (only (debit_of m) remaining) (raise b.schedule b.day) b.rows, same))
    where
      same : sum_by (λ r. only (debit_of m) remaining (raise b.schedule b.day r)) b.rows ≡ sum_by (only (debit_of m) remaining) b.rows
      same = sum_by-ext (λ r. only (debit_of m) remaining (raise b.schedule b.day r)) (only (debit_of m) remaining) b.rows (λ r. unfold only debit_of in ap (only (debit_of m) remaining) (raise-gist b.schedule b.day r))
