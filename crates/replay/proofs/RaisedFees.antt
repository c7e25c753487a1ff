-- The fees of a tick: the rows that raised tolls add are the entries that the replay adds.
use mathlib.Core.Path.{◌≡◌, refl, sym, ◌∙◌}
use mathlib.Core.Bool.{Bool, true, false, ◌&&◌}
use Prim.Native.Nat.{ℕ, zero, suc, ◌+◌, ◌*◌, ◌≤◌, ◌<◌}
use native.Mathlib.Nat.{mul-le-mul_right}
use native.Mathlib.Omega.{arith}
use native.Mathlib.Decide.{ℕ_discrete, dec_lt}
use mathlib.Core.List.{List, [], ◌++◌, map}
use lib.ListN.{length, get_or, length-map}
use lib.Dec.{eqb, ltb}
use borrow.Author.Tests.{eqb-true, eq-eqb, ne_eqb}
use Rattle.lists.specs.Tests.{◌is◌}
use Rattle.lists.specs.Lists.{one, gather}
use Rattle.lists.proofs.TestLaws.{and_left, and_right, and3}
use Rattle.lists.proofs.ListLaws.{map_at}
use Rattle.lists.proofs.PairLaws.{Pairs, none, more, pairs-length, pairs-each, pairs-gather, pairs-self, pairs-map-self}
use Rattle.rules.specs.Schedule.{Schedule, stage_fee}
use Rattle.rules.specs.Rows.{Row, kind_fee, last_stage, blank, new_row, with_reference, toll}
use Rattle.rules.specs.Book.{Book, settled}
use Rattle.rules.specs.Tick.{next_day, end_holds, before_raising, rises, raise, fee_row, raise_tolls}
use Rattle.rules.specs.SoundFacts.{Sound}
use Rattle.preservation.proofs.TickSteps.{rising, raise-keeps, unraised-length}
use Rattle.replay.specs.Entries.{Entry, no_entry, new_entry, with_toll}
use Rattle.replay.specs.Replay.{Replay, gains, reaches, add_fee, add_fees}
use Rattle.replay.specs.Demand3.{toll_named}
use Rattle.replay.proofs.Relation.{Match, Named, Rows, Agrees, counts-other}
use Rattle.replay.proofs.SoundRows.{stage-length}
use Rattle.replay.proofs.Growing.{Referring, referring, Kept, kind-kept, grow}
use Rattle.replay.proofs.HoldsEnded.{gains-same, unraised-agrees}
use Rattle.replay.proofs.Raising.{old, unraised_entries, kind-same, account-same, reference-same, rises-reached, reached-rises, raise-match, mark-same}

-- ---- the open days of stage k, and of the stage after m

stage_is : (L m k n : ℕ) → 1 ≤ L → n ≡ m * L + L → eqb n (k * L) ≡ eqb (m + 1) k
stage_is L m k n l e = go (ℕ_discrete (m + 1) k)
  where
    go : Dec (m + 1 ≡ k) → eqb n (k * L) ≡ eqb (m + 1) k
    go (yes q) = eq-eqb n (k * L) (rw (← q) (omega arith)) ∙ sym (eq-eqb (m + 1) k q)
    go (no q) = ne_eqb n (k * L) (λ z. apart (dec_lt k (m + 1)) z) ∙ sym (ne_eqb (m + 1) k q)
      where
        apart : Dec (k < m + 1) → n ≡ k * L → ⊥
        apart (yes h) z = let u : k * L ≤ m * L = mul-le-mul_right L (omega arith) in omega arith
        apart (no h) z = let u : (m + 2) * L ≤ k * L = mul-le-mul_right L (omega arith) in omega arith

-- n days, in stage m, of which one more makes j stages
last-day : (L m j n : ℕ) → m * L ≤ n → n < m * L + L → n + 1 ≡ j * L → n + 1 ≡ m * L + L
last-day L m j n lo hi e = go (dec_lt j (m + 1)) (dec_lt (m + 1) j)
  where
    go : Dec (j < m + 1) → Dec (m + 1 < j) → n + 1 ≡ m * L + L
    go (yes q) d = let u : j * L ≤ m * L = mul-le-mul_right L (omega arith) in absurd (omega arith)
    go (no q) (yes w) = let u : (m + 2) * L ≤ j * L = mul-le-mul_right L (omega arith) in omega arith
    go (no q) (no w) = let z : j ≡ m + 1 = omega arith in let u : j * L ≡ (m + 1) * L = rw z in omega arith

-- ---- one toll's fee

-- S pairs the fee row and the fee entry of each stage
one-fee : {A B : Type 0} (S : A → B → Type 0) (s : Schedule) (f : ℕ → A) (g : ℕ → B) (v : Bool) (m : ℕ) → (v ≡ true → m < last_stage) → (v ≡ true → (j : ℕ) → S (f j) (g j))
    → Pairs S (one (v && ltb 0 (stage_fee s (m + 1))) (f (m + 1)))
    (one ((v && m + 1 is 2) && ltb 0 (stage_fee s 2)) (g 2) ++ one ((v && m + 1 is 3) && ltb 0 (stage_fee s 3)) (g 3) ++ one ((v && m + 1 is 4) && ltb 0 (stage_fee s 4)) (g 4))
unfolding stage_fee
one-fee S s f g false m l q = none
one-fee S s f g true zero l q = none
one-fee S s f g true (suc zero) l q = go (ltb 0 s.fee2)
  where
    go : (w : Bool) → Pairs S (one w (f 2)) (one w (g 2) ++ [] ++ [])
    go true = more (q refl 2) none
    go false = none
one-fee S s f g true (suc (suc zero)) l q = go (ltb 0 s.fee3)
  where
    go : (w : Bool) → Pairs S (one w (f 3)) ([] ++ one w (g 3) ++ [])
    go true = more (q refl 3) none
    go false = none
one-fee S s f g true (suc (suc (suc zero))) l q = go (ltb 0 s.fee4)
  where
    go : (w : Bool) → Pairs S (one w (f 4)) ([] ++ [] ++ one w (g 4))
    go true = more (q refl 4) none
    go false = none
one-fee S s f g true (suc (suc (suc (suc m)))) l q = absurd (omega (arith, l refl))

-- ---- all tolls

module _ (b : Book) (p : Replay) (sound : Sound b) (a : Agrees b p) where
  abbrev L : ℕ
  L = b.schedule.stage

  abbrev now : ℕ
  now = b.day + 1

  abbrev unraised : List Row
  unraised = (before_raising b).rows

  module _ (k : ℕ) (h : k < length b.rows) where
    abbrev s : Row
    s = get_or unraised k blank

    abbrev x : Entry
    x = get_or p.entries k no_entry

    -- a toll reaches stage j by this tick just if it rises to it
    pub reaches_same : (j : ℕ) → j ≤ last_stage → reaches L j x ≡ rises now s && s.mark + 1 is j
    unfolding reaches
    reaches_same j l = go (rises now s) refl
      where
        go : (v : Bool) → rises now s ≡ v → gains x && x.open-days + 1 is j * L ≡ v && s.mark + 1 is j
        go true e =
            let c = rises-reached b p sound a k h e in
            rw c.gained (stage_is L s.mark j (x.open-days + 1) (stage-length b sound.near) c.days)
        go false e = not-reached (gains x && x.open-days + 1 is j * L) refl
          where
            not-reached : (v : Bool) → gains x && x.open-days + 1 is j * L ≡ v → v ≡ false
            not-reached false q = refl
            not-reached true q = last (dec_lt s.mark last_stage)
              where
                g : gains x ≡ true
                g = and_left (gains x) (x.open-days + 1 is j * L) q

                r : Row
                r = get_or b.rows k blank

                m : Match 0 b.day L r x
                m = old b p sound a k h

                t : toll r ≡ true
                t = (and3 (toll r) _ _ (sym (gains-same r x m.line) ∙ g)).0

                days : x.open-days + 1 ≡ j * L
                days = eqb-true _ _ (and_right (gains x) (x.open-days + 1 is j * L) q)

                low : s.mark * L ≤ x.open-days
                low = rw (mark-same b p sound a k h) (m.counts.low t)

                last : Dec (s.mark < last_stage) → true ≡ false
                last (yes u) =
                    let high : x.open-days < s.mark * L + L + 0 = rw (mark-same b p sound a k h) (m.counts.high t (rw (mark-same b p sound a k h) at u)) in
                    sym (reached-rises b p sound a k h (record { gained = g; under = u; days = last-day L s.mark j x.open-days low (omega arith) days })) ∙ e
                last (no u) = let z : j * L ≤ s.mark * L = mul-le-mul_right L (omega arith) in absurd (omega (arith, low, days))

  -- ---- the rows after the raising

  abbrev pub raised : List Row
  raised = map (raise b.schedule now) unraised

  abbrev pub fees : List Row
  fees = gather (fee_row b.schedule now) unraised

  pub raised-kept : Pairs Kept unraised raised
  raised-kept = pairs-map-self (raise b.schedule now) (λ r. record { kind = raise-keeps (λ q. q.kind) (λ q v w. refl) b.schedule now r; reference = raise-keeps (λ q. q.reference) (λ q v w. refl) b.schedule now r }) unraised

  pub raise-at : (k : ℕ) → get_or raised k blank ≡ raise b.schedule now (get_or unraised k blank)
  unfolding raise rises
  raise-at k = map_at (raise b.schedule now) unraised k blank refl

  pub unraised-referring : Referring unraised
  unraised-referring k h f =
      let l : k < length b.rows = rw (unraised-length b) at h in
      rw (reference-same b p sound a k l) (referring b sound.near k l (rw (kind-same b p sound a k l) at f))

  fee-pairs : (k n : ℕ) → n ≡ 1 + k → k < length unraised
      → Pairs (Named (Match 0 now L) (raised ++ fees)) (fee_row b.schedule now n (get_or unraised k blank)) (add_fees p.schedule (p.day + 1) n (get_or p.entries k no_entry))
  unfolding fee_row add_fees add_fee toll_named
  fee-pairs k n e h =
      let l : k < length b.rows = rw (unraised-length b) at h in
      let z : n ≡ suc k = omega arith in
      rw (z, ← a.schedule, ← a.day, reaches_same k l 2 (omega arith), reaches_same k l 3 (omega arith), reaches_same k l 4 (omega arith))
      (one-fee (Named (Match 0 now L) (raised ++ fees)) b.schedule
      (λ j. with_reference (suc k) (new_row kind_fee (get_or unraised k blank).account now (stage_fee b.schedule j)))
      (λ j. with_toll (suc k) (new_entry kind_fee (get_or p.entries k no_entry).account now (stage_fee b.schedule j)))
      (rises now (get_or unraised k blank)) (get_or unraised k blank).mark (λ q. (rising now (get_or unraised k blank) q).under)
      (λ q j. record {
        is = record {
          line = record { kind = refl; account = account-same b p sound a k l ∙ (old b p sound a k l).line.account; day = refl; amount = refl; settled = refl; hold = refl };
          counts = counts-other 0 now L _ _ refl (λ i. refl);
        };
        toll = rw (kind-kept unraised raised fees raised-kept (suc k) h, (rising now (get_or unraised k blank) q).toll);
      }))

  pub raise-rows : Rows (Match 0 now L) (raise_tolls (before_raising b)).rows (unraised_entries b p sound a ++ gather (add_fees p.schedule (p.day + 1)) p.entries)
  unfolding raise_tolls before_raising settled end_holds next_day
  raise-rows =
      let d = unraised-agrees b p sound.near a in
      let n : length raised ≡ length unraised = length-map unraised (raise b.schedule now) in
      grow unraised (unraised_entries b p sound a) unraised-referring d raised (unraised_entries b p sound a) raised-kept (pairs-self (λ y. refl) (unraised_entries b p sound a))
      (pairs-each blank no_entry raised (unraised_entries b p sound a) (n ∙ pairs-length d) (λ k h.
      rw (raise-at k) (raise-match b p sound a k (rw (n, unraised-length b) at h))))
      fees _ (pairs-gather (fee_row b.schedule now) (add_fees p.schedule (p.day + 1)) blank no_entry 1 unraised p.entries (unraised-length b ∙ pairs-length a.rows) fee-pairs)
