-- The replay's tick, by itself: a toll gains an open day where it is open, and exactly the fees of the stages that this day reaches.
use mathlib.Core.Path.{◌≡◌, refl, sym, ap, ap₂, ◌∙◌}
use mathlib.Core.Logic.{◌≢◌}
use mathlib.Core.Bool.{Bool, true, false, not, cond, ◌&&◌, and-true, and-false}
use Prim.Native.Nat.{ℕ, zero, suc, ◌+◌, ◌-◌, ◌≤◌}
use native.Mathlib.Omega.{arith}
use mathlib.Core.List.{List, [], ◌++◌, map, append-nil}
use lib.ListN.{length, get_or}
use lib.Dec.{eqb, ltb}
use borrow.Author.Tests.{eq-eqb, ne_eqb}
use Rattle.records.specs.declared.Instruction.{Instruction}
use Rattle.lists.specs.Tests.{◌is◌}
use Rattle.lists.specs.Lists.{one, gather}
use Rattle.lists.proofs.TestLaws.{cond_either}
use Rattle.lists.proofs.ListLaws.{map_at}
use Rattle.lists.proofs.PairLaws.{Pairs, pairs-at, pairs-map-self, pairs-gather, pairs-append, pairs-one}
use Rattle.lists.proofs.CollectLaws.{collect, collect-append, collect-pairs, collect-only}
use Rattle.records.specs.Limits.{hold_days}
use Rattle.rules.specs.Schedule.{Schedule, stage_fee}
use Rattle.replay.specs.Entries.{Entry, kind_fee, no_entry, entry_no, new_entry, with_toll, with_hold, with_ticks, with_open_days, cover_whole, is_money, fee_of, money_in, money_out, settle_all_entries}
use Rattle.replay.specs.Replay.{no_note, note_no, Replay, gains, count_tick, count_day, reaches, add_fee, add_fees, closing, add_refund, use_money, close_all, tick_replay}
use Rattle.replay.proofs.Growing.{number_at}
use Rattle.replay.proofs.EntryLaws.{count-open}
use Rattle.replay.proofs.StageFees.{fees_at}
use Rattle.replay.proofs.ReplaySteps.{fee_share, Steady, steady_then, Still, still-self, steady-still, steady-append, opened-append, settle-steady}

-- ---- the fees that one toll adds

module _ (s : Schedule) (today n : ℕ) (x : Entry) where
  abbrev fee : ℕ → Entry
  fee k = with_toll n (new_entry kind_fee x.account today (stage_fee s k))

  -- what they add to the fees of toll m
  fee-share : (m k : ℕ) (v : Bool) → collect (fee_share m) (one v (fee k)) ≡ one {A = ℕ × ℕ} (v && eqb n m) (stage_fee s k, today)
  unfolding collect fee_of
  fee-share m k true = append-nil _
  fee-share m k false = refl

  abbrev due : ℕ → Bool
  due k = reaches s.stage k x && ltb 0 (stage_fee s k)

  abbrev shared : ℕ → ℕ → List (ℕ × ℕ)
  shared m k = one (due k && eqb n m) (stage_fee s k, today)

  fees-share : (m : ℕ) → collect (fee_share m) (add_fees s today n x) ≡ shared m 2 ++ shared m 3 ++ shared m 4
  unfolding add_fees add_fee
  fees-share m =
      collect-append (fee_share m) (one (due 2) (fee 2) ++ one (due 3) (fee 3)) (one (due 4) (fee 4))
      ∙ ap₂ {C = List (ℕ × ℕ)} ◌++◌
      (collect-append (fee_share m) (one (due 2) (fee 2)) (one (due 3) (fee 3)) ∙ ap₂ {C = List (ℕ × ℕ)} ◌++◌ (fee-share m 2 (due 2)) (fee-share m 3 (due 3)))
      (fee-share m 4 (due 4))

  pub own-fees : collect (fee_share n) (add_fees s today n x) ≡ fees_at s (λ k. reaches s.stage k x) (λ k. today)
  unfolding fees_at stage_fee
  own-fees = fees-share n ∙ rw (eq-eqb n n refl, and-true (due 2), and-true (due 3), and-true (due 4))

  pub other-fees : (m : ℕ) → n ≢ m → collect (fee_share m) (add_fees s today n x) ≡ []
  other-fees m q = fees-share m ∙ rw (ne_eqb n m q, and-false (due 2), and-false (due 3), and-false (due 4))

-- an entry that does not gain
pub no-fees : (s : Schedule) (today n : ℕ) (x : Entry) → gains x ≡ false → collect (fee_share n) (add_fees s today n x) ≡ []
unfolding reaches fees_at
no-fees s today n x g = own-fees s today n x ∙ rw g

-- ---- the tick

abbrev Fresh : Entry → Entry → Type 0
Fresh x y = x.open-days ≡ 0

module _ (p : Replay) (e : Instruction) where
  abbrev xs : List Entry
  xs = p.entries

  abbrev today : ℕ
  today = p.day + 1

  abbrev fees : List Entry
  fees = gather (add_fees p.schedule today) xs

  abbrev counted : List Entry
  counted = settle_all_entries (length p.notes) (map count_day xs)

  abbrev after_raising : List Entry
  after_raising = counted ++ fees

  -- the fees are new entries, and so are the refunds
  fees-fresh : Pairs Fresh fees fees
  unfolding add_fees add_fee
  fees-fresh = pairs-gather (add_fees p.schedule today) (add_fees p.schedule today) no_entry no_entry 1 xs xs refl (λ k n q l.
      let x : Entry = get_or xs k no_entry in
      pairs-append (pairs-append (pairs-one (due p.schedule today n x 2) _ _ (λ v. refl)) (pairs-one (due p.schedule today n x 3) _ _ (λ v. refl))) (pairs-one (due p.schedule today n x 4) _ _ (λ v. refl)))

  -- the counting of a day keeps what a fee is
  count-share : (n : ℕ) (x : Entry) → fee_share n x ≡ fee_share n (count_day x)
  unfolding count_day count_tick
  count-share n x =
      cond_either (λ (y : Entry). fee_share n x ≡ fee_share n y) (gains x) (with_open_days (x.open-days + 1) x) _ (unfold fee_of in refl)
      (cond_either (λ (y : Entry). fee_share n x ≡ fee_share n y) x.hold (with_hold (not (x.ticks + 1 is hold_days)) (with_ticks (x.ticks + 1) x)) x (unfold fee_of in refl) refl)

  after_raising-fees : (n : ℕ) → 1 ≤ n → collect (fee_share n) after_raising ≡ collect (fee_share n) xs ++ fees_at p.schedule (λ k. reaches p.schedule.stage k (entry_no xs n)) (λ k. today)
  after_raising-fees n h =
      collect-append (fee_share n) counted fees
      ∙ ap₂ {C = List (ℕ × ℕ)} ◌++◌
      ((settle-steady (length p.notes) (map count_day xs)).fees n h ∙ sym (collect-pairs (pairs-map-self count_day (count-share n) xs)))
      (collect-only (fee_share n) (add_fees p.schedule today) n (λ m x q. other-fees p.schedule today m x n q) 1 (n - 1) xs no_entry (omega arith)
      (no-fees p.schedule today n no_entry (unfold gains in refl))
      ∙ rw (number_at xs n no_entry h) (own-fees p.schedule today n (entry_no xs n)))

  after_raising-opened : (n : ℕ) → (entry_no after_raising n).open-days ≡ (entry_no xs n).open-days + cond (gains (entry_no xs n)) 1 0
  after_raising-opened n =
      opened-append counted fees (λ k. pairs-at {R = Fresh} no_entry no_entry refl fees-fresh k) n
      ∙ (settle-steady (length p.notes) (map count_day xs)).opened n ∙ go n
    where
      go : (m : ℕ) → (entry_no (map count_day xs) m).open-days ≡ (entry_no xs m).open-days + cond (gains (entry_no xs m)) 1 0
      go zero = unfold gains in refl
      go (suc m) = ap (λ (y : Entry). y.open-days) (map_at count_day xs m no_entry (unfold count_day gains in refl)) ∙ count-open (get_or xs m no_entry)

  -- the closings change neither
  close-steady : Steady after_raising (tick_replay p e).entries
  unfolding tick_replay close_all use_money add_refund
  close-steady =
      steady_then (steady-still (pairs-map-self (use_money p.holidays today p.notes after_raising)
      (λ x. cond_either (λ (y : Entry). Still x y) (is_money x && closing p.holidays today after_raising x.account (note_no p.notes x.account)) (cover_whole x) x (record { kind = refl; toll = refl; amount = refl; day = refl; opened = refl }) (still-self x)) after_raising))
      (steady-append _ _ (pairs-gather (add_refund p.holidays today after_raising) (add_refund p.holidays today after_raising) no_note no_note 1 p.notes p.notes refl
      (λ k n q l. pairs-one (closing p.holidays today after_raising n (get_or p.notes k no_note) && ltb (money_out n after_raising) (money_in n after_raising)) _ _ (λ v. record { toll = refl; opened = refl }))))

  pub tick-fees : (n : ℕ) → 1 ≤ n → collect (fee_share n) (tick_replay p e).entries ≡ collect (fee_share n) xs ++ fees_at p.schedule (λ k. reaches p.schedule.stage k (entry_no xs n)) (λ k. today)
  tick-fees n h = close-steady.fees n h ∙ after_raising-fees n h

  pub tick-opened : (n : ℕ) → (entry_no (tick_replay p e).entries n).open-days ≡ (entry_no xs n).open-days + cond (gains (entry_no xs n)) 1 0
  tick-opened n = close-steady.opened n ∙ after_raising-opened n
