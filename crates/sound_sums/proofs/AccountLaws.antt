-- An account stands as it is read, and the arrays of sums are the sums of the definitions.
use Prim.Native.Nat.{ℕ, ◌+◌, ◌^◌, ◌≤◌, ◌<◌}
use native.Mathlib.Omega.{arith}
use mathlib.Core.Path.{◌≡◌, refl, sym, ◌∙◌}
use mathlib.Core.Bool.{Bool, true, false, ◌&&◌, ◌||◌}
use mathlib.Core.List.{List}
use lib.IntN.{ℤ}
use lib.ListN.{length, get_or}
use Rattle.std.specs.Bool.{MatchBool}
use Rattle.std.specs.List.{range_with_len, AllWithin, HoldsAt}
use Rattle.std.proofs.lemmas.List.FromFn.{length-range_with_len, get_or-range_with_len}
use Rattle.lists.specs.Tests.{◌is◌}
use Rattle.lists.specs.Lists.{count}
use Rattle.lists.proofs.ListLaws.{length-tabulate, every-ext-tabulate, every-tabulate, every-fails}
use Rattle.records.specs.Layout.{state_place, request_place, returned_place, threshold_place, topup_place, declines_place, declined_place, reserve_place, successor_place}
use Rattle.records.specs.Codes.{code_yes}
use Rattle.records.specs.Encoding.{account_fields, rows_of, account_at, accounts_of}
use Rattle.records.specs.Limits.{final_day, most_accounts, most_rows, highest_topup, most_declines, slot_count}
use Rattle.rules.specs.Settlement
use Rattle.rules.specs.Book.{Account}
use Rattle.rules.specs.Successors.{other_used}
use Rattle.rules.specs.Soundness.{state_fits, unused_zero, request_fits, topup_fits, decline_fits, successor_fits}
use Rattle.rules.proofs.StorableLaws.{successor-le}
use Rattle.plain_rows.specs.Alike.{AlikeAccount}
use Rattle.plain_rows.proofs.AlikeLaws.{same_test, alike_is, alike-most, alike-least, alike-zeros}
use Rattle.sound_journal.specs.declared.frame.Frame.{Frame}
use Rattle.sound_journal.specs.Passing.{frame_accounts}
use Rattle.account_sums.specs.Tallies.{return_of}
use Rattle.account_sums.specs.declared.Sums.{Sums}
use Rattle.account_sums.specs.AccountSums.{sums_over, AllLow, Tallies}
use Rattle.sound_accounts.specs.Alone.{account_alone}
use Rattle.sound_sums.specs.Accounts.{sums_agree, account_passes, sums_at, sums_of, all_agree, accounts_stand}

module _ (xs : List Account) (x y : Account) (w : AlikeAccount x y) where
  -- a successor is one of the accounts, so that its number is small
  fits-alike : (n : ℕ) → length xs ≤ most_accounts → successor_fits xs n x ≡ successor_fits xs n y
  unfolding successor_fits
  fits-alike n few =
      let each = w.each successor_place in
      same_test (λ s. s is 0 || other_used xs n s) x.successor y.successor (λ p. each.first (omega (arith, successor-le xs n x p))) (λ q. each.second (omega (arith, successor-le xs n y q)))

  -- each other clause compares a word with a small number, which does not tell alike words apart
  passes-alike : (today n : ℕ) (s : Sums) → length xs ≤ most_accounts → today ≤ final_day → s.returned < 2 ^ 63 → account_passes xs today n s x ≡ account_passes xs today n s y
  unfolding account_passes account_alone sums_agree state_fits unused_zero request_fits topup_fits decline_fits
  passes-alike today n s few d r =
      let t : today < 2 ^ 63 = omega arith in
      rw (
        fits-alike n few,
        alike-zeros (account_fields x) (account_fields y) refl w,
        alike_is _ _ (w.each state_place) 0 (omega arith),
        alike_is _ _ (w.each state_place) 1 (omega arith),
        alike_is _ _ (w.each state_place) 3 (omega arith),
        alike-most _ _ (w.each state_place) 3 (omega arith),
        alike-least _ _ (w.each state_place) 2 (omega arith),
        alike_is _ _ (w.each request_place) 0 (omega arith),
        alike-least _ _ (w.each request_place) 1 (omega arith),
        alike-most _ _ (w.each request_place) today t,
        alike_is _ _ (w.each returned_place) s.returned r,
        alike_is _ _ (w.each threshold_place) 0 (omega arith),
        alike-most _ _ (w.each threshold_place) highest_topup (omega arith),
        alike_is _ _ (w.each topup_place) 0 (omega arith),
        alike-most _ _ (w.each topup_place) highest_topup (omega arith),
        alike_is _ _ (w.each declines_place) 0 (omega arith),
        alike-most _ _ (w.each declines_place) most_declines (omega arith),
        alike_is _ _ (w.each declined_place) 0 (omega arith),
        alike-most _ _ (w.each declined_place) today t,
        alike_is _ _ (w.each reserve_place) 0 (omega arith),
        alike-most _ _ (w.each reserve_place) code_yes (omega arith),
      )

-- so account i stands as it is read, by what the tests of it came to
pub passes-by : (f : Frame) (i : ℕ) (sums : List Sums) → AllLow sums most_rows → (x : Account) → AlikeAccount x (account_at f.accounts.now i) → (a s : Bool)
    → account_alone f.term.today x ≡ a → successor_fits (frame_accounts f) (i + 1) x ≡ s
    → a && (s && sums_agree x (sums_at sums (i + 1))) ≡ account_passes (frame_accounts f) f.term.today (i + 1) (sums_at sums (i + 1)) (account_at f.accounts.now i)
unfolding account_passes
passes-by f i sums low x w a s p q =
    let l = f.bounds in
    let few : length (frame_accounts f) ≤ most_accounts = omega (arith, l.fewer, length-tabulate (account_at f.accounts.now) f.count) in
    rw (p, q) at (passes-alike (frame_accounts f) x (account_at f.accounts.now i) w f.term.today (i + 1) (sums_at sums (i + 1)) few f.term.within.0 (omega (arith, (low (i + 1)).returned)))

module _ (t : List ℤ) (n : ℕ) (sums : List Sums) (w : Tallies t n sums n) where
  sums-are : (k : ℕ) → k < slot_count → sums_at sums k ≡ sums_of (rows_of t n) k
  unfolding sums_over sums_of count return_of Settlement.money Settlement.debt Settlement.used Settlement.paid Settlement.owed
  sums-are k h = w.each k h

  pub all-stand : (today : ℕ) (accounts : List ℤ) (c : ℕ) → c ≤ 256 → all_agree today (sums_at sums) (accounts_of accounts c) ≡ accounts_stand today (rows_of t n) (accounts_of accounts c)
  unfolding accounts_stand all_agree
  all-stand today accounts c h = every-ext-tabulate _ _ (account_at accounts) c (λ k b. rw (sums-are (k + 1) (omega arith)))

-- tests of the accounts one by one decide: each of them passes, or one fails
module _ (today : ℕ) (sums : ℕ → Sums) (t : List ℤ) (c : ℕ) where
  -- what the test of account i comes to
  abbrev pub TestIs : Bool → ℕ → Type 0
  TestIs b i = account_passes (accounts_of t c) today (i + 1) (sums (i + 1)) (account_at t i) ≡ b

  abbrev range : List ℕ
  range = range_with_len 0 c

  number : (k : ℕ) → k < c → get_or range k 0 ≡ k
  number k h = get_or-range_with_len 0 c k 0 h ∙ omega arith

  pub agree-by : (b : Bool)
      → MatchBool b (AllWithin (TestIs true) range 0 (length range)) ((k : ℕ) × (k < length range) × HoldsAt (TestIs false) range k)
      → b ≡ all_agree today sums (accounts_of t c)
  unfolding all_agree
  agree-by true f =
      sym (every-tabulate _ (account_at t) c (λ k h. rw (number k h) at (f k 0 (omega arith) (rw length-range_with_len h))))
  agree-by false f =
      let h : f.0 < c = rw length-range_with_len at f.1 in
      sym (every-fails _ (account_at t) c f.0 h (rw (number f.0 h) at (f.2 0)))
