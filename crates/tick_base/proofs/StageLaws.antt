-- Laws of the tests of a tick: the fees of a header, days counted back, a row that is no source.
use mathlib.Core.Path.{◌≡◌, refl, sym}
use mathlib.Core.Bool.{Bool, true, false, not, ◌&&◌, and-false}
use Prim.Native.Nat.{ℕ, zero, suc, ◌+◌, ◌-◌, ◌≤◌, ◌<◌}
use native.Mathlib.Omega.{arith}
use native.Mathlib.Decide.{dec_lt, ℕ_discrete}
use mathlib.Core.List.{List}
use lib.IntN.{ℤ}
use lib.Dec.{eqb, leb, ltb}
use borrow.Author.Tests.{eq-eqb, ne_eqb, le-leb, lt-leb}
use Rattle.lists.specs.Tests.{◌is◌}
use Rattle.records.specs.Layout.{header_schedule, fee2_place}
use Rattle.records.specs.Encoding.{word}
use Rattle.records.specs.Limits.{hold_days, closing_days}
use Rattle.rules.specs.Schedule.{Schedule, stage_fee}
use Rattle.rules.specs.Rows.{Row, Test, dispute_held, last_stage, toll, held_toll, unsettled, source, debit}
use Rattle.rules.specs.Soundness.{kind_fits}
use Rattle.rules.specs.Book.{Account, state_pending}
use Rattle.rules.specs.Tick.{hold_ends, rises}
use Rattle.rules.specs.Tables.{schedule_from}
use Rattle.preservation.proofs.TickSteps.{rising}
use Rattle.account_sums.proofs.SumsLaws.{Share, source-no-debit, no-source-debit}
use Rattle.tick_base.specs.Remainders.{counted, days_over}

-- ---- the fees of a header

pub fee-low : (s : Schedule) (stage : ℕ) → stage < 2 → 0 ≡ stage_fee s stage
unfolding stage_fee
fee-low s zero h = refl
fee-low s (suc zero) h = refl
fee-low s (suc (suc k)) h = absurd (omega arith)

pub fee-high : (s : Schedule) (stage : ℕ) → 4 < stage → 0 ≡ stage_fee s stage
unfolding stage_fee
fee-high s (suc (suc (suc (suc (suc k))))) h = refl
fee-high s zero h = absurd (omega arith)
fee-high s (suc zero) h = absurd (omega arith)
fee-high s (suc (suc zero)) h = absurd (omega arith)
fee-high s (suc (suc (suc zero))) h = absurd (omega arith)
fee-high s (suc (suc (suc (suc zero)))) h = absurd (omega arith)

pub fee-place : (h : List ℤ) (stage : ℕ) → 2 ≤ stage → stage ≤ 4 → word h (header_schedule + fee2_place + (stage - 2)) ≡ stage_fee (schedule_from h header_schedule) stage
unfolding stage_fee schedule_from
fee-place h zero a b = absurd (omega arith)
fee-place h (suc zero) a b = absurd (omega arith)
fee-place h (suc (suc zero)) a b = refl
fee-place h (suc (suc (suc zero))) a b = refl
fee-place h (suc (suc (suc (suc zero)))) a b = refl
fee-place h (suc (suc (suc (suc (suc k))))) a b = absurd (omega arith)

-- a toll that rises is under stage 4
pub riser-low : (today : ℕ) (r : Row) → rises today r ≡ true → r.mark < 4
riser-low today r e = (rising today r e).under

-- no toll rises that is not due today
pub not-due : (today : ℕ) (r : Row) → (r.due ≡ today → ⊥) → rises today r ≡ false
unfolding rises
not-due today r n = rw (ne_eqb r.due today n) (and-false (toll r && not (held_toll r) && unsettled r && ltb r.mark last_stage))

-- ---- counts

pub share-counted : (u : Test) → Share (counted u) u (λ r. 1)
unfolding counted
share-counted u = record { form = λ n r. refl }

-- ---- days

-- a row that is not in dispute is no held toll, and no hold of it ends
pub not-held : (r : Row) → (r.dispute ≡ dispute_held → ⊥) → held_toll r ≡ false
not-held r n = rw (ne_eqb r.dispute dispute_held n) (and-false (toll r))

pub no_end : (today : ℕ) (r : Row) → (r.dispute ≡ dispute_held → ⊥) → hold_ends today r ≡ false
unfolding hold_ends
no_end today r n = rw (not-held r n)

pub ends-before : (today : ℕ) (r : Row) → held_toll r ≡ true → today < r.hold → false ≡ hold_ends today r
unfolding hold_ends
ends-before today r h l = rw h (sym (ne_eqb (r.hold + hold_days) today (λ q. omega arith)))

pub ends_at : (today : ℕ) (r : Row) → held_toll r ≡ true → r.hold ≤ today → eqb (today - r.hold) hold_days ≡ hold_ends today r
unfolding hold_ends
ends_at today r h l =
    rw h
    (elim (ℕ_discrete (r.hold + hold_days) today) [
      | yes q ↦ rw (eq-eqb (r.hold + hold_days) today q, eq-eqb (today - r.hold) hold_days (omega arith))
      | no q ↦ rw (ne_eqb (r.hold + hold_days) today q, ne_eqb (today - r.hold) hold_days (λ w. q (omega arith)))
    ])

pub over-before : (today : ℕ) (x : Account) → today < x.request → false ≡ days_over today x
unfolding days_over
over-before today x l = rw (lt-leb (x.request + closing_days) today (omega arith)) (sym (and-false (x.state is state_pending)))

pub over-at : (today : ℕ) (x : Account) → x.state ≡ state_pending → x.request ≤ today → leb closing_days (today - x.request) ≡ days_over today x
unfolding days_over
over-at today x e l =
    rw e
    (elim (dec_lt today (x.request + closing_days)) [
      | yes q ↦ rw (lt-leb (x.request + closing_days) today q, lt-leb closing_days (today - x.request) (omega arith))
      | no q ↦ rw (le-leb (x.request + closing_days) today (omega arith), le-leb closing_days (today - x.request) (omega arith))
    ])

-- ---- a row of a known kind that is no source is a debit

pub not-source : (r : Row) → kind_fits r ≡ true → not (source r) ≡ debit r
not-source r k = go (source r) refl
  where
    go : (v : Bool) → source r ≡ v → not v ≡ debit r
    go true e = sym (source-no-debit r e)
    go false e = sym (no-source-debit r k e)
