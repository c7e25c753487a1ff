-- What the tests on one row leave to show.
use mathlib.Core.Path.{◌≡◌, refl}
use mathlib.Core.Logic.{◌≢◌}
use mathlib.Core.Bool.{Bool, true, ◌&&◌, and-true}
use Prim.Native.Nat.{ℕ, zero, suc, ◌+◌, ◌≤◌}
use lib.Dec.{leb, ltb}
use borrow.Author.Tests.{eq-eqb, ne_eqb, le-leb}
use Rattle.lists.specs.Tests.{◌implies◌}
use Rattle.rules.specs.Rows.{Row, kind_toll, dispute_held, last_stage}
use Rattle.rules.specs.Soundness.{most_of, no_reference, due_within, due_fits, hold_fits}

-- a number that is no kind has no amount
pub most-none : (k : ℕ) → k ≢ 1 → k ≢ 2 → k ≢ 3 → k ≢ 4 → k ≢ 5 → k ≢ 6 → 0 ≡ most_of k
unfolding most_of
most-none zero a b c d e f = refl
most-none (suc zero) a b c d e f = absurd (a refl)
most-none (suc (suc zero)) a b c d e f = absurd (b refl)
most-none (suc (suc (suc zero))) a b c d e f = absurd (c refl)
most-none (suc (suc (suc (suc zero)))) a b c d e f = absurd (d refl)
most-none (suc (suc (suc (suc (suc zero))))) a b c d e f = absurd (e refl)
most-none (suc (suc (suc (suc (suc (suc zero)))))) a b c d e f = absurd (f refl)
most-none (suc (suc (suc (suc (suc (suc (suc k))))))) a b c d e f = refl

-- a toll has a reference, and only a toll has a due day and a hold
pub toll-no-reference : (r : Row) → r.kind ≡ kind_toll → no_reference r ≡ true
unfolding no_reference
toll-no-reference r e = rw e

pub other-due : (today L : ℕ) (r : Row) → r.kind ≢ kind_toll → due_fits today L r ≡ true
unfolding due_within
other-due today L r q = rw (ne_eqb r.kind kind_toll q)

pub other-hold : (today L : ℕ) (r : Row) → r.kind ≢ kind_toll → hold_fits today L r ≡ true
unfolding hold_fits
other-hold today L r q = rw (ne_eqb r.kind kind_toll q)

-- a held toll's own tests, where its hold starts by today
pub held_fits : (today L : ℕ) (r : Row) (after : Bool) → r.kind ≡ kind_toll → r.dispute ≡ dispute_held → r.hold ≤ today → after ≡ (ltb r.mark last_stage implies ltb r.hold r.due)
    → (leb 1 r.hold && leb today (r.hold + 29) && ltb r.settled r.amount && leb r.due (r.hold + L) && after) ≡ hold_fits today L r
unfolding hold_fits
held_fits today L r after k d h a = rw (a, eq-eqb r.kind kind_toll k, eq-eqb r.dispute dispute_held d, le-leb r.hold today h, and-true)
