-- The settlement after holds have ended: only accounts of which a hold ended and that have unused money can have something to move.
use mathlib.Core.Path.{◌≡◌, refl, sym, ap, ◌∙◌}
use mathlib.Core.Bool.{Bool, true, false, cond, ◌&&◌, and-false}
use Prim.Native.Nat.{ℕ, zero, suc, ◌+◌, ◌≤◌, ◌<◌}
use native.Mathlib.Omega.{arith}
use mathlib.Core.List.{List}
use lib.ListN.{length, get_or}
use lib.Seq.{ext_get_or}
use lib.Dec.{eqb, ltb}
use borrow.Author.Tests.{eq-eqb, ltb-false}
use Rattle.lists.specs.Lists.{exists}
use Rattle.lists.proofs.ExistsLaws.{exists-none, none-exists}
use Rattle.rules.specs.Rows.{Row, blank}
use Rattle.rules.specs.Settlement.{money, moved, settle, settle_accounts}
use Rattle.rules.specs.Book.{Book, settled}
use Rattle.rules.specs.Tick.{next_day, hold_ends, end_holds, before_raising}
use Rattle.rules.proofs.SettlementLaws.{settle-same}
use Rattle.rules.proofs.SettlementAccountsLaws.{settle_accounts-none}
use Rattle.rules.specs.SoundFacts.{Near, Sound}
use Rattle.preservation.proofs.NamedLaws.{sound-moved}
use Rattle.preservation.proofs.TickSteps.{today, ended, ended-length, ended_at, ended-account, end_hold-goes-on, money-ended}
use Rattle.tick_rules.specs.Ticks.{freed, freed_with_money, settle_those}
use Rattle.tick_rules.proofs.KeptLaws.{gist, Kept, money-kept, debt-kept}

-- ---- accounts that have nothing to move need no settlement

pub settle_those-all : (t : ℕ → Bool) (n : ℕ) (rows : List Row) → ((m : ℕ) → 1 ≤ m → m ≤ n → t m ≡ false → moved m rows ≡ 0) → settle_those t n rows ≡ settle_accounts n rows
unfolding settle_those settle_accounts
settle_those-all t zero rows z = refl
settle_those-all t (suc n) rows z = rw (settle_those-all t n rows (λ m l h. z m l (omega arith))) (go (t (suc n)) refl)
  where
    go : (v : Bool) → t (suc n) ≡ v → cond v (settle (suc n) (settle_accounts n rows)) (settle_accounts n rows) ≡ settle (suc n) (settle_accounts n rows)
    go true e = refl
    go false e = sym (settle-same (suc n) (settle_accounts n rows) (settle_accounts-none (suc n) n rows (z (suc n) (omega arith) (omega arith) e)))

-- ---- the book after holds have ended

module _ (b : Book) where
  -- ---- an account of which no hold ends keeps its rows

  module _ (m : ℕ) (f : freed (today b) b.rows m ≡ false) where
    stays : (k : ℕ) → k < length b.rows → (get_or b.rows k blank).account ≡ m → get_or (ended b) k blank ≡ get_or b.rows k blank
    unfolding freed
    stays k l e =
        let z : eqb (get_or b.rows k blank).account m && hold_ends (today b) (get_or b.rows k blank) ≡ false = exists-none (λ r. eqb r.account m && hold_ends (today b) r) b.rows blank f k l in
        ended_at b k ∙ end_hold-goes-on (today b) (get_or b.rows k blank) (rw (eq-eqb (get_or b.rows k blank).account m e) at z)

    kept-ended : Kept m b.rows (ended b)
    kept-ended = record {
      longer = omega (arith, ended-length b);
      mine = λ k l e. ap gist (stays k l e);
      others = λ k l ne e. ne (sym (ended-account b k) ∙ e);
    }

    pub moved-ended : Near b.day b → moved m (ended b) ≡ moved m b.rows
    unfolding moved
    moved-ended s =
        rw (
          money-kept m b.rows (ended b) kept-ended (λ k l h. absurd (omega (arith, ended-length b))),
          debt-kept b.day b s m (ended b) kept-ended (λ k l h. absurd (omega (arith, ended-length b))),
        )

  -- an account without unused money has nothing to move
  unpaid : (m : ℕ) → ltb 0 (money m b.rows) ≡ false → moved m (ended b) ≡ 0
  unfolding moved
  unpaid m e = omega (arith, money-ended b m, ltb-false 0 (money m b.rows) e)

  still : Sound b → (m : ℕ) → 1 ≤ m → m ≤ length b.accounts → freed_with_money (today b) b.rows m ≡ false → moved m (ended b) ≡ 0
  unfolding freed_with_money
  still s m l h = go (freed (today b) b.rows m) refl
    where
      go : (v : Bool) → freed (today b) b.rows m ≡ v → v && ltb 0 (money m b.rows) ≡ false → moved m (ended b) ≡ 0
      go true f e = unpaid m e
      go false f e = moved-ended m f s.near ∙ sound-moved b s m l h

  pub freed-settled : Sound b → (before_raising b).rows ≡ settle_those (freed_with_money (today b) b.rows) (length b.accounts) (ended b)
  unfolding before_raising settled end_holds next_day
  freed-settled s = sym (settle_those-all (freed_with_money (today b) b.rows) (length b.accounts) (ended b) (still s))

-- ---- where no hold ends, nothing changes

settle_those-none : (t : ℕ → Bool) → ((m : ℕ) → t m ≡ false) → (n : ℕ) (rows : List Row) → settle_those t n rows ≡ rows
unfolding settle_those
settle_those-none t z zero rows = refl
settle_those-none t z (suc n) rows = rw (z (suc n)) (settle_those-none t z n rows)

module _ (b : Book) (s : Sound b) (z : exists (hold_ends (b.day + 1)) b.rows ≡ false) where
  goes_on : (k : ℕ) → k < length b.rows → hold_ends (today b) (get_or b.rows k blank) ≡ false
  goes_on = exists-none (hold_ends (today b)) b.rows blank z

  ended_same : ended b ≡ b.rows
  ended_same = ext_get_or blank (ended b) b.rows (ended-length b) (λ k l. ended_at b k ∙ end_hold-goes-on (today b) (get_or b.rows k blank) (goes_on k (rw (ended-length b) at l)))

  none-freed : (m : ℕ) → freed (today b) b.rows m ≡ false
  unfolding freed
  none-freed m =
      none-exists (λ r. eqb r.account m && hold_ends (today b) r) b.rows blank (λ k l. rw (goes_on k l) (and-false (eqb (get_or b.rows k blank).account m)))

  none-paying : (m : ℕ) → freed_with_money (today b) b.rows m ≡ false
  unfolding freed_with_money
  none-paying m = rw (none-freed m)

  pub none-ended : (before_raising b).rows ≡ b.rows
  none-ended = freed-settled b s ∙ settle_those-none (freed_with_money (today b) b.rows) none-paying (length b.accounts) (ended b) ∙ ended_same
