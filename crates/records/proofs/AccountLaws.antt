-- A declined account by cases: where the decline removes the top-up, and where it is counted.
use mathlib.Core.Path.{◌≡◌, refl}
use mathlib.Core.Bool.{Bool, true, false, cond}
use Prim.Native.Nat.{ℕ, ◌+◌}
use Rattle.records.specs.declared.Account.{Account}
use Rattle.records.specs.Updates.{with_declines}
use Rattle.records.specs.AccountOperations.{last_decline, topup_removed, declined_on}

module _ (P : Account → Type 0) (today : ℕ) (x : Account) where
  pub declined-cases : P (topup_removed x) → (last_decline x ≡ false → P (with_declines (x.declines + 1) today x)) → P (declined_on today x)
  unfolding declined_on
  declined-cases removed counted = go (last_decline x) refl
    where
      go : (z : Bool) → last_decline x ≡ z → P (cond z (topup_removed x) (with_declines (x.declines + 1) today x))
      go true q = removed
      go false q = counted q
