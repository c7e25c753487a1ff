-- The clauses on an account by itself, together.
use Rattle.std.specs.Prelude.{Bool, ℕ, [], ◌∷◌}
use Rattle.lists.specs.Tests.{all_of}
use Rattle.rules.specs.Book.{Account}
use Rattle.rules.specs.Soundness.{state_fits, unused_zero, request_fits, topup_fits, decline_fits}

-- an account by itself
unfoldable pub account_alone : ℕ → Account → Bool
account_alone today x = all_of (state_fits x ∷ unused_zero x ∷ request_fits today x ∷ topup_fits x ∷ decline_fits today x ∷ [])
