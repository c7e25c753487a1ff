-- An event settles the account that it names alone: elsewhere settlement finds nothing to move.
use mathlib.Core.Path.{◌≡◌, ap}
use mathlib.Core.Logic.{◌≢◌}
use Prim.Native.Nat.{ℕ, zero, suc, ◌≤◌}
use native.Mathlib.Omega.{arith}
use mathlib.Core.List.{List}
use lib.ListN.{length}
use Rattle.records.specs.Codes.{event_tick}
use Rattle.rules.specs.Rows.{Row}
use Rattle.rules.specs.Settlement.{moved, settle}
use Rattle.rules.specs.Book.{Instruction, Book, with_rows, settled}
use Rattle.rules.specs.Refusals.{change_of, after}
use Rattle.rules.proofs.SettlementAccountsLaws.{settle_accounts-same, settle_accounts-one}
use Rattle.rules.specs.SoundFacts.{Sound}
use Rattle.preservation.proofs.Accepted.{Accepted}
use Rattle.preservation.proofs.OthersLaws.{Others, money-others}
use Rattle.preservation.proofs.EventFrame.{change-others}
use Rattle.preservation.proofs.PostFrame.{no-idle-money-moved, debt-others}

-- in a sound book no account has something to move
pub sound-moved : (b : Book) → Sound b → (m : ℕ) → 1 ≤ m → m ≤ length b.accounts → moved m b.rows ≡ 0
sound-moved b s zero l h = absurd (omega arith)
sound-moved b s (suc k) l h = no-idle-money-moved b.rows (suc k) (s.no-idle-money k h)

-- nor has another account where only rows of account n change
pub others-moved : (b : Book) → Sound b → (n : ℕ) (rows' : List Row) → Others n b.rows rows' → (m : ℕ) → 1 ≤ m → m ≤ length b.accounts → m ≢ n → moved m rows' ≡ 0
unfolding moved
others-moved b s n rows' o m l h ne =
    rw (money-others n b.rows rows' o m ne, debt-others b s.near n rows' o m ne) (sound-moved b s m l h)

-- settlement after a change of one account's rows is that account's settlement
pub settled-named : (b b' : Book) → Sound b → (n : ℕ) → Others n b.rows b'.rows → length b'.accounts ≡ length b.accounts → 1 ≤ n → n ≤ length b.accounts
    → settled b' ≡ with_rows (settle n b'.rows) b'
unfolding settled
settled-named b b' s n o e l h =
    ap (λ (rows : List Row). with_rows rows b')
    (settle_accounts-one n (length b'.accounts) b'.rows l (rw e h) (λ m i j ne. others-moved b s n b'.rows o m i (rw e at j) ne))

-- where the rows stay, settlement is the identity
pub settled-unmoved : (b b' : Book) → Sound b → b'.rows ≡ b.rows → length b'.accounts ≡ length b.accounts → settled b' ≡ b'
unfolding settled
settled-unmoved b b' s r e =
    ap (λ (rows : List Row). with_rows rows b')
    (settle_accounts-same (length b'.accounts) b'.rows (λ m i j. rw r (sound-moved b s m i (rw e at j))))

pub after-named : (b : Book) (e : Instruction) → Sound b → e.kind ≢ event_tick → Accepted b e → 1 ≤ e.account → e.account ≤ length b.accounts
    → length (change_of e.kind b e).accounts ≡ length b.accounts
    → after b e ≡ with_rows (settle (e.account) (change_of e.kind b e).rows) (change_of e.kind b e)
unfolding after
after-named b e s ne q l h z =
    settled-named b (change_of e.kind b e) s e.account
    (change-others b e e.kind s.near ne q) z l h
