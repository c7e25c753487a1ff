-- The frame law of events as they are handed over (document 02, No. 8): a toll changes no account, and rows of the account alone on which it
-- posts; "no other event but a tick touches an account it doesn't name".
use mathlib.Core.Path.{◌≡◌, refl, ◌∙◌}
use mathlib.Core.Logic.{◌≢◌}
use mathlib.Core.Bool.{Bool, true, false, ◌&&◌}
use Prim.Native.Nat.{ℕ, ◌≤◌, ◌<◌}
use lib.ListN.{length, get_or}
use borrow.Author.Tests.{eqb-true}
use Rattle.records.specs.Codes.{event_toll, event_tick}
use Rattle.lists.specs.Tests.{◌is◌}
use Rattle.rules.specs.Rows.{blank}
use Rattle.rules.specs.Book.{Instruction, Book, settled, account}
use Rattle.rules.specs.Successors.{has_heir, forwarded, posts_on}
use Rattle.rules.specs.Events.{post_toll}
use Rattle.rules.specs.Refusals.{change_of, after, answer_number}
use Rattle.rules.specs.Posting.{post, receive}
use Rattle.rules.specs.Soundness.{sound}
use Rattle.rules.proofs.PostingLaws.{post-accepted, post-refused}
use Rattle.rules.proofs.SuccessorLaws.{forwarded-kind, forwarded-as-it-is, posts_on-named}
use Rattle.preservation.proofs.PostFrame.{post-frame-account, post-frame-row, post-frame-added}

-- ---- a toll changes no account

toll-accounts : (b : Book) (e : Instruction) → e.kind ≡ event_toll → (post b e).book.accounts ≡ b.accounts
toll-accounts b e k = go (answer_number b e is 0) refl
  where
    changed : (after b e).accounts ≡ b.accounts
    changed = unfold after settled change_of post_toll in rw k refl

    go : (v : Bool) → answer_number b e is 0 ≡ v → (post b e).book.accounts ≡ b.accounts
    go true q = rw (post-accepted b e q) changed
    go false q = rw (post-refused b e q) refl

-- ---- an event as it is handed over

module _ (b : Book) (e : Instruction) where
  pub receive-toll-accounts : e.kind ≡ event_toll → (receive b e).book.accounts ≡ b.accounts
  receive-toll-accounts k = toll-accounts b (forwarded b e) (forwarded-kind b e ∙ k)

  module _ (s : sound b ≡ true) (ne : e.kind ≢ event_tick) where
    still-no-tick : (forwarded b e).kind ≢ event_tick
    still-no-tick = rw (forwarded-kind b e) ne

    -- an event but a tick changes no account but the one that it names
    pub receive-frame-account : (n : ℕ) → n ≢ e.account → account (receive b e).book n ≡ account b n
    receive-frame-account n w = go (e.kind is event_toll) refl
      where
        go : (v : Bool) → e.kind is event_toll ≡ v → account (receive b e).book n ≡ account b n
        go true q = rw (receive-toll-accounts (eqb-true e.kind event_toll q)) refl
        go false q = rw (forwarded-as-it-is b e q) (post-frame-account b e s ne n w)

    -- it changes and adds rows of the account on which it posts alone
    pub receive-frame-row : (k : ℕ) → k < length b.rows → (get_or b.rows k blank).account ≢ posts_on b e
        → get_or (receive b e).book.rows k blank ≡ get_or b.rows k blank
    receive-frame-row k l w = post-frame-row b (forwarded b e) s still-no-tick k l w

    pub receive-frame-added : (k : ℕ) → length b.rows ≤ k → k < length (receive b e).book.rows → (get_or (receive b e).book.rows k blank).account ≡ posts_on b e
    receive-frame-added k l h = post-frame-added b (forwarded b e) s still-no-tick k l h

    -- where that is the account named: for every event but a passed-on toll
    pub receive-frame-named : e.kind is event_toll && has_heir b e.account ≡ false → (k : ℕ) → k < length b.rows → (get_or b.rows k blank).account ≢ e.account
        → get_or (receive b e).book.rows k blank ≡ get_or b.rows k blank
    receive-frame-named q k l w = receive-frame-row k l (rw (posts_on-named b e q) w)
