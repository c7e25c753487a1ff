-- The replay passes a toll on as the book does: its step of an event as it was handed over is the step of the event that is posted.
use mathlib.Core.Path.{◌≡◌, refl, sym, ◌∙◌}
use mathlib.Core.Bool.{Bool, true, false, cond}
use borrow.Author.Tests.{eqb-true}
use Rattle.records.specs.Codes.{event_toll}
use Rattle.records.specs.Updates.{on_account}
use Rattle.lists.specs.Tests.{◌is◌}
use Rattle.rules.specs.Book.{state_closed, Instruction, Book, account}
use Rattle.rules.specs.Successors.{has_heir, toll_account, forwarded}
use Rattle.rules.proofs.SuccessorLaws.{taking, heir, heir-closed, heir-takes, forwarded-as-it-is, forwarded-toll}
use Rattle.replay.specs.Replay.{Replay, toll_goes_to, add_toll, step_of}
use Rattle.replay.proofs.Relation.{Agrees}
use Rattle.replay.proofs.PlainEvents.{toll-stays, toll-passes}
use Rattle.replay.proofs.ReplaySteps.{Proper}

module _ (b : Book) (p : Replay) (a : Agrees b p) (e : Instruction) where
  -- the account on which the book posts is the one to which the replay adds
  goes-to-forwarded : toll_goes_to p.notes (toll_account b e.account) ≡ toll_goes_to p.notes e.account
  unfolding toll_account
  goes-to-forwarded = go (has_heir b e.account) refl
    where
      go : (v : Bool) → has_heir b e.account ≡ v → toll_goes_to p.notes (cond v (account b e.account).successor e.account) ≡ toll_goes_to p.notes e.account
      go true h =
          toll-stays b p a (account b e.account).successor (taking (λ n. n is state_closed ≡ false) (heir b e) (heir-takes b e h) refl refl)
          ∙ sym (toll-passes b p a e.account (heir-closed b e h))
      go false h = refl

  pub step-forwarded : step_of (forwarded b e).kind p (forwarded b e) ≡ step_of e.kind p e
  unfolding step_of add_toll
  step-forwarded = go (e.kind is event_toll) refl
    where
      go : (v : Bool) → e.kind is event_toll ≡ v → step_of (forwarded b e).kind p (forwarded b e) ≡ step_of e.kind p e
      go true q =
          let k : e.kind ≡ event_toll = eqb-true e.kind event_toll q in
          rw (forwarded-toll b e q, k, goes-to-forwarded) refl
      go false q = rw (forwarded-as-it-is b e q) refl

-- what the replay asks of an event does not see that it is forwarded
pub proper-forwarded : (b : Book) (e : Instruction) → Proper (forwarded b e) → Proper e
unfolding forwarded
proper-forwarded b e = go (e.kind is event_toll)
  where
    go : (v : Bool) → Proper (cond v (on_account (toll_account b e.account) e) e) → Proper e
    go true s = record { dispute = s.dispute; decision = s.decision }
    go false s = s
