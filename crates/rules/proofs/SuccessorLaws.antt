-- What it means for an event to be forwarded (document 02, No. 8): its kind stays, only a toll's account may be another, the refusals 2, 15,
-- 3 and 4 are those of the event as it came, and a toll is refused by 5 exactly where its account is closed and has no heir.
use mathlib.Core.Path.{◌≡◌, refl, sym, ◌∙◌}
use mathlib.Core.Bool.{Bool, true, false, not, ◌&&◌, ◌||◌, true≢false, and-false, and-true}
use Prim.Native.Nat.{ℕ, zero, suc}
use native.Mathlib.Omega.{arith}
use mathlib.Core.List.{List}
use lib.ListN.{length}
use borrow.Author.Tests.{le-leb, eqb-true}
use Rattle.std.specs.Prelude.{cond}
use Rattle.records.specs.Codes.{event_toll}
use Rattle.records.specs.Updates.{on_account}
use Rattle.lists.specs.Tests.{◌is◌, ◌from◌to◌}
use Rattle.lists.proofs.TestLaws.{and_left, and_right, cond_either}
use Rattle.rules.specs.Book.{Account, state_unused, state_open, state_pending, state_closed, Instruction, Book, account_no, account}
use Rattle.rules.specs.Successors.{takes_tolls, has_heir, toll_account, forwarded, posts_on}
use Rattle.rules.specs.Refusals.{form_of, toll_form, well_formed, list_refused, unknown, taken, on_closed}
use Rattle.rules.proofs.StorableLaws.{used-inside}

-- ---- accounts in use

-- an account that is used is one of the table's
used-known : (xs : List Account) (n : ℕ) → (account_no xs n).state is state_unused ≡ false → not (n from 1 to length xs) || (account_no xs n).state is state_unused ≡ false
used-known xs zero e = absurd (true≢false e)
used-known xs (suc k) e = rw (le-leb 1 (suc k) (omega arith), le-leb (suc k) (length xs) (used-inside xs (suc k) e), e)

-- what holds of the two states in which an account takes tolls
pub taking : (P : ℕ → Type 0) (x : Account) → takes_tolls x ≡ true → P state_open → P state_pending → P x.state
taking P x t o p = go (x.state is state_open) refl t
  where
    go : (v : Bool) → x.state is state_open ≡ v → v || x.state is state_pending ≡ true → P x.state
    go true q e = rw (eqb-true x.state state_open q) o
    go false q e = rw (eqb-true x.state state_pending e) p

-- ---- which event is posted

module _ (b : Book) (e : Instruction) where
  pub forwarded-kind : (forwarded b e).kind ≡ e.kind
  unfolding forwarded
  forwarded-kind = cond_either (λ (f : Instruction). f.kind ≡ e.kind) (e.kind is event_toll) (on_account (toll_account b e.account) e) e refl refl

  pub forwarded-as-it-is : e.kind is event_toll ≡ false → forwarded b e ≡ e
  unfolding forwarded
  forwarded-as-it-is q = rw q

  pub forwarded-toll : e.kind is event_toll ≡ true → forwarded b e ≡ on_account (toll_account b e.account) e
  unfolding forwarded
  forwarded-toll q = rw q

  -- an event that is no toll with an heir is posted on the account that it names
  pub posts_on-named : e.kind is event_toll && has_heir b e.account ≡ false → posts_on b e ≡ e.account
  unfolding forwarded toll_account
  posts_on-named q = go (e.kind is event_toll) (has_heir b e.account) q
    where
      go : (v w : Bool) → v && w ≡ false → (cond v (on_account (cond w (account b e.account).successor e.account) e) e).account ≡ e.account
      go true true q = absurd (true≢false q)
      go true false q = refl
      go false w q = refl

  -- a toll with an heir on the heir
  pub posts_on-heir : e.kind is event_toll ≡ true → has_heir b e.account ≡ true → posts_on b e ≡ (account b e.account).successor
  unfolding forwarded toll_account
  posts_on-heir k q = rw (posts_on, k, q)

  -- ---- the refusals before 5 do not see that an event is forwarded

  forwarded_either : (P : Instruction → Type 0) → P e → (e.kind is event_toll ≡ true → P (on_account (toll_account b e.account) e)) → P (forwarded b e)
  forwarded_either P i t = go (e.kind is event_toll) refl
    where
      go : (v : Bool) → e.kind is event_toll ≡ v → P (forwarded b e)
      go true q = rw (forwarded-toll q) (t q)
      go false q = rw (forwarded-as-it-is q) i

  pub forwarded-formed : well_formed (forwarded b e) ≡ well_formed e
  unfolding well_formed form_of toll_form
  forwarded-formed =
      forwarded_either (λ f. well_formed f ≡ well_formed e) refl
      (λ q. let k : e.kind ≡ event_toll = eqb-true e.kind event_toll q in rw k refl)

  pub forwarded-list_refused : list_refused b (forwarded b e) ≡ list_refused b e
  unfolding list_refused
  forwarded-list_refused = forwarded_either (λ f. list_refused b f ≡ list_refused b e) refl (λ q. refl)

  pub forwarded-taken : taken b (forwarded b e) ≡ taken b e
  unfolding taken
  forwarded-taken =
      forwarded_either (λ f. taken b f ≡ taken b e) refl
      (λ q. let k : e.kind ≡ event_toll = eqb-true e.kind event_toll q in rw k refl)

  abbrev pub heir : Account
  heir = account b (account b e.account).successor

  pub heir-closed : has_heir b e.account ≡ true → (account b e.account).state is state_closed ≡ true
  unfolding has_heir
  heir-closed h = and_left ((account b e.account).state is state_closed) (takes_tolls heir) h

  pub heir-takes : has_heir b e.account ≡ true → takes_tolls heir ≡ true
  unfolding has_heir
  heir-takes h = and_right ((account b e.account).state is state_closed) (takes_tolls heir) h

  pub forwarded-unknown : unknown b (forwarded b e) ≡ unknown b e
  unfolding unknown toll_account
  forwarded-unknown =
      forwarded_either (λ f. unknown b f ≡ unknown b e) refl
      (λ q. let k : e.kind ≡ event_toll = eqb-true e.kind event_toll q in rw k (moved (has_heir b e.account) refl))
    where
      missing : ℕ → Bool
      missing n = not (n from 1 to length b.accounts) || (account b n).state is state_unused

      moved : (v : Bool) → has_heir b e.account ≡ v → missing (cond v (account b e.account).successor e.account) ≡ missing e.account
      moved true h =
          let closed : (account b e.account).state ≡ state_closed = eqb-true _ state_closed (heir-closed h) in
          used-known b.accounts (account b e.account).successor (taking (λ n. n is state_unused ≡ false) heir (heir-takes h) refl refl)
          ∙ sym (used-known b.accounts e.account (rw closed refl))
      moved false h = refl

  -- ---- 5

  -- "Without one, or with a closed successor, it is refused 5 as now"
  pub forwarded-closed : e.kind ≡ event_toll → on_closed b (forwarded b e) ≡ ((account b e.account).state is state_closed && not (has_heir b e.account))
  unfolding on_closed toll_account
  forwarded-closed k = rw (forwarded-toll (rw k), k) (go (has_heir b e.account) refl)
    where
      closed : Bool
      closed = (account b e.account).state is state_closed

      go : (v : Bool) → has_heir b e.account ≡ v → ((account b (cond v (account b e.account).successor e.account)).state is state_closed) ≡ (closed && not v)
      go true h = taking (λ n. n is state_closed ≡ false) heir (heir-takes h) refl refl ∙ sym (and-false closed)
      go false h = sym (and-true closed)
