-- A top-up's result and the reserve (document 02, No. 4): what becomes of the account that it names, and when the answer's last word is 1.
use mathlib.Core.Path.{◌≡◌, refl}
use mathlib.Core.Bool.{Bool, true, false, cond, ◌&&◌}
use Prim.Native.Nat.{ℕ, zero, suc, ◌≤◌}
use native.Mathlib.Omega.{arith}
use native.Mathlib.Decide.{dec_lt}
use lib.ListN.{length, get_or-eq_default}
use lib.Dec.{eqb}
use borrow.Author.Tests.{eqb-true, eq-eqb, leb-true}
use Rattle.records.specs.Codes.{event_topup_result, code_yes}
use Rattle.records.specs.Limits.{most_declines}
use Rattle.records.specs.Updates.{with_declines, with_reserve}
use Rattle.records.specs.AccountOperations.{last_decline, topup_removed, declined_on, topup_paid}
use Rattle.lists.specs.Tests.{◌is◌}
use Rattle.lists.proofs.TestLaws.{and_left, and_right}
use Rattle.rules.specs.Book.{Account, unused, Instruction, Book, account, put_account, settled}
use Rattle.rules.specs.Events.{pay_topup, decline_topup, topup_result}
use Rattle.rules.specs.Soundness.{sound}
use Rattle.rules.specs.Refusals.{change_of, after, unknown, answer_number}
use Rattle.rules.specs.Posting.{removes_topup, acceptance, post}
use Rattle.rules.proofs.PostingLaws.{post-refused, post-accepted}
use Rattle.rules.proofs.SoundnessLaws.{sound-facts}
use Rattle.rules.proofs.StorableLaws.{topup-parts}
use Rattle.preservation.proofs.Accepted.{Accepted, accepted}
use Rattle.preservation.proofs.LookupLaws.{account-put, inside}

-- ---- whom a result concerns

-- the primary paid: a reserve stays
pub paid-by-primary : (x : Account) → last_decline x ≡ false → topup_paid x ≡ with_declines 0 0 x
paid-by-primary x q = rw q

-- "A reserve that pays clears the declines and removes the primary, the reserve taking its place"
pub paid-by-reserve : (x : Account) → last_decline x ≡ true → topup_paid x ≡ with_reserve 0 (with_declines 0 0 x)
paid-by-reserve x q = rw q

-- "A reserve that is declined removes both methods"
pub declined-last : (today : ℕ) (x : Account) → last_decline x ≡ true → declined_on today x ≡ topup_removed x
unfolding declined_on
declined-last today x q = rw q

-- ---- the answer's last word

module _ (b : Book) (e : Instruction) where
  -- a declined result of an account with two declines
  pub record LastDeclined : Type 0 where
    pub kind : e.kind ≡ event_topup_result
    pub declined : e.b ≡ 0
    pub declines : (account b e.account).declines ≡ most_declines

  pub last-word : answer_number b e ≡ 0 → LastDeclined → (post b e).answer.removed ≡ 1
  unfolding acceptance removes_topup
  last-word z d = rw (post-accepted b e (eq-eqb _ _ z), d.kind, d.declined, d.declines)

  module _ (s : sound b ≡ true) where
    declines-few : (n : ℕ) → (account b n).declines ≤ most_declines
    declines-few zero = omega arith
    declines-few (suc k) = elim (dec_lt k (length b.accounts)) [
      | yes h ↦ leb-true _ _ (topup-parts _ ((sound-facts b s).near.standing k h).topup).declines
      | no h ↦ rw (get_or-eq_default b.accounts unused {n = k} (omega arith)) (omega arith)
    ]

    -- "with a reserve, only then is the answer's last word 1"
    pub last-word-only : (post b e).answer.removed ≡ 1 → LastDeclined
    unfolding acceptance removes_topup
    last-word-only = go (eqb (answer_number b e) 0) refl
      where
        told : removes_topup b e ≡ true → LastDeclined
        told t =
            let k : Bool = e.kind is event_topup_result in
            let d : Bool = e.b is 0 in
            let l : Bool = last_decline (account b e.account) in
            record {
              kind = eqb-true _ _ (and_left k d (and_left (k && d) l t));
              declined = eqb-true _ _ (and_right k d (and_left (k && d) l t));
              declines = omega (arith, leb-true _ _ (and_right (k && d) l t), declines-few e.account);
            }

        removed : (t : Bool) → removes_topup b e ≡ t → ◌≡◌ {A = ℕ} (cond t 1 0) 1 → LastDeclined
        removed true q w = told q
        removed false q w = absurd (omega (arith, w))

        go : (t : Bool) → eqb (answer_number b e) 0 ≡ t → (post b e).answer.removed ≡ 1 → LastDeclined
        go true q w = removed (removes_topup b e) refl (rw (post-accepted b e q) at w)
        go false q w = absurd (omega (arith, rw (post-refused b e q) at w))

-- ---- the account after a result

module _ (b : Book) (e : Instruction) (s : sound b ≡ true) (z : answer_number b e ≡ 0) (k : e.kind ≡ event_topup_result) where
  abbrev it : Account
  it = account b e.account

  acc : Accepted b e
  acc = accepted b e z

  kept : (x : Account) → account (put_account e.account x b) e.account ≡ x
  unfolding unknown
  kept x = account-put b.day b (sound-facts b s).near e.account x (inside e.account (length b.accounts) _ (rw k at acc.known))

  -- by the account's own operations: paid, the reserve is gone where it paid; declined for the third time, both methods are
  pub account-after-result : account (post b e).book e.account ≡ cond (e.b is code_yes) (topup_paid it) (declined_on b.day it)
  unfolding after settled change_of topup_result pay_topup decline_topup
  account-after-result = rw (post-accepted b e (eq-eqb _ _ z), k) (go (e.b is code_yes))
    where
      go : (t : Bool) → account (settled (cond t (pay_topup b e) (decline_topup b e))) e.account ≡ cond t (topup_paid it) (declined_on b.day it)
      go true = kept (topup_paid it)
      go false = kept (declined_on b.day it)
