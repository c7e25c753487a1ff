-- The fees of a toll settled whole, as a decision for the motorist does: each row keeps its shape and stays within its amount.
use mathlib.Core.Path.{◌≡◌, refl}
use mathlib.Core.Bool.{Bool, true, false, cond}
use Prim.Native.Nat.{ℕ}
use native.Mathlib.Omega.{arith}
use mathlib.Core.List.{List}
use lib.Dec.{eqb, leb}
use borrow.Author.Tests.{le-leb, eqb-true}
use Rattle.records.specs.Codes.{kind_fee}
use Rattle.lists.proofs.TestLaws.{and_left, and_right, and_both}
use Rattle.rules.specs.Rows.{Row, with_settled, settle_whole, fee_naming}
use Rattle.rules.specs.Book.{Account}
use Rattle.rules.specs.Soundness.{kind_fits, amount_fits, settled_fits, mark_fits, toll_words_fit, no_reference, row_day_fits, due_within, hold_fits, account_used, names, reference_fits, passage_once, fees_fit}
use Rattle.rules.specs.SoundFacts.{Shape, Live}

-- every fee that names row n
abbrev pub forgive : ℕ → Row → Row
forgive n r = cond (fee_naming n r) (settle_whole r) r

-- what does not look at the part settled
pub forgive-keeps : {B : Type 0} (g : Row → B) → ((r : Row) (v : ℕ) → g (with_settled v r) ≡ g r) → (n : ℕ) (r : Row) → g (forgive n r) ≡ g r
forgive-keeps g f n r = go (fee_naming n r)
  where
    go : (t : Bool) → g (cond t (settle_whole r) r) ≡ g r
    go true = f r r.amount
    go false = refl

pub naming-fee : (n : ℕ) (r : Row) → fee_naming n r ≡ true → (r.kind ≡ kind_fee) × (r.reference ≡ n)
unfolding fee_naming
naming-fee n r e = (eqb-true r.kind 2 (and_left (eqb r.kind 2) _ e), eqb-true r.reference n (and_right (eqb r.kind 2) _ e))

pub live-forgiven : (past today L n : ℕ) (r : Row) → Live past today L r → Live past today L (forgive n r)
live-forgiven past today L n r v = go (fee_naming n r) refl
  where
    whole : r.kind ≡ kind_fee → Live past today L (settle_whole r)
    whole k = unfold settled_fits due_within hold_fits in record { settled = rw k (and_both (leb r.amount r.amount) _ (le-leb r.amount r.amount (omega arith)) refl); due = rw k; hold = rw k }

    go : (t : Bool) → fee_naming n r ≡ t → Live past today L (cond t (settle_whole r) r)
    go true e = whole (naming-fee n r e).0
    go false e = v

pub shape-forgiven : (today : ℕ) (xs : List Account) (rows : List Row) (m n : ℕ) (r : Row) → Shape today xs rows m r → Shape today xs rows m (forgive n r)
unfolding kind_fits amount_fits mark_fits toll_words_fit no_reference row_day_fits account_used reference_fits passage_once fees_fit names
shape-forgiven today xs rows m n r v = go (fee_naming n r)
  where
    go : (t : Bool) → Shape today xs rows m (cond t (settle_whole r) r)
    go true = record {
      kind = v.kind;
      amount = v.amount;
      mark = v.mark;
      words = v.words;
      none = v.none;
      day = v.day;
      account = v.account;
      reference = v.reference;
      passage = v.passage;
      fees = v.fees;
    }
    go false = v
