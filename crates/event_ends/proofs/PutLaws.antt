-- An accepted event of a known kind that only makes an account: known by what the definitions come to at that kind.
use mathlib.Core.Path.{◌≡◌}
use mathlib.Core.Bool.{Bool, false}
use Prim.Native.Nat.{ℕ}
use Rattle.records.specs.Updates.{of_kind}
use Rattle.records.specs.Encoding.{StorableAccount}
use Rattle.rules.specs.Book.{Account, Instruction, put_account}
use Rattle.rules.specs.Refusals.{whole_book, change_of, answer_number}
use Rattle.rules.specs.Posting.{removes_topup}
use Rattle.rules.specs.Tables.{Tables, book_of}
use Rattle.posting_laws.proofs.RefusalLaws.{at-kind}
use Rattle.event_ends.specs.Ends.{PutsAccount}

module _ (t : Tables) (e : Instruction) (k : ℕ) (i : e.kind ≡ k) (q : 0 ≡ answer_number (book_of t) e) (x : Account) where
  pub puts-account : change_of k (book_of t) (of_kind k e) ≡ put_account e.account x (book_of t) → whole_book (of_kind k e) ≡ false
      → (removed : Bool) → removes_topup (book_of t) (of_kind k e) ≡ removed → StorableAccount x → PutsAccount t e x removed
  puts-account c w removed r s = record {
    accepted = q;
    change = at-kind (λ f. change_of f.kind (book_of t) f ≡ put_account e.account x (book_of t)) e k i c;
    names-account = at-kind (λ f. whole_book f ≡ false) e k i w;
    removes = at-kind (λ f. removes_topup (book_of t) f ≡ removed) e k i r;
    storable = s;
  }
