-- What events share that change no row: the account that an event names lies in the table, and the tables and the book after an account alone has changed.
use mathlib.Core.Path.{◌≡◌, refl, sym, ◌∙◌}
use mathlib.Core.Bool.{true, false, not, ◌&&◌}
use Prim.Native.Nat.{ℕ, ◌-◌, ◌≤◌, ◌<◌}
use native.Mathlib.Omega.{arith}
use mathlib.Core.List.{List}
use lib.ListN.{length, length-set}
use lib.IntN.{ℤ}
use lib.Dec.{leb}
use borrow.Author.Tests.{leb-true, not-false}
use Rattle.records.specs.Codes.{event_open, event_tick, event_rate_list}
use Rattle.lists.specs.Tests.{◌is◌, ◌from◌to◌}
use Rattle.lists.proofs.TestLaws.{and_left, and_right, or_left}
use Rattle.rules.specs.Book.{Account, Instruction, state_unused, Book, account, put_account}
use Rattle.rules.specs.Refusals.{whole_book, change_of, after, unknown}
use Rattle.rules.specs.Tables.{Tables, accounts_in, book_of, sound_tables}
use Rattle.rules.proofs.TableLaws.{sound-book, sound-rows}
use Rattle.preservation.proofs.NamedLaws.{settled-unmoved}
use Rattle.tables.specs.Changes.{AccountChanged}
use Rattle.tables.proofs.ChangeLaws.{changed-accounts}
use Rattle.posting.specs.Posts.{tables_over}
use Rattle.posting.proofs.BookLaws.{day-read, used-read, room-read}
use Rattle.posting.specs.Written.{Written}

-- ---- the account that an event names, if it does not concern the whole book, is one of the table's, where refusal 3 does not apply

pub known-inside : (b : Book) (e : Instruction) → whole_book e ≡ false → unknown b e ≡ false → (1 ≤ e.account) × (e.account ≤ length b.accounts)
unfolding unknown
known-inside b e k u =
    let n : ℕ = e.account in
    let i : n from 1 to length b.accounts ≡ true = not-false _ (or_left _ (not (e.kind is event_open) && (account b n).state is state_unused) (rw k at u)) in (
      leb-true 1 n (and_left (leb 1 n) (leb n (length b.accounts)) i),
      leb-true n (length b.accounts) (and_right (leb 1 n) (leb n (length b.accounts)) i),
    )

-- such an event is no tick
pub named-no-tick : (e : Instruction) → whole_book e ≡ false → e.kind is event_tick ≡ false
named-no-tick e k = or_left (e.kind is event_tick) (e.kind is event_rate_list) k

-- ---- an account alone is changed

module _ (t : Tables) (s : sound_tables t ≡ true) where
  pub account-written : (acc : List ℤ) (n : ℕ) (x : Account) → AccountChanged t.accounts acc (n - 1) x → n - 1 < accounts_in t
      → Written t (tables_over t t.header acc t.journal) (put_account n x (book_of t))
  account-written acc n x w l = record {
    header-size = refl;
    accounts-size = w.size;
    journal-size = refl;
    day = day-read t s;
    used = used-read t s;
    fixed = λ k q. refl;
    schedule = refl;
    lists = refl;
    holidays = refl;
    same-holidays = refl;
    accounts = changed-accounts t.accounts acc (n - 1) x w (accounts_in t) l ∙ (unfold book_of in refl);
    rows = rw (← used-read t s) (sym (sound-rows t s));
    room = sym (room-read t s);
    longer = omega (arith, used-read t s);
    rest = λ k q. refl;
  }

  -- settlement finds nothing to move
  pub after-account : (e : Instruction) (n : ℕ) (x : Account) → change_of e.kind (book_of t) e ≡ put_account n x (book_of t) → after (book_of t) e ≡ put_account n x (book_of t)
  unfolding after
  after-account e n x c =
      rw c (settled-unmoved (book_of t) (put_account n x (book_of t)) (sound-book t s) refl (length-set (book_of t).accounts (n - 1) x))
