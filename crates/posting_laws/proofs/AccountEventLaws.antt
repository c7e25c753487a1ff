-- Events that change an account alone: rows do not concern them, and what they leave when they are accepted.
use mathlib.Core.Path.{◌≡◌, refl, sym, ◌∙◌}
use mathlib.Core.Bool.{true, false, cond}
use Prim.Native.Nat.{ℕ, ◌+◌, ◌-◌, ◌≤◌}
use native.Mathlib.Omega.{arith}
use mathlib.Core.List.{List, [], append-nil}
use lib.ListN.{length}
use lib.IntN.{ℤ}
use borrow.Author.Tests.{le-ltb}
use Rattle.records.specs.Codes.{event_tick}
use Rattle.lists.specs.Tests.{◌is◌, Cases, first}
use Rattle.records.specs.Updates.{of_kind}
use Rattle.lists.specs.Lists.{sum_by, count}
use Rattle.rules.specs.Book.{Account, Instruction, Book, put_account}
use Rattle.rules.specs.Refusals.{whole_book, change_of, after, full, ceiling, answer_number, shared_refusals, own_refusals}
use Rattle.rules.specs.Posting.{new_rows, removes_topup, acceptance}
use Rattle.rules.specs.Tables.{Tables, accounts_in, rows_used, book_of, sound_tables}
use Rattle.rules.proofs.RefusalLaws.{answer_number-own}
use Rattle.rules.proofs.StorableLaws.{rows-le}
use Rattle.rules.proofs.TableLaws.{sound-book, accounts-length}
use Rattle.preservation.proofs.Accepted.{accepted}
use Rattle.tables.specs.Changes.{AccountIn, AccountChanged}
use Rattle.posting.specs.Posts.{tables_over, acceptance_of, PostsAny}
use Rattle.posting.proofs.BookLaws.{count-read}
use Rattle.posting_laws.proofs.RefusalLaws.{at-kind, length-after, no-ceiling}
use Rattle.posting_laws.proofs.AddedLaws.{posts-accepted}
use Rattle.posting_laws.proofs.AnyHolidays.{posts-any}
use Rattle.posting_laws.proofs.EventLaws.{known-inside, named-no-tick, account-written, after-account}

-- ---- 13 and 14: no row is added

pub rows_fit : (t : Tables) → sound_tables t ≡ true → length (book_of t).rows ≤ (book_of t).room
rows_fit t s = rows-le (book_of t).day (book_of t) (sound-book t s).near

module _ (b : Book) (e : Instruction) (c : (change_of e.kind b e).rows ≡ b.rows) where
  length-stays : length (after b e).rows ≡ length b.rows + 0
  length-stays = length-after b e b.rows [] (c ∙ sym (append-nil b.rows)) refl

  pub never-full : length b.rows ≤ b.room → full b e ≡ false
  unfolding full
  never-full h = le-ltb b.room (length (after b e).rows) (omega (arith, length-stays))

  pub never-above : ceiling b e ≡ false
  unfolding count sum_by
  never-above = no-ceiling b e b.rows [] (c ∙ sym (append-nil b.rows)) refl refl

  -- the answer: no new row, no toll raised
  pub acceptance-rowless : e.kind is event_tick ≡ false → acceptance_of (length b.rows) 0 0 (cond (removes_topup b e) 1 0) ≡ acceptance b e
  unfolding acceptance new_rows
  acceptance-rowless k =
      let z : length b.rows + 0 - length b.rows ≡ 0 = omega arith in
      rw (length-stays, z, k)

-- the number of an event of kind k that changes no row, on sound tables where no shared refusal applies: that of its own tests
pub answer-rowless : (t : Tables) → sound_tables t ≡ true → (e : Instruction) (k : ℕ) → e.kind ≡ k → first (shared_refusals (book_of t) e) ≡ 0
    → (tests : Book → Instruction → Cases) → (change_of k (book_of t) (of_kind k e)).rows ≡ (book_of t).rows
    → (full (book_of t) (of_kind k e) ≡ false → ceiling (book_of t) (of_kind k e) ≡ false
    → first (own_refusals (book_of t) (of_kind k e)) ≡ first (tests (book_of t) (of_kind k e)))
    → first (tests (book_of t) e) ≡ answer_number (book_of t) e
answer-rowless t s e k i a tests same own =
    let b : Book = book_of t in
    let f : Instruction = of_kind k e in
    let q = own (never-full b f same (rows_fit t s)) (never-above b f same) in
    sym (answer_number-own b e a ∙ at-kind (λ x. first (own_refusals b x) ≡ first (tests b x)) e k i q)

-- ---- accepted

module _ (t : Tables) (s : sound_tables t ≡ true) (e : Instruction) (k : whole_book e ≡ false) (q : 0 ≡ answer_number (book_of t) e) where
  -- the account that the event names is one of the table's
  pub named-inside : (1 ≤ e.account) × (e.account ≤ accounts_in t)
  named-inside =
      let i = known-inside (book_of t) e k (accepted (book_of t) e (sym q)).known in
      (i.0, omega (arith, i.1, count-read t s))

  pub named_in : AccountIn t.accounts (e.account - 1)
  named_in = omega (arith, named-inside.0, named-inside.1, accounts-length t s)

  -- it becomes x, and nothing else changes
  pub account-posts : (x : Account) → change_of e.kind (book_of t) e ≡ put_account e.account x (book_of t)
      → (acc : List ℤ) → AccountChanged t.accounts acc (e.account - 1) x
      → PostsAny t (tables_over t t.header acc t.journal) e (acceptance_of (rows_used t) 0 0 (cond (removes_topup (book_of t) e) 1 0))
  account-posts x c acc w =
      let n = named-no-tick e k in
      posts-any t (tables_over t t.header acc t.journal) e _ n
      (posts-accepted t (tables_over t t.header acc t.journal) s e _ q (acceptance-rowless (book_of t) e (rw c) n)
      (rw (after-account t s e e.account x c) (account-written t s acc e.account x w (omega (arith, named-inside.0, named-inside.1)))))
