-- What events share that change one row, the one that they name: it is a used one, and the tables and the book after it has changed.
use mathlib.Core.Path.{◌≡◌, refl, sym, ap, ◌∙◌}
use mathlib.Core.Logic.{◌≢◌}
use mathlib.Core.Bool.{true, false}
use Prim.Native.Nat.{ℕ, zero, suc, ◌+◌, ◌-◌, ◌^◌, ◌≤◌, ◌<◌}
use native.Mathlib.Omega.{arith}
use mathlib.Core.List.{List, [], ◌++◌, append-nil}
use lib.ListN.{length, set, length-set}
use lib.IntN.{ℤ}
use borrow.Author.Tests.{eqb-false, ne_eqb}
use Rattle.records.specs.Codes.{event_topup_result, event_tick}
use Rattle.lists.specs.Lists.{sum_by, count}
use Rattle.rules.specs.Rows.{Row}
use Rattle.rules.specs.Settlement.{settle}
use Rattle.rules.specs.Book.{Instruction, Book, with_rows, row, put_row}
use Rattle.rules.specs.Refusals.{whole_book, change_of, after, ceiling, answer_number}
use Rattle.rules.specs.Posting.{removes_topup}
use Rattle.rules.specs.Tables.{Tables, rows_used, book_of, sound_tables}
use Rattle.rules.proofs.TableLaws.{sound-book, used_le}
use Rattle.preservation.proofs.Accepted.{Accepted, accepted}
use Rattle.preservation.proofs.LookupLaws.{there}
use Rattle.preservation.proofs.NamedLaws.{after-named}
use Rattle.tables.specs.Changes.{RowChanged}
use Rattle.settlement.specs.Settling.{Journal, Settled}
use Rattle.posting.specs.Posts.{tables_over, acceptance_of, Posts}
use Rattle.posting.proofs.BookLaws.{used-read}
use Rattle.posting_laws.proofs.RefusalLaws.{length-after, no-ceiling}
use Rattle.posting_laws.proofs.AddedLaws.{acceptance-plain, posts-accepted}
use Rattle.posting_laws.proofs.EventLaws.{known-inside, named-no-tick}
use Rattle.posting.specs.Written.{UsedRows}
use Rattle.posting_laws.proofs.UsedRowsLaws.{used-rows-before, rows-put, rows-settle, rows_written, used-rows-settles, small-before, small_put}

-- ---- a row that has a kind is a used one

pub row-used : (t : Tables) → sound_tables t ≡ true → (n : ℕ) → 0 < (row (book_of t) n).kind → (1 ≤ n) × (n ≤ rows_used t)
row-used t s zero h = absurd (omega arith)
row-used t s (suc k) h = (omega arith, omega (arith, there (book_of t).day (book_of t) (sound-book t s).near k h, used-read t s))

-- ---- refusals 13 and 14: none where one row is put and none added

module _ (b : Book) (e : Instruction) (n : ℕ) (r : Row) (c : change_of e.kind b e ≡ put_row n r b) where
  change-rows : (change_of e.kind b e).rows ≡ set b.rows (n - 1) r ++ []
  change-rows = ap (λ (x : Book). x.rows) c ∙ sym (append-nil (set b.rows (n - 1) r))

  pub length-put : length (after b e).rows ≡ length b.rows + 0
  length-put = length-after b e (set b.rows (n - 1) r) [] change-rows (length-set b.rows (n - 1) r)

  pub no-ceiling-put : ceiling b e ≡ false
  unfolding count sum_by
  no-ceiling-put = no-ceiling b e (set b.rows (n - 1) r) [] change-rows (length-set b.rows (n - 1) r) refl

-- ---- the tables and the book after an accepted event that changes the row that it names and no other

module _ (t : Tables) (s : sound_tables t ≡ true) (e : Instruction) (q : 0 ≡ answer_number (book_of t) e) (r : Row)
    (c : change_of e.kind (book_of t) e ≡ put_row e.a r (book_of t)) (h : 0 < (row (book_of t) e.a).kind) (j : List ℤ) (w : RowChanged t.journal j (e.a - 1) r) where
  abbrev b : Book
  b = book_of t

  abbrev rows : List Row
  rows = set b.rows (e.a - 1) r

  acc : Accepted b e
  acc = accepted b e (sym q)

  within : e.a - 1 < length b.rows
  within = omega (arith, row-used t s e.a h, used-read t s)

  put-used : UsedRows t t.header j rows
  put-used = rows-put t t.header t.journal j b.rows (used-rows-before t s) (e.a - 1) r within w

  length-rows : length rows ≡ rows_used t
  length-rows = length-set b.rows (e.a - 1) r ∙ sym (used-read t s)

  -- the journal can be settled
  pub put-settles : r.amount < 2 ^ 63 → Journal j (rows_used t)
  put-settles a =
      rw length-rows at (used-rows-settles t s t.header j rows put-used (rw length-rows (used_le t s)) (small_put b.rows (e.a - 1) r within a (small-before t s)))

  module _ (kind-7 : e.kind ≢ event_topup_result) (names : whole_book e ≡ false) where
    after-put : after b e ≡ with_rows (settle e.account rows) b
    after-put =
        let i = known-inside b e names acc.known in
        after-named b e (sound-book t s) (eqb-false e.kind event_tick (named-no-tick e names)) acc i.0 i.1 (rw c) ∙ rw c

    pub put-posts : (j'' : List ℤ) → Settled j j'' (rows_used t) e.account → Posts t (tables_over t t.header t.accounts j'') e (acceptance_of (rows_used t) 0 0 0)
    unfolding removes_topup
    put-posts j'' d =
        posts-accepted t (tables_over t t.header t.accounts j'') s e (acceptance_of (rows_used t) 0 0 0) q
        (acceptance-plain b e 0 (length-put b e e.a r c) names (rw (ne_eqb e.kind 7 kind-7)))
        (rw after-put
        (rows_written t t.header j'' (settle e.account rows) (rows-settle t t.header j j'' rows put-used e.account (rw length-rows d))
        t.accounts b.accounts refl (unfold book_of in refl)))
