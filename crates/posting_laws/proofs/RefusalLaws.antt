-- What the refusals of an event's own come to: rows that an event adds, a ceiling that none but a tick can meet.
use mathlib.Core.Path.{◌≡◌, refl, sym, ap, subst, ◌∙◌}
use mathlib.Core.Bool.{true, false, cond, ◌&&◌}
use Prim.Native.Nat.{ℕ, zero, suc, ◌+◌, ◌≤◌}
use mathlib.Core.List.{List, [], ◌∷◌, ◌++◌, map}
use lib.ListN.{length, drop, length-append}
use lib.Seq.{drop_at}
use lib.Dec.{ltb}
use borrow.Author.Tests.{le-ltb}
use Rattle.records.specs.Updates.{of_kind}
use Rattle.lists.specs.Tests.{◌is◌}
use Rattle.lists.specs.Lists.{sum_by, count, exists}
use Rattle.lists.proofs.SumLaws.{sum_by-ext, sum_by-map}
use Rattle.records.specs.Limits.{highest_refund}
use Rattle.rules.specs.Rows.{Row, kind_refund, Test}
use Rattle.rules.specs.Settlement.{settle_accounts}
use Rattle.rules.specs.Book.{Instruction, Book, settled}
use Rattle.rules.specs.Refusals.{change_of, after, ceiling}
use Rattle.rules.specs.Tables.{Tables, room_in, rows_used, book_of, sound_tables}
use Rattle.rules.proofs.AllocationLaws.{bare}
use Rattle.rules.proofs.SettlementAccountsLaws.{length-settle_accounts, settle_accounts-bare}
use Rattle.posting.proofs.BookLaws.{used-read, room-read}

-- ---- an event of a known kind: its laws are stated at that number, at which the tests on the kind compute

pub at-kind : (P : Instruction → Type 0) (e : Instruction) (k : ℕ) → e.kind ≡ k → P (of_kind k e) → P e
at-kind P e k q p = subst (λ (n : ℕ). P (of_kind n e)) (sym q) p

-- ---- 13 and 14: the rows that an event adds

-- a test that does not look at what is settled counts the same after settlement, past any number of rows
count-bare : (t : Test) → ((r : Row) → t (bare r) ≡ t r) → (xs ys : List Row) → map bare xs ≡ map bare ys → count t xs ≡ count t ys
unfolding count
count-bare t s xs ys e =
    let f : Row → ℕ = λ r. cond (t r) 1 0 in
    let g : (r : Row) → f r ≡ f (bare r) = λ r. rw (s r) in
    sum_by-ext f (λ r. f (bare r)) xs g ∙ sym (sum_by-map f bare xs) ∙ ap (sum_by f) e ∙ sum_by-map f bare ys ∙ sym (sum_by-ext f (λ r. f (bare r)) ys g)

drop-map : (n : ℕ) (xs : List Row) → map bare (drop n xs) ≡ drop n (map bare xs)
drop-map zero xs = refl
drop-map (suc n) [] = refl
drop-map (suc n) (x ∷ xs) = drop-map n xs

module _ (b : Book) (e : Instruction) (base more : List Row) (c : (change_of e.kind b e).rows ≡ base ++ more) (l : length base ≡ length b.rows) where
  pub length-after : length (after b e).rows ≡ length b.rows + length more
  unfolding after settled
  length-after = length-settle_accounts _ _ ∙ rw (c, length-append base more, l)

  -- no row added is a refund
  pub no-ceiling : count (λ r. r.kind is kind_refund && ltb highest_refund r.amount) more ≡ 0 → ceiling b e ≡ false
  unfolding ceiling after settled exists
  no-ceiling z =
      let t : Test = λ r. r.kind is kind_refund && ltb highest_refund r.amount in
      let rows : List Row = (change_of e.kind b e).rows in
      let n : ℕ = length (change_of e.kind b e).accounts in
      let q : map bare (drop (length b.rows) (settle_accounts n rows)) ≡ map bare (drop (length b.rows) rows) =
      drop-map (length b.rows) (settle_accounts n rows) ∙ ap (drop (length b.rows)) (settle_accounts-bare n rows) ∙ sym (drop-map (length b.rows) rows) in
      let d : drop (length b.rows) rows ≡ more = rw c (drop_at base more (length b.rows) l) in
      rw (count-bare t (λ r. refl) (drop (length b.rows) (settle_accounts n rows)) (drop (length b.rows) rows) q, d, z)

-- ---- 13, over sound tables: n rows more than there are, and n rows that there are

module _ (t : Tables) (s : sound_tables t ≡ true) (n : ℕ) where
  pub rows-suffice : rows_used t + n ≤ room_in t → ltb (book_of t).room (length (book_of t).rows + n) ≡ false
  rows-suffice h = rw (← room-read t s, ← used-read t s) (le-ltb (room_in t) (rows_used t + n) h)
