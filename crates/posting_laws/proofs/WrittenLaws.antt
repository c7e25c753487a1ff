-- Tables that hold a sound book, and all 0 past its rows, are that book's tables: what an event function shows of the tables that it leaves.
use mathlib.Core.Path.{◌≡◌, refl, sym, ap, ◌∙◌}
use mathlib.Core.Bool.{true}
use Prim.Native.Nat.{ℕ, zero, suc, ◌+◌, ◌*◌, ◌-◌, ◌/◌, ◌%◌, ◌≤◌, ◌<◌, min}
use native.Mathlib.Omega.{arith}
use mathlib.Core.List.{List, map}
use lib.ListN.{length, drop, length-drop}
use lib.Seq.{get_or-drop}
use lib.IntN.{ℤ, pos}
use borrow.Author.Tests.{le-leb, eq-eqb, eqb-true}
use Rattle.records.specs.Layout.{header_schedule, header_lists, list_width, row_width}
use Rattle.records.specs.Encoding.{nat_of, word, row_from, row_at}
use Rattle.lists.specs.Tests.{all_of}
use Rattle.lists.specs.Lists.{every_from}
use Rattle.lists.proofs.ListLaws.{every-at, every-all}
use Rattle.rules.specs.Rows.{Row}
use Rattle.rules.specs.Book.{Book}
use Rattle.rules.specs.Soundness.{sound}
use Rattle.rules.specs.Tables.{Tables, room_in, rows_used, holidays_in, schedule_from, lists_used, lists_in, book_of, tables_of, whole_records, lengths_fit, used_fits, zero_word, later_rows_zero, unused_lists_zero, sound_tables}
use Rattle.rules.proofs.SoundnessLaws.{sound-facts}
use Rattle.rules.proofs.StorableLaws.{rows-le}
use Rattle.rules.proofs.TableLaws.{tables_of-book_of, sound-part}
use Rattle.posting.specs.Written.{Written}
use Rattle.posting_laws.proofs.HeaderLaws.{schedule-same, used-lists-same, lists-same}

-- ---- two tables with the same row have the same words there

same_word : (t u : List ℤ) (k j : ℕ) → j < row_width → row_at u k ≡ row_at t k → word u (k * row_width + j) ≡ word t (k * row_width + j)
unfolding row_from
same_word t u k zero h e = ap (λ (r : Row). r.kind) e
same_word t u k (suc zero) h e = ap (λ (r : Row). r.account) e
same_word t u k (suc (suc zero)) h e = ap (λ (r : Row). r.day) e
same_word t u k (suc (suc (suc zero))) h e = ap (λ (r : Row). r.amount) e
same_word t u k (suc (suc (suc (suc zero)))) h e = ap (λ (r : Row). r.settled) e
same_word t u k (suc (suc (suc (suc (suc zero))))) h e = ap (λ (r : Row). r.mark) e
same_word t u k (suc (suc (suc (suc (suc (suc zero)))))) h e = ap (λ (r : Row). r.due) e
same_word t u k (suc (suc (suc (suc (suc (suc (suc zero))))))) h e = ap (λ (r : Row). r.dispute) e
same_word t u k (suc (suc (suc (suc (suc (suc (suc (suc zero)))))))) h e = ap (λ (r : Row). r.hold) e
same_word t u k (suc (suc (suc (suc (suc (suc (suc (suc (suc zero))))))))) h e = ap (λ (r : Row). r.reference) e
same_word t u k (suc (suc (suc (suc (suc (suc (suc (suc (suc (suc j)))))))))) h e = absurd (omega arith)

-- every word from a place on is 0, as a test and as a fact
zero-from : (xs : List ℤ) (p : ℕ) → every_from zero_word 1 (drop p xs) ≡ true → (m : ℕ) → p ≤ m → m < length xs → word xs m ≡ 0
unfolding zero_word word
zero-from xs p e m l h =
    let q : p + (m - p) ≡ m = omega arith in
    let z = every-at zero_word 1 (drop p xs) (pos 0) e (m - p) (1 + (m - p)) refl (omega (arith, length-drop p xs)) in
    eqb-true _ _ (rw (get_or-drop p xs (m - p) (pos 0), q) at z)

from_zero : (xs : List ℤ) (p : ℕ) → ((m : ℕ) → p ≤ m → m < length xs → word xs m ≡ 0) → every_from zero_word 1 (drop p xs) ≡ true
unfolding zero_word word
from_zero xs p z =
    every-all zero_word 1 (drop p xs) (pos 0) (λ k n q h.
    rw (get_or-drop p xs k (pos 0)) (eq-eqb _ 0 (z (p + k) (omega arith) (omega (arith, length-drop p xs)))))

-- ---- the book that is written

pub written-book : (t u : Tables) (b : Book) → Written t u b → length b.rows ≤ room_in t → book_of u ≡ b
unfolding book_of
written-book t u b w l =
    let m : min (length b.rows) (room_in t) ≡ length b.rows = omega arith in
    let s : schedule_from u.header header_schedule ≡ b.schedule = schedule-same t.header u.header w.fixed ∙ sym w.schedule in
    let r : lists_in u.header ≡ b.lists = lists-same t.header u.header w.fixed ∙ sym w.lists in
    let d : holidays_in u ≡ b.holidays = ap (map nat_of) w.same-holidays ∙ sym w.holidays in
    rw (d, w.used, w.accounts-size, w.journal-size, m, w.day, s, r, w.accounts, w.rows, ← w.room)

-- ---- the law

module _ (t u : Tables) (b : Book) (st : sound_tables t ≡ true) (sb : sound b ≡ true) (w : Written t u b) where
  rows-room : length b.rows ≤ room_in t
  rows-room = rw (← w.room) (rows-le b.day b (sound-facts b sb).near)

  lengths-fit : lengths_fit u ≡ true
  unfolding lengths_fit whole_records
  lengths-fit = rw (w.header-size, w.accounts-size, w.journal-size) (sound-part t st 0)

  used-fits : used_fits u ≡ true
  unfolding used_fits
  used-fits = rw (w.used, w.journal-size) (le-leb (length b.rows) (room_in t) rows-room)

  rest-zero : later_rows_zero u ≡ true
  unfolding later_rows_zero
  rest-zero =
      rw w.used (from_zero u.journal (length b.rows * row_width) (λ m l h.
      let k : ℕ = m / row_width in
      let e : m ≡ k * row_width + m % row_width = omega arith in
      let g : m < length t.journal = rw w.journal-size at h in
      let o : rows_used t ≤ length b.rows = w.longer in
      let z : word t.journal m ≡ 0 = zero-from t.journal (rows_used t * row_width) (sound-part t st 2) m (omega arith) g in
      rw e (same_word t.journal u.journal k (m % row_width) (omega arith) (w.rest k (omega arith)) ∙ rw (← e) z)))

  -- no list is used that was not, and the words after them stay 0
  lists-zero : unused_lists_zero u ≡ true
  unfolding unused_lists_zero
  lists-zero =
      let n : lists_used u.header ≡ lists_used t.header = used-lists-same t.header u.header w.fixed in
      rw n
      (from_zero u.header (header_lists + lists_used t.header * list_width) (λ m l h.
      w.fixed m (omega arith)
      ∙ zero-from t.header (header_lists + lists_used t.header * list_width) (sound-part t st 3) m l (rw w.header-size at h)))

  pub book-written : book_of u ≡ b
  book-written = written-book t u b w rows-room

  pub sound-written : sound_tables u ≡ true
  unfolding sound_tables all_of
  sound-written = rw (lengths-fit, used-fits, rest-zero, lists-zero, book-written, sb)

  pub tables-written : u ≡ tables_of b
  tables-written = sym (tables_of-book_of u sound-written) ∙ ap tables_of book-written
