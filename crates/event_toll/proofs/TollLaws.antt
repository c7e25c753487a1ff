-- Event 2: which refusals concern it, and the book that it makes.
use mathlib.Core.Path.{◌≡◌, refl, sym, ap, ◌∙◌}
use mathlib.Core.Logic.{◌≢◌}
use mathlib.Core.Bool.{Bool, true, false, not, ◌&&◌, ◌||◌}
use Prim.Native.Nat.{ℕ, ◌+◌, ◌≤◌, ◌<◌}
use native.Mathlib.Omega.{arith}
use mathlib.Core.List.{List, [], ◌∷◌, ◌++◌}
use lib.ListN.{length}
use lib.IntN.{ℤ}
use lib.Dec.{leb, ltb}
use borrow.Author.Tests.{leb-true, ltb-false, eqb-false, not-false}
use Rattle.records.specs.Numbers.{answer_unclassed, answer_misdated, answer_duplicate, answer_full}
use Rattle.records.specs.Codes.{event_toll, event_tick}
use Rattle.records.specs.Layout.{day_place, header_schedule, stage_place}
use Rattle.records.specs.Encoding.{word, accounts_of, StorableRow}
use Rattle.lists.specs.Tests.{◌is◌, ◌from◌to◌, first}
use Rattle.lists.specs.Lists.{sum_by, count, exists}
use Rattle.lists.proofs.TestLaws.{and_left, and_right}
use Rattle.records.specs.Limits.{final_day, highest_rate, highest_passage, most_axles, highest_height, latest_days}
use Rattle.rules.specs.Schedule.{class, rate}
use Rattle.rules.specs.RateLists.{in_force}
use Rattle.rules.specs.Rows.{Row, kind_toll, toll, new_row, with_due, with_reference}
use Rattle.rules.specs.Settlement.{settle}
use Rattle.rules.specs.Book.{Instruction, Book, add_row, with_rows}
use Rattle.rules.specs.Events.{toll_rate, post_toll}
use Rattle.rules.specs.Refusals.{whole_book, change_of, after, zero_from-f, toll_form, form_of, well_formed, unclassed, full, answer_number, shared_refusals, own_refusals}
use Rattle.rules.specs.Posting.{removes_topup}
use Rattle.rules.specs.Tables.{Tables, accounts_in, room_in, rows_used, schedule_from, lists_in, book_of, sound_tables}
use Rattle.rules.proofs.RefusalLaws.{own_tests, answer_number-own, shared-formed}
use Rattle.rules.proofs.RateListLaws.{in_force-rates}
use Rattle.rules.proofs.StorableLaws.{between_le, day-le, stage-le, accounts-le}
use Rattle.rules.proofs.TableLaws.{sound-book}
use Rattle.preservation.proofs.Accepted.{Accepted, accepted}
use Rattle.preservation.proofs.FeeLaws.{class-le, rate-fits}
use Rattle.preservation.proofs.NamedLaws.{after-named}
use Rattle.settlement.specs.Settling.{Settled}
use Rattle.posting.specs.Posts.{tables_over, acceptance_of, RowAdded, Posts}
use Rattle.posting.proofs.BookLaws.{used-read, room-read}
use Rattle.posting_laws.proofs.EventLaws.{known-inside}
use Rattle.records.specs.Updates.{of_kind}
use Rattle.posting_laws.proofs.RefusalLaws.{at-kind, length-after, no-ceiling}
use Rattle.posting_laws.proofs.AddedLaws.{acceptance-plain, posts-accepted, row_written}
use Rattle.event_toll.specs.Toll.{toll_refusals, toll_row}

-- ---- the number that event 2 gets

module _ (b : Book) (e : Instruction) where
  abbrev event2 : Instruction
  event2 = of_kind event_toll e

  change-toll : (change_of event_toll b event2).rows ≡ b.rows ++ (toll_row b event2 ∷ [])
  unfolding change_of post_toll
  change-toll = refl

  own-2 : first (own_refusals b event2) ≡ first (toll_refusals b event2)
  unfolding own_tests full toll_refusals count sum_by
  own-2 =
      let l = length-after b event2 b.rows (toll_row b event2 ∷ []) change-toll refl in
      let z = no-ceiling b event2 b.rows (toll_row b event2 ∷ []) change-toll refl refl in
      rw (l, z)

pub answer-toll : (b : Book) (e : Instruction) → e.kind ≡ event_toll → first (shared_refusals b e) ≡ 0 → answer_number b e ≡ first (toll_refusals b e)
answer-toll b e k a = answer_number-own b e a ∙ at-kind (λ x. first (own_refusals b x) ≡ first (toll_refusals b x)) e 2 k (own-2 b e)

-- the same with what each test came to
pub answer-by : (b : Book) (e : Instruction) → e.kind ≡ event_toll → first (shared_refusals b e) ≡ 0 → (u d s r : Bool) → class e.c e.d is 0 ≡ u
    → ltb b.day e.b || ltb (e.b + latest_days) b.day ≡ d → exists (λ x. toll x && x.reference is e.a) b.rows ≡ s
    → ltb b.room (length b.rows + 1) ≡ r
    → first ((answer_unclassed, u) ∷ (answer_misdated, d) ∷ (answer_duplicate, s) ∷ (answer_full, r) ∷ []) ≡ answer_number b e
unfolding toll_refusals
answer-by b e k a u d s r p q v w = rw (answer-toll b e k a, p, q, v, w)

-- ---- what the words of event 2 may be

module _ (e : Instruction) (f : toll_form e ≡ true) where
  abbrev p1 : Bool
  p1 = e.a from 1 to highest_passage

  abbrev p2 : Bool
  p2 = e.b from 1 to final_day

  abbrev p3 : Bool
  p3 = e.c from 1 to most_axles

  abbrev p4 : Bool
  p4 = leb e.d highest_height

  abbrev p5 : Bool
  p5 = e.e from 1 to 2

  q5 : p1 && p2 && p3 && p4 && p5 ≡ true
  unfolding toll_form
  q5 = and_left (p1 && p2 && p3 && p4 && p5) (zero_from-f e) f

  q4 : p1 && p2 && p3 && p4 ≡ true
  q4 = and_left (p1 && p2 && p3 && p4) p5 q5

  q2 : p1 && p2 ≡ true
  q2 = and_left (p1 && p2) p3 (and_left (p1 && p2 && p3) p4 q4)

  passage-le : e.a ≤ highest_passage
  passage-le = between_le 1 highest_passage e.a (and_left p1 p2 q2)

  pub day-within : e.b ≤ final_day
  day-within = between_le 1 final_day e.b (and_right p1 p2 q2)

  mode : (1 ≤ e.e) × (e.e ≤ 2)
  mode =
      let q : p5 ≡ true = and_right (p1 && p2 && p3 && p4) p5 q5 in
      (leb-true 1 e.e (and_left (leb 1 e.e) (leb e.e 2) q), leb-true e.e 2 (and_right (leb 1 e.e) (leb e.e 2) q))

-- an admitted event 2 has its form
pub toll-formed : (b : Book) (e : Instruction) → e.kind ≡ event_toll → first (shared_refusals b e) ≡ 0 → toll_form e ≡ true
unfolding well_formed form_of
toll-formed b e k a = at-kind (λ x. well_formed x ≡ true → toll_form x ≡ true) e 2 k (λ w. w) (shared-formed b e a)

-- ---- what an accepted event 2 leaves

module _ (t : Tables) (s : sound_tables t ≡ true) (e : Instruction) (k : e.kind ≡ event_toll) (q : 0 ≡ answer_number (book_of t) e) where
  abbrev b : Book
  b = book_of t

  acc : Accepted b e
  acc = accepted b e (sym q)

  names-account : whole_book e ≡ false
  names-account = rw k

  inside : (1 ≤ e.account) × (e.account ≤ length b.accounts)
  inside = known-inside b e names-account acc.known

  changed : change_of e.kind b e ≡ add_row (toll_row b e) b
  unfolding change_of post_toll
  changed = at-kind (λ x. change_of x.kind b x ≡ add_row (toll_row b x) b) e 2 k refl

  grows : length (after b e).rows ≡ length b.rows + 1
  grows = length-after b e b.rows (toll_row b e ∷ []) (ap (λ (x : Book). x.rows) changed) refl

  -- there is a row for it
  pub toll-fits : rows_used t < room_in t
  unfolding full
  toll-fits =
      let l = grows in
      let r = ltb-false b.room (length (after b e).rows) acc.fits in
      omega (arith, room-read t s, used-read t s)

  formed : toll_form e ≡ true
  unfolding well_formed form_of
  formed = at-kind (λ x. not (well_formed x) ≡ false → toll_form x ≡ true) e 2 k (λ w. not-false _ w) acc.formed

  -- it has a class and a mode
  pub rate-applies : (1 ≤ class e.c e.d) × (class e.c e.d ≤ 3) × (1 ≤ e.e) × (e.e ≤ 2)
  unfolding unclassed
  rate-applies =
      let z : class e.c e.d is 0 ≡ false = at-kind (λ x. unclassed b x ≡ false → class x.c x.d is 0 ≡ false) e 2 k (λ w. w) acc.classed in
      let n = eqb-false (class e.c e.d) 0 z in
      let m = mode e formed in
      (omega arith, class-le e.c e.d, m.0, m.1)

  amount-le : toll_rate b.lists e ≤ highest_rate
  unfolding toll_rate
  amount-le =
      between_le 1 highest_rate (toll_rate b.lists e)
      (rate-fits (in_force b.lists e.b).rates (in_force-rates b.lists (sound-book t s).near.lists e.b) e.c e.d e.e
      (mode e formed).1)

  pub toll-storable : StorableRow (toll_row b e)
  toll-storable =
      let d = day-le b.day b (sound-book t s).near in
      let n = accounts-le b.day b (sound-book t s).near in
      record {
        kind = omega arith;
        account = omega (arith, inside.1);
        day = omega arith;
        amount = omega (arith, amount-le);
        settled = omega arith;
        mark = omega arith;
        due = omega (arith, stage-le b.day b (sound-book t s).near);
        dispute = omega arith;
        hold = omega arith;
        reference = omega (arith, passage-le e formed);
      }

  -- the row as it is read from the header
  pub toll-read : (today stage n amount : ℕ) (r : Row) → today ≡ word t.header day_place → stage ≡ word t.header (header_schedule + stage_place) → n ≡ class e.c e.d
      → amount ≡ rate (in_force (lists_in t.header) e.b).rates n e.e → r ≡ new_row kind_toll e.account today amount
      → with_reference e.a (with_due (today + stage) r) ≡ toll_row b e
  unfolding toll_rate book_of schedule_from
  toll-read today stage n amount r d l c a w = rw (w, a, c, d, l)

  pub after-toll : after b e ≡ with_rows (settle e.account (b.rows ++ (toll_row b e ∷ []))) b
  after-toll =
      let not-tick : e.kind ≢ event_tick = λ z. omega arith in
      after-named b e (sound-book t s) not-tick acc inside.0 inside.1 (rw changed) ∙ rw changed

  pub toll-posts : (h j j'' : List ℤ) → RowAdded t.header h t.journal j (toll_row b e) → Settled j j'' (rows_used t + 1) e.account
      → Posts t (tables_over t h t.accounts j'') e (acceptance_of (rows_used t) 1 0 0)
  toll-posts h j j'' w d =
      posts-accepted t (tables_over t h t.accounts j'') s e (acceptance_of (rows_used t) 1 0 0) q
      (rw (used-read t s) (acceptance-plain b e 1 grows names-account keeps-topup))
      (rw after-toll (row_written t s h j j'' t.accounts (toll_row b e) e.account b.accounts w d toll-fits refl same-accounts))
    where
      keeps-topup : removes_topup b e ≡ false
      keeps-topup = unfold removes_topup in (rw k)

      same-accounts : accounts_of t.accounts (accounts_in t) ≡ b.accounts
      same-accounts = unfold book_of in refl
