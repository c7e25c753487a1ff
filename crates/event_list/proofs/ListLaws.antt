-- Event 10: it is accepted where no shared refusal applies, and changes exactly the seven words of the first unused list.
use mathlib.Core.Path.{◌≡◌, refl, sym, ap, ◌∙◌}
use mathlib.Core.Bool.{true, false, not}
use Prim.Native.Nat.{ℕ, ◌+◌, ◌*◌, ◌-◌, ◌≤◌, ◌<◌}
use native.Mathlib.Omega.{arith}
use mathlib.Core.List.{List, [], ◌∷◌, ◌++◌}
use lib.ListN.{length}
use lib.Seq.{sets}
use lib.IntN.{ℤ}
use lib.Dec.{leb}
use borrow.Author.Tests.{not-false, leb-false}
use Rattle.records.specs.Codes.{event_rate_list, event_tick}
use Rattle.records.specs.Layout.{header_lists, list_width}
use Rattle.records.specs.Limits.{most_lists}
use Rattle.records.specs.Encoding.{Storable}
use Rattle.records.proofs.FieldLaws.{storable-none, storable-more}
use Rattle.lists.specs.Tests.{◌is◌}
use Rattle.lists.proofs.TestLaws.{and_right, or_right}
use Rattle.lists.proofs.ListLaws.{length-tabulate}
use Rattle.rules.specs.RateLists.{list_of, last_first_day, list_in_range}
use Rattle.rules.specs.Book.{Instruction, Book, with_lists}
use Rattle.rules.specs.Events.{add_list}
use Rattle.rules.specs.Refusals.{change_of, after, list_form, form_of, well_formed, list_refused, answer_number}
use Rattle.rules.specs.Posting.{removes_topup}
use Rattle.rules.specs.Tables.{Tables, tables_at, rows_used, later_list_at, lists_used, lists_in, book_of, list_words, header_words, tables_of, sound_tables}
use Rattle.rules.proofs.RefusalLaws.{own_tests}
use Rattle.rules.proofs.StorableLaws.{list-storable}
use Rattle.rules.proofs.TableLaws.{sound-book, header-length, tables_of-book_of, header-more}
use Rattle.preservation.proofs.Accepted.{Accepted, accepted}
use Rattle.preservation.proofs.NamedLaws.{settled-unmoved}
use Rattle.tables.specs.Changes.{put_all}
use Rattle.tables.proofs.ChangeLaws.{put_all-sets}
use Rattle.posting.specs.Posts.{tables_over, acceptance_of, Posts}
use Rattle.posting_laws.proofs.RefusalLaws.{at-kind}
use Rattle.posting_laws.proofs.AccountEventLaws.{answer-rowless, acceptance-rowless}
use Rattle.posting_laws.proofs.AddedLaws.{posts-after}
use Rattle.event_refusals.specs.Admissions.{Admitted}

-- ---- its words: each is one that a signed word holds

pub words-held : (e : Instruction) → list_in_range (list_of e) ≡ true → Storable (e.a ∷ e.b ∷ e.c ∷ e.d ∷ e.e ∷ e.f ∷ e.g ∷ [])
words-held e r =
    let l = list-storable (list_of e) r in
    let s = l.rates in
    storable-more (omega (arith, l.day)) (storable-more (omega (arith, s.tag1)) (storable-more (omega (arith, s.plate1))
    (storable-more (omega (arith, s.tag2)) (storable-more (omega (arith, s.plate2)) (storable-more (omega (arith, s.tag3))
    (storable-more (omega (arith, s.plate3)) storable-none))))))

-- ---- accepted

-- on sound tables, event 10 is accepted where no shared refusal applies
pub list-accepted : (t : Tables) → sound_tables t ≡ true → (e : Instruction) → e.kind ≡ event_rate_list → Admitted t e → 0 ≡ answer_number (book_of t) e
unfolding change_of add_list own_tests
list-accepted t s e k a = answer-rowless t s e event_rate_list k a (λ b x. []) refl (λ f c. rw (f, c))

-- ---- what an accepted event 10 leaves

module _ (t : Tables) (s : sound_tables t ≡ true) (e : Instruction) (k : e.kind ≡ event_rate_list) (q : 0 ≡ answer_number (book_of t) e) where
  abbrev b : Book
  b = book_of t

  acc : Accepted b e
  acc = accepted b e (sym q)

  pub in-range : list_in_range (list_of e) ≡ true
  unfolding well_formed form_of list_form
  in-range = and_right (e.account is 0) (list_in_range (list_of e)) (at-kind (λ x. not (well_formed x) ≡ false → list_form x ≡ true) e event_rate_list k (λ w. not-false _ w) acc.formed)

  few : length b.lists < most_lists
  unfolding list_refused
  few = leb-false most_lists (length b.lists) (or_right (leb e.a (last_first_day b.lists)) (leb most_lists (length b.lists)) (rw k at acc.last))

  used : length b.lists - 1 ≡ lists_used t.header
  unfolding book_of lists_in
  used = omega (arith, length-tabulate (later_list_at t.header) (lists_used t.header))

  pub list-fits : header_lists + lists_used t.header * list_width + list_width ≤ length t.header
  list-fits = omega (arith, header-length t s, used, few)

  changed : change_of e.kind b e ≡ with_lists (b.lists ++ (list_of e ∷ [])) b
  unfolding change_of add_list
  changed = at-kind (λ x. change_of x.kind b x ≡ with_lists (b.lists ++ (list_of x ∷ [])) b) e event_rate_list k refl

  after_list : after b e ≡ with_lists (b.lists ++ (list_of e ∷ [])) b
  unfolding after
  after_list = rw changed (settled-unmoved b (with_lists (b.lists ++ (list_of e ∷ [])) b) (sound-book t s) refl refl)

  -- event 10 changes exactly seven words of the header
  pub list-posts : (h : List ℤ) → h ≡ put_all t.header (header_lists + lists_used t.header * list_width) 0 (list_words (list_of e))
      → Posts t (tables_over t h t.accounts t.journal) e (acceptance_of (rows_used t) 0 0 0)
  list-posts h w =
      posts-after t (tables_over t h t.accounts t.journal) e (acceptance_of (rows_used t) 0 0 0) q
      (rw keeps-topup at (acceptance-rowless b e (rw changed) no-tick))
      (rw after_list tables_more)
    where
      no-tick : e.kind is event_tick ≡ false
      no-tick = rw k

      keeps-topup : removes_topup b e ≡ false
      keeps-topup = unfold removes_topup in (rw k)

      again : tables_of b ≡ t
      again = tables_of-book_of t s

      o : header_words b ≡ t.header
      o = unfold tables_of in (ap (λ (u : Tables). u.header) again)

      header-now : h ≡ header_words (with_lists (b.lists ++ (list_of e ∷ [])) b)
      header-now =
          let z : header_lists + lists_used t.header * list_width + 0 ≡ header_lists + (length b.lists - 1) * list_width = omega (arith, used) in
          w
          ∙ put_all-sets (list_words (list_of e)) t.header (header_lists + lists_used t.header * list_width) 0
          ∙ ap (λ (k : ℕ). sets t.header k (list_words (list_of e))) z
          ∙ ap (λ (x : List ℤ). sets x (header_lists + (length b.lists - 1) * list_width) (list_words (list_of e))) (sym o)
          ∙ header-more b (sound-book t s).near (list_of e) few

      tables_more : tables_over t h t.accounts t.journal ≡ tables_of (with_lists (b.lists ++ (list_of e ∷ [])) b)
      tables_more = unfold tables_of in
          (rw (header-now) (ap (λ (u : Tables). tables_at (header_words (with_lists (b.lists ++ (list_of e ∷ [])) b)) u.accounts u.journal u.holidays) (sym again)))
