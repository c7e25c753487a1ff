-- Sound stays sound: a toll (event 2).
use mathlib.Core.Path.{◌≡◌, refl, ◌∙◌}
use mathlib.Core.Bool.{Bool, true, cond, ◌&&◌, and-false}
use Prim.Native.Nat.{ℕ, suc, ◌+◌, ◌≤◌}
use native.Mathlib.Omega.{arith}
use mathlib.Core.List.{[], ◌∷◌}
use lib.ListN.{length, length-append}
use lib.Dec.{eqb, leb}
use borrow.Author.Tests.{leb-true, le-leb, lt-ltb, ltb-false, eqb-true, eq-eqb, not-false}
use Rattle.records.specs.Updates.{of_kind}
use Rattle.records.specs.Codes.{event_toll}
use Rattle.lists.specs.Tests.{◌from◌to◌}
use Rattle.lists.specs.Lists.{count, exists}
use Rattle.lists.proofs.TestLaws.{and_left, and_right, and_both}
use Rattle.lists.proofs.SumLaws.{sum_by-snoc}
use Rattle.records.specs.Limits.{final_day, highest_rate, highest_passage, most_axles, highest_height}
use Rattle.rules.specs.Rows.{Row, kind_toll, new_row, with_due, with_reference, fee_naming}
use Rattle.rules.specs.Book.{Instruction, Book, account}
use Rattle.rules.specs.Events.{toll_rate, post_toll}
use Rattle.rules.specs.Soundness.{kind_fits, most_of, amount_fits, settled_fits, mark_fits, toll_words_fit, no_reference, row_day_fits, due_within, hold_fits, account_used, reference_fits, passage, passage_once, fees_fit, returned_of}
use Rattle.rules.specs.RateLists.{in_force}
use Rattle.rules.specs.Refusals.{change_of, well_formed, form_of, zero_from-f, toll_form, unknown, on_closed, duplicate}
use Rattle.rules.specs.SoundFacts.{Shape, Live, Near}
use Rattle.rules.proofs.RateListLaws.{in_force-rates}
use Rattle.rules.proofs.StorableLaws.{schedule-storable}
use Rattle.preservation.proofs.Accepted.{Accepted}
use Rattle.preservation.proofs.KeepingLaws.{grown, Distinct, Quiet, count_add, near-add-quiet}
use Rattle.preservation.proofs.LookupLaws.{today-fits, used-state, after-fits}
use Rattle.preservation.proofs.FeeLaws.{fees-none, rate-fits}

module _ (b : Book) (i : Instruction) where
  abbrev event2 : Instruction
  event2 = of_kind event_toll i

  abbrev it : Row
  it = with_reference i.a (with_due (b.day + b.schedule.stage) (new_row kind_toll i.account b.day (toll_rate b.lists event2)))

  module _ (s : Near b.day b) (q : Accepted b event2) where
    abbrev p1 : Bool
    p1 = i.a from 1 to highest_passage

    abbrev p2 : Bool
    p2 = i.b from 1 to final_day

    abbrev p3 : Bool
    p3 = i.c from 1 to most_axles

    abbrev p4 : Bool
    p4 = leb i.d highest_height

    form : p1 && p2 && p3 && p4 && i.e from 1 to 2 ≡ true
    unfolding well_formed form_of toll_form
    form = and_left (p1 && p2 && p3 && p4 && i.e from 1 to 2) (zero_from-f event2) (not-false _ q.formed)

    passage-in : i.a from 1 to highest_passage ≡ true
    passage-in = and_left p1 p2 (and_left (p1 && p2) p3 (and_left (p1 && p2 && p3) p4 (and_left (p1 && p2 && p3 && p4) (i.e from 1 to 2) form)))

    amount-in : toll_rate b.lists event2 from 1 to highest_rate ≡ true
    unfolding toll_rate
    amount-in =
        rate-fits (in_force b.lists i.b).rates (in_force-rates b.lists s.lists i.b) i.c i.d i.e
        (leb-true i.e 2 (and_right (leb 1 i.e) (leb i.e 2) (and_right (p1 && p2 && p3 && p4) (i.e from 1 to 2) form)))

    amount-least : 1 ≤ toll_rate b.lists event2
    amount-least = leb-true 1 (toll_rate b.lists event2) (and_left (leb 1 (toll_rate b.lists event2)) _ amount-in)

    -- "passage number in the journal": there is none
    fresh : count (passage i.a) b.rows ≡ 0
    unfolding duplicate exists passage
    fresh = omega (arith, ltb-false 0 (count (λ r. eqb r.kind 1 && eqb r.reference i.a) b.rows) q.new)

    distinct : Distinct b.rows it
    unfolding passage fee_naming
    distinct = record { passage = λ p e. rw (eqb-true i.a p e) at fresh; fee = λ k h t. refl }

    quiet : Quiet b.accounts it
    unfolding returned_of on_closed
    quiet = record { returned = λ p. rw (and-false (eqb i.account p)); settled = refl; state = q.unclosed }

    once : count (passage i.a) (grown b.rows it) ≡ 1
    unfolding count passage
    once = sum_by-snoc (λ r. cond (passage i.a r) 1 0) b.rows it ∙ rw (eq-eqb i.a i.a refl) (omega (arith, fresh))

    unnamed : count (fee_naming (suc (length b.rows))) (grown b.rows it) ≡ 0
    unfolding fee_naming
    unnamed = count_add (fee_naming (suc (length b.rows))) b.rows it refl ∙ fees-none b.day b s (suc (length b.rows)) (omega arith)

    shape : Shape b.day b.accounts (grown b.rows it) (suc (length b.rows)) it
    unfolding kind_fits amount_fits most_of mark_fits toll_words_fit no_reference row_day_fits account_used reference_fits passage_once fees_fit unknown
    shape = record {
      kind = refl;
      amount = amount-in;
      mark = refl;
      words = passage-in;
      none = refl;
      day = today-fits b.day b s;
      account = rw (used-state i.account (length b.accounts) (eqb (account b i.account).state 0) q.known);
      reference = refl;
      passage = eq-eqb (count (passage i.a) (grown b.rows it)) 1 once;
      fees = le-leb (count (fee_naming (suc (length b.rows))) (grown b.rows it)) 0 (omega (arith, unnamed));
    }

    live : Live b.day b.day b.schedule.stage it
    unfolding settled_fits due_within hold_fits
    live =
        let L : ℕ = b.schedule.stage in
        let l : 1 ≤ L = (schedule-storable b.schedule s.schedule).least in
        record {
          settled = and_both (leb 0 (toll_rate b.lists event2)) _ (le-leb 0 (toll_rate b.lists event2) (omega arith)) refl;
          due = rw (le-leb (b.day + L) (b.day + L) (omega arith), lt-ltb 0 (toll_rate b.lists event2) amount-least) (lt-ltb b.day (b.day + L) (omega arith));
          hold = refl;
        }

    pub post_toll-near : Near b.day (change_of event_toll b event2)
    unfolding change_of post_toll
    post_toll-near =
        near-add-quiet b.day b it s (omega (arith, after-fits b event2 q.fits, length-append b.rows (it ∷ []))) distinct quiet shape live
