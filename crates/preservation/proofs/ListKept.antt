-- Sound stays sound: a rate list (event 10).
use mathlib.Core.Path.{◌≡◌}
use mathlib.Core.Bool.{Bool, true}
use mathlib.Core.List.{[], ◌∷◌, ◌++◌}
use lib.ListN.{length}
use lib.Dec.{leb}
use borrow.Author.Tests.{leb-false, not-false}
use Rattle.records.specs.Updates.{of_kind}
use Rattle.records.specs.Codes.{event_rate_list}
use Rattle.records.specs.Limits.{most_lists}
use Rattle.lists.specs.Tests.{◌is◌}
use Rattle.lists.proofs.TestLaws.{and_right, or_left, or_right}
use Rattle.rules.specs.RateLists.{list_of, last_first_day, list_in_range, lists_fit}
use Rattle.rules.specs.Book.{Instruction, Book}
use Rattle.rules.specs.Events.{add_list}
use Rattle.rules.specs.Refusals.{change_of, well_formed, form_of, list_form, list_refused}
use Rattle.rules.specs.SoundFacts.{Near}
use Rattle.rules.proofs.RateListLaws.{lists-more}
use Rattle.preservation.proofs.Accepted.{Accepted}

module _ (b : Book) (i : Instruction) (s : Near b.day b) (q : Accepted b (of_kind event_rate_list i)) where
  in-range : list_in_range (list_of i) ≡ true
  unfolding well_formed form_of list_form
  in-range = and_right (i.account is 0) (list_in_range (list_of i)) (not-false _ q.formed)

  abbrev early : Bool
  early = leb i.a (last_first_day b.lists)

  abbrev many : Bool
  many = leb most_lists (length b.lists)

  lists-fit : lists_fit (b.lists ++ (list_of i ∷ [])) ≡ true
  unfolding list_refused
  lists-fit =
      lists-more b.lists (list_of i) s.lists (leb-false most_lists (length b.lists) (or_right early many q.last)) in-range
      (leb-false i.a (last_first_day b.lists) (or_left early many q.last))

  pub add_list-near : Near b.day (change_of event_rate_list b (of_kind event_rate_list i))
  unfolding change_of add_list
  add_list-near = record {
    day = s.day;
    schedule = s.schedule;
    lists = lists-fit;
    holidays = s.holidays;
    sizes = s.sizes;
    fits = s.fits;
    shape = s.shape;
    live = s.live;
    standing = s.standing;
    successors = s.successors;
    counted = s.counted;
  }
