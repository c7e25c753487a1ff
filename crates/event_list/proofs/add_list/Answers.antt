-- `add_list` meets its contract: the tables hold the book with the list added.
use native.Mathlib.Omega.{arith}
use Rattle.rules.specs.Tables.{list_words, rates_words}
use Rattle.rules.proofs.TableLaws.{header-length}
use Rattle.tables.specs.Changes.{put_all}
use Rattle.posting.proofs.BookLaws.{used-small}
use Rattle.table_lists.proofs.UsedLaws.{used-few}
use Rattle.posting_laws.proofs.AnyHolidays.{posts-any}
use Rattle.event_list.proofs.ListLaws.{list-accepted, in-range, list-fits, words-held, list-posts}
use Rattle.event_list.proofs.add_list.Goals as goal

pub get-used-requires : goal.get-used-requires
get-used-requires c = omega (arith, header-length _ c.requires.0)

pub invariant_of-lists : goal.invariant_of-lists
invariant_of-lists c = record { wide = omega (arith, header-length _ c.requires.0) }

pub overflow_mul-p : goal.overflow_mul-p
overflow_mul-p c = omega (arith, c.lists_used.ensures, used-few c.args.header.now)

pub overflow_add-p : goal.overflow_add-p
overflow_add-p c = omega (arith, c.lists_used.ensures, used-few c.args.header.now)

pub put_words-requires : goal.put_words-requires
put_words-requires c =
    let q = list-accepted _ c.requires.0 _ c.requires.1 c.requires.2 in (
      omega arith,
      (
        rw c.lists_used.ensures (list-fits _ c.requires.0 _ c.requires.1 q),
        words-held c.args.e (in-range _ c.requires.0 _ c.requires.1 q),
      ),
    )

pub posted-requires : goal.posted-requires
posted-requires c =
    let u = c.get-used.ensures in
    omega (arith, used-small _ c.requires.0)

pub returns : goal.returns
unfolding put_all list_words rates_words
returns c =
    let q = list-accepted _ c.requires.0 _ c.requires.1 c.requires.2 in
    rw c.posted.ensures
    (posts-any _ _ c.args.e _ (rw c.requires.1)
    (list-posts _ c.requires.0 _ c.requires.1 q _ (rw (c.put_words.ensures, c.lists_used.ensures))))
