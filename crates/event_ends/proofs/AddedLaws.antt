-- Where a row can be added to sound tables and its account settled: from the rows on that were looked up, and of a payment from itself on.
use mathlib.Core.Path.{◌≡◌}
use mathlib.Core.Bool.{true}
use Prim.Native.Nat.{◌+◌, ◌≤◌, ◌<◌}
use native.Mathlib.Omega.{arith}
use mathlib.Core.List.{List}
use lib.ListN.{length}
use lib.IntN.{ℤ}
use Rattle.records.specs.Encoding.{StorableRow}
use Rattle.rules.specs.Rows.{Row, kind_payment}
use Rattle.rules.specs.Book.{Instruction}
use Rattle.rules.specs.Tables.{Tables, room_in, rows_used, book_of, sound_tables}
use Rattle.rules.proofs.TableLaws.{header-length, journal-length}
use Rattle.settlement.specs.Settling.{Begun}
use Rattle.posting.specs.Posts.{RowAdded}
use Rattle.posting.proofs.BookLaws.{used-small}
use Rattle.posting_laws.proofs.AddedLaws.{added-journal}
use Rattle.event_lookups.specs.declared.Lookup.{Lookup}
use Rattle.event_lookups.specs.Lookups.{LooksUp}
use Rattle.event_lookups.proofs.LookupLaws.{begun-added}
use Rattle.event_lookups.proofs.LastSourceLaws.{begun-last}
use Rattle.event_ends.specs.Ends.{AddSettles, sources_from_next}

module _ (t : Tables) (s : sound_tables t ≡ true) (r : Row) (room : rows_used t < room_in t) (o : StorableRow r) where
  settles-by : (k : Lookup) → ((h j : List ℤ) → RowAdded t.header h t.journal j r → Begun j (rows_used t + 1) r.account k.source k.debit) → AddSettles t.header t.journal r k
  settles-by k begun = record {
    few = used-small t s;
    room = record { header = header-length t s; room = omega (arith, room, journal-length t s) };
    storable = o;
    settles = λ h j w. (added-journal t s h j r w room o.amount, begun h j w);
  }

  module _ (e : Instruction) (k : Lookup) (l : LooksUp t e k) (a : r.account ≡ e.account) where
    pub row-settles : AddSettles t.header t.journal r k
    row-settles = settles-by k (λ h j w. rw a (begun-added t h j e k r l w))

    pub payment-settles : r.kind ≡ kind_payment → 1 ≤ e.account → e.account ≤ length (book_of t).accounts
        → AddSettles t.header t.journal r (sources_from_next t.header k)
    payment-settles p from to = settles-by (sources_from_next t.header k) (λ h j w. rw a (begun-last t s h j e k r l w from to p))
