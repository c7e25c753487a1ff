-- What an accepted event 6 writes, and the tables and the book after it.
use mathlib.Core.Path.{◌≡◌, refl, sym, ◌∙◌}
use mathlib.Core.Bool.{Bool, true, false, cond}
use Prim.Native.Nat.{ℕ, ◌+◌, ◌-◌, ◌≤◌, ◌<◌}
use native.Mathlib.Omega.{arith}
use mathlib.Core.List.{List, [], ◌∷◌, ◌++◌}
use lib.ListN.{length, set, length-set, length-append}
use lib.IntN.{ℤ}
use borrow.Author.Tests.{ltb-false}
use Rattle.records.specs.Codes.{code_yes, event_decision}
use Rattle.records.specs.Layout.{used_place}
use Rattle.records.specs.Updates.{of_kind}
use Rattle.records.specs.Encoding.{word, rows_of, StorableRow}
use Rattle.lists.specs.Tests.{◌is◌}
use Rattle.rules.specs.Rows.{Row, row_no, remaining, settle_whole, fee_naming}
use Rattle.rules.specs.Settlement.{settle}
use Rattle.rules.specs.Book.{Instruction, Book, with_rows, row}
use Rattle.rules.specs.Events.{release}
use Rattle.rules.specs.Refusals.{after, full, answer_number}
use Rattle.rules.specs.Posting.{removes_topup}
use Rattle.rules.specs.Tables.{Tables, room_in, rows_used, book_of, sound_tables}
use Rattle.rules.proofs.StorableLaws.{day-le, stage-le, accounts-le}
use Rattle.rules.proofs.TableLaws.{sound-book, sound-rows, header-length, journal-length}
use Rattle.preservation.proofs.Accepted.{Accepted, accepted}
use Rattle.preservation.proofs.LookupLaws.{live_of}
use Rattle.preservation.proofs.DisputeKept.{HeldToll, held-is, Decided, decided}
use Rattle.preservation.proofs.NamedLaws.{after-named}
use Rattle.tables.specs.Changes.{RowChanged}
use Rattle.settlement.specs.Settling.{Journal, Begun, Settled}
use Rattle.event_lookups.specs.declared.Lookup.{Lookup}
use Rattle.event_lookups.specs.Lookups.{LooksUp}
use Rattle.event_lookups.proofs.LookupLaws.{still_before, still-whole, still-mapped, still-add, begun-still}
use Rattle.posting.specs.Posts.{tables_over, acceptance_of, Posts}
use Rattle.posting.proofs.BookLaws.{row_read, day-read, used-read, room-read, used-small, row-holds, journal-summable}
use Rattle.posting_laws.proofs.RefusalLaws.{at-kind}
use Rattle.posting_laws.proofs.AddedLaws.{acceptance-plain, posts-accepted}
use Rattle.posting_laws.proofs.EventLaws.{known-inside}
use Rattle.posting.specs.Written.{UsedRows}
use Rattle.posting_laws.proofs.UsedRowsLaws.{used-rows-before, rows-put, rows-map, used-rows-add, rows-settle, rows_written, used-rows-settles, small-before, small_put, small-map, small-add}
use Rattle.posting_laws.proofs.PutRowLaws.{row-used}
use Rattle.event_ends.specs.Ends.{Puts}
use Rattle.event_decision.specs.Decision.{fee_settled, upheld_toll, credit_for, row_named, Upholdable, UpheldRows, Releasable, freed_row}
use Rattle.event_decision.proofs.FeeLaws.{sum-small, same-or-whole}
use Rattle.event_decision.proofs.AnswerLaws.{forgiven_rows, credit_row, free_row, rejected-change, upheld-change, length-forgiven, upheld-length}

-- the row that is read, of the lent rows, is the one that the event names
pub row_named_lem : (h j i : List ℤ) (e : Instruction) (used : ℕ) (r : Row) → i ≡ j → used ≡ word h used_place → r ≡ row_no (rows_of i used) e.a → r ≡ row_named h j e
row_named_lem h j i e used r d u f = rw (d, u) at f

module _ (t : Tables) (s : sound_tables t ≡ true) (e : Instruction) (k : e.kind ≡ event_decision) (q : 0 ≡ answer_number (book_of t) e) where
  abbrev b : Book
  b = book_of t

  acc : Accepted b e
  acc = accepted b e (sym q)

  -- ---- the toll that it names

  its-toll : Decided b e
  its-toll = at-kind (λ x. Accepted b x → Decided b x) e event_decision k (decided b (of_kind event_decision e)) acc

  has-kind : 0 < (row b e.a).kind
  has-kind = omega (arith, its-toll.toll)

  held-facts : HeldToll b.day b.schedule.stage (row b e.a)
  held-facts = held-is b.day b.schedule.stage (row b e.a) its-toll.toll its-toll.held (live_of b.day b (sound-book t s).near e.a has-kind).hold

  toll-row : (1 ≤ e.a) × (e.a ≤ rows_used t)
  toll-row = row-used t s e.a has-kind

  inside : (1 ≤ e.account) × (e.account ≤ length b.accounts)
  inside = known-inside b e (rw k) acc.known

  -- ---- verdict 0

  free-storable : StorableRow (free_row b e)
  unfolding release
  free-storable =
      let h = row-holds t s e.a in
      let near = (sound-book t s).near in
      let by = held-facts.due-by in
      let begun = held-facts.begun in
      record {
        kind = h.kind;
        account = h.account;
        day = h.day;
        amount = h.amount;
        settled = h.settled;
        mark = h.mark;
        due = omega (arith, day-le b.day b near, stage-le b.day b near);
        dispute = omega arith;
        hold = omega arith;
        reference = h.reference;
      }

  pub releasable : Releasable t.header t.journal e
  releasable = record {
    header = header-length t s;
    amounts = journal-summable t s;
    from = toll-row.0;
    used = toll-row.1;
    begun = rw (row_read t s e.a, day-read t s) held-facts.begun;
    toll = rw (row_read t s e.a, day-read t s) free-storable;
  }

  -- settlement does not read the words that change
  pub rejected-puts : e.b is code_yes ≡ false → Puts t e (freed_row t.header t.journal e)
  unfolding release
  rejected-puts v = rw (row_read t s e.a, day-read t s) (record {
    accepted = q;
    stands = has-kind;
    change = rejected-change b e k v;
    names-account = rw k;
    keeps-topup = rw k;
    storable = free-storable;
    kind = refl;
    account = refl;
    amount = refl;
    settled = refl;
  })

  -- ---- verdict 1

  upheld-storable : StorableRow (upheld_toll (row b e.a))
  upheld-storable =
      let h = row-holds t s e.a in
      record {
        kind = h.kind;
        account = h.account;
        day = h.day;
        amount = h.amount;
        settled = h.amount;
        mark = h.mark;
        due = h.due;
        dispute = omega arith;
        hold = omega arith;
        reference = h.reference;
      }

  credit-storable : StorableRow (credit_row b e)
  unfolding credit_for
  credit-storable =
      let near = (sound-book t s).near in
      let m = journal-summable t s in
      record {
        kind = omega arith;
        account = omega (arith, inside.1, accounts-le b.day b near);
        day = omega (arith, day-le b.day b near);
        amount = rw (sound-rows t s) (sum-small t.journal (rows_used t) (λ r. r.amount) e.a (λ r. omega arith) m);
        settled = rw (sound-rows t s) (sum-small t.journal (rows_used t) remaining e.a (λ r. omega arith) m);
        mark = omega arith;
        due = omega arith;
        dispute = omega arith;
        hold = omega arith;
        reference = omega (arith, toll-row.1, used-small t s);
      }

  module _ (v : e.b is code_yes ≡ true) where
    credit-fits : rows_used t < room_in t
    unfolding full
    credit-fits = omega (arith, ltb-false b.room (length (after b e).rows) acc.fits, upheld-length b e k v, room-read t s, used-read t s)

    pub upholdable : Upholdable t.header t.journal e
    upholdable = record {
      room = record { header = header-length t s; room = omega (arith, credit-fits, journal-length t s) };
      amounts = journal-summable t s;
      from = toll-row.0;
      used = toll-row.1;
      toll = rw (row_read t s e.a) upheld-storable;
      credit = rw (← sound-rows t s, day-read t s) credit-storable;
    }

    abbrev rows : List Row
    rows = forgiven_rows b e ++ (credit_row b e ∷ [])

    length-rows : length rows ≡ rows_used t + 1
    length-rows = length-append (forgiven_rows b e) (credit_row b e ∷ []) ∙ rw (length-forgiven b e k, ← used-read t s)

    module _ (h j : List ℤ) (w : UpheldRows t.header h t.journal j e) where
      within : e.a - 1 < length b.rows
      within = omega (arith, toll-row, used-read t s)

      -- the toll and its fees are settled whole, and the credit comes last
      pub upheld-begins : (x : Lookup) → LooksUp t e x → Begun j (rows_used t + 1) e.account x.source x.debit
      upheld-begins x l =
          let toll = still-whole e x t.journal w.with-toll (e.a - 1) _ w.toll (still_before t e x l) (omega arith) in
          let fees = still-mapped e x (fee_settled e.a) w.with-toll w.with-fees (rows_used t) w.fees (λ r. same-or-whole (fee_naming e.a r) r) l.source_in l.debit-in toll in
          begun-still t e x j (rows_used t + 1) l (omega arith) (still-add e x w.with-fees j (rows_used t) _ w.credit.row fees l.source_in l.debit-in)

      upheld-used : UsedRows t h j rows
      upheld-used =
          let put : RowChanged t.journal w.with-toll (e.a - 1) (upheld_toll (row b e.a)) = rw (row_read t s e.a) at w.toll in
          let n : length (set b.rows (e.a - 1) (upheld_toll (row b e.a))) ≡ rows_used t = length-set b.rows (e.a - 1) (upheld_toll (row b e.a)) ∙ sym (used-read t s) in
          let one = rows-put t t.header t.journal w.with-toll b.rows (used-rows-before t s) (e.a - 1) (upheld_toll (row b e.a)) within put in
          let two = rows-map t t.header w.with-toll w.with-fees _ one (fee_settled e.a) (rw n w.fees) in
          used-rows-add t s t.header w.with-fees j (forgiven_rows b e) two h (credit_row b e) (rw (← sound-rows t s, day-read t s) at w.credit)

      pub upheld-settles : Journal j (rows_used t + 1)
      upheld-settles =
          rw length-rows at (used-rows-settles t s h j rows upheld-used (rw length-rows (omega (arith, credit-fits)))
          (small-add (forgiven_rows b e) (credit_row b e) credit-storable.amount
          (small-map (fee_settled e.a) (set b.rows (e.a - 1) (upheld_toll (row b e.a))) same-amount
          (small_put b.rows (e.a - 1) (upheld_toll (row b e.a)) within upheld-storable.amount (small-before t s)))))
        where
          same-amount : (r : Row) → (fee_settled e.a r).amount ≡ r.amount
          same-amount r = go (fee_naming e.a r)
            where
              go : (x : Bool) → (cond x (settle_whole r) r).amount ≡ r.amount
              go true = refl
              go false = refl

      after-upheld : after b e ≡ with_rows (settle e.account rows) b
      after-upheld =
          after-named b e (sound-book t s) (λ z. omega arith) acc inside.0 inside.1 (rw (upheld-change b e k v)) ∙ rw (upheld-change b e k v)

      pub upheld-posts : (j'' : List ℤ) → Settled j j'' (rows_used t + 1) e.account → Posts t (tables_over t h t.accounts j'') e (acceptance_of (rows_used t) 1 0 0)
      unfolding removes_topup
      upheld-posts j'' d =
          posts-accepted t (tables_over t h t.accounts j'') s e (acceptance_of (rows_used t) 1 0 0) q
          (rw (used-read t s) (acceptance-plain b e 1 (upheld-length b e k v) (rw k) (rw k)))
          (rw after-upheld
          (rows_written t h j'' (settle e.account rows) (rows-settle t h j j'' rows upheld-used e.account (rw length-rows d))
          t.accounts b.accounts refl (unfold book_of in refl)))
