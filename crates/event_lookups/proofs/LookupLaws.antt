-- Where settlement may begin, by what has been looked up, after rows were changed and added.
use mathlib.Core.Path.{◌≡◌}
use mathlib.Core.Logic.{◌⊎◌, inr, ⊎_elim}
use mathlib.Core.Bool.{true, ◌&&◌}
use Prim.Native.Nat.{ℕ, zero, suc, ◌+◌, ◌-◌, ◌≤◌}
use native.Mathlib.Omega.{arith}
use native.Mathlib.Decide.{ℕ_discrete}
use mathlib.Core.List.{List}
use lib.IntN.{ℤ}
use Rattle.records.specs.Codes.{event_toll, event_topup_result}
use Rattle.records.specs.Encoding.{row_at, rows_of}
use Rattle.lists.specs.Tests.{◌is◌}
use Rattle.lists.specs.Lists.{only, exists}
use Rattle.lists.proofs.ListLaws.{tabulate-at}
use Rattle.lists.proofs.SumLaws.{only-le}
use Rattle.rules.specs.Rows.{Row, Test, blank, toll, remaining, source_of, debit_of}
use Rattle.tables.specs.Changes.{RowChanged, RowsMapped}
use Rattle.settlement.specs.Settling.{Begun}
use Rattle.posting.specs.Posts.{RowAdded}
use Rattle.rules.specs.Book.{Instruction, row, topup_due}
use Rattle.rules.specs.Tables.{Tables, rows_used, book_of, sound_tables}
use Rattle.rules.proofs.TableLaws.{sound-rows}
use Rattle.rules.proofs.SettlementLaws.{payable-le}
use Rattle.event_lookups.specs.declared.Lookup.{Lookup}
use Rattle.event_lookups.specs.Lookups.{NothingLeft, LooksUp}

-- ---- the journal j on the way of the event: what was looked up still holds of it

pub record StillLeft (e : Instruction) (k : Lookup) (j : List ℤ) : Type 0 where
  pub sources : NothingLeft (source_of e.account) j k.source
  pub debits : NothingLeft (debit_of e.account) j k.debit

pub still_before : (t : Tables) (e : Instruction) (k : Lookup) → LooksUp t e k → StillLeft e k t.journal
still_before t e k l = record { sources = l.sources; debits = l.debits }

-- a row n that has no more than before
left-put : (p : Test) (j j' : List ℤ) (n i : ℕ) (r : Row) → RowChanged j j' n r → only p remaining r ≤ only p remaining (row_at j n) → NothingLeft p j i → NothingLeft p j' i
left-put p j j' n i r c l z m h =
    elim (ℕ_discrete m n) [
      | yes e ↦ rw (e, c.there) (omega (arith, l, z n (rw e at h)))
      | no d ↦ rw (c.others m d) (z m h)
    ]

left-add : (p : Test) (j j' : List ℤ) (n i : ℕ) (r : Row) → RowChanged j j' n r → i ≤ n → NothingLeft p j i → NothingLeft p j' i
left-add p j j' n i r c l z m h = rw (c.others m (λ e. omega arith)) (z m h)

module _ (e : Instruction) (k : Lookup) (j j' : List ℤ) (n : ℕ) (r : Row) (c : RowChanged j j' n r) (w : StillLeft e k j) where
  -- a row changes in words that settlement does not read
  pub still-put : (old : Row) → old ≡ row_at j n → r.kind ≡ old.kind → r.account ≡ old.account → r.amount ≡ old.amount → r.settled ≡ old.settled → StillLeft e k j'
  unfolding source_of debit_of only
  still-put old o f x a s = record {
    sources = left-put (source_of e.account) j j' n k.source r c (rw (← o, f, x, a, s) (omega arith)) w.sources;
    debits = left-put (debit_of e.account) j j' n k.debit r c (rw (← o, f, x, a, s) (omega arith)) w.debits;
  }

  -- a row is settled whole
  pub still-whole : remaining r ≡ 0 → StillLeft e k j'
  still-whole z = record {
    sources = left-put (source_of e.account) j j' n k.source r c (omega (arith, only-le (source_of e.account) remaining r)) w.sources;
    debits = left-put (debit_of e.account) j j' n k.debit r c (omega (arith, only-le (debit_of e.account) remaining r)) w.debits;
  }

  -- a row is added
  pub still-add : k.source ≤ n → k.debit ≤ n → StillLeft e k j'
  still-add s d = record {
    sources = left-add (source_of e.account) j j' n k.source r c s w.sources;
    debits = left-add (debit_of e.account) j j' n k.debit r c d w.debits;
  }

-- the used rows change, each being as before or settled whole
left-mapped : (p : Test) (f : Row → Row) (j j' : List ℤ) (used i : ℕ) → RowsMapped f j j' used → ((r : Row) → (f r ≡ r) ⊎ (remaining (f r) ≡ 0)) → i ≤ used
    → NothingLeft p j i → NothingLeft p j' i
left-mapped p f j j' used i c l h z m q =
    let r : Row = row_at j m in
    rw (c.done m (omega arith)) (⊎_elim (λ e. rw e (z m q)) (λ n. omega (arith, n, only-le p remaining (f r))) (l r))

pub still-mapped : (e : Instruction) (k : Lookup) (f : Row → Row) (j j' : List ℤ) (used : ℕ) → RowsMapped f j j' used → ((r : Row) → (f r ≡ r) ⊎ (remaining (f r) ≡ 0))
    → k.source ≤ used → k.debit ≤ used → StillLeft e k j → StillLeft e k j'
still-mapped e k f j j' used c l s d w = record {
  sources = left-mapped (source_of e.account) f j j' used k.source c l s w.sources;
  debits = left-mapped (debit_of e.account) f j j' used k.debit c l d w.debits;
}

-- the account is settled among as many rows as before or more
pub begun-still : (t : Tables) (e : Instruction) (k : Lookup) (j : List ℤ) (used : ℕ) → LooksUp t e k → rows_used t ≤ used → StillLeft e k j
    → Begun j used e.account k.source k.debit
begun-still t e k j used l h w = record {
  i-in = omega (arith, l.source_in);
  j-in = omega (arith, l.debit-in);
  way = inr (record { sources = w.sources; debits = λ m q. omega (arith, payable-le (rows_of j used) e.account (row_at j m), w.debits m q) });
}

pub begun-added : (t : Tables) (h j : List ℤ) (e : Instruction) (k : Lookup) (r : Row) → LooksUp t e k → RowAdded t.header h t.journal j r
    → Begun j (rows_used t + 1) e.account k.source k.debit
begun-added t h j e k r l c =
    begun-still t e k j (rows_used t + 1) l (omega arith) (still-add e k t.journal j (rows_used t) r c.row (still_before t e k l) l.source_in l.debit-in)

-- the row of a number, among the words
pub row-at : (t : Tables) → sound_tables t ≡ true → (n : ℕ) → 1 ≤ n → n ≤ rows_used t → row (book_of t) n ≡ row_at t.journal (n - 1)
row-at t s zero h l = absurd (omega arith)
row-at t s (suc m) h l =
    let z : suc m - 1 ≡ m = omega arith in
    rw (z, sound-rows t s) (tabulate-at (row_at t.journal) (rows_used t) m blank (omega arith))

-- from the first row on nothing needs to be known
pub looks-up-all : (t : Tables) (e : Instruction) (k : Lookup) → k.source ≡ 0 → k.debit ≡ 0
    → (e.kind ≡ event_toll → k.duplicate ≡ exists (λ r. toll r && r.reference is e.a) (book_of t).rows)
    → (e.kind ≡ event_topup_result → k.due ≡ topup_due (book_of t) e.account) → LooksUp t e k
looks-up-all t e k f g s u = record {
  duplicate = s;
  due = u;
  source_in = omega (arith, f);
  debit-in = omega (arith, g);
  sources = λ m q. absurd (omega (arith, f));
  debits = λ m q. absurd (omega (arith, g));
}
