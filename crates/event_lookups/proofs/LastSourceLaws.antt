-- A payment that comes last: where its account owes something that is not held, every source before it is spent, so settlement may begin at
-- the payment itself.
use mathlib.Core.Path.{◌≡◌, refl, fun_ext, ◌∙◌}
use mathlib.Core.Logic.{◌⊎◌, inl, inr}
use mathlib.Core.Bool.{Bool, true, false, not, cond, ◌&&◌}
use Prim.Native.Nat.{ℕ, zero, suc, ◌+◌, ◌≤◌, ◌<◌}
use native.Mathlib.Omega.{arith}
use native.Mathlib.Decide.{ℕ_discrete}
use mathlib.Core.List.{List, [], ◌∷◌, ◌++◌}
use lib.ListN.{length, get_or}
use lib.IntN.{ℤ}
use Rattle.records.specs.Encoding.{row_at, rows_of}
use Rattle.lists.specs.Tests.{◌is◌}
use Rattle.lists.specs.Lists.{only}
use Rattle.lists.proofs.ListLaws.{tabulate-at}
use Rattle.lists.proofs.SumLaws.{sum_by-snoc, sum_by-at-le}
use Rattle.rules.specs.Rows.{Row, kind_payment, blank, row_no, debit, held_toll, held, remaining, source_of, payable}
use Rattle.rules.specs.Settlement.{money, debt, moved}
use Rattle.rules.specs.Book.{Instruction}
use Rattle.rules.specs.Tables.{Tables, rows_used, book_of, sound_tables}
use Rattle.rules.proofs.TableLaws.{sound-book, sound-rows, length-sound-rows}
use Rattle.rules.proofs.SettlementLaws.{payable-le}
use Rattle.preservation.proofs.NamedLaws.{sound-moved}
use Rattle.tables.proofs.ChangeLaws.{changed-append}
use Rattle.settlement.specs.Settling.{Passed, Begun}
use Rattle.posting.specs.Posts.{RowAdded}
use Rattle.event_lookups.specs.declared.Lookup.{Lookup}
use Rattle.event_lookups.specs.Lookups.{LooksUp}
use Rattle.event_lookups.proofs.LookupLaws.{StillLeft, still_before, still-add}

-- ---- what is payable, and owed, is as before

end-held : (rows : List Row) (r : Row) (m : ℕ) → held_toll r ≡ false → held_toll (get_or (rows ++ (r ∷ [])) m blank) ≡ held_toll (get_or rows m blank)
end-held [] r zero h = h
end-held [] r (suc m) h = refl
end-held (x ∷ rows) r zero h = refl
end-held (x ∷ rows) r (suc m) h = end-held rows r m h

named_end : (rows : List Row) (r : Row) (n : ℕ) → held_toll r ≡ false → held_toll (row_no (rows ++ (r ∷ [])) n) ≡ held_toll (row_no rows n)
named_end rows r zero h = refl
named_end rows r (suc m) h = end-held rows r m h

payable-end : (rows : List Row) (r : Row) (a : ℕ) → held_toll r ≡ false → payable (rows ++ (r ∷ [])) a ≡ payable rows a
unfolding payable held
payable-end rows r a h = fun_ext λ x. rw (named_end rows r x.reference h)

-- a payment is no debit
none_end : (rows : List Row) (r : Row) (a : ℕ) → r.kind ≡ kind_payment → only (payable rows a) remaining r ≡ 0
unfolding only payable
none_end rows r a k = go (r.account is a) (debit r) (not (held rows r)) (rw k)
  where
    go : (x d h : Bool) → d ≡ false → cond (x && (d && h)) (remaining r) 0 ≡ 0
    go true d h z = rw z
    go false d h z = refl

debt-end : (rows : List Row) (r : Row) (a : ℕ) → r.kind ≡ kind_payment → debt a (rows ++ (r ∷ [])) ≡ debt a rows
unfolding debt
debt-end rows r a k =
    let free : held_toll r ≡ false = rw k in
    rw (payable-end rows r a free, sum_by-snoc) (omega (arith, none_end rows r a k))

-- ---- settlement begins at the payment

module _ (t : Tables) (s : sound_tables t ≡ true) (h j : List ℤ) (e : Instruction) (k : Lookup) (r : Row) (l : LooksUp t e k) (c : RowAdded t.header h t.journal j r)
    (from : 1 ≤ e.account) (to : e.account ≤ length (book_of t).accounts) (p : r.kind ≡ kind_payment) where
  abbrev rows : List Row
  rows = (book_of t).rows

  abbrev a : ℕ
  a = e.account

  rows_end : rows_of j (rows_used t + 1) ≡ rows ++ (r ∷ [])
  rows_end = changed-append row_at t.journal j (rows_used t) r c.row ∙ rw (← sound-rows t s)

  pub begun-last : Begun j (rows_used t + 1) e.account (rows_used t) k.debit
  unfolding moved money
  begun-last = record { i-in = omega arith; j-in = omega (arith, l.debit-in); way = go (ℕ_discrete (money a rows) 0) }
    where
      still : StillLeft e k j
      still = still-add e k t.journal j (rows_used t) r c.row (still_before t e k l) l.source_in l.debit-in

      -- nothing is unused before it
      no_idle_money : money a rows ≡ 0 → Passed j (rows_used t + 1) a (rows_used t) k.debit
      no_idle_money z = record {
        sources = λ m q.
            let w : row_at j m ≡ row_at t.journal m = c.row.others m (λ d. omega arith) in
            let i : m < length rows = rw (length-sound-rows t s) q in
            let u : get_or rows m blank ≡ row_at t.journal m = rw (sound-rows t s) (tabulate-at (row_at t.journal) (rows_used t) m blank q) in
            rw (w, ← u) (omega (arith, z, sum_by-at-le (only (source_of a) remaining) rows m blank i));
        debits = λ m q. omega (arith, payable-le (rows_of j (rows_used t + 1)) a (row_at j m), still.debits m q);
      }

      -- nothing is owed that is not held
      go : Dec (money a rows ≡ 0) → (moved a (rows_of j (rows_used t + 1)) ≡ 0) ⊎ Passed j (rows_used t + 1) a (rows_used t) k.debit
      go (yes z) = inr (no_idle_money z)
      go (no z) = inl (rw rows_end (omega (arith, sound-moved (book_of t) (sound-book t s) a from to, debt-end rows r a p)))
