-- One turn of the fourth step: what its stores make of the used rows.
use mathlib.Core.Path.{◌≡◌, refl, sym, ◌∙◌}
use mathlib.Core.Logic.{◌≢◌}
use mathlib.Core.Bool.{true, false}
use Prim.Native.Nat.{ℕ, ◌+◌}
use native.Mathlib.Omega.{arith}
use mathlib.Core.List.{List, [], ◌∷◌, append-nil}
use lib.ListN.{set, length-set}
use lib.IntN.{ℤ}
use borrow.Author.Tests.{lt-ltb}
use Rattle.records.specs.Layout.{used_place, header_schedule, stage_place}
use Rattle.records.specs.Encoding.{word, row_at, StorableRow}
use Rattle.rules.specs.Schedule.{Schedule, stage_fee}
use Rattle.rules.specs.Rows.{Row, kind_fee, new_row, with_mark, with_due, with_reference}
use Rattle.rules.specs.Tick.{rises, raise, fee_row}
use Rattle.rules.specs.Tables.{Tables, schedule_from}
use Rattle.tables.specs.Changes.{RowChanged}
use Rattle.tables.proofs.ChangeLaws.{unchanged}
use Rattle.posting.specs.Posts.{RowRoom, RowAdded}
use Rattle.posting.specs.Written.{UsedRows}
use Rattle.posting_laws.proofs.UsedRowsLaws.{rows-put, rows-add}
use Rattle.tick_raise.specs.Raising.{schedule_of, stage_fee_row, Raisable, RowRaised}

-- x is row i, as it is read
module _ (h j : List ℤ) (i today : ℕ) (c : Raisable h j i today) (x : Row) (q : x ≡ row_at j i) where
  abbrev s : Schedule
  s = schedule_of h

  put : (j' : List ℤ) (y : Row) → RowChanged j j' i y → (t : Tables) (rows : List Row) → UsedRows t h j rows → UsedRows t h j' (set rows i y)
  put j' y w t rows u = rows-put t h j j' rows u i y (omega (arith, c.used, u.used)) w

  -- ---- a row that stays

  pub raised-none : rises today x ≡ false → RowRaised h h j j i today false
  unfolding raise fee_row
  raised-none e =
      let z : rises today (row_at j i) ≡ false = rw q at e in
      record {
        told = rw z;
        header-size = refl;
        journal-size = refl;
        rows = λ t rows u. rw (z, append-nil (set rows i (row_at j i))) (put j (row_at j i) (unchanged row_at j i (row_at j i) refl) t rows u);
      }

  -- ---- a toll that rises: v is the stage length, as it is read

  module _ (e : rises today x ≡ true) (v : ℕ) (g : v ≡ word h (header_schedule + stage_place)) where
    abbrev up : Row
    up = with_due (x.due + v) (with_mark (x.mark + 1) x)

    up-raised : up ≡ raise s today (row_at j i)
    unfolding raise schedule_from
    up-raised = rw (← q, e, g)

    pub up-storable : StorableRow up
    up-storable = rw up-raised c.row

    -- y is that row, as it is written; n is the fee of its stage
    module _ (y : Row) (p : y ≡ up) (j₁ : List ℤ) (w : RowChanged j j₁ i y) (n : ℕ) (f : n ≡ stage_fee s y.mark) where
      rising : rises today (row_at j i) ≡ true
      rising = rw q at e

      written : RowChanged j j₁ i (raise s today (row_at j i))
      written = rw (p, up-raised) at w

      stage-fee : n ≡ stage_fee s ((row_at j i).mark + 1)
      stage-fee = rw (p, q) at f

      pub raised-alone : n ≡ 0 → RowRaised h h j j₁ i today true
      raised-alone z = record {
        told = rw rising;
        header-size = refl;
        journal-size = w.size;
        rows = λ t rows u. rw (none, append-nil (set rows i (raise s today (row_at j i)))) (put j₁ (raise s today (row_at j i)) written t rows u);
      }
        where
          none : fee_row s today (i + 1) (row_at j i) ≡ []
          none = unfold fee_row in rw (rising, ← stage-fee, z)

      module _ (z : n ≢ 0) where
        abbrev fee : Row
        fee = with_reference (i + 1) (new_row kind_fee x.account today n)

        fee-is : fee ≡ stage_fee_row s today i (row_at j i)
        fee-is = rw (stage-fee, q)

        fee-added : fee_row s today (i + 1) (row_at j i) ≡ fee ∷ []
        unfolding fee_row
        fee-added = rw (fee-is, rising, lt-ltb 0 (stage_fee s ((row_at j i).mark + 1)) (omega (arith, stage-fee)))

        pub fee-room : RowRoom h j₁
        fee-room = record { header = c.header; room = omega (arith, w.size, rw fee-added at c.room) }

        pub fee-storable : StorableRow fee
        fee-storable = rw fee-is c.fee

        pub raised-fee : (h' j' : List ℤ) → RowAdded h h' j₁ j' fee → RowRaised h h' j j' i today true
        raised-fee h' j' a = record {
          told = rw rising;
          header-size = rw a.header (length-set h used_place _);
          journal-size = a.row.size ∙ w.size;
          rows = λ t rows u.
              rw fee-added
              (rows-add t h j₁ j' (set rows i (raise s today (row_at j i))) (put j₁ (raise s today (row_at j i)) written t rows u) (sym u.header-size ∙ c.header) h' fee a);
        }
