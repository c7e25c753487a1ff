-- What the lengths of the lent tables tell, once they are found fit.
use mathlib.Core.Path.{◌≡◌}
use mathlib.Core.Bool.{Bool, true, ◌&&◌}
use Prim.Native.Nat.{◌*◌, ◌/◌, ◌%◌, ◌≤◌}
use native.Mathlib.Omega.{arith}
use mathlib.Core.List.{List}
use lib.IntN.{ℤ}
use lib.ListN.{length}
use borrow.Author.Tests.{eqb-true}
use Rattle.lists.specs.Tests.{◌is◌, ◌from◌to◌}
use Rattle.lists.proofs.TestLaws.{and_left, and_right}
use Rattle.records.specs.Layout.{header_width, account_width, row_width}
use Rattle.records.specs.Limits.{most_accounts, most_rows}
use Rattle.rules.specs.Opening.{sizes_fit}
use Rattle.rules.specs.Tables.{whole_records, lengths_fit}
use Rattle.rules.proofs.StorableLaws.{between_le}
use Rattle.sound_header.specs.Clauses.{three_tables}

pub record Lengths (header accounts journal : List ℤ) : Type 0 where
  pub words : length header ≡ header_width
  pub whole_accounts : length accounts / account_width * account_width ≡ length accounts
  pub whole_rows : length journal / row_width * row_width ≡ length journal
  pub slots : length accounts / account_width ≤ most_accounts
  pub room : length journal / row_width ≤ most_rows

module _ (h a j : List ℤ) (e : lengths_fit (three_tables h a j) ≡ true) where
  abbrev header-part : Bool
  header-part = length h is header_width

  abbrev accounts-part : Bool
  accounts-part = length a % account_width is 0

  abbrev journal-part : Bool
  journal-part = length j % row_width is 0

  abbrev slots-part : Bool
  slots-part = length a / account_width from 1 to most_accounts

  abbrev room-part : Bool
  room-part = length j / row_width from 1 to most_rows

  pub lengths-known : Lengths h a j
  unfolding lengths_fit whole_records sizes_fit
  lengths-known =
      let w : header-part && accounts-part && journal-part ≡ true = and_left (header-part && accounts-part && journal-part) (slots-part && room-part) e in
      let s : slots-part && room-part ≡ true = and_right (header-part && accounts-part && journal-part) (slots-part && room-part) e in
      let x : length a % account_width ≡ 0 = eqb-true _ _ (and_right header-part accounts-part (and_left (header-part && accounts-part) journal-part w)) in
      let y : length j % row_width ≡ 0 = eqb-true _ _ (and_right (header-part && accounts-part) journal-part w) in
      record {
        words = eqb-true _ _ (and_left header-part accounts-part (and_left (header-part && accounts-part) journal-part w));
        whole_accounts = omega arith;
        whole_rows = omega arith;
        slots = between_le 1 most_accounts (length a / account_width) (and_left slots-part room-part s);
        room = between_le 1 most_rows (length j / row_width) (and_right slots-part room-part s);
      }
