-- Whether a top-up is due, from what is read of sound tables.
use mathlib.Core.Path.{◌≡◌, refl, sym, ◌∙◌}
use mathlib.Core.Bool.{true, false, ◌&&◌}
use Prim.Native.Nat.{ℕ}
use Rattle.records.specs.Layout.{day_place}
use Rattle.records.specs.Encoding.{word, rows_of, accounts_of}
use Rattle.rules.specs.Settlement.{money}
use Rattle.rules.specs.Book.{Account, account_no, topup_due}
use Rattle.rules.specs.Tables.{Tables, accounts_in, rows_used, book_of, sound_tables}
use Rattle.rules.proofs.TableLaws.{sound-book, sound-rows}
use Rattle.rules.proofs.BalanceLaws.{due-money}
use Rattle.balances.specs.Summed.{may_topup, is_low}
use Rattle.posting.proofs.BookLaws.{account-read, day-read}

module _ (t : Tables) (s : sound_tables t ≡ true) (n : ℕ) (x : Account) (e : x ≡ account_no (accounts_of t.accounts (accounts_in t)) n)
    (today : ℕ) (d : today ≡ word t.header day_place) where
  -- the two tests together: m is the account's unused money
  pub due-both : (m : ℕ) → m ≡ money n (book_of t).rows → may_topup x today && is_low x m ≡ topup_due (book_of t) n
  unfolding may_topup is_low
  due-both m f = sym (due-money (book_of t) (sound-book t s) n ∙ rw (← account-read t s n, ← e, ← day-read t s, ← d, ← f))

  pub not-due : may_topup x today ≡ false → false ≡ topup_due (book_of t) n
  not-due f = (rw f at (due-both (money n (book_of t).rows) refl))

  pub due-by-money : may_topup x today ≡ true → (used m : ℕ) → used ≡ rows_used t → m ≡ money n (rows_of t.journal used)
      → is_low x m ≡ topup_due (book_of t) n
  due-by-money f used m u g = rw f at (due-both m (g ∙ rw (u, ← sound-rows t s)))
