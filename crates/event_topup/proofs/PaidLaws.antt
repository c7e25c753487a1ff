-- Event 7, paid: the book that it makes.
use mathlib.Core.Path.{◌≡◌, refl, sym, ap, ◌∙◌}
use mathlib.Core.Bool.{Bool, true, false, cond}
use Prim.Native.Nat.{ℕ, ◌+◌, ◌-◌, ◌^◌, ◌≤◌, ◌<◌}
use native.Mathlib.Omega.{arith}
use mathlib.Core.List.{List, [], ◌∷◌, ◌++◌}
use lib.ListN.{length, set, length-set}
use lib.IntN.{ℤ}
use borrow.Author.Tests.{ltb-false}
use Rattle.records.specs.Layout.{topup_place, declines_place, declined_place, reserve_place}
use Rattle.records.specs.Encoding.{accounts_of, StorableRow, StorableAccount}
use Rattle.records.proofs.FieldLaws.{storable-set}
use Rattle.records.specs.AccountOperations.{last_decline, topup_paid}
use Rattle.rules.specs.Settlement.{settle}
use Rattle.rules.specs.Book.{Account, Instruction, Book, account, put_account, add_row, with_rows}
use Rattle.rules.specs.Events.{pay_topup, topup_result}
use Rattle.rules.specs.Refusals.{whole_book, change_of, after, full}
use Rattle.rules.specs.Posting.{removes_topup}
use Rattle.rules.specs.Tables.{Tables, accounts_in, room_in, rows_used, book_of}
use Rattle.rules.proofs.StorableLaws.{day-le, accounts-le}
use Rattle.rules.proofs.TableLaws.{sound-book}
use Rattle.preservation.proofs.Accepted.{accepted}
use Rattle.preservation.proofs.NamedLaws.{after-named}
use Rattle.tables.specs.Changes.{AccountIn, AccountChanged}
use Rattle.tables.proofs.ChangeLaws.{changed-accounts}
use Rattle.settlement.specs.Settling.{Settled}
use Rattle.posting.specs.Posts.{tables_over, acceptance_of, RowAdded, Posts}
use Rattle.posting.proofs.BookLaws.{used-read, room-read, count-read, account-holds}
use Rattle.posting_laws.proofs.RefusalLaws.{length-after}
use Rattle.posting_laws.proofs.AddedLaws.{acceptance-plain, posts-accepted, row_written}
use Rattle.posting_laws.proofs.AccountEventLaws.{named-inside, named_in}
use Rattle.event_topup.specs.TopupResult.{PaidResult}
use Rattle.event_topup.proofs.ResultLaws.{topup_row}

module _ (t : Tables) (e : Instruction) (p : PaidResult t e) where
  abbrev b : Book
  b = book_of t

  abbrev n : ℕ
  n = e.account

  abbrev paid_account : Account
  paid_account = topup_paid (account b n)

  names-account : whole_book e ≡ false
  names-account = rw p.kind

  -- the account that it names is one of the table's
  pub paid-inside : (1 ≤ n) × (n ≤ accounts_in t)
  paid-inside = named-inside t p.sound e names-account p.accepted

  pub paid-in : AccountIn t.accounts (n - 1)
  paid-in = named_in t p.sound e names-account p.accepted

  changed : change_of e.kind b e ≡ add_row (topup_row b e) (put_account n paid_account b)
  unfolding change_of topup_result pay_topup
  changed = rw (p.kind, p.paid)

  length-paid : length (after b e).rows ≡ length b.rows + 1
  length-paid = length-after b e b.rows (topup_row b e ∷ []) (ap (λ (x : Book). x.rows) changed) refl

  -- there is a row for it
  pub paid-fits : rows_used t < room_in t
  unfolding full
  paid-fits =
      let r = ltb-false b.room (length (after b e).rows) (accepted b e (sym p.accepted)).fits in
      omega (arith, length-paid, room-read t p.sound, used-read t p.sound)

  pub paid-row-storable : StorableRow (topup_row b e)
  paid-row-storable =
      let near = (sound-book t p.sound).near in
      record {
        kind = omega arith;
        account = omega (arith, paid-inside.1, count-read t p.sound, accounts-le b.day b near);
        day = omega (arith, day-le b.day b near);
        amount = (account-holds t p.sound n).each topup_place;
        settled = omega arith;
        mark = omega arith;
        due = omega arith;
        dispute = omega arith;
        hold = omega arith;
        reference = omega arith;
      }

  reserve-small : (z : Bool) → cond z 0 (account b n).reserve < 2 ^ 63
  reserve-small true = omega arith
  reserve-small false = (account-holds t p.sound n).each reserve_place

  pub paid-account-storable : StorableAccount paid_account
  paid-account-storable =
      storable-set _ reserve_place _ (reserve-small (last_decline (account b n)))
      (storable-set _ declined_place 0 (omega arith) (storable-set _ declines_place 0 (omega arith) (account-holds t p.sound n)))

  after-paid : after b e ≡ with_rows (settle n (b.rows ++ (topup_row b e ∷ []))) (put_account n paid_account b)
  after-paid =
      after-named b e (sound-book t p.sound) (λ z. omega (arith, p.kind)) (accepted b e (sym p.accepted)) paid-inside.0
      (omega (arith, paid-inside.1, count-read t p.sound)) (rw changed (length-set b.accounts (n - 1) paid_account))
      ∙ rw changed

  pub paid-posts : (acc h j j'' : List ℤ) → AccountChanged t.accounts acc (n - 1) paid_account → RowAdded t.header h t.journal j (topup_row b e)
      → Settled j j'' (rows_used t + 1) n → Posts t (tables_over t h acc j'') e (acceptance_of (rows_used t) 1 0 0)
  paid-posts acc h j j'' v w d =
      posts-accepted t (tables_over t h acc j'') p.sound e (acceptance_of (rows_used t) 1 0 0) p.accepted
      (rw (used-read t p.sound) (acceptance-plain b e 1 length-paid names-account keeps-topup))
      (rw after-paid
      (row_written t p.sound h j j'' acc (topup_row b e) n (set b.accounts (n - 1) paid_account) w d paid-fits v.size account-put))
    where
      keeps-topup : removes_topup b e ≡ false
      keeps-topup = unfold removes_topup in (rw (p.kind, p.paid))

      account-put : accounts_of acc (accounts_in t) ≡ set b.accounts (n - 1) paid_account
      account-put = changed-accounts t.accounts acc (n - 1) paid_account v (accounts_in t) (omega (arith, paid-inside.0, paid-inside.1)) ∙ (unfold book_of in refl)
