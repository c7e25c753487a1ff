-- Laws of one row and one account at the closings, and of the accounts one after the other.
use mathlib.Core.Path.{◌≡◌, refl, ◌∙◌}
use mathlib.Core.Bool.{Bool, true, false, true≢false, false≢true, and-false}
use Prim.Native.Nat.{ℕ, ◌+◌, ◌-◌, ◌/◌, ◌<◌}
use native.Mathlib.Omega.{arith}
use mathlib.Core.List.{List, [], ◌∷◌, ◌++◌, append_assoc, append-nil}
use lib.ListN.{length, get_or, length-append}
use lib.IntN.{ℤ}
use borrow.Author.Tests.{lt-ltb}
use Rattle.lists.specs.Lists.{tabulate, gather_from, change_from}
use Rattle.lists.proofs.ListLaws.{length-tabulate}
use Rattle.lists.proofs.GatherLaws.{gather-tabulate, length-gather-tabulate, length-gather-le, change-tabulate}
use Rattle.records.specs.Layout.{used_place, state_place, row_width, account_width}
use Rattle.records.specs.Encoding.{word, row_at, rows_of, account_at, accounts_of, StorableRow, StorableAccount}
use Rattle.records.proofs.FieldLaws.{storable-set}
use Rattle.records.specs.AccountOperations.{closed}
use Rattle.rules.specs.Rows.{Row, source, with_settled}
use Rattle.rules.specs.Book.{Account, state_closed}
use Rattle.row_passes.specs.Passes.{RowLeft}
use Rattle.tables.specs.Changes.{RowIn, RowChanged, AccountChanged}
use Rattle.tables.proofs.ChangeLaws.{unchanged, changed-append}
use Rattle.posting.specs.Posts.{three_tables, RowRoom, RowAdded}
use Rattle.posting.specs.Written.{UsedRows}
use Rattle.posting_laws.proofs.UsedRowsLaws.{rows_before, rows-add, rows-room}
use Rattle.tick_base.specs.declared.sums.Remains.{Remains}
use Rattle.tick_close.specs.Closing.{closes_by, close_by, refunds_by, refund_of, Closable, ClosedOne, use_up_by, Usable, UsableRows, close_at, refund_at, refunds_to, AllClosable, ClosedTo}

-- ---- one row: n is the account of row i, read first

module _ (today : ℕ) (a : List ℤ) (owed : List ℕ) (t : List ℤ) (i n : ℕ) (k : n ≡ (row_at t i).account) where
  abbrev after : Row
  after = use_up_by today a owed (row_at t i)

  abbrev test : Bool
  test = closes_by today (get_or owed n 0) (account_at a (n - 1))

  pub open_stays : test ≡ false → RowChanged t t i after
  unfolding use_up_by
  open_stays g = unchanged row_at t i after (rw (← k, g, and-false (source (row_at t i))))

  -- the account closes; r is the row
  module _ (g : test ≡ true) (r : Row) (e : r ≡ row_at t i) where
    pub debit-stays : source r ≡ false → RowChanged t t i after
    unfolding use_up_by
    debit-stays f = unchanged row_at t i after (rw (← e, f))

    pub source-used : (u : List ℤ) → source r ≡ true → RowChanged t u i (with_settled r.amount (row_at t i)) → RowChanged t u i after
    unfolding use_up_by
    source-used u f c =
        let q : closes_by today (get_or owed (row_at t i).account 0) (account_at a ((row_at t i).account - 1)) ≡ true = rw k at g in
        rw (q, ← e, f) (rw (← e) at c)

-- each row is still one of an account of the table after those before it have been used
pub usable-left : (a t u : List ℤ) (used i : ℕ) → UsableRows a t used → RowLeft t u used i → RowIn u i × Usable a (row_at u i)
usable-left a t u used i e l = (omega (arith, l.inside, l.size, e.room), rw l.same (e.each i l.inside))

-- ---- one account

module _ (today : ℕ) (r : Remains) (h a j : List ℤ) (i : ℕ) where
  abbrev x : Account
  x = account_at a i

  abbrev money : ℕ
  money = get_or r.money (i + 1) 0

  abbrev owed : ℕ
  owed = get_or r.owed (i + 1) 0

  pub stays_open : closes_by today owed x ≡ false → ClosedOne h h a a j j i today r
  unfolding close_by refunds_by
  stays_open e = record {
    account = unchanged account_at a i (close_by today owed x) (rw e);
    refund = λ z. absurd (false≢true (rw e at z));
    none = λ z. (refl, refl);
  }

  module _ (a' : List ℤ) (e : closes_by today owed x ≡ true) (w : AccountChanged a a' i (closed x)) where
    pub closes-bare : money ≡ 0 → ClosedOne h h a a' j j i today r
    unfolding close_by refunds_by
    closes-bare m = record {
      account = rw e w;
      refund = λ z. absurd (false≢true (rw (e, m) at z));
      none = λ z. (refl, refl);
    }

    pub closes-refunding : (h' j' : List ℤ) → (money ≡ 0 → ⊥) → RowAdded h h' j j' (refund_of today money (i + 1)) → ClosedOne h h' a a' j j' i today r
    unfolding close_by refunds_by
    closes-refunding h' j' m added = record {
      account = rw e w;
      refund = λ z. added;
      none = λ z. absurd (true≢false (rw (e, lt-ltb 0 money (omega arith)) at z));
    }

  module _ (c : Closable h a j i today r) where
    pub closed-holds : StorableAccount (closed x)
    closed-holds = storable-set _ state_place state_closed (omega arith) c.holds

    pub refund-room : closes_by today owed x ≡ true → (money ≡ 0 → ⊥) → RowRoom h j
    unfolding refunds_by
    refund-room e m = c.room (rw (e, lt-ltb 0 money (omega arith)))

    pub refund-holds : StorableRow (refund_of today money (i + 1))
    refund-holds = record {
      kind = omega arith;
      account = omega (arith, c.number);
      day = c.day;
      amount = c.amount;
      settled = c.amount;
      mark = omega arith;
      due = omega arith;
      dispute = omega arith;
      hold = omega arith;
      reference = omega arith;
    }

-- ---- the accounts one after the other

module _ (h a j : List ℤ) (today : ℕ) (r : Remains) where
  abbrev base : List Row
  base = rows_of j (word h used_place)

  abbrev count : ℕ
  count = length a / account_width

  pub closed_none : ClosedTo h a j h a j today r 0
  unfolding tabulate gather_from change_from
  closed_none = record {
    size = refl;
    done = refl;
    left = λ k q. refl;
    rows = rw (append-nil base) (rows_before (three_tables h a j));
  }

  module _ (c : AllClosable h a j today r) (h' a' j' : List ℤ) (i : ℕ) (l : i < count) (m : ClosedTo h a j h' a' j' today r i) where
    abbrev cash : ℕ
    cash = get_or r.money (i + 1) 0

    abbrev debt : ℕ
    debt = get_or r.owed (i + 1) 0

    same-account : account_at a' i ≡ account_at a i
    same-account = m.left i (omega arith)

    -- one refund more is one of all
    refund-fits : refunds_by today cash debt (account_at a i) ≡ true → length (base ++ refunds_to today r a i) < length j / row_width
    unfolding refund_at
    refund-fits e =
        let f = length-gather-tabulate (refund_at today r) (account_at a) i in
        let g = length-gather-le (refund_at today r) (account_at a) (i + 1) count (omega arith) in
        omega (arith, rw e at f, length-append base (refunds_to today r a i), length-tabulate (row_at j) (word h used_place), c.room)

    pub closable-next : Closable h' a' j' i today r
    closable-next = record {
      account = rw m.size (omega arith);
      number = omega (arith, c.few);
      holds = rw same-account (c.holds i l);
      day = c.day;
      amount = c.amounts (i + 1) (omega (arith, c.few));
      room = λ e. rows-room (three_tables h a j) h' j' (base ++ refunds_to today r a i) m.rows c.header (refund-fits (rw same-account at e));
    }

    pub closed-more : (h'' a'' j'' : List ℤ) → ClosedOne h' h'' a' a'' j' j'' i today r → ClosedTo h a j h'' a'' j'' today r (i + 1)
    closed-more h'' a'' j'' w =
        record {
          size = w.account.size ∙ m.size;
          done = changed-append account_at a' a'' i (close_by today debt (account_at a' i)) w.account ∙ next-account;
          left = λ k q. w.account.others k (λ z. omega arith) ∙ m.left k (omega arith);
          rows = rw (gather-tabulate (refund_at today r) (account_at a) i, ← append_assoc base (refunds_to today r a i) (refund_at today r (i + 1) (account_at a i)))
              (go (refunds_by today cash debt (account_at a i)) refl);
        }
      where
        next-account : accounts_of a' i ++ (close_by today debt (account_at a' i) ∷ []) ≡ change_from (close_at today r) 1 (accounts_of a (i + 1))
        next-account = unfold close_at in (rw (same-account, m.done, change-tabulate (close_at today r) (account_at a) i))

        go : (v : Bool) → refunds_by today cash debt (account_at a i) ≡ v
            → UsedRows (three_tables h a j) h'' j'' ((base ++ refunds_to today r a i) ++ refund_at today r (i + 1) (account_at a i))
        go true e = unfold refund_at in
            (rw e (rows-add (three_tables h a j) h' j' j'' (base ++ refunds_to today r a i) m.rows c.header h'' (refund_of today cash (i + 1)) (w.refund (rw same-account e))))
        go false e =
            let same = w.none (rw same-account e) in
            unfold refund_at in (rw (e, append-nil (base ++ refunds_to today r a i), same.0, same.1) m.rows)
