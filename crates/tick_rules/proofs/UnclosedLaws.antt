-- Where no account closes, no refund is added and the closings change nothing.
use mathlib.Core.Path.{◌≡◌, refl, ◌∙◌}
use mathlib.Core.Bool.{Bool, true, false, not, ◌&&◌, and-false}
use Prim.Native.Nat.{ℕ, zero, suc, ◌+◌, ◌≤◌, ◌<◌}
use native.Mathlib.Omega.{arith}
use mathlib.Core.List.{List, [], ◌∷◌, map, append-nil}
use lib.ListN.{length, get_or, length-map}
use lib.Seq.{ext_get_or}
use lib.Dec.{eqb, leb, ltb}
use borrow.Author.Tests.{leb-false, le-ltb}
use Rattle.lists.specs.Lists.{exists, one, gather, gather_from, change}
use Rattle.lists.proofs.GatherLaws.{length-change, change-at}
use Rattle.records.specs.Limits.{closing_days}
use Rattle.rules.specs.BusinessDays.{business_day}
use Rattle.rules.specs.Rows.{Row, blank, source}
use Rattle.rules.specs.Settlement.{money, owed}
use Rattle.rules.specs.Book.{Account, state_pending, unused, Book, account}
use Rattle.rules.specs.Tick.{closes, close_if, refund_row, use_up, close_accounts}
use Rattle.preservation.proofs.ClosingLaws.{up-blank}
use Rattle.tick_rules.specs.Ticks.{stays_held, will_refund, will_close, NoneCloses, refunds_added}
use Rattle.lists.proofs.ListLaws.{map_at}

gather-empty : {A B : Type 0} (h : ℕ → A → List B) (i : ℕ) (xs : List A) (d : A) → ((n k : ℕ) → n ≡ i + k → k < length xs → h n (get_or xs k d) ≡ []) → gather_from h i xs ≡ []
unfolding gather_from
gather-empty h i [] d e = refl
gather-empty h i (x ∷ xs) d e = rw (e i 0 (omega arith) (omega arith)) (gather-empty h (i + 1) xs d (λ n k q r. e n (suc k) (omega arith) (omega arith)))

-- ---- an account that will not close brings no refund

module _ (b : Book) where
  no-refund : (n : ℕ) (x : Account) → will_close b n x ≡ false → will_refund b n x ≡ false
  unfolding will_close will_refund
  no-refund n x w =
      go (eqb x.state state_pending && business_day b.holidays (b.day + 1) && leb (x.request + closing_days) (b.day + 1)) (not (exists (stays_held (b.day + 1) n) b.rows))
      (leb (owed n b.rows) (money n b.rows)) (ltb (owed n b.rows) (money n b.rows))
      (λ e. le-ltb (owed n b.rows) (money n b.rows) (omega (arith, leb-false (owed n b.rows) (money n b.rows) e))) w
    where
      go : (p q l m : Bool) → (l ≡ false → m ≡ false) → p && q && l ≡ false → p && q && m ≡ false
      go true true l m f e = f e
      go true false l m f e = refl
      go false q l m f e = refl

  pub no-refunds : NoneCloses b → refunds_added b ≡ 0
  unfolding refunds_added
  no-refunds z =
      rw (gather-empty (λ n x. one (will_refund b n x) blank) 1 b.accounts unused (λ n k e h.
      let q : n ≡ suc k = omega arith in
      rw (q, no-refund (suc k) (get_or b.accounts k unused) (z k h))))

-- ---- a book of which no account closes

module _ (b : Book) (inside : (k : ℕ) → k < length b.rows → (1 ≤ (get_or b.rows k blank).account) × ((get_or b.rows k blank).account ≤ length b.accounts))
    (z : (k : ℕ) → k < length b.accounts → closes b (suc k) (get_or b.accounts k unused) ≡ false) where
  accounts-stay : change (close_if b) b.accounts ≡ b.accounts
  unfolding close_if
  accounts-stay =
      ext_get_or unused (change (close_if b) b.accounts) b.accounts (length-change (close_if b) 1 b.accounts) (λ k l.
      let h : k < length b.accounts = rw (length-change (close_if b) 1 b.accounts) at l in
      change-at (close_if b) 1 b.accounts unused k (suc k) (omega arith) h ∙ rw (z k h))

  stays_open : (n : ℕ) → 1 ≤ n → n ≤ length b.accounts → closes b n (account b n) ≡ false
  stays_open zero l h = absurd (omega arith)
  stays_open (suc k) l h = z k (omega arith)

  rows_stay : map (use_up b) b.rows ≡ b.rows
  unfolding use_up
  rows_stay =
      ext_get_or blank (map (use_up b) b.rows) b.rows (length-map b.rows (use_up b)) (λ k l.
      let r : Row = get_or b.rows k blank in
      let i = inside k (rw (length-map b.rows (use_up b)) at l) in
      map_at (use_up b) b.rows k blank (up-blank b) ∙ rw (stays_open r.account i.0 i.1, and-false (source r)))

  refunds-none : gather (refund_row b) b.accounts ≡ []
  unfolding refund_row
  refunds-none = gather-empty (refund_row b) 1 b.accounts unused (λ n k e h. let q : n ≡ suc k = omega arith in rw (q, z k h))

  pub unclosed : close_accounts b ≡ b
  unfolding close_accounts
  unclosed = rw (accounts-stay, rows_stay, refunds-none, append-nil b.rows)
