-- What a store does to a table of records: one record changes, every other stays. One definition for rows and accounts.
use Rattle.std.specs.Prelude.{ℕ, ◌+◌, ◌*◌, ◌≤◌, ◌<◌, ◌≡◌, ◌≢◌, List, [], ◌∷◌, ℤ, length, set}
use Rattle.records.specs.declared.Row.{Row}
use Rattle.records.specs.declared.Account.{Account}
use Rattle.records.specs.Layout.{row_width, account_width}
use Rattle.records.specs.Encoding.{row_at, account_at}

-- the table has a record i
abbrev pub RowIn : List ℤ → ℕ → Type 0
RowIn t i = i * row_width + row_width ≤ length t

abbrev pub AccountIn : List ℤ → ℕ → Type 0
AccountIn t i = i * account_width + account_width ≤ length t

-- words put one after the other, from place p + j on
unfoldable pub put_all : List ℤ → ℕ → ℕ → List ℤ → List ℤ
put_all t p j [] = t
put_all t p j (z ∷ zs) = put_all (set t (p + j) z) p (j + 1) zs

module _ {A : Type 0} (at : List ℤ → ℕ → A) where
  -- u is t with the record x at i
  pub record Changed (t u : List ℤ) (i : ℕ) (x : A) : Type 0 where
    pub size : length u ≡ length t
    pub there : at u i ≡ x
    pub others : (k : ℕ) → k ≢ i → at u k ≡ at t k

  -- u is t with each record below i mapped
  pub record Mapped (f : A → A) (t u : List ℤ) (i : ℕ) : Type 0 where
    pub size : length u ≡ length t
    pub done : (k : ℕ) → k < i → at u k ≡ f (at t k)
    pub left : (k : ℕ) → i ≤ k → at u k ≡ at t k

abbrev pub RowChanged : List ℤ → List ℤ → ℕ → Row → Type 0
RowChanged = Changed row_at

abbrev pub AccountChanged : List ℤ → List ℤ → ℕ → Account → Type 0
AccountChanged = Changed account_at

abbrev pub RowsMapped : (Row → Row) → List ℤ → List ℤ → ℕ → Type 0
RowsMapped = Mapped row_at

abbrev pub AccountsMapped : (Account → Account) → List ℤ → List ℤ → ℕ → Type 0
AccountsMapped = Mapped account_at
