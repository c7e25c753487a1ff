-- What a store is to a list of records: laws over any record of a fixed width; rows and accounts are two such.
use Prim.Native.Nat.{ℕ, suc, ◌+◌, ◌*◌, ◌≤◌, ◌<◌}
use native.Mathlib.Omega.{arith}
use native.Mathlib.Nat.{mul-le-mul_right, suc-mul}
use native.Mathlib.Decide.{ℕ_discrete, dec_lt}
use mathlib.Core.Path.{◌≡◌, refl, ap, ◌∙◌}
use mathlib.Core.Logic.{◌≢◌}
use mathlib.Core.Bool.{true}
use mathlib.Core.List.{List, [], ◌∷◌, ◌++◌, map, append_assoc}
use lib.IntN.{ℤ, pos}
use lib.ListN.{length, get_or, set, take, drop, length-set}
use lib.Seq.{get_or-set_same, get_or-set_other, sets, sets-eq, length-sets, length-take-le}
use lib.Dec.{ltb}
use borrow.Author.Tests.{ltb-true}
use Rattle.lists.specs.Lists.{tabulate}
use Rattle.lists.proofs.ListLaws.{tabulate-set, tabulate-same, tabulate-more, tabulate-map}
use Rattle.records.specs.declared.Row.{Row}
use Rattle.records.specs.declared.Account.{Account}
use Rattle.records.specs.Layout.{row_width, account_width, settled_place}
use Rattle.records.specs.Encoding.{nat_of, word, row_from, row_at, rows_of, row_words, StorableRow, account_from, account_at, accounts_of, account_words, StorableAccount}
use Rattle.records.specs.Updates.{with_settled}
use Rattle.records.proofs.EncodingLaws.{Codec, row-codec, account-codec}
use Rattle.tables.specs.Changes.{RowIn, AccountIn, put_all, Changed, Mapped, RowChanged, AccountChanged}

-- ---- one record of a table changes

module _ {A : Type 0} (at : List ℤ → ℕ → A) where
  pub unchanged : (t : List ℤ) (i : ℕ) (x : A) → at t i ≡ x → Changed at t t i x
  unchanged t i x e = record { size = refl; there = e; others = λ k q. refl }

  module _ (t u : List ℤ) (i : ℕ) (x : A) (c : Changed at t u i x) where
    pub changed-set : (n : ℕ) → i < n → tabulate (at u) n ≡ set (tabulate (at t) n) i x
    changed-set n h = tabulate-set (at u) (at t) n i x h c.there c.others

    pub changed-before : (n : ℕ) → n ≤ i → tabulate (at u) n ≡ tabulate (at t) n
    changed-before n h = tabulate-same (at u) (at t) n (λ k q. c.others k (λ w. omega arith))

    pub changed-append : tabulate (at u) (i + 1) ≡ tabulate (at t) i ++ (x ∷ [])
    changed-append = rw (tabulate-more, c.there, changed-before i (omega arith))

  -- ---- a loop that changes each record

  module _ (f : A → A) (t : List ℤ) where
    pub mapped-none : Mapped at f t t 0
    mapped-none = record { size = refl; done = λ k h. absurd (omega arith); left = λ k h. refl }

    pub mapped-more : (u v : List ℤ) (i : ℕ) → Mapped at f t u i → Changed at u v i (f (at u i)) → Mapped at f t v (i + 1)
    mapped-more u v i m c =
        record {
          size = c.size ∙ m.size;
          done = λ k q.
              elim (ℕ_discrete k i) [
                | yes p ↦ rw (p, c.there, m.left i (omega arith))
                | no n ↦ c.others k n ∙ m.done k (omega arith)
              ];
          left = λ k q. c.others k (λ w. omega arith) ∙ m.left k (omega arith);
        }

    pub mapped-all : (u : List ℤ) (n : ℕ) → Mapped at f t u n → tabulate (at u) n ≡ map f (tabulate (at t) n)
    mapped-all u n m = tabulate-map f (at u) (at t) n m.done

-- ---- rows and accounts

pub changed-rows : (t u : List ℤ) (i : ℕ) (r : Row) → RowChanged t u i r → (n : ℕ) → i < n → rows_of u n ≡ set (rows_of t n) i r
changed-rows = changed-set row_at

pub changed-accounts : (t u : List ℤ) (i : ℕ) (x : Account) → AccountChanged t u i x → (n : ℕ) → i < n → accounts_of u n ≡ set (accounts_of t n) i x
changed-accounts = changed-set account_at

-- ---- where a change comes from: words put

pub put_all-sets : (zs t : List ℤ) (p j : ℕ) → put_all t p j zs ≡ sets t (p + j) zs
unfolding put_all
put_all-sets [] t p j = refl
put_all-sets (z ∷ zs) t p j =
    let e : p + (j + 1) ≡ suc (p + j) = omega arith in
    put_all-sets zs (set t (p + j) z) p (j + 1) ∙ rw e

put_all-other : (zs t : List ℤ) (p j m : ℕ) (d : ℤ) → ((k : ℕ) → k < length zs → m ≢ p + j + k) → get_or (put_all t p j zs) m d ≡ get_or t m d
unfolding put_all
put_all-other [] t p j m d h = refl
put_all-other (z ∷ zs) t p j m d h =
    put_all-other zs (set t (p + j) z) p (j + 1) m d (λ k q w. h (suc k) (omega arith) (omega arith))
    ∙ get_or-set_other t (p + j) m z d (λ w. h 0 (omega arith) (omega arith))

-- what a record reads: its own words and no others
abbrev pub Local : {A : Type 0} → ℕ → (List ℤ → ℕ → A) → Type 0
Local k read = (t u : List ℤ) (p : ℕ) → ((j : ℕ) → j < k → word t (p + j) ≡ word u (p + j)) → read t p ≡ read u p

row-local : Local row_width row_from
unfolding row_from
row-local t u p e =
    let f : (j : ℕ) → ltb j row_width ≡ true → word t (p + j) ≡ word u (p + j) = λ j q. e j (ltb-true j row_width q) in
    simp f

account-local : Local account_width account_from
unfolding account_from
account-local t u p e =
    let f : (j : ℕ) → ltb j account_width ≡ true → word t (p + j) ≡ word u (p + j) = λ j q. e j (ltb-true j account_width q) in
    simp f

-- places of two records are apart
apart : (w k i a b : ℕ) → k ≢ i → a < w → b < w → k * w + a ≢ i * w + b
apart w k i a b q h g e =
    elim (dec_lt k i) [
      | yes l ↦ omega (arith, mul-le-mul_right {m = suc k} {n = i} w (omega arith), suc-mul k w)
      | no l ↦ omega (arith, mul-le-mul_right {m = suc i} {n = k} w (omega arith), suc-mul i w)
    ]

module _ {A : Type 0} (w : ℕ) (read : List ℤ → ℕ → A) (local : Local w read) where
  -- words of record i leave every other record
  put-others : (zs t : List ℤ) (i j : ℕ) → j + length zs ≤ w → (k : ℕ) → k ≢ i → read (put_all t (i * w) j zs) (k * w) ≡ read t (k * w)
  unfolding word
  put-others zs t i j h k q =
      local (put_all t (i * w) j zs) t (k * w) (λ m g.
      ap nat_of (put_all-other zs t (i * w) j (k * w + m) (pos 0) (λ n b e.
      apart w k i m (j + n) q g (omega arith) (omega arith))))

  -- one word of record i
  pub word-changed : (t : List ℤ) (i j : ℕ) (z : ℤ) (x : A) → j < w → read (set t (i * w + j) z) (i * w) ≡ x → Changed (λ u k. read u (k * w)) t (set t (i * w + j) z) i x
  unfolding put_all
  word-changed t i j z x h e =
      record { size = length-set t (i * w + j) z; there = e; others = put-others (z ∷ []) t i j (omega arith) }

  module _ (words : A → List ℤ) (Storable : A → Type 0) (c : Codec w read words Storable) where
    -- all its words
    pub words-changed : (t : List ℤ) (i : ℕ) (x : A) → i * w + w ≤ length t → Changed (λ u k. read u (k * w)) t (put_all t (i * w) 0 (words x)) i x
    words-changed t i x h =
        let n = c.width x in
        let l : length (take (i * w) t) ≡ i * w = length-take-le (i * w) t (omega arith) in
        let z : i * w + 0 ≡ i * w = omega arith in
        let e : put_all t (i * w) 0 (words x) ≡ take (i * w) t ++ (words x ++ drop (i * w + length (words x)) t) =
        put_all-sets (words x) t (i * w) 0 ∙ rw z (sets-eq (words x) t (i * w) (omega arith) ∙ append_assoc (take (i * w) t) (words x) (drop (i * w + length (words x)) t)) in
        record {
          size = ap length (put_all-sets (words x) t (i * w) 0) ∙ length-sets t (i * w + 0) (words x);
          there = ap (λ (u : List ℤ). read u (i * w)) e ∙ rw l at (c.read-words (take (i * w) t) (drop (i * w + length (words x)) t) x);
          others = put-others (words x) t i 0 (omega arith);
        }

pub row-changed : (t : List ℤ) (i : ℕ) (r : Row) → RowIn t i → RowChanged t (put_all t (i * row_width) 0 (row_words r)) i r
row-changed = words-changed row_width row_from row-local row_words StorableRow row-codec

pub account-changed : (t : List ℤ) (i : ℕ) (x : Account) → AccountIn t i → AccountChanged t (put_all t (i * account_width) 0 (account_words x)) i x
account-changed = words-changed account_width account_from account-local account_words StorableAccount account-codec

-- ---- one word

pub word_same : (t : List ℤ) (k v : ℕ) → k < length t → word (set t k (pos v)) k ≡ v
unfolding word nat_of
word_same t k v h = rw get_or-set_same

pub word-other : (t : List ℤ) (k : ℕ) (z : ℤ) (m : ℕ) → m ≢ k → word (set t k z) m ≡ word t m
unfolding word
word-other t k z m q = ap nat_of (get_or-set_other t k m z (pos 0) q)

pub settled-changed : (t : List ℤ) (i v : ℕ) → RowIn t i → RowChanged t (set t (i * row_width + settled_place) (pos v)) i (with_settled v (row_at t i))
settled-changed t i v h = word-changed row_width row_from row-local t i settled_place (pos v) (with_settled v (row_at t i)) (omega arith) settled-there
  where
    other : (m : ℕ) → m ≢ settled_place → word (set t (i * row_width + settled_place) (pos v)) (i * row_width + m) ≡ word t (i * row_width + m)
    other m q = word-other t (i * row_width + settled_place) (pos v) (i * row_width + m) (λ e. q (omega arith))

    settled-there : row_from (set t (i * row_width + settled_place) (pos v)) (i * row_width) ≡ with_settled v (row_at t i)
    settled-there = unfold row_from in
        (rw (
          word_same t (i * row_width + settled_place) v (omega arith),
          other 0 (λ e. omega arith),
          other 1 (λ e. omega arith),
          other 2 (λ e. omega arith),
          other 3 (λ e. omega arith),
          other 5 (λ e. omega arith),
          other 6 (λ e. omega arith),
          other 7 (λ e. omega arith),
          other 8 (λ e. omega arith),
          other 9 (λ e. omega arith),
        ))
