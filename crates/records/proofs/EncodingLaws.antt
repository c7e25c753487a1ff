-- Laws of reading and writing: one undoes the other, for any record of a fixed width; rows and accounts are two such.
use Prim.Native.Nat.{ℕ, zero, suc, ◌+◌, ◌*◌, ◌^◌, ◌≤◌, ◌<◌}
use native.Mathlib.Omega.{arith}
use native.Mathlib.Nat.{suc-mul, zero-mul}
use mathlib.Core.Path.{◌≡◌, refl, sym, ap, ◌∙◌}
use mathlib.Core.List.{List, [], ◌∷◌, ◌++◌, map, append_assoc, append-nil}
use lib.IntN.{ℤ, pos, negsuc}
use lib.ListN.{length, get_or, take, drop, length-append}
use lib.Seq.{get_or-append-add, ext_get_or, take-add}
use Rattle.lists.specs.Lists.{tabulate}
use Rattle.lists.proofs.ListLaws.{length-tabulate, tabulate-at, tabulate-get_d, tabulate-map}
use Rattle.records.specs.Layout.{account_width, row_width}
use Rattle.records.specs.Encoding.{nat_of, word, account_from, row_from, account_fields, account_words, row_words, write_all, Storable, StorableAccount, StorableRow}

-- a word below 2 ^ 63 is not negative
pub pos-nat_of : (z : ℤ) → nat_of z < 2 ^ 63 → pos (nat_of z) ≡ z
unfolding nat_of
pos-nat_of (pos n) h = refl
pos-nat_of (negsuc n) h = absurd (omega arith)

-- reading and writing of a record of k words undo each other, the second where the record was read from words that are not negative
pub record Codec {A : Type 0} (k : ℕ) (read : List ℤ → ℕ → A) (words : A → List ℤ) (Storable : A → Type 0) : Type 0 where
  pub width : (x : A) → length (words x) ≡ k
  pub read-words : (p s : List ℤ) (x : A) → read (p ++ (words x ++ s)) (length p) ≡ x
  pub words-read : (t : List ℤ) (a : ℕ) → a + k ≤ length t → Storable (read t a) → words (read t a) ≡ take k (drop a t)

-- ---- many records, one after the other

module _ {A : Type 0} (k : ℕ) (read : List ℤ → ℕ → A) (words : A → List ℤ) (Storable : A → Type 0) (c : Codec k read words Storable) where
  pub length-write_all : (xs : List A) → length (write_all words xs) ≡ length xs * k
  unfolding write_all
  length-write_all [] = sym (zero-mul k)
  length-write_all (x ∷ xs) =
      length-append (words x) (write_all words xs) ∙ omega (arith, c.width x, length-write_all xs, suc-mul (length xs) k)

  pub read-write_all-at : (xs : List A) (p s : List ℤ) (i : ℕ) (d : A) → i < length xs → read (p ++ (write_all words xs ++ s)) (length p + i * k) ≡ get_or xs i d
  unfolding write_all
  read-write_all-at [] p s i d h = absurd (omega arith)
  read-write_all-at (x ∷ xs) p s zero d h =
      let z : length p + 0 * k ≡ length p = omega (arith, zero-mul k) in
      rw (z, append_assoc (words x) (write_all words xs) s) (c.read-words p (write_all words xs ++ s) x)
  read-write_all-at (x ∷ xs) p s (suc i) d h =
      let z : length p + suc i * k ≡ length (p ++ words x) + i * k =
      omega (arith, length-append p (words x), c.width x, suc-mul i k) in
      rw (z, append_assoc (words x) (write_all words xs) s, ← append_assoc p (words x) (write_all words xs ++ s))
      (read-write_all-at xs (p ++ words x) s i d (omega arith))

  -- what was written is read back
  pub read-write_all : (xs : List A) (s : List ℤ) (d : A) → tabulate (λ i. read (write_all words xs ++ s) (i * k)) (length xs) ≡ xs
  read-write_all xs s d =
      let n : length (tabulate (λ i. read (write_all words xs ++ s) (i * k)) (length xs)) ≡ length xs = length-tabulate _ (length xs) in
      ext_get_or d _ xs n (λ i h.
      let b : i < length xs = omega arith in
      let e : 0 + i * k ≡ i * k = omega arith in
      tabulate-at _ (length xs) i d b ∙ rw e at (read-write_all-at xs [] s i d b))

  pub read-write_all-whole : (xs : List A) (d : A) → tabulate (λ i. read (write_all words xs) (i * k)) (length xs) ≡ xs
  read-write_all-whole xs d = rw (append-nil (write_all words xs)) at (read-write_all xs [] d)

  pub write_all-snoc : (xs : List A) (x : A) → write_all words (xs ++ (x ∷ [])) ≡ write_all words xs ++ words x
  unfolding write_all
  write_all-snoc [] x = append-nil (words x)
  write_all-snoc (y ∷ xs) x = rw (write_all-snoc xs x, append_assoc)

  -- what is read and written again is the table
  pub write_all-read : (t : List ℤ) (n : ℕ) → n * k ≤ length t → ((i : ℕ) → i < n → Storable (read t (i * k))) → write_all words (tabulate (λ i. read t (i * k)) n) ≡ take (n * k) t
  unfolding tabulate write_all
  write_all-read t zero h p = rw (zero-mul k)
  write_all-read t (suc n) h p =
      let m : suc n * k ≡ n * k + k = suc-mul n k in
      rw (
        m,
        take-add (n * k) k t,
        write_all-snoc (tabulate (λ i. read t (i * k)) n) (read t (n * k)),
        write_all-read t n (omega arith) (λ j q. p j (omega arith)),
        c.words-read t (n * k) (omega arith) (p n (omega arith)),
      )

-- ---- rows and accounts

-- the word at a place, from its bound
pub plain : (t : List ℤ) (a : ℕ) → word t a < 2 ^ 63 → pos (word t a) ≡ get_or t a (pos 0)
unfolding word
plain t a h = pos-nat_of (get_or t a (pos 0)) h

pub row-codec : Codec row_width row_from row_words StorableRow
unfolding row_from row_words word nat_of tabulate
row-codec = record {
  width = λ x. refl;
  read-words = λ p s x. simp get_or-append-add;
  words-read = λ t a h s.
      rw (
        ← tabulate-get_d t a row_width (pos 0) h,
        plain t (a + 0) s.kind,
        plain t (a + 1) s.account,
        plain t (a + 2) s.day,
        plain t (a + 3) s.amount,
        plain t (a + 4) s.settled,
        plain t (a + 5) s.mark,
        plain t (a + 6) s.due,
        plain t (a + 7) s.dispute,
        plain t (a + 8) s.hold,
        plain t (a + 9) s.reference,
      );
}

-- a record that is a list of fields, each read from its place
pub fields-codec : {A : Type 0} (k : ℕ) (read : List ℤ → ℕ → A) (fields : A → List ℕ) → ((x : A) → length (map pos (fields x)) ≡ k)
    → ((p s : List ℤ) (x : A) → read (p ++ (map pos (fields x) ++ s)) (length p) ≡ x)
    → ((t : List ℤ) (a : ℕ) → fields (read t a) ≡ tabulate (λ j. word t (a + j)) k)
    → Codec k read (λ x. map pos (fields x)) (λ x. Storable (fields x))
fields-codec k read fields width back each = record {
  width = width;
  read-words = back;
  words-read = λ t a h s.
      ap (map pos) (each t a)
      ∙ sym
      (tabulate-map pos (λ j. get_or t (a + j) (pos 0)) (λ j. word t (a + j)) k
      (λ j q. sym (plain t (a + j) (rw (each t a, tabulate-at (λ i. word t (a + i)) k j 0 q) at (s.each j)))))
      ∙ tabulate-get_d t a k (pos 0) h;
}

pub account-codec : Codec account_width account_from account_words StorableAccount
unfolding account_from account_words word nat_of tabulate
account-codec = fields-codec account_width account_from account_fields (λ x. refl) (λ p s x. simp get_or-append-add) (λ t a. refl)
