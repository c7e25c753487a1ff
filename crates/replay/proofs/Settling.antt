-- Settlement is the same on rows and on entries: it keeps any relation that implies SameLine and that a part settled on both sides keeps.
use mathlib.Core.Path.{◌≡◌, refl, ap, fun_ext}
use mathlib.Core.Bool.{Bool, true, false, not, cond, ◌&&◌, ◌||◌}
use Prim.Native.Nat.{ℕ, zero, suc, ◌+◌, ◌-◌, min}
use mathlib.Core.List.{List}
use Rattle.lists.specs.Tests.{◌is◌}
use Rattle.lists.specs.Lists.{sum_by, only}
use Rattle.lists.proofs.PairLaws.{Pairs, none, more, pairs-at, pairs-to, pairs-sum}
use Rattle.rules.specs.Rows.{Row, Test, kind_toll, kind_fee, blank, row_no, toll, held_toll, held, source_of, payable, payable_toll, payable_rest, remaining, settle_more}
use Rattle.rules.specs.Settlement.{allocate, money, moved_to, pay, settle_rank, settle_ranks, settle, settle_accounts}
use Rattle.rules.proofs.SettlementLaws.{settle-row}
use Rattle.replay.specs.Entries.{Entry, no_entry, entry_no, with_covered, is_toll, on_hold, unused_of, wanted_by, wanted_by_toll, wanted_by_rest, cover, cover_rank, settle_entries, settle_all_entries}
use Rattle.replay.specs.Demand3.{toll_named}
use Rattle.replay.proofs.Relation.{SameLine, Named, Rows, same-line-blank}

-- ---- the entry of a row's number, and what is held

pub faces-no : {rows : List Row} {xs : List Entry} → Pairs SameLine rows xs → (n : ℕ) → SameLine (row_no rows n) (entry_no xs n)
faces-no p n = pairs-at blank no_entry same-line-blank (more same-line-blank p) n

pub held_same : {rows : List Row} {xs : List Entry} → Pairs SameLine rows xs → (r : Row) (x : Entry) → SameLine r x → toll_named rows r ≡ x.toll → held rows r ≡ on_hold xs x
unfolding held on_hold toll_named
held_same {rows} {xs} p r x f e = rw (f.hold, f.kind) (ap {B = Bool} (λ (v : Bool). x.hold || v) (go (x.kind is kind_fee) (rw f.kind at e)))
  where
    n : ℕ
    n = r.reference

    go : (v : Bool) → cond (v && (row_no rows n).kind is kind_toll) n 0 ≡ x.toll → v && held_toll (row_no rows n) ≡ v && (entry_no xs x.toll).hold
    go false q = refl
    go true q = toll ((row_no rows n).kind is kind_toll) refl q
      where
        toll : (v : Bool) → (row_no rows n).kind is kind_toll ≡ v → cond v n 0 ≡ x.toll → held_toll (row_no rows n) ≡ (entry_no xs x.toll).hold
        toll true k w = rw (← w) (faces-no p n).hold
        toll false k w = rw (← w, k)

-- ---- one allocation

pub allocate-pairs : (R : Row → Entry → Type 0) → ((r : Row) (x : Entry) (n : ℕ) → R r x → R (settle_more r n) (with_covered (x.covered + n) x))
    → (t : Test) (f : Entry → ℕ) → ((r : Row) (x : Entry) → R r x → only t remaining r ≡ f x)
    → (n : ℕ) {rows : List Row} {xs : List Entry} → Pairs R rows xs → Pairs R (allocate t n rows) (cover f n xs)
unfolding allocate cover
allocate-pairs R keep t f same n none = none
allocate-pairs R keep t f same n (more {x} {y} q p) =
    rw (same x y q) (more (keep x y (min (f y) n) q) (allocate-pairs R keep t f same (n - f y) p))

-- ---- the settlement of an account

-- the kinds of the rows that rows name do not change
pub named-settle : (a : ℕ) (rows : List Row) → toll_named (settle a rows) ≡ toll_named rows
unfolding toll_named
named-settle a rows = fun_ext (λ r. rw (kind-settle r.reference))
  where
    kind-settle : (n : ℕ) → (row_no (settle a rows) n).kind ≡ (row_no rows n).kind
    kind-settle zero = refl
    kind-settle (suc n) = ap (λ (r : Row). r.kind) (settle-row a rows n).kept

module _ (R : Row → Entry → Type 0) (line : (r : Row) (x : Entry) → R r x → SameLine r x)
    (keep : (r : Row) (x : Entry) (n : ℕ) → R r x → R (settle_more r n) (with_covered (x.covered + n) x)) where
  -- a row and an entry in the midst of a settlement of rows and xs
  record Midst (rows : List Row) (xs : List Entry) (r : Row) (x : Entry) : Type 0 where
    named : Named R rows r x
    held : held rows r ≡ on_hold xs x

  midst-keep : (rows : List Row) (xs : List Entry) (r : Row) (x : Entry) (n : ℕ) → Midst rows xs r x → Midst rows xs (settle_more r n) (with_covered (x.covered + n) x)
  unfolding held on_hold toll_named
  midst-keep rows xs r x n m = record { named = record { is = keep r x n m.named.is; toll = m.named.toll }; held = m.held }

  source-same : (rows : List Row) (xs : List Entry) (a : ℕ) (r : Row) (x : Entry) → Midst rows xs r x → only (source_of a) remaining r ≡ unused_of a x
  unfolding only source_of unused_of
  source-same rows xs a r x m = let f : SameLine r x = line r x m.named.is in rw (f.account, f.kind, f.amount, f.settled)

  payable-same : (rows : List Row) (xs : List Entry) (a : ℕ) (r : Row) (x : Entry) → Midst rows xs r x → only (payable rows a) remaining r ≡ wanted_by xs a x
  unfolding only payable wanted_by
  payable-same rows xs a r x m = let f : SameLine r x = line r x m.named.is in rw (m.held, f.account, f.kind, f.amount, f.settled)

  -- what a row wants within a rank is what its entry does
  ranked-same : (rows : List Row) (xs : List Entry) (a : ℕ) (r : Row) (x : Entry) → Midst rows xs r x
      → (only (payable_toll rows a) remaining r ≡ wanted_by_toll xs a x) × (only (payable_rest rows a) remaining r ≡ wanted_by_rest xs a x)
  unfolding only payable_toll payable_rest wanted_by_toll wanted_by_rest
  ranked-same rows xs a r x m = rw kind (go (payable rows a r) (is_toll x) (unfold only in payable-same rows xs a r x m))
    where
      kind : toll r ≡ is_toll x
      kind = ap (λ (k : ℕ). k is kind_toll) (line r x m.named.is).kind

      go : (p t : Bool) → cond p (remaining r) 0 ≡ wanted_by xs a x
          → (cond (p && t) (remaining r) 0 ≡ cond t (wanted_by xs a x) 0) × (cond (p && not t) (remaining r) 0 ≡ cond t 0 (wanted_by xs a x))
      go true true e = (e, refl)
      go true false e = (refl, e)
      go false true e = (e, refl)
      go false false e = (refl, e)

  -- one rank, settled on both sides alike
  rank-pairs : (rows₀ : List Row) (xs₀ : List Entry) (a : ℕ) (t : Test) (want : Entry → ℕ)
      → ((r : Row) (x : Entry) → Midst rows₀ xs₀ r x → only t remaining r ≡ want x)
      → {rows : List Row} {xs : List Entry} → Pairs (Midst rows₀ xs₀) rows xs → Pairs (Midst rows₀ xs₀) (settle_rank t a rows) (cover_rank want a xs)
  unfolding settle_rank pay moved_to money cover_rank
  rank-pairs rows₀ xs₀ a t want same {rows} {xs} q =
      let u : sum_by (only (source_of a) remaining) rows ≡ sum_by (unused_of a) xs = pairs-sum (pairs-to (source-same rows₀ xs₀ a) q) in
      let w : sum_by (only t remaining) rows ≡ sum_by want xs = pairs-sum (pairs-to same q) in
      rw (← u, ← w)
      (allocate-pairs (Midst rows₀ xs₀) (midst-keep rows₀ xs₀) t want same (moved_to t a rows)
      (allocate-pairs (Midst rows₀ xs₀) (midst-keep rows₀ xs₀) (source_of a) (unused_of a) (source-same rows₀ xs₀ a) (moved_to t a rows) q))

  pub settle-pairs : (a : ℕ) {rows : List Row} {xs : List Entry} → Rows R rows xs → Rows R (settle a rows) (settle_entries a xs)
  unfolding settle settle_ranks settle_entries
  settle-pairs a {rows} {xs} p =
      let lines : Pairs SameLine rows xs = pairs-to (λ r x m. line r x m.is) p in
      let q : Pairs (Midst rows xs) rows xs = pairs-to (λ r x m. record { named = m; held = held_same lines r x (line r x m.is) m.toll }) p in
      let s : Pairs (Midst rows xs) (settle a rows) (settle_entries a xs) =
      rank-pairs rows xs a (payable_rest rows a) (wanted_by_rest xs a) (λ r x m. (ranked-same rows xs a r x m).1)
      (rank-pairs rows xs a (payable_toll rows a) (wanted_by_toll xs a) (λ r x m. (ranked-same rows xs a r x m).0) q) in
      pairs-to (λ r x m. record { is = m.named.is; toll = rw (named-settle a rows) m.named.toll }) s

  pub settle_all-pairs : (n : ℕ) {rows : List Row} {xs : List Entry} → Rows R rows xs → Rows R (settle_accounts n rows) (settle_all_entries n xs)
  unfolding settle_accounts settle_all_entries
  settle_all-pairs zero p = p
  settle_all-pairs (suc n) p = settle-pairs (suc n) (settle_all-pairs n p)
