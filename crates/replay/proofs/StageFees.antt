-- The fees that are due by a number of open days, and those that one more open day adds.
use mathlib.Core.Path.{◌≡◌, refl, sym, ap₂, ◌∙◌}
use mathlib.Core.Bool.{Bool, true, false, cond, ◌&&◌}
use Prim.Native.Nat.{ℕ, ◌+◌, ◌*◌, ◌/◌, ◌≤◌, ◌<◌, min}
use native.Mathlib.Nat.{le-div_iff_mul-le}
use native.Mathlib.Omega.{arith}
use native.Mathlib.Decide.{ℕ_discrete, dec_lt}
use mathlib.Core.List.{List, [], ◌++◌, append-nil, append_assoc}
use lib.Dec.{leb, ltb}
use borrow.Author.Tests.{le-leb, lt-leb, eq-eqb, ne_eqb}
use Rattle.lists.specs.Tests.{◌is◌}
use Rattle.lists.specs.Lists.{one, gather_from}
use Rattle.rules.specs.Schedule.{Schedule}
use Rattle.rules.specs.Rows.{last_stage}
use Rattle.replay.specs.Demand3.{stage_fees}

-- stage k is reached by n open days
pub stage-test : (L k n : ℕ) → 1 ≤ L → k ≤ last_stage → leb k (min last_stage (n / L)) ≡ leb (k * L) n
stage-test L k n l h = go (dec_lt n (k * L))
  where
    go : Dec (n < k * L) → leb k (min last_stage (n / L)) ≡ leb (k * L) n
    go (yes q) = lt-leb k (min last_stage (n / L)) (not_yet (dec_lt (n / L) k)) ∙ sym (lt-leb (k * L) n q)
      where
        not_yet : Dec (n / L < k) → min last_stage (n / L) < k
        not_yet (yes d) = omega arith
        not_yet (no d) = let z : k * L ≤ n = (le-div_iff_mul-le {x = k} {y = n} l).0 (omega arith) in absurd (omega arith)
    go (no q) = let z : k ≤ n / L = (le-div_iff_mul-le {x = k} {y = n} l).1 (omega arith) in le-leb k (min last_stage (n / L)) (omega arith) ∙ sym (le-leb (k * L) n (omega arith))

-- the nonzero fees of the stages that a test passes, with their days
abbrev pub fee_if : Bool → ℕ → ℕ → List (ℕ × ℕ)
fee_if v fee day = one (v && ltb 0 fee) (fee, day)

unfoldable pub fees_at : Schedule → (ℕ → Bool) → (ℕ → ℕ) → List (ℕ × ℕ)
fees_at s v d = fee_if (v 2) s.fee2 (d 2) ++ fee_if (v 3) s.fee3 (d 3) ++ fee_if (v 4) s.fee4 (d 4)

pub stage_fees-at : (s : Schedule) (L n : ℕ) (d : ℕ → ℕ) → 1 ≤ L → stage_fees s (min last_stage (n / L)) d ≡ fees_at s (λ k. leb (k * L) n) d
unfolding stage_fees gather_from fees_at
stage_fees-at s L n d l = rw (stage-test L 2 n l (omega arith), stage-test L 3 n l (omega arith), stage-test L 4 n l (omega arith)) (simp (append-nil, append_assoc))

-- days that agree where the test passes
pub fees_at-same : (s : Schedule) (v : ℕ → Bool) (d e : ℕ → ℕ) → ((k : ℕ) → 2 ≤ k → v k ≡ true → d k ≡ e k) → fees_at s v d ≡ fees_at s v e
unfolding fees_at
fees_at-same s v d e f =
    ap₂ {C = List (ℕ × ℕ)} ◌++◌ (ap₂ {C = List (ℕ × ℕ)} ◌++◌ (go 2 s.fee2 (v 2) (omega arith) refl) (go 3 s.fee3 (v 3) (omega arith) refl)) (go 4 s.fee4 (v 4) (omega arith) refl)
  where
    go : (k fee : ℕ) (w : Bool) → 2 ≤ k → v k ≡ w → fee_if w fee (d k) ≡ fee_if w fee (e k)
    go k fee true h q = rw (f k h q)
    go k fee false h q = refl

pub fees_at-none : (s : Schedule) (d : ℕ → ℕ) → fees_at s (λ k. false) d ≡ []
unfolding fees_at
fees_at-none s d = refl

-- ---- one more open day

module _ (s : Schedule) (L n today : ℕ) (d : ℕ → ℕ) (l : 1 ≤ L) where
  abbrev later : ℕ → ℕ
  later k = cond (leb (k * L) n) (d k) today

  still : (k : ℕ) → (n + 1 ≡ k * L → ⊥) → leb (k * L) (n + 1) ≡ leb (k * L) n
  still k q = by (dec_lt n (k * L))
    where
      by : Dec (n < k * L) → leb (k * L) (n + 1) ≡ leb (k * L) n
      by (yes h) = lt-leb (k * L) (n + 1) (omega arith) ∙ sym (lt-leb (k * L) n h)
      by (no h) = le-leb (k * L) (n + 1) (omega arith) ∙ sym (le-leb (k * L) n (omega arith))

  -- a fee that is due already, not due yet, or due now
  abbrev old : ℕ → ℕ → List (ℕ × ℕ)
  old k fee = fee_if (leb (k * L) n) fee (d k)

  abbrev grown : ℕ → ℕ → List (ℕ × ℕ)
  grown k fee = fee_if (leb (k * L) (n + 1)) fee (later k)

  abbrev new : ℕ → ℕ → List (ℕ × ℕ)
  new k fee = fee_if (n + 1 is k * L) fee today

  kept : (k fee : ℕ) → (n + 1 ≡ k * L → ⊥) → grown k fee ≡ old k fee
  kept k fee q = rw (still k q) (go (leb (k * L) n))
    where
      go : (w : Bool) → fee_if w fee (cond w (d k) today) ≡ fee_if w fee (d k)
      go true = refl
      go false = refl

  quiet : (k fee : ℕ) → (n + 1 ≡ k * L → ⊥) → new k fee ≡ []
  quiet k fee q = rw (ne_eqb (n + 1) (k * L) q)

  not_yet : (k fee : ℕ) → n < k * L → old k fee ≡ []
  not_yet k fee q = rw (lt-leb (k * L) n q)

  reached : (k fee : ℕ) → n + 1 ≡ k * L → grown k fee ≡ new k fee
  reached k fee q = rw (le-leb (k * L) (n + 1) (omega arith), lt-leb (k * L) n (omega arith), eq-eqb (n + 1) (k * L) q)

  pub fees_at-more : fees_at s (λ k. leb (k * L) (n + 1)) later ≡ fees_at s (λ k. leb (k * L) n) d ++ fees_at s (λ k. n + 1 is k * L) (λ k. today)
  unfolding fees_at
  fees_at-more = go (ℕ_discrete (n + 1) (2 * L)) (ℕ_discrete (n + 1) (3 * L)) (ℕ_discrete (n + 1) (4 * L))
    where
      f : ℕ
      f = s.fee2

      g : ℕ
      g = s.fee3

      h : ℕ
      h = s.fee4

      go : Dec (n + 1 ≡ 2 * L) → Dec (n + 1 ≡ 3 * L) → Dec (n + 1 ≡ 4 * L)
          → grown 2 f ++ grown 3 g ++ grown 4 h ≡ (old 2 f ++ old 3 g ++ old 4 h) ++ (new 2 f ++ new 3 g ++ new 4 h)
      go (yes q) u w =
          let v : n + 1 ≡ 3 * L → ⊥ = λ z. omega arith in
          let x : n + 1 ≡ 4 * L → ⊥ = λ z. omega arith in
          rw (reached 2 f q, kept 3 g v, kept 4 h x, not_yet 2 f (omega arith), not_yet 3 g (omega arith), not_yet 4 h (omega arith), quiet 3 g v, quiet 4 h x)
      go (no q) (yes u) w =
          let x : n + 1 ≡ 4 * L → ⊥ = λ z. omega arith in
          rw (kept 2 f q, reached 3 g u, kept 4 h x, not_yet 3 g (omega arith), not_yet 4 h (omega arith), quiet 2 f q, quiet 4 h x) (simp append-nil)
      go (no q) (no u) (yes w) = rw (kept 2 f q, kept 3 g u, reached 4 h w, not_yet 4 h (omega arith), quiet 2 f q, quiet 3 g u) (simp append-nil)
      go (no q) (no u) (no w) = rw (kept 2 f q, kept 3 g u, kept 4 h w, quiet 2 f q, quiet 3 g u, quiet 4 h w) (sym (append-nil _))
