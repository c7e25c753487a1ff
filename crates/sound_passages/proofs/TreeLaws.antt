-- Laws of the trees: the way down to a passage number, and how they grow by a row.
use Prim.Native.Nat.{ℕ, ◌+◌, ◌*◌, ◌/◌, ◌%◌, ◌^◌, ◌≤◌, ◌<◌}
use native.Mathlib.Omega.{arith}
use native.Mathlib.Nat.{mod-lt, div-lt_iff_lt-mul, mul-le-mul, mul-lt-mul_of_pos_right}
use native.Mathlib.Decide.{ℕ_discrete}
use mathlib.Core.Path.{◌≡◌, refl, sym, ap, ◌∙◌}
use mathlib.Core.Bool.{false}
use mathlib.Core.List.{List}
use lib.IntN.{ℤ}
use lib.ListN.{length, get_or, set, replicate, length-set, length-replicate}
use lib.Seq.{get_or-set_same, get_or-set_other}
use Rattle.std.specs.Prelude.{Result, Ok, Err}
use Rattle.std.specs.Result.{result_ok}
use Rattle.lists.proofs.ListLaws.{zeros}
use Rattle.records.specs.Encoding.{row_at, rows_of}
use Rattle.records.specs.Limits.{most_rows}
use Rattle.sound_passages.specs.Trees.{passages_differ}
use Rattle.sound_passages.specs.Trees.{mix_of, root_of, IsToll, HasPassage, Leads, here, next, Kept, TreesOf, FreeCell, TakenBy, Sought, CellFor}
use Rattle.sound_passages.proofs.PassageLaws.{clash-same}

leads-zero : {space : ℕ} {cells : List ℕ} {j y c : ℕ} → Leads space cells j y c → get_or cells c 0 ≡ 0 → ⊥
leads-zero (here e) z = omega arith
leads-zero (next r e l) z = omega arith

leads-step : {space : ℕ} {cells : List ℕ} {j y c : ℕ} (r : ℕ) → Leads space cells j y c → get_or cells c 0 ≡ r + 1 → (j ≡ r → ⊥) → Leads space cells j (y / 2) (2 * space + 2 * r + y % 2)
leads-step r (here e) f q = absurd (q (omega arith))
leads-step r (next s e l) f q = let w : s ≡ r = omega arith in rw w at l

leads-keep : {space : ℕ} {cells u : List ℕ} {j y c : ℕ} → ((k v : ℕ) → get_or cells k 0 ≡ v + 1 → get_or u k 0 ≡ v + 1) → Leads space cells j y c → Leads space u j y c
leads-keep h (here e) = here (h _ _ e)
leads-keep h (next r e l) = next r (h _ _ e) (leads-keep h l)

-- ---- the way down

-- a toll of passage x lies below here, and what is put below here is on the way of x
pub record Way (space : ℕ) (t : List ℤ) (cells : List ℕ) (n x y c s : ℕ) : Type 0 where
  pub is : s ≡ get_or cells c 0
  pub low : c < 2 * space + 2 * n
  pub rest : (j : ℕ) → j < n → IsToll t j → HasPassage t j x → Leads space cells j y c
  pub up : (u : List ℕ) → ((k v : ℕ) → get_or cells k 0 ≡ v + 1 → get_or u k 0 ≡ v + 1) → Leads space u n y c → Kept space u n x

-- a root's product fits a word, and is a cell of the first half
pub root-fits : (space y : ℕ) → y < 4_294_967_296 → space ≤ most_rows → y * space < 2 ^ 64
root-fits space y b h = omega (arith, mul-le-mul {n₁ = y} {m₁ = space} {n₂ = 4_294_967_296} {m₂ = 8192} (omega arith) (omega arith))

pub root-low : (space y : ℕ) → y < 4_294_967_296 → 0 < space → root_of space y < 2 * space
root-low space y b h = (div-lt_iff_lt-mul {k = 2_147_483_648} {x = y * space} {y = 2 * space} (omega arith)).1 (omega (arith, mul-lt-mul_of_pos_right {m = y} {n = 4_294_967_296} {k = space} b h))

pub way-start : (space : ℕ) (t : List ℤ) (cells : List ℕ) (n x : ℕ) → TreesOf space t cells n → mix_of x < 4_294_967_296 → Way space t cells n x (mix_of x) (root_of space (mix_of x)) (get_or cells (root_of space (mix_of x)) 0)
way-start space t cells n x g b =
    record { is = refl; low = omega (arith, root-low space (mix_of x) b g.some); rest = λ j q k e. rw e at (g.kept j q k); up = λ u h l. l }

module _ (space : ℕ) (t : List ℤ) (cells : List ℕ) (n x y c s r : ℕ) (g : TreesOf space t cells n) (w : Way space t cells n x y c s) (e : s ≡ r + 1) where
  pub way-row : (r < n) × IsToll t r × (c < 2 * space + 2 * r)
  way-row = g.tolls c r (sym w.is ∙ e)

  pub way_next : (HasPassage t r x → ⊥) → Way space t cells n x (y / 2) (2 * space + 2 * r + y % 2) (get_or cells (2 * space + 2 * r + y % 2) 0)
  way_next q =
      record {
        is = refl;
        low = omega (arith, way-row.0, mod-lt y {m = 2} (omega arith));
        rest = λ j b k f. leads-step r (w.rest j b k f) (sym w.is ∙ e) (λ v. q (ap (λ (i : ℕ). (row_at t i).reference) (sym v) ∙ f));
        up = λ u h l. w.up u h (next r (h c r (sym w.is ∙ e)) l);
      }

  pub way-taken : HasPassage t r x → TakenBy t n x r
  way-taken q = record { early = way-row.0; toll = way-row.1; passage = q }

pub way-free : (space : ℕ) (t : List ℤ) (cells : List ℕ) (n x y c s : ℕ) → Way space t cells n x y c s → s ≡ 0 → FreeCell space t cells n x c
way-free space t cells n x y c s w z =
    record {
      low = w.low;
      free = sym w.is ∙ z;
      none = λ j q k e. leads-zero (w.rest j q k e) (sym w.is ∙ z);
      way = λ u h e. w.up u h (here e);
    }

-- what is sought, where the toll that has it is left out
pub sought-cell : (space : ℕ) (t : List ℤ) (cells : List ℕ) (n x : ℕ) (r : Result ℕ ℕ) → Sought space t cells n x r → CellFor space t cells n x (result_ok r)
sought-cell space t cells n x (Ok c) s = s
sought-cell space t cells n x (Err j) s = (j, s)

-- ---- growth

pub trees-none : (space : ℕ) (t : List ℤ) (a : ℕ) → a ≡ 4 * space → 0 < space → space ≤ most_rows → TreesOf space t (replicate a 0) 0
trees-none space t a e b f =
    record {
      some = b;
      few = f;
      size = length-replicate a 0 ∙ e;
      tolls = λ c j f. absurd (omega (arith, zeros a c));
      kept = λ j b. absurd (omega arith);
      clean = λ j k q b. absurd (omega arith);
    }

-- a row that clashes with none before it
clean-more : (t : List ℤ) (n : ℕ) → ((j k : ℕ) → j < k → k < n → IsToll t j → IsToll t k → HasPassage t j (row_at t k).reference → ⊥)
    → ((j : ℕ) → j < n → IsToll t j → IsToll t n → HasPassage t j (row_at t n).reference → ⊥)
    → (j k : ℕ) → j < k → k < n + 1 → IsToll t j → IsToll t k → HasPassage t j (row_at t k).reference → ⊥
clean-more t n c d j k q b x y e =
    elim (ℕ_discrete k n) [
      | yes v ↦ d j (omega arith) x (rw v at y) (rw v at e)
      | no v ↦ c j k q (omega arith) x y e
    ]

pub trees-skip : (space : ℕ) (t : List ℤ) (cells : List ℕ) (n : ℕ) → TreesOf space t cells n → (IsToll t n → ⊥) → TreesOf space t cells (n + 1)
trees-skip space t cells n g q =
    record {
      some = g.some;
      few = g.few;
      size = g.size;
      tolls = λ c j e. let a = g.tolls c j e in (omega (arith, a.0), a.1, a.2);
      kept = λ j b k.
          elim (ℕ_discrete j n) [
            | yes v ↦ absurd (q (rw v at k))
            | no v ↦ g.kept j (omega arith) k
          ];
      clean = clean-more t n g.clean (λ j b x y z. q y);
    }

kept_on : (cells : List ℕ) (n r : ℕ) → get_or cells r 0 ≡ 0 → (k v : ℕ) → get_or cells k 0 ≡ v + 1 → get_or (set cells r (n + 1)) k 0 ≡ v + 1
kept_on cells n r z k v e = rw (get_or-set_other cells r k (n + 1) 0 (λ w. let z' = rw (← w) at z in omega arith)) e

pub trees-add : (space : ℕ) (t : List ℤ) (cells : List ℕ) (n r : ℕ) → TreesOf space t cells n → n < space → IsToll t n → FreeCell space t cells n (row_at t n).reference r → TreesOf space t (set cells r (n + 1)) (n + 1)
trees-add space t cells n r g h q s =
    let d : r < length cells = omega (arith, g.size, s.low) in
    let same : get_or (set cells r (n + 1)) r 0 ≡ n + 1 = get_or-set_same cells r (n + 1) 0 d in
    record {
      some = g.some;
      few = g.few;
      size = length-set cells r (n + 1) ∙ g.size;
      tolls = λ c j e.
          elim (ℕ_discrete c r) [
            | yes v ↦ let w : n ≡ j = omega (arith, rw v at e, same) in (omega arith, rw w at q, rw (v, ← w) s.low)
            | no v ↦ let a = g.tolls c j (rw (get_or-set_other cells r c (n + 1) 0 v) at e) in (omega (arith, a.0), a.1, a.2)
          ];
      kept = λ j f k.
          elim (ℕ_discrete j n) [
            | yes v ↦ rw v (s.way _ (kept_on cells n r s.free) same)
            | no v ↦ leads-keep (kept_on cells n r s.free) (g.kept j (omega arith) k)
          ];
      clean = clean-more t n g.clean (λ j f x y z. s.none j f x z);
    }

pub taken-same : (t : List ℤ) (n j : ℕ) → IsToll t n → TakenBy t n (row_at t n).reference j → (m : ℕ) → n < m → passages_differ (rows_of t m) ≡ false
taken-same t n j q a m f = clash-same t m j n a.early f a.toll q a.passage
