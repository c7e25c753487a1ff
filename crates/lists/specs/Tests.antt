-- The words in which rules are written: tests on numbers, conjunctions, tables of cases.
use Rattle.std.specs.Prelude.{ℕ, Bool, true, false, cond, ◌&&◌, List, [], ◌∷◌, eqb, leb}

infix 45 ◌is◌
infix 45 ◌from◌to◌
infixr 25 ◌implies◌
-- m equals n
abbrev pub ◌is◌ : ℕ → ℕ → Bool
m is n = eqb m n

-- x lies between lo and hi, both included
abbrev pub ◌from◌to◌ : ℕ → ℕ → ℕ → Bool
x from lo to hi = leb lo x && leb x hi

-- where the first test holds, so does the second
abbrev pub ◌implies◌ : Bool → Bool → Bool
true implies c = c
false implies c = true

-- every test of the list holds
unfoldable pub all_of : List Bool → Bool
all_of [] = true
all_of (t ∷ ts) = t && all_of ts

-- a table of cases: each a number and its test
abbrev pub Cases : Type 0
Cases = List (ℕ × Bool)

-- the number of the first case whose test holds, 0 where none does
unfoldable pub first : Cases → ℕ
first [] = 0
first (c ∷ cs) = cond c.1 c.0 (first cs)
