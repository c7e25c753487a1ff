-- A kind that is none of the events' has no form.
use mathlib.Core.Path.{◌≡◌, refl}
use mathlib.Core.Logic.{◌≢◌}
use mathlib.Core.Bool.{false}
use Prim.Native.Nat.{ℕ, zero, suc}
use Rattle.rules.specs.Book.{Instruction}
use Rattle.rules.specs.Refusals.{form_of, well_formed}

pub no-form : (k : ℕ) (e : Instruction) → k ≢ 1 → k ≢ 2 → k ≢ 3 → k ≢ 4 → k ≢ 5 → k ≢ 6 → k ≢ 7 → k ≢ 8 → k ≢ 9 → k ≢ 10 → k ≢ 11 → k ≢ 12
    → form_of k e ≡ false
unfolding form_of
no-form zero e a b c d f g h i j l m n = refl
no-form (suc zero) e a b c d f g h i j l m n = absurd (a refl)
no-form (suc (suc zero)) e a b c d f g h i j l m n = absurd (b refl)
no-form (suc (suc (suc zero))) e a b c d f g h i j l m n = absurd (c refl)
no-form (suc (suc (suc (suc zero)))) e a b c d f g h i j l m n = absurd (d refl)
no-form (suc (suc (suc (suc (suc zero))))) e a b c d f g h i j l m n = absurd (f refl)
no-form (suc (suc (suc (suc (suc (suc zero)))))) e a b c d f g h i j l m n = absurd (g refl)
no-form (suc (suc (suc (suc (suc (suc (suc zero))))))) e a b c d f g h i j l m n = absurd (h refl)
no-form (suc (suc (suc (suc (suc (suc (suc (suc zero)))))))) e a b c d f g h i j l m n = absurd (i refl)
no-form (suc (suc (suc (suc (suc (suc (suc (suc (suc zero))))))))) e a b c d f g h i j l m n = absurd (j refl)
no-form (suc (suc (suc (suc (suc (suc (suc (suc (suc (suc zero)))))))))) e a b c d f g h i j l m n = absurd (l refl)
no-form (suc (suc (suc (suc (suc (suc (suc (suc (suc (suc (suc zero))))))))))) e a b c d f g h i j l m n = absurd (m refl)
no-form (suc (suc (suc (suc (suc (suc (suc (suc (suc (suc (suc (suc zero)))))))))))) e a b c d f g h i j l m n = absurd (n refl)
no-form (suc (suc (suc (suc (suc (suc (suc (suc (suc (suc (suc (suc (suc k))))))))))))) e a b c d f g h i j l m n = refl

-- of a kind that is known, its form
pub well_formed-of : (e : Instruction) (k : ℕ) → e.kind ≡ k → form_of k e ≡ well_formed e
unfolding well_formed
well_formed-of e k q = rw q
