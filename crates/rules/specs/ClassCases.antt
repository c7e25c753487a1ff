-- The class of a vehicle as the printed page has it (document 02, No. 3).
use Rattle.std.specs.Prelude.{ℕ, ◌&&◌, [], ◌∷◌, leb, ltb}
use Rattle.lists.specs.Tests.{◌is◌, Cases}
use Rattle.records.specs.Limits.{low_height}

-- "the cases of GEN-CLA that document 01 gives, in their order", a test each: "1 for up to 2 axles and at most 90 inches; 2 for 2 axles
-- above 90, for 3 and for 4 axles; 3 for 5 or more"
unfoldable pub class_cases : ℕ → ℕ → Cases
class_cases axles height =
    (1, leb axles 2 && leb height low_height)
    ∷ (2, axles is 2 && ltb low_height height)
    ∷ (2, axles is 3)
    ∷ (2, axles is 4)
    ∷ (3, leb 5 axles)
    ∷ []
