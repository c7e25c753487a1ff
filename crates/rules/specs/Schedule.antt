-- The schedule of stage length and fees, six rates, and the class of a vehicle (document 01, "The book" and event 2).
use Rattle.std.specs.Prelude.{ℕ, ◌+◌, ◌*◌, ◌-◌, Bool, ◌&&◌, ◌||◌, [], ◌∷◌, get_or, leb, ltb}
use Rattle.lists.specs.Tests.{◌is◌, ◌from◌to◌, Cases, first}
use Rattle.records.specs.Limits.{longest_stage, highest_fee, highest_rate, low_height}

-- "six rates: class 1 tag, class 1 plate, then classes 2 and 3 likewise"
pub record Rates : Type 0 where
  pub tag1 : ℕ
  pub plate1 : ℕ
  pub tag2 : ℕ
  pub plate2 : ℕ
  pub tag3 : ℕ
  pub plate3 : ℕ

-- "stage length L, fees for stages 2, 3, 4"
pub record Schedule : Type 0 where
  pub stage : ℕ
  pub fee2 : ℕ
  pub fee3 : ℕ
  pub fee4 : ℕ

-- ---- the class of a vehicle

-- "Class (001, GEN-CLA): 1 for up to 2 axles and at most 90 inches; 2 for 2 axles above 90, for 3 and for 4 axles; 3 for 5 or more"
unfoldable pub classes : ℕ → ℕ → Cases
classes axles height =
    (1, leb axles 2 && leb height low_height)
    ∷ (2, axles is 2 && ltb low_height height || axles is 3 || axles is 4)
    ∷ (3, leb 5 axles)
    ∷ []

-- 0 where no class applies
unfoldable pub class : ℕ → ℕ → ℕ
class axles height = first (classes axles height)

-- ---- amounts

-- the rate of a class 1 to 3 in "mode (1 tag, 2 plate)"
unfoldable pub rate : Rates → ℕ → ℕ → ℕ
rate r class mode = get_or (r.tag1 ∷ r.plate1 ∷ r.tag2 ∷ r.plate2 ∷ r.tag3 ∷ r.plate3 ∷ []) (2 * class + mode - 3) 0

-- the fee for a stage: none before stage 2
unfoldable pub stage_fee : Schedule → ℕ → ℕ
stage_fee s k = get_or (0 ∷ 0 ∷ s.fee2 ∷ s.fee3 ∷ s.fee4 ∷ []) k 0

-- ---- ranges: "L (1 to 365), fees (0 to 100,000 each), six rates (1 to 1,000,000)"

-- "six rates (1 to 1,000,000)"
unfoldable pub rates_fit : Rates → Bool
rates_fit r =
    r.tag1 from 1 to highest_rate && r.plate1 from 1 to highest_rate && r.tag2 from 1 to highest_rate
    && r.plate2 from 1 to highest_rate && r.tag3 from 1 to highest_rate && r.plate3 from 1 to highest_rate

-- "stage length L (1 to 365), fees for stages 2, 3, 4 (0 to 100,000 each)"
unfoldable pub schedule_fits : Schedule → Bool
schedule_fits s =
    s.stage from 1 to longest_stage && leb s.fee2 highest_fee && leb s.fee3 highest_fee && leb s.fee4 highest_fee
