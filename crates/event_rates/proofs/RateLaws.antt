-- The rates of a header's lists: where they start, class by class, tag before plate.
use mathlib.Core.Path.{◌≡◌, refl, sym, ap, ◌∙◌}
use mathlib.Core.Bool.{false}
use mathlib.Core.Logic.{◌≢◌}
use Prim.Native.Nat.{ℕ, zero, suc, ◌+◌, ◌*◌, ◌-◌, ◌≤◌, ◌<◌}
use native.Mathlib.Omega.{arith}
use mathlib.Core.List.{List, [], ◌∷◌}
use lib.IntN.{ℤ}
use lib.ListN.{get_or}
use Rattle.lists.specs.Tests.{◌is◌}
use Rattle.records.specs.Layout.{header_lists, header_rates, later_lists, list_width, list_rates_place, rates_width}
use Rattle.records.specs.Encoding.{word}
use Rattle.rules.specs.Schedule.{Rates, rate}
use Rattle.rules.specs.RateLists.{RateList, in_force}
use Rattle.rules.specs.Tables.{rates_from, first_list_in, list_from, lists_in}
use Rattle.table_lists.specs.HeaderLists.{OnDay}
use Rattle.table_lists.proofs.OnDayLaws.{later-list}
use Rattle.event_rates.specs.declared.Class.{Class}
use Rattle.event_rates.specs.declared.Class.TheVariants.{One, Two, Three}
use Rattle.event_rates.specs.Classes.{class_number}
use Rattle.event_rates.specs.Places.{RatesAt}

-- ---- where they start

pub first-rates : RatesAt 0 header_rates
first-rates = record { within = omega arith; rates = λ h l. unfold lists_in first_list_in in refl }

pub later-rates : (n : ℕ) → n ≢ 0 → n ≤ later_lists → RatesAt n (header_lists + (n - 1) * list_width + list_rates_place)
later-rates zero some few = absurd (some refl)
later-rates (suc n) some few =
    let z : suc n - 1 ≡ n = omega arith in
    rw z (record { within = omega arith; rates = λ h l. sym (ap (λ (x : RateList). x.rates) (later-list h n (omega arith)) ∙ (unfold list_from in refl)) })

-- ---- the six rates, from the first on

in_order : (h : List ℤ) (p k : ℕ) → k < rates_width
    → word h (p + k)
    ≡ get_or ((rates_from h p).tag1 ∷ (rates_from h p).plate1 ∷ (rates_from h p).tag2 ∷ (rates_from h p).plate2 ∷ (rates_from h p).tag3 ∷ (rates_from h p).plate3 ∷ []) k 0
unfolding rates_from
in_order h p zero l = refl
in_order h p (suc zero) l = refl
in_order h p (suc (suc zero)) l = refl
in_order h p (suc (suc (suc zero))) l = refl
in_order h p (suc (suc (suc (suc zero)))) l = refl
in_order h p (suc (suc (suc (suc (suc zero))))) l = refl
in_order h p (suc (suc (suc (suc (suc (suc k)))))) l = absurd (omega arith)

pub rate-place : (h : List ℤ) (p class mode : ℕ) → 1 ≤ class → class ≤ 3 → 1 ≤ mode → mode ≤ 2
    → word h (p + (2 * (class - 1) + (mode - 1))) ≡ rate (rates_from h p) class mode
unfolding rate
rate-place h p class mode a b c d =
    let e : 2 * (class - 1) + (mode - 1) ≡ 2 * class + mode - 3 = omega arith in
    rw e (in_order h p (2 * class + mode - 3) (omega arith))

-- ---- the rate of the list in force

pub rate-on : (h : List ℤ) (day n p class mode : ℕ) → OnDay h day n → RatesAt n p → 1 ≤ class → class ≤ 3 → 1 ≤ mode → mode ≤ 2
    → word h (p + (2 * (class - 1) + (mode - 1))) ≡ rate (in_force (lists_in h) day).rates class mode
rate-on h day n p class mode o r a b c d =
    rate-place h p class mode a b c d
    ∙ ap (λ (x : Rates). rate x class mode) (r.rates h o.within ∙ sym (ap (λ (x : RateList). x.rates) o.list))

-- ---- the numbers of the classes

pub class_number-from_1 : (k : Class) → (1 ≤ class_number k) × (class_number k ≤ 3)
class_number-from_1 One = (omega arith, omega arith)
class_number-from_1 Two = (omega arith, omega arith)
class_number-from_1 Three = (omega arith, omega arith)

pub class_number-not_0 : (k : Class) → class_number k is 0 ≡ false
class_number-not_0 One = refl
class_number-not_0 Two = refl
class_number-not_0 Three = refl
