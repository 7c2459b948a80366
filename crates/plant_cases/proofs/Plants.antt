-- Each case of calls on a plant with other counts comes out as it says: one `refl` for each, in the order of the list. Assumes nothing.
use mathlib.Core.Path.{refl}
use Rattle.inputs.specs.Case.{EachRight, AllRight}
use Rattle.call_cases.proofs.Calls.{computed}
use Rattle.plant_cases.specs.PlantCases.{wide_calls, other_count_cases, cases_of_plants}

other_count_right : EachRight other_count_cases
unfolding computed wide_calls other_count_cases
other_count_right = (refl, (refl, (refl, (refl, tt))))

pub plants_right : AllRight cases_of_plants
unfolding cases_of_plants
plants_right = (other_count_right, tt)
