-- The record of zeros does not pass test 20: its counts are refused by 3. Assumes nothing.
use mathlib.Core.Path.{◌≡◌, refl}
use mathlib.Core.Bool.{false}
use Rattle.base.specs.Below.{all_below}
use Rattle.layout.specs.Header.{count_ok}
use Rattle.plant.specs.Plant.{no_plant}
use Rattle.plant.specs.Checks.{counts_in, plant_refusal}
use Rattle.rules.specs.Intact.{intact_views}
use Rattle.rules.specs.Record.{intact}
use Rattle.test20.specs.Zeros.{zero_monitor}

pub zeros_refused : intact no_plant zero_monitor ≡ false
unfolding intact_views plant_refusal counts_in count_ok all_below
zeros_refused = refl
