-- Each case of a record comes out as it says: one `refl` for each, in the order of the list. Assumes nothing.
use mathlib.Core.Path.{refl}
use Prim.Native.Nat.{ℕ}
use Rattle.rules.specs.declared.Monitor.{Monitor}
use Rattle.rules.specs.Rules.{conditions, refusal, accepted_answer, answer}
use Rattle.rules.specs.Intact.{level_ok, task_ok, tank_ok, intact_view, intact_views}
use Rattle.rules.specs.Record.{fresh, view_of, reply}
use Rattle.inputs.specs.Case.{Case, EachRight, AllRight}
use Rattle.inputs.proofs.Read.{reads}
use Rattle.record_cases.specs.Records.{record20, parts, skid1, beyond, free_past, counted}
use Rattle.record_cases.specs.Tested.{tested, tested_plant_cases, part_cases, skid_cases, tank_cases, last_part_cases, free_cases, range_cases, cases_of_records}

-- whoever opens this opens every definition by which a case of a record computes
unfoldable pub computed : Monitor → ℕ → Case
unfolding reads conditions refusal accepted_answer answer level_ok task_ok tank_ok intact_view intact_views fresh view_of reply record20 parts skid1 beyond free_past counted tested
computed m number = tested m number

tested_plant_right : EachRight tested_plant_cases
unfolding computed tested_plant_cases
tested_plant_right = (refl, (refl, (refl, (refl, (refl, (refl, (refl, (refl, (refl, (refl, (refl, (refl, tt))))))))))))

part_right : EachRight part_cases
unfolding computed part_cases
part_right = (refl, (refl, (refl, (refl, (refl, (refl, (refl, (refl, (refl, tt)))))))))

skid_right : EachRight skid_cases
unfolding computed skid_cases
skid_right = (refl, (refl, (refl, (refl, (refl, (refl, (refl, (refl, (refl, (refl, tt))))))))))

tank_right : EachRight tank_cases
unfolding computed tank_cases
tank_right = (refl, (refl, (refl, (refl, (refl, (refl, (refl, tt)))))))

last_part_right : EachRight last_part_cases
unfolding computed last_part_cases
last_part_right = (refl, (refl, (refl, (refl, (refl, (refl, (refl, (refl, tt))))))))

free_right : EachRight free_cases
unfolding computed free_cases
free_right = (refl, (refl, (refl, (refl, tt))))

range_right : EachRight range_cases
unfolding computed range_cases
range_right = (refl, (refl, (refl, (refl, tt))))

pub records_right : AllRight cases_of_records
unfolding cases_of_records
records_right = (tested_plant_right, (part_right, (skid_right, (tank_right, (last_part_right, (free_right, (range_right, tt)))))))
