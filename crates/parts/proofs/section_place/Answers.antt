-- Where the section begins and how long it is, and an empty part on refusal.
use Rattle.std.proofs.Common.{◌∙◌}
use Rattle.refusal.proofs.NotZero.{number_not_0}
use Rattle.layout.proofs.Placed.{place_empty, place_refused, place_known}
use Rattle.layout.proofs.Sections.{number_below}
use Rattle.parts.proofs.Beyond.{place_beyond}
use Rattle.parts.proofs.section_place.Goals as goal
use Rattle.parts.proofs.section_place.Goals.{in_default-via-in-Ok+in_default, in_default-via-in_default}

pub returns-in-Ok-Ok : goal.returns-in-Ok-Ok
returns-in-Ok-Ok c =
    let found = c.in-Ok-Ok in
    rw (← found.ensures') (place_known _ _ found.ensures.number found.ensures.same (number_below found.section) c.place.ensures.begin c.place.ensures.length)

pub returns-in_default : goal.returns-in_default
returns-in_default c = place_empty c.default.ensures ∙ elim c.in_default.branch [
  | in_default-via-in-Ok+in_default w ↦ place_beyond _ _ w.in_default.ensures'.1
  | in_default-via-in_default w ↦ place_refused _ _ w.in_default.ensures.number (number_not_0 w.in_default.field-0-0)
]
