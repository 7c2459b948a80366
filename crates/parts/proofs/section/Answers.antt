-- The place that was found lies within the file, and its part is the section.
use native.Mathlib.Nat.{add-sub_cancel_left}
use Rattle.layout.proofs.Placed.{place_part}
use Rattle.parts.proofs.section.Goals as goal

pub returns : goal.returns
returns c = simp add-sub_cancel_left (place_part _ _ c.section_place-begin.ensures)
