-- Worked texts: the paper's session, whose ten answers and three rights make its fourteen lines; no requests; refusals. Assumes nothing.
use mathlib.Core.Path.{◌≡◌, refl}
use mathlib.Core.List.{[], ◌∷◌}
use Rattle.base.specs.Collect.{collect}
use Rattle.printing.specs.Decimal.{decimal, digits_in}
use Rattle.printing.specs.Text.{codes, outcome_lines}

pub session_text : outcome_lines 0 10 (27 ∷ 0 ∷ 0 ∷ 0 ∷ 0 ∷ 0 ∷ 33 ∷ 26 ∷ 0 ∷ 25 ∷ 3 ∷ 0 ∷ 0 ∷ 0 ∷ 0 ∷ 2 ∷ 0 ∷ 0 ∷ 2 ∷ 2 ∷ []) ≡ codes "1 27\n2 0\n3 0\n4 0\n5 0\n6 0\n7 33\n8 26\n9 0\n10 25\nheld 3\n0 0 0\n0 2 0\n0 2 2\n"
unfolding outcome_lines collect decimal digits_in
session_text = refl

pub no_requests_text : outcome_lines 0 0 (0 ∷ []) ≡ codes "held 0\n"
unfolding outcome_lines collect decimal digits_in
no_requests_text = refl

pub refusal_texts : (outcome_lines 34 0 [] ≡ codes "requests 34\n") × (outcome_lines 7 0 [] ≡ codes "plant 7\n")
unfolding outcome_lines decimal digits_in
refusal_texts = (refl, refl)
