-- A list of calls in two parts is served as one list; so is a list with one call more at its end, for a loop over it. Assumes nothing.
use mathlib.Core.Path.{◌≡◌, refl, ap}
use mathlib.Core.List.{List, [], ◌∷◌, ◌++◌}
use Rattle.rules.specs.declared.Monitor.{Monitor}
use Rattle.rules.specs.Rules.{Call}
use Rattle.rules.specs.Record.{after, reply, replies, final}
use Rattle.rules.specs.Run.{InParts}

final_append : (cs ds : List Call) (m : Monitor) → final m (cs ++ ds) ≡ final (final m cs) ds
unfolding final
final_append [] ds m = refl
final_append (x ∷ cs) ds m = final_append cs ds (after m.plant m x)

replies_append : (cs ds : List Call) (m : Monitor) → replies m (cs ++ ds) ≡ replies m cs ++ replies (final m cs) ds
unfolding replies final
replies_append [] ds m = refl
replies_append (x ∷ cs) ds m = ap (λ l. reply m.plant m x ∷ l) (replies_append cs ds (after m.plant m x))

pub in_parts : (m : Monitor) (cs ds : List Call) → InParts m cs ds
in_parts m cs ds = record { same_answers = replies_append cs ds m; same_record = final_append cs ds m }

pub final_snoc : (cs : List Call) (m : Monitor) (c : Call) → final m (cs ++ (c ∷ [])) ≡ after (final m cs).plant (final m cs) c
unfolding final
final_snoc cs m c = final_append cs (c ∷ []) m

pub replies_snoc : (cs : List Call) (m : Monitor) (c : Call) → replies m (cs ++ (c ∷ [])) ≡ replies m cs ++ (reply (final m cs).plant (final m cs) c ∷ [])
unfolding replies
replies_snoc cs m c = replies_append cs (c ∷ []) m
