-- Each requirement of the plant has how many levels its lattice has, and the others 255.
use Rattle.std.proofs.Common.{rules, tests}
use Rattle.base.proofs.FromFn.{made_front}
use Rattle.plant.specs.Plant.{levels_of}
use Rattle.stored.proofs.levels_by_requirement.Goals as goal

pub returns : goal.returns
returns c = made_front (levels_of c.args.p.now) 255 8 c.args.p.now.requirements c.requires.count_in c.from_fn.ensures.items (λ d y q k. search (rules, tests))
