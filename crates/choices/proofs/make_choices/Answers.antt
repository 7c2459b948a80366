-- The table after a step has one tank more; at the end it has the choices.
use Rattle.std.proofs.Common.{◌≡◌, ℕ, ◌-◌, ◌<◌, subst, ap, ◌∙◌, arith}
use Rattle.plant.specs.Plant.{group_of}
use Rattle.choice.specs.Table.{Put}
use Rattle.choice.proofs.Table.{MadeFrom, made_none, made_next, made_all}
use Rattle.choices.proofs.make_choices.Goals as goal

pub loop-o-init : goal.loop-o-init
loop-o-init c = made_none c.args.p.now

pub loop-o-preserved : goal.loop-o-preserved
loop-o-preserved c =
    let P = c.args.p.now in
    let o = c.loop-o.o - 1 in
    let k : o < P.tanks = omega (arith, c.loop-o-test.true) in
    made_next P c.requires.tanks_there o _ (rw (c.of-places.ensures, c.from-i.ensures) at c.near.ensures) c.loop-o.o (omega (arith, c.loop-o-test.true)) k _ _ c.loop-o.invariant
    (subst (λ (g : ℕ). Put g c.near.result o c.loop-o.made c.put_choices.new.made) (c.group_of.ensures ∙ ap (group_of P) c.from-i.ensures) c.put_choices.ensures)

pub returns : goal.returns
returns c =
    let e : c.loop-o.o ≡ 0 = omega (arith, c.loop-o-test.false) in
    made_all c.args.p.now c.loop-o.made c.requires.groups_fit (subst (λ (o : ℕ). MadeFrom c.args.p.now o c.loop-o.made) e c.loop-o.invariant)
