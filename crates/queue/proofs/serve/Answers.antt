-- A request more: the record and the buffer are those of the next; at the end they are those of all requests.
use Rattle.std.proofs.Common.{List, arith, ap, ◌∙◌}
use Rattle.rules.specs.Rules.{Call}
use Rattle.rules.specs.Record.{replies, final}
use Rattle.base.specs.Overlay.{overlay}
use Rattle.queue.proofs.Turns.{first_state, first_buffer, next_state, next_buffer, all_made}
use Rattle.queue.proofs.serve.Goals as goal

pub loop-i-init : goal.loop-i-init
loop-i-init c =
    let m = c.args.tested.monitor in
    record { record_is = first_state m c.args.rs.now c.args.out.now; buffer_is = first_buffer m c.args.rs.now c.args.out.now }

pub loop-i-preserved : goal.loop-i-preserved
loop-i-preserved c =
    let m = c.args.tested.monitor in
    let rs = c.args.rs.now in
    let out = c.args.out.now in
    let v = c.loop-i.invariant in
    let l = c.loop-i-test.true in
    record {
      record_is = next_state m rs out c.loop-i.i l v.record_is c.advance.ensures;
      buffer_is = next_buffer m rs out c.loop-i.i l (omega (arith, l, c.requires)) v.record_is v.buffer_is c.advance.ensures;
    }

pub returns-clause-record_after : goal.returns-clause-record_after
returns-clause-record_after c =
    let m = c.args.tested.monitor in
    c.loop-i.invariant.record_is ∙ ap (final m) (all_made m c.args.rs.now c.args.out.now c.loop-i.i c.loop-i.auto.i-end c.loop-i-test.false)

pub returns-clause-answers : goal.returns-clause-answers
returns-clause-answers c =
    let m = c.args.tested.monitor in
    c.loop-i.invariant.buffer_is
    ∙ ap (λ (cs : List Call). overlay c.args.out.now 0 (replies m cs))
    (all_made m c.args.rs.now c.args.out.now c.loop-i.i c.loop-i.auto.i-end c.loop-i-test.false)
