-- The lines of an outcome have room: they are bounded by how many bytes a line can have. A refusal's line, or the answers' and then the rights'.
use Rattle.std.proofs.Common.{ℕ, ◌+◌, ◌*◌, ◌<◌, ◌≤◌, List, ◌++◌, length, get_or, Fits, w8, sym, arith}
use Rattle.std.proofs.Math.ListN.{length-append}
use Rattle.printing.specs.Text.{answer_lines, held_lines}
use Rattle.printing.proofs.Outcome.{refused_lines, parted_lines}
use Rattle.printing.proofs.Bounds.{refusal_short, answers_short, held_lines_short}
use Rattle.writer.specs.declared.Writer.{Writer}
use Rattle.writer.specs.Writing.{Room}
use Rattle.writer.proofs.Written.{room_first, room_rest, writes_as, writes_both}
use Rattle.lines.proofs.print_outcome.Goals as goal

module _ (answers held : List ℕ) (t : Writer) (a : (i : ℕ) → Fits w8 (get_or answers i 0)) (b : (i : ℕ) → Fits w8 (get_or held i 0)) (l : length answers < 100000) (d : t.at + length answers * 10 + 3069 ≤ length t.bytes.now) where
  room : Room (answer_lines answers (length answers) ++ held_lines held) t
  room = record {
    fits =
        omega
        (arith, length-append (answer_lines answers (length answers)) (held_lines held), answers_short answers (length answers) (λ i. omega (arith, a i)) l, held_lines_short held (λ i. omega (arith, b i)));
  }

pub put_refusal-requires : goal.put_refusal-requires
put_refusal-requires c = record { fits = omega (arith, refusal_short c.args.number (omega arith)) }

pub returns-then-number-ne0 : goal.returns-then-number-ne0
returns-then-number-ne0 c = writes_as (sym (refused_lines c.args.number _ _ c.if-number-ne0.true)) c.put_refusal.ensures

pub put_answers-requires-clause-room : goal.put_answers-requires-clause-room
put_answers-requires-clause-room c =
    room_first _ _ (room c.args.answers.now c.args.held.now _ c.type_inv.answers c.type_inv.held c.requires.in_range.0 c.requires.room)

pub put_held-requires-clause-room : goal.put_held-requires-clause-room
put_held-requires-clause-room c =
    room_rest _ _ (room c.args.answers.now c.args.held.now _ c.type_inv.answers c.type_inv.held c.requires.in_range.0 c.requires.room) c.put_answers.ensures

pub returns : goal.returns
returns c =
    let answers = c.args.answers.now in
    let held = c.args.held.now in
    rw (c.if-number-ne0.false)
    (writes_as (sym (parted_lines answers held))
    (writes_both _ _ (room answers held _ c.type_inv.answers c.type_inv.held c.requires.in_range.0 c.requires.room) c.put_answers.ensures c.put_held.ensures))
