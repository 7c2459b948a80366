-- The held line, then the rights' lines: one part behind the other.
use Rattle.std.proofs.Common.{ℕ, ◌≡◌, ◌+◌, ◌-◌, ◌*◌, ◌/◌, ◌≤◌, List, length, take, drop, sym, arith}
use Rattle.std.proofs.Math.ListN.{length-drop}
use Rattle.layout.specs.Layout.{byte_at}
use Rattle.printing.specs.Text.{held_line, right_lines}
use Rattle.printing.proofs.Outcome.{front_rights}
use Rattle.writer.proofs.Written.{room_as, room_rest, writes_as, writes_both}
use Rattle.lines.proofs.put_held.Goals as goal

-- the rights that are lent are as many as the count says
counted : (held : List ℕ) (n : ℕ) → n ≡ byte_at held 0 → 1 + byte_at held 0 * 3 ≤ length held → right_lines (take (1 + n * 3 - 1) (drop 1 held)) (length (take (1 + n * 3 - 1) (drop 1 held)) / 3) ≡ right_lines (drop 1 held) (byte_at held 0)
counted held n e h = front_rights (drop 1 held) (byte_at held 0) (1 + n * 3 - 1) (omega arith) (omega (arith, length-drop 1 held))

pub put_rights-requires : goal.put_rights-requires
put_rights-requires c =
    room_as (sym (counted c.args.held.now _ c.from.ensures c.requires.rights_within))
    (room_rest (held_line _) (right_lines _ _) c.requires.room c.put_labelled.ensures)

pub returns : goal.returns
returns c =
    writes_both (held_line _) (right_lines _ _) c.requires.room c.put_labelled.ensures
    (writes_as (counted c.args.held.now _ c.from.ensures c.requires.rights_within) c.put_rights.ensures)
