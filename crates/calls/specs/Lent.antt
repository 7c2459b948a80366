-- What a call on a record promises, and what a list keeps beside its record.
use Rattle.std.specs.Prelude.{◌≡◌, ℕ, cond, List, Option, eqb}
use Rattle.plant.specs.declared.Plant.{Plant}
use Rattle.choice.specs.Table.{Tabled}
use Rattle.rules.specs.declared.Monitor.{Monitor}
use Rattle.rules.specs.Rules.{Call, answer}
use Rattle.rules.specs.Rules as call
use Rattle.rules.specs.Record.{view_of, stepped}
use Rattle.calls.specs.declared.Kept.{Kept}
use Rattle.calls.specs.Work.{Needed, Granted}

-- A request: the kind and four bytes in the order of the call's arguments, unused ones ignored.
abbrev pub call_by : ℕ → ℕ → ℕ → ℕ → ℕ → Call
call_by kind a b c d =
    cond (eqb kind 0) (call.set a b c d)
    (cond (eqb kind 1) (call.start a b)
    (cond (eqb kind 2) (call.stop a)
    (cond (eqb kind 3) (call.gate a b c)
    call.unknown)))

-- Call c on record m answers this number and leaves this record, by the rules. The record has passed test 20 before.
pub record Does (m : Monitor) (c : Call) (number : ℕ) (left : Monitor) : Type 0 where
  pub answers : number ≡ answer m.plant (view_of m.plant m) c
  pub leaves : left ≡ stepped m.plant m c

-- What a list remembers of its plant from one request to the next: the table of choices, made at the first start that passes 26, and the groups
-- that each task needs.
pub record Tables (P : Plant) (made : Option (List (List (Option ℕ)))) (needs : List (Option ℕ)) : Type 0 where
  pub table : Tabled P made
  pub tasks : Needed P needs

-- What a list keeps beside its record is right: the tables of the plant, and the rights of the tasks that run.
pub record Keeps (m : Monitor) (kept : Kept) : Type 0 where
  pub tables : Tables m.plant kept.made kept.needs
  pub grants : Granted m.plant.task_rights m.running m.plant.skids kept.granted
