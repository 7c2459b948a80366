-- Each table is full where each pair has a join, and the turned sets' joins are the meets.
use Rattle.std.proofs.Common.{◌≡◌, ◌≤◌, List, ℕ, Bool, ◌∙◌, length, take}
use Rattle.base.proofs.Both.{both_on, both_off}
use Rattle.lattice.specs.Levels.{joined, complete}
use Rattle.lattice.specs.Sets.{under_in}
use Rattle.lattice.specs.Table.{join_table, table_full}
use Rattle.lattice.proofs.Meets.{turned_joined}
use Rattle.lattice.proofs.Tables.{front_joined}
use Rattle.joins.proofs.is_complete.Goals as goal

-- r is what the test of the front of the table t returned, which is the table of joins of the n levels of the sets s
found : (n : ℕ) (s : List ℕ) {r : Bool} {t : List (List ℕ)} {m k : ℕ} {x : List ℕ} → n ≤ 16 → m ≡ n → k ≡ n → x ≡ s → r ≡ table_full (length (take m t)) (take m t) → t ≡ join_table k (under_in x) → r ≡ joined n (under_in s)
found n s b e f g p q = front_joined n (under_in s) b (rw e at p) (rw (f, g) at q)

pub returns-then-is_full : goal.returns-then-is_full
unfolding complete
returns-then-is_full c =
    let l = c.args.lattice.now in
    let y = c.requires.clean in
    let levels = c.of-levels.ensures in
    let other = c.turned.ensures in
    both_on _ _
    (found l.n l.sets y.at_most_16 levels.count levels.count levels.above c.is_full.ensures c.table-joins.ensures)
    c.if-is_full.true
    (found l.n _ y.at_most_16 levels.count (other.count ∙ levels.count) (other.above ∙ levels.under) c.is_full-then-is_full.ensures c.table-meets.ensures
    ∙ turned_joined l.sets l.n y)

pub returns-else-is_full : goal.returns-else-is_full
unfolding complete
returns-else-is_full c =
    let l = c.args.lattice.now in
    let levels = c.of-levels.ensures in
    both_off _ _ (found l.n l.sets c.requires.clean.at_most_16 levels.count levels.count levels.above c.is_full.ensures c.table-joins.ensures) c.if-is_full.false
