-- The plant files that the cases go through. The session is the paper's own; the others are one step away from it, or have counts, links and high
-- bytes that tell a misreading from the rule.
use Rattle.std.specs.Prelude.{ℕ, ◌-◌, ◌/◌, ◌%◌, List, [], ◌∷◌, ◌++◌, replicate}
use Rattle.std.proofs.Math.ListN as ListN

-- the paper's plant, 132 bytes
unfoldable pub session : List ℕ
session =
    -- the header
    1 ∷ 2 ∷ 2 ∷ 2 ∷ 4 ∷ 2 ∷ 2 ∷ 0 ∷ 24 ∷ 0 ∷ 92 ∷ 0 ∷ 96 ∷ 0 ∷ 100 ∷ 0 ∷ 108 ∷ 0 ∷ 128 ∷ 0 ∷ 132 ∷ 0 ∷ 0 ∷ 0
    -- lattice 0: 3 levels, sets 7, 6, 4
    ∷ 3 ∷ 0 ∷ 7 ∷ 0 ∷ 6 ∷ 0 ∷ 4 ∷ 0 ∷ 0 ∷ 0 ∷ 0 ∷ 0 ∷ 0 ∷ 0 ∷ 0 ∷ 0 ∷ 0 ∷ 0 ∷ 0 ∷ 0 ∷ 0 ∷ 0 ∷ 0 ∷ 0 ∷ 0 ∷ 0 ∷ 0 ∷ 0 ∷ 0 ∷ 0 ∷ 0 ∷ 0 ∷ 0 ∷ 0
    -- lattice 1: 4 levels, sets 15, 10, 12, 8
    ∷ 4 ∷ 0 ∷ 15 ∷ 0 ∷ 10 ∷ 0 ∷ 12 ∷ 0 ∷ 8 ∷ 0 ∷ 0 ∷ 0 ∷ 0 ∷ 0 ∷ 0 ∷ 0 ∷ 0 ∷ 0 ∷ 0 ∷ 0 ∷ 0 ∷ 0 ∷ 0 ∷ 0 ∷ 0 ∷ 0 ∷ 0 ∷ 0 ∷ 0 ∷ 0 ∷ 0 ∷ 0 ∷ 0 ∷ 0
    -- requirements
    ∷ 0 ∷ 0 ∷ 1 ∷ 0
    -- groups
    ∷ 0 ∷ 0 ∷ 1 ∷ 0
    -- tanks: group, level
    ∷ 0 ∷ 0 ∷ 0 ∷ 2 ∷ 1 ∷ 1 ∷ 1 ∷ 2
    -- tasks: names, rights
    ∷ 3 ∷ 0 ∷ 1 ∷ 5 ∷ 0 ∷ 0 ∷ 0 ∷ 0 ∷ 0 ∷ 0 ∷ 1 ∷ 0 ∷ 2 ∷ 0 ∷ 0 ∷ 0 ∷ 0 ∷ 0 ∷ 0 ∷ 0
    -- skids
    ∷ 3 ∷ 0 ∷ 2 ∷ 0
    ∷ []

-- The same plant with the two requirements' lattices exchanged, by rules alone and not from the paper: a lattice is then not found by its
-- requirement's number, and the levels of both differ.
unfoldable pub crossed : List ℕ
crossed = ListN.set (ListN.set session 92 1) 94 0

-- The same plant with its tanks renumbered, group 1's first: a skid's rights in the order of its groups, or by right before tank, would stand
-- in another order than by tank.
unfoldable pub renumbered : List ℕ
renumbered = ListN.set (ListN.set (ListN.set (ListN.set (ListN.set (ListN.set (ListN.set (ListN.set session 100 1) 101 1) 102 1) 103 2) 104 0) 105 0) 106 0) 107 2

-- The same plant with tank 0 at level 1, so that group 0 can lack a tank while group 1's level is unset.
unfoldable pub tank0_at_level1 : List ℕ
tank0_at_level1 = ListN.set session 101 1

-- the paper's plant with one byte or two changed
abbrev pub with1 : ℕ → ℕ → List ℕ
with1 i v = ListN.set session i v

abbrev pub with2 : ℕ → ℕ → ℕ → ℕ → List ℕ
with2 i v j w = ListN.set (with1 i v) j w

-- lattice 1 with no two levels comparable: an order, and no joins
unfoldable pub flat : List ℕ
flat = ListN.set (ListN.set (with1 60 1) 62 2) 64 4

-- Lattice 1 with five levels, a pentagon: 1 under 2, and 3 beside both; 0 is the bottom and 4 the top.
unfoldable pub pentagon : List ℕ
pentagon = ListN.set (ListN.set (ListN.set (ListN.set (with2 58 5 60 31) 62 22) 64 20) 66 24) 68 16

-- Groups 0 and 1 exchange their requirements, and task 1 names the one that group 0 has now: a group is not judged by its own number.
unfoldable pub exchanged : List ℕ
exchanged = ListN.set (with2 96 1 98 0) 118 2

-- the paper's plant padded to n bytes, as its bytes 20 and 21 then say
abbrev pub padded : ℕ → List ℕ
padded n = with2 20 (n % 256) 21 (n / 256) ++ replicate (n - 132) 170

-- A plant with six different counts, and high bytes that are not zero in every kind of two-byte number: 290 bytes, a lattice of nine levels at 256,
-- and a skid that may run task 8 alone, which may return to group 2.
unfoldable pub wide : List ℕ
wide =
    1 ∷ 1 ∷ 2 ∷ 3 ∷ 4 ∷ 9 ∷ 5 ∷ 0 ∷ 0 ∷ 1 ∷ 24 ∷ 0 ∷ 28 ∷ 0 ∷ 34 ∷ 0 ∷ 42 ∷ 0 ∷ 132 ∷ 0 ∷ 34 ∷ 1 ∷ 0 ∷ 0
    -- requirements, groups, tanks
    ∷ 0 ∷ 0 ∷ 0 ∷ 0
    ∷ 0 ∷ 0 ∷ 0 ∷ 0 ∷ 1 ∷ 0
    ∷ 2 ∷ 8 ∷ 2 ∷ 3 ∷ 0 ∷ 0 ∷ 1 ∷ 1
    -- tasks 0 to 7 name nothing; task 8; skids
    ∷ (replicate 80 0 ++ (2 ∷ 0 ∷ 0 ∷ 0 ∷ 2 ∷ 0 ∷ 0 ∷ 0 ∷ 0 ∷ 0
    ∷ 0 ∷ 1 ∷ 0 ∷ 0 ∷ 0 ∷ 0 ∷ 0 ∷ 0 ∷ 0 ∷ 0
    -- a gap, and the lattice: level i is at or under each level from i on
    ∷ (replicate 114 170 ++ (9 ∷ 0 ∷ 255 ∷ 1 ∷ 254 ∷ 1 ∷ 252 ∷ 1 ∷ 248 ∷ 1 ∷ 240 ∷ 1 ∷ 224 ∷ 1 ∷ 192 ∷ 1 ∷ 128 ∷ 1 ∷ 0 ∷ 1 ∷ replicate 14 0))))

-- one item of each kind: 76 bytes
unfoldable pub smallest : List ℕ
smallest =
    1 ∷ 1 ∷ 1 ∷ 1 ∷ 1 ∷ 1 ∷ 1 ∷ 0 ∷ 24 ∷ 0 ∷ 58 ∷ 0 ∷ 60 ∷ 0 ∷ 62 ∷ 0 ∷ 64 ∷ 0 ∷ 74 ∷ 0 ∷ 76 ∷ 0 ∷ 0 ∷ 0
    -- a lattice of one level; requirement, group and tank; task, skid
    ∷ 1 ∷ 0 ∷ 1 ∷ 0 ∷ (replicate 30 0 ++ (0 ∷ 0 ∷ 0 ∷ 0 ∷ 0 ∷ 0 ∷ 1 ∷ 0 ∷ 1 ∷ 0 ∷ 0 ∷ 0 ∷ 0 ∷ 0 ∷ 0 ∷ 0 ∷ 1 ∷ 0 ∷ []))

-- a lattice of one level
abbrev pub one_level : List ℕ
one_level = 1 ∷ 0 ∷ 1 ∷ replicate 31 0

-- Two plants for what counts one kind of item by another's count: it misses the last of them in one of the two. Here the counts rise: a lattice of
-- two levels, two requirements, three groups, four tanks, five skids and six tasks. The last task, of skid 0 alone, returns to the last group, which
-- has tank 0 at level 1.
unfoldable pub rising : List ℕ
rising =
    1 ∷ 1 ∷ 2 ∷ 3 ∷ 4 ∷ 6 ∷ 5 ∷ 0 ∷ 24 ∷ 0 ∷ 58 ∷ 0 ∷ 62 ∷ 0 ∷ 68 ∷ 0 ∷ 76 ∷ 0 ∷ 136 ∷ 0 ∷ 146 ∷ 0 ∷ 0 ∷ 0
    ∷ 2 ∷ 0 ∷ 3 ∷ 0 ∷ 2 ∷ (replicate 29 0 ++ (
    -- requirements, groups, tanks, tasks, skids
    0 ∷ 0 ∷ 0 ∷ 0
    ∷ 0 ∷ 0 ∷ 0 ∷ 0 ∷ 1 ∷ 0
    ∷ 2 ∷ 1 ∷ 1 ∷ 0 ∷ 0 ∷ 0 ∷ 1 ∷ 1
    ∷ (replicate 50 0 ++ (2 ∷ 0 ∷ 0 ∷ 0 ∷ 2 ∷ 0 ∷ 0 ∷ 0 ∷ 0 ∷ 0
    ∷ 32 ∷ replicate 9 0))))

-- Here they fall: six lattices, five requirements, four groups, three tanks, two skids and a task. The last lattice has two levels, the others one;
-- the task, of skid 1 alone, draws from the last group, which has tanks 1 and 2 at levels 0 and 1.
unfoldable pub narrow : List ℕ
narrow =
    1 ∷ 6 ∷ 5 ∷ 4 ∷ 3 ∷ 1 ∷ 2 ∷ 0 ∷ 24 ∷ 0 ∷ 228 ∷ 0 ∷ 238 ∷ 0 ∷ 246 ∷ 0 ∷ 252 ∷ 0 ∷ 6 ∷ 1 ∷ 10 ∷ 1 ∷ 0 ∷ 0
    ∷ (one_level ++ (one_level ++ (one_level ++ (one_level ++ (one_level ++ (2 ∷ 0 ∷ 3 ∷ 0 ∷ 2 ∷ (replicate 29 0 ++ (
    -- requirements, groups, tanks, the task, skids
    0 ∷ 0 ∷ 0 ∷ 0 ∷ 0 ∷ 0 ∷ 0 ∷ 0 ∷ 5 ∷ 0
    ∷ 0 ∷ 0 ∷ 0 ∷ 0 ∷ 0 ∷ 0 ∷ 4 ∷ 0
    ∷ 0 ∷ 0 ∷ 3 ∷ 0 ∷ 3 ∷ 1
    ∷ 16 ∷ 0 ∷ 0 ∷ 0 ∷ 0 ∷ 1 ∷ 0 ∷ 0 ∷ 0 ∷ 0
    ∷ 0 ∷ 0 ∷ 1 ∷ 0 ∷ []))))))))
