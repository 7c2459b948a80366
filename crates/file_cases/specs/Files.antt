-- Cases of plant files, of lattice records and of sections. Each of opening's numbers is the answer of at least one.
use Rattle.std.specs.Prelude.{ℕ, ◌-◌, List, [], ◌∷◌, ◌++◌, eqb, length, replicate}
use Rattle.std.proofs.Math.ListN as ListN
use Rattle.lattice.specs.declared.Lattice.{Lattice}
use Rattle.lattice.specs.Levels.{lattice_refusal}
use Rattle.layout.specs.Header.{section_of}
use Rattle.opening.specs.Reading.{reading_of}
use Rattle.inputs.specs.Case.{Case, same_list}
use Rattle.inputs.specs.Plants.{session, crossed, with1, with2, flat, exchanged, padded, wide, rising, narrow}

-- a plant file and opening's number
unfoldable pub opening : List ℕ → ℕ → Case
opening file number = eqb (reading_of file).answer number

abbrev pub lattice_record : List ℕ → Lattice
lattice_record sets = record { n = length sets; sets = sets ++ replicate (16 - length sets) 0 }

-- a lattice record with these sets, one for each level, and the number that refuses it, or 0
unfoldable pub lattice : List ℕ → ℕ → Case
lattice sets number = eqb (lattice_refusal (lattice_record sets)) number

-- a plant file, a kind of section, and the bytes that the section call returns
unfoldable pub section : List ℕ → ℕ → List ℕ → Case
section file kind bytes = same_list (section_of file kind) bytes

-- the sets of sixteen levels in a chain, each at or under those from its own number on
unfoldable pub sixteen : List ℕ
sixteen =
    65535 ∷ 65534 ∷ 65532 ∷ 65528 ∷ 65520 ∷ 65504 ∷ 65472 ∷ 65408 ∷ 65280 ∷ 65024 ∷ 64512 ∷ 63488 ∷ 61440 ∷ 57344 ∷ 49152 ∷ 32768 ∷ []

unfoldable pub header_cases : List Case
header_cases =
    -- opening's numbers, each by the paper's plant one byte away from being right: 1, 2, 3, 4, 5, 6, 7, 8
    opening (with1 20 131) 1
    ∷ opening (with1 0 2) 2
    ∷ opening (with1 4 65) 3
    ∷ opening (with1 4 0) 3
    ∷ opening (with1 7 1) 4
    ∷ opening (with1 22 1) 4
    ∷ opening (with1 23 1) 4
    ∷ opening (with1 18 129) 5
    ∷ opening (with1 8 23) 5
    ∷ opening (with1 10 91) 6
    ∷ opening (with1 25 1) 7
    ∷ opening (with1 24 17) 7
    ∷ opening (with1 32 1) 7
    ∷ opening (with1 28 4) 8
    ∷ []

unfoldable pub item_cases : List Case
item_cases =
    -- 9, and 8 of one lattice before 9 of another
    opening flat 9
    ∷ opening (ListN.set flat 28 4) 8
    -- 10: zero bytes, a right bit, a level, a right on a group past the count, a number at its count
    ∷ opening (with1 93 1) 10
    ∷ opening (with1 97 1) 10
    ∷ opening (with1 109 1) 10
    ∷ opening (with1 110 9) 10
    ∷ opening (with1 103 3) 10
    ∷ opening (with1 112 1) 10
    ∷ opening (with1 92 2) 10
    -- 11, 12, and 2 before 4
    ∷ opening (with1 103 0) 11
    ∷ opening (with1 108 1) 12
    ∷ opening (with2 0 2 7 1) 2
    ∷ []

unfoldable pub order_cases : List Case
order_cases =
    -- of two faults the one written first decides: 1 before 2, 2 before 3, and so on to 7 before 8
    opening (with2 20 131 0 2) 1
    ∷ opening (with2 0 2 4 65) 2
    ∷ opening (with2 4 65 7 1) 3
    ∷ opening (with2 7 1 18 129) 4
    ∷ opening (with2 18 129 10 91) 5
    ∷ opening (with2 10 91 25 1) 6
    ∷ opening (with2 25 1 28 4) 7
    ∷ []

unfoldable pub first_cases : List Case
first_cases =
    -- of two broken checks the first decides, over the whole file: 7 of lattice 1 before 8 of lattice 0, 9 before 10, 10 before 11 and 12, 11 before 12
    opening (with2 28 4 58 17) 7
    ∷ opening (ListN.set flat 93 1) 9
    ∷ opening (ListN.set flat 110 9) 9
    ∷ opening (with2 103 0 110 9) 10
    ∷ opening (with2 108 1 110 9) 10
    ∷ opening (with2 103 0 108 1) 11
    -- a lattice that no requirement has is judged too
    ∷ opening (ListN.set flat 94 0) 9
    ∷ []

unfoldable pub bound_cases : List Case
bound_cases =
    -- 3: each count one past its limit
    opening (with1 1 9) 3
    ∷ opening (with1 2 9) 3
    ∷ opening (with1 3 9) 3
    ∷ opening (with1 5 17) 3
    ∷ opening (with1 6 9) 3
    -- 6: the last section shares a byte with the one before it
    ∷ opening (with1 18 127) 6
    -- 7: no level; a bit at n, in the low byte and in the high one
    ∷ opening (with1 24 0) 7
    ∷ opening (with1 26 15) 7
    ∷ opening (with1 27 1) 7
    -- 10: a group's requirement, a tank's group, a task's requirement and a skid's task at the count, the last in the high byte too
    ∷ opening (with1 96 2) 10
    ∷ opening (with1 100 2) 10
    ∷ opening (with1 108 7) 10
    ∷ opening (with1 128 7) 10
    ∷ opening (with1 129 1) 10
    ∷ []

unfoldable pub number_cases : List Case
number_cases =
    -- 10, of the last item of each kind: the lattice of a requirement that no group has, a group's requirement, a tank's group, what task 1 names,
    -- its right on group 2 and a fourth right, and a skid's task in either byte
    opening (with2 98 0 94 2) 10
    ∷ opening (with1 98 2) 10
    ∷ opening (with1 106 2) 10
    ∷ opening (with1 118 5) 10
    ∷ opening (with1 122 1) 10
    ∷ opening (with1 120 10) 10
    ∷ opening (with1 130 6) 10
    ∷ opening (with1 131 1) 10
    -- a right on the last of a task's eight groups
    ∷ opening (with1 117 1) 10
    -- a tank at level 3, of three levels and of four: by the lattice of its group's requirement, whatever their numbers are
    ∷ opening (with1 107 3) 0
    ∷ opening (ListN.set crossed 103 3) 0
    ∷ opening (ListN.set crossed 107 3) 10
    ∷ opening (ListN.set exchanged 103 3) 0
    ∷ opening (ListN.set exchanged 107 3) 10
    ∷ []

unfoldable pub rule_cases : List Case
rule_cases =
    -- 11: two tanks of group 1, and the first and the last tank; two groups of one requirement may each have a tank at one level
    opening (with1 107 1) 11
    ∷ opening (with2 106 0 107 0) 11
    ∷ opening (with1 98 0) 0
    -- 12: of a task that returns only; a requirement may be named without a right
    ∷ opening (with1 118 2) 12
    ∷ opening (with1 118 3) 0
    ∷ []

unfoldable pub reading_cases : List Case
reading_cases =
    -- gaps of any content, the longest file, and one byte more
    opening (padded 300) 0
    ∷ opening (padded 4096) 0
    ∷ opening (padded 4097) 1
    ∷ opening (ListN.take 23 session) 1
    -- high bytes and six different counts
    ∷ opening wide 0
    -- links that are not their own numbers, and a group without a tank
    ∷ opening crossed 0
    ∷ opening exchanged 0
    ∷ opening (with1 4 2) 0
    ∷ []

unfoldable pub lattice_cases : List Case
lattice_cases =
    -- three levels, of which the first two have no meet, and the last two no join
    lattice (5 ∷ 6 ∷ 4 ∷ []) 9
    ∷ lattice (7 ∷ 2 ∷ 4 ∷ []) 9
    -- sixteen levels, up to bit 15 of a set; and the same but for one bit from 8 on: levels 8 and 9 side by side, which have 10 for their join and 7
    -- for their meet; 14 and 15 side by side, without a join; 8 under 9 but not under 15; 15 under 14 too; 15 not under itself
    ∷ lattice sixteen 0
    ∷ lattice (ListN.set sixteen 8 64768) 0
    ∷ lattice (ListN.set sixteen 14 16384) 9
    ∷ lattice (ListN.set sixteen 8 32512) 8
    ∷ lattice (ListN.set sixteen 15 49152) 8
    ∷ lattice (ListN.set sixteen 15 0) 8
    -- a bit from n on, no level, and seventeen
    ∷ lattice (257 ∷ []) 7
    ∷ lattice [] 7
    ∷ lattice (sixteen ++ (0 ∷ [])) 7
    ∷ []

unfoldable pub section_cases : List Case
section_cases =
    -- each section, and none of another kind or of a file that fails 6; a file that fails 12 has its sections
    section session 1 (0 ∷ 0 ∷ 1 ∷ 0 ∷ [])
    ∷ section session 2 (0 ∷ 0 ∷ 1 ∷ 0 ∷ [])
    ∷ section session 3 (0 ∷ 0 ∷ 0 ∷ 2 ∷ 1 ∷ 1 ∷ 1 ∷ 2 ∷ [])
    ∷ section (with1 108 1) 4 (1 ∷ 0 ∷ 1 ∷ 5 ∷ 0 ∷ 0 ∷ 0 ∷ 0 ∷ 0 ∷ 0 ∷ 1 ∷ 0 ∷ 2 ∷ 0 ∷ 0 ∷ 0 ∷ 0 ∷ 0 ∷ 0 ∷ 0 ∷ [])
    ∷ section session 5 (3 ∷ 0 ∷ 2 ∷ 0 ∷ [])
    -- one that begins at byte 256
    ∷ section wide 0 (9 ∷ 0 ∷ 255 ∷ 1 ∷ 254 ∷ 1 ∷ 252 ∷ 1 ∷ 248 ∷ 1 ∷ 240 ∷ 1 ∷ 224 ∷ 1 ∷ 192 ∷ 1 ∷ 128 ∷ 1 ∷ 0 ∷ 1 ∷ replicate 14 0)
    ∷ section session 6 []
    ∷ section (with1 10 91) 5 []
    ∷ []

unfoldable pub limit_cases : List Case
limit_cases =
    -- the shortest file that 1 takes, one that says a byte more than it has, and edition 0
    opening (ListN.take 24 (with1 20 24)) 5
    ∷ opening (with1 20 133) 1
    ∷ opening (with1 0 0) 2
    -- 6 where the later section in the header's order stands first in the file; right before the other it shares no byte, and 7 decides
    ∷ opening (ListN.set wide 18 250) 6
    ∷ opening (ListN.set (ListN.set wide 18 246) 256 17) 7
    -- each count at its limit, which 3 takes: the section ends past the file, or shares a byte with the next one
    ∷ opening (with1 1 8) 5
    ∷ opening (with1 2 8) 6
    ∷ opening (with1 3 8) 6
    ∷ opening (with1 4 64) 5
    ∷ opening (with1 5 16) 5
    ∷ opening (with1 6 8) 5
    -- 7: the last of a lattice's sixteen sets
    ∷ opening (with1 56 1) 7
    ∷ []

unfoldable pub count_cases : List Case
count_cases =
    -- the last item of each kind where the counts fall: 8 of a lattice; 10 of a requirement, a group, a tank, a task's names and rights, and a skid; 11; 12
    opening (ListN.set narrow 198 3) 8
    ∷ opening (ListN.set narrow 236 6) 10
    ∷ opening (ListN.set narrow 244 5) 10
    ∷ opening (ListN.set narrow 250 4) 10
    ∷ opening (ListN.set narrow 252 48) 10
    ∷ opening (ListN.set narrow 258 1) 10
    ∷ opening (ListN.set narrow 264 3) 10
    ∷ opening (ListN.set narrow 251 0) 11
    ∷ opening (ListN.set narrow 252 0) 12
    -- and where they rise: 10 of a task's names and of a skid; 12
    ∷ opening (ListN.set rising 126 6) 10
    ∷ opening (ListN.set rising 144 64) 10
    ∷ opening (ListN.set rising 126 0) 12
    ∷ []

unfoldable pub zero_cases : List Case
zero_cases =
    -- the byte that is always zero of the last lattice, requirement, group and task
    opening (with1 59 1) 7
    ∷ opening (with1 95 1) 10
    ∷ opening (with1 99 1) 10
    ∷ opening (with1 119 1) 10
    ∷ []

unfoldable pub cases_of_files : List (List Case)
cases_of_files = header_cases ∷ item_cases ∷ order_cases ∷ first_cases ∷ bound_cases ∷ number_cases ∷ rule_cases ∷ reading_cases ∷ lattice_cases ∷ section_cases ∷ limit_cases ∷ count_cases ∷ zero_cases ∷ []
