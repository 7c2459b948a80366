-- Each case of a plant file comes out as it says: one `refl` for each, in the order of the list. Assumes nothing.
use mathlib.Core.Path.{refl}
use Prim.Native.Nat.{ℕ}
use mathlib.Core.List.{List}
use Rattle.layout.specs.Header.{section_of}
use Rattle.inputs.specs.Case.{Case, EachRight, AllRight}
use Rattle.inputs.proofs.Read.{reads}
use Rattle.file_cases.specs.Files.{opening, lattice, section, sixteen, header_cases, item_cases, order_cases, first_cases, bound_cases, number_cases, rule_cases, reading_cases, lattice_cases, section_cases, limit_cases, count_cases, zero_cases, cases_of_files}

-- whoever opens this opens every definition by which a case of a file computes
unfoldable pub computed : List ℕ → ℕ → Case
unfolding reads section_of opening lattice section sixteen
computed file number = opening file number

header_right : EachRight header_cases
unfolding computed header_cases
header_right = (refl, (refl, (refl, (refl, (refl, (refl, (refl, (refl, (refl, (refl, (refl, (refl, (refl, (refl, tt))))))))))))))

item_right : EachRight item_cases
unfolding computed item_cases
item_right = (refl, (refl, (refl, (refl, (refl, (refl, (refl, (refl, (refl, (refl, (refl, (refl, tt))))))))))))

order_right : EachRight order_cases
unfolding computed order_cases
order_right = (refl, (refl, (refl, (refl, (refl, (refl, (refl, tt)))))))

first_right : EachRight first_cases
unfolding computed first_cases
first_right = (refl, (refl, (refl, (refl, (refl, (refl, (refl, tt)))))))

bound_right : EachRight bound_cases
unfolding computed bound_cases
bound_right = (refl, (refl, (refl, (refl, (refl, (refl, (refl, (refl, (refl, (refl, (refl, (refl, (refl, (refl, tt))))))))))))))

number_right : EachRight number_cases
unfolding computed number_cases
number_right = (refl, (refl, (refl, (refl, (refl, (refl, (refl, (refl, (refl, (refl, (refl, (refl, (refl, (refl, tt))))))))))))))

rule_right : EachRight rule_cases
unfolding computed rule_cases
rule_right = (refl, (refl, (refl, (refl, (refl, tt)))))

reading_right : EachRight reading_cases
unfolding computed reading_cases
reading_right = (refl, (refl, (refl, (refl, (refl, (refl, (refl, (refl, tt))))))))

lattice_right : EachRight lattice_cases
unfolding computed lattice_cases
lattice_right = (refl, (refl, (refl, (refl, (refl, (refl, (refl, (refl, (refl, (refl, (refl, tt)))))))))))

section_right : EachRight section_cases
unfolding computed section_cases
section_right = (refl, (refl, (refl, (refl, (refl, (refl, (refl, (refl, tt))))))))

limit_right : EachRight limit_cases
unfolding computed limit_cases
limit_right = (refl, (refl, (refl, (refl, (refl, (refl, (refl, (refl, (refl, (refl, (refl, (refl, tt))))))))))))

count_right : EachRight count_cases
unfolding computed count_cases
count_right = (refl, (refl, (refl, (refl, (refl, (refl, (refl, (refl, (refl, (refl, (refl, (refl, tt))))))))))))

zero_right : EachRight zero_cases
unfolding computed zero_cases
zero_right = (refl, (refl, (refl, (refl, tt))))

pub files_right : AllRight cases_of_files
unfolding cases_of_files
files_right = (header_right, (item_right, (order_right, (first_right, (bound_right, (number_right, (rule_right, (reading_right, (lattice_right, (section_right, (limit_right, (count_right, (zero_right, tt)))))))))))))
