-- The number of each refusal, and the answer of an outcome that may be one. The rules, which speak of numbers, do not stand on this.
use Rattle.std.specs.Prelude.{ℕ, Bool, cond, Result, Ok, Err}
use Rattle.refusal.specs.declared.Refusal.{Refusal}
use Rattle.refusal.specs.declared.Refusal.TheVariants.{WrongLength, WrongEdition, CountOutOfRange, HeaderByteNotZero, SectionOutside, SectionsShare, LatticeMalformed, NotAnOrder, NotALattice, EntryOutOfRange, TanksAtOneLevel, RequirementNotNamed, MonitorNotIntact, NoSuchSkid, NoSuchTask, NoSuchRequirement, NoSuchLevel, MayNotRun, AlreadyRuns, LevelNotSet, NoTankAtOrUnder, NoSuchTank, NoSuchRight, BufferTooShort, NoSuchKind, RequestsNotWhole}

-- 01's number of each refusal
abbrev pub number_of : Refusal → ℕ
number_of WrongLength = 1
number_of WrongEdition = 2
number_of CountOutOfRange = 3
number_of HeaderByteNotZero = 4
number_of SectionOutside = 5
number_of SectionsShare = 6
number_of LatticeMalformed = 7
number_of NotAnOrder = 8
number_of NotALattice = 9
number_of EntryOutOfRange = 10
number_of TanksAtOneLevel = 11
number_of RequirementNotNamed = 12
number_of MonitorNotIntact = 20
number_of NoSuchSkid = 21
number_of NoSuchTask = 22
number_of NoSuchRequirement = 23
number_of NoSuchLevel = 24
number_of MayNotRun = 25
number_of AlreadyRuns = 26
number_of LevelNotSet = 27
number_of NoTankAtOrUnder = 28
number_of NoSuchTank = 29
number_of NoSuchRight = 30
number_of BufferTooShort = 31
number_of NoSuchKind = 32
number_of RequestsNotWhole = 34

-- 0 where it is not refused, whatever it has then
abbrev pub answer_of : {A : Type 0} → Result A Refusal → ℕ
answer_of (Ok _) = 0
answer_of (Err refusal) = number_of refusal

-- A gate that is not refused answers 0 where the right is held, and 33 where it is not.
abbrev pub gate_answer_of : Result Bool Refusal → ℕ
gate_answer_of (Ok held) = cond held 0 33
gate_answer_of (Err refusal) = number_of refusal
