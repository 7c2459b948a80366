-- No refusal has the number 0, and `?` hands a refusal on as it is. Assumes nothing.
use Prim.Native.Nat.{ℕ}
use Rattle.std.specs.Prelude.{◌≡◌, eqb, Bool, true, false, Result, Ok, Err}
use Rattle.std.specs.Result.{IsErr, IsErrAnd, is_err}
use native.Mathlib.Omega.{arith}
use mathlib.Core.Path.{refl, sym, ap}
use borrow.Author.Tests.{eqb-false}
use Rattle.refusal.specs.declared.Refusal.{Refusal}
use Rattle.refusal.specs.declared.Refusal.TheVariants.{WrongLength, WrongEdition, CountOutOfRange, HeaderByteNotZero, SectionOutside, SectionsShare, LatticeMalformed, NotAnOrder, NotALattice, EntryOutOfRange, TanksAtOneLevel, RequirementNotNamed, MonitorNotIntact, NoSuchSkid, NoSuchTask, NoSuchRequirement, NoSuchLevel, MayNotRun, AlreadyRuns, LevelNotSet, NoTankAtOrUnder, NoSuchTank, NoSuchRight, BufferTooShort, NoSuchKind, RequestsNotWhole}
use Rattle.refusal.specs.Number.{number_of, answer_of}

true_not_false : ◌≡◌ {A = Bool} true false → ⊥
true_not_false z = let o : ◌≡◌ {A = ℕ} 0 1 = cc in omega arith

pub number_not_0 : (r : Refusal) → eqb (number_of r) 0 ≡ false
number_not_0 WrongLength = refl
number_not_0 WrongEdition = refl
number_not_0 CountOutOfRange = refl
number_not_0 HeaderByteNotZero = refl
number_not_0 SectionOutside = refl
number_not_0 SectionsShare = refl
number_not_0 LatticeMalformed = refl
number_not_0 NotAnOrder = refl
number_not_0 NotALattice = refl
number_not_0 EntryOutOfRange = refl
number_not_0 TanksAtOneLevel = refl
number_not_0 RequirementNotNamed = refl
number_not_0 MonitorNotIntact = refl
number_not_0 NoSuchSkid = refl
number_not_0 NoSuchTask = refl
number_not_0 NoSuchRequirement = refl
number_not_0 NoSuchLevel = refl
number_not_0 MayNotRun = refl
number_not_0 AlreadyRuns = refl
number_not_0 LevelNotSet = refl
number_not_0 NoTankAtOrUnder = refl
number_not_0 NoSuchTank = refl
number_not_0 NoSuchRight = refl
number_not_0 BufferTooShort = refl
number_not_0 NoSuchKind = refl
number_not_0 RequestsNotWhole = refl

pub not_0 : (r : Refusal) → number_of r ≡ 0 → ⊥
not_0 r e = eqb-false (number_of r) 0 (number_not_0 r) e

-- `check(..)?` where the check refuses
pub handed_on : {A : Type 0} (r : Result A Refusal) (e : Refusal) → IsErr r × IsErrAnd r (λ x. x ≡ e) → answer_of r ≡ number_of e
handed_on (Ok x) e h = absurd h.1
handed_on (Err x) e h = ap number_of h.1

-- whether an outcome is a refusal, by `is_err`
module _ {A : Type 0} where
  pub refused_not_0 : (r : Result A Refusal) → is_err r ≡ true → answer_of r ≡ 0 → ⊥
  refused_not_0 (Ok x) h z = absurd (true_not_false (sym h))
  refused_not_0 (Err x) h z = not_0 x z

  pub accepted_0 : (r : Result A Refusal) → is_err r ≡ false → answer_of r ≡ 0
  accepted_0 (Ok x) h = refl
  accepted_0 (Err x) h = absurd (true_not_false h)
