-- What a case is, and what it is that all cases of a list come out as they say.
use Rattle.std.specs.Prelude.{◌≡◌, ℕ, Bool, true, false, ◌&&◌, List, [], ◌∷◌, eqb}

-- whether a definition gives on some input what the case says
abbrev pub Case : Type 0
Case = Bool

unfoldable pub same_list : List ℕ → List ℕ → Bool
same_list [] [] = true
same_list [] (y ∷ l) = false
same_list (x ∷ k) [] = false
same_list (x ∷ k) (y ∷ l) = eqb x y && same_list k l

-- Every case comes out as it says. A proof has one part for each case, so that the check names the one that does not.
abbrev pub EachRight : List Case → Type 0
EachRight [] = Unit
EachRight (c ∷ l) = (c ≡ true) × EachRight l

abbrev pub AllRight : List (List Case) → Type 0
AllRight [] = Unit
AllRight (l ∷ ls) = EachRight l × AllRight ls
