-- The list holds exactly the rights held, each once, rising; there is no other such list; and the writer's bytes are its listing. Assumes nothing.
use mathlib.Core.Path.{◌≡◌, refl, sym, ap, ap₂, subst, ◌∙◌}
use mathlib.Core.Logic.{◌⊎◌, inl, inr, ⊎_elim, ◌↔◌}
use Prim.Native.Nat.{ℕ, zero, suc, ◌+◌, ◌*◌, ◌/◌, ◌≤◌, ◌<◌}
use mathlib.Core.Bool.{Bool, true, cond}
use mathlib.Core.List.Memᴰ
use mathlib.Core.List.{List, [], ◌∷◌, ◌++◌}
use native.Mathlib.Omega.{arith}
use lib.ListN.{length, get_or}
use Rattle.base.specs.Collect.{collect}
use Rattle.base.specs.Rising.{In, Rising}
use Rattle.base.proofs.Logic.{split}
use Rattle.base.proofs.Collected.{collect_same}
use Rattle.base.proofs.Rising.{in_part, part_in, rising_collect, rising_unique}
use Rattle.plant.specs.declared.Plant.{Plant}
use Rattle.plant.specs.Right.{all_rights}
use Rattle.plant.proofs.Rights.{number_at, number_rises}
use Rattle.rules.specs.declared.Monitor.{Monitor}
use Rattle.rules.specs.Rules.{View, holds}
use Rattle.rules.specs.Record.{view_of, intact}
use Rattle.calls.proofs.Ready.{plant_valid, groups_there, tasks_known}
use Rattle.calls.proofs.Views.{held_same}
use Rattle.listing.proofs.Bound.{list_short}
use Rattle.listing.specs.Held.{HeldRight, Before, Lists, right_at, rights_on, rights_by, rights_held, right_bytes, listing}
use Rattle.listing.specs.Work.{Known, right_bytes_in, skids_bytes_in, list_bytes_in}

abbrev entry : ℕ → ℕ → ℕ → HeldRight
entry s o r = record { skid = s; tank = o; right = r }

-- no right stands before itself, and no two before each other
before_apart : (a b : HeldRight) → Before a b → Before b a → ⊥
before_apart a b x y = ⊎_elim (λ l. ⊎_elim (λ k. omega arith) (λ k. omega (arith, k.0)) y) (λ l. ⊎_elim (λ k. omega (arith, l.0)) (λ k. tanks l.1 k.1) y) x
  where
    tanks : (a.tank < b.tank) ⊎ ((a.tank ≡ b.tank) × (a.right < b.right)) → (b.tank < a.tank) ⊎ ((b.tank ≡ a.tank) × (b.right < a.right)) → ⊥
    tanks u v = ⊎_elim (λ l. ⊎_elim (λ k. omega arith) (λ k. omega (arith, k.0)) v) (λ l. ⊎_elim (λ k. omega (arith, l.0)) (λ k. omega (arith, l.1, k.1)) v) u

-- what a list lists determines it
pub lists_unique : (H : ℕ → ℕ → ℕ → Type 0) (l m : List HeldRight) → Lists H l → Lists H m → l ≡ m
lists_unique H l m a b = rising_unique Before before_apart l m a.rising b.rising (λ x. (
  λ i. (b.exactly x.skid x.tank x.right).1 ((a.exactly x.skid x.tank x.right).0 i),
  λ i. (a.exactly x.skid x.tank x.right).1 ((b.exactly x.skid x.tank x.right).0 i),
))

pub lists_same : (H K : ℕ → ℕ → ℕ → Type 0) (l : List HeldRight) → ((s o r : ℕ) → H s o r ↔ K s o r) → Lists H l → Lists K l
lists_same H K l e a = record {
  exactly = λ s o r. (λ i. (e s o r).0 ((a.exactly s o r).0 i), λ k. (a.exactly s o r).1 ((e s o r).1 k));
  rising = a.rising;
}

-- a right within the counts that a view says is held
pub record HeldIn (P : Plant) (vs : ℕ → View) (s o r : ℕ) : Type 0 where
  pub skid : s < P.skids
  pub tank : o < P.tanks
  pub right : r < 3
  pub held : holds P (vs s) o r ≡ true

module _ (P : Plant) (vs : ℕ → View) where
  at_one : (s o r : ℕ) (x : HeldRight) → In x (right_at P vs s o r) → (x ≡ entry s o r) × (holds P (vs s) o r ≡ true)
  at_one s o r x i = split (holds P (vs s) o r)
      (λ h. (Memᴰ.eq_of_singleton (subst (λ (b : Bool). In x (cond b (entry s o r ∷ []) [])) h i), h))
      (λ h. absurd (Memᴰ.not-nil (subst (λ (b : Bool). In x (cond b (entry s o r ∷ []) [])) h i)))

  one_at : (s o r : ℕ) → holds P (vs s) o r ≡ true → In (entry s o r) (right_at P vs s o r)
  one_at s o r h = subst (λ (b : Bool). In (entry s o r) (cond b (entry s o r ∷ []) [])) (sym h) (Memᴰ.head refl)

  one_rising : (s o r : ℕ) → Rising Before (right_at P vs s o r)
  one_rising s o r = split (holds P (vs s) o r)
      (λ h. subst (λ (b : Bool). Rising Before (cond b (entry s o r ∷ []) [])) (sym h) (λ y i. absurd (Memᴰ.not-nil i), tt))
      (λ h. subst (λ (b : Bool). Rising Before (cond b (entry s o r ∷ []) [])) (sym h) tt)

  -- the rights on a tank, in their order
  abbrev numbered : ℕ → ℕ → ℕ → List HeldRight
  numbered s o i = right_at P vs s o (get_or all_rights i 0)

  -- a member of the rights on a tank, of a skid's rights and of all
  in_on : (s o : ℕ) (x : HeldRight) → In x (rights_on P vs s o) → (r : ℕ) × ((r < 3) × ((x ≡ entry s o r) × (holds P (vs s) o r ≡ true)))
  in_on s o x i =
      let p = in_part (numbered s o) x 3 i in
      let r = get_or all_rights p.0 0 in
      (r, (omega (arith, number_at p.0 p.1.0, p.1.0), at_one s o r x p.1.1))

  on_in : (s o r : ℕ) → r < 3 → holds P (vs s) o r ≡ true → In (entry s o r) (rights_on P vs s o)
  on_in s o r l h = part_in (numbered s o) (entry s o r) 3 r l (rw (number_at r l) (one_at s o r h))

  in_of : (s : ℕ) (x : HeldRight) → In x (rights_by P vs s) → (o : ℕ) × ((o < P.tanks) × In x (rights_on P vs s o))
  in_of s x i = in_part (rights_on P vs s) x P.tanks i

  on_rising : (s o : ℕ) → Rising Before (rights_on P vs s o)
  on_rising s o = rising_collect Before (numbered s o) 3 (λ i l. one_rising s o (get_or all_rights i 0))
      (λ i j a b x y u v.
      let e = (at_one s o (get_or all_rights i 0) x u).0 in
      let f = (at_one s o (get_or all_rights j 0) y v).0 in
      inr (
        ap (λ (h : HeldRight). h.skid) e ∙ sym (ap (λ (h : HeldRight). h.skid) f),
        inr (
          ap (λ (h : HeldRight). h.tank) e ∙ sym (ap (λ (h : HeldRight). h.tank) f),
          omega (arith, ap (λ (h : HeldRight). h.right) e, ap (λ (h : HeldRight). h.right) f, number_rises i j a b),
        ),
      ))

  of_rising : (s : ℕ) → Rising Before (rights_by P vs s)
  of_rising s = rising_collect Before (rights_on P vs s) P.tanks (λ o l. on_rising s o)
      (λ i j a b x y u v.
      let p = in_on s i x u in
      let q = in_on s j y v in
      inr (
        ap (λ (h : HeldRight). h.skid) p.1.1.0 ∙ sym (ap (λ (h : HeldRight). h.skid) q.1.1.0),
        inl (omega (arith, ap (λ (h : HeldRight). h.tank) p.1.1.0, ap (λ (h : HeldRight). h.tank) q.1.1.0)),
      ))

  skid_is : (s : ℕ) (x : HeldRight) → In x (rights_by P vs s) → x.skid ≡ s
  skid_is s x i = let p = in_of s x i in ap (λ (h : HeldRight). h.skid) (in_on s p.0 x p.1.1).1.1.0

  moved : {s s' o o' r r' : ℕ} → s' ≡ s → o' ≡ o → r' ≡ r → holds P (vs s') o' r' ≡ true → holds P (vs s) o r ≡ true
  moved {s} {s'} {o} {o'} {r} {r'} a b c h = sym (ap (λ (k : ℕ). holds P (vs k) o' r') a ∙ ap₂ (λ (k j : ℕ). holds P (vs s) k j) b c) ∙ h

  pub rights_listed : Lists (HeldIn P vs) (rights_held P vs)
  unfolding rights_held
  rights_listed = record {
    exactly = λ s o r. (
      λ i.
          let p = in_part (rights_by P vs) (entry s o r) P.skids i in
          let q = in_of p.0 (entry s o r) p.1.1 in
          let u = in_on p.0 q.0 (entry s o r) q.1.1 in
          let a : s ≡ p.0 = ap (λ (h : HeldRight). h.skid) u.1.1.0 in
          let b : o ≡ q.0 = ap (λ (h : HeldRight). h.tank) u.1.1.0 in
          let c : r ≡ u.0 = ap (λ (h : HeldRight). h.right) u.1.1.0 in
          record { skid = omega (arith, p.1.0); tank = omega (arith, q.1.0); right = omega (arith, u.1.0); held = moved (sym a) (sym b) (sym c) u.1.1.1 },
      λ h. part_in (rights_by P vs) (entry s o r) P.skids s h.skid
          (part_in (rights_on P vs s) (entry s o r) P.tanks o h.tank (on_in s o r h.right h.held)),
    );
    rising = rising_collect Before (rights_by P vs) P.skids (λ s l. of_rising s) (λ i j a b x y u v. inl (omega (arith, skid_is i x u, skid_is j y v)));
  }

-- the bytes of a list made of parts
bytes_append : (l m : List HeldRight) → right_bytes (l ++ m) ≡ right_bytes l ++ right_bytes m
unfolding right_bytes
bytes_append [] m = refl
bytes_append (h ∷ l) m = ap (λ (k : List ℕ). h.skid ∷ h.tank ∷ h.right ∷ k) (bytes_append l m)

bytes_collect : (f : ℕ → List HeldRight) (n : ℕ) → right_bytes (collect f n) ≡ collect (λ i. right_bytes (f i)) n
unfolding collect right_bytes
bytes_collect f zero = refl
bytes_collect f (suc n) = bytes_append (collect f n) (f n) ∙ ap (λ (l : List ℕ). l ++ right_bytes (f n)) (bytes_collect f n)

pub bytes_length : (l : List HeldRight) → length (right_bytes l) ≡ length l * 3
unfolding right_bytes
bytes_length [] = refl
bytes_length (h ∷ l) = omega (arith, bytes_length l)

-- the three bytes of entry i
pub bytes_at : (l : List HeldRight) (d : HeldRight) (i : ℕ) → i < length l → (get_or (right_bytes l) (i * 3) 0 ≡ (get_or l i d).skid) × ((get_or (right_bytes l) (i * 3 + 1) 0 ≡ (get_or l i d).tank) × (get_or (right_bytes l) (i * 3 + 2) 0 ≡ (get_or l i d).right))
unfolding right_bytes
bytes_at [] d i h = absurd (omega arith)
bytes_at (x ∷ l) d zero h = (refl, (refl, refl))
bytes_at (x ∷ l) d (suc i) h =
    let r = bytes_at l d i (omega arith) in
    let at : (k j : ℕ) → k ≡ suc (suc (suc j)) → get_or (right_bytes (x ∷ l)) k 0 ≡ get_or (right_bytes l) j 0 = λ k j e. ap (λ (n : ℕ). get_or (right_bytes (x ∷ l)) n 0) e in
    (at (suc i * 3) (i * 3) (omega arith) ∙ r.0, (at (suc i * 3 + 1) (i * 3 + 1) (omega arith) ∙ r.1.0, at (suc i * 3 + 2) (i * 3 + 2) (omega arith) ∙ r.1.1))

-- On a record that passes test 20 the writer's list is the listing of the rights that its views hold.
module _ (m : Monitor) (i : intact m.plant m ≡ true) where
  abbrev P : Plant
  P = m.plant

  abbrev vs : ℕ → View
  vs = view_of P m

  pub known : Known m
  known = record { skids_fit = (plant_valid m i).counts.skids_fit; tanks_fit = (plant_valid m i).counts.tanks_fit; groups_there = groups_there m i; tasks_known = tasks_known m i }

  one_same : (s o r : ℕ) → s < P.skids → o < P.tanks → right_bytes_in m s o r ≡ right_bytes (right_at P vs s o r)
  unfolding right_bytes
  one_same s o r a b = ap (λ (x : Bool). cond x (s ∷ o ∷ r ∷ []) []) (held_same m i s o r a b) ∙ split (holds P (vs s) o r) (λ h. rw h) (λ h. rw h)

  rights_same : skids_bytes_in m ≡ right_bytes (rights_held P vs)
  unfolding rights_held
  rights_same =
      collect_same _ _ P.skids (λ s a.
      collect_same _ _ P.tanks (λ o b. collect_same _ _ 3 (λ i c. one_same s o (get_or all_rights i 0) a b) ∙ sym (bytes_collect (numbered P vs s o) 3))
      ∙ sym (bytes_collect (rights_on P vs s) P.tanks))
      ∙ sym (bytes_collect (rights_by P vs) P.skids)

  pub written_listing : list_bytes_in m ≡ listing (rights_held P vs)
  written_listing =
      ap (λ (l : List ℕ). length l / 3 ∷ l) rights_same
      ∙ ap (λ (n : ℕ). n ∷ right_bytes (rights_held P vs)) (let e : length (right_bytes (rights_held P vs)) / 3 ≡ length (rights_held P vs) = omega (arith, bytes_length (rights_held P vs)) in e)

  -- at most 192 rights are held
  pub held_at_most : length (rights_held P vs) ≤ 192
  held_at_most =
      omega (arith, list_short m known, ap length rights_same, bytes_length (rights_held P vs))
