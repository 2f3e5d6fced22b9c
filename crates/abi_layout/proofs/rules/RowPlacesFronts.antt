-- The places of the bases before the members, by the row that has them.
use Rattle.std.proofs.Common.{◌≡◌, ℕ, zero, suc, ◌+◌, Bool, true, false, Option, Some, None, List, [], ◌∷◌, map, length, refl, ap, subst, sym, ◌∙◌, arith}
use Rattle.std.specs.Prelude.{Contains, filter, nat_eq, not, ◌&&◌, if◌then◌else◌}
use Rattle.std.specs.List.{slice_get, find}
use Rattle.std.proofs.lemmas.Bool.{eq-eqb, eqb-true}
use Rattle.std.proofs.lemmas.Option.{slice_get_read}
use Rattle.cxx_hierarchy.specs.declared.records.ClassId.{ClassId}
use Rattle.cxx_hierarchy.specs.declared.records.Base.{Base}
use Rattle.cxx_hierarchy.specs.Classes.{Class, Classes, class_at, bases_in}
use Rattle.cxx_hierarchy.specs.Hierarchies.{IsHierarchy}
use Rattle.cxx_subobject.specs.Subobjects.{whole_of}
use Rattle.cxx_subobject.specs.Preorder.{tree, firsts}
use Rattle.cxx_subobject.proofs.ListLemmas.{has_at, contains_from_has}
use Rattle.cxx_subobject.proofs.TreeLemmas.{has_filter}
use Rattle.abi_primary.specs.declared.Primary.{Primary}
use Rattle.abi_primary.specs.declared.Primary.TheVariants.{None as NoPrimary, Direct, Virtual}
use Rattle.abi_primary.specs.PrimaryBase.{is_virtual_primary, has_primary}
use Rattle.abi_primary.specs.Holder.{holder_of}
use Rattle.abi_layout.specs.declared.component.Component.{Component}
use Rattle.abi_layout.specs.declared.component.Stage.{Stage}
use Rattle.abi_layout.specs.declared.placed_bases.PlacedBase.{PlacedBase}
use Rattle.abi_layout.specs.declared.placed_bases.PlacedBase.TheVariants.{Own, VirtualBase}
use Rattle.abi_sound.specs.declared.class_layout.ClassLayout.{ClassLayout}
use Rattle.abi_sound.specs.Places.{direct_base_place}
use Rattle.abi_layout.specs.Placements.{IsComponentAt, ArePlaced}
use Rattle.abi_layout.specs.PlacedBases.{is_first_base, is_other_base, front_bases, IsPossible}
use Rattle.abi_layout.specs.invariants.OwnPlaces.{is_own, own_place, own_places}
use Rattle.abi_layout.specs.Layouts.{primary_of}
use Rattle.abi_layout.proofs.algorithm.Searches.{same_class}
use Rattle.abi_layout.proofs.rules.Parts.{split}
use Rattle.abi_layout.proofs.rules.NestedLemmas.{base_place_own, own_place_at}
pub use Rattle.foundation.proofs.Members.{from_map}

-- a list of values is that of a function, item by item
pub map_is : {X : Type 0} (f : X → ℕ) (xs : List X) (ps : List ℕ) → length ps ≡ length xs → ((i : ℕ) (x : X) (p : ℕ) → slice_get xs i ≡ Some x → slice_get ps i ≡ Some p → f x ≡ p) → map f xs ≡ ps
map_is f [] [] e each = refl
map_is f [] (p ∷ ps) e each = absurd (omega arith)
map_is f (x ∷ xs) [] e each = absurd (omega arith)
map_is f (x ∷ xs) (p ∷ ps) e each = ap (λ n. n ∷ map f xs) (each zero x p refl refl) ∙ ap (λ ns. p ∷ ns) (map_is f xs ps (omega arith) (λ i y q a b. each (suc i) y q a b))

-- a direct base of a class that stands in a list and passes a test
record IsListed (q : Base ClassId → Bool) (bases : List (Base ClassId)) (b : ClassId) : Type 0 where
  base : Base ClassId
  listed : Contains bases base
  passes : q base ≡ true
  class : base.class ≡ b

own_class : (b d : ClassId) → is_own b (Own d) ≡ true → d ≡ b
own_class b d e = same_class d b (eqb-true d.0 b.0 e)

listed_at : (q : Base ClassId → Bool) (bases : List (Base ClassId)) (i : ℕ) (b : ClassId) (x : PlacedBase) → slice_get (map (λ (base : Base ClassId). Own base.class) (filter q bases)) i ≡ Some x → is_own b x ≡ true → IsListed q bases b
listed_at q bases i b x there own =
    let m = from_map (λ (base : Base ClassId). Own base.class) (filter q bases) x (has_at (map (λ (base : Base ClassId). Own base.class) (filter q bases)) i x there) in
    let r = has_filter q bases m.0 m.1 in
    record { base = m.0; listed = contains_from_has bases m.0 r.0; passes = r.1; class = own_class b m.0.class (ap (is_own b) m.2 ∙ own) }

-- with one more in front, one alone is the direct one of a class
one_own : (b : ClassId) (x : PlacedBase) (bs : List PlacedBase) → (is_own b x ≡ true → (k : ℕ) (y : PlacedBase) → slice_get bs k ≡ Some y → is_own b y ≡ true → ⊥)
    → ((j k : ℕ) (y z : PlacedBase) → slice_get bs j ≡ Some y → slice_get bs k ≡ Some z → is_own b y ≡ true → is_own b z ≡ true → j ≡ k)
    → (j k : ℕ) (y z : PlacedBase) → slice_get (x ∷ bs) j ≡ Some y → slice_get (x ∷ bs) k ≡ Some z → is_own b y ≡ true → is_own b z ≡ true → j ≡ k
one_own b x bs apart rest zero zero y z e f s t = refl
one_own b x bs apart rest zero (suc k) y z e f s t = let same : x ≡ y = cc in absurd (apart (ap (is_own b) same ∙ s) k z f t)
one_own b x bs apart rest (suc j) zero y z e f s t = let same : x ≡ z = cc in absurd (apart (ap (is_own b) same ∙ t) j y e s)
one_own b x bs apart rest (suc j) (suc k) y z e f s t = ap (λ n. suc n) (rest j k y z e f s t)

others_once : (q : Base ClassId → Bool) (bases : List (Base ClassId)) (b : ClassId) → ((i j : ℕ) (x y : Base ClassId) → slice_get bases i ≡ Some x → slice_get bases j ≡ Some y → x.class ≡ y.class → i ≡ j)
    → (j k : ℕ) (y z : PlacedBase) → slice_get (map (λ (base : Base ClassId). Own base.class) (filter q bases)) j ≡ Some y → slice_get (map (λ (base : Base ClassId). Own base.class) (filter q bases)) k ≡ Some z → is_own b y ≡ true → is_own b z ≡ true → j ≡ k
others_once q [] b once j k y z = λ e f s t. let g : None ≡ Some y = e in cc
others_once q (w ∷ bases) b once j k y z =
    let rest = others_once q bases b (λ i n x v a c same. let e : suc i ≡ suc n = once (suc i) (suc n) x v a c same in omega arith) in
    split (q w) (λ o. slice_get (map (λ (base : Base ClassId). Own base.class) (if o then w ∷ filter q bases else filter q bases)) j ≡ Some y → slice_get (map (λ (base : Base ClassId). Own base.class) (if o then w ∷ filter q bases else filter q bases)) k ≡ Some z → is_own b y ≡ true → is_own b z ≡ true → j ≡ k)
    (λ t. one_own b (Own w.class) (map (λ (base : Base ClassId). Own base.class) (filter q bases)) (λ own n v there other. apart n v own there other) rest j k y z)
    (λ f. rest j k y z)
  where
    apart : (n : ℕ) (v : PlacedBase) → is_own b (Own w.class) ≡ true → slice_get (map (λ (base : Base ClassId). Own base.class) (filter q bases)) n ≡ Some v → is_own b v ≡ true → ⊥
    apart n v own there other =
        let l = listed_at q bases n b v there other in
        let at = slice_get_read bases (length bases) l.listed.0 l.base refl l.listed.1 (sym l.listed.2) in
        let same : zero ≡ suc l.listed.0 = once zero (suc l.listed.0) w l.base refl at (own_class b w.class own ∙ sym l.class) in
        omega arith

not_other : (primary : Primary) (base : Base ClassId) → is_other_base primary base ≡ true → (base.is_virtual ≡ false) × (is_first_base primary base ≡ false)
not_other primary base e = both base.is_virtual (is_first_base primary base) e
  where
    both : (x y : Bool) → (not x && not y) ≡ true → (x ≡ false) × (y ≡ false)
    both true y t = let f : false ≡ true = t in cc
    both false true t = let f : false ≡ true = t in cc
    both false false t = (refl, refl)

-- among the bases before the members, one alone is the direct one of a class
pub fronts_once : (primary : Primary) (bases : List (Base ClassId)) (b : ClassId) → ((i j : ℕ) (x y : Base ClassId) → slice_get bases i ≡ Some x → slice_get bases j ≡ Some y → x.class ≡ y.class → i ≡ j)
    → (j k : ℕ) (y z : PlacedBase) → slice_get (front_bases primary bases) j ≡ Some y → slice_get (front_bases primary bases) k ≡ Some z → is_own b y ≡ true → is_own b z ≡ true → j ≡ k
fronts_once NoPrimary bases b once = others_once (is_other_base NoPrimary) bases b once
fronts_once (Direct d) bases b once = one_own b (Own d) (map (λ (base : Base ClassId). Own base.class) (filter (is_other_base (Direct d)) bases))
    (λ own k y there other.
    let l = listed_at (is_other_base (Direct d)) bases k b y there other in
    let n = not_other (Direct d) l.base l.passes in
    let same : d ≡ l.base.class = own_class b d own ∙ sym l.class in
    let t : nat_eq d.0 l.base.class.0 ≡ true = eq-eqb d.0 l.base.class.0 (ap (λ (x : ClassId). x.0) same) in
    let f : true ≡ false = sym t ∙ n.1 in cc)
    (others_once (is_other_base (Direct d)) bases b once)
fronts_once (Virtual v) bases b once = one_own b (VirtualBase v) (map (λ (base : Base ClassId). Own base.class) (filter (is_other_base (Virtual v)) bases))
    (λ own k y there other. let f : false ≡ true = own in cc)
    (others_once (is_other_base (Virtual v)) bases b once)

own_self : (b : ClassId) → is_own b (Own b) ≡ true
own_self b = eq-eqb b.0 b.0 refl

-- a direct base before the members is a direct non-virtual base of the class
record IsPlainListed (bases : List (Base ClassId)) (b : ClassId) : Type 0 where
  base : Base ClassId
  listed : Contains bases base
  way : base.is_virtual ≡ false
  class : base.class ≡ b

plain_of : (primary : Primary) (bases : List (Base ClassId)) (i : ℕ) (b : ClassId) → slice_get (map (λ (base : Base ClassId). Own base.class) (filter (is_other_base primary) bases)) i ≡ Some (Own b) → IsPlainListed bases b
plain_of primary bases i b there =
    let l = listed_at (is_other_base primary) bases i b (Own b) there (own_self b) in
    record { base = l.base; listed = l.listed; way = (not_other primary l.base l.passes).0; class = l.class }

front_listed : (h : Classes) (c : ClassId) (class : Class) (primary : Primary) (i : ℕ) (b : ClassId) → class_at h c ≡ Some class → IsPossible h c primary → slice_get (front_bases primary class.bases) i ≡ Some (Own b) → IsPlainListed class.bases b
front_listed h c class NoPrimary i b e possible there = plain_of NoPrimary class.bases i b there
front_listed h c class (Direct d) zero b e possible there =
    let same : d ≡ b = cc in
    record { base = possible.base; listed = subst (λ (o : Option Class). Contains (bases_in o) possible.base) e possible.listed; way = possible.way; class = possible.class ∙ same }
front_listed h c class (Direct d) (suc i) b e possible there = plain_of (Direct d) class.bases i b there
front_listed h c class (Virtual v) zero b e possible there = cc
front_listed h c class (Virtual v) (suc i) b e possible there = plain_of (Virtual v) class.bases i b there

-- the place of a direct base before the members
pub own_front_place : (h : Classes) (rows : List ClassLayout) (c : ClassId) (class : Class) (row : ClassLayout) (primary : Primary) (ps : List ℕ) (i : ℕ) (b : ClassId) (p : ℕ) → IsHierarchy h → class_at h c ≡ Some class → IsPossible h c primary → slice_get rows c.0 ≡ Some row
    → row.base_places ≡ own_places (front_bases primary class.bases) ps class.bases → slice_get (front_bases primary class.bases) i ≡ Some (Own b) → slice_get ps i ≡ Some p → direct_base_place h rows c b ≡ p
own_front_place h rows c class row primary ps i b p keeps e possible there are at place =
    let l = front_listed h c class primary i b e possible at in
    let read = slice_get_read class.bases (length class.bases) l.listed.0 l.base refl l.listed.1 (sym l.listed.2) in
    let once : (i j : ℕ) (x y : Base ClassId) → slice_get class.bases i ≡ Some x → slice_get class.bases j ≡ Some y → x.class ≡ y.class → i ≡ j = subst (λ (o : Option Class). (i j : ℕ) (x y : Base ClassId) → slice_get (bases_in o) i ≡ Some x → slice_get (bases_in o) j ≡ Some y → x.class ≡ y.class → i ≡ j) e (keeps.once c) in
    ap (direct_base_place h rows c) (sym l.class)
    ∙ (base_place_own h rows c class row (front_bases primary class.bases) ps e there are l.listed.0 l.base read l.way
    ∙ (ap (own_place (front_bases primary class.bases) ps) l.class
    ∙ own_place_at (front_bases primary class.bases) ps i b p (fronts_once primary class.bases b once) at place))

no_virtual : (xs : List (Base ClassId)) (i : ℕ) (v : ClassId) → slice_get (map (λ (base : Base ClassId). Own base.class) xs) i ≡ Some (VirtualBase v) → ⊥
no_virtual [] i v e = let f : None ≡ Some (VirtualBase v) = e in cc
no_virtual (x ∷ xs) zero v e = cc
no_virtual (x ∷ xs) (suc i) v e = no_virtual xs i v e

-- a virtual one among them is the primary base, and the first
pub virtual_first : (primary : Primary) (bases : List (Base ClassId)) (i : ℕ) (v : ClassId) → slice_get (front_bases primary bases) i ≡ Some (VirtualBase v) → (primary ≡ Virtual v) × (i ≡ 0)
virtual_first NoPrimary bases i v e = absurd (no_virtual (filter (is_other_base NoPrimary) bases) i v e)
virtual_first (Direct b) bases zero v e = cc
virtual_first (Direct b) bases (suc i) v e = absurd (no_virtual (filter (is_other_base (Direct b)) bases) i v e)
virtual_first (Virtual w) bases zero v e = let same : w ≡ v = cc in (ap (λ x. Virtual x) same, refl)
virtual_first (Virtual w) bases (suc i) v e = absurd (no_virtual (filter (is_other_base (Virtual w)) bases) i v e)

pub first_place : (stage : Stage) (g : PlacedBase → Component) (bs : List PlacedBase) (ps : List ℕ) (x : PlacedBase) (p : ℕ) → ArePlaced stage (map g bs) ps → slice_get bs 0 ≡ Some x → slice_get ps 0 ≡ Some p → IsComponentAt stage (g x) p
first_place stage g [] ps x p placed e f = let k : None ≡ Some x = e in cc
first_place stage g (y ∷ bs) [] x p placed e f = absurd placed
first_place stage g (y ∷ bs) (q ∷ ps) x p placed e f =
    let same : y ≡ x = cc in
    let is : q ≡ p = cc in
    subst (λ n. IsComponentAt stage (g x) n) is (subst (λ (z : PlacedBase). IsComponentAt stage (g z) q) same placed.0)

-- a virtual primary base is held by the class itself
pub whole_holds : (h : Classes) (ps : List Primary) (c v : ClassId) → primary_of ps c ≡ Virtual v → holder_of h ps c v ≡ Some (whole_of c)
whole_holds h ps c v own = at (c.0 + 1) (omega arith)
  where
    passes : has_primary ps v (whole_of c) ≡ true
    passes = ap (λ (p : Primary). is_virtual_primary p v) own ∙ eq-eqb v.0 v.0 refl

    at : (n : ℕ) → n ≡ suc c.0 → find (has_primary ps v) (firsts (tree h n c (whole_of c))) ≡ Some (whole_of c)
    at n e = rw (e, passes) refl
