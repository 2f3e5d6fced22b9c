-- Rows and primary bases that agree on the first classes, and what depends on these alone.
use Rattle.std.proofs.Common.{◌≡◌, ℕ, zero, suc, ◌+◌, ◌<◌, ◌≤◌, inl, inr, Bool, cond, Option, Some, None, List, [], ◌∷◌, ◌++◌, map, take, length, get_or, refl, ap, sym, ◌∙◌, arith}
use Rattle.std.specs.Prelude.{if◌then◌else◌, filter, position, nat_eq}
use Rattle.std.specs.Option.{unwrap_or}
use Rattle.std.specs.List.{slice_get, find}
use Rattle.std.proofs.lemmas.Option.{unwrap_or-slice_get}
use Rattle.cxx_hierarchy.specs.declared.records.ClassId.{ClassId}
use Rattle.cxx_hierarchy.specs.declared.records.Base.{Base}
use Rattle.cxx_hierarchy.specs.Classes.{Class, Classes, bases_of}
use Rattle.cxx_hierarchy.specs.Hierarchies.{IsHierarchy}
use Rattle.cxx_subobject.specs.declared.Subobject.{Subobject}
use Rattle.cxx_subobject.specs.Subobjects.{IsSubobject, whole, shared, Leads, last_of, class_of}
use Rattle.cxx_subobject.specs.Preorder.{preorder}
use Rattle.cxx_subobject.proofs.ListLemmas.{Has}
use Rattle.cxx_subobject.proofs.TreeLemmas.{has_preorder}
use Rattle.abi_primary.specs.declared.Primary.{Primary}
use Rattle.abi_primary.specs.declared.Primary.TheVariants.{None as NoPrimary}
use Rattle.abi_primary.specs.PrimaryBase.{is_virtual_primary, has_primary_in, has_primary}
use Rattle.abi_primary.specs.Holder.{holder_of}
use Rattle.abi_sound.specs.declared.class_layout.ClassLayout.{ClassLayout}
use Rattle.cxx_subobject.proofs.PathLemmas.{last_below}
use Rattle.foundation.proofs.Chosen.{filter_same}
use Rattle.abi_layout.proofs.lists.LastItems.{same_before}
use Rattle.abi_layout.specs.declared.placed_bases.PlacedBase.{PlacedBase}
use Rattle.abi_layout.specs.declared.placed_bases.PlacedBase.TheVariants.{Own, VirtualBase}
use Rattle.cxx_hierarchy.specs.Declarations.{is_plain_base}
use Rattle.abi_sound.specs.Places.{nth_place, base_places_in, direct_base_place, place_along}
use Rattle.cxx_subobject.specs.VirtualBases.{virtual_bases}
use Rattle.abi_sound.specs.Chains.{is_subobject_in}
use Rattle.abi_layout.specs.Holding.{virtual_in, virtual_primary_base, holds_base, kept_if, held_base}
use Rattle.abi_layout.specs.PlacedBases.{front_bases, is_free, free_bases}
use Rattle.abi_layout.specs.Layouts.{virtual_places_in, virtual_bases_in, virtual_place, place_in_class, placed_place, primary_of, fronts}
use Rattle.abi_layout.proofs.algorithm.SettledLemmas.{base_below}
use Rattle.cxx_subobject.proofs.PathLemmas.{virtual_below}
pub use Rattle.foundation.proofs.Chosen.{any_same}

-- two lists agree on the first `count` places
pub record AgreeTo {X : Type 0} (count : ℕ) (xs ys : List X) : Type 0 where
  pub each : (i : ℕ) → i < count → slice_get xs i ≡ slice_get ys i

pub agree_less : {X : Type 0} (m n : ℕ) (xs ys : List X) → m ≤ n → AgreeTo n xs ys → AgreeTo m xs ys
agree_less m n xs ys le agree = record { each = λ i lt. agree.each i (omega arith) }

pub agree_turned : {X : Type 0} (n : ℕ) (xs ys : List X) → AgreeTo n xs ys → AgreeTo n ys xs
agree_turned n xs ys agree = record { each = λ i lt. sym (agree.each i lt) }

pub agree_item : {X : Type 0} (n : ℕ) (xs ys : List X) (i : ℕ) (d : X) → AgreeTo n xs ys → i < n → get_or xs i d ≡ get_or ys i d
agree_item n xs ys i d agree lt = sym (unwrap_or-slice_get xs i d) ∙ (ap (λ o. unwrap_or o d) (agree.each i lt) ∙ unwrap_or-slice_get ys i d)

-- a list with one item more agrees with what it was
pub agree_push : {X : Type 0} (n : ℕ) (xs : List X) (x : X) → n ≤ length xs → AgreeTo n xs (xs ++ x ∷ [])
agree_push n xs x le = record { each = λ i lt. same_before xs x i (omega arith) }

take_same : {X : Type 0} (n : ℕ) (xs : List X) (i : ℕ) → i < n → slice_get xs i ≡ slice_get (take n xs) i
take_same zero xs i lt = absurd (omega arith)
take_same (suc n) [] i lt = refl
take_same (suc n) (x ∷ xs) zero lt = refl
take_same (suc n) (x ∷ xs) (suc i) lt = take_same n xs i (omega arith)

-- a list agrees with its front
pub agree_take : {X : Type 0} (n : ℕ) (xs : List X) → AgreeTo n xs (take n xs)
agree_take n xs = record { each = λ i lt. take_same n xs i lt }

-- the fronts of lists that agree are one
pub take_agrees : {X : Type 0} (n : ℕ) (xs ys : List X) → AgreeTo n xs ys → take n xs ≡ take n ys
take_agrees zero xs ys agree = refl
take_agrees (suc n) [] [] agree = refl
take_agrees (suc n) [] (y ∷ ys) agree = let e = agree.each zero (omega arith) in cc
take_agrees (suc n) (x ∷ xs) [] agree = let e = agree.each zero (omega arith) in cc
take_agrees (suc n) (x ∷ xs) (y ∷ ys) agree =
    let e = agree.each zero (omega arith) in
    let same : x ≡ y = cc in
    ap (λ z. z ∷ take n xs) same ∙ ap (λ zs. y ∷ zs) (take_agrees n xs ys (record { each = λ i lt. agree.each (suc i) (omega arith) }))

-- functions that agree on the items of a list
pub find_same : {X : Type 0} (p q : X → Bool) (xs : List X) → ((x : X) → Has xs x → p x ≡ q x) → find p xs ≡ find q xs
find_same p q [] same = refl
find_same {X} p q (x ∷ xs) same = ap (λ b. cond b (Some x) (find p xs)) (same x (inl refl)) ∙ ap (λ (o : Option X). cond (q x) (Some x) o) (find_same p q xs (λ y has. same y (inr has)))

-- a subobject of a class is of no later class
pub class_low : (h : Classes) (c : ClassId) (s : Subobject) (d : ClassId) → IsHierarchy h → IsSubobject h c s → class_of s ≡ Some d → d.0 ≤ c.0
class_low h c _ d keeps (whole path leads) e =
    let same : last_of c path ≡ d = cc in
    let n : (last_of c path).0 ≡ d.0 = ap (λ (x : ClassId). x.0) same in
    let le = last_below h keeps c path leads in omega arith
class_low h c _ d keeps (shared v path has leads) e =
    let same : last_of v path ≡ d = cc in
    let n : (last_of v path).0 ≡ d.0 = ap (λ (x : ClassId). x.0) same in
    let le = last_below h keeps v path leads in
    let lt = virtual_below h keeps c v has in omega arith

-- the primary base of a class
pub primary_agrees : (n : ℕ) (ps qs : List Primary) (c : ClassId) → AgreeTo n ps qs → c.0 < n → primary_of ps c ≡ primary_of qs c
primary_agrees n ps qs c agree lt = agree_item n ps qs c.0 NoPrimary agree lt

pub virtual_primary_agrees : (n : ℕ) (ps qs : List Primary) (d : ClassId) → AgreeTo n ps qs → d.0 < n → virtual_primary_base ps d ≡ virtual_primary_base qs d
virtual_primary_agrees n ps qs d agree lt = ap virtual_in (agree.each d.0 lt)

pub fronts_agree : (n : ℕ) (ps qs : List Primary) (c : ClassId) (class : Class) → AgreeTo n ps qs → c.0 < n → fronts ps c class ≡ fronts qs c class
fronts_agree n ps qs c class agree lt = ap (λ p. front_bases p class.bases) (primary_agrees n ps qs c agree lt)

-- whether a virtual base is the primary base of the class of a subobject
pub has_primary_agrees : (h : Classes) (ps qs : List Primary) (c v : ClassId) (s : Subobject) → IsHierarchy h → AgreeTo (c.0 + 1) ps qs → IsSubobject h c s → has_primary ps v s ≡ has_primary qs v s
has_primary_agrees h ps qs c v s keeps agree valid = at (class_of s) refl
  where
    at : (o : Option ClassId) → class_of s ≡ o → has_primary_in ps v o ≡ has_primary_in qs v o
    at None e = refl
    at (Some d) e = let le = class_low h c s d keeps valid e in ap (λ p. is_virtual_primary p v) (agree_item (c.0 + 1) ps qs d.0 NoPrimary agree (omega arith))

-- the holder of a virtual base
pub holder_agrees : (h : Classes) (ps qs : List Primary) (c v : ClassId) → IsHierarchy h → AgreeTo (c.0 + 1) ps qs → holder_of h ps c v ≡ holder_of h qs c v
holder_agrees h ps qs c v keeps agree = find_same (has_primary ps v) (has_primary qs v) (preorder h c) (λ s has. has_primary_agrees h ps qs c v s keeps agree (has_preorder h c s has))

pub holds_agrees : (h : Classes) (ps qs : List Primary) (c : ClassId) (s : Subobject) (v : ClassId) → IsHierarchy h → AgreeTo (c.0 + 1) ps qs → holds_base h ps c s v ≡ holds_base h qs c s v
holds_agrees h ps qs c s v keeps agree = ap (λ o. is_subobject_in o s) (holder_agrees h ps qs c v keeps agree)

kept_same : (f g : ClassId → Bool) (o : Option ClassId) → ((v : ClassId) → f v ≡ g v) → kept_if f o ≡ kept_if g o
kept_same f g None same = refl
kept_same f g (Some v) same = ap (λ b. if b then Some v else None) (same v)

-- what a subobject holds
pub held_agrees : (h : Classes) (ps qs : List Primary) (c : ClassId) (s : Subobject) (d : ClassId) → IsHierarchy h → AgreeTo (c.0 + 1) ps qs → d.0 ≤ c.0 → held_base h ps c s d ≡ held_base h qs c s d
held_agrees h ps qs c s d keeps agree le =
    ap (kept_if (holds_base h ps c s)) (virtual_primary_agrees (c.0 + 1) ps qs d agree (omega arith))
    ∙ kept_same (holds_base h ps c s) (holds_base h qs c s) (virtual_primary_base qs d) (λ v. holds_agrees h ps qs c s v keeps agree)

-- the virtual bases that no subobject holds
pub free_agree : (h : Classes) (ps qs : List Primary) (c : ClassId) → IsHierarchy h → AgreeTo (c.0 + 1) ps qs → free_bases h ps c ≡ free_bases h qs c
free_agree h ps qs c keeps agree =
    ap (map (λ (v : ClassId). VirtualBase v)) (filter_same (λ (v : ClassId). is_free (holder_of h ps c v)) (λ (v : ClassId). is_free (holder_of h qs c v)) (virtual_bases h c)
    (λ v has. ap is_free (holder_agrees h ps qs c v keeps agree)))

-- the place of a direct base
pub base_place_agrees : (h : Classes) (n : ℕ) (rows others : List ClassLayout) (d b : ClassId) → AgreeTo n rows others → d.0 < n → direct_base_place h rows d b ≡ direct_base_place h others d b
base_place_agrees h n rows others d b agree lt = ap (λ (o : Option ClassLayout). nth_place (base_places_in o) (position (λ (base : Base ClassId). nat_eq base.class.0 b.0) (filter is_plain_base (bases_of h d)))) (agree.each d.0 lt)

-- the places along a path
pub along_agrees : (h : Classes) (n : ℕ) (rows others : List ClassLayout) (d : ClassId) (path : List ClassId) → IsHierarchy h → AgreeTo n rows others → d.0 < n → Leads h d path → place_along h rows d path ≡ place_along h others d path
along_agrees h n rows others d [] keeps agree lt leads = refl
along_agrees h n rows others d (b ∷ path) keeps agree lt leads =
    let f = base_below h d b keeps leads.0 in
    ap (λ k. k + place_along h rows b path) (base_place_agrees h n rows others d b agree lt)
    ∙ ap (λ k. direct_base_place h others d b + k) (along_agrees h n rows others b path keeps agree (omega arith) leads.1)

-- the place of a virtual base
pub virtual_place_agrees : (h : Classes) (n : ℕ) (rows others : List ClassLayout) (c v : ClassId) → AgreeTo n rows others → c.0 < n → virtual_place rows c v ≡ virtual_place others c v
virtual_place_agrees h n rows others c v agree lt = ap (λ (o : Option ClassLayout). nth_place (virtual_places_in o) (position (λ (w : ClassId). nat_eq w.0 v.0) (virtual_bases_in o))) (agree.each c.0 lt)

-- the place of a subobject
pub place_agrees : (h : Classes) (n : ℕ) (rows others : List ClassLayout) (c : ClassId) (s : Subobject) → IsHierarchy h → AgreeTo n rows others → c.0 < n → IsSubobject h c s → place_in_class h rows c s ≡ place_in_class h others c s
place_agrees h n rows others c _ keeps agree lt (whole path leads) = ap (λ k. 0 + k) (along_agrees h n rows others c path keeps agree lt leads)
place_agrees h n rows others c _ keeps agree lt (shared v path has leads) =
    let f = virtual_below h keeps c v has in
    ap (λ k. k + place_along h rows v path) (virtual_place_agrees h n rows others c v agree lt)
    ∙ ap (λ k. virtual_place others c v + k) (along_agrees h n rows others v path keeps agree (omega arith) leads)

-- the place of a base that is placed in its class
pub placed_place_agrees : (h : Classes) (n : ℕ) (rows others : List ClassLayout) (c : ClassId) (base : PlacedBase) → AgreeTo n rows others → c.0 < n → placed_place h rows c base ≡ placed_place h others c base
placed_place_agrees h n rows others c (Own b) agree lt = ap (λ k. 0 + (k + 0)) (base_place_agrees h n rows others c b agree lt)
placed_place_agrees h n rows others c (VirtualBase v) agree lt = ap (λ k. k + 0) (virtual_place_agrees h n rows others c v agree lt)
