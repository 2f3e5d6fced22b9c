-- The row of a class is one, where the rows before it are.
use Rattle.std.proofs.Common.{◌≡◌, ℕ, zero, suc, ◌+◌, ◌<◌, ◌≤◌, ⊎_elim, Bool, true, false, Option, Some, None, List, [], ◌∷◌, map, length, refl, ap, subst, sym, ◌∙◌, arith}
use Rattle.std.specs.Prelude.{Contains, filter, position, nat_eq, not}
use Rattle.std.specs.List.{slice_get}
use Rattle.std.proofs.lemmas.Bool.{eqb-true, cases_order}
use Rattle.std.proofs.lemmas.Option.{slice_get_read}
use Rattle.cxx_hierarchy.specs.declared.records.ClassId.{ClassId}
use Rattle.cxx_hierarchy.specs.declared.records.Base.{Base}
use Rattle.cxx_hierarchy.specs.Classes.{Class, Classes, class_at, bases_of, bases_in as named_bases}
use Rattle.cxx_hierarchy.specs.Hierarchies.{IsHierarchy}
use Rattle.cxx_hierarchy.specs.VirtualBases.{HasVirtualBase}
use Rattle.cxx_subobject.specs.declared.Root.TheVariants.{Whole, Shared}
use Rattle.cxx_subobject.specs.declared.Subobject.{Subobject}
use Rattle.cxx_subobject.specs.Subobjects.{IsSubobject, whole, shared, subobject, Leads, last_of}
use Rattle.cxx_subobject.specs.Preorder.{preorder}
use Rattle.cxx_subobject.proofs.ListLemmas.{Has, contains_from_has}
use Rattle.cxx_subobject.proofs.TreeLemmas.{has_filter, filter_has, preorder_lists}
use Rattle.abi_primary.specs.declared.Primary.{Primary}
use Rattle.abi_primary.specs.declared.Primary.TheVariants.{None as NoPrimary, Direct, Virtual}
use Rattle.abi_primary.specs.PrimaryBase.{IsFirstDynamic, HasNoDynamicBase, is_virtual_primary, has_primary, IsPrimary, of_direct, of_virtual}
use Rattle.abi_primary.specs.Holder.{holder_of}
use Rattle.abi_primary.proofs.HolderLemmas.{held}
use Rattle.abi_sound.specs.declared.class_layout.ClassLayout.{ClassLayout}
use Rattle.abi_layout.specs.declared.placed_bases.PlacedBase.{PlacedBase}
use Rattle.abi_layout.specs.declared.placed_bases.PlacedBase.TheVariants.{Own, VirtualBase}
use Rattle.cxx_hierarchy.specs.Declarations.{is_plain_base}
use Rattle.abi_sound.specs.Places.{nth_place, base_places_in, direct_base_place, place_along}
use Rattle.abi_layout.specs.Kinds.{is_pod}
use Rattle.abi_layout.specs.Placements.{member_component}
use Rattle.cxx_subobject.specs.VirtualBases.{virtual_bases}
use Rattle.abi_layout.specs.PlacedBases.{is_free, free_bases, IsPossible}
use Rattle.abi_layout.specs.Layouts.{virtual_places_in, virtual_bases_in, virtual_place, place_in_class, placed_place, primary_of, fronts, front_components, free_components, object_parts, start_stage, IsArrangedBy, IsLaidRow}
use Rattle.abi_layout.proofs.lists.Lists.{has_at}
use Rattle.abi_layout.proofs.rules.SameRow.{same_row}
use Rattle.cxx_subobject.proofs.PathLemmas.{virtual_below}
use Rattle.abi_layout.proofs.rules.NestedLemmas.{front_has}
use Rattle.foundation.proofs.Members.{map_same}
use Rattle.abi_layout.proofs.rules.AgreeingRows.{AgreeTo, class_low, primary_agrees, fronts_agree, holder_agrees, free_agree, along_agrees}
use Rattle.abi_layout.proofs.rules.AgreeingParts.{ArePossible}
use Rattle.abi_layout.proofs.rules.AgreeingClasses.{pointer_agrees, arranged_agrees}
use Rattle.cxx_subobject.proofs.VirtualBaseLemmas.{has_virtual, virtual_has}
use Rattle.abi_layout.proofs.rules.OneLayoutLists.{same_class, bool_same, EachKey, keys_by_place, keys_filter, places_by_keys, maps_at, has_image, virtual_keys, any_own, IsOneLayout, layout_is_one}

first_is_one : (h : Classes) (bases : List (Base ClassId)) (b d : ClassId) → IsFirstDynamic h bases b → IsFirstDynamic h bases d → b ≡ d
first_is_one h bases b d x y = ⊎_elim
    (λ same. let e : Some x.base ≡ Some y.base = sym x.there ∙ (ap (slice_get bases) same ∙ y.there) in let is : x.base ≡ y.base = cc in sym x.class ∙ (ap (λ (base : Base ClassId). base.class) is ∙ y.class))
    (λ o. ⊎_elim (λ l. absurd (y.before x.number x.base l x.there x.dynamic)) (λ g. absurd (x.before y.number y.base g y.there y.dynamic)) o)
    (cases_order x.number y.number)

clash : (h : Classes) (bases : List (Base ClassId)) (b : ClassId) → IsFirstDynamic h bases b → HasNoDynamicBase h bases → ⊥
clash h bases b first nothing = nothing first.base (has_at bases first.number first.base first.there) first.dynamic

-- a class has one primary base
pub primary_is_one : (h : Classes) (nearly : List Bool) (earlier : List Primary) (c : ClassId) (p q : Primary) → IsPrimary h nearly earlier c p → IsPrimary h nearly earlier c q → p ≡ q
primary_is_one h nearly earlier c _ _ (of_direct b first) (of_direct d other) = ap (λ (x : ClassId). Direct x) (first_is_one h (bases_of h c) b d first other)
primary_is_one h nearly earlier c _ _ (of_direct b first) (of_virtual nothing) = absurd (clash h (bases_of h c) b first nothing)
primary_is_one h nearly earlier c _ _ (of_virtual nothing) (of_direct b first) = absurd (clash h (bases_of h c) b first nothing)
primary_is_one h nearly earlier c _ _ (of_virtual nothing) (of_virtual none_too) = refl

plain_is : (b : Bool) → not b ≡ true → b ≡ false
plain_is true e = let f : false ≡ true = e in sym f
plain_is false e = refl

-- a direct non-virtual base stands before the members
pub own_front : (h : Classes) (ps : List Primary) (c : ClassId) (class : Class) (base : Base ClassId) → class_at h c ≡ Some class → Contains (bases_of h c) base → base.is_virtual ≡ false → Has (fronts ps c class) (Own base.class)
own_front h ps c class base e has way =
    let listed : Contains class.bases base = subst (λ (o : Option Class). Contains (named_bases o) base) e has in
    let at = slice_get_read class.bases (length class.bases) listed.0 base refl listed.1 (sym listed.2) in
    any_own base.class (fronts ps c class) (front_has (primary_of ps c) class.bases listed.0 base at way)

-- a virtual base that no subobject holds is free
pub free_has : (h : Classes) (ps : List Primary) (c v : ClassId) → IsHierarchy h → HasVirtualBase h c v → holder_of h ps c v ≡ None → Has (free_bases h ps c) (VirtualBase v)
free_has h ps c v keeps has free =
    has_image (λ (w : ClassId). VirtualBase w) (filter (λ (w : ClassId). is_free (holder_of h ps c w)) (virtual_bases h c)) v
    (filter_has (λ (w : ClassId). is_free (holder_of h ps c w)) (virtual_bases h c) v (has_virtual h keeps c v has) (ap is_free free))

primary_below : (h : Classes) (d v : ClassId) (p : Primary) → IsHierarchy h → IsPossible h d p → is_virtual_primary p v ≡ true → v.0 < d.0
primary_below h d v NoPrimary keeps possible e = let f : false ≡ true = e in cc
primary_below h d v (Direct b) keeps possible e = let f : false ≡ true = e in cc
primary_below h d v (Virtual u) keeps possible e = let same = eqb-true u.0 v.0 e in let lt = virtual_below h keeps d u possible in omega arith

-- a virtual base whose holder lies in another one stands before that one
pub holder_rises : (h : Classes) (ps : List Primary) (c v w : ClassId) (path : List ClassId) → IsHierarchy h → ArePossible h (c.0 + 1) ps → HasVirtualBase h c w → Leads h w path → has_primary ps v (subobject (Shared w) (w ∷ path)) ≡ true → v.0 < w.0
holder_rises h ps c v w path keeps possible has leads e =
    let lt = virtual_below h keeps c w has in
    let le = class_low h w (subobject Whole (w ∷ path)) (last_of w path) keeps (whole path leads) refl in
    let below = primary_below h (last_of w path) v (primary_of ps (last_of w path)) keeps (possible.each (last_of w path) (omega arith)) e in
    omega arith

-- the place of a subobject, where those of the direct bases and of its virtual base are the same
place_same : (h : Classes) (rows others : List ClassLayout) (c : ClassId) (t : Subobject) → IsHierarchy h → AgreeTo c.0 rows others → ((path : List ClassId) → Leads h c path → place_along h rows c path ≡ place_along h others c path)
    → ((w : ClassId) (path : List ClassId) → t ≡ subobject (Shared w) (w ∷ path) → HasVirtualBase h c w → Leads h w path → virtual_place rows c w ≡ virtual_place others c w) → IsSubobject h c t → place_in_class h rows c t ≡ place_in_class h others c t
place_same h rows others c _ keeps agree along virtual (whole path leads) = ap (λ k. 0 + k) (along path leads)
place_same h rows others c _ keeps agree along virtual (shared w path has leads) =
    let lt = virtual_below h keeps c w has in
    ap (λ k. k + place_along h rows w path) (virtual w path refl has leads)
    ∙ ap (λ k. virtual_place others c w + k) (along_agrees h c.0 rows others w path keeps agree lt leads)

-- two rows of one class, by rows and primary bases that agree before it
pub record AreRows (h : Classes) (rows others : List ClassLayout) (near other : List Bool) (ps qs : List Primary) (c : ClassId) (class : Class) (x y : ClassLayout) : Type 0 where
  pub keeps : IsHierarchy h
  pub class_is : class_at h c ≡ Some class
  pub agree : AgreeTo c.0 rows others
  pub alike : AgreeTo (c.0 + 1) ps qs
  pub possible : ArePossible h (c.0 + 1) ps
  pub there : slice_get rows c.0 ≡ Some x
  pub other_there : slice_get others c.0 ≡ Some y
  pub row : IsLaidRow h rows near ps c class x
  pub other_row : IsLaidRow h others other qs c class y

placed_one : (h : Classes) (rows others : List ClassLayout) (near other : List Bool) (ps qs : List Primary) (c : ClassId) (class : Class) (x y : ClassLayout) → AreRows h rows others near other ps qs c class x y
    → IsOneLayout (map (placed_place h rows c) (fronts ps c class)) (map (placed_place h others c) (fronts qs c class)) (map (placed_place h rows c) (free_bases h ps c)) (map (placed_place h others c) (free_bases h qs c)) x y
placed_one h rows others near other ps qs c class x y r =
    let l = r.row in
    let k = r.other_row in
    let mine = map (placed_place h rows c) (fronts ps c class) in
    let free = map (placed_place h rows c) (free_bases h ps c) in
    let pointer : l.has_pointer ≡ k.has_pointer = bool_same l.has_pointer k.has_pointer (pointer_agrees h ps qs c l.has_pointer r.alike l.pointer) k.pointer in
    layout_is_one (start_stage c k.has_pointer) (front_components h others qs (object_parts h others qs) c class) (map (member_component others (object_parts h others qs)) class.members) (free_components h others qs (object_parts h others qs) c)
    mine (map (placed_place h others c) (fronts qs c class)) free (map (placed_place h others c) (free_bases h qs c)) (is_pod h c) x y
    (subst (λ b. IsArrangedBy h others qs c class b mine free x) pointer (arranged_agrees h rows others ps qs c class l.has_pointer mine free x r.keeps r.class_is r.agree r.alike r.possible l.placed))
    k.placed

front_place_one : (h : Classes) (rows others : List ClassLayout) (near other : List Bool) (ps qs : List Primary) (c : ClassId) (class : Class) (x y : ClassLayout) → AreRows h rows others near other ps qs c class x y → (base : PlacedBase) → Has (fronts ps c class) base → placed_place h rows c base ≡ placed_place h others c base
front_place_one h rows others near other ps qs c class x y r base has =
    maps_at (placed_place h rows c) (placed_place h others c) (fronts ps c class) base
    ((placed_one h rows others near other ps qs c class x y r).fronts ∙ ap (map (placed_place h others c)) (sym (fronts_agree (c.0 + 1) ps qs c class r.alike (omega arith)))) has

free_place_one : (h : Classes) (rows others : List ClassLayout) (near other : List Bool) (ps qs : List Primary) (c : ClassId) (class : Class) (x y : ClassLayout) → AreRows h rows others near other ps qs c class x y → (base : PlacedBase) → Has (free_bases h ps c) base → placed_place h rows c base ≡ placed_place h others c base
free_place_one h rows others near other ps qs c class x y r base has =
    maps_at (placed_place h rows c) (placed_place h others c) (free_bases h ps c) base
    ((placed_one h rows others near other ps qs c class x y r).frees ∙ ap (map (placed_place h others c)) (sym (free_agree h ps qs c r.keeps r.alike))) has

added : (m n : ℕ) → 0 + (m + 0) ≡ 0 + (n + 0) → m ≡ n
added m n e = omega arith

added_once : (m n : ℕ) → m + 0 ≡ n + 0 → m ≡ n
added_once m n e = omega arith

base_place_one : (h : Classes) (rows others : List ClassLayout) (near other : List Bool) (ps qs : List Primary) (c : ClassId) (class : Class) (x y : ClassLayout) → AreRows h rows others near other ps qs c class x y → (base : Base ClassId) → Contains (bases_of h c) base → base.is_virtual ≡ false → direct_base_place h rows c base.class ≡ direct_base_place h others c base.class
base_place_one h rows others near other ps qs c class x y r base has way =
    added (direct_base_place h rows c base.class) (direct_base_place h others c base.class) (front_place_one h rows others near other ps qs c class x y r (Own base.class) (own_front h ps c class base r.class_is has way))

along_one : (h : Classes) (rows others : List ClassLayout) (near other : List Bool) (ps qs : List Primary) (c : ClassId) (class : Class) (x y : ClassLayout) → AreRows h rows others near other ps qs c class x y → (path : List ClassId) → Leads h c path → place_along h rows c path ≡ place_along h others c path
along_one h rows others near other ps qs c class x y r [] leads = refl
along_one h rows others near other ps qs c class x y r (b ∷ path) leads =
    let edge = leads.0 in
    let same : edge.base.class.0 ≡ b.0 = ap (λ (z : ClassId). z.0) edge.class in
    let falls = r.keeps.bases c edge.base edge.listed in
    ap (λ k. k + place_along h rows b path) (subst (λ (z : ClassId). direct_base_place h rows c z ≡ direct_base_place h others c z) edge.class (base_place_one h rows others near other ps qs c class x y r edge.base edge.listed edge.way))
    ∙ ap (λ k. direct_base_place h others c b + k) (along_agrees h c.0 rows others b path r.keeps r.agree (omega arith) leads.1)

-- the places of virtual bases, from the greatest number down
virtual_one : (h : Classes) (rows others : List ClassLayout) (near other : List Bool) (ps qs : List Primary) (c : ClassId) (class : Class) (x y : ClassLayout) → AreRows h rows others near other ps qs c class x y → (k : ℕ) (v : ClassId) → c.0 ≤ v.0 + k → HasVirtualBase h c v → virtual_place rows c v ≡ virtual_place others c v
virtual_one h rows others near other ps qs c class x y r zero v le has = let lt = virtual_below h r.keeps c v has in absurd (omega arith)
virtual_one h rows others near other ps qs c class x y r (suc k) v le has =
    by_holder (holder_of h ps c v) refl (λ w less there. virtual_one h rows others near other ps qs c class x y r k w (omega arith) there)
  where
    by_holder : (o : Option Subobject) → holder_of h ps c v ≡ o → ((w : ClassId) → v.0 < w.0 → HasVirtualBase h c w → virtual_place rows c w ≡ virtual_place others c w) → virtual_place rows c v ≡ virtual_place others c v
    by_holder None e later = added_once (virtual_place rows c v) (virtual_place others c v) (free_place_one h rows others near other ps qs c class x y r (VirtualBase v) (free_has h ps c v r.keeps has e))
    by_holder (Some t) e later =
        let facts = held h ps c v (preorder h c) (Some t) refl (preorder_lists h c r.keeps) e in
        let listed = contains_from_has (virtual_bases h c) v (has_virtual h r.keeps c v has) in
        r.row.held v t listed e
        ∙ (place_same h rows others c t r.keeps r.agree (along_one h rows others near other ps qs c class x y r)
        (λ w path is there leads. later w (holder_rises h ps c v w path r.keeps r.possible there leads (subst (λ (s : Subobject). has_primary ps v s ≡ true) is facts.1)) there) facts.0
        ∙ sym (r.other_row.held v t listed (sym (holder_agrees h ps qs c v r.keeps r.alike) ∙ e)))

-- the bases of a class are of different classes
base_keys : (h : Classes) (c : ClassId) → IsHierarchy h → EachKey (λ (base : Base ClassId). base.class.0) (bases_of h c)
base_keys h c keeps = keys_by_place (λ (base : Base ClassId). base.class.0) (bases_of h c) (λ i j x y a b same. keeps.once c i j x y a b (same_class x.class y.class same))

base_places_one : (h : Classes) (rows others : List ClassLayout) (near other : List Bool) (ps qs : List Primary) (c : ClassId) (class : Class) (x y : ClassLayout) → AreRows h rows others near other ps qs c class x y → x.base_places ≡ y.base_places
base_places_one h rows others near other ps qs c class x y r =
    let many : length (filter is_plain_base class.bases) ≡ length (filter is_plain_base (bases_of h c)) = ap (λ (o : Option Class). length (filter is_plain_base (named_bases o))) (sym r.class_is) in
    places_by_keys (λ (base : Base ClassId). base.class.0) (filter is_plain_base (bases_of h c)) x.base_places y.base_places
    (keys_filter (λ (base : Base ClassId). base.class.0) is_plain_base (bases_of h c) (base_keys h c r.keeps))
    (r.row.each_base ∙ many) (r.other_row.each_base ∙ many)
    (λ base has.
    let of_base = has_filter is_plain_base (bases_of h c) base has in
    let way = plain_is base.is_virtual of_base.1 in
    ap (λ (o : Option ClassLayout). nth_place (base_places_in o) (position (λ (z : Base ClassId). nat_eq z.class.0 base.class.0) (filter is_plain_base (bases_of h c)))) (sym r.there)
    ∙ (base_place_one h rows others near other ps qs c class x y r base (contains_from_has (bases_of h c) base of_base.0) way
    ∙ ap (λ (o : Option ClassLayout). nth_place (base_places_in o) (position (λ (z : Base ClassId). nat_eq z.class.0 base.class.0) (filter is_plain_base (bases_of h c)))) r.other_there))

-- the place of a virtual base, by its row
virtual_by_row : (h : Classes) (rows : List ClassLayout) (c v : ClassId) (x : ClassLayout) → slice_get rows c.0 ≡ Some x → x.virtual_bases ≡ virtual_bases h c → virtual_place rows c v ≡ nth_place x.virtual_places (position (λ (w : ClassId). nat_eq w.0 v.0) (virtual_bases h c))
virtual_by_row h rows c v x there is =
    ap (λ (o : Option ClassLayout). nth_place (virtual_places_in o) (position (λ (w : ClassId). nat_eq w.0 v.0) (virtual_bases_in o))) there
    ∙ ap (λ (vs : List ClassId). nth_place x.virtual_places (position (λ (w : ClassId). nat_eq w.0 v.0) vs)) is

virtual_places_one : (h : Classes) (rows others : List ClassLayout) (near other : List Bool) (ps qs : List Primary) (c : ClassId) (class : Class) (x y : ClassLayout) → AreRows h rows others near other ps qs c class x y → x.virtual_places ≡ y.virtual_places
virtual_places_one h rows others near other ps qs c class x y r =
    places_by_keys (λ (v : ClassId). v.0) (virtual_bases h c) x.virtual_places y.virtual_places (virtual_keys h c) r.row.each_virtual r.other_row.each_virtual
    (λ v has.
    sym (virtual_by_row h rows c v x r.there r.row.virtuals)
    ∙ (virtual_one h rows others near other ps qs c class x y r c.0 v (omega arith) (virtual_has h c v has)
    ∙ virtual_by_row h others c v y r.other_there r.other_row.virtuals))

-- the row of a class is one
pub row_is_one : (h : Classes) (rows others : List ClassLayout) (near other : List Bool) (ps qs : List Primary) (c : ClassId) (class : Class) (x y : ClassLayout) → AreRows h rows others near other ps qs c class x y → x ≡ y
row_is_one h rows others near other ps qs c class x y r =
    let l = r.row in
    let k = r.other_row in
    let is = placed_one h rows others near other ps qs c class x y r in
    same_row x y is.size is.align is.dsize is.nvsize is.nvalign
    (l.primary ∙ (primary_agrees (c.0 + 1) ps qs c r.alike (omega arith) ∙ sym k.primary))
    (base_places_one h rows others near other ps qs c class x y r)
    (l.virtuals ∙ sym k.virtuals)
    (virtual_places_one h rows others near other ps qs c class x y r)
    (l.holders ∙ (map_same (holder_of h ps c) (holder_of h qs c) (virtual_bases h c) (λ v has. holder_agrees h ps qs c v r.keeps r.alike) ∙ sym k.holders))
    is.members is.bits
