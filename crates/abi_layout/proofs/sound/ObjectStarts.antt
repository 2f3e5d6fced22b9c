-- A direct primary base lies at the start of its class.
use Rattle.std.proofs.Common.{◌≡◌, ℕ, zero, suc, ◌+◌, ◌*◌, ◌<◌, ◌≤◌, inl, inr, Bool, true, false, Option, Some, None, List, [], ◌∷◌, ◌++◌, map, length, refl, subst, sym, ◌∙◌, arith}
use Rattle.std.specs.Prelude.{All, Contains, nat_eq, ◌&&◌, ◌||◌, if◌then◌else◌}
use Rattle.std.specs.List.{slice_get, flat_map}
use Rattle.std.proofs.lemmas.Bool.{eqb-true}
use Rattle.std.proofs.lemmas.Option.{slice_get_within}
use Rattle.std.proofs.lemmas.List.Elements.{All-contains}
use Rattle.cxx_hierarchy.specs.declared.records.ClassId.{ClassId}
use Rattle.cxx_hierarchy.specs.declared.records.Base.{Base}
use Rattle.cxx_hierarchy.specs.declared.records.Member.{Member}
use Rattle.cxx_hierarchy.specs.declared.records.FieldType.{FieldType}
use Rattle.cxx_hierarchy.specs.declared.records.FieldType.TheVariants.{Value, Object}
use Rattle.cxx_hierarchy.specs.Classes.{Class, Classes, class_at, bases_of, members_of, members_in as class_members_in}
use Rattle.cxx_hierarchy.specs.Hierarchies.{IsHierarchy}
use Rattle.cxx_subobject.specs.declared.Subobject.{Subobject}
use Rattle.cxx_subobject.specs.Subobjects.{base_subobject, shared_base}
use Rattle.abi_emptybase.specs.declared.Part.{Part}
use Rattle.abi_emptybase.specs.Table.{moved_part, has_conflict}
use Rattle.abi_primary.specs.declared.Primary.{Primary}
use Rattle.abi_primary.specs.declared.Primary.TheVariants.{None as NoPrimary, Direct}
use Rattle.abi_sound.specs.declared.class_layout.ClassLayout.{ClassLayout}
use Rattle.abi_layout.specs.declared.component.Component.{Component}
use Rattle.abi_layout.specs.declared.component.Stage.{Stage}
use Rattle.abi_layout.specs.declared.placed_bases.PlacedBase.{PlacedBase}
use Rattle.abi_layout.specs.declared.placed_bases.PlacedBase.TheVariants.{Own}
use Rattle.abi_sound.specs.Sound.{Divides}
use Rattle.abi_sound.specs.Places.{member_places_in, direct_base_place}
use Rattle.abi_layout.specs.Placements.{IsLeastFreePlace, behind, ArePlaced, placed_part, parts_at, size_of_member_type, parts_of_type, copies, member_component}
use Rattle.cxx_hierarchy.specs.Declarations.{elements_of}
use Rattle.abi_layout.specs.Holding.{held_base}
use Rattle.abi_layout.specs.Brought.{parts_in_members, base_brings, virtual_brings, brought}
use Rattle.abi_layout.specs.PlacedBases.{class_of_placed, subobject_of, front_bases, free_bases, placed_component, IsPossible}
use Rattle.abi_layout.specs.Kinds.{is_empty}
use Rattle.abi_layout.specs.Layouts.{primary_of, fronts, placed_place, front_components, object_parts_in, object_parts_within, object_parts, start_stage}
use Rattle.abi_layout.specs.invariants.Scenes.{AreBefore}
use Rattle.abi_layout.proofs.rules.Stages.{Has, split}
use Rattle.abi_layout.proofs.rules.KindLemmas.{contains_of, from_map}
use Rattle.abi_layout.proofs.algorithm.PlacedClassLemmas.{fronts_below, frees_below}
use Rattle.abi_layout.proofs.rules.BroughtLemmas.{held_is_primary}
use Rattle.abi_layout.proofs.sound.ObjectPrimaries.{primary_possible}
use Rattle.abi_layout.proofs.sound.ObjectKnown.{IsLaidOut, row_of, before_of}

-- the class of each part is below n
abbrev pub AreUnder : ℕ → List Part → Type 0
AreUnder n [] = Unit {0}
AreUnder n (part ∷ parts) = (part.class < n) × AreUnder n parts

under_more : (n m : ℕ) (parts : List Part) → n ≤ m → AreUnder n parts → AreUnder m parts
under_more n m [] le u = tt
under_more n m (part ∷ parts) le u = (let h = u.0 in omega arith, under_more n m parts le u.1)

under_moved : (n at : ℕ) (parts : List Part) → AreUnder n parts → AreUnder n (map (moved_part at) parts)
under_moved n at [] u = tt
under_moved n at (part ∷ parts) u = (u.0, under_moved n at parts u.1)

under_both : (n : ℕ) (xs ys : List Part) → AreUnder n xs → AreUnder n ys → AreUnder n (xs ++ ys)
under_both n [] ys u w = w
under_both n (x ∷ xs) ys u w = (u.0, under_both n xs ys u.1 w)

under_copies : (n count stride : ℕ) (parts : List Part) → AreUnder n parts → AreUnder n (copies count stride parts)
under_copies n zero stride parts u = tt
under_copies n (suc count) stride parts u = under_both n (copies count stride parts) (map (moved_part (count * stride)) parts) (under_copies n count stride parts u) (under_moved n (count * stride) parts u)

under_flat : {X : Type 0} (n : ℕ) (f : X → List Part) (xs : List X) → ((x : X) → Has xs x → AreUnder n (f x)) → AreUnder n (flat_map f xs)
under_flat n f [] each = tt
under_flat n f (x ∷ xs) each = under_both n (f x) (flat_map f xs) (each x (inl refl)) (under_flat n f xs (λ y has. each y (inr has)))

under_placed : (n : ℕ) (cs : List Component) (places : List ℕ) → ((c : Component) → Has cs c → AreUnder n c.parts) → AreUnder n (parts_at cs places)
under_placed n [] places each = tt
under_placed n (c ∷ cs) [] each = tt
under_placed n (c ∷ cs) (place ∷ places) each = under_both n (map (moved_part place) c.parts) (parts_at cs places) (under_moved n place c.parts (each c (inl refl))) (under_placed n cs places (λ d has. each d (inr has)))

under_mapped : {X : Type 0} (n : ℕ) (f : X → Component) (xs : List X) (places : List ℕ) → ((x : X) → Has xs x → AreUnder n (f x).parts) → AreUnder n (parts_at (map f xs) places)
under_mapped n f xs places each = under_placed n (map f xs) places (λ c has. let k = from_map f xs c has in subst (λ (d : Component). AreUnder n d.parts) k.2 (each k.0 k.1))

-- what tells the parts of a class tells none of a later one
abbrev pub IsFalling : (ClassId → List Part) → Type 0
IsFalling parts = (c : ClassId) → AreUnder (c.0 + 1) (parts c)

members_under : (h : Classes) (rows : List ClassLayout) (parts : ClassId → List Part) (d : ClassId) (members : List (Member ClassId)) (places : List ℕ) → IsFalling parts → ((member : Member ClassId) (e : ClassId) → Has members member → member.ty ≡ Object e → e.0 < d.0) → AreUnder (d.0 + 1) (parts_at (map (member_component rows parts) members) places)
members_under h rows parts d members places falling below = under_mapped (d.0 + 1) (member_component rows parts) members places
    (λ member has. under_copies (d.0 + 1) (elements_of member.count) (size_of_member_type rows member.ty) (parts_of_type parts member.ty) (by_type member.ty (λ e is. below member e has is)))
  where
    by_type : (type : FieldType ClassId) → ((e : ClassId) → type ≡ Object e → e.0 < d.0) → AreUnder (d.0 + 1) (parts_of_type parts type)
    by_type (Value type) less = tt
    by_type (Object e) less = let lt = less e refl in under_more (e.0 + 1) (d.0 + 1) (parts e) (omega arith) (falling e)

own_members_under : (h : Classes) (rows : List ClassLayout) (parts : ClassId → List Part) (d : ClassId) → IsHierarchy h → IsFalling parts → AreUnder (d.0 + 1) (parts_in_members h rows parts d)
own_members_under h rows parts d keeps falling = members_under h rows parts d (members_of h d) (member_places_in (slice_get rows d.0)) falling (λ member e has is. keeps.objects d e member (contains_of (members_of h d) member has) is)

virtual_under : (n : ℕ) (next : Subobject → ClassId → List Part) (o : Option ClassId) → ((v : ClassId) (s : Subobject) → o ≡ Some v → AreUnder n (next s v)) → AreUnder n (virtual_brings next o)
virtual_under n next None each = tt
virtual_under n next (Some v) each = each v (shared_base v) refl

-- a base brings no class behind its own
pub brought_under : (h : Classes) (rows : List ClassLayout) (ps : List Primary) (parts : ClassId → List Part) (c : ClassId) → IsHierarchy h → AreBefore ps → IsFalling parts → (n : ℕ) (s : Subobject) (d : ClassId) → AreUnder (d.0 + 1) (brought h rows ps parts c n s d)
brought_under h rows ps parts c keeps before falling zero s d = tt
brought_under h rows ps parts c keeps before falling (suc n) s d =
    let here : AreUnder (d.0 + 1) (placed_part d 0 ∷ parts_in_members h rows parts d) = (omega arith, own_members_under h rows parts d keeps falling) in
    let bases : AreUnder (d.0 + 1) (flat_map (base_brings h rows (brought h rows ps parts c n) s d) (bases_of h d)) = under_flat (d.0 + 1) (base_brings h rows (brought h rows ps parts c n) s d) (bases_of h d)
    (λ base has. let lt = keeps.bases d base (contains_of (bases_of h d) base has) in
    by_way base base.is_virtual (under_more (base.class.0 + 1) (d.0 + 1) (brought h rows ps parts c n (base_subobject s base) base.class) (omega arith) (brought_under h rows ps parts c keeps before falling n (base_subobject s base) base.class))) in
    let held : AreUnder (d.0 + 1) (virtual_brings (brought h rows ps parts c n) (held_base h ps c s d)) = virtual_under (d.0 + 1) (brought h rows ps parts c n) (held_base h ps c s d)
    (λ v t e. let lt = before.falls d v (held_is_primary h ps c s d v e) in
    under_more (v.0 + 1) (d.0 + 1) (brought h rows ps parts c n t v) (omega arith) (brought_under h rows ps parts c keeps before falling n t v)) in
    under_both (d.0 + 1) (placed_part d 0 ∷ parts_in_members h rows parts d) _ here (under_both (d.0 + 1) (flat_map (base_brings h rows (brought h rows ps parts c n) s d) (bases_of h d)) _ bases held)
  where
    by_way : (base : Base ClassId) (b : Bool) → AreUnder (d.0 + 1) (brought h rows ps parts c n (base_subobject s base) base.class) → AreUnder (d.0 + 1) (if b then [] else map (moved_part (direct_base_place h rows d base.class)) (brought h rows ps parts c n (base_subobject s base) base.class))
    by_way base true u = tt
    by_way base false u = under_moved (d.0 + 1) (direct_base_place h rows d base.class) (brought h rows ps parts c n (base_subobject s base) base.class) u

placed_under : (h : Classes) (rows : List ClassLayout) (ps : List Primary) (parts : ClassId → List Part) (c : ClassId) (bases : List PlacedBase) (places : List ℕ) → IsHierarchy h → AreBefore ps → IsFalling parts → All (λ (base : PlacedBase). (class_of_placed base).0 < c.0) bases → AreUnder (c.0 + 1) (parts_at (map (placed_component (is_empty h) h rows ps parts c) bases) places)
placed_under h rows ps parts c bases places keeps before falling all = under_mapped (c.0 + 1) (placed_component (is_empty h) h rows ps parts c) bases places
    (λ base has. let lt = All-contains (λ (x : PlacedBase). (class_of_placed x).0 < c.0) bases base all (contains_of bases base has) in
    under_more ((class_of_placed base).0 + 1) (c.0 + 1) _ (omega arith) (brought_under h rows ps parts c keeps before falling ((class_of_placed base).0 + 1) (subobject_of c base) (class_of_placed base)))

-- an object has no part of a class behind its own, where each primary base is a base
pub objects_fall : (h : Classes) (rows : List ClassLayout) (ps : List Primary) → IsHierarchy h → AreBefore ps → ((c : ClassId) (class : Class) → class_at h c ≡ Some class → IsPossible h c (primary_of ps c)) → (n : ℕ) → IsFalling (object_parts_within h rows ps n)
objects_fall h rows ps keeps before possible zero = λ c. tt
objects_fall h rows ps keeps before possible (suc n) = λ c. by_class c (class_at h c) refl (objects_fall h rows ps keeps before possible n)
  where
    by_class : (c : ClassId) (o : Option Class) → class_at h c ≡ o → IsFalling (object_parts_within h rows ps n) → AreUnder (c.0 + 1) (object_parts_in h rows ps (object_parts_within h rows ps n) c o)
    by_class c None e falling = tt
    by_class c (Some class) e falling =
        let parts = object_parts_within h rows ps n in
        let front = placed_under h rows ps parts c (fronts ps c class) (map (placed_place h rows c) (fronts ps c class)) keeps before falling (fronts_below h c class (primary_of ps c) keeps e (possible c class e)) in
        let members = members_under h rows parts c class.members (member_places_in (slice_get rows c.0)) falling (λ member f has is. keeps.objects c f member (subst (λ (o : Option Class). Contains (class_members_in o) member) (sym e) (contains_of class.members member has)) is) in
        let free = placed_under h rows ps parts c (free_bases h ps c) (map (placed_place h rows c) (free_bases h ps c)) keeps before falling (frees_below h ps c keeps) in (
          omega arith,
          under_both (c.0 + 1) (parts_at (front_components h rows ps parts c class) (map (placed_place h rows c) (fronts ps c class))) _ front
              (under_both (c.0 + 1) (parts_at (map (member_component rows parts) class.members) (member_places_in (slice_get rows c.0))) _ members free),
        )

objects_under : (h : Classes) (rows : List ClassLayout) (nearly : List Bool) (ps : List Primary) → IsLaidOut h rows nearly ps → (n : ℕ) → IsFalling (object_parts_within h rows ps n)
objects_under h rows nearly ps known n = objects_fall h rows ps known.keeps (before_of h rows nearly ps known)
    (λ c class e. let r = row_of h rows nearly ps known c (slice_get_within h c.0 class e) in primary_possible h nearly _ c (primary_of ps c) known.keeps r.laid.is_primary) n

-- parts of smaller classes meet the class alone nowhere
pub no_conflict : (d : ClassId) (n place : ℕ) (parts : List Part) → n ≤ d.0 → AreUnder n parts → has_conflict (placed_part d 0 ∷ []) parts place ≡ false
no_conflict d n place [] le under = refl
no_conflict d n place (part ∷ parts) le under =
    let lt = under.0 in
    let rest = no_conflict d n place parts le under.1 in
    split (nat_eq part.class d.0) (λ b. (((b && nat_eq (part.place + place) 0) || false) || has_conflict (placed_part d 0 ∷ []) parts place) ≡ false)
    (λ t. let same = eqb-true part.class d.0 t in absurd (omega arith))
    (λ f. rest)

-- a direct primary base lies at the start of its class
pub primary_at_start : (h : Classes) (rows : List ClassLayout) (nearly : List Bool) (ps : List Primary) → IsLaidOut h rows nearly ps → (d b : ClassId) → d.0 < length h → b.0 < d.0 → primary_of ps d ≡ Direct b → direct_base_place h rows d b ≡ 0
primary_at_start h rows nearly ps known d b lt falls e = by_pointer r.laid.has_pointer (λ t. (r.laid.pointer.0 t).1) r.laid.placed.fronts_placed
  where
    r : Rattle.abi_layout.proofs.sound.ObjectPrimaries.HasRow h rows nearly ps d
    r = row_of h rows nearly ps known d lt

    component : PlacedBase → Component
    component = placed_component (is_empty h) h rows ps (object_parts h rows ps) d

    under : AreUnder (b.0 + 1) (component (Own b)).parts
    under = brought_under h rows ps (object_parts h rows ps) d known.keeps (before_of h rows nearly ps known) (λ c. objects_under h rows nearly ps known (c.0 + 1) c) (b.0 + 1) (subobject_of d (Own b)) b

    first : (stage : Stage) (rest : List PlacedBase) → ArePlaced stage (map component (Own b ∷ rest)) (map (placed_place h rows d) (Own b ∷ rest)) → IsLeastFreePlace stage (component (Own b)) (placed_place h rows d (Own b))
    first stage rest placed = placed.0

    by_pointer : (has : Bool) → (has ≡ true → primary_of ps d ≡ NoPrimary) → ArePlaced (start_stage d has) (map component (fronts ps d r.class)) (map (placed_place h rows d) (fronts ps d r.class)) → direct_base_place h rows d b ≡ 0
    by_pointer true none_there placed = let f : Direct b ≡ NoPrimary = sym e ∙ none_there refl in cc
    by_pointer false none_there placed =
        let is = first (start_stage d false) _ (subst (λ (p : Primary). ArePlaced (start_stage d false) (map component (front_bases p r.class.bases)) (map (placed_place h rows d) (front_bases p r.class.bases))) e placed) in
        let multiple : Divides (component (Own b)).align 0 = record { times = 0; is = omega arith } in
        let le = is.least 0 (behind 0 (omega arith) multiple) (no_conflict d (b.0 + 1) 0 (component (Own b)).parts (omega arith) under) in
        omega arith
