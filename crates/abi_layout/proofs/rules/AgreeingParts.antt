-- What bases bring, and which class subobjects an object has, by rows and primary bases that agree on the first classes.
use Rattle.std.proofs.Common.{◌≡◌, ℕ, zero, suc, ◌+◌, ◌<◌, ◌≤◌, ⊎_elim, Bool, Option, Some, None, List, [], ◌∷◌, ◌++◌, map, length, refl, ap, subst, sym, ◌∙◌, arith}
use Rattle.std.specs.Prelude.{if◌then◌else◌, All, Contains}
use Rattle.std.specs.List.{slice_get, flat_map}
use Rattle.std.proofs.lemmas.Bool.{cases_order}
use Rattle.std.proofs.lemmas.List.Elements.{All-contains}
use Rattle.std.proofs.lemmas.Option.{slice_get_past}
use Rattle.cxx_hierarchy.specs.declared.records.ClassId.{ClassId}
use Rattle.cxx_hierarchy.specs.declared.records.Member.{Member}
use Rattle.cxx_hierarchy.specs.declared.records.FieldType.{FieldType}
use Rattle.cxx_hierarchy.specs.declared.records.FieldType.TheVariants.{Value, Object}
use Rattle.cxx_hierarchy.specs.Classes.{Class, Classes, class_at, bases_of, bases_in as named_bases, members_in as named_members}
use Rattle.cxx_hierarchy.specs.Hierarchies.{IsHierarchy}
use Rattle.cxx_subobject.specs.declared.Subobject.{Subobject}
use Rattle.cxx_subobject.specs.Subobjects.{base_subobject}
use Rattle.cxx_subobject.proofs.ListLemmas.{mapped_same, contains_from_has}
use Rattle.abi_emptybase.specs.declared.Part.{Part}
use Rattle.abi_emptybase.specs.Table.{moved_part}
use Rattle.abi_primary.specs.declared.Primary.{Primary}
use Rattle.abi_primary.specs.declared.Primary.TheVariants.{None as NoPrimary, Direct, Virtual}
use Rattle.abi_layout.proofs.rules.BroughtLemmas.{same_virtual}
use Rattle.abi_layout.specs.declared.component.Component.{Component}
use Rattle.abi_sound.specs.declared.class_layout.ClassLayout.{ClassLayout}
use Rattle.abi_layout.specs.declared.placed_bases.PlacedBase.{PlacedBase}
use Rattle.abi_sound.specs.Places.{member_places_in, direct_base_place}
use Rattle.abi_layout.specs.Kinds.{is_empty}
use Rattle.abi_layout.specs.Placements.{placed_part, parts_at, member_component}
use Rattle.abi_layout.specs.invariants.Known.{IsEarlierType, AreEarlier}
use Rattle.abi_layout.specs.Holding.{virtual_in, virtual_primary_base, held_base}
use Rattle.abi_layout.specs.invariants.Scenes.{AreBefore}
use Rattle.abi_layout.specs.Brought.{parts_in_members, base_brings, virtual_brings, brought, brought_by}
use Rattle.abi_layout.specs.PlacedBases.{class_of_placed, subobject_of, free_bases, placed_component, IsPossible}
use Rattle.abi_layout.specs.Layouts.{placed_place, primary_of, fronts, front_components, free_components, object_parts_in, object_parts_within, object_parts}
use Rattle.abi_layout.proofs.rules.PartLemmas.{Agree, base_made, members_agree}
use Rattle.abi_layout.proofs.rules.BroughtLemmas.{held_is_primary}
use Rattle.cxx_subobject.proofs.PathLemmas.{virtual_below}
use Rattle.abi_layout.proofs.algorithm.PlacedClassLemmas.{fronts_below, frees_below}
use Rattle.foundation.proofs.Members.{map_same}
use Rattle.abi_layout.proofs.rules.AgreeingRows.{AgreeTo, agree_less, primary_agrees, fronts_agree, held_agrees, free_agree, base_place_agrees, placed_place_agrees}

-- the primary bases of the first `count` classes are bases of these
pub record ArePossible (h : Classes) (count : ℕ) (ps : List Primary) : Type 0 where
  pub each : (d : ClassId) → d.0 < count → IsPossible h d (primary_of ps d)

pub possible_less : (h : Classes) (m n : ℕ) (ps : List Primary) → m ≤ n → ArePossible h n ps → ArePossible h m ps
possible_less h m n ps le possible = record { each = λ d lt. possible.each d (omega arith) }

-- by other lists that agree
pub possible_agrees : (h : Classes) (n : ℕ) (ps qs : List Primary) → AgreeTo n ps qs → ArePossible h n ps → ArePossible h n qs
possible_agrees h n ps qs agree possible = record { each = λ d lt. subst (IsPossible h d) (primary_agrees n ps qs d agree lt) (possible.each d lt) }

in_some : (o : Option Primary) (p : Primary) (v : ClassId) → virtual_in o ≡ Some v → o ≡ Some p → p ≡ Virtual v
in_some None p v e same = let f : None ≡ Some p = same in cc
in_some (Some NoPrimary) p v e same = let f : None ≡ Some v = e in cc
in_some (Some (Direct b)) p v e same = let f : None ≡ Some v = e in cc
in_some (Some (Virtual w)) p v e same =
    let a : Some w ≡ Some v = e in
    let is : w ≡ v = cc in
    let b : Virtual w ≡ p = cc in
    sym b ∙ ap (λ (x : ClassId). Virtual x) is

virtual_there : {X : Type 0} (xs : List X) (i : ℕ) (d : X) (o : Option X) → slice_get xs i ≡ o → (o ≡ None → ⊥) → o ≡ Some (Rattle.std.proofs.Common.get_or xs i d)
virtual_there [] i d None e some = absurd (some refl)
virtual_there [] i d (Some x) e some = let f : None ≡ Some x = e in cc
virtual_there (x ∷ xs) zero d o e some = sym e
virtual_there (x ∷ xs) (suc i) d o e some = virtual_there xs i d o e some

-- a virtual primary base, by the list
pub primary_is_virtual : (ps : List Primary) (d v : ClassId) → virtual_primary_base ps d ≡ Some v → primary_of ps d ≡ Virtual v
primary_is_virtual ps d v e = in_some (slice_get ps d.0) (primary_of ps d) v e (virtual_there ps d.0 NoPrimary (slice_get ps d.0) refl (λ missed. let f : None ≡ Some v = sym (ap virtual_in missed) ∙ e in cc))

-- stands before its class
pub virtual_falls : (h : Classes) (n : ℕ) (ps : List Primary) (d v : ClassId) → IsHierarchy h → ArePossible h n ps → d.0 < n → virtual_primary_base ps d ≡ Some v → v.0 < d.0
virtual_falls h n ps d v keeps possible lt e = virtual_below h keeps d v (subst (IsPossible h d) (primary_is_virtual ps d v e) (possible.each d lt))

-- virtual primary bases stand before their classes
pub before_by : (h : Classes) (n : ℕ) (ps : List Primary) → IsHierarchy h → length ps ≡ n → ArePossible h n ps → AreBefore ps
before_by h n ps keeps size possible = record {
  falls = λ d v e. ⊎_elim
      (λ same. past d v e (omega arith))
      (λ o. ⊎_elim (λ lt. virtual_falls h n ps d v keeps possible lt e) (λ gt. past d v e (omega arith)) o)
      (cases_order d.0 n);
}
  where
    past : (d v : ClassId) → virtual_primary_base ps d ≡ Some v → n ≤ d.0 → v.0 < d.0
    past d v e le = let f : None ≡ Some v = sym (ap virtual_in (slice_get_past ps d.0 (omega arith))) ∙ e in cc

-- the classes that a class names are of smaller numbers
pub earlier_by : (h : Classes) (c : ClassId) (class : Class) → IsHierarchy h → class_at h c ≡ Some class → AreEarlier c.0 class
earlier_by h c class keeps e = record {
  bases = λ base has. keeps.bases c base (subst (λ (o : Option Class). Contains (named_bases o) base) (sym e) has);
  objects = λ member has. of_type member member.ty refl has;
}
  where
    of_type : (member : Member ClassId) (type : FieldType ClassId) → member.ty ≡ type → Contains class.members member → IsEarlierType c.0 type
    of_type member (Value type) is has = tt
    of_type member (Object d) is has = keeps.objects c d member (subst (λ (o : Option Class). Contains (named_members o) member) (sym e) has) is

pub both_less : (h : Classes) (m n : ℕ) (rows others : List ClassLayout) (parts seen : ClassId → List Part) → m ≤ n → Agree h n rows others parts seen → Agree h m rows others parts seen
both_less h m n rows others parts seen le same = record { row = λ d lt. same.row d (omega arith); of_class = λ d lt is. same.of_class d (omega arith) is }

rows_agree : (h : Classes) (n : ℕ) (rows others : List ClassLayout) (parts seen : ClassId → List Part) → Agree h n rows others parts seen → AgreeTo n rows others
rows_agree h n rows others parts seen same = record { each = λ i lt. same.row (let x : ClassId = record { 0 = i } in x) lt }

-- what the members of a class bring
pub member_parts_agree : (h : Classes) (n : ℕ) (rows others : List ClassLayout) (parts seen : ClassId → List Part) (d : ClassId) → IsHierarchy h → Agree h n rows others parts seen → d.0 < n → parts_in_members h rows parts d ≡ parts_in_members h others seen d
member_parts_agree h n rows others parts seen d keeps same lt =
    at (class_at h d) refl ∙ ap (λ (o : Option ClassLayout). parts_at (map (member_component others seen) (named_members (class_at h d))) (member_places_in o)) (same.row d lt)
  where
    at : (o : Option Class) → class_at h d ≡ o → parts_at (map (member_component rows parts) (named_members o)) (member_places_in (slice_get rows d.0)) ≡ parts_at (map (member_component others seen) (named_members o)) (member_places_in (slice_get rows d.0))
    at None e = refl
    at (Some class) e = ap (λ (cs : List Component). parts_at cs (member_places_in (slice_get rows d.0))) (members_agree h d.0 rows others parts seen d class e (earlier_by h d class keeps e) (both_less h d.0 n rows others parts seen (omega arith) same))

abbrev base_gives : Bool → ℕ → List Part → List Part
base_gives is_virtual place parts = if is_virtual then [] else map (moved_part place) parts

abbrev all_given : ClassId → List Part → List Part → List Part → List Part
all_given d mine flat held = (placed_part d 0 ∷ mine) ++ (flat ++ held)

given_same : (d : ClassId) (a b x y s t : List Part) → a ≡ b → x ≡ y → s ≡ t → all_given d a x s ≡ all_given d b y t
given_same d a b x y s t e f g = ap (λ z. all_given d z x s) e ∙ (ap (λ z. all_given d b z s) f ∙ ap (all_given d b y) g)

-- what a subobject of a class before the n-th brings
pub brought_agrees : (h : Classes) (n : ℕ) (rows others : List ClassLayout) (ps qs : List Primary) (parts seen : ClassId → List Part) (c : ClassId) → IsHierarchy h → Agree h n rows others parts seen → AgreeTo (c.0 + 1) ps qs → ArePossible h n ps → n ≤ c.0 + 1
    → (steps : ℕ) (s : Subobject) (d : ClassId) → d.0 < n → brought h rows ps parts c steps s d ≡ brought h others qs seen c steps s d
brought_agrees h n rows others ps qs parts seen c keeps same agree possible within zero s d lt = refl
brought_agrees h n rows others ps qs parts seen c keeps same agree possible within (suc k) s d lt =
    given_same d (parts_in_members h rows parts d) (parts_in_members h others seen d)
    (flat_map (base_brings h rows (brought h rows ps parts c k) s d) (bases_of h d)) (flat_map (base_brings h others (brought h others qs seen c k) s d) (bases_of h d))
    (virtual_brings (brought h rows ps parts c k) (held_base h ps c s d)) (virtual_brings (brought h others qs seen c k) (held_base h qs c s d))
    (member_parts_agree h n rows others parts seen d keeps same lt)
    (mapped_same (base_brings h rows (brought h rows ps parts c k) s d) (base_brings h others (brought h others qs seen c k) s d) (bases_of h d)
    (λ base has.
    let falls = keeps.bases d base (contains_from_has (bases_of h d) base has) in
    ap (λ p. base_gives base.is_virtual p (brought h rows ps parts c k (base_subobject s base) base.class)) (base_place_agrees h n rows others d base.class (rows_agree h n rows others parts seen same) lt)
    ∙ ap (base_gives base.is_virtual (direct_base_place h others d base.class)) (brought_agrees h n rows others ps qs parts seen c keeps same agree possible within k (base_subobject s base) base.class (omega arith))))
    (same_virtual (brought h rows ps parts c k) (brought h others qs seen c k) (held_base h ps c s d)
    (λ v e t. let falls = virtual_falls h n ps d v keeps possible lt (held_is_primary h ps c s d v e) in brought_agrees h n rows others ps qs parts seen c keeps same agree possible within k t v (omega arith))
    ∙ ap (virtual_brings (brought h others qs seen c k)) (held_agrees h ps qs c s d keeps agree (omega arith)))

-- what a base is to its class
pub placed_agrees : (empties : ClassId → Bool) (h : Classes) (n : ℕ) (rows others : List ClassLayout) (ps qs : List Primary) (parts seen : ClassId → List Part) (c : ClassId) (base : PlacedBase) → IsHierarchy h → Agree h n rows others parts seen → AgreeTo (c.0 + 1) ps qs → ArePossible h n ps → n ≤ c.0 + 1
    → (class_of_placed base).0 < n → placed_component empties h rows ps parts c base ≡ placed_component empties h others qs seen c base
placed_agrees empties h n rows others ps qs parts seen c base keeps same agree possible within lt =
    let b = class_of_placed base in
    ap (λ (o : Option ClassLayout). base_made (empties b) o (brought_by h rows ps parts c (subobject_of c base) b)) (same.row b lt)
    ∙ ap (base_made (empties b) (slice_get others b.0)) (brought_agrees h n rows others ps qs parts seen c keeps same agree possible within (b.0 + 1) (subobject_of c base) b lt)

-- a list of bases of classes before the n-th
pub all_placed_agree : (empties : ClassId → Bool) (h : Classes) (n : ℕ) (rows others : List ClassLayout) (ps qs : List Primary) (parts seen : ClassId → List Part) (c : ClassId) (bases : List PlacedBase) → IsHierarchy h → Agree h n rows others parts seen → AgreeTo (c.0 + 1) ps qs → ArePossible h n ps → n ≤ c.0 + 1
    → All (λ (base : PlacedBase). (class_of_placed base).0 < n) bases → map (placed_component empties h rows ps parts c) bases ≡ map (placed_component empties h others qs seen c) bases
all_placed_agree empties h n rows others ps qs parts seen c bases keeps same agree possible within low =
    map_same (placed_component empties h rows ps parts c) (placed_component empties h others qs seen c) bases
    (λ base has. placed_agrees empties h n rows others ps qs parts seen c base keeps same agree possible within (All-contains (λ (b : PlacedBase). (class_of_placed b).0 < n) bases base low (contains_from_has bases base has)))

-- the components of a class by rows, and by what is known of the parts of classes, that agree before the class
pub front_agree : (h : Classes) (rows others : List ClassLayout) (ps qs : List Primary) (parts seen : ClassId → List Part) (c : ClassId) (class : Class) → IsHierarchy h → class_at h c ≡ Some class → Agree h c.0 rows others parts seen → AgreeTo (c.0 + 1) ps qs → ArePossible h (c.0 + 1) ps
    → front_components h rows ps parts c class ≡ front_components h others qs seen c class
front_agree h rows others ps qs parts seen c class keeps e same agree possible =
    all_placed_agree (is_empty h) h c.0 rows others ps qs parts seen c (fronts ps c class) keeps same agree (possible_less h c.0 (c.0 + 1) ps (omega arith) possible) (omega arith) (fronts_below h c class (primary_of ps c) keeps e (possible.each c (omega arith)))
    ∙ ap (map (placed_component (is_empty h) h others qs seen c)) (fronts_agree (c.0 + 1) ps qs c class agree (omega arith))

pub frees_agree : (h : Classes) (rows others : List ClassLayout) (ps qs : List Primary) (parts seen : ClassId → List Part) (c : ClassId) → IsHierarchy h → Agree h c.0 rows others parts seen → AgreeTo (c.0 + 1) ps qs → ArePossible h (c.0 + 1) ps
    → free_components h rows ps parts c ≡ free_components h others qs seen c
frees_agree h rows others ps qs parts seen c keeps same agree possible =
    all_placed_agree (is_empty h) h c.0 rows others ps qs parts seen c (free_bases h ps c) keeps same agree (possible_less h c.0 (c.0 + 1) ps (omega arith) possible) (omega arith) (frees_below h ps c keeps)
    ∙ ap (map (placed_component (is_empty h) h others qs seen c)) (free_agree h ps qs c keeps agree)

pub members_same : (h : Classes) (rows others : List ClassLayout) (parts seen : ClassId → List Part) (c : ClassId) (class : Class) → IsHierarchy h → class_at h c ≡ Some class → Agree h c.0 rows others parts seen → map (member_component rows parts) class.members ≡ map (member_component others seen) class.members
members_same h rows others parts seen c class keeps e same = members_agree h c.0 rows others parts seen c class e (earlier_by h c class keeps e) same

-- the places of the bases that are placed
pub front_places_agree : (h : Classes) (rows others : List ClassLayout) (ps qs : List Primary) (c : ClassId) (class : Class) → AgreeTo (c.0 + 1) rows others → AgreeTo (c.0 + 1) ps qs → map (placed_place h rows c) (fronts ps c class) ≡ map (placed_place h others c) (fronts qs c class)
front_places_agree h rows others ps qs c class agree alike =
    map_same (placed_place h rows c) (placed_place h others c) (fronts ps c class) (λ base has. placed_place_agrees h (c.0 + 1) rows others c base agree (omega arith))
    ∙ ap (map (placed_place h others c)) (fronts_agree (c.0 + 1) ps qs c class alike (omega arith))

pub free_places_agree : (h : Classes) (rows others : List ClassLayout) (ps qs : List Primary) (c : ClassId) → IsHierarchy h → AgreeTo (c.0 + 1) rows others → AgreeTo (c.0 + 1) ps qs → map (placed_place h rows c) (free_bases h ps c) ≡ map (placed_place h others c) (free_bases h qs c)
free_places_agree h rows others ps qs c keeps agree alike =
    map_same (placed_place h rows c) (placed_place h others c) (free_bases h ps c) (λ base has. placed_place_agrees h (c.0 + 1) rows others c base agree (omega arith))
    ∙ ap (map (placed_place h others c)) (free_agree h ps qs c keeps alike)

abbrev whole_parts : ClassId → (fc : List Component) (fp : List ℕ) (mc : List Component) (mp : List ℕ) (vc : List Component) (vp : List ℕ) → List Part
whole_parts c fc fp mc mp vc vp = placed_part c 0 ∷ (parts_at fc fp ++ (parts_at mc mp ++ parts_at vc vp))

whole_same : (c : ClassId) (fc gc mc nc vc wc : List Component) (fp gp mp np vp wp : List ℕ) → fc ≡ gc → fp ≡ gp → mc ≡ nc → mp ≡ np → vc ≡ wc → vp ≡ wp → whole_parts c fc fp mc mp vc vp ≡ whole_parts c gc gp nc np wc wp
whole_same c fc gc mc nc vc wc fp gp mp np vp wp a b d e f g =
    ap (λ x. whole_parts c x fp mc mp vc vp) a
    ∙ (ap (λ x. whole_parts c gc x mc mp vc vp) b
    ∙ (ap (λ x. whole_parts c gc gp x mp vc vp) d
    ∙ (ap (λ x. whole_parts c gc gp nc x vc vp) e
    ∙ (ap (λ x. whole_parts c gc gp nc np x vp) f
    ∙ ap (whole_parts c gc gp nc np wc) g))))

-- the class subobjects of an object, by what is known of those of the classes before
pub parts_in_agree : (h : Classes) (rows others : List ClassLayout) (ps qs : List Primary) (parts seen : ClassId → List Part) (c : ClassId) (class : Class) → IsHierarchy h → class_at h c ≡ Some class → AgreeTo (c.0 + 1) rows others → AgreeTo (c.0 + 1) ps qs → ArePossible h (c.0 + 1) ps
    → ((b : ClassId) → b.0 < c.0 → parts b ≡ seen b) → object_parts_in h rows ps parts c (Some class) ≡ object_parts_in h others qs seen c (Some class)
parts_in_agree h rows others ps qs parts seen c class keeps e agree alike possible low =
    let same : Agree h c.0 rows others parts seen = record { row = λ d lt. agree.each d.0 (omega arith); of_class = λ d lt is. low d lt } in
    whole_same c
    (front_components h rows ps parts c class) (front_components h others qs seen c class) (map (member_component rows parts) class.members) (map (member_component others seen) class.members) (free_components h rows ps parts c) (free_components h others qs seen c)
    (map (placed_place h rows c) (fronts ps c class)) (map (placed_place h others c) (fronts qs c class)) (member_places_in (slice_get rows c.0)) (member_places_in (slice_get others c.0)) (map (placed_place h rows c) (free_bases h ps c)) (map (placed_place h others c) (free_bases h qs c))
    (front_agree h rows others ps qs parts seen c class keeps e same alike possible)
    (front_places_agree h rows others ps qs c class agree alike)
    (members_same h rows others parts seen c class keeps e same)
    (ap member_places_in (agree.each c.0 (omega arith)))
    (frees_agree h rows others ps qs parts seen c keeps same alike possible)
    (free_places_agree h rows others ps qs c keeps agree alike)

-- any numbers of steps above that of the class give one list
pub parts_within_agree : (h : Classes) (rows others : List ClassLayout) (ps qs : List Primary) → IsHierarchy h → (k m : ℕ) (c : ClassId) → c.0 < k → c.0 < m → AgreeTo (c.0 + 1) rows others → AgreeTo (c.0 + 1) ps qs → ArePossible h (c.0 + 1) ps
    → object_parts_within h rows ps k c ≡ object_parts_within h others qs m c
parts_within_agree h rows others ps qs keeps zero m c lt gt agree alike possible = absurd (omega arith)
parts_within_agree h rows others ps qs keeps (suc k) zero c lt gt agree alike possible = absurd (omega arith)
parts_within_agree h rows others ps qs keeps (suc k) (suc m) c lt gt agree alike possible =
    by_class (class_at h c) refl
    (λ b below. parts_within_agree h rows others ps qs keeps k m b (omega arith) (omega arith) (agree_less (b.0 + 1) (c.0 + 1) rows others (omega arith) agree) (agree_less (b.0 + 1) (c.0 + 1) ps qs (omega arith) alike) (possible_less h (b.0 + 1) (c.0 + 1) ps (omega arith) possible))
  where
    by_class : (o : Option Class) → class_at h c ≡ o → ((b : ClassId) → b.0 < c.0 → object_parts_within h rows ps k b ≡ object_parts_within h others qs m b) → object_parts_in h rows ps (object_parts_within h rows ps k) c o ≡ object_parts_in h others qs (object_parts_within h others qs m) c o
    by_class None e low = refl
    by_class (Some class) e low = parts_in_agree h rows others ps qs (object_parts_within h rows ps k) (object_parts_within h others qs m) c class keeps e agree alike possible low

-- the class subobjects of a complete object
pub object_parts_agree : (h : Classes) (rows others : List ClassLayout) (ps qs : List Primary) (c : ClassId) → IsHierarchy h → AgreeTo (c.0 + 1) rows others → AgreeTo (c.0 + 1) ps qs → ArePossible h (c.0 + 1) ps → object_parts h rows ps c ≡ object_parts h others qs c
object_parts_agree h rows others ps qs c keeps agree alike possible = parts_within_agree h rows others ps qs keeps (c.0 + 1) (c.0 + 1) c (omega arith) (omega arith) agree alike possible

-- and by those of the classes before it
pub object_parts_is : (h : Classes) (rows : List ClassLayout) (ps : List Primary) (c : ClassId) (class : Class) → IsHierarchy h → class_at h c ≡ Some class → ArePossible h (c.0 + 1) ps → object_parts h rows ps c ≡ object_parts_in h rows ps (object_parts h rows ps) c (Some class)
object_parts_is h rows ps c class keeps e possible =
    let one_more : c.0 + 1 ≡ suc c.0 = omega arith in
    let itself : AgreeTo (c.0 + 1) rows rows = record { each = λ i lt. refl } in
    let the_same : AgreeTo (c.0 + 1) ps ps = record { each = λ i lt. refl } in
    ap (λ n. object_parts_within h rows ps n c) one_more
    ∙ (ap (object_parts_in h rows ps (object_parts_within h rows ps c.0) c) e
    ∙ parts_in_agree h rows rows ps ps (object_parts_within h rows ps c.0) (object_parts h rows ps) c class keeps e itself the_same possible
    (λ b lt. parts_within_agree h rows rows ps ps keeps c.0 (b.0 + 1) b lt (omega arith) (record { each = λ i less. refl }) (record { each = λ i less. refl }) (possible_less h (b.0 + 1) (c.0 + 1) ps (omega arith) possible)))

-- the rows before a class, and the class subobjects that they give
pub agree_before : (h : Classes) (n : ℕ) (rows others : List ClassLayout) (ps qs : List Primary) → IsHierarchy h → AgreeTo n rows others → AgreeTo n ps qs → ArePossible h n ps → Agree h n rows others (object_parts h rows ps) (object_parts h others qs)
agree_before h n rows others ps qs keeps agree alike possible = record {
  row = λ d lt. agree.each d.0 lt;
  of_class = λ d lt is. object_parts_agree h rows others ps qs d keeps (agree_less (d.0 + 1) n rows others (omega arith) agree) (agree_less (d.0 + 1) n ps qs (omega arith) alike) (possible_less h (d.0 + 1) n ps (omega arith) possible);
}
