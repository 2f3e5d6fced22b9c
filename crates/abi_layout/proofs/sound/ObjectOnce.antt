-- In an object no two class subobjects of one class lie at one place.
use Rattle.std.proofs.Common.{◌≡◌, ℕ, zero, suc, ◌+◌, ◌*◌, ◌<◌, ◌≤◌, inl, inr, Bool, Option, Some, None, List, [], ◌∷◌, ◌++◌, map, length, refl, ap, subst, sym, ◌∙◌, arith, append_assoc}
use Rattle.std.specs.List.{slice_get}
use Rattle.cxx_hierarchy.specs.declared.records.ClassId.{ClassId}
use Rattle.cxx_hierarchy.specs.declared.records.Member.{Member}
use Rattle.cxx_hierarchy.specs.declared.records.FieldType.{FieldType}
use Rattle.cxx_hierarchy.specs.declared.records.FieldType.TheVariants.{Value, Object}
use Rattle.cxx_hierarchy.specs.Classes.{Class, Classes, class_at, members_of, members_in as members_of_class}
use Rattle.cxx_hierarchy.specs.Hierarchies.{IsHierarchy}
use Rattle.cxx_subobject.proofs.ListLemmas.{Has, EachOnce, has_left, has_right, once_append, contains_from_has}
use Rattle.abi_emptybase.specs.declared.Part.{Part}
use Rattle.abi_emptybase.specs.Table.{moved_part}
use Rattle.abi_primary.specs.declared.Primary.{Primary}
use Rattle.abi_layout.specs.declared.component.Component.{Component}
use Rattle.abi_layout.specs.declared.component.Stage.{Stage}
use Rattle.abi_sound.specs.declared.class_layout.ClassLayout.{ClassLayout}
use Rattle.abi_layout.specs.declared.placed_bases.PlacedBase.{PlacedBase}
use Rattle.abi_layout.specs.Kinds.{is_empty}
use Rattle.abi_sound.specs.Places.{size_in_row, member_places_in}
use Rattle.abi_layout.specs.Placements.{IsPlacedBy, IsComponentAt, ArePlaced, stage_after, stage_after_all, placed_part, parts_at, parts_of_type, copies, elements_of, size_of_member_type, member_component}
use Rattle.abi_layout.specs.Brought.{brought_by}
use Rattle.abi_layout.specs.PlacedBases.{class_of_placed, subobject_of, free_bases, placed_component}
use Rattle.abi_layout.specs.Layouts.{fronts, front_components, free_components, placed_place, object_parts, start_stage, IsLaidBy}
use Rattle.abi_layout.specs.Refusals.{AreBroughtOnce}
use Rattle.abi_layout.proofs.rules.Stages.{none_brought, HasFitWidth, HaveFitWidths}
use Rattle.abi_layout.proofs.rules.PartLemmas.{stage_parts}
use Rattle.abi_layout.proofs.sound.ObjectTree.{Node, Complete, Step, Reaches, AreArranged, class_of_node, contents_of, measures_of, node_parts}
use Rattle.abi_layout.proofs.rules.OnceLemmas.{once_moved, once_copies, once_by_repeats, unmapped}
use Rattle.abi_layout.proofs.sound.ObjectLists.{listed_within, one_path}
use Rattle.abi_layout.proofs.sound.ObjectPrimaries.{HasRow, row_of}
use Rattle.abi_layout.proofs.sound.ObjectItems.{widths_fit, bases_fit}
use Rattle.abi_layout.proofs.sound.ObjectFine.{fields}
use Rattle.abi_layout.proofs.sound.ObjectParts.{ArePossible, are_possible, object_here}
use Rattle.abi_layout.proofs.sound.ObjectUnfolds.{IsKnownNode, object_lists}

-- what a component brings is not there before
brings_new : (stage : Stage) (c : Component) (p : ℕ) → HasFitWidth c → IsComponentAt stage c p → (x : Part) → Has c.parts x → Has stage.parts (moved_part p x) → ⊥
brings_new stage c p fit is x has there = by_width c.width refl is
  where
    by_width : (w : Option ℕ) → c.width ≡ w → IsPlacedBy w stage c p → ⊥
    by_width None e here = none_brought stage.parts c.parts p here.free x has there
    by_width (Some n) e here = let none : Has [] x = subst (λ (xs : List Part). Has xs x) (fit n e).parts has in absurd none

-- components placed behind a stage bring nothing twice, where each by itself does not
pub stage_once : (stage : Stage) (cs : List Component) (ps : List ℕ) → EachOnce stage.parts → HaveFitWidths cs → ((c : Component) → Has cs c → EachOnce c.parts) → ArePlaced stage cs ps → EachOnce (stage_after_all stage cs ps).parts
stage_once stage [] ps once fit each placed = once
stage_once stage (c ∷ cs) [] once fit each placed = once
stage_once stage (c ∷ cs) (p ∷ ps) once fit each placed =
    stage_once (stage_after stage c p) cs ps
    (once_append stage.parts (map (moved_part p) c.parts) once (once_moved p c.parts (each c (inl refl)))
    (record { none = λ x h k. let r = unmapped (moved_part p) c.parts x k in brings_new stage c p (fit c (inl refl)) placed.0 r.item r.has (subst (λ z. Has stage.parts z) (sym r.is) h) }))
    (λ x h. fit x (inr h)) (λ x h. each x (inr h)) placed.1

-- a complete object takes a byte at least
pub size_positive : (h : Classes) (rows : List ClassLayout) (nearly : List Bool) (ps : List Primary) → IsLaidBy h (length h) rows nearly ps → (c : ClassId) → c.0 < length h → 1 ≤ size_in_row (slice_get rows c.0)
size_positive h rows nearly ps by c lt =
    let r = row_of h rows nearly ps c by lt in
    let behind = r.laid.placed.size.behind in
    let size : size_in_row (slice_get rows c.0) ≡ r.row.size = ap size_in_row r.row_there in
    omega arith

-- what a complete object has begins within its size
pub parts_below_size : (h : Classes) (rows : List ClassLayout) (nearly : List Bool) (ps : List Primary) → IsHierarchy h → IsLaidBy h (length h) rows nearly ps → AreArranged (contents_of h rows ps) (measures_of h rows) → (c : ClassId) → c.0 < length h → (x : Part) → Has (object_parts h rows ps c) x → x.place < size_in_row (slice_get rows c.0)
parts_below_size h rows nearly ps keeps by arranged c lt x has =
    let some = size_positive h rows nearly ps by c lt in
    let within = listed_within (contents_of h rows ps) (measures_of h rows) (node_parts h rows ps) (IsKnownNode h) (object_lists h rows ps keeps (are_possible h rows nearly ps keeps by)) arranged (2 * c.0 + 3) (Complete c) x (omega arith) lt has in
    omega arith

-- a member brings nothing twice, where the objects of its class do not
member_once : (h : Classes) (rows : List ClassLayout) (parts : ClassId → List Part) (member : Member ClassId) → ((d : ClassId) → member.ty ≡ Object d → EachOnce (parts d)) → ((d : ClassId) → member.ty ≡ Object d → (x : Part) → Has (parts d) x → x.place < size_in_row (slice_get rows d.0)) → EachOnce (member_component rows parts member).parts
member_once h rows parts member once below = by_type member.ty refl
  where
    by_type : (type : FieldType ClassId) → member.ty ≡ type → EachOnce (copies (elements_of member.count) (size_of_member_type rows type) (parts_of_type parts type))
    by_type (Value type) is = once_copies (elements_of member.count) (size_of_member_type rows (Value type)) [] tt (λ x h. absurd h)
    by_type (Object d) is = once_copies (elements_of member.count) (size_of_member_type rows (Object d)) (parts d) (once d is) (below d is)

-- a base that is placed brings nothing twice, where no layout refuses it
base_once : (h : Classes) (rows : List ClassLayout) (ps : List Primary) → AreBroughtOnce h (length h) rows ps → (c : ClassId) (class : Class) → c.0 < length h → class_at h c ≡ Some class → (base : PlacedBase) → Has (fronts ps c class ++ free_bases h ps c) base → EachOnce (brought_by h rows ps (object_parts h rows ps) c (subobject_of c base) (class_of_placed base))
base_once h rows ps apart c class lt e base has =
    once_by_repeats (brought_by h rows ps (object_parts h rows ps) c (subobject_of c base) (class_of_placed base))
    (λ t. apart.each c class lt e (record { base = base; placed = contains_from_has (fronts ps c class ++ free_bases h ps c) base has; repeated = t }))

-- where the components of a class bring nothing twice each, an object has nothing twice
object_once : (h : Classes) (rows : List ClassLayout) (nearly : List Bool) (ps : List Primary) → IsHierarchy h → ArePossible h ps → (c : ClassId) → (r : HasRow h rows nearly ps c)
    → ((x : Component) → Has (front_components h rows ps (object_parts h rows ps) c r.class) x → EachOnce x.parts)
    → ((x : Component) → Has (map (member_component rows (object_parts h rows ps)) r.class.members) x → EachOnce x.parts)
    → ((x : Component) → Has (free_components h rows ps (object_parts h rows ps) c) x → EachOnce x.parts)
    → EachOnce (object_parts h rows ps c)
object_once h rows nearly ps keeps possible c r front member free =
    let class = r.class in
    let laid = r.laid.placed in
    let fc = front_components h rows ps (object_parts h rows ps) c class in
    let mc = map (member_component rows (object_parts h rows ps)) class.members in
    let vc = free_components h rows ps (object_parts h rows ps) c in
    let fp = map (placed_place h rows c) (fronts ps c class) in
    let vp = map (placed_place h rows c) (free_bases h ps c) in
    let start = start_stage c r.laid.has_pointer in
    let mid = stage_after_all start fc fp in
    let inner = stage_after_all mid mc r.row.member_places in
    let own : EachOnce (placed_part c 0 ∷ []) = (λ h. absurd h, tt) in
    let first = stage_once start fc fp own (bases_fit h rows ps c (fronts ps c class)) front laid.fronts_placed in
    let second = stage_once mid mc r.row.member_places first (widths_fit (member_component rows (object_parts h rows ps)) class.members (fields h rows ps c class keeps r.there)) member laid.members_placed in
    let third = stage_once inner vc vp second (bases_fit h rows ps c (free_bases h ps c)) free laid.frees_placed in
    let f = parts_at fc fp in
    let m = parts_at mc r.row.member_places in
    let v = parts_at vc vp in
    let last : (stage_after_all inner vc vp).parts ≡ placed_part c 0 ∷ (f ++ (m ++ v)) =
    stage_parts inner vc vp
    ∙ (ap (λ t. t ++ v) (stage_parts mid mc r.row.member_places ∙ ap (λ t. t ++ m) (stage_parts start fc fp))
    ∙ (append_assoc ((placed_part c 0 ∷ []) ++ f) m v ∙ append_assoc (placed_part c 0 ∷ []) f (m ++ v))) in
    let here : object_parts h rows ps c ≡ placed_part c 0 ∷ (f ++ (m ++ v)) = object_here h rows ps keeps possible c class r.there ∙ ap (λ (o : Option ClassLayout). placed_part c 0 ∷ (f ++ (parts_at mc (member_places_in o) ++ v))) r.row_there in
    subst (λ (xs : List Part). EachOnce xs) (last ∙ sym here) third

objects_once_below : (h : Classes) (rows : List ClassLayout) (nearly : List Bool) (ps : List Primary) → IsHierarchy h → IsLaidBy h (length h) rows nearly ps → AreBroughtOnce h (length h) rows ps → AreArranged (contents_of h rows ps) (measures_of h rows) → (n : ℕ) (c : ClassId) → c.0 < n → c.0 < length h → EachOnce (object_parts h rows ps c)
objects_once_below h rows nearly ps keeps by apart arranged zero c lt below = absurd (omega arith)
objects_once_below h rows nearly ps keeps by apart arranged (suc n) c lt below =
    at (λ d less. objects_once_below h rows nearly ps keeps by apart arranged n d (omega arith) (omega arith))
  where
    at : ((d : ClassId) → d.0 < c.0 → EachOnce (object_parts h rows ps d)) → EachOnce (object_parts h rows ps c)
    at earlier =
        let found = row_of h rows nearly ps c by below in
        let class = found.class in
        let e = found.there in
        let parts = object_parts h rows ps in
        let own : members_of h c ≡ class.members = ap members_of_class e in
        object_once h rows nearly ps keeps (are_possible h rows nearly ps keeps by) c found
        (λ x has.
        let r = unmapped (placed_component (is_empty h) h rows ps parts c) (fronts ps c class) x has in
        subst (λ (y : Component). EachOnce y.parts) r.is (base_once h rows ps apart c class below e r.item (has_left (fronts ps c class) (free_bases h ps c) r.item r.has)))
        (λ x has.
        let r = unmapped (member_component rows parts) class.members x has in
        let listed = contains_from_has (members_of h c) r.item (subst (λ (xs : List (Member ClassId)). Has xs r.item) (sym own) r.has) in
        subst (λ (y : Component). EachOnce y.parts) r.is
        (member_once h rows parts r.item
        (λ d is. earlier d (keeps.objects c d r.item listed is))
        (λ d is. let falls = keeps.objects c d r.item listed is in parts_below_size h rows nearly ps keeps by arranged d (omega arith))))
        (λ x has.
        let r = unmapped (placed_component (is_empty h) h rows ps parts c) (free_bases h ps c) x has in
        subst (λ (y : Component). EachOnce y.parts) r.is (base_once h rows ps apart c class below e r.item (has_right (fronts ps c class) (free_bases h ps c) r.item r.has)))

-- an object has no part twice
pub objects_once : (h : Classes) (rows : List ClassLayout) (nearly : List Bool) (ps : List Primary) → IsHierarchy h → IsLaidBy h (length h) rows nearly ps → AreBroughtOnce h (length h) rows ps → AreArranged (contents_of h rows ps) (measures_of h rows) → (c : ClassId) → c.0 < length h → EachOnce (object_parts h rows ps c)
objects_once h rows nearly ps keeps by apart arranged c lt = objects_once_below h rows nearly ps keeps by apart arranged (c.0 + 1) c (omega arith) lt

-- two paths in an object to subobjects of one class at one place are one
pub one_place : (h : Classes) (rows : List ClassLayout) (nearly : List Bool) (primaries : List Primary) → IsHierarchy h → IsLaidBy h (length h) rows nearly primaries → AreBroughtOnce h (length h) rows primaries → AreArranged (contents_of h rows primaries) (measures_of h rows) → (c : ClassId) → c.0 < length h
    → (n m : Node) (d : ClassId) (p o : List Step) (q : ℕ) → Reaches (contents_of h rows primaries) (Complete c) p q n → Reaches (contents_of h rows primaries) (Complete c) o q m → class_of_node n ≡ Some d → class_of_node m ≡ Some d → p ≡ o
one_place h rows nearly primaries keeps by apart arranged c lt n m d p o q r s e f =
    one_path (contents_of h rows primaries) (node_parts h rows primaries) (IsKnownNode h) (object_lists h rows primaries keeps (are_possible h rows nearly primaries keeps by)) d (Complete c) p o q q n m lt (objects_once h rows nearly primaries keeps by apart arranged c lt) r s e f refl
