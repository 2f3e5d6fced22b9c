-- A layout of a hierarchy by the rules is sound.
use Rattle.std.proofs.Common.{◌≡◌, ℕ, ◌+◌, ◌*◌, ◌<◌, ◌≤◌, inl, inr, ⊎_elim, Bool, Option, Some, None, List, [], ◌∷◌, ◌++◌, length, refl, ap, subst, sym, ◌∙◌, arith}
use Rattle.std.specs.Prelude.{filter}
use Rattle.std.specs.List.{slice_get}
use Rattle.std.proofs.lemmas.Option.{slice_get_within}
use Rattle.std.proofs.lemmas.List.{length-map}
use Rattle.cxx_hierarchy.specs.declared.records.ClassId.{ClassId}
use Rattle.cxx_hierarchy.specs.declared.records.ValueType.{ValueType}
use Rattle.cxx_hierarchy.specs.declared.records.FieldType.TheVariants.{Value, Object}
use Rattle.cxx_hierarchy.specs.Declarations.{is_plain_base}
use Rattle.cxx_hierarchy.specs.Classes.{Class, Classes, bases_in as class_bases_in, members_in as class_members_in, width_of_member}
use Rattle.cxx_hierarchy.specs.Hierarchies.{IsHierarchy}
use Rattle.cxx_subobject.specs.declared.Subobject.{Subobject}
use Rattle.cxx_subobject.specs.Subobjects.{whole_of, IsSubobject, whole, shared}
use Rattle.cxx_subobject.specs.VirtualBases.{virtual_bases}
use Rattle.abi_primary.specs.declared.Primary.{Primary}
use Rattle.abi_primary.specs.Holder.{holder_of}
use Rattle.abi_sound.specs.declared.class_layout.ClassLayout.{ClassLayout}
use Rattle.abi_sound.specs.Places.{Places, size_of_value, size_in_row, align_in, nvalign_in, first_bit}
use Rattle.cxx_subobject.specs.declared.locations.Hop.{Hop}
use Rattle.cxx_subobject.specs.declared.locations.Hop.TheVariants.{Inherit, Member as Element}
use Rattle.cxx_subobject.specs.Locations.{IsElement, LeadsTo}
use Rattle.abi_sound.specs.Locations.{place_along_hops, last_member, Span, AreDisjoint, bits_of_value, leaf_span, pointer_span}
use Rattle.abi_sound.specs.Sound.{Divides, IsFullRow, IsAligned, IsSoundClass, IsSoundLayout}
use Rattle.abi_sound.proofs.LeafSpans.{EndsIn, one_member, value_span, span_is, some_bits}
use Rattle.abi_sound.proofs.PrimaryParts.{primary_cases}
use Rattle.abi_primary.specs.Kinds.{IsDynamic}
use Rattle.abi_layout.specs.Kinds.{is_empty}
use Rattle.abi_layout.specs.Placements.{ArePlaced, stage_after, bits_at}
use Rattle.abi_layout.specs.declared.component.Component.{Component}
use Rattle.abi_layout.specs.declared.component.Stage.{Stage}
use Rattle.abi_layout.specs.invariants.Alignments.{IsAlignment, byte, two_bytes, four_bytes, eight_bytes}
use Rattle.abi_layout.specs.Refusals.{IsWellLaid}
use Rattle.abi_sound.specs.Places.{places_of}
use Rattle.abi_layout.proofs.lists.Divisions.{through_divides, itself_divides}
use Rattle.abi_layout.proofs.lists.Positives.{value_align}
use Rattle.abi_layout.proofs.lists.Bounds.{align_divides, most}
use Rattle.abi_layout.proofs.sound.ObjectTree.{Node, Complete, Within, Leaf, Pointer, Placement, Step, Contents, Reaches, here, down, AreArranged, IsSoundTree, contents_of, align_of_value, align_of, span_of, data_start_of, data_end_of, measures_of}
use Rattle.abi_layout.proofs.sound.ObjectFine.{IsFine, fine}
use Rattle.abi_layout.proofs.sound.ObjectArranged.{arranged, object_is_sound}
use Rattle.abi_layout.proofs.sound.ObjectOnce.{one_place}
use Rattle.abi_layout.proofs.lists.Lists.{get_within}
use Rattle.abi_layout.proofs.sound.ObjectPrimaries.{HasRow, direct_primary, virtual_primary_of}
use Rattle.abi_layout.proofs.sound.ObjectPointers.{pointer_way}
use Rattle.abi_layout.proofs.sound.ObjectPointersSound.{inside_size, leaf_beside, pointer_inside, pointers_apart}
use Rattle.abi_layout.proofs.sound.ObjectChains.{primary_told}
use Rattle.abi_layout.proofs.sound.ObjectPrimariesSound.{primary_place, holder_first}
use Rattle.abi_layout.proofs.sound.ObjectKnown.{IsLaidOut, row_of}
use Rattle.abi_layout.proofs.sound.ObjectPaths.{last_hops, through, further, decode, node_of}
use Rattle.abi_layout.proofs.sound.ObjectDecode.{IsPart, whole_part, inner_part, part_hops, part_valid, part_node, element_within, member_length, element_step, HasSteps, IsObjectNode, located, same_location}

-- the last hop, with one for no hops
abbrev end_hop : Hop → List Hop → Hop
end_hop x [] = x
end_hop x (y ∷ hops) = end_hop y hops

end_behind : (x y : Hop) (front hops : List Hop) → end_hop x (front ++ y ∷ hops) ≡ end_hop y hops
end_behind x y [] hops = refl
end_behind x y (z ∷ front) hops = end_behind z y front hops

-- the hops of steps to a subobject end with it
steps_end : (contents : Contents) (n m : Node) (s : Subobject) (p : List Step) (q : ℕ) → Reaches contents n p q m → last_hops m ≡ Inherit s ∷ [] → (x : Hop) → end_hop x (decode contents p n) ≡ Inherit s
steps_end contents _ _ s _ _ (here n) e x = ap (end_hop x) e
steps_end contents _ _ s _ _ (down n m step p q k to way) e x =
    ap (λ (o : Option Placement). end_hop x (further n step o (decode contents p))) to.there ∙ by_node k.node (decode contents p k.node) (steps_end contents k.node m s p q way e)
  where
    by_node : (node : Node) (hops : List Hop) → ((y : Hop) → end_hop y hops ≡ Inherit s) → end_hop x (through n k.member step.copy node hops) ≡ Inherit s
    by_node (Complete d) hops next = end_behind x (Element k.member step.copy) (last_hops n) hops ∙ next (Element k.member step.copy)
    by_node (Within c t d) hops next = next x
    by_node (Leaf d m w t) hops next = end_behind x (Element k.member step.copy) (last_hops n) hops ∙ next (Element k.member step.copy)
    by_node Pointer hops next = next x

-- the whole of an object is no other subobject's node
whole_node : (h : Classes) (top : ClassId) (s : Subobject) (d : ClassId) → IsSubobject h top s → s ≡ whole_of d → node_of top s d ≡ Complete d
whole_node h top _ d (whole [] l) e =
    let f : (top ∷ []) ≡ (d ∷ []) = ap (λ (t : Subobject). t.path) e in
    let same : top ≡ d = cc in
    ap Complete same
whole_node h top _ d (whole (b ∷ path) l) e = let f : (top ∷ b ∷ path) ≡ (d ∷ []) = ap (λ (t : Subobject). t.path) e in cc
whole_node h top _ d (shared v path has l) e = let f = ap (λ (t : Subobject). t.root) e in cc

-- a location that ends in a whole object is one of it
ends_whole : (h : Classes) (contents : Contents) (c d : ClassId) (front hops : List Hop) (q : ℕ) (node : Node) → HasSteps contents c hops q node → IsObjectNode h d node → hops ≡ front ++ Inherit (whole_of d) ∷ [] → node ≡ Complete d
ends_whole h contents c d front hops q node way is e =
    let start = Inherit (whole_of d) in
    let first : end_hop start hops ≡ Inherit (whole_of d) = ap (end_hop start) e ∙ end_behind start (Inherit (whole_of d)) front [] in
    let second : end_hop start hops ≡ Inherit is.subobject_is = ap (end_hop start) (sym way.decodes) ∙ steps_end contents (Complete c) node is.subobject_is way.steps q way.reaches (part_hops h is.top node is.subobject_is d is.part) start in
    let both : Inherit is.subobject_is ≡ Inherit (whole_of d) = sym second ∙ first in
    let same : is.subobject_is ≡ whole_of d = cc in
    is.node_is ∙ whole_node h is.top is.subobject_is d (part_valid h is.top node is.subobject_is d is.part) same

-- a subobject is aligned at least as its class is as a base
base_divides : (h : Classes) (rows : List ClassLayout) (c d : ClassId) (n : Node) (s : Subobject) → (c.0 < length h → IsFine h rows c) → c.0 < length h → IsPart h c n s d → Divides (nvalign_in (slice_get rows d.0)) (align_of rows n)
base_divides h rows c _ _ _ fine_of lt whole_part = let f = fine_of lt in align_divides (nvalign_in (slice_get rows c.0)) (align_in (slice_get rows c.0)) f.nvalign f.align f.aligns
base_divides h rows c _ _ _ fine_of lt (inner_part s d valid e) = itself_divides (nvalign_in (slice_get rows d.0))

-- what is reached in an object
record IsFound (h : Classes) (rows : List ClassLayout) (ps : List Primary) (c : ClassId) (hops : List Hop) (q : ℕ) (n : Node) : Type 0 where
  way : HasSteps (contents_of h rows ps) c hops q n
  within : q + span_of rows n ≤ size_in_row (slice_get rows c.0)
  divides : Divides (align_of rows n) q

found_at : (h : Classes) (rows : List ClassLayout) (nearly : List Bool) (ps : List Primary) → IsLaidOut h rows nearly ps → (c : ClassId) (hops : List Hop) (q : ℕ) (n : Node) → c.0 < length h → HasSteps (contents_of h rows ps) c hops q n → IsFound h rows ps c hops q n
found_at h rows nearly ps known c hops q n lt way =
    let tree : IsSoundTree (contents_of h rows ps) (measures_of h rows) = object_is_sound h rows nearly ps known.keeps known.laid in
    let i = tree.inside (Complete c) n way.steps q way.reaches in
    let s = most (size_in_row (slice_get rows c.0)) (fine h rows nearly ps c known.keeps known.laid lt).positive in
    record {
      way = way;
      within = omega (arith, i, s);
      divides = tree.aligned (Complete c) n way.steps q way.reaches;
    }

-- a number or a pointer at a location: the member in which it ends, and the steps to it
record IsLeafFound (h : Classes) (rows : List ClassLayout) (ps : List Primary) (c : ClassId) (hops : List Hop) (type : ValueType ClassId) (q : ℕ) : Type 0 where
  ends : EndsIn h c hops type
  found : IsFound h rows ps c hops q (Leaf ends.class ends.member (width_of_member h ends.class ends.member) type)
  some : 1 ≤ bits_of_value (width_of_member h ends.class ends.member) type

leaf_found : (h : Classes) (rows : List ClassLayout) (nearly : List Bool) (ps : List Primary) → IsLaidOut h rows nearly ps → (c : ClassId) (type : ValueType ClassId) (hops : List Hop) → c.0 < length h → LeadsTo h c hops (Value type) → IsLeafFound h rows ps c hops type (place_along_hops h (places_of h rows) c hops)
leaf_found h rows nearly ps known c type hops lt leads =
    let x = located h rows nearly ps known c hops (Value type) lt leads in
    let e = x.ends.of in
    let q = place_along_hops h (places_of h rows) c hops in
    record {
      ends = e;
      found = found_at h rows nearly ps known c hops q (Leaf e.class e.member (width_of_member h e.class e.member) type) lt (subst (λ (n : Node). HasSteps (contents_of h rows ps) c hops q n) x.ends.node_is x.way);
      some = some_bits h known.keeps e.class e.member e.index type e.element;
    }

-- the bits of an element end with the bytes of a value of its type
record IsInBytes (h : Classes) (rows : List ClassLayout) (d : ClassId) (m : ℕ) (type : ValueType ClassId) : Type 0 where
  low : first_bit rows d m < 8
  fits : first_bit rows d m + bits_of_value (width_of_member h d m) type ≤ 8 * size_of_value type

in_bytes : (h : Classes) (rows : List ClassLayout) (nearly : List Bool) (ps : List Primary) → IsLaidOut h rows nearly ps → (d : ClassId) (m i : ℕ) (type : ValueType ClassId) → IsElement h d m i (Value type) → IsInBytes h rows d m type
in_bytes h rows nearly ps known d m i type element =
    let k = element_step h rows nearly ps known d d (Complete d) (whole_of d) m i (Value type) (element_within h d m i (Value type) element) whole_part element in
    let place = ((arranged h rows nearly ps known.keeps known.laid).node (Complete d)).each k.step.number k.to k.steps.there in
    record {
      low = subst (λ (n : Node). data_start_of rows n < 8) k.node place.low;
      fits = subst (λ z. data_end_of h rows (Leaf d m (width_of_member h d m) type) ≤ 8 * z) k.stride (subst (λ (n : Node). data_end_of h rows n ≤ 8 * k.to.stride) k.node place.data_fits);
    }

align_most : (a : ℕ) → IsAlignment a → a ≤ 8
align_most _ byte = omega arith
align_most _ two_bytes = omega arith
align_most _ four_bytes = omega arith
align_most _ eight_bytes = omega arith

aligned_by : (w : Option ℕ) (type : ValueType ClassId) (place first : ℕ) → Divides (align_of_value w type) place → first < 8 → first + bits_of_value w type ≤ 8 * size_of_value type → IsAligned w type place first
aligned_by None type place first divides low fits = (divides, omega (arith, fits))
aligned_by (Some n) type place first divides low fits = (low, let most = align_most (size_of_value type) (value_align type) in omega (arith, fits, most))

spans_apart : (a b r s : Span) → a ≡ r → b ≡ s → AreDisjoint r s → AreDisjoint a b
spans_apart a b r s e f apart = subst (λ (k : Span). AreDisjoint k b) (sym e) (subst (AreDisjoint r) (sym f) apart)

-- the laws of one class
module _ (h : Classes) (rows : List ClassLayout) (keeps : IsHierarchy h) (well : IsWellLaid h (length h) rows) (c : ClassId) (lt : c.0 < length h) where
  abbrev nearly : List Bool
  nearly = well.nearly

  abbrev ps : List Primary
  ps = well.primaries

  abbrev l : Places
  l = places_of h rows

  known : IsLaidOut h rows well.nearly well.primaries
  known = record { keeps = keeps; laid = well.by }

  all_arranged : AreArranged (contents_of h rows well.primaries) (measures_of h rows)
  all_arranged = arranged h rows well.nearly well.primaries keeps well.by

  tree : IsSoundTree (contents_of h rows well.primaries) (measures_of h rows)
  tree = object_is_sound h rows well.nearly well.primaries keeps well.by

  leaf : (type : ValueType ClassId) (hops : List Hop) → LeadsTo h c hops (Value type) → IsLeafFound h rows well.primaries c hops type (place_along_hops h (places_of h rows) c hops)
  leaf type hops leads = leaf_found h rows well.nearly well.primaries known c type hops lt leads

  is_aligned : (type : ValueType ClassId) (hops : List Hop) (d : ClassId) (m : ℕ) → LeadsTo h c hops (Value type) → last_member h (Some c) hops ≡ Some (d, m) → IsAligned (width_of_member h d m) type (place_along_hops h l c hops) (l.first d m)
  is_aligned type hops d m leads last =
      let x = leaf type hops leads in
      let e = x.ends in
      let q = place_along_hops h l c hops in
      let same = one_member (last_member h (Some c) hops) e.class d e.member m e.last last in
      let b = in_bytes h rows well.nearly well.primaries known e.class e.member e.index type e.element in
      let here : IsAligned (width_of_member h e.class e.member) type q (l.first e.class e.member) = aligned_by (width_of_member h e.class e.member) type q (first_bit rows e.class e.member) x.found.divides b.low b.fits in
      subst (λ (k : ClassId). IsAligned (width_of_member h k m) type q (l.first k m)) same.0 (subst (λ n. IsAligned (width_of_member h e.class n) type q (l.first e.class n)) same.1 here)

  is_inside : (type : ValueType ClassId) (hops : List Hop) → LeadsTo h c hops (Value type) → (leaf_span h l c hops).start + (leaf_span h l c hops).length ≤ 8 * l.size c
  is_inside type hops leads =
      let x = leaf type hops leads in
      let e = x.ends in
      let q = place_along_hops h l c hops in
      let some = x.some in
      let node = Leaf e.class e.member (width_of_member h e.class e.member) type in
      let ends = tree.ends (Complete c) node x.found.way.steps q x.found.way.reaches (omega (arith, some)) in
      let within = inside_size (is_empty h c) (8 * q + (first_bit rows e.class e.member + bits_of_value (width_of_member h e.class e.member) type)) (size_in_row (slice_get rows c.0)) (omega (arith, some)) ends in
      subst (λ (s : Span). s.start + s.length ≤ 8 * l.size c) (sym (span_is h l c hops type e)) (omega (arith, within))

  leaves_are_apart : (type other : ValueType ClassId) (hops others : List Hop) → LeadsTo h c hops (Value type) → LeadsTo h c others (Value other) → (hops ≡ others → ⊥) → AreDisjoint (leaf_span h l c hops) (leaf_span h l c others)
  leaves_are_apart type other hops others leads also differ =
      let x = leaf type hops leads in
      let y = leaf other others also in
      let e = x.ends in
      let f = y.ends in
      let q = place_along_hops h l c hops in
      let r = place_along_hops h l c others in
      let some = x.some in
      let more = y.some in
      let node = Leaf e.class e.member (width_of_member h e.class e.member) type in
      let next = Leaf f.class f.member (width_of_member h f.class f.member) other in
      let apart = tree.apart (Complete c) node next x.found.way.steps y.found.way.steps q r x.found.way.reaches y.found.way.reaches refl refl
      (λ same. differ (same_location (contents_of h rows well.primaries) c hops others q r node next x.found.way y.found.way same)) (omega (arith, some)) (omega (arith, more)) in
      spans_apart (leaf_span h l c hops) (leaf_span h l c others) (value_span h l e.class e.member type q) (value_span h l f.class f.member other r) (span_is h l c hops type e) (span_is h l c others other f)
      (⊎_elim (λ a. inl (omega (arith, a))) (λ a. inr (omega (arith, a))) apart)

  leaf_is_apart : (d : ClassId) (type : ValueType ClassId) (hops others : List Hop) → IsDynamic h d → LeadsTo h c hops (Object d) → LeadsTo h c others (Value type) → AreDisjoint (pointer_span (place_along_hops h l c hops)) (leaf_span h l c others)
  leaf_is_apart d type hops others dynamic leads also =
      let x = pointer_way h rows well.nearly well.primaries known c d hops lt dynamic leads in
      let y = leaf type others also in
      let e = y.ends in
      let q = place_along_hops h l c hops in
      let r = place_along_hops h l c others in
      let apart = leaf_beside h rows well.nearly well.primaries known c e.class e.member (width_of_member h e.class e.member) type x.steps y.found.way.steps q r y.some x.reaches y.found.way.reaches in
      subst (AreDisjoint (pointer_span q)) (sym (span_is h l c others type e)) (⊎_elim (λ a. inl (omega (arith, a))) (λ a. inr (omega (arith, a))) apart)

  are_distinct : (d : ClassId) (hops others : List Hop) → LeadsTo h c hops (Object d) → LeadsTo h c others (Object d) → place_along_hops h l c hops ≡ place_along_hops h l c others → hops ≡ others
  are_distinct d hops others x y same =
      let o = located h rows well.nearly well.primaries known c hops (Object d) lt x in
      let u = located h rows well.nearly well.primaries known c others (Object d) lt y in
      let way : HasSteps (contents_of h rows well.primaries) c others (place_along_hops h l c hops) u.node = subst (λ q. HasSteps (contents_of h rows well.primaries) c others q u.node) (sym same) u.way in
      let o_class = part_node h o.ends.top o.node o.ends.subobject_is d o.ends.part in
      let u_class = part_node h u.ends.top u.node u.ends.subobject_is d u.ends.part in
      same_location (contents_of h rows well.primaries) c hops others (place_along_hops h l c hops) (place_along_hops h l c hops) o.node u.node o.way way
      (one_place h rows well.nearly well.primaries keeps well.by well.apart all_arranged c lt o.node u.node d o.way.steps way.steps (place_along_hops h l c hops) o.way.reaches way.reaches o_class u_class)

  base_is_multiple : (d : ClassId) (hops : List Hop) → LeadsTo h c hops (Object d) → Divides (l.base_align d) (place_along_hops h l c hops)
  base_is_multiple d hops x =
      let o = located h rows well.nearly well.primaries known c hops (Object d) lt x in
      let f = found_at h rows well.nearly well.primaries known c hops (place_along_hops h l c hops) o.node lt o.way in
      let e = o.ends in
      through_divides (nvalign_in (slice_get rows d.0)) (align_of rows o.node) (place_along_hops h l c hops) (base_divides h rows e.top d o.node e.subobject_is (λ within. fine h rows well.nearly well.primaries e.top keeps well.by within) e.within e.part) f.divides

  object_is_multiple : (d : ClassId) (front : List Hop) → LeadsTo h c (front ++ Inherit (whole_of d) ∷ []) (Object d) → Divides (l.align d) (place_along_hops h l c (front ++ Inherit (whole_of d) ∷ []))
  object_is_multiple d front x =
      let hops = front ++ Inherit (whole_of d) ∷ [] in
      let o = located h rows well.nearly well.primaries known c hops (Object d) lt x in
      let f = found_at h rows well.nearly well.primaries known c hops (place_along_hops h l c hops) o.node lt o.way in
      subst (λ (n : Node). Divides (align_of rows n) (place_along_hops h l c hops)) (ends_whole h (contents_of h rows well.primaries) c d front hops (place_along_hops h l c hops) o.node o.way o.ends refl) f.divides

  class_begins_inside : (d : ClassId) (hops : List Hop) → LeadsTo h c hops (Object d) → place_along_hops h l c hops < l.size c
  class_begins_inside d hops x =
      let o = located h rows well.nearly well.primaries known c hops (Object d) lt x in
      let f = found_at h rows well.nearly well.primaries known c hops (place_along_hops h l c hops) o.node lt o.way in
      let i = f.within in
      let p = all_arranged.positive o.node in
      omega (arith, i, p)

  is_bounded : l.size c ≤ 1048576
  is_bounded =
      let r = row_of h rows well.nearly well.primaries known c lt in
      let s : size_in_row (slice_get rows c.0) ≡ r.row.size = ap size_in_row r.row_there in
      let b = well.small.each c.0 r.row r.row_there in
      omega (arith, s, b)

  class_is_sound : IsSoundClass h (places_of h rows) c
  class_is_sound = record {
    direct = λ b is. direct_primary h rows well.nearly well.primaries c b well.by lt (sym (primary_told h rows well.nearly well.primaries known c lt) ∙ is);
    virtual = λ v is. virtual_primary_of h rows well.nearly well.primaries c v keeps well.by lt (sym (primary_told h rows well.nearly well.primaries known c lt) ∙ is);
    holder = λ v has. holder_first h rows well.nearly well.primaries known c v lt has;
    positive = (fine h rows well.nearly well.primaries c keeps well.by lt).positive;
    bounded = is_bounded;
    one_place = λ s t valid part. primary_place h rows well.nearly well.primaries known c s t lt valid (primary_cases (places_of h rows) c s t part);
    aligned = is_aligned;
    base_multiple = λ d front s leads proper. base_is_multiple d (front ++ Inherit s ∷ []) leads;
    object_multiple = object_is_multiple;
    leaf_inside = is_inside;
    pointer_inside = λ d hops dynamic leads. pointer_inside h rows well.nearly well.primaries known c d hops lt dynamic leads;
    begins_inside = class_begins_inside;
    leaves_apart = leaves_are_apart;
    leaf_and_pointer = leaf_is_apart;
    pointers_apart = λ d e hops others dynamic moves leads other. pointers_apart h rows well.nearly well.primaries known c d e hops others lt dynamic moves leads other;
    distinct = are_distinct;
  }

bits_length : (st : Stage) (cs : List Component) (places : List ℕ) → ArePlaced st cs places → length (bits_at st cs places) ≡ length places
bits_length st [] [] l = refl
bits_length st [] (p ∷ places) l = absurd l
bits_length st (c ∷ cs) [] l = absurd l
bits_length st (c ∷ cs) (p ∷ places) l = let r = bits_length (stage_after st c p) cs places l.1 in omega arith

-- each row tells of all parts of its class
rows_full : (h : Classes) (rows : List ClassLayout) (nearly : List Bool) (ps : List Primary) → IsLaidOut h rows nearly ps → (c : ClassId) (row : ClassLayout) → slice_get rows c.0 ≡ Some row → IsFullRow h c row
rows_full h rows nearly ps known c row there =
    let within = slice_get_within rows c.0 row there in
    let count = known.laid.one_each in
    let k = get_within h c.0 (omega arith) in
    let laid = known.laid.row c k.0 row k.1 there in
    let r : HasRow h rows nearly ps c = record { class = k.0; there = k.1; row = row; row_there = there; laid = laid } in
    record {
      each_base = laid.each_base ∙ ap (λ (o : Option Class). length (filter is_plain_base (class_bases_in o))) (sym k.1);
      virtuals = laid.virtuals;
      each_virtual = laid.each_virtual;
      each_holder = ap length laid.holders ∙ length-map (virtual_bases h c) (holder_of h ps c);
      each_bits = ap length laid.placed.bits ∙ (bits_length _ _ row.member_places laid.placed.members_placed ∙ (member_length h rows nearly ps c r ∙ ap (λ (o : Option Class). length (class_members_in o)) (sym k.1)));
      each_member = member_length h rows nearly ps c r ∙ ap (λ (o : Option Class). length (class_members_in o)) (sym k.1);
    }

-- a layout that is not refused is sound
pub rules_are_sound : (h : Classes) (rows : List ClassLayout) → IsHierarchy h → IsWellLaid h (length h) rows → IsSoundLayout h rows
rules_are_sound h rows keeps well = record {
  full = record { one_each = well.by.one_each; each = rows_full h rows well.nearly well.primaries (record { keeps = keeps; laid = well.by }) };
  each = λ c lt. class_is_sound h rows keeps well c lt;
}
