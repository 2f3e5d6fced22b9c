-- Each location has steps in the tree of the object, at its place, and its hops can be read from them.
use Rattle.std.proofs.Common.{◌≡◌, ℕ, zero, suc, ◌+◌, ◌*◌, ◌<◌, inl, inr, Bool, Option, Some, None, List, [], ◌∷◌, ◌++◌, map, length, refl, ap, subst, sym, ◌∙◌, arith}
use Rattle.std.specs.List.{slice_get}
use Rattle.std.proofs.lemmas.Option.{slice_get_within}
use Rattle.std.proofs.lemmas.List.{append-nil}
use Rattle.cxx_hierarchy.specs.declared.records.ClassId.{ClassId}
use Rattle.cxx_hierarchy.specs.declared.records.Member.{Member}
use Rattle.cxx_hierarchy.specs.declared.records.ValueType.{ValueType}
use Rattle.cxx_hierarchy.specs.declared.records.FieldType.{FieldType}
use Rattle.cxx_hierarchy.specs.declared.records.FieldType.TheVariants.{Value, Object}
use Rattle.cxx_hierarchy.specs.Classes.{Class, Classes, class_at, members_of, members_in as class_members_in, width_in, width_of_member}
use Rattle.cxx_subobject.specs.declared.Root.TheVariants.{Whole, Shared}
use Rattle.cxx_subobject.specs.declared.Subobject.{Subobject}
use Rattle.cxx_subobject.specs.Subobjects.{subobject, whole_of, IsSubobject, whole, shared, class_of}
use Rattle.abi_primary.specs.declared.Primary.{Primary}
use Rattle.abi_sound.specs.declared.class_layout.ClassLayout.{ClassLayout}
use Rattle.abi_sound.specs.Places.{place_or_zero, member_places_in}
use Rattle.cxx_hierarchy.specs.Declarations.{elements_of}
use Rattle.cxx_subobject.specs.declared.locations.Hop.{Hop}
use Rattle.cxx_subobject.specs.declared.locations.Hop.TheVariants.{Inherit, Member as Element}
use Rattle.cxx_subobject.specs.Locations.{IsElement, LeadsTo, to_subobject, to_value, to_inner}
use Rattle.abi_sound.specs.Locations.{place_along_hops}
use Rattle.abi_sound.proofs.LeafSpans.{last_element, last_inner, EndsIn}
use Rattle.abi_sound.proofs.PlaceLemmas.{place_at_base, place_at_value, place_at_inner}
use Rattle.abi_layout.specs.Placements.{size_of_member_type, member_component, stage_after_all}
use Rattle.abi_layout.specs.Layouts.{place_in_class, fronts, object_parts, front_components, start_stage, placed_place}
use Rattle.abi_sound.specs.Places.{places_of}
use Rattle.abi_layout.proofs.lists.Lists.{get_within, has_at}
use Rattle.abi_layout.proofs.rules.Stages.{Has, has_left, has_right}
use Rattle.abi_layout.proofs.rules.PlacedCounts.{placed_length}
use Rattle.abi_layout.proofs.sound.ObjectTree.{Node, Complete, Within, Leaf, Placement, Step, Contents, start_of, StepsTo, Reaches, here, down, class_of_node, placed_base, node_of_member, placed_members, members_at, contents_of_object, contents_of}
use Rattle.abi_layout.proofs.sound.ObjectPrimaries.{HasRow}
use Rattle.abi_layout.proofs.sound.ObjectKnown.{IsLaidOut, row_of}
use Rattle.foundation.proofs.Members.{index_of}
use Rattle.abi_layout.proofs.sound.ObjectPaths.{last_hops, through, further, decode, ways_joined, node_of, subobject_reached}

-- the node is a subobject, of a class, of an object of class c
pub data IsPart (h : Classes) (c : ClassId) : Node → Subobject → ClassId → Type 0 where
  whole_part : IsPart h c (Complete c) (whole_of c) c
  inner_part : (s : Subobject) (d : ClassId) → IsSubobject h c s → class_of s ≡ Some d → IsPart h c (Within c s d) s d

pub part_of : (h : Classes) (c : ClassId) (s : Subobject) (d : ClassId) → IsSubobject h c s → class_of s ≡ Some d → IsPart h c (node_of c s d) s d
part_of h c _ d (whole [] l) e = let same : c ≡ d = cc in subst (λ (x : ClassId). IsPart h c (Complete c) (whole_of c) x) same whole_part
part_of h c _ d (whole (b ∷ path) l) e = inner_part (subobject Whole (c ∷ b ∷ path)) d (whole (b ∷ path) l) e
part_of h c _ d (shared v path has l) e = inner_part (subobject (Shared v) (v ∷ path)) d (shared v path has l) e

pub part_hops : (h : Classes) (c : ClassId) (n : Node) (s : Subobject) (d : ClassId) → IsPart h c n s d → last_hops n ≡ Inherit s ∷ []
part_hops h c _ _ _ whole_part = refl
part_hops h c _ _ _ (inner_part s d valid e) = refl

pub part_valid : (h : Classes) (c : ClassId) (n : Node) (s : Subobject) (d : ClassId) → IsPart h c n s d → IsSubobject h c s
part_valid h c _ _ _ whole_part = whole [] tt
part_valid h c _ _ _ (inner_part s d valid e) = valid

pub part_class : (h : Classes) (c : ClassId) (n : Node) (s : Subobject) (d : ClassId) → IsPart h c n s d → class_of s ≡ Some d
part_class h c _ _ _ whole_part = refl
part_class h c _ _ _ (inner_part s d valid e) = e

pub part_node : (h : Classes) (c : ClassId) (n : Node) (s : Subobject) (d : ClassId) → IsPart h c n s d → class_of_node n ≡ Some d
part_node h c _ _ _ whole_part = refl
part_node h c _ _ _ (inner_part s d valid e) = refl

-- a part has the members of its class
pub members_there : (h : Classes) (rows : List ClassLayout) (nearly : List Bool) (ps : List Primary) (c d : ClassId) (n : Node) (s : Subobject) (x : Placement) → IsLaidOut h rows nearly ps → c.0 < length h → IsPart h c n s d → Has (members_at h rows d) x → Has (contents_of h rows ps n) x
members_there h rows nearly ps c _ _ _ x known lt whole_part has =
    let r = row_of h rows nearly ps known c lt in
    subst (λ (o : Option Class). Has (contents_of_object h rows ps c o) x) (sym r.there) (has_right (map (placed_base h rows c) (fronts ps c r.class)) _ _ (has_left (members_at h rows c) _ _ has))
members_there h rows nearly ps c _ _ _ x known lt (inner_part s d valid e) has = has_left (members_at h rows d) _ _ has

abbrev pub member_placement : List ClassLayout → ClassId → Member ClassId → ℕ → ℕ → Placement
member_placement rows d member place m = record { node = node_of_member d m member.width member.ty; place = place; count = elements_of member.count; stride = size_of_member_type rows member.ty; member = m }

member_has : (rows : List ClassLayout) (d : ClassId) (n : ℕ) (members : List (Member ClassId)) (places : List ℕ) (m : ℕ) (member : Member ClassId) (place : ℕ) → slice_get members m ≡ Some member → slice_get places m ≡ Some place → Has (placed_members rows d n members places) (member_placement rows d member place (n + m))
member_has rows d n [] places m member place e f = let g : None ≡ Some member = e in cc
member_has rows d n (x ∷ members) [] m member place e f = let g : None ≡ Some place = f in cc
member_has rows d n (x ∷ members) (p ∷ places) zero member place e f =
    let a : x ≡ member = cc in
    let b : p ≡ place = cc in
    let z : n ≡ n + 0 = omega arith in
    inl (ap (λ (y : Member ClassId). member_placement rows d y p n) a ∙ (ap (λ q. member_placement rows d member q n) b ∙ ap (member_placement rows d member place) z))
member_has rows d n (x ∷ members) (p ∷ places) (suc m) member place e f =
    let z : suc n + m ≡ n + suc m = omega arith in
    inr (subst (λ k. Has (placed_members rows d (suc n) members places) (member_placement rows d member place k)) z (member_has rows d (suc n) members places m member place e f))

-- a class that has an element is one of the hierarchy
pub element_within : (h : Classes) (d : ClassId) (m i : ℕ) (type : FieldType ClassId) → IsElement h d m i type → d.0 < length h
element_within h d m i type e = by_class (class_at h d) refl e.there
  where
    by_class : (o : Option Class) → class_at h d ≡ o → slice_get (class_members_in o) m ≡ Some e.member → d.0 < length h
    by_class None is there = let f : None ≡ Some e.member = there in cc
    by_class (Some class) is there = slice_get_within h d.0 class is

-- each member has its place
pub member_length : (h : Classes) (rows : List ClassLayout) (nearly : List Bool) (ps : List Primary) (d : ClassId) (r : HasRow h rows nearly ps d) → length r.row.member_places ≡ length r.class.members
member_length h rows nearly ps d r =
    placed_length (stage_after_all (start_stage d r.laid.has_pointer) (front_components h rows ps (object_parts h rows ps) d r.class) (map (placed_place h rows d) (fronts ps d r.class)))
    (map (member_component rows (object_parts h rows ps)) r.class.members) r.row.member_places r.laid.placed.members_placed
    ∙ length_map (member_component rows (object_parts h rows ps)) r.class.members
  where
    length_map : {X Y : Type 0} (f : X → Y) (xs : List X) → length (map f xs) ≡ length xs
    length_map f [] = refl
    length_map f (x ∷ xs) = let r = length_map f xs in omega arith

-- the step from a part to an element of a member of its class
pub record IsElementStep (h : Classes) (rows : List ClassLayout) (ps : List Primary) (n : Node) (d : ClassId) (m i : ℕ) (type : FieldType ClassId) : Type 0 where
  pub step : Step
  pub to : Placement
  pub steps : StepsTo (contents_of h rows ps) n step to
  pub copy : step.copy ≡ i
  pub number : to.member ≡ m
  pub node : to.node ≡ node_of_member d m (width_of_member h d m) type
  pub stride : to.stride ≡ size_of_member_type rows type
  pub start : start_of to step.copy ≡ (places_of h rows).member d m + i * size_of_member_type rows type

pub element_step : (h : Classes) (rows : List ClassLayout) (nearly : List Bool) (ps : List Primary) → IsLaidOut h rows nearly ps → (c d : ClassId) (n : Node) (s : Subobject) (m i : ℕ) (type : FieldType ClassId) → c.0 < length h → IsPart h c n s d → IsElement h d m i type → IsElementStep h rows ps n d m i type
element_step h rows nearly ps known c d n s m i type lt part e =
    let r = row_of h rows nearly ps known d (element_within h d m i type e) in
    let there : slice_get r.class.members m ≡ Some e.member = subst (λ (o : Option Class). slice_get (class_members_in o) m ≡ Some e.member) r.there e.there in
    let within = slice_get_within r.class.members m e.member there in
    let count = member_length h rows nearly ps d r in
    let p = get_within r.row.member_places m (omega arith) in
    let place : slice_get (member_places_in (slice_get rows d.0)) m ≡ Some p.0 = ap (λ (o : Option ClassLayout). slice_get (member_places_in o) m) r.row_there ∙ p.1 in
    let to = member_placement rows d e.member p.0 m in
    let listed : Has (members_at h rows d) to = subst (λ k. Has (members_at h rows d) (member_placement rows d e.member p.0 k)) (let z : 0 + m ≡ m = omega arith in z) (member_has rows d 0 (members_of h d) (member_places_in (slice_get rows d.0)) m e.member p.0 e.there place) in
    let k = index_of (contents_of h rows ps n) to (members_there h rows nearly ps c d n s to known lt part listed) in
    let at : (places_of h rows).member d m ≡ p.0 = ap place_or_zero place in
    record {
      step = record { number = k.0; copy = i };
      to = to;
      steps = record { there = k.1; within = e.within };
      copy = refl;
      number = refl;
      node = ap (λ (o : Option (Member ClassId)). node_of_member d m (width_in o) e.member.ty) (sym e.there) ∙ ap (node_of_member d m (width_of_member h d m)) e.type_is;
      stride = ap (size_of_member_type rows) e.type_is;
      start = ap (λ z. p.0 + i * z) (ap (size_of_member_type rows) e.type_is) ∙ ap (λ z. z + i * size_of_member_type rows type) (sym at);
    }

-- the hops of a step to an element
pub element_hops : (contents : Contents) (n : Node) (s : Subobject) (step : Step) (to : Placement) (d : ClassId) (m i : ℕ) (width : Option ℕ) (type : FieldType ClassId) (rest : List Step) → slice_get (contents n) step.number ≡ Some to → step.copy ≡ i → to.member ≡ m → to.node ≡ node_of_member d m width type → last_hops n ≡ Inherit s ∷ []
    → decode contents (step ∷ rest) n ≡ Inherit s ∷ Element m i ∷ decode contents rest (node_of_member d m width type)
element_hops contents n s step to d m i width type rest there copy number node hops =
    ap (λ (o : Option Placement). further n step o (decode contents rest)) there
    ∙ (ap (λ k. through n k step.copy to.node (decode contents rest to.node)) number
    ∙ (ap (λ k. through n m k to.node (decode contents rest to.node)) copy
    ∙ (ap (λ (x : Node). through n m i x (decode contents rest x)) node
    ∙ (by_type type (decode contents rest (node_of_member d m width type))
    ∙ ap (λ (t : List Hop). t ++ Element m i ∷ decode contents rest (node_of_member d m width type)) hops))))
  where
    by_type : (t : FieldType ClassId) (more : List Hop) → through n m i (node_of_member d m width t) more ≡ last_hops n ++ Element m i ∷ more
    by_type (Value x) more = refl
    by_type (Object e) more = refl

-- steps from a whole object to something, with the hops of them
pub record HasSteps (contents : Contents) (c : ClassId) (hops : List Hop) (q : ℕ) (node : Node) : Type 0 where
  pub steps : List Step
  pub reaches : Reaches contents (Complete c) steps q node
  pub decodes : decode contents steps (Complete c) ≡ hops

step_down : (contents : Contents) (n j m : Node) (s : Step) (p : List Step) (q at : ℕ) (k : Placement) → StepsTo contents n s k → k.node ≡ m → start_of k s.copy ≡ at → Reaches contents m p q j → Reaches contents n (s ∷ p) (at + q) j
step_down contents n j m s p q at k to node start x = subst (λ z. Reaches contents n (s ∷ p) (z + q) j) start (down n j s p q k to (subst (λ (y : Node). Reaches contents y p q j) (sym node) x))

-- what lies in an element is reached from the whole
through_element : (h : Classes) (rows : List ClassLayout) (nearly : List Bool) (ps : List Primary) → IsLaidOut h rows nearly ps → (c d : ClassId) (s : Subobject) (m i : ℕ) (type : FieldType ClassId) (rest : List Step) (r : ℕ) (j : Node) → c.0 < length h → IsSubobject h c s → class_of s ≡ Some d → IsElement h d m i type → Reaches (contents_of h rows ps) (node_of_member d m (width_of_member h d m) type) rest r j
    → HasSteps (contents_of h rows ps) c (Inherit s ∷ Element m i ∷ decode (contents_of h rows ps) rest (node_of_member d m (width_of_member h d m) type)) (place_in_class h rows c s + ((places_of h rows).member d m + i * size_of_member_type rows type) + r) j
through_element h rows nearly ps known c d s m i type rest r j lt valid class e x =
    let contents = contents_of h rows ps in
    let part = part_of h c s d valid class in
    let way = subobject_reached h rows nearly ps known c s d lt valid class in
    let k = element_step h rows nearly ps known c d (node_of c s d) s m i type lt part e in
    let at = (places_of h rows).member d m + i * size_of_member_type rows type in
    let y = step_down contents (node_of c s d) j (node_of_member d m (width_of_member h d m) type) k.step rest r at k.to k.steps k.node k.start x in
    let z = ways_joined contents (Complete c) (node_of c s d) j way.steps (k.step ∷ rest) (place_in_class h rows c s) (at + r) way.reaches y in
    let sum : place_in_class h rows c s + (at + r) ≡ place_in_class h rows c s + at + r = omega arith in
    record {
      steps = way.steps ++ (k.step ∷ rest);
      reaches = subst (λ q. Reaches contents (Complete c) (way.steps ++ (k.step ∷ rest)) q j) sum z;
      decodes = way.decodes (k.step ∷ rest) ∙ element_hops contents (node_of c s d) s k.step k.to d m i (width_of_member h d m) type rest k.steps.there k.copy k.number k.node (part_hops h c (node_of c s d) s d part);
    }

-- a node that is a subobject of class d of an object in the hierarchy
pub record IsObjectNode (h : Classes) (d : ClassId) (node : Node) : Type 0 where
  pub top : ClassId
  pub subobject_is : Subobject
  pub within : top.0 < length h
  pub part : IsPart h top node subobject_is d
  pub node_is : node ≡ node_of top subobject_is d

-- a node that is the number or pointer to which hops lead from an object of class c
pub record IsLeafNode (h : Classes) (c : ClassId) (hops : List Hop) (type : ValueType ClassId) (node : Node) : Type 0 where
  pub of : EndsIn h c hops type
  pub node_is : node ≡ Leaf of.class of.member (width_of_member h of.class of.member) type

abbrev pub IsEnd : Classes → ClassId → List Hop → FieldType ClassId → Node → Type 0
IsEnd h c hops (Value type) node = IsLeafNode h c hops type node
IsEnd h c hops (Object d) node = IsObjectNode h d node

-- a location is reached at its place, and its hops are those of the steps
pub record IsLocated (h : Classes) (rows : List ClassLayout) (ps : List Primary) (c : ClassId) (hops : List Hop) (type : FieldType ClassId) (q : ℕ) : Type 0 where
  pub node : Node
  pub way : HasSteps (contents_of h rows ps) c hops q node
  pub ends : IsEnd h c hops type node

-- what ends in an element ends so from the whole
inner_end : (h : Classes) (c d e : ClassId) (s : Subobject) (m i : ℕ) (hops : List Hop) (type : FieldType ClassId) (node : Node) → class_of s ≡ Some d → IsElement h d m i (Object e) → IsEnd h e hops type node → IsEnd h c (Inherit s ∷ Element m i ∷ hops) type node
inner_end h c d e s m i hops (Object k) node class element ends = ends
inner_end h c d e s m i [] (Value type) node class element ends = let f = ends.of.last in cc
inner_end h c d e s m i (hop ∷ hops) (Value type) node class element ends = record {
  of = record { class = ends.of.class; member = ends.of.member; index = ends.of.index; last = last_inner h (Some c) d e s m i hop hops class element ∙ ends.of.last; element = ends.of.element };
  node_is = ends.node_is;
}

steps_along : (contents : Contents) (c : ClassId) (hops others : List Hop) (q r : ℕ) (node : Node) → hops ≡ others → q ≡ r → HasSteps contents c hops q node → HasSteps contents c others r node
steps_along contents c hops others q r node e f x = subst (λ (t : List Hop). HasSteps contents c t r node) e (subst (λ z. HasSteps contents c hops z node) f x)

pub located : (h : Classes) (rows : List ClassLayout) (nearly : List Bool) (ps : List Primary) → IsLaidOut h rows nearly ps → (c : ClassId) (hops : List Hop) (type : FieldType ClassId) → c.0 < length h → LeadsTo h c hops type → IsLocated h rows ps c hops type (place_along_hops h (places_of h rows) c hops)
located h rows nearly ps known _ _ _ lt (to_subobject c d s valid class) =
    let way = subobject_reached h rows nearly ps known c s d lt valid class in
    let part = part_of h c s d valid class in
    let decodes : decode (contents_of h rows ps) way.steps (Complete c) ≡ Inherit s ∷ [] = ap (λ (t : List Step). decode (contents_of h rows ps) t (Complete c)) (sym (append-nil way.steps)) ∙ (way.decodes [] ∙ part_hops h c (node_of c s d) s d part) in
    let x : HasSteps (contents_of h rows ps) c (Inherit s ∷ []) (place_in_class h rows c s) (node_of c s d) = record { steps = way.steps; reaches = way.reaches; decodes = decodes } in
    record {
      node = node_of c s d;
      way = steps_along (contents_of h rows ps) c _ _ _ _ (node_of c s d) refl (sym (place_at_base h (places_of h rows) c s)) x;
      ends = record { top = c; subobject_is = s; within = lt; part = part; node_is = refl };
    }
located h rows nearly ps known _ _ _ lt (to_value c d s m i type valid class element) =
    let leaf = Leaf d m (width_of_member h d m) type in
    let x = through_element h rows nearly ps known c d s m i (Value type) [] 0 leaf lt valid class element (here leaf) in
    let place = place_at_value h (places_of h rows) c d s m i type class element in
    record {
      node = leaf;
      way = steps_along (contents_of h rows ps) c _ _ _ _ leaf refl (omega (arith, place)) x;
      ends = record { of = record { class = d; member = m; index = i; last = last_element h (Some c) d s m i class; element = element }; node_is = refl };
    }
located h rows nearly ps known _ _ _ lt (to_inner c d e s m i hops type valid class element rest) =
    let falls = known.keeps.objects d e element.member (has_at (members_of h d) m element.member element.there) element.type_is in
    let within = element_within h d m i (Object e) element in
    let inner = located h rows nearly ps known e hops type (omega arith) rest in
    let x = through_element h rows nearly ps known c d s m i (Object e) inner.way.steps (place_along_hops h (places_of h rows) e hops) inner.node lt valid class element inner.way.reaches in
    record {
      node = inner.node;
      way = steps_along (contents_of h rows ps) c _ _ _ _ inner.node (ap (λ (t : List Hop). Inherit s ∷ Element m i ∷ t) inner.way.decodes) (sym (place_at_inner h (places_of h rows) c d e s m i hops class element)) x;
      ends = inner_end h c d e s m i hops type inner.node class element inner.ends;
    }

-- two locations of the same steps are one
pub same_location : (contents : Contents) (c : ClassId) (hops others : List Hop) (q r : ℕ) (n m : Node) (x : HasSteps contents c hops q n) (y : HasSteps contents c others r m) → x.steps ≡ y.steps → hops ≡ others
same_location contents c hops others q r n m x y e = sym x.decodes ∙ (ap (λ (t : List Step). decode contents t (Complete c)) e ∙ y.decodes)
