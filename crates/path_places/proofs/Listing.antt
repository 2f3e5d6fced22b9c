-- The numbers that the calls push are those of the leaves.
use Rattle.std.proofs.Common.{◌≡◌, ℕ, ◌+◌, ◌*◌, ◌%◌, ◌^◌, ◌<◌, ◌≤◌, Option, Some, List, [], ◌++◌, length, take, get_or, map, refl, ap, subst, sym, ◌∙◌, arith}
use Rattle.std.specs.Prelude.{slice_get}
use Rattle.std.specs.List.{AllZip, flat_map}
use Rattle.std.proofs.lemmas.List.{get_or-map, take_more, take_all}
use Rattle.std.proofs.Math.Nat.{mod-eq_of_lt}
use Rattle.cxx_hierarchy.specs.declared.records.ClassId.{ClassId}
use Rattle.cxx_hierarchy.specs.declared.records.Member.{Member}
use Rattle.cxx_hierarchy.specs.declared.records.ValueType.{ValueType}
use Rattle.cxx_hierarchy.specs.declared.records.FieldType.{FieldType}
use Rattle.cxx_hierarchy.specs.declared.records.FieldType.TheVariants.{Value as ValueField, Object}
use Rattle.cxx_hierarchy.specs.Classes.{Classes, members_of}
use Rattle.cxx_hierarchy.specs.Declarations.{elements_of}
use Rattle.cxx_hierarchy.specs.Hierarchies.{IsHierarchy}
use Rattle.cxx_subobject.specs.declared.Subobject.{Subobject}
use Rattle.cxx_subobject.specs.Subobjects.{IsSubobject, whole, class_of, join}
use Rattle.cxx_subobject.specs.Preorder.{preorder}
use Rattle.cxx_subobject.proofs.InsideLemmas.{join_class, whole_joined}
use Rattle.cxx_subobject.proofs.PathLemmas.{class_found}
use Rattle.cxx_subobject.proofs.TreeLemmas.{valid_at}
use Rattle.path_plan.specs.Places.{ObjectPart, part, element}
use Rattle.path_plan.specs.declared.form.Form.TheVariants.{InFull}
use Rattle.path_plan.specs.Plans.{upto}
use Rattle.path_plan.proofs.Members.{has_count}
use Rattle.path_numbers.specs.Sizes.{sizes_of, member_offset}
use Rattle.path_numbers.specs.Nodes.{Node, node, element_kid, here, deeper, LeafAt}
use Rattle.path_numbers.specs.Numbers.{subobject_number}
use Rattle.path_numbers.proofs.Sized.{sizes_are}
use Rattle.path_numbers.proofs.Leaves.{leaf_own}
use Rattle.path_numbers.proofs.Heap.{at_good, at_within}
use Rattle.path_numbers.proofs.Within.{part_at, number_is}
use Rattle.path_model.specs.Values.{Leaf, Objects, inner_part}
use Rattle.path_model.specs.Places.{leaf, typed_leaves, member_leaves, own_leaves, leaves_of}
use Rattle.path_heap.specs.declared.heap.Heap.{Heap}
use Rattle.path_heap.specs.Points.{Points, PointsLeaf}
use Rattle.path_heap.specs.Stands.{HeapStands, HasBegun}
use Rattle.path_heap.proofs.Viewing.{at_less}
use Rattle.path_tables.specs.declared.parts.PartList.{PartList}
use Rattle.path_tables.specs.Parts.{IsPartList}
use Rattle.path_heap.proofs.Reaching.{at_below}
use Rattle.path_places.specs.invariants.Leaves.{Grows, base_leaves, element_leaves, leaves_in, IsNumberedPart, ListsBases, ListsMembers, IsMemberAt, ListsMember, ListsElements, ListsWhole, ListsOwn, ListsPart}
use Rattle.path_places.proofs.Growing.{zip_map, grows_none, grows_pushed, grows_next, grows_counted, flat_more}
use Rattle.path_places.proofs.Opening.{leaves_open, leaves_past}

-- sums of 64 bits
turned_two : (n a b k : ℕ) → n + (a + b) < 2 ^ 64 → k ≡ (n + a) % 2 ^ 64 → (k + b) % 2 ^ 64 ≡ n + (a + b)
turned_two n a b k lt is = omega arith

turned_inner : (n a b k : ℕ) → n + (a + b) < 2 ^ 64 → k ≡ (n + a) % 2 ^ 64 → (k + b % 2 ^ 64) % 2 ^ 64 ≡ n + (a + b)
turned_inner n a b k lt is = omega arith

-- a member that is a number or a pointer

pub leaf_points : (h : Classes) → IsHierarchy h → (classes : List ClassId) (c : ClassId) (k m : ℕ) (member : Member ClassId) (y : Node) → IsMemberAt h classes c k m member y → (t : ValueType ClassId) → member.ty ≡ ValueField t → (i : ℕ) → i < elements_of member.count
    → PointsLeaf h classes ((k + i) % 2 ^ 64) (leaf y.part m i)
leaf_points h keeps classes c k m member y a t type i lt =
    let size = sizes_of h in
    let listed : slice_get (members_of h y.class) m ≡ Some member = subst (λ (d : ClassId). slice_get (members_of h d) m ≡ Some member) (sym a.class) a.listed in
    let n = y.number + (member_offset h size y.class m + i) in
    let exact : LeafAt h size y m i n = record { member = member; type = t; listed = listed; leaf = type; within = lt; is = refl } in
    let high = (leaf_own h size (sizes_are h keeps) y m i n exact).high in
    let within = at_within h size (sizes_are h keeps) classes y a.at in
    let few = a.few in
    let k_is : k ≡ (y.number + member_offset h size y.class m) % 2 ^ 64 = a.number ∙ ap (λ (d : ClassId). (y.number + member_offset h size d m) % 2 ^ 64) (sym a.class) in
    record {
      node = y;
      at = a.at;
      is_part = refl;
      leaf = record { member = member; type = t; listed = listed; leaf = type; within = lt; is = turned_two y.number (member_offset h size y.class m) i k (omega arith) k_is };
    }

pub values_listed : (h : Classes) → IsHierarchy h → (c : ClassId) (member : Member ClassId) (t : ValueType ClassId) → member.ty ≡ ValueField t → (k count : ℕ) → count ≡ elements_of member.count → (old new : List ℕ) → new ≡ old ++ map (λ i. (k + i) % 2 ^ 64) (upto count)
    → ListsMember h c member k old new
values_listed h keeps c member t type k count count_is old new is = record {
  lists = λ classes y m a.
      let n = elements_of member.count in
      subst (λ (ty : FieldType ClassId). Grows (PointsLeaf h classes) old new (typed_leaves (leaves_of h) y.part m (upto n) ty)) (sym type)
      (grows_pushed (PointsLeaf h classes) old new (map (λ i. (k + i) % 2 ^ 64) (upto n)) (map (leaf y.part m) (upto n)) (is ∙ ap (λ j. old ++ map (λ i. (k + i) % 2 ^ 64) (upto j)) count_is)
      (zip_map (PointsLeaf h classes) (λ i. (k + i) % 2 ^ 64) (leaf y.part m) (upto n) (λ i has. leaf_points h keeps classes c k m member y a t type i (let r = has_count 0 n i has in omega (arith, r.1)))));
}

-- a member that is an object

pub record ElementThere (h : Classes) (classes : List ClassId) (d : ClassId) (k i size : ℕ) (p : ObjectPart) : Type 0 where
  pub node : Node
  pub numbered : IsNumberedPart h classes d ((k + (i * size) % 2 ^ 64) % 2 ^ 64) node
  pub full : node.form ≡ InFull
  pub is_part : node.part ≡ p

pub element_there : (h : Classes) → IsHierarchy h → (classes : List ClassId) (c d : ClassId) (k m : ℕ) (member : Member ClassId) (y : Node) → IsMemberAt h classes c k m member y → member.ty ≡ Object d → (i size : ℕ) → i < elements_of member.count → size ≡ sizes_of h InFull d
    → ElementThere h classes d k i size (element y.part m i d)
element_there h keeps classes c d k m member y a type i unit lt unit_is =
    let size = sizes_of h in
    let listed : slice_get (members_of h y.class) m ≡ Some member = subst (λ (e : ClassId). slice_get (members_of h e) m ≡ Some member) (sym a.class) a.listed in
    let z = node InFull d (element y.part m i d) (y.number + (member_offset h size y.class m + i * size InFull d)) in
    let z_at = at_below h classes y z a.at (deeper y z (element_kid m i d member listed type lt refl) (here z refl)) in
    let less = at_less h keeps classes z z_at in
    let few = a.few in
    let k_is : k ≡ (y.number + member_offset h size y.class m) % 2 ^ 64 = a.number ∙ ap (λ (e : ClassId). (y.number + member_offset h size e m) % 2 ^ 64) (sym a.class) in
    let product : i * unit ≡ i * size InFull d = ap (λ t. i * t) unit_is in
    record {
      node = z;
      numbered = record {
        few = few;
        at = z_at;
        class = refl;
        number = sym (turned_inner y.number (member_offset h size y.class m) (i * unit) k (omega arith) k_is ∙ ap (λ t. y.number + (member_offset h size y.class m + t)) product);
      };
      full = refl;
      is_part = refl;
    }

pub elements_none : (h : Classes) (d : ClassId) (k count : ℕ) (old : List ℕ) → ListsElements h d k count 0 old old
elements_none h d k count old = record { lists = λ classes y c m member a type count_is. grows_none (PointsLeaf h classes) old }

pub elements_next : (h : Classes) → IsHierarchy h → (d : ClassId) (k count i size : ℕ) → i < count → size ≡ sizes_of h InFull d → (old mid new : List ℕ) → ListsElements h d k count i old mid → ListsWhole h d ((k + (i * size) % 2 ^ 64) % 2 ^ 64) mid new → ListsElements h d k count (i + 1) old new
elements_next h keeps d k count i size lt size_is old mid new before one = record {
  lists = λ classes y c m member a type count_is.
      let z = element_there h keeps classes c d k m member y a type i size (omega arith) size_is in
      let grown = one.lists classes z.node z.numbered z.full in
      let same : flat_map (base_leaves h z.node.part) (preorder h d) ≡ element_leaves h y.part m d i = sym (leaves_open h keeps d z.node.part) ∙ ap (leaves_of h d) z.is_part in
      grows_counted (PointsLeaf h classes) (element_leaves h y.part m d) i old mid new (before.lists classes y c m member a type count_is) (subst (λ (t : List Leaf). Grows (PointsLeaf h classes) mid new t) same grown);
}

pub objects_listed : (h : Classes) (c d : ClassId) (member : Member ClassId) → member.ty ≡ Object d → (k count : ℕ) → count ≡ elements_of member.count → (old new : List ℕ) → ListsElements h d k count count old new → ListsMember h c member k old new
objects_listed h c d member type k count count_is old new told = record {
  lists = λ classes y m a.
      subst (λ (ty : FieldType ClassId). Grows (PointsLeaf h classes) old new (typed_leaves (leaves_of h) y.part m (upto (elements_of member.count)) ty)) (sym type)
      (subst (λ n. Grows (PointsLeaf h classes) old new (flat_map (element_leaves h y.part m d) (upto n))) count_is (told.lists classes y c m member a type count_is));
}

-- the members of a class

pub members_none : (h : Classes) (c : ClassId) (k : ℕ) (old : List ℕ) → ListsMembers h c k 0 old old
members_none h c k old = record { lists = λ classes y a. grows_none (PointsLeaf h classes) old }

pub members_next : (h : Classes) (c : ClassId) (k m : ℕ) (member : Member ClassId) (offset : ℕ) → slice_get (members_of h c) m ≡ Some member → offset ≡ member_offset h (sizes_of h) c m → (old mid new : List ℕ) → ListsMembers h c k m old mid → ListsMember h c member ((k + offset) % 2 ^ 64) mid new
    → ListsMembers h c k (m + 1) old new
members_next h c k m member offset listed offset_is old mid new before one = record {
  lists = λ classes y a.
      let there : IsMemberAt h classes c ((k + offset) % 2 ^ 64) m member y = record {
        few = a.few;
        at = a.at;
        class = a.class;
        listed = listed;
        number = ap (λ t. (k + t) % 2 ^ 64) offset_is ∙ ap (λ t. (t + member_offset h (sizes_of h) c m) % 2 ^ 64) (sym a.number);
      } in
      grows_counted (PointsLeaf h classes) (leaves_in h c y.part) m old mid new (before.lists classes y a)
      (subst (λ (o : Option (Member ClassId)). Grows (PointsLeaf h classes) mid new (member_leaves (leaves_of h) y.part m o)) (sym listed) (one.lists classes y m there));
}

pub members_all : (h : Classes) (c : ClassId) (k i : ℕ) (list : List (Member ClassId)) → list ≡ members_of h c → length list ≤ i → i ≤ length list → (old new : List ℕ) → ListsMembers h c k i old new → ListsOwn h c k old new
members_all h c k i list is past within old new told = subst (λ n. ListsMembers h c k n old new) (let e : i ≡ length list = omega arith in e ∙ ap (λ (t : List (Member ClassId)). length t) is) told

-- the subobjects of a complete object

pub bases_none : (h : Classes) (c : ClassId) (k : ℕ) (old : List ℕ) → ListsBases h c k [] old old
bases_none h c k old = record { lists = λ classes y a full. grows_none (PointsLeaf h classes) old }

-- the leaves of a part's own members are those of the subobject that it is
own_is : (h : Classes) (classes : List ClassId) (d : ClassId) (p : ObjectPart) (i : Subobject) (z : Node) → class_of i ≡ Some d → z.part ≡ inner_part p i → (mid new : List ℕ) → Grows (PointsLeaf h classes) mid new (own_leaves h (leaves_of h) (Some d) z.part) → Grows (PointsLeaf h classes) mid new (base_leaves h p i)
own_is h classes d p i z class is mid new grown =
    subst (λ (o : Option ClassId). Grows (PointsLeaf h classes) mid new (own_leaves h (leaves_of h) o (inner_part p i))) (sym class)
    (subst (λ (t : ObjectPart). Grows (PointsLeaf h classes) mid new (own_leaves h (leaves_of h) (Some d) t)) is grown)

-- a subobject of a complete object, as a part with its number
pub record BaseThere (h : Classes) (classes : List ClassId) (d : ClassId) (k : ℕ) (p : ObjectPart) (i : Subobject) : Type 0 where
  pub node : Node
  pub numbered : IsNumberedPart h classes d k node
  pub own : node.part ≡ part p.object p.owner i
  pub is_part : node.part ≡ inner_part p i

pub base_there : (h : Classes) → IsHierarchy h → (classes : List ClassId) (c d : ClassId) (k : ℕ) (y : Node) → IsNumberedPart h classes c k y → y.form ≡ InFull → (s : Subobject) → IsSubobject h c s → class_of s ≡ Some d → (number : ℕ) → number ≡ subobject_number h c s
    → BaseThere h classes d ((k + number) % 2 ^ 64) y.part s
base_there h keeps classes c d k y a full s valid class number number_told =
    let good = at_good h (sizes_of h) classes y a.at in
    let valid_y = subst (λ (t : ClassId). IsSubobject h t s) (sym a.class) valid in
    let z = part_at h keeps y s good full valid_y in
    let z_at = at_below h classes y z.0 a.at z.1.under in
    let less = at_less h keeps classes z.0 z_at in
    let few = a.few in
    let z_number = number_is h keeps y z.0 s good full z.1.under valid_y z.1.is_part in
    let y_number = a.number in
    let num : number ≡ subobject_number h y.class s = number_told ∙ ap (λ (t : ClassId). subobject_number h t s) (sym a.class) in
    let z_class : Some z.0.class ≡ Some d = sym (at_good h (sizes_of h) classes z.0 z_at).class ∙ (ap (λ (t : ObjectPart). class_of t.at) z.1.is_part ∙ class) in
    record {
      node = z.0;
      numbered = record {
        few = few;
        at = z_at;
        class = cc;
        number = sym (mod-eq_of_lt (omega arith) ∙ (let e : k + number ≡ z.0.number = omega arith in e));
      };
      own = z.1.is_part;
      is_part = z.1.is_part ∙ ap (λ (t : Subobject). part y.part.object y.part.owner t) (sym (ap (λ (t : Subobject). join t s) (good.whole full) ∙ whole_joined h y.class s valid_y));
    }

bases_next : (h : Classes) → IsHierarchy h → (c : ClassId) (k : ℕ) (list : List Subobject) (j : ℕ) (i : Subobject) → j < length list → IsSubobject h c (get_or list j i) → (d : ClassId) → class_of (get_or list j i) ≡ Some d → (number : ℕ) → number ≡ subobject_number h c (get_or list j i)
    → (old mid new : List ℕ) → ListsBases h c k (take j list) old mid → ListsOwn h d ((k + number) % 2 ^ 64) mid new → ListsBases h c k (take (j + 1) list) old new
bases_next h keeps c k list j i lt valid d class number number_told old mid new before one = record {
  lists = λ classes y a full.
      let s = get_or list j i in
      let z = base_there h keeps classes c d k y a full s valid class number number_told in
      grows_next (PointsLeaf h classes) (base_leaves h y.part) list j i old mid new lt (before.lists classes y a full) (own_is h classes d y.part s z.node class z.is_part mid new (one.lists classes z.node z.numbered));
}

pub bases_step : (h : Classes) → IsHierarchy h → (c : ClassId) (k : ℕ) (list : List Subobject) (j : ℕ) (x : Subobject) → list ≡ preorder h c → j < length list → x ≡ get_or list j x → (d : ClassId) → ((e : ClassId) → class_of x ≡ Some e → d ≡ e) → (number : ℕ) → number ≡ subobject_number h c x
    → (old mid new : List ℕ) → ListsBases h c k (take j list) old mid → ListsOwn h d ((k + number) % 2 ^ 64) mid new → ListsBases h c k (take (j + 1) list) old new
bases_step h keeps c k list j x is lt at d told number number_told old mid new before one =
    let valid = valid_at h c list j x is lt at in
    let class = class_found h c d x valid told in
    bases_next h keeps c k list j x lt (subst (λ (t : Subobject). IsSubobject h c t) at valid) d (ap class_of (sym at) ∙ class) number (number_told ∙ ap (subobject_number h c) at) old mid new before one

-- the subobjects of a part

pub part_none : (h : Classes) (heap : Heap) (n : ℕ) (c : ClassId) (leaves : List ℕ) → leaves ≡ [] → ListsPart h heap n c [] leaves
part_none h heap n c leaves e = record { lists = λ s p stands q begun class. subst (λ (l : List ℕ). AllZip (PointsLeaf h s.classes) l []) (sym e) tt }

-- what stands at a place among the numbers of a list is the number of the subobject at that place
pub number_listed : (h : Classes) (c : ClassId) (list : PartList) (parts : List Subobject) (numbers : List ℕ) → IsPartList h c list → parts ≡ list.parts → numbers ≡ list.numbers.items
    → (i : ℕ) (x : Subobject) → i < length parts → x ≡ get_or parts i x → (k : ℕ) → k ≡ get_or numbers i 0 → k ≡ subobject_number h c x
number_listed h c list parts numbers told e f i x lt at k k_is =
    let here : x ≡ get_or (preorder h c) i x = at ∙ ap (λ (l : List Subobject). get_or l i x) (e ∙ told.parts) in
    let within : i < length (preorder h c) = subst (λ (l : List Subobject). i < length l) (e ∙ told.parts) lt in
    k_is ∙ (ap (λ (l : List ℕ). get_or l i 0) (f ∙ told.numbers) ∙ (get_or-map (subobject_number h c) (preorder h c) i x 0 within ∙ ap (subobject_number h c) (sym here)))

pub part_next : (h : Classes) (heap : Heap) (n : ℕ) (c : ClassId) (list : List Subobject) (j : ℕ) (x : Subobject) → list ≡ preorder h c → j < length list → x ≡ get_or list j x → (d : ClassId) → ((e : ClassId) → class_of x ≡ Some e → d ≡ e)
    → (start : ℕ) → ((s : Objects) (p : ObjectPart) → HeapStands h heap s → Points h s.classes n p → HasBegun s p → class_of p.at ≡ Some c → IsSubobject h c x → Points h s.classes start (inner_part p x))
    → (mid new : List ℕ) → ListsPart h heap n c (take j list) mid → ListsOwn h d start mid new → ListsPart h heap n c (take (j + 1) list) new
part_next h heap n c list j x is lt at d told start reached mid new before one = record {
  lists = λ s p stands q begun p_class.
      let valid = valid_at h c list j x is lt at in
      let class = class_found h c d x valid told in
      let z = reached s p stands q begun p_class valid in
      let z_class : Some z.node.class ≡ Some d =
      sym (at_good h (sizes_of h) s.classes z.node z.at).class ∙ (ap (λ (t : ObjectPart). class_of t.at) z.is_part ∙ (join_class h c p.at x p_class valid ∙ class)) in
      let there : IsNumberedPart h s.classes d start z.node = record { few = stands.counts.few; at = z.at; class = cc; number = z.is_number } in
      let grown = own_is h s.classes d p x z.node class z.is_part mid new (one.lists s.classes z.node there) in
      let more = grown (flat_map (base_leaves h p) (take j list)) (before.lists s p stands q begun p_class) in
      let e = ap (flat_map (base_leaves h p)) (take_more list j x lt) ∙ flat_more (base_leaves h p) (take j list) (get_or list j x) in
      let f : flat_map (base_leaves h p) (take j list) ++ base_leaves h p x ≡ flat_map (base_leaves h p) (take (j + 1) list) = ap (λ (t : Subobject). flat_map (base_leaves h p) (take j list) ++ base_leaves h p t) at ∙ sym e in
      subst (λ (ls : List Leaf). AllZip (PointsLeaf h s.classes) new ls) f more;
}

pub part_all : (h : Classes) → IsHierarchy h → (heap : Heap) (n : ℕ) (c : ClassId) (list : List Subobject) (j : ℕ) → list ≡ preorder h c → length list ≤ j → (leaves : List ℕ) → ListsPart h heap n c (take j list) leaves
    → (s : Objects) (p : ObjectPart) → HeapStands h heap s → Points h s.classes n p → HasBegun s p → class_of p.at ≡ Some c → AllZip (PointsLeaf h s.classes) leaves (leaves_of h c p)
part_all h keeps heap n c list j is past leaves told s p stands q begun class =
    let e = ap (flat_map (base_leaves h p)) (take_all j list past ∙ is) ∙ sym (leaves_open h keeps c p) in
    subst (λ (ls : List Leaf). AllZip (PointsLeaf h s.classes) leaves ls) e (told.lists s p stands q begun class)

pub part_past : (h : Classes) → IsHierarchy h → (classes : List ClassId) (c : ClassId) (p : ObjectPart) (leaves : List ℕ) → leaves ≡ [] → length h ≤ c.0 → AllZip (PointsLeaf h classes) leaves (leaves_of h c p)
part_past h keeps classes c p leaves e past = subst (λ (ls : List Leaf). AllZip (PointsLeaf h classes) leaves ls) (sym (leaves_past h keeps c p past)) (subst (λ (l : List ℕ). AllZip (PointsLeaf h classes) l []) (sym e) tt)
