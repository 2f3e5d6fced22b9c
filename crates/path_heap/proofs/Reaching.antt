-- Distances lead to the parts that are meant.
use Rattle.std.proofs.Common.{◌≡◌, ℕ, ◌+◌, ◌-◌, ◌*◌, ◌%◌, ◌^◌, ◌<◌, ◌≤◌, Some, List, [], ◌∷◌, ◌++◌, length, refl, ap, subst, sym, ◌∙◌, arith}
use Rattle.std.specs.Prelude.{slice_get, take}
use Rattle.std.proofs.lemmas.List.{take_all}
use Rattle.std.proofs.lemmas.Option.{slice_get_past, slice_get_within}
use Rattle.foundation.proofs.Members.{index_of}
use Rattle.foundation.proofs.Places.{contains_at}
use Rattle.cxx_hierarchy.specs.declared.records.ClassId.{ClassId}
use Rattle.cxx_hierarchy.specs.declared.records.FieldType.{FieldType}
use Rattle.cxx_hierarchy.specs.declared.records.FieldType.TheVariants.{Value, Object}
use Rattle.cxx_hierarchy.specs.declared.records.ValueType.{ValueType}
use Rattle.cxx_hierarchy.specs.declared.records.Member.{Member}
use Rattle.cxx_hierarchy.specs.Classes.{Classes, members_in, members_of}
use Rattle.cxx_hierarchy.specs.Hierarchies.{IsHierarchy}
use Rattle.cxx_hierarchy.specs.VirtualBases.{HasVirtualBase, direct, further}
use Rattle.cxx_subobject.specs.declared.Root.TheVariants.{Whole, Shared}
use Rattle.cxx_subobject.specs.declared.Subobject.{Subobject}
use Rattle.cxx_subobject.specs.Subobjects.{IsSubobject, whole, shared, Leads, subobject, last_of, class_of, tail_of}
use Rattle.cxx_subobject.specs.Locations.{IsElement}
use Rattle.cxx_subobject.proofs.PathLemmas.{part_virtual}
use Rattle.path_plan.specs.Places.{ObjectPart, part, shared_part, element}
use Rattle.path_plan.specs.declared.form.Form.TheVariants.{InFull, AsBase}
use Rattle.path_plan.specs.Plans.{virtual_order}
use Rattle.path_plan.proofs.Order.{order_has}
use Rattle.path_numbers.specs.Sizes.{sizes_of, member_offset, shared_offset}
use Rattle.path_numbers.specs.Nodes.{Node, node, shared_kid, element_kid, Under, here, deeper, LeafAt}
use Rattle.path_numbers.specs.Heap.{IsAt, root_at}
use Rattle.path_numbers.specs.Numbers.{base_number, shared_number, path_number, rooted_number, subobject_number}
use Rattle.path_numbers.proofs.Sized.{sizes_are}
use Rattle.path_numbers.proofs.Ways.{under_through, path_arrives}
use Rattle.path_numbers.proofs.Leaves.{leaf_own}
use Rattle.path_numbers.proofs.Heap.{at_good, at_within}
use Rattle.path_numbers.proofs.Placed.{shared_number_at}
use Rattle.path_numbers.proofs.Paths.{first_of, rest_of, stepped}
use Rattle.path_model.specs.Values.{Objects, inner_part}
use Rattle.path_model.specs.Places.{leaf}
use Rattle.path_numbers.proofs.Within.{path_leads}
use Rattle.path_heap.specs.declared.state.Cell.{Cell}
use Rattle.path_heap.specs.declared.heap.Heap.{Heap}
use Rattle.path_heap.specs.Points.{Points, PointsLeaf}
use Rattle.path_numbers.proofs.Placed.{base_past}
use Rattle.path_heap.specs.Stands.{HasBegun, HeapStands}
use Rattle.path_heap.specs.invariants.Columns.{cell_at}
use Rattle.path_heap.specs.invariants.Distances.{IsBaseDistance, IsPathDistance}
use Rattle.path_heap.proofs.Asking.{class_node, owner_told}
use Rattle.path_heap.proofs.Viewing.{at_less}

-- a class that has something is one of the hierarchy
pub virtual_past : (h : Classes) (c v : ClassId) → HasVirtualBase h c v → length h ≤ c.0 → ⊥
virtual_past h _ _ (direct c v d) past = base_past h c v _ d past
virtual_past h _ _ (further c b v way d more) past = base_past h c b way d past

pub element_past : (h : Classes) (c : ClassId) (m i : ℕ) (t : FieldType ClassId) → IsElement h c m i t → length h ≤ c.0 → ⊥
element_past h c m i t e past =
    let f : members_of h c ≡ [] = ap members_in (slice_get_past h c.0 past) in
    let g : slice_get [] m ≡ Some e.member = subst (λ l. slice_get l m ≡ Some e.member) f e.there in absurd (cc)

-- a sum below 2 ^ 64, with its parts taken up to whole turns
turned_sum : (a b n : ℕ) → a + b < 2 ^ 64 → n ≡ (a + b % 2 ^ 64) % 2 ^ 64 → n ≡ a + b
turned_sum a b n lt is = omega arith

turned_three : (a b d n : ℕ) → a + (b + d) < 2 ^ 64 → n ≡ (a + (b + d % 2 ^ 64) % 2 ^ 64) % 2 ^ 64 → n ≡ a + (b + d)
turned_three a b d n lt is = omega arith

pub at_below : (h : Classes) (classes : List ClassId) (y z : Node) → IsAt h (sizes_of h) classes y → Under h (sizes_of h) z y → IsAt h (sizes_of h) classes z
at_below h classes y z a under = record { object = a.object; class = a.class; listed = a.listed; under = under_through h (sizes_of h) z y (root_at (sizes_of h) classes a.object a.class) a.under under }

pub at_small : (h : Classes) (heap : Heap) (s : Objects) → HeapStands h heap s → (y : Node) → IsAt h (sizes_of h) s.classes y → y.number < 2 ^ 64
at_small h heap s stands y at = let a = at_less h stands.hierarchy s.classes y at in let b = stands.counts.few in omega arith

-- an element of a member
pub element_reached : (h : Classes) (heap : Heap) (s : Objects) → HeapStands h heap s → (n : ℕ) (p : ObjectPart) → Points h s.classes n p → HasBegun s p → (c : ClassId) → class_of p.at ≡ Some c → (cell : Cell) → cell ≡ cell_at heap n
    → (m i : ℕ) (d : ClassId) → IsElement h c m i (Object d) → (k : ℕ) → (IsElement h cell.class m i (Object d) → k ≡ (n + (member_offset h (sizes_of h) cell.class m + i * sizes_of h InFull d)) % 2 ^ 64) → Points h s.classes k (element p m i d)
element_reached h heap s stands n p q begun c class cell is m i d e k told =
    let y = q.node in
    let own : class_of y.part.at ≡ Some y.class = (at_good h (sizes_of h) s.classes y q.at).class in
    let same : y.class ≡ c = let f = ap (λ (t : ObjectPart). class_of t.at) q.is_part in cc in
    let cell_class : cell.class ≡ y.class = class_node h heap s stands n p q begun cell is in
    let f = subst (λ t. IsElement h t m i (Object d)) (sym same) e in
    let z = node InFull d (element y.part m i d) (y.number + (member_offset h (sizes_of h) y.class m + i * sizes_of h InFull d)) in
    let z_at = at_below h s.classes y z q.at (deeper y z (element_kid m i d f.member f.there f.type_is f.within refl) (here z refl)) in
    let lt = at_small h heap s stands z z_at in
    let t = told (subst (λ t. IsElement h t m i (Object d)) (sym cell_class) f) in
    let u : member_offset h (sizes_of h) cell.class m ≡ member_offset h (sizes_of h) y.class m = ap (λ t. member_offset h (sizes_of h) t m) cell_class in
    record {
      node = z;
      at = z_at;
      is_part = ap (λ (t : ObjectPart). element t m i d) q.is_part;
      is_number = let r = q.is_number in omega arith;
    }

-- a leaf
pub leaf_reached : (h : Classes) (heap : Heap) (s : Objects) → HeapStands h heap s → (n : ℕ) (p : ObjectPart) → Points h s.classes n p → HasBegun s p → (c : ClassId) → class_of p.at ≡ Some c → (cell : Cell) → cell ≡ cell_at heap n
    → (m i : ℕ) (ty : ValueType ClassId) → IsElement h c m i (Value ty) → (k : ℕ) → (IsElement h cell.class m i (Value ty) → k ≡ (n + (member_offset h (sizes_of h) cell.class m + i)) % 2 ^ 64) → PointsLeaf h s.classes k (leaf p m i)
leaf_reached h heap s stands n p q begun c class cell is m i ty e k told =
    let y = q.node in
    let own : class_of y.part.at ≡ Some y.class = (at_good h (sizes_of h) s.classes y q.at).class in
    let same : y.class ≡ c = let f = ap (λ (t : ObjectPart). class_of t.at) q.is_part in cc in
    let cell_class : cell.class ≡ y.class = class_node h heap s stands n p q begun cell is in
    let f = subst (λ t. IsElement h t m i (Value ty)) (sym same) e in
    let at_exact : LeafAt h (sizes_of h) y m i (y.number + (member_offset h (sizes_of h) y.class m + i)) = record { member = f.member; type = ty; listed = f.there; leaf = f.type_is; within = f.within; is = refl } in
    let o = leaf_own h (sizes_of h) (sizes_are h stands.hierarchy) y m i (y.number + (member_offset h (sizes_of h) y.class m + i)) at_exact in
    let w = at_within h (sizes_of h) (sizes_are h stands.hierarchy) s.classes y q.at in
    let few = stands.counts.few in
    let high = o.high in
    let lt : y.number + (member_offset h (sizes_of h) y.class m + i) < 2 ^ 64 = omega arith in
    let t = told (subst (λ t. IsElement h t m i (Value ty)) (sym cell_class) f) in
    let u : member_offset h (sizes_of h) cell.class m ≡ member_offset h (sizes_of h) y.class m = ap (λ t. member_offset h (sizes_of h) t m) cell_class in
    record {
      node = y;
      at = q.at;
      is_part = q.is_part;
      leaf = record { member = f.member; type = ty; listed = f.there; leaf = f.type_is; within = f.within; is = let r = q.is_number in omega arith };
    }

-- a base that no virtual base leads to
own_base : (h : Classes) (heap : Heap) (s : Objects) → HeapStands h heap s → (n : ℕ) (p : ObjectPart) → Points h s.classes n p → HasBegun s p → (c : ClassId) → class_of p.at ≡ Some c → (cell : Cell) → cell ≡ cell_at heap n
    → (path : List ClassId) → Leads h c path → (step k : ℕ) → (Leads h cell.class path → step ≡ path_number h cell.class path % 2 ^ 64) → k ≡ (n + step) % 2 ^ 64 → Points h s.classes k (inner_part p (subobject Whole (c ∷ path)))
own_base h heap s stands n p q begun c class cell is path leads step k told k_is =
    let y = q.node in
    let own : class_of y.part.at ≡ Some y.class = (at_good h (sizes_of h) s.classes y q.at).class in
    let same : y.class ≡ c = let f = ap (λ (t : ObjectPart). class_of t.at) q.is_part in cc in
    let cell_class : cell.class ≡ y.class = class_node h heap s stands n p q begun cell is in
    let l = subst (λ t. Leads h t path) (sym same) leads in
    let a = path_arrives h (sizes_of h) y path (path_number h y.class path) (last_of y.class path) (path_leads h stands.hierarchy y.class path l) in
    let end_at = at_below h s.classes y a.end q.at a.under in
    let lt = at_small h heap s stands a.end end_at in
    let t : step ≡ path_number h y.class path % 2 ^ 64 = told (subst (λ t. Leads h t path) (sym cell_class) l) ∙ ap (λ t. path_number h t path % 2 ^ 64) cell_class in
    let e = a.is_number in
    let r = q.is_number in
    let f : n + path_number h y.class path < 2 ^ 64 = omega arith in
    let g : k ≡ n + path_number h y.class path = turned_sum n (path_number h y.class path) k f (k_is ∙ ap (λ t. (n + t) % 2 ^ 64) t) in
    record {
      node = a.end;
      at = end_at;
      is_part = a.is_part ∙ ap (λ (t : ObjectPart). part t.object t.owner (subobject t.at.root (t.at.path ++ path))) q.is_part;
      is_number = omega arith;
    }

-- a base behind a virtual base
shared_base_reached : (h : Classes) (heap : Heap) (s : Objects) → HeapStands h heap s → (n : ℕ) (p : ObjectPart) → Points h s.classes n p → HasBegun s p → (c : ClassId) → class_of p.at ≡ Some c → (cell : Cell) → cell ≡ cell_at heap n
    → (v : ClassId) (path : List ClassId) → HasVirtualBase h c v → Leads h v path → (far step k : ℕ) → (HasVirtualBase h cell.owner v → far ≡ shared_number h cell.owner v) → (Leads h v path → step ≡ path_number h v path % 2 ^ 64)
    → k ≡ ((n - cell.back) + (far + step) % 2 ^ 64) % 2 ^ 64 → Points h s.classes k (inner_part p (subobject (Shared v) (v ∷ path)))
shared_base_reached h heap s stands n p q begun c class cell is v path has leads far step k far_told told k_is =
    let o = owner_told h heap s stands n p q begun cell is in
    let w = o.node in
    let y_class : class_of q.node.part.at ≡ Some c = ap (λ (t : ObjectPart). class_of t.at) q.is_part ∙ class in
    let found = part_virtual h w.class c v q.node.part.at o.valid y_class has in
    let place = index_of (virtual_order h w.class) v (order_has h stands.hierarchy w.class v found) in
    let z = node AsBase v (shared_part w.part v) (w.number + shared_offset h (sizes_of h) w.class place.0) in
    let a = path_arrives h (sizes_of h) z path (path_number h v path) (last_of v path) (path_leads h stands.hierarchy v path leads) in
    let end_at = at_below h s.classes w a.end o.at (deeper w z (shared_kid place.0 v o.full place.1 refl) a.under) in
    let lt = at_small h heap s stands a.end end_at in
    let far_is : far ≡ shared_offset h (sizes_of h) w.class place.0 = far_told (subst (λ t. HasVirtualBase h t v) o.is_class found) ∙ (ap (λ t. shared_number h t v) (sym o.is_class) ∙ shared_number_at h w.class v place.0 place.1) in
    let step_is = told leads in
    let e = a.is_number in
    let r = o.is_number in
    let f : (n - cell.back) + (far + path_number h v path) < 2 ^ 64 = omega arith in
    let g : k ≡ (n - cell.back) + (far + path_number h v path) = turned_three (n - cell.back) far (path_number h v path) k f (k_is ∙ ap (λ t. ((n - cell.back) + (far + t) % 2 ^ 64) % 2 ^ 64) step_is) in
    record {
      node = a.end;
      at = end_at;
      is_part = a.is_part ∙ (ap (λ j. part j w.part.owner (subobject (Shared v) (v ∷ path))) (o.same_object ∙ ap (λ (t : ObjectPart). t.object) q.is_part) ∙ ap (λ t. part p.object t (subobject (Shared v) (v ∷ path))) (o.same_owner ∙ ap (λ (t : ObjectPart). t.owner) q.is_part));
      is_number = omega arith;
    }

pub base_reached : (h : Classes) (heap : Heap) (s : Objects) → HeapStands h heap s → (n : ℕ) (p : ObjectPart) → Points h s.classes n p → HasBegun s p → (c : ClassId) → class_of p.at ≡ Some c → (cell : Cell) → cell ≡ cell_at heap n
    → (i : Subobject) → IsSubobject h c i → i.root ≡ Whole → (path : List ClassId) → path ≡ tail_of i.path → (step k : ℕ) → (Leads h cell.class path → step ≡ path_number h cell.class path % 2 ^ 64) → k ≡ (n + step) % 2 ^ 64 → Points h s.classes k (inner_part p i)
base_reached h heap s stands n p q begun c class cell is _ (whole path leads) root list list_is step k told k_is = own_base h heap s stands n p q begun c class cell is path leads step k (subst (λ t. Leads h cell.class t → step ≡ path_number h cell.class t % 2 ^ 64) list_is told) k_is
base_reached h heap s stands n p q begun c class cell is _ (shared v path has leads) root list list_is step k told k_is = absurd (cc)

pub shared_reached : (h : Classes) (heap : Heap) (s : Objects) → HeapStands h heap s → (n : ℕ) (p : ObjectPart) → Points h s.classes n p → HasBegun s p → (c : ClassId) → class_of p.at ≡ Some c → (cell : Cell) → cell ≡ cell_at heap n
    → (i : Subobject) → IsSubobject h c i → (v : ClassId) → i.root ≡ Shared v → (path : List ClassId) → path ≡ tail_of i.path → (far step k : ℕ) → (HasVirtualBase h cell.owner v → far ≡ shared_number h cell.owner v) → (Leads h v path → step ≡ path_number h v path % 2 ^ 64)
    → k ≡ ((n - cell.back) + (far + step) % 2 ^ 64) % 2 ^ 64 → Points h s.classes k (inner_part p i)
shared_reached h heap s stands n p q begun c class cell is _ (whole path leads) v root list list_is far step k far_told told k_is = absurd (cc)
shared_reached h heap s stands n p q begun c class cell is _ (shared w path has leads) v root list list_is far step k far_told told k_is =
    let same : w ≡ v = cc in
    shared_base_reached h heap s stands n p q begun c class cell is w path has leads far step k
    (subst (λ t. HasVirtualBase h cell.owner t → far ≡ shared_number h cell.owner t) (sym same) far_told)
    (subst (λ t. Leads h t path → step ≡ path_number h t path % 2 ^ 64) (sym same) (subst (λ t. Leads h v t → step ≡ path_number h v t % 2 ^ 64) list_is told)) k_is

-- a number below 2 ^ 32, and one that is behind another
in_range : (x a : ℕ) → x < 2 ^ 32 → x ≡ a → x ≡ a % 2 ^ 64
in_range x a lt is = omega arith

behind : (x near a b : ℕ) → x < 2 ^ 32 → near ≡ a → x ≡ a + b → x - near ≡ b % 2 ^ 64
behind x near a b lt near_is is = omega arith

-- the class that the cell of a part tells
cell_class : (h : Classes) (heap : Heap) (s : Objects) → HeapStands h heap s → (n : ℕ) (p : ObjectPart) → Points h s.classes n p → HasBegun s p → (c : ClassId) → class_of p.at ≡ Some c → (cell : Cell) → cell ≡ cell_at heap n → cell.class ≡ c
cell_class h heap s stands n p q begun c class cell is =
    let y = q.node in
    let own : class_of y.part.at ≡ Some y.class = (at_good h (sizes_of h) s.classes y q.at).class in
    let same : y.class ≡ c = let f = ap (λ (t : ObjectPart). class_of t.at) q.is_part in cc in
    class_node h heap s stands n p q begun cell is ∙ same

-- a base by its number in a complete object of the part's class
pub numbered_whole : (h : Classes) (heap : Heap) (s : Objects) → HeapStands h heap s → (n : ℕ) (p : ObjectPart) → Points h s.classes n p → HasBegun s p → (c : ClassId) → class_of p.at ≡ Some c
    → (i : Subobject) → IsSubobject h c i → i.root ≡ Whole → (x k : ℕ) → x < 2 ^ 32 → x ≡ subobject_number h c i → k ≡ (n + x) % 2 ^ 64 → Points h s.classes k (inner_part p i)
numbered_whole h heap s stands n p q begun c class i sub root x k small x_is k_is =
    let cell = cell_at heap n in
    let same = cell_class h heap s stands n p q begun c class cell refl in
    let e : subobject_number h c i ≡ path_number h c (tail_of i.path) = ap (λ r. rooted_number h c r (tail_of i.path)) root in
    let f : path_number h c (tail_of i.path) ≡ path_number h cell.class (tail_of i.path) = ap (λ d. path_number h d (tail_of i.path)) (sym same) in
    let t : x ≡ path_number h cell.class (tail_of i.path) % 2 ^ 64 = in_range x (path_number h cell.class (tail_of i.path)) small (x_is ∙ (e ∙ f)) in
    base_reached h heap s stands n p q begun c class cell refl i sub root (tail_of i.path) refl x k (λ leads. t) k_is

pub numbered_shared : (h : Classes) (heap : Heap) (s : Objects) → HeapStands h heap s → (n : ℕ) (p : ObjectPart) → Points h s.classes n p → HasBegun s p → (c : ClassId) → class_of p.at ≡ Some c → (cell : Cell) → cell ≡ cell_at heap n
    → (i : Subobject) → IsSubobject h c i → (v : ClassId) → i.root ≡ Shared v → (far near x k : ℕ) → (HasVirtualBase h cell.owner v → far ≡ shared_number h cell.owner v) → (HasVirtualBase h c v → near ≡ shared_number h c v) → x < 2 ^ 32 → x ≡ subobject_number h c i
    → k ≡ ((n - cell.back) + (far + (x - near)) % 2 ^ 64) % 2 ^ 64 → Points h s.classes k (inner_part p i)
numbered_shared h heap s stands n p q begun c class cell is _ (whole path leads) v root far near x k far_told near_told small x_is k_is = absurd (cc)
numbered_shared h heap s stands n p q begun c class cell is _ (shared w path has leads) v root far near x k far_told near_told small x_is k_is =
    let same : w ≡ v = cc in
    let near_is = near_told (subst (λ t. HasVirtualBase h c t) same has) in
    let x_sum : x ≡ shared_number h c v + path_number h v path = x_is ∙ ap (λ t. shared_number h c t + path_number h t path) same in
    let t : x - near ≡ path_number h v path % 2 ^ 64 = behind x near (shared_number h c v) (path_number h v path) small near_is x_sum in
    shared_reached h heap s stands n p q begun c class cell is (subobject (Shared w) (w ∷ path)) (shared w path has leads) v root path refl far (x - near) k far_told (λ more. t) k_is

whole_turns : (x y a b n : ℕ) → x ≡ a → y ≡ b % 2 ^ 64 → n ≡ (x + y) % 2 ^ 64 → n ≡ (a + b) % 2 ^ 64
whole_turns x y a b n e f is = omega arith

-- a path of one class or more, behind its first
after_first : (b : ClassId) (path : List ClassId) → rest_of (b ∷ path) ≡ path
after_first b path = let n : length (b ∷ path) - 1 ≡ length path = omega arith in ap (λ k. take k path) n ∙ take_all (length path) path (omega arith)

-- one class more of a path
pub path_step : (h : Classes) (c : ClassId) (path : List ClassId) (x y n : ℕ) → 1 ≤ length path → IsBaseDistance h c (first_of path) x → IsPathDistance h (first_of path) (rest_of path) y → n ≡ (x + y) % 2 ^ 64 → IsPathDistance h c path n
path_step h c [] x y n lt base rest is leads = absurd (omega arith)
path_step h c (b ∷ path) x y n lt base rest is leads =
    let s = stepped h c (b ∷ path) lt leads in
    let e : x ≡ base_number h c b = base s.edge in
    let f : y ≡ path_number h b path % 2 ^ 64 = subst (λ (t : List ClassId). IsPathDistance h b t y) (after_first b path) rest leads.1 in
    whole_turns x y (base_number h c b) (path_number h b path) n e f is

-- the code's sum for an element of a member
wraps : (n a x : ℕ) → (n + (a + x % 2 ^ 64) % 2 ^ 64) % 2 ^ 64 ≡ (n + (a + x)) % 2 ^ 64
wraps n a x = omega arith

field_of : (h : Classes) (c : ClassId) (m i : ℕ) (t : FieldType ClassId) (e : IsElement h c m i t) (list : List (Member ClassId)) (field : Member ClassId) → list ≡ members_of h c → slice_get list m ≡ Some field → field ≡ e.member
field_of h c m i t e list field is at = let f : slice_get list m ≡ Some e.member = ap (λ l. slice_get l m) is ∙ e.there in cc

pub slot_object : (h : Classes) → IsHierarchy h → (c : ClassId) (m i : ℕ) (d : ClassId) → c.0 < length h → IsElement h c m i (Object d) → (list : List (Member ClassId)) (field : Member ClassId) → list ≡ members_of h c → slice_get list m ≡ Some field
    → (n offset unit : ℕ) → (m < length (members_of h c) → offset ≡ member_offset h (sizes_of h) c m) → ((d : ClassId) → field.ty ≡ Object d → d.0 < length h → unit ≡ sizes_of h InFull d)
    → (n + (offset + i * unit % 2 ^ 64) % 2 ^ 64) % 2 ^ 64 ≡ (n + (member_offset h (sizes_of h) c m + i * sizes_of h InFull d)) % 2 ^ 64
slot_object h keeps c m i d known e list field is at n offset unit told size =
    let f = field_of h c m i (Object d) e list field is at in
    let ty = ap (λ (t : Member ClassId). t.ty) f ∙ e.type_is in
    let low = keeps.objects c d e.member (contains_at (members_of h c) m e.member e.there) e.type_is in
    let u : unit ≡ sizes_of h InFull d = size d ty (omega arith) in
    let o : offset ≡ member_offset h (sizes_of h) c m = told (slice_get_within (members_of h c) m e.member e.there) in
    wraps n offset (i * unit) ∙ (ap (λ k. (n + (k + i * unit)) % 2 ^ 64) o ∙ ap (λ k. (n + (member_offset h (sizes_of h) c m + i * k)) % 2 ^ 64) u)

pub slot_value : (h : Classes) (c : ClassId) (m i : ℕ) (t : ValueType ClassId) → IsElement h c m i (Value t) → (list : List (Member ClassId)) (field : Member ClassId) → list ≡ members_of h c → slice_get list m ≡ Some field
    → (n offset unit : ℕ) → (m < length (members_of h c) → offset ≡ member_offset h (sizes_of h) c m) → ((t : ValueType ClassId) → field.ty ≡ Value t → unit ≡ 1)
    → (n + (offset + i * unit % 2 ^ 64) % 2 ^ 64) % 2 ^ 64 ≡ (n + (member_offset h (sizes_of h) c m + i)) % 2 ^ 64
slot_value h c m i t e list field is at n offset unit told size =
    let f = field_of h c m i (Value t) e list field is at in
    let ty = ap (λ (t : Member ClassId). t.ty) f ∙ e.type_is in
    let u : unit ≡ 1 = size t ty in
    let o : offset ≡ member_offset h (sizes_of h) c m = told (slice_get_within (members_of h c) m e.member e.there) in
    let w : i * unit ≡ i = ap (λ k. i * k) u ∙ (let e : i * 1 ≡ i = omega arith in e) in
    wraps n offset (i * unit) ∙ (ap (λ k. (n + (k + i * unit)) % 2 ^ 64) o ∙ ap (λ k. (n + (member_offset h (sizes_of h) c m + k)) % 2 ^ 64) w)

-- past the end there is no member
pub element_none : (h : Classes) (c : ClassId) (m i : ℕ) (t : FieldType ClassId) → IsElement h c m i t → (list : List (Member ClassId)) → list ≡ members_of h c → length list ≤ m → ⊥
element_none h c m i t e list is past = let f : slice_get list m ≡ Some e.member = ap (λ l. slice_get l m) is ∙ e.there in let lt = slice_get_within list m e.member f in omega arith
