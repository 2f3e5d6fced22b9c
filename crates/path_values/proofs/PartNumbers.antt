-- The number of a part is that of its complete object and its number within it.
use Rattle.std.proofs.Common.{◌≡◌, ℕ, ◌+◌, ◌<◌, ◌≤◌, ◌^◌, Option, Some, None, List, refl, ap, subst, sym, ◌∙◌, arith}
use Rattle.std.specs.Prelude.{slice_get}
use Rattle.cxx_hierarchy.specs.declared.records.ClassId.{ClassId}
use Rattle.cxx_hierarchy.specs.Classes.{Classes}
use Rattle.cxx_hierarchy.specs.Hierarchies.{IsHierarchy}
use Rattle.cxx_subobject.specs.declared.Subobject.{Subobject}
use Rattle.cxx_subobject.specs.Subobjects.{IsSubobject}
use Rattle.cxx_subobject.specs.Parts.{most_parts}
use Rattle.path_plan.specs.Places.{Step, ObjectPart, part}
use Rattle.path_plan.specs.declared.form.Form.TheVariants.{InFull}
use Rattle.path_numbers.specs.Sizes.{sizes_of, total}
use Rattle.path_numbers.specs.Nodes.{Node}
use Rattle.path_numbers.specs.Numbers.{subobject_number}
use Rattle.path_numbers.specs.Heap.{IsAt, root_at}
use Rattle.path_numbers.proofs.Intervals.{size_some, under_lies}
use Rattle.path_numbers.proofs.Sized.{sizes_are}
use Rattle.path_numbers.proofs.Within.{part_at}
use Rattle.path_numbers.proofs.Heap.{root_good, at_good, at_range, at_within, heap_number}
use Rattle.path_numbers.proofs.Owners.{owned}
use Rattle.path_numbers.proofs.Wholes.{one_whole}
use Rattle.path_model.specs.Values.{Objects}
use Rattle.path_model.specs.Places.{owner_class}
use Rattle.path_model.specs.Uses.{class_of_owner, view_of}
use Rattle.path_heap.specs.Points.{Points, PointsWhole, PointsView}
use Rattle.path_heap.proofs.Asking.{whole_class}
use Rattle.path_heap.proofs.Reaching.{at_below}
use Rattle.path_values.specs.declared.standing.Standing.{Standing}
use Rattle.path_values.specs.invariants.Standing.{IsBehind, IsWholeOf, IsViewNumber, IsStanding}

pub whole_told : (h : Classes) (s : Objects) (p : ObjectPart) (n : ℕ) (c : ClassId) → PointsWhole h s.classes n p → class_of_owner h s p ≡ Some c → IsWholeOf h s.classes n c p
whole_told h s p n c w class =
    let own = whole_class h s.classes w.node w.at w.full in
    let there : owner_class h s.classes w.node.part.object w.node.part.owner ≡ Some c = ap (λ k. owner_class h s.classes k w.node.part.owner) w.object ∙ (ap (λ o. owner_class h s.classes p.object o) w.owner ∙ class) in
    let some : Some w.node.class ≡ Some c = sym own ∙ there in
    record { node = w.node; at = w.at; full = w.full; object = w.object; owner = w.owner; is_number = w.is_number; is_class = let one : w.node.class ≡ c = cc in one }

-- a subobject of the complete object, as a node
record HasNode (h : Classes) (classes : List ClassId) (w : Node) (x : Subobject) : Type 0 where
  node : Node
  at : IsAt h (sizes_of h) classes node
  is_part : node.part ≡ part w.part.object w.part.owner x
  number : node.number ≡ w.number + subobject_number h w.class x

has_node : (h : Classes) → IsHierarchy h → (classes : List ClassId) (w : Node) → IsAt h (sizes_of h) classes w → w.form ≡ InFull → (x : Subobject) → IsSubobject h w.class x → HasNode h classes w x
has_node h keeps classes w at full x valid =
    let p = part_at h keeps w x (at_good h (sizes_of h) classes w at) full valid in
    record { node = p.0; at = at_below h classes w p.0 at p.1.under; is_part = p.1.is_part; number = p.1.number }

same_place : (k k' : ℕ) (o o' : List Step) (x : Subobject) → k ≡ k' → o ≡ o' → part k o x ≡ part k' o' x
same_place k k' o o' x a b = ap (λ j. part j o x) a ∙ ap (λ t. part k' t x) b

-- no object has more parts than the limit on them
abbrev AreSmall : Classes → List ClassId → Type 0
AreSmall h classes = (k : ℕ) (c : ClassId) → slice_get classes k ≡ Some c → sizes_of h InFull c ≤ most_parts

-- so what stands in a complete object stands near to it
near : (h : Classes) → IsHierarchy h → (classes : List ClassId) → AreSmall h classes → (w : Node) → IsAt h (sizes_of h) classes w → w.form ≡ InFull → (x : Subobject) → IsSubobject h w.class x → subobject_number h w.class x < 2 ^ 32
near h keeps classes few w at full x valid =
    let p = part_at h keeps w x (at_good h (sizes_of h) classes w at) full valid in
    let inner = under_lies h (sizes_of h) (sizes_are h keeps) p.0 w p.1.under in
    let outer = at_range h (sizes_of h) (sizes_are h keeps) classes w at in
    let some = size_some h (sizes_of h) (sizes_are h keeps) p.0.form p.0.class in
    let number = p.1.number in
    let high = inner.high in
    let low = outer.low in
    let top = outer.high in
    let limit = few at.object at.class at.listed in omega arith

module _ (h : Classes) (keeps : IsHierarchy h) (classes : List ClassId) (p : ObjectPart) (whole : ℕ) (c : ClassId) (w : IsWholeOf h classes whole c p) where
  -- a part of the complete object is a subobject of it
  pub is_inside : (n : ℕ) (x : Subobject) → Points h classes n (part p.object p.owner x) → IsSubobject h c x
  is_inside n x q =
      let y = q.node in
      let o = owned h (sizes_of h) keeps (root_at (sizes_of h) classes q.at.object q.at.class) y (root_good (sizes_of h) classes q.at.object q.at.class) refl q.at.under in
      let at : IsAt h (sizes_of h) classes o.whole = record { object = q.at.object; class = q.at.class; listed = q.at.listed; under = o.under } in
      let object = o.object ∙ (ap (λ (t : ObjectPart). t.object) q.is_part ∙ sym w.object) in
      let owner = o.owner ∙ (ap (λ (t : ObjectPart). t.owner) q.is_part ∙ sym w.owner) in
      let same = one_whole h (sizes_of h) keeps classes o.whole w.node at w.at o.full w.full object owner in
      subst (λ (t : ObjectPart). IsSubobject h c t.at) q.is_part (subst (λ (d : ClassId). IsSubobject h d y.part.at) (ap (λ (t : Node). t.class) same ∙ w.is_class) o.valid)

  -- and its number lies behind that of the complete object
  pub is_behind : (n : ℕ) (x : Subobject) → Points h classes n (part p.object p.owner x) → n ≡ whole + subobject_number h c x
  is_behind n x q =
      let valid = subst (λ (d : ClassId). IsSubobject h d x) (sym w.is_class) (is_inside n x q) in
      let r = has_node h keeps classes w.node w.at w.full x valid in
      let there : r.node.part ≡ q.node.part = r.is_part ∙ (same_place w.node.part.object p.object w.node.part.owner p.owner x w.object w.owner ∙ sym q.is_part) in
      let same = heap_number h (sizes_of h) keeps classes r.node q.node r.at q.at there in
      sym q.is_number ∙ (ap (λ (t : Node). t.number) (sym same) ∙ (r.number ∙ (ap (λ k. k + subobject_number h w.node.class x) w.is_number ∙ ap (λ d. whole + subobject_number h d x) w.is_class)))

  -- within 32 bits
  pub is_near : AreSmall h classes → (n : ℕ) (x : Subobject) → Points h classes n (part p.object p.owner x) → subobject_number h c x < 2 ^ 32
  is_near few n x q =
      let valid = subst (λ (d : ClassId). IsSubobject h d x) (sym w.is_class) (is_inside n x q) in
      subst (λ (d : ClassId). subobject_number h d x < 2 ^ 32) w.is_class (near h keeps classes few w.node w.at w.full x valid)

  -- a subobject of the complete object is the part that stands there
  pub points_behind : (x : Subobject) → IsSubobject h c x → Points h classes (whole + subobject_number h c x) (part p.object p.owner x)
  points_behind x inside =
      let r = has_node h keeps classes w.node w.at w.full x (subst (λ (d : ClassId). IsSubobject h d x) (sym w.is_class) inside) in
      record {
        node = r.node;
        at = r.at;
        is_part = r.is_part ∙ same_place w.node.part.object p.object w.node.part.owner p.owner x w.object w.owner;
        is_number = r.number ∙ (ap (λ k. k + subobject_number h w.node.class x) w.is_number ∙ ap (λ d. whole + subobject_number h d x) w.is_class);
      }

-- what stands anywhere has a number of 64 bits
pub is_small : (h : Classes) → IsHierarchy h → (classes : List ClassId) → total (sizes_of h InFull) classes ≤ 2 ^ 64 → (n : ℕ) (p : ObjectPart) → Points h classes n p → n < 2 ^ 64
is_small h keeps classes few n p q =
    let a = at_within h (sizes_of h) (sizes_are h keeps) classes q.node q.at in
    let b = size_some h (sizes_of h) (sizes_are h keeps) q.node.form q.node.class in
    let e = q.is_number in
    omega arith

view_numbered : (h : Classes) → IsHierarchy h → (classes : List ClassId) (p : ObjectPart) (whole : ℕ) (c : ClassId) → IsWholeOf h classes whole c p → AreSmall h classes → (v m : Option ℕ) (x : Option Subobject) → PointsView h classes p v x → IsBehind whole v m → IsViewNumber h c m x
view_numbered h keeps classes p whole c w few None None None q b = tt
view_numbered h keeps classes p whole c w few None None (Some x) q b = absurd q
view_numbered h keeps classes p whole c w few None (Some m) x q b = absurd b
view_numbered h keeps classes p whole c w few (Some v) None x q b = absurd b
view_numbered h keeps classes p whole c w few (Some v) (Some m) None q b = absurd q
view_numbered h keeps classes p whole c w few (Some v) (Some m) (Some x) q b = record {
  valid = is_inside h keeps classes p whole c w v x q;
  number = sym (b (subobject_number h c x) (is_near h keeps classes p whole c w few v x q) (is_behind h keeps classes p whole c w v x q));
}

pub stands : (h : Classes) → IsHierarchy h → (s : Objects) → AreSmall h s.classes → (p : ObjectPart) (n : ℕ) (at : Standing) (v : Option ℕ) → Points h s.classes n p → PointsWhole h s.classes at.whole p → class_of_owner h s p ≡ Some at.class → ((k : ℕ) → k < 2 ^ 32 → n ≡ at.whole + k → at.part ≡ k)
    → PointsView h s.classes p v (view_of h s p) → IsBehind at.whole v at.view → IsStanding h s p at
stands h keeps s few p n at v q whole class number view behind =
    let w = whole_told h s p at.whole at.class whole class in
    record {
      complete = w;
      owner = class;
      part = record { valid = is_inside h keeps s.classes p at.whole at.class w n p.at q; number = sym (number (subobject_number h at.class p.at) (is_near h keeps s.classes p at.whole at.class w few n p.at q) (is_behind h keeps s.classes p at.whole at.class w n p.at q)) };
      view = view_numbered h keeps s.classes p at.whole at.class w few v at.view (view_of h s p) view behind;
    }
