-- What lies right inside a part stands as such, where the code adds its distance.
use Rattle.std.proofs.Common.{◌≡◌, ℕ, ◌+◌, ◌*◌, ◌%◌, ◌^◌, ◌<◌, ◌≤◌, false, Option, Some, None, List, [], length, refl, ap, subst, sym, ◌∙◌, arith}
use Rattle.std.specs.Prelude.{slice_get, unwrap_or}
use Rattle.std.proofs.lemmas.Option.{slice_get_past}
use Rattle.foundation.proofs.Places.{contains_at}
use Rattle.foundation.proofs.Members.{has_at}
use Rattle.cxx_hierarchy.specs.declared.records.ClassId.{ClassId}
use Rattle.cxx_hierarchy.specs.declared.records.Base.{Base}
use Rattle.cxx_hierarchy.specs.declared.records.Member.{Member}
use Rattle.cxx_hierarchy.specs.declared.records.FieldType.TheVariants.{Object}
use Rattle.cxx_hierarchy.specs.Declarations.{elements_of}
use Rattle.cxx_hierarchy.specs.Classes.{Classes, bases_of, members_of, bases_in, members_in}
use Rattle.cxx_hierarchy.specs.Hierarchies.{IsHierarchy}
use Rattle.cxx_subobject.specs.Subobjects.{IsSubobject, whole, shared, shared_base}
use Rattle.path_plan.specs.Places.{ObjectPart, base_part, shared_part, element}
use Rattle.path_plan.specs.declared.form.Form.{Form}
use Rattle.path_plan.specs.declared.form.Form.TheVariants.{InFull, AsBase}
use Rattle.path_plan.specs.Plans.{virtual_order}
use Rattle.path_plan.proofs.Order.{order_virtual}
use Rattle.path_plan.proofs.Valid.{base_valid}
use Rattle.path_numbers.specs.Sizes.{sizes_of, base_offset, member_offset, shared_offset}
use Rattle.path_numbers.specs.Nodes.{Node, node, Kid, base_kid, element_kid, shared_kid, Under, here, deeper}
use Rattle.path_numbers.specs.Numbers.{IsSharedAt}
use Rattle.path_numbers.specs.Heap.{IsAt, root_at}
use Rattle.path_numbers.proofs.Sized.{sizes_are}
use Rattle.path_numbers.proofs.Intervals.{under_lies, size_some}
use Rattle.path_numbers.proofs.Ways.{under_through}
use Rattle.path_numbers.proofs.Heap.{at_good}
use Rattle.path_numbers.proofs.Placed.{shared_number_at}
use Rattle.path_heap.specs.declared.state.NumberedPart.{NumberedPart}
use Rattle.path_events.specs.Frames.{StandsAs}

-- a class that has a base or a member is one of the hierarchy
past_or : (c n : ℕ) → (n ≤ c → ⊥) → c < n
past_or c n never = grind arith

pub base_within : (h : Classes) (c : ClassId) (i : ℕ) (b : Base ClassId) → slice_get (bases_of h c) i ≡ Some b → c.0 < length h
base_within h c i b at = past_or c.0 (length h) (λ past. let f : bases_of h c ≡ [] = ap bases_in (slice_get_past h c.0 past) in let g : slice_get [] i ≡ Some b = subst (λ l. slice_get l i ≡ Some b) f at in absurd (cc))

pub member_within : (h : Classes) (c : ClassId) (m : ℕ) (member : Member ClassId) → slice_get (members_of h c) m ≡ Some member → c.0 < length h
member_within h c m member at = past_or c.0 (length h) (λ past. let f : members_of h c ≡ [] = ap members_in (slice_get_past h c.0 past) in let g : slice_get [] m ≡ Some member = subst (λ l. slice_get l m ≡ Some member) f at in absurd (cc))

-- what lies in a part has its numbers there
record IsInside (h : Classes) (classes : List ClassId) (z : Node) : Type 0 where
  at : IsAt h (sizes_of h) classes z
  room : z.number + sizes_of h z.form z.class ≤ 2 ^ 64
  small : z.number < 2 ^ 64

inside : (h : Classes) → IsHierarchy h → (classes : List ClassId) (y z : Node) → IsAt h (sizes_of h) classes y → y.number + sizes_of h y.form y.class ≤ 2 ^ 64 → Kid h (sizes_of h) y z → IsInside h classes z
inside h keeps classes y z a room kid =
    let down : Under h (sizes_of h) z y = deeper y z kid (here z refl) in
    let l = under_lies h (sizes_of h) (sizes_are h keeps) z y down in
    let some = size_some h (sizes_of h) (sizes_are h keeps) z.form z.class in
    let high = l.high in
    record {
      at = record { object = a.object; class = a.class; listed = a.listed; under = under_through h (sizes_of h) z y (root_at (sizes_of h) classes a.object a.class) a.under down };
      room = omega arith;
      small = omega arith;
    }

pub base_stands : (h : Classes) → IsHierarchy h → (classes : List ClassId) (code : NumberedPart) (form : Form) (p : ObjectPart) → StandsAs h classes code form p → (i : ℕ) (b : Base ClassId) → slice_get (bases_of h code.class) i ≡ Some b → b.is_virtual ≡ false
    → (kid : NumberedPart) → kid.class ≡ b.class → kid.whole ≡ code.whole → kid.owner ≡ code.owner → kid.number ≡ (code.number + base_offset h (sizes_of h) code.class i) % 2 ^ 64 → StandsAs h classes kid AsBase (base_part p b)
base_stands h keeps classes code form p a i b listed direct kid class same_whole same_owner number =
    let y = a.node in
    let at : slice_get (bases_of h y.class) i ≡ Some b = subst (λ (t : ClassId). slice_get (bases_of h t) i ≡ Some b) (sym a.is_class) listed in
    let z = node AsBase b.class (base_part y.part b) (y.number + base_offset h (sizes_of h) y.class i) in
    let r = inside h keeps classes y z a.at a.room (base_kid i b at direct refl) in
    let o = a.owned in
    record {
      node = z;
      at = r.at;
      is_form = refl;
      is_part = ap (λ (t : ObjectPart). base_part t b) a.is_part;
      is_number = let e : base_offset h (sizes_of h) y.class i ≡ base_offset h (sizes_of h) code.class i = ap (λ (t : ClassId). base_offset h (sizes_of h) t i) a.is_class in let f = a.is_number in let s : y.number + base_offset h (sizes_of h) y.class i < 2 ^ 64 = r.small in omega arith;
      is_class = sym class;
      owned = record {
        node = o.node;
        at = o.at;
        full = o.full;
        same_object = o.same_object;
        same_owner = o.same_owner;
        is_number = o.is_number ∙ sym same_whole;
        is_class = o.is_class ∙ sym same_owner;
        valid = base_valid h o.node.class y.class y.part.at b o.valid (at_good h (sizes_of h) classes y a.at).class (contains_at (bases_of h y.class) i b at);
        itself = λ (f : AsBase ≡ InFull). absurd (cc);
      };
      room = r.room;
    }

-- the distance of a virtual base, as the table tells it
pub shared_told : (h : Classes) → IsHierarchy h → (c v : ClassId) (j : ℕ) → slice_get (virtual_order h c) j ≡ Some v → (o : Option ℕ) → IsSharedAt h c v o → unwrap_or o 0 ≡ shared_offset h (sizes_of h) c j
shared_told h keeps c v j at None told = absurd (told (order_virtual h keeps c v (has_at (virtual_order h c) j v at)))
shared_told h keeps c v j at (Some n) told = told.1 ∙ shared_number_at h c v j at

pub shared_stands : (h : Classes) → IsHierarchy h → (classes : List ClassId) (code : NumberedPart) (p : ObjectPart) → StandsAs h classes code InFull p → (j : ℕ) (v : ClassId) → slice_get (virtual_order h code.class) j ≡ Some v
    → (kid : NumberedPart) → kid.class ≡ v → kid.whole ≡ code.whole → kid.owner ≡ code.owner → kid.number ≡ (code.number + shared_offset h (sizes_of h) code.class j) % 2 ^ 64 → StandsAs h classes kid AsBase (shared_part p v)
shared_stands h keeps classes code p a j v listed kid class same_whole same_owner number =
    let y = a.node in
    let at : slice_get (virtual_order h y.class) j ≡ Some v = subst (λ (t : ClassId). slice_get (virtual_order h t) j ≡ Some v) (sym a.is_class) listed in
    let z = node AsBase v (shared_part y.part v) (y.number + shared_offset h (sizes_of h) y.class j) in
    let r = inside h keeps classes y z a.at a.room (shared_kid j v a.is_form at refl) in
    let o = a.owned in
    record {
      node = z;
      at = r.at;
      is_form = refl;
      is_part = ap (λ (t : ObjectPart). shared_part t v) a.is_part;
      is_number = let e : shared_offset h (sizes_of h) y.class j ≡ shared_offset h (sizes_of h) code.class j = ap (λ (t : ClassId). shared_offset h (sizes_of h) t j) a.is_class in let f = a.is_number in let s : y.number + shared_offset h (sizes_of h) y.class j < 2 ^ 64 = r.small in omega arith;
      is_class = sym class;
      owned = record {
        node = o.node;
        at = o.at;
        full = o.full;
        same_object = o.same_object;
        same_owner = o.same_owner;
        is_number = o.is_number ∙ sym same_whole;
        is_class = o.is_class ∙ sym same_owner;
        valid = subst (λ (t : Node). IsSubobject h t.class (shared_base v)) (sym (o.itself a.is_form)) (shared v [] (order_virtual h keeps y.class v (has_at (virtual_order h y.class) j v at)) tt);
        itself = λ (f : AsBase ≡ InFull). absurd (cc);
      };
      room = r.room;
    }

pub element_stands : (h : Classes) → IsHierarchy h → (classes : List ClassId) (code : NumberedPart) (form : Form) (p : ObjectPart) → StandsAs h classes code form p → (m i : ℕ) (d : ClassId) (member : Member ClassId) → slice_get (members_of h code.class) m ≡ Some member → member.ty ≡ Object d → i < elements_of member.count
    → (kid : NumberedPart) → kid.class ≡ d → kid.whole ≡ kid.number → kid.owner ≡ d → kid.number ≡ (code.number + (member_offset h (sizes_of h) code.class m + i * sizes_of h InFull d % 2 ^ 64) % 2 ^ 64) % 2 ^ 64 → StandsAs h classes kid InFull (element p m i d)
element_stands h keeps classes code form p a m i d member listed type within kid class same_whole same_owner number =
    let y = a.node in
    let at : slice_get (members_of h y.class) m ≡ Some member = subst (λ (t : ClassId). slice_get (members_of h t) m ≡ Some member) (sym a.is_class) listed in
    let z = node InFull d (element y.part m i d) (y.number + (member_offset h (sizes_of h) y.class m + i * sizes_of h InFull d)) in
    let r = inside h keeps classes y z a.at a.room (element_kid m i d member at type within refl) in
    let is_number : z.number ≡ kid.number =
    let e : member_offset h (sizes_of h) y.class m ≡ member_offset h (sizes_of h) code.class m = ap (λ (t : ClassId). member_offset h (sizes_of h) t m) a.is_class in let f = a.is_number in
    let s : y.number + (member_offset h (sizes_of h) y.class m + i * sizes_of h InFull d) < 2 ^ 64 = r.small in omega arith in
    record {
      node = z;
      at = r.at;
      is_form = refl;
      is_part = ap (λ (t : ObjectPart). element t m i d) a.is_part;
      is_number = is_number;
      is_class = sym class;
      owned = record {
        node = z;
        at = r.at;
        full = refl;
        same_object = refl;
        same_owner = refl;
        is_number = is_number ∙ sym same_whole;
        is_class = sym same_owner;
        valid = whole [] tt;
        itself = λ f. refl;
      };
      room = r.room;
    }

-- the classes of elements are of the hierarchy
pub object_within : (h : Classes) → IsHierarchy h → (c d : ClassId) (m : ℕ) (member : Member ClassId) → slice_get (members_of h c) m ≡ Some member → member.ty ≡ Object d → d.0 < length h
object_within h keeps c d m member at type =
    let a = member_within h c m member at in
    let b = keeps.objects c d member (contains_at (members_of h c) m member at) type in omega arith
