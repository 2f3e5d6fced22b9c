-- The numbers of a complete object are its parts and leaves, as the limits count them.
use Rattle.std.proofs.Common.{◌≡◌, ℕ, zero, suc, ◌+◌, ◌*◌, ◌<◌, List, [], ◌∷◌, length, refl, ap, sym, ◌∙◌, arith}
use Rattle.std.specs.Prelude.{if◌then◌else◌}
use Rattle.std.specs.List.{sum_by}
use Rattle.std.proofs.lemmas.List.Sums.{sum_by-cons}
use Rattle.cxx_hierarchy.specs.declared.records.ClassId.{ClassId}
use Rattle.cxx_hierarchy.specs.declared.records.Base.{Base}
use Rattle.cxx_hierarchy.specs.declared.records.Member.{Member}
use Rattle.cxx_hierarchy.specs.declared.records.FieldType.{FieldType}
use Rattle.cxx_hierarchy.specs.declared.records.FieldType.TheVariants.{Value, Object}
use Rattle.cxx_hierarchy.specs.Classes.{Classes, bases_of, members_of}
use Rattle.cxx_hierarchy.specs.Hierarchies.{IsHierarchy}
use Rattle.cxx_subobject.specs.Parts.{elements_of, parts_in, parts_of, IsWithinLimits}
use Rattle.cxx_subobject.specs.invariants.Counts.{own_of, own_bases, parts_weight, parts_of_members, ListsVirtualBases}
use Rattle.cxx_subobject.proofs.CountLemmas.{parts_sum, own_opened}
use Rattle.cxx_subobject.proofs.PathLemmas.{virtual_below}
use Rattle.foundation.proofs.Members.{contains_from_has, has_from_contains, once_by_place}
use Rattle.path_plan.specs.declared.form.Form.{Form}
use Rattle.path_plan.specs.declared.form.Form.TheVariants.{InFull, AsBase}
use Rattle.path_plan.specs.Plans.{virtual_order}
use Rattle.path_plan.proofs.Order.{order_has, order_virtual}
use Rattle.path_numbers.specs.Sizes.{total, base_size, unit_size, member_size, sizes_of}
use Rattle.path_numbers.specs.invariants.Lines.{HaveFewParts}
use Rattle.path_numbers.proofs.Sized.{total_same, sizes_are}
use Rattle.path_numbers.proofs.Ways.{orders_once}

total_sum : {X : Type 0} (f : X → ℕ) (xs : List X) → total f xs ≡ sum_by f xs
total_sum f [] = refl
total_sum f (x ∷ xs) = ap (λ n. f x + n) (total_sum f xs) ∙ sym (sum_by-cons f x xs)

pub order_lists : (h : Classes) → IsHierarchy h → (c : ClassId) → ListsVirtualBases h c c.0 (virtual_order h c)
order_lists h keeps c = record {
  listed = λ v has lt. contains_from_has (virtual_order h c) v (order_has h keeps c v has);
  valid = λ v has. order_virtual h keeps c v (has_from_contains (virtual_order h c) v has);
  before = λ v has. virtual_below h keeps c v (order_virtual h keeps c v (has_from_contains (virtual_order h c) v has));
  once = λ i j v a b. once_by_place (virtual_order h c) ((orders_once h).once c) i j v a b;
}

-- as a base a class has the weight of its own subobjects, and in full that of all
abbrev weight : Classes → Form → ClassId → ℕ
weight h AsBase c = own_of (parts_weight h) h c
weight h InFull c = parts_of h c

base_one : (h : Classes) (b : Base ClassId) → sizes_of h AsBase b.class ≡ own_of (parts_weight h) h b.class → base_size (sizes_of h) b ≡ (if b.is_virtual then 0 else own_of (parts_weight h) h b.class)
base_one h b e = ap (λ n. if b.is_virtual then 0 else n) e

member_one : (h : Classes) (m : Member ClassId) → ((d : ClassId) → m.ty ≡ Object d → sizes_of h InFull d ≡ parts_of h d) → member_size (sizes_of h) m ≡ elements_of m.count * parts_in (parts_of h) m.ty
member_one h m each = ap (λ n. elements_of m.count * n) (unit m.ty each)
  where
    unit : (ty : FieldType ClassId) → ((d : ClassId) → ty ≡ Object d → sizes_of h InFull d ≡ parts_of h d) → unit_size (sizes_of h) ty ≡ parts_in (parts_of h) ty
    unit (Value t) each = refl
    unit (Object d) each = each d refl

weighed : (h : Classes) → IsHierarchy h → (n : ℕ) (f : Form) (c : ClassId) → c.0 < n → sizes_of h f c ≡ weight h f c
weighed h keeps zero f c lt = absurd (omega arith)
weighed h keeps (suc n) f c lt = form (λ g d less. weighed h keeps n g d (omega arith)) f
  where
    own : ((g : Form) (d : ClassId) → d.0 < c.0 → sizes_of h g d ≡ weight h g d) → sizes_of h AsBase c ≡ own_of (parts_weight h) h c
    own deeper =
        let a : total (base_size (sizes_of h)) (bases_of h c) ≡ own_bases (own_of (parts_weight h) h) (bases_of h c) =
        total_same (base_size (sizes_of h)) (λ (b : Base ClassId). if b.is_virtual then 0 else own_of (parts_weight h) h b.class) (bases_of h c) (λ b has. base_one h b (deeper AsBase b.class (keeps.bases c b (contains_from_has (bases_of h c) b has))))
        ∙ total_sum (λ (b : Base ClassId). if b.is_virtual then 0 else own_of (parts_weight h) h b.class) (bases_of h c) in
        let b : total (member_size (sizes_of h)) (members_of h c) ≡ parts_of_members (parts_of h) (members_of h c) =
        total_same (member_size (sizes_of h)) (λ (m : Member ClassId). elements_of m.count * parts_in (parts_of h) m.ty) (members_of h c) (λ m has. member_one h m (λ d is. deeper InFull d (keeps.objects c d m (contains_from_has (members_of h c) m has) is)))
        ∙ total_sum (λ (m : Member ClassId). elements_of m.count * parts_in (parts_of h) m.ty) (members_of h c) in
        let k = (sizes_are h keeps).own c in
        let o : own_of (parts_weight h) h c ≡ (1 + parts_of_members (parts_of h) (members_of h c)) + own_bases (own_of (parts_weight h) h) (bases_of h c) = own_opened h keeps (parts_weight h) c in
        omega arith

    form : ((g : Form) (d : ClassId) → d.0 < c.0 → sizes_of h g d ≡ weight h g d) → (f : Form) → sizes_of h f c ≡ weight h f c
    form deeper AsBase = own deeper
    form deeper InFull =
        let a : total (sizes_of h AsBase) (virtual_order h c) ≡ sum_by (own_of (parts_weight h) h) (virtual_order h c) =
        total_same (sizes_of h AsBase) (own_of (parts_weight h) h) (virtual_order h c) (λ v has. deeper AsBase v (virtual_below h keeps c v (order_virtual h keeps c v has)))
        ∙ total_sum (own_of (parts_weight h) h) (virtual_order h c) in
        let b = own deeper in
        let k = (sizes_are h keeps).full c in
        let p = parts_sum h keeps c (virtual_order h c) (order_lists h keeps c) in
        omega arith

-- a complete object takes as many numbers as it has parts
pub numbers_are_parts : (h : Classes) → IsHierarchy h → (c : ClassId) → sizes_of h InFull c ≡ parts_of h c
numbers_are_parts h keeps c = weighed h keeps (c.0 + 1) InFull c (omega arith)

pub are_small : (h : Classes) → IsHierarchy h → ((c : ClassId) → c.0 < length h → IsWithinLimits h c) → HaveFewParts h
are_small h keeps limits = record { each = λ c lt. let a = numbers_are_parts h keeps c in let b = (limits c lt).parts in omega arith }
