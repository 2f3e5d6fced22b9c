-- Parts of a run's objects are class subobjects of them, and their leaves are numbers and pointers of them.
use Rattle.std.proofs.Common.{◌≡◌, ◌∙◌, ℕ, zero, suc, ◌+◌, ◌<◌, Option, Some, None, List, [], ◌∷◌, map, length, refl, ap, subst, sym, arith}
use Rattle.std.specs.Prelude.{Contains}
use Rattle.std.specs.List.{slice_get}
use Rattle.foundation.proofs.Members.{Has, contains_from_has, has_from_contains, from_flat_map, from_map}
use Rattle.cxx_hierarchy.specs.declared.records.ClassId.{ClassId}
use Rattle.cxx_hierarchy.specs.declared.records.Member.{Member}
use Rattle.cxx_hierarchy.specs.declared.records.ValueType.{ValueType}
use Rattle.cxx_hierarchy.specs.declared.records.FieldType.{FieldType}
use Rattle.cxx_hierarchy.specs.declared.records.FieldType.TheVariants.{Value as ValueField, Object}
use Rattle.cxx_hierarchy.specs.Classes.{Classes, members_of}
use Rattle.cxx_hierarchy.specs.Declarations.{elements_of}
use Rattle.cxx_subobject.specs.declared.Subobject.{Subobject}
use Rattle.cxx_subobject.specs.Subobjects.{IsSubobject, class_of, whole_of}
use Rattle.cxx_subobject.specs.Preorder.{preorder}
use Rattle.cxx_subobject.specs.Locations.{IsOwner, IsPartOf, LeadsTo, ObjectPart, Step, hops_of, hops_to_element}
use Rattle.cxx_subobject.proofs.LocationLemmas.{hops_lead, hops_lead_to_leaf}
use Rattle.cxx_subobject.proofs.TreeLemmas.{has_preorder}
use Rattle.cxx_subobject.proofs.InsideLemmas.{whole_joined}
use Rattle.cxx_subobject.proofs.PathLemmas.{class_there}
use Rattle.path_plan.specs.Places.{element, part}
use Rattle.path_plan.specs.Plans.{upto}
use Rattle.path_plan.specs.Whole.{whole_part}
use Rattle.path_plan.proofs.Members.{has_count}
use Rattle.path_model.specs.Values.{Leaf, Objects, Value, Unset, Number, Null, Pointer, inner_part}
use Rattle.path_model.specs.Outs.{class_or_first, dump_leaf, location_of, object_class, shown}
use Rattle.path_model.specs.Places.{leaf, leaves_of, leaves_within, member_leaves, own_leaves, typed_leaves}
use Rattle.text_told.specs.Fields.{NamesPart}
use Rattle.text_told.specs.Dumps.{AreDumpedLeaves, IsDumpedLeaf, NamesValue}

-- a leaf of the heap object k of class c
pub record IsLeafOf (h : Classes) (c : ClassId) (k : ℕ) (l : Leaf) : Type 0 where
  pub object : l.part.object ≡ k
  pub type : ValueType ClassId
  pub leads : LeadsTo h c (hops_to_element l.part.owner l.part.at l.member l.index) (ValueField type)

-- the leaves in the objects of each class that owners lead to
abbrev AreLeaves : Classes → ClassId → ℕ → (ClassId → ObjectPart → List Leaf) → Type 0
AreLeaves h c k inside = (d : ClassId) (owner : List Step) (l : Leaf) → IsOwner h c owner d → Has (inside d (part k owner (whole_of d))) l → IsLeafOf h c k l

module _ (h : Classes) (c : ClassId) (k : ℕ) (inside : ClassId → ObjectPart → List Leaf) (rule : AreLeaves h c k inside) (d : ClassId) (owner : List Step) (owned : IsOwner h c owner d) (i : Subobject) (valid : IsSubobject h d i) (l : Leaf) where
  by_type : (b : ClassId) → class_of i ≡ Some b → (m : ℕ) (member : Member ClassId) → slice_get (members_of h b) m ≡ Some member → (type : FieldType ClassId) → member.ty ≡ type →
      Has (typed_leaves inside (part k owner i) m (upto (elements_of member.count)) type) l → IsLeafOf h c k l
  by_type b class m member there (ValueField t) is has =
      let f = from_map (leaf (part k owner i) m) (upto (elements_of member.count)) l has in
      let lt = (has_count 0 (elements_of member.count) f.0 f.1).1 in
      subst (IsLeafOf h c k) f.2 (record {
        object = refl;
        type = t;
        leads = hops_lead_to_leaf h c owner d b i m f.0 t owned valid class (record { member = member; there = there; type_is = is; within = omega arith });
      })
  by_type b class m member there (Object e) is has =
      let f = from_flat_map (λ j. inside e (element (part k owner i) m j e)) (upto (elements_of member.count)) l has in
      let lt = (has_count 0 (elements_of member.count) f.0 f.1).1 in
      let step : Step = record { base = i; member = m; index = f.0 } in
      rule e (step ∷ owner) l (d, b, owned, valid, class, record { member = member; there = there; type_is = is; within = omega arith }) f.2

  by_member : (b : ClassId) → class_of i ≡ Some b → (m : ℕ) (o : Option (Member ClassId)) → slice_get (members_of h b) m ≡ o → Has (member_leaves inside (part k owner i) m o) l → IsLeafOf h c k l
  by_member b class m None there has = absurd has
  by_member b class m (Some member) there has = by_type b class m member there member.ty refl has

  by_class : (o : Option ClassId) → class_of i ≡ o → Has (own_leaves h inside o (part k owner i)) l → IsLeafOf h c k l
  by_class None class has = absurd has
  by_class (Some b) class has =
      let f = from_flat_map (λ m. member_leaves inside (part k owner i) m (slice_get (members_of h b) m)) (upto (length (members_of h b))) l has in
      by_member b class f.0 (slice_get (members_of h b) f.0) refl f.2

within_are : (h : Classes) (c : ClassId) (k n : ℕ) → AreLeaves h c k (leaves_within h n)
within_are h c k zero d owner l owned has = absurd has
within_are h c k (suc n) d owner l owned has =
    let f = from_flat_map (λ i. own_leaves h (leaves_within h n) (class_of i) (inner_part (part k owner (whole_of d)) i)) (preorder h d) l has in
    let i = f.0 in
    let valid = has_preorder h d i f.1 in
    let same : inner_part (part k owner (whole_of d)) i ≡ part k owner i = ap (part k owner) (whole_joined h d i valid) in
    by_class h c k (leaves_within h n) (within_are h c k n) d owner owned i valid l (class_of i) refl (subst (λ (p : ObjectPart). Has (own_leaves h (leaves_within h n) (class_of i) p) l) same f.2)

leaf_of : (h : Classes) (c : ClassId) (k : ℕ) (l : Leaf) → Has (leaves_of h c (whole_part k c)) l → IsLeafOf h c k l
leaf_of h c k l has = within_are h c k (c.0 + 1) c [] l refl has

value_names : (h : Classes) (s : Objects) (v : Value) → ((p : ObjectPart) → v ≡ Pointer p → NamesPart h (location_of s p)) → NamesValue h (shown s v)
value_names h s Unset rule = tt
value_names h s (Number z) rule = tt
value_names h s Null rule = tt
value_names h s (Pointer p) rule = rule p refl

leaf_is : (h : Classes) (s : Objects) (k : ℕ) (c : ClassId) (l : Leaf) → c.0 < length h → slice_get s.classes k ≡ Some c → IsLeafOf h c k l → NamesValue h (shown s (s.leaf l)) → IsDumpedLeaf h c (dump_leaf s l)
leaf_is h s k c l known made of value =
    let class : object_class s l.part.object ≡ c = ap (λ j. class_or_first (slice_get s.classes j)) of.object ∙ ap class_or_first made in
    record {
      class = class;
      type = of.type;
      names = record {
        known = subst (λ (d : ClassId). d.0 < length h) (sym class) known;
        leads = subst (λ (d : ClassId). LeadsTo h d (hops_to_element l.part.owner l.part.at l.member l.index) (ValueField of.type)) (sym class) of.leads;
      };
      value = value;
    }

pub told_dump : (h : Classes) (s : Objects) (k : ℕ) (c : ClassId) → c.0 < length h → slice_get s.classes k ≡ Some c → ((l : Leaf) (p : ObjectPart) → Contains (leaves_of h c (whole_part k c)) l → s.leaf l ≡ Pointer p → NamesPart h (location_of s p)) →
    AreDumpedLeaves h c (map (dump_leaf s) (leaves_of h c (whole_part k c)))
told_dump h s k c known made rule = record {
  known = known;
  each = λ leaf has.
      let f = from_map (dump_leaf s) (leaves_of h c (whole_part k c)) leaf (has_from_contains (map (dump_leaf s) (leaves_of h c (whole_part k c))) leaf has) in
      let l = f.0 in
      subst (IsDumpedLeaf h c) f.2 (leaf_is h s k c l known made (leaf_of h c k l f.1) (value_names h s (s.leaf l) (λ p e. rule l p (contains_from_has (leaves_of h c (whole_part k c)) l f.1) e)));
}

pub told_part : (h : Classes) (s : Objects) (p : ObjectPart) (c : ClassId) → c.0 < length h → slice_get s.classes p.object ≡ Some c → IsPartOf h c p → NamesPart h (location_of s p)
told_part h s p c known made of =
    let class : object_class s p.object ≡ c = ap class_or_first made in
    let e = class_there h of.0 p.at of.2 in (
      e.0,
      record {
        known = subst (λ (d : ClassId). d.0 < length h) (sym class) known;
        leads = subst (λ (d : ClassId). LeadsTo h d (hops_of p.owner p.at) (Object e.0)) (sym class) (hops_lead h c p.owner of.0 e.0 p.at of.1 of.2 e.1);
      },
    )
