-- What a step tells of a typed state names parts that are there.
use Rattle.std.proofs.Common.{◌≡◌, ℕ, ◌<◌, false, Option, Some, None, List, [], length, refl, subst}
use Rattle.std.specs.Prelude.{slice_get, option_map}
use Rattle.cxx_hierarchy.specs.declared.records.ClassId.{ClassId}
use Rattle.cxx_hierarchy.specs.declared.records.ValueType.{ValueType}
use Rattle.cxx_hierarchy.specs.declared.records.ValueType.TheVariants.{Number as NumberType, Pointer as PointerType}
use Rattle.cxx_hierarchy.specs.Classes.{Classes}
use Rattle.cxx_subobject.specs.declared.Subobject.{Subobject}
use Rattle.cxx_subobject.specs.Subobjects.{whole}
use Rattle.cxx_subobject.specs.Locations.{ObjectPart}
use Rattle.path_plan.specs.Places.{part}
use Rattle.path_plan.specs.Whole.{whole_part}
use Rattle.path_model.specs.declared.outs.Out.{Out}
use Rattle.path_model.specs.Values.{Value, Unset, Number, Null, Pointer, Leaf, Objects}
use Rattle.path_model.specs.Outs.{location_of}
use Rattle.path_model.specs.Uses.{view_of}
use Rattle.path_model.specs.Effects.{value_out, part_out, view_out, class_out, typeid_class, type_out, object_out, dump_out}
use Rattle.path_model.specs.TypedStates.{IsLeafMade, IsPartMade, IsValue}
use Rattle.path_model.proofs.TypedViews.{AreRunningParts, view_valid}
use Rattle.text_told.specs.Fields.{NamesPart}
use Rattle.path_model.specs.Outs.{is_traced}
use Rattle.text_told.specs.OutTexts.{IsTold}
use Rattle.text_told.proofs.RunDumps.{told_dump, told_part}
use Rattle.text_told.proofs.Leaves.{leaf_made}

-- the objects that were made are of classes of the hierarchy
abbrev pub AreKnown : Classes → List ClassId → Type 0
AreKnown h cs = (k : ℕ) (c : ClassId) → slice_get cs k ≡ Some c → c.0 < length h

-- what is told, if anything, names parts that are there, and is printed
abbrev pub IfTold : Classes → Option Out → Type 0
IfTold h None = Unit {0}
IfTold h (Some out) = IsTold h out × (is_traced out ≡ false)

module _ (h : Classes) (x : Objects) (known : AreKnown h x.classes) where
  pub part_names : (p : ObjectPart) (c : ClassId) → IsPartMade h x.classes p c → NamesPart h (location_of x p)
  part_names p c a = told_part h x p a.class (known p.object a.class a.made) a.made a.inside

  pub value_names : (v : Value) (t : ValueType ClassId) → IsValue h x.classes v t → IfTold h (value_out x v)
  value_names Unset t a = tt
  value_names (Number z) t a = (tt, refl)
  value_names Null t a = (tt, refl)
  value_names (Pointer p) (NumberType t) a = absurd a
  value_names (Pointer p) (PointerType c) a = (part_names p c a, refl)

  view_names_at : (runs : AreRunningParts h x) (p : ObjectPart) (c : ClassId) → IsPartMade h x.classes p c → (o : Option Subobject) → view_of h x p ≡ o → IfTold h (part_out x (option_map (part p.object p.owner) o))
  view_names_at runs p c a None e = tt
  view_names_at runs p c a (Some view) e = (told_part h x (part p.object p.owner view) a.class (known p.object a.class a.made) a.made (a.inside.0, a.inside.1, view_valid h x runs p c a view e), refl)

  pub view_names : (runs : AreRunningParts h x) (v : Value) (c : ClassId) → IsValue h x.classes v (PointerType c) → IfTold h (view_out h x v)
  view_names runs Unset c a = tt
  view_names runs (Number z) c a = tt
  view_names runs Null c a = (tt, refl)
  view_names runs (Pointer p) c a = view_names_at runs p c a (view_of h x p) refl

  class_names : (o : Option ClassId) → IfTold h (class_out o)
  class_names None = tt
  class_names (Some c) = (tt, refl)

  pub type_names : (v : Value) → IfTold h (type_out h x v)
  type_names Unset = tt
  type_names (Number z) = tt
  type_names Null = tt
  type_names (Pointer p) = class_names (typeid_class h x p)

  module _ (leaves : (l : Leaf) (t : ValueType ClassId) → IsLeafMade h x.classes l t → IsValue h x.classes (x.leaf l) t) where
    leaf_names : (p : ObjectPart) (t : ValueType ClassId) → IsValue h x.classes (Pointer p) t → NamesPart h (location_of x p)
    leaf_names p (NumberType t) a = absurd a
    leaf_names p (PointerType c) a = part_names p c a

    object_names : (k : ℕ) (o : Option ClassId) → slice_get x.classes k ≡ o → IfTold h (object_out h x k o)
    object_names k None there = tt
    object_names k (Some c) there = (
      told_dump h x k c (known k c there) there (λ l p has is.
          let made : IsPartMade h x.classes (whole_part k c) c = record { class = c; made = there; inside = (c, refl, whole [] tt); of_class = refl } in
          let m = leaf_made h x.classes c (whole_part k c) l made has in
          leaf_names p m.0 (subst (λ (v : Value). IsValue h x.classes v m.0) is (leaves l m.0 m.1))),
      refl,
    )

    pub dump_names : (v : Value) → IfTold h (dump_out h x v)
    dump_names Unset = tt
    dump_names (Number z) = tt
    dump_names Null = tt
    dump_names (Pointer p) = object_names p.object (slice_get x.classes p.object) refl
