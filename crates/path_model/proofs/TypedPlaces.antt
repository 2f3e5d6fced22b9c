-- A place leads to a part or to a leaf of its type.
use Rattle.std.proofs.Common.{◌≡◌, ℕ, Some, List, [], ◌∷◌, ◌++◌, refl, ap, subst, sym, ◌∙◌}
use Rattle.cxx_hierarchy.specs.declared.records.ClassId.{ClassId}
use Rattle.cxx_hierarchy.specs.declared.records.ValueType.{ValueType}
use Rattle.cxx_hierarchy.specs.declared.records.FieldType.TheVariants.{Value as ValueField, Object}
use Rattle.cxx_hierarchy.specs.declared.records.Member.{Member}
use Rattle.cxx_hierarchy.specs.Classes.{Classes}
use Rattle.cxx_subobject.specs.declared.Subobject.{Subobject}
use Rattle.cxx_subobject.specs.Subobjects.{whole, class_of}
use Rattle.cxx_subobject.specs.Locations.{ObjectPart, IsElement}
use Rattle.cxx_program.specs.declared.statement.PassedMember.{PassedMember}
use Rattle.cxx_program.specs.declared.statement.TypedPlace.{TypedPlace}
use Rattle.cxx_program.specs.Typed.{Scope, IsPassed, IsPath, IsPlace, width_within, place_width}
use Rattle.path_plan.specs.Places.{element}
use Rattle.path_model.specs.Values.{Leaf, inner_part}
use Rattle.path_model.specs.Places.{passed_part, end_part, leaf_at, last_passed}
use Rattle.path_model.specs.TypedStates.{IsPartMade, IsLeafMade, width_of_leaf}
use Rattle.path_model.proofs.TypedValues.{inner_made}

-- an element of a member that is an object
pub element_made : (h : Classes) (cs : List ClassId) (p : ObjectPart) (c d : ClassId) (m i : ℕ) → IsPartMade h cs p c → IsElement h c m i (Object d) → IsPartMade h cs (element p m i d) d
element_made h cs p c d m i a b = record {
  class = a.class;
  made = a.made;
  inside = (d, (a.inside.0, c, a.inside.1, a.inside.2, a.of_class, b), whole [] tt);
  of_class = refl;
}

pub passed_made : (h : Classes) (cs : List ClassId) (p : ObjectPart) (c : ClassId) (x : PassedMember) → IsPartMade h cs p c → IsPassed h c x → IsPartMade h cs (passed_part p x) x.class
passed_made h cs p c x a b = element_made h cs (inner_part p x.base) b.class x.class x.member x.index (inner_made h cs p c b.class x.base a b.valid b.of_class) b.element

-- the part behind a path, and its subobject that has the last name
pub path_made : (h : Classes) (cs : List ClassId) (p : ObjectPart) (c d : ClassId) (xs : List PassedMember) (last : Subobject) → IsPartMade h cs p c → IsPath h c xs last → class_of last ≡ Some d → IsPartMade h cs (inner_part (end_part p xs) last) d
path_made h cs p c d [] last a b class = inner_made h cs p c d last a b class
path_made h cs p c d (x ∷ xs) last a b class = path_made h cs (passed_part p x) x.class d xs last (passed_made h cs p c x a b.0) b.1 class

-- one member more behind a path
pub end_more : (p : ObjectPart) (xs : List PassedMember) (x : PassedMember) → end_part p (xs ++ x ∷ []) ≡ passed_part (end_part p xs) x
end_more p [] x = refl
end_more p (y ∷ xs) x = end_more (passed_part p y) xs x

pub leaf_made : (h : Classes) (cs : List ClassId) (e : Scope) (place : TypedPlace) (t : ValueType ClassId) (p : ObjectPart) → IsPartMade h cs p place.class → IsPlace h e place (ValueField t) → IsLeafMade h cs (leaf_at p place) t
leaf_made h cs e place t p a b = record { class = b.class; part = path_made h cs p place.class b.class place.passed place.base a b.path b.of_class; element = b.element }

-- the width of the leaf is that of the place's member
pub width_at : (h : Classes) (cs : List ClassId) (e : Scope) (place : TypedPlace) (t : ValueType ClassId) (p : ObjectPart) → IsPartMade h cs p place.class → (b : IsPlace h e place (ValueField t)) → place_width h place ≡ width_of_leaf h (leaf_at p place)
width_at h cs e place t p a b = ap (λ o. width_within h o place.member) (b.of_class ∙ sym (path_made h cs p place.class b.class place.passed place.base a b.path b.of_class).of_class)

pub object_made : (h : Classes) (cs : List ClassId) (e : Scope) (place : TypedPlace) (d : ClassId) (p : ObjectPart) → IsPartMade h cs p place.class → IsPlace h e place (Object d) → IsPartMade h cs (end_part p (place.passed ++ last_passed place d ∷ [])) d
object_made h cs e place d p a b = subst (λ (x : ObjectPart). IsPartMade h cs x d) (sym (end_more p place.passed (last_passed place d)))
    (element_made h cs (inner_part (end_part p place.passed) place.base) b.class d place.member place.index (path_made h cs p place.class b.class place.passed place.base a b.path b.of_class) b.element)

-- a leaf has one type
pub one_type : (h : Classes) (cs ds : List ClassId) (l : Leaf) (t u : ValueType ClassId) → IsLeafMade h cs l t → IsLeafMade h ds l u → t ≡ u
one_type h cs ds l t u a b =
    let class : a.class ≡ b.class = let f : Some a.class ≡ Some b.class = sym a.part.of_class ∙ b.part.of_class in cc in
    let there = subst (λ (c : ClassId). IsElement h c l.member l.index (ValueField t)) class a.element in
    let member : there.member ≡ b.element.member = let f : Some there.member ≡ Some b.element.member = sym there.there ∙ b.element.there in cc in
    let type : ValueField t ≡ ValueField u = sym there.type_is ∙ (ap (λ (m : Member ClassId). m.ty) member ∙ b.element.type_is) in cc
