-- A place leads to what it is typed to.
use Rattle.std.proofs.Common.{◌≡◌, ◌⊎◌, ℕ, ◌≤◌, ◌<◌, Bool, true, false, Option, Some, None, Ok, List, [], ◌∷◌, ◌++◌, inl, inr, refl, sym, ◌∙◌, ap, subst, arith}
use Rattle.std.specs.Prelude.{nat_lt, if◌then◌else◌, slice_get}
use Rattle.std.proofs.lemmas.Bool.{ltb-true}
use Rattle.foundation.proofs.Places.{contains_at}
use Rattle.cxx_hierarchy.specs.declared.records.ClassId.{ClassId}
use Rattle.cxx_hierarchy.specs.declared.records.FieldType.{FieldType}
use Rattle.cxx_hierarchy.specs.declared.records.FieldType.TheVariants as field
use Rattle.cxx_hierarchy.specs.declared.records.Member.{Member}
use Rattle.cxx_hierarchy.specs.declared.records.ValueType.TheVariants as type
use Rattle.cxx_hierarchy.specs.declared.stop.Rule.TheVariants as rule
use Rattle.cxx_hierarchy.specs.Declarations.{elements_of}
use Rattle.cxx_hierarchy.specs.Classes.{Classes, members_of}
use Rattle.cxx_hierarchy.specs.Hierarchies.{IsHierarchy}
use Rattle.cxx_hierarchy.specs.NameTables.{Text}
use Rattle.cxx_subobject.specs.declared.Subobject.{Subobject}
use Rattle.cxx_subobject.specs.Subobjects.{IsSubobject, class_of}
use Rattle.cxx_subobject.specs.Locations.{IsElement}
use Rattle.cxx_lookup.specs.declared.Found.{Found}
use Rattle.cxx_lookup.specs.declared.Found.TheVariants.{Member as AMember, Function as AFunction}
use Rattle.cxx_lookup.specs.Findings.{Finding, finds_none, finds_one, finds_more, found_by, IsNameFinding}
use Rattle.cxx_lookup.proofs.NameFindings.{name_is}
use Rattle.cxx_syntax.specs.declared.tree.Spot.{Spot}
use Rattle.cxx_syntax.specs.declared.tree.PlacePart.{PlacePart}
use Rattle.cxx_syntax.specs.declared.tree.PlaceText.{PlaceText}
use Rattle.cxx_program.specs.declared.statement.PassedMember.{PassedMember}
use Rattle.cxx_program.specs.declared.statement.TypedPlace.{TypedPlace}
use Rattle.cxx_program.specs.Typed.{Scope, HasType, IsPassed, IsPath, IsPlace}
use Rattle.cxx_expression.specs.declared.look_up.Looked.{Looked}
use Rattle.cxx_expression.specs.declared.look_up.Looked.TheVariants as looked
use Rattle.cxx_expression.specs.declared.scene.Scene.{Scene}
use Rattle.cxx_expression.specs.declared.scene.Setting.{Setting}
use Rattle.cxx_expression.specs.declared.typed.Pointer.{Pointer}
use Rattle.cxx_expression.specs.declared.typed.LeafPlace.{LeafPlace}
use Rattle.cxx_expression.specs.Checked.{pure, warn}
use Rattle.cxx_expression.specs.Lookups.{as_looked, looked_up, member_record}
use Rattle.cxx_expression.specs.Values.{pointer_of}
use Rattle.cxx_expression.specs.Places.{found_member, as_found, member_in, as_member, member_of, checked_index, object_of, place_step, step_of, passed_by, passed_with, further, steps_of, begun, typed_place, with_last, ended, place_of, as_leaf, leaf_of, as_object, object_place_of}
use Rattle.cxx_typing.proofs.Steps.{then_both}
use Rattle.cxx_typing.proofs.PieceTypes.{FoundMember, PlaceStep, Reached, FieldPlace, ObjectPlace}
use Rattle.cxx_typing.specs.Scopes.{IsSetting, IsScene}
use Rattle.cxx_typing.proofs.Values.{pointer_typed}

-- members

found_place : (h : Classes) (c : ClassId) (name : Text) (finding : Finding Found) → IsNameFinding h c name finding → (s : Subobject) (n : ℕ) →
    as_looked finding ≡ looked.Member s n ⊎ as_looked finding ≡ looked.Function s n → IsSubobject h c s
found_place h c name finds_none is s n (inl e) = absurd (cc)
found_place h c name finds_none is s n (inr e) = absurd (cc)
found_place h c name (finds_one (AMember x m)) is s n (inl e) = let same : x ≡ s = cc in subst (IsSubobject h c) same is.remains.declared.valid
found_place h c name (finds_one (AMember x m)) is s n (inr e) = absurd (cc)
found_place h c name (finds_one (AFunction x m)) is s n (inl e) = absurd (cc)
found_place h c name (finds_one (AFunction x m)) is s n (inr e) = let same : x ≡ s = cc in subst (IsSubobject h c) same is.remains.declared.valid
found_place h c name finds_more is s n (inl e) = absurd (cc)
found_place h c name finds_more is s n (inr e) = absurd (cc)

-- what a name finds stands in a subobject of the class
pub looked_place : (h : Classes) → IsHierarchy h → (c : ClassId) (name : Text) (s : Subobject) (n : ℕ) → looked_up h c name ≡ looked.Member s n ⊎ looked_up h c name ≡ looked.Function s n → IsSubobject h c s
unfolding looked_up
looked_place h keeps c name s n e = found_place h c name (found_by h c name) (name_is h keeps c name) s n e

-- the member is declared in a subobject of the class
record IsMember (h : Classes) (c : ClassId) (f : FoundMember) : Type 0 where
  valid : IsSubobject h c f.base
  class : ClassId
  of_class : class_of f.base ≡ Some class
  member : Member ClassId
  there : slice_get (members_of h class) f.number ≡ Some member
  type_is : member.ty ≡ f.ty
  count_is : member.count ≡ f.count

as_found_typed : (h : Classes) (c d : ClassId) (name_at : ℕ) (s : Subobject) (n : ℕ) → IsSubobject h c s → class_of s ≡ Some d → (o : Option (Member ClassId)) → slice_get (members_of h d) n ≡ o → (f : FoundMember) →
    (as_found name_at s n o).typed ≡ Ok f → IsMember h c f
as_found_typed h c d name_at s n valid of None there f t = absurd (cc)
as_found_typed h c d name_at s n valid of (Some m) there f t =
    let same : found_member s n m ≡ f = cc in
    subst (IsMember h c) same (record { valid = valid; class = d; of_class = of; member = m; there = there; type_is = refl; count_is = refl })

member_in_typed : (h : Classes) (c : ClassId) (name_at : ℕ) (s : Subobject) (n : ℕ) → IsSubobject h c s → (o : Option ClassId) → class_of s ≡ o → (f : FoundMember) → (member_in h name_at s n o).typed ≡ Ok f → IsMember h c f
unfolding member_in member_record
member_in_typed h c name_at s n valid None of f t = absurd (cc)
member_in_typed h c name_at s n valid (Some d) of f t = as_found_typed h c d name_at s n valid of (slice_get (members_of h d) n) refl f t

as_member_typed : (h : Classes) → IsHierarchy h → (at name_at : ℕ) (c : ClassId) (name : Text) (l : Looked) → looked_up h c name ≡ l → (f : FoundMember) → (as_member h at name_at l).typed ≡ Ok f → IsMember h c f
as_member_typed h keeps at name_at c name looked.Missing is f t = absurd (cc)
as_member_typed h keeps at name_at c name looked.Ambiguous is f t = absurd (cc)
as_member_typed h keeps at name_at c name (looked.Member s n) is f t = member_in_typed h c name_at s n (looked_place h keeps c name s n (inl is)) (class_of s) refl f t
as_member_typed h keeps at name_at c name (looked.Function s n) is f t = absurd (cc)

member_typed : (h : Classes) → IsHierarchy h → (at : ℕ) (c : ClassId) (x : Spot) (f : FoundMember) → (member_of h at c x).typed ≡ Ok f → IsMember h c f
unfolding member_of
member_typed h keeps at c x f t = as_member_typed h keeps at x.at c x.name (looked_up h c x.name) refl f t

-- elements

index_if : (at : ℕ) (count : ℕ) (index : ℕ × ℕ) (t : Bool) → nat_lt index.0 count ≡ t → 1 ≤ count → (i : ℕ) → (if t then pure index.0 else warn rule.Index index.1 0).typed ≡ Ok i → i < count
index_if at count index true is some i t =
    let same : index.0 ≡ i = cc in
    let below = ltb-true index.0 count is in
    subst (λ (n : ℕ). n < count) same below
index_if at count index false is some i t = let same : 0 ≡ i = cc in subst (λ (n : ℕ). n < count) same some

-- an index that is refused stands for the first element, so that what is typed is always an element
index_typed : (at : ℕ) (count : Option ℕ) (index : Option (ℕ × ℕ)) → ((n : ℕ) → count ≡ Some n → 1 ≤ n) → (i : ℕ) → (checked_index at count index).typed ≡ Ok i → i < elements_of count
unfolding checked_index
index_typed at None None some i t = let same : 0 ≡ i = cc in subst (λ (n : ℕ). n < 1) same (omega arith)
index_typed at None (Some index) some i t = absurd (cc)
index_typed at (Some count) None some i t = absurd (cc)
index_typed at (Some count) (Some index) some i t = index_if at count index (nat_lt index.0 count) refl (some count refl) i t

-- a step leads from an object of the class into an element of a member
record IsStep (h : Classes) (c : ClassId) (step : PlaceStep) : Type 0 where
  valid : IsSubobject h c step.base
  class : ClassId
  of_class : class_of step.base ≡ Some class
  element : IsElement h class step.member step.index step.ty

step_typed : (h : Classes) → IsHierarchy h → (at : ℕ) (c : ClassId) (part : PlacePart) (step : PlaceStep) → (step_of h at c part).typed ≡ Ok step → IsStep h c step
unfolding step_of
step_typed h keeps at c part step t =
    let r = then_both (member_of h at c part.name).typed _ step t in
    let q = then_both (checked_index at r.0.count part.index).typed _ step r.2 in
    let same : place_step r.0 q.0 ≡ step = let last = q.2 in cc in
    let m = member_typed h keeps at c part.name r.0 r.1 in
    let some = λ (n : ℕ) (e : r.0.count ≡ Some n). (keeps.counts m.class m.member n (contains_at (members_of h m.class) r.0.number m.member m.there) (m.count_is ∙ e)).0 in
    let within = index_typed at r.0.count part.index some q.0 q.1 in
    subst (IsStep h c) same (record {
      valid = m.valid;
      class = m.class;
      of_class = m.of_class;
      element = record { member = m.member; there = m.there; type_is = m.type_is; within = subst (λ (o : Option ℕ). q.0 < elements_of o) (sym m.count_is) within };
    })

-- paths

-- the members lead from an object of class c to one of class d
abbrev Passes : Classes → ClassId → List PassedMember → ClassId → Type 0
Passes h c [] d = c ≡ d
Passes h c (x ∷ rest) d = IsPassed h c x × Passes h x.class rest d

passes_more : (h : Classes) (c d : ClassId) (passed : List PassedMember) (x : PassedMember) → Passes h c passed d → IsPassed h d x → Passes h c (passed ++ x ∷ []) x.class
passes_more h c d [] x is more = (subst (λ (k : ClassId). IsPassed h k x) (sym is) more, refl)
passes_more h c d (y ∷ rest) x is more = (is.0, passes_more h y.class d rest x is.1 more)

passes_path : (h : Classes) (c d : ClassId) (passed : List PassedMember) (last : Subobject) → Passes h c passed d → IsSubobject h d last → IsPath h c passed last
passes_path h c d [] last is valid = subst (λ (k : ClassId). IsSubobject h k last) (sym is) valid
passes_path h c d (y ∷ rest) last is valid = (is.0, passes_path h y.class d rest last is.1 valid)

-- what is reached from an object of class c
abbrev IsReached : Classes → ClassId → List PassedMember → Option PlaceStep → FieldType ClassId → Type 0
IsReached h c passed None ty = (passed ≡ []) × (ty ≡ field.Object c)
IsReached h c passed (Some step) ty = (d : ClassId) × Passes h c passed d × IsStep h d step × (step.ty ≡ ty)

reached_object : (h : Classes) (c d : ClassId) (passed : List PassedMember) (last : Option PlaceStep) (ty : FieldType ClassId) → IsReached h c passed last ty → ty ≡ field.Object d → Passes h c (passed_with passed last d) d
reached_object h c d passed None ty is e =
    let both : field.Object c ≡ field.Object d = sym is.1 ∙ e in
    let same : c ≡ d = cc in
    subst (λ (p : List PassedMember). Passes h c p d) (sym is.0) same
reached_object h c d passed (Some step) ty is e =
    passes_more h c is.0 passed (passed_by step d) is.1
    (record { valid = is.2.valid; class = is.2.class; of_class = is.2.of_class; element = subst (IsElement h is.2.class step.member step.index) (is.3 ∙ e) is.2.element })

object_typed : (at : ℕ) (ty : FieldType ClassId) (c : ClassId) → (object_of at ty).typed ≡ Ok c → ty ≡ field.Object c
unfolding object_of
object_typed at (field.Value ty) c t = absurd (cc)
object_typed at (field.Object d) c t = let same : d ≡ c = cc in ap field.Object same

steps_typed : (h : Classes) → IsHierarchy h → (at : ℕ) (c : ClassId) (r : Reached) (parts : List PlacePart) → IsReached h c r.passed r.last r.ty → (last : Reached) → (steps_of h at r parts).typed ≡ Ok last →
    IsReached h c last.passed last.last last.ty
unfolding steps_of
steps_typed h keeps at c r [] is last t = let same : r ≡ last = cc in subst (λ (x : Reached). IsReached h c x.passed x.last x.ty) same is
steps_typed h keeps at c r (part ∷ parts) is last t =
    let o = then_both (object_of at r.ty).typed _ last t in
    let q = then_both (step_of h at o.0 part).typed _ last o.2 in
    let passes = reached_object h c o.0 r.passed r.last r.ty is (object_typed at r.ty o.0 o.1) in
    steps_typed h keeps at c (further r o.0 q.0) parts (o.0, passes, step_typed h keeps at o.0 part q.0 q.1, refl) last q.2

place_by : (h : Classes) (k : Scope) (at : ℕ) (p : Pointer) (passed : List PassedMember) (last : Option PlaceStep) (ty : FieldType ClassId) → HasType k p.operand (type.Pointer p.class) → IsReached h p.class passed last ty → (f : FieldPlace) →
    (ended at (with_last p passed last)).typed ≡ Ok f → IsPlace h k f.place f.ty
place_by h k at p passed None ty has is f t = absurd (cc)
place_by h k at p passed (Some step) ty has is f t =
    let same : typed_place p passed step ≡ f = cc in
    subst (λ (x : FieldPlace). IsPlace h k x.place x.ty) same
    (record { pointer = has; path = passes_path h p.class is.0 passed step.base is.1 is.2.valid; class = is.2.class; of_class = is.2.of_class; element = is.2.element })

place_typed : (h : Classes) → IsHierarchy h → (e : Setting) (s : Scene) (k : Scope) → IsSetting e k → IsScene s k → (at : ℕ) (text : PlaceText) (f : FieldPlace) → (place_of h e s at text).typed ≡ Ok f → IsPlace h k f.place f.ty
unfolding place_of
place_typed h keeps e s k f g at text place t =
    let p = then_both (pointer_of e s at text.pointer).typed _ place t in
    let r = then_both (steps_of h at (begun p.0.class) text.parts).typed _ place p.2 in
    place_by h k at p.0 r.0.passed r.0.last r.0.ty (pointer_typed e s k f g at text.pointer p.0 p.1) (steps_typed h keeps at p.0.class (begun p.0.class) text.parts (refl, refl) r.0 r.1) place r.2

as_leaf_typed : (h : Classes) (k : Scope) (at : ℕ) (place : TypedPlace) (ty : FieldType ClassId) → IsPlace h k place ty → (leaf : LeafPlace) → (as_leaf at place ty).typed ≡ Ok leaf → IsPlace h k leaf.place (field.Value leaf.ty)
as_leaf_typed h k at place (field.Object c) is leaf t = absurd (cc)
as_leaf_typed h k at place (field.Value ty) is leaf t = let same : record { place = place; ty = ty } ≡ leaf = cc in subst (λ (x : LeafPlace). IsPlace h k x.place (field.Value x.ty)) same is

pub leaf_typed : (h : Classes) → IsHierarchy h → (e : Setting) (s : Scene) (k : Scope) → IsSetting e k → IsScene s k → (at : ℕ) (text : PlaceText) (leaf : LeafPlace) → (leaf_of h e s at text).typed ≡ Ok leaf → IsPlace h k leaf.place (field.Value leaf.ty)
unfolding leaf_of
leaf_typed h keeps e s k f g at text leaf t =
    let r = then_both (place_of h e s at text).typed _ leaf t in
    as_leaf_typed h k at r.0.place r.0.ty (place_typed h keeps e s k f g at text r.0 r.1) leaf r.2

as_object_typed : (h : Classes) (k : Scope) (at : ℕ) (place : TypedPlace) (ty : FieldType ClassId) → IsPlace h k place ty → (x : ObjectPlace) → (as_object at place ty).typed ≡ Ok x → IsPlace h k x.place (field.Object x.class)
as_object_typed h k at place (field.Value ty) is x t = absurd (cc)
as_object_typed h k at place (field.Object c) is x t = let at_place : place ≡ x.place = cc in let at_class : c ≡ x.class = cc in subst (λ (y : TypedPlace). IsPlace h k y (field.Object x.class)) at_place (subst (λ (d : ClassId). IsPlace h k place (field.Object d)) at_class is)

pub object_place_typed : (h : Classes) → IsHierarchy h → (e : Setting) (s : Scene) (k : Scope) → IsSetting e k → IsScene s k → (at : ℕ) (text : PlaceText) (x : ObjectPlace) → (object_place_of h e s at text).typed ≡ Ok x →
    IsPlace h k x.place (field.Object x.class)
unfolding object_place_of
object_place_typed h keeps e s k f g at text x t =
    let r = then_both (place_of h e s at text).typed _ x t in
    as_object_typed h k at r.0.place r.0.ty (place_typed h keeps e s k f g at text r.0 r.1) x r.2
