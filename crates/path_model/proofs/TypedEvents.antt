-- An event of a plan leads from a typed state to a typed one, and is not wrong.
use Rattle.std.proofs.Common.{◌≡◌, ℕ, true, inr, ⊎_elim, Option, Some, None, List, [], ◌∷◌, refl, ap, subst, sym, ◌∙◌}
use Rattle.std.specs.Prelude.{slice_get, nat_eq, ◌&&◌, if◌then◌else◌}
use Rattle.std.proofs.lemmas.Bool.{eqb-true}
use Rattle.foundation.proofs.Truth.{split}
use Rattle.foundation.proofs.Members.{Has, contains_from_has}
use Rattle.foundation.proofs.Chosen.{find_passes}
use Rattle.cxx_hierarchy.specs.declared.records.ClassId.{ClassId}
use Rattle.cxx_hierarchy.specs.declared.records.ValueType.{ValueType}
use Rattle.cxx_hierarchy.specs.declared.records.FieldType.{FieldType}
use Rattle.cxx_hierarchy.specs.declared.records.FieldType.TheVariants.{Value as ValueField}
use Rattle.cxx_hierarchy.specs.Classes.{Classes, leaf_type, leaf_type_in, value_type_in, width_of_member}
use Rattle.cxx_hierarchy.specs.Hierarchies.{IsHierarchy}
use Rattle.cxx_subobject.specs.declared.Subobject.{Subobject}
use Rattle.cxx_subobject.specs.Locations.{Step, ObjectPart, IsElement, IsPartOf}
use Rattle.cxx_program.specs.declared.operand.TypedOperand.{TypedOperand}
use Rattle.cxx_program.specs.declared.operand.Argument.{Argument}
use Rattle.cxx_program.specs.declared.operand.Variable.TheVariants.{Global, Local}
use Rattle.cxx_program.specs.declared.program.Owner.{Owner}
use Rattle.cxx_program.specs.declared.program.Owner.TheVariants.{Constructor}
use Rattle.cxx_program.specs.declared.program.TypedInit.{TypedInit}
use Rattle.cxx_program.specs.declared.program.TypedBody.{TypedBody}
use Rattle.cxx_program.specs.declared.program.TypedProgram.{TypedProgram}
use Rattle.cxx_program.specs.Typed.{HasType, of_variable, of_this, of_number, IsKept, no_scope, IsTypedInit, AreInitsOf, IsTypedProgram}
use Rattle.path_plan.specs.Places.{part, same_part}
use Rattle.path_plan.specs.Phases.{PartEvent, Begin, Ready, Init, Body, Done, Ending, Bases, End, part_of, rest_of, with_pushed_part, popped}
use Rattle.path_plan.proofs.Same.{owner_same, part_same}
use Rattle.path_plan.specs.Places.{same_complete_object as same_place}
use Rattle.path_model.specs.Values.{Value, Leaf, Objects, converted_to}
use Rattle.path_model.specs.Places.{leaf}
use Rattle.path_model.specs.States.{owned_body, inits_in, member_init}
use Rattle.path_model.specs.Outs.{class_or_first}
use Rattle.path_model.specs.Effects.{with_leaf, same_leaf}
use Rattle.path_model.specs.Steps.{constant, init_value, class_of_part, leaves_after, objects_after}
use Rattle.path_model.specs.TypedStates.{IsPartMade, IsValue, IsInBitField, IsLeafMade, width_of_leaf}
use Rattle.path_model.proofs.TypedBits.{member_room, made_width, unset_held, kept_typed, kept_held}
use Rattle.path_model.proofs.TypedViews.{AreRunningParts, both_left, both_right}
use Rattle.path_model.proofs.TypedBodies.{body_typed}

-- initializers

constant_has : (h : Classes) (cs : List ClassId) (x : TypedOperand) (t : ValueType ClassId) → HasType no_scope x t → IsValue h cs (constant x) t
constant_has h cs _ _ (of_variable (Global n) t e) = tt
constant_has h cs _ _ (of_variable (Local n) t e) = tt
constant_has h cs _ _ (of_this c e) = tt
constant_has h cs _ _ (of_number z t e) = e

leaf_type_is : (ty : FieldType ClassId) (count : Option ℕ) (t u : ValueType ClassId) → value_type_in ty count ≡ Some u → ty ≡ ValueField t → u ≡ t
leaf_type_is ty None t u e is = let f : Some t ≡ Some u = subst (λ (x : FieldType ClassId). value_type_in x None ≡ Some u) is e in cc
leaf_type_is ty (Some n) t u e is = absurd (let f : None ≡ Some u = subst (λ (x : FieldType ClassId). value_type_in x (Some n) ≡ Some u) is e in cc)

-- a member that is a number or a pointer has the type of its element
member_type : (h : Classes) (c : ClassId) (m i : ℕ) (t u : ValueType ClassId) → leaf_type h c m ≡ Some u → IsElement h c m i (ValueField t) → u ≡ t
member_type h c m i t u e el = leaf_type_is el.member.ty el.member.count t u (sym (ap leaf_type_in el.there) ∙ e) el.type_is

pub inits_of : (h : Classes) (program : TypedProgram) → IsTypedProgram h program → (c : ClassId) (o : Option TypedBody) → owned_body program (Constructor c) ≡ o → (init : TypedInit) → Has (inits_in o) init → IsTypedInit h c init
inits_of h program a c None e init has = absurd has
inits_of h program a c (Some body) e init has =
    let b = body_typed h program a (Constructor c) body e in
    let inits = subst (λ (o : Owner). AreInitsOf h o body.inits) b.0 b.1.inits in
    inits.each init (contains_from_has body.inits init has)

-- what an initializer of the member gives has its type, and its bits can hold it
init_typed : (h : Classes) (program : TypedProgram) (cs : List ClassId) → IsHierarchy h → IsTypedProgram h program → (c : ClassId) (m i : ℕ) (t : ValueType ClassId) → IsElement h c m i (ValueField t) → (o : Option TypedInit) → member_init program c m ≡ o
    → IsValue h cs (init_value o) t × IsInBitField (width_of_member h c m) (init_value o) t
init_typed h program cs keeps a c m i t el None e = (tt, unset_held (width_of_member h c m) t)
init_typed h program cs keeps a c m i t el (Some init) e =
    let p = find_passes (λ (x : TypedInit). nat_eq x.member m) (inits_in (owned_body program (Constructor c))) init e in
    let is = inits_of h program a c (owned_body program (Constructor c)) refl init p.0 in
    let number = eqb-true init.member m p.1 in
    let at : leaf_type h c m ≡ Some is.type = ap (leaf_type h c) (sym number) ∙ is.of_member in
    let same = member_type h c m i t is.type at el in
    let x : Argument = record { operand = init.operand; conversion = init.conversion } in
    let kept = subst (λ k. IsKept h no_scope (width_of_member h c k) x t) number (subst (λ (u : ValueType ClassId). IsKept h no_scope (width_of_member h c init.member) x u) same is.value) in
    (kept_typed h cs no_scope constant (constant_has h cs) x t (width_of_member h c m) (member_room h keeps c m i t el) kept, kept_held h cs no_scope constant (constant_has h cs) x t (width_of_member h c m) kept)

-- leaves

pub leaf_is : (a b : Leaf) → same_leaf a b ≡ true → a ≡ b
leaf_is a b e =
    let rest = both_right (same_part a.part b.part) (nat_eq a.member b.member && nat_eq a.index b.index) e in
    let at = part_same a.part b.part (both_left (same_part a.part b.part) (nat_eq a.member b.member && nat_eq a.index b.index) e) in
    let member = eqb-true a.member b.member (both_left (nat_eq a.member b.member) (nat_eq a.index b.index) rest) in
    let index = eqb-true a.index b.index (both_right (nat_eq a.member b.member) (nat_eq a.index b.index) rest) in
    let r : leaf a.part a.member a.index ≡ leaf b.part b.member b.index = cc (at, member, index) in r

-- one leaf takes a value, of which Q holds
pub leaf_set_keeps : (h : Classes) (cs : List ClassId) (Q : Leaf → Value → ValueType ClassId → Type 0) (values : Leaf → Value) (l : Leaf) (v : Value) → ((t : ValueType ClassId) → IsLeafMade h cs l t → Q l v t)
    → ((m : Leaf) (t : ValueType ClassId) → IsLeafMade h cs m t → Q m (values m) t) → (m : Leaf) (t : ValueType ClassId) → IsLeafMade h cs m t → Q m (with_leaf values l v m) t
leaf_set_keeps h cs Q values l v new old m t made = split (same_leaf l m) (λ b. Q m (if b then v else values m) t)
    (λ e. let same = leaf_is l m e in subst (λ (x : Leaf). Q x v t) same (new t (subst (λ (x : Leaf). IsLeafMade h cs x t) (sym same) made))) (λ _. old m t made)

class_of_made : (h : Classes) (cs : List ClassId) (p : ObjectPart) (c : ClassId) → IsPartMade h cs p c → class_of_part p ≡ c
class_of_made h cs p c a = ap class_or_first a.of_class

init_leaf : (h : Classes) (program : TypedProgram) (cs : List ClassId) → IsHierarchy h → IsTypedProgram h program → (p : ObjectPart) (m : ℕ) (t : ValueType ClassId) → (made : IsLeafMade h cs (leaf p m 0) t)
    → IsValue h cs (init_value (member_init program (class_of_part p) m)) t × IsInBitField (width_of_leaf h (leaf p m 0)) (init_value (member_init program (class_of_part p) m)) t
init_leaf h program cs keeps a p m t made =
    let class = sym (class_of_made h cs p made.class made.part) in
    let r = init_typed h program cs keeps a made.class m 0 t made.element (member_init program made.class m) refl in (
      subst (λ (c : ClassId). IsValue h cs (init_value (member_init program c m)) t) class r.0,
      subst (λ w. IsInBitField w (init_value (member_init program (class_of_part p) m)) t) (sym (made_width h cs (leaf p m 0) t made))
          (subst (λ (c : ClassId). IsInBitField (width_of_member h made.class m) (init_value (member_init program c m)) t) class r.1),
    )

-- an event keeps what holds of each leaf, where it holds of what an initializer gives
leaves_keep : (h : Classes) (program : TypedProgram) (cs : List ClassId) (Q : Leaf → Value → ValueType ClassId → Type 0) → ((p : ObjectPart) (m : ℕ) (t : ValueType ClassId) → IsLeafMade h cs (leaf p m 0) t → Q (leaf p m 0) (init_value (member_init program (class_of_part p) m)) t)
    → (values : Leaf → Value) (e : PartEvent) → ((m : Leaf) (t : ValueType ClassId) → IsLeafMade h cs m t → Q m (values m) t) → (m : Leaf) (t : ValueType ClassId) → IsLeafMade h cs m t → Q m (leaves_after program values e m) t
leaves_keep h program cs Q new values (Begin p) old = old
leaves_keep h program cs Q new values (Ready p) old = old
leaves_keep h program cs Q new values (Init p m) old = leaf_set_keeps h cs Q values (leaf p m 0) (init_value (member_init program (class_of_part p) m)) (new p m) old
leaves_keep h program cs Q new values (Body p) old = old
leaves_keep h program cs Q new values (Done p) old = old
leaves_keep h program cs Q new values (Ending p) old = old
leaves_keep h program cs Q new values (Bases p) old = old
leaves_keep h program cs Q new values (End p) old = old

pub leaves_typed : (h : Classes) (program : TypedProgram) (cs : List ClassId) (values : Leaf → Value) → IsHierarchy h → IsTypedProgram h program → (e : PartEvent)
    → ((m : Leaf) (t : ValueType ClassId) → IsLeafMade h cs m t → IsValue h cs (values m) t) → (m : Leaf) (t : ValueType ClassId) → IsLeafMade h cs m t → IsValue h cs (leaves_after program values e m) t
leaves_typed h program cs values keeps a e old = leaves_keep h program cs (λ l v t. IsValue h cs v t) (λ p m t made. (init_leaf h program cs keeps a p m t made).0) values e old

pub leaves_held : (h : Classes) (program : TypedProgram) (cs : List ClassId) (values : Leaf → Value) → IsHierarchy h → IsTypedProgram h program → (e : PartEvent)
    → ((m : Leaf) (t : ValueType ClassId) → IsLeafMade h cs m t → IsInBitField (width_of_leaf h m) (values m) t) → (m : Leaf) (t : ValueType ClassId) → IsLeafMade h cs m t → IsInBitField (width_of_leaf h m) (leaves_after program values e m) t
leaves_held h program cs values keeps a e old = leaves_keep h program cs (λ l v t. IsInBitField (width_of_leaf h l) v t) (λ p m t made. (init_leaf h program cs keeps a p m t made).1) values e old

-- what runs

pushed_runs : (h : Classes) (s : Objects) (p : ObjectPart) (class : ClassId) → slice_get s.classes p.object ≡ Some class → IsPartOf h class p → AreRunningParts h s
    → (k : ℕ) (c : ClassId) (o : List Step) (x : Subobject) → slice_get s.classes k ≡ Some c → Has (with_pushed_part s.phases.running p k o) x → IsPartOf h c (part k o x)
pushed_runs h s p class made inside old k c o x got has = split (same_place p.object p.owner k o) (λ b. Has (if b then p.at ∷ s.phases.running k o else s.phases.running k o) x → IsPartOf h c (part k o x))
    (λ e has. ⊎_elim (λ top.
    let same = owner_same p.object p.owner k o e in
    let classes : class ≡ c = let f : Some class ≡ Some c = sym made ∙ (ap (slice_get s.classes) same.0 ∙ got) in cc in
    let is : p ≡ part k o x = let r : part p.object p.owner p.at ≡ part k o x = cc (same.0, same.1, top) in r in
    subst (λ (d : ClassId). IsPartOf h d (part k o x)) classes (subst (λ (q : ObjectPart). IsPartOf h class q) is inside))
    (λ more. old k c o x got more) has)
    (λ _ has. old k c o x got has) has

rest_has : (xs : List Subobject) (x : Subobject) → Has (rest_of xs) x → Has xs x
rest_has [] x a = a
rest_has (y ∷ xs) x a = inr a

popped_runs : (h : Classes) (s : Objects) (p : ObjectPart) → AreRunningParts h s
    → (k : ℕ) (c : ClassId) (o : List Step) (x : Subobject) → slice_get s.classes k ≡ Some c → Has (popped s.phases.running p k o) x → IsPartOf h c (part k o x)
popped_runs h s p old k c o x got has = split (same_place p.object p.owner k o) (λ b. Has (if b then rest_of (s.phases.running k o) else s.phases.running k o) x → IsPartOf h c (part k o x))
    (λ _ has. old k c o x got (rest_has (s.phases.running k o) x has)) (λ _ has. old k c o x got has) has

pub runs_after : (h : Classes) (program : TypedProgram) (s : Objects) (e : PartEvent) (class : ClassId) → slice_get s.classes (part_of e).object ≡ Some class → IsPartOf h class (part_of e) → AreRunningParts h s → AreRunningParts h (objects_after program s e)
runs_after h program s (Begin p) class made inside old = pushed_runs h s p class made inside old
runs_after h program s (Ready p) class made inside old = old
runs_after h program s (Init p m) class made inside old = old
runs_after h program s (Body p) class made inside old = old
runs_after h program s (Done p) class made inside old = popped_runs h s p old
runs_after h program s (Ending p) class made inside old = pushed_runs h s p class made inside old
runs_after h program s (Bases p) class made inside old = old
runs_after h program s (End p) class made inside old = popped_runs h s p old
