-- Values fit their types: those that are read, converted, kept in lists, or looked at when more objects were made.
use Rattle.std.proofs.Common.{◌≡◌, ℕ, zero, suc, Option, Some, None, List, [], ◌∷◌, ◌++◌, map, subst, sym, ◌∙◌}
use Rattle.std.specs.Prelude.{slice_get, slice_set, unwrap_or}
use Rattle.std.specs.List.{AllZip}
use Rattle.foundation.proofs.Places.{get_front}
use Rattle.cxx_hierarchy.specs.declared.records.ClassId.{ClassId}
use Rattle.cxx_hierarchy.specs.declared.records.ValueType.{ValueType}
use Rattle.cxx_hierarchy.specs.declared.records.ValueType.TheVariants.{Number as NumberType, Pointer as PointerType}
use Rattle.cxx_hierarchy.specs.Classes.{Classes}
use Rattle.cxx_subobject.specs.declared.Subobject.{Subobject}
use Rattle.cxx_subobject.specs.Subobjects.{IsSubobject, class_of}
use Rattle.cxx_subobject.specs.Locations.{ObjectPart}
use Rattle.cxx_subobject.proofs.InsideLemmas.{join_valid, join_class}
use Rattle.cxx_program.specs.declared.operand.Variable.{Variable}
use Rattle.cxx_program.specs.declared.operand.Variable.TheVariants.{Global, Local}
use Rattle.cxx_program.specs.declared.operand.TypedOperand.{TypedOperand}
use Rattle.cxx_program.specs.declared.operand.Conversion.{Conversion}
use Rattle.cxx_program.specs.declared.operand.Argument.{Argument}
use Rattle.cxx_program.specs.Typed.{Types, Scope, variable_type, HasType, of_variable, of_this, of_number, Converts, to_number, to_same, to_base, IsArgument, a_value, a_null}
use Rattle.path_model.specs.Values.{Value, Unset, Number, Null, Pointer, Leaf, Sight, variable_value, value_of_operand, converted_to, argument_value, inner_part}
use Rattle.path_model.specs.TypedStates.{IsPartMade, IsValue, AreValues, IsLeafMade, IsThis}
use Rattle.path_model.proofs.TypedRanges.{stored_in_range}

-- what a statement sees fits the scope of its body
pub record IsTypedSight (h : Classes) (e : Scope) (s : Sight) : Type 0 where
  pub globals : AreValues h s.objects.classes s.globals e.globals
  pub locals : AreValues h s.objects.classes s.locals e.locals
  pub this : IsThis h s.objects.classes e.this s.this
  pub leaves : (l : Leaf) (t : ValueType ClassId) → IsLeafMade h s.objects.classes l t → IsValue h s.objects.classes (s.objects.leaf l) t

-- lists of values

pub values_at : (h : Classes) (cs : List ClassId) (vs : List Value) (ts : Types) (n : ℕ) (t : ValueType ClassId) → AreValues h cs vs ts → slice_get ts n ≡ Some t → IsValue h cs (unwrap_or (slice_get vs n) Unset) t
values_at h cs vs [] n t a e = absurd (let f : None ≡ Some t = e in cc)
values_at h cs [] (u ∷ us) n t a e = absurd a
values_at h cs (v ∷ vs) (u ∷ us) zero t a e = let same : u ≡ t = cc in subst (λ (x : ValueType ClassId). IsValue h cs v x) same a.0
values_at h cs (v ∷ vs) (u ∷ us) (suc n) t a e = values_at h cs vs us n t a.1 e

pub values_set : (h : Classes) (cs : List ClassId) (vs : List Value) (ts : Types) (n : ℕ) (t : ValueType ClassId) (v : Value) → AreValues h cs vs ts → slice_get ts n ≡ Some t → IsValue h cs v t → AreValues h cs (slice_set vs n v) ts
values_set h cs vs [] n t v a e b = absurd (let f : None ≡ Some t = e in cc)
values_set h cs [] (u ∷ us) n t v a e b = absurd a
values_set h cs (w ∷ vs) (u ∷ us) zero t v a e b = let same : u ≡ t = cc in (subst (λ (x : ValueType ClassId). IsValue h cs v x) (sym same) b, a.1)
values_set h cs (w ∷ vs) (u ∷ us) (suc n) t v a e b = (a.0, values_set h cs vs us n t v a.1 e b)

pub values_append : (h : Classes) (cs : List ClassId) (vs ws : List Value) (ts us : Types) → AreValues h cs vs ts → AreValues h cs ws us → AreValues h cs (vs ++ ws) (ts ++ us)
values_append h cs [] ws [] us a b = b
values_append h cs [] ws (t ∷ ts) us a b = absurd a
values_append h cs (v ∷ vs) ws [] us a b = absurd a
values_append h cs (v ∷ vs) ws (t ∷ ts) us a b = (a.0, values_append h cs vs ws ts us a.1 b)

-- more objects

pub part_grown : (h : Classes) (cs more : List ClassId) (p : ObjectPart) (c : ClassId) → IsPartMade h cs p c → IsPartMade h (cs ++ more) p c
part_grown h cs more p c a = record { class = a.class; made = get_front cs more p.object a.class a.made; inside = a.inside; of_class = a.of_class }

pub value_grown : (h : Classes) (cs more : List ClassId) (v : Value) (t : ValueType ClassId) → IsValue h cs v t → IsValue h (cs ++ more) v t
value_grown h cs more Unset t a = tt
value_grown h cs more (Number z) (NumberType t) a = a
value_grown h cs more (Number z) (PointerType c) a = absurd a
value_grown h cs more Null (NumberType t) a = absurd a
value_grown h cs more Null (PointerType c) a = tt
value_grown h cs more (Pointer p) (NumberType t) a = absurd a
value_grown h cs more (Pointer p) (PointerType c) a = part_grown h cs more p c a

pub values_grown : (h : Classes) (cs more : List ClassId) (vs : List Value) (ts : Types) → AreValues h cs vs ts → AreValues h (cs ++ more) vs ts
values_grown h cs more [] [] a = tt
values_grown h cs more [] (t ∷ ts) a = absurd a
values_grown h cs more (v ∷ vs) [] a = absurd a
values_grown h cs more (v ∷ vs) (t ∷ ts) a = (value_grown h cs more v t a.0, values_grown h cs more vs ts a.1)

pub this_grown : (h : Classes) (cs more : List ClassId) (c : Option ClassId) (v : Value) → IsThis h cs c v → IsThis h (cs ++ more) c v
this_grown h cs more None v a = a
this_grown h cs more (Some c) v a = (a.0, a.1, part_grown h cs more a.0 c a.2)

-- parts

pub inner_made : (h : Classes) (cs : List ClassId) (p : ObjectPart) (c d : ClassId) (i : Subobject) → IsPartMade h cs p c → IsSubobject h c i → class_of i ≡ Some d → IsPartMade h cs (inner_part p i) d
inner_made h cs p c d i a valid class = record {
  class = a.class;
  made = a.made;
  inside = (a.inside.0, a.inside.1, join_valid h a.inside.0 c p.at i a.inside.2 a.of_class valid);
  of_class = join_class h c p.at i a.of_class valid ∙ class;
}

-- conversions

pub converted_value : (h : Classes) (cs : List ClassId) (s t : ValueType ClassId) (c : Conversion) → Converts h s c t → (v : Value) → IsValue h cs v s → IsValue h cs (converted_to v c) t
converted_value h cs _ _ _ (to_number s t) Unset a = tt
converted_value h cs _ _ _ (to_number s t) (Number z) a = stored_in_range t z
converted_value h cs _ _ _ (to_number s t) Null a = absurd a
converted_value h cs _ _ _ (to_number s t) (Pointer p) a = absurd a
converted_value h cs _ _ _ (to_same t) v a = a
converted_value h cs _ _ _ (to_base c d i b) Unset a = tt
converted_value h cs _ _ _ (to_base c d i b) (Number z) a = absurd a
converted_value h cs _ _ _ (to_base c d i b) Null a = tt
converted_value h cs _ _ _ (to_base c d i b) (Pointer p) a = inner_made h cs p c d i a b.valid b.class

-- operands

this_value : (h : Classes) (cs : List ClassId) (o : Option ClassId) (c : ClassId) (v : Value) → o ≡ Some c → IsThis h cs o v → IsValue h cs v (PointerType c)
this_value h cs None c v e a = absurd (let f : None ≡ Some c = e in cc)
this_value h cs (Some d) c v e a = let same : d ≡ c = cc in subst (λ (x : Value). IsValue h cs x (PointerType c)) (sym a.1) (subst (λ (x : ClassId). IsPartMade h cs a.0 x) same a.2)

pub variable_typed : (h : Classes) (e : Scope) (s : Sight) → IsTypedSight h e s → (x : Variable) (t : ValueType ClassId) → variable_type e x ≡ Some t → IsValue h s.objects.classes (variable_value s x) t
variable_typed h e s a (Global n) t is = values_at h s.objects.classes s.globals e.globals n t a.globals is
variable_typed h e s a (Local n) t is = values_at h s.objects.classes s.locals e.locals n t a.locals is

pub operand_typed : (h : Classes) (e : Scope) (s : Sight) → IsTypedSight h e s → (x : TypedOperand) (t : ValueType ClassId) → HasType e x t → IsValue h s.objects.classes (value_of_operand s x) t
operand_typed h e s a _ _ (of_variable x t is) = variable_typed h e s a x t is
operand_typed h e s a _ _ (of_this c is) = this_value h s.objects.classes e.this c s.this is a.this
operand_typed h e s a _ _ (of_number z t is) = is

pub argument_typed : (h : Classes) (e : Scope) (s : Sight) → IsTypedSight h e s → (x : Argument) (t : ValueType ClassId) → IsArgument h e x t → IsValue h s.objects.classes (argument_value s x) t
argument_typed h e s a _ _ (a_value x u t has fits) = converted_value h s.objects.classes u t x.conversion fits (value_of_operand s x.operand) (operand_typed h e s a x.operand u has)
argument_typed h e s a _ _ (a_null d) = tt

pub arguments_typed : (h : Classes) (e : Scope) (s : Sight) → IsTypedSight h e s → (xs : List Argument) (ts : Types) → AllZip (IsArgument h e) xs ts → AreValues h s.objects.classes (map (argument_value s) xs) ts
arguments_typed h e s a [] [] b = tt
arguments_typed h e s a [] (t ∷ ts) b = absurd b
arguments_typed h e s a (x ∷ xs) [] b = absurd b
arguments_typed h e s a (x ∷ xs) (t ∷ ts) b = (argument_typed h e s a x t b.0, arguments_typed h e s a xs ts b.1)
