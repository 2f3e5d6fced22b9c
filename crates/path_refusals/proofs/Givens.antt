-- What a typed statement is given, of its values and of the paths from them.
use Rattle.std.specs.Prelude.{is_none}
use Rattle.std.proofs.Common.{arith, ◌≡◌, true, false, Option, Some, None, List, [], ◌∷◌, ◌++◌, refl, ap, sym, subst, ◌∙◌, append-nil}
use Rattle.foundation.proofs.Truth.{is_false}
use Rattle.cxx_hierarchy.specs.declared.records.ClassId.{ClassId}
use Rattle.cxx_hierarchy.specs.declared.records.ValueType.{ValueType}
use Rattle.cxx_hierarchy.specs.declared.records.ValueType.TheVariants.{Number as NumberType, Pointer as PointerType}
use Rattle.cxx_hierarchy.specs.declared.records.ReturnType.TheVariants.{Value as ValueReturn}
use Rattle.cxx_hierarchy.specs.Classes.{Classes}
use Rattle.cxx_subobject.specs.declared.Subobject.{Subobject}
use Rattle.cxx_subobject.specs.Subobjects.{class_of}
use Rattle.cxx_subobject.specs.Locations.{ObjectPart}
use Rattle.cxx_program.specs.declared.operand.TypedOperand.{TypedOperand}
use Rattle.cxx_program.specs.declared.operand.Conversion.{Conversion}
use Rattle.cxx_program.specs.declared.operand.Conversion.TheVariants.{Number as ToNumber, Bits as ToBits, Null as ToNull, Same as ToSame, Base as ToBase}
use Rattle.cxx_program.specs.declared.operand.Argument.{Argument}
use Rattle.cxx_program.specs.declared.statement.PassedMember.{PassedMember}
use Rattle.cxx_program.specs.declared.statement.TypedPlace.{TypedPlace}
use Rattle.cxx_program.specs.Typed.{Scope, HasType, Converts, to_number, to_same, to_base, IsArgument, a_value, a_null}
use Rattle.path_rules.specs.declared.Undefined.{Undefined}
use Rattle.path_plan.specs.Views.{Settled}
use Rattle.path_model.specs.Values.{Value, Unset, Number, Null, Pointer, Objects, Sight, value_of_operand}
use Rattle.path_model.specs.Places.{passed_part}
use Rattle.path_model.specs.TypedStates.{IsValue}
use Rattle.path_model.specs.Uses.{StatementUse, Reads, Guards, Passes, uses_of_view, arrow, path_uses, is_shared, convert, leaf_uses, Wanted}
use Rattle.path_model.specs.Rules.{refused, names, is_unready, is_clear}
use Rattle.path_model.specs.Typed.{IsOf, IsPath, IsReturn, ConvertsClass as Leads}
use Rattle.path_model.proofs.Ranks.{rank, rank_append, rank_full}
use Rattle.path_model.proofs.Single.{guard_rank, pass_rank}
use Rattle.path_model.proofs.TypedValues.{operand_typed}
use Rattle.path_heap.specs.declared.state.Value.{Value as ValueCode}
use Rattle.path_heap.specs.declared.heap.Heap.{Heap}
use Rattle.path_heap.specs.Stands.{Means}
use Rattle.path_values.specs.Given.{HasTypesOfScope, GivesBack}
use Rattle.path_values.specs.Conversions.{CanReach, CanConvert}
use Rattle.path_values.specs.Open.{IsOpen}
use Rattle.path_values.proofs.Seen.{sight_typed}
use Rattle.path_refusals.specs.invariants.Pieces.{SightStands, MeansValueOf, way_uses}
use Rattle.path_refusals.proofs.Refused.{clear_rank, goes_on}
use Rattle.path_refusals.proofs.Reading.{begun_of, arrow_clear, full_none}
use Rattle.path_refusals.proofs.Paths.{inner_begun}
use Rattle.path_values.specs.declared.scene.Scene.{Scene}

-- the class of a type, where it is a pointer
abbrev pub class_in : ValueType ClassId → ClassId
class_in (NumberType t) = record { 0 = 0 }
class_in (PointerType c) = c

pub of_value : (h : Classes) (s : Objects) (x : Value) (t : ValueType ClassId) → IsValue h s.classes x t → IsOf s x (class_in t)
of_value h s Unset t a = tt
of_value h s (Number z) t a = tt
of_value h s Null t a = tt
of_value h s (Pointer p) (NumberType t) a = absurd a
of_value h s (Pointer p) (PointerType c) a = (a.of_class, (a.class, a.made))

-- the value of a typed operand
pub operand_value : (h : Classes) (heap : Heap) (scene : Scene) (e : Scope) (s : Sight) → SightStands h heap scene e s → (x : TypedOperand) (c : ClassId) → HasType e x (PointerType c)
    → (v : ValueCode) → Means h s.objects.classes v (value_of_operand s x) → MeansValueOf h heap s.objects v (value_of_operand s x) c
operand_value h heap scene e s a x c has v m = record {
  heap_stands = a.stands.heap_stands;
  means = m;
  settled = a.seen.settled;
  of_class = of_value h s.objects (value_of_operand s x) (PointerType c) (operand_typed h e s (sight_typed h e s a.seen) x (PointerType c) has);
}

-- conversions

leads : (h : Classes) (t u : ValueType ClassId) (c : Conversion) → Converts h t c u → Leads h (class_in t) c (class_in u)
leads h _ _ _ (to_number s t) = refl
leads h _ _ _ (to_same t) = refl
leads h _ _ _ (to_base c d i a) = a

pub return_given : (h : Classes) (e : Scope) (s : Sight) (w : Wanted) → HasTypesOfScope h e s → GivesBack h e w → (a : Argument) (t : ValueType ClassId) → e.returns ≡ Some (ValueReturn t) → IsArgument h e a t → IsReturn h s w (Some a)
return_given h e s w seen back _ _ is (a_value a u t has fits) =
    let b = back t is in
    (class_in u, class_in t, class_in b.0, class_in b.1, of_value h s.objects (value_of_operand s a.operand) u (operand_typed h e s (sight_typed h e s seen) a.operand u has), leads h u t a.conversion fits, leads h t b.0 w.found b.2, leads h b.0 b.1 w.target b.3)
return_given h e s w seen back _ _ is (a_null d) =
    let b = back (PointerType d) is in
    (d, d, class_in b.0, class_in b.1, tt, refl, leads h (PointerType d) b.0 w.found b.2, leads h b.0 b.1 w.target b.3)

-- a conversion that breaks no rule can be done
pub can_convert : (h : Classes) (s : Objects) (x : Value) (c d : ClassId) (k : Conversion) → IsOf s x c → Leads h c k d → None ≡ refused h s (convert x k) → CanConvert h s x k
can_convert h s x c d (ToNumber t) a b e = tt
can_convert h s x c d (ToBits t n) a b e = tt
can_convert h s x c d ToNull a b e = tt
can_convert h s x c d ToSame a b e = tt
can_convert h s x c d (ToBase i) a b e = reach x a (is_false (names (is_unready s) x) (λ f.
    let r = clear_rank h s (Guards x ∷ uses_of_view (is_shared i) x) e in
    let t = rank_append h s (Guards x ∷ []) (uses_of_view (is_shared i) x) in
    let g = guard_rank h s x true f in omega (arith, r, t, g)))
  where
    reach : (x : Value) → IsOf s x c → names (is_unready s) x ≡ false → CanReach h s x i
    reach Unset a f = tt
    reach (Number z) a f = tt
    reach Null a f = tt
    reach (Pointer p) a f = record { begun = begun_of s p f; class = c; of_class = a.0; valid = b.valid }

-- behind a reading that breaks no rule
pub convert_clear : (h : Classes) (s : Objects) (x : Value) (k : Conversion) → None ≡ refused h s (Reads x ∷ convert x k) → None ≡ refused h s (convert x k)
convert_clear h s x k e = full h s (convert x k) (let r = clear_rank h s (Reads x ∷ convert x k) e in let t = rank_append h s (Reads x ∷ []) (convert x k) in let f = rank_full h s (convert x k) in omega (arith, r, t, f))
  where
    full : (h : Classes) (s : Objects) (us : List StatementUse) → rank h s us ≡ 12 → None ≡ refused h s us
    full h s us e = full_none h s us e

-- paths

-- a path that breaks no rule can be followed
opened : (h : Classes) (s : Objects) (p : ObjectPart) (c : ClassId) (xs : List PassedMember) (last : Subobject) → is_unready s p ≡ false → Settled h p.object s.phases → class_of p.at ≡ Some c → IsPath h c xs last → rank h s (path_uses p xs last) ≡ 12 → IsOpen h s p c xs last
opened h s p c [] last e settled class path r = record { begun = begun_of s p e; of_class = class; valid = path; inner_begun = inner_begun h s p c last class settled e path }
opened h s p c (x ∷ rest) last e settled class path r =
    let next = passed_part p x in
    let t = rank_append h s (uses_of_view (is_shared x.base) (Pointer p)) (Passes next ∷ path_uses next rest last) in
    let u = rank_append h s (Passes next ∷ []) (path_uses next rest last) in
    let f = rank_full h s (path_uses next rest last) in
    let g : is_unready s next ≡ false = is_false (is_unready s next) (λ b. let v = pass_rank h s next true b in omega (arith, r, t, u, v)) in (
      record { begun = begun_of s p e; of_class = class; valid = path.0.valid; inner_begun = inner_begun h s p c x.base class settled e path.0.valid },
      path.0,
      opened h s next x.class rest last g settled refl path.1 (omega (arith, r, t, u, f)),
    )

pub open_path : (h : Classes) (heap : Heap) (s : Objects) (v : ValueCode) (p : ObjectPart) (place : TypedPlace) → MeansValueOf h heap s v (Pointer p) place.class → IsPath h place.class place.passed place.base → None ≡ refused h s (way_uses place (Pointer p)) → IsOpen h s p place.class place.passed place.base
open_path h heap s v p place a path e =
    let r = clear_rank h s (way_uses place (Pointer p)) e in
    let t = rank_append h s (arrow (Pointer p)) (path_uses p place.passed place.base) in
    let f = rank_full h s (arrow (Pointer p)) in
    let g = rank_full h s (path_uses p place.passed place.base) in
    let clear = full_none h s (arrow (Pointer p)) (omega (arith, r, t, f, g)) in
    opened h s p place.class place.passed place.base (arrow_clear h s (Pointer p) clear) (a.settled p.object a.of_class.1.0 a.of_class.1.1) a.of_class.0 path (omega (arith, r, t, f, g))

-- what is read

pub read_stops : (h : Classes) (s : Objects) (us : List StatementUse) (x : Value) (c : Conversion) (r : Undefined) → Some r ≡ refused h s us → Some r ≡ refused h s (us ++ leaf_uses (is_clear h s us) x c)
read_stops h s us x c r e = subst (λ (o : Option Undefined). Some r ≡ refused h s (us ++ leaf_uses (is_none o) x c)) e (e ∙ sym (ap (λ vs. refused h s vs) (append-nil us)))

pub read_goes_on : (h : Classes) (s : Objects) (us : List StatementUse) (x : Value) (c : Conversion) (rule : Option Undefined) → None ≡ refused h s us → rule ≡ refused h s (Reads x ∷ convert x c) → rule ≡ refused h s (us ++ leaf_uses (is_clear h s us) x c)
read_goes_on h s us x c rule e f = subst (λ (o : Option Undefined). rule ≡ refused h s (us ++ leaf_uses (is_none o) x c)) e (goes_on h s us (Reads x ∷ convert x c) rule e f)
