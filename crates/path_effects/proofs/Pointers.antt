-- The pointers that a clear statement uses: they name parts that are ready, of the classes that the types say.
use Rattle.std.proofs.Common.{◌≡◌, ℕ, true, Option, Some, None, List, ◌++◌, inl, inr, refl, subst, sym, ◌∙◌}
use Rattle.foundation.proofs.Members.{Has}
use Rattle.cxx_hierarchy.specs.declared.records.ClassId.{ClassId}
use Rattle.cxx_hierarchy.specs.declared.records.ValueType.{ValueType}
use Rattle.cxx_hierarchy.specs.declared.records.ValueType.TheVariants.{Pointer as PointerType}
use Rattle.cxx_hierarchy.specs.Classes.{Classes}
use Rattle.cxx_subobject.specs.declared.Subobject.{Subobject}
use Rattle.cxx_subobject.specs.Subobjects.{IsSubobject, class_of}
use Rattle.cxx_subobject.specs.Locations.{ObjectPart}
use Rattle.cxx_program.specs.declared.operand.TypedOperand.{TypedOperand}
use Rattle.cxx_program.specs.declared.statement.TypedPlace.{TypedPlace}
use Rattle.cxx_program.specs.declared.statement.TypedCall.{TypedCall}
use Rattle.cxx_hierarchy.specs.declared.records.FieldType.{FieldType}
use Rattle.cxx_hierarchy.specs.declared.records.Function.{Function}
use Rattle.cxx_program.specs.Typed.{Scope, HasType, IsPlace, IsWay, IsCall}
use Rattle.path_plan.specs.Phases.{is_ready}
use Rattle.path_plan.specs.Views.{Settled}
use Rattle.path_model.specs.Values.{Value, Pointer, Objects, Sight, value_of_operand, inner_part, to_base as moved}
use Rattle.path_model.specs.Uses.{StatementUse, Reads, Follows, Guards, arrow, of_part, path_uses, place_uses, goes_to, receiver_value}
use Rattle.path_model.specs.Rules.{refused}
use Rattle.path_model.specs.Typed.{AllSettled}
use Rattle.path_model.specs.TypedStates.{IsPartMade, IsValue}
use Rattle.path_model.proofs.TypedValues.{inner_made, operand_typed}
use Rattle.path_model.proofs.TypedUses.{followed}
use Rattle.path_heap.specs.declared.state.Value.TheVariants.{Pointer as PointerCode}
use Rattle.path_heap.specs.Points.{Points}
use Rattle.path_heap.specs.Stands.{HasBegun, Means}
use Rattle.path_values.specs.Open.{IsOpen}
use Rattle.path_values.specs.Conversions.{CanReach, CanGo}
use Rattle.path_values.specs.Given.{HasTypesOfScope}
use Rattle.path_values.proofs.Seen.{sight_typed}
use Rattle.path_effects.proofs.Clear.{clear_back, ready_begun, guarded, inner_ready, path_open}

pub seen_value : (h : Classes) (e : Scope) (s : Sight) → HasTypesOfScope h e s → (x : TypedOperand) (t : ValueType ClassId) → HasType e x t → IsValue h s.objects.classes (value_of_operand s x) t
seen_value h e s a x t has = operand_typed h e s (sight_typed h e s a) x t has

-- the value is a pointer to a part that is ready, of class c
pub record NamesReady (h : Classes) (s : Objects) (v : Value) (c : ClassId) : Type 0 where
  pub part : ObjectPart
  pub is : v ≡ Pointer part
  pub made : IsPartMade h s.classes part c
  pub ready : is_ready (s.phases.phase part) ≡ true

-- what is read, followed and guarded
pub names_ready : (h : Classes) (s : Objects) (us : List StatementUse) → refused h s us ≡ None → (v : Value) → Has us (Reads v) → Has us (Follows v) → Has us (Guards v) → (c : ClassId) → IsValue h s.classes v (PointerType c) → NamesReady h s v c
names_ready h s us clear v reads follows guards c a =
    let n = followed h s us clear v reads follows c a in
    record { part = n.part; is = n.is; made = n.made; ready = guarded h s us clear n.part (subst (λ (w : Value). Has us (Guards w)) n.is guards) }

pub arrow_ready : (h : Classes) (s : Objects) (v : Value) (more : List StatementUse) → refused h s (arrow v ++ more) ≡ None → (c : ClassId) → IsValue h s.classes v (PointerType c) → NamesReady h s v c
arrow_ready h s v more clear c a = names_ready h s (arrow v ++ more) clear v (inl refl) (inr (inl refl)) (inr (inr (inl refl))) c a

-- a number of a part that has begun, of the class c
pub record IsAt (h : Classes) (s : Objects) (n : ℕ) (p : ObjectPart) (c : ClassId) : Type 0 where
  pub points : Points h s.classes n p
  pub begun : HasBegun s p
  pub of_class : class_of p.at ≡ Some c

pub names_at : (h : Classes) (s : Objects) (v : Value) (c : ClassId) → NamesReady h s v c → (p : ObjectPart) → v ≡ Pointer p → (n : ℕ) → Means h s.classes (PointerCode n) v → IsAt h s n p c
names_at h s v c r p is n m =
    let same : r.part ≡ p = let f : Pointer r.part ≡ Pointer p = sym r.is ∙ is in cc in
    record {
      points = subst (λ (w : Value). Means h s.classes (PointerCode n) w) is m;
      begun = subst (λ (q : ObjectPart). HasBegun s q) same (ready_begun s r.part r.ready);
      of_class = subst (λ (q : ObjectPart). class_of q.at ≡ Some c) same r.made.of_class;
    }

pub settled_at : (h : Classes) (s : Objects) → AllSettled h s → (p : ObjectPart) (c : ClassId) → IsPartMade h s.classes p c → Settled h p.object s.phases
settled_at h s all p c a = all p.object a.class a.made

-- a base of what is ready
pub inner_names : (h : Classes) (s : Objects) → AllSettled h s → (p : ObjectPart) (c d : ClassId) (i : Subobject) → IsPartMade h s.classes p c → is_ready (s.phases.phase p) ≡ true → IsSubobject h c i → class_of i ≡ Some d → NamesReady h s (Pointer (inner_part p i)) d
inner_names h s all p c d i made ready valid class = record {
  part = inner_part p i;
  is = refl;
  made = inner_made h s.classes p c d i made valid class;
  ready = inner_ready h s p c i made.of_class (settled_at h s all p c made) valid ready;
}

-- places

-- the pointer of a place, and its path
pub record IsPlaceReady (h : Classes) (s : Sight) (place : TypedPlace) : Type 0 where
  pub names : NamesReady h s.objects (value_of_operand s place.pointer) place.class
  pub path : IsOpen h s.objects names.part place.class place.passed place.base

pub place_ready : (h : Classes) (e : Scope) (s : Sight) → HasTypesOfScope h e s → (place : TypedPlace) (t : FieldType ClassId) → IsPlace h e place t → refused h s.objects (place_uses s place) ≡ None → IsPlaceReady h s place
place_ready h e s a place t is clear =
    let v = value_of_operand s place.pointer in
    let rest = λ (w : Value). of_part (λ p. path_uses p place.passed place.base) w in
    let n = arrow_ready h s.objects v (rest v) clear place.class (seen_value h e s a place.pointer (PointerType place.class) is.pointer) in
    let behind : refused h s.objects (rest v) ≡ None = clear_back h s.objects (arrow v) (rest v) clear in
    let here : refused h s.objects (path_uses n.part place.passed place.base) ≡ None = subst (λ (w : Value). refused h s.objects (rest w) ≡ None) n.is behind in
    record {
      names = n;
      path = path_open h s.objects n.part place.class place.passed place.base n.made.of_class (settled_at h s.objects a.settled n.part place.class n.made) is.path n.ready here;
    }

-- calls

can_reach_ready : (h : Classes) (s : Objects) (v : Value) (c : ClassId) (i : Subobject) → NamesReady h s v c → IsSubobject h c i → CanReach h s v i
can_reach_ready h s v c i n valid = subst (λ (w : Value). CanReach h s w i) (sym n.is) (record { begun = ready_begun s n.part n.ready; class = c; of_class = n.made.of_class; valid = valid })

-- the pointer of a call, what stands before `::`, and the receiver
pub record IsCallReady (h : Classes) (s : Sight) (call : TypedCall) : Type 0 where
  pub goes : CanGo h s.objects (value_of_operand s call.pointer) call.qualifier
  pub reaches : CanReach h s.objects (goes_to call.qualifier (value_of_operand s call.pointer)) call.base
  pub this : NamesReady h s.objects (receiver_value s call) call.function.class

way_ready : (h : Classes) (s : Objects) → AllSettled h s → (v : Value) (c d : ClassId) (q : Option Subobject) → IsWay h c q d → NamesReady h s v c → NamesReady h s (goes_to q v) d
way_ready h s all v c d None way n = subst (λ (k : ClassId). NamesReady h s v k) way n
way_ready h s all v c d (Some i) way n = subst (λ (w : Value). NamesReady h s (moved i w) d) (sym n.is) (inner_names h s all n.part c d i n.made n.ready way.valid way.class)

can_go : (h : Classes) (s : Objects) (v : Value) (c d : ClassId) (q : Option Subobject) → IsWay h c q d → NamesReady h s v c → CanGo h s v q
can_go h s v c d None way n = tt
can_go h s v c d (Some i) way n = can_reach_ready h s v c i n way.valid

pub call_ready : (h : Classes) (e : Scope) (s : Sight) → HasTypesOfScope h e s → (call : TypedCall) (f : Function ClassId) → IsCall h e call f → (more : List StatementUse) → refused h s.objects (arrow (value_of_operand s call.pointer) ++ more) ≡ None → IsCallReady h s call
call_ready h e s a call f is more clear =
    let v = value_of_operand s call.pointer in
    let n = arrow_ready h s.objects v more clear call.class (seen_value h e s a call.pointer (PointerType call.class) is.pointer) in
    let w = way_ready h s.objects a.settled v call.class is.through call.qualifier is.way n in
    let r = inner_names h s.objects a.settled w.part is.through call.function.class call.base w.made w.ready is.base is.of_class in
    record {
      goes = can_go h s.objects v call.class is.through call.qualifier is.way n;
      reaches = can_reach_ready h s.objects (goes_to call.qualifier v) is.through call.base w is.base;
      this = subst (λ (x : Value). NamesReady h s.objects (moved call.base x) call.function.class) (sym w.is) r;
    }
