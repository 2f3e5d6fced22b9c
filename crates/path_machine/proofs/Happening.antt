-- What an event does to a machine, and what it tells.
use Rattle.std.proofs.Common.{◌≡◌, ◌⊎◌, ⊎_elim, ◌<◌, ℕ, true, false, Option, Some, None, List, [], ◌∷◌, refl, ap, subst, sym, ◌∙◌, arith}
use Rattle.std.specs.Prelude.{slice_get, nat_eq}
use Rattle.std.proofs.lemmas.Bool.{eqb-true}
use Rattle.foundation.proofs.Chosen.{find_passes}
use Rattle.cxx_hierarchy.specs.declared.records.ClassId.{ClassId}
use Rattle.cxx_hierarchy.specs.declared.records.Member.{Member}
use Rattle.cxx_hierarchy.specs.declared.records.ValueType.{ValueType}
use Rattle.cxx_hierarchy.specs.declared.records.FieldType.{FieldType}
use Rattle.cxx_hierarchy.specs.declared.records.FieldType.TheVariants.{Value as ValueField, Object}
use Rattle.cxx_hierarchy.specs.Declarations.{elements_of}
use Rattle.cxx_hierarchy.specs.Classes.{Classes, members_of, leaf_type, leaf_type_in, value_type_in}
use Rattle.cxx_subobject.specs.Subobjects.{class_of}
use Rattle.cxx_subobject.specs.Locations.{ObjectPart, IsElement}
use Rattle.cxx_program.specs.declared.program.Owner.TheVariants.{Constructor}
use Rattle.cxx_program.specs.declared.program.TypedInit.{TypedInit}
use Rattle.cxx_program.specs.declared.program.TypedProgram.{TypedProgram}
use Rattle.cxx_program.specs.Typed.{IsTypedProgram}
use Rattle.path_plan.specs.Phases.{Phase, Raw, InBases, ReadyBuilding, Complete, ReadyEnding, EndingBases, Ended, is_half, PartEvent, Begin, Ready, Init, Body, Done, Ending, Bases, End}
use Rattle.path_plan.specs.Views.{Fits}
use Rattle.path_numbers.specs.Sizes.{sizes_of}
use Rattle.path_numbers.proofs.Heap.{at_good}
use Rattle.path_model.specs.declared.outs.Out.{Out}
use Rattle.path_model.specs.declared.outs.Out.TheVariants.{Built as BuiltOut, Ending as EndingOut}
use Rattle.path_model.specs.Values.{Value, Leaf, Objects}
use Rattle.path_model.specs.Places.{leaf}
use Rattle.path_model.specs.States.{ProgramState, owned_body, inits_in, member_init, is_init}
use Rattle.path_model.specs.Outs.{class_or_first, location_of}
use Rattle.path_model.specs.Effects.{leaf_set}
use Rattle.path_model.specs.Steps.{init_value, class_of_part, objects_after}
use Rattle.path_model.proofs.TypedEvents.{inits_of}
use Rattle.path_heap.specs.declared.state.NumberedPart.{NumberedPart}
use Rattle.path_heap.specs.declared.state.Value.{Value as ValueCode}
use Rattle.path_heap.specs.declared.heap.Heap.{Heap}
use Rattle.path_heap.specs.Points.{Points, PointsLeaf, StandsForPart}
use Rattle.path_heap.specs.Stands.{HeapStands, HasBegun, Means}
use Rattle.path_heap.proofs.Viewing.{points_of}
use Rattle.path_events.specs.declared.plan.PlanEvent.{PlanEvent}
use Rattle.path_events.specs.declared.plan.PlanEvent.TheVariants.{Begin as BeginCode, Ready as ReadyCode, Init as InitCode, Body as BodyCode, Done as DoneCode, Ending as EndingCode, Bases as BasesCode, End as EndCode}
use Rattle.path_events.specs.Plans.{begins_event, ready_event, init_event, body_event, done_event, ending_event, bases_event, end_event}
use Rattle.path_machine.specs.declared.machine.Machine.{Machine}
use Rattle.path_machine.specs.Machines.{MachineStands}
use Rattle.path_machine.specs.invariants.Events.{Happens, TellsEvent}
use Rattle.path_machine.specs.declared.telling.Telling.{Telling}
use Rattle.path_machine.specs.Tellings.{TellsMore}
use Rattle.path_machine.proofs.Effecting.{heaped, machine_heaped}
use Rattle.path_machine.proofs.Tellings.{nothing_more}

-- the events that the heap does

-- what a call of the heap does
abbrev pub HeapDoes : Classes → TypedProgram → (old new : Heap) → NumberedPart → (ObjectPart → PartEvent) → Type 0
HeapDoes h program old new part event = (s : Objects) (p : ObjectPart) → HeapStands h old s → StandsForPart h s.classes part p → Fits h s.phases (event p) → HeapStands h new (objects_after program s (event p))

pub begins : (h : Classes) (program : TypedProgram) (machine : Machine) (heap : Heap) (part : NumberedPart) → HeapDoes h program machine.heap heap part Begin → Happens h program machine (heaped machine heap) (BeginCode part)
begins h program machine heap part does sizes s _ a (begins_event _ p named) fits = machine_heaped h sizes program machine heap s (objects_after program s.objects (Begin p)) a (does s.objects p a.heap_stands named fits) refl

pub readies : (h : Classes) (program : TypedProgram) (machine : Machine) (heap : Heap) (part : NumberedPart) → HeapDoes h program machine.heap heap part Ready → Happens h program machine (heaped machine heap) (ReadyCode part)
readies h program machine heap part does sizes s _ a (ready_event _ p named) fits = machine_heaped h sizes program machine heap s (objects_after program s.objects (Ready p)) a (does s.objects p a.heap_stands named fits) refl

pub completes : (h : Classes) (program : TypedProgram) (machine : Machine) (heap : Heap) (part : NumberedPart) → HeapDoes h program machine.heap heap part Done → Happens h program machine (heaped machine heap) (DoneCode part)
completes h program machine heap part does sizes s _ a (done_event _ p named) fits = machine_heaped h sizes program machine heap s (objects_after program s.objects (Done p)) a (does s.objects p a.heap_stands named fits) refl

pub starts_ending : (h : Classes) (program : TypedProgram) (machine : Machine) (heap : Heap) (part : NumberedPart) → HeapDoes h program machine.heap heap part Ending → Happens h program machine (heaped machine heap) (EndingCode part)
starts_ending h program machine heap part does sizes s _ a (ending_event _ p named) fits = machine_heaped h sizes program machine heap s (objects_after program s.objects (Ending p)) a (does s.objects p a.heap_stands named fits) refl

pub ends_bases : (h : Classes) (program : TypedProgram) (machine : Machine) (heap : Heap) (part : NumberedPart) → HeapDoes h program machine.heap heap part Bases → Happens h program machine (heaped machine heap) (BasesCode part)
ends_bases h program machine heap part does sizes s _ a (bases_event _ p named) fits = machine_heaped h sizes program machine heap s (objects_after program s.objects (Bases p)) a (does s.objects p a.heap_stands named fits) refl

pub finishes : (h : Classes) (program : TypedProgram) (machine : Machine) (heap : Heap) (part : NumberedPart) → HeapDoes h program machine.heap heap part End → Happens h program machine (heaped machine heap) (EndCode part)
finishes h program machine heap part does sizes s _ a (end_event _ p named) fits = machine_heaped h sizes program machine heap s (objects_after program s.objects (End p)) a (does s.objects p a.heap_stands named fits) refl

-- a body changes no object before it is entered
pub waits : (h : Classes) (program : TypedProgram) (machine : Machine) (part : NumberedPart) → Happens h program machine machine (BodyCode part)
waits h program machine part sizes s _ a (body_event _ p named) fits = machine_heaped h sizes program machine machine.heap s (objects_after program s.objects (Body p)) a a.heap_stands refl

-- initializers

-- the class of a part that the code names
pub named_class : (h : Classes) (classes : List ClassId) (code : NumberedPart) (p : ObjectPart) → StandsForPart h classes code p → class_of p.at ≡ Some code.class
named_class h classes code p a = ap (λ (q : ObjectPart). class_of q.at) (sym a.is_part) ∙ ((at_good h (sizes_of h) classes a.node a.at).class ∙ ap (λ (c : ClassId). Some c) a.is_class)

pub part_class : (h : Classes) (classes : List ClassId) (code : NumberedPart) (p : ObjectPart) → StandsForPart h classes code p → class_of_part p ≡ code.class
part_class h classes code p a = ap class_or_first (named_class h classes code p a)

-- a member that is a number or a pointer, and no array
record IsPlain (h : Classes) (c : ClassId) (m : ℕ) : Type 0 where
  type : ValueType ClassId
  element : IsElement h c m 0 (ValueField type)

plain_type : (ty : FieldType ClassId) (count : Option ℕ) (t : ValueType ClassId) → value_type_in ty count ≡ Some t → (ty ≡ ValueField t) × (0 < elements_of count)
plain_type (ValueField u) None t e = (let f : ValueField u ≡ ValueField t = cc in f, let g : 0 < 1 = omega arith in g)
plain_type (ValueField u) (Some n) t e = absurd (cc)
plain_type (Object d) count t e = absurd (cc)

plain_in : (h : Classes) (c : ClassId) (m : ℕ) (t : ValueType ClassId) (o : Option (Member ClassId)) → slice_get (members_of h c) m ≡ o → leaf_type_in o ≡ Some t → IsPlain h c m
plain_in h c m t None is e = absurd (cc)
plain_in h c m t (Some member) is e = let p = plain_type member.ty member.count t e in record { type = t; element = record { member = member; there = is; type_is = p.0; within = p.1 } }

-- what has an initializer is such a member
plain_member : (h : Classes) (program : TypedProgram) → IsTypedProgram h program → (c : ClassId) (m : ℕ) (o : Option TypedInit) → member_init program c m ≡ o → is_init o ≡ true → IsPlain h c m
plain_member h program a c m None e some = absurd (let f : false ≡ true = some in cc)
plain_member h program a c m (Some init) e some =
    let p = find_passes (λ (x : TypedInit). nat_eq x.member m) (inits_in (owned_body program (Constructor c))) init e in
    let is = inits_of h program a c (owned_body program (Constructor c)) refl init p.0 in
    plain_in h c m is.type (slice_get (members_of h c) m) refl (ap (leaf_type h c) (sym (eqb-true init.member m p.1)) ∙ is.of_member)

pub half_begun : (x : Phase) → is_half x ≡ true → x ≡ Raw → ⊥
half_begun Raw half raw = let f : false ≡ true = half in cc
half_begun InBases half raw = cc
half_begun ReadyBuilding half raw = cc
half_begun Complete half raw = cc
half_begun ReadyEnding half raw = cc
half_begun EndingBases half raw = cc
half_begun Ended half raw = cc

-- an initializer sets its leaf
pub sets_member : (h : Classes) (program : TypedProgram) → IsTypedProgram h program → (machine : Machine) (heap : Heap) (part : NumberedPart) (m k : ℕ) (value : ValueCode)
    → ((sizes : ClassId → ℕ) (s : ProgramState) → MachineStands h sizes program machine s → Means h s.objects.classes value (init_value (member_init program part.class m)))
    → ((s : Objects) (p : ObjectPart) (c : ClassId) (t : ValueType ClassId) → HeapStands h machine.heap s → Points h s.classes part.number p → HasBegun s p → class_of p.at ≡ Some c → IsElement h c m 0 (ValueField t) → PointsLeaf h s.classes k (leaf p m 0))
    → ((s : Objects) (l : Leaf) (v : Value) → HeapStands h machine.heap s → PointsLeaf h s.classes k l → Means h s.classes value v → HeapStands h heap (leaf_set s l v))
    → Happens h program machine (heaped machine heap) (InitCode part m)
sets_member h program typed machine heap part m k value means points stores sizes s _ a (init_event _ _ p named some) fits =
    let plain = plain_member h program typed part.class m (member_init program part.class m) refl some in
    let to = points s.objects p part.class plain.type a.heap_stands (points_of h s.objects.classes part p named) (half_begun (s.objects.phases.phase p) fits.0) (named_class h s.objects.classes part p named) plain.element in
    let v = subst (λ (c : ClassId). Means h s.objects.classes value (init_value (member_init program c m))) (sym (part_class h s.objects.classes part p named)) (means sizes s a) in
    machine_heaped h sizes program machine heap s (objects_after program s.objects (Init p m)) a (stores s.objects (leaf p m 0) (init_value (member_init program (class_of_part p) m)) a.heap_stands to v) refl

-- what events tell

pub tells_built : (h : Classes) (program : TypedProgram) (machine : Machine) (part : NumberedPart) (before after : Telling) (out : Out)
    → ((s : Objects) (p : ObjectPart) → HeapStands h machine.heap s → StandsForPart h s.classes part p → out ≡ BuiltOut (class_of_part p) (location_of s p)) → TellsMore before after (out ∷ []) → TellsEvent h program machine (DoneCode part) before after
tells_built h program machine part before after out is e sizes s _ a (done_event _ p named) = subst (λ (x : Out). TellsMore before after (x ∷ [])) (is s.objects p a.heap_stands named) e

pub tells_ending : (h : Classes) (program : TypedProgram) (machine : Machine) (part : NumberedPart) (before after : Telling) (out : Out)
    → ((s : Objects) (p : ObjectPart) → HeapStands h machine.heap s → StandsForPart h s.classes part p → out ≡ EndingOut (class_of_part p) (location_of s p)) → TellsMore before after (out ∷ []) → TellsEvent h program machine (EndingCode part) before after
tells_ending h program machine part before after out is e sizes s _ a (ending_event _ p named) = subst (λ (x : Out). TellsMore before after (x ∷ [])) (is s.objects p a.heap_stands named) e

begin_silent : (h : Classes) (program : TypedProgram) (machine : Machine) (part : NumberedPart) (before : Telling) → TellsEvent h program machine (BeginCode part) before before
begin_silent h program machine part before sizes s _ a (begins_event _ p named) = nothing_more before

ready_silent : (h : Classes) (program : TypedProgram) (machine : Machine) (part : NumberedPart) (before : Telling) → TellsEvent h program machine (ReadyCode part) before before
ready_silent h program machine part before sizes s _ a (ready_event _ p named) = nothing_more before

init_silent : (h : Classes) (program : TypedProgram) (machine : Machine) (part : NumberedPart) (m : ℕ) (before : Telling) → TellsEvent h program machine (InitCode part m) before before
init_silent h program machine part m before sizes s _ a (init_event _ _ p named some) = nothing_more before

body_silent : (h : Classes) (program : TypedProgram) (machine : Machine) (part : NumberedPart) (before : Telling) → TellsEvent h program machine (BodyCode part) before before
body_silent h program machine part before sizes s _ a (body_event _ p named) = nothing_more before

bases_silent : (h : Classes) (program : TypedProgram) (machine : Machine) (part : NumberedPart) (before : Telling) → TellsEvent h program machine (BasesCode part) before before
bases_silent h program machine part before sizes s _ a (bases_event _ p named) = nothing_more before

end_silent : (h : Classes) (program : TypedProgram) (machine : Machine) (part : NumberedPart) (before : Telling) → TellsEvent h program machine (EndCode part) before before
end_silent h program machine part before sizes s _ a (end_event _ p named) = nothing_more before

-- the other events tell nothing
abbrev pub IsSilent : PlanEvent → Type 0
IsSilent code = ((part : NumberedPart) × code ≡ BeginCode part) ⊎ (((part : NumberedPart) × code ≡ ReadyCode part) ⊎ (((part : NumberedPart) × (m : ℕ) × code ≡ InitCode part m) ⊎ (((part : NumberedPart) × code ≡ BodyCode part) ⊎ (((part : NumberedPart) × code ≡ BasesCode part) ⊎ ((part : NumberedPart) × code ≡ EndCode part)))))

pub silent : (h : Classes) (program : TypedProgram) (machine : Machine) (before : Telling) (code : PlanEvent) → IsSilent code → TellsEvent h program machine code before before
silent h program machine before code is =
    ⊎_elim (λ x. subst (λ (e : PlanEvent). TellsEvent h program machine e before before) (sym x.1) (begin_silent h program machine x.0 before))
    (λ is. ⊎_elim (λ x. subst (λ (e : PlanEvent). TellsEvent h program machine e before before) (sym x.1) (ready_silent h program machine x.0 before))
    (λ is. ⊎_elim (λ x. subst (λ (e : PlanEvent). TellsEvent h program machine e before before) (sym x.2) (init_silent h program machine x.0 x.1 before))
    (λ is. ⊎_elim (λ x. subst (λ (e : PlanEvent). TellsEvent h program machine e before before) (sym x.1) (body_silent h program machine x.0 before))
    (λ is. ⊎_elim (λ x. subst (λ (e : PlanEvent). TellsEvent h program machine e before before) (sym x.1) (bases_silent h program machine x.0 before))
    (λ x. subst (λ (e : PlanEvent). TellsEvent h program machine e before before) (sym x.1) (end_silent h program machine x.0 before)) is) is) is) is) is
