-- When the values of a state have the types that a typed program gives to what holds them.
use Rattle.std.specs.Prelude.{◌≡◌, ◌≢◌, ℕ, ◌≤◌, Option, Some, None, List, [], ◌∷◌, length, slice_get}
use Rattle.std.specs.List.{AllZip}
use Rattle.cxx_hierarchy.specs.declared.records.ClassId.{ClassId}
use Rattle.cxx_hierarchy.specs.declared.records.ValueType.{ValueType}
use Rattle.cxx_hierarchy.specs.declared.records.ValueType.TheVariants.{Number as NumberType, Pointer as PointerType}
use Rattle.cxx_hierarchy.specs.declared.records.FieldType.TheVariants.{Value as ValueField}
use Rattle.cxx_hierarchy.specs.declared.records.ReturnType.TheVariants.{Value as ValueReturn}
use Rattle.cxx_hierarchy.specs.Scalars.{IsInRange, IsInWidth}
use Rattle.cxx_hierarchy.specs.Classes.{Classes}
use Rattle.cxx_subobject.specs.Subobjects.{class_of}
use Rattle.cxx_subobject.specs.Locations.{ObjectPart, IsElement, IsPartOf}
use Rattle.cxx_program.specs.declared.operand.Conversion.{Conversion}
use Rattle.cxx_program.specs.declared.program.Owner.{Owner}
use Rattle.cxx_program.specs.declared.program.Owner.TheVariants.{Main, Function, Constructor, Destructor}
use Rattle.cxx_program.specs.declared.program.TypedBody.{TypedBody}
use Rattle.cxx_program.specs.declared.program.TypedProgram.{TypedProgram}
use Rattle.cxx_program.specs.Typed.{Types, Converts, scope_of, this_of, returns_of, variable_type, width_within}
use Rattle.path_model.specs.Values.{Value, Unset, Number, Null, Pointer, Leaf}
use Rattle.path_model.specs.States.{Target, RunningBody, Frame, InBody, InPlan, ProgramState, owned_body}

-- values

-- the part is one of an object that was made, of these classes, and is of class c
pub record IsPartMade (h : Classes) (classes : List ClassId) (p : ObjectPart) (c : ClassId) : Type 0 where
  pub class : ClassId
  pub made : slice_get classes p.object ≡ Some class
  pub inside : IsPartOf h class p
  pub of_class : class_of p.at ≡ Some c

-- the value is none yet, or one of the type: a number in its range, null, or a pointer to a part of its class
abbrev pub IsValue : Classes → List ClassId → Value → ValueType ClassId → Type 0
IsValue h classes Unset t = Unit {0}
IsValue h classes (Number z) (NumberType t) = IsInRange t z
IsValue h classes (Number z) (PointerType c) = ⊥
IsValue h classes Null (NumberType t) = ⊥
IsValue h classes Null (PointerType c) = Unit {0}
IsValue h classes (Pointer p) (NumberType t) = ⊥
IsValue h classes (Pointer p) (PointerType c) = IsPartMade h classes p c

-- a number in a bit-field of n bits is one that n bits of the type can hold (ISO C++03 9.6)
abbrev pub IsInBitField : Option ℕ → Value → ValueType ClassId → Type 0
IsInBitField None v t = Unit {0}
IsInBitField (Some n) (Number z) (NumberType t) = IsInWidth t n z
IsInBitField (Some n) v t = Unit {0}

-- each value is one of the type at its place
abbrev pub AreValues : Classes → List ClassId → List Value → Types → Type 0
AreValues h classes values types = AllZip (IsValue h classes) values types

-- an element of a member of this type, which is a number or a pointer, in a part of an object that was made
pub record IsLeafMade (h : Classes) (classes : List ClassId) (l : Leaf) (t : ValueType ClassId) : Type 0 where
  pub class : ClassId
  pub part : IsPartMade h classes l.part class
  pub element : IsElement h class l.member l.index (ValueField t)

-- the width of a leaf, where it is a bit-field (ISO C++03 9.6)
abbrev pub width_of_leaf : Classes → Leaf → Option ℕ
width_of_leaf h l = width_within h (class_of l.part.at) l.member

-- frames

-- `this` is a pointer to a part of its class, where the body has one
abbrev pub IsThis : Classes → List ClassId → Option ClassId → Value → Type 0
IsThis h classes None v = v ≡ Unset
IsThis h classes (Some c) v = (p : ObjectPart) × (v ≡ Pointer p) × IsPartMade h classes p c

-- a body that runs: one of the program, with values of the types of its locals, at one of its statements or at its end
pub record IsTypedRunning (h : Classes) (program : TypedProgram) (classes : List ClassId) (f : RunningBody) (body : TypedBody) : Type 0 where
  pub there : owned_body program f.owner ≡ Some body
  pub this : IsThis h classes (this_of f.owner) f.this
  pub locals : AreValues h classes f.locals body.locals
  pub next : f.next ≤ length body.statements

-- a value of type t fits who waits for it, a variable of the body
abbrev pub FitsTarget : Classes → Types → TypedBody → ValueType ClassId → Option Target → Type 0
FitsTarget h globals body t None = Unit {0}
FitsTarget h globals body t (Some target) = (u : ValueType ClassId) × (variable_type (scope_of h globals body) target.variable ≡ Some u) × Converts h t target.conversion u

-- the result of a body becomes one of the declaration that was found, and then fits who waits for it; nobody waits for nothing
pub record FitsResult (h : Classes) (globals : Types) (owner : Owner) (found : Conversion) (target : Option Target) (body : TypedBody) : Type 0 where
  pub result : (t : ValueType ClassId) → returns_of h owner ≡ Some (ValueReturn t) → (u : ValueType ClassId) × Converts h t found u × FitsTarget h globals body u target
  pub nothing : ((t : ValueType ClassId) → returns_of h owner ≡ Some (ValueReturn t) → ⊥) → target ≡ None

-- a body of the program is next, and what it waits for is as P says
abbrev pub IsCalledFrom : TypedProgram → (TypedBody → Type 0) → List Frame → Type 0
IsCalledFrom program P [] = ⊥
IsCalledFrom program P (InBody g ∷ below) = (body : TypedBody) × (owned_body program g.owner ≡ Some body) × P body
IsCalledFrom program P (InPlan g ∷ below) = ⊥

-- a plan is next
abbrev pub IsOverPlan : List Frame → Type 0
IsOverPlan [] = ⊥
IsOverPlan (InBody g ∷ below) = ⊥
IsOverPlan (InPlan g ∷ below) = Unit {0}

-- a body stands on what opened it: `main` on nothing, a function on the body that called it, a constructor or a destructor on
-- the plan of its object
abbrev pub IsOpened : Classes → TypedProgram → Owner → Conversion → Option Target → List Frame → Type 0
IsOpened h program Main found target below = (below ≡ []) × (target ≡ None)
IsOpened h program (Function g) found target below = IsCalledFrom program (FitsResult h program.globals (Function g) found target) below
IsOpened h program (Constructor c) found target below = IsOverPlan below
IsOpened h program (Destructor c) found target below = IsOverPlan below

-- the object of a plan was made, and a pointer to it fits who waits for it
pub record FitsMadeObject (h : Classes) (globals : Types) (classes : List ClassId) (object : ℕ) (target : Option Target) (body : TypedBody) : Type 0 where
  pub class : ClassId
  pub made : slice_get classes object ≡ Some class
  pub fits : FitsTarget h globals body (PointerType class) target

-- each frame is typed, and stands on what opened it
abbrev pub AreTypedFrames : Classes → TypedProgram → List ClassId → List Frame → Type 0
AreTypedFrames h program classes [] = Unit {0}
AreTypedFrames h program classes (InBody f ∷ below) =
    ((body : TypedBody) × IsTypedRunning h program classes f body) × IsOpened h program f.owner f.found f.target below × AreTypedFrames h program classes below
AreTypedFrames h program classes (InPlan f ∷ below) = IsCalledFrom program (FitsMadeObject h program.globals classes f.object f.target) below × AreTypedFrames h program classes below

-- states

-- globals, leaves and frames hold values of their types, bit-fields what their bits can hold, and there is a frame
pub record IsTypedState (h : Classes) (program : TypedProgram) (s : ProgramState) : Type 0 where
  pub globals : AreValues h s.objects.classes s.globals program.globals
  pub leaves : (l : Leaf) (t : ValueType ClassId) → IsLeafMade h s.objects.classes l t → IsValue h s.objects.classes (s.objects.leaf l) t
  pub held : (l : Leaf) (t : ValueType ClassId) → IsLeafMade h s.objects.classes l t → IsInBitField (width_of_leaf h l) (s.objects.leaf l) t
  pub frames : AreTypedFrames h program s.objects.classes s.frames
  pub running : s.frames ≢ []
