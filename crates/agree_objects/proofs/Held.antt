-- The values that typed frames hold.
use Rattle.std.proofs.Common.{◌≡◌, ℕ, zero, suc, Option, Some, None, List, [], ◌∷◌, sym, subst}
use Rattle.std.specs.Prelude.{slice_get}
use Rattle.cxx_hierarchy.specs.declared.records.ClassId.{ClassId}
use Rattle.cxx_hierarchy.specs.declared.records.Scalar.TheVariants.{Int}
use Rattle.cxx_hierarchy.specs.declared.records.ValueType.TheVariants.{Number as NumberType, Pointer as PointerType}
use Rattle.cxx_hierarchy.specs.Classes.{Classes}
use Rattle.cxx_program.specs.declared.program.TypedProgram.{TypedProgram}
use Rattle.cxx_program.specs.Typed.{Types, this_of}
use Rattle.path_model.specs.Values.{Value}
use Rattle.path_model.specs.States.{Frame as PathFrame, InBody, InPlan}
use Rattle.path_model.specs.TypedStates.{AreValues, IsThis, IsValue, AreTypedFrames}
use Rattle.agree_objects.specs.Grown.{HasSomeType, AreHeld}

this_held : (h : Classes) (classes : List ClassId) (class : Option ClassId) (v : Value) → IsThis h classes class v → HasSomeType h classes v
this_held h classes None v is = subst (λ (x : Value). HasSomeType h classes x) (sym is) (NumberType Int, tt)
this_held h classes (Some c) v is = subst (λ (x : Value). HasSomeType h classes x) (sym is.1) (PointerType c, is.2)

pub locals_held : (h : Classes) (classes : List ClassId) (values : List Value) (types : Types) → AreValues h classes values types → (n : ℕ) (v : Value) → slice_get values n ≡ Some v → HasSomeType h classes v
locals_held h classes [] types typed n v there = absurd (let none : None ≡ Some v = there in cc)
locals_held h classes (x ∷ values) [] typed n v there = absurd typed
locals_held h classes (x ∷ values) (t ∷ types) typed zero v there = let same : x ≡ v = cc in (t, subst (λ (y : Value). IsValue h classes y t) same typed.0)
locals_held h classes (x ∷ values) (t ∷ types) typed (suc n) v there = locals_held h classes values types typed.1 n v there

pub frames_held : (h : Classes) (program : TypedProgram) (classes : List ClassId) (frames : List PathFrame) → AreTypedFrames h program classes frames → AreHeld h classes frames
frames_held h program classes [] typed = tt
frames_held h program classes (InBody f ∷ below) typed = (
  record { this = this_held h classes (this_of f.owner) f.this typed.0.1.this; local = λ n v there. locals_held h classes f.locals typed.0.0.locals typed.0.1.locals n v there },
  frames_held h program classes below typed.2,
)
frames_held h program classes (InPlan p ∷ below) typed = frames_held h program classes below typed.1
