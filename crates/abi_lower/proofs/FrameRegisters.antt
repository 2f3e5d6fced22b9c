-- A frame has registers for each statement, where it has those of the locals and 41 others.
use Rattle.std.proofs.Common.{◌≡◌, ℕ, ◌+◌, ◌<◌, ◌≤◌, Some, None, List, length, get_or, ap, subst, sym, ◌∙◌, arith}
use Rattle.std.proofs.lemmas.Option.{slice_get_within, slice_get-get_or}
use Rattle.foundation.proofs.Members.{Has, index_of, from_map}
use Rattle.cxx_hierarchy.specs.Classes.{Classes}
use Rattle.cxx_hierarchy.specs.Limits.{most_parameters}
use Rattle.cxx_program.specs.declared.program.TypedBody.{TypedBody}
use Rattle.cxx_program.specs.declared.statement.TypedKind.{TypedKind}
use Rattle.cxx_program.specs.declared.statement.TypedKind.TheVariants.{Declare, Assign, Write, Copy, Call, Delete, If, While, Return, Print, PrintType, PrintView, Dump}
use Rattle.cxx_program.specs.declared.statement.TypedRight.{TypedRight}
use Rattle.cxx_program.specs.declared.statement.TypedRight.TheVariants.{Operand, Arithmetic, SamePointer, Not, Read, Address, Call as CallRight, New, Cast, TypeEqual}
use Rattle.cxx_program.specs.Typed.{Scope, IsTypedProgram, scope_of}
use Rattle.abi_slots.specs.declared.slots.Slots.{Slots}
use Rattle.cxx_overrider.specs.declared.pass.Overriders.{Overriders}
use Rattle.code_ops.specs.Setups.{Setup, Routine, body_of_routine, locals_in}
use Rattle.code_ops.specs.Routines.{IsRoutine}
use Rattle.code_statements.specs.invariants.Fits.{FitsRight, FitsKind}
use Rattle.code_blocks.specs.Lowered.{right_arguments, argument_count, HasRegisters}
use Rattle.abi_lower.specs.declared.routines.Routine.{Routine as RoutineCode}
use Rattle.abi_lower.specs.declared.routines.Routine.TheVariants.{Main}
use Rattle.abi_lower.specs.invariants.Numbers.{routines}
use Rattle.abi_lower.specs.invariants.Codes.{routine_from, routines_from}
use Rattle.abi_lower.specs.invariants.Lowerings.{IsBodySite}
use Rattle.abi_lower.proofs.BodySites.{fine_scope}
use Rattle.abi_lower.proofs.FitsStatements.{fits_kind}
use Rattle.abi_lower.proofs.ListedRoutines.{routine_there}

-- a call has at most 16 arguments

few_right : (h : Classes) (e : Scope) (x : TypedRight) → FitsRight h e x → right_arguments x ≤ most_parameters
few_right h e (Operand p) fits = omega arith
few_right h e (Arithmetic op t p q) fits = omega arith
few_right h e (SamePointer differ p q) fits = omega arith
few_right h e (Not p) fits = omega arith
few_right h e (Read place) fits = omega arith
few_right h e (Address place d) fits = omega arith
few_right h e (CallRight call) fits = fits.few
few_right h e (New d) fits = omega arith
few_right h e (Cast cast p) fits = omega arith
few_right h e (TypeEqual p d) fits = omega arith

few_arguments : (h : Classes) (e : Scope) (most n : ℕ) (kind : TypedKind) → FitsKind h e most n kind → argument_count kind ≤ most_parameters
few_arguments h e most n (Declare m None) fits = omega arith
few_arguments h e most n (Declare m (Some v)) fits = few_right h e v.right fits.1.right
few_arguments h e most n (Assign variable v) fits = few_right h e v.right fits.1.right
few_arguments h e most n (Write place a) fits = omega arith
few_arguments h e most n (Copy to from c) fits = omega arith
few_arguments h e most n (Call call) fits = fits.few
few_arguments h e most n (Delete p c) fits = omega arith
few_arguments h e most n (If p other behind) fits = omega arith
few_arguments h e most n (While p behind) fits = omega arith
few_arguments h e most n (Return a) fits = omega arith
few_arguments h e most n (Print p) fits = omega arith
few_arguments h e most n (PrintType p c) fits = omega arith
few_arguments h e most n (PrintView p c) fits = omega arith
few_arguments h e most n (Dump p c) fits = omega arith

-- the most locals of all routines are the most of each
pub each_low : (x : Setup) (list : List RoutineCode) (most : ℕ) → IsTypedProgram x.h x.program → routines_from list ≡ routines x → ((k : ℕ) → k < length list → locals_in (body_of_routine x (routine_from (get_or list k Main))) ≤ most) → (r : Routine) → IsRoutine x r → locals_in (body_of_routine x r) ≤ most
each_low x list most typed are low r is =
    let has = subst (λ (l : List Routine). Has l r) (sym are) (routine_there x typed r is) in
    let from = from_map routine_from list r has in
    let at = index_of list from.0 from.1 in
    let inside = slice_get_within list at.0 from.0 at.1 in
    let items : Some (get_or list at.0 Main) ≡ Some from.0 = sym (slice_get-get_or list at.0 Main inside) ∙ at.1 in
    let item : get_or list at.0 Main ≡ from.0 = cc (items) in
    subst (λ (q : Routine). locals_in (body_of_routine x q) ≤ most) (ap routine_from item ∙ from.2) (low at.0 inside)

pub has_registers : (x : Setup) (slots : Slots) (overriders : Overriders) (most : ℕ) → ((r : Routine) (body : TypedBody) → Some body ≡ body_of_routine x r → IsBodySite x slots overriders body) → ((r : Routine) → IsRoutine x r → locals_in (body_of_routine x r) ≤ most) → HasRegisters x (most + 41)
has_registers x slots overriders most sites low = record {
  routine = λ r is. let few = low r is in omega arith;
  statement = λ r body n s is has there.
      let site = sites r body (sym has) in
      let typed = site.typed.statements n s there in
      let inside = slice_get_within body.statements n s there in
      let fits = fits_kind x.h site.keeps (scope_of x.h x.program.globals body) (fine_scope x slots overriders body site) (length body.statements) (length body.statements) n s.kind (omega arith) inside typed.typed typed.within in
      let arguments = few_arguments x.h (scope_of x.h x.program.globals body) (length body.statements) n s.kind fits in
      let few = low r is in
      let locals : locals_in (body_of_routine x r) ≡ length body.locals = ap locals_in has in omega arith;
}
