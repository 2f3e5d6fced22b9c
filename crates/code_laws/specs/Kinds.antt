-- Which ops the block of a statement may have, by its kind and by the routine in whose body it stands.
use Rattle.std.specs.Prelude.{◌≡◌, ℕ, Bool, true, false, not, ◌||◌, Option, Some, None, List, Contains, slice_get}
use Rattle.cxx_program.specs.declared.statement.Converted.{Converted}
use Rattle.cxx_program.specs.declared.statement.TypedCast.TheVariants.{Dynamic}
use Rattle.cxx_program.specs.declared.statement.TypedCall.{TypedCall}
use Rattle.cxx_program.specs.declared.statement.TypedRight.{TypedRight}
use Rattle.cxx_program.specs.declared.statement.TypedRight.TheVariants.{Arithmetic, SamePointer, Not, Read, Call as CallRight, New as NewRight, Cast as CastRight, TypeEqual}
use Rattle.cxx_program.specs.declared.statement.TypedKind.{TypedKind}
use Rattle.cxx_program.specs.declared.statement.TypedKind.TheVariants.{Declare, Assign, Write, Copy as CopyKind, Call, Delete, If, While, Return as ReturnKind, Print as PrintKind, PrintType, PrintView, Dump as DumpKind}
use Rattle.cxx_program.specs.declared.statement.TypedStatement.{TypedStatement}
use Rattle.cxx_program.specs.declared.program.TypedBody.{TypedBody}
use Rattle.byte_code.specs.declared.op.TraceKind.{TraceKind}
use Rattle.byte_code.specs.declared.op.TraceKind.TheVariants.{Call as TraceCall}
use Rattle.byte_code.specs.declared.op.Op.{Op}
use Rattle.byte_code.specs.declared.op.Op.TheVariants.{Does, Const, ReadGlobal, Load, Store, Copy, LoadBits, StoreBits, CopyBits, Arith, TypeOf, Top, Cast, Print, Dump, CallEntry, CallCode, New, DeleteEntry, DeleteCode, Open, SetTable, Begin, SetPhase, SetView, ViewBack, Jump, JumpIf, Trace, Return, End}
use Rattle.byte_code.specs.declared.code.Block.{Block}
use Rattle.byte_code.specs.declared.code.Code.{Code}
use Rattle.code_ops.specs.Setups.{Setup, Routine, MainCode, FunctionCode, body_of_routine}
use Rattle.code_ops.specs.Routines.{IsRoutine}

-- the right side of a declaration or an assignment

abbrev pub declared_right : Option Converted → Option TypedRight
declared_right None = None
declared_right (Some v) = Some v.right

abbrev pub right_within : TypedKind → Option TypedRight
right_within (Declare n v) = declared_right v
right_within (Assign variable v) = Some v.right
right_within other = None

abbrev pub reads_leaf : Option TypedRight → Bool
reads_leaf (Some (Read place)) = true
reads_leaf other = false

abbrev pub compares_type : Option TypedRight → Bool
compares_type (Some (TypeEqual p c)) = true
compares_type other = false

abbrev pub has_operator : Option TypedRight → Bool
has_operator (Some (Arithmetic op t p q)) = true
has_operator (Some (SamePointer differ p q)) = true
has_operator (Some (Not p)) = true
has_operator right = compares_type right

abbrev pub casts_by_view : Option TypedRight → Bool
casts_by_view (Some (CastRight (Dynamic target) p)) = true
casts_by_view other = false

abbrev pub makes_object : Option TypedRight → Bool
makes_object (Some (NewRight c)) = true
makes_object other = false

-- its call, which may be its right side

abbrev pub call_on_right : Option TypedRight → Option TypedCall
call_on_right (Some (CallRight call)) = Some call
call_on_right other = None

abbrev pub call_within : TypedKind → Option TypedCall
call_within (Call call) = Some call
call_within kind = call_on_right (right_within kind)

abbrev pub calls_by_view : Option TypedCall → Bool
calls_by_view None = false
calls_by_view (Some call) = call.is_dispatched

abbrev pub calls_by_name : Option TypedCall → Bool
calls_by_name None = false
calls_by_name (Some call) = not call.is_dispatched

abbrev pub tells_call : TraceKind → Option TypedCall → Bool
tells_call TraceCall (Some call) = true
tells_call kind other = false

-- what kind it is of

abbrev pub is_write : TypedKind → Bool
is_write (Write place a) = true
is_write other = false

abbrev pub is_copy_of : TypedKind → Bool
is_copy_of (CopyKind p q c) = true
is_copy_of other = false

abbrev pub is_delete : TypedKind → Bool
is_delete (Delete p c) = true
is_delete other = false

abbrev pub has_condition : TypedKind → Bool
has_condition (If p other behind) = true
has_condition (While p behind) = true
has_condition other = false

abbrev pub shows_type : TypedKind → Bool
shows_type (PrintType p c) = true
shows_type other = false

abbrev pub shows_view : TypedKind → Bool
shows_view (PrintView p c) = true
shows_view other = false

abbrev pub prints_some : TypedKind → Bool
prints_some (PrintKind p) = true
prints_some (PrintType p c) = true
prints_some (PrintView p c) = true
prints_some other = false

abbrev pub dumps_object : TypedKind → Bool
dumps_object (DumpKind p c) = true
dumps_object other = false

-- control goes on in the body
abbrev pub goes_on_within : TypedKind → Bool
goes_on_within (ReturnKind a) = false
goes_on_within other = true

-- it ends `main`, or returns from a function
abbrev pub ends_main : Routine → TypedKind → Bool
ends_main MainCode (ReturnKind a) = true
ends_main r other = false

abbrev pub ends_function : Routine → TypedKind → Bool
ends_function (FunctionCode f) (ReturnKind a) = true
ends_function r other = false

-- the statements in whose block an op may stand: the first three in any, those of plans in none
abbrev pub may_stand : Op → Routine → TypedKind → Bool
may_stand (Does finish) r kind = true
may_stand (Const to value) r kind = true
may_stand (ReadGlobal to global) r kind = true
may_stand (Load to base offset width) r kind = reads_leaf (right_within kind)
may_stand (LoadBits to base offset first width) r kind = reads_leaf (right_within kind)
may_stand (Store from base offset width) r kind = is_write kind
may_stand (StoreBits from base offset first width) r kind = is_write kind
may_stand (Copy to from offset bytes) r kind = is_copy_of kind
may_stand (CopyBits to from offset first bits) r kind = is_copy_of kind
may_stand (Arith operator width to left right) r kind = has_operator (right_within kind)
may_stand (TypeOf to base) r kind = shows_type kind || compares_type (right_within kind)
may_stand (Top to base) r kind = shows_view kind
may_stand (Cast to base class target hint) r kind = casts_by_view (right_within kind)
may_stand (Print from what) r kind = prints_some kind
may_stand (Dump from) r kind = dumps_object kind
may_stand (CallEntry this entry arguments result) r kind = calls_by_view (call_within kind)
may_stand (CallCode block this arguments result) r kind = calls_by_name (call_within kind)
may_stand (Trace told) r kind = tells_call told (call_within kind)
may_stand (New size class block result) r kind = makes_object (right_within kind)
may_stand (DeleteEntry this entry) r kind = is_delete kind
may_stand (DeleteCode this block) r kind = is_delete kind
may_stand (Jump block) r kind = goes_on_within kind
may_stand (JumpIf register block) r kind = has_condition kind
may_stand (Return from class) r kind = ends_function r kind
may_stand End r kind = ends_main r kind
may_stand (Open opening) r kind = false
may_stand (SetTable setting) r kind = false
may_stand (Begin class owner) r kind = false
may_stand (SetPhase class phase) r kind = false
may_stand (SetView class owner) r kind = false
may_stand ViewBack r kind = false

-- each of the ops may stand in the block of such a statement
abbrev pub AllMayStand : Routine → TypedKind → List Op → Type 0
AllMayStand r kind ops = (op : Op) → Contains ops op → may_stand op r kind ≡ true

-- the statement is the n-th of the body of a routine of the program
pub record IsNthStatement (x : Setup) (r : Routine) (n : ℕ) (s : TypedStatement) : Type 0 where
  pub routine : IsRoutine x r
  pub body : TypedBody
  pub has : body_of_routine x r ≡ Some body
  pub stands : slice_get body.statements n ≡ Some s

-- the code has a block of this number, and its ops may
pub record HasSuchBlock (code : Code) (number : ℕ) (r : Routine) (kind : TypedKind) : Type 0 where
  pub block : Block
  pub there : slice_get code.blocks number ≡ Some block
  pub ops : AllMayStand r kind block.ops
