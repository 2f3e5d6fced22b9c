-- The block of each plain statement does its step.
use Rattle.std.proofs.Common.{◌≡◌, ℕ, true, false, Some, None, List, refl, set}
use Rattle.cxx_program.specs.declared.operand.Conversion.{Conversion}
use Rattle.cxx_program.specs.declared.operand.TypedOperand.{TypedOperand}
use Rattle.cxx_program.specs.declared.operand.Variable.{Variable}
use Rattle.cxx_program.specs.declared.operand.Variable.TheVariants.{Local}
use Rattle.cxx_program.specs.declared.statement.TypedCast.{TypedCast}
use Rattle.cxx_program.specs.declared.statement.TypedCast.TheVariants.{Same as SameClass, Up, Down, Dynamic}
use Rattle.cxx_program.specs.declared.statement.TypedKind.{TypedKind}
use Rattle.cxx_program.specs.declared.statement.TypedKind.TheVariants.{Declare, Assign, Write, Copy, Call, Delete, If, While, Return, Print, PrintType, PrintView, Dump}
use Rattle.cxx_program.specs.declared.statement.TypedRight.{TypedRight}
use Rattle.cxx_program.specs.declared.statement.TypedRight.TheVariants.{Operand, Arithmetic, SamePointer, Not, Read, Address, Call as CallRight, New, Cast, TypeEqual}
use Rattle.cxx_program.specs.declared.statement.TypedStatement.{TypedStatement}
use Rattle.path_model.specs.Values.{Value, Unset}
use Rattle.path_model.specs.Runs.{right_demand, asks_nothing}
use Rattle.byte_machine.specs.Leads.{LeadsBlock}
use Rattle.code_blocks.specs.Blocks.{statement_ops}
use Rattle.agree_relation.specs.Worlds.{fixed}
use Rattle.agree_relation.specs.Agrees.{Agrees}
use Rattle.agree_statements.specs.Statements.{is_plain_statement, is_plain_right}
use Rattle.agree_statements.proofs.Moves.{move_in}
use Rattle.agree_statements.proofs.Scenes.{Scene, top}
use Rattle.agree_statements.proofs.Rights.{Taking, DoesRight}
use Rattle.agree_statements.proofs.Assignments.{assign_takes, assign_does, declare_takes, declare_does, plain_declare_does}
use Rattle.agree_statements.proofs.OperandRight.{operand_does}
use Rattle.agree_statements.proofs.NumberRights.{calculation_does, negation_does}
use Rattle.agree_statements.proofs.PointerRight.{same_pointer_does}
use Rattle.agree_statements.proofs.ReadRight.{read_does}
use Rattle.agree_statements.proofs.AddressRight.{address_does}
use Rattle.agree_statements.proofs.PlainCasts.{same_cast_does, up_cast_does}
use Rattle.agree_statements.proofs.DownCast.{down_cast_does}
use Rattle.agree_statements.proofs.DynamicCast.{dynamic_cast_does}
use Rattle.agree_statements.proofs.TypeSteps.{print_type_does, print_view_does, type_equal_does}
use Rattle.agree_statements.proofs.Branches.{if_does, while_does}
use Rattle.agree_statements.proofs.PrintStep.{print_does}
use Rattle.agree_statements.proofs.WriteStep.{write_does}
use Rattle.agree_statements.proofs.DumpStep.{dump_does}

-- a plain right side asks for nothing
plain_asks : (right : TypedRight) → is_plain_right right ≡ true → right_demand right ≡ asks_nothing
plain_asks (Operand x) plain = refl
plain_asks (Arithmetic op t x y) plain = refl
plain_asks (SamePointer differ p q) plain = refl
plain_asks (Not x) plain = refl
plain_asks (Read place) plain = refl
plain_asks (Address place d) plain = refl
plain_asks (CallRight call) plain = absurd (let f : false ≡ true = plain in cc)
plain_asks (New d) plain = absurd (let f : false ≡ true = plain in cc)
plain_asks (Cast cast x) plain = refl
plain_asks (TypeEqual x d) plain = refl

module _ {statement : TypedStatement} (scene : Scene statement) (locals : List Value) (variable : Variable) where
  cast_does : (cast : TypedCast) (x : TypedOperand) (c : Conversion) → Taking scene locals variable (record { right = Cast cast x; conversion = c }) → DoesRight scene locals variable (record { right = Cast cast x; conversion = c })
  cast_does SameClass x c take = same_cast_does scene locals variable x c take
  cast_does (Up i) x c take = up_cast_does scene locals variable x c i take
  cast_does (Down target i) x c take = down_cast_does scene locals variable target i x c take
  cast_does (Dynamic target) x c take = dynamic_cast_does scene locals variable target x c take

  pub right_does : (right : TypedRight) (c : Conversion) → is_plain_right right ≡ true → Taking scene locals variable (record { right = right; conversion = c }) → DoesRight scene locals variable (record { right = right; conversion = c })
  right_does (Operand x) c plain take = operand_does scene locals variable x c take
  right_does (Arithmetic op t x y) c plain take = calculation_does scene locals variable op t x y c take
  right_does (SamePointer differ p q) c plain take = same_pointer_does scene locals variable differ p q c take
  right_does (Not x) c plain take = negation_does scene locals variable x c take
  right_does (Read place) c plain take = read_does scene locals variable place c take
  right_does (Address place d) c plain take = address_does scene locals variable place d c take
  right_does (CallRight call) c plain take = absurd (let f : false ≡ true = plain in cc)
  right_does (New d) c plain take = absurd (let f : false ≡ true = plain in cc)
  right_does (Cast cast x) c plain take = cast_does cast x c take
  right_does (TypeEqual x d) c plain take = type_equal_does scene locals variable x d c take

-- the block of the statement does its step
abbrev pub BlockDoes : (statement : TypedStatement) → Scene statement → Type 0
BlockDoes statement scene = LeadsBlock (fixed scene.w) (statement_ops scene.w.setup scene.at (top scene).on.routine scene.body scene.f.next statement) scene.b (Agrees scene.w scene.at (move_in scene.w scene.s))

kind_does : (kind : TypedKind) (line next : ℕ) (scene : Scene (record { kind = kind; line = line; next = next })) → is_plain_statement kind ≡ true → BlockDoes (record { kind = kind; line = line; next = next }) scene
kind_does (Declare n None) line next scene plain = plain_declare_does n line next scene
kind_does (Declare n (Some x)) line next scene plain = declare_does n x line next scene (right_does scene (set scene.f.locals n Unset) (Local n) x.right x.conversion plain (declare_takes n x line next scene (plain_asks x.right plain)))
kind_does (Assign variable x) line next scene plain = assign_does variable x line next scene (right_does scene scene.f.locals variable x.right x.conversion plain (assign_takes variable x line next scene (plain_asks x.right plain)))
kind_does (Write place a) line next scene plain = write_does place a line next scene
kind_does (Copy to from c) line next scene plain = absurd (let f : false ≡ true = plain in cc)
kind_does (Call call) line next scene plain = absurd (let f : false ≡ true = plain in cc)
kind_does (Delete x c) line next scene plain = absurd (let f : false ≡ true = plain in cc)
kind_does (If x other behind) line next scene plain = if_does x other behind line next scene
kind_does (While x behind) line next scene plain = while_does x behind line next scene
kind_does (Return a) line next scene plain = absurd (let f : false ≡ true = plain in cc)
kind_does (Print x) line next scene plain = print_does x line next scene
kind_does (PrintType x c) line next scene plain = print_type_does x c line next scene
kind_does (PrintView x c) line next scene plain = print_view_does x c line next scene
kind_does (Dump x c) line next scene plain = dump_does x c line next scene

pub plain_does : (statement : TypedStatement) (scene : Scene statement) → is_plain_statement statement.kind ≡ true → BlockDoes statement scene
plain_does statement scene plain = kind_does statement.kind statement.line statement.next scene plain
