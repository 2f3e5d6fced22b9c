-- The block of a statement agrees with the move, by what kind of statement it is.
use Rattle.std.proofs.Common.{◌≡◌, ℕ, true, false, Some, None, refl}
use Rattle.cxx_program.specs.declared.operand.Conversion.{Conversion}
use Rattle.cxx_program.specs.declared.operand.Variable.{Variable}
use Rattle.cxx_program.specs.declared.statement.TypedKind.{TypedKind}
use Rattle.cxx_program.specs.declared.statement.TypedKind.TheVariants.{Declare, Assign, Write, Copy, Call, Delete, If, While, Return, Print, PrintType, PrintView, Dump}
use Rattle.cxx_program.specs.declared.statement.TypedRight.{TypedRight}
use Rattle.cxx_program.specs.declared.statement.TypedRight.TheVariants.{Operand, Arithmetic, SamePointer, Not, Read, Address, Call as CallRight, New, Cast, TypeEqual}
use Rattle.cxx_program.specs.declared.statement.TypedStatement.{TypedStatement}
use Rattle.agree_calls.proofs.Returns.{MovesResult}
use Rattle.agree_copies.proofs.CopyStep.{copy_does}
use Rattle.agree_statements.proofs.PlainSteps.{BlockDoes, plain_does}
use Rattle.agree_statements.proofs.Scenes.{Scene}
use Rattle.agree_calls.proofs.CallStatements.{call_does, assigned_call_does, declared_call_does}
use Rattle.agree_calls.proofs.ReturnStatements.{return_does}
use Rattle.agree_objects.proofs.NewSteps.{assign_new_does, declare_new_does}
use Rattle.agree_objects.proofs.DeleteSteps.{delete_does}

abbrev said : TypedKind → ℕ → ℕ → TypedStatement
said kind line next = record { kind = kind; line = line; next = next }

-- the code of the scene is that of its world
abbrev pub IsOfWorld : {statement : TypedStatement} → Scene statement → Type 0
IsOfWorld scene = scene.at ≡ scene.world.lowered.at

assigned : (variable : Variable) (right : TypedRight) (c : Conversion) (line next : ℕ) (scene : Scene (said (Assign variable (record { right = right; conversion = c })) line next)) → IsOfWorld scene → BlockDoes (said (Assign variable (record { right = right; conversion = c })) line next) scene
assigned variable (CallRight call) c line next scene at = assigned_call_does variable call c line next scene at
assigned variable (New d) c line next scene at = assign_new_does variable d c line next scene
assigned variable (Operand x) c line next scene at = plain_does _ scene refl
assigned variable (Arithmetic op t x y) c line next scene at = plain_does _ scene refl
assigned variable (SamePointer differ x y) c line next scene at = plain_does _ scene refl
assigned variable (Not x) c line next scene at = plain_does _ scene refl
assigned variable (Read place) c line next scene at = plain_does _ scene refl
assigned variable (Address place d) c line next scene at = plain_does _ scene refl
assigned variable (Cast cast x) c line next scene at = plain_does _ scene refl
assigned variable (TypeEqual x d) c line next scene at = plain_does _ scene refl

declared : (n : ℕ) (right : TypedRight) (c : Conversion) (line next : ℕ) (scene : Scene (said (Declare n (Some (record { right = right; conversion = c }))) line next)) → IsOfWorld scene → BlockDoes (said (Declare n (Some (record { right = right; conversion = c }))) line next) scene
declared n (CallRight call) c line next scene at = declared_call_does n call c line next scene at
declared n (New d) c line next scene at = declare_new_does n d c line next scene
declared n (Operand x) c line next scene at = plain_does _ scene refl
declared n (Arithmetic op t x y) c line next scene at = plain_does _ scene refl
declared n (SamePointer differ x y) c line next scene at = plain_does _ scene refl
declared n (Not x) c line next scene at = plain_does _ scene refl
declared n (Read place) c line next scene at = plain_does _ scene refl
declared n (Address place d) c line next scene at = plain_does _ scene refl
declared n (Cast cast x) c line next scene at = plain_does _ scene refl
declared n (TypeEqual x d) c line next scene at = plain_does _ scene refl

pub kind_does : (kind : TypedKind) (line next : ℕ) (scene : Scene (said kind line next)) → IsOfWorld scene → MovesResult scene.f.found → BlockDoes (said kind line next) scene
kind_does (Declare n None) line next scene at moves = plain_does _ scene refl
kind_does (Declare n (Some x)) line next scene at moves = declared n x.right x.conversion line next scene at
kind_does (Assign variable x) line next scene at moves = assigned variable x.right x.conversion line next scene at
kind_does (Write place a) line next scene at moves = plain_does _ scene refl
kind_does (Copy to from c) line next scene at moves = copy_does to from c line next scene
kind_does (Call call) line next scene at moves = call_does call line next scene at
kind_does (Delete x c) line next scene at moves = delete_does x c line next scene at
kind_does (If x other behind) line next scene at moves = plain_does _ scene refl
kind_does (While x behind) line next scene at moves = plain_does _ scene refl
kind_does (Return a) line next scene at moves = return_does a line next scene moves
kind_does (Print x) line next scene at moves = plain_does _ scene refl
kind_does (PrintType x c) line next scene at moves = plain_does _ scene refl
kind_does (PrintView x c) line next scene at moves = plain_does _ scene refl
kind_does (Dump x c) line next scene at moves = plain_does _ scene refl
