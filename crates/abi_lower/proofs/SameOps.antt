-- The ops of a statement are those of its place, wherever its body runs.
use Rattle.std.proofs.Common.{◌≡◌, ℕ, suc, ◌+◌, ◌<◌, List, [], ◌∷◌, ◌++◌, length, get_or, drop, append_assoc, arith, refl, ap, sym, ◌∙◌}
use mathlib.Core.Path.{fun_ext}
use Rattle.std.proofs.Math.Seq.{drop-cons}
use Rattle.cxx_program.specs.declared.operand.Argument.{Argument}
use Rattle.cxx_program.specs.declared.program.Owner.{Owner}
use Rattle.cxx_program.specs.declared.program.TypedBody.{TypedBody}
use Rattle.cxx_program.specs.declared.statement.TypedKind.{TypedKind}
use Rattle.cxx_program.specs.declared.statement.TypedKind.TheVariants.{Declare, Assign, Write, Copy, Call, Delete, If, While, Return, Print, PrintType, PrintView, Dump}
use Rattle.cxx_program.specs.declared.statement.TypedStatement.{TypedStatement}
use Rattle.std.specs.Prelude.{Option, Some}
use Rattle.byte_code.specs.declared.code.Block.{Block as CodeBlock}
use Rattle.byte_code.specs.declared.op.Op.{Op}
use Rattle.abi_slots.specs.declared.code_numbers.CodeRow.{CodeRow}
use Rattle.code_ops.specs.declared.routines.Course.TheVariants.{Constructs, Destroys, Deletes}
use Rattle.code_ops.specs.Setups.{Setup, Routine, MainCode, FunctionCode, PlanCode, routine_owner, spare_register}
use Rattle.code_ops.specs.Routines.{start_by}
use Rattle.code_ops.specs.Arguments.{Block, block_in}
use Rattle.code_ops.specs.Uses.{check_ops}
use Rattle.code_statements.specs.Statements.{returned_ops, kind_front, kind_used, kind_ops}
use Rattle.code_statements.specs.invariants.Fits.{routine_of}
use Rattle.code_blocks.specs.Blocks.{AtStatement, routine_start, statement_ops}
use Rattle.abi_lower.specs.invariants.Numbers.{own_events, code_rows, block_number}
use Rattle.abi_lower.specs.invariants.Runs.{statement_blocks, made_ops}
use Rattle.abi_lower.specs.invariants.Lowerings.{RunsAt}
use Rattle.abi_lower.proofs.Placing.{first_number}

-- what a `return` does depends on whose body it is alone
returned_same : (b : Block) (r : Routine) (a : Option Argument) → returned_ops b (routine_of (routine_owner r)) a ≡ returned_ops b r a
returned_same b MainCode a = refl
returned_same b (FunctionCode f) a = refl
returned_same b (PlanCode Constructs form c) a = refl
returned_same b (PlanCode Destroys form c) a = refl
returned_same b (PlanCode Deletes form c) a = refl

kind_same : (b : Block) (at : Routine → ℕ) (r : Routine) (to : ℕ → ℕ) (n next : ℕ) (kind : TypedKind) → kind_ops b at (routine_of (routine_owner r)) to n next kind ≡ kind_ops b at r to n next kind
kind_same b at r to n next (Declare m v) = refl
kind_same b at r to n next (Assign variable v) = refl
kind_same b at r to n next (Write place a) = refl
kind_same b at r to n next (Copy p q c) = refl
kind_same b at r to n next (Call call) = refl
kind_same b at r to n next (Delete p c) = refl
kind_same b at r to n next (If p other behind) = refl
kind_same b at r to n next (While p behind) = refl
kind_same b at r to n next (Return a) = returned_same b r a
kind_same b at r to n next (Print p) = refl
kind_same b at r to n next (PrintType p c) = refl
kind_same b at r to n next (PrintView p c) = refl
kind_same b at r to n next (Dump p c) = refl

routines_same : (x : Setup) (numbers : List CodeRow) → numbers ≡ code_rows x → ◌≡◌ {A = Routine → ℕ} (start_by x numbers) (λ q. block_number x (routine_start x q))
routines_same x numbers rows = fun_ext (λ (q : Routine). ap (λ (l : List CodeRow). start_by x l q) rows ∙ sym (first_number x q))

statements_same : (x : Setup) (numbers : List CodeRow) (body : TypedBody) (base : ℕ) (r : Routine) → RunsAt x numbers body base r → ◌≡◌ {A = ℕ → ℕ} (λ m. base + m) (λ m. block_number x (AtStatement r m))
unfolding block_number
statements_same x numbers body base r runs = fun_ext (λ (m : ℕ). ap (λ k. k + m) (runs.begins ∙ ap (λ (l : List CodeRow). start_by x l r + own_events x r) runs.rows))

same_ops : (x : Setup) (numbers : List CodeRow) (body : TypedBody) (base n : ℕ) (r : Routine) (s : TypedStatement) → RunsAt x numbers body base r → made_ops x (start_by x numbers) body base n s ≡ statement_ops x (block_number x) r body n s
same_ops x numbers body base n r s runs =
    let b = block_in x body in
    let front = kind_front b (spare_register (Some body)) s.kind in
    let tests = check_ops (kind_used b s.kind) in
    let at : Routine → ℕ = λ q. block_number x (routine_start x q) in
    let back : kind_ops b (start_by x numbers) (routine_of body.owner) (λ (m : ℕ). base + m) n s.next s.kind ≡ kind_ops b at r (λ (m : ℕ). block_number x (AtStatement r m)) n s.next s.kind =
    ap (λ (f : Routine → ℕ). kind_ops b f (routine_of body.owner) (λ (m : ℕ). base + m) n s.next s.kind) (routines_same x numbers runs.rows)
    ∙ ap (λ (f : ℕ → ℕ). kind_ops b at (routine_of body.owner) f n s.next s.kind) (statements_same x numbers body base r runs)
    ∙ ap (λ (o : Owner). kind_ops b at (routine_of o) (λ (m : ℕ). block_number x (AtStatement r m)) n s.next s.kind) (sym runs.owner)
    ∙ kind_same b at r (λ (m : ℕ). block_number x (AtStatement r m)) n s.next s.kind in
    ap (λ (l : List Op). front ++ (tests ++ l)) back

block_of_parts : (b : CodeBlock) (ops : List Op) (line : ℕ) → b.ops ≡ ops → b.line ≡ line → b ≡ record { ops = ops; line = line }
block_of_parts b ops line e f = ap (λ (o : List Op). record { ops = o; line = b.line }) e ∙ ap (λ (l : ℕ). record { ops = ops; line = l }) f

-- one statement more
pub statement_more : (x : Setup) (numbers : List CodeRow) (body : TypedBody) (base n : ℕ) (r : Routine) (s : TypedStatement) (list : List TypedStatement) (block : CodeBlock) (old new all : List CodeBlock) →
    RunsAt x numbers body base r → n < length list → s ≡ get_or list n s → block.ops ≡ made_ops x (start_by x numbers) body base n s → block.line ≡ s.line → new ≡ old ++ block ∷ [] →
    old ++ statement_blocks x (block_number x) r body n (drop n list) ≡ all → new ++ statement_blocks x (block_number x) r body (n + 1) (drop (n + 1) list) ≡ all
statement_more x numbers body base n r s list block old new all runs low is ops line pushed before =
    let rest = statement_blocks x (block_number x) r body (n + 1) (drop (n + 1) list) in
    let made = block_of_parts block (statement_ops x (block_number x) r body n s) s.line (ops ∙ same_ops x numbers body base n r s runs) line in
    let next : suc n ≡ n + 1 = omega arith in
    let left : drop n list ≡ s ∷ drop (n + 1) list = drop-cons list n s low ∙ ap (λ (o : TypedStatement). o ∷ drop (suc n) list) (sym is) ∙ ap (λ k. s ∷ drop k list) next in
    ap (λ (l : List CodeBlock). l ++ rest) pushed ∙ append_assoc old (block ∷ []) rest ∙ ap (λ (b : CodeBlock). old ++ b ∷ rest) made
    ∙ ap (λ (l : List TypedStatement). old ++ statement_blocks x (block_number x) r body n l) (sym left) ∙ before
