-- Each place has its block at its number, and the numbers of functions are those at which their routines begin.
use Rattle.std.proofs.Common.{◌≡◌, ℕ, ◌+◌, ◌<◌, inl, Bool, true, false, Option, Some, None, List, [], ◌∷◌, ◌++◌, length, refl, ap, subst, sym, ◌∙◌, arith}
use Rattle.std.specs.Prelude.{slice_get}
use Rattle.cxx_hierarchy.specs.declared.records.ClassId.{ClassId}
use Rattle.cxx_overrider.specs.declared.FunctionId.{FunctionId}
use Rattle.cxx_program.specs.declared.program.TypedBody.{TypedBody}
use Rattle.cxx_program.specs.Typed.{IsTypedProgram}
use Rattle.path_plan.specs.declared.form.Form.{Form}
use Rattle.byte_code.specs.declared.code.Block.{Block}
use Rattle.byte_code.specs.declared.code.Code.{Code}
use Rattle.abi_slots.specs.declared.code_numbers.BlockKind.{BlockKind}
use Rattle.abi_slots.specs.declared.code_numbers.CodeRow.{CodeRow}
use Rattle.abi_slots.specs.CodeRows.{code_of, AreDistinctRows}
use Rattle.code_ops.specs.declared.routines.Course.{Course}
use Rattle.code_ops.specs.declared.routines.Course.TheVariants.{Constructs, Destroys, Deletes}
use Rattle.code_ops.specs.Setups.{Setup, Routine, MainCode, FunctionCode, PlanCode, body_of_routine}
use Rattle.code_ops.specs.Routines.{IsRoutine, function_of_routine, routine_kind, number_or_first, start_by}
use Rattle.code_blocks.specs.Items.{Item, Does}
use Rattle.code_blocks.specs.Blocks.{Place, AtStatement, AtEvent, routine_start}
use Rattle.code_blocks.specs.declared.items.Kind.TheVariants.{AtBegin, AtEnding}
use Rattle.code_blocks.specs.Lowered.{block_of, IsCodePlace, HasRegisters, main_start, IsLowered}
use Rattle.abi_lower.specs.Bounds.{body_blocks}
use Rattle.abi_lower.specs.invariants.Numbers.{main_routines, routines, own_count, own_events, blocks_in, code_rows_from, code_rows, block_number}
use Rattle.abi_lower.specs.invariants.Runs.{routine_blocks, all_blocks}
use Rattle.abi_lower.proofs.Starts.{BeginsAt, begins, begins_once, begins_run, begins_code, code_known, rows_distinct}
use Rattle.abi_lower.proofs.ListedRoutines.{routine_there, routine_only, forms_apart}
use Rattle.abi_lower.proofs.Blocks.{own_first, run_long, statement_in, event_in}
use Rattle.path_model.specs.States.{is_body}

-- where routines begin

main_begins : (x : Setup) (main : Option TypedBody) (rest : List Routine) → is_body main ≡ true → BeginsAt x 0 (main_routines main ++ rest) MainCode 0
main_begins x None rest e = absurd (let f : false ≡ true = e in cc)
main_begins x (Some body) rest e = inl (refl, refl)

named_begins : (x : Setup) → IsTypedProgram x.h x.program → (r : Routine) (f : FunctionId) → IsRoutine x r → function_of_routine x r ≡ Some f → (code_of (code_rows x) f (routine_kind r) ≡ Some (start_by x (code_rows x) r)) × BeginsAt x 0 (routines x) r (start_by x (code_rows x) r)
unfolding code_rows
named_begins x typed r f is named =
    let at = begins x 0 (routines x) r (routine_there x typed r is) in
    let code = begins_code x 0 at.0 (routines x) r f (forms_apart x typed) named at.1 in
    let start : start_by x (code_rows_from x 0 (routines x)) r ≡ at.0 = ap (λ (o : Option FunctionId). Rattle.code_ops.specs.Routines.start_of_function (code_rows_from x 0 (routines x)) (routine_kind r) o) named ∙ ap number_or_first code in
    (code ∙ ap (λ n. Some n) (sym start), subst (λ n. BeginsAt x 0 (routines x) r n) (sym start) at.1)

pub begins_there : (x : Setup) → IsTypedProgram x.h x.program → (r : Routine) → IsRoutine x r → BeginsAt x 0 (routines x) r (start_by x (code_rows x) r)
unfolding routines
begins_there x typed MainCode is = main_begins x x.program.main _ is
begins_there x typed (FunctionCode f) is = (named_begins x typed (FunctionCode f) f is refl).1
begins_there x typed (PlanCode course form c) is = (named_begins x typed (PlanCode course form c) _ is refl).1

-- and their first places
pub first_number : (x : Setup) (r : Routine) → block_number x (routine_start x r) ≡ start_by x (code_rows x) r
unfolding block_number own_events
first_number x MainCode = refl
first_number x (FunctionCode f) = omega arith
first_number x (PlanCode course form c) = omega arith

-- each has a block

begin_some : (has : Bool) (left : List Item) → 0 < own_count has (Does AtBegin ∷ left)
begin_some has left = let e = own_first has (Does AtBegin) left in omega arith

ending_some : (has : Bool) (left : List Item) → 0 < own_count has (Does AtEnding ∷ left)
ending_some has left = let e = own_first has (Does AtEnding) left in omega arith

plan_some : (x : Setup) (course : Course) (form : Form) (c : ClassId) → 0 < own_events x (PlanCode course form c)
unfolding own_events
plan_some x Constructs form c = begin_some (is_body (body_of_routine x (PlanCode Constructs form c))) _
plan_some x Destroys form c = ending_some (is_body (body_of_routine x (PlanCode Destroys form c))) _
plan_some x Deletes form c = ending_some (is_body (body_of_routine x (PlanCode Deletes form c))) _

body_some : (o : Option TypedBody) → is_body o ≡ true → 0 < body_blocks o
body_some None e = absurd (let f : false ≡ true = e in cc)
body_some (Some body) e = omega arith

routine_some : (x : Setup) (r : Routine) → IsRoutine x r → 0 < blocks_in x r
unfolding blocks_in
routine_some x MainCode is = let some = body_some (body_of_routine x MainCode) is in omega arith
routine_some x (FunctionCode f) is = let some = body_some (body_of_routine x (FunctionCode f)) is in omega arith
routine_some x (PlanCode course form c) is = let some = plan_some x course form c in omega arith

-- places

stands : (x : Setup) → IsTypedProgram x.h x.program → (r : Routine) (k : ℕ) (b : Block) → IsRoutine x r → slice_get (routine_blocks x r) k ≡ Some b → slice_get (all_blocks x) (start_by x (code_rows x) r + k) ≡ Some b
unfolding all_blocks
stands x typed r k b is there = begins_run x 0 (start_by x (code_rows x) r) k (routines x) r b [] (run_long x) refl (begins_there x typed r is) there

place_stands : (x : Setup) → IsTypedProgram x.h x.program → (p : Place) (b : Block) → IsCodePlace x p → block_of x (block_number x) p ≡ Some b → slice_get (all_blocks x) (block_number x p) ≡ Some b
unfolding block_number
place_stands x typed (AtStatement r n) b is e =
    let place : start_by x (code_rows x) r + own_events x r + n ≡ start_by x (code_rows x) r + (own_events x r + n) = omega arith in
    ap (λ k. slice_get (all_blocks x) k) place ∙ stands x typed r (own_events x r + n) b is (statement_in x r n b e)
place_stands x typed (AtEvent course form c left) b is e = stands x typed (PlanCode course form c) _ b is.0 (event_in x course form c is.1.before left b is.1.is e)

start_stands : (x : Setup) (main : Option TypedBody) → main_start (block_number x) main ≡ 0
start_stands x None = refl
start_stands x (Some body) = first_number x MainCode

first_apart : (x : Setup) → IsTypedProgram x.h x.program → (r q : Routine) → IsRoutine x r → IsRoutine x q → block_number x (routine_start x r) ≡ block_number x (routine_start x q) → r ≡ q
first_apart x typed r q is_r is_q e =
    let same : start_by x (code_rows x) r ≡ start_by x (code_rows x) q = sym (first_number x r) ∙ e ∙ first_number x q in
    begins_once x 0 (start_by x (code_rows x) r) (routines x) r q (λ p has. routine_some x p (routine_only x p has)) (begins_there x typed r is_r) (subst (λ n. BeginsAt x 0 (routines x) q n) (sym same) (begins_there x typed q is_q))

-- rows

known : (x : Setup) (f : FunctionId) (kind : BlockKind) (n : ℕ) → code_of (code_rows x) f kind ≡ Some n → (r : Routine) × IsRoutine x r × (function_of_routine x r ≡ Some f) × (routine_kind r ≡ kind)
unfolding code_rows
known x f kind n e = let r = code_known x 0 n (routines x) f kind e in (r.0, routine_only x r.0 r.1, r.2, r.3)

code_rows_distinct : (x : Setup) → IsTypedProgram x.h x.program → AreDistinctRows (code_rows x)
unfolding code_rows
code_rows_distinct x typed = rows_distinct x 0 (routines x) (forms_apart x typed)

pub rows_distinct_as : (x : Setup) (rows : List CodeRow) → IsTypedProgram x.h x.program → rows ≡ code_rows x → AreDistinctRows rows
rows_distinct_as x rows typed is = subst AreDistinctRows (sym is) (code_rows_distinct x typed)

-- the code of all blocks in their order is that of the program
pub code_lowered : (x : Setup) (code : Code) (numbers : List CodeRow) → IsTypedProgram x.h x.program → code.blocks ≡ all_blocks x → code.start ≡ 0 → code.globals ≡ length x.program.globals → HasRegisters x code.registers → numbers ≡ code_rows x → IsLowered x code numbers
code_lowered x code numbers typed blocks start globals registers rows = record {
  at = block_number x;
  each = λ p b is e. ap (λ (list : List Block). slice_get list (block_number x p)) blocks ∙ place_stands x typed p b is e;
  start = start ∙ sym (start_stands x x.program.main);
  globals = globals;
  registers = registers;
  numbered = λ r f is named. ap (λ (list : List CodeRow). code_of list f (routine_kind r)) rows ∙ (named_begins x typed r f is named).0 ∙ ap (λ n. Some n) (sym (first_number x r));
  known = λ f kind n e. known x f kind n (ap (λ (list : List CodeRow). code_of list f kind) (sym rows) ∙ e);
  rows = rows_distinct_as x numbers typed rows;
  apart = λ r q is_r is_q e. first_apart x typed r q is_r is_q e;
}
