-- The blocks that code counts are those of a routine.
use Rattle.std.proofs.Common.{◌≡◌, ℕ, ◌+◌, ◌⊎◌, ⊎_elim, Bool, cond, Option, Some, None, List, [], ◌∷◌, length, refl, ap, sym, ◌∙◌, arith}
use Rattle.std.specs.List.{count_by}
use Rattle.std.proofs.lemmas.List.Sums.{sum_by-cons}
use Rattle.cxx_hierarchy.specs.declared.records.ClassId.{ClassId}
use Rattle.cxx_overrider.specs.declared.FunctionId.{FunctionId}
use Rattle.cxx_program.specs.declared.program.Owner.{Owner}
use Rattle.cxx_program.specs.declared.program.TypedBody.{TypedBody}
use Rattle.path_model.specs.States.{owned_body, is_body}
use Rattle.code_ops.specs.declared.routines.Course.{Course}
use Rattle.code_ops.specs.Setups.{Setup, Routine, PlanCode, body_of_routine, routine_owner}
use Rattle.path_plan.specs.declared.form.Form.{Form}
use Rattle.code_blocks.specs.declared.items.Item.{Item as ItemCode}
use Rattle.code_blocks.specs.Items.{Item, Does, Shares, Inherits, Holds}
use Rattle.code_blocks.specs.Blocks.{items}
use Rattle.code_blocks.specs.invariants.ItemCodes.{item_code, item_codes}
use Rattle.abi_lower.specs.declared.routines.Routine.{Routine as RoutineCode}
use Rattle.abi_lower.specs.declared.routines.Routine.TheVariants.{Main, Function, Plan}
use Rattle.abi_lower.specs.Bounds.{body_blocks}
use Rattle.abi_lower.specs.invariants.Numbers.{is_own_item, own_count, own_events, blocks_in}
use Rattle.abi_lower.specs.invariants.Codes.{routine_from, is_own_code}

code_own : (has : Bool) (i : Item) → is_own_code has (item_code i) ≡ is_own_item has i
code_own has (Does k) = refl
code_own has (Shares v) = refl
code_own has (Inherits b) = refl
code_own has (Holds way m d n) = refl

pub codes_own : (has : Bool) (list : List Item) → count_by (is_own_code has) (item_codes list) ≡ own_count has list
unfolding own_count
codes_own has [] = refl
codes_own has (i ∷ list) =
    sum_by-cons (λ (o : ItemCode). cond (is_own_code has o) 1 0) (item_code i) (item_codes list)
    ∙ ap (λ (b : Bool). cond b 1 0 + count_by (is_own_code has) (item_codes list)) (code_own has i)
    ∙ ap (λ n. cond (is_own_item has i) 1 0 + n) (codes_own has list)
    ∙ sym (sum_by-cons (λ (o : Item). cond (is_own_item has o) 1 0) i list)

-- the own events of a plan
pub plan_counted : (x : Setup) (r : RoutineCode) (course : Course) (form : Form) (c : ClassId) (owner : Owner) (n : ℕ) (has : Bool) (codes : List ItemCode) → r ≡ Plan course form c → owner ≡ routine_owner (PlanCode course form c) →
    has ≡ is_body (owned_body x.program owner) → codes ≡ item_codes (items x course form c) → n ≡ count_by (is_own_code has) codes → n ≡ own_events x (routine_from r)
unfolding own_events
plan_counted x r course form c owner n has codes is of body list counted =
    let plan = PlanCode course form c in
    let same : has ≡ is_body (body_of_routine x plan) = body ∙ ap (λ (o : Owner). is_body (owned_body x.program o)) of in
    counted ∙ ap (λ (b : Bool). count_by (is_own_code b) codes) same ∙ ap (λ (l : List ItemCode). count_by (is_own_code (is_body (body_of_routine x plan))) l) list
    ∙ codes_own (is_body (body_of_routine x plan)) (items x course form c) ∙ ap (λ (q : RoutineCode). own_events x (routine_from q)) (sym is)

-- `main` and a function have none
pub none_counted : (x : Setup) (r : RoutineCode) → (r ≡ Main) ⊎ ((f : FunctionId) × (r ≡ Function f)) → 0 ≡ own_events x (routine_from r)
unfolding own_events
none_counted x r is = ⊎_elim (λ e. sym (ap (λ (q : RoutineCode). own_events x (routine_from q)) e)) (λ e. sym (ap (λ (q : RoutineCode). own_events x (routine_from q)) e.1)) is

pub blocks_some : (x : Setup) (r : Routine) (body : TypedBody) → Some body ≡ body_of_routine x r → blocks_in x r ≡ own_events x r + (length body.statements + 1)
unfolding blocks_in
blocks_some x r body is = ap (λ (o : Option TypedBody). own_events x r + body_blocks o) (sym is)

pub blocks_none : (x : Setup) (r : Routine) → None ≡ body_of_routine x r → blocks_in x r ≡ own_events x r
unfolding blocks_in
blocks_none x r is = ap (λ (o : Option TypedBody). own_events x r + body_blocks o) (sym is) ∙ (let none : own_events x r + 0 ≡ own_events x r = omega arith in none)
