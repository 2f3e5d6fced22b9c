-- What is known where the blocks of a routine are put behind others.
use Rattle.std.proofs.Common.{◌≡◌, ℕ, ◌+◌, ◌<◌, ◌≤◌, ◌^◌, Bool, true, false, Option, Some, None, List, [], ◌∷◌, ◌++◌, length, get_or, drop, append_assoc, refl, ap, subst, sym, arith, ◌∙◌}
use Rattle.std.specs.List.{flat_map, count_by}
use Rattle.std.proofs.lemmas.List.{append-nil, flat_map_more}
use Rattle.std.proofs.lemmas.List.Concat.{flat_map-append}
use Rattle.cxx_hierarchy.specs.declared.records.ClassId.{ClassId}
use Rattle.cxx_hierarchy.specs.Classes.{Classes}
use Rattle.cxx_overrider.specs.declared.FunctionId.{FunctionId}
use Rattle.cxx_overrider.specs.declared.pass.Overriders.{Overriders}
use Rattle.cxx_program.specs.declared.program.Owner.{Owner}
use Rattle.cxx_program.specs.declared.program.Owner.TheVariants.{Function}
use Rattle.cxx_program.specs.declared.program.TypedBody.{TypedBody}
use Rattle.cxx_program.specs.declared.program.TypedProgram.{TypedProgram}
use Rattle.cxx_program.specs.Typed.{HasBody, IsTypedProgram}
use Rattle.path_plan.specs.declared.form.Form.{Form}
use Rattle.path_numbers.specs.declared.numbers.ClassNumbers.{ClassNumbers}
use Rattle.path_bodies.specs.declared.index.BodyIndex.{BodyIndex}
use Rattle.path_model.specs.States.{owned_body, is_body}
use Rattle.path_model.proofs.TypedBodies.{body_typed}
use Rattle.byte_code.specs.declared.code.Block.{Block}
use Rattle.abi_slots.specs.declared.slots.Slots.{Slots}
use Rattle.abi_slots.specs.declared.code_numbers.CodeRow.{CodeRow}
use Rattle.code_ops.specs.declared.routines.Course.{Course}
use Rattle.code_ops.specs.Setups.{Setup, Routine, MainCode, FunctionCode, PlanCode, body_of_routine, routine_owner}
use Rattle.code_ops.specs.Routines.{IsRoutine, start_by}
use Rattle.code_blocks.specs.declared.items.Item.{Item as ItemCode}
use Rattle.code_blocks.specs.Blocks.{items}
use Rattle.code_plans.specs.declared.plan_sites.ClassPlan.{ClassPlan}
use Rattle.abi_lower.specs.declared.routines.Routine.{Routine as RoutineCode}
use Rattle.abi_lower.specs.declared.routines.Routine.TheVariants.{Main, Plan}
use Rattle.abi_lower.specs.invariants.Numbers.{main_routines, owned_routines, plain_routines, plan_routines, class_ids, routines, own_events, blocks_in, block_count, code_rows, block_number}
use Rattle.abi_lower.specs.invariants.Codes.{routine_from, routines_from, is_own_code, runs_no_plan}
use Rattle.abi_lower.specs.invariants.Runs.{event_blocks, plan_blocks, statement_blocks, blocks_of_body, routine_blocks, class_blocks, all_blocks}
use Rattle.abi_lower.specs.invariants.Lowerings.{IsLowering, IsBodySite, RunsAt, IsPlanRun, plan_code, plan_items}
use Rattle.abi_lower.proofs.BodySites.{declares_known}
use Rattle.abi_lower.proofs.Counted.{plan_counted, blocks_some}
use Rattle.abi_lower.proofs.Placing.{begins_there}
use Rattle.abi_lower.proofs.RowSteps.{routine_next}
use Rattle.abi_lower.proofs.Starts.{begins_high}

-- a function that has a body is one of a known class
by_body : (h : Classes) (program : TypedProgram) → IsTypedProgram h program → (f : FunctionId) (o : Option TypedBody) → owned_body program (Function f) ≡ o → is_body o ≡ true → f.class.0 < length h
by_body h program typed f None is e = absurd (let g : false ≡ true = e in cc)
by_body h program typed f (Some body) is e =
    let found = body_typed h program typed (Function f) body is in
    let has : HasBody h (Function f) = subst (λ (o : Owner). HasBody h o) found.0 found.1.owner in
    declares_known h f.class f.index has.0 has.1

pub function_known : (x : Setup) → IsTypedProgram x.h x.program → (f : FunctionId) → IsRoutine x (FunctionCode f) → f.class.0 < length x.h
function_known x typed f is = by_body x.h x.program typed f (owned_body x.program (Function f)) refl is

module _ (x : Setup) (overriders : Overriders) (slots : Slots) (index : BodyIndex) (orders : List ClassNumbers) (lowering : IsLowering x overriders slots index orders) (numbers : List CodeRow) (rows : numbers ≡ code_rows x) where
  pub body_site : (r : Routine) (body : TypedBody) → Some body ≡ body_of_routine x r → IsBodySite x slots overriders body
  body_site r body is =
      let found = body_typed x.h x.program lowering.typed (routine_owner r) body (sym is) in
      record {
        keeps = lowering.keeps;
        are_overriders = lowering.are_overriders;
        are_slots = lowering.are_slots;
        program = lowering.typed;
        typed = found.1;
        few_globals = lowering.small.globals;
        few_locals = lowering.small.locals.each (routine_owner r) body (sym is);
      }

  run_room : (r : Routine) → IsRoutine x r → start_by x numbers r + blocks_in x r < 2 ^ 32
  unfolding block_count
  run_room r is =
      let high = begins_high x 0 (start_by x (code_rows x) r) (routines x) r (begins_there x lowering.typed r is) in
      let few = lowering.few_blocks in
      let same : start_by x numbers r ≡ start_by x (code_rows x) r = ap (λ (l : List CodeRow). start_by x l r) rows in omega arith

  pub body_room : (r : Routine) (body : TypedBody) (n : ℕ) → IsRoutine x r → Some body ≡ body_of_routine x r → n ≡ start_by x numbers r + own_events x r → n + length body.statements < 2 ^ 32
  body_room r body n is has begins = let room = run_room r is in let all = blocks_some x r body has in omega arith

  pub runs_at : (r : Routine) (body : TypedBody) (n : ℕ) → Some body ≡ body_of_routine x r → n ≡ start_by x numbers r + own_events x r → RunsAt x numbers body n r
  runs_at r body n has begins = record { owner = sym (body_typed x.h x.program lowering.typed (routine_owner r) body (sym has)).0; rows = rows; begins = begins }

  -- a plan

  own_low : (r : Routine) → own_events x r ≤ blocks_in x r
  unfolding blocks_in
  own_low r = omega arith

  pub is_plan_run : (plan : ClassPlan) (owner : Owner) (first own : ℕ) (has : Bool) (codes : List ItemCode) → IsRoutine x (plan_code plan) → owner ≡ routine_owner (plan_code plan) → has ≡ is_body (owned_body x.program owner) → codes ≡ plan_items x plan →
      own ≡ count_by (is_own_code has) codes → first ≡ start_by x numbers (plan_code plan) → IsPlanRun x numbers (record { plan = plan; first = first; own = own; has_body = has })
  is_plan_run plan owner first own has codes is of body list counted begins =
      let all : own ≡ own_events x (plan_code plan) = plan_counted x (Plan plan.course plan.form plan.class) plan.course plan.form plan.class owner own has codes refl of body list counted in
      record {
        rows = rows;
        begins = begins;
        counted = all;
        body = body ∙ ap (λ (o : Owner). is_body (owned_body x.program o)) of;
        room = (let room = run_room (plan_code plan) is in let low = own_low (plan_code plan) in omega arith);
      }

-- `main` and functions have no own events

pub plain_own : (x : Setup) (r : Routine) → runs_no_plan r ≡ true → own_events x r ≡ 0
unfolding own_events
plain_own x MainCode is = refl
plain_own x (FunctionCode f) is = refl
plain_own x (PlanCode course form c) is = absurd (let e : false ≡ true = is in cc)

pub plain_run : (x : Setup) (r : Routine) (body : TypedBody) → runs_no_plan r ≡ true → Some body ≡ body_of_routine x r → statement_blocks x (block_number x) r body 0 body.statements ≡ routine_blocks x r
unfolding routine_blocks plan_blocks
plain_run x MainCode body is has = ap (λ (o : Option TypedBody). blocks_of_body x (block_number x) MainCode o) has
plain_run x (FunctionCode f) body is has = ap (λ (o : Option TypedBody). blocks_of_body x (block_number x) (FunctionCode f) o) has
plain_run x (PlanCode course form c) body is has = absurd (let e : false ≡ true = is in cc)

-- a plan has the blocks of its own events, and those of its body

pub plan_run_none : (x : Setup) (course : Course) (form : Form) (c : ClassId) → None ≡ body_of_routine x (PlanCode course form c) → event_blocks x (block_number x) course form c (items x course form c) ≡ routine_blocks x (PlanCode course form c)
unfolding routine_blocks plan_blocks
plan_run_none x course form c none =
    let events = event_blocks x (block_number x) course form c (items x course form c) in
    sym (append-nil events) ∙ ap (λ (o : Option TypedBody). events ++ blocks_of_body x (block_number x) (PlanCode course form c) o) none

pub plan_run_some : (x : Setup) (course : Course) (form : Form) (c : ClassId) (body : TypedBody) → Some body ≡ body_of_routine x (PlanCode course form c) →
    event_blocks x (block_number x) course form c (items x course form c) ++ statement_blocks x (block_number x) (PlanCode course form c) body 0 body.statements ≡ routine_blocks x (PlanCode course form c)
unfolding routine_blocks plan_blocks
plan_run_some x course form c body has = ap (λ (o : Option TypedBody). event_blocks x (block_number x) course form c (items x course form c) ++ blocks_of_body x (block_number x) (PlanCode course form c) o) has

-- two pieces behind others
pub two_pieces : (old mid new first second whole : List Block) → mid ≡ old ++ first → new ≡ mid ++ second → first ++ second ≡ whole → new ≡ old ++ whole
two_pieces old mid new first second whole e f g = f ∙ ap (λ (l : List Block). l ++ second) e ∙ append_assoc old first second ∙ ap (λ (l : List Block). old ++ l) g

-- all routines

-- one routine more
pub run_more : (x : Setup) (before : List Routine) (r : Routine) (old mid new : List Block) → mid ≡ old ++ flat_map (routine_blocks x) before → new ≡ mid ++ routine_blocks x r → new ≡ old ++ flat_map (routine_blocks x) (before ++ r ∷ [])
run_more x before r old mid new e f = f ∙ ap (λ (l : List Block). l ++ routine_blocks x r) e ∙ flat_map_more (routine_blocks x) old before r

-- none yet
pub run_none : (x : Setup) (old : List Block) → old ≡ old ++ flat_map (routine_blocks x) []
run_none x old = sym (append-nil old)

nested : {A B C : Type 0} (f : A → List B) (g : B → List C) (xs : List A) → flat_map (λ (a : A). flat_map g (f a)) xs ≡ flat_map g (flat_map f xs)
nested f g [] = refl
nested f g (a ∷ xs) = ap (λ l. flat_map g (f a) ++ l) (nested f g xs) ∙ sym (flat_map-append g (f a) (flat_map f xs))

-- `main` and the functions, and then the plans of all classes
pub all_run : (x : Setup) → flat_map (routine_blocks x) (plain_routines x.program) ++ flat_map (class_blocks x) (class_ids (length x.h)) ≡ all_blocks x
unfolding all_blocks routines
all_run x =
    let main = main_routines x.program.main in
    let functions = flat_map (λ (body : TypedBody). owned_routines body.owner) x.program.bodies in
    let classes = flat_map plan_routines (class_ids (length x.h)) in
    ap (λ (l : List Block). flat_map (routine_blocks x) (main ++ functions) ++ l) (nested plan_routines (routine_blocks x) (class_ids (length x.h)))
    ∙ sym (flat_map-append (routine_blocks x) (main ++ functions) classes)
    ∙ ap (λ (l : List Routine). flat_map (routine_blocks x) l) (append_assoc main functions classes)

pub all_put : (x : Setup) (old mid new : List Block) → old ≡ [] → mid ≡ old ++ flat_map (routine_blocks x) (plain_routines x.program) → new ≡ mid ++ flat_map (class_blocks x) (class_ids (length x.h)) → new ≡ all_blocks x
all_put x old mid new none e f = two_pieces old mid new (flat_map (routine_blocks x) (plain_routines x.program)) (flat_map (class_blocks x) (class_ids (length x.h))) (all_blocks x) e f (all_run x) ∙ ap (λ (l : List Block). l ++ all_blocks x) none

pub blocks_more : (x : Setup) (list : List RoutineCode) (i : ℕ) (old new all : List Block) → i < length list → new ≡ old ++ routine_blocks x (routine_from (get_or list i Main)) → old ++ flat_map (routine_blocks x) (routines_from (drop i list)) ≡ all →
    new ++ flat_map (routine_blocks x) (routines_from (drop (i + 1) list)) ≡ all
blocks_more x list i old new all low pushed before =
    let rest = flat_map (routine_blocks x) (routines_from (drop (i + 1) list)) in
    let piece = routine_blocks x (routine_from (get_or list i Main)) in
    ap (λ (l : List Block). l ++ rest) pushed ∙ append_assoc old piece rest ∙ ap (λ (l : List Routine). old ++ flat_map (routine_blocks x) l) (sym (routine_next list i low)) ∙ before
