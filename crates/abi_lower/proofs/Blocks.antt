-- The blocks of a routine stand at the numbers of their places, from its first one on.
use Rattle.std.proofs.Common.{◌≡◌, ℕ, zero, suc, ◌+◌, ◌-◌, Bool, true, false, cond, Option, Some, None, List, [], ◌∷◌, ◌++◌, length, refl, ap, sym, ◌∙◌, arith, length-append}
use Rattle.std.specs.List.{flat_map, sum_by}
use Rattle.std.specs.Prelude.{slice_get, if◌then◌else◌, nat_eq, option_to_list}
use Rattle.std.proofs.lemmas.Bool.{eqb-true}
use Rattle.std.proofs.lemmas.List.Sums.{sum_by-cons, sum_by-append}
use Rattle.foundation.proofs.Places.{get_front}
use Rattle.abi_slots.proofs.Lists.{get_past}
use Rattle.cxx_hierarchy.specs.declared.records.ClassId.{ClassId}
use Rattle.cxx_program.specs.declared.statement.TypedStatement.{TypedStatement}
use Rattle.cxx_program.specs.declared.program.TypedBody.{TypedBody}
use Rattle.path_plan.specs.declared.form.Form.{Form}
use Rattle.byte_code.specs.declared.code.Block.{Block}
use Rattle.code_ops.specs.declared.routines.Course.{Course}
use Rattle.code_ops.specs.Setups.{Setup, Routine, MainCode, FunctionCode, PlanCode, body_of_routine}
use Rattle.path_model.specs.States.{is_body}
use Rattle.code_blocks.specs.Items.{Item, Does, Shares, Inherits, Holds}
use Rattle.code_blocks.specs.Blocks.{Place, items, statement_ops}
use Rattle.code_blocks.specs.Lowered.{has_own_block, own_block, statement_block, body_block}
use Rattle.abi_lower.specs.Bounds.{body_blocks}
use Rattle.abi_lower.specs.invariants.Numbers.{routines, is_own_item, own_count, own_events, blocks_in, block_count, block_number}
use Rattle.abi_lower.specs.invariants.Runs.{event_blocks, plan_blocks, end_block, statement_blocks, blocks_of_body, routine_blocks, all_blocks}

-- own events

own_none : (has : Bool) → own_count has [] ≡ 0
unfolding own_count
own_none has = refl

pub own_first : (has : Bool) (i : Item) (left : List Item) → own_count has (i ∷ left) ≡ cond (is_own_item has i) 1 0 + own_count has left
unfolding own_count
own_first has i left = sum_by-cons (λ (o : Item). cond (is_own_item has o) 1 0) i left

pub own_both : (has : Bool) (before left : List Item) → own_count has (before ++ left) ≡ own_count has before + own_count has left
unfolding own_count
own_both has before left = sum_by-append (λ (o : Item). cond (is_own_item has o) 1 0) before left

abbrev has_body_of : Setup → Course → Form → ClassId → Bool
has_body_of x course form c = is_body (body_of_routine x (PlanCode course form c))

one_or_none : (b : Bool) (block : Block) → length (option_to_list (if b then Some block else None)) ≡ cond b 1 0
one_or_none true block = refl
one_or_none false block = refl

block_long : (x : Setup) (at : Place → ℕ) (course : Course) (form : Form) (c : ClassId) (i : Item) (left : List Item) → length (option_to_list (own_block x at course form c (i ∷ left))) ≡ cond (is_own_item (has_body_of x course form c) i) 1 0
block_long x at course form c (Does k) left = one_or_none (has_own_block (has_body_of x course form c) k) _
block_long x at course form c (Shares v) left = refl
block_long x at course form c (Inherits b) left = refl
block_long x at course form c (Holds way m d n) left = refl

events_long : (x : Setup) (at : Place → ℕ) (course : Course) (form : Form) (c : ClassId) (left : List Item) → length (event_blocks x at course form c left) ≡ own_count (has_body_of x course form c) left
unfolding own_count
events_long x at course form c [] = refl
events_long x at course form c (i ∷ left) =
    length-append (option_to_list (own_block x at course form c (i ∷ left))) (event_blocks x at course form c left)
    ∙ ap (λ n. n + length (event_blocks x at course form c left)) (block_long x at course form c i left)
    ∙ ap (λ n. cond (is_own_item (has_body_of x course form c) i) 1 0 + n) (events_long x at course form c left)
    ∙ sym (own_first (has_body_of x course form c) i left)

event_first : (x : Setup) (at : Place → ℕ) (course : Course) (form : Form) (c : ClassId) (left : List Item) (b : Block) → own_block x at course form c left ≡ Some b → slice_get (event_blocks x at course form c left) 0 ≡ Some b
event_first x at course form c [] b e = cc
event_first x at course form c (i ∷ left) b e = ap (λ (o : Option Block). slice_get (option_to_list o ++ event_blocks x at course form c left) 0) e

event_there : (x : Setup) (at : Place → ℕ) (course : Course) (form : Form) (c : ClassId) (before left : List Item) (b : Block) → own_block x at course form c left ≡ Some b → slice_get (event_blocks x at course form c (before ++ left)) (own_count (has_body_of x course form c) before) ≡ Some b
event_there x at course form c [] left b e = ap (λ k. slice_get (event_blocks x at course form c left) k) (own_none (has_body_of x course form c)) ∙ event_first x at course form c left b e
event_there x at course form c (i ∷ before) left b e =
    let has = has_body_of x course form c in
    let piece = option_to_list (own_block x at course form c (i ∷ (before ++ left))) in
    let place : own_count has (i ∷ before) ≡ length piece + own_count has before = own_first has i before ∙ ap (λ n. n + own_count has before) (sym (block_long x at course form c i (before ++ left))) in
    ap (λ k. slice_get (piece ++ event_blocks x at course form c (before ++ left)) k) place ∙ get_past piece (event_blocks x at course form c (before ++ left)) (own_count has before) b (event_there x at course form c before left b e)

-- statements

statements_long : (x : Setup) (at : Place → ℕ) (r : Routine) (body : TypedBody) (n : ℕ) (list : List TypedStatement) → length (statement_blocks x at r body n list) ≡ length list + 1
statements_long x at r body n [] = refl
statements_long x at r body n (s ∷ list) = let rest = statements_long x at r body (n + 1) list in omega arith

statement_there : (x : Setup) (at : Place → ℕ) (r : Routine) (body : TypedBody) (n k : ℕ) (list : List TypedStatement) (s : TypedStatement) → slice_get list k ≡ Some s →
    slice_get (statement_blocks x at r body n list) k ≡ Some (record { ops = statement_ops x at r body (n + k) s; line = s.line })
statement_there x at r body n k [] s e = cc
statement_there x at r body n zero (t ∷ list) s e =
    let same : t ≡ s = cc in
    let none : n ≡ n + 0 = omega arith in
    ap (λ (o : TypedStatement). Some (record { ops = statement_ops x at r body n o; line = o.line })) same ∙ ap (λ m. Some (record { ops = statement_ops x at r body m s; line = s.line })) none
statement_there x at r body n (suc k) (t ∷ list) s e =
    let more : (n + 1) + k ≡ n + suc k = omega arith in
    statement_there x at r body (n + 1) k list s e ∙ ap (λ m. Some (record { ops = statement_ops x at r body m s; line = s.line })) more

end_there : (x : Setup) (at : Place → ℕ) (r : Routine) (body : TypedBody) (n : ℕ) (list : List TypedStatement) → slice_get (statement_blocks x at r body n list) (length list) ≡ Some (end_block x at r body)
end_there x at r body n [] = refl
end_there x at r body n (s ∷ list) = end_there x at r body (n + 1) list

some_block : (b : Bool) (block other : Block) → (if b then Some block else None) ≡ Some other → (b ≡ true) × (block ≡ other)
some_block true block other e = (refl, let same : block ≡ other = cc in same)
some_block false block other e = cc

block_there : (x : Setup) (at : Place → ℕ) (r : Routine) (body : TypedBody) (n : ℕ) (o : Option TypedStatement) (b : Block) → slice_get body.statements n ≡ o → statement_block x at r body n o ≡ Some b → slice_get (statement_blocks x at r body 0 body.statements) n ≡ Some b
block_there x at r body n None b is e =
    let some = some_block (nat_eq n (length body.statements)) (end_block x at r body) b e in
    ap (λ k. slice_get (statement_blocks x at r body 0 body.statements) k) (eqb-true n (length body.statements) some.0) ∙ end_there x at r body 0 body.statements ∙ ap (λ (o : Block). Some o) some.1
block_there x at r body n (Some s) b is e =
    let none : 0 + n ≡ n = omega arith in
    statement_there x at r body 0 n body.statements s is ∙ ap (λ m. Some (record { ops = statement_ops x at r body m s; line = s.line })) none ∙ e

body_there : (x : Setup) (at : Place → ℕ) (r : Routine) (n : ℕ) (o : Option TypedBody) (b : Block) → body_block x at r n o ≡ Some b → slice_get (blocks_of_body x at r o) n ≡ Some b
body_there x at r n None b e = cc
body_there x at r n (Some body) b e = block_there x at r body n (slice_get body.statements n) b refl e

body_long : (x : Setup) (at : Place → ℕ) (r : Routine) (o : Option TypedBody) → length (blocks_of_body x at r o) ≡ body_blocks o
body_long x at r None = refl
body_long x at r (Some body) = statements_long x at r body 0 body.statements

-- routines

plan_long : (x : Setup) (at : Place → ℕ) (r : Routine) → length (plan_blocks x at r) ≡ own_events x r
unfolding plan_blocks own_events
plan_long x at MainCode = refl
plan_long x at (FunctionCode f) = refl
plan_long x at (PlanCode course form c) = events_long x at course form c (items x course form c)

pub run_long : (x : Setup) (r : Routine) → length (routine_blocks x r) ≡ blocks_in x r
unfolding routine_blocks blocks_in
run_long x r =
    length-append (plan_blocks x (block_number x) r) (blocks_of_body x (block_number x) r (body_of_routine x r))
    ∙ ap (λ n. n + length (blocks_of_body x (block_number x) r (body_of_routine x r))) (plan_long x (block_number x) r)
    ∙ ap (λ n. own_events x r + n) (body_long x (block_number x) r (body_of_routine x r))

runs_long : (x : Setup) (list : List Routine) → length (flat_map (routine_blocks x) list) ≡ sum_by (blocks_in x) list
runs_long x [] = refl
runs_long x (r ∷ list) =
    length-append (routine_blocks x r) (flat_map (routine_blocks x) list)
    ∙ ap (λ n. n + length (flat_map (routine_blocks x) list)) (run_long x r)
    ∙ ap (λ n. blocks_in x r + n) (runs_long x list)
    ∙ sym (sum_by-cons (blocks_in x) r list)

pub all_long : (x : Setup) → length (all_blocks x) ≡ block_count x
unfolding all_blocks block_count
all_long x = runs_long x (routines x)

-- the block of a statement, or of the end of the body
pub statement_in : (x : Setup) (r : Routine) (n : ℕ) (b : Block) → body_block x (block_number x) r n (body_of_routine x r) ≡ Some b → slice_get (routine_blocks x r) (own_events x r + n) ≡ Some b
unfolding routine_blocks
statement_in x r n b e =
    ap (λ k. slice_get (plan_blocks x (block_number x) r ++ blocks_of_body x (block_number x) r (body_of_routine x r)) (k + n)) (sym (plan_long x (block_number x) r))
    ∙ get_past (plan_blocks x (block_number x) r) (blocks_of_body x (block_number x) r (body_of_routine x r)) n b (body_there x (block_number x) r n (body_of_routine x r) b e)

-- the block of an own event of a plan
pub event_in : (x : Setup) (course : Course) (form : Form) (c : ClassId) (before left : List Item) (b : Block) → before ++ left ≡ items x course form c → own_block x (block_number x) course form c left ≡ Some b →
    slice_get (routine_blocks x (PlanCode course form c)) (own_events x (PlanCode course form c) - own_count (has_body_of x course form c) left) ≡ Some b
unfolding routine_blocks plan_blocks own_events
event_in x course form c before left b is e =
    let has = has_body_of x course form c in
    let at = block_number x in
    let r = PlanCode course form c in
    let all : own_count has (items x course form c) ≡ own_count has before + own_count has left = ap (own_count has) (sym is) ∙ own_both has before left in
    let place : own_count has (items x course form c) - own_count has left ≡ own_count has before = omega arith in
    ap (λ k. slice_get (event_blocks x at course form c (items x course form c) ++ blocks_of_body x at r (body_of_routine x r)) k) place
    ∙ get_front (event_blocks x at course form c (items x course form c)) (blocks_of_body x at r (body_of_routine x r)) (own_count has before) b
    (ap (λ (list : List Item). slice_get (event_blocks x at course form c list) (own_count has before)) (sym is) ∙ event_there x at course form c before left b e)
