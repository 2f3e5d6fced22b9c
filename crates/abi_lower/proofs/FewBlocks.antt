-- A program of so many statements has fewer than 2 ^ 32 blocks.
use Rattle.std.proofs.Common.{◌≡◌, ℕ, zero, suc, ◌+◌, ◌*◌, ◌<◌, ◌≤◌, ◌^◌, inl, inr, ⊎_elim, Bool, true, false, cond, Option, Some, None, List, [], ◌∷◌, ◌++◌, length, map, length-append, refl, ap, subst, sym, ◌∙◌, arith}
use Rattle.std.specs.Prelude.{slice_get, if◌then◌else◌}
use Rattle.std.specs.List.{flat_map, sum_by}
use Rattle.std.proofs.lemmas.List.Sums.{sum_by-cons, sum_by-append}
use Rattle.foundation.proofs.Truth.{split}
use Rattle.foundation.proofs.Members.{Has, index_of}
use Rattle.foundation.proofs.Chosen.{find_passes}
use Rattle.cxx_hierarchy.specs.declared.records.ClassId.{ClassId}
use Rattle.cxx_hierarchy.specs.declared.records.Base.{Base}
use Rattle.cxx_hierarchy.specs.declared.records.Member.{Member}
use Rattle.cxx_hierarchy.specs.declared.records.FieldType.{FieldType}
use Rattle.cxx_hierarchy.specs.declared.records.FieldType.TheVariants.{Value, Object}
use Rattle.cxx_hierarchy.specs.Classes.{bases_of, members_of}
use Rattle.cxx_hierarchy.specs.Declarations.{elements_of}
use Rattle.cxx_hierarchy.specs.Hierarchies.{IsHierarchy}
use Rattle.cxx_overrider.specs.declared.FunctionId.{FunctionId}
use Rattle.cxx_program.specs.declared.program.Owner.{Owner}
use Rattle.cxx_program.specs.declared.program.Owner.TheVariants.{Main, Function, Constructor, Destructor}
use Rattle.cxx_program.specs.declared.program.TypedBody.{TypedBody}
use Rattle.cxx_program.specs.Typed.{IsTypedProgram}
use Rattle.cxx_search.proofs.Finding.{finds_some}
use Rattle.path_plan.specs.declared.form.Form.{Form}
use Rattle.path_plan.specs.declared.form.Form.TheVariants.{InFull, AsBase}
use Rattle.path_plan.specs.Plans.{count_from, upto, backwards, virtual_order}
use Rattle.path_model.specs.States.{same_owner, owned_body, plan_bodies, is_body}
use Rattle.path_model.proofs.TypedBodies.{body_typed, same_function_itself}
use Rattle.code_ops.specs.declared.routines.Course.{Course}
use Rattle.code_ops.specs.declared.routines.Course.TheVariants.{Constructs, Destroys, Deletes}
use Rattle.code_ops.specs.Setups.{Setup, FunctionCode, PlanCode, body_of_routine}
use Rattle.code_blocks.specs.declared.items.Kind.TheVariants.{AtBegin, AtReady, AtInit, AtBody, AtDone, AtEnding, AtBases, AtEnd}
use Rattle.code_blocks.specs.declared.items.Way.{Way}
use Rattle.code_blocks.specs.declared.items.Way.TheVariants.{Forwards, Backwards}
use Rattle.code_blocks.specs.Items.{Item, Does, Shares, Inherits, Holds, shared_base_items, base_items, init_items, body_items, typed_items, member_items}
use Rattle.code_blocks.specs.Blocks.{items}
use Rattle.abi_lower.specs.Bounds.{body_blocks, statements_in, most_statements}
use Rattle.abi_lower.specs.invariants.Numbers.{main_routines, owned_routines, plan_routines, class_ids, routines, is_own_item, own_count, own_events, blocks_in, block_count}
use Rattle.abi_lower.proofs.Blocks.{own_first, own_both}

-- the own events of a plan

own_one : (b : Bool) (i : Item) (left : List Item) → own_count b (i ∷ left) ≤ 1 + own_count b left
own_one b i left = let e = own_first b i left in by_test (is_own_item b i) e
  where
    by_test : (t : Bool) → own_count b (i ∷ left) ≡ cond t 1 0 + own_count b left → own_count b (i ∷ left) ≤ 1 + own_count b left
    by_test true e = omega arith
    by_test false e = omega arith

none_own : (b : Bool) → own_count b [] ≡ 0
unfolding own_count
none_own b = refl

no_shared : (b : Bool) (form : Form) (order : List ClassId) → own_count b (shared_base_items form order) ≡ 0
no_shared b AsBase order = none_own b
no_shared b InFull [] = none_own b
no_shared b InFull (v ∷ order) = let e = own_first b (Shares v) (map Shares order) in let rest = no_shared b InFull order in omega arith

no_base : (b : Bool) (base : Base ClassId) → own_count b (base_items base) ≡ 0
no_base b base = split base.is_virtual (λ t. own_count b (if t then [] else Inherits base ∷ []) ≡ 0) (λ _. none_own b) (λ _. let e = own_first b (Inherits base) [] in let none = none_own b in omega arith)

no_bases : (b : Bool) (bases : List (Base ClassId)) → own_count b (flat_map base_items bases) ≡ 0
no_bases b [] = none_own b
no_bases b (base ∷ bases) = let e = own_both b (base_items base) (flat_map base_items bases) in let one = no_base b base in let rest = no_bases b bases in omega arith

one_init : (b : Bool) (is_set : Bool) (m : ℕ) → own_count b (init_items is_set m) ≤ 1
one_init b true m = let e = own_one b (Does (AtInit m)) [] in let none = none_own b in omega arith
one_init b false m = let none = none_own b in omega arith

one_typed : (b : Bool) (is_set : Bool) (way : Way) (m n : ℕ) (type : FieldType ClassId) → own_count b (typed_items is_set way m n type) ≤ 1
one_typed b is_set way m n (Value type) = one_init b is_set m
one_typed b is_set way m n (Object d) = let e = own_one b (Holds way m d n) [] in let none = none_own b in omega arith

one_member : (b : Bool) (is_set : Bool) (way : Way) (m : ℕ) (o : Option (Member ClassId)) → own_count b (member_items is_set way m o) ≤ 1
one_member b is_set way m None = let none = none_own b in omega arith
one_member b is_set way m (Some member) = one_typed b is_set way m (elements_of member.count) member.ty

few_members : (b : Bool) (give : ℕ → List Item) (ms : List ℕ) → ((m : ℕ) → own_count b (give m) ≤ 1) → own_count b (flat_map give ms) ≤ length ms
few_members b give [] one = let none = none_own b in omega arith
few_members b give (m ∷ ms) one = let e = own_both b (give m) (flat_map give ms) in let here = one m in let rest = few_members b give ms one in omega arith

one_body : (b : Bool) (is_declared : Bool) → own_count b (body_items is_declared) ≤ 1
one_body b true = let e = own_one b (Does AtBody) [] in let none = none_own b in omega arith
one_body b false = let none = none_own b in omega arith

count_long : (a n : ℕ) → length (count_from a n) ≡ n
count_long a zero = refl
count_long a (suc n) = ap suc (count_long (suc a) n)

back_long : (xs : List ℕ) → length (backwards xs) ≡ length xs
back_long [] = refl
back_long (x ∷ xs) = let e = length-append (backwards xs) (x ∷ []) in let rest = back_long xs in omega arith

few_built : (x : Setup) → IsHierarchy x.h → (b : Bool) (form : Form) (c : ClassId) → own_count b (items x Constructs form c) ≤ 1028
few_built x keeps b form c =
    let bodies = plan_bodies x.program in
    let shared = shared_base_items form (virtual_order x.h c) in
    let bases = flat_map base_items (bases_of x.h c) in
    let give : ℕ → List Item = λ m. member_items (bodies.initializer c m) Forwards m (slice_get (members_of x.h c) m) in
    let members = flat_map give (upto (length (members_of x.h c))) in
    let body = body_items (bodies.constructor c) in
    let end : List Item = Does AtDone ∷ [] in
    let a = own_one b (Does AtBegin) (shared ++ (bases ++ (Does AtReady ∷ (members ++ (body ++ end))))) in
    let d = own_both b shared (bases ++ (Does AtReady ∷ (members ++ (body ++ end)))) in
    let e = own_both b bases (Does AtReady ∷ (members ++ (body ++ end))) in
    let f = own_one b (Does AtReady) (members ++ (body ++ end)) in
    let k = own_both b members (body ++ end) in
    let l = own_both b body end in
    let m = own_one b (Does AtDone) [] in
    let none = none_own b in
    let none_shared = no_shared b form (virtual_order x.h c) in
    let none_bases = no_bases b (bases_of x.h c) in
    let some = few_members b give (upto (length (members_of x.h c))) (λ i. one_member b (bodies.initializer c i) Forwards i (slice_get (members_of x.h c) i)) in
    let long = count_long 0 (length (members_of x.h c)) in
    let few = keeps.few_members c in
    let one = one_body b (bodies.constructor c) in omega arith

few_ended : (x : Setup) → IsHierarchy x.h → (b : Bool) (form : Form) (c : ClassId) → own_count b (items x Destroys form c) ≤ 1028
few_ended x keeps b form c =
    let bodies = plan_bodies x.program in
    let shared = shared_base_items form (backwards (virtual_order x.h c)) in
    let bases = flat_map base_items (backwards (bases_of x.h c)) in
    let give : ℕ → List Item = λ m. member_items false Backwards m (slice_get (members_of x.h c) m) in
    let members = flat_map give (backwards (upto (length (members_of x.h c)))) in
    let body = body_items (bodies.destructor c) in
    let end : List Item = Does AtEnd ∷ [] in
    let a = own_one b (Does AtEnding) (body ++ (members ++ (Does AtBases ∷ (bases ++ (shared ++ end))))) in
    let d = own_both b body (members ++ (Does AtBases ∷ (bases ++ (shared ++ end)))) in
    let e = own_both b members (Does AtBases ∷ (bases ++ (shared ++ end))) in
    let f = own_one b (Does AtBases) (bases ++ (shared ++ end)) in
    let k = own_both b bases (shared ++ end) in
    let l = own_both b shared end in
    let m = own_one b (Does AtEnd) [] in
    let none = none_own b in
    let none_shared = no_shared b form (backwards (virtual_order x.h c)) in
    let none_bases = no_bases b (backwards (bases_of x.h c)) in
    let some = few_members b give (backwards (upto (length (members_of x.h c)))) (λ i. one_member b false Backwards i (slice_get (members_of x.h c) i)) in
    let long = count_long 0 (length (members_of x.h c)) in
    let back = back_long (upto (length (members_of x.h c))) in
    let few = keeps.few_members c in
    let one = one_body b (bodies.destructor c) in omega arith

few_own : (x : Setup) → IsHierarchy x.h → (course : Course) (form : Form) (c : ClassId) → own_events x (PlanCode course form c) ≤ 1028
unfolding own_events
few_own x keeps Constructs form c = few_built x keeps (is_body (body_of_routine x (PlanCode Constructs form c))) form c
few_own x keeps Destroys form c = few_ended x keeps (is_body (body_of_routine x (PlanCode Destroys form c))) form c
few_own x keeps Deletes form c = few_ended x keeps (is_body (body_of_routine x (PlanCode Deletes form c))) form c

-- bodies

abbrev blocks_of_one : TypedBody → ℕ
blocks_of_one body = body_blocks (Some body)

one_low : (bodies : List TypedBody) (body : TypedBody) → Has bodies body → blocks_of_one body ≤ sum_by blocks_of_one bodies
one_low [] body has = absurd has
one_low (b ∷ bodies) body has =
    let sum = sum_by-cons blocks_of_one b bodies in
    ⊎_elim (λ e. let same = ap blocks_of_one e in omega arith) (λ more. let low = one_low bodies body more in omega arith) has

found_low : (bodies : List TypedBody) (o : Option TypedBody) → ((body : TypedBody) → o ≡ Some body → Has bodies body) → body_blocks o ≤ sum_by blocks_of_one bodies
found_low bodies None has = omega arith
found_low bodies (Some body) has = one_low bodies body (has body refl)

plan_low : (x : Setup) (course : Course) (form : Form) (c : ClassId) → body_blocks (body_of_routine x (PlanCode course form c)) ≤ sum_by blocks_of_one x.program.bodies
plan_low x Constructs form c = found_low x.program.bodies (owned_body x.program (Constructor c)) (λ body is. (find_passes (λ (b : TypedBody). same_owner b.owner (Constructor c)) x.program.bodies body is).0)
plan_low x Destroys form c = found_low x.program.bodies (owned_body x.program (Destructor c)) (λ body is. (find_passes (λ (b : TypedBody). same_owner b.owner (Destructor c)) x.program.bodies body is).0)
plan_low x Deletes form c = found_low x.program.bodies (owned_body x.program (Destructor c)) (λ body is. (find_passes (λ (b : TypedBody). same_owner b.owner (Destructor c)) x.program.bodies body is).0)

-- the body of a function is found among all
found_is : (x : Setup) → IsTypedProgram x.h x.program → (f : FunctionId) (body : TypedBody) → Has x.program.bodies body → body.owner ≡ Function f → body_of_routine x (FunctionCode f) ≡ Some body
found_is x typed f body has owner =
    let passes : same_owner body.owner (Function f) ≡ true = subst (λ (o : Owner). same_owner o (Function f) ≡ true) (sym owner) (same_function_itself f) in
    let found = finds_some (λ (b : TypedBody). same_owner b.owner (Function f)) x.program.bodies body has passes in
    let there = find_passes (λ (b : TypedBody). same_owner b.owner (Function f)) x.program.bodies found.0 found.1 in
    let of = (body_typed x.h x.program typed (Function f) found.0 found.1).0 in
    let i = index_of x.program.bodies body has in
    let j = index_of x.program.bodies found.0 there.0 in
    let same = typed.once i.0 j.0 body found.0 i.1 j.1 (owner ∙ sym of) in
    found.1 ∙ (sym j.1 ∙ (ap (λ k. slice_get x.program.bodies k) (sym same) ∙ i.1))

function_low : (x : Setup) → IsTypedProgram x.h x.program → (body : TypedBody) → Has x.program.bodies body → (o : Owner) → body.owner ≡ o → sum_by (blocks_in x) (owned_routines o) ≤ blocks_of_one body
unfolding blocks_in own_events
function_low x typed body has Main is = omega arith
function_low x typed body has (Function f) is = let found = ap body_blocks (found_is x typed f body has is) in omega arith
function_low x typed body has (Constructor c) is = omega arith
function_low x typed body has (Destructor c) is = omega arith

functions_low : (x : Setup) → IsTypedProgram x.h x.program → (bodies : List TypedBody) → ((body : TypedBody) → Has bodies body → Has x.program.bodies body) → sum_by (blocks_in x) (flat_map (λ (b : TypedBody). owned_routines b.owner) bodies) ≤ sum_by blocks_of_one bodies
functions_low x typed [] all = omega arith
functions_low x typed (b ∷ bodies) all =
    let both = sum_by-append (blocks_in x) (owned_routines b.owner) (flat_map (λ (o : TypedBody). owned_routines o.owner) bodies) in
    let sum = sum_by-cons blocks_of_one b bodies in
    let here = function_low x typed b (all b (inl refl)) b.owner refl in
    let rest = functions_low x typed bodies (λ o has. all o (inr has)) in omega arith

-- plans

plan_few : (x : Setup) → IsHierarchy x.h → (course : Course) (form : Form) (c : ClassId) → sum_by blocks_of_one x.program.bodies ≤ most_statements → blocks_in x (PlanCode course form c) ≤ 525316
unfolding blocks_in
plan_few x keeps course form c few = let own = few_own x keeps course form c in let low = plan_low x course form c in omega arith

class_few : (x : Setup) → IsHierarchy x.h → (c : ClassId) → sum_by blocks_of_one x.program.bodies ≤ most_statements → sum_by (blocks_in x) (plan_routines c) ≤ 2626580
class_few x keeps c few =
    let a = plan_few x keeps Constructs InFull c few in
    let b = plan_few x keeps Constructs AsBase c few in
    let d = plan_few x keeps Destroys InFull c few in
    let e = plan_few x keeps Destroys AsBase c few in
    let f = plan_few x keeps Deletes InFull c few in omega arith

classes_few : (x : Setup) → IsHierarchy x.h → sum_by blocks_of_one x.program.bodies ≤ most_statements → (a n : ℕ) → sum_by (blocks_in x) (flat_map plan_routines (map (λ (i : ℕ). record { 0 = i }) (count_from a n))) ≤ n * 2626580
classes_few x keeps few a zero = omega arith
classes_few x keeps few a (suc n) =
    let c : ClassId = record { 0 = a } in
    let both = sum_by-append (blocks_in x) (plan_routines c) (flat_map plan_routines (map (λ (i : ℕ). record { 0 = i }) (count_from (suc a) n))) in
    let here = class_few x keeps c few in
    let rest = classes_few x keeps few (suc a) n in omega arith

main_low : (x : Setup) (main : Option TypedBody) → main ≡ x.program.main → sum_by (blocks_in x) (main_routines main) ≤ body_blocks main
unfolding blocks_in own_events
main_low x None is = omega arith
main_low x (Some body) is = let same = ap body_blocks is in omega arith

pub few_blocks : (x : Setup) → IsHierarchy x.h → IsTypedProgram x.h x.program → statements_in x.program ≤ most_statements → block_count x < 2 ^ 32
unfolding block_count routines statements_in
few_blocks x keeps typed few =
    let bodies = x.program.bodies in
    let functions = flat_map (λ (b : TypedBody). owned_routines b.owner) bodies in
    let classes = flat_map plan_routines (class_ids (length x.h)) in
    let all = sum_by-append (blocks_in x) (main_routines x.program.main) (functions ++ classes) in
    let both = sum_by-append (blocks_in x) functions classes in
    let main = main_low x x.program.main refl in
    let some = functions_low x typed bodies (λ b has. has) in
    let small : sum_by blocks_of_one bodies ≤ most_statements = omega arith in
    let plans = classes_few x keeps small 0 (length x.h) in
    let known = keeps.few in omega arith
