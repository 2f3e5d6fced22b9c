-- The program of a source is small: it has as many statements as its source, which has fewer than the text has lexemes.
use Rattle.std.proofs.Common.{◌≡◌, ℕ, ◌+◌, ◌≤◌, ◌<◌, ◌^◌, Bool, true, false, Option, Some, None, Result, Ok, Err, List, [], ◌∷◌, length, refl, sym, ap, subst, arith, ⊎_elim, slice_get}
use Rattle.std.specs.Prelude.{nat_le, find, if◌then◌else◌}
use Rattle.std.specs.List.{sum_by, list_any}
use Rattle.std.specs.Str.{bytes_eq}
use Rattle.std.proofs.lemmas.Bool.Decides.{nat_tests}
use Rattle.std.proofs.lemmas.List.{length-map, length-append}
use Rattle.std.proofs.lemmas.List.Sums.{sum_by-cons}
use Rattle.foundation.proofs.Members.{Has}
use Rattle.foundation.proofs.Places.{contains_at}
use Rattle.foundation.proofs.Chosen.{find_passes}
use Rattle.cxx_hierarchy.specs.declared.records.ClassId.{ClassId}
use Rattle.cxx_hierarchy.specs.declared.records.Param.{Param}
use Rattle.cxx_hierarchy.specs.declared.records.Function.{Function}
use Rattle.cxx_hierarchy.specs.declared.stop.Stop.{Stop}
use Rattle.cxx_hierarchy.specs.declared.stop.Stop.TheVariants.{Limit, Refused}
use Rattle.cxx_hierarchy.specs.declared.stop.LimitNo.TheVariants.{L3}
use Rattle.cxx_hierarchy.specs.declared.stop.Rule.TheVariants.{DuplicateMember}
use Rattle.cxx_hierarchy.specs.Classes.{Classes, functions_of}
use Rattle.cxx_hierarchy.specs.Hierarchies.{IsHierarchy}
use Rattle.cxx_syntax.specs.declared.tree.BodyTree.{BodyTree}
use Rattle.cxx_syntax.specs.declared.source_text.Body.{Body}
use Rattle.cxx_syntax.specs.declared.source_text.BodyOwner.{BodyOwner}
use Rattle.cxx_syntax.specs.declared.source_text.BodyOwner.TheVariants as part
use Rattle.cxx_syntax.specs.declared.source_text.Global.{Global}
use Rattle.cxx_syntax.specs.declared.source_text.SourceText.{SourceText}
use Rattle.cxx_program.specs.declared.program.Owner.{Owner}
use Rattle.cxx_program.specs.declared.program.Owner.TheVariants as owner
use Rattle.cxx_program.specs.declared.program.TypedInit.{TypedInit}
use Rattle.cxx_program.specs.declared.program.TypedBody.{TypedBody}
use Rattle.cxx_program.specs.declared.program.TypedProgram.{TypedProgram}
use Rattle.cxx_expression.specs.declared.scene.Entry.{Entry}
use Rattle.cxx_expression.specs.declared.scene.Setting.{Setting}
use Rattle.cxx_resolve.specs.declared.draft.Draft.{Draft}
use Rattle.cxx_resolve.specs.Turns.{given_in_turn}
use Rattle.cxx_resolve.specs.Initializers.{init_of}
use Rattle.cxx_resolve.specs.Globals.{most_globals, typed_global, global_of}
use Rattle.cxx_resolve.specs.Walks.{block_meaning}
use Rattle.cxx_resolve.specs.Programs.{class_of_body, owner_of, function_by_owner, params_in, returns_in, first_draft, body_by, typed_body, member_setting, body_in, body_of, main_setting, main_tree, main_of, program_of}
use Rattle.cxx_typing.proofs.Drafts.{then_ok}
use Rattle.cxx_typing.proofs.Turns.{turn_kept, turn_given, AreEach}
use Rattle.cxx_typing.proofs.Programs.{made_of}
use Rattle.path_model.specs.States.{owned_body as body_by_owner, same_owner}
use Rattle.abi_lower.specs.Bounds.{IsSmall, statements_in, body_blocks}
use Rattle.cxxabi_cmd.proofs.TreeCounts.{tree_weight, body_weight, main_weight, source_weight, most_weight}
use Rattle.cxxabi_cmd.proofs.WalkCounts.{blocks_add}

-- the blocks of a body
abbrev weight : TypedBody → ℕ
weight body = body_blocks (Some body)

-- the blocks of all bodies together
abbrev all_weight : TypedProgram → ℕ
all_weight program = sum_by weight program.bodies + body_blocks program.main

weighed : (bodies : List TypedBody) (body : TypedBody) → Has bodies body → weight body ≤ sum_by weight bodies
weighed [] body has = absurd has
weighed (b ∷ bodies) body has =
    ⊎_elim (λ same. omega (arith, ap weight same, sum_by-cons weight b bodies)) (λ rest. omega (arith, weighed bodies body rest, sum_by-cons weight b bodies)) has

-- a body has the statements of its tree, and at most 16 locals more
record IsCounted (tree : BodyTree) (body : TypedBody) : Type 0 where
  statements : weight body ≡ tree_weight tree
  locals : length body.locals ≤ 16 + length body.statements

tree_counted : (h : Classes) (e : Setting) (o : Owner) (params : List (Param ClassId)) (inits : List TypedInit) (tree : BodyTree) (body : TypedBody) → length params ≤ 16 → typed_body h e o params inits tree ≡ Ok body → IsCounted tree body
unfolding typed_body
tree_counted h e o params inits tree body few w =
    let m = block_meaning tree in
    let r = then_ok (m.walk h e 0 m.size (first_draft params)) (λ (d : Draft). Ok (body_by o inits tree d)) body w in
    let d = r.0 in
    let adds = (blocks_add tree).walks h e 0 m.size (first_draft params) d r.1 in
    let more = adds.statements in
    let locals = adds.locals in
    let last = r.2 in
    let same : body_by o inits tree d ≡ body = cc in
    subst (IsCounted tree) same (record { statements = omega arith; locals = omega (arith, more, locals, few, length-map params (λ (p : Param ClassId). p.ty)) })

few_params : (h : Classes) → IsHierarchy h → (c : ClassId) (f : Option (Function ClassId)) → ((g : Function ClassId) → f ≡ Some g → (n : ℕ) × (slice_get (functions_of h c) n ≡ Some g)) → length (params_in f) ≤ 16
few_params h keeps c None there = omega arith
few_params h keeps c (Some f) there = let at = there f refl in keeps.few_params c f (contains_at (functions_of h c) at.0 f at.1)

function_at : (h : Classes) (c : ClassId) (o : BodyOwner) (g : Function ClassId) → function_by_owner h c o ≡ Some g → (n : ℕ) × (slice_get (functions_of h c) n ≡ Some g)
function_at h c (part.Function n) g e = (n, e)
function_at h c part.Constructor g e = absurd (cc)
function_at h c part.Destructor g e = absurd (cc)

body_counted : (h : Classes) → IsHierarchy h → (globals : List Entry) (before : List TypedBody) (b : Body) (body : TypedBody) → body_of h globals before b ≡ Ok body → IsCounted b.tree body
unfolding body_in
body_counted h keeps globals before b body w =
    let c = class_of_body h b.class in
    let f = function_by_owner h c b.owner in
    let e = member_setting globals c (returns_in f) in
    let r = then_ok (given_in_turn (init_of h c) [] b.inits) (λ (inits : List TypedInit). typed_body h e (owner_of c b.owner) (params_in f) inits b.tree) body w in
    tree_counted h e (owner_of c b.owner) (params_in f) r.0 b.tree body (few_params h keeps c f (function_at h c b.owner)) r.2

-- bodies one after the other
record AreCounted (bodies : List Body) (typed : List TypedBody) : Type 0 where
  weight_is : sum_by weight typed ≡ sum_by body_weight bodies
  locals : (body : TypedBody) → Has typed body → length body.locals ≤ 16 + length body.statements

bodies_counted : (h : Classes) → IsHierarchy h → (globals : List Entry) (bodies : List Body) (typed : List TypedBody) → AreEach (λ b y. body_of h globals [] b ≡ Ok y) bodies typed → AreCounted bodies typed
bodies_counted h keeps globals [] [] each = record { weight_is = refl; locals = λ body has. absurd has }
bodies_counted h keeps globals [] (y ∷ ys) each = absurd each
bodies_counted h keeps globals (b ∷ bs) [] each = absurd each
bodies_counted h keeps globals (b ∷ bs) (y ∷ ys) each =
    let one = body_counted h keeps globals [] b y each.0 in
    let rest = bodies_counted h keeps globals bs ys each.1 in
    let same = one.statements in
    let sums = rest.weight_is in
    record {
      weight_is = omega (arith, same, sums, sum_by-cons weight y ys, sum_by-cons body_weight b bs);
      locals = λ body has. ⊎_elim (λ e. subst (λ (z : TypedBody). length z.locals ≤ 16 + length z.statements) e one.locals) (λ other. rest.locals body other) has;
    }

-- `main`
record IsMainCounted (tree : Option BodyTree) (main : Option TypedBody) : Type 0 where
  weight_is : body_blocks main ≡ main_weight tree
  locals : (body : TypedBody) → main ≡ Some body → length body.locals ≤ 16 + length body.statements

main_tree_counted : (h : Classes) (globals : List Entry) (tree : BodyTree) (main : Option TypedBody) → main_tree h globals tree ≡ Ok main → IsMainCounted (Some tree) main
unfolding main_tree
main_tree_counted h globals tree main w =
    let r = then_ok (typed_body h (main_setting globals) owner.Main [] [] tree) (λ (b : TypedBody). Ok (Some b)) main w in
    let last = r.2 in
    let same : Some r.0 ≡ main = cc in
    let counted = tree_counted h (main_setting globals) owner.Main [] [] tree r.0 (omega arith) r.1 in
    subst (IsMainCounted (Some tree)) same (record { weight_is = counted.statements; locals = λ body is. let one : r.0 ≡ body = cc in subst (λ (z : TypedBody). length z.locals ≤ 16 + length z.statements) one counted.locals })

main_counted : (h : Classes) (globals : List Entry) (tree : Option BodyTree) (main : Option TypedBody) → main_of h globals tree ≡ Ok main → IsMainCounted tree main
main_counted h globals None main w = let same : None ≡ main = cc in subst (IsMainCounted None) same (record { weight_is = refl; locals = λ body is. absurd (cc) })
main_counted h globals (Some tree) main w = main_tree_counted h globals tree main w

-- globals
global_low : (t : Bool) (n : ℕ) (r : Result Entry Stop) (x : Entry) → nat_le most_globals n ≡ t → (if t then Err (Limit L3) else r) ≡ Ok x → n + 1 ≤ 1024
global_low true n r x e w = absurd (cc)
global_low false n r x e w = grind (arith, nat_tests)

global_within : (h : Classes) (before : List Entry) (g : Global) (x : Entry) → global_of h before g ≡ Ok x → length before + 1 ≤ 1024
unfolding global_of
global_within h before g x w =
    global_low (nat_le most_globals (length before)) (length before) (if list_any (λ (e : Entry). bytes_eq e.name g.name) before then Err (Refused DuplicateMember g.at) else typed_global h before g) x refl w

few_globals : (h : Classes) (globals : List Global) (entries : List Entry) → given_in_turn (global_of h) [] globals ≡ Ok entries → length entries ≤ 1024
few_globals h globals entries w =
    turn_kept (global_of h) (λ (list : List Entry). length list ≤ 1024) (λ done g x few made. omega (arith, global_within h done g x made, length-append done (x ∷ []))) globals [] entries (omega arith) w

-- a whole program
record IsProgramCounted (source : SourceText) (result : TypedProgram) : Type 0 where
  weight_is : all_weight result ≡ source_weight source
  globals : length result.globals ≤ 1024
  locals : (body : TypedBody) → Has result.bodies body → length body.locals ≤ 16 + length body.statements
  main_locals : (body : TypedBody) → result.main ≡ Some body → length body.locals ≤ 16 + length body.statements

program_counted : (h : Classes) → IsHierarchy h → (source : SourceText) (result : TypedProgram) → program_of h source ≡ Ok result → IsProgramCounted source result
program_counted h keeps source result w =
    let made = made_of h source result w in
    let given = turn_given (body_of h made.globals []) source.bodies [] made.bodies made.bodies_made in
    let bodies = bodies_counted h keeps made.globals source.bodies made.bodies (subst (AreEach (λ b y. body_of h made.globals [] b ≡ Ok y) source.bodies) (sym given.behind) given.each) in
    let main = main_counted h made.globals source.main made.main made.main_made in
    let one = bodies.weight_is in
    let two = main.weight_is in
    subst (IsProgramCounted source) made.same
    (record {
      weight_is = omega (arith, one, two);
      globals = omega (arith, few_globals h source.globals made.globals made.globals_made, length-map made.globals (λ (g : Entry). g.ty));
      locals = bodies.locals;
      main_locals = main.locals;
    })

few_of : (n : ℕ) (body : TypedBody) → weight body ≤ n → n ≤ most_weight → length body.locals ≤ 16 + length body.statements → length body.locals < 2 ^ 31
few_of n body heavy few locals = omega (arith, heavy, few, locals)

found_few : (n : ℕ) (bodies : List TypedBody) (o : Owner) (body : TypedBody) → find (λ (b : TypedBody). same_owner b.owner o) bodies ≡ Some body → sum_by weight bodies ≤ n → n ≤ most_weight →
    ((b : TypedBody) → Has bodies b → length b.locals ≤ 16 + length b.statements) → length body.locals < 2 ^ 31
found_few n bodies o body at heavy few locals =
    let has = (find_passes (λ (b : TypedBody). same_owner b.owner o) bodies body at).0 in
    few_of n body (omega (arith, heavy, weighed bodies body has)) few (locals body has)

few_locals : (source : SourceText) (result : TypedProgram) → IsProgramCounted source result → source_weight source ≤ most_weight → (o : Owner) (body : TypedBody) → body_by_owner result o ≡ Some body → length body.locals < 2 ^ 31
few_locals source result is few owner.Main body at =
    let same = is.weight_is in few_of most_weight body (omega (arith, same, few, ap body_blocks at)) (omega arith) (is.main_locals body at)
few_locals source result is few (owner.Function f) body at = let same = is.weight_is in found_few most_weight result.bodies (owner.Function f) body at (omega (arith, same, few)) (omega arith) is.locals
few_locals source result is few (owner.Constructor c) body at = let same = is.weight_is in found_few most_weight result.bodies (owner.Constructor c) body at (omega (arith, same, few)) (omega arith) is.locals
few_locals source result is few (owner.Destructor c) body at = let same = is.weight_is in found_few most_weight result.bodies (owner.Destructor c) body at (omega (arith, same, few)) (omega arith) is.locals

-- its statements, globals and locals are within their bounds
pub small_program : (h : Classes) (source : SourceText) (result : TypedProgram) → IsHierarchy h → program_of h source ≡ Ok result → source_weight source ≤ most_weight → IsSmall result
unfolding statements_in
small_program h source result keeps w few =
    let is = program_counted h keeps source result w in
    let same = is.weight_is in
    let globals = is.globals in
    record { statements = omega (arith, same, few); globals = omega (arith, globals); locals = record { each = λ o body at. few_locals source result is few o body at } }
