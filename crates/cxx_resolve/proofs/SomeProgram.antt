-- Each source has a program, a refusal or a limit.
use Rattle.std.proofs.Common.{◌≡◌, ℕ, nat_le, Option, Some, None, Err, List, [], length, take, drop}
use Rattle.std.specs.List.{list_any}
use Rattle.std.specs.Str.{bytes_eq}
use Rattle.cxx_hierarchy.specs.declared.records.ClassId.{ClassId}
use Rattle.cxx_hierarchy.specs.declared.records.Param.{Param}
use Rattle.cxx_hierarchy.specs.declared.stop.Stop.TheVariants as stop
use Rattle.cxx_hierarchy.specs.Classes.{Classes}
use Rattle.cxx_syntax.specs.declared.tree.BodyTree.{BodyTree}
use Rattle.cxx_syntax.specs.declared.source_text.Body.{Body}
use Rattle.cxx_syntax.specs.declared.source_text.Global.{Global}
use Rattle.cxx_syntax.specs.declared.source_text.Init.{Init}
use Rattle.cxx_syntax.specs.declared.source_text.SourceText.{SourceText}
use Rattle.cxx_program.specs.declared.program.Owner.{Owner}
use Rattle.cxx_program.specs.declared.program.TypedInit.{TypedInit}
use Rattle.cxx_program.specs.declared.program.TypedBody.{TypedBody}
use Rattle.cxx_expression.specs.declared.scene.Entry.{Entry}
use Rattle.cxx_expression.specs.declared.scene.Setting.{Setting}
use Rattle.cxx_expression.specs.Faults.{least}
use Rattle.cxx_expression.specs.Values.{type_of}
use Rattle.cxx_resolve.specs.Globals.{most_globals, global_of}
use Rattle.cxx_resolve.specs.Initializers.{good_init, init_of}
use Rattle.cxx_resolve.specs.Walks.{block_meaning}
use Rattle.cxx_resolve.specs.Programs.{class_of_body, owner_of, function_by_owner, params_in, returns_in, first_draft, member_setting, main_setting, typed_body, body_in, body_of, main_tree, main_of, program_of}
use Rattle.cxx_resolve.proofs.Never.{IsSure, sure_ok, sure_then, sure_in_turn}
use Rattle.cxx_resolve.proofs.SureWalks.{sure_if, sure_settled, blocks_are_sure}

sure_global : (h : Classes) (before : List Entry) (g : Global) → IsSure (global_of h before g)
unfolding global_of
sure_global h before g =
    sure_if (nat_le most_globals (length before)) _ _ (λ e. absurd (cc))
    (sure_if (list_any (λ (e : Entry). bytes_eq e.name g.name) before) _ _ (λ e. absurd (cc))
    (sure_then _ _ (sure_settled (least ((type_of h g.ty g.ty_at).faults [])) (type_of h g.ty g.ty_at).typed) (λ ty. sure_ok _)))

sure_good : (at : ℕ) (x : Option TypedInit) → IsSure (good_init at x)
sure_good at None = λ e. absurd (cc)
sure_good at (Some x) = sure_ok x

sure_init : (h : Classes) (c : ClassId) (before : List TypedInit) (i : Init) → IsSure (init_of h c before i)
unfolding init_of
sure_init h c before i = sure_good i.name.at _

sure_typed : (h : Classes) (e : Setting) (o : Owner) (ps : List (Param ClassId)) (inits : List TypedInit) (tree : BodyTree) → IsSure (typed_body h e o ps inits tree)
unfolding typed_body
sure_typed h e o ps inits tree = sure_then _ _ ((blocks_are_sure tree).walks h e 0 (block_meaning tree).size (first_draft ps)) (λ d. sure_ok _)

sure_body : (h : Classes) (globals : List Entry) (before : List TypedBody) (b : Body) → IsSure (body_of h globals before b)
unfolding body_in
sure_body h globals before b =
    let c = class_of_body h b.class in
    sure_then _ _ (sure_in_turn (init_of h c) (sure_init h c) [] b.inits)
    (λ inits. sure_typed h (member_setting globals c (returns_in (function_by_owner h c b.owner))) (owner_of c b.owner) (params_in (function_by_owner h c b.owner)) inits b.tree)

sure_main : (h : Classes) (globals : List Entry) (main : Option BodyTree) → IsSure (main_of h globals main)
unfolding main_tree
sure_main h globals None = sure_ok None
sure_main h globals (Some tree) = sure_then _ _ (sure_typed h (main_setting globals) _ [] [] tree) (λ body. sure_ok _)

pub some_program : (h : Classes) (source : SourceText) → program_of h source ≡ Err stop.NoMemory → ⊥
unfolding program_of
some_program h source =
    sure_then _ _ (sure_in_turn (global_of h) (sure_global h) [] source.globals) (λ globals.
    sure_then _ _ (sure_in_turn (body_of h globals) (sure_body h globals) [] (take source.main_place source.bodies)) (λ before.
    sure_then _ _ (sure_main h globals source.main) (λ main.
    sure_then _ _ (sure_in_turn (body_of h globals) (sure_body h globals) before (drop source.main_place source.bodies)) (λ bodies. sure_ok _))))
