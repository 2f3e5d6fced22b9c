-- Sources that say the same have one answer.
use Rattle.std.proofs.Common.{◌≡◌, ℕ, zero, suc, ◌+◌, Option, Some, None, Result, Ok, Err, List, [], ◌∷◌, ◌++◌, take, drop, ap, sym, ◌∙◌, refl, subst}
use Rattle.cxx_hierarchy.specs.declared.records.ClassId.{ClassId}
use Rattle.cxx_hierarchy.specs.declared.records.Param.{Param}
use Rattle.cxx_hierarchy.specs.declared.records.Function.{Function}
use Rattle.cxx_hierarchy.specs.declared.stop.Stop.{Stop}
use Rattle.cxx_hierarchy.specs.NameTables.{Text}
use Rattle.cxx_hierarchy.specs.Classes.{Classes}
use Rattle.cxx_syntax.specs.declared.tree.BodyTree.{BodyTree, out-BodyTree}
use Rattle.cxx_syntax.specs.SameTrees.{SameBody, same_body}
use Rattle.cxx_syntax.specs.declared.source_text.Body.{Body}
use Rattle.cxx_syntax.specs.declared.source_text.BodyOwner.{BodyOwner}
use Rattle.cxx_syntax.specs.declared.source_text.Global.{Global}
use Rattle.cxx_syntax.specs.declared.source_text.Init.{Init}
use Rattle.cxx_syntax.specs.declared.source_text.SourceText.{SourceText}
use Rattle.cxx_syntax.specs.SameSources.{SameBodies, no_bodies, more_bodies, SameMain, SameSource}
use Rattle.cxx_program.specs.declared.program.Owner.{Owner}
use Rattle.cxx_program.specs.declared.program.Owner.TheVariants as owner
use Rattle.cxx_program.specs.declared.program.TypedInit.{TypedInit}
use Rattle.cxx_program.specs.declared.program.TypedBody.{TypedBody}
use Rattle.cxx_program.specs.declared.program.TypedProgram.{TypedProgram}
use Rattle.cxx_expression.specs.declared.scene.Entry.{Entry}
use Rattle.cxx_expression.specs.declared.scene.Setting.{Setting}
use Rattle.cxx_resolve.specs.declared.draft.Draft.{Draft}
use Rattle.cxx_resolve.specs.Stops.{◌>>>◌}
use Rattle.cxx_resolve.specs.Turns.{given_in_turn}
use Rattle.cxx_resolve.specs.Globals.{global_of}
use Rattle.cxx_resolve.specs.Initializers.{init_of}
use Rattle.cxx_resolve.specs.Walks.{Meaning, block_meaning}
use Rattle.cxx_resolve.specs.Programs.{class_of_body, owner_of, function_by_owner, params_in, returns_in, first_draft, member_setting, main_setting, typed_body, body_in, body_of, main_tree, main_of, program, program_of}
use Rattle.cxx_resolve.proofs.SameWalks.{block_same}

-- a typed body by the meaning of its block and the lines of its braces
abbrev by_meaning : Classes → Setting → Owner → List (Param ClassId) → List TypedInit → Meaning → ℕ → ℕ → Result TypedBody Stop
by_meaning h e o ps inits m line close =
    m.walk h e 0 m.size (first_draft ps) >>> λ d. Ok (record { owner = o; locals = d.scene.types; inits = inits; statements = d.statements; line = line; close_line = close })

typed_same : (h : Classes) (e : Setting) (o : Owner) (ps : List (Param ClassId)) (inits : List TypedInit) (a b : BodyTree) → SameBody a b → typed_body h e o ps inits a ≡ typed_body h e o ps inits b
unfolding typed_body
typed_same h e o ps inits a b (same_body same line close) =
    ap (λ (m : Meaning). by_meaning h e o ps inits m (out-BodyTree a).line (out-BodyTree a).close_line) (block_same a b (same_body same line close))
    ∙ ap (λ (n : ℕ). by_meaning h e o ps inits (block_meaning b) n (out-BodyTree a).close_line) line
    ∙ ap (λ (n : ℕ). by_meaning h e o ps inits (block_meaning b) (out-BodyTree b).line n) close

-- a body by its parts
abbrev of_class : Classes → List Entry → Text → BodyOwner → List Init → BodyTree → Result TypedBody Stop
of_class h globals class o inits tree =
    given_in_turn (init_of h (class_of_body h class)) [] inits >>> λ is.
    typed_body h (member_setting globals (class_of_body h class) (returns_in (function_by_owner h (class_of_body h class) o))) (owner_of (class_of_body h class) o) (params_in (function_by_owner h (class_of_body h class) o)) is tree

bind_same : {A B : Type 0} (r : Result A Stop) (f g : A → Result B Stop) → ((x : A) → f x ≡ g x) → (r >>> f) ≡ (r >>> g)
bind_same (Ok x) f g h = h x
bind_same (Err e) f g h = refl

body_same : (h : Classes) (globals : List Entry) (done : List TypedBody) (a b : Body) → a.class ≡ b.class → a.owner ≡ b.owner → a.inits ≡ b.inits → SameBody a.tree b.tree →
    body_of h globals done a ≡ body_of h globals done b
unfolding body_in
body_same h globals done a b class owner inits tree =
    bind_same (given_in_turn (init_of h (class_of_body h a.class)) [] a.inits) _ _
    (λ is. typed_same h (member_setting globals (class_of_body h a.class) (returns_in (function_by_owner h (class_of_body h a.class) a.owner))) (owner_of (class_of_body h a.class) a.owner) (params_in (function_by_owner h (class_of_body h a.class) a.owner)) is a.tree b.tree tree)
    ∙ ap (λ (c : Text). of_class h globals c a.owner a.inits b.tree) class
    ∙ ap (λ (o : BodyOwner). of_class h globals b.class o a.inits b.tree) owner
    ∙ ap (λ (is : List Init). of_class h globals b.class b.owner is b.tree) inits

bodies_same : (h : Classes) (globals : List Entry) (xs ys : List Body) → SameBodies xs ys → (done : List TypedBody) → given_in_turn (body_of h globals) done xs ≡ given_in_turn (body_of h globals) done ys
bodies_same h globals _ _ no_bodies done = refl
bodies_same h globals _ _ (more_bodies {a = a} {b = b} {ls = ls} {rs = rs} class owner inits tree more) done =
    bind_same (body_of h globals done a) _ _ (λ x. bodies_same h globals ls rs more (done ++ x ∷ []))
    ∙ ap (λ (r : Result TypedBody Stop). r >>> λ x. given_in_turn (body_of h globals) (done ++ x ∷ []) rs) (body_same h globals done a b class owner inits tree)

same_front : (n : ℕ) (xs ys : List Body) → SameBodies xs ys → SameBodies (take n xs) (take n ys)
same_front zero xs ys s = no_bodies
same_front (suc n) _ _ no_bodies = no_bodies
same_front (suc n) _ _ (more_bodies {ls = ls} {rs = rs} class owner inits tree more) = more_bodies class owner inits tree (same_front n ls rs more)

same_back : (n : ℕ) (xs ys : List Body) → SameBodies xs ys → SameBodies (drop n xs) (drop n ys)
same_back zero xs ys s = s
same_back (suc n) _ _ no_bodies = no_bodies
same_back (suc n) _ _ (more_bodies {ls = ls} {rs = rs} class owner inits tree more) = same_back n ls rs more

main_same : (h : Classes) (globals : List Entry) (a b : Option BodyTree) → SameMain a b → main_of h globals a ≡ main_of h globals b
unfolding main_tree
main_same h globals None None s = refl
main_same h globals (Some a) (Some b) s = ap (λ (r : Result TypedBody Stop). r >>> λ body. Ok (Some body)) (typed_same h (main_setting globals) owner.Main [] [] a b s)
main_same h globals None (Some b) s = absurd s
main_same h globals (Some a) None s = absurd s

-- a program by its parts
abbrev by_parts : Classes → List Global → List Body → Option BodyTree → List Body → Result TypedProgram Stop
by_parts h globals before main behind =
    given_in_turn (global_of h) [] globals >>> λ gs.
    given_in_turn (body_of h gs) [] before >>> λ bs.
    main_of h gs main >>> λ m.
    given_in_turn (body_of h gs) bs behind >>> λ all.
    Ok (program gs m all)

parts_same : (h : Classes) (globals : List Global) (before before' behind behind' : List Body) (main main' : Option BodyTree) → SameBodies before before' → SameBodies behind behind' → SameMain main main' →
    by_parts h globals before main behind ≡ by_parts h globals before' main' behind'
parts_same h globals before before' behind behind' main main' f b m =
    bind_same (given_in_turn (global_of h) [] globals) _ _ (λ gs.
    ap (λ (r : Result (List TypedBody) Stop). r >>> λ bs. main_of h gs main >>> λ k. given_in_turn (body_of h gs) bs behind >>> λ all. Ok (program gs k all)) (bodies_same h gs before before' f [])
    ∙ bind_same (given_in_turn (body_of h gs) [] before') _ _ (λ bs.
    ap (λ (r : Result (Option TypedBody) Stop). r >>> λ k. given_in_turn (body_of h gs) bs behind >>> λ all. Ok (program gs k all)) (main_same h gs main main' m)
    ∙ bind_same (main_of h gs main') _ _ (λ k. ap (λ (r : Result (List TypedBody) Stop). r >>> λ all. Ok (program gs k all)) (bodies_same h gs behind behind' b bs))))

pub one_program : (h : Classes) (a b : SourceText) → SameSource a b → program_of h a ≡ program_of h b
unfolding program_of
one_program h a b s =
    parts_same h a.globals (take a.main_place a.bodies) (take a.main_place b.bodies) (drop a.main_place a.bodies) (drop a.main_place b.bodies) a.main b.main
    (same_front a.main_place a.bodies b.bodies s.bodies) (same_back a.main_place a.bodies b.bodies s.bodies) s.main
    ∙ ap (λ (gs : List Global). by_parts h gs (take a.main_place b.bodies) b.main (drop a.main_place b.bodies)) s.globals
    ∙ ap (λ (n : ℕ). by_parts h b.globals (take n b.bodies) b.main (drop n b.bodies)) s.main_place
