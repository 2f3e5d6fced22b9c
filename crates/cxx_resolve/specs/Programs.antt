-- What a source resolves to: globals, then bodies in source order, `main` at its place among them.
use Rattle.std.specs.Prelude.{ℕ, ◌+◌, ◌^◌, ◌<◌, All, Option, Some, None, unwrap_or, Result, Ok, Err, List, [], ◌∷◌, map, take, drop, slice_get}
use Rattle.cxx_hierarchy.specs.declared.records.ClassId.{ClassId}
use Rattle.cxx_hierarchy.specs.declared.records.ValueType.{ValueType}
use Rattle.cxx_hierarchy.specs.declared.records.ValueType.TheVariants.{Number}
use Rattle.cxx_hierarchy.specs.declared.records.Scalar.TheVariants.{Int}
use Rattle.cxx_hierarchy.specs.declared.records.Param.{Param}
use Rattle.cxx_hierarchy.specs.declared.records.Function.{Function}
use Rattle.cxx_hierarchy.specs.declared.records.ReturnType.{ReturnType}
use Rattle.cxx_hierarchy.specs.declared.records.ReturnType.TheVariants.{Void, Value}
use Rattle.cxx_hierarchy.specs.declared.stop.Stop.{Stop}
use Rattle.cxx_hierarchy.specs.NameTables.{Text}
use Rattle.cxx_hierarchy.specs.Classes.{Classes, functions_of}
use Rattle.cxx_syntax.specs.declared.tree.BodyTree.{BodyTree, out-BodyTree}
use Rattle.cxx_syntax.specs.declared.source_text.Body.{Body}
use Rattle.cxx_syntax.specs.declared.source_text.BodyOwner.{BodyOwner}
use Rattle.cxx_syntax.specs.declared.source_text.BodyOwner.TheVariants as part
use Rattle.cxx_syntax.specs.declared.source_text.SourceText.{SourceText}
use Rattle.cxx_program.specs.declared.program.Owner.{Owner}
use Rattle.cxx_program.specs.declared.program.Owner.TheVariants as owner
use Rattle.cxx_program.specs.declared.program.TypedInit.{TypedInit}
use Rattle.cxx_program.specs.declared.program.TypedBody.{TypedBody}
use Rattle.cxx_program.specs.declared.program.TypedProgram.{TypedProgram}
use Rattle.cxx_expression.specs.declared.scene.Entry.{Entry}
use Rattle.cxx_expression.specs.declared.scene.Setting.{Setting}
use Rattle.cxx_expression.specs.declared.scene.Returns.{Returns}
use Rattle.cxx_expression.specs.declared.scene.Returns.TheVariants as returns
use Rattle.cxx_expression.specs.Lookups.{find_class}
use Rattle.cxx_resolve.specs.declared.draft.Draft.{Draft}
use Rattle.cxx_resolve.specs.Stops.{◌>>>◌}
use Rattle.cxx_resolve.specs.Turns.{given_in_turn}
use Rattle.cxx_resolve.specs.Globals.{global_of}
use Rattle.cxx_resolve.specs.Initializers.{init_of}
use Rattle.cxx_resolve.specs.Walks.{block_meaning}

-- the class of a body; each body's class is one of the source
abbrev pub class_of_body : Classes → Text → ClassId
class_of_body h name = unwrap_or (find_class h name) (record { 0 = 0 })

abbrev pub owner_of : ClassId → BodyOwner → Owner
owner_of c (part.Function number) = owner.Function (record { class = c; index = number })
owner_of c part.Constructor = owner.Constructor c
owner_of c part.Destructor = owner.Destructor c

abbrev pub function_by_owner : Classes → ClassId → BodyOwner → Option (Function ClassId)
function_by_owner h c (part.Function number) = slice_get (functions_of h c) number
function_by_owner h c part.Constructor = None
function_by_owner h c part.Destructor = None

abbrev pub params_in : Option (Function ClassId) → List (Param ClassId)
params_in None = []
params_in (Some f) = f.params

abbrev pub returns_of_type : ReturnType ClassId → Returns
returns_of_type Void = returns.Nothing
returns_of_type (Value ty) = returns.Value ty

-- a constructor or a destructor has no `return`
abbrev pub returns_in : Option (Function ClassId) → Returns
returns_in None = returns.Nowhere
returns_in (Some f) = returns_of_type f.ret

-- the parameters are the first locals
abbrev pub entries_from : ℕ → List (Param ClassId) → List Entry
entries_from n [] = []
entries_from n (p ∷ ps) = (record { name = p.name; number = n; ty = p.ty }) ∷ entries_from (n + 1) ps

-- the parameters stand in the scope of the body
abbrev pub first_draft : List (Param ClassId) → Draft
first_draft params = record {
  scene = record { entries = entries_from 0 params; start = 0; types = map (λ p. p.ty) params; declared = 0 };
  statements = [];
}

abbrev pub body_by : Owner → List TypedInit → BodyTree → Draft → TypedBody
body_by o inits tree d = record {
  owner = o;
  locals = d.scene.types;
  inits = inits;
  statements = d.statements;
  line = (out-BodyTree tree).line;
  close_line = (out-BodyTree tree).close_line;
}

-- the statements of a tree; the number behind the last one is that of the end of the body
unfoldable pub typed_body : Classes → Setting → Owner → List (Param ClassId) → List TypedInit → BodyTree → Result TypedBody Stop
typed_body h e o params inits tree =
    (block_meaning tree).walk h e 0 (block_meaning tree).size (first_draft params) >>> λ d. Ok (body_by o inits tree d)

abbrev pub member_setting : List Entry → ClassId → Returns → Setting
member_setting globals c ret = record { globals = globals; this_class = Some c; returns = ret }

unfoldable pub body_in : Classes → List Entry → ClassId → Option (Function ClassId) → Body → Result TypedBody Stop
body_in h globals c f b =
    given_in_turn (init_of h c) [] b.inits >>> λ inits.
    typed_body h (member_setting globals c (returns_in f)) (owner_of c b.owner) (params_in f) inits b.tree

-- a body in a class: the initializers before the statements
abbrev pub body_of : Classes → List Entry → List TypedBody → Body → Result TypedBody Stop
body_of h globals before b = body_in h globals (class_of_body h b.class) (function_by_owner h (class_of_body h b.class) b.owner) b

-- `main` has no `this` and returns an `int` (ISO C++03 3.6.1)
abbrev pub main_setting : List Entry → Setting
main_setting globals = record { globals = globals; this_class = None; returns = returns.Value (Number Int) }

unfoldable pub main_tree : Classes → List Entry → BodyTree → Result (Option TypedBody) Stop
main_tree h globals tree = typed_body h (main_setting globals) owner.Main [] [] tree >>> λ body. Ok (Some body)

abbrev pub main_of : Classes → List Entry → Option BodyTree → Result (Option TypedBody) Stop
main_of h globals None = Ok None
main_of h globals (Some tree) = main_tree h globals tree

abbrev pub program : List Entry → Option TypedBody → List TypedBody → TypedProgram
program globals main bodies = record { globals = map (λ g. g.ty) globals; bodies = bodies; main = main }

-- what a source resolves to: its program, or its first refusal or limit
unfoldable pub program_of : Classes → SourceText → Result TypedProgram Stop
program_of h source =
    given_in_turn (global_of h) [] source.globals >>> λ globals.
    given_in_turn (body_of h globals) [] (take source.main_place source.bodies) >>> λ before.
    main_of h globals source.main >>> λ main.
    given_in_turn (body_of h globals) before (drop source.main_place source.bodies) >>> λ bodies.
    Ok (program globals main bodies)

-- a block of fewer than n statements
abbrev pub IsShort : ℕ → BodyTree → Type 0
IsShort n tree = (block_meaning tree).size < n

abbrev pub IsShortMain : ℕ → Option BodyTree → Type 0
IsShortMain n None = Unit {0}
IsShortMain n (Some tree) = IsShort n tree

-- every body has fewer than n statements
pub record HasFewStatements (n : ℕ) (source : SourceText) : Type 0 where
  pub bodies : All (λ (b : Body). IsShort n b.tree) source.bodies
  pub main : IsShortMain n source.main
