-- When an index is that of a program: each entry is the first place in the model's lists.
use Rattle.std.specs.Prelude.{◌≡◌, ℕ, Bool, nat_eq, ◌&&◌, Option, List, find}
use Rattle.std.specs.List.{position_from}
use Rattle.indexmap.specs.IndexMap.{get_by}
use Rattle.cxx_hierarchy.specs.declared.records.ClassId.{ClassId}
use Rattle.cxx_overrider.specs.declared.FunctionId.{FunctionId}
use Rattle.cxx_program.specs.declared.program.Owner.{Owner}
use Rattle.cxx_program.specs.declared.program.Owner.TheVariants.{Function, Constructor, Destructor}
use Rattle.cxx_program.specs.declared.program.TypedInit.{TypedInit}
use Rattle.cxx_program.specs.declared.program.TypedBody.{TypedBody}
use Rattle.cxx_program.specs.declared.program.TypedProgram.{TypedProgram}
use Rattle.path_model.specs.States.{same_owner, is_body, inits_in}
use Rattle.path_bodies.specs.declared.table.MemberKey.{MemberKey}
use Rattle.path_bodies.specs.declared.table.PlaceTable.{PlaceTable}
use Rattle.path_bodies.specs.declared.index.BodyIndex.{BodyIndex}

-- two keys are one
abbrev pub same_member_key : MemberKey → MemberKey → Bool
same_member_key a b = nat_eq a.class b.class && nat_eq a.index b.index

-- the place under a key
abbrev pub place_by_key : PlaceTable → MemberKey → Option ℕ
place_by_key table q = get_by (same_member_key q) table.places

-- the place of the first item that passes
abbrev pub first_place : {X : Type 0} → (X → Bool) → List X → Option ℕ
first_place test items = position_from test 0 items

-- what a class declares under a number
abbrev pub member_key : ClassId → ℕ → MemberKey
member_key c index = record { class = c.0; index = index }

-- the body is that of the owner
abbrev pub is_of : Owner → TypedBody → Bool
is_of owner body = same_owner body.owner owner

-- the initializer is that of the member
abbrev pub sets : ℕ → TypedInit → Bool
sets m init = nat_eq init.member m

-- the index has the place of the first body of each owner, and of the first initializer of each member in the first
-- constructor of its class
pub record IsIndexOf (program : TypedProgram) (index : BodyIndex) : Type 0 where
  pub functions : (f : FunctionId) → place_by_key index.functions (member_key f.class f.index) ≡ first_place (is_of (Function f)) program.bodies
  pub constructors : (c : ClassId) → place_by_key index.constructors (member_key c 0) ≡ first_place (is_of (Constructor c)) program.bodies
  pub destructors : (c : ClassId) → place_by_key index.destructors (member_key c 0) ≡ first_place (is_of (Destructor c)) program.bodies
  pub inits : (c : ClassId) (m : ℕ) → place_by_key index.inits (member_key c m) ≡ first_place (sets m) (inits_in (find (is_of (Constructor c)) program.bodies))
  pub main : index.has_main ≡ is_body program.main
