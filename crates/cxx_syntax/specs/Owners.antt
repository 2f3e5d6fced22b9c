-- Which record, and which part of it, each body of a source is the body of.
use Rattle.std.specs.Prelude.{◌≡◌, ℕ, if◌then◌else◌, All, List, [], ◌∷◌, ◌++◌, map, Option, Some, None, slice_get}
use Rattle.std.specs.List.{filter_map}
use Rattle.cxx_hierarchy.specs.declared.records.Function.{Function}
use Rattle.cxx_hierarchy.specs.declared.records.PartAt.{PartAt}
use Rattle.cxx_hierarchy.specs.declared.records.PartKind.{PartKind}
use Rattle.cxx_hierarchy.specs.declared.records.PartKind.TheVariants as kind
use Rattle.cxx_hierarchy.specs.declared.records.ClassRec.{ClassRec}
use Rattle.cxx_syntax.specs.declared.source_text.Init.{Init}
use Rattle.cxx_syntax.specs.declared.source_text.Body.{Body}
use Rattle.cxx_syntax.specs.declared.source_text.BodyOwner.{BodyOwner}
use Rattle.cxx_syntax.specs.declared.source_text.BodyOwner.TheVariants as owner
use Rattle.cxx_syntax.specs.Parts.{Spelled}

-- a function has a body where it is not pure (ISO C++03 10.4)
abbrev pub function_owner : ℕ → Option (Function Spelled) → Option BodyOwner
function_owner number None = None
function_owner number (Some f) = if f.is_pure then None else Some (owner.Function number)

-- what the body of a part of a class is the body of
abbrev pub kind_owner : List (Function Spelled) → ℕ → PartKind → Option BodyOwner
kind_owner functions number kind.Member = None
kind_owner functions number kind.Function = function_owner number (slice_get functions number)
kind_owner functions number kind.Constructor = Some owner.Constructor
kind_owner functions number kind.Destructor = Some owner.Destructor

abbrev pub owner_at : List (Function Spelled) → PartAt → Option BodyOwner
owner_at functions part = kind_owner functions part.number part.kind

-- the parts of a class that have a body, in the order of declaration
abbrev pub owners_of : ClassRec Spelled → List BodyOwner
owners_of r = filter_map (owner_at r.functions) r.order

abbrev pub owner_in : Body → BodyOwner
owner_in b = b.owner

-- only a constructor has initializers (ISO C++03 12.6.2)
abbrev pub InitsFit : BodyOwner → List Init → Type 0
InitsFit owner.Constructor inits = Unit {0}
InitsFit owner.Destructor inits = inits ≡ []
InitsFit (owner.Function number) inits = inits ≡ []

-- a body in the class of this record
pub record IsIn (r : ClassRec Spelled) (b : Body) : Type 0 where
  pub class : b.class ≡ r.name
  pub inits : InitsFit b.owner b.inits

-- record by record, one body for each part that has one, in the order of declaration
pub data AreBodiesOf : List (ClassRec Spelled) → List Body → Type 0 where
  no_class : AreBodiesOf [] []
  one_class : {r : ClassRec Spelled} {rs : List (ClassRec Spelled)} (bs more : List Body) →
      All (IsIn r) bs → map owner_in bs ≡ owners_of r → AreBodiesOf rs more → AreBodiesOf (r ∷ rs) (bs ++ more)
