-- The class record that the parts of a class make, and the bodies among them.
use Rattle.std.specs.Prelude.{ℕ, Bool, true, false, List, [], ◌∷◌, ◌++◌, Option, Some, None, length, filter_map}
use Rattle.std.specs.List.{list_any}
use Rattle.cxx_grammar.specs.declared.sort.Lexeme.{Lexeme}
use Rattle.cxx_grammar.specs.Lexemes.{bytes_of}
use Rattle.cxx_hierarchy.specs.declared.records.Base.{Base}
use Rattle.cxx_hierarchy.specs.declared.records.Member.{Member}
use Rattle.cxx_hierarchy.specs.declared.records.Function.{Function}
use Rattle.cxx_hierarchy.specs.declared.records.PartAt.{PartAt}
use Rattle.cxx_hierarchy.specs.declared.records.PartKind.{PartKind}
use Rattle.cxx_hierarchy.specs.declared.records.PartKind.TheVariants as kind
use Rattle.cxx_hierarchy.specs.declared.records.Destructor.{Destructor}
use Rattle.cxx_hierarchy.specs.declared.records.Destructor.TheVariants as destructor
use Rattle.cxx_hierarchy.specs.declared.records.ClassRec.{ClassRec}
use Rattle.cxx_syntax.specs.declared.tree.BodyTree.{BodyTree}
use Rattle.cxx_syntax.specs.declared.source_text.Init.{Init}
use Rattle.cxx_syntax.specs.declared.source_text.Body.{Body}
use Rattle.cxx_syntax.specs.declared.source_text.BodyOwner.{BodyOwner}
use Rattle.cxx_syntax.specs.declared.source_text.BodyOwner.TheVariants as owner
use Rattle.cxx_syntax.specs.declared.part.ClassPart.{ClassPart}
use Rattle.cxx_syntax.specs.declared.part.ClassPart.TheVariants as part
use Rattle.cxx_syntax.specs.Parts.{Spelled}

abbrev pub member_from : ClassPart → Option (Member Spelled)
member_from (part.Field m ty_at) = Some m
member_from _ = None

abbrev pub function_from : ClassPart → Option (Function Spelled)
function_from (part.Function f ty_at body) = Some f
function_from _ = None

-- the data members and the functions, in their order
abbrev pub members_among : List ClassPart → List (Member Spelled)
members_among parts = filter_map member_from parts

abbrev pub functions_among : List ClassPart → List (Function Spelled)
functions_among parts = filter_map function_from parts

-- what each part gives, by the parts before it
abbrev pub given_by_parts : {X : Type 0} → (List ClassPart → ClassPart → List X) → List ClassPart → List ClassPart → List X
given_by_parts give before [] = []
given_by_parts give before (p ∷ ps) = give before p ++ given_by_parts give (before ++ p ∷ []) ps

abbrev pub entry : PartKind → ℕ → Option ℕ → ℕ → List PartAt
entry k number ty_at at = record { kind = k; number = number; ty_at = ty_at; at = at } ∷ []

-- a part in the order of the class: a member's number counts the members before it, a function's the functions
abbrev pub part_at : List ClassPart → ClassPart → List PartAt
part_at before (part.Label p) = []
part_at before (part.Field m ty_at) = entry kind.Member (length (members_among before)) (Some ty_at) m.at
part_at before (part.Function f ty_at body) = entry kind.Function (length (functions_among before)) (Some ty_at) f.at
part_at before (part.Constructor at inits body) = entry kind.Constructor 0 None at
part_at before (part.Destructor v at body) = entry kind.Destructor 0 None at

abbrev pub order_of : List ClassPart → List PartAt
order_of parts = given_by_parts part_at [] parts

abbrev pub is_constructor_part : ClassPart → Bool
is_constructor_part (part.Constructor at inits body) = true
is_constructor_part _ = false

abbrev pub declared_destructor : Bool → Destructor
declared_destructor false = destructor.Plain
declared_destructor true = destructor.Virtual

-- the destructor behind a part, where this one stands before it
abbrev pub destructor_after : Destructor → ClassPart → Destructor
destructor_after d (part.Destructor v at body) = declared_destructor v
destructor_after d _ = d

-- the destructor that is declared last, where there is one
abbrev pub last_destructor : Destructor → List ClassPart → Destructor
last_destructor d [] = d
last_destructor d (p ∷ ps) = last_destructor (destructor_after d p) ps

abbrev pub destructor_among : List ClassPart → Destructor
destructor_among parts = last_destructor destructor.Implicit parts

-- the record of a class with this name token
abbrev pub record_of : List ℕ → Lexeme → List (Base Spelled) → List ClassPart → ClassRec Spelled
record_of text n bases parts = record {
  name = bytes_of text n;
  at = n.at;
  bases = bases;
  members = members_among parts;
  functions = functions_among parts;
  order = order_of parts;
  has_constructor = list_any is_constructor_part parts;
  destructor = destructor_among parts;
}

abbrev pub a_body : Spelled → BodyOwner → List Init → BodyTree → List Body
a_body class o inits tree = record { class = class; owner = o; inits = inits; tree = tree } ∷ []

-- the body of a part of the class with this name
abbrev pub body_at : Spelled → List ClassPart → ClassPart → List Body
body_at class before (part.Label p) = []
body_at class before (part.Field m ty_at) = []
body_at class before (part.Function f ty_at None) = []
body_at class before (part.Function f ty_at (Some tree)) = a_body class (owner.Function (length (functions_among before))) [] tree
body_at class before (part.Constructor at inits tree) = a_body class owner.Constructor inits tree
body_at class before (part.Destructor v at tree) = a_body class owner.Destructor [] tree

abbrev pub bodies_of : Spelled → List ClassPart → List Body
bodies_of class parts = given_by_parts (body_at class) [] parts
