-- What the readers of declarations pass on, which no clause of a public call speaks of.
use Rattle.std.specs.Prelude.{◌≡◌, ℕ, Bool, true, List, [], ◌∷◌, Result, Ok, Err}
use Rattle.std.specs.List.{list_any}
use Rattle.cxx_grammar.specs.declared.sort.Sort.{Sort}
use Rattle.cxx_grammar.specs.declared.sort.Sort.TheVariants.{Name, OwnName, Star, OpenParen}
use Rattle.cxx_grammar.specs.declared.sort.Lexeme.{Lexeme}
use Rattle.cxx_grammar.specs.Front.{Is, IsName}
use Rattle.cxx_grammar.specs.Lexemes.{bytes_of}
use Rattle.cxx_grammar.specs.Event.{State}
use Rattle.cxx_grammar.specs.Table.{Task, Only, AName, scalar_rest, is_scalar_word}
use Rattle.cxx_grammar.specs.invariants.Run.{TasksLead, Stops}
use Rattle.cxx_hierarchy.specs.declared.stop.Stop.{Stop}
use Rattle.cxx_hierarchy.specs.declared.records.ReturnType.{ReturnType}
use Rattle.cxx_syntax.specs.Statements.{IsFirst}
use Rattle.cxx_syntax.specs.declared.part.ClassPart.{ClassPart}
use Rattle.cxx_syntax.specs.declared.part.Item.{Item}
use Rattle.cxx_syntax.specs.declared.part.Item.TheVariants as item
use Rattle.cxx_record_parser.specs.declared.draft.Draft.{Draft}
use Rattle.cxx_syntax.specs.Parts.{Spelled, VirtualReads, ReturnReads}
use Rattle.cxx_syntax.specs.Definitions.{members_among, functions_among, order_of, is_constructor_part, destructor_among, bodies_of}

-- what begins a value
abbrev pub begins_value : Sort → Bool
begins_value Name = true
begins_value OwnName = true
begins_value s = is_scalar_word s

-- what a value and a name leave after the first token
abbrev pub value_rest : Sort → List Task
value_rest Name = Only Star ∷ AName ∷ []
value_rest OwnName = Only Star ∷ AName ∷ []
value_rest s = scalar_rest s

-- a list of lexemes has at most so many, so that the parts of a class have numbers of 32 bits
abbrev pub max_lexemes : ℕ
max_lexemes = 4294967295

-- outside all blocks
abbrev pub outside : Bool → State
outside m = record { blocks = 0; main = m }

-- whether there was a main, behind an item
abbrev pub main_after : Bool → Item → Bool
main_after m (item.Main t) = true
main_after m _ = m

-- what a reader did after which the state may differ
abbrev pub FollowsTo : {X : Type 0} → (X → List Lexeme) → State → List Task → List Lexeme → (X → State) → List Task → Result X Stop → Type 0
FollowsTo rest_of s ms ts state left (Ok x) = TasksLead s ms ts (state x) left (rest_of x)
FollowsTo rest_of s ms ts state left (Err e) = Stops s ms ts e

-- ["virtual"] (value | "void") name "("
pub record HeadReads (text : List ℕ) (v : Bool) (f : Lexeme) (r : ReturnType Spelled) (n : Lexeme) (ts rest : List Lexeme) : Type 0 where
  pub type : List Lexeme
  pub behind : List Lexeme
  pub open_at : List Lexeme
  pub open_sign : Lexeme
  pub is_virtual : VirtualReads v ts type
  pub first : IsFirst f type
  pub returns : ReturnReads text r type behind
  pub name : IsName n behind open_at
  pub sign : Is OpenParen open_sign open_at rest

-- what these parts of a class of this name make
pub record IsDraft (text : List ℕ) (class : Lexeme) (parts : List ClassPart) (d : Draft) : Type 0 where
  pub members : d.members ≡ members_among parts
  pub functions : d.functions ≡ functions_among parts
  pub order : d.order ≡ order_of parts
  pub has_constructor : d.has_constructor ≡ list_any is_constructor_part parts
  pub destructor : d.destructor ≡ destructor_among parts
  pub bodies : d.bodies ≡ bodies_of (bytes_of text class) parts
