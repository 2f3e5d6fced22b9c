-- Which tokens a source stands for: each case is a form of a production.
use Rattle.std.specs.Prelude.{◌≡◌, ◌⊎◌, ℕ, Bool, true, false, List, [], ◌∷◌, Option, Some, None, length, filter_map, flat_map, ◌++◌}
use Rattle.cxx_grammar.specs.declared.sort.Sort.{Sort}
use Rattle.cxx_grammar.specs.declared.sort.Sort.TheVariants.{Struct, Class, Int, Main, Semicolon, OpenBrace, CloseBrace, OpenParen, CloseParen, End}
use Rattle.cxx_grammar.specs.declared.sort.Lexeme.{Lexeme}
use Rattle.cxx_grammar.specs.Front.{Is, IsName}
use Rattle.cxx_grammar.specs.Lexemes.{bytes_of}
use Rattle.cxx_grammar.specs.Grammar.{source_form}
use Rattle.cxx_grammar.specs.Event.{Event, DerivesPrefix, at_start}
use Rattle.cxx_hierarchy.specs.declared.stop.Stop.{Stop}
use Rattle.cxx_hierarchy.specs.declared.records.Base.{Base}
use Rattle.cxx_hierarchy.specs.declared.records.ValueType.{ValueType}
use Rattle.cxx_hierarchy.specs.declared.records.ClassRec.{ClassRec}
use Rattle.cxx_syntax.specs.declared.tree.BodyTree.{BodyTree}
use Rattle.cxx_syntax.specs.Statements.{ValueReads, IsFirst, BodyReads}
use Rattle.cxx_syntax.specs.declared.source_text.Global.{Global}
use Rattle.cxx_syntax.specs.declared.source_text.Body.{Body}
use Rattle.cxx_syntax.specs.declared.source_text.SourceText.{SourceText}
use Rattle.cxx_syntax.specs.declared.part.ClassPart.{ClassPart}
use Rattle.cxx_syntax.specs.declared.part.Item.{Item}
use Rattle.cxx_syntax.specs.declared.part.Item.TheVariants as item
use Rattle.cxx_syntax.specs.Parts.{Spelled, BasesRead, PartsRead}
use Rattle.cxx_syntax.specs.Definitions.{record_of, bodies_of}

-- what members and bases are without a word: public in a struct, private in a class (ISO C++03 11, 11.2)
abbrev pub default_of : Sort → Option Bool
default_of Struct = Some true
default_of Class = Some false
default_of _ = None

-- the front token, "struct" or "class", with what it makes public
pub record IsClassKey (default : Bool) (l : Lexeme) (ts rest : List Lexeme) : Type 0 where
  pub front : ts ≡ l ∷ rest
  pub key : default_of l.sort ≡ Some default

pub data ItemReads (text : List ℕ) : Item → List Lexeme → List Lexeme → Type 0 where
  -- ("struct" | "class") name [":" base {"," base}] "{" {part} "}" ";"
  a_class : {c : ClassRec Spelled} {bs : List Body} {default : Bool} {bases : List (Base Spelled)} {parts : List ClassPart}
      {ts a b d e f g rest : List Lexeme} {k n o z q : Lexeme} →
      IsClassKey default k ts a → IsName n a b → BasesRead text default bases b d →
      Is OpenBrace o d e → PartsRead text default parts e f → Is CloseBrace z f g → Is Semicolon q g rest →
      c ≡ record_of text n bases parts → bs ≡ bodies_of (bytes_of text n) parts → ItemReads text (item.Class c bs) ts rest
  -- ("struct" | "class") name ";"
  a_forward : {default : Bool} {ts a b rest : List Lexeme} {k n q : Lexeme} →
      IsClassKey default k ts a → IsName n a b → Is Semicolon q b rest → ItemReads text item.Forward ts rest
  -- value name ";"
  a_global : {g : Global} {v : ValueType Spelled} {ts a b rest : List Lexeme} {f n q : Lexeme} →
      IsFirst f ts → ValueReads text v ts a → IsName n a b → Is Semicolon q b rest →
      g ≡ record { name = bytes_of text n; ty = v; ty_at = f.at; at = n.at } → ItemReads text (item.Global g) ts rest
  -- "int" "main" "(" ")" block
  a_main : {t : BodyTree} {ts a b c d rest : List Lexeme} {w m o z : Lexeme} →
      Is Int w ts a → Is Main m a b → Is OpenParen o b c → Is CloseParen z c d → BodyReads text t d rest →
      ItemReads text (item.Main t) ts rest

-- {class | forward | global | mainfn}
pub data ItemsRead (text : List ℕ) : List Item → List Lexeme → List Lexeme → Type 0 where
  no_item : {ts : List Lexeme} → ItemsRead text [] ts ts
  one_item : {i : Item} {is : List Item} {ts a rest : List Lexeme} →
      ItemReads text i ts a → ItemsRead text is a rest → ItemsRead text (i ∷ is) ts rest

abbrev pub record_in : Item → Option (ClassRec Spelled)
record_in (item.Class c bs) = Some c
record_in _ = None

abbrev pub global_in : Item → Option Global
global_in (item.Global g) = Some g
global_in _ = None

abbrev pub bodies_in : Item → List Body
bodies_in (item.Class c bs) = bs
bodies_in _ = []

abbrev pub main_in : Item → Option BodyTree
main_in (item.Main t) = Some t
main_in _ = None

abbrev pub is_no_main : Item → Bool
is_no_main (item.Main t) = false
is_no_main _ = true

-- the bodies that stand before main, or all where there is none
abbrev pub bodies_before_main : List Item → List Body
bodies_before_main [] = []
bodies_before_main (item.Class c bs ∷ is) = bs ++ bodies_before_main is
bodies_before_main (item.Forward ∷ is) = bodies_before_main is
bodies_before_main (item.Global g ∷ is) = bodies_before_main is
bodies_before_main (item.Main t ∷ is) = []

-- one tree, or none
abbrev pub trees_in : Option BodyTree → List BodyTree
trees_in None = []
trees_in (Some t) = t ∷ []

-- the items make this source: it has their classes, globals and bodies in their order, and at most one main
pub record AreItemsOf (s : SourceText) (is : List Item) : Type 0 where
  pub records : s.records ≡ filter_map record_in is
  pub globals : s.globals ≡ filter_map global_in is
  pub bodies : s.bodies ≡ flat_map bodies_in is
  pub main : trees_in s.main ≡ filter_map main_in is
  pub main_place : s.main_place ≡ length (bodies_before_main is)

-- source = { class | forward | global | mainfn }, up to the end of the text
pub data SourceReads (text : List ℕ) (s : SourceText) : List Lexeme → List Lexeme → Type 0 where
  a_source : {is : List Item} {ts a rest : List Lexeme} {e : Lexeme} →
      ItemsRead text is ts a → Is End e a rest → AreItemsOf s is → SourceReads text s ts rest

-- the tokens are those of a source, which the grammar has, or they have a first event
abbrev pub ReadsOrStops : List ℕ → List Lexeme → Type 0
ReadsOrStops text ts =
    ((s : SourceText) × (rest : List Lexeme) × SourceReads text s ts rest × DerivesPrefix source_form at_start ts rest) ⊎
    ((e : Stop) × Event source_form at_start ts e)
