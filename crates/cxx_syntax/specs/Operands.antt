-- Which tokens the parts of a statement stand for: each case is a form of a production.
use Rattle.std.specs.Prelude.{◌≡◌, ℕ, true, false, List, [], ◌∷◌, Option, Some, None}
use Rattle.cxx_grammar.specs.declared.sort.Sort.{Sort}
use Rattle.cxx_grammar.specs.declared.sort.Sort.TheVariants.{This, Minus, True, False, Arrow, Dot, Comma, OpenBracket, CloseBracket, OpenParen, CloseParen, DoubleColon, StaticCast, DynamicCast, Less, LessEqual, Greater, Star, Plus, Equal, NotEqual, Bang, Ampersand, New, Typeid}
use Rattle.cxx_grammar.specs.declared.sort.Lexeme.{Lexeme}
use Rattle.cxx_grammar.specs.Front.{Is, IsName, IsNumber}
use Rattle.cxx_grammar.specs.Lexemes.{bytes_of}
use Rattle.cxx_syntax.specs.declared.tree.Spot.{Spot}
use Rattle.cxx_syntax.specs.declared.tree.PointerText.{PointerText}
use Rattle.cxx_syntax.specs.declared.tree.PointerText.TheVariants as pointer
use Rattle.cxx_syntax.specs.declared.tree.Constant.{Constant}
use Rattle.cxx_syntax.specs.declared.tree.Constant.TheVariants as constant
use Rattle.cxx_syntax.specs.declared.tree.Operand.{Operand}
use Rattle.cxx_syntax.specs.declared.tree.Operand.TheVariants as operand
use Rattle.cxx_syntax.specs.declared.tree.PlacePart.{PlacePart}
use Rattle.cxx_syntax.specs.declared.tree.PlaceText.{PlaceText}
use Rattle.cxx_syntax.specs.declared.tree.CallText.{CallText}
use Rattle.cxx_syntax.specs.declared.tree.CastText.{CastText}
use Rattle.cxx_syntax.specs.declared.tree.CastKind.{CastKind}
use Rattle.cxx_syntax.specs.declared.tree.CastKind.TheVariants as cast
use Rattle.cxx_syntax.specs.declared.tree.BinaryOp.{BinaryOp}
use Rattle.cxx_syntax.specs.declared.tree.BinaryOp.TheVariants as binary
use Rattle.cxx_syntax.specs.declared.tree.Right.{Right}
use Rattle.cxx_syntax.specs.declared.tree.Right.TheVariants as right

-- the name that a token spells, and its place
abbrev pub spot_of : List ℕ → Lexeme → Spot
spot_of text l = record { name = bytes_of text l; at = l.at }

-- pointer = name | "this"
pub data PointerReads (text : List ℕ) : PointerText → List Lexeme → List Lexeme → Type 0 where
  a_name : {s : Spot} {ts rest : List Lexeme} {l : Lexeme} →
      IsName l ts rest → s ≡ spot_of text l → PointerReads text (pointer.Name s) ts rest
  a_this : {at : ℕ} {ts rest : List Lexeme} {l : Lexeme} →
      Is This l ts rest → at ≡ l.at → PointerReads text (pointer.This at) ts rest

-- constant = ["-"] number | "true" | "false"
pub data ConstantReads : Constant → List Lexeme → List Lexeme → Type 0 where
  a_number : {n at : ℕ} {ts rest : List Lexeme} {l : Lexeme} →
      IsNumber l ts rest → n ≡ l.value → at ≡ l.at → ConstantReads (constant.Number false n at) ts rest
  a_negative : {n at : ℕ} {ts a rest : List Lexeme} {m l : Lexeme} →
      Is Minus m ts a → IsNumber l a rest → n ≡ l.value → at ≡ m.at → ConstantReads (constant.Number true n at) ts rest
  a_true : {at : ℕ} {ts rest : List Lexeme} {l : Lexeme} →
      Is True l ts rest → at ≡ l.at → ConstantReads (constant.Truth true at) ts rest
  a_false : {at : ℕ} {ts rest : List Lexeme} {l : Lexeme} →
      Is False l ts rest → at ≡ l.at → ConstantReads (constant.Truth false at) ts rest

-- operand = name | "this" | constant
pub data OperandReads (text : List ℕ) : Operand → List Lexeme → List Lexeme → Type 0 where
  name_operand : {s : Spot} {ts rest : List Lexeme} {l : Lexeme} →
      IsName l ts rest → s ≡ spot_of text l → OperandReads text (operand.Name s) ts rest
  this_operand : {at : ℕ} {ts rest : List Lexeme} {l : Lexeme} →
      Is This l ts rest → at ≡ l.at → OperandReads text (operand.This at) ts rest
  constant_operand : {c : Constant} {ts rest : List Lexeme} →
      ConstantReads c ts rest → OperandReads text (operand.Constant c) ts rest

-- ["[" number "]"]
pub data IndexReads : Option (ℕ × ℕ) → List Lexeme → List Lexeme → Type 0 where
  no_index : {ts : List Lexeme} → IndexReads None ts ts
  an_index : {i : ℕ × ℕ} {ts a b rest : List Lexeme} {o n c : Lexeme} →
      Is OpenBracket o ts a → IsNumber n a b → Is CloseBracket c b rest → i ≡ (n.value, n.at) → IndexReads (Some i) ts rest

-- name ["[" number "]"]
pub data PartReads (text : List ℕ) : PlacePart → List Lexeme → List Lexeme → Type 0 where
  a_part : {p : PlacePart} {ts a rest : List Lexeme} {n : Lexeme} →
      IsName n ts a → IndexReads p.index a rest → p.name ≡ spot_of text n → PartReads text p ts rest

-- {"." name ["[" number "]"]}
pub data DotsRead (text : List ℕ) : List PlacePart → List Lexeme → List Lexeme → Type 0 where
  no_dot : {ts : List Lexeme} → DotsRead text [] ts ts
  a_dot : {p : PlacePart} {ps : List PlacePart} {ts a b rest : List Lexeme} {d : Lexeme} →
      Is Dot d ts a → PartReads text p a b → DotsRead text ps b rest → DotsRead text (p ∷ ps) ts rest

-- name ["[" number "]"] {"." name ["[" number "]"]}
pub data PartsRead (text : List ℕ) : List PlacePart → List Lexeme → List Lexeme → Type 0 where
  some_parts : {p : PlacePart} {ps : List PlacePart} {ts a rest : List Lexeme} →
      PartReads text p ts a → DotsRead text ps a rest → PartsRead text (p ∷ ps) ts rest

-- place = pointer "->" name ["[" number "]"] {"." name ["[" number "]"]}
pub data PlaceReads (text : List ℕ) : PlaceText → List Lexeme → List Lexeme → Type 0 where
  a_place : {x : PlaceText} {ts a b rest : List Lexeme} {w : Lexeme} →
      PointerReads text x.pointer ts a → Is Arrow w a b → PartsRead text x.parts b rest → PlaceReads text x ts rest

-- {"," operand}
pub data MoreRead (text : List ℕ) : List Operand → List Lexeme → List Lexeme → Type 0 where
  no_more_operands : {ts : List Lexeme} → MoreRead text [] ts ts
  one_more_operand : {v : Operand} {vs : List Operand} {ts a b rest : List Lexeme} {c : Lexeme} →
      Is Comma c ts a → OperandReads text v a b → MoreRead text vs b rest → MoreRead text (v ∷ vs) ts rest

-- [operand {"," operand}]
pub data ArgumentsRead (text : List ℕ) : List Operand → List Lexeme → List Lexeme → Type 0 where
  no_arguments : {ts : List Lexeme} → ArgumentsRead text [] ts ts
  some_arguments : {v : Operand} {vs : List Operand} {ts a rest : List Lexeme} →
      OperandReads text v ts a → MoreRead text vs a rest → ArgumentsRead text (v ∷ vs) ts rest

-- call = pointer "->" [name "::"] name "(" [operand {"," operand}] ")"
pub data CallReads (text : List ℕ) : CallText → List Lexeme → List Lexeme → Type 0 where
  a_call : {x : CallText} {ts a b c d e rest : List Lexeme} {w n o z : Lexeme} →
      PointerReads text x.pointer ts a → Is Arrow w a b → IsName n b c →
      Is OpenParen o c d → ArgumentsRead text x.arguments d e → Is CloseParen z e rest →
      x.class ≡ None → x.name ≡ spot_of text n → CallReads text x ts rest
  a_qualified_call : {x : CallText} {ts a b c d e f g rest : List Lexeme} {w k q n o z : Lexeme} →
      PointerReads text x.pointer ts a → Is Arrow w a b → IsName k b c → Is DoubleColon q c d → IsName n d e →
      Is OpenParen o e f → ArgumentsRead text x.arguments f g → Is CloseParen z g rest →
      x.class ≡ Some (spot_of text k) → x.name ≡ spot_of text n → CallReads text x ts rest

-- "static_cast" | "dynamic_cast"
abbrev pub cast_kind : Sort → Option CastKind
cast_kind StaticCast = Some cast.Static
cast_kind DynamicCast = Some cast.Dynamic
cast_kind _ = None

-- the front token, the word of this cast
pub record IsCastWord (k : CastKind) (l : Lexeme) (ts rest : List Lexeme) : Type 0 where
  pub front : ts ≡ l ∷ rest
  pub cast : cast_kind l.sort ≡ Some k

-- cast = ("static_cast" | "dynamic_cast") "<" name "*" ">" "(" pointer ")" | "(" name "*" ")" pointer
pub data CastReads (text : List ℕ) : CastText → List Lexeme → List Lexeme → Type 0 where
  a_named_cast : {x : CastText} {ts a b c d e f g rest : List Lexeme} {k l n m h o z : Lexeme} →
      IsCastWord x.kind k ts a → Is Less l a b → IsName n b c → Is Star m c d → Is Greater h d e →
      Is OpenParen o e f → PointerReads text x.pointer f g → Is CloseParen z g rest →
      x.target ≡ spot_of text n → CastReads text x ts rest
  a_plain_cast : {x : CastText} {ts a b c d rest : List Lexeme} {o n m z : Lexeme} →
      Is OpenParen o ts a → IsName n a b → Is Star m b c → Is CloseParen z c d → PointerReads text x.pointer d rest →
      x.kind ≡ cast.Plain → x.target ≡ spot_of text n → CastReads text x ts rest

-- op = "+" | "-" | "*" | "<" | "<=" | "==" | "!="
abbrev pub operator_of : Sort → Option BinaryOp
operator_of Plus = Some binary.Add
operator_of Minus = Some binary.Subtract
operator_of Star = Some binary.Multiply
operator_of Less = Some binary.Less
operator_of LessEqual = Some binary.LessEqual
operator_of Equal = Some binary.Equal
operator_of NotEqual = Some binary.NotEqual
operator_of _ = None

-- the front token, this operator
pub record IsOperator (o : BinaryOp) (l : Lexeme) (ts rest : List Lexeme) : Type 0 where
  pub front : ts ≡ l ∷ rest
  pub operator : operator_of l.sort ≡ Some o

-- right: a case for each form
pub data RightReads (text : List ℕ) : Right → List Lexeme → List Lexeme → Type 0 where
  -- operand
  an_operand : {v : Operand} {ts rest : List Lexeme} → OperandReads text v ts rest → RightReads text (right.Operand v) ts rest
  -- operand op operand
  a_binary : {v w : Operand} {o : BinaryOp} {ts a b rest : List Lexeme} {l : Lexeme} →
      OperandReads text v ts a → IsOperator o l a b → OperandReads text w b rest → RightReads text (right.Binary v o w) ts rest
  -- "!" operand
  a_not : {v : Operand} {ts a rest : List Lexeme} {n : Lexeme} →
      Is Bang n ts a → OperandReads text v a rest → RightReads text (right.Not v) ts rest
  -- place
  a_place_read : {p : PlaceText} {ts rest : List Lexeme} → PlaceReads text p ts rest → RightReads text (right.Place p) ts rest
  -- "&" place
  an_address : {p : PlaceText} {ts a rest : List Lexeme} {n : Lexeme} →
      Is Ampersand n ts a → PlaceReads text p a rest → RightReads text (right.Address p) ts rest
  -- call
  a_call_read : {c : CallText} {ts rest : List Lexeme} → CallReads text c ts rest → RightReads text (right.Call c) ts rest
  -- "new" name
  a_new : {s : Spot} {ts a rest : List Lexeme} {k n : Lexeme} →
      Is New k ts a → IsName n a rest → s ≡ spot_of text n → RightReads text (right.New s) ts rest
  -- cast
  a_cast : {c : CastText} {ts rest : List Lexeme} → CastReads text c ts rest → RightReads text (right.Cast c) ts rest
  -- "typeid" "(" "*" pointer ")" "==" "typeid" "(" name ")"
  a_type_equal : {p : PointerText} {s : Spot} {ts a b c d e f g h i rest : List Lexeme} {k o m z q j u n y : Lexeme} →
      Is Typeid k ts a → Is OpenParen o a b → Is Star m b c → PointerReads text p c d → Is CloseParen z d e →
      Is Equal q e f → Is Typeid j f g → Is OpenParen u g h → IsName n h i → Is CloseParen y i rest →
      s ≡ spot_of text n → RightReads text (right.TypeEqual p s) ts rest
