-- The grammar (ISO C++03 annex A, of which the language is a small part), and what it derives.
use Rattle.std.specs.Prelude.{◌≡◌, ◌⊎◌, List, [], ◌∷◌, ◌++◌}
use Rattle.cxx_grammar.specs.declared.sort.Sort.{Sort}
use Rattle.cxx_grammar.specs.declared.sort.Sort.TheVariants.{Struct, Class, Public, Protected, Private, Virtual, Boolean, Char, Short, Int, Long, Signed, Unsigned, Void, Return, New, Delete, If, Else, While, This, True, False, StaticCast, DynamicCast, Typeid, Main, Print, Dump, Name, OwnName, Number, Zero, OpenBrace, OpenBlock, CloseBrace, OpenParen, CloseParen, OpenBracket, CloseBracket, Semicolon, Colon, DoubleColon, Comma, Star, Ampersand, Assign, Equal, NotEqual, Bang, Arrow, Dot, Less, LessEqual, Greater, Plus, Minus, Tilde, End}

-- the productions' names; each `[ ]` and `{ }` of a production has one of its own
pub data NonTerminal : Type 0 where
  AnyName : NonTerminal
  AnyNumber : NonTerminal
  Source : NonTerminal
  Item : NonTerminal
  Forward : NonTerminal
  ClassDefinition : NonTerminal
  ClassKey : NonTerminal
  Bases : NonTerminal
  MoreBases : NonTerminal
  Base : NonTerminal
  MaybeVirtual : NonTerminal
  MaybeAccess : NonTerminal
  Access : NonTerminal
  Parts : NonTerminal
  ClassPart : NonTerminal
  Field : NonTerminal
  Length : NonTerminal
  Function : NonTerminal
  Returned : NonTerminal
  Params : NonTerminal
  MoreParams : NonTerminal
  Param : NonTerminal
  Constructor : NonTerminal
  Inits : NonTerminal
  MoreInits : NonTerminal
  Init : NonTerminal
  Destructor : NonTerminal
  Global : NonTerminal
  MainFunction : NonTerminal
  Value : NonTerminal
  Scalar : NonTerminal
  MaybeUnsigned : NonTerminal
  MaybeLong : NonTerminal
  Block : NonTerminal
  Statements : NonTerminal
  Statement : NonTerminal
  MaybeRight : NonTerminal
  ElsePart : NonTerminal
  MaybeOperand : NonTerminal
  Right : NonTerminal
  Operator : NonTerminal
  Operand : NonTerminal
  Constant : NonTerminal
  Pointer : NonTerminal
  Place : NonTerminal
  Index : NonTerminal
  Dots : NonTerminal
  Call : NonTerminal
  Arguments : NonTerminal
  MoreArguments : NonTerminal
  Cast : NonTerminal

-- a token, or what a production stands for
pub data Symbol : Type 0 where
  tok : Sort → Symbol
  part : NonTerminal → Symbol

-- the right sides of each production
abbrev pub grammar : NonTerminal → List (List Symbol)
-- one of Name and OwnName
grammar AnyName = (tok Name ∷ []) ∷ (tok OwnName ∷ []) ∷ []
-- number
grammar AnyNumber = (tok Number ∷ []) ∷ (tok Zero ∷ []) ∷ []
-- source = { class | forward | global | mainfn }
grammar Source = [] ∷ (part Item ∷ part Source ∷ []) ∷ []
grammar Item =
    (part ClassDefinition ∷ []) ∷
    (part Forward ∷ []) ∷
    (part Global ∷ []) ∷
    (part MainFunction ∷ []) ∷ []
-- forward = ("struct" | "class") name ";"
grammar Forward = (part ClassKey ∷ part AnyName ∷ tok Semicolon ∷ []) ∷ []
-- class = ("struct" | "class") name [":" base {"," base}] "{" {part} "}" ";"
grammar ClassDefinition = (part ClassKey ∷ part AnyName ∷ part Bases ∷ tok OpenBrace ∷ part Parts ∷ tok CloseBrace ∷ tok Semicolon ∷ []) ∷ []
grammar ClassKey = (tok Struct ∷ []) ∷ (tok Class ∷ []) ∷ []
grammar Bases = [] ∷ (tok Colon ∷ part Base ∷ part MoreBases ∷ []) ∷ []
grammar MoreBases = [] ∷ (tok Comma ∷ part Base ∷ part MoreBases ∷ []) ∷ []
-- base = ["virtual"] [access] name | access "virtual" name
grammar Base = (part MaybeVirtual ∷ part MaybeAccess ∷ part AnyName ∷ []) ∷ (part Access ∷ tok Virtual ∷ part AnyName ∷ []) ∷ []
grammar MaybeVirtual = [] ∷ (tok Virtual ∷ []) ∷ []
grammar MaybeAccess = [] ∷ (part Access ∷ []) ∷ []
-- access = "public" | "protected" | "private"
grammar Access = (tok Public ∷ []) ∷ (tok Protected ∷ []) ∷ (tok Private ∷ []) ∷ []
grammar Parts = [] ∷ (part ClassPart ∷ part Parts ∷ []) ∷ []
-- part = access ":" | field | function | ctor | dtor
grammar ClassPart =
    (part Access ∷ tok Colon ∷ []) ∷
    (part Field ∷ []) ∷
    (part Function ∷ []) ∷
    (part Constructor ∷ []) ∷
    (part Destructor ∷ []) ∷ []
-- field = (value | name) name ["[" number "]"] ";" | scalar name ":" number ";"
grammar Field = (part Value ∷ part AnyName ∷ part Length ∷ tok Semicolon ∷ []) ∷ (part AnyName ∷ part AnyName ∷ part Length ∷ tok Semicolon ∷ []) ∷ (part Scalar ∷ part AnyName ∷ tok Colon ∷ part AnyNumber ∷ tok Semicolon ∷ []) ∷ []
grammar Length = [] ∷ (tok OpenBracket ∷ part AnyNumber ∷ tok CloseBracket ∷ []) ∷ []
-- function = ["virtual"] (value | "void") name "(" [param {"," param}] ")" block | "virtual" (value | "void") name "(" [param {"," param}] ")" "=" "0" ";"
grammar Function = (part MaybeVirtual ∷ part Returned ∷ part AnyName ∷ tok OpenParen ∷ part Params ∷ tok CloseParen ∷ part Block ∷ []) ∷ (tok Virtual ∷ part Returned ∷ part AnyName ∷ tok OpenParen ∷ part Params ∷ tok CloseParen ∷ tok Assign ∷ tok Zero ∷ tok Semicolon ∷ []) ∷ []
grammar Returned = (part Value ∷ []) ∷ (tok Void ∷ []) ∷ []
grammar Params = [] ∷ (part Param ∷ part MoreParams ∷ []) ∷ []
grammar MoreParams = [] ∷ (tok Comma ∷ part Param ∷ part MoreParams ∷ []) ∷ []
-- param = value name
grammar Param = (part Value ∷ part AnyName ∷ []) ∷ []
-- ctor = name "(" ")" [":" init {"," init}] block
grammar Constructor = (tok OwnName ∷ tok OpenParen ∷ tok CloseParen ∷ part Inits ∷ part Block ∷ []) ∷ []
grammar Inits = [] ∷ (tok Colon ∷ part Init ∷ part MoreInits ∷ []) ∷ []
grammar MoreInits = [] ∷ (tok Comma ∷ part Init ∷ part MoreInits ∷ []) ∷ []
-- init = name "(" constant ")"
grammar Init = (part AnyName ∷ tok OpenParen ∷ part Constant ∷ tok CloseParen ∷ []) ∷ []
-- dtor = ["virtual"] "~" name "(" ")" block
grammar Destructor = (part MaybeVirtual ∷ tok Tilde ∷ tok OwnName ∷ tok OpenParen ∷ tok CloseParen ∷ part Block ∷ []) ∷ []
-- global = value name ";"
grammar Global = (part Value ∷ part AnyName ∷ tok Semicolon ∷ []) ∷ []
-- mainfn = "int" "main" "(" ")" block
grammar MainFunction = (tok Int ∷ tok Main ∷ tok OpenParen ∷ tok CloseParen ∷ part Block ∷ []) ∷ []
-- value = scalar | name "*"
grammar Value = (part Scalar ∷ []) ∷ (part AnyName ∷ tok Star ∷ []) ∷ []
-- scalar = "bool" | "char" | "signed" "char" | "unsigned" "char" | ["unsigned"] "short" | ["unsigned"] "int" | "unsigned" | ["unsigned"] "long" ["long"]
grammar Scalar =
    (tok Boolean ∷ []) ∷
    (tok Char ∷ []) ∷
    (tok Signed ∷ tok Char ∷ []) ∷
    (tok Unsigned ∷ tok Char ∷ []) ∷
    (part MaybeUnsigned ∷ tok Short ∷ []) ∷
    (part MaybeUnsigned ∷ tok Int ∷ []) ∷
    (tok Unsigned ∷ []) ∷
    (part MaybeUnsigned ∷ tok Long ∷ part MaybeLong ∷ []) ∷ []
grammar MaybeUnsigned = [] ∷ (tok Unsigned ∷ []) ∷ []
grammar MaybeLong = [] ∷ (tok Long ∷ []) ∷ []
-- block = "{" {statement} "}"
grammar Block = (tok OpenBlock ∷ part Statements ∷ tok CloseBrace ∷ []) ∷ []
grammar Statements = [] ∷ (part Statement ∷ part Statements ∷ []) ∷ []
-- statement: a line for each form
grammar Statement =
    (part Value ∷ part AnyName ∷ part MaybeRight ∷ tok Semicolon ∷ []) ∷
    (part AnyName ∷ tok Assign ∷ part Right ∷ tok Semicolon ∷ []) ∷
    (part Place ∷ tok Assign ∷ part Operand ∷ tok Semicolon ∷ []) ∷
    (tok Star ∷ part Pointer ∷ tok Assign ∷ tok Star ∷ part Pointer ∷ tok Semicolon ∷ []) ∷
    (part Call ∷ tok Semicolon ∷ []) ∷
    (tok Delete ∷ part Pointer ∷ tok Semicolon ∷ []) ∷
    (tok If ∷ tok OpenParen ∷ part Operand ∷ tok CloseParen ∷ part Block ∷ part ElsePart ∷ []) ∷
    (tok While ∷ tok OpenParen ∷ part Operand ∷ tok CloseParen ∷ part Block ∷ []) ∷
    (tok Return ∷ part MaybeOperand ∷ tok Semicolon ∷ []) ∷
    (tok Print ∷ tok OpenParen ∷ part Operand ∷ tok CloseParen ∷ tok Semicolon ∷ []) ∷
    (tok Print ∷ tok OpenParen ∷ tok Typeid ∷ tok OpenParen ∷ tok Star ∷ part Pointer ∷ tok CloseParen ∷ tok CloseParen ∷ tok Semicolon ∷ []) ∷
    (tok Print ∷ tok OpenParen ∷ tok DynamicCast ∷ tok Less ∷ tok Void ∷ tok Star ∷ tok Greater ∷ tok OpenParen ∷ part Pointer ∷ tok CloseParen ∷ tok CloseParen ∷ tok Semicolon ∷ []) ∷
    (tok Dump ∷ tok OpenParen ∷ part Pointer ∷ tok CloseParen ∷ tok Semicolon ∷ []) ∷ []
grammar MaybeRight = [] ∷ (tok Assign ∷ part Right ∷ []) ∷ []
grammar ElsePart = [] ∷ (tok Else ∷ part Block ∷ []) ∷ []
grammar MaybeOperand = [] ∷ (part Operand ∷ []) ∷ []
-- right: a line for each form
grammar Right =
    (part Operand ∷ []) ∷
    (part Operand ∷ part Operator ∷ part Operand ∷ []) ∷
    (tok Bang ∷ part Operand ∷ []) ∷
    (part Place ∷ []) ∷
    (tok Ampersand ∷ part Place ∷ []) ∷
    (part Call ∷ []) ∷
    (tok New ∷ part AnyName ∷ []) ∷
    (part Cast ∷ []) ∷
    (tok Typeid ∷ tok OpenParen ∷ tok Star ∷ part Pointer ∷ tok CloseParen ∷ tok Equal ∷ tok Typeid ∷ tok OpenParen ∷ part AnyName ∷ tok CloseParen ∷ []) ∷ []
-- op = "+" | "-" | "*" | "<" | "<=" | "==" | "!="
grammar Operator =
    (tok Plus ∷ []) ∷
    (tok Minus ∷ []) ∷
    (tok Star ∷ []) ∷
    (tok Less ∷ []) ∷
    (tok LessEqual ∷ []) ∷
    (tok Equal ∷ []) ∷
    (tok NotEqual ∷ []) ∷ []
-- operand = name | "this" | constant
grammar Operand = (part AnyName ∷ []) ∷ (tok This ∷ []) ∷ (part Constant ∷ []) ∷ []
-- constant = ["-"] number | "true" | "false"
grammar Constant =
    (part AnyNumber ∷ []) ∷
    (tok Minus ∷ part AnyNumber ∷ []) ∷
    (tok True ∷ []) ∷
    (tok False ∷ []) ∷ []
-- pointer = name | "this"
grammar Pointer = (part AnyName ∷ []) ∷ (tok This ∷ []) ∷ []
-- place = pointer "->" name ["[" number "]"] {"." name ["[" number "]"]}
grammar Place = (part Pointer ∷ tok Arrow ∷ part AnyName ∷ part Index ∷ part Dots ∷ []) ∷ []
grammar Index = [] ∷ (tok OpenBracket ∷ part AnyNumber ∷ tok CloseBracket ∷ []) ∷ []
grammar Dots = [] ∷ (tok Dot ∷ part AnyName ∷ part Index ∷ part Dots ∷ []) ∷ []
-- call = pointer "->" [name "::"] name "(" [operand {"," operand}] ")"
grammar Call = (part Pointer ∷ tok Arrow ∷ part AnyName ∷ tok OpenParen ∷ part Arguments ∷ tok CloseParen ∷ []) ∷ (part Pointer ∷ tok Arrow ∷ part AnyName ∷ tok DoubleColon ∷ part AnyName ∷ tok OpenParen ∷ part Arguments ∷ tok CloseParen ∷ []) ∷ []
grammar Arguments = [] ∷ (part Operand ∷ part MoreArguments ∷ []) ∷ []
grammar MoreArguments = [] ∷ (tok Comma ∷ part Operand ∷ part MoreArguments ∷ []) ∷ []
-- cast = ("static_cast" | "dynamic_cast") "<" name "*" ">" "(" pointer ")" | "(" name "*" ")" pointer
grammar Cast =
    (tok StaticCast ∷ tok Less ∷ part AnyName ∷ tok Star ∷ tok Greater ∷ tok OpenParen ∷ part Pointer ∷ tok CloseParen ∷ []) ∷
    (tok DynamicCast ∷ tok Less ∷ part AnyName ∷ tok Star ∷ tok Greater ∷ tok OpenParen ∷ part Pointer ∷ tok CloseParen ∷ []) ∷
    (tok OpenParen ∷ part AnyName ∷ tok Star ∷ tok CloseParen ∷ part Pointer ∷ []) ∷ []

-- a block, and a whole source up to the end of the text
abbrev pub block_form : List Symbol
block_form = part Block ∷ []

abbrev pub source_form : List Symbol
source_form = part Source ∷ tok End ∷ []

abbrev pub In : {A : Type 0} → A → List A → Type 0
In x [] = ⊥
In x (y ∷ ys) = (x ≡ y) ⊎ In x ys

-- the symbols derive the tokens
pub data Derives : List Symbol → List Sort → Type 0 where
  nothing : Derives [] []
  token : {s : Sort} {ss : List Symbol} {ts : List Sort} → Derives ss ts → Derives (tok s ∷ ss) (s ∷ ts)
  choose : {p : NonTerminal} {ss : List Symbol} {ts : List Sort} (rhs : List Symbol) → In rhs (grammar p) → Derives (rhs ++ ss) ts → Derives (part p ∷ ss) ts

-- the tokens begin a list that the symbols derive
abbrev pub Begins : List Symbol → List Sort → Type 0
Begins ss ts = (more : List Sort) × Derives ss (ts ++ more)
