-- The grammar as a table: what is still to be read, by the token that comes next.
--
-- A task is what a reader has to do next; it takes at least one token, so what may be empty stands together with
-- what follows it. That the table says what the grammar says is proved, and no clause of a public call rests on it.
use Rattle.std.specs.Prelude.{Bool, true, false, List, [], ◌∷◌, ◌++◌, Option, Some, None, if◌then◌else◌}
use Rattle.cxx_grammar.specs.declared.sort.Sort.{Sort}
use Rattle.cxx_grammar.specs.declared.sort.Sort.TheVariants.{Struct, Class, Public, Protected, Private, Virtual, Boolean, Char, Short, Int, Long, Signed, Unsigned, Void, Return, New, Delete, If, Else, While, This, True, False, StaticCast, DynamicCast, Typeid, Main, Print, Dump, Name, OwnName, Number, Zero, OpenBrace, OpenBlock, CloseBrace, OpenParen, CloseParen, OpenBracket, CloseBracket, Semicolon, Colon, DoubleColon, Comma, Star, Ampersand, Assign, Equal, NotEqual, Bang, Arrow, Dot, Less, LessEqual, Greater, Plus, Minus, Tilde, End}
use Rattle.cxx_grammar.specs.Sorts.{is_same}

-- a place that is written, or that a right side reads
pub data Use : Type 0 where
  Written : Use
  Read : Use

pub data Task : Type 0 where
  -- one token
  Only : Sort → Task
  -- a name
  AName : Task
  -- a number
  ANumber : Task
  -- constant
  AConstant : Task
  -- operand
  AnOperand : Task
  -- pointer
  APointer : Task
  -- the rest of a value and a name after "unsigned"
  UnsignedName : Task
  -- ["long"] name
  LongName : Task
  -- value name
  AParam : Task
  -- right ";"
  RightEnd : Task
  -- place ";"
  ReadPlaceEnd : Task
  -- [op operand] ";"
  AfterOperand : Task
  -- the rest of right ";" after a name or "this"
  AfterPointer : Task
  -- the rest of a place or call after pointer "->" name, with what follows it
  Member : Use → Task
  -- the rest of a place after a name, with what follows it
  Named : Use → Task
  -- the rest of a place after an index, with what follows it
  Tail : Use → Task
  -- [operand {"," operand}] ")"
  ArgumentsEnd : Task
  -- {"," operand} ")"
  MoreArgumentsEnd : Task
  -- ["=" right] ";"
  InitEnd : Task
  -- [operand] ";"
  ResultEnd : Task
  -- the rest of a statement after a name
  AfterName : Task
  -- the rest of a statement after "print" "("
  PrintEnd : Task
  -- block
  ABlock : Task
  -- {statement} "}"
  StatementsEnd : Task
  -- ["else" block] {statement} "}"
  ElseEnd : Task
  -- [access] name
  BaseAfterVirtual : Task
  -- ["virtual"] name
  BaseAfterAccess : Task
  -- base
  ABase : Task
  -- {"," base} "{" {part} "}" ";"
  BasesEnd : Task
  -- the rest of a class or forward after its name
  ClassTail : Task
  -- ["[" number "]"] ";"
  FieldEnd : Task
  -- [param {"," param}] ")"
  ParamsEnd : Task
  -- {"," param} ")"
  MoreParamsEnd : Task
  -- the rest of a field or function after a pointer and its name
  AfterDeclared : Task
  -- the rest of a field or function after a scalar and its name
  AfterScalar : Task
  -- the rest of a part after a class name
  AfterType : Task
  -- the rest of a part after the name of its class
  AfterOwnName : Task
  -- init
  AnInit : Task
  -- [":" init {"," init}] block
  ConstructorEnd : Task
  -- {"," init} block
  InitsEnd : Task
  -- the rest of a part after "virtual"
  AfterVirtual : Task
  -- block, or "=" "0" ";"
  VirtualEnd : Task
  -- {part} "}"
  PartsEnd : Task
  -- the rest of a global or of main after "int"
  AfterInt : Task
  -- {class | forward | global | mainfn} and the end of the text
  ItemsEnd : Task

-- at this token go on with these tasks
abbrev pub Line : Type 0
Line = Sort × List Task

abbrev pub look_up : Sort → List Line → Option (List Task)
look_up t [] = None
look_up t (l ∷ ls) = if is_same l.0 t then Some l.1 else look_up t ls

-- what comes after a place
abbrev pub end_of : Use → Line
end_of Written = (Assign, AnOperand ∷ Only Semicolon ∷ [])
end_of Read = (Semicolon, [])

-- the tasks after a place
abbrev pub end_tasks : Use → List Task
end_tasks Written = Only Assign ∷ AnOperand ∷ Only Semicolon ∷ []
end_tasks Read = Only Semicolon ∷ []

-- what a scalar and a name leave after the first token
abbrev pub scalar_rest : Sort → List Task
scalar_rest Signed = Only Char ∷ AName ∷ []
scalar_rest Unsigned = UnsignedName ∷ []
scalar_rest Long = LongName ∷ []
scalar_rest _ = AName ∷ []

-- the words that begin a scalar
abbrev pub is_scalar_word : Sort → Bool
is_scalar_word Boolean = true
is_scalar_word Char = true
is_scalar_word Short = true
is_scalar_word Int = true
is_scalar_word Long = true
is_scalar_word Signed = true
is_scalar_word Unsigned = true
is_scalar_word _ = false

-- a name or this
abbrev pub is_pointer : Sort → Bool
is_pointer Name = true
is_pointer OwnName = true
is_pointer This = true
is_pointer _ = false

-- what begins a constant
abbrev pub is_constant : Sort → Bool
is_constant Number = true
is_constant Zero = true
is_constant Minus = true
is_constant True = true
is_constant False = true
is_constant _ = false

-- an operator of two operands
abbrev pub is_operator : Sort → Bool
is_operator Plus = true
is_operator Minus = true
is_operator Star = true
is_operator Less = true
is_operator LessEqual = true
is_operator Equal = true
is_operator NotEqual = true
is_operator _ = false

-- a scalar and a name, and then these tasks
abbrev pub scalar_lines : List Task → List Line
scalar_lines k =
    (Boolean, AName ∷ k) ∷ (Char, AName ∷ k) ∷ (Short, AName ∷ k) ∷ (Int, AName ∷ k) ∷
    (Long, LongName ∷ k) ∷ (Signed, Only Char ∷ AName ∷ k) ∷ (Unsigned, UnsignedName ∷ k) ∷ []

-- a value and a name, and then these tasks
abbrev pub value_lines : List Task → List Line
value_lines k = (Name, Only Star ∷ AName ∷ k) ∷ (OwnName, Only Star ∷ AName ∷ k) ∷ scalar_lines k

abbrev pub statement_lines : List Line
statement_lines =
    (CloseBrace, []) ∷
    (Name, AfterName ∷ StatementsEnd ∷ []) ∷ (OwnName, AfterName ∷ StatementsEnd ∷ []) ∷
    (This, Only Arrow ∷ AName ∷ Member Written ∷ StatementsEnd ∷ []) ∷
    (Star, APointer ∷ Only Assign ∷ Only Star ∷ APointer ∷ Only Semicolon ∷ StatementsEnd ∷ []) ∷
    (Delete, APointer ∷ Only Semicolon ∷ StatementsEnd ∷ []) ∷
    (If, Only OpenParen ∷ AnOperand ∷ Only CloseParen ∷ ABlock ∷ ElseEnd ∷ []) ∷
    (While, Only OpenParen ∷ AnOperand ∷ Only CloseParen ∷ ABlock ∷ StatementsEnd ∷ []) ∷
    (Return, ResultEnd ∷ StatementsEnd ∷ []) ∷
    (Print, Only OpenParen ∷ PrintEnd ∷ StatementsEnd ∷ []) ∷
    (Dump, Only OpenParen ∷ APointer ∷ Only CloseParen ∷ Only Semicolon ∷ StatementsEnd ∷ []) ∷
    scalar_lines (InitEnd ∷ StatementsEnd ∷ [])

abbrev pub lines : Task → List Line
lines (Only s) = (s, []) ∷ []
lines AName = (Name, []) ∷ (OwnName, []) ∷ []
lines ANumber = (Number, []) ∷ (Zero, []) ∷ []
lines AConstant = (Number, []) ∷ (Zero, []) ∷ (Minus, ANumber ∷ []) ∷ (True, []) ∷ (False, []) ∷ []
lines AnOperand = (Name, []) ∷ (OwnName, []) ∷ (This, []) ∷ (Number, []) ∷ (Zero, []) ∷ (Minus, ANumber ∷ []) ∷ (True, []) ∷ (False, []) ∷ []
lines APointer = (Name, []) ∷ (OwnName, []) ∷ (This, []) ∷ []
lines UnsignedName = (Char, AName ∷ []) ∷ (Short, AName ∷ []) ∷ (Int, AName ∷ []) ∷ (Long, LongName ∷ []) ∷ (Name, []) ∷ (OwnName, []) ∷ []
lines LongName = (Long, AName ∷ []) ∷ (Name, []) ∷ (OwnName, []) ∷ []
lines AParam = value_lines []
lines RightEnd =
    (Name, AfterPointer ∷ []) ∷
    (OwnName, AfterPointer ∷ []) ∷
    (This, AfterPointer ∷ []) ∷
    (Number, AfterOperand ∷ []) ∷
    (Zero, AfterOperand ∷ []) ∷
    (Minus, ANumber ∷ AfterOperand ∷ []) ∷
    (True, AfterOperand ∷ []) ∷
    (False, AfterOperand ∷ []) ∷
    (Bang, AnOperand ∷ Only Semicolon ∷ []) ∷
    (Ampersand, ReadPlaceEnd ∷ []) ∷
    (New, AName ∷ Only Semicolon ∷ []) ∷
    (StaticCast, Only Less ∷ AName ∷ Only Star ∷ Only Greater ∷ Only OpenParen ∷ APointer ∷ Only CloseParen ∷ Only Semicolon ∷ []) ∷
    (DynamicCast, Only Less ∷ AName ∷ Only Star ∷ Only Greater ∷ Only OpenParen ∷ APointer ∷ Only CloseParen ∷ Only Semicolon ∷ []) ∷
    (OpenParen, AName ∷ Only Star ∷ Only CloseParen ∷ APointer ∷ Only Semicolon ∷ []) ∷
    (Typeid, Only OpenParen ∷ Only Star ∷ APointer ∷ Only CloseParen ∷ Only Equal ∷ Only Typeid ∷ Only OpenParen ∷ AName ∷ Only CloseParen ∷ Only Semicolon ∷ []) ∷ []
lines ReadPlaceEnd = (Name, Only Arrow ∷ AName ∷ Named Read ∷ []) ∷ (OwnName, Only Arrow ∷ AName ∷ Named Read ∷ []) ∷ (This, Only Arrow ∷ AName ∷ Named Read ∷ []) ∷ []
lines AfterOperand =
    (Plus, AnOperand ∷ Only Semicolon ∷ []) ∷
    (Minus, AnOperand ∷ Only Semicolon ∷ []) ∷
    (Star, AnOperand ∷ Only Semicolon ∷ []) ∷
    (Less, AnOperand ∷ Only Semicolon ∷ []) ∷
    (LessEqual, AnOperand ∷ Only Semicolon ∷ []) ∷
    (Equal, AnOperand ∷ Only Semicolon ∷ []) ∷
    (NotEqual, AnOperand ∷ Only Semicolon ∷ []) ∷
    (Semicolon, []) ∷ []
lines AfterPointer =
    (Arrow, AName ∷ Member Read ∷ []) ∷
    (Plus, AnOperand ∷ Only Semicolon ∷ []) ∷
    (Minus, AnOperand ∷ Only Semicolon ∷ []) ∷
    (Star, AnOperand ∷ Only Semicolon ∷ []) ∷
    (Less, AnOperand ∷ Only Semicolon ∷ []) ∷
    (LessEqual, AnOperand ∷ Only Semicolon ∷ []) ∷
    (Equal, AnOperand ∷ Only Semicolon ∷ []) ∷
    (NotEqual, AnOperand ∷ Only Semicolon ∷ []) ∷
    (Semicolon, []) ∷ []
lines (Member u) =
    (OpenParen, ArgumentsEnd ∷ Only Semicolon ∷ []) ∷
    (DoubleColon, AName ∷ Only OpenParen ∷ ArgumentsEnd ∷ Only Semicolon ∷ []) ∷
    (OpenBracket, ANumber ∷ Only CloseBracket ∷ Tail u ∷ []) ∷
    (Dot, AName ∷ Named u ∷ []) ∷ end_of u ∷ []
lines (Named u) = (OpenBracket, ANumber ∷ Only CloseBracket ∷ Tail u ∷ []) ∷ (Dot, AName ∷ Named u ∷ []) ∷ end_of u ∷ []
lines (Tail u) = (Dot, AName ∷ Named u ∷ []) ∷ end_of u ∷ []
lines ArgumentsEnd =
    (CloseParen, []) ∷
    (Name, MoreArgumentsEnd ∷ []) ∷
    (OwnName, MoreArgumentsEnd ∷ []) ∷
    (This, MoreArgumentsEnd ∷ []) ∷
    (Number, MoreArgumentsEnd ∷ []) ∷
    (Zero, MoreArgumentsEnd ∷ []) ∷
    (Minus, ANumber ∷ MoreArgumentsEnd ∷ []) ∷
    (True, MoreArgumentsEnd ∷ []) ∷
    (False, MoreArgumentsEnd ∷ []) ∷ []
lines MoreArgumentsEnd = (CloseParen, []) ∷ (Comma, AnOperand ∷ MoreArgumentsEnd ∷ []) ∷ []
lines InitEnd = (Assign, RightEnd ∷ []) ∷ (Semicolon, []) ∷ []
lines ResultEnd =
    (Semicolon, []) ∷
    (Name, Only Semicolon ∷ []) ∷
    (OwnName, Only Semicolon ∷ []) ∷
    (This, Only Semicolon ∷ []) ∷
    (Number, Only Semicolon ∷ []) ∷
    (Zero, Only Semicolon ∷ []) ∷
    (Minus, ANumber ∷ Only Semicolon ∷ []) ∷
    (True, Only Semicolon ∷ []) ∷
    (False, Only Semicolon ∷ []) ∷ []
lines AfterName = (Star, AName ∷ InitEnd ∷ []) ∷ (Assign, RightEnd ∷ []) ∷ (Arrow, AName ∷ Member Written ∷ []) ∷ []
lines PrintEnd =
    (Name, Only CloseParen ∷ Only Semicolon ∷ []) ∷
    (OwnName, Only CloseParen ∷ Only Semicolon ∷ []) ∷
    (This, Only CloseParen ∷ Only Semicolon ∷ []) ∷
    (Number, Only CloseParen ∷ Only Semicolon ∷ []) ∷
    (Zero, Only CloseParen ∷ Only Semicolon ∷ []) ∷
    (Minus, ANumber ∷ Only CloseParen ∷ Only Semicolon ∷ []) ∷
    (True, Only CloseParen ∷ Only Semicolon ∷ []) ∷
    (False, Only CloseParen ∷ Only Semicolon ∷ []) ∷
    (Typeid, Only OpenParen ∷ Only Star ∷ APointer ∷ Only CloseParen ∷ Only CloseParen ∷ Only Semicolon ∷ []) ∷
    (DynamicCast, Only Less ∷ Only Void ∷ Only Star ∷ Only Greater ∷ Only OpenParen ∷ APointer ∷ Only CloseParen ∷ Only CloseParen ∷ Only Semicolon ∷ []) ∷ []
lines ABlock = (OpenBlock, StatementsEnd ∷ []) ∷ []
lines StatementsEnd = statement_lines
lines ElseEnd = (Else, ABlock ∷ StatementsEnd ∷ []) ∷ statement_lines
lines BaseAfterVirtual = (Public, AName ∷ []) ∷ (Protected, AName ∷ []) ∷ (Private, AName ∷ []) ∷ (Name, []) ∷ (OwnName, []) ∷ []
lines BaseAfterAccess = (Virtual, AName ∷ []) ∷ (Name, []) ∷ (OwnName, []) ∷ []
lines ABase =
    (Virtual, BaseAfterVirtual ∷ []) ∷
    (Public, BaseAfterAccess ∷ []) ∷
    (Protected, BaseAfterAccess ∷ []) ∷
    (Private, BaseAfterAccess ∷ []) ∷
    (Name, []) ∷
    (OwnName, []) ∷ []
lines BasesEnd = (Comma, ABase ∷ BasesEnd ∷ []) ∷ (OpenBrace, PartsEnd ∷ Only Semicolon ∷ []) ∷ []
lines ClassTail = (Colon, ABase ∷ BasesEnd ∷ []) ∷ (OpenBrace, PartsEnd ∷ Only Semicolon ∷ []) ∷ (Semicolon, []) ∷ []
lines FieldEnd = (OpenBracket, ANumber ∷ Only CloseBracket ∷ Only Semicolon ∷ []) ∷ (Semicolon, []) ∷ []
lines ParamsEnd = (CloseParen, []) ∷ value_lines (MoreParamsEnd ∷ [])
lines MoreParamsEnd = (CloseParen, []) ∷ (Comma, AParam ∷ MoreParamsEnd ∷ []) ∷ []
lines AfterDeclared = (OpenBracket, ANumber ∷ Only CloseBracket ∷ Only Semicolon ∷ []) ∷ (Semicolon, []) ∷ (OpenParen, ParamsEnd ∷ ABlock ∷ []) ∷ []
lines AfterScalar = (OpenBracket, ANumber ∷ Only CloseBracket ∷ Only Semicolon ∷ []) ∷ (Semicolon, []) ∷ (Colon, ANumber ∷ Only Semicolon ∷ []) ∷ (OpenParen, ParamsEnd ∷ ABlock ∷ []) ∷ []
lines AfterType = (Star, AName ∷ AfterDeclared ∷ []) ∷ (Name, FieldEnd ∷ []) ∷ (OwnName, FieldEnd ∷ []) ∷ []
lines AfterOwnName = (Star, AName ∷ AfterDeclared ∷ []) ∷ (Name, FieldEnd ∷ []) ∷ (OwnName, FieldEnd ∷ []) ∷ (OpenParen, Only CloseParen ∷ ConstructorEnd ∷ []) ∷ []
lines AnInit = (Name, Only OpenParen ∷ AConstant ∷ Only CloseParen ∷ []) ∷ (OwnName, Only OpenParen ∷ AConstant ∷ Only CloseParen ∷ []) ∷ []
lines ConstructorEnd = (Colon, AnInit ∷ InitsEnd ∷ []) ∷ (OpenBlock, StatementsEnd ∷ []) ∷ []
lines InitsEnd = (Comma, AnInit ∷ InitsEnd ∷ []) ∷ (OpenBlock, StatementsEnd ∷ []) ∷ []
lines AfterVirtual = value_lines (Only OpenParen ∷ ParamsEnd ∷ VirtualEnd ∷ []) ++
    (Void, AName ∷ Only OpenParen ∷ ParamsEnd ∷ VirtualEnd ∷ []) ∷
    (Tilde, Only OwnName ∷ Only OpenParen ∷ Only CloseParen ∷ ABlock ∷ []) ∷ []
lines VirtualEnd = (OpenBlock, StatementsEnd ∷ []) ∷ (Assign, Only Zero ∷ Only Semicolon ∷ []) ∷ []
lines PartsEnd = (CloseBrace, []) ∷
    (Public, Only Colon ∷ PartsEnd ∷ []) ∷ (Protected, Only Colon ∷ PartsEnd ∷ []) ∷ (Private, Only Colon ∷ PartsEnd ∷ []) ∷
    (Name, AfterType ∷ PartsEnd ∷ []) ∷ (OwnName, AfterOwnName ∷ PartsEnd ∷ []) ∷
    (Virtual, AfterVirtual ∷ PartsEnd ∷ []) ∷
    (Void, AName ∷ Only OpenParen ∷ ParamsEnd ∷ ABlock ∷ PartsEnd ∷ []) ∷
    (Tilde, Only OwnName ∷ Only OpenParen ∷ Only CloseParen ∷ ABlock ∷ PartsEnd ∷ []) ∷
    scalar_lines (AfterScalar ∷ PartsEnd ∷ [])
lines AfterInt = (Name, Only Semicolon ∷ []) ∷ (OwnName, Only Semicolon ∷ []) ∷ (Main, Only OpenParen ∷ Only CloseParen ∷ ABlock ∷ []) ∷ []
lines ItemsEnd = (End, []) ∷
    (Struct, AName ∷ ClassTail ∷ ItemsEnd ∷ []) ∷ (Class, AName ∷ ClassTail ∷ ItemsEnd ∷ []) ∷
    (Int, AfterInt ∷ ItemsEnd ∷ []) ∷
    value_lines (Only Semicolon ∷ ItemsEnd ∷ [])

-- what is still to be read of a task after a token, or none where the token may not stand there
abbrev pub after : Task → Sort → Option (List Task)
after m t = look_up t (lines m)
