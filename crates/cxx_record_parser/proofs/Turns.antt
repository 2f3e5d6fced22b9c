-- Tasks of declarations in their parts: what a task does at a token, by other tasks.
use Rattle.std.proofs.Common.{◌≡◌, Bool, true, false, List, [], ◌∷◌, ◌++◌, Some, None, refl, sym, subst}
use Rattle.cxx_grammar.specs.declared.sort.Sort.{Sort}
use Rattle.cxx_grammar.specs.declared.sort.Sort.TheVariants.{Struct, Public, Protected, Private, Virtual, Boolean, Char, Short, Int, Long, Signed, Unsigned, Main, Name, OwnName, OpenBrace, OpenParen, CloseParen, Semicolon, Colon, Comma, Star, Assign}
use Rattle.cxx_grammar.specs.declared.sort.Lexeme.{Lexeme}
use Rattle.cxx_grammar.specs.Sorts.{is_same, is_name}
use Rattle.cxx_grammar.specs.Table.{Task, Only, AName, ANumber, AConstant, AParam, ABlock, BaseAfterVirtual, BaseAfterAccess, ABase, BasesEnd, ClassTail, FieldEnd, ParamsEnd, MoreParamsEnd, AfterDeclared, AfterScalar, AfterType, AfterOwnName, AnInit, InitsEnd, AfterVirtual, VirtualEnd, PartsEnd, AfterInt, ItemsEnd, after, scalar_rest, is_scalar_word}
use Rattle.cxx_grammar.specs.Event.{State, admit}
use Rattle.cxx_grammar.specs.invariants.Run.{admits, go_on, run, Outcome}
use Rattle.cxx_syntax.specs.Parts.{access_of}
use Rattle.cxx_record_parser.specs.invariants.Readers.{begins_value, value_rest}

-- another sort
abbrev pub IsNot : Sort → Sort → Type 0
IsNot x t = is_same x t ≡ false

-- What tasks do at a token, of which the sort is given.
abbrev at_sort : Lexeme → List Lexeme → State → Task → List Task → Sort → Outcome
at_sort l ts s m k t = go_on l (after m t) (admits m t s) k (run ts)

-- At each sort that meets a condition a task does what others do there.
abbrev IsAlike : (Sort → Type 0) → Task → Task → (List Task → List Task) → Type 0
IsAlike P m m' more = (l : Lexeme) (ts : List Lexeme) (s : State) (k : List Task) (t : Sort) → P t → at_sort l ts s m k t ≡ at_sort l ts s m' (more k) t

-- So it does at each list that begins with a token of such a sort.
abbrev pub Turns : Task → (Sort → Type 0) → Task → (List Task → List Task) → Type 0
Turns m P m' more = (rest : List Lexeme) (l : Lexeme) (ts : List Lexeme) (s : State) (k : List Task) → rest ≡ l ∷ ts → P l.sort → run rest s (m ∷ k) ≡ run rest s (m' ∷ more k)

turn : (P : Sort → Type 0) (m m' : Task) (more : List Task → List Task) → IsAlike P m m' more → Turns m P m' more
turn P m m' more alike rest l ts s k e h = subst (λ w. run w s (m ∷ k) ≡ run w s (m' ∷ more k)) (sym e) (alike l ts s k l.sort h)

-- At each sort that meets a condition a task takes the token, and leaves what the sort tells.
abbrev IsTaken : (Sort → Type 0) → Task → (Sort → List Task → List Task) → Type 0
IsTaken P m left = (l : Lexeme) (ts : List Lexeme) (s : State) (k : List Task) (t : Sort) → P t → at_sort l ts s m k t ≡ run ts s (left t k)

abbrev pub Takes : Task → (Sort → Type 0) → (Sort → List Task → List Task) → Type 0
Takes m P left = (rest : List Lexeme) (l : Lexeme) (ts : List Lexeme) (s : State) (k : List Task) → rest ≡ l ∷ ts → P l.sort → run rest s (m ∷ k) ≡ run ts s (left l.sort k)

take_turn : (P : Sort → Type 0) (m : Task) (left : Sort → List Task → List Task) → IsTaken P m left → Takes m P left
take_turn P m left taken rest l ts s k e h = subst (λ w. run w s (m ∷ k) ≡ run ts s (left l.sort k)) (sym e) (taken l ts s k l.sort h)

-- No access after "virtual".
pub virtual_name : Turns BaseAfterVirtual (λ t. access_of t ≡ None) AName (λ k. k)
virtual_name = turn _ _ _ _ by_sort where
  by_sort : IsAlike (λ t. access_of t ≡ None) BaseAfterVirtual AName (λ k. k)
  by_sort l ts s k Public h = absurd (cc)
  by_sort l ts s k Protected h = absurd (cc)
  by_sort l ts s k Private h = absurd (cc)
  by_sort l ts s k _ h = refl

-- An access begins a base.
pub access_base : (p : Bool) → Takes ABase (λ t. access_of t ≡ Some p) (λ t k. BaseAfterAccess ∷ k)
access_base p = take_turn _ _ _ by_sort where
  by_sort : IsTaken (λ t. access_of t ≡ Some p) ABase (λ t k. BaseAfterAccess ∷ k)
  by_sort l ts s k Public h = refl
  by_sort l ts s k Protected h = refl
  by_sort l ts s k Private h = refl
  by_sort l ts s k _ h = absurd (cc)

-- A base without words.
pub name_base : Turns ABase (λ t. IsNot Virtual t × (access_of t ≡ None)) AName (λ k. k)
name_base = turn _ _ _ _ by_sort where
  by_sort : IsAlike (λ t. IsNot Virtual t × (access_of t ≡ None)) ABase AName (λ k. k)
  by_sort l ts s k Virtual (h0, h1) = absurd (cc)
  by_sort l ts s k Public (h0, h1) = absurd (cc)
  by_sort l ts s k Protected (h0, h1) = absurd (cc)
  by_sort l ts s k Private (h0, h1) = absurd (cc)
  by_sort l ts s k _ (h0, h1) = refl

-- No "virtual" after an access.
pub access_name : Turns BaseAfterAccess (IsNot Virtual) AName (λ k. k)
access_name = turn _ _ _ _ by_sort where
  by_sort : IsAlike (IsNot Virtual) BaseAfterAccess AName (λ k. k)
  by_sort l ts s k Virtual h = absurd (cc)
  by_sort l ts s k _ h = refl

-- Without a comma the bases end.
pub bases_end : Turns BasesEnd (IsNot Comma) (Only OpenBrace) (λ k. PartsEnd ∷ Only Semicolon ∷ k)
bases_end = turn _ _ _ _ by_sort where
  by_sort : IsAlike (IsNot Comma) BasesEnd (Only OpenBrace) (λ k. PartsEnd ∷ Only Semicolon ∷ k)
  by_sort l ts s k Comma h = absurd (cc)
  by_sort l ts s k _ h = refl

-- A class without bases.
pub no_bases : Turns ClassTail (λ t. IsNot Semicolon t × IsNot Colon t) (Only OpenBrace) (λ k. PartsEnd ∷ Only Semicolon ∷ k)
no_bases = turn _ _ _ _ by_sort where
  by_sort : IsAlike (λ t. IsNot Semicolon t × IsNot Colon t) ClassTail (Only OpenBrace) (λ k. PartsEnd ∷ Only Semicolon ∷ k)
  by_sort l ts s k Semicolon (h0, h1) = absurd (cc)
  by_sort l ts s k Colon (h0, h1) = absurd (cc)
  by_sort l ts s k _ (h0, h1) = refl

-- A value begins a parameter.
pub param_begins : Takes AParam (λ t. begins_value t ≡ true) (λ t k. value_rest t ++ k)
param_begins = take_turn _ _ _ by_sort where
  by_sort : IsTaken (λ t. begins_value t ≡ true) AParam (λ t k. value_rest t ++ k)
  by_sort l ts s k Name h = refl
  by_sort l ts s k OwnName h = refl
  by_sort l ts s k Boolean h = refl
  by_sort l ts s k Char h = refl
  by_sort l ts s k Short h = refl
  by_sort l ts s k Int h = refl
  by_sort l ts s k Long h = refl
  by_sort l ts s k Signed h = refl
  by_sort l ts s k Unsigned h = refl
  by_sort l ts s k _ h = absurd (cc)

-- The first parameter.
pub params_begin : Turns ParamsEnd (IsNot CloseParen) AParam (λ k. MoreParamsEnd ∷ k)
params_begin = turn _ _ _ _ by_sort where
  by_sort : IsAlike (IsNot CloseParen) ParamsEnd AParam (λ k. MoreParamsEnd ∷ k)
  by_sort l ts s k CloseParen h = absurd (cc)
  by_sort l ts s k _ h = refl

-- Without "(" a field ends.
pub field_ends : Turns AfterDeclared (IsNot OpenParen) FieldEnd (λ k. k)
field_ends = turn _ _ _ _ by_sort where
  by_sort : IsAlike (IsNot OpenParen) AfterDeclared FieldEnd (λ k. k)
  by_sort l ts s k OpenParen h = absurd (cc)
  by_sort l ts s k _ h = refl

-- Behind a scalar and a name ":" begins the width of a bit-field.
pub width_begins : Turns AfterScalar (λ t. t ≡ Colon) (Only Colon) (λ k. ANumber ∷ Only Semicolon ∷ k)
width_begins = turn _ _ _ _ by_sort where
  by_sort : IsAlike (λ t. t ≡ Colon) AfterScalar (Only Colon) (λ k. ANumber ∷ Only Semicolon ∷ k)
  by_sort l ts s k Colon h = refl
  by_sort l ts s k _ h = absurd (cc)

-- Without ":" a scalar and a name go on as a pointer and a name do.
pub no_width : Turns AfterScalar (IsNot Colon) AfterDeclared (λ k. k)
no_width = turn _ _ _ _ by_sort where
  by_sort : IsAlike (IsNot Colon) AfterScalar AfterDeclared (λ k. k)
  by_sort l ts s k Colon h = absurd (cc)
  by_sort l ts s k _ h = refl

-- Without "*" a name is the class of a field.
pub object_field : Turns AfterType (IsNot Star) AName (λ k. FieldEnd ∷ k)
object_field = turn _ _ _ _ by_sort where
  by_sort : IsAlike (IsNot Star) AfterType AName (λ k. FieldEnd ∷ k)
  by_sort l ts s k Star h = absurd (cc)
  by_sort l ts s k _ h = refl

-- Without "(" the name of the class begins no constructor.
pub no_constructor : Turns AfterOwnName (IsNot OpenParen) AfterType (λ k. k)
no_constructor = turn _ _ _ _ by_sort where
  by_sort : IsAlike (IsNot OpenParen) AfterOwnName AfterType (λ k. k)
  by_sort l ts s k OpenParen h = absurd (cc)
  by_sort l ts s k _ h = refl

-- Without a comma the initializers end.
pub inits_end : Turns InitsEnd (IsNot Comma) ABlock (λ k. k)
inits_end = turn _ _ _ _ by_sort where
  by_sort : IsAlike (IsNot Comma) InitsEnd ABlock (λ k. k)
  by_sort l ts s k Comma h = absurd (cc)
  by_sort l ts s k _ h = refl

-- A virtual function with a body.
pub not_pure : Turns VirtualEnd (IsNot Assign) ABlock (λ k. k)
not_pure = turn _ _ _ _ by_sort where
  by_sort : IsAlike (IsNot Assign) VirtualEnd ABlock (λ k. k)
  by_sort l ts s k Assign h = absurd (cc)
  by_sort l ts s k _ h = refl

-- A value after "virtual".
pub virtual_value : Takes AfterVirtual (λ t. begins_value t ≡ true) (λ t k. value_rest t ++ (Only OpenParen ∷ ParamsEnd ∷ VirtualEnd ∷ k))
virtual_value = take_turn _ _ _ by_sort where
  by_sort : IsTaken (λ t. begins_value t ≡ true) AfterVirtual (λ t k. value_rest t ++ (Only OpenParen ∷ ParamsEnd ∷ VirtualEnd ∷ k))
  by_sort l ts s k Name h = refl
  by_sort l ts s k OwnName h = refl
  by_sort l ts s k Boolean h = refl
  by_sort l ts s k Char h = refl
  by_sort l ts s k Short h = refl
  by_sort l ts s k Int h = refl
  by_sort l ts s k Long h = refl
  by_sort l ts s k Signed h = refl
  by_sort l ts s k Unsigned h = refl
  by_sort l ts s k _ h = absurd (cc)

-- An access label.
pub label_part : (p : Bool) → Takes PartsEnd (λ t. access_of t ≡ Some p) (λ t k. Only Colon ∷ PartsEnd ∷ k)
label_part p = take_turn _ _ _ by_sort where
  by_sort : IsTaken (λ t. access_of t ≡ Some p) PartsEnd (λ t k. Only Colon ∷ PartsEnd ∷ k)
  by_sort l ts s k Public h = refl
  by_sort l ts s k Protected h = refl
  by_sort l ts s k Private h = refl
  by_sort l ts s k _ h = absurd (cc)

-- A scalar begins a part.
pub scalar_part : Takes PartsEnd (λ t. is_scalar_word t ≡ true) (λ t k. scalar_rest t ++ (AfterScalar ∷ PartsEnd ∷ k))
scalar_part = take_turn _ _ _ by_sort where
  by_sort : IsTaken (λ t. is_scalar_word t ≡ true) PartsEnd (λ t k. scalar_rest t ++ (AfterScalar ∷ PartsEnd ∷ k))
  by_sort l ts s k Boolean h = refl
  by_sort l ts s k Char h = refl
  by_sort l ts s k Short h = refl
  by_sort l ts s k Int h = refl
  by_sort l ts s k Long h = refl
  by_sort l ts s k Signed h = refl
  by_sort l ts s k Unsigned h = refl
  by_sort l ts s k _ h = absurd (cc)

-- A variable after "int".
pub no_main : Turns AfterInt (IsNot Main) AName (λ k. Only Semicolon ∷ k)
no_main = turn _ _ _ _ by_sort where
  by_sort : IsAlike (IsNot Main) AfterInt AName (λ k. Only Semicolon ∷ k)
  by_sort l ts s k Main h = absurd (cc)
  by_sort l ts s k _ h = refl

-- A variable.
pub value_begins : Takes ItemsEnd (λ t. (begins_value t ≡ true) × (t ≡ Int → ⊥)) (λ t k. value_rest t ++ (Only Semicolon ∷ ItemsEnd ∷ k))
value_begins = take_turn _ _ _ by_sort where
  by_sort : IsTaken (λ t. (begins_value t ≡ true) × (t ≡ Int → ⊥)) ItemsEnd (λ t k. value_rest t ++ (Only Semicolon ∷ ItemsEnd ∷ k))
  by_sort l ts s k Name (h0, h1) = refl
  by_sort l ts s k OwnName (h0, h1) = refl
  by_sort l ts s k Boolean (h0, h1) = refl
  by_sort l ts s k Char (h0, h1) = refl
  by_sort l ts s k Short (h0, h1) = refl
  by_sort l ts s k Long (h0, h1) = refl
  by_sort l ts s k Signed (h0, h1) = refl
  by_sort l ts s k Unsigned (h0, h1) = refl
  by_sort l ts s k Int (h0, h1) = absurd (h1 refl)
  by_sort l ts s k _ (h0, h1) = absurd (cc)

-- An initializer.
pub an_init : (ts : List Lexeme) (s : State) (k : List Task) → run ts s (AnInit ∷ k) ≡ run ts s (AName ∷ Only OpenParen ∷ AConstant ∷ Only CloseParen ∷ k)
an_init [] s k = refl
an_init (l ∷ ts) s k = by_sort l.sort where
  by_sort : (t : Sort) → go_on l (after AnInit t) (admit t s) k (run ts) ≡ go_on l (after AName t) (admit t s) (Only OpenParen ∷ AConstant ∷ Only CloseParen ∷ k) (run ts)
  by_sort Struct = refl
  by_sort _ = refl

pub scalar_leaves : (t : Sort) → is_name t ≡ false → value_rest t ≡ scalar_rest t
scalar_leaves Name i = absurd (cc)
scalar_leaves OwnName i = absurd (cc)
scalar_leaves _ i = refl
