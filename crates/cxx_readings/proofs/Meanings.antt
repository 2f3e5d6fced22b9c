-- What a task has read where it led from one list to another: a tree that the relations know.
use Rattle.std.proofs.Common.{◌≡◌, ℕ, ◌<◌, ◌≤◌, ◌⊎◌, Bool, true, false, List, [], ◌∷◌, Option, Some, None, length, filter_map}
use Rattle.cxx_grammar.specs.declared.sort.Sort.{Sort}
use Rattle.cxx_grammar.specs.declared.sort.Sort.TheVariants.{Virtual, Int, Long, Unsigned, OwnName, Zero, Else, Print, OpenBrace, CloseBrace, OpenParen, CloseParen, Semicolon, Assign, Arrow, End}
use Rattle.cxx_grammar.specs.declared.sort.Lexeme.{Lexeme}
use Rattle.cxx_grammar.specs.Front.{Is, IsName, IsNumber}
use Rattle.cxx_grammar.specs.Event.{State}
use Rattle.cxx_grammar.specs.Table.{Use, Written, Read, Task, Only, AName, ANumber, AConstant, AnOperand, APointer, UnsignedName, LongName, AParam, RightEnd, ReadPlaceEnd, AfterOperand, AfterPointer, Member, Named, Tail, ArgumentsEnd, MoreArgumentsEnd, InitEnd, ResultEnd, AfterName, PrintEnd, ABlock, StatementsEnd, ElseEnd, BaseAfterVirtual, BaseAfterAccess, ABase, BasesEnd, ClassTail, FieldEnd, ParamsEnd, MoreParamsEnd, AfterDeclared, AfterScalar, AfterType, AfterOwnName, AnInit, ConstructorEnd, InitsEnd, AfterVirtual, VirtualEnd, PartsEnd, AfterInt, ItemsEnd, after}
use Rattle.cxx_hierarchy.specs.declared.records.Scalar.{Scalar}
use Rattle.cxx_hierarchy.specs.declared.records.ValueType.{ValueType}
use Rattle.cxx_hierarchy.specs.declared.records.Base.{Base}
use Rattle.cxx_hierarchy.specs.declared.records.Param.{Param}
use Rattle.cxx_syntax.specs.declared.tree.PointerText.{PointerText}
use Rattle.cxx_syntax.specs.declared.tree.Constant.{Constant}
use Rattle.cxx_syntax.specs.declared.tree.Operand.{Operand}
use Rattle.cxx_syntax.specs.declared.tree.PlacePart.{PlacePart}
use Rattle.cxx_syntax.specs.declared.tree.PlaceText.{PlaceText}
use Rattle.cxx_syntax.specs.declared.tree.Right.{Right}
use Rattle.cxx_syntax.specs.declared.tree.Statement.{Statement}
use Rattle.cxx_syntax.specs.declared.tree.BodyTree.{BodyTree}
use Rattle.cxx_syntax.specs.Operands.{PointerReads, ConstantReads, OperandReads, DotsRead, PartsRead, PlaceReads, MoreRead, ArgumentsRead, RightReads}
use Rattle.cxx_syntax.specs.Statements.{ScalarReads, ValueReads, InitReads, ResultReads, IsFirst, BodyReads, StatementsRead, StatementReads}
use Rattle.cxx_syntax.specs.declared.source_text.Init.{Init}
use Rattle.cxx_syntax.specs.declared.part.ClassPart.{ClassPart}
use Rattle.cxx_syntax.specs.declared.part.Item.{Item}
use Rattle.cxx_syntax.specs.Parts.{Spelled, IsAccess, BaseReads, MoreBasesRead, CountReads, ParamReads, ParamsRead, MoreParamsRead, InitsRead, MoreInitsRead, PartReads, PartsRead as ClassPartsRead}
use Rattle.cxx_syntax.specs.Parts as parts
use Rattle.cxx_syntax.specs.Sources.{IsClassKey, ItemReads, ItemsRead, main_in, trees_in}

-- a right side and its sign of an end
abbrev pub RightThen : List ℕ → List Lexeme → List Lexeme → Type 0
RightThen text ts r = (v : Right) × (a : List Lexeme) × (z : Lexeme) × RightReads text v ts a × Is Semicolon z a r

abbrev pub AStatement : List ℕ → List Lexeme → List Lexeme → Type 0
AStatement text ts r = (s : Statement) × StatementReads text s ts r

-- what a place or a call is part of
abbrev pub UseReads : List ℕ → Use → List Lexeme → List Lexeme → Type 0
UseReads text Written ts r = AStatement text ts r
UseReads text Read ts r = RightThen text ts r

-- what follows a place
abbrev pub EndReads : List ℕ → Use → List Lexeme → List Lexeme → Type 0
EndReads text Written ts r = (e z : Lexeme) × (v : Operand) × (a b : List Lexeme) × Is Assign e ts a × OperandReads text v a b × Is Semicolon z b r
EndReads text Read ts r = (z : Lexeme) × Is Semicolon z ts r

-- statements up to the brace that ends them, at most so many
abbrev pub Closes : List ℕ → ℕ → List Lexeme → List Lexeme → Type 0
Closes text n ts r = (ss : List Statement) × (a : List Lexeme) × (z : Lexeme) × StatementsRead text ss ts a × Is CloseBrace z a r × (length ss ≤ n)

-- ["long"] name
pub data LongReads : List Lexeme → List Lexeme → Type 0 where
  just_name : {ts r : List Lexeme} (n : Lexeme) → IsName n ts r → LongReads ts r
  long_name : {ts a r : List Lexeme} (m n : Lexeme) → Is Long m ts a → IsName n a r → LongReads ts r

-- the parts of a class up to the end of its definition
abbrev pub ClassEnds : List ℕ → Bool → List Lexeme → List Lexeme → Type 0
ClassEnds text default ts r = (ps : List ClassPart) × (o z q : Lexeme) × (a b c : List Lexeme) × Is OpenBrace o ts a × ClassPartsRead text default ps a b × Is CloseBrace z b c × Is Semicolon q c r

abbrev pub APart : List ℕ → Bool → List Lexeme → List Lexeme → Type 0
APart text is_public ts r = (p : ClassPart) × PartReads text is_public p ts r

-- the parts of a class up to the brace that ends them
abbrev pub SomeParts : List ℕ → List Lexeme → List Lexeme → Type 0
SomeParts text ts r = (is_public : Bool) → (ps : List ClassPart) × (a : List Lexeme) × (z : Lexeme) × ClassPartsRead text is_public ps ts a × Is CloseBrace z a r

abbrev pub ABody : List ℕ → List Lexeme → List Lexeme → Type 0
ABody text ts r = (t : BodyTree) × BodyReads text t ts r

-- an item is a main exactly where the state tells it
abbrev pub MainSays : State → State → Item → Type 0
MainSays s s' i = (main_in i ≡ None) ⊎ ((t : BodyTree) × (main_in i ≡ Some t) × (s.main ≡ false) × (s'.main ≡ true))

-- a main stays read
abbrev pub Keeps : State → State → Type 0
Keeps s s' = s.main ≡ true → s'.main ≡ true

abbrev pub Got : List ℕ → Task → State → List Lexeme → State → List Lexeme → Type 0
Got text (Only t) s ts s' r = (l : Lexeme) × Is t l ts r
Got text AName s ts s' r = (l : Lexeme) × IsName l ts r
Got text ANumber s ts s' r = (l : Lexeme) × IsNumber l ts r
Got text AConstant s ts s' r = (c : Constant) × ConstantReads c ts r
Got text AnOperand s ts s' r = (v : Operand) × OperandReads text v ts r
Got text APointer s ts s' r = (p : PointerText) × PointerReads text p ts r
Got text UnsignedName s ts s' r = (u : Lexeme) (all : List Lexeme) → Is Unsigned u all ts → (k : Scalar) × (a : List Lexeme) × (n : Lexeme) × ScalarReads k all a × IsName n a r
Got text LongName s ts s' r = LongReads ts r
Got text AParam s ts s' r = (p : Param Spelled) × ParamReads text p ts r
Got text RightEnd s ts s' r = RightThen text ts r
Got text ReadPlaceEnd s ts s' r = (p : PlaceText) × (a : List Lexeme) × (z : Lexeme) × PlaceReads text p ts a × Is Semicolon z a r
Got text AfterOperand s ts s' r = (v : Operand) (all : List Lexeme) → OperandReads text v all ts → RightThen text all r
Got text AfterPointer s ts s' r = (p : PointerText) (v : Operand) (all : List Lexeme) → PointerReads text p all ts → OperandReads text v all ts → RightThen text all r
Got text (Member u) s ts s' r = (p : PointerText) (all a b : List Lexeme) (w n : Lexeme) → PointerReads text p all a → Is Arrow w a b → IsName n b ts → UseReads text u all r
Got text (Named u) s ts s' r = (n : Lexeme) (all : List Lexeme) → IsName n all ts → (ps : List PlacePart) × (a : List Lexeme) × PartsRead text ps all a × EndReads text u a r
Got text (Tail u) s ts s' r = (ps : List PlacePart) × (a : List Lexeme) × DotsRead text ps ts a × EndReads text u a r
Got text ArgumentsEnd s ts s' r = (vs : List Operand) × (a : List Lexeme) × (z : Lexeme) × ArgumentsRead text vs ts a × Is CloseParen z a r
Got text MoreArgumentsEnd s ts s' r = (vs : List Operand) × (a : List Lexeme) × (z : Lexeme) × MoreRead text vs ts a × Is CloseParen z a r
Got text InitEnd s ts s' r = (i : Option Right) × (a : List Lexeme) × (z : Lexeme) × InitReads text i ts a × Is Semicolon z a r
Got text ResultEnd s ts s' r = (v : Option Operand) × (a : List Lexeme) × (z : Lexeme) × ResultReads text v ts a × Is Semicolon z a r
Got text AfterName s ts s' r = (n : Lexeme) (all : List Lexeme) → IsName n all ts → AStatement text all r
Got text PrintEnd s ts s' r = (k o : Lexeme) (all a : List Lexeme) → Is Print k all a → Is OpenParen o a ts → AStatement text all r
Got text ABlock s ts s' r = ABody text ts r
Got text StatementsEnd s ts s' r = Closes text (length ts) ts r
Got text ElseEnd s ts s' r = Closes text (length ts) ts r ⊎ ((w : Lexeme) × (t : BodyTree) × (a b : List Lexeme) × Is Else w ts a × BodyReads text t a b × Closes text (length ts) b r)
Got text BaseAfterVirtual s ts s' r = (default : Bool) (v : Lexeme) (all : List Lexeme) → Is Virtual v all ts → (b : Base Spelled) × BaseReads text default b all r
Got text BaseAfterAccess s ts s' r = (default p : Bool) (w : Lexeme) (all : List Lexeme) → IsAccess p w all ts → (b : Base Spelled) × BaseReads text default b all r
Got text ABase s ts s' r = (default : Bool) → (b : Base Spelled) × BaseReads text default b ts r
Got text BasesEnd s ts s' r = (default : Bool) → (bs : List (Base Spelled)) × (a : List Lexeme) × MoreBasesRead text default bs ts a × ClassEnds text default a r
Got text ClassTail s ts s' r = (default : Bool) (k n : Lexeme) (all a : List Lexeme) → IsClassKey default k all a → IsName n a ts → (i : Item) × ItemReads text i all r × (main_in i ≡ None)
Got text FieldEnd s ts s' r = (count : Option ℕ) × (a : List Lexeme) × (z : Lexeme) × CountReads count ts a × Is Semicolon z a r
Got text ParamsEnd s ts s' r = (ps : List (Param Spelled)) × (a : List Lexeme) × (z : Lexeme) × ParamsRead text ps ts a × Is CloseParen z a r
Got text MoreParamsEnd s ts s' r = (ps : List (Param Spelled)) × (a : List Lexeme) × (z : Lexeme) × MoreParamsRead text ps ts a × Is CloseParen z a r
Got text AfterDeclared s ts s' r = (is_public : Bool) (f n : Lexeme) (v : ValueType Spelled) (all a : List Lexeme) → IsFirst f all → ValueReads text v all a → IsName n a ts → APart text is_public all r
Got text AfterScalar s ts s' r = (is_public : Bool) (f n : Lexeme) (k : Scalar) (all a : List Lexeme) → IsFirst f all → ScalarReads k all a → IsName n a ts → APart text is_public all r
Got text AfterType s ts s' r = (is_public : Bool) (n : Lexeme) (all : List Lexeme) → IsName n all ts → APart text is_public all r
Got text AfterOwnName s ts s' r = (is_public : Bool) (n : Lexeme) (all : List Lexeme) → Is OwnName n all ts → APart text is_public all r
Got text AnInit s ts s' r = (i : Init) × parts.InitReads text i ts r
Got text ConstructorEnd s ts s' r = (is : List Init) × (a : List Lexeme) × InitsRead text is ts a × ABody text a r
Got text InitsEnd s ts s' r = (is : List Init) × (a : List Lexeme) × MoreInitsRead text is ts a × ABody text a r
Got text AfterVirtual s ts s' r = (is_public : Bool) (v : Lexeme) (all : List Lexeme) → Is Virtual v all ts → APart text is_public all r
Got text VirtualEnd s ts s' r = ABody text ts r ⊎ ((w q k : Lexeme) × (a b : List Lexeme) × Is Assign w ts a × Is Zero q a b × Is Semicolon k b r)
Got text PartsEnd s ts s' r = SomeParts text ts r
Got text AfterInt s ts s' r = (w : Lexeme) (all : List Lexeme) → Is Int w all ts → (i : Item) × ItemReads text i all r × MainSays s s' i
Got text ItemsEnd s ts s' r = (is : List Item) × (o : Option BodyTree) × (a : List Lexeme) × (e : Lexeme) × ItemsRead text is ts a × Is End e a r × (trees_in o ≡ filter_map main_in is) × (s.main ≡ true → o ≡ None)

-- what tasks one after another have read
pub data Gots (text : List ℕ) : List Task → State → List Lexeme → State → List Lexeme → Type 0 where
  all_done : {s : State} {ts : List Lexeme} → Gots text [] s ts s ts
  one_done : {m : Task} {ms : List Task} {s v s' : State} {ts a r : List Lexeme} → Got text m s ts v a → Keeps s v → length a < length ts → Gots text ms v a s' r → Gots text (m ∷ ms) s ts s' r

-- what the tasks have read that are left after a token
abbrev pub NextGots : List ℕ → Option (List Task) → State → List Lexeme → State → List Lexeme → Type 0
NextGots text None s ts s' r = ⊥
NextGots text (Some ms) s ts s' r = Gots text ms s ts s' r

-- a task that takes a token reads by what is left of it
abbrev pub Step : List ℕ → Task → Type 0
Step text m = (t : Sort) (l : Lexeme) (ts r : List Lexeme) (s v s' : State) → l.sort ≡ t → NextGots text (after m t) v ts s' r → Got text m s (l ∷ ts) s' r
