-- Which tokens a statement and a body stand for: each case is a form of a production.
use Rattle.std.specs.Prelude.{◌≡◌, ℕ, List, [], ◌∷◌, Option, Some, None}
use Rattle.cxx_grammar.specs.declared.sort.Sort.TheVariants.{Boolean, Char, Signed, Unsigned, Short, Int, Long, Star, Assign, Semicolon, Delete, If, Else, While, Return, Print, Typeid, DynamicCast, Dump, Void, Less, Greater, OpenParen, CloseParen, OpenBlock, CloseBrace}
use Rattle.cxx_grammar.specs.declared.sort.Lexeme.{Lexeme}
use Rattle.cxx_grammar.specs.Front.{Is, IsName}
use Rattle.cxx_grammar.specs.Lexemes.{bytes_of}
use Rattle.cxx_hierarchy.specs.declared.records.Scalar.{Scalar}
use Rattle.cxx_hierarchy.specs.declared.records.Scalar.TheVariants as scalar
use Rattle.cxx_hierarchy.specs.declared.records.ValueType.{ValueType}
use Rattle.cxx_hierarchy.specs.declared.records.ValueType.TheVariants as value
use Rattle.cxx_syntax.specs.declared.tree.Spot.{Spot}
use Rattle.cxx_syntax.specs.declared.tree.PointerText.{PointerText}
use Rattle.cxx_syntax.specs.declared.tree.Operand.{Operand}
use Rattle.cxx_syntax.specs.declared.tree.PlaceText.{PlaceText}
use Rattle.cxx_syntax.specs.declared.tree.CallText.{CallText}
use Rattle.cxx_syntax.specs.declared.tree.Right.{Right}
use Rattle.cxx_syntax.specs.declared.tree.Statement.{Statement}
use Rattle.cxx_syntax.specs.declared.tree.StatementKind.{StatementKind, If', None', Some'}
use Rattle.cxx_syntax.specs.declared.tree.StatementKind as kind
use Rattle.cxx_syntax.specs.declared.tree.BodyTree.{BodyTree, out-BodyTree}
use Rattle.cxx_syntax.specs.Operands.{spot_of, PointerReads, OperandReads, PlaceReads, CallReads, RightReads}

-- scalar
pub data ScalarReads : Scalar → List Lexeme → List Lexeme → Type 0 where
  a_bool : {ts rest : List Lexeme} {l : Lexeme} → Is Boolean l ts rest → ScalarReads scalar.Bool ts rest
  a_char : {ts rest : List Lexeme} {l : Lexeme} → Is Char l ts rest → ScalarReads scalar.Char ts rest
  a_signed_char : {ts a rest : List Lexeme} {l m : Lexeme} → Is Signed l ts a → Is Char m a rest → ScalarReads scalar.SChar ts rest
  an_unsigned_char : {ts a rest : List Lexeme} {l m : Lexeme} → Is Unsigned l ts a → Is Char m a rest → ScalarReads scalar.UChar ts rest
  a_short : {ts rest : List Lexeme} {l : Lexeme} → Is Short l ts rest → ScalarReads scalar.Short ts rest
  an_unsigned_short : {ts a rest : List Lexeme} {l m : Lexeme} → Is Unsigned l ts a → Is Short m a rest → ScalarReads scalar.UShort ts rest
  an_int : {ts rest : List Lexeme} {l : Lexeme} → Is Int l ts rest → ScalarReads scalar.Int ts rest
  an_unsigned_int : {ts a rest : List Lexeme} {l m : Lexeme} → Is Unsigned l ts a → Is Int m a rest → ScalarReads scalar.UInt ts rest
  an_unsigned : {ts rest : List Lexeme} {l : Lexeme} → Is Unsigned l ts rest → ScalarReads scalar.UInt ts rest
  a_long : {ts rest : List Lexeme} {l : Lexeme} → Is Long l ts rest → ScalarReads scalar.Long ts rest
  an_unsigned_long : {ts a rest : List Lexeme} {l m : Lexeme} → Is Unsigned l ts a → Is Long m a rest → ScalarReads scalar.ULong ts rest
  a_long_long : {ts a rest : List Lexeme} {l m : Lexeme} → Is Long l ts a → Is Long m a rest → ScalarReads scalar.LongLong ts rest
  an_unsigned_long_long : {ts a b rest : List Lexeme} {l m n : Lexeme} →
      Is Unsigned l ts a → Is Long m a b → Is Long n b rest → ScalarReads scalar.ULongLong ts rest

-- value = scalar | name "*"
pub data ValueReads (text : List ℕ) : ValueType (List ℕ) → List Lexeme → List Lexeme → Type 0 where
  a_scalar : {k : Scalar} {ts rest : List Lexeme} → ScalarReads k ts rest → ValueReads text (value.Number k) ts rest
  a_class_pointer : {n : List ℕ} {ts a rest : List Lexeme} {l m : Lexeme} →
      IsName l ts a → Is Star m a rest → n ≡ bytes_of text l → ValueReads text (value.Pointer n) ts rest

-- ["=" right]
pub data InitReads (text : List ℕ) : Option Right → List Lexeme → List Lexeme → Type 0 where
  no_init : {ts : List Lexeme} → InitReads text None ts ts
  an_init : {v : Right} {ts a rest : List Lexeme} {e : Lexeme} →
      Is Assign e ts a → RightReads text v a rest → InitReads text (Some v) ts rest

-- [operand]
pub data ResultReads (text : List ℕ) : Option Operand → List Lexeme → List Lexeme → Type 0 where
  no_result : {ts : List Lexeme} → ResultReads text None ts ts
  a_result : {v : Operand} {ts rest : List Lexeme} → OperandReads text v ts rest → ResultReads text (Some v) ts rest

-- the first token of a list
pub record IsFirst (l : Lexeme) (ts : List Lexeme) : Type 0 where
  pub rest : List Lexeme
  pub front : ts ≡ l ∷ rest

-- a statement that begins at a token
pub record BeginsAt (s : Statement) (l : Lexeme) (k : StatementKind) : Type 0 where
  pub at : s.at ≡ l.at
  pub line : s.line ≡ l.line
  pub kind : s.kind ≡ k

mutual
  -- block = "{" {statement} "}"
  pub data BodyReads (text : List ℕ) : BodyTree → List Lexeme → List Lexeme → Type 0 where
    a_body : {b : BodyTree} {ss : List Statement} {ts a c rest : List Lexeme} {o z : Lexeme} →
        Is OpenBlock o ts a → StatementsRead text ss a c → Is CloseBrace z c rest →
        (out-BodyTree b).statements.items ≡ ss → (out-BodyTree b).line ≡ o.line → (out-BodyTree b).close_line ≡ z.line →
        BodyReads text b ts rest

  -- {statement}
  pub data StatementsRead (text : List ℕ) : List Statement → List Lexeme → List Lexeme → Type 0 where
    no_statement : {ts : List Lexeme} → StatementsRead text [] ts ts
    one_statement : {s : Statement} {ss : List Statement} {ts a rest : List Lexeme} →
        StatementReads text s ts a → StatementsRead text ss a rest → StatementsRead text (s ∷ ss) ts rest

  -- a case for each form
  pub data StatementReads (text : List ℕ) : Statement → List Lexeme → List Lexeme → Type 0 where
    -- value name ["=" right] ";"
    a_declaration : {s : Statement} {v : ValueType (List ℕ)} {x : Spot} {i : Option Right} {at : ℕ} {ts a b c rest : List Lexeme} {f n z : Lexeme} →
        IsFirst f ts → ValueReads text v ts a → IsName n a b → InitReads text i b c → Is Semicolon z c rest →
        at ≡ f.at → x ≡ spot_of text n → BeginsAt s f (kind.Declare v at x i) → StatementReads text s ts rest
    -- name "=" right ";"
    an_assignment : {s : Statement} {x : Spot} {v : Right} {ts a b c rest : List Lexeme} {n e z : Lexeme} →
        IsName n ts a → Is Assign e a b → RightReads text v b c → Is Semicolon z c rest →
        x ≡ spot_of text n → BeginsAt s n (kind.Assign x v) → StatementReads text s ts rest
    -- place "=" operand ";"
    a_write : {s : Statement} {p : PlaceText} {v : Operand} {ts a b c rest : List Lexeme} {f e z : Lexeme} →
        IsFirst f ts → PlaceReads text p ts a → Is Assign e a b → OperandReads text v b c → Is Semicolon z c rest →
        BeginsAt s f (kind.Write p v) → StatementReads text s ts rest
    -- "*" pointer "=" "*" pointer ";"
    a_copy : {s : Statement} {p q : PointerText} {ts a b c d e rest : List Lexeme} {m w n z : Lexeme} →
        Is Star m ts a → PointerReads text p a b → Is Assign w b c → Is Star n c d → PointerReads text q d e → Is Semicolon z e rest →
        BeginsAt s m (kind.Copy p q) → StatementReads text s ts rest
    -- call ";"
    a_call_statement : {s : Statement} {x : CallText} {ts a rest : List Lexeme} {f z : Lexeme} →
        IsFirst f ts → CallReads text x ts a → Is Semicolon z a rest →
        BeginsAt s f (kind.Call x) → StatementReads text s ts rest
    -- "delete" pointer ";"
    a_delete : {s : Statement} {p : PointerText} {ts a b rest : List Lexeme} {k z : Lexeme} →
        Is Delete k ts a → PointerReads text p a b → Is Semicolon z b rest →
        BeginsAt s k (kind.Delete p) → StatementReads text s ts rest
    -- "if" "(" operand ")" block
    an_if : {s : Statement} {v : Operand} {t : BodyTree} {ts a b c d rest : List Lexeme} {k o z : Lexeme} →
        Is If k ts a → Is OpenParen o a b → OperandReads text v b c → Is CloseParen z c d → BodyReads text t d rest →
        BeginsAt s k (If' v t None') → StatementReads text s ts rest
    -- "if" "(" operand ")" block "else" block
    an_if_else : {s : Statement} {v : Operand} {t u : BodyTree} {ts a b c d e f rest : List Lexeme} {k o z w : Lexeme} →
        Is If k ts a → Is OpenParen o a b → OperandReads text v b c → Is CloseParen z c d → BodyReads text t d e →
        Is Else w e f → BodyReads text u f rest →
        BeginsAt s k (If' v t (Some' u)) → StatementReads text s ts rest
    -- "while" "(" operand ")" block
    a_while : {s : Statement} {v : Operand} {t : BodyTree} {ts a b c d rest : List Lexeme} {k o z : Lexeme} →
        Is While k ts a → Is OpenParen o a b → OperandReads text v b c → Is CloseParen z c d → BodyReads text t d rest →
        BeginsAt s k (kind.While v t) → StatementReads text s ts rest
    -- "return" [operand] ";"
    a_return : {s : Statement} {v : Option Operand} {ts a b rest : List Lexeme} {k z : Lexeme} →
        Is Return k ts a → ResultReads text v a b → Is Semicolon z b rest →
        BeginsAt s k (kind.Return v) → StatementReads text s ts rest
    -- "print" "(" operand ")" ";"
    a_print : {s : Statement} {v : Operand} {ts a b c d rest : List Lexeme} {k o z e : Lexeme} →
        Is Print k ts a → Is OpenParen o a b → OperandReads text v b c → Is CloseParen z c d → Is Semicolon e d rest →
        BeginsAt s k (kind.Print v) → StatementReads text s ts rest
    -- "print" "(" "typeid" "(" "*" pointer ")" ")" ";"
    a_print_type : {s : Statement} {p : PointerText} {ts a b c d e f g h rest : List Lexeme} {k o t u m y z x : Lexeme} →
        Is Print k ts a → Is OpenParen o a b → Is Typeid t b c → Is OpenParen u c d → Is Star m d e →
        PointerReads text p e f → Is CloseParen y f g → Is CloseParen z g h → Is Semicolon x h rest →
        BeginsAt s k (kind.PrintType p) → StatementReads text s ts rest
    -- "print" "(" "dynamic_cast" "<" "void" "*" ">" "(" pointer ")" ")" ";"
    a_print_view : {s : Statement} {p : PointerText} {ts a b c d e f g h i j k rest : List Lexeme} {w o t l v m q u y z x : Lexeme} →
        Is Print w ts a → Is OpenParen o a b → Is DynamicCast t b c → Is Less l c d → Is Void v d e → Is Star m e f →
        Is Greater q f g → Is OpenParen u g h → PointerReads text p h i → Is CloseParen y i j → Is CloseParen z j k → Is Semicolon x k rest →
        BeginsAt s w (kind.PrintView p) → StatementReads text s ts rest
    -- "dump" "(" pointer ")" ";"
    a_dump : {s : Statement} {p : PointerText} {ts a b c d rest : List Lexeme} {k o z x : Lexeme} →
        Is Dump k ts a → Is OpenParen o a b → PointerReads text p b c → Is CloseParen z c d → Is Semicolon x d rest →
        BeginsAt s k (kind.Dump p) → StatementReads text s ts rest
