-- Which tokens the bases and the parts of a class stand for: each case is a form of a production.
use Rattle.std.specs.Prelude.{◌≡◌, ℕ, Bool, true, false, List, [], ◌∷◌, Option, Some, None, min}
use Rattle.cxx_grammar.specs.declared.sort.Sort.{Sort}
use Rattle.cxx_grammar.specs.declared.sort.Sort.TheVariants.{Public, Protected, Private, Virtual, Void, OwnName, Zero, Colon, Comma, Semicolon, Assign, Tilde, OpenBracket, CloseBracket, OpenParen, CloseParen}
use Rattle.cxx_grammar.specs.declared.sort.Lexeme.{Lexeme}
use Rattle.cxx_grammar.specs.Front.{Is, IsName, IsNumber}
use Rattle.cxx_grammar.specs.Lexemes.{bytes_of}
use Rattle.cxx_hierarchy.specs.declared.records.Base.{Base}
use Rattle.cxx_hierarchy.specs.declared.records.Member.{Member}
use Rattle.cxx_hierarchy.specs.declared.records.Param.{Param}
use Rattle.cxx_hierarchy.specs.declared.records.Function.{Function}
use Rattle.cxx_hierarchy.specs.declared.records.Scalar.{Scalar}
use Rattle.cxx_hierarchy.specs.declared.records.ValueType.{ValueType}
use Rattle.cxx_hierarchy.specs.declared.records.ValueType.TheVariants as value_type
use Rattle.cxx_hierarchy.specs.declared.records.FieldType.{FieldType}
use Rattle.cxx_hierarchy.specs.declared.records.FieldType.TheVariants as field_type
use Rattle.cxx_hierarchy.specs.declared.records.ReturnType.{ReturnType}
use Rattle.cxx_hierarchy.specs.declared.records.ReturnType.TheVariants as return_type
use Rattle.cxx_syntax.specs.declared.tree.Constant.{Constant}
use Rattle.cxx_syntax.specs.declared.tree.BodyTree.{BodyTree}
use Rattle.cxx_syntax.specs.Operands.{spot_of, ConstantReads}
use Rattle.cxx_syntax.specs.Statements.{ScalarReads, ValueReads, IsFirst, BodyReads}
use Rattle.cxx_syntax.specs.declared.source_text.Init.{Init}
use Rattle.cxx_syntax.specs.declared.part.ClassPart.{ClassPart}
use Rattle.cxx_syntax.specs.declared.part.ClassPart.TheVariants as part

-- a name as the source spells it
abbrev pub Spelled : Type 0
Spelled = List ℕ

-- whether an access is public (ISO C++03 11)
abbrev pub access_of : Sort → Option Bool
access_of Public = Some true
access_of Protected = Some false
access_of Private = Some false
access_of _ = None

-- the front token, an access that is public or not
pub record IsAccess (is_public : Bool) (l : Lexeme) (ts rest : List Lexeme) : Type 0 where
  pub front : ts ≡ l ∷ rest
  pub access : access_of l.sort ≡ Some is_public

-- the base that a name token gives
abbrev pub base_by_token : List ℕ → Lexeme → Bool → Bool → Base Spelled
base_by_token text n is_virtual is_public = record { class = bytes_of text n; is_virtual = is_virtual; is_public = is_public; at = n.at }

-- base = ["virtual"] [access] name | access "virtual" name, with the access that a base has without a word
pub data BaseReads (text : List ℕ) (default : Bool) : Base Spelled → List Lexeme → List Lexeme → Type 0 where
  a_base : {b : Base Spelled} {ts rest : List Lexeme} {n : Lexeme} →
      IsName n ts rest → b ≡ base_by_token text n false default → BaseReads text default b ts rest
  a_virtual_base : {b : Base Spelled} {ts a rest : List Lexeme} {v n : Lexeme} →
      Is Virtual v ts a → IsName n a rest → b ≡ base_by_token text n true default → BaseReads text default b ts rest
  an_access_base : {b : Base Spelled} {p : Bool} {ts a rest : List Lexeme} {w n : Lexeme} →
      IsAccess p w ts a → IsName n a rest → b ≡ base_by_token text n false p → BaseReads text default b ts rest
  a_virtual_access_base : {b : Base Spelled} {p : Bool} {ts a c rest : List Lexeme} {v w n : Lexeme} →
      Is Virtual v ts a → IsAccess p w a c → IsName n c rest → b ≡ base_by_token text n true p → BaseReads text default b ts rest
  an_access_virtual_base : {b : Base Spelled} {p : Bool} {ts a c rest : List Lexeme} {w v n : Lexeme} →
      IsAccess p w ts a → Is Virtual v a c → IsName n c rest → b ≡ base_by_token text n true p → BaseReads text default b ts rest

-- {"," base}
pub data MoreBasesRead (text : List ℕ) (default : Bool) : List (Base Spelled) → List Lexeme → List Lexeme → Type 0 where
  no_more_bases : {ts : List Lexeme} → MoreBasesRead text default [] ts ts
  one_more_base : {b : Base Spelled} {bs : List (Base Spelled)} {ts a c rest : List Lexeme} {k : Lexeme} →
      Is Comma k ts a → BaseReads text default b a c → MoreBasesRead text default bs c rest → MoreBasesRead text default (b ∷ bs) ts rest

-- [":" base {"," base}]
pub data BasesRead (text : List ℕ) (default : Bool) : List (Base Spelled) → List Lexeme → List Lexeme → Type 0 where
  no_bases : {ts : List Lexeme} → BasesRead text default [] ts ts
  some_bases : {b : Base Spelled} {bs : List (Base Spelled)} {ts a c rest : List Lexeme} {k : Lexeme} →
      Is Colon k ts a → BaseReads text default b a c → MoreBasesRead text default bs c rest → BasesRead text default (b ∷ bs) ts rest

-- value | name
pub data FieldTypeReads (text : List ℕ) : FieldType Spelled → List Lexeme → List Lexeme → Type 0 where
  a_value_field : {v : ValueType Spelled} {ts rest : List Lexeme} → ValueReads text v ts rest → FieldTypeReads text (field_type.Value v) ts rest
  an_object_field : {c : Spelled} {ts rest : List Lexeme} {n : Lexeme} →
      IsName n ts rest → c ≡ bytes_of text n → FieldTypeReads text (field_type.Object c) ts rest

-- the greatest length or width that a record holds
abbrev pub max_count : ℕ
max_count = 4294967295

-- ["[" number "]"]; a length that a record cannot hold is kept as the greatest that it can, which is above every limit
pub data CountReads : Option ℕ → List Lexeme → List Lexeme → Type 0 where
  no_count : {ts : List Lexeme} → CountReads None ts ts
  a_count : {i : ℕ} {ts a b rest : List Lexeme} {o n c : Lexeme} →
      Is OpenBracket o ts a → IsNumber n a b → Is CloseBracket c b rest → i ≡ min n.value max_count → CountReads (Some i) ts rest

-- value | "void"
pub data ReturnReads (text : List ℕ) : ReturnType Spelled → List Lexeme → List Lexeme → Type 0 where
  a_void_return : {ts rest : List Lexeme} {k : Lexeme} → Is Void k ts rest → ReturnReads text return_type.Void ts rest
  a_value_return : {v : ValueType Spelled} {ts rest : List Lexeme} → ValueReads text v ts rest → ReturnReads text (return_type.Value v) ts rest

-- param = value name
pub data ParamReads (text : List ℕ) : Param Spelled → List Lexeme → List Lexeme → Type 0 where
  a_param : {p : Param Spelled} {v : ValueType Spelled} {ts a rest : List Lexeme} {f n : Lexeme} →
      IsFirst f ts → ValueReads text v ts a → IsName n a rest →
      p ≡ record { name = bytes_of text n; ty = v; ty_at = f.at; at = n.at } → ParamReads text p ts rest

-- {"," param}
pub data MoreParamsRead (text : List ℕ) : List (Param Spelled) → List Lexeme → List Lexeme → Type 0 where
  no_more_params : {ts : List Lexeme} → MoreParamsRead text [] ts ts
  one_more_param : {p : Param Spelled} {ps : List (Param Spelled)} {ts a b rest : List Lexeme} {k : Lexeme} →
      Is Comma k ts a → ParamReads text p a b → MoreParamsRead text ps b rest → MoreParamsRead text (p ∷ ps) ts rest

-- [param {"," param}]
pub data ParamsRead (text : List ℕ) : List (Param Spelled) → List Lexeme → List Lexeme → Type 0 where
  no_params : {ts : List Lexeme} → ParamsRead text [] ts ts
  some_params : {p : Param Spelled} {ps : List (Param Spelled)} {ts a rest : List Lexeme} →
      ParamReads text p ts a → MoreParamsRead text ps a rest → ParamsRead text (p ∷ ps) ts rest

-- init = name "(" constant ")"
pub data InitReads (text : List ℕ) : Init → List Lexeme → List Lexeme → Type 0 where
  a_member_init : {i : Init} {v : Constant} {ts a b c rest : List Lexeme} {n o z : Lexeme} →
      IsName n ts a → Is OpenParen o a b → ConstantReads v b c → Is CloseParen z c rest →
      i ≡ record { name = spot_of text n; value = v } → InitReads text i ts rest

-- {"," init}
pub data MoreInitsRead (text : List ℕ) : List Init → List Lexeme → List Lexeme → Type 0 where
  no_more_inits : {ts : List Lexeme} → MoreInitsRead text [] ts ts
  one_more_init : {i : Init} {is : List Init} {ts a b rest : List Lexeme} {k : Lexeme} →
      Is Comma k ts a → InitReads text i a b → MoreInitsRead text is b rest → MoreInitsRead text (i ∷ is) ts rest

-- [":" init {"," init}]
pub data InitsRead (text : List ℕ) : List Init → List Lexeme → List Lexeme → Type 0 where
  no_inits : {ts : List Lexeme} → InitsRead text [] ts ts
  some_inits : {i : Init} {is : List Init} {ts a b rest : List Lexeme} {k : Lexeme} →
      Is Colon k ts a → InitReads text i a b → MoreInitsRead text is b rest → InitsRead text (i ∷ is) ts rest

-- ["virtual"], and whether it is there
pub data VirtualReads : Bool → List Lexeme → List Lexeme → Type 0 where
  not_virtual : {ts : List Lexeme} → VirtualReads false ts ts
  a_virtual : {ts rest : List Lexeme} {v : Lexeme} → Is Virtual v ts rest → VirtualReads true ts rest

-- the bit-field that a name token, a type and the number of its width give (ISO C++03 9.6)
abbrev pub bit_field : List ℕ → Lexeme → Scalar → Lexeme → Bool → Member Spelled
bit_field text n k w is_public = record {
  name = bytes_of text n;
  ty = field_type.Value (value_type.Number k);
  count = None;
  width = Some (min w.value max_count);
  width_at = w.at;
  is_public = is_public;
  at = n.at;
}

-- a part of a class, where what stands there is public or not
pub data PartReads (text : List ℕ) (is_public : Bool) : ClassPart → List Lexeme → List Lexeme → Type 0 where
  -- access ":"
  a_label : {p : Bool} {ts a rest : List Lexeme} {w k : Lexeme} →
      IsAccess p w ts a → Is Colon k a rest → PartReads text is_public (part.Label p) ts rest
  -- (value | name) name ["[" number "]"] ";"
  a_field : {m : Member Spelled} {ty : FieldType Spelled} {count : Option ℕ} {ty_at : ℕ} {ts a b c rest : List Lexeme} {f n z : Lexeme} →
      IsFirst f ts → FieldTypeReads text ty ts a → IsName n a b → CountReads count b c → Is Semicolon z c rest →
      m ≡ record { name = bytes_of text n; ty = ty; count = count; width = None; width_at = 0; is_public = is_public; at = n.at } → ty_at ≡ f.at →
      PartReads text is_public (part.Field m ty_at) ts rest
  -- scalar name ":" number ";", a bit-field; a width that a record cannot hold is kept as the greatest that it can
  a_bit_field : {m : Member Spelled} {k : Scalar} {ty_at : ℕ} {ts a b c d rest : List Lexeme} {f n o w z : Lexeme} →
      IsFirst f ts → ScalarReads k ts a → IsName n a b → Is Colon o b c → IsNumber w c d → Is Semicolon z d rest →
      m ≡ bit_field text n k w is_public → ty_at ≡ f.at → PartReads text is_public (part.Field m ty_at) ts rest
  -- ["virtual"] (value | "void") name "(" [param {"," param}] ")" block
  a_function : {g : Function Spelled} {v : Bool} {r : ReturnType Spelled} {ps : List (Param Spelled)} {t : BodyTree} {ty_at : ℕ}
      {ts a b c d e h rest : List Lexeme} {f n o z : Lexeme} →
      VirtualReads v ts a → IsFirst f a → ReturnReads text r a b → IsName n b c → Is OpenParen o c d → ParamsRead text ps d e → Is CloseParen z e h → BodyReads text t h rest →
      g ≡ record { name = bytes_of text n; params = ps; ret = r; is_virtual = v; is_pure = false; at = n.at } → ty_at ≡ f.at →
      PartReads text is_public (part.Function g ty_at (Some t)) ts rest
  -- "virtual" (value | "void") name "(" [param {"," param}] ")" "=" "0" ";"
  a_pure_function : {g : Function Spelled} {r : ReturnType Spelled} {ps : List (Param Spelled)} {ty_at : ℕ}
      {ts a b c d e h i j rest : List Lexeme} {v f n o z w q k : Lexeme} →
      Is Virtual v ts a → IsFirst f a → ReturnReads text r a b → IsName n b c → Is OpenParen o c d → ParamsRead text ps d e → Is CloseParen z e h →
      Is Assign w h i → Is Zero q i j → Is Semicolon k j rest →
      g ≡ record { name = bytes_of text n; params = ps; ret = r; is_virtual = true; is_pure = true; at = n.at } → ty_at ≡ f.at →
      PartReads text is_public (part.Function g ty_at None) ts rest
  -- name "(" ")" [":" init {"," init}] block, of the name of the class
  a_constructor : {at : ℕ} {is : List Init} {t : BodyTree} {ts a b c d rest : List Lexeme} {n o z : Lexeme} →
      Is OwnName n ts a → Is OpenParen o a b → Is CloseParen z b c → InitsRead text is c d → BodyReads text t d rest →
      at ≡ n.at → PartReads text is_public (part.Constructor at is t) ts rest
  -- ["virtual"] "~" name "(" ")" block, of the name of the class
  a_destructor : {v : Bool} {at : ℕ} {t : BodyTree} {ts a b c d e rest : List Lexeme} {w n o z : Lexeme} →
      VirtualReads v ts a → Is Tilde w a b → Is OwnName n b c → Is OpenParen o c d → Is CloseParen z d e → BodyReads text t e rest →
      at ≡ n.at → PartReads text is_public (part.Destructor v at t) ts rest

-- whether what stands behind a part is public: an access label holds up to the next one
abbrev pub public_after : Bool → ClassPart → Bool
public_after is_public (part.Label p) = p
public_after is_public _ = is_public

-- {part}
pub data PartsRead (text : List ℕ) : Bool → List ClassPart → List Lexeme → List Lexeme → Type 0 where
  no_part : {is_public : Bool} {ts : List Lexeme} → PartsRead text is_public [] ts ts
  one_part : {is_public : Bool} {p : ClassPart} {ps : List ClassPart} {ts a rest : List Lexeme} →
      PartReads text is_public p ts a → PartsRead text (public_after is_public p) ps a rest → PartsRead text is_public (p ∷ ps) ts rest
