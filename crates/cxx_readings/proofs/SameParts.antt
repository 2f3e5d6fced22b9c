-- A list has the parts of one class at its front.
use Rattle.std.proofs.Common.{◌≡◌, ℕ, Bool, true, false, List, [], ◌∷◌, Option, Some, None, refl, ap, sym, ◌∙◌, subst}
use Rattle.cxx_grammar.specs.declared.sort.Sort.{Sort}
use Rattle.cxx_grammar.specs.declared.sort.Sort.TheVariants.{Public, Protected, Private, Virtual, Void, Name, OwnName, Boolean, Char, Short, Int, Long, Signed, Unsigned, Semicolon, Colon, Assign, OpenParen, CloseParen, OpenBlock, CloseBrace, Tilde}
use Rattle.cxx_grammar.specs.declared.sort.Lexeme.{Lexeme}
use Rattle.cxx_grammar.specs.Front.{Is, IsName}
use Rattle.cxx_grammar.specs.Lexemes.{bytes_of}
use Rattle.cxx_hierarchy.specs.declared.records.Member.{Member}
use Rattle.cxx_hierarchy.specs.declared.records.Function.{Function}
use Rattle.cxx_hierarchy.specs.declared.records.Param.{Param}
use Rattle.cxx_hierarchy.specs.declared.records.FieldType.{FieldType}
use Rattle.cxx_hierarchy.specs.declared.records.FieldType.TheVariants as field_type
use Rattle.cxx_hierarchy.specs.declared.records.Scalar.{Scalar}
use Rattle.cxx_hierarchy.specs.declared.records.ReturnType.{ReturnType}
use Rattle.cxx_syntax.specs.declared.tree.BodyTree.{BodyTree}
use Rattle.cxx_hierarchy.specs.declared.records.ValueType.{ValueType}
use Rattle.cxx_hierarchy.specs.declared.records.ValueType.TheVariants as value
use Rattle.cxx_syntax.specs.Statements.{ScalarReads, ValueReads, a_scalar, a_class_pointer, BodyReads, a_body, IsFirst}
use Rattle.cxx_syntax.specs.SameTrees.{SameBody}
use Rattle.cxx_syntax.specs.declared.source_text.Init.{Init}
use Rattle.cxx_syntax.specs.declared.part.ClassPart.{ClassPart}
use Rattle.cxx_syntax.specs.declared.part.ClassPart.TheVariants as part
use Rattle.cxx_syntax.specs.Parts.{Spelled, FieldTypeReads, a_value_field, an_object_field, CountReads, no_count, a_count, ReturnReads, a_void_return, a_value_return, ParamsRead, VirtualReads, not_virtual, a_virtual, bit_field, PartReads, a_label, a_field, a_bit_field, a_function, a_pure_function, a_constructor, a_destructor, public_after, PartsRead, no_part, one_part}
use Rattle.cxx_readings.proofs.Heads.{head, tail, rests, firsts, by_is, by_name, clash}
use Rattle.cxx_readings.proofs.Leaves.{is_bracket}
use Rattle.cxx_readings.proofs.SameValues.{scalar_by, value_by}
use Rattle.cxx_readings.proofs.SameStatements.{body_same}
use Rattle.cxx_readings.proofs.SameBases.{by_access, access_same, field_type_same, return_same, type_rest, count_same, params_same, param_mark, inits_same, list_mark}

-- parts that say the same
pub data SamePart : ClassPart → ClassPart → Type 0 where
  same_label : {p : Bool} → SamePart (part.Label p) (part.Label p)
  same_field : {m : Member Spelled} {at : ℕ} → SamePart (part.Field m at) (part.Field m at)
  same_pure : {f : Function Spelled} {at : ℕ} → SamePart (part.Function f at None) (part.Function f at None)
  same_function : {f : Function Spelled} {at : ℕ} {t u : BodyTree} → SameBody t u → SamePart (part.Function f at (Some t)) (part.Function f at (Some u))
  same_constructor : {at : ℕ} {is : List Init} {t u : BodyTree} → SameBody t u → SamePart (part.Constructor at is t) (part.Constructor at is u)
  same_destructor : {v : Bool} {at : ℕ} {t u : BodyTree} → SameBody t u → SamePart (part.Destructor v at t) (part.Destructor v at u)

pub data SameParts : List ClassPart → List ClassPart → Type 0 where
  no_parts : SameParts [] []
  more_parts : {p q : ClassPart} {ps qs : List ClassPart} → SamePart p q → SameParts ps qs → SameParts (p ∷ ps) (q ∷ qs)

-- the same up to what is equal
function_same : {f g : Function Spelled} {a b : ℕ} {t u : BodyTree} → f ≡ g → a ≡ b → SameBody t u → SamePart (part.Function f a (Some t)) (part.Function g b (Some u))
function_same {f = f} {a = a} {b = b} {t = t} {u = u} e h s =
    subst (λ g. SamePart (part.Function f a (Some t)) (part.Function g b (Some u))) e (subst (λ b. SamePart (part.Function f a (Some t)) (part.Function f b (Some u))) h (same_function s))

constructor_same : {a b : ℕ} {is js : List Init} {t u : BodyTree} → a ≡ b → is ≡ js → SameBody t u → SamePart (part.Constructor a is t) (part.Constructor b js u)
constructor_same {a = a} {b = b} {is = is} {t = t} {u = u} e h s =
    subst (λ js. SamePart (part.Constructor a is t) (part.Constructor b js u)) h (subst (λ b. SamePart (part.Constructor a is t) (part.Constructor b is u)) e (same_constructor s))

destructor_same : {v w : Bool} {a b : ℕ} {t u : BodyTree} → v ≡ w → a ≡ b → SameBody t u → SamePart (part.Destructor v a t) (part.Destructor w b u)
destructor_same {v = v} {a = a} {b = b} {t = t} {u = u} e h s =
    subst (λ w. SamePart (part.Destructor v a t) (part.Destructor w b u)) e (subst (λ b. SamePart (part.Destructor v a t) (part.Destructor v b u)) h (same_destructor s))

-- what a return type begins with
return_by : {A : Type 0} (f : Sort → A) (a : A) → f Void ≡ a → f Name ≡ a → f OwnName ≡ a → f Boolean ≡ a → f Char ≡ a → f Signed ≡ a → f Unsigned ≡ a → f Short ≡ a → f Int ≡ a → f Long ≡ a →
    {text : List ℕ} {r : ReturnType Spelled} {ts us : List Lexeme} → ReturnReads text r ts us → f (head ts) ≡ a
return_by f a v n o b c s u h i l (a_void_return x) = by_is f x ∙ v
return_by f a v n o b c s u h i l (a_value_return x) = value_by f a n o b c s u h i l x

field_type_by : {A : Type 0} (f : Sort → A) (a : A) → f Name ≡ a → f OwnName ≡ a → f Boolean ≡ a → f Char ≡ a → f Signed ≡ a → f Unsigned ≡ a → f Short ≡ a → f Int ≡ a → f Long ≡ a →
    {text : List ℕ} {r : FieldType Spelled} {ts us : List Lexeme} → FieldTypeReads text r ts us → f (head ts) ≡ a
field_type_by f a n o b c s u h i l (a_value_field x) = value_by f a n o b c s u h i l x
field_type_by f a n o b c s u h i l (an_object_field x p) = by_name f a n o x

virtual_mark : Sort → ℕ
virtual_mark Virtual = 1
virtual_mark _ = 0

virtual_same : {v w : Bool} {ts us r s a b : List Lexeme} {k l : Lexeme} → ts ≡ us → VirtualReads v ts r → Is Tilde k r a → VirtualReads w us s → Is Tilde l s b → (v ≡ w) × (r ≡ s)
unfolding virtual_mark
virtual_same e not_virtual k not_virtual l = (refl, e)
virtual_same e not_virtual k (a_virtual i) l = absurd (let f : 0 ≡ 1 = clash (λ us. virtual_mark (head us)) e (by_is virtual_mark k) (by_is virtual_mark i) in cc)
virtual_same e (a_virtual i) k not_virtual l = absurd (let f : 1 ≡ 0 = clash (λ us. virtual_mark (head us)) e (by_is virtual_mark i) (by_is virtual_mark l) in cc)
virtual_same e (a_virtual i) k (a_virtual j) l = (refl, rests e i.front j.front)

-- the forms of a part, by its first two tokens: fields and functions are one here
abbrev own_kind : Sort → ℕ
own_kind OpenParen = 2
own_kind _ = 1

abbrev virtual_kind : Sort → ℕ
virtual_kind Tilde = 3
virtual_kind _ = 1

abbrev part_kind : Sort → Sort → ℕ
part_kind Public x = 0
part_kind Protected x = 0
part_kind Private x = 0
part_kind OwnName x = own_kind x
part_kind Virtual x = virtual_kind x
part_kind Tilde x = 3
part_kind CloseBrace x = 5
part_kind _ x = 1

abbrev part_at : List Lexeme → ℕ
part_at ts = part_kind (head ts) (head (tail ts))

kind_of : {text : List ℕ} {b : Bool} {p : ClassPart} {ts r : List Lexeme} → PartReads text b p ts r → ℕ
kind_of (a_label w k) = 0
kind_of (a_field f t n c z p q) = 1
kind_of (a_bit_field f t n o w z p q) = 1
kind_of (a_function v f r n o ps z t p q) = 1
kind_of (a_pure_function v f r n o ps z w q k p a) = 1
kind_of (a_constructor n o z is t p) = 2
kind_of (a_destructor v w n o z t p) = 3

-- a type does not begin as a constructor
value_part : {text : List ℕ} {v : ValueType Spelled} {ts r : List Lexeme} → ValueReads text v ts r → part_at ts ≡ 1
value_part {ts = ts} (a_scalar h) = scalar_by (λ s. part_kind s (head (tail ts))) 1 refl refl refl refl refl refl refl h
value_part {ts = ts} (a_class_pointer i j p) =
    let f : own_kind (head (tail ts)) ≡ 1 = ap (λ us. own_kind (head us)) (ap tail i.front) ∙ by_is own_kind j in
    by_name (λ s. part_kind s (head (tail ts))) 1 refl f i

-- the type of a bit-field is a type of a field
scalar_field : {text : List ℕ} {k : Scalar} {ts r : List Lexeme} → ScalarReads k ts r → FieldTypeReads text (field_type.Value (value.Number k)) ts r
scalar_field h = a_value_field (a_scalar h)

field_part : {text : List ℕ} {x : FieldType Spelled} {ts r a : List Lexeme} {n : Lexeme} → IsName n r a → FieldTypeReads text x ts r → part_at ts ≡ 1
field_part n (a_value_field h) = value_part h
field_part {ts = ts} n (an_object_field i p) =
    let f : own_kind (head (tail ts)) ≡ 1 = ap (λ us. own_kind (head us)) (ap tail i.front) ∙ by_name own_kind 1 refl refl n in
    by_name (λ s. part_kind s (head (tail ts))) 1 refl f i

return_part : {text : List ℕ} {x : ReturnType Spelled} {ts r : List Lexeme} → ReturnReads text x ts r → part_at ts ≡ 1
return_part {ts = ts} (a_void_return i) = by_is (λ s. part_kind s (head (tail ts))) i
return_part (a_value_return h) = value_part h

virtual_part : {ts r : List Lexeme} {v : Lexeme} → Is Virtual v ts r → part_at ts ≡ virtual_kind (head r)
virtual_part {ts = ts} v = by_is (λ s. part_kind s (head (tail ts))) v ∙ ap (λ us. virtual_kind (head us)) (ap tail v.front)

part_front : {text : List ℕ} {b : Bool} {p : ClassPart} {ts r : List Lexeme} (h : PartReads text b p ts r) → part_at ts ≡ kind_of h
unfolding kind_of
part_front {ts = ts} (a_label w k) = by_access (λ s. part_kind s (head (tail ts))) 0 refl refl refl w
part_front (a_field f t n c z p q) = field_part n t
part_front {text = text} (a_bit_field f t n o w z p q) = field_part n (scalar_field {text = text} t)
part_front (a_function not_virtual f r n o ps z t p q) = return_part r
part_front (a_function (a_virtual i) f r n o ps z t p q) = virtual_part i ∙ return_by virtual_kind 1 refl refl refl refl refl refl refl refl refl refl r
part_front (a_pure_function v f r n o ps z w q k p a) = virtual_part v ∙ return_by virtual_kind 1 refl refl refl refl refl refl refl refl refl refl r
part_front {ts = ts} (a_constructor n o z is t p) = by_is (λ s. part_kind s (head (tail ts))) n ∙ (ap (λ us. own_kind (head us)) (ap tail n.front) ∙ by_is own_kind o)
part_front {ts = ts} (a_destructor not_virtual w n o z t p) = by_is (λ s. part_kind s (head (tail ts))) w
part_front (a_destructor (a_virtual i) w n o z t p) = virtual_part i ∙ by_is virtual_kind w

-- no type begins with "virtual"
no_virtual_field : {text : List ℕ} {x : FieldType Spelled} {ts us r s : List Lexeme} {v : Lexeme} → ts ≡ us → FieldTypeReads text x ts r → Is Virtual v us s → ⊥
unfolding virtual_mark
no_virtual_field e h v =
    let f : ◌≡◌ {A = ℕ} 0 1 = clash (λ us. virtual_mark (head us)) e (field_type_by virtual_mark 0 refl refl refl refl refl refl refl refl refl h) (by_is virtual_mark v) in absurd (cc)

no_virtual_return : {text : List ℕ} {x : ReturnType Spelled} {ts us r s : List Lexeme} {v : Lexeme} → ts ≡ us → ReturnReads text x ts r → Is Virtual v us s → ⊥
unfolding virtual_mark
no_virtual_return e h v =
    let f : ◌≡◌ {A = ℕ} 0 1 = clash (λ us. virtual_mark (head us)) e (return_by virtual_mark 0 refl refl refl refl refl refl refl refl refl refl h) (by_is virtual_mark v) in absurd (cc)

-- what stands behind a field's name, a function's parameters and a destructor's word
abbrev is_paren : Sort → ℕ
is_paren OpenParen = 1
is_paren _ = 0

count_front : {x : Option ℕ} {ts r a : List Lexeme} {z : Lexeme} → CountReads x ts r → Is Semicolon z r a → is_paren (head ts) ≡ 0
count_front no_count z = by_is is_paren z
count_front (a_count o n c i) z = by_is is_paren o

-- the sign before a width
abbrev is_colon : Sort → ℕ
is_colon Colon = 1
is_colon _ = 0

count_goes_on : {x : Option ℕ} {ts r a : List Lexeme} {z : Lexeme} → CountReads x ts r → Is Semicolon z r a → is_colon (head ts) ≡ 0
count_goes_on no_count z = by_is is_colon z
count_goes_on (a_count o n c i) z = by_is is_colon o

abbrev is_assign : Sort → ℕ
is_assign Assign = 1
is_assign _ = 0

body_front : {A : Type 0} (f : Sort → A) {text : List ℕ} {t : BodyTree} {ts r : List Lexeme} → BodyReads text t ts r → f (head ts) ≡ f OpenBlock
body_front f (a_body o x z i l c) = by_is f o

no_field : {text : List ℕ} {x : FieldType Spelled} {y : ReturnType Spelled} {c : Option ℕ} {ts us r s a b d e : List Lexeme} {n m z o : Lexeme} → ts ≡ us →
    FieldTypeReads text x ts r → IsName n r a → CountReads c a d → Is Semicolon z d e → ReturnReads text y us s → IsName m s b → {g : List Lexeme} → Is OpenParen o b g → ⊥
no_field e t n c z r m o =
    let f : ◌≡◌ {A = ℕ} 0 1 = clash (λ us. is_paren (head us)) (rests (type_rest e n m t r) n.front m.front) (count_front c z) (by_is is_paren o) in absurd (cc)

-- no field and no function is a bit-field
no_width : {text : List ℕ} {x : FieldType Spelled} {k : Scalar} {c : Option ℕ} {ts us r s a b d e : List Lexeme} {n m z o : Lexeme} → ts ≡ us →
    FieldTypeReads text x ts r → IsName n r a → CountReads c a d → Is Semicolon z d e → ScalarReads k us s → IsName m s b → {g : List Lexeme} → Is Colon o b g → ⊥
no_width {text = text} e t n c z k m o =
    let f : ◌≡◌ {A = ℕ} 0 1 = clash (λ us. is_colon (head us)) (rests (field_type_same {text = text} e n m t (scalar_field k)).1 n.front m.front) (count_goes_on c z) (by_is is_colon o) in absurd (cc)

no_bit_field : {text : List ℕ} {k : Scalar} {y : ReturnType Spelled} {ts us r s a b g : List Lexeme} {n m w o : Lexeme} → ts ≡ us →
    ScalarReads k ts r → IsName n r a → Is Colon w a g → ReturnReads text y us s → IsName m s b → {h : List Lexeme} → Is OpenParen o b h → ⊥
no_bit_field {text = text} e k n w r m o =
    let f : ◌≡◌ {A = ℕ} 0 1 = clash (λ us. is_paren (head us)) (rests (type_rest e n m (scalar_field {text = text} k) r) n.front m.front) (by_is is_paren w) (by_is is_paren o) in absurd (cc)

-- the part of a function up to the end of its parameters
record SameHead (text : List ℕ) (f g n m : Lexeme) (x y : ReturnType Spelled) (ps qs : List (Param Spelled)) (r s : List Lexeme) : Type 0 where
  first : f ≡ g
  name : n ≡ m
  returned : x ≡ y
  params : ps ≡ qs
  rest : r ≡ s

head_same : {text : List ℕ} {x y : ReturnType Spelled} {ps qs : List (Param Spelled)} {ts a b c d r ts' a' b' c' d' r' : List Lexeme} {f n o z f' n' o' z' : Lexeme} → ts ≡ ts' →
    IsFirst f ts → ReturnReads text x ts a → IsName n a b → Is OpenParen o b c → ParamsRead text ps c d → Is CloseParen z d r →
    IsFirst f' ts' → ReturnReads text y ts' a' → IsName n' a' b' → Is OpenParen o' b' c' → ParamsRead text qs c' d' → Is CloseParen z' d' r' →
    SameHead text f f' n n' x y ps qs r r'
head_same e f t n o ps z f' t' n' o' ps' z' =
    let u = return_same e n n' t t' in
    let v = params_same (rests (rests u.1 n.front n'.front) o.front o'.front) (by_is param_mark z) (by_is param_mark z') ps ps' in
    record { first = firsts e f.front f'.front; name = firsts u.1 n.front n'.front; returned = u.0; params = v.0; rest = rests v.1 z.front z'.front }

abbrev function_of : List ℕ → Lexeme → List (Param Spelled) → ReturnType Spelled → Bool → Bool → Function Spelled
function_of text n ps r v p = record { name = bytes_of text n; params = ps; ret = r; is_virtual = v; is_pure = p; at = n.at }

functions_equal : {text : List ℕ} {f g n m : Lexeme} {x y : ReturnType Spelled} {ps qs : List (Param Spelled)} {r s : List Lexeme} (v p : Bool) {a b : Function Spelled} →
    SameHead text f g n m x y ps qs r s → a ≡ function_of text n ps x v p → b ≡ function_of text m qs y v p → a ≡ b
functions_equal {text = text} {n = n} {m = m} {x = x} {y = y} {ps = ps} {qs = qs} v p h i j =
    i ∙ (ap (λ l. function_of text l ps x v p) h.name ∙ (ap (λ l. function_of text m l x v p) h.params ∙ (ap (λ l. function_of text m qs l v p) h.returned ∙ sym j)))

abbrev member_of : List ℕ → Lexeme → FieldType Spelled → Option ℕ → Bool → Member Spelled
member_of text n t c b = record { name = bytes_of text n; ty = t; count = c; width = None; width_at = 0; is_public = b; at = n.at }

ats : {l m : Lexeme} {a b : ℕ} → l ≡ m → a ≡ l.at → b ≡ m.at → a ≡ b
ats e p q = p ∙ (ap (λ n. n.at) e ∙ sym q)

label_same : {p q : Bool} → p ≡ q → SamePart (part.Label p) (part.Label q)
label_same {p = p} e = subst (λ q. SamePart (part.Label p) (part.Label q)) e same_label

fields_equal : {a b : Member Spelled} {i j : ℕ} → a ≡ b → i ≡ j → SamePart (part.Field a i) (part.Field b j)
fields_equal {a = a} {b = b} {i = i} {j = j} e h =
    subst (λ m. SamePart (part.Field a i) (part.Field m j)) e (subst (λ k. SamePart (part.Field a i) (part.Field a k)) h same_field)

pure_equal : {a b : Function Spelled} {i j : ℕ} → a ≡ b → i ≡ j → SamePart (part.Function a i None) (part.Function b j None)
pure_equal {a = a} {b = b} {i = i} {j = j} e h =
    subst (λ m. SamePart (part.Function a i None) (part.Function m j None)) e (subst (λ k. SamePart (part.Function a i None) (part.Function a k None)) h same_pure)

part_same : {text : List ℕ} {b : Bool} {p q : ClassPart} {ts us r s : List Lexeme} → ts ≡ us → PartReads text b p ts r → PartReads text b q us s → SamePart p q × (r ≡ s)
unfolding kind_of
part_same e (a_label w k) (a_label w' k') = (label_same (access_same e w w'), rests (rests e w.front w'.front) k.front k'.front)
part_same {text = text} {b = b} e (a_field {ty = x} {count = i} f t n c z p q) (a_field {ty = y} {count = j} {n = m} f' t' n' c' z' p' q') =
    let u = field_type_same e n n' t t' in
    let l = firsts u.1 n.front n'.front in
    let v = count_same (rests u.1 n.front n'.front) (by_is is_bracket z) (by_is is_bracket z') c c' in
    let g = p ∙ (ap (λ k. member_of text k x i b) l ∙ (ap (λ k. member_of text m k i b) u.0 ∙ (ap (λ k. member_of text m y k b) v.0 ∙ sym p'))) in
    (fields_equal g (ats (firsts e f.front f'.front) q q'), rests v.1 z.front z'.front)
part_same {text = text} {b = b} e (a_bit_field {k = x} {n = n} {w = w} f t i o j z p q) (a_bit_field {k = y} {n = m} {w = v} f' t' i' o' j' z' p' q') =
    let u = field_type_same {text = text} e i i' (scalar_field t) (scalar_field t') in
    let same : x ≡ y = (let h : field_type.Value (value.Number x) ≡ field_type.Value (value.Number y) = u.0 in cc) in
    let behind = rests (rests u.1 i.front i'.front) o.front o'.front in
    let g = p ∙ (ap (λ l. bit_field text l x w b) (firsts u.1 i.front i'.front) ∙ (ap (λ k. bit_field text m k w b) same ∙ (ap (λ l. bit_field text m y l b) (firsts behind j.front j'.front) ∙ sym p'))) in
    (fields_equal g (ats (firsts e f.front f'.front) q q'), rests (rests behind j.front j'.front) z.front z'.front)
part_same e (a_field f t n c z p q) (a_bit_field f' t' n' o w z' p' q') = absurd (no_width e t n c z t' n' o)
part_same e (a_bit_field f t n o w z p q) (a_field f' t' n' c z' p' q') = absurd (no_width (sym e) t' n' c z' t n o)
part_same e (a_bit_field f t n w i z p q) (a_function not_virtual f' r n' o ps z' d p' q') = absurd (no_bit_field e t n w r n' o)
part_same {text = text} e (a_bit_field f t n w i z p q) (a_function (a_virtual v) f' r n' o ps z' d p' q') = absurd (no_virtual_field {text = text} e (scalar_field t) v)
part_same {text = text} e (a_bit_field f t n w i z p q) (a_pure_function v f' r n' o ps z' g k j p' q') = absurd (no_virtual_field {text = text} e (scalar_field t) v)
part_same e (a_function not_virtual f r n o ps z d p q) (a_bit_field f' t n' w i z' p' q') = absurd (no_bit_field (sym e) t n' w r n o)
part_same {text = text} e (a_function (a_virtual v) f r n o ps z d p q) (a_bit_field f' t n' w i z' p' q') = absurd (no_virtual_field {text = text} (sym e) (scalar_field t) v)
part_same {text = text} e (a_pure_function v f r n o ps z g k j p q) (a_bit_field f' t n' w i z' p' q') = absurd (no_virtual_field {text = text} (sym e) (scalar_field t) v)
part_same e (a_field f t n c z p q) (a_function not_virtual f' r n' o ps z' d p' q') = absurd (no_field e t n c z r n' o)
part_same e (a_field f t n c z p q) (a_function (a_virtual i) f' r n' o ps z' d p' q') = absurd (no_virtual_field e t i)
part_same e (a_field f t n c z p q) (a_pure_function i f' r' n' o' ps' z' w' k' j' p' q') = absurd (no_virtual_field e t i)
part_same e (a_function not_virtual f r n o ps z d p q) (a_field f' t n' c z' p' q') = absurd (no_field (sym e) t n' c z' r n o)
part_same e (a_function (a_virtual i) f r n o ps z d p q) (a_field f' t n' c z' p' q') = absurd (no_virtual_field (sym e) t i)
part_same e (a_pure_function i f r n o ps z w k j p q) (a_field f' t n' c z' p' q') = absurd (no_virtual_field (sym e) t i)
part_same e (a_function not_virtual f r n o ps z d p q) (a_function (a_virtual i) f' r' n' o' ps' z' d' p' q') = absurd (no_virtual_return e r i)
part_same e (a_function (a_virtual i) f r n o ps z d p q) (a_function not_virtual f' r' n' o' ps' z' d' p' q') = absurd (no_virtual_return (sym e) r' i)
part_same e (a_function not_virtual f r n o ps z d p q) (a_pure_function i f' r' n' o' ps' z' w k j p' q') = absurd (no_virtual_return e r i)
part_same e (a_pure_function i f r n o ps z w k j p q) (a_function not_virtual f' r' n' o' ps' z' d' p' q') = absurd (no_virtual_return (sym e) r' i)
part_same e (a_function not_virtual f r n o ps z d p q) (a_function not_virtual f' r' n' o' ps' z' d' p' q') =
    let h = head_same e f r n o ps z f' r' n' o' ps' z' in
    let u = body_same h.rest d d' in
    (function_same (functions_equal false false h p p') (ats h.first q q') u.0, u.1)
part_same e (a_function (a_virtual i) f r n o ps z d p q) (a_function (a_virtual i') f' r' n' o' ps' z' d' p' q') =
    let h = head_same (rests e i.front i'.front) f r n o ps z f' r' n' o' ps' z' in
    let u = body_same h.rest d d' in
    (function_same (functions_equal true false h p p') (ats h.first q q') u.0, u.1)
part_same e (a_function (a_virtual i) f r n o ps z d p q) (a_pure_function i' f' r' n' o' ps' z' w k j p' q') =
    let h = head_same (rests e i.front i'.front) f r n o ps z f' r' n' o' ps' z' in
    absurd (let f : 0 ≡ 1 = clash (λ us. is_assign (head us)) h.rest (body_front is_assign d) (by_is is_assign w) in cc)
part_same e (a_pure_function i f r n o ps z w k j p q) (a_function (a_virtual i') f' r' n' o' ps' z' d p' q') =
    let h = head_same (rests e i.front i'.front) f r n o ps z f' r' n' o' ps' z' in
    absurd (let f : 1 ≡ 0 = clash (λ us. is_assign (head us)) h.rest (by_is is_assign w) (body_front is_assign d) in cc)
part_same e (a_pure_function i f r n o ps z w k j p q) (a_pure_function i' f' r' n' o' ps' z' w' k' j' p' q') =
    let h = head_same (rests e i.front i'.front) f r n o ps z f' r' n' o' ps' z' in
    (pure_equal (functions_equal true true h p p') (ats h.first q q'), rests (rests (rests h.rest w.front w'.front) k.front k'.front) j.front j'.front)
part_same e (a_constructor n o z is d p) (a_constructor n' o' z' is' d' p') =
    let t = rests (rests (rests e n.front n'.front) o.front o'.front) z.front z'.front in
    let v = inits_same t (body_front list_mark d) (body_front list_mark d') is is' in
    let u = body_same v.1 d d' in
    (constructor_same (ats (firsts e n.front n'.front) p p') v.0 u.0, u.1)
part_same e (a_destructor v w n o z d p) (a_destructor v' w' n' o' z' d' p') =
    let g = virtual_same e v w v' w' in
    let t = rests g.1 w.front w'.front in
    let u = body_same (rests (rests (rests t n.front n'.front) o.front o'.front) z.front z'.front) d d' in
    (destructor_same g.0 (ats (firsts t n.front n'.front) p p') u.0, u.1)
part_same e h g = absurd (let f : kind_of h ≡ kind_of g = clash part_at e (part_front h) (part_front g) in cc)

-- parts
public_same : (b : Bool) {p q : ClassPart} → SamePart p q → public_after b p ≡ public_after b q
public_same b same_label = refl
public_same b same_field = refl
public_same b same_pure = refl
public_same b (same_function s) = refl
public_same b (same_constructor s) = refl
public_same b (same_destructor s) = refl

-- no part begins with the brace that closes a class
no_five : {text : List ℕ} {b : Bool} {p : ClassPart} {ts r : List Lexeme} (h : PartReads text b p ts r) → kind_of h ≡ 5 → ⊥
unfolding kind_of
no_five (a_label w k) e = absurd (cc)
no_five _ e = absurd (cc)

not_at_end : {text : List ℕ} {b : Bool} {p : ClassPart} {ts r : List Lexeme} → PartReads text b p ts r → head ts ≡ CloseBrace → ⊥
not_at_end {ts = ts} h e = no_five h (sym (part_front h) ∙ ap (λ s. part_kind s (head (tail ts))) e)

pub parts_same : {text : List ℕ} {b c : Bool} {ps qs : List ClassPart} {ts us r s : List Lexeme} → b ≡ c → ts ≡ us → head r ≡ CloseBrace → head s ≡ CloseBrace →
    PartsRead text b ps ts r → PartsRead text c qs us s → SameParts ps qs × (r ≡ s)
parts_same h e x y no_part no_part = (no_parts, e)
parts_same h e x y no_part (one_part p ps) = absurd (not_at_end p (ap head (sym e) ∙ x))
parts_same h e x y (one_part p ps) no_part = absurd (not_at_end p (ap head e ∙ y))
parts_same {text = text} {c = c} h e x y (one_part {p = p'} {ts = ts} {a = a} p ps) (one_part {p = q'} q qs) =
    let u = part_same e (subst (λ b. PartReads text b p' ts a) h p) q in
    let v = parts_same (ap (λ b. public_after b p') h ∙ public_same c u.0) u.1 x y ps qs in
    (more_parts u.0 v.0, v.1)
