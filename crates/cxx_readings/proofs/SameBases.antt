-- A list has one base, type, parameter list and initializer list at its front.
use Rattle.std.proofs.Common.{◌≡◌, ℕ, min, Bool, List, Option, Some, refl, ap, sym, ◌∙◌}
use Rattle.cxx_grammar.specs.declared.sort.Sort.{Sort}
use Rattle.cxx_grammar.specs.declared.sort.Sort.TheVariants.{Public, Protected, Private, Virtual, Void, Name, OwnName, Boolean, Char, Short, Int, Long, Signed, Unsigned, Star, Colon, Comma, CloseParen}
use Rattle.cxx_grammar.specs.declared.sort.Lexeme.{Lexeme}
use Rattle.cxx_grammar.specs.Front.{Is, IsName}
use Rattle.cxx_grammar.specs.Lexemes.{bytes_of}
use Rattle.cxx_hierarchy.specs.declared.records.Base.{Base}
use Rattle.cxx_hierarchy.specs.declared.records.Param.{Param}
use Rattle.cxx_hierarchy.specs.declared.records.FieldType.{FieldType}
use Rattle.cxx_hierarchy.specs.declared.records.FieldType.TheVariants as field_type
use Rattle.cxx_hierarchy.specs.declared.records.ReturnType.{ReturnType}
use Rattle.cxx_hierarchy.specs.declared.records.ReturnType.TheVariants as return_type
use Rattle.cxx_hierarchy.specs.declared.records.ValueType.{ValueType}
use Rattle.cxx_syntax.specs.Operands.{spot_of}
use Rattle.cxx_syntax.specs.Statements.{ValueReads, a_scalar, a_class_pointer}
use Rattle.cxx_syntax.specs.declared.tree.Constant.{Constant}
use Rattle.cxx_syntax.specs.declared.source_text.Init.{Init}
use Rattle.cxx_syntax.specs.Parts.{Spelled, access_of, IsAccess, base_by_token, BaseReads, a_base, a_virtual_base, an_access_base, a_virtual_access_base, an_access_virtual_base, MoreBasesRead, no_more_bases, one_more_base, BasesRead, no_bases, some_bases, FieldTypeReads, a_value_field, an_object_field, CountReads, no_count, a_count, ReturnReads, a_void_return, a_value_return, ParamReads, a_param, MoreParamsRead, no_more_params, one_more_param, ParamsRead, no_params, some_params, InitReads, a_member_init, MoreInitsRead, no_more_inits, one_more_init, InitsRead, no_inits, some_inits}
use Rattle.cxx_readings.proofs.Heads.{head, tail, rests, firsts, by_is, by_name, clash}
use Rattle.cxx_readings.proofs.Leaves.{constant_same, is_bracket}
use Rattle.cxx_readings.proofs.SameValues.{scalar_by, value_by, value_same}

-- an access
pub by_access : {A : Type 0} (f : Sort → A) (a : A) → f Public ≡ a → f Protected ≡ a → f Private ≡ a → {p : Bool} {l : Lexeme} {ts r : List Lexeme} → IsAccess p l ts r → f (head ts) ≡ a
by_access f a u o i {p = p} {l = l} h = ap (λ us. f (head us)) h.front ∙ of_sort l.sort h.access where
  of_sort : (s : Sort) → access_of s ≡ Some p → f s ≡ a
  of_sort Public e = u
  of_sort Protected e = o
  of_sort Private e = i
  of_sort _ e = absurd (cc)

pub access_same : {p q : Bool} {l m : Lexeme} {ts us r s : List Lexeme} → ts ≡ us → IsAccess p l ts r → IsAccess q m us s → p ≡ q
access_same {p = p} {q = q} e i j = let l = firsts e i.front j.front in let f : Some p ≡ Some q = sym i.access ∙ (ap (λ k. access_of k.sort) l ∙ j.access) in cc

-- a base, by its first two tokens
abbrev behind_virtual : Sort → ℕ
behind_virtual Public = 3
behind_virtual Protected = 3
behind_virtual Private = 3
behind_virtual _ = 1

abbrev behind_access : Sort → ℕ
behind_access Virtual = 4
behind_access _ = 2

abbrev base_kind : Sort → Sort → ℕ
base_kind Virtual x = behind_virtual x
base_kind Public x = behind_access x
base_kind Protected x = behind_access x
base_kind Private x = behind_access x
base_kind _ x = 0

abbrev base_at : List Lexeme → ℕ
base_at ts = base_kind (head ts) (head (tail ts))

kind_of_base : {text : List ℕ} {d : Bool} {b : Base Spelled} {ts r : List Lexeme} → BaseReads text d b ts r → ℕ
kind_of_base (a_base n e) = 0
kind_of_base (a_virtual_base v n e) = 1
kind_of_base (an_access_base w n e) = 2
kind_of_base (a_virtual_access_base v w n e) = 3
kind_of_base (an_access_virtual_base w v n e) = 4

base_front : {text : List ℕ} {d : Bool} {b : Base Spelled} {ts r : List Lexeme} (h : BaseReads text d b ts r) → base_at ts ≡ kind_of_base h
unfolding kind_of_base
base_front {ts = ts} (a_base n e) = by_name (λ s. base_kind s (head (tail ts))) 0 refl refl n
base_front {ts = ts} (a_virtual_base v n e) = by_is (λ s. base_kind s (head (tail ts))) v ∙ (ap (λ us. behind_virtual (head us)) (ap tail v.front) ∙ by_name behind_virtual 1 refl refl n)
base_front {ts = ts} (an_access_base w n e) =
    let f : behind_access (head (tail ts)) ≡ 2 = ap (λ us. behind_access (head us)) (ap tail w.front) ∙ by_name behind_access 2 refl refl n in
    by_access (λ s. base_kind s (head (tail ts))) 2 f f f w
base_front {ts = ts} (a_virtual_access_base v w n e) = by_is (λ s. base_kind s (head (tail ts))) v ∙ (ap (λ us. behind_virtual (head us)) (ap tail v.front) ∙ by_access behind_virtual 3 refl refl refl w)
base_front {ts = ts} (an_access_virtual_base w v n e) =
    let f : behind_access (head (tail ts)) ≡ 4 = ap (λ us. behind_access (head us)) (ap tail w.front) ∙ by_is behind_access v in
    by_access (λ s. base_kind s (head (tail ts))) 4 f f f w

bases_equal : (text : List ℕ) {v p q : Bool} {a b : Base Spelled} {l m : Lexeme} → l ≡ m → p ≡ q → a ≡ base_by_token text l v p → b ≡ base_by_token text m v q → a ≡ b
bases_equal text {v = v} {q = q} {l = l} e f g h = g ∙ (ap (λ p. base_by_token text l v p) f ∙ (ap (λ n. base_by_token text n v q) e ∙ sym h))

base_same : {text : List ℕ} {d : Bool} {b c : Base Spelled} {ts us r s : List Lexeme} → ts ≡ us → BaseReads text d b ts r → BaseReads text d c us s → (b ≡ c) × (r ≡ s)
unfolding kind_of_base
base_same {text = text} e (a_base n p) (a_base n' p') = (bases_equal text (firsts e n.front n'.front) refl p p', rests e n.front n'.front)
base_same {text = text} e (a_virtual_base v n p) (a_virtual_base v' n' p') =
    let t = rests e v.front v'.front in (bases_equal text (firsts t n.front n'.front) refl p p', rests t n.front n'.front)
base_same {text = text} e (an_access_base w n p) (an_access_base w' n' p') =
    let t = rests e w.front w'.front in (bases_equal text (firsts t n.front n'.front) (access_same e w w') p p', rests t n.front n'.front)
base_same {text = text} e (a_virtual_access_base v w n p) (a_virtual_access_base v' w' n' p') =
    let t = rests e v.front v'.front in let u = rests t w.front w'.front in (bases_equal text (firsts u n.front n'.front) (access_same t w w') p p', rests u n.front n'.front)
base_same {text = text} e (an_access_virtual_base w v n p) (an_access_virtual_base w' v' n' p') =
    let u = rests (rests e w.front w'.front) v.front v'.front in (bases_equal text (firsts u n.front n'.front) (access_same e w w') p p', rests u n.front n'.front)
base_same e h g = absurd (let f : kind_of_base h ≡ kind_of_base g = clash base_at e (base_front h) (base_front g) in cc)

-- what may not follow a list: what goes on with it
abbrev pub list_mark : Sort → ℕ
list_mark Comma = 1
list_mark Colon = 2
list_mark _ = 0

more_bases_same : {text : List ℕ} {d : Bool} {bs cs : List (Base Spelled)} {ts us r s : List Lexeme} → ts ≡ us → list_mark (head r) ≡ 0 → list_mark (head s) ≡ 0 →
    MoreBasesRead text d bs ts r → MoreBasesRead text d cs us s → (bs ≡ cs) × (r ≡ s)
more_bases_same e p q no_more_bases no_more_bases = (refl, e)
more_bases_same e p q no_more_bases (one_more_base k x y) = absurd (let f : 0 ≡ 1 = clash (λ us. list_mark (head us)) e p (by_is list_mark k) in cc)
more_bases_same e p q (one_more_base k x y) no_more_bases = absurd (let f : 1 ≡ 0 = clash (λ us. list_mark (head us)) e (by_is list_mark k) q in cc)
more_bases_same e p q (one_more_base k x y) (one_more_base k' x' y') =
    let u = base_same (rests e k.front k'.front) x x' in let v = more_bases_same u.1 p q y y' in (cc, v.1)

pub bases_same : {text : List ℕ} {d : Bool} {bs cs : List (Base Spelled)} {ts us r s : List Lexeme} → ts ≡ us → list_mark (head r) ≡ 0 → list_mark (head s) ≡ 0 →
    BasesRead text d bs ts r → BasesRead text d cs us s → (bs ≡ cs) × (r ≡ s)
bases_same e p q no_bases no_bases = (refl, e)
bases_same e p q no_bases (some_bases k x y) = absurd (let f : 0 ≡ 2 = clash (λ us. list_mark (head us)) e p (by_is list_mark k) in cc)
bases_same e p q (some_bases k x y) no_bases = absurd (let f : 2 ≡ 0 = clash (λ us. list_mark (head us)) e (by_is list_mark k) q in cc)
bases_same e p q (some_bases k x y) (some_bases k' x' y') =
    let u = base_same (rests e k.front k'.front) x x' in let v = more_bases_same u.1 p q y y' in (cc, v.1)

-- a type of a field and of a function's result
abbrev is_star : Sort → ℕ
is_star Star = 1
is_star _ = 0

abbrev type_mark : Sort → ℕ
type_mark Void = 1
type_mark Name = 2
type_mark OwnName = 2
type_mark _ = 0

-- a value is no name alone, which another name follows
no_object : {text : List ℕ} {v : ValueType Spelled} {ts us r a b : List Lexeme} {n m : Lexeme} → ts ≡ us → ValueReads text v ts r → IsName n us a → IsName m a b → ⊥
no_object e (a_scalar h) n m = let f : ◌≡◌ {A = ℕ} 0 2 = clash (λ us. type_mark (head us)) e (scalar_by type_mark 0 refl refl refl refl refl refl refl h) (by_name type_mark 2 refl refl n) in absurd (cc)
no_object e (a_class_pointer i j p) n m = let f : ◌≡◌ {A = ℕ} 1 0 = clash (λ us. is_star (head us)) (rests e i.front n.front) (by_is is_star j) (by_name is_star 0 refl refl m) in absurd (cc)

abbrev is_void : Sort → ℕ
is_void Void = 1
is_void _ = 0

value_no_void : {text : List ℕ} {v : ValueType Spelled} {ts us r s : List Lexeme} {k : Lexeme} → ts ≡ us → ValueReads text v ts r → Is Void k us s → ⊥
value_no_void e h k = let f : ◌≡◌ {A = ℕ} 0 1 = clash (λ us. is_void (head us)) e (value_by is_void 0 refl refl refl refl refl refl refl refl refl h) (by_is is_void k) in absurd (cc)

pub field_type_same : {text : List ℕ} {x y : FieldType Spelled} {ts us r s a b : List Lexeme} {n m : Lexeme} → ts ≡ us → IsName n r a → IsName m s b →
    FieldTypeReads text x ts r → FieldTypeReads text y us s → (x ≡ y) × (r ≡ s)
field_type_same e n m (a_value_field h) (a_value_field g) = let x = value_same e n m h g in (ap field_type.Value x.0, x.1)
field_type_same {text = text} e n m (an_object_field i p) (an_object_field j q) = (ap field_type.Object (p ∙ (ap (bytes_of text) (firsts e i.front j.front) ∙ sym q)), rests e i.front j.front)
field_type_same e n m (a_value_field h) (an_object_field j q) = absurd (no_object e h j m)
field_type_same e n m (an_object_field i p) (a_value_field g) = absurd (no_object (sym e) g i n)

pub return_same : {text : List ℕ} {x y : ReturnType Spelled} {ts us r s a b : List Lexeme} {n m : Lexeme} → ts ≡ us → IsName n r a → IsName m s b →
    ReturnReads text x ts r → ReturnReads text y us s → (x ≡ y) × (r ≡ s)
return_same e n m (a_void_return i) (a_void_return j) = (refl, rests e i.front j.front)
return_same e n m (a_value_return h) (a_value_return g) = let x = value_same e n m h g in (ap return_type.Value x.0, x.1)
return_same e n m (a_void_return i) (a_value_return g) = absurd (value_no_void (sym e) g i)
return_same e n m (a_value_return h) (a_void_return j) = absurd (value_no_void e h j)

-- a field and a function of one list have their names at one place
pub type_rest : {text : List ℕ} {x : FieldType Spelled} {y : ReturnType Spelled} {ts us r s a b : List Lexeme} {n m : Lexeme} → ts ≡ us → IsName n r a → IsName m s b →
    FieldTypeReads text x ts r → ReturnReads text y us s → r ≡ s
type_rest e n m (a_value_field h) (a_value_return g) = let x = value_same e n m h g in x.1
type_rest e n m (a_value_field h) (a_void_return j) = absurd (value_no_void e h j)
type_rest e n m (an_object_field i p) (a_value_return g) = absurd (no_object (sym e) g i n)
type_rest e n m (an_object_field i p) (a_void_return j) = absurd (let f : 2 ≡ 1 = clash (λ us. type_mark (head us)) e (by_name type_mark 2 refl refl i) (by_is type_mark j) in cc)

pub count_same : {x y : Option ℕ} {ts us r s : List Lexeme} → ts ≡ us → is_bracket (head r) ≡ 0 → is_bracket (head s) ≡ 0 → CountReads x ts r → CountReads y us s → (x ≡ y) × (r ≡ s)
count_same e p q no_count no_count = (refl, e)
count_same e p q no_count (a_count o n c i) = absurd (let f : 0 ≡ 1 = clash (λ us. is_bracket (head us)) e p (by_is is_bracket o) in cc)
count_same e p q (a_count o n c i) no_count = absurd (let f : 1 ≡ 0 = clash (λ us. is_bracket (head us)) e (by_is is_bracket o) q in cc)
count_same e p q (a_count o n c i) (a_count o' n' c' i') =
    let t = rests e o.front o'.front in
    (ap Some (i ∙ (ap (λ m. min m.value 4294967295) (firsts t n.front n'.front) ∙ sym i')), rests (rests t n.front n'.front) c.front c'.front)

-- parameters
abbrev param_of : List ℕ → Lexeme → ValueType Spelled → Lexeme → Param Spelled
param_of text f v n = record { name = bytes_of text n; ty = v; ty_at = f.at; at = n.at }

param_same : {text : List ℕ} {p q : Param Spelled} {ts us r s : List Lexeme} → ts ≡ us → ParamReads text p ts r → ParamReads text q us s → (p ≡ q) × (r ≡ s)
param_same {text = text} e (a_param {v = x} {f = k} f v n p) (a_param {v = y} {f = j} {n = m} f' v' n' p') =
    let x' = value_same e n n' v v' in (
      p ∙ (ap (λ l. param_of text k x l) (firsts x'.1 n.front n'.front) ∙ (ap (λ w. param_of text k w m) x'.0 ∙ (ap (λ l. param_of text l y m) (firsts e f.front f'.front) ∙ sym p'))),
      rests x'.1 n.front n'.front,
    )

abbrev pub param_mark : Sort → ℕ
param_mark CloseParen = 0
param_mark Comma = 1
param_mark Name = 2
param_mark OwnName = 2
param_mark Boolean = 2
param_mark Char = 2
param_mark Signed = 2
param_mark Unsigned = 2
param_mark Short = 2
param_mark Int = 2
param_mark Long = 2
param_mark _ = 0

param_front : {text : List ℕ} {p : Param Spelled} {ts r : List Lexeme} → ParamReads text p ts r → param_mark (head ts) ≡ 2
param_front (a_param f v n p) = value_by param_mark 2 refl refl refl refl refl refl refl refl refl v

more_params_same : {text : List ℕ} {ps qs : List (Param Spelled)} {ts us r s : List Lexeme} → ts ≡ us → param_mark (head r) ≡ 0 → param_mark (head s) ≡ 0 →
    MoreParamsRead text ps ts r → MoreParamsRead text qs us s → (ps ≡ qs) × (r ≡ s)
more_params_same e p q no_more_params no_more_params = (refl, e)
more_params_same e p q no_more_params (one_more_param k x y) = absurd (let f : 0 ≡ 1 = clash (λ us. param_mark (head us)) e p (by_is param_mark k) in cc)
more_params_same e p q (one_more_param k x y) no_more_params = absurd (let f : 1 ≡ 0 = clash (λ us. param_mark (head us)) e (by_is param_mark k) q in cc)
more_params_same e p q (one_more_param k x y) (one_more_param k' x' y') =
    let u = param_same (rests e k.front k'.front) x x' in let v = more_params_same u.1 p q y y' in (cc, v.1)

pub params_same : {text : List ℕ} {ps qs : List (Param Spelled)} {ts us r s : List Lexeme} → ts ≡ us → param_mark (head r) ≡ 0 → param_mark (head s) ≡ 0 →
    ParamsRead text ps ts r → ParamsRead text qs us s → (ps ≡ qs) × (r ≡ s)
params_same e p q no_params no_params = (refl, e)
params_same e p q no_params (some_params x y) = absurd (let f : 0 ≡ 2 = clash (λ us. param_mark (head us)) e p (param_front x) in cc)
params_same e p q (some_params x y) no_params = absurd (let f : 2 ≡ 0 = clash (λ us. param_mark (head us)) e (param_front x) q in cc)
params_same e p q (some_params x y) (some_params x' y') = let u = param_same e x x' in let v = more_params_same u.1 p q y y' in (cc, v.1)

-- initializers
abbrev init_of : List ℕ → Lexeme → Constant → Init
init_of text n v = record { name = spot_of text n; value = v }

init_same : {text : List ℕ} {i j : Init} {ts us r s : List Lexeme} → ts ≡ us → InitReads text i ts r → InitReads text j us s → (i ≡ j) × (r ≡ s)
init_same {text = text} e (a_member_init {v = x} n o v z p) (a_member_init {n = m} n' o' v' z' p') =
    let t = rests e n.front n'.front in let u = constant_same (rests t o.front o'.front) v v' in
    (p ∙ (ap (λ l. init_of text l x) (firsts e n.front n'.front) ∙ (ap (λ w. init_of text m w) u.0 ∙ sym p')), rests u.1 z.front z'.front)

more_inits_same : {text : List ℕ} {is js : List Init} {ts us r s : List Lexeme} → ts ≡ us → list_mark (head r) ≡ 0 → list_mark (head s) ≡ 0 →
    MoreInitsRead text is ts r → MoreInitsRead text js us s → (is ≡ js) × (r ≡ s)
more_inits_same e p q no_more_inits no_more_inits = (refl, e)
more_inits_same e p q no_more_inits (one_more_init k x y) = absurd (let f : 0 ≡ 1 = clash (λ us. list_mark (head us)) e p (by_is list_mark k) in cc)
more_inits_same e p q (one_more_init k x y) no_more_inits = absurd (let f : 1 ≡ 0 = clash (λ us. list_mark (head us)) e (by_is list_mark k) q in cc)
more_inits_same e p q (one_more_init k x y) (one_more_init k' x' y') =
    let u = init_same (rests e k.front k'.front) x x' in let v = more_inits_same u.1 p q y y' in (cc, v.1)

pub inits_same : {text : List ℕ} {is js : List Init} {ts us r s : List Lexeme} → ts ≡ us → list_mark (head r) ≡ 0 → list_mark (head s) ≡ 0 →
    InitsRead text is ts r → InitsRead text js us s → (is ≡ js) × (r ≡ s)
inits_same e p q no_inits no_inits = (refl, e)
inits_same e p q no_inits (some_inits k x y) = absurd (let f : 0 ≡ 2 = clash (λ us. list_mark (head us)) e p (by_is list_mark k) in cc)
inits_same e p q (some_inits k x y) no_inits = absurd (let f : 2 ≡ 0 = clash (λ us. list_mark (head us)) e (by_is list_mark k) q in cc)
inits_same e p q (some_inits k x y) (some_inits k' x' y') =
    let u = init_same (rests e k.front k'.front) x x' in let v = more_inits_same u.1 p q y y' in (cc, v.1)
