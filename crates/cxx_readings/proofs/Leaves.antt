-- A list has one constant, operand, pointer and index at its front.
use Rattle.std.proofs.Common.{◌≡◌, ℕ, List, Option, Some, refl, ap, sym, ◌∙◌}
use Rattle.cxx_grammar.specs.declared.sort.Sort.{Sort}
use Rattle.cxx_grammar.specs.declared.sort.Sort.TheVariants.{Name, OwnName, Number, Zero, Minus, True, False, This, OpenBracket}
use Rattle.cxx_grammar.specs.declared.sort.Lexeme.{Lexeme}
use Rattle.cxx_syntax.specs.declared.tree.PointerText.{PointerText}
use Rattle.cxx_syntax.specs.declared.tree.Constant.{Constant}
use Rattle.cxx_syntax.specs.declared.tree.Operand.{Operand}
use Rattle.cxx_syntax.specs.declared.tree.Operand.TheVariants as operand
use Rattle.cxx_syntax.specs.Operands.{PointerReads, a_name, a_this, ConstantReads, a_number, a_negative, a_true, a_false, OperandReads, name_operand, this_operand, constant_operand, IndexReads, no_index, an_index}
use Rattle.cxx_readings.proofs.Heads.{head, tail, rests, firsts, by_is, by_name, by_number, clash}

-- pointer
abbrev pub pointer_kind : Sort → ℕ
pointer_kind Name = 0
pointer_kind OwnName = 0
pointer_kind This = 1
pointer_kind _ = 2

kind_of_pointer : {text : List ℕ} {p : PointerText} {ts r : List Lexeme} → PointerReads text p ts r → ℕ
kind_of_pointer (a_name i e) = 0
kind_of_pointer (a_this i e) = 1

pointer_front : {text : List ℕ} {p : PointerText} {ts r : List Lexeme} (h : PointerReads text p ts r) → pointer_kind (head ts) ≡ kind_of_pointer h
unfolding kind_of_pointer
pointer_front (a_name i e) = by_name pointer_kind 0 refl refl i
pointer_front (a_this i e) = by_is pointer_kind i

pub pointer_same : {text : List ℕ} {p q : PointerText} {ts us r s : List Lexeme} → ts ≡ us → PointerReads text p ts r → PointerReads text q us s → (p ≡ q) × (r ≡ s)
unfolding kind_of_pointer
pointer_same e (a_name i p) (a_name j q) = let l = firsts e i.front j.front in (cc, rests e i.front j.front)
pointer_same e (a_this i p) (a_this j q) = let l = firsts e i.front j.front in (cc, rests e i.front j.front)
pointer_same e h g = absurd (let f : kind_of_pointer h ≡ kind_of_pointer g = clash (λ us. pointer_kind (head us)) e (pointer_front h) (pointer_front g) in cc)

pub pointer_tail : {text : List ℕ} {p : PointerText} {ts r : List Lexeme} → PointerReads text p ts r → tail ts ≡ r
pointer_tail (a_name i e) = ap tail i.front
pointer_tail (a_this i e) = ap tail i.front

-- constant
abbrev pub constant_kind : Sort → ℕ
constant_kind Number = 0
constant_kind Zero = 0
constant_kind Minus = 1
constant_kind True = 2
constant_kind False = 3
constant_kind _ = 4

kind_of_constant : {c : Constant} {ts r : List Lexeme} → ConstantReads c ts r → ℕ
kind_of_constant (a_number i p q) = 0
kind_of_constant (a_negative m i p q) = 1
kind_of_constant (a_true i p) = 2
kind_of_constant (a_false i p) = 3

constant_front : {c : Constant} {ts r : List Lexeme} (h : ConstantReads c ts r) → constant_kind (head ts) ≡ kind_of_constant h
unfolding kind_of_constant
constant_front (a_number i p q) = by_number constant_kind 0 refl refl i
constant_front (a_negative m i p q) = by_is constant_kind m
constant_front (a_true i p) = by_is constant_kind i
constant_front (a_false i p) = by_is constant_kind i

pub constant_same : {c d : Constant} {ts us r s : List Lexeme} → ts ≡ us → ConstantReads c ts r → ConstantReads d us s → (c ≡ d) × (r ≡ s)
unfolding kind_of_constant
constant_same e (a_number i p q) (a_number j p' q') = let l = firsts e i.front j.front in (cc, rests e i.front j.front)
constant_same e (a_negative m i p q) (a_negative n j p' q') =
    let k = firsts e m.front n.front in let t = rests e m.front n.front in let l = firsts t i.front j.front in (cc, rests t i.front j.front)
constant_same e (a_true i p) (a_true j q) = let l = firsts e i.front j.front in (cc, rests e i.front j.front)
constant_same e (a_false i p) (a_false j q) = let l = firsts e i.front j.front in (cc, rests e i.front j.front)
constant_same e h g = absurd (let f : kind_of_constant h ≡ kind_of_constant g = clash (λ us. constant_kind (head us)) e (constant_front h) (constant_front g) in cc)

pub constant_by : {A : Type 0} (f : Sort → A) (a : A) → f Number ≡ a → f Zero ≡ a → f Minus ≡ a → f True ≡ a → f False ≡ a → {c : Constant} {ts r : List Lexeme} → ConstantReads c ts r → f (head ts) ≡ a
constant_by f a n z m t u (a_number i p q) = by_number f a n z i
constant_by f a n z m t u (a_negative i j p q) = by_is f i ∙ m
constant_by f a n z m t u (a_true i p) = by_is f i ∙ t
constant_by f a n z m t u (a_false i p) = by_is f i ∙ u

pub pointer_by : {A : Type 0} (f : Sort → A) (a : A) → f Name ≡ a → f OwnName ≡ a → f This ≡ a → {text : List ℕ} {p : PointerText} {ts r : List Lexeme} → PointerReads text p ts r → f (head ts) ≡ a
pointer_by f a n o t (a_name i e) = by_name f a n o i
pointer_by f a n o t (a_this i e) = by_is f i ∙ t

-- operand
abbrev pub operand_kind : Sort → ℕ
operand_kind Name = 0
operand_kind OwnName = 0
operand_kind This = 1
operand_kind _ = 2

kind_of_operand : {text : List ℕ} {v : Operand} {ts r : List Lexeme} → OperandReads text v ts r → ℕ
kind_of_operand (name_operand i e) = 0
kind_of_operand (this_operand i e) = 1
kind_of_operand (constant_operand h) = 2

operand_front : {text : List ℕ} {v : Operand} {ts r : List Lexeme} (h : OperandReads text v ts r) → operand_kind (head ts) ≡ kind_of_operand h
unfolding kind_of_operand
operand_front (name_operand i e) = by_name operand_kind 0 refl refl i
operand_front (this_operand i e) = by_is operand_kind i
operand_front (constant_operand h) = constant_by operand_kind 2 refl refl refl refl refl h

pub operand_same : {text : List ℕ} {v w : Operand} {ts us r s : List Lexeme} → ts ≡ us → OperandReads text v ts r → OperandReads text w us s → (v ≡ w) × (r ≡ s)
unfolding kind_of_operand
operand_same e (name_operand i p) (name_operand j q) = let l = firsts e i.front j.front in (cc, rests e i.front j.front)
operand_same e (this_operand i p) (this_operand j q) = let l = firsts e i.front j.front in (cc, rests e i.front j.front)
operand_same e (constant_operand h) (constant_operand g) = let x = constant_same e h g in (ap operand.Constant x.0, x.1)
operand_same e h g = absurd (let f : kind_of_operand h ≡ kind_of_operand g = clash (λ us. operand_kind (head us)) e (operand_front h) (operand_front g) in cc)

pub operand_by : {A : Type 0} (f : Sort → A) (a : A) → f Name ≡ a → f OwnName ≡ a → f This ≡ a → f Number ≡ a → f Zero ≡ a → f Minus ≡ a → f True ≡ a → f False ≡ a →
    {text : List ℕ} {v : Operand} {ts r : List Lexeme} → OperandReads text v ts r → f (head ts) ≡ a
operand_by f a n o h m z s t u (name_operand i e) = by_name f a n o i
operand_by f a n o h m z s t u (this_operand i e) = by_is f i ∙ h
operand_by f a n o h m z s t u (constant_operand c) = constant_by f a m z s t u c

-- index
abbrev pub is_bracket : Sort → ℕ
is_bracket OpenBracket = 1
is_bracket _ = 0

pub index_same : {i j : Option (ℕ × ℕ)} {ts us r s : List Lexeme} → ts ≡ us → is_bracket (head r) ≡ 0 → is_bracket (head s) ≡ 0 → IndexReads i ts r → IndexReads j us s → (i ≡ j) × (r ≡ s)
index_same e p q no_index no_index = (refl, e)
index_same e p q no_index (an_index o n c i) = absurd (let f : 0 ≡ 1 = clash (λ us. is_bracket (head us)) e p (by_is is_bracket o) in cc)
index_same e p q (an_index o n c i) no_index = absurd (let f : 1 ≡ 0 = clash (λ us. is_bracket (head us)) e (by_is is_bracket o) q in cc)
index_same e p q (an_index o n c i) (an_index o' n' c' i') =
    let t = rests e o.front o'.front in let l = firsts t n.front n'.front in let u = rests t n.front n'.front in
    (ap Some (i ∙ (ap (λ m. (m.value, m.at)) l ∙ sym i')), rests u c.front c'.front)
