-- Tasks of one token and of an operand; a value or an operand and what is left behind it.
use Rattle.std.proofs.Common.{◌≡◌, ℕ, ◌<◌, Bool, true, false, cond, List, [], ◌∷◌, Some, None, length, refl, sym, ap, ◌∙◌, arith}
use Rattle.cxx_grammar.specs.declared.sort.Sort.{Sort}
use Rattle.cxx_grammar.specs.declared.sort.Sort.TheVariants.{Boolean, Char, Short, Int, Long, Signed, Unsigned, This, True, False, Name, OwnName, Number, Zero, Star, Minus}
use Rattle.cxx_grammar.specs.declared.sort.Lexeme.{Lexeme}
use Rattle.cxx_grammar.specs.Sorts.{is_same, is_name, is_number}
use Rattle.cxx_grammar.specs.Front.{Is, IsName, IsNumber}
use Rattle.cxx_grammar.specs.Event.{State}
use Rattle.cxx_grammar.specs.Table.{Task, Line, Only, AName, ANumber, AConstant, AnOperand, APointer, UnsignedName, LongName, look_up, scalar_lines, value_lines}
use Rattle.cxx_grammar.proofs.Sorts.{is_same_eq}
use Rattle.cxx_hierarchy.specs.declared.records.Scalar.{Scalar}
use Rattle.cxx_hierarchy.specs.declared.records.Scalar.TheVariants as scalar
use Rattle.cxx_hierarchy.specs.declared.records.ValueType.{ValueType}
use Rattle.cxx_hierarchy.specs.declared.records.ValueType.TheVariants as value
use Rattle.cxx_syntax.specs.declared.tree.PointerText.TheVariants as pointer
use Rattle.cxx_syntax.specs.declared.tree.Constant.{Constant}
use Rattle.cxx_syntax.specs.declared.tree.Constant.TheVariants as constant
use Rattle.cxx_syntax.specs.declared.tree.Operand.{Operand}
use Rattle.cxx_syntax.specs.declared.tree.Operand.TheVariants as operand
use Rattle.cxx_syntax.specs.Operands.{spot_of, a_name, a_this, ConstantReads, a_number, a_negative, a_true, a_false, OperandReads, name_operand, this_operand, constant_operand}
use Rattle.cxx_syntax.specs.Statements.{ScalarReads, a_bool, a_char, a_signed_char, an_unsigned_char, a_short, an_unsigned_short, an_int, an_unsigned_int, an_unsigned, a_long, an_unsigned_long, a_long_long, an_unsigned_long_long, ValueReads, a_scalar, a_class_pointer, IsFirst}
use Rattle.cxx_grammar.specs.Lexemes.{bytes_of}
use Rattle.cxx_syntax.specs.Parts.{Spelled}
use Rattle.cxx_readings.proofs.Meanings.{Keeps, Gots, all_done, one_done, NextGots, Step, just_name, long_name}

pub here : {t : Sort} {l : Lexeme} {ts : List Lexeme} → l.sort ≡ t → Is t l (l ∷ ts) ts
here is = record { front = refl; sort = is }

pub name_here : {l : Lexeme} {ts : List Lexeme} → is_name l.sort ≡ true → IsName l (l ∷ ts) ts
name_here is = record { front = refl; name = is }

pub number_here : {l : Lexeme} {ts : List Lexeme} → is_number l.sort ≡ true → IsNumber l (l ∷ ts) ts
number_here is = record { front = refl; number = is }

pub first_here : {l : Lexeme} {ts : List Lexeme} → IsFirst l (l ∷ ts)
first_here {ts = ts} = record { rest = ts; front = refl }

pub name_first : {n : Lexeme} {all ts : List Lexeme} → IsName n all ts → IsFirst n all
name_first {ts = ts} h = record { rest = ts; front = h.front }

pub is_first : {t : Sort} {n : Lexeme} {all ts : List Lexeme} → Is t n all ts → IsFirst n all
is_first {ts = ts} h = record { rest = ts; front = h.front }

only_by : (text : List ℕ) (u t : Sort) (l : Lexeme) (ts r : List Lexeme) (v s' : State) → l.sort ≡ t → (b : Bool) → is_same u t ≡ b → NextGots text (cond b (Some []) None) v ts s' r → (x : Lexeme) × Is u x (l ∷ ts) r
only_by text u t l ts r v s' is true e all_done = (l, here (is ∙ sym (is_same_eq u t e)))
only_by text u t l ts r v s' is false e h = absurd h

pub only : (text : List ℕ) (u : Sort) → Step text (Only u)
only text u t l ts r s v s' is h = only_by text u t l ts r v s' is (is_same u t) refl h

pub a_name_read : (text : List ℕ) → Step text AName
a_name_read text Name l ts r s v s' is all_done = (l, name_here (ap is_name is))
a_name_read text OwnName l ts r s v s' is all_done = (l, name_here (ap is_name is))
a_name_read text _ l ts r s v s' is h = absurd h

pub a_number_read : (text : List ℕ) → Step text ANumber
a_number_read text Number l ts r s v s' is all_done = (l, number_here (ap is_number is))
a_number_read text Zero l ts r s v s' is all_done = (l, number_here (ap is_number is))
a_number_read text _ l ts r s v s' is h = absurd h

pub a_pointer_read : (text : List ℕ) → Step text APointer
a_pointer_read text Name l ts r s v s' is all_done = (pointer.Name (spot_of text l), a_name (name_here (ap is_name is)) refl)
a_pointer_read text OwnName l ts r s v s' is all_done = (pointer.Name (spot_of text l), a_name (name_here (ap is_name is)) refl)
a_pointer_read text This l ts r s v s' is all_done = (pointer.This l.at, a_this (here is) refl)
a_pointer_read text _ l ts r s v s' is h = absurd h

pub a_constant_read : (text : List ℕ) → Step text AConstant
a_constant_read text Number l ts r s v s' is all_done = (constant.Number false l.value l.at, a_number (number_here (ap is_number is)) refl refl)
a_constant_read text Zero l ts r s v s' is all_done = (constant.Number false l.value l.at, a_number (number_here (ap is_number is)) refl refl)
a_constant_read text Minus l ts r s v s' is (one_done n _ _ all_done) = (constant.Number true n.0.value l.at, a_negative (here is) n.1 refl refl)
a_constant_read text True l ts r s v s' is all_done = (constant.Truth true l.at, a_true (here is) refl)
a_constant_read text False l ts r s v s' is all_done = (constant.Truth false l.at, a_false (here is) refl)
a_constant_read text _ l ts r s v s' is h = absurd h

-- an operand, and the tasks behind it
pub record OperandThen (text : List ℕ) (all : List Lexeme) (k : List Task) (s s' : State) (r : List Lexeme) : Type 0 where
  pub operand : Operand
  pub left : List Lexeme
  pub state : State
  pub reads : OperandReads text operand all left
  pub more : Gots text k state left s' r

abbrev pub constant_lines : List Task → List Line
constant_lines k = (Number, k) ∷ (Zero, k) ∷ (Minus, ANumber ∷ k) ∷ (True, k) ∷ (False, k) ∷ []

abbrev pub operand_lines : List Task → List Line
operand_lines k = (Name, k) ∷ (OwnName, k) ∷ (This, k) ∷ constant_lines k

constant_then : {text : List ℕ} {all left : List Lexeme} {k : List Task} {s s' state : State} {r : List Lexeme} (c : Constant) → ConstantReads c all left → Gots text k state left s' r → OperandThen text all k s s' r
constant_then {left = left} {state = state} c h g = record { operand = operand.Constant c; left = left; state = state; reads = constant_operand h; more = g }

number_then : {text : List ℕ} {l : Lexeme} {ts : List Lexeme} {k : List Task} {v s' : State} {r : List Lexeme} → l.sort ≡ Minus → Gots text (ANumber ∷ k) v ts s' r → OperandThen text (l ∷ ts) k v s' r
number_then {l = l} is (one_done n _ _ g) = constant_then (constant.Number true n.0.value l.at) (a_negative (here is) n.1 refl refl) g

pub constant_front : (text : List ℕ) (t : Sort) (k : List Task) (l : Lexeme) (ts r : List Lexeme) (v s' : State) → l.sort ≡ t → NextGots text (look_up t (constant_lines k)) v ts s' r → OperandThen text (l ∷ ts) k v s' r
constant_front text Number k l ts r v s' is g = constant_then (constant.Number false l.value l.at) (a_number (number_here (ap is_number is)) refl refl) g
constant_front text Zero k l ts r v s' is g = constant_then (constant.Number false l.value l.at) (a_number (number_here (ap is_number is)) refl refl) g
constant_front text Minus k l ts r v s' is g = number_then is g
constant_front text True k l ts r v s' is g = constant_then (constant.Truth true l.at) (a_true (here is) refl) g
constant_front text False k l ts r v s' is g = constant_then (constant.Truth false l.at) (a_false (here is) refl) g
constant_front text _ k l ts r v s' is h = absurd h

pub operand_front : (text : List ℕ) (t : Sort) (k : List Task) (l : Lexeme) (ts r : List Lexeme) (v s' : State) → l.sort ≡ t → NextGots text (look_up t (operand_lines k)) v ts s' r → OperandThen text (l ∷ ts) k v s' r
operand_front text Name k l ts r v s' is g = record { operand = operand.Name (spot_of text l); left = ts; state = v; reads = name_operand (name_here (ap is_name is)) refl; more = g }
operand_front text OwnName k l ts r v s' is g = record { operand = operand.Name (spot_of text l); left = ts; state = v; reads = name_operand (name_here (ap is_name is)) refl; more = g }
operand_front text This k l ts r v s' is g = record { operand = operand.This l.at; left = ts; state = v; reads = this_operand (here is) refl; more = g }
operand_front text t k l ts r v s' is h = constant_front text t k l ts r v s' is h

operand_alone : {text : List ℕ} {all r : List Lexeme} {s' : State} (o : Operand) (left : List Lexeme) (state : State) → OperandReads text o all left → Gots text [] state left s' r → (v : Operand) × OperandReads text v all r
operand_alone o left state h all_done = (o, h)

pub an_operand_read : (text : List ℕ) → Step text AnOperand
an_operand_read text t l ts r s v s' is h = let f = operand_front text t [] l ts r v s' is h in operand_alone f.operand f.left f.state f.reads f.more

-- a scalar and a name, and the tasks behind them
pub record ScalarThen (text : List ℕ) (all : List Lexeme) (k : List Task) (s s' : State) (r : List Lexeme) : Type 0 where
  pub scalar : Scalar
  pub behind : List Lexeme
  pub name : Lexeme
  pub left : List Lexeme
  pub state : State
  pub reads : ScalarReads scalar all behind
  pub named : IsName name behind left
  pub keeps : Keeps s state
  pub shorter : length left < length all
  pub more : Gots text k state left s' r

-- a value and a name, and the tasks behind them
pub record ValueThen (text : List ℕ) (all : List Lexeme) (k : List Task) (s s' : State) (r : List Lexeme) : Type 0 where
  pub value : ValueType Spelled
  pub behind : List Lexeme
  pub name : Lexeme
  pub left : List Lexeme
  pub state : State
  pub reads : ValueReads text value all behind
  pub named : IsName name behind left
  pub keeps : Keeps s state
  pub shorter : length left < length all
  pub more : Gots text k state left s' r

scalar_then : {text : List ℕ} {all behind left : List Lexeme} {n : Lexeme} {k : List Task} {s s' state : State} {r : List Lexeme} (x : Scalar) → ScalarReads x all behind → IsName n behind left → Keeps s state → length left < length all → Gots text k state left s' r → ScalarThen text all k s s' r
scalar_then {behind = behind} {left = left} {n = n} {state = state} x h i ks lt g = record { scalar = x; behind = behind; name = n; left = left; state = state; reads = h; named = i; keeps = ks; shorter = lt; more = g }

pub value_of : {text : List ℕ} {all : List Lexeme} {k : List Task} {s s' : State} {r : List Lexeme} → ScalarThen text all k s s' r → ValueThen text all k s s' r
value_of f = record { value = value.Number f.scalar; behind = f.behind; name = f.name; left = f.left; state = f.state; reads = a_scalar f.reads; named = f.named; keeps = f.keeps; shorter = f.shorter; more = f.more }

pub an_unsigned_read : (text : List ℕ) → Step text UnsignedName
an_unsigned_read text Char l ts r s v s' is (one_done n _ _ all_done) = λ u all h. (scalar.UChar, ts, n.0, an_unsigned_char h (here is), n.1)
an_unsigned_read text Short l ts r s v s' is (one_done n _ _ all_done) = λ u all h. (scalar.UShort, ts, n.0, an_unsigned_short h (here is), n.1)
an_unsigned_read text Int l ts r s v s' is (one_done n _ _ all_done) = λ u all h. (scalar.UInt, ts, n.0, an_unsigned_int h (here is), n.1)
an_unsigned_read text Long l ts r s v s' is (one_done (just_name n i) _ _ all_done) = λ u all h. (scalar.ULong, ts, n, an_unsigned_long h (here is), i)
an_unsigned_read text Long l ts r s v s' is (one_done (long_name {a = a} m n j i) _ _ all_done) = λ u all h. (scalar.ULongLong, a, n, an_unsigned_long_long h (here is) j, i)
an_unsigned_read text Name l ts r s v s' is all_done = λ u all h. (scalar.UInt, l ∷ ts, l, an_unsigned h, name_here (ap is_name is))
an_unsigned_read text OwnName l ts r s v s' is all_done = λ u all h. (scalar.UInt, l ∷ ts, l, an_unsigned h, name_here (ap is_name is))
an_unsigned_read text _ l ts r s v s' is h = absurd h

pub a_long_read : (text : List ℕ) → Step text LongName
a_long_read text Long l ts r s v s' is (one_done n _ _ all_done) = long_name l n.0 (here is) n.1
a_long_read text Name l ts r s v s' is all_done = just_name l (name_here (ap is_name is))
a_long_read text OwnName l ts r s v s' is all_done = just_name l (name_here (ap is_name is))
a_long_read text _ l ts r s v s' is h = absurd h

pub scalar_front : (text : List ℕ) (t : Sort) (k : List Task) (l : Lexeme) (ts r : List Lexeme) (v s' : State) → l.sort ≡ t → NextGots text (look_up t (scalar_lines k)) v ts s' r → ScalarThen text (l ∷ ts) k v s' r
scalar_front text Boolean k l ts r v s' is (one_done n ks lt g) = scalar_then scalar.Bool (a_bool (here is)) n.1 ks (omega arith) g
scalar_front text Char k l ts r v s' is (one_done n ks lt g) = scalar_then scalar.Char (a_char (here is)) n.1 ks (omega arith) g
scalar_front text Short k l ts r v s' is (one_done n ks lt g) = scalar_then scalar.Short (a_short (here is)) n.1 ks (omega arith) g
scalar_front text Int k l ts r v s' is (one_done n ks lt g) = scalar_then scalar.Int (an_int (here is)) n.1 ks (omega arith) g
scalar_front text Long k l ts r v s' is (one_done (just_name n i) ks lt g) = scalar_then scalar.Long (a_long (here is)) i ks (omega arith) g
scalar_front text Long k l ts r v s' is (one_done (long_name m n j i) ks lt g) = scalar_then scalar.LongLong (a_long_long (here is) j) i ks (omega arith) g
scalar_front text Signed k l ts r v s' is (one_done m kt lu (one_done n ks lt g)) = scalar_then scalar.SChar (a_signed_char (here is) m.1) n.1 (λ e. ks (kt e)) (omega arith) g
scalar_front text Unsigned k l ts r v s' is (one_done f ks lt g) = let x = f l (l ∷ ts) (here is) in scalar_then x.0 x.3 x.4 ks (omega arith) g
scalar_front text _ k l ts r v s' is h = absurd h

pointer_then : {text : List ℕ} {l : Lexeme} {ts : List Lexeme} {k : List Task} {v s' : State} {r : List Lexeme} → is_name l.sort ≡ true → Gots text (Only Star ∷ AName ∷ k) v ts s' r → ValueThen text (l ∷ ts) k v s' r
pointer_then {text = text} {l = l} is (one_done {a = a} m kt lu (one_done {v = state} {a = left} n ks lt g)) =
    record { value = value.Pointer (bytes_of text l); behind = a; name = n.0; left = left; state = state; reads = a_class_pointer (name_here is) m.1 refl; named = n.1; keeps = λ e. ks (kt e); shorter = omega arith; more = g }

pub value_front : (text : List ℕ) (t : Sort) (k : List Task) (l : Lexeme) (ts r : List Lexeme) (v s' : State) → l.sort ≡ t → NextGots text (look_up t (value_lines k)) v ts s' r → ValueThen text (l ∷ ts) k v s' r
value_front text Name k l ts r v s' is g = pointer_then (ap is_name is) g
value_front text OwnName k l ts r v s' is g = pointer_then (ap is_name is) g
value_front text t k l ts r v s' is h = value_of (scalar_front text t k l ts r v s' is h)
