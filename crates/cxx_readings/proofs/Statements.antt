-- Statements and blocks behind the token that begins them.
use Rattle.std.proofs.Common.{◌≡◌, ℕ, suc, ◌^◌, ◌<◌, ◌≤◌, inl, inr, List, [], ◌∷◌, length, refl, ap, arith}
use Rattle.cxx_grammar.specs.declared.sort.Sort.{Sort}
use Rattle.cxx_grammar.specs.declared.sort.Sort.TheVariants.{Return, Delete, If, Else, While, This, DynamicCast, Typeid, Print, Dump, Name, OwnName, OpenBlock, CloseBrace, OpenParen, CloseParen, Semicolon, Star, Assign, Arrow}
use Rattle.cxx_grammar.specs.declared.sort.Lexeme.{Lexeme}
use Rattle.cxx_grammar.specs.Sorts.{is_name}
use Rattle.cxx_grammar.specs.Front.{Is, IsName}
use Rattle.cxx_grammar.specs.Event.{State}
use Rattle.cxx_grammar.specs.Table.{Only, InitEnd, AfterName, PrintEnd, ABlock, StatementsEnd, ElseEnd, after}
use Rattle.cxx_grammar.specs.Lexemes.{bytes_of}
use Rattle.cxx_hierarchy.specs.declared.records.ValueType.{ValueType}
use Rattle.cxx_hierarchy.specs.declared.records.ValueType.TheVariants as value
use Rattle.cxx_syntax.specs.declared.tree.PointerText.TheVariants as pointer
use Rattle.cxx_syntax.specs.declared.tree.Operand.{Operand}
use Rattle.cxx_syntax.specs.declared.tree.StatementKind.{StatementKind, If', None', Some'}
use Rattle.cxx_syntax.specs.declared.tree.StatementKind as kind
use Rattle.cxx_syntax.specs.Operands.{spot_of, a_name, a_this, OperandReads}
use Rattle.cxx_syntax.specs.Statements.{ValueReads, a_class_pointer, a_body, no_statement, one_statement, a_declaration, an_assignment, a_copy, a_delete, an_if, an_if_else, a_while, a_return, a_print, a_print_type, a_print_view, a_dump}
use Rattle.cxx_readings.proofs.Vectors.{some_body}
use Rattle.cxx_readings.proofs.Meanings.{AStatement, Closes, ABody, Gots, all_done, one_done, NextGots, Step}
use Rattle.cxx_readings.proofs.Fronts.{here, name_here, first_here, name_first, ValueThen, value_of, scalar_front, operand_front}
use Rattle.cxx_readings.proofs.Rights.{made, begun}

-- statements behind a name
pub after_name : (text : List ℕ) → Step text AfterName
after_name text Star l ts r s v s' is (one_done m _ _ (one_done i _ _ all_done)) =
    λ n all h. (let k : StatementKind = kind.Declare (value.Pointer (bytes_of text n)) n.at (spot_of text m.0) i.0 in
    (made k n, a_declaration (name_first h) (a_class_pointer h (here is) refl) m.1 i.3 i.4 refl refl (begun k n)))
after_name text Assign l ts r s v s' is (one_done g _ _ all_done) =
    λ n all h. (let k : StatementKind = kind.Assign (spot_of text n) g.0 in (made k n, an_assignment h (here is) g.3 g.4 refl (begun k n)))
after_name text Arrow l ts r s v s' is (one_done m _ _ (one_done g _ _ all_done)) =
    λ n all h. g (pointer.Name (spot_of text n)) all (l ∷ ts) ts l m.0 (a_name h refl) (here is) m.1
after_name text _ l ts r s v s' is h = absurd h

-- statements behind "print" "("
printed : {text : List ℕ} {k o : Lexeme} {all a b left r : List Lexeme} {state s' : State} (u : Operand) → Is Print k all a → Is OpenParen o a b → OperandReads text u b left → Gots text (Only CloseParen ∷ Only Semicolon ∷ []) state left s' r → AStatement text all r
printed {k = k} u hk ho hu (one_done c _ _ (one_done z _ _ all_done)) = (made (kind.Print u) k, a_print hk ho hu c.1 z.1 (begun (kind.Print u) k))

pub print_read : (text : List ℕ) → Step text PrintEnd
print_read text Typeid l ts r s v s' is (one_done u _ _ (one_done m _ _ (one_done p _ _ (one_done y _ _ (one_done c _ _ (one_done z _ _ all_done)))))) =
    λ k o all a hk ho. (made (kind.PrintType p.0) k, a_print_type hk ho (here is) u.1 m.1 p.1 y.1 c.1 z.1 (begun (kind.PrintType p.0) k))
print_read text DynamicCast l ts r s v s' is (one_done n _ _ (one_done w _ _ (one_done m _ _ (one_done g _ _ (one_done u _ _ (one_done p _ _ (one_done y _ _ (one_done c _ _ (one_done z _ _ all_done))))))))) =
    λ k o all a hk ho. (made (kind.PrintView p.0) k, a_print_view hk ho (here is) n.1 w.1 m.1 g.1 u.1 p.1 y.1 c.1 z.1 (begun (kind.PrintView p.0) k))
print_read text t l ts r s v s' is h =
    λ k o all a hk ho. (let f = operand_front text t (Only CloseParen ∷ Only Semicolon ∷ []) l ts r v s' is h in printed f.operand hk ho f.reads f.more)

-- one statement more
more : {text : List ℕ} {n m : ℕ} {all a r : List Lexeme} → AStatement text all a → Closes text m a r → suc m ≤ n → Closes text n all r
more x (ss, b, z, h, i, le) lt = (x.0 ∷ ss, b, z, one_statement x.1 h, i, omega (arith, le, lt))

declared_more : {text : List ℕ} {l n : Lexeme} {ts b left r : List Lexeme} {state s' : State} (u : ValueType (List ℕ)) → ValueReads text u (l ∷ ts) b → IsName n b left → length left < length (l ∷ ts) → Gots text (InitEnd ∷ StatementsEnd ∷ []) state left s' r → Closes text (length (l ∷ ts)) (l ∷ ts) r
declared_more {text = text} {l = l} {n = n} u h j sh (one_done i _ lt (one_done g _ _ all_done)) =
    let k : StatementKind = kind.Declare u l.at (spot_of text n) i.0 in
    more (made k l, a_declaration first_here h j i.3 i.4 refl refl (begun k l)) g (omega (arith, lt, sh))

declared : {text : List ℕ} {l : Lexeme} {ts r : List Lexeme} {s s' : State} → ValueThen text (l ∷ ts) (InitEnd ∷ StatementsEnd ∷ []) s s' r → Closes text (length (l ∷ ts)) (l ∷ ts) r
declared f = declared_more f.value f.reads f.named f.shorter f.more

pub statements : (text : List ℕ) → Step text StatementsEnd
statements text CloseBrace l ts r s v s' is all_done = ([], l ∷ ts, l, no_statement, here is, omega arith)
statements text Name l ts r s v s' is (one_done g _ lt (one_done h _ _ all_done)) = more (g l (l ∷ ts) (name_here (ap is_name is))) h (omega (arith, lt))
statements text OwnName l ts r s v s' is (one_done g _ lt (one_done h _ _ all_done)) = more (g l (l ∷ ts) (name_here (ap is_name is))) h (omega (arith, lt))
statements text This l ts r s v s' is (one_done w _ l1 (one_done n _ l2 (one_done g _ l3 (one_done h _ _ all_done)))) =
    more (g (pointer.This l.at) (l ∷ ts) ts _ w.0 n.0 (a_this (here is) refl) w.1 n.1) h (omega (arith, l1, l2, l3))
statements text Star l ts r s v s' is (one_done p _ l1 (one_done w _ l2 (one_done n _ l3 (one_done q _ l4 (one_done z _ l5 (one_done h _ _ all_done)))))) =
    more (made (kind.Copy p.0 q.0) l, a_copy (here is) p.1 w.1 n.1 q.1 z.1 (begun (kind.Copy p.0 q.0) l)) h (omega (arith, l1, l2, l3, l4, l5))
statements text Delete l ts r s v s' is (one_done p _ l1 (one_done z _ l2 (one_done h _ _ all_done))) =
    more (made (kind.Delete p.0) l, a_delete (here is) p.1 z.1 (begun (kind.Delete p.0) l)) h (omega (arith, l1, l2))
statements text If l ts r s v s' is (one_done o _ l1 (one_done u _ l2 (one_done c _ l3 (one_done b _ l4 (one_done (inl h) _ _ all_done))))) =
    more (made (If' u.0 b.0 None') l, an_if (here is) o.1 u.1 c.1 b.1 (begun (If' u.0 b.0 None') l)) h (omega (arith, l1, l2, l3, l4))
statements text If l ts r s v s' is (one_done o _ l1 (one_done u _ l2 (one_done c _ l3 (one_done b _ l4 (one_done (inr (w, e, x, y, i, j, h)) _ _ all_done))))) =
    more (made (If' u.0 b.0 (Some' e)) l, an_if_else (here is) o.1 u.1 c.1 b.1 i j (begun (If' u.0 b.0 (Some' e)) l)) h (omega (arith, l1, l2, l3, l4))
statements text While l ts r s v s' is (one_done o _ l1 (one_done u _ l2 (one_done c _ l3 (one_done b _ l4 (one_done h _ _ all_done))))) =
    more (made (kind.While u.0 b.0) l, a_while (here is) o.1 u.1 c.1 b.1 (begun (kind.While u.0 b.0) l)) h (omega (arith, l1, l2, l3, l4))
statements text Return l ts r s v s' is (one_done u _ l1 (one_done h _ _ all_done)) =
    more (made (kind.Return u.0) l, a_return (here is) u.3 u.4 (begun (kind.Return u.0) l)) h (omega (arith, l1))
statements text Print l ts r s v s' is (one_done o _ l1 (one_done g _ l2 (one_done h _ _ all_done))) =
    more (g l o.0 (l ∷ ts) ts (here is) o.1) h (omega (arith, l1, l2))
statements text Dump l ts r s v s' is (one_done o _ l1 (one_done p _ l2 (one_done c _ l3 (one_done z _ l4 (one_done h _ _ all_done))))) =
    more (made (kind.Dump p.0) l, a_dump (here is) o.1 p.1 c.1 z.1 (begun (kind.Dump p.0) l)) h (omega (arith, l1, l2, l3, l4))
statements text t l ts r s v s' is h = declared (value_of (scalar_front text t (InitEnd ∷ StatementsEnd ∷ []) l ts r v s' is h))

longer : {text : List ℕ} {n m : ℕ} {a r : List Lexeme} → Closes text m a r → m ≤ n → Closes text n a r
longer (ss, b, z, h, i, le) lt = (ss, b, z, h, i, omega (arith, le, lt))

pub else_read : (text : List ℕ) → Step text ElseEnd
else_read text Else l ts r s v s' is (one_done b _ lt (one_done h _ _ all_done)) = inr (l, b.0, ts, _, here is, b.1, longer h (omega (arith, lt)))
else_read text t l ts r s v s' is h = inl (statements text t l ts r s v s' is h)

-- a block, by its statements
pub block_of : {text : List ℕ} {l : Lexeme} {ts r : List Lexeme} → length (l ∷ ts) < 2 ^ 63 → l.sort ≡ OpenBlock → Closes text (length ts) ts r → ABody text (l ∷ ts) r
block_of {l = l} bound is (ss, a, z, h, i, le) =
    let b = some_body ss (omega (arith, bound, le)) l.line z.line in
    (b.0, a_body {b = b.0} (here is) h i b.1 b.2 b.3)

pub block : (text : List ℕ) (t : Sort) (l : Lexeme) (ts r : List Lexeme) (s v s' : State) → length (l ∷ ts) < 2 ^ 63 → l.sort ≡ t → NextGots text (after ABlock t) v ts s' r → ABody text (l ∷ ts) r
block text OpenBlock l ts r s v s' bound is (one_done h _ _ all_done) = block_of bound is h
block text _ l ts r s v s' bound is h = absurd h
