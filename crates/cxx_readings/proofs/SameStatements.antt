-- A list has one body at its front.
use Rattle.std.proofs.Common.{◌≡◌, ℕ, IsTrue, nat_lt, List, Option, Some, refl, ap, sym, ◌∙◌, subst}
use Rattle.cxx_grammar.specs.declared.sort.Sort.{Sort}
use Rattle.cxx_grammar.specs.declared.sort.Sort.TheVariants.{Name, OwnName, This, Boolean, Char, Short, Int, Long, Signed, Unsigned, OpenParen, DoubleColon, Semicolon, Star, Arrow, Assign, Delete, If, Else, While, Return, Print, Typeid, DynamicCast, Dump, CloseBrace}
use Rattle.cxx_grammar.specs.declared.sort.Lexeme.{Lexeme}
use Rattle.cxx_hierarchy.specs.declared.records.ValueType.{ValueType}
use Rattle.cxx_syntax.specs.declared.tree.Operand.{Operand}
use Rattle.cxx_syntax.specs.declared.tree.Right.{Right}
use Rattle.cxx_syntax.specs.declared.tree.Statement.{Statement}
use Rattle.cxx_syntax.specs.declared.tree.StatementKind.{StatementKind, If', None', Some'}
use Rattle.cxx_syntax.specs.declared.tree.StatementKind as kind
use Rattle.cxx_syntax.specs.declared.tree.BodyTree.{BodyTree, out-BodyTree}
use Rattle.cxx_syntax.specs.Statements.{ValueReads, a_scalar, a_class_pointer, InitReads, no_init, an_init, ResultReads, no_result, a_result, BeginsAt, BodyReads, a_body, StatementsRead, no_statement, one_statement, StatementReads, a_declaration, an_assignment, a_write, a_copy, a_call_statement, a_delete, an_if, an_if_else, a_while, a_return, a_print, a_print_type, a_print_view, a_dump}
use Rattle.cxx_syntax.specs.SameTrees.{SamePlace, SameBody, same_body, SameStatements, no_statements, more_statements, SameStatement, same_plain, same_if, same_if_else, same_while}
use Rattle.cxx_readings.proofs.Heads.{head, tail, rests, firsts, by_is, by_name, clash}
use Rattle.cxx_readings.proofs.Leaves.{pointer_same, operand_same, operand_by}
use Rattle.cxx_readings.proofs.SamePlaces.{spots, dots_mark, place_same, call_same}
use Rattle.cxx_readings.proofs.SameRights.{third, fourth, behind_place, behind_call, right_same}
use Rattle.cxx_readings.proofs.SameValues.{scalar_by, value_same}

is_assign : Sort → ℕ
is_assign Assign = 1
is_assign _ = 0

init_same : {text : List ℕ} {v w : Option Right} {ts us r s : List Lexeme} → ts ≡ us → head r ≡ Semicolon → head s ≡ Semicolon → InitReads text v ts r → InitReads text w us s → (v ≡ w) × (r ≡ s)
unfolding is_assign
init_same e a b no_init no_init = (refl, e)
init_same e a b no_init (an_init i h) = absurd (let f : 0 ≡ 1 = clash (λ us. is_assign (head us)) e (ap is_assign a) (by_is is_assign i) in cc)
init_same e a b (an_init i h) no_init = absurd (let f : 1 ≡ 0 = clash (λ us. is_assign (head us)) e (by_is is_assign i) (ap is_assign b) in cc)
init_same e a b (an_init i h) (an_init j g) = let x = right_same (rests e i.front j.front) a b h g in (ap (λ v. Some v) x.0, x.1)

is_semicolon : Sort → ℕ
is_semicolon Semicolon = 1
is_semicolon _ = 0

result_same : {text : List ℕ} {v w : Option Operand} {ts us r s : List Lexeme} → ts ≡ us → head r ≡ Semicolon → head s ≡ Semicolon → ResultReads text v ts r → ResultReads text w us s → (v ≡ w) × (r ≡ s)
unfolding is_semicolon
result_same e a b no_result no_result = (refl, e)
result_same e a b no_result (a_result h) =
    absurd (let f : 1 ≡ 0 = clash (λ us. is_semicolon (head us)) e (ap is_semicolon a) (operand_by is_semicolon 0 refl refl refl refl refl refl refl refl h) in cc)
result_same e a b (a_result h) no_result =
    absurd (let f : 0 ≡ 1 = clash (λ us. is_semicolon (head us)) e (operand_by is_semicolon 0 refl refl refl refl refl refl refl refl h) (ap is_semicolon b) in cc)
result_same e a b (a_result h) (a_result g) = let x = operand_same e h g in (ap (λ v. Some v) x.0, x.1)

-- the forms of a statement, by its first four tokens; the two forms of "if" are one here
abbrev member_kind : Sort → ℕ
member_kind OpenParen = 4
member_kind DoubleColon = 4
member_kind _ = 2

abbrev name_kind : Sort → Sort → ℕ
name_kind Star y = 0
name_kind Assign y = 1
name_kind Arrow y = member_kind y
name_kind _ y = 14

abbrev print_kind : Sort → ℕ
print_kind Typeid = 10
print_kind DynamicCast = 11
print_kind _ = 9

abbrev statement_kind : Sort → Sort → Sort → Sort → ℕ
statement_kind Name x t y = name_kind x y
statement_kind OwnName x t y = name_kind x y
statement_kind This x t y = name_kind x y
statement_kind Boolean x t y = 0
statement_kind Char x t y = 0
statement_kind Short x t y = 0
statement_kind Int x t y = 0
statement_kind Long x t y = 0
statement_kind Signed x t y = 0
statement_kind Unsigned x t y = 0
statement_kind Star x t y = 3
statement_kind Delete x t y = 5
statement_kind If x t y = 6
statement_kind While x t y = 7
statement_kind Return x t y = 8
statement_kind Print x t y = print_kind t
statement_kind Dump x t y = 12
statement_kind _ x t y = 14

abbrev statement_at : List Lexeme → ℕ
statement_at ts = statement_kind (head ts) (head (tail ts)) (third ts) (fourth ts)

kind_of : {text : List ℕ} {s : Statement} {ts r : List Lexeme} → StatementReads text s ts r → ℕ
kind_of (a_declaration f v n i z p x b) = 0
kind_of (an_assignment n e v z x b) = 1
kind_of (a_write f p e v z b) = 2
kind_of (a_copy m p w n q z b) = 3
kind_of (a_call_statement f c z b) = 4
kind_of (a_delete k p z b) = 5
kind_of (an_if k o v z t b) = 6
kind_of (an_if_else k o v z t w u b) = 6
kind_of (a_while k o v z t b) = 7
kind_of (a_return k v z b) = 8
kind_of (a_print k o v z e b) = 9
kind_of (a_print_type k o t u m p y z x b) = 10
kind_of (a_print_view k o t l v m q u p y z x b) = 11
kind_of (a_dump k o p z x b) = 12

value_front : {text : List ℕ} {v : ValueType (List ℕ)} {ts r : List Lexeme} → ValueReads text v ts r → statement_at ts ≡ 0
value_front {ts = ts} (a_scalar h) = scalar_by (λ s. statement_kind s (head (tail ts)) (third ts) (fourth ts)) 0 refl refl refl refl refl refl refl h
value_front {ts = ts} (a_class_pointer i j p) =
    let f : name_kind (head (tail ts)) (fourth ts) ≡ 0 = ap (λ us. name_kind (head (tail us)) (fourth ts)) i.front ∙ by_is (λ s. name_kind s (fourth ts)) j in
    by_name (λ s. statement_kind s (head (tail ts)) (third ts) (fourth ts)) 0 f f i

statement_front : {text : List ℕ} {s : Statement} {ts r : List Lexeme} (h : StatementReads text s ts r) → statement_at ts ≡ kind_of h
unfolding kind_of
statement_front (a_declaration f v n i z p x b) = value_front v
statement_front {ts = ts} (an_assignment n e v z x b) =
    let f : name_kind (head (tail ts)) (fourth ts) ≡ 1 = ap (λ us. name_kind (head (tail us)) (fourth ts)) n.front ∙ by_is (λ s. name_kind s (fourth ts)) e in
    by_name (λ s. statement_kind s (head (tail ts)) (third ts) (fourth ts)) 1 f f n
statement_front {ts = ts} (a_write f p e v z b) =
    behind_place (λ s x y. statement_kind s x (third ts) y) 2 p (λ s. refl) (λ s. refl) refl refl (by_is member_kind e)
statement_front {ts = ts} (a_call_statement f c z b) =
    behind_call (λ s x y. statement_kind s x (third ts) y) 4 c (λ s. refl) (λ s. refl) refl refl
statement_front {ts = ts} (a_copy k p w n q z b) = by_is (λ s. statement_kind s (head (tail ts)) (third ts) (fourth ts)) k
statement_front {ts = ts} (a_delete k p z b) = by_is (λ s. statement_kind s (head (tail ts)) (third ts) (fourth ts)) k
statement_front {ts = ts} (an_if k o v z t b) = by_is (λ s. statement_kind s (head (tail ts)) (third ts) (fourth ts)) k
statement_front {ts = ts} (an_if_else k o v z t w u b) = by_is (λ s. statement_kind s (head (tail ts)) (third ts) (fourth ts)) k
statement_front {ts = ts} (a_while k o v z t b) = by_is (λ s. statement_kind s (head (tail ts)) (third ts) (fourth ts)) k
statement_front {ts = ts} (a_return k v z b) = by_is (λ s. statement_kind s (head (tail ts)) (third ts) (fourth ts)) k
statement_front {ts = ts} (a_dump k o p z x b) = by_is (λ s. statement_kind s (head (tail ts)) (third ts) (fourth ts)) k
statement_front {ts = ts} (a_print k o v z e b) =
    by_is (λ s. statement_kind s (head (tail ts)) (third ts) (fourth ts)) k ∙
    (ap (λ us. print_kind (head (tail us))) (ap tail k.front) ∙ (ap (λ us. print_kind (head us)) (ap tail o.front) ∙ operand_by print_kind 9 refl refl refl refl refl refl refl refl v))
statement_front {ts = ts} (a_print_type k o t u m p y z x b) =
    by_is (λ s. statement_kind s (head (tail ts)) (third ts) (fourth ts)) k ∙
    (ap (λ us. print_kind (head (tail us))) (ap tail k.front) ∙ (ap (λ us. print_kind (head us)) (ap tail o.front) ∙ by_is print_kind t))
statement_front {ts = ts} (a_print_view k o t l v m q u p y z x b) =
    by_is (λ s. statement_kind s (head (tail ts)) (third ts) (fourth ts)) k ∙
    (ap (λ us. print_kind (head (tail us))) (ap tail k.front) ∙ (ap (λ us. print_kind (head us)) (ap tail o.front) ∙ by_is print_kind t))

below : {text : List ℕ} {s : Statement} {ts r : List Lexeme} (h : StatementReads text s ts r) → IsTrue (nat_lt (kind_of h) 14)
unfolding kind_of
below (a_dump k o p z x b) = refl
below _ = refl

-- no statement begins with what closes a block or with "else"
abbrev begins_none : Sort → ℕ
begins_none CloseBrace = 1
begins_none Else = 2
begins_none _ = 0

no_such : (s x t y : Sort) (k : ℕ) → statement_kind s x t y ≡ k → IsTrue (nat_lt k 14) → begins_none s ≡ 0
no_such CloseBrace x t y k e h = absurd (let f : IsTrue (nat_lt 14 14) = subst (λ n. IsTrue (nat_lt n 14)) (sym e) h in cc)
no_such Else x t y k e h = absurd (let f : IsTrue (nat_lt 14 14) = subst (λ n. IsTrue (nat_lt n 14)) (sym e) h in cc)
no_such _ x t y k e h = refl

begins : {text : List ℕ} {s : Statement} {ts r : List Lexeme} → StatementReads text s ts r → begins_none (head ts) ≡ 0
begins {ts = ts} h = no_such (head ts) (head (tail ts)) (third ts) (fourth ts) (kind_of h) (statement_front h) (below h)

abbrev is_else : Sort → ℕ
is_else Else = 1
is_else _ = 0

no_else : (s : Sort) → begins_none s ≡ 0 → is_else s ≡ 0
no_else Else h = absurd (cc)
no_else _ h = refl

statements_front : {text : List ℕ} {ss : List Statement} {ts r : List Lexeme} → head r ≡ CloseBrace → StatementsRead text ss ts r → is_else (head ts) ≡ 0
statements_front e no_statement = ap is_else e
statements_front {ts = ts} e (one_statement h g) = no_else (head ts) (begins h)

-- places
same_place : {s t : Statement} {l m : Lexeme} {k j : StatementKind} → l ≡ m → BeginsAt s l k → BeginsAt t m j → SamePlace s t
same_place e b c = record { at = b.at ∙ (ap (λ n. n.at) e ∙ sym c.at); line = b.line ∙ (ap (λ n. n.line) e ∙ sym c.line) }

plain : {s t : Statement} {l m : Lexeme} {k j : StatementKind} → l ≡ m → k ≡ j → BeginsAt s l k → BeginsAt t m j → SameStatement s t
plain e h b c = same_plain (same_place e b c) (b.kind ∙ (h ∙ sym c.kind))

mutual
  unfolding kind_of

  pub body_same : {text : List ℕ} {a b : BodyTree} {ts us r s : List Lexeme} → ts ≡ us → BodyReads text a ts r → BodyReads text b us s → SameBody a b × (r ≡ s)
  body_same {a = p} {b = q} e (a_body o x z i l c) (a_body {ss = ss'} o' x' z' i' l' c') =
      let f = firsts e o.front o'.front in
      let y = statements_same (rests e o.front o'.front) (by_is (λ s. s) z) (by_is (λ s. s) z') x x' in
      let g = firsts y.1 z.front z'.front in
      let k = subst (λ ss. SameStatements (out-BodyTree p).statements.items ss) (sym i') (subst (λ ss. SameStatements ss ss') (sym i) y.0) in
      (same_body k (l ∙ (ap (λ n. n.line) f ∙ sym l')) (c ∙ (ap (λ n. n.line) g ∙ sym c')), rests y.1 z.front z'.front)

  statements_same : {text : List ℕ} {ss us : List Statement} {ts vs r s : List Lexeme} → ts ≡ vs → head r ≡ CloseBrace → head s ≡ CloseBrace →
      StatementsRead text ss ts r → StatementsRead text us vs s → SameStatements ss us × (r ≡ s)
  statements_same e a b no_statement no_statement = (no_statements, e)
  statements_same e a b no_statement (one_statement h g) = absurd (let f : 1 ≡ 0 = clash (λ us. begins_none (head us)) e (ap begins_none a) (begins h) in cc)
  statements_same e a b (one_statement h g) no_statement = absurd (let f : 0 ≡ 1 = clash (λ us. begins_none (head us)) e (begins h) (ap begins_none b) in cc)
  statements_same e a b (one_statement h g) (one_statement h' g') =
      let x = statement_same e (statements_front a g) (statements_front b g') h h' in
      let y = statements_same x.1 a b g g' in
      (more_statements x.0 y.0, y.1)

  statement_same : {text : List ℕ} {u v : Statement} {ts us r s : List Lexeme} → ts ≡ us → is_else (head r) ≡ 0 → is_else (head s) ≡ 0 →
      StatementReads text u ts r → StatementReads text v us s → SameStatement u v × (r ≡ s)
  statement_same {text = text} e a b (a_declaration f v n i z p x k) (a_declaration f' v' n' i' z' p' x' k') =
      let l = firsts e f.front f'.front in
      let y = value_same e n n' v v' in
      let m = firsts y.1 n.front n'.front in
      let g = init_same (rests y.1 n.front n'.front) (by_is (λ s. s) z) (by_is (λ s. s) z') i i' in
      let w = spots text m x x' in
      let q = p ∙ (ap (λ j. j.at) l ∙ sym p') in
      (plain l (cc) k k', rests g.1 z.front z'.front)
  statement_same {text = text} e a b (an_assignment n i v z x k) (an_assignment n' i' v' z' x' k') =
      let l = firsts e n.front n'.front in let t = rests (rests e n.front n'.front) i.front i'.front in
      let y = right_same t (by_is (λ s. s) z) (by_is (λ s. s) z') v v' in
      let w = spots text l x x' in
      (plain l (cc) k k', rests y.1 z.front z'.front)
  statement_same e a b (a_write f p i v z k) (a_write f' p' i' v' z' k') =
      let l = firsts e f.front f'.front in
      let x = place_same e (by_is dots_mark i) (by_is dots_mark i') p p' in
      let y = operand_same (rests x.1 i.front i'.front) v v' in
      (plain l (cc) k k', rests y.1 z.front z'.front)
  statement_same e a b (a_copy m p w n q z k) (a_copy m' p' w' n' q' z' k') =
      let l = firsts e m.front m'.front in
      let x = pointer_same (rests e m.front m'.front) p p' in
      let y = pointer_same (rests (rests x.1 w.front w'.front) n.front n'.front) q q' in
      (plain l (cc) k k', rests y.1 z.front z'.front)
  statement_same e a b (a_call_statement f c z k) (a_call_statement f' c' z' k') =
      let l = firsts e f.front f'.front in let x = call_same e c c' in
      (plain l (ap kind.Call x.0) k k', rests x.1 z.front z'.front)
  statement_same e a b (a_delete d p z k) (a_delete d' p' z' k') =
      let l = firsts e d.front d'.front in let x = pointer_same (rests e d.front d'.front) p p' in
      (plain l (ap kind.Delete x.0) k k', rests x.1 z.front z'.front)
  statement_same e a b (an_if i o v z t k) (an_if i' o' v' z' t' k') =
      let l = firsts e i.front i'.front in
      let x = operand_same (rests (rests e i.front i'.front) o.front o'.front) v v' in
      let y = body_same (rests x.1 z.front z'.front) t t' in
      (same_if (same_place l k k') (k.kind ∙ cc) k'.kind y.0, y.1)
  statement_same e a b (an_if i o v z t k) (an_if_else i' o' v' z' t' w' u' k') =
      let x = operand_same (rests (rests e i.front i'.front) o.front o'.front) v v' in
      let y = body_same (rests x.1 z.front z'.front) t t' in
      absurd (let f : 0 ≡ 1 = clash (λ us. is_else (head us)) y.1 a (by_is is_else w') in cc)
  statement_same e a b (an_if_else i o v z t w u k) (an_if i' o' v' z' t' k') =
      let x = operand_same (rests (rests e i.front i'.front) o.front o'.front) v v' in
      let y = body_same (rests x.1 z.front z'.front) t t' in
      absurd (let f : 1 ≡ 0 = clash (λ us. is_else (head us)) y.1 (by_is is_else w) b in cc)
  statement_same e a b (an_if_else i o v z t w u k) (an_if_else i' o' v' z' t' w' u' k') =
      let l = firsts e i.front i'.front in
      let x = operand_same (rests (rests e i.front i'.front) o.front o'.front) v v' in
      let y = body_same (rests x.1 z.front z'.front) t t' in
      let g = body_same (rests y.1 w.front w'.front) u u' in
      (same_if_else (same_place l k k') (k.kind ∙ cc) k'.kind y.0 g.0, g.1)
  statement_same e a b (a_while i o v z t k) (a_while i' o' v' z' t' k') =
      let l = firsts e i.front i'.front in
      let x = operand_same (rests (rests e i.front i'.front) o.front o'.front) v v' in
      let y = body_same (rests x.1 z.front z'.front) t t' in
      (same_while (same_place l k k') (k.kind ∙ cc) k'.kind y.0, y.1)
  statement_same e a b (a_return i v z k) (a_return i' v' z' k') =
      let l = firsts e i.front i'.front in let x = result_same (rests e i.front i'.front) (by_is (λ s. s) z) (by_is (λ s. s) z') v v' in
      (plain l (ap kind.Return x.0) k k', rests x.1 z.front z'.front)
  statement_same e a b (a_print i o v z c k) (a_print i' o' v' z' c' k') =
      let l = firsts e i.front i'.front in let x = operand_same (rests (rests e i.front i'.front) o.front o'.front) v v' in
      (plain l (ap kind.Print x.0) k k', rests (rests x.1 z.front z'.front) c.front c'.front)
  statement_same e a b (a_print_type i o t u m p y z x k) (a_print_type i' o' t' u' m' p' y' z' x' k') =
      let l = firsts e i.front i'.front in
      let f = rests (rests (rests (rests (rests e i.front i'.front) o.front o'.front) t.front t'.front) u.front u'.front) m.front m'.front in
      let g = pointer_same f p p' in
      (plain l (ap kind.PrintType g.0) k k', rests (rests (rests g.1 y.front y'.front) z.front z'.front) x.front x'.front)
  statement_same e a b (a_print_view i o t j v m q u p y z x k) (a_print_view i' o' t' j' v' m' q' u' p' y' z' x' k') =
      let l = firsts e i.front i'.front in
      let f = rests (rests (rests (rests (rests e i.front i'.front) o.front o'.front) t.front t'.front) j.front j'.front) v.front v'.front in
      let g = pointer_same (rests (rests (rests f m.front m'.front) q.front q'.front) u.front u'.front) p p' in
      (plain l (ap kind.PrintView g.0) k k', rests (rests (rests g.1 y.front y'.front) z.front z'.front) x.front x'.front)
  statement_same e a b (a_dump i o p z x k) (a_dump i' o' p' z' x' k') =
      let l = firsts e i.front i'.front in let g = pointer_same (rests (rests e i.front i'.front) o.front o'.front) p p' in
      (plain l (ap kind.Dump g.0) k k', rests (rests g.1 z.front z'.front) x.front x'.front)
  statement_same e a b h g = absurd (let f : kind_of h ≡ kind_of g = clash statement_at e (statement_front h) (statement_front g) in cc)
