-- The bodies of a source that tokens spell have fewer statements than tokens.
use Rattle.std.proofs.Common.{◌≡◌, ℕ, ◌+◌, ◌<◌, ◌≤◌, Bool, All, Option, Some, None, List, [], ◌∷◌, ◌++◌, length, ap, sym, ◌∙◌, subst, arith}
use Rattle.std.specs.Prelude.{filter_map, flat_map}
use Rattle.std.proofs.lemmas.List.Elements.{All-nil, All-cons, All-append, All-head}
use Rattle.cxx_grammar.specs.declared.sort.Lexeme.{Lexeme}
use Rattle.cxx_syntax.specs.declared.tree.BodyTree.{BodyTree}
use Rattle.cxx_syntax.specs.Statements.{BodyReads}
use Rattle.cxx_syntax.specs.declared.part.ClassPart.{ClassPart}
use Rattle.cxx_syntax.specs.declared.part.Item.{Item}
use Rattle.cxx_syntax.specs.declared.source_text.Body.{Body}
use Rattle.cxx_syntax.specs.declared.source_text.SourceText.{SourceText}
use Rattle.cxx_syntax.specs.Parts.{Spelled, PartReads, a_label, a_field, a_bit_field, a_function, a_pure_function, a_constructor, a_destructor, PartsRead, no_part, one_part}
use Rattle.cxx_syntax.specs.Definitions.{body_at, given_by_parts, bodies_of}
use Rattle.cxx_syntax.specs.Sources.{ItemReads, a_class, a_forward, a_global, a_main, ItemsRead, no_item, one_item, bodies_in, main_in, trees_in, AreItemsOf, SourceReads, a_source}
use Rattle.cxx_resolve.specs.Programs.{IsShort, IsShortMain, HasFewStatements}
use Rattle.cxx_resolve.proofs.Counting.{body_counted}
use Rattle.cxx_resolve.proofs.Shorter.{one_less, scalar_less, value_less}
use Rattle.cxx_resolve.proofs.ShorterParts.{bases_less, field_less, count_less, return_less, params_less, inits_less, virtual_less}

abbrev IsShortBody : ℕ → Body → Type 0
IsShortBody n b = IsShort n b.tree

abbrev AllShort : ℕ → List Body → Type 0
AllShort n bs = All (IsShortBody n) bs

body_less : {text : List ℕ} {t : BodyTree} {ts rest : List Lexeme} → BodyReads text t ts rest → length rest < length ts
body_less x = omega (arith, body_counted x)

short : {text : List ℕ} {t : BodyTree} {ts rest : List Lexeme} (n : ℕ) → BodyReads text t ts rest → length ts ≤ n → IsShort n t
short n x m = omega (arith, body_counted x, m)

none_short : (n : ℕ) → AllShort n []
none_short n = All-nil (IsShortBody n)

one_short : (n : ℕ) (b : Body) → IsShort n b.tree → AllShort n (b ∷ [])
one_short n b h = All-cons (IsShortBody n) b [] h (none_short n)

part_less : {text : List ℕ} {is_public : Bool} {p : ClassPart} {ts rest : List Lexeme} → PartReads text is_public p ts rest → length rest ≤ length ts
part_less (a_label w k) = omega (arith, one_less w.front, one_less k.front)
part_less (a_field f t n c z e g) = omega (arith, field_less t, one_less n.front, count_less c, one_less z.front)
part_less (a_bit_field f t n o w z e g) = omega (arith, scalar_less t, one_less n.front, one_less o.front, one_less w.front, one_less z.front)
part_less (a_function v f r n o ps z b e g) = omega (arith, virtual_less v, return_less r, one_less n.front, one_less o.front, params_less ps, one_less z.front, body_less b)
part_less (a_pure_function v f r n o ps z w q k e g) =
    omega (arith, one_less v.front, return_less r, one_less n.front, one_less o.front, params_less ps, one_less z.front, one_less w.front, one_less q.front, one_less k.front)
part_less (a_constructor n o z is b e) = omega (arith, one_less n.front, one_less o.front, one_less z.front, inits_less is, body_less b)
part_less (a_destructor v w n o z b e) = omega (arith, virtual_less v, one_less w.front, one_less n.front, one_less o.front, one_less z.front, body_less b)

part_short : {text : List ℕ} {is_public : Bool} {p : ClassPart} {ts rest : List Lexeme} (n : ℕ) (class : Spelled) (before : List ClassPart) → PartReads text is_public p ts rest → length ts ≤ n → AllShort n (body_at class before p)
part_short n class before (a_label w k) m = none_short n
part_short n class before (a_field f t x c z e g) m = none_short n
part_short n class before (a_bit_field f t x o w z e g) m = none_short n
part_short n class before (a_function v f r x o ps z b e g) m =
    one_short n _ (short n b (omega (arith, m, virtual_less v, return_less r, one_less x.front, one_less o.front, params_less ps, one_less z.front)))
part_short n class before (a_pure_function v f r x o ps z w q k e g) m = none_short n
part_short n class before (a_constructor x o z is b e) m = one_short n _ (short n b (omega (arith, m, one_less x.front, one_less o.front, one_less z.front, inits_less is)))
part_short n class before (a_destructor v w x o z b e) m = one_short n _ (short n b (omega (arith, m, virtual_less v, one_less w.front, one_less x.front, one_less o.front, one_less z.front)))

parts_less : {text : List ℕ} {is_public : Bool} {ps : List ClassPart} {ts rest : List Lexeme} → PartsRead text is_public ps ts rest → length rest ≤ length ts
parts_less no_part = omega arith
parts_less (one_part p ps) = omega (arith, part_less p, parts_less ps)

parts_short : {text : List ℕ} {is_public : Bool} {ps : List ClassPart} {ts rest : List Lexeme} (n : ℕ) (class : Spelled) (before : List ClassPart) → PartsRead text is_public ps ts rest → length ts ≤ n →
    AllShort n (given_by_parts (body_at class) before ps)
parts_short n class before no_part m = none_short n
parts_short n class before (one_part {p = p} {ps = ps} x xs) m =
    All-append (IsShortBody n) (body_at class before p) (given_by_parts (body_at class) (before ++ p ∷ []) ps) (part_short n class before x m)
    (parts_short n class (before ++ p ∷ []) xs (omega (arith, m, part_less x)))

item_less : {text : List ℕ} {i : Item} {ts rest : List Lexeme} → ItemReads text i ts rest → length rest ≤ length ts
item_less (a_class k n bs o ps z q e g) = omega (arith, one_less k.front, one_less n.front, bases_less bs, one_less o.front, parts_less ps, one_less z.front, one_less q.front)
item_less (a_forward k n q) = omega (arith, one_less k.front, one_less n.front, one_less q.front)
item_less (a_global f v n q e) = omega (arith, value_less v, one_less n.front, one_less q.front)
item_less (a_main w m o z b) = omega (arith, one_less w.front, one_less m.front, one_less o.front, one_less z.front, body_less b)

item_short : {text : List ℕ} {i : Item} {ts rest : List Lexeme} (n : ℕ) → ItemReads text i ts rest → length ts ≤ n → AllShort n (bodies_in i)
item_short n (a_class {bs = bs} k x bases o ps z q e g) m = subst (AllShort n) (sym g) (parts_short n _ [] ps (omega (arith, m, one_less k.front, one_less x.front, bases_less bases, one_less o.front)))
item_short n (a_forward k x q) m = none_short n
item_short n (a_global f v x q e) m = none_short n
item_short n (a_main w x o z b) m = none_short n

items_short : {text : List ℕ} {is : List Item} {ts rest : List Lexeme} (n : ℕ) → ItemsRead text is ts rest → length ts ≤ n → AllShort n (flat_map bodies_in is)
items_short n no_item m = none_short n
items_short n (one_item {i = i} {is = is} x xs) m = All-append (IsShortBody n) (bodies_in i) (flat_map bodies_in is) (item_short n x m) (items_short n xs (omega (arith, m, item_less x)))

trees_short : {text : List ℕ} {is : List Item} {ts rest : List Lexeme} (n : ℕ) → ItemsRead text is ts rest → length ts ≤ n → All (IsShort n) (filter_map main_in is)
trees_short n no_item m = All-nil (IsShort n)
trees_short n (one_item (a_class k x bs o ps z q e g) xs) m = trees_short n xs (omega (arith, m, one_less k.front, one_less x.front, bases_less bs, one_less o.front, parts_less ps, one_less z.front, one_less q.front))
trees_short n (one_item (a_forward k x q) xs) m = trees_short n xs (omega (arith, m, one_less k.front, one_less x.front, one_less q.front))
trees_short n (one_item (a_global f v x q e) xs) m = trees_short n xs (omega (arith, m, value_less v, one_less x.front, one_less q.front))
trees_short n (one_item {is = is} (a_main {t = t} w x o z b) xs) m =
    All-cons (IsShort n) t (filter_map main_in is) (short n b (omega (arith, m, one_less w.front, one_less x.front, one_less o.front, one_less z.front)))
    (trees_short n xs (omega (arith, m, one_less w.front, one_less x.front, one_less o.front, one_less z.front, body_less b)))

main_short : (n : ℕ) (main : Option BodyTree) → All (IsShort n) (trees_in main) → IsShortMain n main
main_short n None h = tt
main_short n (Some t) h = All-head (IsShort n) t [] h

pub statements_are_few : (text : List ℕ) (s : SourceText) (ts rest : List Lexeme) (n : ℕ) → SourceReads text s ts rest → length ts ≤ n → HasFewStatements n s
statements_are_few text s ts rest n (a_source xs e are) m = record {
  bodies = subst (AllShort n) (sym are.bodies) (items_short n xs m);
  main = main_short n s.main (subst (All (IsShort n)) (sym are.main) (trees_short n xs m));
}
