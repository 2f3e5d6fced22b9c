-- The bodies of a source that tokens spell have together fewer statements than tokens.
use Rattle.std.proofs.Common.{◌≡◌, refl, ℕ, ◌+◌, ◌≤◌, Bool, Option, Some, None, List, [], ◌∷◌, ◌++◌, length, ap, ◌∙◌, arith}
use Rattle.std.specs.Prelude.{filter_map, flat_map}
use Rattle.std.specs.List.{sum_by}
use Rattle.std.proofs.lemmas.List.Sums.{sum_by-cons, sum_by-append}
use Rattle.cxx_grammar.specs.declared.sort.Lexeme.{Lexeme}
use Rattle.cxx_grammar.specs.Lexemes.{bytes_of}
use Rattle.cxx_syntax.specs.declared.tree.BodyTree.{BodyTree}
use Rattle.cxx_syntax.specs.Statements.{BodyReads}
use Rattle.cxx_syntax.specs.declared.part.ClassPart.{ClassPart}
use Rattle.cxx_syntax.specs.declared.part.Item.{Item}
use Rattle.cxx_syntax.specs.declared.source_text.Body.{Body}
use Rattle.cxx_syntax.specs.declared.source_text.SourceText.{SourceText}
use Rattle.cxx_syntax.specs.Parts.{Spelled, PartReads, a_label, a_field, a_bit_field, a_function, a_pure_function, a_constructor, a_destructor, PartsRead, no_part, one_part}
use Rattle.cxx_syntax.specs.Definitions.{body_at, given_by_parts, bodies_of}
use Rattle.cxx_syntax.specs.Sources.{ItemReads, a_class, a_forward, a_global, a_main, ItemsRead, no_item, one_item, bodies_in, main_in, trees_in, SourceReads, a_source}
use Rattle.cxx_resolve.specs.Walks.{block_meaning}
use Rattle.cxx_resolve.proofs.Counting.{body_counted}
use Rattle.cxx_resolve.proofs.Shorter.{one_less, scalar_less, value_less}
use Rattle.cxx_resolve.proofs.ShorterParts.{bases_less, field_less, count_less, return_less, params_less, inits_less, virtual_less}

-- the most lexemes of a source: its bytes, the end, and what no token stands for
abbrev pub most_weight : ℕ
most_weight = 262146

-- the statements of a body, and its end
abbrev pub tree_weight : BodyTree → ℕ
tree_weight tree = (block_meaning tree).size + 1

abbrev pub body_weight : Body → ℕ
body_weight body = tree_weight body.tree

abbrev pub main_weight : Option BodyTree → ℕ
main_weight None = 0
main_weight (Some tree) = tree_weight tree

-- those of all bodies together
abbrev pub source_weight : SourceText → ℕ
source_weight source = sum_by body_weight source.bodies + main_weight source.main

body_within : {text : List ℕ} {t : BodyTree} {ts rest : List Lexeme} → BodyReads text t ts rest → tree_weight t + length rest ≤ length ts
body_within x = omega (arith, body_counted x)

part_within : {text : List ℕ} {is_public : Bool} {p : ClassPart} {ts rest : List Lexeme} (class : Spelled) (before : List ClassPart) → PartReads text is_public p ts rest → sum_by body_weight (body_at class before p) + length rest ≤ length ts
part_within class before (a_label w k) = omega (arith, one_less w.front, one_less k.front)
part_within class before (a_field f t n c z e g) = omega (arith, field_less t, one_less n.front, count_less c, one_less z.front)
part_within class before (a_bit_field f t n o w z e g) = omega (arith, scalar_less t, one_less n.front, one_less o.front, one_less w.front, one_less z.front)
part_within class before (a_function v f r n o ps z b e g) = omega (arith, virtual_less v, return_less r, one_less n.front, one_less o.front, params_less ps, one_less z.front, body_within b)
part_within class before (a_pure_function v f r n o ps z w q k e g) =
    omega (arith, one_less v.front, return_less r, one_less n.front, one_less o.front, params_less ps, one_less z.front, one_less w.front, one_less q.front, one_less k.front)
part_within class before (a_constructor n o z is b e) = omega (arith, one_less n.front, one_less o.front, one_less z.front, inits_less is, body_within b)
part_within class before (a_destructor v w n o z b e) = omega (arith, virtual_less v, one_less w.front, one_less n.front, one_less o.front, one_less z.front, body_within b)

parts_within : {text : List ℕ} {is_public : Bool} {ps : List ClassPart} {ts rest : List Lexeme} (class : Spelled) (before : List ClassPart) → PartsRead text is_public ps ts rest → sum_by body_weight (given_by_parts (body_at class) before ps) + length rest ≤ length ts
parts_within class before no_part = omega arith
parts_within class before (one_part {p = p} {ps = ps} x xs) =
    omega (arith, part_within class before x, parts_within class (before ++ p ∷ []) xs, sum_by-append body_weight (body_at class before p) (given_by_parts (body_at class) (before ++ p ∷ []) ps))

class_within : {text : List ℕ} {is_public : Bool} {ps : List ClassPart} {ts rest : List Lexeme} {bs : List Body} (class : Spelled) → bs ≡ bodies_of class ps → PartsRead text is_public ps ts rest → sum_by body_weight bs + length rest ≤ length ts
class_within class same x = omega (arith, ap (sum_by body_weight) same, parts_within class [] x)

-- the bodies of a class, or `main`
item_within : {text : List ℕ} {i : Item} {ts rest : List Lexeme} → ItemReads text i ts rest → sum_by body_weight (bodies_in i) + main_weight (main_in i) + length rest ≤ length ts
item_within {text = text} (a_class {n = name} k n bs o ps z q e g) =
    omega (arith, one_less k.front, one_less n.front, bases_less bs, one_less o.front, class_within (bytes_of text name) g ps, one_less z.front, one_less q.front)
item_within (a_forward k n q) = omega (arith, one_less k.front, one_less n.front, one_less q.front)
item_within (a_global f v n q e) = omega (arith, value_less v, one_less n.front, one_less q.front)
item_within (a_main w m o z b) = omega (arith, one_less w.front, one_less m.front, one_less o.front, one_less z.front, body_within b)

trees_more : (i : Item) (is : List Item) (o : Option BodyTree) → main_in i ≡ o → sum_by tree_weight (filter_map main_in (i ∷ is)) ≡ main_weight o + sum_by tree_weight (filter_map main_in is)
trees_more i is None e = rw e (omega arith)
trees_more i is (Some t) e = rw e (sum_by-cons tree_weight t (filter_map main_in is))

items_within : {text : List ℕ} {is : List Item} {ts rest : List Lexeme} → ItemsRead text is ts rest → sum_by body_weight (flat_map bodies_in is) + sum_by tree_weight (filter_map main_in is) + length rest ≤ length ts
items_within no_item = omega arith
items_within (one_item {i = i} {is = is} x xs) =
    omega (arith, item_within x, items_within xs, sum_by-append body_weight (bodies_in i) (flat_map bodies_in is), trees_more i is (main_in i) refl)

main_tree : (main : Option BodyTree) → sum_by tree_weight (trees_in main) ≡ main_weight main
main_tree None = refl
main_tree (Some tree) = sum_by-cons tree_weight tree [] ∙ omega arith

pub statements_together : {text : List ℕ} {s : SourceText} {ts rest : List Lexeme} → SourceReads text s ts rest → source_weight s ≤ length ts
statements_together {s = s} (a_source xs e are) =
    omega (arith, items_within xs, ap (sum_by body_weight) are.bodies, ap (sum_by tree_weight) are.main, main_tree s.main)
