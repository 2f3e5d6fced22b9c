-- Trees that say the same have one meaning.
use Rattle.std.proofs.Common.{◌≡◌, ℕ, Option, Some, None, Result, List, [], ◌∷◌, map, ap, sym, ◌∙◌, refl}
use Rattle.cxx_syntax.specs.declared.tree.Statement.{Statement}
use Rattle.cxx_syntax.specs.declared.tree.StatementKind.{StatementKind}
use Rattle.cxx_syntax.specs.declared.tree.BodyTree.{BodyTree, out-BodyTree}
use Rattle.cxx_syntax.specs.SameTrees.{SameBody, same_body, SameStatements, no_statements, more_statements, SameStatement, same_plain, same_if, same_if_else, same_while}
use Rattle.cxx_resolve.specs.Walks.{KindMeaning, Meaning, kind_meaning, statement_meaning, block_meaning, sizes, walk_all, branch, loop}
use Rattle.cxx_resolve.proofs.Walking.{block_is, statement_is, if_is, if_else_is, while_is}

abbrev listed : List Meaning → Meaning
listed ms = record { size = sizes ms; walk = walk_all ms }

abbrev placed : KindMeaning → ℕ → ℕ → Meaning
placed k at line = record { size = k.size; walk = λ h e n next d. k.walk h e at line n next d }

placed_same : (s t : Statement) → s.at ≡ t.at → s.line ≡ t.line → kind_meaning s.kind ≡ kind_meaning t.kind → statement_meaning s ≡ statement_meaning t
placed_same s t at line k =
    statement_is s ∙ ap (λ m. placed m s.at s.line) k ∙ ap (λ n. placed (kind_meaning t.kind) n s.line) at ∙ ap (λ n. placed (kind_meaning t.kind) t.at n) line ∙ sym (statement_is t)

mutual
  pub block_same : (a b : BodyTree) → SameBody a b → block_meaning a ≡ block_meaning b
  block_same a b (same_body same line close) = block_is a ∙ ap listed (statements_same (out-BodyTree a).statements.items (out-BodyTree b).statements.items same) ∙ sym (block_is b)

  statements_same : (ss ts : List Statement) → SameStatements ss ts → map statement_meaning ss ≡ map statement_meaning ts
  statements_same _ _ no_statements = refl
  statements_same _ _ (more_statements {s = s} {t = t} {ss = ss} {ts = ts} one more) =
      ap (λ m. m ∷ map statement_meaning ss) (statement_same s t one) ∙ ap (λ ms. statement_meaning t ∷ ms) (statements_same ss ts more)

  statement_same : (s t : Statement) → SameStatement s t → statement_meaning s ≡ statement_meaning t
  statement_same s t (same_plain place kind) = placed_same s t place.at place.line (ap kind_meaning kind)
  statement_same s t (same_if {v = v} {a = a} {b = b} place left right then) =
      placed_same s t place.at place.line (ap kind_meaning left ∙ if_is v a ∙ ap (λ m. branch v m None) (block_same a b then) ∙ sym (if_is v b) ∙ ap kind_meaning (sym right))
  statement_same s t (same_if_else {v = v} {a = a} {b = b} {c = c} {d = d} place left right then other) =
      placed_same s t place.at place.line (ap kind_meaning left ∙ if_else_is v a c ∙ ap (λ m. branch v m (Some (block_meaning c))) (block_same a b then)
      ∙ ap (λ m. branch v (block_meaning b) (Some m)) (block_same c d other) ∙ sym (if_else_is v b d) ∙ ap kind_meaning (sym right))
  statement_same s t (same_while {v = v} {a = a} {b = b} place left right block) =
      placed_same s t place.at place.line (ap kind_meaning left ∙ while_is v a ∙ ap (loop v) (block_same a b block) ∙ sym (while_is v b) ∙ ap kind_meaning (sym right))
