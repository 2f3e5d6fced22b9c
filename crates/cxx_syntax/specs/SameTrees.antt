-- Trees that say the same. A tree keeps its statements in vectors, which differ by more than their items; all else is equal.
use Rattle.std.specs.Prelude.{◌≡◌, List, [], ◌∷◌}
use Rattle.cxx_syntax.specs.declared.tree.Operand.{Operand}
use Rattle.cxx_syntax.specs.declared.tree.Statement.{Statement}
use Rattle.cxx_syntax.specs.declared.tree.StatementKind.{StatementKind, If', None', Some'}
use Rattle.cxx_syntax.specs.declared.tree.StatementKind as kind
use Rattle.cxx_syntax.specs.declared.tree.BodyTree.{BodyTree, out-BodyTree}

-- at one place and on one line
pub record SamePlace (s t : Statement) : Type 0 where
  pub at : s.at ≡ t.at
  pub line : s.line ≡ t.line

mutual
  pub data SameBody : BodyTree → BodyTree → Type 0 where
    same_body : {a b : BodyTree} → SameStatements (out-BodyTree a).statements.items (out-BodyTree b).statements.items →
        (out-BodyTree a).line ≡ (out-BodyTree b).line → (out-BodyTree a).close_line ≡ (out-BodyTree b).close_line → SameBody a b

  pub data SameStatements : List Statement → List Statement → Type 0 where
    no_statements : SameStatements [] []
    more_statements : {s t : Statement} {ss ts : List Statement} → SameStatement s t → SameStatements ss ts → SameStatements (s ∷ ss) (t ∷ ts)

  pub data SameStatement : Statement → Statement → Type 0 where
    -- statements without a block in them
    same_plain : {s t : Statement} → SamePlace s t → s.kind ≡ t.kind → SameStatement s t
    same_if : {s t : Statement} {v : Operand} {a b : BodyTree} → SamePlace s t →
        s.kind ≡ If' v a None' → t.kind ≡ If' v b None' → SameBody a b → SameStatement s t
    same_if_else : {s t : Statement} {v : Operand} {a b c d : BodyTree} → SamePlace s t →
        s.kind ≡ If' v a (Some' c) → t.kind ≡ If' v b (Some' d) → SameBody a b → SameBody c d → SameStatement s t
    same_while : {s t : Statement} {v : Operand} {a b : BodyTree} → SamePlace s t →
        s.kind ≡ kind.While v a → t.kind ≡ kind.While v b → SameBody a b → SameStatement s t
