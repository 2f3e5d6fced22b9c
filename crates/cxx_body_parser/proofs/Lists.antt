-- Lists that are read in a loop.
use Rattle.std.proofs.Common.{◌≡◌, ℕ, List, [], ◌∷◌, ◌++◌, append_assoc, arith}
use Rattle.std.proofs.lemmas.Grind.{common_steps}
use Rattle.cxx_grammar.specs.declared.sort.Lexeme.{Lexeme}
use Rattle.cxx_grammar.specs.Front.{Is, IsName}
use Rattle.cxx_grammar.specs.declared.sort.Sort.TheVariants.{Dot, Comma}
use Rattle.cxx_syntax.specs.declared.tree.PlacePart.{PlacePart}
use Rattle.cxx_syntax.specs.declared.tree.Operand.{Operand}
use Rattle.cxx_syntax.specs.declared.tree.Statement.{Statement}
use Rattle.cxx_syntax.specs.Statements.{StatementReads, StatementsRead, one_statement, no_statement}
use Rattle.cxx_syntax.specs.Operands.{PartReads, PartsRead, DotsRead, some_parts, a_dot, no_dot, OperandReads, MoreRead, ArgumentsRead, some_arguments, one_more_operand, no_more_operands}

-- the parts so far, whatever follows
abbrev pub PartsSoFar : List ℕ → Lexeme → List Lexeme → List Lexeme → List PlacePart → Type 0
PartsSoFar text n rest left items = (ts : List Lexeme) → IsName n ts rest → (ps : List PlacePart) (r : List Lexeme) → DotsRead text ps left r → PartsRead text (items ++ ps) ts r

pub first_part : (text : List ℕ) (n : Lexeme) (rest left : List Lexeme) (p : PlacePart) (items : List PlacePart) → items ≡ [] ++ p ∷ [] →
    ((ts : List Lexeme) → IsName n ts rest → PartReads text p ts left) → PartsSoFar text n rest left items
first_part text n rest left p items e h ts i ps r d = rw e (some_parts (h ts i) d)

pub next_part : (text : List ℕ) (n m d : Lexeme) (rest left a b more : List Lexeme) (p : PlacePart) (items items' : List PlacePart) → items' ≡ items ++ p ∷ [] →
    PartsSoFar text n rest left items → Is Dot d left a → IsName m a b → ((ts : List Lexeme) → IsName m ts b → PartReads text p ts more) → PartsSoFar text n rest more items'
next_part text n m d rest left a b more p items items' e so_far i j h ts k ps r q = rw (e, append_assoc) (so_far ts k (p ∷ ps) r (a_dot i (h a j) q))

pub all_parts : (text : List ℕ) (n : Lexeme) (rest left : List Lexeme) (items : List PlacePart) → PartsSoFar text n rest left items → (ts : List Lexeme) → IsName n ts rest → PartsRead text items ts left
all_parts text n rest left items so_far ts i = let e : items ++ [] ≡ items = grind (arith, common_steps) in rw e at (so_far ts i [] left no_dot)

-- the arguments so far, whatever follows
abbrev pub ArgumentsSoFar : List ℕ → List Lexeme → List Lexeme → List Operand → Type 0
ArgumentsSoFar text rest left items = (vs : List Operand) (r : List Lexeme) → MoreRead text vs left r → ArgumentsRead text (items ++ vs) rest r

pub first_argument : (text : List ℕ) (rest left : List Lexeme) (v : Operand) (items : List Operand) → items ≡ [] ++ v ∷ [] → OperandReads text v rest left → ArgumentsSoFar text rest left items
first_argument text rest left v items e h vs r d = rw e (some_arguments h d)

pub next_argument : (text : List ℕ) (d : Lexeme) (rest left a more : List Lexeme) (v : Operand) (items items' : List Operand) → items' ≡ items ++ v ∷ [] →
    ArgumentsSoFar text rest left items → Is Comma d left a → OperandReads text v a more → ArgumentsSoFar text rest more items'
next_argument text d rest left a more v items items' e so_far i h vs r q = rw (e, append_assoc) (so_far (v ∷ vs) r (one_more_operand i h q))

pub all_arguments : (text : List ℕ) (rest left : List Lexeme) (items : List Operand) → ArgumentsSoFar text rest left items → ArgumentsRead text items rest left
all_arguments text rest left items so_far = let e : items ++ [] ≡ items = grind (arith, common_steps) in rw e at (so_far [] left no_more_operands)

-- the statements so far, whatever follows
abbrev pub StatementsSoFar : List ℕ → List Lexeme → List Lexeme → List Statement → Type 0
StatementsSoFar text rest left items = (ss : List Statement) (r : List Lexeme) → StatementsRead text ss left r → StatementsRead text (items ++ ss) rest r

pub next_statement : (text : List ℕ) (rest left more : List Lexeme) (items items' : List Statement) (s : Statement) → StatementsSoFar text rest left items →
    StatementReads text s left more → items' ≡ items ++ s ∷ [] → StatementsSoFar text rest more items'
next_statement text rest left more items items' s so_far read e ss r h = rw (e, append_assoc) (so_far (s ∷ ss) r (one_statement read h))

pub all_statements : (text : List ℕ) (rest left : List Lexeme) (items : List Statement) → StatementsSoFar text rest left items → StatementsRead text items rest left
all_statements text rest left items so_far = let e : items ++ [] ≡ items = grind (arith, common_steps) in rw e at (so_far [] left no_statement)
