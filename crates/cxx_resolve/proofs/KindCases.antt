-- What a statement is by the constructor of its kind.
use Rattle.std.proofs.Common.{◌≡◌, ℕ, ◌+◌, Option, Some, None, Result, List, ap, sym, ◌∙◌, refl}
use Rattle.cxx_hierarchy.specs.declared.stop.Stop.{Stop}
use Rattle.cxx_hierarchy.specs.Classes.{Classes}
use Rattle.cxx_syntax.specs.declared.tree.BodyTree.{BodyTree}
use Rattle.cxx_syntax.specs.declared.tree.Statement.{Statement}
use Rattle.cxx_syntax.specs.declared.tree.StatementKind.{StatementKind, If', None', Some'}
use Rattle.cxx_syntax.specs.declared.tree.StatementKind as kind
use Rattle.cxx_expression.specs.declared.scene.Setting.{Setting}
use Rattle.cxx_resolve.specs.declared.draft.Draft.{Draft}
use Rattle.cxx_resolve.specs.Stops.{◌>>>◌}
use Rattle.cxx_resolve.specs.Statements.{plain_of}
use Rattle.cxx_resolve.specs.Walks.{KindMeaning, Meaning, kind_meaning, statement_meaning, block_meaning, plain_walk, declare_walk, if_head, while_head, scoped}
use Rattle.cxx_resolve.proofs.Walking.{statement_is, declare_is, assign_is, write_is, copy_is, call_is, delete_is, if_is, if_else_is, while_is, return_is, print_is, print_type_is, print_view_is, dump_is}

abbrev pub kind_size : StatementKind → ℕ
kind_size (If' x b None') = 1 + (block_meaning b).size
kind_size (If' x b (Some' c)) = 1 + (block_meaning b).size + (block_meaning c).size
kind_size (kind.While x b) = 1 + (block_meaning b).size
kind_size k = 1

abbrev size_in : KindMeaning → ℕ
size_in m = m.size

kind_sized : (k : StatementKind) → (kind_meaning k).size ≡ kind_size k
kind_sized (kind.Declare ty at x init) = ap size_in (declare_is ty at x init)
kind_sized (kind.Assign x r) = ap size_in (assign_is x r)
kind_sized (kind.Write place x) = ap size_in (write_is place x)
kind_sized (kind.Copy to source) = ap size_in (copy_is to source)
kind_sized (kind.Call text) = ap size_in (call_is text)
kind_sized (kind.Delete x) = ap size_in (delete_is x)
kind_sized (If' x b None') = ap size_in (if_is x b)
kind_sized (If' x b (Some' c)) = ap size_in (if_else_is x b c)
kind_sized (kind.While x b) = ap size_in (while_is x b)
kind_sized (kind.Return x) = ap size_in (return_is x)
kind_sized (kind.Print x) = ap size_in (print_is x)
kind_sized (kind.PrintType x) = ap size_in (print_type_is x)
kind_sized (kind.PrintView x) = ap size_in (print_view_is x)
kind_sized (kind.Dump x) = ap size_in (dump_is x)

-- how many statements a statement is
pub statement_sized : (s : Statement) → (statement_meaning s).size ≡ kind_size s.kind
statement_sized s = ap (λ (m : Meaning). m.size) (statement_is s) ∙ kind_sized s.kind

abbrev pub kind_walk : StatementKind → Classes → Setting → ℕ → ℕ → ℕ → ℕ → Draft → Result Draft Stop
kind_walk (kind.Declare ty ty_at x init) h e at line n next d = declare_walk h e at ty ty_at x init line next d
kind_walk (If' x b None') h e at line n next d = if_head (n + 1 + (block_meaning b).size) (n + 1 + (block_meaning b).size) e at x line next d >>> scoped (block_meaning b) h e (n + 1) next
kind_walk (If' x b (Some' c)) h e at line n next d =
    if_head (n + 1 + (block_meaning b).size) (n + 1 + (block_meaning b).size + (block_meaning c).size) e at x line next d >>> scoped (block_meaning b) h e (n + 1) next >>> scoped (block_meaning c) h e (n + 1 + (block_meaning b).size) next
kind_walk (kind.While x b) h e at line n next d = while_head (n + 1 + (block_meaning b).size) e at x line next d >>> scoped (block_meaning b) h e (n + 1) n
kind_walk k h e at line n next d = plain_walk h e at k line next d

kind_walked : (k : StatementKind) (h : Classes) (e : Setting) (at line n next : ℕ) (d : Draft) → (kind_meaning k).walk h e at line n next d ≡ kind_walk k h e at line n next d
unfolding plain_of
kind_walked (kind.Declare ty ty_at x init) h e at line n next d = ap (λ (m : KindMeaning). m.walk h e at line n next d) (declare_is ty ty_at x init)
kind_walked (kind.Assign x r) h e at line n next d = ap (λ (m : KindMeaning). m.walk h e at line n next d) (assign_is x r)
kind_walked (kind.Write place x) h e at line n next d = ap (λ (m : KindMeaning). m.walk h e at line n next d) (write_is place x)
kind_walked (kind.Copy to source) h e at line n next d = ap (λ (m : KindMeaning). m.walk h e at line n next d) (copy_is to source)
kind_walked (kind.Call text) h e at line n next d = ap (λ (m : KindMeaning). m.walk h e at line n next d) (call_is text)
kind_walked (kind.Delete x) h e at line n next d = ap (λ (m : KindMeaning). m.walk h e at line n next d) (delete_is x)
kind_walked (If' x b None') h e at line n next d = ap (λ (m : KindMeaning). m.walk h e at line n next d) (if_is x b)
kind_walked (If' x b (Some' c)) h e at line n next d = ap (λ (m : KindMeaning). m.walk h e at line n next d) (if_else_is x b c)
kind_walked (kind.While x b) h e at line n next d = ap (λ (m : KindMeaning). m.walk h e at line n next d) (while_is x b)
kind_walked (kind.Return x) h e at line n next d = ap (λ (m : KindMeaning). m.walk h e at line n next d) (return_is x)
kind_walked (kind.Print x) h e at line n next d = ap (λ (m : KindMeaning). m.walk h e at line n next d) (print_is x)
kind_walked (kind.PrintType x) h e at line n next d = ap (λ (m : KindMeaning). m.walk h e at line n next d) (print_type_is x)
kind_walked (kind.PrintView x) h e at line n next d = ap (λ (m : KindMeaning). m.walk h e at line n next d) (print_view_is x)
kind_walked (kind.Dump x) h e at line n next d = ap (λ (m : KindMeaning). m.walk h e at line n next d) (dump_is x)

-- what a statement does
pub statement_walked : (s : Statement) (h : Classes) (e : Setting) (n next : ℕ) (d : Draft) → (statement_meaning s).walk h e n next d ≡ kind_walk s.kind h e s.at s.line n next d
statement_walked s h e n next d = ap (λ (m : Meaning). m.walk h e n next d) (statement_is s) ∙ kind_walked s.kind h e s.at s.line n next d
