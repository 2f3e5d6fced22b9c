-- The statements of a body are typed, refused, or at a limit: want of memory is no answer.
use Rattle.std.proofs.Common.{ℕ, ◌+◌, nat_le, Bool, true, false, if◌then◌else◌, Option, Some, None, Result, Ok, Err, List, [], ◌∷◌, map, sym, subst}
use Rattle.cxx_hierarchy.specs.declared.records.ValueType.{ValueType}
use Rattle.cxx_hierarchy.specs.declared.stop.Stop.{Stop}
use Rattle.cxx_hierarchy.specs.NameTables.{Text}
use Rattle.cxx_hierarchy.specs.Classes.{Classes}
use Rattle.cxx_syntax.specs.declared.tree.Spot.{Spot}
use Rattle.cxx_syntax.specs.declared.tree.Operand.{Operand}
use Rattle.cxx_syntax.specs.declared.tree.Right.{Right}
use Rattle.cxx_syntax.specs.declared.tree.BodyTree.{BodyTree, BodyTree-F, roll-BodyTree, map-BodyTree, fold-roll-BodyTree, ind-BodyTree}
use Rattle.cxx_syntax.specs.declared.tree.Statement.{Statement, Statement-F, roll-Statement, map-Statement, fold-roll-Statement}
use Rattle.cxx_syntax.specs.declared.tree.StatementKind.{StatementKind, StatementKind-F, roll-StatementKind, map-StatementKind}
use Rattle.cxx_syntax.specs.declared.tree.StatementKind.TheOpen as layer
use Rattle.cxx_program.specs.declared.operand.TypedOperand.{TypedOperand}
use Rattle.cxx_program.specs.declared.statement.TypedKind.{TypedKind}
use Rattle.cxx_expression.specs.declared.faults.Fault.{Fault}
use Rattle.cxx_expression.specs.declared.scene.Scene.{Scene}
use Rattle.cxx_expression.specs.declared.scene.Setting.{Setting}
use Rattle.cxx_expression.specs.Checked.{Checked}
use Rattle.cxx_expression.specs.Faults.{least, settled}
use Rattle.cxx_expression.specs.Values.{number_operand}
use Rattle.cxx_resolve.specs.declared.draft.Draft.{Draft}
use Rattle.cxx_resolve.specs.Stops.{◌>>>◌}
use Rattle.cxx_resolve.specs.Statements.{declare_of, assign_of, write_of, copy_of, call_statement, delete_of, returned_kind, print_of, print_type_of, print_view_of, dump_of}
use Rattle.cxx_resolve.specs.Walks.{KindMeaning, Meaning, kind_step, statement_step, block_step, kind_meaning, statement_meaning, block_meaning, walk_all, next_of, plain, declaration, declare_walk, branch, loop, head, scoped, most_locals}
use Rattle.cxx_resolve.proofs.Walking.{layer_is}
use Rattle.cxx_resolve.proofs.Never.{IsSure, sure_ok, sure_then}

pub sure_settled : {X : Type 0} (worst : Option Fault) (typed : Result X Fault) → IsSure (settled worst typed)
sure_settled (Some f) typed e = absurd (cc)
sure_settled None (Err f) e = absurd (cc)
sure_settled None (Ok x) e = absurd (cc)

sure_piece : {X Y : Type 0} (p : Checked X) (go : X → Y) → IsSure (settled (least (p.faults [])) p.typed >>> λ x. Ok (go x))
sure_piece p go = sure_then (settled (least (p.faults [])) p.typed) _ (sure_settled (least (p.faults [])) p.typed) (λ x. sure_ok (go x))

record IsSureKind (m : KindMeaning) : Type 0 where
  walks : (h : Classes) (e : Setting) (at line n next : ℕ) (d : Draft) → IsSure (m.walk h e at line n next d)

pub record IsSureMeaning (m : Meaning) : Type 0 where
  pub walks : (h : Classes) (e : Setting) (n next : ℕ) (d : Draft) → IsSure (m.walk h e n next d)

sure_plain : (f : Classes → Setting → Scene → ℕ → Checked TypedKind) → IsSureKind (plain f)
sure_plain f = record { walks = λ h e at line n next d. sure_piece (f h e d.scene at) _ }

pub sure_if : {A : Type 0} (t : Bool) (p q : Result A Stop) → IsSure p → IsSure q → IsSure (if t then p else q)
sure_if true p q h k = h
sure_if false p q h k = k

sure_declare : (h : Classes) (e : Setting) (at : ℕ) (ty : ValueType Text) (ty_at : ℕ) (x : Spot) (init : Option Right) (line next : ℕ) (d : Draft) → IsSure (declare_walk h e at ty ty_at x init line next d)
unfolding declare_walk
sure_declare h e at ty ty_at x init line next d =
    sure_if (nat_le most_locals d.scene.declared) _ _ (λ i. absurd (cc)) (sure_piece (declare_of h e d.scene at ty ty_at x init) _)

sure_declaration : (ty : ValueType Text) (ty_at : ℕ) (x : Spot) (init : Option Right) → IsSureKind (declaration ty ty_at x init)
sure_declaration ty ty_at x init = record { walks = λ h e at line n next d. sure_declare h e at ty ty_at x init line next d }

sure_head : (leads : TypedOperand → TypedKind) (e : Setting) (at : ℕ) (x : Operand) (line next : ℕ) (d : Draft) → IsSure (head leads e at x line next d)
unfolding head
sure_head leads e at x line next d = sure_piece (number_operand e d.scene at x) _

sure_scoped : (m : Meaning) → IsSureMeaning m → (h : Classes) (e : Setting) (n next : ℕ) (d : Draft) → IsSure (scoped m h e n next d)
unfolding scoped
sure_scoped m s h e n next d = sure_then (m.walk h e n next _) _ (s.walks h e n next _) (λ new. sure_ok _)

sure_branch : (x : Operand) (m : Meaning) → IsSureMeaning m → IsSureKind (branch x m None)
sure_branch x m s = record { walks = λ h e at line n next d. sure_then (head _ e at x line next d) _ (sure_head _ e at x line next d) (λ new. sure_scoped m s h e (n + 1) next new) }

sure_branches : (x : Operand) (m o : Meaning) → IsSureMeaning m → IsSureMeaning o → IsSureKind (branch x m (Some o))
sure_branches x m o s t = record {
  walks = λ h e at line n next d.
      sure_then _ _ (sure_then (head _ e at x line next d) _ (sure_head _ e at x line next d) (λ new. sure_scoped m s h e (n + 1) next new)) (λ new. sure_scoped o t h e (n + 1 + m.size) next new);
}

sure_loop : (x : Operand) (m : Meaning) → IsSureMeaning m → IsSureKind (loop x m)
sure_loop x m s = record { walks = λ h e at line n next d. sure_then (head _ e at x line next d) _ (sure_head _ e at x line next d) (λ new. sure_scoped m s h e (n + 1) n new) }

abbrev AllSure : List Meaning → Type 0
AllSure [] = Unit {0}
AllSure (m ∷ ms) = IsSureMeaning m × AllSure ms

sure_all : (ms : List Meaning) → AllSure ms → (h : Classes) (e : Setting) (n follow : ℕ) (d : Draft) → IsSure (walk_all ms h e n follow d)
unfolding walk_all
sure_all [] s h e n follow d = sure_ok d
sure_all (m ∷ ms) s h e n follow d = sure_then (m.walk h e n (next_of ms (n + m.size) follow) d) _ (s.0.walks h e n (next_of ms (n + m.size) follow) d) (λ new. sure_all ms s.1 h e (n + m.size) follow new)

all_sure : {C : Type 0} (k : C → Statement) → ((c : C) → IsSureMeaning (statement_meaning (k c))) → (list : List C) → AllSure (map statement_meaning (map k list))
all_sure k s [] = tt
all_sure k s (c ∷ list) = (s c, all_sure k s list)

kind_sure : {A B C : Type 0} (f : A → StatementKind) (g : B → BodyTree) (k : C → Statement) → ((b : B) → IsSureMeaning (block_meaning (g b))) → (y : StatementKind-F A B C) →
    IsSureKind (kind_meaning (roll-StatementKind (map-StatementKind A B C StatementKind BodyTree Statement f g k y)))
kind_sure f g k s (layer.Declare ty at x i) = subst IsSureKind (sym (layer_is (layer.Declare ty at x i))) (sure_declaration ty at x i)
kind_sure f g k s (layer.Assign x r) = subst IsSureKind (sym (layer_is (layer.Assign x r))) (sure_plain (λ h e v at. assign_of h e v at x r))
kind_sure f g k s (layer.Write place x) = subst IsSureKind (sym (layer_is (layer.Write place x))) (sure_plain (λ h e v at. write_of h e v at place x))
kind_sure f g k s (layer.Copy to source) = subst IsSureKind (sym (layer_is (layer.Copy to source))) (sure_plain (λ h e v at. copy_of e v at to source))
kind_sure f g k s (layer.Call text) = subst IsSureKind (sym (layer_is (layer.Call text))) (sure_plain (λ h e v at. call_statement h e v at text))
kind_sure f g k s (layer.Delete x) = subst IsSureKind (sym (layer_is (layer.Delete x))) (sure_plain (λ h e v at. delete_of e v at x))
kind_sure f g k s (layer.If x b None) = subst IsSureKind (sym (layer_is (layer.If x (g b) None))) (sure_branch x (block_meaning (g b)) (s b))
kind_sure f g k s (layer.If x b (Some c)) = subst IsSureKind (sym (layer_is (layer.If x (g b) (Some (g c))))) (sure_branches x (block_meaning (g b)) (block_meaning (g c)) (s b) (s c))
kind_sure f g k s (layer.While x b) = subst IsSureKind (sym (layer_is (layer.While x (g b)))) (sure_loop x (block_meaning (g b)) (s b))
kind_sure f g k s (layer.Return x) = subst IsSureKind (sym (layer_is (layer.Return x))) (sure_plain (λ h e v at. returned_kind h e v at x))
kind_sure f g k s (layer.Print x) = subst IsSureKind (sym (layer_is (layer.Print x))) (sure_plain (λ h e v at. print_of e v at x))
kind_sure f g k s (layer.PrintType x) = subst IsSureKind (sym (layer_is (layer.PrintType x))) (sure_plain (λ h e v at. print_type_of h e v at x))
kind_sure f g k s (layer.PrintView x) = subst IsSureKind (sym (layer_is (layer.PrintView x))) (sure_plain (λ h e v at. print_view_of h e v at x))
kind_sure f g k s (layer.Dump x) = subst IsSureKind (sym (layer_is (layer.Dump x))) (sure_plain (λ h e v at. dump_of e v at x))

block_sure : {A B C : Type 0} (f : A → StatementKind) (g : B → BodyTree) (k : C → Statement) → ((c : C) → IsSureMeaning (statement_meaning (k c))) → (y : BodyTree-F A B C) →
    IsSureMeaning (block_meaning (roll-BodyTree (map-BodyTree A B C StatementKind BodyTree Statement f g k y)))
block_sure {A = A} {B = B} {C = C} f g k s y =
    subst IsSureMeaning (sym (fold-roll-BodyTree KindMeaning Meaning Meaning kind_step block_step statement_step (map-BodyTree A B C StatementKind BodyTree Statement f g k y)))
    (record { walks = λ h e n next d. sure_all (map statement_meaning (map k y.statements.items)) (all_sure k s y.statements.items) h e n next d })

statement_sure : {A B C : Type 0} (f : A → StatementKind) (g : B → BodyTree) (k : C → Statement) → ((a : A) → IsSureKind (kind_meaning (f a))) → (y : Statement-F A B C) →
    IsSureMeaning (statement_meaning (roll-Statement (map-Statement A B C StatementKind BodyTree Statement f g k y)))
statement_sure {A = A} {B = B} {C = C} f g k s y =
    subst IsSureMeaning (sym (fold-roll-Statement KindMeaning Meaning Meaning kind_step block_step statement_step (map-Statement A B C StatementKind BodyTree Statement f g k y)))
    (record { walks = λ h e n next d. (s y.kind).walks h e y.at y.line n next d })

pub blocks_are_sure : (b : BodyTree) → IsSureMeaning (block_meaning b)
blocks_are_sure = ind-BodyTree (λ k. IsSureKind (kind_meaning k)) (λ b. IsSureMeaning (block_meaning b)) (λ s. IsSureMeaning (statement_meaning s))
    (λ x y is. subst (λ z. IsSureKind (kind_meaning (roll-StatementKind z))) is (kind_sure (λ e. e.0) (λ e. e.0) (λ e. e.0) (λ e. e.1) y))
    (λ x y is. subst (λ z. IsSureMeaning (block_meaning (roll-BodyTree z))) is (block_sure (λ e. e.0) (λ e. e.0) (λ e. e.0) (λ e. e.1) y))
    (λ x y is. subst (λ z. IsSureMeaning (statement_meaning (roll-Statement z))) is (statement_sure (λ e. e.0) (λ e. e.0) (λ e. e.0) (λ e. e.1) y))
