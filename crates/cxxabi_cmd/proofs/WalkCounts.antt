-- A block adds as many statements as it has, and no more locals, by induction on its tree.
use Rattle.std.proofs.Common.{◌≡◌, ℕ, ◌+◌, ◌≤◌, nat_le, Option, Some, None, Result, Ok, List, [], ◌∷◌, ◌++◌, map, length, sym, refl, ap, subst, arith}
use Rattle.std.proofs.lemmas.List.{length-append}
use Rattle.cxx_hierarchy.specs.declared.records.ValueType.{ValueType}
use Rattle.cxx_hierarchy.specs.declared.stop.Stop.{Stop}
use Rattle.cxx_hierarchy.specs.declared.stop.Stop.TheVariants.{Limit}
use Rattle.cxx_hierarchy.specs.declared.stop.LimitNo.TheVariants.{L3}
use Rattle.cxx_hierarchy.specs.NameTables.{Text}
use Rattle.cxx_hierarchy.specs.Classes.{Classes}
use Rattle.cxx_syntax.specs.declared.tree.Spot.{Spot}
use Rattle.cxx_syntax.specs.declared.tree.Operand.{Operand}
use Rattle.cxx_syntax.specs.declared.tree.Right.{Right}
use Rattle.cxx_syntax.specs.declared.tree.BodyTree.{BodyTree, BodyTree-F, roll-BodyTree, map-BodyTree, fold-roll-BodyTree, ind-BodyTree}
use Rattle.cxx_syntax.specs.declared.tree.Statement.{Statement, Statement-F, roll-Statement, map-Statement, fold-roll-Statement}
use Rattle.cxx_syntax.specs.declared.tree.StatementKind.{StatementKind, StatementKind-F, roll-StatementKind, map-StatementKind}
use Rattle.cxx_syntax.specs.declared.tree.StatementKind.TheOpen as layer
use Rattle.cxx_program.specs.declared.operand.TypedOperand.{TypedOperand}
use Rattle.cxx_program.specs.declared.statement.TypedKind.{TypedKind}
use Rattle.cxx_program.specs.declared.statement.TypedKind.TheVariants as typed
use Rattle.cxx_program.specs.declared.statement.TypedStatement.{TypedStatement}
use Rattle.cxx_expression.specs.declared.scene.Scene.{Scene}
use Rattle.cxx_expression.specs.declared.scene.Setting.{Setting}
use Rattle.cxx_expression.specs.Checked.{Checked}
use Rattle.cxx_expression.specs.Scenes.{with_variable, opened, closed}
use Rattle.cxx_expression.specs.Values.{number_operand}
use Rattle.cxx_resolve.specs.declared.draft.Draft.{Draft}
use Rattle.cxx_resolve.specs.Stops.{◌>>>◌}
use Rattle.cxx_resolve.specs.Settled.{settle}
use Rattle.cxx_resolve.specs.Statements.{new_variable, first_value, declare_of, assign_of, write_of, copy_of, call_statement, delete_of, returned_kind, print_of, print_type_of, print_view_of, dump_of}
use Rattle.cxx_resolve.specs.Walks.{KindMeaning, Meaning, kind_step, statement_step, block_step, kind_meaning, statement_meaning, block_meaning, sizes, walk_all, next_of, plain, pushed, in_scene, ended_scene, declaration, declare_walk, branch, loop, head, if_head, while_head, scoped, most_locals}
use Rattle.cxx_resolve.proofs.Walking.{layer_is}
use Rattle.cxx_typing.proofs.Steps.{settled_clean, then_both}
use Rattle.cxx_typing.proofs.Blocks.{past}
use Rattle.cxx_typing.proofs.Drafts.{then_ok}

-- n statements more, and no more than n locals
pub record AddsTo (n : ℕ) (old new : Draft) : Type 0 where
  pub statements : length new.statements ≡ length old.statements + n
  pub locals : length new.scene.types ≤ length old.scene.types + n

adds_none : (d : Draft) → AddsTo 0 d d
adds_none d = record { statements = omega arith; locals = omega arith }

adds_both : (m n k : ℕ) (a b c : Draft) → AddsTo m a b → AddsTo n b c → m + n ≡ k → AddsTo k a c
adds_both m n k a b c first second e =
    let s = first.statements in let t = second.statements in let l = first.locals in let o = second.locals in
    record { statements = omega arith; locals = omega arith }

adds_pushed : (d : Draft) (s : Scene) (kind : TypedKind) (line next : ℕ) → length s.types ≤ length d.scene.types + 1 → AddsTo 1 d (pushed kind line next (in_scene s d))
adds_pushed d s kind line next few = record {
  statements = length-append d.statements ((let x : TypedStatement = record { kind = kind; line = line; next = next } in x) ∷ []);
  locals = few;
}

record KindAdds (m : KindMeaning) : Type 0 where
  walks : (h : Classes) (e : Setting) (at line n next : ℕ) (d new : Draft) → m.walk h e at line n next d ≡ Ok new → AddsTo m.size d new

pub record MeaningAdds (m : Meaning) : Type 0 where
  pub walks : (h : Classes) (e : Setting) (n next : ℕ) (d new : Draft) → m.walk h e n next d ≡ Ok new → AddsTo m.size d new

plain_adds : (f : Classes → Setting → Scene → ℕ → Checked TypedKind) → KindAdds (plain f)
plain_adds f = record {
  walks = λ h e at line n next d new w.
      let r = then_ok (settle (f h e d.scene at)) (λ kind. Ok (pushed kind line next d)) new w in
      let last = r.2 in
      let same : pushed r.0 line next d ≡ new = cc in
      subst (AddsTo 1 d) same (adds_pushed d d.scene r.0 line next (omega arith));
}

declared_types : (h : Classes) (e : Setting) (s : Scene) (at : ℕ) (ty : ValueType Text) (ty_at : ℕ) (x : Spot) (init : Option Right) (r : TypedKind × Scene) → (declare_of h e s at ty ty_at x init).typed ≡ Ok r → length r.1.types ≤ length s.types + 1
unfolding declare_of
declared_types h e s at ty ty_at x init r t =
    let u = then_both (new_variable h s ty ty_at x).typed _ r t in
    let v = then_both (first_value h e (with_variable s x.name u.0) at u.0 (length s.types) init).typed _ r u.2 in
    let last = v.2 in
    let scene : with_variable s x.name u.0 ≡ r.1 = cc in
    let same : length (s.types ++ u.0 ∷ []) ≡ length r.1.types = ap (λ (z : Scene). length z.types) scene in
    omega (arith, same, length-append s.types (u.0 ∷ []))

declare_adds : (h : Classes) (e : Setting) (at : ℕ) (ty : ValueType Text) (ty_at : ℕ) (x : Spot) (init : Option Right) (line next : ℕ) (d new : Draft) → declare_walk h e at ty ty_at x init line next d ≡ Ok new → AddsTo 1 d new
unfolding declare_walk
declare_adds h e at ty ty_at x init line next d new w =
    let p = declare_of h e d.scene at ty ty_at x init in
    let go : TypedKind × Scene → Result Draft Stop = λ r. Ok (pushed r.0 line next (in_scene r.1 d)) in
    let r = then_ok (settle p) go new (past (nat_le most_locals d.scene.declared) (Limit L3) (ended_scene p line next d) new w) in
    let last = r.2 in
    let same : pushed r.0.0 line next (in_scene r.0.1 d) ≡ new = cc in
    subst (AddsTo 1 d) same (adds_pushed d r.0.1 r.0.0 line next (declared_types h e d.scene at ty ty_at x init r.0 (settled_clean p r.0 r.1).typed))

declaration_adds : (ty : ValueType Text) (ty_at : ℕ) (x : Spot) (init : Option Right) → KindAdds (declaration ty ty_at x init)
declaration_adds ty ty_at x init = record { walks = λ h e at line n next d new w. declare_adds h e at ty ty_at x init line next d new w }

head_adds : (leads : TypedOperand → TypedKind) (e : Setting) (at : ℕ) (x : Operand) (line next : ℕ) (d new : Draft) → head leads e at x line next d ≡ Ok new → AddsTo 1 d new
unfolding head
head_adds leads e at x line next d new w =
    let r = then_ok (settle (number_operand e d.scene at x)) (λ v. Ok (pushed (leads v.operand) line next d)) new w in
    let last = r.2 in
    let same : pushed (leads r.0.operand) line next d ≡ new = cc in
    subst (AddsTo 1 d) same (adds_pushed d d.scene (leads r.0.operand) line next (omega arith))

scoped_adds : (m : Meaning) → MeaningAdds m → (h : Classes) (e : Setting) (n next : ℕ) (d new : Draft) → scoped m h e n next d ≡ Ok new → AddsTo m.size d new
unfolding scoped
scoped_adds m s h e n next d new w =
    let inside = in_scene (opened d.scene) d in
    let r = then_ok (m.walk h e n next inside) (λ (x : Draft). Ok (in_scene (closed d.scene x.scene) x)) new w in
    let first = s.walks h e n next inside r.0 r.1 in
    let last = r.2 in
    let same : in_scene (closed d.scene r.0.scene) r.0 ≡ new = cc in
    subst (AddsTo m.size d) same (record { statements = first.statements; locals = first.locals })

branch_adds : (x : Operand) (m : Meaning) → MeaningAdds m → KindAdds (branch x m None)
branch_adds x m s = record {
  walks = λ h e at line n next d new w.
      let behind = n + 1 + m.size in
      let r = then_ok (if_head behind behind e at x line next d) (λ (y : Draft). scoped m h e (n + 1) next y) new w in
      adds_both 1 m.size (1 + m.size) d r.0 new (head_adds (λ v. typed.If v behind behind) e at x line next d r.0 r.1) (scoped_adds m s h e (n + 1) next r.0 new r.2) refl;
}

branches_add : (x : Operand) (m o : Meaning) → MeaningAdds m → MeaningAdds o → KindAdds (branch x m (Some o))
branches_add x m o s t = record {
  walks = λ h e at line n next d new w.
      let other = n + 1 + m.size in
      let behind = n + 1 + m.size + o.size in
      let p = then_ok (if_head other behind e at x line next d >>> scoped m h e (n + 1) next) (λ (y : Draft). scoped o h e (n + 1 + m.size) next y) new w in
      let r = then_ok (if_head other behind e at x line next d) (λ (y : Draft). scoped m h e (n + 1) next y) p.0 p.1 in
      adds_both (1 + m.size) o.size (1 + m.size + o.size) d p.0 new
      (adds_both 1 m.size (1 + m.size) d r.0 p.0 (head_adds (λ v. typed.If v other behind) e at x line next d r.0 r.1) (scoped_adds m s h e (n + 1) next r.0 p.0 r.2) refl)
      (scoped_adds o t h e (n + 1 + m.size) next p.0 new p.2) refl;
}

loop_adds : (x : Operand) (m : Meaning) → MeaningAdds m → KindAdds (loop x m)
loop_adds x m s = record {
  walks = λ h e at line n next d new w.
      let behind = n + 1 + m.size in
      let r = then_ok (while_head behind e at x line next d) (λ (y : Draft). scoped m h e (n + 1) n y) new w in
      adds_both 1 m.size (1 + m.size) d r.0 new (head_adds (λ v. typed.While v behind) e at x line next d r.0 r.1) (scoped_adds m s h e (n + 1) n r.0 new r.2) refl;
}

abbrev AllAdd : List Meaning → Type 0
AllAdd [] = Unit {0}
AllAdd (m ∷ ms) = MeaningAdds m × AllAdd ms

all_add : (ms : List Meaning) → AllAdd ms → (h : Classes) (e : Setting) (n follow : ℕ) (d new : Draft) → walk_all ms h e n follow d ≡ Ok new → AddsTo (sizes ms) d new
unfolding walk_all
all_add [] s h e n follow d new w = let same : d ≡ new = cc in subst (AddsTo 0 d) same (adds_none d)
all_add (m ∷ ms) s h e n follow d new w =
    let r = then_ok (m.walk h e n (next_of ms (n + m.size) follow) d) (λ (x : Draft). walk_all ms h e (n + m.size) follow x) new w in
    adds_both m.size (sizes ms) (m.size + sizes ms) d r.0 new (s.0.walks h e n (next_of ms (n + m.size) follow) d r.0 r.1) (all_add ms s.1 h e (n + m.size) follow r.0 new r.2) refl

each_adds : {C : Type 0} (k : C → Statement) → ((c : C) → MeaningAdds (statement_meaning (k c))) → (list : List C) → AllAdd (map statement_meaning (map k list))
each_adds k s [] = tt
each_adds k s (c ∷ list) = (s c, each_adds k s list)

-- trees

kind_adds : {A B C : Type 0} (f : A → StatementKind) (g : B → BodyTree) (k : C → Statement) → ((b : B) → MeaningAdds (block_meaning (g b))) → (y : StatementKind-F A B C) →
    KindAdds (kind_meaning (roll-StatementKind (map-StatementKind A B C StatementKind BodyTree Statement f g k y)))
kind_adds f g k s (layer.Declare ty at x i) = subst KindAdds (sym (layer_is (layer.Declare ty at x i))) (declaration_adds ty at x i)
kind_adds f g k s (layer.Assign x r) = subst KindAdds (sym (layer_is (layer.Assign x r))) (plain_adds (λ h e s at. assign_of h e s at x r))
kind_adds f g k s (layer.Write place x) = subst KindAdds (sym (layer_is (layer.Write place x))) (plain_adds (λ h e s at. write_of h e s at place x))
kind_adds f g k s (layer.Copy to source) = subst KindAdds (sym (layer_is (layer.Copy to source))) (plain_adds (λ h e s at. copy_of e s at to source))
kind_adds f g k s (layer.Call text) = subst KindAdds (sym (layer_is (layer.Call text))) (plain_adds (λ h e s at. call_statement h e s at text))
kind_adds f g k s (layer.Delete x) = subst KindAdds (sym (layer_is (layer.Delete x))) (plain_adds (λ h e s at. delete_of e s at x))
kind_adds f g k s (layer.If x b None) = subst KindAdds (sym (layer_is (layer.If x (g b) None))) (branch_adds x (block_meaning (g b)) (s b))
kind_adds f g k s (layer.If x b (Some c)) = subst KindAdds (sym (layer_is (layer.If x (g b) (Some (g c))))) (branches_add x (block_meaning (g b)) (block_meaning (g c)) (s b) (s c))
kind_adds f g k s (layer.While x b) = subst KindAdds (sym (layer_is (layer.While x (g b)))) (loop_adds x (block_meaning (g b)) (s b))
kind_adds f g k s (layer.Return x) = subst KindAdds (sym (layer_is (layer.Return x))) (plain_adds (λ h e s at. returned_kind h e s at x))
kind_adds f g k s (layer.Print x) = subst KindAdds (sym (layer_is (layer.Print x))) (plain_adds (λ h e s at. print_of e s at x))
kind_adds f g k s (layer.PrintType x) = subst KindAdds (sym (layer_is (layer.PrintType x))) (plain_adds (λ h e s at. print_type_of h e s at x))
kind_adds f g k s (layer.PrintView x) = subst KindAdds (sym (layer_is (layer.PrintView x))) (plain_adds (λ h e s at. print_view_of h e s at x))
kind_adds f g k s (layer.Dump x) = subst KindAdds (sym (layer_is (layer.Dump x))) (plain_adds (λ h e s at. dump_of e s at x))

block_adds : {A B C : Type 0} (f : A → StatementKind) (g : B → BodyTree) (k : C → Statement) → ((c : C) → MeaningAdds (statement_meaning (k c))) → (y : BodyTree-F A B C) →
    MeaningAdds (block_meaning (roll-BodyTree (map-BodyTree A B C StatementKind BodyTree Statement f g k y)))
block_adds {A = A} {B = B} {C = C} f g k s y =
    subst MeaningAdds (sym (fold-roll-BodyTree KindMeaning Meaning Meaning kind_step block_step statement_step (map-BodyTree A B C StatementKind BodyTree Statement f g k y)))
    (record { walks = λ h e n next d new w. all_add (map statement_meaning (map k y.statements.items)) (each_adds k s y.statements.items) h e n next d new w })

statement_adds : {A B C : Type 0} (f : A → StatementKind) (g : B → BodyTree) (k : C → Statement) → ((a : A) → KindAdds (kind_meaning (f a))) → (y : Statement-F A B C) →
    MeaningAdds (statement_meaning (roll-Statement (map-Statement A B C StatementKind BodyTree Statement f g k y)))
statement_adds {A = A} {B = B} {C = C} f g k s y =
    subst MeaningAdds (sym (fold-roll-Statement KindMeaning Meaning Meaning kind_step block_step statement_step (map-Statement A B C StatementKind BodyTree Statement f g k y)))
    (record { walks = λ h e n next d new w. (s y.kind).walks h e y.at y.line n next d new w })

pub blocks_add : (b : BodyTree) → MeaningAdds (block_meaning b)
blocks_add = ind-BodyTree (λ k. KindAdds (kind_meaning k)) (λ b. MeaningAdds (block_meaning b)) (λ s. MeaningAdds (statement_meaning s))
    (λ x y is. subst (λ z. KindAdds (kind_meaning (roll-StatementKind z))) is (kind_adds (λ e. e.0) (λ e. e.0) (λ e. e.0) (λ e. e.1) y))
    (λ x y is. subst (λ z. MeaningAdds (block_meaning (roll-BodyTree z))) is (block_adds (λ e. e.0) (λ e. e.0) (λ e. e.0) (λ e. e.1) y))
    (λ x y is. subst (λ z. MeaningAdds (statement_meaning (roll-Statement z))) is (statement_adds (λ e. e.0) (λ e. e.0) (λ e. e.0) (λ e. e.1) y))
