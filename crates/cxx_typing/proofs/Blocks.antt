-- The statements of a block are typed, by induction on its tree.
use Rattle.std.proofs.Common.{◌≡◌, ℕ, ◌+◌, ◌≤◌, nat_le, Bool, true, false, if◌then◌else◌, Option, Some, None, Result, Ok, Err, List, [], ◌∷◌, ◌++◌, ⊎_elim, map, length, sym, refl, subst, arith, Contains}
use Rattle.std.proofs.lemmas.List.Elements.{Contains-append_cases}
use Rattle.foundation.proofs.Places.{get_last}
use Rattle.foundation.proofs.Members.{has_from_contains}
use Rattle.cxx_hierarchy.specs.declared.records.ClassId.{ClassId}
use Rattle.cxx_hierarchy.specs.declared.records.ValueType.{ValueType}
use Rattle.cxx_hierarchy.specs.declared.records.ValueType.TheVariants.{Number as NumberType}
use Rattle.cxx_hierarchy.specs.declared.records.Scalar.{Scalar}
use Rattle.cxx_hierarchy.specs.declared.stop.Stop.{Stop}
use Rattle.cxx_hierarchy.specs.declared.stop.Stop.TheVariants.{Limit}
use Rattle.cxx_hierarchy.specs.declared.stop.LimitNo.TheVariants.{L3}
use Rattle.cxx_hierarchy.specs.NameTables.{Text}
use Rattle.cxx_hierarchy.specs.Classes.{Classes}
use Rattle.cxx_hierarchy.specs.Hierarchies.{IsHierarchy}
use Rattle.cxx_syntax.specs.declared.tree.Spot.{Spot}
use Rattle.cxx_syntax.specs.declared.tree.Operand.{Operand}
use Rattle.cxx_syntax.specs.declared.tree.Right.{Right}
use Rattle.cxx_syntax.specs.declared.tree.BodyTree.{BodyTree, BodyTree-F, roll-BodyTree, map-BodyTree, fold-roll-BodyTree, ind-BodyTree}
use Rattle.cxx_syntax.specs.declared.tree.Statement.{Statement, Statement-F, roll-Statement, map-Statement, fold-roll-Statement}
use Rattle.cxx_syntax.specs.declared.tree.StatementKind.{StatementKind, StatementKind-F, roll-StatementKind, map-StatementKind}
use Rattle.cxx_syntax.specs.declared.tree.StatementKind.TheOpen as layer
use Rattle.cxx_syntax.specs.declared.tree.StatementKind as statement
use Rattle.cxx_program.specs.declared.operand.TypedOperand.{TypedOperand}
use Rattle.cxx_program.specs.declared.statement.TypedKind.{TypedKind}
use Rattle.cxx_program.specs.declared.statement.TypedKind.TheVariants as typed
use Rattle.cxx_program.specs.Typed.{Types, Scope, IsKnown, HasType, IsTyped, branches, repeats, IsWithin}
use Rattle.cxx_expression.specs.declared.scene.Scene.{Scene}
use Rattle.cxx_expression.specs.declared.scene.Setting.{Setting}
use Rattle.cxx_expression.specs.Checked.{Checked}
use Rattle.cxx_expression.specs.Scenes.{with_variable, opened, closed}
use Rattle.cxx_expression.specs.Values.{number_operand}
use Rattle.cxx_resolve.specs.declared.draft.Draft.{Draft}
use Rattle.cxx_resolve.specs.Stops.{◌>>>◌}
use Rattle.cxx_resolve.specs.Settled.{settle}
use Rattle.cxx_resolve.specs.Statements.{declare_of, plain_of}
use Rattle.cxx_resolve.specs.Walks.{KindMeaning, Meaning, kind_step, statement_step, block_step, kind_meaning, statement_meaning, block_meaning, sizes, walk_all, next_of, plain, pushed, in_scene, ended_scene, declaration, declare_walk, branch, loop, head, if_head, while_head, scoped, most_locals}
use Rattle.cxx_resolve.proofs.Walking.{layer_is}
use Rattle.cxx_typing.specs.Scopes.{PureAreVirtual, IsSetting, IsScene}
use Rattle.cxx_typing.specs.Pieces.{StatementsAreTyped}
use Rattle.cxx_typing.proofs.Steps.{settled_clean}
use Rattle.cxx_typing.proofs.Scopes.{scene_in, declared_scene, opened_scene, closed_scene}
use Rattle.cxx_typing.proofs.Onward.{GoesOn, declare_goes, plain_goes}
use Rattle.cxx_typing.proofs.Drafts.{then_ok, IsGoodDraft, IsLonger, same_types, pushed_on, and_on, counted_as}

-- classes over which each statement is typed
pub record HasTypedStatements (h : Classes) : Type 0 where
  pub keeps : IsHierarchy h
  pub pure : PureAreVirtual h
  pub laws : StatementsAreTyped

-- statements without a block

-- what the statement is typed to is typed, and leads to no other number
record IsTypedBy (h : Classes) (f : Classes → Setting → Scene → ℕ → Checked TypedKind) : Type 0 where
  typed : (e : Setting) (s : Scene) (k : Scope) → IsSetting e k → IsScene s k → (at : ℕ) (kind : TypedKind) → settle (f h e s at) ≡ Ok kind → IsTyped h k kind
  goes : (e : Setting) (s : Scene) (at : ℕ) (kind : TypedKind) → settle (f h e s at) ≡ Ok kind → GoesOn kind

by_plain : (h : Classes) → HasTypedStatements h → (x : StatementKind) → IsTypedBy h (λ g e s at. plain_of g e s at x)
by_plain h q x = record {
  typed = λ e s k f g at kind is. q.laws.plain h q.keeps q.pure e s k f g at x kind is;
  goes = λ e s at kind is. plain_goes h e s at x kind (settled_clean (plain_of h e s at x) kind is).typed;
}

-- what a kind of statement does to a draft of the statements before it
record IsGoodKind (h : Classes) (m : KindMeaning) : Type 0 where
  walks : (e : Setting) (at line n next size : ℕ) (d new : Draft) → n + m.size ≤ size → next ≤ size → IsGoodDraft h e size n d → m.walk h e at line n next d ≡ Ok new → IsLonger h e size (n + m.size) d new

pub record IsGoodMeaning (h : Classes) (m : Meaning) : Type 0 where
  pub walks : (e : Setting) (n next size : ℕ) (d new : Draft) → n + m.size ≤ size → next ≤ size → IsGoodDraft h e size n d → m.walk h e n next d ≡ Ok new → IsLonger h e size (n + m.size) d new

good_plain : (h : Classes) (f : Classes → Setting → Scene → ℕ → Checked TypedKind) → IsTypedBy h f → IsGoodKind h (plain f)
good_plain h f t = record {
  walks = λ e at line n next size d new few small good w.
      let r = then_ok (settle (f h e d.scene at)) (λ kind. Ok (pushed kind line next d)) new w in
      let last = r.2 in
      let same : pushed r.0 line next d ≡ new = cc in
      subst (IsLonger h e size (n + 1) d) same
      (pushed_on h e size n line next d d.scene r.0 [] good (same_types d.scene.types d.scene.types refl) good.own good.known small (t.goes e d.scene at r.0 r.1 size n)
      (λ k f front. t.typed e d.scene k f (scene_in d.scene k good.own front) at r.0 r.1));
}

-- declarations

pub past : {A : Type 0} (t : Bool) (s : Stop) (r : Result A Stop) (y : A) → (if t then Err s else r) ≡ Ok y → r ≡ Ok y
past true s r y e = absurd (cc)
past false s r y e = e

one_more : (h : Classes) (ts : Types) (u : ValueType ClassId) → IsKnown h u → ((t : ValueType ClassId) → Contains ts t → IsKnown h t) → (t : ValueType ClassId) → Contains (ts ++ u ∷ []) t → IsKnown h t
one_more h ts u known each t has = ⊎_elim
    (λ a. each t a)
    (λ b. ⊎_elim (λ same. subst (IsKnown h) same known) (λ none. absurd none) (has_from_contains (u ∷ []) t b))
    (Contains-append_cases ts (u ∷ []) t has)

good_declare : (h : Classes) → HasTypedStatements h → (e : Setting) (at : ℕ) (ty : ValueType Text) (ty_at : ℕ) (x : Spot) (init : Option Right) (line n next size : ℕ) (d new : Draft) → next ≤ size → IsGoodDraft h e size n d →
    declare_walk h e at ty ty_at x init line next d ≡ Ok new → IsLonger h e size (n + 1) d new
unfolding declare_walk
good_declare h q e at ty ty_at x init line n next size d new small good w =
    let p = declare_of h e d.scene at ty ty_at x init in
    let go : TypedKind × Scene → Result Draft Stop = λ r. Ok (pushed r.0 line next (in_scene r.1 d)) in
    let r = then_ok (settle p) go new (past (nat_le most_locals d.scene.declared) (Limit L3) (ended_scene p line next d) new w) in
    let is = q.laws.declaration h q.keeps q.pure e d.scene at ty ty_at x init r.0 r.1 in
    let s = with_variable d.scene x.name is.ty in
    let own = declared_scene d.scene x.name is.ty good.own in
    let longer = pushed_on h e size n line next d s r.0.0 (is.ty ∷ []) good refl own (one_more h d.scene.types is.ty is.known good.known) small (declare_goes h e d.scene at ty ty_at x init r.0 (settled_clean p r.0 r.1).typed size n)
    (λ k f front. is.typed k f (scene_in s k own front) (front (length d.scene.types) is.ty (get_last d.scene.types is.ty))) in
    let last = r.2 in
    let same : pushed r.0.0 line next (in_scene r.0.1 d) ≡ new = cc in
    subst (IsLonger h e size (n + 1) d) same (subst (λ (v : Scene). IsLonger h e size (n + 1) d (pushed r.0.0 line next (in_scene v d))) (sym is.scene) longer)

good_declaration : (h : Classes) → HasTypedStatements h → (ty : ValueType Text) (ty_at : ℕ) (x : Spot) (init : Option Right) → IsGoodKind h (declaration ty ty_at x init)
good_declaration h q ty ty_at x init = record { walks = λ e at line n next size d new few small good w. good_declare h q e at ty ty_at x init line n next size d new small good w }

-- conditions and their blocks

good_head : (h : Classes) → HasTypedStatements h → (leads : TypedOperand → TypedKind) (e : Setting) (at : ℕ) (x : Operand) (line n next size : ℕ) (d new : Draft) →
    ((k : Scope) (v : TypedOperand) (t : Scalar) → HasType k v (NumberType t) → IsTyped h k (leads v)) → ((v : TypedOperand) → IsWithin size n (leads v)) → next ≤ size → IsGoodDraft h e size n d →
    head leads e at x line next d ≡ Ok new → IsLonger h e size (n + 1) d new
unfolding head
good_head h q leads e at x line n next size d new has within small good w =
    let r = then_ok (settle (number_operand e d.scene at x)) (λ v. Ok (pushed (leads v.operand) line next d)) new w in
    let last = r.2 in
    let same : pushed (leads r.0.operand) line next d ≡ new = cc in
    subst (IsLonger h e size (n + 1) d) same
    (pushed_on h e size n line next d d.scene (leads r.0.operand) [] good (same_types d.scene.types d.scene.types refl) good.own good.known small (within r.0.operand)
    (λ k f front. has k r.0.operand r.0.scalar (q.laws.condition e d.scene k f (scene_in d.scene k good.own front) at x r.0 r.1)))

good_scoped : (h : Classes) (m : Meaning) → IsGoodMeaning h m → (e : Setting) (n next size : ℕ) (d new : Draft) → n + m.size ≤ size → next ≤ size → IsGoodDraft h e size n d → scoped m h e n next d ≡ Ok new →
    IsLonger h e size (n + m.size) d new
unfolding scoped
good_scoped h m s e n next size d new few small good w =
    let inside = in_scene (opened d.scene) d in
    let r = then_ok (m.walk h e n next inside) (λ (x : Draft). Ok (in_scene (closed d.scene x.scene) x)) new w in
    let first = s.walks e n next size inside r.0 few small (record { own = opened_scene d.scene good.own; known = good.known; count = good.count; typed = good.typed }) r.1 in
    let last = r.2 in
    let same : in_scene (closed d.scene r.0.scene) r.0 ≡ new = cc in
    subst (IsLonger h e size (n + m.size) d) same (record {
      more = first.more;
      types = first.types;
      good = record { own = closed_scene d.scene r.0.scene first.good.own; known = first.good.known; count = first.good.count; typed = first.good.typed };
    })

good_branch : (h : Classes) → HasTypedStatements h → (x : Operand) (m : Meaning) → IsGoodMeaning h m → IsGoodKind h (branch x m None)
good_branch h q x m s = record {
  walks = λ e at line n next size d new few small good w.
      let behind = n + 1 + m.size in
      let r = then_ok (if_head behind behind e at x line next d) (λ (y : Draft). scoped m h e (n + 1) next y) new w in
      let first = good_head h q (λ v. typed.If v behind behind) e at x line n next size d r.0 (λ k v t has. branches v t behind behind has) (λ v. (omega arith, omega arith, omega arith)) small good r.1 in
      let second = good_scoped h m s e (n + 1) next size r.0 new (omega arith) small first.good r.2 in
      counted_as h e size (n + 1 + m.size) (n + (1 + m.size)) d new (omega arith) (and_on h e size (n + 1) (n + 1 + m.size) d r.0 new first second);
}

good_branches : (h : Classes) → HasTypedStatements h → (x : Operand) (m o : Meaning) → IsGoodMeaning h m → IsGoodMeaning h o → IsGoodKind h (branch x m (Some o))
good_branches h q x m o s t = record {
  walks = λ e at line n next size d new few small good w.
      let other = n + 1 + m.size in
      let behind = n + 1 + m.size + o.size in
      let p = then_ok (if_head other behind e at x line next d >>> scoped m h e (n + 1) next) (λ (y : Draft). scoped o h e (n + 1 + m.size) next y) new w in
      let r = then_ok (if_head other behind e at x line next d) (λ (y : Draft). scoped m h e (n + 1) next y) p.0 p.1 in
      let first = good_head h q (λ v. typed.If v other behind) e at x line n next size d r.0 (λ k v t has. branches v t other behind has) (λ v. (omega arith, omega arith, omega arith)) small good r.1 in
      let second = good_scoped h m s e (n + 1) next size r.0 p.0 (omega arith) small first.good r.2 in
      let third = good_scoped h o t e (n + 1 + m.size) next size p.0 new (omega arith) small second.good p.2 in
      counted_as h e size (n + 1 + m.size + o.size) (n + (1 + m.size + o.size)) d new (omega arith)
      (and_on h e size (n + 1 + m.size) (n + 1 + m.size + o.size) d p.0 new (and_on h e size (n + 1) (n + 1 + m.size) d r.0 p.0 first second) third);
}

good_loop : (h : Classes) → HasTypedStatements h → (x : Operand) (m : Meaning) → IsGoodMeaning h m → IsGoodKind h (loop x m)
good_loop h q x m s = record {
  walks = λ e at line n next size d new few small good w.
      let behind = n + 1 + m.size in
      let r = then_ok (while_head behind e at x line next d) (λ (y : Draft). scoped m h e (n + 1) n y) new w in
      let first = good_head h q (λ v. typed.While v behind) e at x line n next size d r.0 (λ k v t has. repeats v t behind has) (λ v. (omega arith, omega arith)) small good r.1 in
      let second = good_scoped h m s e (n + 1) n size r.0 new (omega arith) (omega arith) first.good r.2 in
      counted_as h e size (n + 1 + m.size) (n + (1 + m.size)) d new (omega arith) (and_on h e size (n + 1) (n + 1 + m.size) d r.0 new first second);
}

-- statements one after another

abbrev AllGood : Classes → List Meaning → Type 0
AllGood h [] = Unit {0}
AllGood h (m ∷ ms) = IsGoodMeaning h m × AllGood h ms

next_small : (ms : List Meaning) (behind follow size : ℕ) → behind ≤ size → follow ≤ size → next_of ms behind follow ≤ size
next_small [] behind follow size a b = b
next_small (m ∷ ms) behind follow size a b = a

good_all : (h : Classes) (ms : List Meaning) → AllGood h ms → (e : Setting) (n follow size : ℕ) (d new : Draft) → n + sizes ms ≤ size → follow ≤ size → IsGoodDraft h e size n d → walk_all ms h e n follow d ≡ Ok new →
    IsLonger h e size (n + sizes ms) d new
unfolding walk_all
good_all h [] s e n follow size d new few small good w =
    let same : d ≡ new = cc in
    subst (IsLonger h e size (n + 0) d) same (counted_as h e size n (n + 0) d d (omega arith) (record { more = []; types = same_types d.scene.types d.scene.types refl; good = good }))
good_all h (m ∷ ms) s e n follow size d new few small good w =
    let r = then_ok (m.walk h e n (next_of ms (n + m.size) follow) d) (λ (x : Draft). walk_all ms h e (n + m.size) follow x) new w in
    let first = s.0.walks e n (next_of ms (n + m.size) follow) size d r.0 (omega arith) (next_small ms (n + m.size) follow size (omega arith) small) good r.1 in
    let second = good_all h ms s.1 e (n + m.size) follow size r.0 new (omega arith) small first.good r.2 in
    counted_as h e size (n + m.size + sizes ms) (n + (m.size + sizes ms)) d new (omega arith) (and_on h e size (n + m.size) (n + m.size + sizes ms) d r.0 new first second)

all_good : {C : Type 0} (h : Classes) (k : C → Statement) → ((c : C) → IsGoodMeaning h (statement_meaning (k c))) → (list : List C) → AllGood h (map statement_meaning (map k list))
all_good h k s [] = tt
all_good h k s (c ∷ list) = (s c, all_good h k s list)

-- trees

kind_good : (h : Classes) → HasTypedStatements h → {A B C : Type 0} (f : A → StatementKind) (g : B → BodyTree) (k : C → Statement) → ((b : B) → IsGoodMeaning h (block_meaning (g b))) → (y : StatementKind-F A B C) →
    IsGoodKind h (kind_meaning (roll-StatementKind (map-StatementKind A B C StatementKind BodyTree Statement f g k y)))
unfolding plain_of
kind_good h q f g k s (layer.Declare ty at x i) = subst (IsGoodKind h) (sym (layer_is (layer.Declare ty at x i))) (good_declaration h q ty at x i)
kind_good h q f g k s (layer.Assign x r) = subst (IsGoodKind h) (sym (layer_is (layer.Assign x r))) (good_plain h _ (by_plain h q (statement.Assign x r)))
kind_good h q f g k s (layer.Write place x) = subst (IsGoodKind h) (sym (layer_is (layer.Write place x))) (good_plain h _ (by_plain h q (statement.Write place x)))
kind_good h q f g k s (layer.Copy to source) = subst (IsGoodKind h) (sym (layer_is (layer.Copy to source))) (good_plain h _ (by_plain h q (statement.Copy to source)))
kind_good h q f g k s (layer.Call text) = subst (IsGoodKind h) (sym (layer_is (layer.Call text))) (good_plain h _ (by_plain h q (statement.Call text)))
kind_good h q f g k s (layer.Delete x) = subst (IsGoodKind h) (sym (layer_is (layer.Delete x))) (good_plain h _ (by_plain h q (statement.Delete x)))
kind_good h q f g k s (layer.If x b None) = subst (IsGoodKind h) (sym (layer_is (layer.If x (g b) None))) (good_branch h q x (block_meaning (g b)) (s b))
kind_good h q f g k s (layer.If x b (Some c)) = subst (IsGoodKind h) (sym (layer_is (layer.If x (g b) (Some (g c))))) (good_branches h q x (block_meaning (g b)) (block_meaning (g c)) (s b) (s c))
kind_good h q f g k s (layer.While x b) = subst (IsGoodKind h) (sym (layer_is (layer.While x (g b)))) (good_loop h q x (block_meaning (g b)) (s b))
kind_good h q f g k s (layer.Return x) = subst (IsGoodKind h) (sym (layer_is (layer.Return x))) (good_plain h _ (by_plain h q (statement.Return x)))
kind_good h q f g k s (layer.Print x) = subst (IsGoodKind h) (sym (layer_is (layer.Print x))) (good_plain h _ (by_plain h q (statement.Print x)))
kind_good h q f g k s (layer.PrintType x) = subst (IsGoodKind h) (sym (layer_is (layer.PrintType x))) (good_plain h _ (by_plain h q (statement.PrintType x)))
kind_good h q f g k s (layer.PrintView x) = subst (IsGoodKind h) (sym (layer_is (layer.PrintView x))) (good_plain h _ (by_plain h q (statement.PrintView x)))
kind_good h q f g k s (layer.Dump x) = subst (IsGoodKind h) (sym (layer_is (layer.Dump x))) (good_plain h _ (by_plain h q (statement.Dump x)))

block_good : (h : Classes) {A B C : Type 0} (f : A → StatementKind) (g : B → BodyTree) (k : C → Statement) → ((c : C) → IsGoodMeaning h (statement_meaning (k c))) → (y : BodyTree-F A B C) →
    IsGoodMeaning h (block_meaning (roll-BodyTree (map-BodyTree A B C StatementKind BodyTree Statement f g k y)))
block_good h {A = A} {B = B} {C = C} f g k s y =
    subst (IsGoodMeaning h) (sym (fold-roll-BodyTree KindMeaning Meaning Meaning kind_step block_step statement_step (map-BodyTree A B C StatementKind BodyTree Statement f g k y)))
    (record { walks = λ e n next size d new few small good w. good_all h (map statement_meaning (map k y.statements.items)) (all_good h k s y.statements.items) e n next size d new few small good w })

statement_good : (h : Classes) {A B C : Type 0} (f : A → StatementKind) (g : B → BodyTree) (k : C → Statement) → ((a : A) → IsGoodKind h (kind_meaning (f a))) → (y : Statement-F A B C) →
    IsGoodMeaning h (statement_meaning (roll-Statement (map-Statement A B C StatementKind BodyTree Statement f g k y)))
statement_good h {A = A} {B = B} {C = C} f g k s y =
    subst (IsGoodMeaning h) (sym (fold-roll-Statement KindMeaning Meaning Meaning kind_step block_step statement_step (map-Statement A B C StatementKind BodyTree Statement f g k y)))
    (record { walks = λ e n next size d new few small good w. (s y.kind).walks e y.at y.line n next size d new few small good w })

pub blocks_are_good : (h : Classes) → HasTypedStatements h → (b : BodyTree) → IsGoodMeaning h (block_meaning b)
blocks_are_good h q = ind-BodyTree (λ k. IsGoodKind h (kind_meaning k)) (λ b. IsGoodMeaning h (block_meaning b)) (λ s. IsGoodMeaning h (statement_meaning s))
    (λ x y is. subst (λ z. IsGoodKind h (kind_meaning (roll-StatementKind z))) is (kind_good h q (λ e. e.0) (λ e. e.0) (λ e. e.0) (λ e. e.1) y))
    (λ x y is. subst (λ z. IsGoodMeaning h (block_meaning (roll-BodyTree z))) is (block_good h (λ e. e.0) (λ e. e.0) (λ e. e.0) (λ e. e.1) y))
    (λ x y is. subst (λ z. IsGoodMeaning h (statement_meaning (roll-Statement z))) is (statement_good h (λ e. e.0) (λ e. e.0) (λ e. e.0) (λ e. e.1) y))
