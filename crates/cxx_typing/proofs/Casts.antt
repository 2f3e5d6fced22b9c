-- Casts lead from the class of the pointer to the target.
use Rattle.std.proofs.Common.{◌≡◌, ℕ, ◌<◌, Bool, true, false, Option, Some, None, Ok, refl, sym, ap, subst, length}
use Rattle.std.specs.Prelude.{nat_eq, if◌then◌else◌, slice_get}
use Rattle.std.proofs.lemmas.Bool.{eqb-true}
use Rattle.std.proofs.lemmas.List.{length-map}
use Rattle.std.proofs.lemmas.Option.{slice_get_within}
use Rattle.foundation.proofs.Chosen.{any_has}
use Rattle.cxx_hierarchy.specs.declared.records.ClassId.{ClassId}
use Rattle.cxx_hierarchy.specs.declared.records.ValueType.TheVariants as type
use Rattle.cxx_hierarchy.specs.Classes.{Class, Classes, class_at, class_names}
use Rattle.cxx_hierarchy.specs.Hierarchies.{IsHierarchy}
use Rattle.cxx_hierarchy.specs.NameTables.{Text, place_in}
use Rattle.cxx_hierarchy.proofs.Listed.{place_listed}
use Rattle.cxx_subobject.specs.declared.Root.{Root}
use Rattle.cxx_subobject.specs.declared.Root.TheVariants.{Whole, Shared}
use Rattle.cxx_subobject.specs.declared.Subobject.{Subobject}
use Rattle.cxx_subobject.specs.Subobjects.{IsSubobject, class_of as class_of_subobject}
use Rattle.cxx_subobject.specs.Preorder.{preorder}
use Rattle.cxx_subobject.proofs.PathLemmas.{same_id}
use Rattle.cxx_syntax.specs.declared.tree.Spot.{Spot}
use Rattle.cxx_syntax.specs.declared.tree.PointerText.{PointerText}
use Rattle.cxx_syntax.specs.declared.tree.CastText.{CastText}
use Rattle.cxx_syntax.specs.declared.tree.CastKind.{CastKind}
use Rattle.cxx_syntax.specs.declared.tree.CastKind.TheVariants as kind
use Rattle.cxx_program.specs.declared.statement.TypedCast.{TypedCast}
use Rattle.cxx_program.specs.declared.statement.TypedCast.TheVariants as cast
use Rattle.cxx_program.specs.declared.statement.TypedRight.TheVariants as typed
use Rattle.cxx_program.specs.Typed.{Scope, HasType, IsProperBase, Casts, cast_same, cast_up, cast_down, cast_dynamic, IsPolymorphic, a_cast, a_type_test}
use Rattle.cxx_expression.specs.declared.look_up.Based.{Based}
use Rattle.cxx_expression.specs.declared.look_up.Based.TheVariants as based
use Rattle.cxx_expression.specs.declared.scene.Scene.{Scene}
use Rattle.cxx_expression.specs.declared.scene.Setting.{Setting}
use Rattle.cxx_expression.specs.declared.typed.Pointer.{Pointer}
use Rattle.cxx_expression.specs.declared.typed.RightValue.{RightValue}
use Rattle.cxx_expression.specs.Checked.{pure}
use Rattle.cxx_hierarchy.specs.Declarations.{has_virtual, declares_virtual}
use Rattle.cxx_expression.specs.Lookups.{class_numbered, find_class, base_up, is_polymorphic}
use Rattle.cxx_expression.specs.Values.{as_class, class_named, class_of_spot, pointer_of}
use Rattle.cxx_expression.specs.Operators.{right_value, truth_value}
use Rattle.cxx_expression.specs.Casts.{down_to, up_or_down, static_cast, if_polymorphic, up_or_dynamic, dynamic_cast, cast_of, cast_right, polymorphic_pointer, type_right}
use Rattle.cxx_subobject.proofs.TreeLemmas.{has_preorder}
use Rattle.cxx_typing.proofs.Steps.{then_both, pair_both}
use Rattle.cxx_typing.specs.Scopes.{IsSetting, IsScene}
use Rattle.cxx_typing.proofs.Values.{pointer_typed, proper_base, apart_by}
use Rattle.cxx_typing.proofs.Operators.{IsRight, right_is}

-- classes

numbered : (o : Option ℕ) (c : ClassId) → class_numbered o ≡ Some c → o ≡ Some c.0
numbered None c e = absurd (cc)
numbered (Some n) c e = let same : record { 0 = n } ≡ c = cc in ap (λ (x : ClassId). Some x.0) same

pub class_found : (h : Classes) (name : Text) (c : ClassId) → find_class h name ≡ Some c → slice_get (class_names h) c.0 ≡ Some name
unfolding find_class
class_found h name c e = place_listed (class_names h) name c.0 (numbered (place_in (class_names h) name) c e)

pub class_known : (h : Classes) (name : Text) (c : ClassId) → find_class h name ≡ Some c → c.0 < length h
class_known h name c e = subst (λ (n : ℕ). c.0 < n) (length-map h (λ (class : Class). class.name)) (slice_get_within (class_names h) c.0 name (class_found h name c e))

as_class_typed : (at : ℕ) (o : Option ClassId) (c : ClassId) → (as_class at o).typed ≡ Ok c → o ≡ Some c
as_class_typed at None c t = absurd (cc)
as_class_typed at (Some d) c t = let same : d ≡ c = cc in ap Some same

pub named_class_typed : (h : Classes) (name : Text) (at : ℕ) (c : ClassId) → (class_named h name at).typed ≡ Ok c → c.0 < length h
unfolding class_named
named_class_typed h name at c t = class_known h name c (as_class_typed at (find_class h name) c t)

pub class_typed : (h : Classes) (x : Spot) (c : ClassId) → (class_of_spot h x).typed ≡ Ok c → c.0 < length h
unfolding class_of_spot
class_typed h x c t = named_class_typed h x.name x.at c t

-- classes with virtual functions

declares_by : (h : Classes) (c : ClassId) (s : Subobject) → IsSubobject h c s → (o : Option ClassId) → class_of_subobject s ≡ o → declares_virtual h o ≡ true → IsPolymorphic h c
declares_by h c s valid None of e = absurd (cc)
declares_by h c s valid (Some d) of e = by_class (class_at h d) refl e
  where
    by_class : (o : Option Class) → class_at h d ≡ o → has_virtual o ≡ true → IsPolymorphic h c
    by_class None there e = absurd (cc)
    by_class (Some class) there e = record { source = d; part = record { part = s; valid = valid; class = of }; class = class; there = there; declares = e }

pub polymorphic : (h : Classes) (c : ClassId) → is_polymorphic h c ≡ true → IsPolymorphic h c
unfolding is_polymorphic
polymorphic h c e =
    let some = any_has (λ s. declares_virtual h (class_of_subobject s)) (preorder h c) e in
    declares_by h c some.item (has_preorder h c some.item some.has) (class_of_subobject some.item) refl some.passes

-- casts

down_typed : (h : Classes) (at : ℕ) (c d : ClassId) (s : Subobject) (root : Root) → s.root ≡ root → d.0 < length h → IsProperBase h d s c → (x : TypedCast) → (down_to at d s root).typed ≡ Ok x → Casts h c x d
down_typed h at c d s Whole is known base x t = let same : cast.Down d s ≡ x = cc in subst (λ (y : TypedCast). Casts h c y d) same (cast_down c d s base is known)
down_typed h at c d s (Shared v) is known base x t = absurd (cc)

static_by : (h : Classes) → IsHierarchy h → (at : ℕ) (c d : ClassId) → (c ≡ d → ⊥) → d.0 < length h → (a b : Based) → base_up h c d ≡ a → base_up h d c ≡ b → (x : TypedCast) → (up_or_down at d a b).typed ≡ Ok x → Casts h c x d
static_by h keeps at c d apart known (based.Base s) b up down x t = let same : cast.Up s ≡ x = cc in subst (λ (y : TypedCast). Casts h c y d) same (cast_up c d s (proper_base h keeps c d s apart up))
static_by h keeps at c d apart known based.TwoBases b up down x t = absurd (cc)
static_by h keeps at c d apart known based.NotBase based.NotBase up down x t = absurd (cc)
static_by h keeps at c d apart known based.NotBase based.TwoBases up down x t = absurd (cc)
static_by h keeps at c d apart known based.NotBase (based.Base s) up down x t = down_typed h at c d s s.root refl known (proper_base h keeps d c s (λ e. apart (sym e)) down) x t

same_cast : (h : Classes) (c d : ClassId) → nat_eq c.0 d.0 ≡ true → (x : TypedCast) → cast.Same ≡ x → Casts h c x d
same_cast h c d is x same = subst (λ (y : TypedCast). Casts h c y d) same (subst (λ (e : ClassId). Casts h c cast.Same e) (same_id c d (eqb-true c.0 d.0 is)) (cast_same c))

static_if : (h : Classes) → IsHierarchy h → (at : ℕ) (c d : ClassId) → d.0 < length h → (one : Bool) → nat_eq c.0 d.0 ≡ one → (x : TypedCast) → (if one then pure cast.Same else up_or_down at d (base_up h c d) (base_up h d c)).typed ≡ Ok x → Casts h c x d
static_if h keeps at c d known true is x t = same_cast h c d is x (cc)
static_if h keeps at c d known false is x t = static_by h keeps at c d (apart_by c d is) known (base_up h c d) (base_up h d c) refl refl x t

static_typed : (h : Classes) → IsHierarchy h → (at : ℕ) (c d : ClassId) → d.0 < length h → (x : TypedCast) → (static_cast h at c d).typed ≡ Ok x → Casts h c x d
unfolding static_cast
static_typed h keeps at c d known x t = static_if h keeps at c d known (nat_eq c.0 d.0) refl x t

polymorphic_by : {X : Type 0} (at : ℕ) (flag : Bool) (x y : X) → (if_polymorphic at flag x).typed ≡ Ok y → (flag ≡ true) × (x ≡ y)
polymorphic_by at true x y t = (refl, cc)
polymorphic_by at false x y t = absurd (cc)

dynamic_by : (h : Classes) → IsHierarchy h → (at : ℕ) (c d : ClassId) → (c ≡ d → ⊥) → d.0 < length h → (a : Based) → base_up h c d ≡ a → (x : TypedCast) → (up_or_dynamic h at c d a).typed ≡ Ok x → Casts h c x d
dynamic_by h keeps at c d apart known (based.Base s) up x t = let same : cast.Up s ≡ x = cc in subst (λ (y : TypedCast). Casts h c y d) same (cast_up c d s (proper_base h keeps c d s apart up))
dynamic_by h keeps at c d apart known based.TwoBases up x t = absurd (cc)
dynamic_by h keeps at c d apart known based.NotBase up x t =
    let p = polymorphic_by at (is_polymorphic h c) (cast.Dynamic d) x t in
    subst (λ (y : TypedCast). Casts h c y d) p.1 (cast_dynamic c d (polymorphic h c p.0) known)

dynamic_if : (h : Classes) → IsHierarchy h → (at : ℕ) (c d : ClassId) → d.0 < length h → (one : Bool) → nat_eq c.0 d.0 ≡ one → (x : TypedCast) → (if one then pure cast.Same else up_or_dynamic h at c d (base_up h c d)).typed ≡ Ok x → Casts h c x d
dynamic_if h keeps at c d known true is x t = same_cast h c d is x (cc)
dynamic_if h keeps at c d known false is x t = dynamic_by h keeps at c d (apart_by c d is) known (base_up h c d) refl x t

dynamic_typed : (h : Classes) → IsHierarchy h → (at : ℕ) (c d : ClassId) → d.0 < length h → (x : TypedCast) → (dynamic_cast h at c d).typed ≡ Ok x → Casts h c x d
unfolding dynamic_cast
dynamic_typed h keeps at c d known x t = dynamic_if h keeps at c d known (nat_eq c.0 d.0) refl x t

cast_typed : (h : Classes) → IsHierarchy h → (at : ℕ) (by : CastKind) (c d : ClassId) → d.0 < length h → (x : TypedCast) → (cast_of h at by c d).typed ≡ Ok x → Casts h c x d
unfolding cast_of
cast_typed h keeps at kind.Static c d known x t = static_typed h keeps at c d known x t
cast_typed h keeps at kind.Plain c d known x t = static_typed h keeps at c d known x t
cast_typed h keeps at kind.Dynamic c d known x t = dynamic_typed h keeps at c d known x t

pub cast_right_typed : (h : Classes) → IsHierarchy h → (e : Setting) (s : Scene) (k : Scope) → IsSetting e k → IsScene s k → (at : ℕ) (text : CastText) (r : RightValue) → (cast_right h e s at text).typed ≡ Ok r → IsRight h k r
unfolding cast_right
cast_right_typed h keeps e s k f g at text r t =
    let p = then_both _ _ r t in
    let q = pair_both (class_of_spot h text.target).typed (pointer_of e s at text.pointer).typed p.0 p.1 in
    let c = then_both (cast_of h at text.kind p.0.1.class p.0.0).typed _ r p.2 in
    let result = right_value (typed.Cast c.0 p.0.1.operand) (type.Pointer p.0.0) false in
    let same : result ≡ r = let last = c.2 in cc in
    right_is h k (typed.Cast c.0 p.0.1.operand) result r same refl refl (a_cast c.0 p.0.1.operand p.0.1.class p.0.0 (pointer_typed e s k f g at text.pointer p.0.1 q.1) (cast_typed h keeps at text.kind p.0.1.class p.0.0 (class_typed h text.target p.0.0 q.0) c.0 c.1))

-- the pointer is one to a class with virtual functions
pub record IsPolymorphicPointer (h : Classes) (k : Scope) (p : Pointer) : Type 0 where
  pub has : HasType k p.operand (type.Pointer p.class)
  pub class : IsPolymorphic h p.class

pub polymorphic_typed : (h : Classes) (e : Setting) (s : Scene) (k : Scope) → IsSetting e k → IsScene s k → (at : ℕ) (x : PointerText) (p : Pointer) → (polymorphic_pointer h e s at x).typed ≡ Ok p → IsPolymorphicPointer h k p
unfolding polymorphic_pointer
polymorphic_typed h e s k f g at x p t =
    let r = then_both (pointer_of e s at x).typed _ p t in
    let q = polymorphic_by at (is_polymorphic h r.0.class) r.0 p r.2 in
    subst (IsPolymorphicPointer h k) q.1 (record { has = pointer_typed e s k f g at x r.0 r.1; class = polymorphic h r.0.class q.0 })

pub type_test_typed : (h : Classes) (e : Setting) (s : Scene) (k : Scope) → IsSetting e k → IsScene s k → (at : ℕ) (x : PointerText) (name : Spot) (r : RightValue) → (type_right h e s at x name).typed ≡ Ok r → IsRight h k r
unfolding type_right
type_test_typed h e s k f g at x name r t =
    let p = then_both _ _ r t in
    let q = pair_both (polymorphic_pointer h e s at x).typed (class_of_spot h name).typed p.0 p.1 in
    let pointer = polymorphic_typed h e s k f g at x p.0.0 q.0 in
    let result = truth_value (typed.TypeEqual p.0.0.operand p.0.1) in
    let same : result ≡ r = let last = p.2 in cc in
    right_is h k (typed.TypeEqual p.0.0.operand p.0.1) result r same refl refl (a_type_test p.0.0.operand p.0.0.class p.0.1 pointer.has pointer.class (class_typed h name p.0.1 q.1))
