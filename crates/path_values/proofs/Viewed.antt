-- What is told by the view, for the model's objects.
use Rattle.std.proofs.Common.{◌≡◌, ℕ, ◌+◌, ◌^◌, ◌%◌, Bool, true, false, Option, Some, None, refl, ap, subst, sym, ◌∙◌}
use Rattle.std.specs.Prelude.{◌&&◌, find, if◌then◌else◌, option_map}
use Rattle.std.proofs.Math.Nat.{mod-eq_of_lt}
use Rattle.foundation.proofs.Chosen.{find_passes}
use Rattle.cxx_hierarchy.specs.declared.records.ClassId.{ClassId}
use Rattle.cxx_hierarchy.specs.Classes.{Classes}
use Rattle.cxx_hierarchy.specs.Hierarchies.{IsHierarchy}
use Rattle.cxx_subobject.specs.declared.Subobject.{Subobject}
use Rattle.cxx_subobject.specs.Subobjects.{IsSubobject, join, same_subobject, is_of_class}
use Rattle.cxx_subobject.specs.Inside.{IsInside}
use Rattle.cxx_subobject.proofs.TreeLemmas.{has_preorder}
use Rattle.cxx_subobject.specs.Preorder.{preorder}
use Rattle.cxx_subobject.proofs.InsideLemmas.{inside_valid}
use Rattle.cxx_overrider.specs.declared.FunctionId.{FunctionId}
use Rattle.cxx_overrider.specs.declared.Overrider.{Overrider}
use Rattle.cxx_overrider.specs.Functions.{is_pure}
use Rattle.cxx_search.specs.Searches.{is_within, preorder_of, is_pure_overrider, cast_in}
use Rattle.cxx_search.specs.Casts.{IsCast, leads_down, leads_across, leads_nowhere}
use Rattle.cxx_search.proofs.Casts.{cast_is}
use Rattle.cxx_search.proofs.Finals.{found_final}
use Rattle.path_plan.specs.Places.{ObjectPart, part}
use Rattle.path_numbers.specs.Numbers.{subobject_number}
use Rattle.path_model.specs.Values.{Value, Unset, Null, Pointer, Objects}
use Rattle.path_model.specs.Uses.{view_of, value_or, view_cast, down_value, dynamic_value}
use Rattle.path_model.specs.Rules.{is_pure_in_view}
use Rattle.path_model.specs.Effects.{overrider_by, overrider_in_view, at_part}
use Rattle.path_model.proofs.RuleLaws.{pure_by}
use Rattle.path_heap.specs.declared.state.Value.{Value as ValueCode}
use Rattle.path_heap.specs.declared.state.Value.TheVariants.{Unset as UnsetCode, Null as NullCode}
use Rattle.path_heap.specs.declared.heap.Heap.{Heap}
use Rattle.path_heap.specs.Points.{Points}
use Rattle.path_heap.specs.Stands.{HeapStands, Means}
use Rattle.path_tables.specs.declared.finals.FinalAt.{FinalAt}
use Rattle.path_tables.specs.Parts.{IsNumbered, number_where_found, numbered_overrider, derived_in}
use Rattle.path_values.specs.declared.standing.Standing.{Standing}
use Rattle.path_values.specs.Views.{RunsByView}
use Rattle.path_values.specs.invariants.Standing.{IsViewNumber, IsStanding, pointer_or}
use Rattle.path_values.proofs.PartNumbers.{points_behind, is_small}

-- the view, by its number
view_none : (h : Classes) (c : ClassId) (v : Option ℕ) (x : Option Subobject) → v ≡ None → IsViewNumber h c v x → x ≡ None
view_none h c None None e k = refl
view_none h c None (Some x) e k = absurd k
view_none h c (Some v) x e k = absurd (cc)

record HasView (h : Classes) (c : ClassId) (m : ℕ) (x : Option Subobject) : Type 0 where
  view : Subobject
  is : x ≡ Some view
  number : IsNumbered h c m view

view_some : (h : Classes) (c : ClassId) (m : ℕ) (v : Option ℕ) (x : Option Subobject) → v ≡ Some m → IsViewNumber h c v x → HasView h c m x
view_some h c m None x e k = absurd (cc)
view_some h c m (Some v) None e k = absurd k
view_some h c m (Some v) (Some x) e k = record { view = x; is = refl; number = let same : v ≡ m = cc in subst (λ n. IsNumbered h c n x) same k }

pure_told : (h : Classes) (c : ClassId) (o : Option Overrider) (found : FinalAt) → Some found ≡ numbered_overrider h c o → is_pure h found.function ≡ is_pure_overrider h o
pure_told h c None found e = absurd (cc)
pure_told h c (Some o) found e = let same : found ≡ record { at = subobject_number h c o.at; function = o.function } = cc in ap (λ (t : FinalAt). is_pure h t.function) same

pub pure_some : (h : Classes) (s : Objects) (p : ObjectPart) (c : ClassId) (f : FunctionId) (found : FinalAt) (pure : Bool) → Some found ≡ numbered_overrider h c (overrider_by h (view_of h s p) p.at f) → pure ≡ is_pure h found.function → pure ≡ is_pure_in_view h s f p
pure_some h s p c f found pure e told = told ∙ (pure_told h c (overrider_by h (view_of h s p) p.at f) found e ∙ sym (pure_by h (view_of h s p) p.at f))

none_numbered : (h : Classes) (c : ClassId) (o : Option Overrider) → None ≡ numbered_overrider h c o → o ≡ None
none_numbered h c None e = refl
none_numbered h c (Some o) e = absurd (cc)

-- the subobject where a final overrider is found
overrider_valid : (h : Classes) → IsHierarchy h → (c : ClassId) (v : Option Subobject) (y : Subobject) (f : FunctionId) (o : Overrider) → ((x : Subobject) → v ≡ Some x → IsSubobject h c x) → overrider_by h v y f ≡ Some o → IsSubobject h c o.at
overrider_valid h keeps c None y f o valid e = absurd (cc)
overrider_valid h keeps c (Some x) y f o valid e = (found_final h keeps c x (valid x refl) y f o e).candidate.candidate.valid

view_valid : (h : Classes) (c : ClassId) (v : Option ℕ) (x : Option Subobject) → IsViewNumber h c v x → (y : Subobject) → x ≡ Some y → IsSubobject h c y
view_valid h c None None k y e = absurd (cc)
view_valid h c None (Some x) k y e = absurd k
view_valid h c (Some v) None k y e = absurd k
view_valid h c (Some v) (Some x) k y e = let same : x ≡ y = cc in subst (λ (t : Subobject). IsSubobject h c t) same k.valid

-- a subobject of the complete object, by the number that the code makes
pub points_to : (h : Classes) (heap : Heap) (s : Objects) → HeapStands h heap s → (p : ObjectPart) (at : Standing) → IsStanding h s p at → (x : Subobject) (k : ℕ) → IsSubobject h at.class x → k ≡ (at.whole + subobject_number h at.class x) % 2 ^ 64
    → Points h s.classes k (part p.object p.owner x)
points_to h heap s stands p at is x k valid e =
    let q = points_behind h stands.hierarchy s.classes p at.whole at.class is.complete x valid in
    let lt = is_small h stands.hierarchy s.classes stands.counts.few (at.whole + subobject_number h at.class x) (part p.object p.owner x) q in
    subst (λ n. Points h s.classes n (part p.object p.owner x)) (sym (e ∙ mod-eq_of_lt lt)) q

runs_told : (h : Classes) (heap : Heap) (s : Objects) → HeapStands h heap s → (p : ObjectPart) (at : Standing) → IsStanding h s p at → (o : Option Overrider) → ((a : Overrider) → o ≡ Some a → IsSubobject h at.class a.at) → (found : FinalAt) (this : ℕ) → Some found ≡ numbered_overrider h at.class o
    → this ≡ (at.whole + found.at) % 2 ^ 64 → RunsByView h s.classes (Some (record { this = this; function = found.function })) (option_map (at_part p) o)
runs_told h heap s stands p at is None valid found this e told = absurd (cc)
runs_told h heap s stands p at is (Some o) valid found this e told =
    let same : found ≡ record { at = subobject_number h at.class o.at; function = o.function } = cc in
    (points_to h heap s stands p at is o.at this (valid o refl) (told ∙ ap (λ (t : FinalAt). (at.whole + t.at) % 2 ^ 64) same), ap (λ (t : FinalAt). t.function) same)

pub dispatched_some : (h : Classes) (heap : Heap) (s : Objects) → HeapStands h heap s → (p : ObjectPart) (at : Standing) → IsStanding h s p at → (f : FunctionId) (found : FinalAt) (this : ℕ) → Some found ≡ numbered_overrider h at.class (overrider_by h (view_of h s p) p.at f)
    → this ≡ (at.whole + found.at) % 2 ^ 64 → RunsByView h s.classes (Some (record { this = this; function = found.function })) (overrider_in_view h s p f)
dispatched_some h heap s stands p at is f found this e told =
    runs_told h heap s stands p at is (overrider_by h (view_of h s p) p.at f) (λ o k. overrider_valid h stands.hierarchy at.class (view_of h s p) p.at f o (view_valid h at.class at.view (view_of h s p) is.view) k) found this e told

-- casts
abbrev IsInsideIf : Classes → Subobject → Option Subobject → Type 0
IsInsideIf h x None = Unit {0}
IsInsideIf h x (Some t) = IsInside h x t

cast_inside : (h : Classes) (target : ClassId) (x y : Subobject) (answer : Option Subobject) → IsCast h target x y answer → IsInsideIf h x answer
cast_inside h target x y _ (leads_down t k) = k.over.is.is_target.inside
cast_inside h target x y _ (leads_across t none k) = k.target_is.is.inside
cast_inside h target x y _ (leads_nowhere a b) = tt

cast_valid : (h : Classes) → IsHierarchy h → (c target : ClassId) (x y t : Subobject) → IsSubobject h c x → cast_in h target x y ≡ Some t → IsSubobject h c t
cast_valid h keeps c target x y t valid e = inside_valid h c x t valid (cast_inside h target x y (Some t) (cast_is h keeps c x valid target y (Some t) e))

pub value_told : (h : Classes) (heap : Heap) (s : Objects) → HeapStands h heap s → (p : ObjectPart) (at : Standing) → IsStanding h s p at → (t : Option Subobject) → ((x : Subobject) → t ≡ Some x → IsSubobject h at.class x) → (found : Option ℕ) → found ≡ number_where_found h at.class t
    → (code : ValueCode) (other : Value) → Means h s.classes code other → Means h s.classes (pointer_or at.whole found code) (value_or p other t)
value_told h heap s stands p at is None valid found e code other means = subst (λ (k : Option ℕ). Means h s.classes (pointer_or at.whole k code) other) (sym e) means
value_told h heap s stands p at is (Some x) valid found e code other means =
    subst (λ (k : Option ℕ). Means h s.classes (pointer_or at.whole k code) (Pointer (part p.object p.owner x))) (sym e) (points_to h heap s stands p at is x ((at.whole + subobject_number h at.class x) % 2 ^ 64) (valid x refl) refl)

pub cast_outside : (h : Classes) (s : Objects) (p : ObjectPart) (at : Standing) (m : ℕ) (target : ClassId) (inside : Bool) → IsStanding h s p at → at.view ≡ Some m → ((x y : Subobject) → IsNumbered h at.class m x → IsNumbered h at.class at.part y → inside ≡ is_within h x y) → inside ≡ false
    → Means h s.classes UnsetCode (dynamic_value h s target (Pointer p))
cast_outside h s p at m target inside is some told out =
    let v = view_some h at.class m at.view (view_of h s p) some is.view in
    subst (λ (t : Option Subobject). Means h s.classes UnsetCode (view_cast h target p t)) (sym v.is)
    (subst (λ b. Means h s.classes UnsetCode (if b then value_or p Null (cast_in h target v.view p.at) else Unset)) (sym out ∙ told v.view p.at v.number is.part) tt)

pub cast_some : (h : Classes) (heap : Heap) (s : Objects) → HeapStands h heap s → (p : ObjectPart) (at : Standing) (m : ℕ) (target : ClassId) (inside : Bool) (found : Option ℕ) → IsStanding h s p at → at.view ≡ Some m
    → ((x y : Subobject) → IsNumbered h at.class m x → IsNumbered h at.class at.part y → inside ≡ is_within h x y) → inside ≡ true
    → ((x y : Subobject) → IsNumbered h at.class m x → IsNumbered h at.class at.part y → found ≡ number_where_found h at.class (cast_in h target x y)) → Means h s.classes (pointer_or at.whole found NullCode) (dynamic_value h s target (Pointer p))
cast_some h heap s stands p at m target inside found is some told within leads =
    let v = view_some h at.class m at.view (view_of h s p) some is.view in
    subst (λ (t : Option Subobject). Means h s.classes (pointer_or at.whole found NullCode) (view_cast h target p t)) (sym v.is)
    (subst (λ b. Means h s.classes (pointer_or at.whole found NullCode) (if b then value_or p Null (cast_in h target v.view p.at) else Unset)) (sym within ∙ told v.view p.at v.number is.part)
    (value_told h heap s stands p at is (cast_in h target v.view p.at) (λ t e. cast_valid h stands.hierarchy at.class target v.view p.at t v.number.valid e) found (leads v.view p.at v.number is.part) NullCode Null tt))

pub down_told : (h : Classes) (heap : Heap) (s : Objects) → HeapStands h heap s → (p : ObjectPart) (at : Standing) (target : ClassId) (i : Subobject) (found : Option ℕ) → IsStanding h s p at
    → ((y : Subobject) → IsNumbered h at.class at.part y → found ≡ number_where_found h at.class (derived_in h at.class target i y)) → Means h s.classes (pointer_or at.whole found UnsetCode) (down_value h s target i (Pointer p))
down_told h heap s stands p at target i found is leads =
    let test : Subobject → Bool = λ t. is_of_class target t && same_subobject (join t i) p.at in
    subst (λ (c : Option ClassId). Means h s.classes (pointer_or at.whole found UnsetCode) (value_or p Unset (find test (preorder_of h c)))) (sym is.owner)
    (value_told h heap s stands p at is (find test (preorder h at.class)) (λ t e. has_preorder h at.class t (find_passes test (preorder h at.class) t e).0) found (leads p.at is.part) UnsetCode Unset tt)
