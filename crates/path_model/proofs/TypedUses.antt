-- What a statement that no rule refuses is given: values that are set, pointers that are not null, and views.
use Rattle.std.proofs.Common.{◌≡◌, Bool, true, false, Option, Some, None, List, refl, ap, subst}
use Rattle.std.specs.Prelude.{not}
use Rattle.foundation.proofs.Truth.{is_false, not_both}
use Rattle.foundation.proofs.Members.{Has}
use Rattle.foundation.proofs.Chosen.{has_any}
use Rattle.cxx_hierarchy.specs.declared.records.ClassId.{ClassId}
use Rattle.cxx_hierarchy.specs.declared.records.ValueType.TheVariants.{Pointer as PointerType}
use Rattle.cxx_hierarchy.specs.Classes.{Classes}
use Rattle.cxx_subobject.specs.declared.Subobject.{Subobject}
use Rattle.cxx_subobject.specs.Locations.{ObjectPart}
use Rattle.cxx_search.specs.Searches.{is_within}
use Rattle.path_rules.specs.declared.Undefined.{Undefined}
use Rattle.path_rules.specs.declared.Undefined.TheVariants.{NullUse, OutsideView, Unset as UnsetUse}
use Rattle.path_model.specs.Values.{Value, Unset, Number, Null, Pointer, Objects}
use Rattle.path_model.specs.Uses.{StatementUse, Reads, Follows, Views, view_of}
use Rattle.path_model.specs.Rules.{breaks, is_broken, refused, IsLeast, is_outside, is_outside_of}
use Rattle.path_model.specs.TypedStates.{IsPartMade, IsValue}
use Rattle.path_model.proofs.Least.{refused_least}

-- no use breaks a rule
pub unbroken : (h : Classes) (s : Objects) (us : List StatementUse) → refused h s us ≡ None → (u : StatementUse) → Has us u → (r : Undefined) → breaks h s r u ≡ false
unbroken h s us none u has r =
    let least : IsLeast (is_broken h s us) None = subst (λ (o : Option Undefined). IsLeast (is_broken h s us) o) none (refused_least h s us) in
    is_false (breaks h s r u) (λ yes_. not_both (has_any (breaks h s r) us u has yes_) (least r))

-- a value that is read is set
pub is_set : (h : Classes) (s : Objects) (us : List StatementUse) → refused h s us ≡ None → (v : Value) → Has us (Reads v) → v ≡ Unset → ⊥
is_set h s us none v has e = not_both (ap (λ (w : Value). breaks h s UnsetUse (Reads w)) e) (unbroken h s us none (Reads v) has UnsetUse)

-- a value that is followed is not null
pub is_some : (h : Classes) (s : Objects) (us : List StatementUse) → refused h s us ≡ None → (v : Value) → Has us (Follows v) → v ≡ Null → ⊥
is_some h s us none v has e = not_both (ap (λ (w : Value). breaks h s NullUse (Follows w)) e) (unbroken h s us none (Follows v) has NullUse)

pub record NamesPart (h : Classes) (s : Objects) (v : Value) (c : ClassId) : Type 0 where
  pub part : ObjectPart
  pub is : v ≡ Pointer part
  pub made : IsPartMade h s.classes part c

names_part : (h : Classes) (s : Objects) (c : ClassId) (v : Value) → (v ≡ Unset → ⊥) → (v ≡ Null → ⊥) → IsValue h s.classes v (PointerType c) → NamesPart h s v c
names_part h s c Unset set some a = absurd (set refl)
names_part h s c (Number z) set some a = absurd a
names_part h s c Null set some a = absurd (some refl)
names_part h s c (Pointer p) set some a = record { part = p; is = refl; made = a }

-- a pointer that is read and followed names a part
pub followed : (h : Classes) (s : Objects) (us : List StatementUse) → refused h s us ≡ None → (v : Value) → Has us (Reads v) → Has us (Follows v) → (c : ClassId) → IsValue h s.classes v (PointerType c) → NamesPart h s v c
followed h s us none v reads follows c a = names_part h s c v (is_set h s us none v reads) (is_some h s us none v follows) a

-- the view that a step has
pub record HasView (h : Classes) (s : Objects) (p : ObjectPart) : Type 0 where
  pub view : Subobject
  pub is : view_of h s p ≡ Some view
  pub within : is_within h view p.at ≡ true

not_false : (b : Bool) → not b ≡ false → b ≡ true
not_false true e = refl
not_false false e = absurd (let f : true ≡ false = e in cc)

view_by : (h : Classes) (s : Objects) (p : ObjectPart) (o : Option Subobject) → view_of h s p ≡ o → is_outside_of h o p.at ≡ false → HasView h s p
view_by h s p None is e = absurd (let f : true ≡ false = e in cc)
view_by h s p (Some x) is e = record { view = x; is = is; within = not_false (is_within h x p.at) e }

pub has_view : (h : Classes) (s : Objects) (p : ObjectPart) → is_outside h s p ≡ false → HasView h s p
has_view h s p e = view_by h s p (view_of h s p) refl e

-- a pointer whose view is asked for has one
pub viewed : (h : Classes) (s : Objects) (us : List StatementUse) → refused h s us ≡ None → (p : ObjectPart) → Has us (Views (Pointer p)) → is_outside h s p ≡ false
viewed h s us none p has = unbroken h s us none (Views (Pointer p)) has OutsideView
