-- Direct bases by their classes, as the code finds them.
use Rattle.std.proofs.Common.{◌≡◌, ℕ, ◌<◌, Bool, true, false, List, length, get_or, refl, ap, sym, ◌∙◌}
use Rattle.std.specs.Prelude.{Some, not, ◌&&◌, nat_eq, Contains, slice_get}
use Rattle.std.proofs.lemmas.Bool.{and_parts, and_from, eqb-true, eq-eqb}
use Rattle.std.proofs.lemmas.Option.{slice_get-get_or}
use Rattle.foundation.proofs.Truth.{not_both}
use Rattle.foundation.proofs.Places.{contains_at}
use Rattle.cxx_hierarchy.specs.declared.records.ClassId.{ClassId}
use Rattle.cxx_hierarchy.specs.declared.records.Base.{Base}
use Rattle.cxx_hierarchy.specs.Classes.{Classes, bases_of}
use Rattle.cxx_hierarchy.specs.Hierarchies.{IsHierarchy}
use Rattle.cxx_hierarchy.specs.VirtualBases.{IsDirectBase}
use Rattle.cxx_subobject.proofs.PathLemmas.{same_id}
use Rattle.path_numbers.specs.Sizes.{sizes_of, base_offset}
use Rattle.path_numbers.specs.Numbers.{base_number}
use Rattle.path_numbers.proofs.Placed.{base_number_at}

abbrev pub is_own : ClassId → Base ClassId → Bool
is_own b base = not base.is_virtual && nat_eq base.class.0 b.0

-- it is not the direct base b that is not virtual
abbrev pub IsOther : ClassId → Base ClassId → Type 0
IsOther b base = is_own b base ≡ false

not_true : (b : Bool) → not b ≡ true → b ≡ false
not_true true e = sym e
not_true false e = refl

pub own_found : (h : Classes) → IsHierarchy h → (c b : ClassId) (bases : List (Base ClassId)) (i : ℕ) (base : Base ClassId) (n : ℕ) → bases ≡ bases_of h c → i < length bases → base ≡ get_or bases i base → is_own b base ≡ true → n ≡ base_offset h (sizes_of h) c i
    → IsDirectBase h c false b × (n ≡ base_number h c b)
own_found h keeps c b bases i base n e lt at own number =
    let both = and_parts (not base.is_virtual) (nat_eq base.class.0 b.0) own in
    let class = same_id base.class b (eqb-true base.class.0 b.0 both.1) in
    let there : slice_get (bases_of h c) i ≡ Some base = ap (λ (l : List (Base ClassId)). slice_get l i) (sym e) ∙ (slice_get-get_or bases i base lt ∙ ap (λ (x : Base ClassId). Some x) (sym at)) in
    (record { base = base; listed = contains_at (bases_of h c) i base there; class = class; way = not_true base.is_virtual both.0 }, number ∙ (sym (base_number_at h keeps c i base there) ∙ ap (base_number h c) class))

pub own_nowhere : (h : Classes) (c b : ClassId) → ((base : Base ClassId) → Contains (bases_of h c) base → IsOther b base) → IsDirectBase h c false b → ⊥
own_nowhere h c b none edge = not_both (and_from (not edge.base.is_virtual) (nat_eq edge.base.class.0 b.0) (ap not edge.way) (eq-eqb edge.base.class.0 b.0 (ap (λ (d : ClassId). d.0) edge.class))) (none edge.base edge.listed)
