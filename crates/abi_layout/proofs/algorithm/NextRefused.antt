-- A class that is refused is too large by the rules, or brings one pair of class and place twice.
use Rattle.std.proofs.Common.{◌≡◌, ℕ, ◌⊎◌, ⊎_elim, inl, inr, Bool, Some, None, Option, List, [], ◌∷◌, ◌++◌, map, length, refl, subst, sym, ◌∙◌}
use Rattle.std.specs.Prelude.{Contains}
use Rattle.std.specs.Option.{option_map}
use Rattle.std.specs.List.{slice_get}
use Rattle.std.proofs.lemmas.Option.{slice_get-map}
use Rattle.cxx_hierarchy.specs.declared.records.ClassId.{ClassId}
use Rattle.cxx_hierarchy.specs.declared.stop.Stop.{Stop}
use Rattle.cxx_hierarchy.specs.declared.stop.Stop.TheVariants.{NoMemory, Refused, Limit}
use Rattle.cxx_hierarchy.specs.declared.stop.Rule.TheVariants.{SharedPlace}
use Rattle.cxx_hierarchy.specs.declared.stop.LimitNo.TheVariants.{L6}
use Rattle.cxx_hierarchy.specs.Classes.{Class, Classes}
use Rattle.abi_emptybase.specs.declared.Part.{Part}
use Rattle.abi_primary.specs.declared.Primary.{Primary}
use Rattle.abi_layout.specs.declared.component.Component.{Component}
use Rattle.abi_layout.specs.declared.known.Known.{Known}
use Rattle.abi_sound.specs.declared.class_layout.ClassLayout.{ClassLayout}
use Rattle.abi_layout.specs.declared.placed_bases.PlacedBase.{PlacedBase}
use Rattle.abi_layout.specs.Kinds.{pod_kind, is_empty}
use Rattle.abi_layout.specs.Placements.{member_component}
use Rattle.abi_layout.specs.invariants.Known.{pods_in, members_by}
use Rattle.abi_layout.specs.PlacedBases.{free_bases, placed_component}
use Rattle.abi_layout.specs.Repeats.{HasRepeat, SomeRepeats}
use Rattle.abi_layout.specs.Layouts.{fronts, object_parts, start_stage, front_components, free_components, IsLayoutBy, IsArrangedBy, BringsTwice}
use Rattle.abi_layout.specs.invariants.Arrangements.{row_from, IsTooLargeBy, LeavesNoPlace, components_by}
use Rattle.abi_layout.specs.Refusals.{IsLargeClass, StopsLayout, by_size, by_place}
use Rattle.abi_layout.proofs.lists.Lists.{has_at}
use Rattle.abi_layout.proofs.rules.KindLemmas.{contains_of, has_of}
use Rattle.abi_layout.proofs.rules.Stages.{has_left, has_right}
use Rattle.abi_layout.proofs.rules.AgreeingClasses.{layout_along}
use Rattle.abi_layout.proofs.algorithm.SceneFits.{bit_fields}
use Rattle.abi_layout.proofs.algorithm.NextArranged.{bases_positive, members_positive, arranged_exists, start_positive}
use Rattle.abi_layout.proofs.algorithm.NextComponents.{IsNextKnown, next_class, next_same}

-- an arrangement by what is known is one by the rules
pub by_rules : (h : Classes) (c : ClassId) (class : Class) (rows : List ClassLayout) (known : List Known) (members : List (List Part)) (nearly : List Bool) (ps : List Primary) (primary : Primary) (has_pointer : Bool) → IsNextKnown h c class rows known members nearly ps primary has_pointer
    → (front_places free_places : List ℕ) (row : ClassLayout)
    → IsLayoutBy (start_stage c has_pointer) (components_by h rows known (ps ++ primary ∷ []) c (fronts (ps ++ primary ∷ []) c class)) (members_by rows known class) (components_by h rows known (ps ++ primary ∷ []) c (free_bases h (ps ++ primary ∷ []) c)) front_places free_places (pod_kind (pods_in known) class) row
    → IsArrangedBy h rows (ps ++ primary ∷ []) c class has_pointer front_places free_places row
by_rules h c class rows known members nearly ps primary has_pointer next front_places free_places row laid =
    let qs = ps ++ primary ∷ [] in
    let same = next_same h c class rows known members nearly ps primary has_pointer next in
    subst (λ b. IsLayoutBy (start_stage c has_pointer) (front_components h rows qs (object_parts h rows qs) c class) (map (member_component rows (object_parts h rows qs)) class.members) (free_components h rows qs (object_parts h rows qs) c) front_places free_places b row) same.pod
    (layout_along (start_stage c has_pointer)
    (components_by h rows known qs c (fronts qs c class)) (front_components h rows qs (object_parts h rows qs) c class)
    (members_by rows known class) (map (member_component rows (object_parts h rows qs)) class.members)
    (components_by h rows known qs c (free_bases h qs c)) (free_components h rows qs (object_parts h rows qs) c)
    front_places front_places free_places free_places (pod_kind (pods_in known) class) row same.fronts_are same.members_are same.frees_are refl refl laid)

-- a class each arrangement of which is too large
pub large_class : (h : Classes) (c : ClassId) (class : Class) (rows : List ClassLayout) (known : List Known) (members : List (List Part)) (nearly : List Bool) (ps : List Primary) (primary : Primary) (has_pointer : Bool) → IsNextKnown h c class rows known members nearly ps primary has_pointer
    → IsTooLargeBy (start_stage c has_pointer) (components_by h rows known (ps ++ primary ∷ []) c (fronts (ps ++ primary ∷ []) c class)) (members_by rows known class) (components_by h rows known (ps ++ primary ∷ []) c (free_bases h (ps ++ primary ∷ []) c)) (pod_kind (pods_in known) class)
    → IsLargeClass h c
large_class h c class rows known members nearly ps primary has_pointer next too_large =
    let qs = ps ++ primary ∷ [] in
    let sized = next.so_far.sized in
    let count : length known ≡ length rows = next.so_far.known_each ∙ sym next.so_far.by.one_each in
    let made = arranged_exists (start_stage c has_pointer) (components_by h rows known qs c (fronts qs c class)) (members_by rows known class) (components_by h rows known qs c (free_bases h qs c)) (pod_kind (pods_in known) class) (start_positive has_pointer)
    (bases_positive h c rows known qs sized count (fronts qs c class)) (members_positive rows known sized count class.members (bit_fields h c class next.keeps next.there)) (bases_positive h c rows known qs sized count (free_bases h qs c)) in
    record {
      size = made.row.size;
      has = record {
        next = next_class h c class rows known members nearly ps primary has_pointer next;
        front_places = made.front_places;
        free_places = made.free_places;
        row = made.row;
        placed = by_rules h c class rows known members nearly ps primary has_pointer next made.front_places made.free_places made.row made.laid;
        is = refl;
      };
      large = too_large.large made.front_places made.free_places made.row made.laid;
    }

-- the base at the number of a component
pub record HasBaseAt (f : PlacedBase → Component) (bases : List PlacedBase) (component : Component) : Type 0 where
  pub base : PlacedBase
  pub has : Contains bases base
  pub is : f base ≡ component

pub base_at : (f : PlacedBase → Component) (bases : List PlacedBase) (i : ℕ) (component : Component) → slice_get (map f bases) i ≡ Some component → HasBaseAt f bases component
base_at f bases i component e = by_option (slice_get bases i) refl (sym (slice_get-map f bases i) ∙ e)
  where
    by_option : (o : Option PlacedBase) → slice_get bases i ≡ o → option_map f o ≡ Some component → HasBaseAt f bases component
    by_option None there same = let no_component : None ≡ Some component = same in cc
    by_option (Some base) there same = record { base = base; has = has_at bases i base there; is = cc }

-- a component that repeats is a base that brings a pair twice
pub twice_by : (h : Classes) (c : ClassId) (class : Class) (rows : List ClassLayout) (qs : List Primary) (bases : List PlacedBase) (cs : List Component) → cs ≡ map (placed_component (is_empty h) h rows qs (object_parts h rows qs) c) bases
    → ((base : PlacedBase) → Contains bases base → Contains (fronts qs c class ++ free_bases h qs c) base) → SomeRepeats cs → BringsTwice h rows qs c class
twice_by h c class rows qs bases cs are among repeats =
    let f = placed_component (is_empty h) h rows qs (object_parts h rows qs) c in
    let at = base_at f bases repeats.number repeats.component (subst (λ (xs : List Component). slice_get xs repeats.number ≡ Some repeats.component) are repeats.there) in
    record {
      base = at.base;
      placed = among at.base at.has;
      repeated = subst (λ (x : Component). HasRepeat x.parts) (sym at.is) repeats.repeated;
    }

in_left : {X : Type 0} (xs ys : List X) (x : X) → Contains xs x → Contains (xs ++ ys) x
in_left xs ys x has = contains_of (xs ++ ys) x (has_left xs ys x (has_of xs x has))

in_right : {X : Type 0} (xs ys : List X) (x : X) → Contains ys x → Contains (xs ++ ys) x
in_right xs ys x has = contains_of (xs ++ ys) x (has_right xs ys x (has_of ys x has))

pub brings_twice : (h : Classes) (c : ClassId) (class : Class) (rows : List ClassLayout) (known : List Known) (members : List (List Part)) (nearly : List Bool) (ps : List Primary) (primary : Primary) (has_pointer : Bool) → IsNextKnown h c class rows known members nearly ps primary has_pointer
    → SomeRepeats (components_by h rows known (ps ++ primary ∷ []) c (fronts (ps ++ primary ∷ []) c class)) ⊎ SomeRepeats (components_by h rows known (ps ++ primary ∷ []) c (free_bases h (ps ++ primary ∷ []) c)) → BringsTwice h rows (ps ++ primary ∷ []) c class
brings_twice h c class rows known members nearly ps primary has_pointer next repeats =
    let qs = ps ++ primary ∷ [] in
    let same = next_same h c class rows known members nearly ps primary has_pointer next in
    ⊎_elim
    (λ x. twice_by h c class rows qs (fronts qs c class) (components_by h rows known qs c (fronts qs c class)) same.fronts_are (in_left (fronts qs c class) (free_bases h qs c)) x)
    (λ x. twice_by h c class rows qs (free_bases h qs c) (components_by h rows known qs c (free_bases h qs c)) same.frees_are (in_right (fronts qs c class) (free_bases h qs c)) x)
    repeats

-- a class that is refused
pub stops_by : (h : Classes) (c : ClassId) (class : Class) (rows : List ClassLayout) (known : List Known) (members : List (List Part)) (nearly : List Bool) (ps : List Primary) (primary : Primary) (has_pointer : Bool) (stop : Stop) → IsNextKnown h c class rows known members nearly ps primary has_pointer
    → ((stop ≡ NoMemory)
    ⊎ (((stop ≡ Limit L6) × IsTooLargeBy (start_stage c has_pointer) (components_by h rows known (ps ++ primary ∷ []) c (fronts (ps ++ primary ∷ []) c class)) (members_by rows known class) (components_by h rows known (ps ++ primary ∷ []) c (free_bases h (ps ++ primary ∷ []) c)) (pod_kind (pods_in known) class))
    ⊎ ((stop ≡ Refused SharedPlace class.at) × LeavesNoPlace (start_stage c has_pointer) (components_by h rows known (ps ++ primary ∷ []) c (fronts (ps ++ primary ∷ []) c class)) (members_by rows known class) (components_by h rows known (ps ++ primary ∷ []) c (free_bases h (ps ++ primary ∷ []) c)) (pod_kind (pods_in known) class))))
    → (stop ≡ NoMemory) ⊎ StopsLayout h c stop
stops_by h c class rows known members nearly ps primary has_pointer stop next refused =
    ⊎_elim (λ e. inl e)
    (λ r. inr (⊎_elim
    (λ large. subst (StopsLayout h c) (sym large.0) (by_size (large_class h c class rows known members nearly ps primary has_pointer next large.1)))
    (λ twice.
    let a = twice.1.arrangement in
    let laid = twice.1.arranged.laid primary [] [] [] [] in
    subst (StopsLayout h c) (sym twice.0)
    (by_place class a.size next.there
    (record {
      next = next_class h c class rows known members nearly ps primary has_pointer next;
      front_places = a.front_places;
      free_places = a.free_places;
      row = row_from a primary [] [] [] [];
      placed = by_rules h c class rows known members nearly ps primary has_pointer next a.front_places a.free_places (row_from a primary [] [] [] []) laid;
      is = refl;
    })
    twice.1.small
    (record { next = next_class h c class rows known members nearly ps primary has_pointer next; twice = brings_twice h c class rows known members nearly ps primary has_pointer next twice.1.repeats })))
    r))
    refused
