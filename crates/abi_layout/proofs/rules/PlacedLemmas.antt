-- Lemmas on the bases that are placed in a class.
use Rattle.std.proofs.Common.{◌≡◌, ℕ, ◌+◌, ◌<◌, Bool, true, false, Option, Some, None, List, [], ◌∷◌, ◌++◌, map, get_or, refl, ap, sym, ◌∙◌, arith}
use Rattle.std.specs.Prelude.{not, if◌then◌else◌}
use Rattle.std.specs.Option.{is_some}
use Rattle.std.specs.List.{slice_get}
use Rattle.cxx_hierarchy.specs.declared.records.ClassId.{ClassId}
use Rattle.cxx_hierarchy.specs.Classes.{Classes}
use Rattle.cxx_subobject.specs.declared.Subobject.{Subobject}
use Rattle.cxx_subobject.specs.Subobjects.{whole_of}
use Rattle.abi_emptybase.specs.declared.Part.{Part}
use Rattle.abi_emptybase.specs.Table.{moved_part}
use Rattle.abi_primary.specs.declared.Primary.{Primary}
use Rattle.abi_primary.specs.Holder.{holder_of}
use Rattle.abi_layout.specs.Holding.{AreHolders}
use Rattle.abi_layout.specs.declared.component.Component.{Component}
use Rattle.abi_sound.specs.declared.class_layout.ClassLayout.{ClassLayout}
use Rattle.abi_layout.specs.declared.known.Known.{Known}
use Rattle.abi_layout.specs.declared.placed_bases.PlacedBase.{PlacedBase}
use Rattle.abi_sound.specs.Places.{size_in_row, nvalign_in}
use Rattle.abi_layout.specs.Placements.{nvsize_in}
use Rattle.abi_layout.specs.invariants.Known.{is_empty_in, empties_in, known_parts_of}
use Rattle.abi_layout.specs.Brought.{brought_by}
use Rattle.abi_layout.specs.PlacedBases.{class_of_placed, subobject_of, is_free, component_of_row, placed_component}
use Rattle.abi_layout.specs.invariants.Scenes.{TellsHolders}
use Rattle.abi_layout.proofs.lists.Lists.{number}
use Rattle.abi_layout.proofs.rules.HoldingLemmas.{any_default}
use Rattle.abi_layout.proofs.algorithm.SceneLemmas.{holder_below, holder_is, holder_is_none}

pub moved_none : (parts : List Part) → map (moved_part 0) parts ≡ parts
moved_none [] = refl
moved_none (part ∷ parts) =
    let e : part.place + 0 ≡ part.place = omega arith in
    ap (λ p. (let x : Part = record { class = part.class; place = p } in x) ∷ map (moved_part 0) parts) e ∙ ap (λ xs. part ∷ xs) (moved_none parts)

pub free_by : (h : Classes) (ps : List Primary) (c : ClassId) (list : List Subobject) (count : ℕ) (holders : List (Option ℕ)) (v : ClassId) (o : Option ℕ) (b : Bool) → TellsHolders h ps c list → AreHolders ps list count holders → v.0 < count → o ≡ get_or holders v.0 None → is_some o ≡ not b → b ≡ is_free (holder_of h ps c v)
free_by h ps c list count holders v None true same are lt e t = sym (ap is_free (holder_is_none h ps c list count holders v same are lt (sym e)))
free_by h ps c list count holders v None false same are lt e t = let f : false ≡ true = t in cc
free_by h ps c list count holders v (Some n) true same are lt e t = let f : true ≡ false = t in cc
free_by h ps c list count holders v (Some n) false same are lt e t =
    let x = get_or list n (whole_of (number 0)) in
    sym (ap is_free (holder_is h ps c list count holders v n x same are lt (sym e) (any_default list n (whole_of (number 0)) x (holder_below ps list count holders v n are lt (sym e)))))

abbrev pub component_at : Option Known → Option ClassLayout → List Part → Component
component_at known row parts = record { is_empty = is_empty_in known; align = nvalign_in row; takes = if is_empty_in known then size_in_row row else nvsize_in row; width = None; parts = parts }

-- a component by the row of its class, and by what else is known of it
pub placed_by : (h : Classes) (rows : List ClassLayout) (known : List Known) (ps : List Primary) (c b : ClassId) (base : PlacedBase) (s : Subobject) (row : ClassLayout) (k : Known) (parts : List Part) → b ≡ class_of_placed base → s ≡ subobject_of c base
    → slice_get rows b.0 ≡ Some row → slice_get known b.0 ≡ Some k → parts ≡ [] ++ map (moved_part 0) (brought_by h rows ps (known_parts_of known) c s b) → component_of_row row k.is_empty parts ≡ placed_component (empties_in known) h rows ps (known_parts_of known) c base
placed_by h rows known ps c b base s row k parts b_is s_is row_there known_there e =
    let brings : parts ≡ brought_by h rows ps (known_parts_of known) c (subobject_of c base) (class_of_placed base) =
    e ∙ (moved_none (brought_by h rows ps (known_parts_of known) c s b) ∙ (ap (λ t. brought_by h rows ps (known_parts_of known) c t b) s_is ∙ ap (λ t. brought_by h rows ps (known_parts_of known) c (subobject_of c base) t) b_is)) in
    ap (λ x. component_at x (Some row) parts) (sym known_there ∙ ap (λ (t : ClassId). slice_get known t.0) b_is)
    ∙ (ap (λ x. component_at (slice_get known (class_of_placed base).0) x parts) (sym row_there ∙ ap (λ (t : ClassId). slice_get rows t.0) b_is)
    ∙ ap (component_at (slice_get known (class_of_placed base).0) (slice_get rows (class_of_placed base).0)) brings)
