-- What the classes before bring lies within them, so that the components of a class fit.
use Rattle.std.proofs.Common.{◌≡◌, ℕ, zero, suc, ◌+◌, ◌<◌, ◌≤◌, ◌^◌, Bool, true, false, Option, Some, None, List, [], ◌∷◌, ◌++◌, map, length, inl, inr, ⊎_elim, refl, ap, subst, sym, ◌∙◌, arith}
use Rattle.std.specs.Prelude.{if◌then◌else◌, ◌⊎◌, All}
use Rattle.std.specs.List.{slice_get, Contains, flat_map}
use Rattle.std.proofs.lemmas.List.Elements.{All-nil, All-cons, All-head, All-tail}
use Rattle.cxx_hierarchy.specs.declared.records.ClassId.{ClassId}
use Rattle.cxx_hierarchy.specs.declared.records.Base.{Base}
use Rattle.cxx_hierarchy.specs.declared.records.Member.{Member}
use Rattle.cxx_hierarchy.specs.declared.records.FieldType.{FieldType}
use Rattle.cxx_hierarchy.specs.declared.records.FieldType.TheVariants.{Value, Object}
use Rattle.cxx_hierarchy.specs.declared.stop.LimitNo.TheVariants.{L6}
use Rattle.cxx_hierarchy.specs.declared.stop.Rule.TheVariants.{SharedPlace}
use Rattle.cxx_hierarchy.specs.declared.stop.Stop.{Stop}
use Rattle.cxx_hierarchy.specs.declared.stop.Stop.TheVariants.{NoMemory, Refused, Limit}
use Rattle.cxx_hierarchy.specs.Classes.{Class, Classes, class_at, bases_of, members_in}
use Rattle.cxx_hierarchy.specs.Hierarchies.{IsHierarchy}
use Rattle.cxx_subobject.specs.declared.Subobject.{Subobject}
use Rattle.cxx_subobject.specs.Subobjects.{base_subobject, shared_base}
use Rattle.abi_emptybase.specs.declared.Part.{Part}
use Rattle.abi_emptybase.specs.Table.{moved_part}
use Rattle.abi_primary.specs.declared.Primary.{Primary}
use Rattle.abi_layout.specs.Limits.{size_limit}
use Rattle.abi_layout.specs.declared.component.Component.{Component}
use Rattle.abi_layout.specs.declared.component.Stage.{Stage}
use Rattle.abi_layout.specs.declared.known.Known.{Known}
use Rattle.abi_sound.specs.declared.class_layout.ClassLayout.{ClassLayout}
use Rattle.abi_layout.specs.declared.placed_bases.PlacedBase.{PlacedBase}
use Rattle.abi_sound.specs.Places.{direct_base_place}
use Rattle.abi_layout.specs.Placements.{placed_part, nvsize_in, stage_after_all, member_component}
use Rattle.abi_layout.specs.invariants.Alignments.{LieUpTo, IsFit, AreFit}
use Rattle.abi_layout.specs.invariants.Known.{empties_in, known_parts_of, IsSized, AreAllSized, IsEarlierType, HasLarge}
use Rattle.abi_layout.specs.Holding.{held_base}
use Rattle.abi_layout.specs.Brought.{parts_in_members, base_brings, virtual_brings, brought, brought_by}
use Rattle.abi_layout.specs.PlacedBases.{class_of_placed, subobject_of, placed_component}
use Rattle.abi_layout.specs.invariants.Scenes.{IsLayoutScene}
use Rattle.abi_layout.specs.Repeats.{SomeRepeats}
use Rattle.abi_layout.specs.declared.arrangement.Arrangement.{Arrangement}
use Rattle.abi_layout.specs.invariants.Arrangements.{IsArranged, IsWithinLimit, IsTooLargeBy, LeavesNoPlace, IsRefusal, components_by}
use Rattle.abi_layout.proofs.lists.Lists.{get_within, has_here, has_later}
use Rattle.abi_layout.proofs.rules.Parts.{split, within_further, within_moved, within_both}
use Rattle.abi_layout.proofs.rules.PlacingLemmas.{size_grows}
use Rattle.abi_layout.proofs.algorithm.RowLemmas.{sized_of, AreBitFields, bit_field_small, large_passes}
use Rattle.abi_layout.proofs.rules.BroughtLemmas.{held_is_primary}
use Rattle.abi_layout.proofs.rules.PlacedLemmas.{component_at}

within_flat : {X : Type 0} (end : ℕ) (f : X → List Part) (xs : List X) → ((x : X) → Contains xs x → LieUpTo end (f x)) → LieUpTo end (flat_map f xs)
within_flat end f [] each = tt
within_flat end f (x ∷ xs) each = within_both end (f x) (flat_map f xs) (each x (has_here x xs)) (within_flat end f xs (λ y has. each y (has_later x xs y has)))

base_within : (h : Classes) (rows : List ClassLayout) (f : Subobject → ClassId → List Part) (s : Subobject) (d : ClassId) (base : Base ClassId) (end : ℕ) → (base.is_virtual ≡ false → (t : Subobject) → LieUpTo end (map (moved_part (direct_base_place h rows d base.class)) (f t base.class))) → LieUpTo end (base_brings h rows f s d base)
base_within h rows f s d base end each = split base.is_virtual (λ b. (b ≡ false → (t : Subobject) → LieUpTo end (map (moved_part (direct_base_place h rows d base.class)) (f t base.class))) → LieUpTo end (if b then [] else map (moved_part (direct_base_place h rows d base.class)) (f (base_subobject s base) base.class)))
    (λ t inner. tt)
    (λ e inner. inner refl (base_subobject s base)) each

virtual_within : (f : Subobject → ClassId → List Part) (o : Option ClassId) (end : ℕ) → ((v : ClassId) → o ≡ Some v → (t : Subobject) → LieUpTo end (f t v)) → LieUpTo end (virtual_brings f o)
virtual_within f None end each = tt
virtual_within f (Some v) end each = each v refl (shared_base v)

-- what a subobject of a class before brings lies within that class
pub brought_within : (h : Classes) (c : ClassId) (rows : List ClassLayout) (known : List Known) (members : List (List Part)) (ps : List Primary) (list : List Subobject) (holders : List (Option ℕ)) → IsHierarchy h → IsLayoutScene h c rows known members ps list holders
    → (n : ℕ) (s : Subobject) (d : ClassId) → d.0 < c.0 → LieUpTo (nvsize_in (slice_get rows d.0)) (brought h rows ps (known_parts_of known) c n s d)
brought_within h c rows known members ps list holders keeps scene zero s d lt = tt
brought_within h c rows known members ps list holders keeps scene (suc n) s d lt =
    let by = brought h rows ps (known_parts_of known) c n in
    let end = nvsize_in (slice_get rows d.0) in
    let each = scene.member_each in
    let own = get_within members d.0 (omega arith) in
    let mine : LieUpTo end (parts_in_members h rows (known_parts_of known) d) = subst (λ (xs : List Part). LieUpTo end xs) (scene.brings d own.0 own.1) (scene.inside.by_members d own.0 own.1) in
    within_both end (placed_part d 0 ∷ parts_in_members h rows (known_parts_of known) d) (flat_map (base_brings h rows by s d) (bases_of h d) ++ virtual_brings by (held_base h ps c s d))
    (omega arith, mine)
    (within_both end (flat_map (base_brings h rows by s d) (bases_of h d)) (virtual_brings by (held_base h ps c s d))
    (within_flat end (base_brings h rows by s d) (bases_of h d) (λ base has. base_within h rows by s d base end (λ way t.
    let falls = keeps.bases d base has in
    let inner = brought_within h c rows known members ps list holders keeps scene n t base.class (omega arith) in
    within_further (direct_base_place h rows d base.class + nvsize_in (slice_get rows base.class.0)) end (map (moved_part (direct_base_place h rows d base.class)) (by t base.class)) (scene.inside.by_bases d base lt has way) (within_moved (nvsize_in (slice_get rows base.class.0)) (direct_base_place h rows d base.class) (by t base.class) inner))))
    (virtual_within by (held_base h ps c s d) end (λ v e t.
    let is = held_is_primary h ps c s d v e in
    let falls = scene.before.falls d v is in
    within_further (nvsize_in (slice_get rows v.0)) end (by t v) (scene.inside.by_primary d v lt is) (brought_within h c rows known members ps list holders keeps scene n t v (omega arith)))))

fit_by : (x : Option ClassLayout) (y : Option Known) (row : ClassLayout) (k : Known) (parts : List Part) → x ≡ Some row → y ≡ Some k → IsSized row k.parts → LieUpTo (nvsize_in x) parts → IsFit (component_at y x parts)
fit_by x y row k parts r q sized within =
    let inner : LieUpTo row.nvsize parts = subst (λ (o : Option ClassLayout). LieUpTo (nvsize_in o) parts) r within in
    subst (λ (o : Option ClassLayout). IsFit (component_at y o parts)) (sym r) (subst (λ (o : Option Known). IsFit (component_at o (Some row) parts)) (sym q) (made k.is_empty inner))
  where
    made : (b : Bool) → LieUpTo row.nvsize parts → IsFit (record { is_empty = b; align = row.nvalign; takes = if b then row.size else row.nvsize; width = None; parts = parts })
    made true w = record { align = sized.nvalign; takes = sized.size; parts = within_further row.nvsize row.size parts sized.nvsize w; width = λ n e. cc }
    made false w = record { align = sized.nvalign; takes = let a = sized.nvsize in let b = sized.size in omega arith; parts = w; width = λ n e. cc }

placed_fit : (h : Classes) (c : ClassId) (rows : List ClassLayout) (known : List Known) (members : List (List Part)) (ps : List Primary) (list : List Subobject) (holders : List (Option ℕ)) → IsHierarchy h → IsLayoutScene h c rows known members ps list holders → AreAllSized rows known
    → (base : PlacedBase) → (class_of_placed base).0 < c.0 → IsFit (placed_component (empties_in known) h rows ps (known_parts_of known) c base)
placed_fit h c rows known members ps list holders keeps scene sized base lt =
    let b = class_of_placed base in
    let row_each = scene.row_each in
    let known_each = scene.known_each in
    let e = sized_of rows known b sized (omega arith) (omega arith) in
    fit_by (slice_get rows b.0) (slice_get known b.0) e.row e.k (brought_by h rows ps (known_parts_of known) c (subobject_of c base) b) e.row_is e.known_is e.sized
    (brought_within h c rows known members ps list holders keeps scene (b.0 + 1) (subobject_of c base) b lt)

-- the bases that are placed fit
pub placed_all_fit : (h : Classes) (c : ClassId) (rows : List ClassLayout) (known : List Known) (members : List (List Part)) (ps : List Primary) (list : List Subobject) (holders : List (Option ℕ)) → IsHierarchy h → IsLayoutScene h c rows known members ps list holders → AreAllSized rows known
    → (bases : List PlacedBase) → All (λ (base : PlacedBase). (class_of_placed base).0 < c.0) bases → AreFit (components_by h rows known ps c bases)
placed_all_fit h c rows known members ps list holders keeps scene sized [] all = tt
placed_all_fit h c rows known members ps list holders keeps scene sized (base ∷ bases) all = (
  placed_fit h c rows known members ps list holders keeps scene sized base (All-head (λ (base : PlacedBase). (class_of_placed base).0 < c.0) base bases all),
  placed_all_fit h c rows known members ps list holders keeps scene sized bases (All-tail (λ (base : PlacedBase). (class_of_placed base).0 < c.0) base bases all),
)

-- a class before is of a size that moves
pub nvsize_small : (rows : List ClassLayout) (known : List Known) (d : ClassId) → AreAllSized rows known → d.0 < length rows → d.0 < length known → nvsize_in (slice_get rows d.0) ≤ 1000000
nvsize_small rows known d sized lt_rows lt_known =
    let e = sized_of rows known d sized lt_rows lt_known in
    let a = e.sized.nvsize in
    let b = e.sized.size in
    rw e.row_is (omega arith)

pub earlier_type : (n : ℕ) (type : FieldType ClassId) → ((d : ClassId) → type ≡ Object d → d.0 < n) → IsEarlierType n type
earlier_type n (Value type) falls = tt
earlier_type n (Object d) falls = falls d refl

-- the classes of member objects are before
pub earlier_members : (h : Classes) (c : ClassId) (class : Class) (n : ℕ) → IsHierarchy h → class_at h c ≡ Some class → n ≡ c.0 → (member : Member ClassId) → Contains class.members member → IsEarlierType n member.ty
earlier_members h c class n keeps e count member has = earlier_type n member.ty (λ d object. let falls = keeps.objects c d member (subst (λ (o : Option Class). Contains (members_in o) member) (sym e) has) object in omega arith)

-- the widths of a class are those of bit-fields
pub bit_fields : (h : Classes) (c : ClassId) (class : Class) → IsHierarchy h → class_at h c ≡ Some class → AreBitFields class.members
bit_fields h c class keeps e member n has width = keeps.widths c member n (subst (λ (o : Option Class). Contains (members_in o) member) (sym e) has) width

-- no bit-field takes more than the limit
abbrev pub HasSmallFields : List Component → Type 0
HasSmallFields cs = (i : ℕ) (c : Component) → slice_get cs i ≡ Some c → (n : ℕ) → c.width ≡ Some n → c.takes ≤ size_limit

pub fields_small : (rows : List ClassLayout) (parts : ClassId → List Part) (members : List (Member ClassId)) → AreBitFields members → HasSmallFields (map (member_component rows parts) members)
fields_small rows parts [] bits i c e n w = cc
fields_small rows parts (m ∷ members) bits zero c e n w =
    let same : member_component rows parts m ≡ c = cc in
    let s = bit_field_small rows parts m n (bits m n (has_here m members) (ap (λ (z : Component). z.width) same ∙ w)) in
    let takes : (member_component rows parts m).takes ≡ c.takes = ap (λ (z : Component). z.takes) same in
    omega (arith, s, takes)
fields_small rows parts (m ∷ members) bits (suc i) c e n w = fields_small rows parts members (λ x k h v. bits x k (has_later m members x h) v) i c e n w

-- a member that takes more than the limit makes the size pass it
pub large_member : (first : Stage) (fs ms vs : List Component) (pod : Bool) → HasSmallFields ms → HasLarge ms → IsTooLargeBy first fs ms vs pod
large_member first fs ms vs pod small has = record {
  large = λ ps rs row l.
      let p = large_passes (stage_after_all first fs ps) ms row.member_places has.number has.component size_limit l.members_placed has.there (small has.number has.component has.there) has.large in
      let k = size_grows (stage_after_all (stage_after_all first fs ps) ms row.member_places) vs rs in
      let b = l.size.behind in omega arith;
}

-- a class that is within the limit, with a base that brings a pair twice
pub no_place_by : (first : Stage) (fs fronts ms members vs frees : List Component) (pod : Bool) (a : Arrangement) → fs ≡ fronts → ms ≡ members → vs ≡ frees → IsArranged first fs ms vs pod a → IsWithinLimit a → SomeRepeats fronts ⊎ SomeRepeats frees → LeavesNoPlace first fronts members frees pod
no_place_by first fs fronts ms members vs frees pod a f m v arranged within twice = record {
  arrangement = a;
  arranged = subst (λ (xs : List Component). IsArranged first fronts members xs pod a) v (subst (λ (xs : List Component). IsArranged first fronts xs vs pod a) m (subst (λ (xs : List Component). IsArranged first xs ms vs pod a) f arranged));
  small = within.size;
  repeats = twice;
}

-- what an error of a member tells
pub member_refuses : (first : Stage) (fs ms vs : List Component) (pod : Bool) (place : ℕ) (stop : Stop) → HasSmallFields ms → (stop ≡ NoMemory) ⊎ ((stop ≡ Limit L6) × HasLarge ms) → IsRefusal first fs ms vs pod place stop
member_refuses first fs ms vs pod place stop small told = ⊎_elim (λ e. inl e) (λ large. inr (inl (large.0, large_member first fs ms vs pod small large.1))) told

-- what an error of the sizes tells
pub size_refuses : (first : Stage) (fs fronts ms members vs frees : List Component) (pod : Bool) (place : ℕ) (stop : Stop) → fs ≡ fronts → ms ≡ members → vs ≡ frees → (stop ≡ NoMemory) ⊎ ((stop ≡ Limit L6) × IsTooLargeBy first fs ms vs pod) → IsRefusal first fronts members frees pod place stop
size_refuses first fs fronts ms members vs frees pod place stop f m v told =
    subst (λ (xs : List Component). IsRefusal first fronts members xs pod place stop) v (subst (λ (xs : List Component). IsRefusal first fronts xs vs pod place stop) m (subst (λ (xs : List Component). IsRefusal first xs ms vs pod place stop) f (here told)))
  where
    here : (stop ≡ NoMemory) ⊎ ((stop ≡ Limit L6) × IsTooLargeBy first fs ms vs pod) → IsRefusal first fs ms vs pod place stop
    here t = ⊎_elim (λ e. inl e) (λ large. inr (inl large)) t

-- what an error tells of some bases that bring a pair twice
pub repeat_refuses : (first : Stage) (fronts members frees some : List Component) (pod : Bool) (place : ℕ) (stop : Stop) → (SomeRepeats some → LeavesNoPlace first fronts members frees pod) → (stop ≡ NoMemory) ⊎ ((stop ≡ Refused SharedPlace place) × SomeRepeats some) → IsRefusal first fronts members frees pod place stop
repeat_refuses first fronts members frees some pod place stop is told = ⊎_elim (λ e. inl e) (λ twice. inr (inr (twice.0, is twice.1))) told

-- the places of fitting components are small
pub fit_places : (cs : List Component) (i : ℕ) (component : Component) → AreFit cs → slice_get cs i ≡ Some component → All (λ (part : Part). part.place < 2 ^ 32) component.parts
fit_places [] i component fit e = cc
fit_places (x ∷ cs) zero component fit e = let same : x ≡ component = cc in let f = subst IsFit same fit.0 in let t = f.takes in all_small component.takes component.parts (omega arith) f.parts
  where
    all_small : (end : ℕ) (parts : List Part) → end < 2 ^ 32 → LieUpTo end parts → All (λ (part : Part). part.place < 2 ^ 32) parts
    all_small end [] lt w = All-nil (λ (part : Part). part.place < 2 ^ 32)
    all_small end (part ∷ parts) lt w = All-cons (λ (part : Part). part.place < 2 ^ 32) part parts (let h = w.0 in omega arith) (all_small end parts lt w.1)
fit_places (x ∷ cs) (suc i) component fit e = fit_places cs i component fit.1 e
