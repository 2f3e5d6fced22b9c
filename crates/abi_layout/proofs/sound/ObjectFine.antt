-- What the rules give of each row alone: sizes in order, alignments, a byte for what is not empty, and room for a virtual
-- pointer in what is dynamic.
use Rattle.std.proofs.Common.{◌≡◌, ℕ, zero, suc, ◌+◌, ◌*◌, ◌<◌, ◌≤◌, inl, inr, ⊎_elim, Bool, true, false, Option, Some, None, List, [], ◌∷◌, ◌++◌, map, length, refl, ap, subst, sym, ◌∙◌, arith}
use Rattle.std.specs.Prelude.{if◌then◌else◌, max, filter, not, ◌&&◌}
use Rattle.std.specs.List.{slice_get, Contains}
use Rattle.std.proofs.lemmas.Bool.{not-true, eqb-true, and_parts}
use Rattle.std.proofs.Math.Nat.{le-max_left, le-max_right}
use Rattle.cxx_hierarchy.specs.declared.records.ClassId.{ClassId}
use Rattle.cxx_hierarchy.specs.declared.records.Base.{Base}
use Rattle.cxx_hierarchy.specs.declared.records.Member.{Member}
use Rattle.cxx_hierarchy.specs.declared.records.FieldType.{FieldType}
use Rattle.cxx_hierarchy.specs.declared.records.FieldType.TheVariants.{Value, Object}
use Rattle.cxx_hierarchy.specs.Classes.{Class, Classes, class_at, bases_in, members_in}
use Rattle.cxx_hierarchy.specs.Hierarchies.{IsBitField, IsHierarchy}
use Rattle.cxx_hierarchy.specs.VirtualBases.{IsDirectBase, HasVirtualBase}
use Rattle.cxx_subobject.proofs.TreeLemmas.{has_filter}
use Rattle.abi_primary.specs.declared.Primary.{Primary}
use Rattle.abi_primary.specs.declared.Primary.TheVariants.{None as NoPrimary, Direct, Virtual}
use Rattle.abi_primary.specs.Kinds.{IsDynamic}
use Rattle.abi_primary.specs.Holder.{holder_of}
use Rattle.abi_layout.specs.declared.component.Component.{Component}
use Rattle.abi_layout.specs.declared.component.Stage.{Stage}
use Rattle.abi_sound.specs.declared.class_layout.Bits.{Bits}
use Rattle.abi_sound.specs.declared.class_layout.ClassLayout.{ClassLayout}
use Rattle.abi_layout.specs.declared.placed_bases.PlacedBase.{PlacedBase}
use Rattle.abi_layout.specs.declared.placed_bases.PlacedBase.TheVariants.{Own, VirtualBase}
use Rattle.abi_sound.specs.Places.{size_in_row, align_in, nvalign_in}
use Rattle.abi_sound.specs.Sound.{Divides}
use Rattle.abi_layout.specs.Kinds.{is_empty, is_pod}
use Rattle.abi_layout.specs.Placements.{nvsize_in, elements_of, size_of_member_type, align_of_type, member_component, ArePlaced, stage_after}
use Rattle.cxx_subobject.specs.VirtualBases.{virtual_bases}
use Rattle.abi_layout.specs.PlacedBases.{first_base, is_first_base, is_other_base, front_bases, is_free, free_bases, IsPossible}
use Rattle.abi_layout.specs.Layouts.{primary_of, fronts, object_parts, start_stage, IsLaidBy}
use Rattle.abi_layout.specs.invariants.Alignments.{IsAlignment, byte, eight_bytes, HasFreeBit}
use Rattle.abi_layout.proofs.rules.Stages.{Has, split, has_left, has_right, has_map, has_cases, HasFitWidth, IsPut, grows}
use Rattle.abi_layout.proofs.algorithm.RowLemmas.{bit_field_fits}
use Rattle.abi_layout.proofs.rules.KindLemmas.{contains_of, in_filter}
use Rattle.abi_layout.proofs.lists.Positives.{value_align, align_positive, last_align, count_positive, product_positive}
use Rattle.abi_layout.proofs.lists.Divisions.{itself_divides}
use Rattle.abi_layout.proofs.algorithm.SettledLemmas.{base_below}
use Rattle.cxx_subobject.proofs.PathLemmas.{virtual_below}
use Rattle.abi_layout.proofs.algorithm.Searches.{same_class}
use Rattle.abi_layout.proofs.lists.Pairs.{has_mapped}
use Rattle.abi_layout.proofs.sound.ObjectKinds.{dynamic_has_data, HasData, by_member, by_kind, by_base, has_data}
use Rattle.cxx_subobject.proofs.VirtualBaseLemmas.{virtual_has}
use Rattle.abi_layout.proofs.sound.ObjectPrimaries.{HasRow, row_of, primary_possible, direct_primary, virtual_primary_of}
use Rattle.abi_layout.proofs.sound.ObjectItems.{put_at, widths_fit, Item, a_base, a_member, place_item, component_item, bits_or, bits_item, member_items, base_items, front_items, all_items, ArePut, front_stage, mid_stage, end_stage, IsRow, front_put, all_put, member_item, AreFields, start_known, front_fit, bases_fit, mid_known}

-- an item is a base or a member of its class
pub data IsItem (h : Classes) (c : ClassId) (class : Class) : Item → Type 0 where
  is_own : (b : ClassId) → IsDirectBase h c false b → IsItem h c class (a_base (Own b))
  is_virtual_base : (v : ClassId) → HasVirtualBase h c v → IsItem h c class (a_base (VirtualBase v))
  is_member : (n : ℕ) (member : Member ClassId) (place : ℕ) → Has class.members member → IsItem h c class (a_member n member place)

-- a plain base, by the list of bases
pub plain_edge : (h : Classes) (c : ClassId) (class : Class) (base : Base ClassId) → class_at h c ≡ Some class → Has class.bases base → base.is_virtual ≡ false → IsDirectBase h c false base.class
plain_edge h c class base at has way = record { base = base; listed = subst (λ (o : Option Class). Contains (bases_in o) base) (sym at) (contains_of class.bases base has); class = refl; way = way }

first_view : (h : Classes) (c : ClassId) (class : Class) (p : Primary) (base : PlacedBase) → IsPossible h c p → Has (first_base p) base → IsItem h c class (a_base base)
first_view h c class NoPrimary base possible has = absurd has
first_view h c class (Direct b) base possible has = ⊎_elim (λ e. subst (λ (x : PlacedBase). IsItem h c class (a_base x)) e (is_own b possible)) (λ r. absurd r) has
first_view h c class (Virtual v) base possible has = ⊎_elim (λ e. subst (λ (x : PlacedBase). IsItem h c class (a_base x)) e (is_virtual_base v possible)) (λ r. absurd r) has

front_view : (h : Classes) (c : ClassId) (class : Class) (p : Primary) (base : PlacedBase) → class_at h c ≡ Some class → IsPossible h c p → Has (front_bases p class.bases) base → IsItem h c class (a_base base)
front_view h c class p base at possible has = ⊎_elim
    (λ l. first_view h c class p base possible l)
    (λ r. let k = has_mapped (λ (x : Base ClassId). Own x.class) (filter (is_other_base p) class.bases) base r in
    let f = has_filter (is_other_base p) class.bases k.0 k.1 in
    let way = not-true k.0.is_virtual (and_parts (not k.0.is_virtual) (not (is_first_base p k.0)) f.1).0 in
    subst (λ (x : PlacedBase). IsItem h c class (a_base x)) k.2 (is_own k.0.class (plain_edge h c class k.0 at f.0 way)))
    (has_cases (first_base p) (map (λ (x : Base ClassId). Own x.class) (filter (is_other_base p) class.bases)) base has)

member_view : (h : Classes) (c : ClassId) (class : Class) (ps : List ℕ) (x : Item) → Has (member_items 0 class.members ps) x → IsItem h c class x
member_view h c class ps x has = let k = member_item 0 class.members ps x has in subst (IsItem h c class) k.is (is_member k.number k.member k.place k.has)

free_view : (h : Classes) (primaries : List Primary) (c : ClassId) (class : Class) (x : Item) → IsHierarchy h → Has (base_items (free_bases h primaries c)) x → IsItem h c class x
free_view h primaries c class x keeps has =
    let k = has_mapped a_base (free_bases h primaries c) x has in
    let l = has_mapped (λ (v : ClassId). VirtualBase v) (filter (λ (v : ClassId). is_free (holder_of h primaries c v)) (virtual_bases h c)) k.0 k.1 in
    let f = has_filter (λ (v : ClassId). is_free (holder_of h primaries c v)) (virtual_bases h c) l.0 l.1 in
    subst (IsItem h c class) (ap a_base l.2 ∙ k.2) (is_virtual_base l.0 (virtual_has h c l.0 f.0))

-- the items of a class are its bases and members
pub all_view : (h : Classes) (primaries : List Primary) (c : ClassId) (class : Class) (row : ClassLayout) (x : Item) → IsHierarchy h → class_at h c ≡ Some class → IsPossible h c (primary_of primaries c) → Has (all_items h primaries c class row) x → IsItem h c class x
all_view h primaries c class row x keeps at possible has = ⊎_elim
    (λ l. let k = has_mapped a_base (fronts primaries c class) x l in subst (IsItem h c class) k.2 (front_view h c class (primary_of primaries c) k.0 at possible k.1))
    (λ r. ⊎_elim (λ m. member_view h c class row.member_places x m) (λ v. free_view h primaries c class x keeps v) (has_cases (member_items 0 class.members row.member_places) (base_items (free_bases h primaries c)) x r))
    (has_cases (base_items (fronts primaries c class)) (member_items 0 class.members row.member_places ++ base_items (free_bases h primaries c)) x has)

-- those before the free bases are among them
pub front_among : (h : Classes) (primaries : List Primary) (c : ClassId) (class : Class) (row : ClassLayout) (x : Item) → Has (front_items primaries c class row) x → Has (all_items h primaries c class row) x
front_among h primaries c class row x has = ⊎_elim
    (λ l. has_left (base_items (fronts primaries c class)) (member_items 0 class.members row.member_places ++ base_items (free_bases h primaries c)) x l)
    (λ r. has_right (base_items (fronts primaries c class)) (member_items 0 class.members row.member_places ++ base_items (free_bases h primaries c)) x (has_left (member_items 0 class.members row.member_places) (base_items (free_bases h primaries c)) x r))
    (has_cases (base_items (fronts primaries c class)) (member_items 0 class.members row.member_places) x has)

-- each plain base is placed before the members, and so is the primary base
pub plain_front : (p : Primary) (bases : List (Base ClassId)) (base : Base ClassId) → Has bases base → base.is_virtual ≡ false → Has (front_bases p bases) (Own base.class)
plain_front p bases base has way = split (is_first_base p base) (λ b. is_first_base p base ≡ b → Has (front_bases p bases) (Own base.class))
    (λ _ t. has_left (first_base p) rest (Own base.class) (first p t))
    (λ _ f. has_right (first_base p) rest (Own base.class) (has_map (λ (x : Base ClassId). Own x.class) (filter (is_other_base p) bases) base
    (in_filter (is_other_base p) bases base has (ap (λ b. not b && not (is_first_base p base)) way ∙ ap not f))))
    refl
  where
    rest : List PlacedBase
    rest = map (λ (x : Base ClassId). Own x.class) (filter (is_other_base p) bases)

    first : (q : Primary) → is_first_base q base ≡ true → Has (first_base q) (Own base.class)
    first NoPrimary t = let f : false ≡ true = t in cc
    first (Direct b) t = inl (ap (λ (x : ClassId). Own x) (same_class b base.class (eqb-true b.0 base.class.0 t)))
    first (Virtual v) t = let f : false ≡ true = t in cc

pub direct_front : (primaries : List Primary) (c b : ClassId) (class : Class) → primary_of primaries c ≡ Direct b → Has (fronts primaries c class) (Own b)
direct_front primaries c b class e = subst (λ (p : Primary). Has (front_bases p class.bases) (Own b)) (sym e) (inl refl)

pub virtual_front : (primaries : List Primary) (c v : ClassId) (class : Class) → primary_of primaries c ≡ Virtual v → Has (fronts primaries c class) (VirtualBase v)
virtual_front primaries c v class e = subst (λ (p : Primary). Has (front_bases p class.bases) (VirtualBase v)) (sym e) (inl refl)

-- each member that is placed has an item
pub record HasMemberItem (n : ℕ) (ms : List (Member ClassId)) (ps : List ℕ) (member : Member ClassId) : Type 0 where
  pub number : ℕ
  pub place : ℕ
  pub has : Has (member_items n ms ps) (a_member number member place)

pub member_has : (f : Member ClassId → Component) (st : Stage) (n : ℕ) (ms : List (Member ClassId)) (ps : List ℕ) (member : Member ClassId) → ArePlaced st (map f ms) ps → Has ms member → HasMemberItem n ms ps member
member_has f st n [] ps member l has = absurd has
member_has f st n (m ∷ ms) [] member l has = absurd l
member_has f st n (m ∷ ms) (p ∷ ps) member l has = ⊎_elim
    (λ e. record { number = n; place = p; has = inl (ap (λ (x : Member ClassId). a_member n x p) e) })
    (λ r. let k = member_has f (stage_after st (f m) p) (suc n) ms ps member l.1 r in record { number = k.number; place = k.place; has = inr k.has })
    has

-- what is known of a class by its row
pub record IsFine (h : Classes) (rows : List ClassLayout) (c : ClassId) : Type 0 where
  pub nvalign : IsAlignment (nvalign_in (slice_get rows c.0))
  pub align : IsAlignment (align_in (slice_get rows c.0))
  pub aligns : nvalign_in (slice_get rows c.0) ≤ align_in (slice_get rows c.0)
  pub nvsize : nvsize_in (slice_get rows c.0) ≤ size_in_row (slice_get rows c.0)
  pub multiple : Divides (align_in (slice_get rows c.0)) (size_in_row (slice_get rows c.0))
  pub positive : 1 ≤ size_in_row (slice_get rows c.0)
  pub some : is_empty h c ≡ false → 1 ≤ nvsize_in (slice_get rows c.0)
  pub dynamic : IsDynamic h c → 8 ≤ nvsize_in (slice_get rows c.0)
  pub dynamic_align : IsDynamic h c → 8 ≤ nvalign_in (slice_get rows c.0)

abbrev pub AreFineBelow : Classes → List ClassLayout → ClassId → Type 0
AreFineBelow h rows c = (b : ClassId) → b.0 < c.0 → IsFine h rows b

-- the same of a row itself
record IsFineRow (h : Classes) (c : ClassId) (row : ClassLayout) : Type 0 where
  nvalign : IsAlignment row.nvalign
  align : IsAlignment row.align
  aligns : row.nvalign ≤ row.align
  nvsize : row.nvsize ≤ row.size
  multiple : Divides row.align row.size
  positive : 1 ≤ row.size
  some : is_empty h c ≡ false → 1 ≤ row.nvsize
  dynamic : IsDynamic h c → 8 ≤ row.nvsize
  dynamic_align : IsDynamic h c → 8 ≤ row.nvalign

of_row : (h : Classes) (rows : List ClassLayout) (c : ClassId) (row : ClassLayout) → slice_get rows c.0 ≡ Some row → IsFineRow h c row → IsFine h rows c
of_row h rows c row there f = record {
  nvalign = subst (λ (o : Option ClassLayout). IsAlignment (nvalign_in o)) (sym there) f.nvalign;
  align = subst (λ (o : Option ClassLayout). IsAlignment (align_in o)) (sym there) f.align;
  aligns = subst (λ (o : Option ClassLayout). nvalign_in o ≤ align_in o) (sym there) f.aligns;
  nvsize = subst (λ (o : Option ClassLayout). nvsize_in o ≤ size_in_row o) (sym there) f.nvsize;
  multiple = subst (λ (o : Option ClassLayout). Divides (align_in o) (size_in_row o)) (sym there) f.multiple;
  positive = subst (λ (o : Option ClassLayout). 1 ≤ size_in_row o) (sym there) f.positive;
  some = λ e. subst (λ (o : Option ClassLayout). 1 ≤ nvsize_in o) (sym there) (f.some e);
  dynamic = λ e. subst (λ (o : Option ClassLayout). 8 ≤ nvsize_in o) (sym there) (f.dynamic e);
  dynamic_align = λ e. subst (λ (o : Option ClassLayout). 8 ≤ nvalign_in o) (sym there) (f.dynamic_align e);
}

-- the members of a class, by the list in the hierarchy
pub object_below : (h : Classes) (c : ClassId) (class : Class) (member : Member ClassId) (d : ClassId) → IsHierarchy h → class_at h c ≡ Some class → Has class.members member → member.ty ≡ Object d → d.0 < c.0
object_below h c class member d keeps at has e = keeps.objects c d member (subst (λ (o : Option Class). Contains (members_in o) member) (sym at) (contains_of class.members member has)) e

-- a member that has a width is a bit-field
pub field_is : (h : Classes) (c : ClassId) (class : Class) (member : Member ClassId) (n : ℕ) → IsHierarchy h → class_at h c ≡ Some class → Has class.members member → member.width ≡ Some n → IsBitField member n
field_is h c class member n keeps at has e = keeps.widths c member n (subst (λ (o : Option Class). Contains (members_in o) member) (sym at) (contains_of class.members member has)) e

pub fields : (h : Classes) (rows : List ClassLayout) (primaries : List Primary) (c : ClassId) (class : Class) → IsHierarchy h → class_at h c ≡ Some class → AreFields h rows primaries class
fields h rows primaries c class keeps at = λ member has n e. bit_field_fits rows (object_parts h rows primaries) member n (field_is h c class member n keeps at has e)

pub count_some : (h : Classes) (c : ClassId) (class : Class) (member : Member ClassId) → IsHierarchy h → class_at h c ≡ Some class → Has class.members member → 1 ≤ elements_of member.count
count_some h c class member keeps at has = count_positive member.count (λ n e. (keeps.counts c member n (subst (λ (o : Option Class). Contains (members_in o) member) (sym at) (contains_of class.members member has)) e).0)

-- what is known of the type of a member
pub record IsFineType (rows : List ClassLayout) (type : FieldType ClassId) : Type 0 where
  pub align : IsAlignment (align_of_type rows type)
  pub positive : 1 ≤ size_of_member_type rows type
  pub multiple : Divides (align_of_type rows type) (size_of_member_type rows type)

pub type_fine : (h : Classes) (rows : List ClassLayout) (c : ClassId) → AreFineBelow h rows c → (type : FieldType ClassId) → ((d : ClassId) → type ≡ Object d → d.0 < c.0) → IsFineType rows type
type_fine h rows c low (Value type) below = record { align = value_align type; positive = align_positive _ (value_align type); multiple = itself_divides _ }
type_fine h rows c low (Object d) below = let f = low d (below d refl) in record { align = f.align; positive = f.positive; multiple = f.multiple }

pub item_align : (h : Classes) (rows : List ClassLayout) (primaries : List Primary) (c : ClassId) (class : Class) (x : Item) → IsHierarchy h → class_at h c ≡ Some class → AreFineBelow h rows c → IsItem h c class x → IsAlignment (component_item h rows primaries c x).align
item_align h rows primaries c class _ keeps at low (is_own b edge) = (low b (base_below h c b keeps edge)).nvalign
item_align h rows primaries c class _ keeps at low (is_virtual_base v has) = (low v (virtual_below h keeps c v has)).nvalign
item_align h rows primaries c class _ keeps at low (is_member n member place has) = (type_fine h rows c low member.ty (λ d e. object_below h c class member d keeps at has e)).align

-- a row, and the stages behind the members and behind all
pub record IsRowFine (mid last : Stage) (row : ClassLayout) : Type 0 where
  pub mid_size : mid.size ≤ row.nvsize
  pub last_size : last.size ≤ row.size
  pub nvsize : row.nvsize ≤ row.size
  pub positive : 1 ≤ row.size
  pub multiple : Divides row.align row.size
  pub nvalign : row.nvalign ≡ mid.align
  pub align : row.align ≡ last.align
  pub aligns : mid.align ≤ last.align

pub row_fine : (h : Classes) (rows : List ClassLayout) (primaries : List Primary) (c : ClassId) (class : Class) (has_pointer : Bool) (row : ClassLayout) → AreFields h rows primaries class → IsRow h rows primaries c class has_pointer row → IsRowFine (mid_stage h rows primaries c class has_pointer row) (end_stage h rows primaries c (mid_stage h rows primaries c class has_pointer row)) row
row_fine h rows primaries c class has_pointer row fit is =
    let mid = mid_stage h rows primaries c class has_pointer row in
    let last = end_stage h rows primaries c mid in
    let g = grows mid _ _ (mid_known h rows primaries c class has_pointer row fit is) (bases_fit h rows primaries c (free_bases h primaries c)) is.frees_placed in
    let s : mid.size ≤ last.size = g.size in
    let a : mid.align ≤ last.align = g.align in
    let l = le-max_left 1 last.size in
    let r = le-max_right 1 last.size in
    let b : max 1 last.size ≤ row.size = is.size.behind in
    let o = ends (is_pod h c) row.size row.nvsize mid.size last.size is.nvsize s (omega (arith, r, b)) in
    record { mid_size = o.0; last_size = omega (arith, r, b); nvsize = o.1; positive = omega (arith, l, b); multiple = is.size.multiple; nvalign = is.nvalign; align = is.align; aligns = a }
  where
    ends : (pod : Bool) (size nvsize mid last : ℕ) → nvsize ≡ (if pod then size else mid) → mid ≤ last → last ≤ size → (mid ≤ nvsize) × (nvsize ≤ size)
    ends true size nvsize mid last e x y = (omega arith, omega arith)
    ends false size nvsize mid last e x y = (omega arith, omega arith)

-- where an item is put
pub put_in : (h : Classes) (rows : List ClassLayout) (primaries : List Primary) (bits : List Bits) (c : ClassId) (first last : Stage) (items : List Item) (x : Item) → HasFreeBit first → ((y : Item) → Has items y → HasFitWidth (component_item h rows primaries c y)) → ArePut h rows primaries bits c first last items → Has items x
    → IsPut first last (component_item h rows primaries c x) (place_item h rows c x) (bits_item h rows primaries bits c x)
put_in h rows primaries bits c first last items x known fit put has =
    subst (λ (st : Stage). IsPut first st (component_item h rows primaries c x) (place_item h rows c x) (bits_item h rows primaries bits c x)) put.ends
    (put_at (component_item h rows primaries c) (place_item h rows c) (bits_item h rows primaries bits c) first items x known fit put.placed put.lie has)

-- an item before the free bases
pub front_is : (h : Classes) (rows : List ClassLayout) (primaries : List Primary) (c : ClassId) (class : Class) (has_pointer : Bool) (row : ClassLayout) (x : Item) → AreFields h rows primaries class → IsRow h rows primaries c class has_pointer row → Has (front_items primaries c class row) x
    → IsPut (start_stage c has_pointer) (mid_stage h rows primaries c class has_pointer row) (component_item h rows primaries c x) (place_item h rows c x) (bits_item h rows primaries row.member_bits c x)
front_is h rows primaries c class has_pointer row x fit is has =
    put_in h rows primaries row.member_bits c (start_stage c has_pointer) (mid_stage h rows primaries c class has_pointer row) (front_items primaries c class row) x (start_known c has_pointer) (front_fit h rows primaries c class row fit) (front_put h rows primaries c class has_pointer row is) has

-- where it ends
pub front_reach : (h : Classes) (rows : List ClassLayout) (primaries : List Primary) (c : ClassId) (class : Class) (has_pointer : Bool) (row : ClassLayout) (x : Item) → AreFields h rows primaries class → IsRow h rows primaries c class has_pointer row → Has (front_items primaries c class row) x
    → (8 * place_item h rows c x + (bits_item h rows primaries row.member_bits c x).first + (bits_item h rows primaries row.member_bits c x).width ≤ 8 * row.nvsize) × ((component_item h rows primaries c x).align ≤ row.nvalign)
front_reach h rows primaries c class has_pointer row x fit is has =
    let f = row_fine h rows primaries c class has_pointer row fit is in
    let q = front_is h rows primaries c class has_pointer row x fit is has in
    let reach = q.reach in
    let align = q.align in
    let m = f.mid_size in
    let n = f.nvalign in
    (omega arith, omega arith)

start_align : (c : ClassId) (b : Bool) → IsAlignment (start_stage c b).align
start_align c true = eight_bytes
start_align c false = byte

takes_some : (b : Bool) (size nvsize : ℕ) → b ≡ false → (if b then size else nvsize) ≡ nvsize
takes_some b size nvsize e = ap (λ x. if x then size else nvsize) e

fine_row : (h : Classes) (rows : List ClassLayout) (nearly : List Bool) (primaries : List Primary) → IsHierarchy h → IsLaidBy h (length h) rows nearly primaries → (c : ClassId) → c.0 < length h → AreFineBelow h rows c → IsFine h rows c
fine_row h rows nearly primaries keeps laid c lt low = of_row h rows c k.row k.row_there (record {
  nvalign = subst IsAlignment (sym f.nvalign) (subst (λ (st : Stage). IsAlignment st.align) fp.ends (last_align first _ _ (start_align c hp) (λ x has. each (front_items primaries c k.class k.row) x (λ y there_has. front_among h primaries c k.class k.row y there_has) has)));
  align = subst IsAlignment (sym f.align) (subst (λ (st : Stage). IsAlignment st.align) al.ends (last_align first _ _ (start_align c hp) (λ x has. each (all_items h primaries c k.class k.row) x (λ y there_has. there_has) has)));
  aligns = let a = f.aligns in let n = f.nvalign in let m = f.align in omega arith;
  nvsize = f.nvsize;
  multiple = f.multiple;
  positive = f.positive;
  some = some;
  dynamic = λ d. (dynamic d (primary_of primaries c) refl).0;
  dynamic_align = λ d. (dynamic d (primary_of primaries c) refl).1;
})
  where
    k : HasRow h rows nearly primaries c
    k = row_of h rows nearly primaries c laid lt

    hp : Bool
    hp = k.laid.has_pointer

    first : Stage
    first = start_stage c hp

    placed : IsRow h rows primaries c k.class hp k.row
    placed = k.laid.placed

    fit : AreFields h rows primaries k.class
    fit = fields h rows primaries c k.class keeps k.there

    f : IsRowFine (mid_stage h rows primaries c k.class hp k.row) (end_stage h rows primaries c (mid_stage h rows primaries c k.class hp k.row)) k.row
    f = row_fine h rows primaries c k.class hp k.row fit placed

    fp : ArePut h rows primaries k.row.member_bits c first (mid_stage h rows primaries c k.class hp k.row) (front_items primaries c k.class k.row)
    fp = front_put h rows primaries c k.class hp k.row placed

    al : ArePut h rows primaries k.row.member_bits c first (end_stage h rows primaries c (mid_stage h rows primaries c k.class hp k.row)) (all_items h primaries c k.class k.row)
    al = all_put h rows primaries c k.class hp k.row placed

    possible : IsPossible h c (primary_of primaries c)
    possible = primary_possible h nearly _ c (primary_of primaries c) keeps k.laid.is_primary

    each : (xs : List Item) (x : Component) → ((y : Item) → Has xs y → Has (all_items h primaries c k.class k.row) y) → Has (map (component_item h rows primaries c) xs) x → IsAlignment x.align
    each xs x among has =
        let r = has_mapped (component_item h rows primaries c) xs x has in
        subst (λ (y : Component). IsAlignment y.align) r.2 (item_align h rows primaries c k.class r.0 keeps k.there low (all_view h primaries c k.class k.row r.0 keeps k.there possible (among r.0 r.1)))

    reach : (x : Item) → Has (front_items primaries c k.class k.row) x → (8 * place_item h rows c x + (bits_item h rows primaries k.row.member_bits c x).first + (bits_item h rows primaries k.row.member_bits c x).width ≤ 8 * k.row.nvsize) × ((component_item h rows primaries c x).align ≤ k.row.nvalign)
    reach x has = front_reach h rows primaries c k.class hp k.row x fit placed has

    -- a member has a bit
    some_bits : (number : ℕ) (member : Member ClassId) (place : ℕ) → Has k.class.members member → Has (front_items primaries c k.class k.row) (a_member number member place) → 1 ≤ (bits_item h rows primaries k.row.member_bits c (a_member number member place)).width
    some_bits number member place has item = by_width member.width refl
      where
        put : IsPut first (mid_stage h rows primaries c k.class hp k.row) (member_component rows (object_parts h rows primaries) member) place (bits_or (slice_get k.row.member_bits number))
        put = front_is h rows primaries c k.class hp k.row (a_member number member place) fit placed item

        by_width : (w : Option ℕ) → member.width ≡ w → 1 ≤ (bits_or (slice_get k.row.member_bits number)).width
        by_width None e =
            let is : (bits_or (slice_get k.row.member_bits number)).width ≡ 8 * (elements_of member.count * size_of_member_type rows member.ty) = ap (λ (b : Bits). b.width) (put.whole e) in
            let t = type_fine h rows c low member.ty (λ d x. object_below h c k.class member d keeps k.there has x) in
            let n = product_positive (elements_of member.count) (size_of_member_type rows member.ty) (count_some h c k.class member keeps k.there has) t.positive in
            omega (arith, is, n)
        by_width (Some n) e = let is = (put.unit n e).1.1 in let least = (field_is h c k.class member n keeps k.there has e).low in omega (arith, is, least)

    in_front : (base : PlacedBase) → Has (fronts primaries c k.class) base → Has (front_items primaries c k.class k.row) (a_base base)
    in_front base has = has_left (base_items (fronts primaries c k.class)) (member_items 0 k.class.members k.row.member_places) (a_base base) (has_map a_base (fronts primaries c k.class) base has)

    dynamic : IsDynamic h c → (p : Primary) → primary_of primaries c ≡ p → (8 ≤ k.row.nvsize) × (8 ≤ k.row.nvalign)
    dynamic d NoPrimary e =
        let t : hp ≡ true = k.laid.pointer.1 (d, e) in
        let g = grows first _ _ (start_known c hp) (widths_fit (component_item h rows primaries c) (front_items primaries c k.class k.row) (front_fit h rows primaries c k.class k.row fit)) fp.placed in
        let s = g.size in
        let a = g.align in
        let size_is = ap (λ (st : Stage). st.size) fp.ends in
        let align_is = ap (λ (st : Stage). st.align) fp.ends in
        let u : first.size ≡ 8 = ap (λ b. (start_stage c b).size) t in
        let v : first.align ≡ 8 = ap (λ b. (start_stage c b).align) t in
        let m = f.mid_size in
        let n = f.nvalign in
        (omega arith, omega arith)
    dynamic d (Direct b) e =
        let x = direct_primary h rows nearly primaries c b laid lt e in
        let r = reach (a_base (Own b)) (in_front (Own b) (direct_front primaries c b k.class e)) in
        let l = low b (base_below h c b keeps x.0) in
        let size = l.dynamic x.1 in
        let align = l.dynamic_align x.1 in
        let takes = takes_some (is_empty h b) (size_in_row (slice_get rows b.0)) (nvsize_in (slice_get rows b.0)) (dynamic_has_data h keeps b x.1) in
        let r0 = r.0 in
        let r1 = r.1 in
        (omega arith, omega arith)
    dynamic d (Virtual b) e =
        let x = virtual_primary_of h rows nearly primaries c b keeps laid lt e in
        let r = reach (a_base (VirtualBase b)) (in_front (VirtualBase b) (virtual_front primaries c b k.class e)) in
        let l = low b (virtual_below h keeps c b x.0) in
        let size = l.dynamic x.1 in
        let align = l.dynamic_align x.1 in
        let takes = takes_some (is_empty h b) (size_in_row (slice_get rows b.0)) (nvsize_in (slice_get rows b.0)) (dynamic_has_data h keeps b x.1) in
        let r0 = r.0 in
        let r1 = r.1 in
        (omega arith, omega arith)

    by_reason : HasData h c k.class → 1 ≤ k.row.nvsize
    by_reason (by_member member has) =
        let m = member_has (member_component rows (object_parts h rows primaries)) (front_stage h rows primaries c k.class hp) 0 k.class.members k.row.member_places member placed.members_placed has in
        let item = has_right (base_items (fronts primaries c k.class)) (member_items 0 k.class.members k.row.member_places) (a_member m.number member m.place) m.has in
        let r = (reach (a_member m.number member m.place) item).0 in
        let n = some_bits m.number member m.place has item in
        omega arith
    by_reason (by_kind d) = let e = (dynamic d (primary_of primaries c) refl).0 in omega arith
    by_reason (by_base base has way other) =
        let b = base.class in
        let r = (reach (a_base (Own b)) (in_front (Own b) (plain_front (primary_of primaries c) k.class.bases base has way))).0 in
        let l = (low b (base_below h c b keeps (plain_edge h c k.class base k.there has way))).some other in
        let takes = takes_some (is_empty h b) (size_in_row (slice_get rows b.0)) (nvsize_in (slice_get rows b.0)) other in
        omega arith

    some : is_empty h c ≡ false → 1 ≤ k.row.nvsize
    some other = by_reason (has_data h keeps c k.class k.there other)

fine_below : (h : Classes) (rows : List ClassLayout) (nearly : List Bool) (primaries : List Primary) → IsHierarchy h → IsLaidBy h (length h) rows nearly primaries → (n : ℕ) (c : ClassId) → c.0 < n → c.0 < length h → IsFine h rows c
fine_below h rows nearly primaries keeps laid zero c lt within = absurd (omega arith)
fine_below h rows nearly primaries keeps laid (suc n) c lt within = fine_row h rows nearly primaries keeps laid c within (λ b below. fine_below h rows nearly primaries keeps laid n b (omega arith) (omega arith))

-- sizes and alignments of each class
pub fine : (h : Classes) (rows : List ClassLayout) (nearly : List Bool) (primaries : List Primary) (c : ClassId) → IsHierarchy h → IsLaidBy h (length h) rows nearly primaries → c.0 < length h → IsFine h rows c
fine h rows nearly primaries c keeps laid lt = fine_below h rows nearly primaries keeps laid (c.0 + 1) c (omega arith) lt
