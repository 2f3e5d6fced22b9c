-- A placement and what it is to its class: where it lies, that it fits, and that two of them lie apart.
use Rattle.std.proofs.Common.{◌≡◌, ℕ, ◌+◌, ◌*◌, ◌<◌, ◌≤◌, inl, inr, ⊎_elim, false, Option, Some, None, List, ◌++◌, map, refl, ap, subst, sym, ◌∙◌, arith, append_assoc}
use Rattle.std.specs.Prelude.{if◌then◌else◌, max}
use Rattle.std.specs.List.{slice_get}
use Rattle.std.proofs.lemmas.List.{map-append}
use Rattle.std.proofs.Math.Nat.{max-le}
use Rattle.cxx_hierarchy.specs.declared.records.ClassId.{ClassId}
use Rattle.cxx_hierarchy.specs.declared.records.Member.{Member}
use Rattle.cxx_hierarchy.specs.declared.records.ValueType.{ValueType}
use Rattle.cxx_hierarchy.specs.declared.records.FieldType.{FieldType}
use Rattle.cxx_hierarchy.specs.declared.records.FieldType.TheVariants.{Value, Object}
use Rattle.cxx_hierarchy.specs.Classes.{Classes}
use Rattle.cxx_subobject.specs.declared.Subobject.{Subobject}
use Rattle.abi_emptybase.specs.declared.Part.{Part}
use Rattle.abi_primary.specs.Kinds.{IsDynamic}
use Rattle.abi_layout.specs.declared.component.Component.{Component}
use Rattle.abi_layout.specs.declared.component.Stage.{Stage}
use Rattle.abi_sound.specs.declared.class_layout.Bits.{Bits}
use Rattle.abi_sound.specs.declared.class_layout.ClassLayout.{ClassLayout}
use Rattle.abi_sound.specs.Places.{size_of_value, size_in_row, nvalign_in, first_bit}
use Rattle.abi_sound.specs.Sound.{Divides}
use Rattle.abi_layout.specs.Kinds.{is_empty}
use Rattle.abi_layout.specs.Placements.{nvsize_in, elements_of, size_of_member_type, align_of_type, IsInUnit, member_component}
use Rattle.abi_layout.specs.invariants.Alignments.{IsAlignment, byte, two_bytes, four_bytes, eight_bytes}
use Rattle.abi_layout.proofs.rules.Stages.{Has, split, has_cases, IsPut}
use Rattle.abi_layout.proofs.lists.Divisions.{sum_divides, through_divides, itself_divides, zero_divides, copy_ends}
use Rattle.abi_layout.proofs.lists.Bounds.{align_divides, times_divides, most}
use Rattle.abi_layout.proofs.lists.Positives.{value_align}
use Rattle.abi_layout.proofs.rules.PlacedCounts.{no_copies}
use Rattle.foundation.proofs.Members.{has_at}
use Rattle.abi_layout.proofs.lists.Pairs.{Pairs, pairs_get, pairs_append, pairs_map, has_mapped}
use Rattle.abi_layout.proofs.sound.ObjectTree.{Node, Within, Pointer, Placement, Contents, Measures, IsInPlace, AreClear, IsArranged, one_at, node_of_member, rank_of, span_of, data_start_of, data_end_of, align_of, measures_of}
use Rattle.abi_layout.proofs.sound.ObjectItems.{AreApart}
use Rattle.abi_layout.proofs.sound.ObjectFine.{IsFine, IsFineType}

-- how a placement stands to its component at its place, where these bits hold that
pub record Stands (m : Measures) (c : Component) (at : ℕ) (bits : Bits) (k : Placement) : Type 0 where
  pub place : k.place ≡ at
  -- each copy ends with the last byte of the bits or before
  pub spans : (e : ℕ) → e < k.count → 8 * (e * k.stride + m.span k.node) < bits.first + bits.width + 8
  pub some : 0 < m.data_end k.node → c.is_empty ≡ false
  -- the data of each copy is among the bits
  pub low : m.data_start k.node < 8
  pub begins : c.is_empty ≡ false → (e : ℕ) → e < k.count → bits.first ≤ 8 * (e * k.stride) + m.data_start k.node
  pub ends : c.is_empty ≡ false → (e : ℕ) → e < k.count → 8 * (e * k.stride) + m.data_end k.node ≤ bits.first + bits.width
  pub data_fits : m.data_end k.node ≤ 8 * k.stride
  pub copies : (e f : ℕ) → e < f → f < k.count → m.span k.node ≤ k.stride
  pub align : Divides (m.align k.node) c.align
  pub aligned : (c.width ≡ None → Divides c.align at) → (e : ℕ) → e < k.count → Divides (m.align k.node) (at + e * k.stride)

pub in_place : (m : Measures) (n : Node) (first last : Stage) (c : Component) (at : ℕ) (bits : Bits) (k : Placement) → Stands m c at bits k → IsPut first last c at bits → m.rank k.node < m.rank n → m.data_start n ≡ 0 → last.size ≤ m.span n → (c.is_empty ≡ false → 8 * last.size ≤ m.data_end n) → Divides c.align (m.align n) → IsInPlace m n k
in_place m n first last c at bits k s put falls begins span reached coarser =
    let p = s.place in
    let reach = put.reach in
    record {
      falls = falls;
      spans = λ e within. let x = s.spans e within in omega (arith, x, p, reach, span);
      begins = begins;
      low = s.low;
      ends = λ some e within. let other = s.some some in let d = reached other in let a = s.ends other e within in omega (arith, d, a, p, reach);
      data_fits = s.data_fits;
      copies = s.copies;
      aligned = λ e within. subst (λ q. Divides (m.align k.node) (q + e * k.stride)) (sym p) (s.aligned put.multiple e within);
      coarser = through_divides (m.align k.node) c.align (m.align n) s.align coarser;
    }

-- two components that lie apart have placements that are clear of each other
pub clear_of : {X : Type 0} (m : Measures) (component : X → Component) (place : X → ℕ) (bits : X → Bits) (x y : X) (k l : Placement) → Stands m (component x) (place x) (bits x) k → Stands m (component y) (place y) (bits y) l → AreApart component place bits x y → AreClear m k l
clear_of m component place bits x y k l s t apart a b e f within other =
    let u = s.some a in
    let v = t.some b in
    let p = s.place in
    let q = t.place in
    let b0 = s.begins u e within in
    let e0 = s.ends u e within in
    let b1 = t.begins v f other in
    let e1 = t.ends v f other in
    ⊎_elim (λ r. inl (omega (arith, p, q, b1, e0, r))) (λ r. inr (omega (arith, p, q, b0, e1, r))) (apart u v)

data_le : (h : Classes) (rows : List ClassLayout) (b : ClassId) → (if is_empty h b then 0 else nvsize_in (slice_get rows b.0)) ≤ nvsize_in (slice_get rows b.0)
data_le h rows b = split (is_empty h b) (λ t. (if t then 0 else nvsize_in (slice_get rows b.0)) ≤ nvsize_in (slice_get rows b.0)) (λ e. omega arith) (λ e. omega arith)

pub not_empty : (h : Classes) (b : ClassId) (n : ℕ) → 0 < 8 * (if is_empty h b then 0 else n) → is_empty h b ≡ false
not_empty h b n some = split (is_empty h b) (λ t. 0 < 8 * (if t then 0 else n) → t ≡ false) (λ e z. absurd (omega arith)) (λ e z. refl) some

-- all bits of so many bytes
abbrev pub bits_of_bytes : ℕ → Bits
bits_of_bytes size = record { first = 0; width = 8 * size }

-- what a base is to its class
abbrev pub base_component : Classes → List ClassLayout → ClassId → List Part → Component
base_component h rows b parts = record { is_empty = is_empty h b; align = nvalign_in (slice_get rows b.0); takes = if is_empty h b then size_in_row (slice_get rows b.0) else nvsize_in (slice_get rows b.0); width = None; parts = parts }

-- one copy is at the place
aligned_once : (align at e stride : ℕ) → e < 1 → Divides align at → Divides align (at + e * stride)
aligned_once align at e stride within d = let z : e * stride ≡ 0 = no_copies e stride (omega arith) in let same : at ≡ at + e * stride = omega (arith, z) in subst (Divides align) same d

-- a base
pub base_stands : (h : Classes) (rows : List ClassLayout) (c : ClassId) (s : Subobject) (b : ClassId) (parts : List Part) (at : ℕ) → IsFine h rows b
    → Stands (measures_of h rows) (base_component h rows b parts) at (bits_of_bytes (base_component h rows b parts).takes) (one_at (Within c s b) at (nvsize_in (slice_get rows b.0)))
base_stands h rows c s b parts at f =
    let size = size_in_row (slice_get rows b.0) in
    let nvsize = nvsize_in (slice_get rows b.0) in
    let x = f.nvsize in
    let y = f.positive in
    let reach : max 1 nvsize ≤ (if is_empty h b then size else nvsize) = split (is_empty h b) (λ t. max 1 nvsize ≤ (if t then size else nvsize)) (λ e. max-le y x) (λ e. max-le (f.some e) (omega arith)) in
    let kept = data_le h rows b in
    record {
      place = refl;
      spans = λ e within. let z : e * nvsize ≡ 0 = no_copies e nvsize (omega arith) in omega (arith, z, reach);
      some = λ z. not_empty h b nvsize z;
      low = omega arith;
      begins = λ other e within. omega arith;
      ends = λ other e within. let z : e * nvsize ≡ 0 = no_copies e nvsize (omega arith) in let t : (if is_empty h b then size else nvsize) ≡ nvsize = ap (λ t. if t then size else nvsize) other in omega (arith, z, t, kept);
      data_fits = omega (arith, kept);
      copies = λ e f lt within. absurd (omega arith);
      align = itself_divides (nvalign_in (slice_get rows b.0));
      aligned = λ multiple e within. aligned_once (nvalign_in (slice_get rows b.0)) at e nvsize within (multiple refl);
    }

-- a virtual pointer in place of a dynamic base
pub pointer_stands : (h : Classes) (rows : List ClassLayout) (b : ClassId) (parts : List Part) (at : ℕ) → IsFine h rows b → IsDynamic h b → is_empty h b ≡ false
    → Stands (measures_of h rows) (base_component h rows b parts) at (bits_of_bytes (base_component h rows b parts).takes) (one_at Pointer at (nvsize_in (slice_get rows b.0)))
pointer_stands h rows b parts at f dynamic other =
    let size = size_in_row (slice_get rows b.0) in
    let nvsize = nvsize_in (slice_get rows b.0) in
    let x : 8 ≤ nvsize = f.dynamic dynamic in
    let t : (if is_empty h b then size else nvsize) ≡ nvsize = ap (λ t. if t then size else nvsize) other in
    let align : Divides 8 (nvalign_in (slice_get rows b.0)) = align_divides 8 (nvalign_in (slice_get rows b.0)) eight_bytes f.nvalign (f.dynamic_align dynamic) in
    record {
      place = refl;
      spans = λ e within. let z : e * nvsize ≡ 0 = no_copies e nvsize (omega arith) in omega (arith, z, x, t);
      some = λ z. other;
      low = omega arith;
      begins = λ full e within. omega arith;
      ends = λ full e within. let z : e * nvsize ≡ 0 = no_copies e nvsize (omega arith) in omega (arith, z, x, t);
      data_fits = omega (arith, x);
      copies = λ e f lt within. absurd (omega arith);
      align = align;
      aligned = λ multiple e within. aligned_once 8 at e nvsize within (through_divides 8 (nvalign_in (slice_get rows b.0)) at align (multiple refl));
    }

-- a member that has a width is a number and no array
pub record IsNarrow (width : Option ℕ) (type : FieldType ClassId) (count : Option ℕ) : Type 0 where
  pub value : ValueType ClassId
  pub type_is : type ≡ Value value
  pub single : count ≡ None
  pub some : (n : ℕ) → width ≡ Some n → 1 ≤ n

-- what a member of this width, type and count is to its class
abbrev pub component_with : List ClassLayout → Option ℕ → FieldType ClassId → Option ℕ → List Part → Component
component_with rows width type count parts = record { is_empty = false; align = align_of_type rows type; takes = elements_of count * size_of_member_type rows type; width = width; parts = parts }

abbrev pub placement_with : List ClassLayout → ClassId → ℕ → Option ℕ → FieldType ClassId → Option ℕ → ℕ → Placement
placement_with rows d n width type count place = record { node = node_of_member d n width type; place = place; count = elements_of count; stride = size_of_member_type rows type; member = n }

-- bits in one unit of a type end with the bytes of a value of it from their place on
in_unit_fits : (bytes width place first : ℕ) → IsAlignment bytes → IsInUnit bytes width (8 * place + first) → first < 8 → first + width ≤ 8 * bytes
in_unit_fits _ width place first byte is low = let a = is.behind in let b = is.before in omega (arith, a, b, low)
in_unit_fits _ width place first two_bytes is low = let a = is.behind in let b = is.before in omega (arith, a, b, low)
in_unit_fits _ width place first four_bytes is low = let a = is.behind in let b = is.before in omega (arith, a, b, low)
in_unit_fits _ width place first eight_bytes is low = let a = is.behind in let b = is.before in omega (arith, a, b, low)

-- the elements of a member that is no bit-field
record IsTypeSized (h : Classes) (rows : List ClassLayout) (d : ClassId) (n : ℕ) (type : FieldType ClassId) : Type 0 where
  span : span_of rows (node_of_member d n None type) ≡ size_of_member_type rows type
  data_start : data_start_of rows (node_of_member d n None type) ≡ 0
  data_end : data_end_of h rows (node_of_member d n None type) ≤ 8 * size_of_member_type rows type
  align : align_of rows (node_of_member d n None type) ≡ align_of_type rows type

type_sized : (h : Classes) (rows : List ClassLayout) (d : ClassId) (n : ℕ) (type : FieldType ClassId) → IsFineType rows type → first_bit rows d n ≡ 0 → IsTypeSized h rows d n type
type_sized h rows d n (Value type) f start = record { span = most (size_of_value type) f.positive; data_start = start; data_end = omega (arith, start); align = refl }
type_sized h rows d n (Object e) f start = record {
  span = most (size_in_row (slice_get rows e.0)) f.positive;
  data_start = refl;
  data_end = split (is_empty h e) (λ t. 8 * (if t then 0 else size_in_row (slice_get rows e.0)) ≤ 8 * size_in_row (slice_get rows e.0)) (λ e. omega arith) (λ e. omega arith);
  align = refl;
}

whole_stands : (h : Classes) (rows : List ClassLayout) (d : ClassId) (n : ℕ) (type : FieldType ClassId) (count : Option ℕ) (parts : List Part) (at : ℕ) (bits : Bits) → IsFineType rows type → bits ≡ bits_of_bytes (component_with rows None type count parts).takes → first_bit rows d n ≡ bits.first
    → Stands (measures_of h rows) (component_with rows None type count parts) at bits (placement_with rows d n None type count at)
whole_stands h rows d n type count parts at bits f is start =
    let first : bits.first ≡ 0 = ap (λ (b : Bits). b.first) is in
    let width : bits.width ≡ 8 * (elements_of count * size_of_member_type rows type) = ap (λ (b : Bits). b.width) is in
    let t = type_sized h rows d n type f (start ∙ first) in
    let s = t.span in
    let begun = t.data_start in
    let ended = t.data_end in
    let align : Divides (align_of rows (node_of_member d n None type)) (align_of_type rows type) = subst (λ a. Divides a (align_of_type rows type)) (sym t.align) (itself_divides (align_of_type rows type)) in
    record {
      place = refl;
      spans = λ e within. let c = copy_ends e (elements_of count) (size_of_member_type rows type) within in omega (arith, c, s, first, width);
      some = λ z. refl;
      low = omega (arith, begun);
      begins = λ full e within. omega (arith, first);
      ends = λ full e within. let c = copy_ends e (elements_of count) (size_of_member_type rows type) within in omega (arith, c, ended, first, width);
      data_fits = ended;
      copies = λ e f lt within. omega (arith, s);
      align = align;
      aligned = λ multiple e within. sum_divides (align_of rows (node_of_member d n None type)) at (e * size_of_member_type rows type)
          (through_divides (align_of rows (node_of_member d n None type)) (align_of_type rows type) at align (multiple refl))
          (subst (λ a. Divides a (e * size_of_member_type rows type)) (sym t.align) (times_divides (align_of_type rows type) (size_of_member_type rows type) e f.multiple));
    }

-- a bit-field
narrow_stands : (h : Classes) (rows : List ClassLayout) (d : ClassId) (n width : ℕ) (type : ValueType ClassId) (parts : List Part) (at : ℕ) (bits : Bits) → 1 ≤ width → IsInUnit (size_of_value type) width (8 * at + bits.first) → bits.first < 8 → bits.width ≡ width → first_bit rows d n ≡ bits.first
    → Stands (measures_of h rows) (component_with rows (Some width) (Value type) None parts) at bits (placement_with rows d n (Some width) (Value type) None at)
narrow_stands h rows d n width type parts at bits some unit low is start =
    let fits = in_unit_fits (size_of_value type) width at bits.first (value_align type) unit low in
    record {
      place = refl;
      spans = λ e within. let z : e * size_of_value type ≡ 0 = no_copies e (size_of_value type) (omega arith) in omega (arith, z, some, is);
      some = λ z. refl;
      low = omega (arith, start, low);
      begins = λ full e within. omega (arith, start);
      ends = λ full e within. let z : e * size_of_value type ≡ 0 = no_copies e (size_of_value type) (omega arith) in omega (arith, z, start, is);
      data_fits = omega (arith, fits, start);
      copies = λ e f lt within. absurd (omega arith);
      align = record { times = size_of_value type; is = omega arith };
      aligned = λ multiple e within. record { times = at + e * size_of_value type; is = omega arith };
    }

stands_with : (h : Classes) (rows : List ClassLayout) (first last : Stage) (d : ClassId) (n : ℕ) (width : Option ℕ) (type : FieldType ClassId) (count : Option ℕ) (parts : List Part) (at : ℕ) (bits : Bits) → IsFineType rows type → ((k : ℕ) → width ≡ Some k → IsNarrow width type count) → IsPut first last (component_with rows width type count parts) at bits → first_bit rows d n ≡ bits.first
    → Stands (measures_of h rows) (component_with rows width type count parts) at bits (placement_with rows d n width type count at)
stands_with h rows first last d n None type count parts at bits f narrow put start = whole_stands h rows d n type count parts at bits f (put.whole refl) start
stands_with h rows first last d n (Some k) (Object e) count parts at bits f narrow put start = let x = (narrow k refl).type_is in cc
stands_with h rows first last d n (Some k) (Value type) (Some m) parts at bits f narrow put start = let x = (narrow k refl).single in cc
stands_with h rows first last d n (Some k) (Value type) None parts at bits f narrow put start =
    let u = put.unit k refl in
    narrow_stands h rows d n k type parts at bits ((narrow k refl).some k refl) u.0 u.1.0 u.1.1 start

pub member_stands : (h : Classes) (rows : List ClassLayout) (first last : Stage) (parts : ClassId → List Part) (d : ClassId) (n : ℕ) (member : Member ClassId) (at : ℕ) (bits : Bits) → IsFineType rows member.ty → ((k : ℕ) → member.width ≡ Some k → IsNarrow member.width member.ty member.count) → IsPut first last (member_component rows parts member) at bits → first_bit rows d n ≡ bits.first
    → Stands (measures_of h rows) (member_component rows parts member) at bits (placement_with rows d n member.width member.ty member.count at)
member_stands h rows first last parts d n member at bits f narrow put start = stands_with h rows first last d n member.width member.ty member.count (member_component rows parts member).parts at bits f narrow put start

-- a class's own virtual pointer
pub own_in_place : (h : Classes) (rows : List ClassLayout) (n : Node) → 0 < rank_of n → data_start_of rows n ≡ 0 → 8 ≤ span_of rows n → 64 ≤ data_end_of h rows n → Divides 8 (align_of rows n) → IsInPlace (measures_of h rows) n (one_at Pointer 0 8)
own_in_place h rows n rank begins span reached align = record {
  falls = rank;
  spans = λ e within. let z : e * 8 ≡ 0 = no_copies e 8 (omega arith) in omega (arith, z, span);
  begins = begins;
  low = omega arith;
  ends = λ some e within. omega (arith, reached, within);
  data_fits = omega arith;
  copies = λ e f lt within. absurd (omega arith);
  aligned = λ e within. let z : 0 ≡ 0 + e * 8 = (let y : e * 8 ≡ 0 = no_copies e 8 (omega arith) in omega arith) in subst (Divides 8) z (zero_divides 8);
  coarser = align;
}

-- the own virtual pointer, where there is one, and what has data lie apart
pub own_clear : (m : Measures) (first last : Stage) (c : Component) (at : ℕ) (bits : Bits) (k : Placement) → m.data_end Pointer ≡ 64 → Stands m c at bits k → IsPut first last c at bits → first.free_bit ≡ 64 → AreClear m k (one_at Pointer 0 8)
own_clear m first last c at bits k pointer s put e a b copy f within other =
    let p = s.place in
    let full = s.some a in
    let behind = put.behind full in
    let begun = s.begins full copy within in
    inr (omega (arith, p, behind, begun, e, pointer, other))

-- a node is arranged where its placements are those of a list, and one behind them
pub arranged_by : {X : Type 0} (contents : Contents) (m : Measures) (n : Node) (place : X → Placement) (xs : List X) (own : List Placement) → contents n ≡ map place xs ++ own
    → ((x : X) → Has xs x → IsInPlace m n (place x)) → Pairs (λ x y. AreClear m (place x) (place y)) xs → ((k : Placement) → Has own k → IsInPlace m n k) → Pairs (AreClear m) own → ((x : X) (k : Placement) → Has xs x → Has own k → AreClear m (place x) k)
    → IsArranged contents m n
arranged_by contents m n place xs own e each two own_each own_two across = record {
  each = λ i k there. at k (has_at (map place xs ++ own) i k (subst (λ (ks : List Placement). slice_get ks i ≡ Some k) e there));
  two = λ i j k l lt a b. pairs_get (AreClear m) (map place xs ++ own) i j k l all lt (subst (λ (ks : List Placement). slice_get ks i ≡ Some k) e a) (subst (λ (ks : List Placement). slice_get ks j ≡ Some l) e b);
}
  where
    at : (k : Placement) → Has (map place xs ++ own) k → IsInPlace m n k
    at k has = ⊎_elim
        (λ l. let r = has_mapped place xs k l in subst (λ (z : Placement). IsInPlace m n z) r.2 (each r.0 r.1))
        (λ r. own_each k r)
        (has_cases (map place xs) own k has)

    all : Pairs (AreClear m) (map place xs ++ own)
    all = pairs_append (AreClear m) (map place xs) own (pairs_map (AreClear m) place xs two) own_two
        (λ k l h o. let r = has_mapped place xs k h in subst (λ (z : Placement). AreClear m z l) r.2 (across r.0 l r.1 o))

-- three lists of placements, and one behind them
pub laid_out : {X : Type 0} (place : X → Placement) (A B C : List X) (a b c own : List Placement) → map place A ≡ a → map place B ≡ b → map place C ≡ c → a ++ (b ++ (c ++ own)) ≡ map place (A ++ (B ++ C)) ++ own
laid_out place A B C a b c own e f g =
    ap (λ (z : List Placement). z ++ (b ++ (c ++ own))) (sym e)
    ∙ (ap (λ (z : List Placement). map place A ++ (z ++ (c ++ own))) (sym f)
    ∙ (ap (λ (z : List Placement). map place A ++ (map place B ++ (z ++ own))) (sym g)
    ∙ (ap (λ (z : List Placement). map place A ++ z) (sym (append_assoc (map place B) (map place C) own))
    ∙ (sym (append_assoc (map place A) (map place B ++ map place C) own)
    ∙ ap (λ (z : List Placement). z ++ own) (ap (λ (z : List Placement). map place A ++ z) (sym (map-append place B C)) ∙ sym (map-append place A (B ++ C)))))))
