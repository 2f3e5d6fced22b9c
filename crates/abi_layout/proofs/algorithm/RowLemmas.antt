-- Lemmas on the components of a class, and on its row.
use Rattle.std.proofs.Common.{◌≡◌, ℕ, zero, suc, ◌+◌, ◌*◌, ◌<◌, ◌≤◌, Option, Some, None, List, [], ◌∷◌, ◌++◌, map, take, length, get_or, refl, ap, sym, ◌∙◌, arith}
use Rattle.std.specs.Option.{option_map}
use Rattle.std.proofs.lemmas.List.{take_more, map-append}
use Rattle.std.proofs.lemmas.Option.{slice_get-map, slice_get_read}
use Rattle.std.specs.List.{slice_get, Contains}
use Rattle.std.proofs.Math.Nat.{mul-le-mul_right}
use Rattle.cxx_hierarchy.specs.declared.records.ClassId.{ClassId}
use Rattle.cxx_hierarchy.specs.declared.records.Member.{Member}
use Rattle.cxx_hierarchy.specs.declared.records.FieldType.{FieldType}
use Rattle.cxx_hierarchy.specs.declared.records.FieldType.TheVariants.{Value, Object}
use Rattle.cxx_hierarchy.specs.declared.records.Scalar.{Scalar}
use Rattle.cxx_hierarchy.specs.declared.records.Scalar.TheVariants.{Bool as TheBool, Char, SChar, UChar, Short, UShort, Int, UInt, Long, ULong, LongLong, ULongLong}
use Rattle.cxx_hierarchy.specs.declared.records.ValueType.{ValueType}
use Rattle.cxx_hierarchy.specs.declared.records.ValueType.TheVariants.{Number, Pointer}
use Rattle.cxx_hierarchy.specs.Scalars.{size_of, most_bits}
use Rattle.cxx_hierarchy.specs.Hierarchies.{IsBitField}
use Rattle.abi_emptybase.specs.declared.Part.{Part}
use Rattle.abi_emptybase.specs.Table.{moved_part}
use Rattle.abi_layout.specs.Limits.{size_limit}
use Rattle.abi_layout.specs.declared.component.Component.{Component}
use Rattle.abi_layout.specs.declared.component.Stage.{Stage}
use Rattle.abi_layout.specs.declared.known.Known.{Known}
use Rattle.abi_sound.specs.declared.class_layout.ClassLayout.{ClassLayout}
use Rattle.abi_sound.specs.Places.{size_of_value}
use Rattle.abi_layout.specs.Placements.{ArePlaced, end_by, stage_after, stage_after_all, copies, elements_of, size_of_member_type, align_of_type, parts_of_type, member_component}
use Rattle.abi_layout.specs.invariants.Alignments.{IsAlignment, byte, two_bytes, four_bytes, eight_bytes, LieUpTo, IsFitWidth, IsFit, AreFit, AreLittle}
use Rattle.abi_layout.specs.invariants.Known.{known_parts_of, IsSized, AreAllSized, IsEarlierType}
use Rattle.abi_layout.proofs.lists.Lists.{get_within, has_here, has_later}
use Rattle.abi_layout.proofs.rules.Parts.{within_further, within_moved, within_both}
use Rattle.abi_layout.proofs.rules.PlacingLemmas.{size_grows}

pub copies_more : (n stride : ℕ) → suc n * stride ≡ n * stride + stride
copies_more n stride = grind arith

-- copies of parts that lie within the stride
pub copies_within : (n stride : ℕ) (parts : List Part) → LieUpTo stride parts → LieUpTo (n * stride) (copies n stride parts)
copies_within zero stride parts w = tt
copies_within (suc n) stride parts w =
    let e = copies_more n stride in
    within_both (suc n * stride) (copies n stride parts) (map (moved_part (n * stride)) parts)
    (within_further (n * stride) (suc n * stride) (copies n stride parts) (omega arith) (copies_within n stride parts w))
    (within_further (n * stride + stride) (suc n * stride) (map (moved_part (n * stride)) parts) (omega arith) (within_moved stride (n * stride) parts w))

-- of a copy before the last
pub copy_fits : (e n stride limit : ℕ) → e < n → n * stride ≤ limit → e * stride + stride ≤ limit
copy_fits e n stride limit lt le =
    let more : suc e * stride ≤ n * stride = mul-le-mul_right stride (let l : suc e ≤ n = omega arith in l) in
    let is = copies_more e stride in omega arith

scalar_alignment : (t : Scalar) → IsAlignment (size_of t)
scalar_alignment TheBool = byte
scalar_alignment Char = byte
scalar_alignment SChar = byte
scalar_alignment UChar = byte
scalar_alignment Short = two_bytes
scalar_alignment UShort = two_bytes
scalar_alignment Int = four_bytes
scalar_alignment UInt = four_bytes
scalar_alignment Long = eight_bytes
scalar_alignment ULong = eight_bytes
scalar_alignment LongLong = eight_bytes
scalar_alignment ULongLong = eight_bytes

pub value_alignment : (type : ValueType ClassId) → IsAlignment (size_of_value type)
value_alignment (Number t) = scalar_alignment t
value_alignment (Pointer c) = eight_bytes

-- the row and what is known of a class whose object is sized
pub record HasSized (rows : List ClassLayout) (known : List Known) (c : ClassId) : Type 0 where
  pub row : ClassLayout
  pub k : Known
  pub row_is : slice_get rows c.0 ≡ Some row
  pub known_is : slice_get known c.0 ≡ Some k
  pub sized : IsSized row k.parts

pub sized_of : (rows : List ClassLayout) (known : List Known) (c : ClassId) → AreAllSized rows known → c.0 < length rows → c.0 < length known → HasSized rows known c
sized_of rows known c all lt_rows lt_known =
    let r = get_within rows c.0 lt_rows in
    let k = get_within known c.0 lt_known in
    record { row = r.0; k = k.0; row_is = r.1; known_is = k.1; sized = all.each c.0 r.0 k.0 r.1 k.1 }

-- the parts of a member or element lie within its size
pub type_within : (rows : List ClassLayout) (known : List Known) (type : FieldType ClassId) → AreAllSized rows known → IsEarlierType (length rows) type → length known ≡ length rows → LieUpTo (size_of_member_type rows type) (parts_of_type (known_parts_of known) type)
type_within rows known (Value type) all earlier same = tt
type_within rows known (Object d) all earlier same =
    let lt : d.0 < length rows = earlier in
    let e = sized_of rows known d all lt (omega arith) in
    rw (e.row_is, e.known_is) e.sized.parts

pub type_alignment : (rows : List ClassLayout) (known : List Known) (type : FieldType ClassId) → AreAllSized rows known → IsEarlierType (length rows) type → length known ≡ length rows → IsAlignment (align_of_type rows type)
type_alignment rows known (Value type) all earlier same = value_alignment type
type_alignment rows known (Object d) all earlier same =
    let lt : d.0 < length rows = earlier in
    let e = sized_of rows known d all lt (omega arith) in
    rw e.row_is e.sized.align

-- each width is one of a bit-field
abbrev pub AreBitFields : List (Member ClassId) → Type 0
AreBitFields members = (member : Member ClassId) (n : ℕ) → Contains members member → member.width ≡ Some n → IsBitField member n

no_more_bits : (t : Scalar) → most_bits t ≤ 8 * size_of t
no_more_bits TheBool = omega arith
no_more_bits Char = omega arith
no_more_bits SChar = omega arith
no_more_bits UChar = omega arith
no_more_bits Short = omega arith
no_more_bits UShort = omega arith
no_more_bits Int = omega arith
no_more_bits UInt = omega arith
no_more_bits Long = omega arith
no_more_bits ULong = omega arith
no_more_bits LongLong = omega arith
no_more_bits ULongLong = omega arith

-- a bit-field is no larger than its type
pub bit_field_fits : (rows : List ClassLayout) (parts : ClassId → List Part) (member : Member ClassId) (n : ℕ) → IsBitField member n → IsFitWidth (member_component rows parts member) n
bit_field_fits rows parts member n is = record {
  has_data = refl;
  parts = ap (λ count. copies (elements_of count) (size_of_member_type rows member.ty) (parts_of_type parts member.ty)) is.single
      ∙ ap (λ (type : FieldType ClassId). copies 1 (size_of_member_type rows member.ty) (parts_of_type parts type)) is.is;
  most = let a = no_more_bits is.type in let b = is.high in let e : align_of_type rows member.ty ≡ size_of is.type = ap (align_of_type rows) is.is in omega arith;
}

-- and takes no more than 8 bytes
pub bit_field_small : (rows : List ClassLayout) (parts : ClassId → List Part) (member : Member ClassId) (n : ℕ) → IsBitField member n → (member_component rows parts member).takes ≤ 8
bit_field_small rows parts member n is =
    let a = size_below is.type in
    let e : elements_of member.count ≡ 1 = ap elements_of is.single in
    let f : size_of_member_type rows member.ty ≡ size_of is.type = ap (size_of_member_type rows) is.is in
    rw (e, f) (omega (arith, a))
  where
    size_below : (t : Scalar) → size_of t ≤ 8
    size_below t = of (size_of t) (scalar_alignment t)
      where
        of : (a : ℕ) → IsAlignment a → a ≤ 8
        of _ byte = omega arith
        of _ two_bytes = omega arith
        of _ four_bytes = omega arith
        of _ eight_bytes = omega arith

pub member_fit : (rows : List ClassLayout) (known : List Known) (member : Member ClassId) → AreAllSized rows known → IsEarlierType (length rows) member.ty → length known ≡ length rows → elements_of member.count * size_of_member_type rows member.ty ≤ size_limit → ((n : ℕ) → member.width ≡ Some n → IsBitField member n) → IsFit (member_component rows (known_parts_of known) member)
member_fit rows known member all earlier same le bits = record {
  align = type_alignment rows known member.ty all earlier same;
  takes = le;
  parts = copies_within (elements_of member.count) (size_of_member_type rows member.ty) (parts_of_type (known_parts_of known) member.ty) (type_within rows known member.ty all earlier same);
  width = λ n e. bit_field_fits rows (known_parts_of known) member n (bits n e);
}

pub little_more : (cs : List Component) (c : Component) → AreLittle cs → c.takes ≤ size_limit → AreLittle (cs ++ c ∷ [])
little_more [] c little one = (one, tt)
little_more (x ∷ cs) c little one = (little.0, little_more cs c little.1 one)

pub members_fit : (rows : List ClassLayout) (known : List Known) (members : List (Member ClassId)) → AreAllSized rows known → length known ≡ length rows → ((member : Member ClassId) → Contains members member → IsEarlierType (length rows) member.ty)
    → AreBitFields members → AreLittle (map (member_component rows (known_parts_of known)) members) → AreFit (map (member_component rows (known_parts_of known)) members)
members_fit rows known [] all same earlier bits little = tt
members_fit rows known (member ∷ members) all same earlier bits little = (
  member_fit rows known member all (earlier member (has_here member members)) same little.0 (λ n e. bits member n (has_here member members) e),
  members_fit rows known members all same (λ m h. earlier m (has_later member members m h)) (λ m n h e. bits m n (has_later member members m h) e) little.1,
)

-- one more of a list's images
pub map_more : {X Y : Type 0} (f : X → Y) (xs : List X) (i : ℕ) (item : X) → i < length xs → item ≡ get_or xs i item → map f (take (i + 1) xs) ≡ map f (take i xs) ++ f item ∷ []
map_more f xs i item lt is = ap (map f) (take_more xs i item lt) ∙ (map-append f (take i xs) (get_or xs i item ∷ []) ∙ ap (λ y. map f (take i xs) ++ f y ∷ []) (sym is))

pub get_map : {X Y : Type 0} (f : X → Y) (xs : List X) (i : ℕ) (item : X) → i < length xs → item ≡ get_or xs i item → slice_get (map f xs) i ≡ Some (f item)
get_map f xs i item lt is = slice_get-map f xs i ∙ ap (option_map f) (slice_get_read xs (length xs) i item refl lt is)

-- a component that takes more than the limit makes the size pass it
pub large_passes : (stage : Stage) (cs : List Component) (ps : List ℕ) (i : ℕ) (c : Component) (limit : ℕ) → ArePlaced stage cs ps → slice_get cs i ≡ Some c → ((n : ℕ) → c.width ≡ Some n → c.takes ≤ limit) → limit < c.takes → limit < (stage_after_all stage cs ps).size
large_passes stage [] ps i c limit a e small lt = cc
large_passes stage (x ∷ cs) [] i c limit a e small lt = absurd a
large_passes stage (x ∷ cs) (p ∷ ps) zero c limit a e small lt =
    let same : x ≡ c = cc in
    let takes : x.takes ≡ c.takes = ap (λ (z : Component). z.takes) same in
    let g = size_grows (stage_after stage x p) cs ps in
    let end = by_width x.width (ap (λ (z : Component). z.width) same) takes in omega (arith, g, takes, end)
  where
    by_width : (w : Option ℕ) → w ≡ c.width → x.takes ≡ c.takes → limit < end_by w stage x p
    by_width None e same = omega arith
    by_width (Some n) e same = let s = small n (sym e) in absurd (omega arith)
large_passes stage (x ∷ cs) (p ∷ ps) (suc i) c limit a e small lt = large_passes (stage_after stage x p) cs ps i c limit a.1 e small lt
