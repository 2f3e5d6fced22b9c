-- A text has one reading at most.
use Rattle.std.proofs.Common.{◌≡◌, ◌∙◌, ℕ, suc, ◌^◌, ◌<◌, ◌≤◌, ⊎_elim, arith, inl, inr, Option, Some, None, List, [], ◌∷◌, ◌++◌, length, refl, ap, sym, subst}
use Rattle.std.specs.Prelude.{ℤ, pos, negsuc, codes, slice_get}
use Rattle.std.specs.List.{concat}
use Rattle.std.specs.Fmt.{decimal, signed_decimal}
use Rattle.std.proofs.lemmas.Bool.{cases_lt}
use Rattle.std.proofs.lemmas.Fmt.{decimal_injective}
use Rattle.std.proofs.lemmas.List.{append_cancel_left}
use Rattle.foundation.proofs.Members.{Has, has_from_contains}
use Rattle.foundation.proofs.Places.{get_within}
use Rattle.cxx_hierarchy.specs.declared.records.ClassId.{ClassId}
use Rattle.cxx_hierarchy.specs.declared.records.Scalar.{Scalar}
use Rattle.cxx_hierarchy.specs.declared.records.ValueType.{ValueType}
use Rattle.cxx_hierarchy.specs.declared.records.ValueType.TheVariants.{Number as NumberType, Pointer as PointerType}
use Rattle.cxx_hierarchy.specs.Classes.{Classes, class_names}
use Rattle.cxx_hierarchy.specs.Hierarchies.{IsHierarchy}
use Rattle.abi_sound.specs.declared.class_layout.ClassLayout.{ClassLayout}
use Rattle.abi_sound.specs.Places.{Places, places_of}
use Rattle.abi_sound.specs.Sound.{IsSoundLayout}
use Rattle.abi_print.specs.LayoutTexts.{name_in_class, declared_class_name, value_type_text as type_text}
use Rattle.abi_print.specs.Texts.{location_text}
use Rattle.abi_inspect.specs.declared.seen.Seen.{Seen}
use Rattle.abi_inspect.specs.declared.seen.SeenValue.{SeenValue}
use Rattle.abi_inspect.specs.declared.seen.SeenValue.TheVariants.{Unset, Number, Null, Place}
use Rattle.abi_inspect.specs.declared.slots.LeafLine.{LeafLine}
use Rattle.abi_inspect.specs.declared.slots.Row.{Row}
use Rattle.abi_inspect.specs.declared.slots.Row.TheVariants.{Fixed, Leaf}
use Rattle.abi_inspect.specs.Values.{IsNumberOfLeaf, IsHeapPlace, IsValueOf, most_dumped_number, number_value_text, unset_value, value_text}
use Rattle.abi_inspect.specs.Rows.{slots_by_place, rows_of, slots_of}
use Rattle.abi_inspect.specs.SeenTexts.{AreValuesOf, before_value, leaf_line, row_lines}
use Rattle.abi_inspect.specs.Faults.{AreNamesWords, IsDumpOf, IsFirstBadLine, NamesNoClass}
use Rattle.abi_inspect.specs.invariants.Digits.{IsBelowWord, hex_word}
use Rattle.abi_inspect.specs.invariants.Readable.{IsNarrow, IsPointerValue}
use Rattle.abi_inspect.specs.invariants.Inspections.{IsObjectOf}
use Rattle.abi_inspect.proofs.Cuts.{same_cut}
use Rattle.abi_inspect.proofs.Ranges.{below_word}
use Rattle.abi_inspect.proofs.Tokens.{no_dashes, no_digit, no_space, small_word, unset_begins}
use Rattle.abi_inspect.proofs.Readings.{dashes_unset, grouped, hash_pointer, head_same, null_pointer, number_each, other_number, plus_cut, to_pointer, unset_pointer}
use Rattle.abi_inspect.proofs.LineReads.{parts}
use Rattle.abi_inspect.proofs.SlotPlaces.{from_by_place, rows_narrow, slots_lie}
use Rattle.abi_inspect.proofs.Inspections.{head_of, named, named_class, one_seen}

-- numbers

no_minus : (a : ℕ) (rest : List ℕ) → a < 2 ^ 64 → decimal a ≡ 45 ∷ rest → ⊥
no_minus a rest small e = no_digit a 45 small (omega arith) (subst (λ (ds : List ℕ). Has ds 45) (sym e) (inl refl))

one_signed : (y z : ℤ) → IsBelowWord y → IsBelowWord z → signed_decimal y ≡ signed_decimal z → y ≡ z
one_signed (pos a) (pos b) small also e = ap pos (decimal_injective a b small also e)
one_signed (pos a) (negsuc b) small also e = absurd (no_minus a (decimal (suc b)) small e)
one_signed (negsuc a) (pos b) small also e = absurd (no_minus b (decimal (suc a)) also (sym e))
one_signed (negsuc a) (negsuc b) small also e =
    let same : decimal (suc a) ≡ decimal (suc b) = cc in
    let number : suc a ≡ suc b = decimal_injective (suc a) (suc b) small also same in
    let less : a ≡ b = omega (arith, number) in
    ap negsuc less

one_number : (width : Option ℕ) (t : Scalar) (y z : ℤ) → IsNarrow width → IsNumberOfLeaf width t y → IsNumberOfLeaf width t z → number_value_text width (NumberType t) y ≡ number_value_text width (NumberType t) z → y ≡ z
one_number None t y z narrow held also e =
    let text : List ℕ = number_value_text None (NumberType t) y in
    sym (number_each None t text (hex_word text) tt (λ n f x below is. cc) (λ f few. refl) y held refl)
    ∙ number_each None t text (hex_word text) tt (λ n f x below is. cc) (λ f few. refl) z also e
one_number (Some n) t y z narrow held also e = one_signed y z (below_word t n y narrow held) (below_word t n z narrow also) e

-- pointers

one_place : (n p number place : ℕ) → IsHeapPlace n p → IsHeapPlace number place → decimal n ++ codes "+" ++ decimal p ≡ decimal number ++ codes "+" ++ decimal place → Place n p ≡ Place number place
one_place n p number place is also e =
    let cut = plus_cut (decimal n ++ codes "+" ++ decimal p) (decimal n) (decimal p) number place also (grouped n p) (λ has. no_digit n 43 (small_word n is.high) (omega arith) (has_from_contains (decimal n) 43 has)) e in
    ap (λ (k : ℕ). Place k p) (decimal_injective n number (small_word n is.high) (small_word number also.high) cut.0)
    ∙ ap (λ (k : ℕ). Place number k) (decimal_injective p place (small_word p is.near) (small_word place also.near) cut.1)

no_hash : (width : Option ℕ) (c : ClassId) (rest : List ℕ) → unset_value width (PointerType c) ≡ 35 ∷ rest → ⊥
no_hash width c rest e =
    let b = unset_begins width (PointerType c) in
    let both : 35 ∷ rest ≡ 45 ∷ 45 ∷ b.0 = sym e ∙ b.1 in
    absurd (omega (arith, head_same 35 45 rest (45 ∷ b.0) both))

not_four : (width : Option ℕ) (c : ClassId) → length (unset_value width (PointerType c)) ≡ 4 → ⊥
not_four None c e = omega (arith, e)
not_four (Some n) c e = omega (arith, e)

no_hash_null : (rest : List ℕ) → codes "null" ≡ 35 ∷ rest → ⊥
no_hash_null rest e = absurd (omega (arith, head_same 110 35 (codes "ull") rest e))

one_pointer : (width : Option ℕ) (c : ClassId) (v w : SeenValue) → IsPointerValue v → IsPointerValue w → value_text width (PointerType c) v ≡ value_text width (PointerType c) w → v ≡ w
one_pointer width c Unset w fits also e = unset_pointer width c (unset_value width (PointerType c)) w (no_hash width c) (not_four width c) also e
one_pointer width c (Number z) w fits also e = absurd fits
one_pointer width c Null w fits also e = null_pointer width c (codes "null") w no_hash_null refl also e
one_pointer width c (Place n p) w fits also e =
    hash_pointer width c (location_text n p) (decimal n ++ codes "+" ++ decimal p) (Place n p) w refl (λ number place is same. one_place n p number place fits is same) also e

-- a text is that of one value of a leaf
pub one_value : (width : Option ℕ) (type : ValueType ClassId) (v w : SeenValue) → IsNarrow width → IsValueOf width type v → IsValueOf width type w → value_text width type v ≡ value_text width type w → v ≡ w
one_value width (NumberType t) Unset w narrow fits also e =
    let b = unset_begins width (NumberType t) in
    dashes_unset width t (unset_value width (NumberType t)) b.0 w narrow b.1 also e
one_value width (NumberType t) (Number y) w narrow fits also e =
    other_number width t (number_value_text width (NumberType t) y) y w (λ rest begins. no_dashes width t y rest narrow fits begins) (λ z held is. one_number width t y z narrow fits held is) also e
one_value width (NumberType t) Null w narrow fits also e = absurd fits
one_value width (NumberType t) (Place number place) w narrow fits also e = absurd fits
one_value width (PointerType c) v w narrow fits also e = one_pointer width c v w (to_pointer width c v fits) (to_pointer width c w also) e

-- a text begins with the line of one value of a leaf
pub one_leaf : (h : Classes) (x : LeafLine) (v w : SeenValue) (r s : List ℕ) → IsNarrow x.bits.width → IsValueOf x.bits.width x.ty v → IsValueOf x.bits.width x.ty w → leaf_line h x v ++ r ≡ leaf_line h x w ++ s → v ≡ w
one_leaf h x v w r s narrow fits also e =
    let last : List ℕ = type_text h x.ty ++ codes " " ++ x.name ++ codes "\n" in
    let cut = append_cancel_left (before_value x) (value_text x.bits.width x.ty v ++ 32 ∷ (last ++ r)) (value_text x.bits.width x.ty w ++ 32 ∷ (last ++ s)) (sym (parts h x v r) ∙ (e ∙ parts h x w s)) in
    let values = same_cut (value_text x.bits.width x.ty v) (last ++ r) (value_text x.bits.width x.ty w) (last ++ s) 32 cut (no_space x.bits.width x.ty v narrow fits) (no_space x.bits.width x.ty w narrow also) in
    one_value x.bits.width x.ty v w narrow fits also values.0

-- a text is that of rows with one list of values
pub one_rows : (h : Classes) (rows : List Row) (values others : List SeenValue) → ((x : LeafLine) → Has rows (Leaf x) → IsNarrow x.bits.width) → AreValuesOf rows values → AreValuesOf rows others → concat (row_lines h rows values) ≡ concat (row_lines h rows others) → values ≡ others
one_rows h [] [] [] narrow fits also e = refl
one_rows h [] [] (w ∷ others) narrow fits also e = absurd also
one_rows h [] (v ∷ values) others narrow fits also e = absurd fits
one_rows h (Fixed text ∷ rows) values others narrow fits also e =
    one_rows h rows values others (λ x has. narrow x (inr has)) fits also (append_cancel_left (text ++ codes "\n") (concat (row_lines h rows values)) (concat (row_lines h rows others)) e)
one_rows h (Leaf x ∷ rows) [] others narrow fits also e = absurd fits
one_rows h (Leaf x ∷ rows) (v ∷ values) [] narrow fits also e = absurd also
one_rows h (Leaf x ∷ rows) (v ∷ values) (w ∷ others) narrow fits also e =
    let more : List ℕ = concat (row_lines h rows values) in
    let rest : List ℕ = concat (row_lines h rows others) in
    let one : v ≡ w = one_leaf h x v w more rest (narrow x (inl refl)) fits.0 also.0 e in
    let same : more ≡ rest = append_cancel_left (leaf_line h x v) more rest (e ∙ ap (λ (u : SeenValue). leaf_line h x u ++ rest) (sym one)) in
    ap (λ (u : SeenValue). u ∷ values) one ∙ ap (λ (vs : List SeenValue). w ∷ vs) (one_rows h rows values others (λ y has. narrow y (inr has)) fits.1 also.1 same)

-- the number of an object by its digits
pub own_number : (object : ℕ) → 1 ≤ object → object ≤ most_dumped_number → IsObjectOf (decimal object) object
own_number object low high = record {
  low = low;
  high = high;
  one = λ n le e. decimal_injective object n (small_word object high) (small_word n le) e;
}

-- the name of a class by its number
pub own_name : (h : Classes) (c : ClassId) → c.0 < length h → slice_get (class_names h) c.0 ≡ Some (declared_class_name h c)
own_name h c known =
    let g = get_within h c.0 known in
    named h c.0 g.0 g.1 ∙ ap (λ (n : List ℕ). Some n) (sym (ap name_in_class g.1))

-- the leaves of a class are narrow
pub leaves_narrow : (h : Classes) (rows : List ClassLayout) → IsHierarchy h → IsSoundLayout h rows → (c : ClassId) → c.0 < length h → (x : LeafLine) → Has (rows_of h (places_of h rows) c) (Leaf x) → IsNarrow x.bits.width
leaves_narrow h rows keeps sound c known x has =
    let l : Places = places_of h rows in
    rows_narrow (l.size c) 0 (slots_by_place (l.size c) (slots_of h l c))
    (λ slot there. (slots_lie h rows keeps sound c known slot (from_by_place (l.size c) (slots_of h l c) slot there)).narrow) x has

pub sizes_small : (h : Classes) (rows : List ClassLayout) → IsSoundLayout h rows → (c : ClassId) → c.0 < length h → (places_of h rows).size c ≤ 1048576
sizes_small h rows sound c known = (sound.each c known).bounded

-- the values of a dump
pub one_dump : (h : Classes) (rows : List ClassLayout) (text : List ℕ) (seen other : Seen) → AreNamesWords h → IsHierarchy h → IsSoundLayout h rows → IsDumpOf h (places_of h rows) seen text → IsDumpOf h (places_of h rows) other text → seen ≡ other
one_dump h rows text seen other words keeps sound d also =
    let l : Places = places_of h rows in
    let c : ClassId = seen.class in
    let left : List ℕ = concat (row_lines h (rows_of h l c) seen.leaves) in
    let line = head_of h l words (sizes_small h rows sound) seen.object c left text d.fits.known d.fits.high d.is in
    one_seen h l words (sizes_small h rows sound) (decimal seen.object) (declared_class_name h c) (decimal (l.size c)) left text line keeps c seen.object (own_name h c d.fits.known) (own_number seen.object d.fits.low d.fits.high) left d.is seen
    (record {
      object_is = refl;
      class_is = refl;
      read = record {
        fits = d.fits.leaves;
        is = refl;
        one = λ others fits is. one_rows h (rows_of h l c) others seen.leaves (leaves_narrow h rows keeps sound c d.fits.known) fits d.fits.leaves (sym is);
      };
    }) other also

-- a dump names a class
pub dump_named : (h : Classes) (rows : List ClassLayout) (text : List ℕ) (seen : Seen) → AreNamesWords h → IsSoundLayout h rows → IsDumpOf h (places_of h rows) seen text → NamesNoClass h text → ⊥
dump_named h rows text seen words sound d =
    let l : Places = places_of h rows in
    let c : ClassId = seen.class in
    let left : List ℕ = concat (row_lines h (rows_of h l c) seen.leaves) in
    named_class h (decimal seen.object) (declared_class_name h c) (decimal (l.size c)) left text c (head_of h l words (sizes_small h rows sound) seen.object c left text d.fits.known d.fits.high d.is) (own_name h c d.fits.known)

-- the line of a fault
pub one_line : (h : Classes) (l : Places) (text : List ℕ) (m n : ℕ) → IsFirstBadLine h l text m → IsFirstBadLine h l text n → m ≡ n
one_line h l text m n fault other =
    ⊎_elim (λ lt. absurd (fault.here (other.before m fault.low lt)))
    (λ le. ⊎_elim (λ lt. absurd (other.here (fault.before n other.low lt))) (λ ge. omega (arith, le, ge)) (cases_lt n m)) (cases_lt m n)
