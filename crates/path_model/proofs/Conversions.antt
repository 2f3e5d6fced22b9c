-- How conversions break, one after another.
use Rattle.std.proofs.Common.{arith, ◌≡◌, ◌<◌, ◌≤◌, Bool, true, false, List, [], ◌∷◌, refl, subst, ◌∙◌}
use Rattle.cxx_hierarchy.specs.declared.records.ClassId.{ClassId}
use Rattle.cxx_hierarchy.specs.Classes.{Classes}
use Rattle.cxx_subobject.specs.declared.Subobject.{Subobject}
use Rattle.foundation.proofs.Truth.{split}
use Rattle.cxx_subobject.proofs.InsideLemmas.{join_class}
use Rattle.path_plan.specs.Places.{ObjectPart}
use Rattle.cxx_hierarchy.specs.Scalars.{stored_as, kept_in}
use Rattle.path_plan.specs.Places.{ObjectPart}
use Rattle.path_model.specs.Values.{to_number}
use Rattle.std.specs.Prelude.{ℤ, if◌then◌else◌, min}
use Rattle.cxx_program.specs.declared.operand.Conversion.{Conversion}
use Rattle.cxx_program.specs.declared.operand.Conversion.TheVariants.{Number as ToNumber, Bits as ToBits, Null as ToNull, Same as ToSame, Base as ToBase}
use Rattle.path_model.specs.Values.{Value, Unset, Number, Null, Pointer, Objects, converted_to, to_base, inner_part}
use Rattle.path_model.specs.Uses.{StatementUse, Reads, Guards, Views, is_shared, uses_of_view, convert}
use Rattle.path_model.specs.Rules.{names, is_unready, is_outside}
use Rattle.path_model.specs.Typed.{AllSettled, IsOf, IsProperBase, ConvertsClass}
use Rattle.path_model.proofs.Ranks.{first_place, rank, rank_append, rank_full}
use Rattle.path_model.proofs.Single.{none_rank, guard_rank, view_rank, guard_late, view_late, views_none}
use Rattle.path_model.proofs.Facts.{base_done, not_unready, ready_of}

abbrev pub is_pointer : Value → Bool
is_pointer v = names (λ p. true) v

pub off_unready : (s : Objects) (v : Value) → is_pointer v ≡ false → names (is_unready s) v ≡ false
off_unready s Unset e = refl
off_unready s (Number z) e = refl
off_unready s Null e = refl
off_unready s (Pointer p) e = absurd (cc)

pub off_outside : (h : Classes) (s : Objects) (v : Value) → is_pointer v ≡ false → names (is_outside h s) v ≡ false
off_outside h s Unset e = refl
off_outside h s (Number z) e = refl
off_outside h s Null e = refl
off_outside h s (Pointer p) e = absurd (cc)

-- a number's conversion leaves what a value names
number_names : (f : ObjectPart → Bool) (g : ℤ → ℤ) (v : Value) → names f (to_number g v) ≡ names f v
number_names f g Unset = refl
number_names f g (Number z) = refl
number_names f g Null = refl
number_names f g (Pointer p) = refl

number_of : (s : Objects) (g : ℤ → ℤ) (v : Value) (c : ClassId) → IsOf s v c → IsOf s (to_number g v) c
number_of s g Unset c a = tt
number_of s g (Number z) c a = tt
number_of s g Null c a = tt
number_of s g (Pointer p) c a = a

pub off_converted : (v : Value) (c : Conversion) → is_pointer v ≡ false → is_pointer (converted_to v c) ≡ false
off_converted v (ToNumber t) e = number_names (λ p. true) (stored_as t) v ∙ e
off_converted v (ToBits t width) e = number_names (λ p. true) (kept_in t width) v ∙ e
off_converted v ToNull e = refl
off_converted v ToSame e = e
off_converted Unset (ToBase i) e = refl
off_converted (Number z) (ToBase i) e = refl
off_converted Null (ToBase i) e = refl
off_converted (Pointer p) (ToBase i) e = absurd (cc)

-- a conversion is ready or not first
base_rank : (h : Classes) (s : Objects) (v : Value) (i : Subobject) → rank h s (convert v (ToBase i)) ≡ min (rank h s (Guards v ∷ [])) (rank h s (uses_of_view (is_shared i) v))
base_rank h s v i = rank_append h s (Guards v ∷ []) (uses_of_view (is_shared i) v)

pub convert_late : (h : Classes) (s : Objects) (v : Value) (c : Conversion) → 2 ≤ rank h s (convert v c)
convert_late h s v (ToNumber t) = let n = none_rank h s in omega (arith, n)
convert_late h s v (ToBits t width) = let n = none_rank h s in omega (arith, n)
convert_late h s v ToNull = let n = none_rank h s in omega (arith, n)
convert_late h s v ToSame = let n = none_rank h s in omega (arith, n)
convert_late h s v (ToBase i) = let r = base_rank h s v i in let g = guard_late h s v in let l = view_late h s (is_shared i) v in omega (arith, r, g, l)

pub convert_steady : (h : Classes) (s : Objects) (v : Value) (c : Conversion) → names (is_unready s) v ≡ false → 3 ≤ rank h s (convert v c)
convert_steady h s v (ToNumber t) e = let n = none_rank h s in omega (arith, n)
convert_steady h s v (ToBits t width) e = let n = none_rank h s in omega (arith, n)
convert_steady h s v ToNull e = let n = none_rank h s in omega (arith, n)
convert_steady h s v ToSame e = let n = none_rank h s in omega (arith, n)
convert_steady h s v (ToBase i) e = let r = base_rank h s v i in let g = guard_rank h s v false e in let l = view_late h s (is_shared i) v in omega (arith, r, g, l)

pub convert_clear : (h : Classes) (s : Objects) (v : Value) (c : Conversion) → names (is_unready s) v ≡ false → names (is_outside h s) v ≡ false → rank h s (convert v c) ≡ 12
convert_clear h s v (ToNumber t) e f = none_rank h s
convert_clear h s v (ToBits t width) e f = none_rank h s
convert_clear h s v ToNull e f = none_rank h s
convert_clear h s v ToSame e f = none_rank h s
convert_clear h s v (ToBase i) e f = let r = base_rank h s v i in let g = guard_rank h s v false e in let l = views_none h s (is_shared i) v f in omega (arith, r, g, l)

pub convert_off : (h : Classes) (s : Objects) (v : Value) (c : Conversion) → is_pointer v ≡ false → rank h s (convert v c) ≡ 12
convert_off h s v c e = convert_clear h s v c (off_unready s v e) (off_outside h s v e)

pub views_top : (h : Classes) (s : Objects) (b : Bool) (v : Value) → rank h s (uses_of_view b v) < 12 → rank h s (uses_of_view b v) ≤ 3
views_top h s true v l = split (names (is_outside h s) v) (λ b. rank h s (Views v ∷ []) ≤ 3) (λ e. let r = view_rank h s v true e in omega (arith, r)) (λ e. let r = view_rank h s v false e in omega (arith, r, l))
views_top h s false v l = let n = none_rank h s in omega (arith, n, l)

-- what comes behind a conversion breaks no rule before it, where it breaks only U3 and later ones, and of a ready pointer only U4 and later ones
pub convert_then : (h : Classes) (s : Objects) (v : Value) (c : Conversion) (B : List StatementUse) → 2 ≤ rank h s B → (names (is_unready s) v ≡ false → 3 ≤ rank h s B) → rank h s (convert v c) < 12 → rank h s (convert v c) ≤ rank h s B
convert_then h s v (ToNumber t) B late steady less = let n = none_rank h s in omega (arith, n, less)
convert_then h s v (ToBits t width) B late steady less = let n = none_rank h s in omega (arith, n, less)
convert_then h s v ToNull B late steady less = let n = none_rank h s in omega (arith, n, less)
convert_then h s v ToSame B late steady less = let n = none_rank h s in omega (arith, n, less)
convert_then h s v (ToBase i) B late steady less =
    let r = base_rank h s v i in
    split (names (is_unready s) v) (λ b. rank h s (convert v (ToBase i)) ≤ rank h s B)
    (λ e. let g = guard_rank h s v true e in omega (arith, r, g, late))
    (λ e. let g = guard_rank h s v false e in let l = steady e in let t : rank h s (uses_of_view (is_shared i) v) ≤ 3 = views_top h s (is_shared i) v (omega (arith, r, g, less)) in omega (arith, r, t, l))

-- a pointer that is read is dangling, or breaks nothing
pub read_rank : (h : Classes) (s : Objects) (p : ObjectPart) (b : Bool) → s.is_closed p.object ≡ b → rank h s (Reads (Pointer p) ∷ []) ≡ (if b then 1 else 12)
unfolding rank first_place
read_rank h s p true e = rw e refl
read_rank h s p false e = rw e refl

-- what rests on a value comes behind the reading of it
pub read_then : (h : Classes) (s : Objects) (v : Value) (A B : List StatementUse) → (is_pointer v ≡ false → rank h s B ≡ 12) → 2 ≤ rank h s B → (rank h s A < 12 → rank h s A ≤ rank h s B) → rank h s (Reads v ∷ A) < 12 → rank h s (Reads v ∷ A) ≤ rank h s B
read_then h s Unset A B off late more less = let o = off refl in let f = rank_full h s (Reads Unset ∷ A) in omega (arith, o, f)
read_then h s (Number z) A B off late more less = let o = off refl in let f = rank_full h s (Reads (Number z) ∷ A) in omega (arith, o, f)
read_then h s Null A B off late more less = let o = off refl in let f = rank_full h s (Reads Null ∷ A) in omega (arith, o, f)
read_then h s (Pointer p) A B off late more less =
    let r = rank_append h s (Reads (Pointer p) ∷ []) A in
    split (s.is_closed p.object) (λ b. rank h s (Reads (Pointer p) ∷ A) ≤ rank h s B)
    (λ e. let g = read_rank h s p true e in omega (arith, r, g, late))
    (λ e. let g = read_rank h s p false e in let m : rank h s A ≤ rank h s B = more (omega (arith, r, g, less)) in omega (arith, r, m))

-- a conversion of a ready pointer gives a ready one of the next class
pub base_steady : (h : Classes) (s : Objects) → AllSettled h s → (v : Value) (c d : ClassId) (i : Subobject) → IsOf s v c → IsProperBase h c i d → names (is_unready s) v ≡ false → names (is_unready s) (to_base i v) ≡ false
base_steady h s all Unset c d i a b e = refl
base_steady h s all (Number z) c d i a b e = refl
base_steady h s all Null c d i a b e = refl
base_steady h s all (Pointer p) c d i a b e = not_unready s (inner_part p i) (base_done h s p c i a.0 (all p.object a.1.0 a.1.1) b.valid b.proper (ready_of s p e))

base_of : (h : Classes) (s : Objects) (v : Value) (c d : ClassId) (i : Subobject) → IsOf s v c → IsProperBase h c i d → IsOf s (to_base i v) d
base_of h s Unset c d i a b = tt
base_of h s (Number z) c d i a b = tt
base_of h s Null c d i a b = tt
base_of h s (Pointer p) c d i a b = (join_class h c p.at i a.0 b.valid ∙ b.class, a.1)

pub converted_steady : (h : Classes) (s : Objects) → AllSettled h s → (v : Value) (c d : ClassId) (t : Conversion) → IsOf s v c → ConvertsClass h c t d → names (is_unready s) v ≡ false → names (is_unready s) (converted_to v t) ≡ false
converted_steady h s all v c d (ToNumber t) a b e = number_names (is_unready s) (stored_as t) v ∙ e
converted_steady h s all v c d (ToBits t width) a b e = number_names (is_unready s) (kept_in t width) v ∙ e
converted_steady h s all v c d ToNull a b e = refl
converted_steady h s all v c d ToSame a b e = e
converted_steady h s all v c d (ToBase i) a b e = base_steady h s all v c d i a b e

pub converted_of : (h : Classes) (s : Objects) (v : Value) (c d : ClassId) (t : Conversion) → IsOf s v c → ConvertsClass h c t d → IsOf s (converted_to v t) d
converted_of h s v c d (ToNumber t) a b = number_of s (stored_as t) v d (subst (λ (x : ClassId). IsOf s v x) b a)
converted_of h s v c d (ToBits t width) a b = number_of s (kept_in t width) v d (subst (λ (x : ClassId). IsOf s v x) b a)
converted_of h s v c d ToNull a b = tt
converted_of h s v c d ToSame a b = subst (λ (x : ClassId). IsOf s v x) b a
converted_of h s v c d (ToBase i) a b = base_of h s v c d i a b
