-- What casts give, and what is asked of it.
use Rattle.std.proofs.Common.{arith, ◌<◌, ◌≤◌, ◌≡◌, Bool, true, false, Option, Some, None, List, [], ◌∷◌, refl, sym, subst}
use Rattle.std.specs.Prelude.{ℕ, ℤ, if◌then◌else◌, is_none}
use Rattle.foundation.proofs.Truth.{split}
use Rattle.cxx_hierarchy.specs.declared.records.ClassId.{ClassId}
use Rattle.cxx_hierarchy.specs.Classes.{Classes}
use Rattle.cxx_subobject.specs.declared.Subobject.{Subobject}
use Rattle.cxx_subobject.specs.Subobjects.{IsSubobject}
use Rattle.cxx_subobject.specs.Locations.{ObjectPart}
use Rattle.cxx_program.specs.declared.statement.TypedCast.{TypedCast}
use Rattle.cxx_program.specs.declared.statement.TypedCast.TheVariants.{Up}
use Rattle.cxx_program.specs.declared.operand.Conversion.{Conversion}
use Rattle.cxx_program.specs.Typed.{Casts, cast_same, cast_up, cast_down, cast_dynamic}
use Rattle.path_rules.specs.declared.Undefined.TheVariants.{BadDowncast}
use Rattle.path_model.specs.Values.{Value, Unset, Number, Null, Pointer, Objects}
use Rattle.path_model.specs.Uses.{Reads, Guards, Downs, convert, derived_of, down_value, cast_value, value_or}
use Rattle.path_model.specs.Rules.{refused, names, is_unready}
use Rattle.path_model.proofs.Ranks.{first_place, rank, rank_append}
use Rattle.path_model.proofs.Single.{guard_rank}
use Rattle.path_model.proofs.Conversions.{is_pointer, convert_off}
use Rattle.path_model.proofs.Rights.{cast_off}
use Rattle.path_heap.specs.declared.state.Value.{Value as ValueCode}
use Rattle.path_heap.specs.declared.state.Value.TheVariants.{Unset as UnsetCode, Number as NumberCode, Null as NullCode, Pointer as PointerCode}
use Rattle.path_heap.specs.Stands.{Means}
use Rattle.path_refusals.proofs.Refused.{clear_rank}
use Rattle.path_refusals.proofs.Reading.{full_none, read_early}

-- a downcast of a part

pub down_is : (h : Classes) (s : Objects) (p : ObjectPart) (target : ClassId) (i : Subobject) (b : Bool) → is_none (derived_of h s target i p) ≡ b → refused h s (Downs (Pointer p) target i ∷ []) ≡ (if b then Some BadDowncast else None)
unfolding refused
down_is h s p target i true e = rw e refl
down_is h s p target i false e = rw e refl

nowhere_is : (h : Classes) (classes : List ClassId) (p : ObjectPart) (o : Option Subobject) (v : ValueCode) → v ≡ UnsetCode → Means h classes v (value_or p Unset o) → is_none o ≡ true
nowhere_is h classes p None v e m = refl
nowhere_is h classes p (Some t) v e m = absurd (subst (λ (w : ValueCode). Means h classes w (value_or p Unset (Some t))) e m)

somewhere_is : (h : Classes) (classes : List ClassId) (p : ObjectPart) (o : Option Subobject) (v : ValueCode) (n : ℕ) → v ≡ PointerCode n → Means h classes v (value_or p Unset o) → is_none o ≡ false
somewhere_is h classes p None v n e m = absurd (subst (λ (w : ValueCode). Means h classes w (value_or p Unset None)) e m)
somewhere_is h classes p (Some t) v n e m = refl

pub down_unset : (h : Classes) (s : Objects) (p : ObjectPart) (target : ClassId) (i : Subobject) (v : ValueCode) → v ≡ UnsetCode → Means h s.classes v (down_value h s target i (Pointer p)) → Some BadDowncast ≡ refused h s (Downs (Pointer p) target i ∷ [])
down_unset h s p target i v e m = sym (down_is h s p target i true (nowhere_is h s.classes p (derived_of h s target i p) v e m))

pub down_found : (h : Classes) (s : Objects) (p : ObjectPart) (target : ClassId) (i : Subobject) (v : ValueCode) (n : ℕ) → v ≡ PointerCode n → Means h s.classes v (down_value h s target i (Pointer p)) → None ≡ refused h s (Downs (Pointer p) target i ∷ [])
down_found h s p target i v n e m = sym (down_is h s p target i false (somewhere_is h s.classes p (derived_of h s target i p) v n e m))

no_number : (h : Classes) (classes : List ClassId) (p : ObjectPart) (o : Option Subobject) (v : ValueCode) (a : ℤ) → v ≡ NumberCode a → Means h classes v (value_or p Unset o) → ⊥
no_number h classes p None v a e m = subst (λ (w : ValueCode). Means h classes w (value_or p Unset None)) e m
no_number h classes p (Some t) v a e m = subst (λ (w : ValueCode). Means h classes w (value_or p Unset (Some t))) e m

no_null : (h : Classes) (classes : List ClassId) (p : ObjectPart) (o : Option Subobject) (v : ValueCode) → v ≡ NullCode → Means h classes v (value_or p Unset o) → ⊥
no_null h classes p None v e m = subst (λ (w : ValueCode). Means h classes w (value_or p Unset None)) e m
no_null h classes p (Some t) v e m = subst (λ (w : ValueCode). Means h classes w (value_or p Unset (Some t))) e m

pub not_number : (h : Classes) (s : Objects) (p : ObjectPart) (target : ClassId) (i : Subobject) (v : ValueCode) (a : ℤ) → v ≡ NumberCode a → Means h s.classes v (down_value h s target i (Pointer p)) → ⊥
not_number h s p target i v a e m = no_number h s.classes p (derived_of h s target i p) v a e m

pub not_null : (h : Classes) (s : Objects) (p : ObjectPart) (target : ClassId) (i : Subobject) (v : ValueCode) → v ≡ NullCode → Means h s.classes v (down_value h s target i (Pointer p)) → ⊥
not_null h s p target i v e m = no_null h s.classes p (derived_of h s target i p) v e m

pub off_down : (h : Classes) (s : Objects) (x : Value) (target : ClassId) (i : Subobject) → is_pointer x ≡ false → None ≡ refused h s (Downs x target i ∷ [])
unfolding refused
off_down h s Unset target i e = refl
off_down h s (Number z) target i e = refl
off_down h s Null target i e = refl
off_down h s (Pointer p) target i e = absurd (cc)

at_rank : (h : Classes) (s : Objects) (p : ObjectPart) (target : ClassId) (i : Subobject) (b : Bool) → is_none (derived_of h s target i p) ≡ b → rank h s (Downs (Pointer p) target i ∷ []) ≡ (if b then 6 else 12)
unfolding rank first_place
at_rank h s p target i true e = rw e refl
at_rank h s p target i false e = rw e refl

down_late : (h : Classes) (s : Objects) (x : Value) (target : ClassId) (i : Subobject) → 6 ≤ rank h s (Downs x target i ∷ [])
down_late h s Unset target i = let r = clear_rank h s (Downs Unset target i ∷ []) (off_down h s Unset target i refl) in omega (arith, r)
down_late h s (Number z) target i = let r = clear_rank h s (Downs (Number z) target i ∷ []) (off_down h s (Number z) target i refl) in omega (arith, r)
down_late h s Null target i = let r = clear_rank h s (Downs Null target i ∷ []) (off_down h s Null target i refl) in omega (arith, r)
down_late h s (Pointer p) target i = split (is_none (derived_of h s target i p)) (λ b. is_none (derived_of h s target i p) ≡ b → 6 ≤ rank h s (Downs (Pointer p) target i ∷ []))
    (λ _ e. let r = at_rank h s p target i true e in omega (arith, r)) (λ _ e. let r = at_rank h s p target i false e in omega (arith, r)) refl

pub down_then : (h : Classes) (s : Objects) (x : Value) (target : ClassId) (i : Subobject) → rank h s (Reads x ∷ Guards x ∷ []) < 12 → rank h s (Reads x ∷ Guards x ∷ []) ≤ rank h s (Downs x target i ∷ [])
down_then h s x target i less =
    let r = rank_append h s (Reads x ∷ []) (Guards x ∷ []) in
    let d = down_late h s x target i in
    split (names (is_unready s) x) (λ b. rank h s (Reads x ∷ Guards x ∷ []) ≤ rank h s (Downs x target i ∷ []))
    (λ e. let g = guard_rank h s x true e in omega (arith, r, d, g))
    (λ e. let g = guard_rank h s x false e in let l : rank h s (Reads x ∷ []) ≤ 4 = read_early h s x (omega (arith, r, g, less)) in omega (arith, r, d, l))

-- of what is no pointer no cast gives one

pub off_cast : (h : Classes) (s : Objects) (how : TypedCast) (x : Value) (c : Conversion) → is_pointer x ≡ false → None ≡ refused h s (convert (cast_value h s how x) c)
off_cast h s how x c e = full_none h s (convert (cast_value h s how x) c) (convert_off h s (cast_value h s how x) c (cast_off h s how x e))

-- the base to which a cast leads up
pub up_valid : (h : Classes) (c d : ClassId) (how : TypedCast) (i : Subobject) → how ≡ Up i → Casts h c how d → IsSubobject h c i
up_valid h _ _ _ i e (cast_same c) = absurd (cc)
up_valid h _ _ _ i e (cast_up c d j a) = let same : j ≡ i = cc in subst (λ (k : Subobject). IsSubobject h c k) same a.valid
up_valid h _ _ _ i e (cast_down c d j a root known) = absurd (cc)
up_valid h _ _ _ i e (cast_dynamic c d a known) = absurd (cc)
