-- What classes list for their virtual tables: entries, and offsets before the address point (Itanium C++ ABI 2.5.2).
use Rattle.std.specs.Prelude.{ℕ, zero, suc, ◌+◌, Bool, true, false, not, nat_eq, ◌&&◌, ◌||◌, if◌then◌else◌, Option, Some, None, List, [], ◌∷◌, ◌++◌, map, filter}
use Rattle.std.specs.List.{list_any, find, flat_map}
use Rattle.cxx_hierarchy.specs.declared.records.ClassId.{ClassId}
use Rattle.cxx_hierarchy.specs.declared.records.Base.{Base}
use Rattle.cxx_hierarchy.specs.Classes.{Classes, bases_of}
use Rattle.cxx_subobject.specs.declared.Subobject.{Subobject}
use Rattle.cxx_subobject.specs.Subobjects.{class_of, is_shared_root, is_class}
use Rattle.cxx_subobject.specs.Preorder.{preorder}
use Rattle.cxx_subobject.specs.VirtualBases.{virtual_bases}
use Rattle.cxx_overrider.specs.declared.FunctionId.{FunctionId}
use Rattle.cxx_overrider.specs.Functions.{Signature, named, destructor, signature_of, return_of, same_function, pointee}
use Rattle.abi_primary.specs.declared.Primary.{Primary}
use Rattle.abi_primary.specs.declared.Primary.TheVariants.{None as NoPrimary, Direct, Virtual}
use Rattle.abi_sound.specs.Places.{Places}
use Rattle.abi_slots.specs.declared.words.CodeKind.{CodeKind}
use Rattle.abi_slots.specs.declared.words.CodeKind.TheVariants.{Plain, Complete, Deleting}
use Rattle.abi_slots.specs.declared.words.Conversion.{Conversion}
use Rattle.abi_slots.specs.declared.words.EntryKey.{EntryKey}
use Rattle.abi_slots.specs.declared.words.Offset.{Offset}
use Rattle.abi_slots.specs.declared.words.Offset.TheVariants.{ToBase, ToOverrider}
use Rattle.cxx_overrider.specs.Virtuals.{same_name, own}
use Rattle.abi_primary.specs.PrimaryBase.{is_direct_primary}

-- conversions of results

-- the base of class y that an object of class x has
abbrev pub base_of_class : Classes → ClassId → ClassId → Option Subobject
base_of_class h x y = find (λ s. is_class y (class_of s)) (preorder h x)

abbrev pub between_classes : Option ClassId → Option ClassId → Option Conversion
between_classes None to = None
between_classes (Some x) None = None
between_classes (Some x) (Some y) = if nat_eq x.0 y.0 then None else Some (record { from = x; to = y })

-- the classes from which and to which the result of f is converted where g is called
abbrev pub conversion : Classes → FunctionId → FunctionId → Option Conversion
conversion h f g = between_classes (pointee (return_of h f)) (pointee (return_of h g))

abbrev pub is_away : Places → ClassId → Option Subobject → Bool
is_away l x None = false
is_away l x (Some s) = is_shared_root s.root || not (nat_eq (l.place x s) 0)

abbrev pub needs_in : Classes → Places → Option Conversion → Bool
needs_in h l None = false
needs_in h l (Some c) = is_away l c.from (base_of_class h c.from c.to)

-- the result of f has to be adjusted where g is called: it points to another class, and the base that g's result points
-- to lies behind a virtual base or at another place than 0
abbrev pub needs_return : Classes → Places → FunctionId → FunctionId → Bool
needs_return h l f g = needs_in h l (conversion h f g)

-- entries

abbrev pub same_kind : CodeKind → CodeKind → Bool
same_kind Plain Plain = true
same_kind Complete Complete = true
same_kind Deleting Deleting = true
same_kind j k = false

abbrev pub entry_key : FunctionId → CodeKind → EntryKey
entry_key f kind = record { function = f; kind = kind }

abbrev pub same_entry_key : EntryKey → EntryKey → Bool
same_entry_key a b = same_function a.function b.function && same_kind a.kind b.kind

abbrev pub kinds_in : Option Signature → List CodeKind
kinds_in None = []
kinds_in (Some (named n types)) = Plain ∷ []
kinds_in (Some destructor) = Complete ∷ Deleting ∷ []

-- the entries of its own that a function can have: one, or two for a destructor, the complete one first
abbrev pub keys_of : Classes → FunctionId → List EntryKey
keys_of h f = map (entry_key f) (kinds_in (signature_of h f))

-- the keys of the virtual functions that a class declares
abbrev pub own_keys : Classes → ClassId → List EntryKey
own_keys h c = flat_map (keys_of h) (own h c)

-- the function of one key has the entry of another, which it overrides, and needs no adjustment of its result there
abbrev pub shares : Classes → Places → EntryKey → EntryKey → Bool
shares h l k old = same_kind k.kind old.kind && (same_name h k.function old.function && not (needs_return h l k.function old.function))

abbrev pub primary_entries : (ClassId → List EntryKey) → Primary → List EntryKey
primary_entries entries NoPrimary = []
primary_entries entries (Direct b) = entries b
primary_entries entries (Virtual v) = entries v

-- those of these that share none of the old entries
abbrev pub new_entries : Classes → Places → List EntryKey → List EntryKey → List EntryKey
new_entries h l old keys = filter (λ k. not (list_any (shares h l k) old)) keys

abbrev pub with_new_entries : Classes → Places → ClassId → List EntryKey → List EntryKey
with_new_entries h l c old = old ++ new_entries h l old (own_keys h c)

-- primary bases have smaller numbers than their class, so that as many steps are enough
abbrev pub entries_in : Classes → Places → ℕ → ClassId → List EntryKey
entries_in h l zero c = []
entries_in h l (suc steps) c = with_new_entries h l c (primary_entries (entries_in h l steps) (l.primary c))

-- the entries of a class: those of its primary base, then those of its own virtual functions that share none of these
abbrev pub entries : Classes → Places → ClassId → List EntryKey
entries h l c = entries_in h l (c.0 + 1) c

abbrev pub or_itself : EntryKey → Option EntryKey → EntryKey
or_itself k None = k
or_itself k (Some old) = old

-- the entry that a function has in the tables of its class: one that it shares, or its own
abbrev pub listing : Classes → Places → EntryKey → EntryKey
listing h l k = or_itself k (find (shares h l k) (primary_entries (entries h l) (l.primary k.function.class)))

-- offsets

abbrev pub is_offset_of_name : Classes → FunctionId → Offset → Bool
is_offset_of_name h f (ToBase v) = false
is_offset_of_name h f (ToOverrider path g) = same_name h f g

-- an offset that gives no word where the other one stands: it leads to the same base, or to the final overrider of a
-- function of the same name
abbrev pub is_base : ClassId → Offset → Bool
is_base v (ToBase u) = nat_eq v.0 u.0
is_base v (ToOverrider path g) = false

abbrev pub same_offset : Classes → Offset → Offset → Bool
same_offset h (ToBase v) old = is_base v old
same_offset h (ToOverrider path f) old = is_offset_of_name h f old

abbrev pub push_new : Classes → List Offset → Offset → List Offset
push_new h old x = if list_any (same_offset h x) old then old else old ++ x ∷ []

-- each of the second list behind the first, where it is not listed yet
abbrev pub push_all : Classes → List Offset → List Offset → List Offset
push_all h old [] = old
push_all h old (x ∷ xs) = push_all h (push_new h old x) xs

abbrev pub call : List ClassId → FunctionId → Offset
call path f = ToOverrider path f

-- the base of its class, where this is not virtual and the primary one, or where it is no such base
abbrev pub is_nonvirtual_primary : Primary → Base ClassId → Bool
is_nonvirtual_primary p base = not base.is_virtual && is_direct_primary p base.class

abbrev pub is_secondary_base : Primary → Base ClassId → Bool
is_secondary_base p base = not base.is_virtual && not (is_direct_primary p base.class)

abbrev pub below_bases : (List ClassId → ClassId → List Offset) → List ClassId → List (Base ClassId) → List Offset
below_bases calls path bases = flat_map (λ (base : Base ClassId). calls (path ++ base.class ∷ []) base.class) bases

-- the vcall list of the class c at the end of a path: the list of its non-virtual primary base, its own virtual functions,
-- and the lists of its other non-virtual bases
abbrev pub calls_in : Classes → Places → ℕ → List ClassId → ClassId → List Offset
calls_in h l zero path c = []
calls_in h l (suc steps) path c =
    below_bases (calls_in h l steps) path (filter (is_nonvirtual_primary (l.primary c)) (bases_of h c))
    ++ map (call path) (own h c)
    ++ below_bases (calls_in h l steps) path (filter (is_secondary_base (l.primary c)) (bases_of h c))

abbrev pub calls : Classes → Places → ClassId → List Offset
calls h l v = calls_in h l (v.0 + 1) (v ∷ []) v

abbrev pub with_calls : Classes → Places → ClassId → Bool → List Offset → List Offset
with_calls h l c false old = old
with_calls h l c true old = push_all h old (calls h l c)

abbrev pub primary_offsets : (Bool → ClassId → List Offset) → Primary → List Offset
primary_offsets offsets NoPrimary = []
primary_offsets offsets (Direct b) = offsets false b
primary_offsets offsets (Virtual v) = offsets true v

abbrev pub offsets_in : Classes → Places → ℕ → Bool → ClassId → List Offset
offsets_in h l zero is_shared c = []
offsets_in h l (suc steps) is_shared c = with_calls h l c is_shared (push_all h (primary_offsets (offsets_in h l steps) (l.primary c)) (map ToBase (virtual_bases h c)))

-- the offsets of a class, from the address point downwards: those of its primary base, then one to each virtual base
-- that is not listed yet, then its vcall list, where the class is a virtual base of the complete object
abbrev pub offsets : Classes → Places → Bool → ClassId → List Offset
offsets h l is_shared c = offsets_in h l (c.0 + 1) is_shared c

-- numbers

abbrev pub first_position : {A : Type 0} → (A → Bool) → List A → ℕ
first_position p [] = 0
first_position p (x ∷ xs) = if p x then 0 else suc (first_position p xs)

-- the number of a function's entry, from the address point upwards
abbrev pub entry_number : Classes → Places → EntryKey → ℕ
entry_number h l k = first_position (same_entry_key (listing h l k)) (entries h l k.function.class)

-- the number of the offset to a virtual base, from 0 downwards: its word is the third before the address point and so on
abbrev pub vbase_number : Classes → Places → ClassId → ClassId → ℕ
vbase_number h l c v = first_position (is_base v) (offsets h l false c)

-- the number of the offset to the final overrider of a function, in the tables of a virtual base
abbrev pub vcall_number : Classes → Places → ClassId → FunctionId → ℕ
vcall_number h l v f = first_position (is_offset_of_name h f) (offsets h l true v)
