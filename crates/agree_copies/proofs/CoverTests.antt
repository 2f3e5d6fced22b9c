-- The tests of the class members that a copy covers, by their distances from the pointer.
use Rattle.std.proofs.Common.{◌≡◌, ℕ, zero, suc, ◌+◌, Option, Some, None, List, [], ◌∷◌, length, inl, inr, refl, sym, arith}
use Rattle.std.specs.Prelude.{slice_get}
use Rattle.std.specs.List.{flat_map}
use Rattle.std.proofs.Math.Nat.{add-zero}
use Rattle.foundation.proofs.Members.{Has}
use Rattle.cxx_hierarchy.specs.declared.records.ClassId.{ClassId}
use Rattle.cxx_hierarchy.specs.declared.records.Member.{Member}
use Rattle.cxx_hierarchy.specs.declared.records.FieldType.{FieldType}
use Rattle.cxx_hierarchy.specs.declared.records.FieldType.TheVariants.{Value as ValueField, Object}
use Rattle.cxx_hierarchy.specs.declared.records.ValueType.TheVariants.{Pointer as PointerType}
use Rattle.cxx_hierarchy.specs.Declarations.{elements_of}
use Rattle.cxx_hierarchy.specs.Classes.{members_of}
use Rattle.cxx_subobject.specs.Locations.{ObjectPart, IsElement}
use Rattle.path_rules.specs.declared.Undefined.{Undefined}
use Rattle.path_rules.specs.declared.Undefined.TheVariants.{NotReady}
use Rattle.path_plan.specs.Places.{element}
use Rattle.path_plan.specs.Plans.{upto}
use Rattle.path_plan.proofs.Members.{has_count}
use Rattle.path_model.specs.Values.{Value, Unset, Number, Null, Pointer, Sight}
use Rattle.path_model.specs.Uses.{StatementUse, Passes, element_uses, member_uses, of_part}
use Rattle.path_model.specs.Order.{asked_covers}
use Rattle.path_model.specs.TypedStates.{IsPartMade, IsValue}
use Rattle.abi_sound.specs.Locations.{element_place}
use Rattle.abi_sound.proofs.PlaceLemmas.{element_place_is}
use Rattle.byte_code.specs.declared.op.Check.TheVariants.{Ready}
use Rattle.byte_machine.specs.Running.{Running, Stop, register}
use Rattle.code_ops.specs.declared.uses.Used.{Used}
use Rattle.code_ops.specs.declared.uses.Used.TheVariants.{Guards as GuardsWord}
use Rattle.code_ops.specs.Uses.{checks_of}
use Rattle.agree_parts.specs.Addresses.{address}
use Rattle.agree_parts.proofs.Made.{element_is_made}
use Rattle.agree_parts.proofs.Sums.{to_element}
use Rattle.code_statements.specs.CopyTests.{element_used, member_used, covered_used}
use Rattle.byte_machine.proofs.Leads.{IsIdle}
use Rattle.byte_machine.proofs.CheckLeads.{leads_idle}
use Rattle.agree_relation.specs.Worlds.{World, IsProgramWorld, world_classes, places_in, fixed}
use Rattle.agree_relation.specs.Columns.{ColumnsStand}
use Rattle.agree_relation.specs.Words.{register_word}
use Rattle.agree_relation.proofs.Moved.{moved_to_part}
use Rattle.agree_statements.specs.Tests.{AllPass, Along, nothing, tested, idle}
use Rattle.agree_statements.proofs.Tests.{along_append}
use Rattle.agree_statements.proofs.Checks.{heap, laid, part_some, idle_unset, idle_null}
use Rattle.agree_statements.proofs.Useds.{passed}

module _ (w : World) (see : Sight) (b : Running) (P : Running → Stop → Type 0) (world : IsProgramWorld w) (columns : ColumnsStand w see.objects b.memory b.objects b.heap b.notes) (all : List StatementUse) where
  abbrev Tests : List StatementUse → List Used → Type 0
  Tests us ds = Along (fixed w) b P (world_classes w) see.objects all us ds

  along_flat_map : {X : Type 0} (f : X → List StatementUse) (g : X → List Used) (xs : List X) → ((x : X) → Has xs x → Tests (f x) (g x)) → Tests (flat_map f xs) (flat_map g xs)
  along_flat_map f g [] each = nothing
  along_flat_map f g (x ∷ xs) each = along_append (fixed w) b P (world_classes w) see.objects all (f x) (flat_map f xs) (g x) (flat_map g xs) (each x (inl refl)) (along_flat_map f g xs (λ y has. each y (inr has)))

  idle_flat_map : {X : Type 0} (g : X → List Used) (xs : List X) → ((x : X) → Tests [] (g x)) → Tests [] (flat_map g xs)
  idle_flat_map g [] each = nothing
  idle_flat_map g (x ∷ xs) each = along_append (fixed w) b P (world_classes w) see.objects all [] [] (g x) (flat_map g xs) (each x) (idle_flat_map g xs each)

  -- so many bytes behind an address that has a part of class c, an element of its class's member
  abbrev behind : ClassId → ℕ → ℕ → ℕ → ℕ
  behind c offset m i = offset + element_place (world_classes w) (places_in w) (Some c) m i

  -- nothing is tested behind null or an unset pointer
  module _ (r : ℕ) (none : IsIdle (register b r)) where
    passes_all : (offset class : ℕ) (rule : Undefined) → AllPass (fixed w) b P (checks_of rule (GuardsWord r offset class))
    passes_all offset class NotReady = (record { leads = λ ops goes refuses. leads_idle (fixed w) (Ready r offset class) r refl none (goes refl) }, tt)
    passes_all offset class rule = tt

    idle_typed : (inside : ClassId → ℕ → List Used) → ((d : ClassId) (offset : ℕ) → Tests [] (inside d offset)) → (at : ℕ → ℕ) (indices : List ℕ) (ty : FieldType ClassId) → Tests [] (element_used inside r at indices ty)
    idle_typed inside each at indices (ValueField t) = nothing
    idle_typed inside each at indices (Object d) = idle_flat_map (λ i. GuardsWord r (at i) d.0 ∷ inside d (at i)) indices (λ i. idle (GuardsWord r (at i) d.0) (passes_all (at i) d.0) (each d (at i)))

    idle_member : (inside : ClassId → ℕ → List Used) → ((d : ClassId) (offset : ℕ) → Tests [] (inside d offset)) → (at : ℕ → ℕ) (o : Option (Member ClassId)) → Tests [] (member_used inside r at o)
    idle_member inside each at None = nothing
    idle_member inside each at (Some member) = idle_typed inside each at (upto (elements_of member.count)) member.ty

    idle_covered : (n : ℕ) (c : ClassId) (offset : ℕ) → Tests [] (covered_used w.setup r n c offset)
    idle_covered zero c offset = nothing
    idle_covered (suc n) c offset =
        idle_flat_map (λ m. member_used (covered_used w.setup r n) r (behind c offset m) (slice_get (members_of (world_classes w) c) m)) (upto (length (members_of (world_classes w) c)))
        (λ m. idle_member (covered_used w.setup r n) (idle_covered n) (behind c offset m) (slice_get (members_of (world_classes w) c) m))

  -- in a register that has an address, each member is tested at its place
  module _ (r at : ℕ) (has : register b r ≡ Some at) (some : at ≡ 0 → ⊥) where
    -- a part of class c so many bytes behind the address
    record IsBehind (c : ClassId) (p : ObjectPart) (offset : ℕ) : Type 0 where
      made : IsPartMade (world_classes w) see.objects.classes p c
      there : address (world_classes w) (places_in w) (heap w see.objects b P world columns) p ≡ at + offset

    abbrev Inside : (ClassId → ObjectPart → List StatementUse) → (ClassId → ℕ → List Used) → Type 0
    Inside uses useds = (d : ClassId) (p : ObjectPart) (offset : ℕ) → IsBehind d p offset → Tests (uses d p) (useds d offset)

    element_behind : (c d : ClassId) (p : ObjectPart) (offset m i : ℕ) → IsBehind c p offset → IsElement (world_classes w) c m i (Object d) → IsBehind d (element p m i d) (behind c offset m i)
    element_behind c d p offset m i k e =
        let h = world_classes w in
        let g = heap w see.objects b P world columns in
        let first = to_element h w.setup.rows g p c d m i k.made e in
        let distance = element_place_is h (places_in w) (Some c) c m i (Object d) refl e in
        let there = k.there in
        record { made = element_is_made h g p c d m i k.made e; there = omega (arith, first, distance, there) }

    along_element : (uses : ClassId → ObjectPart → List StatementUse) (useds : ClassId → ℕ → List Used) → Inside uses useds → (d : ClassId) (p : ObjectPart) (offset : ℕ) → IsBehind d p offset → Tests (Passes p ∷ uses d p) (GuardsWord r offset d.0 ∷ useds d offset)
    along_element uses useds inside d p offset k =
        tested (Passes p) (GuardsWord r offset d.0)
        (passed w see b P world columns all r offset at p d k.made has some (moved_to_part (world_classes w) w.setup.rows (heap w see.objects b P world columns) at offset p d (laid w see.objects b P world columns) k.made k.there))
        (inside d p offset k)

    along_typed : (uses : ClassId → ObjectPart → List StatementUse) (useds : ClassId → ℕ → List Used) → Inside uses useds → (c : ClassId) (p : ObjectPart) (offset m : ℕ) → IsBehind c p offset → (member : Member ClassId) → slice_get (members_of (world_classes w) c) m ≡ Some member → (ty : FieldType ClassId) → member.ty ≡ ty
        → Tests (element_uses uses p m (upto (elements_of member.count)) ty) (element_used useds r (behind c offset m) (upto (elements_of member.count)) ty)
    along_typed uses useds inside c p offset m k member listed (ValueField t) is = nothing
    along_typed uses useds inside c p offset m k member listed (Object d) is =
        along_flat_map (λ i. Passes (element p m i d) ∷ uses d (element p m i d)) (λ i. GuardsWord r (behind c offset m i) d.0 ∷ useds d (behind c offset m i)) (upto (elements_of member.count))
        (λ i within. along_element uses useds inside d (element p m i d) (behind c offset m i)
        (element_behind c d p offset m i k (record { member = member; there = listed; type_is = is; within = let l = has_count 0 (elements_of member.count) i within in omega (arith, l.1) })))

    along_member : (uses : ClassId → ObjectPart → List StatementUse) (useds : ClassId → ℕ → List Used) → Inside uses useds → (c : ClassId) (p : ObjectPart) (offset m : ℕ) → IsBehind c p offset → (o : Option (Member ClassId)) → slice_get (members_of (world_classes w) c) m ≡ o
        → Tests (member_uses uses p m o) (member_used useds r (behind c offset m) o)
    along_member uses useds inside c p offset m k None listed = nothing
    along_member uses useds inside c p offset m k (Some member) listed = along_typed uses useds inside c p offset m k member listed member.ty refl

    along_covers : (n : ℕ) → Inside (asked_covers (world_classes w) n) (covered_used w.setup r n)
    along_covers zero c p offset k = nothing
    along_covers (suc n) c p offset k =
        let members = members_of (world_classes w) c in
        along_flat_map (λ m. member_uses (asked_covers (world_classes w) n) p m (slice_get members m)) (λ m. member_used (covered_used w.setup r n) r (behind c offset m) (slice_get members m)) (upto (length members))
        (λ m within. along_member (asked_covers (world_classes w) n) (covered_used w.setup r n) (along_covers n) c p offset m k (slice_get members m) refl)

  -- the members that a copy covers on one side
  pub along_covered : (r n : ℕ) (v : Value) (c : ClassId) → IsValue (world_classes w) see.objects.classes v (PointerType c) → register b r ≡ register_word w (heap w see.objects b P world columns) v
      → Along (fixed w) b P (world_classes w) see.objects all (of_part (asked_covers (world_classes w) n c) v) (covered_used w.setup r n c 0)
  along_covered r n Unset c typed has = idle_covered r (idle_unset (register b r) has) n c 0
  along_covered r n (Number z) c typed has = absurd typed
  along_covered r n Null c typed has = idle_covered r (idle_null (register b r) has) n c 0
  along_covered r n (Pointer p) c typed has =
      along_covers r (address (world_classes w) (places_in w) (heap w see.objects b P world columns) p) has (part_some w see.objects b P world columns p c typed) n c p 0
      (record { made = typed; there = sym (add-zero (address (world_classes w) (places_in w) (heap w see.objects b P world columns) p)) })
