-- The tests of a place: its pointer, the view of that, and the class members before the first step behind a virtual base.
use Rattle.std.proofs.Common.{◌≡◌, ℕ, ◌+◌, Bool, true, false, Some, List, [], ◌∷◌, ◌++◌, inl, inr, refl, sym, arith}
use Rattle.std.specs.Prelude.{if◌then◌else◌}
use Rattle.foundation.proofs.Members.{Has}
use Rattle.foundation.proofs.Truth.{split}
use Rattle.cxx_hierarchy.specs.declared.records.ClassId.{ClassId}
use Rattle.cxx_hierarchy.specs.declared.records.FieldType.TheVariants.{Object}
use Rattle.cxx_hierarchy.specs.declared.records.ValueType.TheVariants.{Pointer as PointerType}
use Rattle.cxx_subobject.specs.declared.Root.TheVariants.{Whole}
use Rattle.cxx_subobject.specs.declared.Subobject.{Subobject}
use Rattle.cxx_subobject.specs.Subobjects.{IsSubobject, whole, shared, class_of}
use Rattle.cxx_subobject.specs.Locations.{ObjectPart}
use Rattle.cxx_hierarchy.specs.Classes.{Classes}
use Rattle.cxx_program.specs.declared.statement.PassedMember.{PassedMember}
use Rattle.cxx_program.specs.declared.statement.TypedPlace.{TypedPlace}
use Rattle.cxx_program.specs.Typed.{Scope, HasType, IsPassed, IsPath}
use Rattle.path_rules.specs.declared.Undefined.{Undefined}
use Rattle.path_rules.specs.declared.Undefined.TheVariants.{NotReady}
use Rattle.path_model.specs.Values.{Value, Unset, Number, Null, Pointer, Sight, value_of_operand, inner_part}
use Rattle.path_model.specs.Places.{passed_part}
use Rattle.path_model.specs.Uses.{StatementUse, Reads, Guards, Passes, uses_of_view, arrow, of_part, is_shared}
use Rattle.path_model.specs.Order.{asked_members, asked_place, first_name_base}
use Rattle.path_model.specs.TypedStates.{IsPartMade, IsValue}
use Rattle.path_model.proofs.TypedPlaces.{passed_made}
use Rattle.path_model.proofs.TypedValues.{IsTypedSight, operand_typed}
use Rattle.abi_sound.proofs.PlaceLemmas.{element_place_is}
use Rattle.byte_code.specs.declared.op.Check.TheVariants.{Ready}
use Rattle.byte_machine.specs.Running.{Running, Stop, register}
use Rattle.byte_machine.proofs.Leads.{IsIdle}
use Rattle.byte_machine.proofs.CheckLeads.{leads_idle}
use Rattle.code_ops.specs.Operands.{operand_register}
use Rattle.code_ops.specs.PlaceOps.{element_distance, passed_used, place_used}
use Rattle.code_ops.specs.Uses.{checks_of, views_if, arrow_used}
use Rattle.code_ops.specs.declared.uses.Used.{Used}
use Rattle.code_ops.specs.declared.uses.Used.TheVariants.{Guards as GuardsWord}
use Rattle.agree_parts.specs.Addresses.{address}
use Rattle.agree_parts.proofs.Made.{inner_is_made}
use Rattle.agree_parts.proofs.Sums.{to_inner, to_element}
use Rattle.agree_relation.specs.Worlds.{World, IsProgramWorld, world_classes, places_in, fixed}
use Rattle.agree_relation.specs.Columns.{ColumnsStand}
use Rattle.agree_relation.specs.Words.{register_word}
use Rattle.std.proofs.Math.Nat.{add-zero}
use Rattle.agree_relation.proofs.Moved.{moved_to_part}
use Rattle.agree_statements.specs.Tests.{AllPass, Along, nothing, tested, idle}
use Rattle.agree_statements.proofs.Tests.{along_append}
use Rattle.agree_statements.proofs.Checks.{heap, laid, part_some, idle_unset, idle_null}
use Rattle.agree_statements.proofs.Useds.{TellsViews, shared_dynamic, passed, open_read, along_views, along_arrow}

-- a way through no virtual base
pub plain_root : (h : Classes) (c : ClassId) (i : Subobject) → IsSubobject h c i → is_shared i ≡ false → i.root ≡ Whole
plain_root h c _ (whole path leads) e = refl
plain_root h c _ (shared v path has leads) e = absurd (let f : true ≡ false = e in cc)

-- the first base of a path is one of its class
first_valid : (h : Classes) (c : ClassId) (xs : List PassedMember) (last : Subobject) → IsPath h c xs last → IsSubobject h c (first_name_base xs last)
first_valid h c [] last path = path
first_valid h c (x ∷ xs) last path = path.0.valid

module _ (w : World) (see : Sight) (b : Running) (P : Running → Stop → Type 0) (world : IsProgramWorld w) (columns : ColumnsStand w see.objects b.memory b.objects b.heap b.notes) (all : List StatementUse) where
  abbrev Tests : List StatementUse → List Used → Type 0
  Tests us ds = Along (fixed w) b P (world_classes w) see.objects all us ds

  -- no member is tested behind null or an unset pointer
  idle_members : (r : ℕ) (c : ClassId) (offset : ℕ) (xs : List PassedMember) → IsIdle (register b r) → Tests [] (passed_used w.setup c offset xs r)
  idle_members r c offset [] none = nothing
  idle_members r c offset (x ∷ xs) none = by_way (is_shared x.base) (idle_members r x.class (offset + ((places_in w).place c x.base + element_distance w.setup x.base x.member x.index)) xs none)
    where
      by_way : (y : Bool) → Tests [] (passed_used w.setup x.class (offset + ((places_in w).place c x.base + element_distance w.setup x.base x.member x.index)) xs r)
          → Tests [] (if y then [] else GuardsWord r (offset + ((places_in w).place c x.base + element_distance w.setup x.base x.member x.index)) x.class.0 ∷ passed_used w.setup x.class (offset + ((places_in w).place c x.base + element_distance w.setup x.base x.member x.index)) xs r)
      by_way true rest = nothing
      by_way false rest = idle (GuardsWord r (offset + ((places_in w).place c x.base + element_distance w.setup x.base x.member x.index)) x.class.0) passes_all rest
        where
          passes_all : (rule : Undefined) → AllPass (fixed w) b P (checks_of rule (GuardsWord r (offset + ((places_in w).place c x.base + element_distance w.setup x.base x.member x.index)) x.class.0))
          passes_all NotReady = (record { leads = λ ops goes refuses. leads_idle (fixed w) (Ready r (offset + ((places_in w).place c x.base + element_distance w.setup x.base x.member x.index)) x.class.0) r refl none (goes refl) }, tt)
          passes_all rule = tt

  -- a member that a path passes by no virtual base lies so far behind the part
  member_behind : (p : ObjectPart) (c : ClassId) (x : PassedMember) (at offset : ℕ) → IsPartMade (world_classes w) see.objects.classes p c → IsPassed (world_classes w) c x → x.base.root ≡ Whole → address (world_classes w) (places_in w) (heap w see.objects b P world columns) p ≡ at + offset →
      address (world_classes w) (places_in w) (heap w see.objects b P world columns) (passed_part p x) ≡ at + (offset + ((places_in w).place c x.base + element_distance w.setup x.base x.member x.index))
  member_behind p c x at offset made step root there =
      let h = world_classes w in
      let g = heap w see.objects b P world columns in
      let first = to_inner h w.setup.rows g p c x.base made step.valid root in
      let second = to_element h w.setup.rows g (inner_part p x.base) step.class x.class x.member x.index (inner_is_made h g p c step.class x.base made step.valid step.of_class) step.element in
      let distance = element_place_is h (places_in w) (class_of x.base) step.class x.member x.index (Object x.class) step.of_class step.element in
      omega arith

  -- the members before the first step behind a virtual base
  along_members : (r at : ℕ) (p : ObjectPart) (c : ClassId) (offset : ℕ) (xs : List PassedMember) (last : Subobject) → register b r ≡ Some at → (at ≡ 0 → ⊥) → IsPartMade (world_classes w) see.objects.classes p c → address (world_classes w) (places_in w) (heap w see.objects b P world columns) p ≡ at + offset → IsPath (world_classes w) c xs last
      → Tests (asked_members p xs) (passed_used w.setup c offset xs r)
  along_members r at p c offset [] last has some made there path = nothing
  along_members r at p c offset (x ∷ xs) last has some made there path =
      let h = world_classes w in
      let farther = offset + ((places_in w).place c x.base + element_distance w.setup x.base x.member x.index) in
      let there_made = passed_made h see.objects.classes p c x made path.0 in
      split (is_shared x.base)
      (λ y. Tests (if y then [] else Passes (passed_part p x) ∷ asked_members (passed_part p x) xs) (if y then [] else GuardsWord r farther x.class.0 ∷ passed_used w.setup x.class farther xs r))
      (λ e. nothing)
      (λ e. let sum = member_behind p c x at offset made path.0 (plain_root h c x.base path.0.valid e) there in
      tested (Passes (passed_part p x)) (GuardsWord r farther x.class.0)
      (passed w see b P world columns all r farther at (passed_part p x) x.class there_made has some (moved_to_part h w.setup.rows (heap w see.objects b P world columns) at farther (passed_part p x) x.class (laid w see.objects b P world columns) there_made sum))
      (along_members r at (passed_part p x) x.class farther xs last has some there_made sum path.1))

  members_of_value : (v : Value) (r : ℕ) (c : ClassId) (xs : List PassedMember) (last : Subobject) → IsValue (world_classes w) see.objects.classes v (PointerType c) → register b r ≡ register_word w (heap w see.objects b P world columns) v → IsPath (world_classes w) c xs last → Tests (of_part (λ p. asked_members p xs) v) (passed_used w.setup c 0 xs r)
  members_of_value Unset r c xs last typed has path = idle_members r c 0 xs (idle_unset (register b r) has)
  members_of_value (Number z) r c xs last typed has path = absurd typed
  members_of_value Null r c xs last typed has path = idle_members r c 0 xs (idle_null (register b r) has)
  members_of_value (Pointer p) r c xs last typed has path =
      along_members r (address (world_classes w) (places_in w) (heap w see.objects b P world columns) p) p c 0 xs last has (part_some w see.objects b P world columns p c typed) typed (sym (add-zero (address (world_classes w) (places_in w) (heap w see.objects b P world columns) p))) path

  -- all tests of a place
  pub along_place : (e : Scope) (r : ℕ) (place : TypedPlace) → IsTypedSight (world_classes w) e see → TellsViews w see.objects b → ((u : StatementUse) → Has (asked_place (value_of_operand see place.pointer) place) u → Has all u) → HasType e place.pointer (PointerType place.class) → IsPath (world_classes w) place.class place.passed place.base
      → register b (operand_register r place.pointer) ≡ register_word w (heap w see.objects b P world columns) (value_of_operand see place.pointer) → Tests (asked_place (value_of_operand see place.pointer) place) (place_used w.setup e place r)
  along_place e r place typed tells within has path word =
      let h = world_classes w in
      let v = value_of_operand see place.pointer in
      let from = operand_register r place.pointer in
      let value_typed = operand_typed h e see typed place.pointer (PointerType place.class) has in
      let first = first_name_base place.passed place.base in
      let members = of_part (λ p. asked_members p place.passed) v in
      along_append (fixed w) b P h see.objects all (arrow v) (uses_of_view (is_shared first) v ++ members) (arrow_used e r place.pointer place.class) (views_if (is_shared first) from 0 place.class ++ passed_used w.setup place.class 0 place.passed from)
      (along_arrow w see b P world columns all e r place.pointer place.class typed has word)
      (along_append (fixed w) b P h see.objects all (uses_of_view (is_shared first) v) members (views_if (is_shared first) from 0 place.class) (passed_used w.setup place.class 0 place.passed from)
      (along_views w see b P world columns all (is_shared first) from v place.class tells (open_read w see b P world columns all v (within (Reads v) (inl refl))) (within (Guards v) (inr (inr (inl refl)))) (shared_dynamic h place.class first (first_valid h place.class place.passed place.base path)) value_typed word)
      (members_of_value v from place.class place.passed place.base value_typed word path))
