-- The path of a place leads from the address of a part to that of an element of a member.
use Rattle.std.proofs.Common.{◌≡◌, ℕ, ◌+◌, ◌<◌, ◌^◌, Bool, false, Option, Some, List, [], ◌∷◌, ◌++◌, length, inl, inr, refl, ap, sym, ◌∙◌, subst, arith}
use Rattle.foundation.proofs.Members.{Has, has_left, has_right}
use Rattle.cxx_hierarchy.specs.declared.records.ClassId.{ClassId}
use Rattle.cxx_hierarchy.specs.declared.records.FieldType.TheVariants.{Object}
use Rattle.cxx_subobject.specs.declared.Subobject.{Subobject}
use Rattle.cxx_subobject.specs.Subobjects.{IsSubobject, class_of}
use Rattle.cxx_subobject.specs.Locations.{ObjectPart}
use Rattle.cxx_program.specs.declared.statement.PassedMember.{PassedMember}
use Rattle.cxx_program.specs.Typed.{IsPassed, IsPath}
use Rattle.path_rules.specs.declared.Undefined.{Undefined}
use Rattle.path_rules.specs.declared.Undefined.TheVariants.{NotReady, OutsideView}
use Rattle.path_model.specs.Values.{Pointer, Objects, inner_part}
use Rattle.path_model.specs.Places.{passed_part, end_part}
use Rattle.path_model.specs.Uses.{StatementUse, Passes, Views, uses_of_view, path_uses, is_shared}
use Rattle.path_model.specs.Rules.{breaks, is_unready}
use Rattle.path_model.specs.Typed.{AllSettled}
use Rattle.path_model.specs.TypedStates.{IsPartMade}
use Rattle.path_model.proofs.TypedPlaces.{passed_made}
use Rattle.abi_sound.specs.Locations.{element_place}
use Rattle.abi_sound.proofs.PlaceLemmas.{element_place_is}
use Rattle.byte_machine.specs.Frames.{register_of}
use Rattle.byte_code.specs.declared.op.Op.{Op}
use Rattle.byte_code.specs.declared.op.Op.TheVariants.{Does}
use Rattle.byte_code.specs.declared.op.Finish.TheVariants.{Add}
use Rattle.byte_machine.specs.Running.{Running, Stop, moved}
use Rattle.byte_machine.specs.Leads.{OpsLead}
use Rattle.byte_machine.proofs.ValueLeads.{leads_add}
use Rattle.code_ops.specs.Operands.{base_ops, ops_of}
use Rattle.code_ops.specs.PlaceOps.{element_distance, element_ops, path_ops}
use Rattle.agree_parts.specs.Heaps.{Heap}
use Rattle.agree_parts.specs.Addresses.{address}
use Rattle.agree_parts.proofs.Inside.{part_positive}
use Rattle.agree_parts.proofs.Made.{inner_is_made}
use Rattle.agree_parts.proofs.Sums.{to_element}
use Rattle.agree_relation.specs.Worlds.{World, IsProgramWorld, world_classes, places_in, fixed}
use Rattle.agree_relation.specs.Words.{heap_of}
use Rattle.agree_relation.specs.Columns.{ColumnsStand}
use Rattle.agree_relation.specs.Goings.{Going, ArePlanned}
use Rattle.agree_relation.proofs.Objects.{objects_laid}
use Rattle.agree_relation.proofs.Moved.{moved_below}
use Rattle.agree_statements.specs.Registers.{at_registers, Wrote}
use Rattle.agree_statements.specs.Statements.{AreSeen}
use Rattle.agree_statements.proofs.Registers.{set_here, wrote_set, wrote_again}
use Rattle.agree_statements.proofs.Useds.{shared_dynamic}
use Rattle.agree_statements.proofs.Seen.{in_sight}
use Rattle.agree_statements.proofs.Bases.{under, seen_from, leads_base, leads_plain}
use Rattle.agree_statements.proofs.Rights.{ops_append}

-- what a path needs of the tests of its place: no view and no member on it is refused
abbrev pub IsClearPath : World → Objects → List StatementUse → Type 0
IsClearPath w s us = (u : StatementUse) → Has us u → (r : Undefined) → breaks (world_classes w) s r u ≡ false

module _ (w : World) (s : Objects) (b : Running) (goings : List Going) (world : IsProgramWorld w) (columns : ColumnsStand w s b.memory b.objects b.heap b.notes) (planned : ArePlanned w s.classes s.phases goings) (settled : AllSettled (world_classes w) s) (seen : AreSeen (world_classes w) s) (P : Running → Stop → Type 0) where
  abbrev g : Heap
  g = heap_of s.classes b.memory.regions

  -- a base of a part that is open and ready, and in view where the way is shared
  to_base_part : {ops : List Op} (p : ObjectPart) (c d : ClassId) (i : Subobject) (r : ℕ) (old : List (Option ℕ)) → IsPartMade (world_classes w) s.classes p c → s.is_closed p.object ≡ false → is_unready s p ≡ false → IsSubobject (world_classes w) c i → class_of i ≡ Some d
      → ((u : StatementUse) → Has (uses_of_view (is_shared i) (Pointer p)) u → (rule : Undefined) → breaks (world_classes w) s rule u ≡ false) → register_of old r ≡ Some (address (world_classes w) (places_in w) g p) → r < length old
      → ((new : List (Option ℕ)) → Wrote r old new → register_of new r ≡ Some (address (world_classes w) (places_in w) g (inner_part p i)) → OpsLead (fixed w) ops (at_registers b new) P)
      → OpsLead (fixed w) (ops_of (base_ops w.setup c i r r) ++ ops) (at_registers b old) P
  to_base_part p c d i r old made open_there fine valid of_class clear has inside rest =
      leads_base w s b world columns P p c d i r r old made valid of_class
      (λ through. seen_from w s b p c (under w s b world columns p c (in_sight w s goings p c planned settled seen made fine) made open_there
      (clear (Views (Pointer p)) (subst (λ (x : Bool). Has (uses_of_view x (Pointer p)) (Views (Pointer p))) (sym through) (inl refl)) OutsideView) (shared_dynamic (world_classes w) c i valid through)))
      has inside rest

  -- so many bytes behind a part, below the limit of addresses
  pub leads_behind : {ops : List Op} (p : ObjectPart) (c : ClassId) (by target r : ℕ) (old : List (Option ℕ)) → IsPartMade (world_classes w) s.classes p c → target ≡ address (world_classes w) (places_in w) g p + by → target < 2 ^ 41 → register_of old r ≡ Some (address (world_classes w) (places_in w) g p) → r < length old
      → ((new : List (Option ℕ)) → Wrote r old new → register_of new r ≡ Some target → OpsLead (fixed w) ops (at_registers b new) P)
      → OpsLead (fixed w) (Does (Add r r by) ∷ ops) (at_registers b old) P
  leads_behind p c by target r old made sum low has inside rest =
      let laid = objects_laid w s b.memory.regions b.objects b.heap world columns.objects in
      let some = part_positive (world_classes w) w.setup.rows g p c laid made in
      let word : Option ℕ = Some (moved (address (world_classes w) (places_in w) g p) by) in
      leads_add (fixed w) r r by (address (world_classes w) (places_in w) g p) has (λ e. omega arith) inside
      (rest _ (wrote_set b old r word) (set_here b old r word inside ∙ ap (λ (n : ℕ). Some n) (moved_below (address (world_classes w) (places_in w) g p) by target sum low)))

  -- a class member that a path passes
  to_passed : {ops : List Op} (p : ObjectPart) (c : ClassId) (x : PassedMember) (r : ℕ) (old : List (Option ℕ)) → IsPartMade (world_classes w) s.classes p c → s.is_closed p.object ≡ false → is_unready s p ≡ false → IsPassed (world_classes w) c x
      → ((u : StatementUse) → Has (uses_of_view (is_shared x.base) (Pointer p)) u → (rule : Undefined) → breaks (world_classes w) s rule u ≡ false) → register_of old r ≡ Some (address (world_classes w) (places_in w) g p) → r < length old
      → ((new : List (Option ℕ)) → Wrote r old new → register_of new r ≡ Some (address (world_classes w) (places_in w) g (passed_part p x)) → OpsLead (fixed w) ops (at_registers b new) P)
      → OpsLead (fixed w) (ops_of (element_ops w.setup c x.base x.member x.index r) ++ ops) (at_registers b old) P
  to_passed {ops} p c x r old made open_there fine step clear has inside rest =
      let h = world_classes w in
      let l = places_in w in
      let q = inner_part p x.base in
      let there = inner_is_made h g p c step.class x.base made step.valid step.of_class in
      let distance = element_place_is h l (class_of x.base) step.class x.member x.index (Object x.class) step.of_class step.element in
      let sum : address h l g (passed_part p x) ≡ address h l g q + element_place h l (class_of x.base) x.member x.index = to_element h w.setup.rows g q step.class x.class x.member x.index there step.element ∙ sym (ap (λ (n : ℕ). address h l g q + n) distance) in
      subst (λ (list : List Op). OpsLead (fixed w) list (at_registers b old) P) (sym (ops_append (base_ops w.setup c x.base r r) (Add r r (element_distance w.setup x.base x.member x.index) ∷ []) ops))
      (to_base_part p c step.class x.base r old made open_there fine step.valid step.of_class clear has inside
      (λ mid wrote is. leads_plain w s b world columns P q (passed_part p x) step.class x.class (element_distance w.setup x.base x.member x.index) r r mid there (passed_made h s.classes p c x made step) is (subst (λ (n : ℕ). r < n) (sym wrote.size) inside) sum
      (λ new wrote' is'. rest new (wrote_again r old mid new wrote wrote') is')))

  -- the whole path, to so many bytes behind its last subobject
  pub leads_path : {ops : List Op} (xs : List PassedMember) (last : Subobject) (m i target : ℕ) (p : ObjectPart) (c e : ClassId) (r : ℕ) (old : List (Option ℕ)) → IsPartMade (world_classes w) s.classes p c → s.is_closed p.object ≡ false → is_unready s p ≡ false → IsPath (world_classes w) c xs last → class_of last ≡ Some e
      → IsClearPath w s (path_uses p xs last) → target ≡ address (world_classes w) (places_in w) g (inner_part (end_part p xs) last) + element_place (world_classes w) (places_in w) (class_of last) m i → target < 2 ^ 41
      → register_of old r ≡ Some (address (world_classes w) (places_in w) g p) → r < length old
      → ((new : List (Option ℕ)) → Wrote r old new → register_of new r ≡ Some target → OpsLead (fixed w) ops (at_registers b new) P)
      → OpsLead (fixed w) (ops_of (path_ops w.setup c xs last m i r) ++ ops) (at_registers b old) P
  leads_path {ops} [] last m i target p c e r old made open_there fine path of_class clear sum low has inside rest =
      subst (λ (list : List Op). OpsLead (fixed w) list (at_registers b old) P) (sym (ops_append (base_ops w.setup c last r r) (Add r r (element_distance w.setup last m i) ∷ []) ops))
      (to_base_part p c e last r old made open_there fine path of_class clear has inside
      (λ mid wrote is. leads_behind (inner_part p last) e (element_distance w.setup last m i) target r mid (inner_is_made (world_classes w) g p c e last made path of_class) sum low is (subst (λ (n : ℕ). r < n) (sym wrote.size) inside)
      (λ new wrote' is'. rest new (wrote_again r old mid new wrote wrote') is')))
  leads_path {ops} (x ∷ xs) last m i target p c e r old made open_there fine path of_class clear sum low has inside rest =
      let h = world_classes w in
      let q = passed_part p x in
      let ready = clear (Passes q) (has_right (uses_of_view (is_shared x.base) (Pointer p)) (Passes q ∷ path_uses q xs last) (Passes q) (inl refl)) NotReady in
      subst (λ (list : List Op). OpsLead (fixed w) list (at_registers b old) P) (sym (ops_append (element_ops w.setup c x.base x.member x.index r) (path_ops w.setup x.class xs last m i r) ops))
      (to_passed p c x r old made open_there fine path.0 (λ u there. clear u (has_left (uses_of_view (is_shared x.base) (Pointer p)) (Passes q ∷ path_uses q xs last) u there)) has inside
      (λ mid wrote is. leads_path xs last m i target q x.class e r mid (passed_made h s.classes p c x made path.0) open_there ready path.1 of_class
      (λ u there. clear u (has_right (uses_of_view (is_shared x.base) (Pointer p)) (Passes q ∷ path_uses q xs last) u (inr there))) sum low is (subst (λ (n : ℕ). r < n) (sym wrote.size) inside)
      (λ new wrote' is'. rest new (wrote_again r old mid new wrote wrote') is')))
