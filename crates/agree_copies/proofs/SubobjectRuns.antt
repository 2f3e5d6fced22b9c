-- The copies of all subobjects of a class run: each one's address is found in both parts, and then its own leaves are copied.
use Rattle.std.proofs.Common.{◌≡◌, ℕ, Bool, ◌<◌, true, false, Option, Some, List, [], ◌∷◌, ◌++◌, length, inl, inr, refl, ap, sym, ◌∙◌, subst, append_assoc}
use Rattle.std.specs.Prelude.{zip}
use Rattle.std.specs.List.{flat_map}
use Rattle.std.proofs.lemmas.List.{append-nil}
use Rattle.foundation.proofs.Members.{Has}
use Rattle.cxx_hierarchy.specs.declared.records.ClassId.{ClassId}
use Rattle.cxx_subobject.specs.declared.Subobject.{Subobject}
use Rattle.cxx_subobject.specs.Subobjects.{IsSubobject, class_of}
use Rattle.cxx_subobject.specs.Locations.{ObjectPart}
use Rattle.cxx_subobject.proofs.PathLemmas.{class_there}
use Rattle.cxx_program.specs.declared.program.TypedBody.{TypedBody}
use Rattle.path_model.specs.Values.{Leaf, Objects, inner_part}
use Rattle.path_model.specs.Places.{own_leaves, leaves_within}
use Rattle.path_model.specs.Uses.{is_shared}
use Rattle.path_model.specs.Rules.{is_unready, is_outside}
use Rattle.path_model.specs.Typed.{AllSettled}
use Rattle.path_model.specs.TypedStates.{IsPartMade}
use Rattle.byte_machine.specs.Frames.{register_of}
use Rattle.byte_code.specs.declared.op.Op.{Op}
use Rattle.byte_machine.specs.Running.{Running, Stop}
use Rattle.byte_machine.specs.Leads.{OpsLead}
use Rattle.code_ops.specs.Arguments.{Block, free, block_in}
use Rattle.code_ops.specs.Operands.{base_ops, ops_of}
use Rattle.code_statements.specs.CopyOps.{own_copies, object_copies, copy_sides, subobject_copies}
use Rattle.agree_parts.specs.Heaps.{Heap}
use Rattle.agree_parts.specs.Addresses.{address}
use Rattle.agree_relation.specs.Worlds.{World, IsProgramWorld, world_classes, places_in, fixed}
use Rattle.agree_relation.specs.Words.{heap_of}
use Rattle.agree_relation.specs.Goings.{Going, ArePlanned}
use Rattle.agree_statements.specs.Registers.{at_registers}
use Rattle.agree_statements.specs.Statements.{AreSeen}
use Rattle.agree_statements.proofs.Useds.{shared_dynamic}
use Rattle.agree_statements.proofs.Seen.{in_sight}
use Rattle.agree_statements.proofs.Bases.{IsUnder, under, leads_base, seen_from}
use Rattle.agree_copies.proofs.CopiedValues.{copied_by}
use Rattle.agree_copies.proofs.CopiedLeaves.{subobject_three}
use Rattle.agree_copies.proofs.LeafRuns.{with_bits, CopiedSo, leads_leaves}

-- a part of class c that a copy may use: it was made, is open and ready, and where its class has a virtual base it is in view
pub record IsUsable (w : World) (s : Objects) (c : ClassId) (p : ObjectPart) : Type 0 where
  pub made : IsPartMade (world_classes w) s.classes p c
  pub is_open : s.is_closed p.object ≡ false
  pub ready : is_unready s p ≡ false
  pub in_view : (i : Subobject) → IsSubobject (world_classes w) c i → is_shared i ≡ true → is_outside (world_classes w) s p ≡ false

-- two registers were written at most
pub record WroteTwo (r q : ℕ) (old new : List (Option ℕ)) : Type 0 where
  pub size : length new ≡ length old
  pub other : (x : ℕ) → (x ≡ r → ⊥) → (x ≡ q → ⊥) → register_of new x ≡ register_of old x

-- the registers that a copy reads and writes: those of the two pointers, and two free ones
pub record AreApart (to from first second : ℕ) (old : List (Option ℕ)) : Type 0 where
  pub to_first : to ≡ first → ⊥
  pub to_second : to ≡ second → ⊥
  pub from_first : from ≡ first → ⊥
  pub from_second : from ≡ second → ⊥
  pub two : first ≡ second → ⊥
  pub first_there : first < length old
  pub second_there : second < length old

module _ (w : World) (s : Objects) (goings : List Going) (b : Running) (P : Running → Stop → Type 0) (c : ClassId) (to from : ObjectPart) (world : IsProgramWorld w) (planned : ArePlanned w s.classes s.phases goings) (settled : AllSettled (world_classes w) s) (seen : AreSeen (world_classes w) s)
    (usable_to : IsUsable w s c to) (usable_from : IsUsable w s c from) (body : TypedBody) (to_register from_register : ℕ) (start : List (Option ℕ))
    (apart : AreApart to_register from_register (free (block_in w.setup body) 2) (free (block_in w.setup body) 3) start)
    (has_to : register_of start to_register ≡ Some (address (world_classes w) (places_in w) (heap_of s.classes b.memory.regions) to)) (has_from : register_of start from_register ≡ Some (address (world_classes w) (places_in w) (heap_of s.classes b.memory.regions) from)) where
  abbrev g : Heap
  g = heap_of s.classes b.memory.regions

  abbrev blk : Block
  blk = block_in w.setup body

  abbrev first : ℕ
  first = free blk 2

  abbrev second : ℕ
  second = free blk 3

  abbrev Copies : List (Leaf × Leaf) → (ℕ → Option Bool) → Type 0
  Copies = CopiedSo w s b P c to from world usable_to.made usable_from.made

  -- what other leaves hold does not matter to the way to a base
  still_under : (p : ObjectPart) (i : Subobject) (done : List (Leaf × Leaf)) (bit : ℕ → Option Bool) → IsUsable w s c p → IsSubobject (world_classes w) c i → is_shared i ≡ true → Copies done bit → IsUnder w (copied_by s done) (with_bits b bit) p c
  still_under p i done bit k valid through before =
      under w (copied_by s done) (with_bits b bit) world before.columns p c
      (in_sight w (copied_by s done) goings p c planned settled (record { view = seen.view; around = seen.around }) k.made k.ready) k.made k.is_open (k.in_view i valid through) (shared_dynamic (world_classes w) c i valid through)

  -- the leaves of a subobject's own members in both parts
  abbrev pub own_pairs : Subobject → List (Leaf × Leaf)
  own_pairs i = zip (own_leaves (world_classes w) (leaves_within (world_classes w) c.0) (class_of i) (inner_part to i)) (own_leaves (world_classes w) (leaves_within (world_classes w) c.0) (class_of i) (inner_part from i))

  leads_subobject : {ops : List Op} (i : Subobject) (old : List (Option ℕ)) (done : List (Leaf × Leaf)) (bit : ℕ → Option Bool) → IsSubobject (world_classes w) c i → WroteTwo first second start old → Copies done bit
      → ((new : List (Option ℕ)) (bit' : ℕ → Option Bool) → WroteTwo first second start new → Copies (done ++ own_pairs i) bit' → OpsLead (fixed w) ops (at_registers (with_bits b bit') new) P)
      → OpsLead (fixed w) (subobject_copies blk to_register from_register c i ++ ops) (at_registers (with_bits b bit) old) P
  leads_subobject {ops} i old done bit valid wrote before rest =
      let h = world_classes w in
      let k = class_there h c i valid in
      let own = own_copies w.setup (object_copies w.setup (copy_sides blk) c.0) (copy_sides blk) (class_of i) 0 in
      let to_there = wrote.other to_register apart.to_first apart.to_second ∙ has_to in
      let from_there = wrote.other from_register apart.from_first apart.from_second ∙ has_from in
      let inside_first : first < length old = subst (λ (n : ℕ). first < n) (sym wrote.size) apart.first_there in
      let inside_second : second < length old = subst (λ (n : ℕ). second < n) (sym wrote.size) apart.second_there in
      subst (λ (list : List Op). OpsLead (fixed w) list (at_registers (with_bits b bit) old) P)
      (sym (append_assoc (ops_of (base_ops w.setup c i first to_register)) (ops_of (base_ops w.setup c i second from_register) ++ own) ops ∙ ap (λ (list : List Op). ops_of (base_ops w.setup c i first to_register) ++ list) (append_assoc (ops_of (base_ops w.setup c i second from_register)) own ops)))
      (leads_base w (copied_by s done) (with_bits b bit) world before.columns P to c k.0 i first to_register old usable_to.made valid k.1 (λ through. seen_from w (copied_by s done) (with_bits b bit) to c (still_under to i done bit usable_to valid through before)) to_there inside_first
      (λ mid wrote_first is_first.
      let from_mid = wrote_first.other from_register apart.from_first ∙ from_there in
      leads_base w (copied_by s done) (with_bits b bit) world before.columns P from c k.0 i second from_register mid usable_from.made valid k.1 (λ through. seen_from w (copied_by s done) (with_bits b bit) from c (still_under from i done bit usable_from valid through before)) from_mid (subst (λ (n : ℕ). second < n) (sym wrote_first.size) inside_second)
      (λ new wrote_second is_second.
      let first_new = wrote_second.other first apart.two ∙ is_first in
      leads_leaves w s b P c to from world usable_to.made usable_from.made (copy_sides blk) (address h (places_in w) g (inner_part to i)) (address h (places_in w) g (inner_part from i)) new own
      (own_leaves h (leaves_within h c.0) (class_of i) (inner_part to i)) (own_leaves h (leaves_within h c.0) (class_of i) (inner_part from i)) done bit first_new is_second
      (subobject_three w s b.memory.regions c to from usable_to.is_open usable_from.is_open (copy_sides blk) c.0 i usable_to.made usable_from.made valid) before
      (λ bit' after. rest new bit' (record {
        size = wrote_second.size ∙ (wrote_first.size ∙ wrote.size);
        other = λ x not_first not_second. wrote_second.other x not_second ∙ (wrote_first.other x not_first ∙ wrote.other x not_first not_second);
      }) after))))

  -- some subobjects in turn
  pub leads_subobjects : {ops : List Op} (list : List Subobject) (old : List (Option ℕ)) (done : List (Leaf × Leaf)) (bit : ℕ → Option Bool) → ((i : Subobject) → Has list i → IsSubobject (world_classes w) c i) → WroteTwo (free (block_in w.setup body) 2) (free (block_in w.setup body) 3) start old → CopiedSo w s b P c to from world usable_to.made usable_from.made done bit
      → ((new : List (Option ℕ)) (bit' : ℕ → Option Bool) → WroteTwo (free (block_in w.setup body) 2) (free (block_in w.setup body) 3) start new → CopiedSo w s b P c to from world usable_to.made usable_from.made (done ++ flat_map own_pairs list) bit' → OpsLead (fixed w) ops (at_registers (with_bits b bit') new) P)
      → OpsLead (fixed w) (flat_map (subobject_copies (block_in w.setup body) to_register from_register c) list ++ ops) (at_registers (with_bits b bit) old) P
  leads_subobjects [] old done bit valid wrote before rest = rest old bit wrote (subst (λ (pairs : List (Leaf × Leaf)). Copies pairs bit) (sym (append-nil done)) before)
  leads_subobjects {ops} (i ∷ list) old done bit valid wrote before rest =
      subst (λ (o : List Op). OpsLead (fixed w) o (at_registers (with_bits b bit) old) P) (sym (append_assoc (subobject_copies blk to_register from_register c i) (flat_map (subobject_copies blk to_register from_register c) list) ops))
      (leads_subobject i old done bit (valid i (inl refl)) wrote before
      (λ mid bit' wrote' after. leads_subobjects list mid (done ++ own_pairs i) bit' (λ j has. valid j (inr has)) wrote' after
      (λ new bit'' wrote'' last. rest new bit'' wrote'' (subst (λ (pairs : List (Leaf × Leaf)). Copies pairs bit'') (append_assoc done (own_pairs i) (flat_map own_pairs list)) last))))
