-- Copies run one after the other, where two registers have the addresses of a subobject of both parts.
use Rattle.std.proofs.Common.{◌≡◌, ℕ, ◌*◌, Bool, ◌<◌, ◌^◌, ◌⊎◌, ⊎_elim, inl, inr, true, Option, Some, List, [], ◌∷◌, ◌++◌, refl, ap, sym, ◌∙◌, subst, arith, append_assoc}
use Rattle.std.specs.Prelude.{zip}
use Rattle.std.proofs.lemmas.List.{append-nil}
use Rattle.std.proofs.lemmas.Bool.Decides.{nat_tests}
use Rattle.foundation.proofs.Members.{has_cases}
use Rattle.foundation.proofs.Truth.{split, not_both}
use Rattle.cxx_hierarchy.specs.declared.records.ClassId.{ClassId}
use Rattle.cxx_hierarchy.specs.declared.records.ValueType.{ValueType}
use Rattle.cxx_subobject.specs.Locations.{ObjectPart}
use Rattle.path_model.specs.Values.{Leaf, Objects}
use Rattle.path_model.specs.Effects.{same_leaf}
use Rattle.path_model.specs.TypedStates.{IsPartMade, IsLeafMade}
use Rattle.path_model.proofs.TypedEvents.{leaf_is}
use Rattle.abi_sound.specs.Locations.{Span, AreDisjoint}
use Rattle.byte_memory.specs.Bits.{with_bits_copied}
use Rattle.byte_machine.specs.Frames.{register_of}
use Rattle.byte_memory.specs.Store.{Store}
use Rattle.byte_code.specs.declared.op.Op.{Op}
use Rattle.byte_machine.specs.Running.{Running, Stop, moved}
use Rattle.byte_machine.specs.Values.{are_equal_or_apart}
use Rattle.byte_machine.specs.Leads.{OpsLead}
use Rattle.agree_parts.specs.Heaps.{Heap}
use Rattle.agree_parts.specs.Addresses.{leaf_address, leaf_bits, AreApart}
use Rattle.agree_parts.specs.Placed.{AreObjectsLaid}
use Rattle.agree_parts.proofs.Apart.{leaves_apart}
use Rattle.agree_parts.proofs.Inside.{leaf_bytes}
use Rattle.code_ops.specs.Leaves.{leaf_width}
use Rattle.code_ops.specs.declared.widths.LeafWidth.{LeafWidth}
use Rattle.code_ops.specs.declared.widths.LeafWidth.TheVariants.{Bytes as InBytes, Bits as InBits}
use Rattle.code_statements.specs.declared.distances.Sides.{Sides}
use Rattle.agree_relation.specs.Worlds.{World, IsProgramWorld, world_classes, places_in, fixed}
use Rattle.agree_relation.specs.Words.{heap_of}
use Rattle.agree_relation.specs.Columns.{ColumnsStand}
use Rattle.agree_relation.proofs.Objects.{objects_laid}
use Rattle.agree_relation.proofs.Moved.{moved_below}
use Rattle.agree_relation.proofs.LeafWidths.{width_span, IsReached, MayCopy, LeafStands, leaf_stands, leads_copy_leaf}
use Rattle.agree_statements.specs.Registers.{at_registers}
use Rattle.agree_copies.proofs.Threes.{AllThree}
use Rattle.agree_copies.proofs.CopiedValues.{copied_by, AreLike, AreCopied}
use Rattle.agree_copies.proofs.CopiedLeaves.{DoesCopy}
use Rattle.agree_copies.proofs.LeafCopies.{leaf_itself, leaf_copied}

-- the memory of a running state, with other bits
abbrev pub memory_with : Running → (ℕ → Option Bool) → Store
memory_with b bit = record { regions = b.memory.regions; bit = bit }

abbrev pub with_bits : Running → (ℕ → Option Bool) → Running
with_bits b bit = record b { memory = memory_with b bit }

-- bytes at one place or apart may be copied
may_copy : (from to n : ℕ) → (from ≡ to) ⊎ AreApart from n to n → are_equal_or_apart from to n ≡ true
may_copy from to n k = ⊎_elim (λ same. grind (arith, nat_tests)) (λ apart. ⊎_elim (λ before. grind (arith, nat_tests)) (λ behind. grind (arith, nat_tests)) apart) k

-- and so may the bits of a leaf
may_copy_leaf : (stand : LeafWidth) (from to : ℕ) → (from ≡ to) ⊎ AreDisjoint (width_span stand from) (width_span stand to) → MayCopy stand from to
may_copy_leaf (InBytes width) from to k = may_copy from to width.bytes (⊎_elim (λ same. inl same) (λ apart. inr (⊎_elim (λ before. inl (omega arith)) (λ behind. inr (omega arith)) apart)) k)
may_copy_leaf (InBits first width) from to k = may_copy (8 * from) (8 * to) width.bits (⊎_elim (λ same. inl (ap (λ (n : ℕ). 8 * n) same)) (λ apart. inr (⊎_elim (λ before. inl (omega arith)) (λ behind. inr (omega arith)) apart)) k)

-- there are as many of them anywhere
width_length : (stand : LeafWidth) (from to : ℕ) → (width_span stand from).length ≡ (width_span stand to).length
width_length (InBytes width) from to = refl
width_length (InBits first width) from to = refl

-- a leaf lies below the limit of addresses
leaf_limit : (w : World) (g : Heap) (a : Leaf) (t : ValueType ClassId) → AreObjectsLaid (world_classes w) w.setup.rows g → IsLeafMade (world_classes w) g.classes a t → leaf_address (world_classes w) (places_in w) g a < 2 ^ 41
leaf_limit w g a t laid made =
    let inside = leaf_bytes (world_classes w) w.setup.rows g a made.class t laid made.part made.element in
    let limit = laid.placed.limit a.part.object inside.class inside.start inside.object in
    let high = inside.high in
    omega arith

module _ (w : World) (s : Objects) (b : Running) (P : Running → Stop → Type 0) (c : ClassId) (to from : ObjectPart) (world : IsProgramWorld w) (made_to : IsPartMade (world_classes w) s.classes to c) (made_from : IsPartMade (world_classes w) s.classes from c) where
  abbrev g : Heap
  g = heap_of s.classes b.memory.regions

  -- what stands behind some copies
  pub record CopiedSo (done : List (Leaf × Leaf)) (bit : ℕ → Option Bool) : Type 0 where
    pub all : AreCopied (world_classes w) c to from done
    pub columns : ColumnsStand w (copied_by s done) (memory_with b bit) b.objects b.heap b.notes

  one_more : (done : List (Leaf × Leaf)) (x y : Leaf) → AreCopied (world_classes w) c to from done → AreLike (world_classes w) c to from x y → AreCopied (world_classes w) c to from (done ++ (x, y) ∷ [])
  one_more done x y all like = record { each = λ pair has. ⊎_elim (λ before. all.each pair before) (λ last. ⊎_elim (λ (e : (x, y) ≡ pair). subst (λ (z : Leaf × Leaf). AreLike (world_classes w) c to from z.0 z.1) e like) (λ none. absurd none) last) (has_cases done ((x, y) ∷ []) pair has) }

  -- one leaf
  leads_leaf : {ops : List Op} (sides : Sides) (target source : ℕ) (registers : List (Option ℕ)) (op : Op) (x y : Leaf) (done : List (Leaf × Leaf)) (bit : ℕ → Option Bool) → register_of registers sides.to ≡ Some target → register_of registers sides.from ≡ Some source → DoesCopy w s g c to from sides target source op x y → CopiedSo done bit
      → ((bit' : ℕ → Option Bool) → CopiedSo (done ++ (x, y) ∷ []) bit' → OpsLead (fixed w) ops (at_registers (with_bits b bit') registers) P)
      → OpsLead (fixed w) (op ∷ ops) (at_registers (with_bits b bit) registers) P
  leads_leaf {ops} sides target source registers op x y done bit has_to has_from d before rest =
      let h = world_classes w in
      let k = d.copy in
      let g = heap_of s.classes b.memory.regions in
      let stand = leaf_width w.setup d.class x.member in
      let first = leaf_address h (places_in w) g x in
      let second = leaf_address h (places_in w) g y in
      let laid = objects_laid w (copied_by s done) b.memory.regions b.objects b.heap world before.columns.objects in
      let stands_first : LeafStands w s.classes b.memory.regions x d.type stand = leaf_stands w (copied_by s done) b.memory.regions b.objects b.heap x d.class d.type world before.columns.objects d.made_to d.element_to k.open_a in
      let stands_second : LeafStands w s.classes b.memory.regions y d.type stand = subst (λ (m : ℕ). LeafStands w s.classes b.memory.regions y d.type (leaf_width w.setup d.class m)) d.member
      (leaf_stands w (copied_by s done) b.memory.regions b.objects b.heap y d.class d.type world before.columns.objects d.made_from d.element_from k.open_b) in
      let to_same : moved target d.offset ≡ first = moved_below target d.offset first d.to_is (leaf_limit w g x d.type laid k.made_a) in
      let from_same : moved source d.offset ≡ second = moved_below source d.offset second d.from_is (leaf_limit w g y d.type laid k.made_b) in
      let reach_to = subst (λ (n : ℕ). IsReached b.memory.regions n stand) (sym to_same) stands_first.reached in
      let reach_from = subst (λ (n : ℕ). IsReached b.memory.regions n stand) (sym from_same) stands_second.reached in
      let apart : (second ≡ first) ⊎ AreDisjoint (width_span stand second) (width_span stand first) = split (same_leaf y x) (λ z. same_leaf y x ≡ z → (second ≡ first) ⊎ AreDisjoint (width_span stand second) (width_span stand first))
      (λ _ e. inl (ap (leaf_address h (places_in w) g) (leaf_is y x e)))
      (λ _ e. inr (subst (λ (z : Span). AreDisjoint z (width_span stand first)) stands_second.bits (subst (λ (z : Span). AreDisjoint (leaf_bits h (places_in w) g y) z) stands_first.bits
      (leaves_apart h w.setup.rows g y x d.type d.type laid k.made_b k.made_a (λ one. not_both (ap (same_leaf y) (sym one) ∙ leaf_itself y) e))))) refl in
      let allowed = subst (λ (n : ℕ). MayCopy stand n (moved target d.offset)) (sym from_same) (subst (λ (n : ℕ). MayCopy stand second n) (sym to_same) (may_copy_leaf stand second first apart)) in
      let after : CopiedSo (done ++ (x, y) ∷ []) (with_bits_copied bit (width_span stand (moved source d.offset)).start (width_span stand (moved target d.offset)).start (width_span stand (moved target d.offset)).length) =
      subst (λ (n : ℕ). CopiedSo (done ++ (x, y) ∷ []) (with_bits_copied bit (width_span stand n).start (width_span stand (moved target d.offset)).start (width_span stand (moved target d.offset)).length)) (sym from_same)
      (subst (λ (n : ℕ). CopiedSo (done ++ (x, y) ∷ []) (with_bits_copied bit (width_span stand second).start (width_span stand n).start (width_span stand n).length)) (sym to_same)
      (record {
        all = one_more done x y before.all k.like;
        columns = leaf_copied w s c to from (memory_with b bit) done x y d.type world made_to made_from before.all k laid (width_span stand second) (width_span stand first) stands_second.bits stands_first.bits (width_length stand second first) b.objects b.heap b.notes before.columns;
      })) in
      subst (λ (o : Op). OpsLead (fixed w) (o ∷ ops) (at_registers (with_bits b bit) registers) P) (sym d.op_is)
      (leads_copy_leaf (fixed w) stand sides.to sides.from d.offset source target has_from has_to reach_from reach_to allowed (rest _ after))

  -- some leaves in turn
  pub leads_leaves : {ops : List Op} (sides : Sides) (target source : ℕ) (registers : List (Option ℕ)) (list : List Op) (xs ys : List Leaf) (done : List (Leaf × Leaf)) (bit : ℕ → Option Bool) → register_of registers sides.to ≡ Some target → register_of registers sides.from ≡ Some source
      → AllThree (DoesCopy w s (heap_of s.classes b.memory.regions) c to from sides target source) list xs ys → CopiedSo done bit
      → ((bit' : ℕ → Option Bool) → CopiedSo (done ++ zip xs ys) bit' → OpsLead (fixed w) ops (at_registers (with_bits b bit') registers) P)
      → OpsLead (fixed w) (list ++ ops) (at_registers (with_bits b bit) registers) P
  leads_leaves sides target source registers [] [] [] done bit has_to has_from all before rest = rest bit (subst (λ (pairs : List (Leaf × Leaf)). CopiedSo pairs bit) (sym (append-nil done)) before)
  leads_leaves sides target source registers (op ∷ list) (x ∷ xs) (y ∷ ys) done bit has_to has_from all before rest =
      leads_leaf sides target source registers op x y done bit has_to has_from all.0 before
      (λ bit' after. leads_leaves sides target source registers list xs ys (done ++ (x, y) ∷ []) bit' has_to has_from all.1 after
      (λ bit'' last. rest bit'' (subst (λ (pairs : List (Leaf × Leaf)). CopiedSo pairs bit'') (append_assoc done ((x, y) ∷ []) (zip xs ys)) last)))
  leads_leaves sides target source registers [] [] (y ∷ ys) done bit has_to has_from all before rest = absurd all
  leads_leaves sides target source registers [] (x ∷ xs) ys done bit has_to has_from all before rest = absurd all
  leads_leaves sides target source registers (op ∷ list) [] ys done bit has_to has_from all before rest = absurd all
  leads_leaves sides target source registers (op ∷ list) (x ∷ xs) [] done bit has_to has_from all before rest = absurd all
