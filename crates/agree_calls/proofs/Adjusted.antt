-- What is kept of a conversion to a base moves the address of a part to that of its base.
use Rattle.std.proofs.Common.{◌≡◌, ℕ, zero, suc, ◌+◌, ◌<◌, Some, List, [], ◌∷◌, length, refl, ap, sym, ◌∙◌, arith, pos}
use Rattle.agree_statements.proofs.Bases.{seen_base}
use Rattle.agree_calls.specs.Shown.{IsSeenFrom}
use Rattle.agree_dispatch.proofs.Bounds.{vbase_small}
use Rattle.agree_dispatch.proofs.Numbers.{number_word, offset_word, small_word}
use Rattle.agree_dispatch.specs.Results.{IsMoved}
use Rattle.agree_parts.proofs.Inside.{known_class, part_limit}
use Rattle.agree_parts.proofs.Made.{inner_is_made, shared_made}
use Rattle.agree_parts.proofs.Sums.{to_inner}
use Rattle.agree_parts.specs.Addresses.{address}
use Rattle.agree_parts.specs.Heaps.{Heap}
use Rattle.agree_parts.specs.Placed.{AreObjectsLaid}
use Rattle.abi_slots.specs.Groups.{return_constant as made_constant}
use Rattle.abi_slots.specs.Images.{return_constant, return_vbase}
use Rattle.abi_slots.specs.Listing.{vbase_number}
use Rattle.abi_slots.specs.Slots.{word_number}
use Rattle.abi_sound.proofs.PlaceLemmas.{joined}
use Rattle.agree_relation.proofs.Moved.{moved_to_part}
use Rattle.agree_relation.specs.Frames.{constant_added, vbase_added}
use Rattle.agree_relation.specs.Worlds.{IsProgramWorld, World, world_classes, places_in}
use Rattle.byte_code.specs.Numbers.{word_of}
use Rattle.byte_machine.proofs.CallLeads.{moved_by_some}
use Rattle.byte_machine.specs.Calls.{moved_by_word}
use Rattle.byte_machine.specs.Plans.{word_offset}
use Rattle.byte_machine.specs.Running.{moved}
use Rattle.byte_memory.specs.Store.{Store}
use Rattle.cxx_hierarchy.specs.VirtualBases.{HasVirtualBase}
use Rattle.cxx_hierarchy.specs.declared.records.ClassId.{ClassId}
use Rattle.cxx_program.specs.declared.operand.Conversion.TheVariants.{Base as ToBase}
use Rattle.cxx_subobject.proofs.PathLemmas.{class_there}
use Rattle.cxx_subobject.specs.Locations.{ObjectPart}
use Rattle.cxx_subobject.specs.Subobjects.{IsSubobject, Leads as PathLeads, shared as in_shared, shared_base, subobject, whole as in_whole}
use Rattle.cxx_subobject.specs.declared.Root.TheVariants.{Shared, Whole}
use Rattle.cxx_subobject.specs.declared.Subobject.{Subobject}
use Rattle.path_model.specs.TypedStates.{IsPartMade}
use Rattle.path_model.specs.Values.{inner_part}
use Rattle.path_plan.specs.Places.{shared_part}
use Rattle.std.specs.Prelude.{◌-ℤ◌}
use Rattle.std.proofs.lemmas.Int.{ints}

vbase_of_constant : (n : ℕ) → return_vbase (made_constant n) ≡ pos 0
vbase_of_constant zero = refl
vbase_of_constant (suc n) = refl

constant_of_constant : (n : ℕ) → return_constant (made_constant n) ≡ pos n
constant_of_constant zero = refl
constant_of_constant (suc n) = refl

-- what the constant behind a virtual base adds
difference : (a k : ℕ) → pos (a + k) -ℤ pos a ≡ pos k
difference a k = omega (arith, ints)

module _ (w : World) (world : IsProgramWorld w) (g : Heap) (memory : Store) (is_laid : AreObjectsLaid (world_classes w) w.setup.rows g) where
  abbrev pub vbase_kept : ClassId → Subobject → ℕ
  vbase_kept c i = vbase_added w (Some c) (ToBase i)

  abbrev pub constant_kept : ClassId → Subobject → ℕ
  constant_kept c i = constant_added w (Some c) (ToBase i)

  pub plain_vbase : (c : ClassId) (path : List ClassId) → vbase_kept c (subobject Whole path) ≡ 0
  plain_vbase c path = ap word_of (vbase_of_constant ((places_in w).place c (subobject Whole path)))

  -- in no virtual base
  pub plain_moved : (p : ObjectPart) (c : ClassId) (path : List ClassId) → IsPartMade (world_classes w) g.classes p c → IsSubobject (world_classes w) c (subobject Whole path) →
      IsMoved w.image memory (address (world_classes w) (places_in w) g p) (vbase_kept c (subobject Whole path)) (constant_kept c (subobject Whole path)) (address (world_classes w) (places_in w) g (inner_part p (subobject Whole path)))
  plain_moved p c path made valid =
      let i = subobject Whole path in
      let at = address (world_classes w) (places_in w) g p in
      let n = (places_in w).place c i in
      let d = class_there (world_classes w) c i valid in
      let low = part_limit (world_classes w) w.setup.rows g (inner_part p i) d.0 is_laid (inner_is_made (world_classes w) g p c d.0 i made valid d.1) in
      let sum = to_inner (world_classes w) w.setup.rows g p c i made valid refl in
      let word : constant_kept c i ≡ n = ap word_of (constant_of_constant n) ∙ small_word n (omega (arith, low, sum)) in
      record {
        base = at;
        by_word = ap (moved_by_word w.image memory at) (plain_vbase c path);
        by_constant = ap (moved at) word ∙ moved_to_part (world_classes w) w.setup.rows g at n (inner_part p i) d.0 is_laid (inner_is_made (world_classes w) g p c d.0 i made valid d.1) sum;
      }

  -- the words of a virtual base
  record VbaseWords (c v : ClassId) (path : List ClassId) : Type 0 where
    kept : vbase_kept c (subobject (Shared v) path) ≡ word_offset (word_number (vbase_number (world_classes w) (places_in w) c v))
    some : vbase_kept c (subobject (Shared v) path) ≡ 0 → ⊥

  vbase_words : (c v : ClassId) (path : List ClassId) → c.0 < length (world_classes w) → HasVirtualBase (world_classes w) c v → VbaseWords c v path
  vbase_words c v path known has =
      let n = vbase_number (world_classes w) (places_in w) c v in
      let small = vbase_small (world_classes w) w.setup.rows world.hierarchy world.sound c v known has in
      let words = offset_word n (omega (arith, small)) in
      record { kept = words ∙ sym (number_word n (omega (arith, small))); some = λ e. absurd (omega (arith, small, words, e)) }

  pub shared_some : (p : ObjectPart) (c v : ClassId) (path : List ClassId) → IsPartMade (world_classes w) g.classes p c → HasVirtualBase (world_classes w) c v → vbase_kept c (subobject (Shared v) path) ≡ 0 → ⊥
  shared_some p c v path made has = (vbase_words c v path (known_class (world_classes w) w.setup.rows g p c is_laid made) has).some

  -- behind a virtual base, from where the part stands in a view
  pub shared_moved : (p : ObjectPart) (c v : ClassId) (path : List ClassId) → IsSeenFrom w g memory p c → IsPartMade (world_classes w) g.classes p c → HasVirtualBase (world_classes w) c v → PathLeads (world_classes w) v path →
      IsMoved w.image memory (address (world_classes w) (places_in w) g p) (vbase_kept c (subobject (Shared v) (v ∷ path))) (constant_kept c (subobject (Shared v) (v ∷ path))) (address (world_classes w) (places_in w) g (inner_part p (subobject (Shared v) (v ∷ path))))
  shared_moved p c v path seen made has leads =
      let h = world_classes w in
      let at = address h (places_in w) g p in
      let inner = subobject Whole (v ∷ path) in
      let a = (places_in w).place c (shared_base v) in
      let k = (places_in w).place v inner in
      let bytes = word_offset (word_number (vbase_number h (places_in w) c v)) in
      let words = vbase_words c v (v ∷ path) (known_class h w.setup.rows g p c is_laid made) has in
      let m = seen_base w g memory p c v seen has in
      let base_there = shared_made h g p c v made has in
      let valid : IsSubobject h v inner = in_whole path leads in
      let d = class_there h v inner valid in
      let sum = to_inner h w.setup.rows g (shared_part p v) v inner base_there valid refl in
      let end_there = inner_is_made h g (shared_part p v) v d.0 inner base_there valid d.1 in
      let low = part_limit h w.setup.rows g (inner_part (shared_part p v) inner) d.0 is_laid end_there in
      let whole_way : (places_in w).place c (subobject (Shared v) (v ∷ path)) ≡ a + k = joined h w.setup.rows c v (shared_base v) inner (in_shared v [] has tt) refl valid refl in
      let word : constant_kept c (subobject (Shared v) (v ∷ path)) ≡ k = ap (λ n. word_of (pos n -ℤ pos a)) whole_way ∙ (ap word_of (difference a k) ∙ small_word k (omega (arith, low, sum))) in
      record {
        base = address h (places_in w) g (shared_part p v);
        by_word = ap (moved_by_word w.image memory at) words.kept ∙ (moved_by_some w.image memory at bytes m.by (λ e. words.some (words.kept ∙ e)) m.there ∙ ap (λ n. Some n) m.leads);
        by_constant = ap (moved (address h (places_in w) g (shared_part p v))) word ∙ moved_to_part h w.setup.rows g (address h (places_in w) g (shared_part p v)) k (inner_part (shared_part p v) inner) d.0 is_laid end_there sum;
      }
