-- The ops that set the virtual pointers of a part: they are right then, and nothing else has changed.
use Rattle.std.proofs.Common.{◌≡◌, ℕ, ◌*◌, Bool, ◌+◌, ◌<◌, ◌≤◌, inl, inr, ⊎_elim, false, Option, Some, None, List, [], ◌∷◌, length, refl, ap, subst, sym, ◌∙◌, arith}
use Rattle.std.specs.Prelude.{if◌then◌else◌}
use Rattle.cxx_hierarchy.specs.declared.records.ClassId.{ClassId}
use Rattle.cxx_subobject.specs.declared.Root.TheVariants.{Whole}
use Rattle.cxx_subobject.specs.declared.Subobject.{Subobject}
use Rattle.cxx_subobject.specs.Subobjects.{IsSubobject, whole as whole_is, shared, whole_of, class_of, join}
use Rattle.cxx_subobject.specs.Preorder.{preorder}
use Rattle.cxx_subobject.specs.Locations.{ObjectPart}
use Rattle.cxx_subobject.proofs.TreeLemmas.{has_preorder}
use Rattle.foundation.proofs.Truth.{split, is_false, not_both}
use Rattle.foundation.proofs.Members.{Has}
use Rattle.path_plan.specs.declared.form.Form.{Form}
use Rattle.path_plan.specs.declared.form.Form.TheVariants.{InFull, AsBase}
use Rattle.path_model.specs.Places.{owner_class}
use Rattle.path_model.specs.Values.{Objects, inner_part}
use Rattle.abi_primary.specs.Kinds.{IsDynamic}
use Rattle.abi_sound.specs.Locations.{Span, AreDisjoint, pointer_span}
use Rattle.abi_slots.specs.Views.{is_dynamic}
use Rattle.abi_slots.proofs.Dynamics.{dynamic_whole}
use Rattle.abi_slots.proofs.Heads.{dynamic_test, test_dynamic}
use Rattle.abi_vtt.specs.Vtts.{has_vtt}
use Rattle.abi_vtt.proofs.MarkLemmas.{has_some}
use Rattle.byte_memory.specs.Regions.{fault_at}
use Rattle.byte_memory.specs.Store.{Store}
use Rattle.byte_memory.proofs.ByBits.{number_from-kept}
use Rattle.byte_code.specs.declared.op.Op.{Op}
use Rattle.byte_code.specs.declared.op.Op.TheVariants.{SetTable}
use Rattle.byte_machine.specs.declared.frames.Handed.{Handed}
use Rattle.byte_machine.specs.Running.{Running, Stop, register}
use Rattle.byte_machine.specs.Leads.{OpsLead}
use Rattle.agree_parts.specs.Heaps.{Heap}
use Rattle.agree_parts.specs.Addresses.{leaf_bits}
use Rattle.agree_parts.specs.Placed.{AreObjectsLaid}
use Rattle.agree_parts.proofs.Apart.{leaf_and_pointer, pointers_of_others}
use Rattle.agree_parts.proofs.Inside.{known_class}
use Rattle.agree_parts.proofs.Made.{inner_is_made, whole_owner}
use Rattle.agree_parts.proofs.Sums.{in_view, to_inner}
use Rattle.code_blocks.specs.Blocks.{is_set_apart, setting_by, settings_then, pointers_then}
use Rattle.agree_relation.specs.Worlds.{World, IsProgramWorld, world_classes, places_in, fixed}
use Rattle.agree_relation.specs.Words.{heap_of}
use Rattle.agree_relation.specs.Columns.{HasPointers, ColumnsStand, group_view}
use Rattle.agree_relation.specs.Goings.{StandsOnStack}
use Rattle.agree_relation.specs.Frames.{IsHandedBy}
use Rattle.agree_relation.proofs.Objects.{objects_laid}
use Rattle.agree_relation.proofs.Pointers.{table_same}
use Rattle.agree_relation.proofs.Reached.{pointer_open}
use Rattle.agree_events.proofs.Own.{whole_in}
use Rattle.agree_events.proofs.Noted.{Made, at_part}
use Rattle.agree_events.proofs.Pointed.{KeepsOthers}
use Rattle.agree_events.proofs.Settings.{set_apart}
use Rattle.agree_events.proofs.Sets.{IsStanding, has_class, leads_sets, pointers_set}
use Rattle.agree_events.proofs.Steps.{KeepsLeaves, with_bits}
use Rattle.agree_events.proofs.Tabled.{IsTabled, part_view, block_tabled, own_block, directory_tabled}

full_whole : (form : Form) (c d : ClassId) (p : ObjectPart) (stack : List Subobject) → StandsOnStack form c d p stack → form ≡ InFull → p.at ≡ whole_of c
full_whole InFull c d p stack stands e = stands.1
full_whole AsBase c d p stack stands e = absurd (cc)

-- a subobject of a class without virtual bases
plain_root : (w : World) → IsProgramWorld w → (c : ClassId) (i : Subobject) → has_vtt (world_classes w) c ≡ false → IsSubobject (world_classes w) c i → (i.root ≡ Whole) × (join (whole_of c) i ≡ i)
plain_root w world c _ none (whole_is path leads) = (refl, refl)
plain_root w world c _ none (shared v path has leads) = absurd (not_both (has_some (world_classes w) world.hierarchy c v has) none)

-- the view of the frame's part, as the frame finds it
pub standing_of : (w : World) → IsProgramWorld w → (g : Heap) (form : Form) (c d : ClassId) (p : ObjectPart) (stack : List Subobject) (handed : Handed) → AreObjectsLaid (world_classes w) w.setup.rows g → Made w g p c → Made w g (whole_in p d) d → IsDynamic (world_classes w) c → StandsOnStack form c d p stack → IsHandedBy w g form c d p stack handed
    → IsStanding w g (group_view w d p.at c) p c d form handed
standing_of w world g form c d p stack handed laid made whole dynamic stands is = split (has_vtt (world_classes w) c)
    (λ b. has_vtt (world_classes w) c ≡ b → IsStanding w g (if b then part_view d p.at c else part_view c (whole_of c) c) p c d form handed)
    (λ _ e.
    let block = own_block w world g form c d p stack handed known stands is e in
    let tabled = block_tabled w world d c p.at block.block made.of_class block.stands form handed block.found block.own in
    record {
      of = record { laid = laid; made = made; whole = whole; full = full_whole form c d p stack stands; class = refl; of_class = made.of_class; virtual = λ _. refl; tabled = subst (λ b. IsTabled w (part_view d p.at c) form c handed b) (sym e) tabled };
      start = at_part w g (whole_in p d);
      lies = λ i valid. in_view (world_classes w) w.setup.rows g p c d i made owner valid;
    })
    (λ _ e.
    let tabled = directory_tabled w world c known e dynamic form handed in
    record {
      of = record { laid = laid; made = made; whole = whole; full = full_whole form c d p stack stands; class = refl; of_class = refl; virtual = λ virtual. absurd (not_both virtual e); tabled = subst (λ b. IsTabled w (part_view c (whole_of c) c) form c handed b) (sym e) tabled };
      start = at_part w g p;
      lies = λ i valid. let root = plain_root w world c i e valid in to_inner (world_classes w) w.setup.rows g p c i made valid root.0 ∙ ap (λ (s : Subobject). at_part w g p + (places_in w).place c s) (sym root.1);
    }) refl
  where
    known : c.0 < length (world_classes w)
    known = known_class (world_classes w) w.setup.rows g p c laid made

    owner : owner_class (world_classes w) g.classes p.object p.owner ≡ Some d
    owner = whole_owner (world_classes w) g (whole_in p d) d whole refl

-- a class that is not dynamic has no pointers to set
none_set : (w : World) → IsProgramWorld w → (form : Form) (c : ClassId) → is_dynamic (world_classes w) c ≡ false → (list : List Subobject) → ((i : Subobject) → Has list i → IsSubobject (world_classes w) c i) → (rest : List Op) → settings_then w.setup form c list rest ≡ rest
none_set w world form c none [] all rest = refl
none_set w world form c none (i ∷ list) all rest =
    let off : is_set_apart w.setup i ≡ false = is_false (is_set_apart w.setup i) (λ on.
    let apart = set_apart w c i (all i (inl refl)) on in
    let class = has_class w world i apart.dynamic in
    not_both (dynamic_test (world_classes w) world.hierarchy c (dynamic_whole (world_classes w) c class.class i apart.valid class.of class.dynamic)) none) in
    ap (λ b. if b then SetTable (setting_by w.setup form c i i.root) ∷ settings_then w.setup form c list rest else settings_then w.setup form c list rest) off ∙ none_set w world form c none list (λ j has. all j (inr has)) rest

-- what the ops lead on to
abbrev pub Onwards : World → Heap → Objects → ObjectPart → ClassId → ClassId → Running → List Op → (Running → Stop → Type 0) → Type 0
Onwards w g s p c d r rest P = (bit' : ℕ → Option Bool) → KeepsOthers w g s p r.memory (with_bits r.memory bit') → KeepsLeaves w g r.memory.bit bit' → (IsDynamic (world_classes w) c → HasPointers w g (with_bits r.memory bit') p c d) → OpsLead (fixed w) rest (record r { memory = with_bits r.memory bit' }) P

-- bits apart from all virtual pointers of a part are the same
abbrev Keeps : World → Heap → ObjectPart → ClassId → (ℕ → Option Bool) → (ℕ → Option Bool) → Type 0
Keeps w g p c bit bit' = (y : Span) → ((i : Subobject) (b : ClassId) → IsSubobject (world_classes w) c i → class_of i ≡ Some b → IsDynamic (world_classes w) b → AreDisjoint y (pointer_span (at_part w g (inner_part p i)))) → (a : ℕ) → y.start ≤ a → a < y.start + y.length → bit' a ≡ bit a

others_kept : (w : World) (g : Heap) (s : Objects) (p : ObjectPart) (c : ClassId) (memory : Store) (bit' : ℕ → Option Bool) → AreObjectsLaid (world_classes w) w.setup.rows g → Made w g p c → Keeps w g p c memory.bit bit' → KeepsOthers w g s p memory (with_bits memory bit')
others_kept w g s p c memory bit' laid made keeps k o differ is_open q e there dynamic object owner =
    let h = world_classes w in
    table_same memory (with_bits memory bit') (at_part w g q) refl
    (number_from-kept (8 * 8) bit' memory.bit (8 * at_part w g q)
    (keeps (pointer_span (at_part w g q)) (λ i b valid class dyn. ⊎_elim (λ f. inl (omega arith)) (λ f. inr (omega arith)) (pointers_of_others h w.setup.rows g q (inner_part p i) e b laid there (inner_is_made h g p c b i made valid class) dynamic dyn
    (λ same. differ (record { object = sym same.0 ∙ object; owner = sym same.1 ∙ owner }))))))

leaves_kept : (w : World) (g : Heap) (p : ObjectPart) (c : ClassId) (bit bit' : ℕ → Option Bool) → AreObjectsLaid (world_classes w) w.setup.rows g → Made w g p c → Keeps w g p c bit bit' → KeepsLeaves w g bit bit'
leaves_kept w g p c bit bit' laid made keeps a t there =
    let h = world_classes w in
    keeps (leaf_bits h (places_in w) g a) (λ i b valid class dyn. leaf_and_pointer h w.setup.rows g a t (inner_part p i) b laid there (inner_is_made h g p c b i made valid class) dyn)

pub pointers_lead : (w : World) → IsProgramWorld w → (s : Objects) (r : Running) (form : Form) (c d : ClassId) (p : ObjectPart) (stack : List Subobject) → ColumnsStand w s r.memory r.objects r.heap r.notes → s.is_closed p.object ≡ false
    → Made w (heap_of s.classes r.memory.regions) p c → Made w (heap_of s.classes r.memory.regions) (whole_in p d) d → StandsOnStack form c d p stack → IsHandedBy w (heap_of s.classes r.memory.regions) form c d p stack r.top.handed → register r 0 ≡ Some (at_part w (heap_of s.classes r.memory.regions) p)
    → (rest : List Op) (P : Running → Stop → Type 0) → Onwards w (heap_of s.classes r.memory.regions) s p c d r rest P → OpsLead (fixed w) (pointers_then w.setup form c rest) r P
pointers_lead w world s r form c d p stack columns is_open made whole stands is this rest P go =
    let h = world_classes w in
    let g = heap_of s.classes r.memory.regions in
    let laid = objects_laid w s r.memory.regions r.objects r.heap world columns.objects in
    let all : (i : Subobject) → Has (preorder h c) i → IsSubobject h c i = λ i has. has_preorder h c i has in
    split (is_dynamic h c) (λ b. is_dynamic h c ≡ b → OpsLead (fixed w) (pointers_then w.setup form c rest) r P)
    (λ _ test.
    let dynamic = test_dynamic h world.hierarchy c test in
    let standing = standing_of w world g form c d p stack r.top.handed laid made whole dynamic stands is in
    let x = group_view w d p.at c in
    let reached : (i : Subobject) (b : ClassId) → IsSubobject h c i → class_of i ≡ Some b → IsDynamic h b → fault_at r.memory.regions (at_part w g (inner_part p i)) 8 ≡ None =
    λ i b valid class dyn. pointer_open w s r.memory.regions r.objects r.heap (inner_part p i) b world columns.objects (inner_is_made h g p c b i made valid class) dyn is_open in
    leads_sets w world g x p c d form r.top.handed standing r this refl reached (preorder h c) all r.memory.bit rest P
    (λ bit' sets. go bit' (others_kept w g s p c r.memory bit' laid made sets.kept) (leaves_kept w g p c r.memory.bit bit' laid made sets.kept) (λ _. pointers_set w world g x p c d form r.top.handed standing refl r.memory r.memory.bit bit' reached sets)))
    (λ _ test. subst (λ (ops : List Op). OpsLead (fixed w) ops r P) (sym (none_set w world form c test (preorder h c) all rest))
    (go r.memory.bit (λ k o differ opened q e there dyn object owner. refl) (λ a t there i low high. refl) (λ dynamic. absurd (not_both (dynamic_test h world.hierarchy c dynamic) test)))) refl
