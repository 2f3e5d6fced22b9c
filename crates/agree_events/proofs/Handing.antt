-- What the frame of a base is handed: its complete object, the part around it, and where its class has a virtual base the address of its sub-VTT.
use Rattle.std.proofs.Common.{◌≡◌, ℕ, ◌+◌, ◌*◌, ◌<◌, ◌^◌, true, false, Option, Some, None, List, [], length, refl, ap, subst, sym, ◌∙◌, arith}
use Rattle.std.specs.Prelude.{Contains, if◌then◌else◌}
use Rattle.cxx_hierarchy.specs.declared.records.Base.{Base}
use Rattle.cxx_hierarchy.specs.declared.records.ClassId.{ClassId}
use Rattle.cxx_hierarchy.specs.Classes.{bases_of}
use Rattle.cxx_hierarchy.specs.VirtualBases.{HasVirtualBase, IsDirectBase, further}
use Rattle.cxx_subobject.specs.declared.Subobject.{Subobject}
use Rattle.cxx_subobject.specs.Subobjects.{whole_of, shared_base, base_subobject}
use Rattle.cxx_subobject.specs.Locations.{ObjectPart}
use Rattle.path_plan.specs.Places.{part, base_part, shared_part}
use Rattle.path_plan.specs.declared.form.Form.{Form}
use Rattle.path_plan.specs.declared.form.Form.TheVariants.{InFull}
use Rattle.abi_slots.specs.Groups.{GoAlong}
use Rattle.foundation.proofs.Places.{get_within}
use Rattle.foundation.proofs.Truth.{split}
use Rattle.std.proofs.lemmas.Option.{slice_get_within}
use Rattle.abi_vtt.specs.Vtts.{item, has_vtt, vtt_items, IsVtt, IsVttWord, extended_by}
use Rattle.abi_vtt.specs.VttImages.{HasSubVtt}
use Rattle.abi_vtt.specs.Blocks.{block_distance, shared_distance}
use Rattle.abi_vtt.proofs.BlockLemmas.{first_word, whole_stands}
use Rattle.abi_vtt.proofs.ImageBlocks.{base_block, shared_block}
use Rattle.abi_vtt.proofs.MarkLemmas.{has_some, some_has}
use Rattle.byte_code.specs.Images.{word_at}
use Rattle.byte_machine.specs.declared.frames.Handed.{Handed}
use Rattle.byte_machine.specs.Running.{moved}
use Rattle.byte_machine.specs.Plans.{frame_owner, sub_vtt, vtt_of}
use Rattle.byte_machine.proofs.PlanLeads.{sub_vtt_none, sub_vtt_some}
use Rattle.code_blocks.specs.Blocks.{whose_of, hand_to}
use Rattle.agree_dispatch.proofs.Numbers.{moved_up}
use Rattle.agree_parts.specs.Heaps.{Heap}
use Rattle.agree_relation.specs.Worlds.{World, IsProgramWorld, world_classes, places_in, fixed}
use Rattle.agree_relation.specs.Goings.{StandsOnStack}
use Rattle.agree_relation.specs.Frames.{IsHanded, IsHandedBy}
use Rattle.agree_events.proofs.Noted.{Made, at_part}
use Rattle.agree_events.proofs.Changes.{owner_is}
use Rattle.agree_events.proofs.Tabled.{placed_groups, word_low, own_block, vtt_there}

-- a block of words stands low
block_low : (w : World) → IsProgramWorld w → (d c : ClassId) (at : Subobject) (a : ℕ) → HasSubVtt (world_classes w) (places_in w) (placed_groups w) d at c a → a < 2 ^ 63
block_low w world d c at a block =
    let first_item = block.each 0 (item at (whole_of c)) (first_word (world_classes w) world.hierarchy (places_in w) at c) in
    let low = word_low w world (a + 8 * 0) first_item.point first_item.at_point in
    omega arith

-- the address of the sub-VTT that is handed on
pub record IsSub (w : World) (d b : ClassId) (at : Subobject) (words vtt : Option ℕ) : Type 0 where
  pub block : ℕ
  pub is : sub_vtt words vtt ≡ Some block
  pub stands : has_vtt (world_classes w) b ≡ true → HasSubVtt (world_classes w) (places_in w) (placed_groups w) d at b block

no_sub : (w : World) (d b : ClassId) (at : Subobject) (distance : ℕ) (vtt : Option ℕ) → has_vtt (world_classes w) b ≡ false → IsSub w d b at (if has_vtt (world_classes w) b then Some distance else None) vtt
no_sub w d b at distance vtt none = record { block = 0; is = sub_vtt_none _ vtt (ap (λ t. if t then Some distance else None) none); stands = λ virtual. absurd (cc) }

some_sub : (w : World) → IsProgramWorld w → (d b : ClassId) (at : Subobject) (distance own : ℕ) (vtt : Option ℕ) → has_vtt (world_classes w) b ≡ true → vtt ≡ Some own → HasSubVtt (world_classes w) (places_in w) (placed_groups w) d at b (own + 8 * distance) → IsSub w d b at (if has_vtt (world_classes w) b then Some distance else None) vtt
some_sub w world d b at distance own vtt virtual there stands =
    let low = block_low w world d b at (own + 8 * distance) stands in
    let place : moved own (8 * distance) ≡ own + 8 * distance = moved_up own (8 * distance) (omega arith) in
    record {
      block = moved own (8 * distance);
      is = sub_vtt_some _ vtt distance own (ap (λ t. if t then Some distance else None) virtual) there;
      stands = λ _. subst (HasSubVtt (world_classes w) (places_in w) (placed_groups w) d at b) (sym place) stands;
    }

base_is_below : (x : Subobject) (b : Base ClassId) → b.is_virtual ≡ false → extended_by x b.class ≡ base_subobject x b
base_is_below x b plain = rw plain refl

some_base_sub : (w : World) → IsProgramWorld w → (g : Heap) (form : Form) (c d : ClassId) (p : ObjectPart) (stack : List Subobject) (handed : Handed) → c.0 < length (world_classes w) → StandsOnStack form c d p stack → IsHandedBy w g form c d p stack handed
    → (b : Base ClassId) → Contains (bases_of (world_classes w) c) b → b.is_virtual ≡ false → has_vtt (world_classes w) b.class ≡ true
    → IsSub w d b.class (base_part p b).at (hand_to w.setup form c b.class (block_distance (world_classes w) (places_in w) c b.class)).vtt (vtt_of (fixed w) handed (whose_of form) c.0)
some_base_sub w world g form c d p stack handed known stands is b listed plain virtual =
    let h = world_classes w in
    let l = places_in w in
    let v = some_has h world.hierarchy b.class virtual in
    let edge : IsDirectBase h c false b.class = record { base = b; listed = listed; class = refl; way = plain } in
    let own = own_block w world g form c d p stack handed known stands is (has_some h world.hierarchy c v.0 (further c b.class v.0 false edge v.1)) in
    some_sub w world d b.class (base_part p b).at (block_distance h l c b.class) own.block (vtt_of (fixed w) handed (whose_of form) c.0) virtual own.found
    (subst (λ (s : Subobject). HasSubVtt h l (placed_groups w) d s b.class (own.block + 8 * block_distance h l c b.class)) (base_is_below p.at b plain)
    (base_block h l (placed_groups w) d p.at c b.class v.0 own.block world.hierarchy edge v.1 own.stands))

pub base_sub : (w : World) → IsProgramWorld w → (g : Heap) (form : Form) (c d : ClassId) (p : ObjectPart) (stack : List Subobject) (handed : Handed) → c.0 < length (world_classes w) → StandsOnStack form c d p stack → IsHandedBy w g form c d p stack handed
    → (b : Base ClassId) → Contains (bases_of (world_classes w) c) b → b.is_virtual ≡ false
    → IsSub w d b.class (base_part p b).at (hand_to w.setup form c b.class (block_distance (world_classes w) (places_in w) c b.class)).vtt (vtt_of (fixed w) handed (whose_of form) c.0)
base_sub w world g form c d p stack handed known stands is b listed plain =
    split (has_vtt (world_classes w) b.class) (λ t. has_vtt (world_classes w) b.class ≡ t → IsSub w d b.class (base_part p b).at (hand_to w.setup form c b.class (block_distance (world_classes w) (places_in w) c b.class)).vtt (vtt_of (fixed w) handed (whose_of form) c.0))
    (λ _ virtual. some_base_sub w world g form c d p stack handed known stands is b listed plain virtual)
    (λ _ none. no_sub w d b.class (base_part p b).at (block_distance (world_classes w) (places_in w) c b.class) (vtt_of (fixed w) handed (whose_of form) c.0) none) refl

-- of a complete object: the VTT of its class stands at the address that the directory names
shared_in_vtt : (w : World) → IsProgramWorld w → (c v u : ClassId) → c.0 < length (world_classes w) → HasVirtualBase (world_classes w) c v → HasVirtualBase (world_classes w) v u → (handed : Handed)
    → (a : ℕ) × (vtt_of (fixed w) handed (whose_of InFull) c.0 ≡ Some a) × HasSubVtt (world_classes w) (places_in w) (placed_groups w) c (shared_base v) v (a + 8 * shared_distance (world_classes w) (places_in w) c v)
shared_in_vtt w world c v u known has more handed =
    let h = world_classes w in
    let l = places_in w in
    let tables = world.tables in
    let r = get_within w.vtts c.0 (let size = tables.one_vtt_each in omega arith) in
    let along : IsVtt h l c r.0 = subst (λ b. GoAlong (IsVttWord h l c) (if b then vtt_items h l c else []) r.0) (has_some h world.hierarchy c v has) (tables.vtts c r.0 r.1) in
    let some : 0 < length r.0 = let size = along.size in let less = slice_get_within (vtt_items h l c) (0 + 0) (item (whole_of c) (whole_of c)) ((whole_stands h l c).each 0 (item (whole_of c) (whole_of c)) (first_word h world.hierarchy l (whole_of c) c)) in omega arith in
    let directory = tables.stand.directory c r.0 r.1 in (
      w.addresses.vtt c,
      directory.at_vtt ∙ ap (λ a. Some a) (vtt_there (w.addresses.vtt c) r.0 some),
      shared_block h l w.numbers w.groups w.vtts w.infos w.addresses w.image.base (word_at w.image) tables.stand c r.0 r.1 along v u world.hierarchy has more,
    )

pub shared_sub : (w : World) → IsProgramWorld w → (c d v : ClassId) (p : ObjectPart) (handed : Handed) → c.0 < length (world_classes w) → d ≡ c → HasVirtualBase (world_classes w) c v
    → IsSub w d v (shared_part p v).at (hand_to w.setup InFull c v (shared_distance (world_classes w) (places_in w) c v)).vtt (vtt_of (fixed w) handed (whose_of InFull) c.0)
shared_sub w world c d v p handed known same has =
    split (has_vtt (world_classes w) v) (λ t. has_vtt (world_classes w) v ≡ t → IsSub w d v (shared_part p v).at (hand_to w.setup InFull c v (shared_distance (world_classes w) (places_in w) c v)).vtt (vtt_of (fixed w) handed (whose_of InFull) c.0))
    (λ _ virtual.
    let u = some_has (world_classes w) world.hierarchy v virtual in
    let own = shared_in_vtt w world c v u.0 known has u.1 handed in
    some_sub w world d v (shared_part p v).at (shared_distance (world_classes w) (places_in w) c v) own.0 (vtt_of (fixed w) handed (whose_of InFull) c.0) virtual own.1
    (subst (λ (e : ClassId). HasSubVtt (world_classes w) (places_in w) (placed_groups w) e (shared_base v) v (own.0 + 8 * shared_distance (world_classes w) (places_in w) c v)) (sym same) own.2))
    (λ _ none. no_sub w d v (shared_part p v).at (shared_distance (world_classes w) (places_in w) c v) (vtt_of (fixed w) handed (whose_of InFull) c.0) none) refl

-- what the frame of a base is handed
abbrev pub handed_on : World → Form → ClassId → ObjectPart → Heap → ℕ → Handed → Handed
handed_on w form c p g block handed = record {
  owner = (frame_owner handed (whose_of form) (at_part w g p) c.0).0;
  owner_class = (frame_owner handed (whose_of form) (at_part w g p) c.0).1;
  vtt = block;
  outer = at_part w g p;
  outer_class = c.0;
}

pub is_handed : (w : World) (g : Heap) (form : Form) (c d b : ClassId) (p : ObjectPart) (at : Subobject) (stack : List Subobject) (handed : Handed) (block : ℕ) → Made w g p c → StandsOnStack form c d p stack → IsHandedBy w g form c d p stack handed
    → (has_vtt (world_classes w) b ≡ true → HasSubVtt (world_classes w) (places_in w) (placed_groups w) d at b block) → IsHanded w g b d (part p.object p.owner at) p.at (handed_on w form c p g block handed)
is_handed w g form c d b p at stack handed block made stands is vtt = let pair = owner_is w g form c d p stack handed stands is in record {
  owner = ap (λ (n : ℕ × ℕ). n.0) pair;
  owner_class = ap (λ (n : ℕ × ℕ). n.1) pair;
  outer = refl;
  class = c;
  of = made.of_class;
  outer_class = refl;
  vtt = vtt;
}
