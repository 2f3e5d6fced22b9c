-- The tables of the view that a part is, as the frame of its plan finds them: by the directory, or by its VTT.
use Rattle.std.proofs.Common.{◌≡◌, ℕ, ◌+◌, ◌*◌, ◌<◌, ◌^◌, Bool, true, false, Option, Some, List, [], ◌∷◌, length, refl, ap, subst, sym, ◌∙◌, arith}
use Rattle.std.specs.Prelude.{slice_get, if◌then◌else◌}
use Rattle.std.proofs.lemmas.Option.{slice_get_within}
use Rattle.cxx_hierarchy.specs.declared.records.ClassId.{ClassId}
use Rattle.cxx_subobject.specs.declared.Subobject.{Subobject}
use Rattle.cxx_subobject.specs.Subobjects.{IsSubobject, whole as whole_is, whole_of, class_of}
use Rattle.cxx_subobject.specs.Locations.{ObjectPart}
use Rattle.foundation.proofs.Places.{get_within}
use Rattle.path_plan.specs.declared.form.Form.{Form}
use Rattle.path_plan.specs.declared.form.Form.TheVariants.{InFull, AsBase}
use Rattle.abi_primary.specs.Kinds.{IsDynamic}
use Rattle.abi_slots.specs.declared.words.Group.{Group}
use Rattle.abi_slots.specs.declared.words.VttWord.{VttWord}
use Rattle.abi_slots.specs.Groups.{GoAlong}
use Rattle.abi_slots.specs.Images.{vtt_address, IsFirstPoint, first, no_group}
use Rattle.abi_slots.specs.Seen.{PlacedTables, IsPointOf, IsSeen}
use Rattle.abi_slots.specs.Views.{View, heads, by_part, is_head, Serves}
use Rattle.abi_slots.proofs.Lists.{from_filter}
use Rattle.abi_vtt.specs.Vtts.{VttEntry, item, has_vtt, needs_word, vtt_items, IsVtt, IsVttWord}
use Rattle.abi_vtt.specs.Blocks.{block, item_number}
use Rattle.abi_vtt.specs.VttImages.{PlacedGroups, HasSubVtt, HasItem, tables_of}
use Rattle.abi_vtt.proofs.BlockLemmas.{first_word, word_stands, whole_stands}
use Rattle.abi_vtt.proofs.ImageBlocks.{whole_block}
use Rattle.abi_vtt.proofs.RunLemmas.{first_run}
use Rattle.abi_vtt.proofs.RunWords.{run_first}
use Rattle.byte_code.specs.Images.{word_at}
use Rattle.byte_code.specs.declared.op.PointSource.{PointSource}
use Rattle.byte_code.specs.declared.op.PointSource.TheVariants.{Directory, Vtt}
use Rattle.byte_code.proofs.Numbers.{word_inside}
use Rattle.byte_machine.specs.declared.frames.Handed.{Handed}
use Rattle.byte_machine.specs.Running.{moved}
use Rattle.byte_machine.specs.Plans.{source_word, vtt_of}
use Rattle.byte_machine.proofs.PlanLeads.{source_vtt}
use Rattle.code_blocks.specs.Blocks.{whose_of}
use Rattle.agree_dispatch.proofs.Numbers.{moved_up}
use Rattle.agree_parts.specs.Heaps.{Heap}
use Rattle.agree_relation.specs.Worlds.{World, IsProgramWorld, world_classes, places_in, fixed}
use Rattle.agree_relation.specs.Goings.{StandsOnStack}
use Rattle.agree_relation.specs.Frames.{IsHandedBy}
use Rattle.agree_relation.proofs.Tables.{placed_seen}
use Rattle.agree_events.proofs.Names.{one_group, whole_group}

abbrev pub placed_groups : World → PlacedGroups
placed_groups w = record { image = word_at w.image; codes = w.numbers; groups = w.groups; addresses = w.addresses }

abbrev pub tables_at : World → ℕ → Group → PlacedTables
tables_at w number group = tables_of (placed_groups w) number group

-- what the image gives for the view of a group of the world
pub seen_of : (w : World) → IsProgramWorld w → (x : View) (number : ℕ) (group : Group) → slice_get w.groups number ≡ Some group → group.name ≡ record { complete = x.complete; view = x.at_sub } → class_of x.at_sub ≡ Some x.class → IsSeen (world_classes w) (places_in w) x (tables_at w number group)
seen_of w world x number group there named class = placed_seen w x (tables_at w number group) world (record { number = number; group = group; there = there; named = named; is = refl }) class

-- words of the image stand low, and so do address points
pub word_low : (w : World) → IsProgramWorld w → (at word : ℕ) → word_at w.image at ≡ Some word → at < 2 ^ 63
word_low w world at word is = let inside = word_inside w.image at word is in let small = world.small in omega arith

pub point_low : (w : World) → IsProgramWorld w → (x : View) (placed : PlacedTables) (s : Subobject) (c : ClassId) (point : ℕ) → placed.image ≡ word_at w.image → IsSeen (world_classes w) (places_in w) x placed → IsSubobject (world_classes w) x.class s → class_of s ≡ Some c → IsPointOf (world_classes w) (places_in w) x placed s point → point < 2 ^ 63 + 16
point_low w world x placed s c point image seen valid class is =
    let type = (seen.sees s c point valid class is).type_of in
    let before = type.before in
    let low = word_low w world type.at (placed.info x.class) (ap (λ (i : ℕ → Option ℕ). i type.at) (sym image) ∙ type.there) in
    omega arith

-- where the table of the view itself is found
abbrev pub own_source : Form → ClassId → Bool → PointSource
own_source form c true = Vtt (whose_of form) c.0 0
own_source form c false = Directory c.0

-- the tables of the view x, of class c, as the frame finds them
pub record IsTabled (w : World) (x : View) (form : Form) (c : ClassId) (handed : Handed) (virtual : Bool) : Type 0 where
  pub number : ℕ
  pub group : Group
  pub there : slice_get w.groups number ≡ Some group
  pub named : group.name ≡ record { complete = x.complete; view = x.at_sub }
  pub point : ℕ
  pub is_point : IsPointOf (world_classes w) (places_in w) x (tables_at w number group) (whole_of c) point
  pub own : source_word (fixed w) handed (own_source form c virtual) ≡ Some point
  pub word : (i : Subobject) → IsSubobject (world_classes w) c i → needs_word (world_classes w) (places_in w) i ≡ true → virtual ≡ true →
      (at : ℕ) × (source_word (fixed w) handed (Vtt (whose_of form) c.0 (item_number (world_classes w) (places_in w) c i)) ≡ Some at) × IsPointOf (world_classes w) (places_in w) x (tables_at w number group) i at
  pub first_word : form ≡ AsBase → virtual ≡ true → word_at w.image handed.vtt ≡ Some point

-- by a VTT

abbrev pub part_view : ClassId → Subobject → ClassId → View
part_view d at c = record { complete = d; at_sub = at; class = c }

item_point : (w : World) → IsProgramWorld w → (d c : ClassId) (at : Subobject) (it : VttEntry) (a n number : ℕ) (group : Group) → class_of at ≡ Some c → it.view ≡ at → slice_get w.groups number ≡ Some group → group.name ≡ record { complete = d; view = at } → HasItem (world_classes w) (places_in w) (placed_groups w) d it (a + 8 * n) → (vtt : Handed) (form : Form) → vtt_of (fixed w) vtt (whose_of form) c.0 ≡ Some a
    → (point : ℕ) × (source_word (fixed w) vtt (Vtt (whose_of form) c.0 n) ≡ Some point) × IsPointOf (world_classes w) (places_in w) (part_view d at c) (tables_at w number group) it.served point × (word_at w.image (a + 8 * n) ≡ Some point)
item_point w world d c at it a n number group class view there named has vtt form found =
    let h = world_classes w in
    let l = places_in w in
    let low = word_low w world (a + 8 * n) has.point has.at_point in
    let at_moved : moved a (8 * n) ≡ a + 8 * n = moved_up a (8 * n) (omega arith) in
    let name : group.name ≡ has.group.name = named ∙ (ap (λ (s : Subobject). record { complete = d; view = s }) (sym view) ∙ sym has.named) in
    let same : has.number ≡ number = sym (one_group h l world.hierarchy w.groups world.tables.groups number has.number group has.group there has.there name) in
    let one : has.group ≡ group = let f : Some has.group ≡ Some group = sym has.there ∙ (ap (slice_get w.groups) same ∙ there) in cc (f) in
    let of : has.class ≡ c = let f : Some has.class ≡ Some c = sym has.of_class ∙ (ap class_of view ∙ class) in cc (f) in
    let point : IsPointOf h l (part_view d it.view has.class) (tables_at w has.number has.group) it.served has.point = has.is_point in (
      has.point,
      source_vtt (fixed w) vtt (whose_of form) c.0 n a has.point found (ap (word_at w.image) at_moved ∙ has.at_point),
      subst (λ (g : Group). IsPointOf h l (part_view d at c) (tables_at w number g) it.served has.point) one
          (subst (λ k. IsPointOf h l (part_view d at c) (tables_at w k has.group) it.served has.point) same
          (subst (λ (e : ClassId). IsPointOf h l (part_view d at e) (tables_at w has.number has.group) it.served has.point) of
          (subst (λ (s : Subobject). IsPointOf h l (part_view d s has.class) (tables_at w has.number has.group) it.served has.point) view point))),
      has.at_point,
    )

-- where its block stands
pub block_tabled : (w : World) → IsProgramWorld w → (d c : ClassId) (at : Subobject) (a : ℕ) → class_of at ≡ Some c → HasSubVtt (world_classes w) (places_in w) (placed_groups w) d at c a → (form : Form) (handed : Handed) → vtt_of (fixed w) handed (whose_of form) c.0 ≡ Some a → (form ≡ AsBase → a ≡ handed.vtt)
    → IsTabled w (part_view d at c) form c handed true
block_tabled w world d c at a class block form handed found own =
    let h = world_classes w in
    let l = places_in w in
    let keeps = world.hierarchy in
    let first_item = block.each 0 (item at (whole_of c)) (first_word h keeps l at c) in
    let of = item_point w world d c at (item at (whole_of c)) a 0 first_item.number first_item.group class refl first_item.there first_item.named first_item handed form found in
    record {
      number = first_item.number;
      group = first_item.group;
      there = first_item.there;
      named = first_item.named;
      point = of.0;
      is_point = of.2;
      own = of.1;
      word = λ i valid needs virtual.
          let r = item_point w world d c at (item at i) a (item_number h l c i) first_item.number first_item.group class refl first_item.there first_item.named (block.each (item_number h l c i) (item at i) (word_stands h keeps l at c i valid needs)) handed form found in (r.0, r.1, r.2);
      first_word = λ base virtual. let start : a + 8 * 0 ≡ a = omega arith in ap (word_at w.image) (sym (start ∙ own base)) ∙ of.3;
    }

pub vtt_there : (at : ℕ) (words : List VttWord) → 0 < length words → vtt_address at words ≡ at
vtt_there at [] some = absurd (omega arith)
vtt_there at (word ∷ words) some = refl

-- the block of a frame's own view: by the directory, or handed to it
pub record HasOwnBlock (w : World) (form : Form) (c d : ClassId) (at : Subobject) (handed : Handed) : Type 0 where
  pub block : ℕ
  pub found : vtt_of (fixed w) handed (whose_of form) c.0 ≡ Some block
  pub stands : HasSubVtt (world_classes w) (places_in w) (placed_groups w) d at c block
  pub own : form ≡ AsBase → block ≡ handed.vtt

pub own_block : (w : World) → IsProgramWorld w → (g : Heap) (form : Form) (c d : ClassId) (p : ObjectPart) (stack : List Subobject) (handed : Handed) → c.0 < length (world_classes w) → StandsOnStack form c d p stack → IsHandedBy w g form c d p stack handed → has_vtt (world_classes w) c ≡ true → HasOwnBlock w form c d p.at handed
own_block w world g InFull c d p stack handed known stands is virtual =
    let h = world_classes w in
    let l = places_in w in
    let tables = world.tables in
    let r = get_within w.vtts c.0 (let size = tables.one_vtt_each in omega arith) in
    let along : IsVtt h l c r.0 = subst (λ b. GoAlong (IsVttWord h l c) (if b then vtt_items h l c else []) r.0) virtual (tables.vtts c r.0 r.1) in
    let some : 0 < length r.0 = let size = along.size in let less = slice_get_within (vtt_items h l c) (0 + 0) (item (whole_of c) (whole_of c)) ((whole_stands h l c).each 0 (item (whole_of c) (whole_of c)) (first_word h world.hierarchy l (whole_of c) c)) in omega arith in
    let directory = tables.stand.directory c r.0 r.1 in
    let block = whole_block h l w.numbers w.groups w.vtts w.infos w.addresses w.image.base (word_at w.image) tables.stand c r.0 r.1 along in
    record {
      block = w.addresses.vtt c;
      found = directory.at_vtt ∙ ap (λ a. Some a) (vtt_there (w.addresses.vtt c) r.0 some);
      stands = subst (λ (e : ClassId). HasSubVtt h l (placed_groups w) e p.at c (w.addresses.vtt c)) (sym stands.2) (subst (λ (s : Subobject). HasSubVtt h l (placed_groups w) c s c (w.addresses.vtt c)) (sym stands.1) block);
      own = λ e. absurd (cc);
    }
own_block w world g AsBase c d p [] handed known stands is virtual = absurd is
own_block w world g AsBase c d p (y ∷ rest) handed known stands is virtual = record { block = handed.vtt; found = refl; stands = is.vtt virtual; own = λ e. refl }

-- by the directory

first_serves : (w : World) → IsProgramWorld w → (x : View) → IsDynamic (world_classes w) x.class → (slice_get (heads (world_classes w) (places_in w) x) 0 ≡ Some (whole_of x.class)) × Serves (world_classes w) (places_in w) x (whole_of x.class) (whole_of x.class)
first_serves w world x dynamic =
    let h = world_classes w in
    let l = places_in w in
    let top = (first_run h world.hierarchy l x).there 0 (whole_of x.class) (run_first h l x.class world.hierarchy dynamic) in
    let passes = from_filter (is_head h l x) (by_part h x.class) (whole_of x.class) (record { index = 0; there = top }) in
    (top, record { valid = whole_is [] tt; head = passes.1; steps = 0; leads = refl })

pub directory_tabled : (w : World) → IsProgramWorld w → (c : ClassId) → c.0 < length (world_classes w) → has_vtt (world_classes w) c ≡ false → IsDynamic (world_classes w) c → (form : Form) (handed : Handed) → IsTabled w (part_view c (whole_of c) c) form c handed false
directory_tabled w world c known none dynamic form handed =
    let tables = world.tables in
    let r = get_within w.vtts c.0 (let size = tables.one_vtt_each in omega arith) in
    let directory = tables.stand.directory c r.0 r.1 in
    by_point directory.point directory.at_point directory.is_point
  where
    by_point : (point : ℕ) → word_at w.image (w.image.base + 16 * c.0) ≡ Some point → IsFirstPoint w.groups w.addresses.group c point → IsTabled w (part_view c (whole_of c) c) form c handed false
    by_point point at (first is) = let x = part_view c (whole_of c) c in let serves = first_serves w world x dynamic in record {
      number = is.number;
      group = is.group;
      there = is.there;
      named = is.named;
      point = point;
      is_point = record { number = 0; head = whole_of c; at_head = serves.0; serves = serves.1; is = is.point };
      own = at;
      word = λ i valid needs virtual. absurd (cc);
      first_word = λ base virtual. absurd (cc);
    }
    by_point point at (no_group each zero_point) = let has = whole_group (world_classes w) (places_in w) world.hierarchy w.groups world.tables.groups c known none dynamic in absurd (each has.0 has.1 has.2 has.3)
