-- The sub-VTTs of a VTT in an image, and the address points of the first tables of a group.
use Rattle.std.proofs.Common.{◌≡◌, ℕ, ◌+◌, ◌*◌, false, Some, List, [], refl, ap, subst, sym, ◌∙◌, arith}
use Rattle.std.specs.Prelude.{slice_get}
use Rattle.cxx_hierarchy.specs.declared.records.ClassId.{ClassId}
use Rattle.cxx_hierarchy.specs.Classes.{Classes}
use Rattle.cxx_hierarchy.specs.Hierarchies.{IsHierarchy}
use Rattle.cxx_hierarchy.specs.VirtualBases.{IsDirectBase, HasVirtualBase}
use Rattle.cxx_subobject.specs.declared.Subobject.{Subobject}
use Rattle.cxx_subobject.specs.Subobjects.{whole, whole_of, shared_base}
use Rattle.abi_sound.specs.Places.{Places}
use Rattle.abi_slots.specs.declared.code_numbers.CodeRow.{CodeRow}
use Rattle.abi_slots.specs.declared.words.Group.{Group}
use Rattle.abi_slots.specs.declared.words.GroupName.{GroupName}
use Rattle.abi_slots.specs.declared.words.TypeInfo.{TypeInfo}
use Rattle.abi_slots.specs.declared.words.VttWord.{VttWord}
use Rattle.abi_slots.specs.Images.{Image, Addresses, HasTables, point_words, point_at}
use Rattle.abi_slots.specs.Seen.{PlacedTables, IsPointOf}
use Rattle.abi_slots.specs.Views.{is_head, by_part, Serves}
use Rattle.abi_slots.specs.Groups.{view_of_group, IsGroup}
use Rattle.abi_slots.proofs.Chains.{Setting}
use Rattle.abi_slots.proofs.HeadsOnce.{one_number}
use Rattle.abi_slots.proofs.Lists.{from_filter}
use Rattle.abi_slots.proofs.OneHead.{one_head}
use Rattle.abi_slots.proofs.WordPlaces.{partner}
use Rattle.abi_vtt.specs.Vtts.{VttEntry, IsVttWord, IsVtt, extended_by, vtt_items}
use Rattle.abi_vtt.specs.Blocks.{block, StandsIn, block_distance, shared_distance, table_run, run_distance}
use Rattle.abi_vtt.specs.VttImages.{PlacedGroups, HasItem, HasSubVtt}
use Rattle.abi_vtt.proofs.BlockLemmas.{whole_stands, base_stands, shared_stands}
use Rattle.abi_vtt.proofs.RunLemmas.{first_run}
use Rattle.abi_vtt.proofs.RunWords.{run_apart, run_first, run_valid}

-- a sub-VTT that stands in another one
pub block_inside : (h : Classes) (l : Places) (p : PlacedGroups) (c : ClassId) (x y : Subobject) (d e : ClassId) (at n : ℕ) → HasSubVtt h l p c x d at → StandsIn (block h l x d) n (block h l y e) → HasSubVtt h l p c y e (at + 8 * n)
block_inside h l p c x y d e at n has there = record {
  each = λ i it is.
      let same : at + 8 * (n + i) ≡ at + 8 * n + 8 * i = omega arith in
      subst (HasItem h l p c it) same (has.each (n + i) it (there.each i it is));
}

pub base_block : (h : Classes) (l : Places) (p : PlacedGroups) (c : ClassId) (x : Subobject) (d b v : ClassId) (at : ℕ) → IsHierarchy h → IsDirectBase h d false b → HasVirtualBase h b v → HasSubVtt h l p c x d at → HasSubVtt h l p c (extended_by x b) b (at + 8 * block_distance h l d b)
base_block h l p c x d b v at keeps edge has there =
    let z : 0 + block_distance h l d b ≡ block_distance h l d b = omega arith in
    block_inside h l p c x (extended_by x b) d b at (block_distance h l d b) there (subst (λ k. StandsIn (block h l x d) k (block h l (extended_by x b) b)) z (base_stands h keeps l x d b v (block h l x d) 0 edge has (record { each = λ i it e. let z : 0 + i ≡ i = omega arith in subst (λ k. slice_get (block h l x d) k ≡ Some it) (sym z) e })))

module _ (h : Classes) (l : Places) (codes : List CodeRow) (groups : List Group) (vtts : List (List VttWord)) (infos : List TypeInfo) (a : Addresses) (base : ℕ) (image : Image) (has : HasTables codes groups vtts infos a base image) (c : ClassId) (words : List VttWord) (of : slice_get vtts c.0 ≡ Some words) (vtt : IsVtt h l c words) where
  abbrev pub placed : PlacedGroups
  placed = record { image = image; codes = codes; groups = groups; addresses = a }

  by_word : (i : ℕ) (it : VttEntry) (word : VttWord) → slice_get words i ≡ Some word → IsVttWord h l c it word → HasItem h l placed c it (a.vtt c + 8 * i)
  by_word i it word there is =
      let r = has.each_vtt c words i word of there in
      let point = r.2 in
      let make : ClassId → Subobject → GroupName = λ e x. record { complete = e; view = x } in
      record {
        number = point.number;
        group = point.group;
        there = point.there;
        named = point.named ∙ ap (λ e. make e word.group.view) is.complete ∙ ap (make c) is.view;
        class = is.class;
        of_class = is.of_class;
        point = r.0;
        at_point = r.1;
        is_point = record { number = word.table; head = is.head; at_head = is.there; serves = is.serves; is = point.point };
      }

  item_there : (i : ℕ) (it : VttEntry) → slice_get (vtt_items h l c) i ≡ Some it → HasItem h l placed c it (a.vtt c + 8 * i)
  item_there i it e = let r = partner (IsVttWord h l c) (vtt_items h l c) words vtt i it e in by_word i it r.0 r.1 r.2

  block_there : (x : Subobject) (d : ClassId) (n : ℕ) → StandsIn (vtt_items h l c) n (block h l x d) → HasSubVtt h l placed c x d (a.vtt c + 8 * n)
  block_there x d n there = record {
    each = λ i it e.
        let same : a.vtt c + 8 * (n + i) ≡ a.vtt c + 8 * n + 8 * i = omega arith in
        subst (HasItem h l placed c it) same (item_there (n + i) it (there.each i it e));
  }

  pub whole_block : HasSubVtt h l placed c (whole_of c) c (a.vtt c)
  whole_block = let zero_on : a.vtt c + 8 * 0 ≡ a.vtt c = omega arith in subst (HasSubVtt h l placed c (whole_of c) c) zero_on (block_there (whole_of c) c 0 (whole_stands h l c))

  pub shared_block : (v w : ClassId) → IsHierarchy h → HasVirtualBase h c v → HasVirtualBase h v w → HasSubVtt h l placed c (shared_base v) v (a.vtt c + 8 * shared_distance h l c v)
  shared_block v w keeps virtual more = block_there (shared_base v) v (shared_distance h l c v) (shared_stands h keeps l c v w virtual more)

-- from the first address point of a group to those of the run
pub run_point : (h : Classes) (l : Places) (group : Group) (of : IsGroup h l group) → Setting h l (view_of_group group of.class) → (placed : PlacedTables) (n : ℕ) (s : Subobject) (first : ℕ) → placed.tables ≡ group.tables → IsPointOf h l (view_of_group group of.class) placed (whole_of of.class) first → slice_get (table_run h l of.class) n ≡ Some s → IsPointOf h l (view_of_group group of.class) placed s (first + 8 * run_distance h l of.class n)
run_point h l group of set placed n s first same at_first e =
    let x = view_of_group group of.class in
    let runs = first_run h set.keeps l x in
    let top = runs.there 0 (whole_of of.class) (run_first h l of.class set.keeps of.view.dynamic) in
    let there = runs.there n s e in
    let passes = from_filter (is_head h l x) (by_part h of.class) (whole_of of.class) (record { index = 0; there = top }) in
    let mine = from_filter (is_head h l x) (by_part h of.class) s (record { index = n; there = there }) in
    let itself : Serves h l x (whole_of of.class) (whole_of of.class) = record { valid = whole [] tt; head = passes.1; steps = 0; leads = refl } in
    let head : at_first.head ≡ whole_of of.class = one_head h l x set at_first.head (whole_of of.class) (whole_of of.class) at_first.serves itself in
    let number : at_first.number ≡ 0 = one_number h l x at_first.number 0 (whole_of of.class) (at_first.at_head ∙ ap (λ t. Some t) head) top in
    let apart : point_words placed.tables n ≡ point_words placed.tables 0 + run_distance h l of.class n = subst (λ ts. point_words ts n ≡ point_words ts 0 + run_distance h l of.class n) (sym same) (run_apart h l group n s set.keeps of e) in
    let is : first ≡ placed.at + 8 * point_words placed.tables 0 = at_first.is ∙ ap (point_at placed.at placed.tables) number in
    record { number = n; head = s; at_head = there; serves = record { valid = run_valid h set.keeps l of.class n s e; head = mine.1; steps = 0; leads = refl }; is = omega arith }
