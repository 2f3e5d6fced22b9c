-- The tables of a world stand below the records of its classes.
use Rattle.std.proofs.Common.{◌≡◌, ℕ, zero, suc, ◌+◌, ◌-◌, ◌<◌, ◌≤◌, Some, List, [], ◌∷◌, reverse, length, ap, sym, ◌∙◌, arith}
use Rattle.std.specs.Prelude.{slice_get}
use Rattle.std.proofs.lemmas.List.{length-append, length-reverse}
use Rattle.std.proofs.lemmas.Option.{slice_get_within}
use Rattle.foundation.proofs.Places.{get_within}
use Rattle.cxx_hierarchy.specs.declared.records.ClassId.{ClassId}
use Rattle.cxx_hierarchy.specs.Classes.{Classes}
use Rattle.cxx_subobject.specs.declared.Subobject.{Subobject}
use Rattle.cxx_subobject.specs.Subobjects.{class_of}
use Rattle.abi_sound.specs.Places.{Places}
use Rattle.abi_slots.specs.declared.words.GroupName.{GroupName}
use Rattle.abi_slots.specs.declared.words.Table.{Table}
use Rattle.abi_slots.specs.Groups.{IsTable, view_of_group}
use Rattle.abi_slots.specs.Images.{all_words, point_at, point_words}
use Rattle.abi_slots.specs.Seen.{IsPointOf, PlacedTables}
use Rattle.abi_slots.specs.Views.{View, heads}
use Rattle.agree_relation.specs.Columns.{ArePlacedFor}
use Rattle.agree_relation.specs.Worlds.{World, IsProgramWorld, world_classes, places_in}
use Rattle.agree_relation.proofs.Tables.{group_is}

-- of the words of tables so many at least stand before an address point, and there are some
record HasPoint (tables : List Table) (n : ℕ) : Type 0 where
  some : 0 < point_words tables n
  few : point_words tables n ≤ length (all_words tables)

has_point : (tables : List Table) (n : ℕ) (table : Table) → slice_get tables n ≡ Some table → 0 < table.before → table.before ≤ length table.words → HasPoint tables n
has_point [] n table there some few = absurd (cc)
has_point (t ∷ tables) zero table there some few =
    let same : t ≡ table = cc (there) in
    let before : t.before ≡ table.before = ap (λ (a : Table). a.before) same in
    let words : length t.words ≡ length table.words = ap (λ (a : Table). length a.words) same in
    let all = length-append t.words (all_words tables) in
    record { some = omega arith; few = omega arith }
has_point (t ∷ tables) (suc n) table there some few =
    let more = has_point tables n table there some few in
    let all = length-append t.words (all_words tables) in
    let less = more.few in
    let least = more.some in
    record { some = omega arith; few = omega arith }

-- a table has the words before its address point, the last two of which each table has
record HasFront (table : Table) : Type 0 where
  some : 0 < table.before
  few : table.before ≤ length table.words

has_front : (h : Classes) (l : Places) (x : View) (head : Subobject) (table : Table) → IsTable h l x head table → HasFront table
has_front h l x head table is =
    let turned = length-reverse is.offset_words in
    let words = ap length is.words ∙ length-append (reverse is.offset_words) _ in
    let before = is.before in
    record { some = omega arith; few = omega arith }

-- an address point of the group of a view
pub point_below : (w : World) (x : View) (placed : PlacedTables) → IsProgramWorld w → ArePlacedFor w x placed → class_of x.at_sub ≡ Some x.class → (s : Subobject) (point : ℕ) → IsPointOf (world_classes w) (places_in w) x placed s point → point ≤ w.addresses.records
point_below w x placed world stand class s point at =
    let h = world_classes w in
    let l = places_in w in
    let of = group_is w stand.number stand.group world stand.there in
    let both : Some x.class ≡ Some of.class = sym class ∙ (ap (λ (n : GroupName). class_of n.view) (sym stand.named) ∙ of.view.of_class) in
    let same : of.class ≡ x.class = cc in
    let view : view_of_group stand.group of.class ≡ x = λ i. record { complete = (stand.named i).complete; at_sub = (stand.named i).view; class = same i } in
    let head : slice_get (heads h l (view_of_group stand.group of.class)) at.number ≡ Some at.head = ap (λ (v : View). slice_get (heads h l v) at.number) view ∙ at.at_head in
    let size = of.tables.size in
    let within = slice_get_within (heads h l (view_of_group stand.group of.class)) at.number at.head head in
    let table = get_within stand.group.tables at.number (omega arith) in
    let front = has_front h l (view_of_group stand.group of.class) at.head table.0 (of.tables.each at.number at.head table.0 head table.1) in
    let has = has_point stand.group.tables at.number table.0 table.1 front.some front.few in
    let some = has.some in
    let few = has.few in
    let last = get_within (all_words stand.group.tables) (point_words stand.group.tables at.number - 1) (omega arith) in
    let below = world.tables.stand.below.group stand.number (point_words stand.group.tables at.number - 1) stand.group last.0 stand.there last.1 in
    let is : point ≡ point_at (w.addresses.group stand.number) stand.group.tables at.number = at.is ∙ ap (λ (p : PlacedTables). point_at p.at p.tables at.number) stand.is in
    omega arith

-- and the record of a class
pub record_above : (w : World) (c : ClassId) → IsProgramWorld w → c.0 < length (world_classes w) → w.addresses.records ≤ w.addresses.info c
record_above w c world known =
    let size = world.tables.one_info_each in
    let info = get_within w.infos c.0 (omega arith) in
    world.tables.stand.below.info c info.0 info.1
