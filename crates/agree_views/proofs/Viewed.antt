-- The virtual pointers of a part that stand make it a view of which the laws of tables tell.
use Rattle.std.proofs.Common.{◌≡◌, ℕ, ◌<◌, Bool, true, false, Some, List, [], ◌∷◌, length, refl, ap, subst, sym, ◌∙◌, arith}
use Rattle.std.specs.Prelude.{slice_get, get_or, if◌then◌else◌}
use Rattle.std.proofs.lemmas.Option.{slice_get-get_or}
use Rattle.cxx_hierarchy.specs.declared.records.ClassId.{ClassId}
use Rattle.cxx_subobject.specs.declared.Subobject.{Subobject}
use Rattle.cxx_subobject.specs.Subobjects.{IsSubobject, whole, whole_of}
use Rattle.cxx_subobject.specs.VirtualBases.{virtual_bases}
use Rattle.cxx_subobject.specs.Locations.{ObjectPart}
use Rattle.path_plan.specs.Places.{part}
use Rattle.path_model.specs.Values.{inner_part}
use Rattle.path_model.specs.Places.{owner_class}
use Rattle.abi_slots.specs.declared.words.Group.{Group}
use Rattle.abi_slots.specs.declared.words.GroupName.{GroupName}
use Rattle.abi_slots.specs.declared.words.TypeInfo.{TypeInfo}
use Rattle.abi_slots.specs.declared.words.TypeInfo.TheVariants.{Plain}
use Rattle.abi_slots.specs.Groups.{IsGroup}
use Rattle.abi_slots.specs.Images.{HasInfo}
use Rattle.abi_slots.specs.Views.{View, IsView}
use Rattle.abi_slots.specs.Seen.{PlacedTables, IsPointOf}
use Rattle.abi_vtt.specs.Vtts.{has_vtt, is_filled}
use Rattle.abi_tables.specs.Tables.{names_to}
use Rattle.agree_parts.specs.Heaps.{Heap}
use Rattle.agree_parts.specs.Addresses.{address}
use Rattle.agree_parts.proofs.Made.{owner_there, whole_owner}
use Rattle.agree_parts.proofs.Inside.{known_class, part_limit}
use Rattle.agree_parts.proofs.Objects.{also_there}
use Rattle.agree_parts.proofs.Sums.{in_view}
use Rattle.byte_memory.specs.Store.{Store}
use Rattle.byte_code.specs.Images.{word_at}
use Rattle.byte_machine.specs.Running.{table_of}
use Rattle.agree_relation.specs.Worlds.{World, IsProgramWorld, world_classes, places_in}
use Rattle.agree_relation.specs.Columns.{group_view, ArePlacedFor}
use Rattle.agree_dispatch.specs.Standing.{IsViewAt, LieAlike, ArePointed, address_in_object}
use Rattle.agree_dispatch.proofs.Viewing.{lie_alone, seen_placed}
use Rattle.agree_views.specs.Views.{IsStandingView}

-- the tables of a group where they stand
abbrev pub placed_in : World → ℕ → Group → PlacedTables
placed_in w number group = record { image = word_at w.image; codes = w.numbers; info = w.addresses.info; tables = group.tables; at = w.addresses.group number }

-- the class numbers of records
pub info_there : (w : World) → IsProgramWorld w → (c : ClassId) → c.0 < length (world_classes w) → (t : TypeInfo) × HasInfo (word_at w.image) w.addresses.info c t (w.addresses.info c)
info_there w is c known =
    let size = is.tables.one_info_each in
    let t = get_or w.infos c.0 Plain in
    (t, is.tables.stand.each_info c t (slice_get-get_or w.infos c.0 Plain (omega arith)))

module _ (w : World) (g : Heap) (memory : Store) (q : ObjectPart) (c d : ClassId) (v : IsStandingView w g memory q c d) where
  -- where the complete object starts
  abbrev pub start : ℕ
  start = address (world_classes w) (places_in w) g (part q.object q.owner (whole_of d))

  pub owner : owner_class (world_classes w) g.classes q.object q.owner ≡ Some d
  owner = whole_owner (world_classes w) g (part q.object q.owner (whole_of d)) d v.complete refl

  pub valid : IsSubobject (world_classes w) d q.at
  valid =
      let o = owner_there (world_classes w) g q c v.made in
      let both : Some o.0 ≡ Some d = sym o.1 ∙ owner in
      let same : o.0 ≡ d = cc in
      subst (λ (e : ClassId). IsSubobject (world_classes w) e q.at) same o.2

  pub complete_known : d.0 < length (world_classes w)
  complete_known = known_class (world_classes w) w.setup.rows g (part q.object q.owner (whole_of d)) d v.laid v.complete

  pub class_known : c.0 < length (world_classes w)
  class_known = known_class (world_classes w) w.setup.rows g q c v.laid v.made

  pub part_address : (s : Subobject) → IsSubobject (world_classes w) c s → address (world_classes w) (places_in w) g (inner_part q s) ≡ address_in_object (places_in w) d (address (world_classes w) (places_in w) g (part q.object q.owner (whole_of d))) q.at s
  part_address s there = in_view (world_classes w) w.setup.rows g q c d s v.made owner there

  -- the view whose group serves the part, as one of class c
  pub record HasView : Type 0 where
    pub complete : ClassId
    pub at_sub : Subobject
    pub number : ℕ
    pub group : Group
    pub stands : IsViewAt (world_classes w) w.setup.rows w.image memory d (address (world_classes w) (places_in w) g (part q.object q.owner (whole_of d))) q.at (record { complete = complete; at_sub = at_sub; class = c }) (placed_in w number group)

  -- the group of a name
  group_named : (number : ℕ) (group : Group) → slice_get w.groups number ≡ Some group → IsGroup (world_classes w) (places_in w) group
  group_named number group there =
      let are = v.world.tables.groups in
      let name = also_there w.groups (names_to (world_classes w) (length (world_classes w))) number group (sym are.size) there in
      (are.each number name.0 group name.1 there).group

  viewed : (e : ClassId) (s : Subobject) → group_view w d q.at c ≡ record { complete = e; at_sub = s; class = c } → IsView (world_classes w) (record { complete = e; at_sub = s; class = c }) →
      LieAlike (world_classes w) (places_in w) d (address (world_classes w) (places_in w) g (part q.object q.owner (whole_of d))) q.at (record { complete = e; at_sub = s; class = c }) → HasView
  viewed e s is view alike =
      let h = world_classes w in
      let l = places_in w in
      let x : View = record { complete = e; at_sub = s; class = c } in
      let p = v.pointers in
      let stand = subst (λ (z : View). ArePlacedFor w z p.placed) is p.stand in
      let placed = placed_in w stand.number stand.group in
      let named = stand.named in
      let seen = seen_placed h w.setup.rows stand.group x placed v.world.hierarchy v.world.faultless v.world.sound (group_named stand.number stand.group stand.there) (ap (λ (n : GroupName). n.complete) named) (ap (λ (n : GroupName). n.view) named) view.of_class refl
      (v.world.tables.stand.each_group stand.number stand.group stand.there) in
      let pointed : ArePointed h l memory d start q.at x placed = λ i f there class dynamic.
      let r = p.pointer i f there class dynamic in
      (r.0, sym (ap (table_of memory) (part_address i there)) ∙ r.1, subst (λ (t : PlacedTables). IsPointOf h l x t i r.0) stand.is (subst (λ (z : View). IsPointOf h l z p.placed i r.0) is r.2)) in
      let low = part_limit h w.setup.rows g (part q.object q.owner (whole_of d)) d v.laid v.complete in
      let few = (v.world.sound.each d complete_known).bounded in
      record {
        complete = e;
        at_sub = s;
        number = stand.number;
        group = stand.group;
        stands = record {
          keeps = v.world.hierarchy;
          faultless = v.world.faultless;
          sound = v.world.sound;
          low = v.world.small;
          known = complete_known;
          valid = valid;
          of_class = v.made.of_class;
          view = view;
          seen = seen;
          image_is = refl;
          alike = alike;
          pointed = pointed;
          fits = omega arith;
        };
      }

  none_filled : (xs : List ClassId) → is_filled xs ≡ false → xs ≡ []
  none_filled [] e = refl
  none_filled (x ∷ xs) e = cc

  pub has_view : HasView
  has_view = by_virtual (has_vtt (world_classes w) c) refl
    where
      by_virtual : (b : Bool) → has_vtt (world_classes w) c ≡ b → HasView
      by_virtual true e =
          let own : View = record { complete = d; at_sub = q.at; class = c } in
          let alone : View = record { complete = c; at_sub = whole_of c; class = c } in
          viewed d q.at (ap (λ b. if b then own else alone) e) (record { known = complete_known; valid = valid; of_class = v.made.of_class; dynamic = v.dynamic }) (record { start = start; each = λ s there. refl })
      by_virtual false e =
          let own : View = record { complete = d; at_sub = q.at; class = c } in
          let alone : View = record { complete = c; at_sub = whole_of c; class = c } in
          viewed c (whole_of c) (ap (λ b. if b then own else alone) e) (record { known = class_known; valid = whole [] tt; of_class = refl; dynamic = v.dynamic })
          (lie_alone (world_classes w) w.setup.rows d c start q.at v.world.hierarchy valid v.made.of_class (none_filled (virtual_bases (world_classes w) c) e))
