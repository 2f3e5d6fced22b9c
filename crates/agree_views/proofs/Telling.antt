-- What tables tell of the parts of a view, by their addresses.
use Rattle.std.proofs.Common.{◌≡◌, ℕ, ◌+◌, Some, ap, subst, sym, ◌∙◌, arith}
use Rattle.std.specs.Prelude.{Contains}
use Rattle.cxx_hierarchy.specs.declared.records.ClassId.{ClassId}
use Rattle.cxx_hierarchy.specs.VirtualBases.{HasVirtualBase}
use Rattle.cxx_subobject.specs.declared.Root.TheVariants.{Whole, Shared}
use Rattle.cxx_subobject.specs.declared.Subobject.{Subobject}
use Rattle.cxx_subobject.specs.Subobjects.{IsSubobject, class_of, join, shared_base, whole_of}
use Rattle.cxx_subobject.specs.Locations.{ObjectPart}
use Rattle.cxx_subobject.proofs.InsideLemmas.{join_join, join_valid}
use Rattle.cxx_overrider.specs.declared.FunctionId.{FunctionId}
use Rattle.cxx_overrider.specs.declared.Overrider.{Overrider}
use Rattle.cxx_search.specs.Searches.{final_in}
use Rattle.cxx_search.proofs.Finals.{found_final}
use Rattle.path_plan.specs.Places.{part}
use Rattle.path_model.specs.Values.{inner_part}
use Rattle.path_model.specs.TypedStates.{IsPartMade}
use Rattle.abi_primary.specs.Kinds.{IsDynamic}
use Rattle.abi_slots.specs.declared.words.EntryKey.{EntryKey}
use Rattle.abi_slots.specs.Groups.{return_for}
use Rattle.abi_slots.specs.Images.{return_constant, return_vbase}
use Rattle.abi_slots.specs.Listing.{own_keys, vbase_number}
use Rattle.abi_slots.specs.Slots.{word_number}
use Rattle.abi_slots.specs.Views.{View}
use Rattle.abi_slots.specs.Seen.{PlacedTables}
use Rattle.agree_parts.specs.Heaps.{Heap}
use Rattle.agree_parts.specs.Addresses.{address}
use Rattle.agree_parts.specs.Placed.{AreObjectsLaid}
use Rattle.agree_parts.proofs.Made.{owner_there, other_made, complete_made}
use Rattle.agree_parts.proofs.Inside.{known_complete, part_limit}
use Rattle.agree_parts.proofs.Sums.{from_complete, in_view}
use Rattle.byte_memory.specs.Store.{Store}
use Rattle.byte_code.specs.Numbers.{word_of}
use Rattle.byte_machine.specs.Plans.{word_offset}
use Rattle.agree_dispatch.specs.Standing.{address_in_object}
use Rattle.agree_dispatch.specs.Words.{HasEntryWord, MovesTo, NamesClass}
use Rattle.agree_dispatch.specs.Results.{IsMoved, Returns}
use Rattle.agree_dispatch.proofs.Reading.{base_valid, to_vbase, to_top, to_type}
use Rattle.agree_dispatch.proofs.Running.{entry_runs}
use Rattle.agree_dispatch.proofs.Moving.{moved_plain, moved_shared}
use Rattle.agree_relation.specs.Worlds.{World, IsProgramWorld, world_classes, places_in}
use Rattle.agree_views.specs.Views.{IsStandingView}
use Rattle.agree_views.proofs.Viewed.{placed_in, info_there, owner, valid, class_known, part_address, HasView, has_view}

module _ (w : World) (g : Heap) (memory : Store) (q : ObjectPart) (c d : ClassId) (v : IsStandingView w g memory q c d) where
  abbrev at : ℕ
  at = address (world_classes w) (places_in w) g (part q.object q.owner (whole_of d))

  abbrev of : HasView w g memory q c d v
  of = has_view w g memory q c d v

  abbrev x : View
  x = record { complete = (has_view w g memory q c d v).complete; at_sub = (has_view w g memory q c d v).at_sub; class = c }

  abbrev placed : PlacedTables
  placed = placed_in w (has_view w g memory q c d v).number (has_view w g memory q c d v).group

  pub told_vbase : (s : Subobject) (e u : ClassId) → IsSubobject (world_classes w) c s → class_of s ≡ Some e → HasVirtualBase (world_classes w) e u →
      MovesTo w.image memory (address (world_classes w) (places_in w) g (inner_part q s)) (word_offset (word_number (vbase_number (world_classes w) (places_in w) e u))) (address (world_classes w) (places_in w) g (part q.object q.owner (shared_base u)))
  told_vbase s e u there class has =
      let bytes = word_offset (word_number (vbase_number (world_classes w) (places_in w) e u)) in
      let m = to_vbase (world_classes w) w.setup.rows w.image memory d at q.at x placed of.stands s e u there class has in
      let base = base_valid (world_classes w) w.setup.rows w.image memory d at q.at x placed of.stands s e u there class has in
      subst (λ a. MovesTo w.image memory a bytes (address (world_classes w) (places_in w) g (part q.object q.owner (shared_base u)))) (sym (part_address w g memory q c d v s there))
      (subst (λ a. MovesTo w.image memory (address_in_object (places_in w) d at q.at s) bytes a) (sym (part_address w g memory q c d v (shared_base u) base)) m)

  pub told_top : (s : Subobject) (e : ClassId) → IsSubobject (world_classes w) c s → class_of s ≡ Some e → IsDynamic (world_classes w) e →
      MovesTo w.image memory (address (world_classes w) (places_in w) g (inner_part q s)) 18446744073709551600 (address (world_classes w) (places_in w) g q)
  told_top s e there class dynamic =
      let m = to_top (world_classes w) w.setup.rows w.image memory d at q.at x placed of.stands s e there class dynamic in
      subst (λ a. MovesTo w.image memory a 18446744073709551600 (address (world_classes w) (places_in w) g q)) (sym (part_address w g memory q c d v s there))
      (subst (λ a. MovesTo w.image memory (address_in_object (places_in w) d at q.at s) 18446744073709551600 a) (sym (from_complete (world_classes w) w.setup.rows g q c d v.made (owner w g memory q c d v))) m)

  pub told_type : (s : Subobject) (e : ClassId) → IsSubobject (world_classes w) c s → class_of s ≡ Some e → IsDynamic (world_classes w) e → NamesClass w.image memory (address (world_classes w) (places_in w) g (inner_part q s)) c.0
  told_type s e there class dynamic =
      let info = info_there w v.world c (class_known w g memory q c d v) in
      subst (λ a. NamesClass w.image memory a c.0) (sym (part_address w g memory q c d v s there))
      (to_type (world_classes w) w.setup.rows w.image memory d at q.at x placed of.stands s e info.0 there class dynamic info.1)

  pub told_entry : (s : Subobject) (k : EntryKey) (o : Overrider) → IsSubobject (world_classes w) c s → class_of s ≡ Some k.function.class → Contains (own_keys (world_classes w) k.function.class) k → final_in (world_classes w) q.at (join q.at s) k.function ≡ Some o →
      HasEntryWord (world_classes w) (places_in w) w.image w.numbers memory k o (address (world_classes w) (places_in w) g (inner_part q s)) (address (world_classes w) (places_in w) g (part q.object q.owner o.at))
  told_entry s k o there class own found =
      let run = entry_runs (world_classes w) w.setup.rows w.image memory d at q.at x placed of.stands s k o there class own found in
      let cand = (found_final (world_classes w) v.world.hierarchy d q.at (valid w g memory q c d v) (join q.at s) k.function o found).candidate.candidate in
      let made = other_made (world_classes w) g q c d o.function.class o.at v.made (owner w g memory q c d v) cand.valid cand.class in
      let target = from_complete (world_classes w) w.setup.rows g (part q.object q.owner o.at) o.function.class d made (owner w g memory q c d v) in
      subst (λ a. HasEntryWord (world_classes w) (places_in w) w.image w.numbers memory k o a (address (world_classes w) (places_in w) g (part q.object q.owner o.at))) (sym (part_address w g memory q c d v s there))
      (subst (λ a. HasEntryWord (world_classes w) (places_in w) w.image w.numbers memory k o (address_in_object (places_in w) d at q.at s) a) (sym target) run)

  pub told_result : (s : Subobject) (n f : FunctionId) (e u : ClassId) (i : Subobject) → IsSubobject (world_classes w) c s → class_of s ≡ Some e → Returns (world_classes w) n f e i → i.root ≡ Shared u →
      IsMoved w.image memory (address (world_classes w) (places_in w) g (inner_part q s)) (word_of (return_vbase (return_for (world_classes w) (places_in w) n f))) (word_of (return_constant (return_for (world_classes w) (places_in w) n f)))
      (address (world_classes w) (places_in w) g (inner_part (inner_part q s) i))
  told_result s n f e u i there class r root =
      let vbase = word_of (return_vbase (return_for (world_classes w) (places_in w) n f)) in
      let add = word_of (return_constant (return_for (world_classes w) (places_in w) n f)) in
      let m = moved_shared (world_classes w) w.setup.rows v.world.hierarchy v.world.faultless v.world.sound w.image memory d at q.at x placed s n f e u i of.stands there class r root in
      let inner = join_valid (world_classes w) c e s i there class r.valid in
      let same : address (world_classes w) (places_in w) g (inner_part (inner_part q s) i) ≡ address_in_object (places_in w) d at q.at (join s i) = ap (λ t. address (world_classes w) (places_in w) g (part q.object q.owner t)) (join_join (world_classes w) c e q.at s i there r.valid) ∙ part_address w g memory q c d v (join s i) inner in
      subst (λ a. IsMoved w.image memory a vbase add (address (world_classes w) (places_in w) g (inner_part (inner_part q s) i))) (sym (part_address w g memory q c d v s there))
      (subst (λ a. IsMoved w.image memory (address_in_object (places_in w) d at q.at s) vbase add a) (sym same) m)

-- the result of a part in no virtual base
pub plain_result : (w : World) (g : Heap) (memory : Store) (p : ObjectPart) (n f : FunctionId) (e : ClassId) (i : Subobject) → IsProgramWorld w → AreObjectsLaid (world_classes w) w.setup.rows g → IsPartMade (world_classes w) g.classes p e → Returns (world_classes w) n f e i → i.root ≡ Whole →
    IsMoved w.image memory (address (world_classes w) (places_in w) g p) (word_of (return_vbase (return_for (world_classes w) (places_in w) n f))) (word_of (return_constant (return_for (world_classes w) (places_in w) n f))) (address (world_classes w) (places_in w) g (inner_part p i))
plain_result w g memory p n f e i is laid made r root =
    let h = world_classes w in
    let l = places_in w in
    let vbase = word_of (return_vbase (return_for h l n f)) in
    let add = word_of (return_constant (return_for h l n f)) in
    let o = owner_there h g p e made in
    let d = o.0 in
    let first = address h l g (part p.object p.owner (whole_of d)) in
    let known = known_complete h w.setup.rows g p e d laid made o.1 in
    let low = part_limit h w.setup.rows g (part p.object p.owner (whole_of d)) d laid (complete_made h g p e d made o.1) in
    let few = (is.sound.each d known).bounded in
    let m = moved_plain h w.setup.rows is.hierarchy is.faultless is.sound w.image memory d first p.at n f e i known (omega arith) o.2 made.of_class r root in
    subst (λ a. IsMoved w.image memory a vbase add (address h l g (inner_part p i))) (sym (from_complete h w.setup.rows g p e d made o.1))
    (subst (λ a. IsMoved w.image memory (first + l.place d p.at) vbase add a) (sym (in_view h w.setup.rows g p e d i made o.1 r.valid)) m)
