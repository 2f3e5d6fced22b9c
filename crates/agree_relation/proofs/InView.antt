-- Whether a part lies in the view of its complete object: what the machine is told, and what the rule says.
use Rattle.std.proofs.Common.{◌≡◌, ℕ, ◌+◌, ◌*◌, ◌<◌, Bool, true, false, Option, Some, List, length, refl, ap, subst, sym, ◌∙◌, arith}
use Rattle.std.specs.Prelude.{not, IsSome}
use Rattle.foundation.proofs.Truth.{split, is_false, not_both}
use Rattle.cxx_hierarchy.specs.declared.records.ClassId.{ClassId}
use Rattle.cxx_subobject.specs.declared.Subobject.{Subobject}
use Rattle.cxx_subobject.specs.Subobjects.{IsSubobject, class_of}
use Rattle.cxx_subobject.specs.Locations.{ObjectPart}
use Rattle.cxx_subobject.proofs.InsideLemmas.{join_class}
use Rattle.cxx_search.specs.Searches.{is_within}
use Rattle.cxx_search.proofs.Within.{within_inside}
use Rattle.path_plan.specs.Places.{part}
use Rattle.path_plan.specs.Phases.{is_ready}
use Rattle.path_plan.specs.Views.{view}
use Rattle.path_model.specs.Values.{Objects}
use Rattle.path_model.specs.TypedStates.{IsPartMade}
use Rattle.path_model.specs.Uses.{class_of_owner, view_in}
use Rattle.path_model.specs.Rules.{is_outside, is_outside_of}
use Rattle.abi_primary.specs.Kinds.{IsDynamic}
use Rattle.abi_slots.specs.Views.{is_dynamic}
use Rattle.abi_slots.proofs.Heads.{dynamic_test, test_dynamic}
use Rattle.abi_slots.proofs.Dynamics.{dynamic_whole}
use Rattle.byte_memory.specs.Store.{Store}
use Rattle.byte_code.specs.Images.{word_at}
use Rattle.byte_code.proofs.Numbers.{word_inside}
use Rattle.byte_shadow.specs.Shadows.{Notes}
use Rattle.byte_machine.specs.declared.heap.Opened.{Opened}
use Rattle.abi_dyncast.specs.Graph.{word_in}
use Rattle.abi_dyncast.specs.Casts.{TellsWithin, CanTellWithin}
use Rattle.agree_parts.specs.Addresses.{address}
use Rattle.agree_parts.proofs.Made.{complete_made}
use Rattle.agree_parts.proofs.Inside.{known_class}
use Rattle.agree_relation.specs.Worlds.{World, IsProgramWorld, world_classes, places_in}
use Rattle.agree_relation.specs.Words.{heap_of}
use Rattle.agree_relation.specs.Columns.{ColumnsStand, HasPointers}
use Rattle.agree_relation.proofs.Objects.{objects_laid}
use Rattle.agree_relation.proofs.Tables.{world_no_point}
use Rattle.agree_relation.proofs.Within.{tells_can, tells_is}

-- a view whose class has no table is told to have no part
pub plain_can : (w : World) (memory : Store) (at : ℕ) (e : ClassId) → IsProgramWorld w → e.0 < length (world_classes w) → (IsDynamic (world_classes w) e → ⊥) → CanTellWithin (word_at w.image) w.image.base memory w.parts at e.0
plain_can w memory at e world known plain =
    let none = world_no_point w e world known plain in
    let inside = word_inside w.image (w.image.base + 16 * e.0) 0 none in
    let small = world.small in
    record {
      low = omega arith;
      directory = subst (λ (o : Option ℕ). IsSome o) (sym none) refl;
      info = λ some. absurd (let zero_is = ap word_in none in omega arith);
      walk = λ some. absurd (let zero_is = ap word_in none in omega arith);
    }

pub plain_is : (w : World) (memory : Store) (at : ℕ) (e : ClassId) (there class : ℕ) (told : Bool) → IsProgramWorld w → e.0 < length (world_classes w) → (IsDynamic (world_classes w) e → ⊥) → TellsWithin (word_at w.image) w.image.base memory at e.0 there class told → told ≡ false
plain_is w memory at e there class told world known plain tells = is_false told (λ t. let is = tells.0 t in let some = is.dynamic in let zero_is = ap word_in (world_no_point w e world known plain) in omega arith)

module _ (w : World) (s : Objects) (memory : Store) (opened : List Opened) (heap : ℕ) (notes : Notes) (world : IsProgramWorld w) (columns : ColumnsStand w s memory opened heap notes) (p : ObjectPart) (c d e : ClassId) (x : Subobject) (made : IsPartMade (world_classes w) s.classes p c) (owner : class_of_owner (world_classes w) s p ≡ Some d) (seen : view s.phases p.object p.owner d ≡ Some x) (there : IsPartMade (world_classes w) s.classes (part p.object p.owner x) e) (ready : is_ready (s.phases.phase (part p.object p.owner x)) ≡ true) (open_there : s.is_closed p.object ≡ false) where
  -- the pointers of the view
  pub view_pointers : IsDynamic (world_classes w) e → HasPointers w (heap_of s.classes memory.regions) memory (part p.object p.owner x) e d
  view_pointers dynamic = columns.pointers.pointers p.object p.owner d e x (complete_made (world_classes w) (heap_of s.classes memory.regions) p c d made owner) there open_there seen ready dynamic

  view_known : e.0 < length (world_classes w)
  view_known = known_class (world_classes w) w.setup.rows (heap_of s.classes memory.regions) (part p.object p.owner x) e (objects_laid w s memory.regions opened heap world columns.objects) there

  -- outside is what is not within the view
  pub outside_is : is_outside (world_classes w) s p ≡ not (is_within (world_classes w) x p.at)
  outside_is = ap (λ (o : Option Subobject). is_outside_of (world_classes w) o p.at) (ap (view_in s.phases p.object p.owner) owner ∙ seen)

  -- a dynamic part lies in no view whose class is not
  not_in_plain : IsDynamic (world_classes w) c → (IsDynamic (world_classes w) e → ⊥) → is_within (world_classes w) x p.at ≡ false
  not_in_plain dynamic plain = is_false (is_within (world_classes w) x p.at) (λ t.
      let h = world_classes w in
      let k = within_inside h x p.at t in
      let both : Some k.class ≡ Some e = sym k.of_class ∙ there.of_class in
      let same : k.class ≡ e = cc in
      let valid : IsSubobject h e k.part = subst (λ (z : ClassId). IsSubobject h z k.part) same k.valid in
      let of_class : class_of k.part ≡ Some c = sym (join_class h e x k.part there.of_class valid) ∙ (ap class_of (sym k.joined) ∙ made.of_class) in
      plain (dynamic_whole h e c k.part valid of_class dynamic))

  -- the machine can be told
  pub view_can : CanTellWithin (word_at w.image) w.image.base memory w.parts (address (world_classes w) (places_in w) (heap_of s.classes memory.regions) (part p.object p.owner x)) e.0
  view_can =
      let h = world_classes w in
      let g = heap_of s.classes memory.regions in
      let laid = objects_laid w s memory.regions opened heap world columns.objects in
      split (is_dynamic h e) (λ b. CanTellWithin (word_at w.image) w.image.base memory w.parts (address h (places_in w) g (part p.object p.owner x)) e.0)
      (λ yes_dynamic. let dynamic = test_dynamic h world.hierarchy e yes_dynamic in tells_can w g memory (part p.object p.owner x) e d world laid there owner dynamic (view_pointers dynamic))
      (λ no_dynamic. plain_can w memory (address h (places_in w) g (part p.object p.owner x)) e world view_known (λ dynamic. not_both (dynamic_test h world.hierarchy e dynamic) no_dynamic))

  -- and is told, of a dynamic part, what the rule says
  pub view_is_told : IsDynamic (world_classes w) c → (told : Bool) →
      TellsWithin (word_at w.image) w.image.base memory (address (world_classes w) (places_in w) (heap_of s.classes memory.regions) (part p.object p.owner x)) e.0 (address (world_classes w) (places_in w) (heap_of s.classes memory.regions) p) c.0 told → told ≡ not (is_outside (world_classes w) s p)
  view_is_told dynamic_part told tells =
      let h = world_classes w in
      let g = heap_of s.classes memory.regions in
      let laid = objects_laid w s memory.regions opened heap world columns.objects in
      split (is_dynamic h e) (λ b. told ≡ is_within h x p.at)
      (λ yes_dynamic. let dynamic = test_dynamic h world.hierarchy e yes_dynamic in tells_is w g memory (part p.object p.owner x) e d world laid there owner dynamic (view_pointers dynamic) p.at c made told tells)
      (λ no_dynamic.
      let plain : IsDynamic h e → ⊥ = λ dynamic. not_both (dynamic_test h world.hierarchy e dynamic) no_dynamic in
      plain_is w memory (address h (places_in w) g (part p.object p.owner x)) e (address h (places_in w) g p) c.0 told world view_known plain tells ∙ sym (not_in_plain dynamic_part plain))
      ∙ (twice_not (is_within h x p.at) ∙ ap not (sym outside_is))
    where
      twice_not : (b : Bool) → b ≡ not (not b)
      twice_not true = refl
      twice_not false = refl
