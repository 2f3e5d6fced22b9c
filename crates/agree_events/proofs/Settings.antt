-- What the setting of one virtual pointer finds: the address point of the table that serves a subobject, and where that lies.
use Rattle.std.proofs.Common.{◌≡◌, ℕ, ◌<◌, Bool, true, false, Some, length, refl, ap, subst, sym, ◌∙◌, arith}
use Rattle.std.specs.Prelude.{slice_get, if◌then◌else◌, nat_lt, not, ◌&&◌, ◌||◌}
use Rattle.std.proofs.lemmas.Bool.Decides.{nat_tests}
use Rattle.std.proofs.lemmas.Option.{slice_get_within}
use Rattle.cxx_hierarchy.specs.declared.records.ClassId.{ClassId}
use Rattle.cxx_hierarchy.specs.VirtualBases.{HasVirtualBase}
use Rattle.cxx_subobject.specs.declared.Root.{Root}
use Rattle.cxx_subobject.specs.declared.Root.TheVariants.{Whole, Shared}
use Rattle.cxx_subobject.specs.declared.Subobject.{Subobject}
use Rattle.cxx_subobject.specs.Subobjects.{IsSubobject, whole as whole_is, shared, class_of, same_subobject, same_root}
use Rattle.cxx_subobject.specs.Preorder.{preorder}
use Rattle.cxx_subobject.proofs.TreeLemmas.{preorder_has, subobject_same, same_itself}
use Rattle.foundation.proofs.Truth.{split, is_false}
use Rattle.foundation.proofs.Members.{Has}
use Rattle.foundation.proofs.Chosen.{has_filter, filter_has, has_any}
use Rattle.abi_slots.specs.Views.{is_dynamic_class, of_root}
use Rattle.abi_slots.proofs.Lists.{at_place}
use Rattle.abi_slots.proofs.EntryPlaces.{place_none}
use Rattle.abi_vtt.specs.Vtts.{has_vtt, ends_in_primary, needs_word}
use Rattle.abi_vtt.specs.Blocks.{table_run, is_front_head}
use Rattle.abi_vtt.proofs.MarkLemmas.{has_some}
use Rattle.code_blocks.specs.Blocks.{run_number, is_in_run, is_set_apart}
use Rattle.agree_relation.specs.Worlds.{World, IsProgramWorld, world_classes, places_in}

-- the tables that come first in the group of each view of the class

root_itself : (r : Root) → same_root r r ≡ true
root_itself Whole = refl
root_itself (Shared v) = grind (arith, nat_tests)

-- a subobject with a setting of its own: it is dynamic, and no non-virtual primary base
pub record IsApart (w : World) (c : ClassId) (i : Subobject) : Type 0 where
  pub valid : IsSubobject (world_classes w) c i
  pub dynamic : is_dynamic_class (world_classes w) (class_of i) ≡ true
  pub first : ends_in_primary (places_in w) i.path ≡ false

pub set_apart : (w : World) (c : ClassId) (i : Subobject) → IsSubobject (world_classes w) c i → is_set_apart w.setup i ≡ true → IsApart w c i
set_apart w c i valid e = split (is_dynamic_class (world_classes w) (class_of i)) (λ b. is_dynamic_class (world_classes w) (class_of i) ≡ b → (if b then not (ends_in_primary (places_in w) i.path) else false) ≡ true → IsApart w c i)
    (λ _ dynamic f. record { valid = valid; dynamic = dynamic; first = not_so (ends_in_primary (places_in w) i.path) f }) (λ _ dynamic f. absurd (cc)) refl e
  where
    not_so : (b : Bool) → not b ≡ true → b ≡ false
    not_so true e = absurd (cc)
    not_so false e = refl

pub apart_set : (w : World) (c : ClassId) (i : Subobject) → IsApart w c i → is_set_apart w.setup i ≡ true
apart_set w c i apart = rw (apart.dynamic, apart.first) refl

-- one of them that lies in no virtual base
pub record IsInRun (w : World) (c : ClassId) (i : Subobject) : Type 0 where
  pub test : is_in_run w.setup c i ≡ true
  pub there : slice_get (table_run (world_classes w) (places_in w) c) (run_number w.setup c i) ≡ Some i

pub in_run : (w : World) → IsProgramWorld w → (c : ClassId) (i : Subobject) → IsApart w c i → i.root ≡ Whole → IsInRun w c i
in_run w world c i apart root =
    let h = world_classes w in
    let l = places_in w in
    let front : is_front_head h l i ≡ true = rw (apart.dynamic, apart.first) refl in
    let here : Has (table_run h l c) i = filter_has (is_front_head h l) (of_root Whole (preorder h c)) i (filter_has (λ (s : Subobject). same_root Whole s.root) (preorder h c) i (preorder_has h c world.hierarchy i apart.valid) (ap (same_root Whole) root)) front in
    let at = at_place (same_subobject i) (table_run h l c) (has_any (same_subobject i) (table_run h l c) i here (same_itself i)) in
    let same : i ≡ at.item = subobject_same i at.item at.passes in
    let there : slice_get (table_run h l c) (run_number w.setup c i) ≡ Some i = at.there ∙ ap (λ (s : Subobject). Some s) (sym same) in
    let less = slice_get_within (table_run h l c) (run_number w.setup c i) i there in
    record { test = below (run_number w.setup c i) (length (table_run h l c)) less; there = there }
  where
    below : (a b : ℕ) → a < b → nat_lt a b ≡ true
    below a b less = grind (arith, nat_tests)

-- one that lies in a virtual base
pub not_in_run : (w : World) (c : ClassId) (i : Subobject) (v : ClassId) → i.root ≡ Shared v → is_in_run w.setup c i ≡ false
not_in_run w c i v root =
    let h = world_classes w in
    let l = places_in w in
    let place = place_none (same_subobject i) (table_run h l c) (λ t has. is_false (same_subobject i t) (λ same.
    let one = subobject_same i t same in
    let passes = (has_filter (λ (s : Subobject). same_root Whole s.root) (preorder h c) t (has_filter (is_front_head h l) (of_root Whole (preorder h c)) t has).0).1 in
    let clash : same_root Whole (Shared v) ≡ true = ap (same_root Whole) (sym root ∙ ap (λ (s : Subobject). s.root) one) ∙ passes in
    cc (clash))) in
    past (run_number w.setup c i) (length (table_run h l c)) place
  where
    past : (a b : ℕ) → a ≡ b → nat_lt a b ≡ false
    past a b same = grind (arith, nat_tests)

-- a subobject in a virtual base has a word in the view's block
pub needs : (w : World) (c : ClassId) (i : Subobject) (v : ClassId) → IsApart w c i → i.root ≡ Shared v → needs_word (world_classes w) (places_in w) i ≡ true
needs w c i v apart root = rw (root, apart.dynamic, apart.first) (or_true _)
  where
    or_true : (b : Bool) → (true && (true && ((b || true) && true))) ≡ true
    or_true true = refl
    or_true false = refl

-- the class has virtual bases where one of its subobjects lies in one
pub shared_virtual : (w : World) → IsProgramWorld w → (c : ClassId) (i : Subobject) (v : ClassId) → IsSubobject (world_classes w) c i → i.root ≡ Shared v → HasVirtualBase (world_classes w) c v × (has_vtt (world_classes w) c ≡ true)
shared_virtual w world c _ v (whole_is path leads) root = absurd (cc (root))
shared_virtual w world c _ v (shared u path has leads) root =
    let same : u ≡ v = cc (root) in
    let mine : HasVirtualBase (world_classes w) c v = subst (λ (z : ClassId). HasVirtualBase (world_classes w) c z) same has in
    (mine, has_some (world_classes w) world.hierarchy c v mine)
