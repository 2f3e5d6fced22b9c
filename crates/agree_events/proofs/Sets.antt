-- All settings of a view together: whatever stood there before, each virtual pointer of the view then leads to its table.
use Rattle.std.proofs.Common.{◌≡◌, ℕ, ◌*◌, ◌+◌, ◌%◌, ◌<◌, ◌≤◌, ◌^◌, inl, inr, ⊎_elim, Bool, true, false, Option, Some, None, List, [], ◌∷◌, refl, ap, subst, sym, ◌∙◌, arith}
use Rattle.std.specs.Prelude.{slice_get, if◌then◌else◌, not, ◌&&◌}
use Rattle.std.proofs.Math.Nat.{mod-eq_of_lt}
use Rattle.cxx_hierarchy.specs.declared.records.ClassId.{ClassId}
use Rattle.cxx_subobject.specs.declared.Subobject.{Subobject}
use Rattle.cxx_subobject.specs.Subobjects.{IsSubobject, class_of}
use Rattle.cxx_subobject.specs.Preorder.{preorder}
use Rattle.cxx_subobject.specs.Locations.{ObjectPart}
use Rattle.cxx_subobject.proofs.TreeLemmas.{preorder_has, same_itself}
use Rattle.foundation.proofs.Truth.{split, is_false, not_both}
use Rattle.foundation.proofs.Members.{Has}
use Rattle.foundation.proofs.Chosen.{has_any}
use Rattle.path_plan.specs.declared.form.Form.{Form}
use Rattle.path_model.specs.Values.{inner_part}
use Rattle.abi_primary.specs.Kinds.{IsDynamic}
use Rattle.abi_slots.specs.declared.words.Group.{Group}
use Rattle.abi_slots.specs.Seen.{IsPointOf, IsSeen, SharePointer}
use Rattle.abi_sound.specs.Chains.{is_subobject_in}
use Rattle.abi_slots.specs.Views.{View, IsView, place, next, is_dynamic_class, is_first, is_head}
use Rattle.abi_slots.proofs.Chains.{walk_under}
use Rattle.abi_slots.proofs.Heads.{test_dynamic}
use Rattle.abi_slots.proofs.Pointers.{same_point, pointers_apart}
use Rattle.abi_slots.proofs.Settings.{setting_of}
use Rattle.abi_vtt.specs.Vtts.{ends_in_primary}
use Rattle.abi_vtt.proofs.RunLemmas.{derived}
use Rattle.byte_memory.specs.Bits.{number_from, stored}
use Rattle.byte_memory.specs.Regions.{fault_at}
use Rattle.byte_memory.specs.Store.{Store}
use Rattle.byte_memory.proofs.ByBits.{stored-outside, number_from-stored_bytes, number_from-stored_other}
use Rattle.byte_code.specs.declared.op.Op.{Op}
use Rattle.byte_code.specs.declared.op.Op.TheVariants.{SetTable}
use Rattle.byte_machine.specs.declared.frames.Handed.{Handed}
use Rattle.byte_machine.specs.Running.{Running, Stop, moved, register, table_of}
use Rattle.byte_machine.specs.Leads.{OpsLead}
use Rattle.byte_machine.specs.Plans.{source_word, place_through}
use Rattle.byte_machine.proofs.PlanLeads.{leads_set_table}
use Rattle.byte_machine.proofs.Tables.{table_loaded}
use Rattle.agree_parts.specs.Heaps.{Heap}
use Rattle.abi_sound.specs.Locations.{Span, AreDisjoint, pointer_span}
use Rattle.code_blocks.specs.Blocks.{is_set_apart, setting_by, settings_then}
use Rattle.agree_relation.specs.Worlds.{World, IsProgramWorld, world_classes, places_in, fixed}
use Rattle.agree_relation.specs.Columns.{HasPointers, ArePlacedFor, group_view}
use Rattle.agree_events.proofs.Noted.{at_part}
use Rattle.agree_events.proofs.Settings.{IsApart, set_apart, apart_set}
use Rattle.agree_relation.proofs.Tables.{group_is}
use Rattle.agree_events.proofs.Tabled.{tables_at, seen_of, point_low}
use Rattle.agree_events.proofs.Setting.{IsViewOf, setting}

-- a dynamic subobject has a class, which is dynamic
pub record HasClass (w : World) (i : Subobject) : Type 0 where
  pub class : ClassId
  pub of : class_of i ≡ Some class
  pub dynamic : IsDynamic (world_classes w) class

pub has_class : (w : World) → IsProgramWorld w → (i : Subobject) → is_dynamic_class (world_classes w) (class_of i) ≡ true → HasClass w i
has_class w world i test = by_class (class_of i) refl test
  where
    by_class : (o : Option ClassId) → class_of i ≡ o → is_dynamic_class (world_classes w) o ≡ true → HasClass w i
    by_class None e t = absurd (cc)
    by_class (Some c) e t = record { class = c; of = e; dynamic = test_dynamic (world_classes w) world.hierarchy c t }

-- the view as one of its group
pub view_is : (w : World) → IsProgramWorld w → (x : View) (number : ℕ) (group : Group) → slice_get w.groups number ≡ Some group → group.name ≡ record { complete = x.complete; view = x.at_sub } → class_of x.at_sub ≡ Some x.class → IsView (world_classes w) x
view_is w world x number group there named class =
    let of = group_is w number group world there in
    let both : Some of.class ≡ Some x.class = sym of.view.of_class ∙ (ap (λ name. class_of name.view) named ∙ class) in
    let same : of.class ≡ x.class = cc (both) in
    let make : ClassId → Subobject → ClassId → View = λ c s e. record { complete = c; at_sub = s; class = e } in
    subst (λ (v : View). IsView (world_classes w) v) (ap (λ name. make name.complete name.view of.class) named ∙ ap (make x.complete x.at_sub) same) of.view

-- the subobjects of a view, at their addresses
pub record IsStanding (w : World) (g : Heap) (x : View) (p : ObjectPart) (c d : ClassId) (form : Form) (handed : Handed) : Type 0 where
  pub of : IsViewOf w g x p c d form handed
  pub start : ℕ
  pub lies : (i : Subobject) → IsSubobject (world_classes w) c i → at_part w g (inner_part p i) ≡ start + place (places_in w) x i

-- a virtual pointer that leads to the table of its subobject
pub record IsPointed (w : World) (g : Heap) (x : View) (number : ℕ) (group : Group) (p : ObjectPart) (bit : ℕ → Option Bool) (i : Subobject) : Type 0 where
  pub point : ℕ
  pub there : number_from bit (8 * at_part w g (inner_part p i)) (8 * 8) ≡ Some point
  pub is_point : IsPointOf (world_classes w) (places_in w) x (tables_at w number group) i point

module _ (w : World) (world : IsProgramWorld w) (g : Heap) (x : View) (p : ObjectPart) (c d : ClassId) (form : Form) (handed : Handed) (stands : IsStanding w g x p c d form handed) where
  abbrev number : ℕ
  number = stands.of.tabled.number

  abbrev group : Group
  group = stands.of.tabled.group

  at_class : class_of x.at_sub ≡ Some x.class
  at_class = stands.of.of_class ∙ ap (λ (b : ClassId). Some b) (sym stands.of.class)

  view : IsView (world_classes w) x
  view = view_is w world x number group stands.of.tabled.there stands.of.tabled.named at_class

  seen : IsSeen (world_classes w) (places_in w) x (tables_at w number group)
  seen = seen_of w world x number group stands.of.tabled.there stands.of.tabled.named at_class

  in_view : (i : Subobject) → IsSubobject (world_classes w) c i → IsSubobject (world_classes w) x.class i
  in_view i valid = subst (λ (b : ClassId). IsSubobject (world_classes w) b i) (sym stands.of.class) valid

  out_of_view : (i : Subobject) → IsSubobject (world_classes w) x.class i → IsSubobject (world_classes w) c i
  out_of_view i valid = subst (λ (b : ClassId). IsSubobject (world_classes w) b i) stands.of.class valid

  -- a word is stored at the place of j, which is the point of its table
  stored_here : (bit : ℕ → Option Bool) (j : Subobject) (e : ClassId) (word : ℕ) → IsSubobject (world_classes w) c j → class_of j ≡ Some e → IsPointOf (world_classes w) (places_in w) x (tables_at w number group) j word → IsPointed w g x number group p (stored bit (8 * at_part w g (inner_part p j)) (8 * 8) word) j
  stored_here bit j e word valid class is =
      let low = point_low w world x (tables_at w number group) j e word refl seen (in_view j valid) class is in
      let same : word % 256 ^ 8 ≡ word = mod-eq_of_lt (omega arith) in
      record { point = word; there = number_from-stored_bytes 8 bit (at_part w g (inner_part p j)) word ∙ ap (λ k. Some k) same; is_point = is }

  -- a pointer that was set stays right
  stored_there : (bit : ℕ → Option Bool) (i j : Subobject) (b e : ClassId) (word : ℕ) → IsSubobject (world_classes w) c i → class_of i ≡ Some b → IsDynamic (world_classes w) b → IsSubobject (world_classes w) c j → class_of j ≡ Some e → IsDynamic (world_classes w) e
      → IsPointOf (world_classes w) (places_in w) x (tables_at w number group) j word → IsPointed w g x number group p bit i → IsPointed w g x number group p (stored bit (8 * at_part w g (inner_part p j)) (8 * 8) word) i
  stored_there bit i j b e word of_i class_i dyn_i of_j class_j dyn_j is old =
      let h = world_classes w in
      let l = places_in w in
      let lies_i = stands.lies i of_i in
      let lies_j = stands.lies j of_j in
      ⊎_elim
      (λ (share : SharePointer h l x j i).
      let one : at_part w g (inner_part p j) ≡ at_part w g (inner_part p i) = let same = share.same_place in omega arith in
      let here = stored_here bit j e word of_j class_j is in
      record { point = here.point; there = ap (λ a. number_from (stored bit (8 * at_part w g (inner_part p j)) (8 * 8) word) (8 * a) (8 * 8)) (sym one) ∙ here.there; is_point = same_point h l x (setting_of h w.setup.rows world.hierarchy world.sound x view) (tables_at w number group) j i here.point share here.is_point })
      (λ apart. record { point = old.point; there = number_from-stored_other (8 * 8) (8 * 8) bit (8 * at_part w g (inner_part p j)) (8 * at_part w g (inner_part p i)) word (⊎_elim (λ f. inr (omega arith)) (λ f. inl (omega arith)) apart) ∙ old.there; is_point = old.is_point })
      (pointers_apart h w.setup.rows x j i e b world.hierarchy world.sound view (in_view j of_j) (in_view i of_i) class_j class_i dyn_j dyn_i)

  -- what the settings of these subobjects do to the bytes
  pub record Sets (bit bit' : ℕ → Option Bool) (list : List Subobject) : Type 0 where
    pub set : (i : Subobject) → Has list i → IsApart w c i → IsPointed w g x number group p bit' i
    pub stays : (i : Subobject) (b : ClassId) → IsSubobject (world_classes w) c i → class_of i ≡ Some b → IsDynamic (world_classes w) b → IsPointed w g x number group p bit i → IsPointed w g x number group p bit' i
    pub kept : (y : Span) → ((i : Subobject) (b : ClassId) → IsSubobject (world_classes w) c i → class_of i ≡ Some b → IsDynamic (world_classes w) b → AreDisjoint y (pointer_span (at_part w g (inner_part p i)))) → (a : ℕ) → y.start ≤ a → a < y.start + y.length → bit' a ≡ bit a

  no_sets : (bit : ℕ → Option Bool) → Sets bit bit []
  no_sets bit = record { set = λ i has. absurd has; stays = λ i b valid class dynamic old. old; kept = λ y apart a low high. refl }

  not_set : (bit bit' : ℕ → Option Bool) (j : Subobject) (list : List Subobject) → is_set_apart w.setup j ≡ false → Sets bit bit' list → Sets bit bit' (j ∷ list)
  not_set bit bit' j list off sets = record {
    set = λ i has apart. ⊎_elim (λ same. absurd (not_both (apart_set w c i apart) (ap (is_set_apart w.setup) (sym same) ∙ off))) (λ more. sets.set i more apart) has;
    stays = sets.stays;
    kept = sets.kept;
  }

  one_set : (bit bit' : ℕ → Option Bool) (j : Subobject) (list : List Subobject) (e : ClassId) (word : ℕ) → IsSubobject (world_classes w) c j → class_of j ≡ Some e → IsDynamic (world_classes w) e → IsPointOf (world_classes w) (places_in w) x (tables_at w number group) j word → Sets (stored bit (8 * at_part w g (inner_part p j)) (8 * 8) word) bit' list → Sets bit bit' (j ∷ list)
  one_set bit bit' j list e word of_j class_j dyn_j is sets = record {
    set = λ i has apart. ⊎_elim
        (λ same. subst (λ (k : Subobject). IsPointed w g x number group p bit' k) same (sets.stays j e of_j class_j dyn_j (stored_here bit j e word of_j class_j is)))
        (λ more. sets.set i more apart) has;
    stays = λ i b of_i class_i dyn_i old. sets.stays i b of_i class_i dyn_i (stored_there bit i j b e word of_i class_i dyn_i of_j class_j dyn_j is old);
    kept = λ y apart a low high. sets.kept y apart a low high ∙ stored-outside (8 * 8) bit (8 * at_part w g (inner_part p j)) word a (⊎_elim (λ f. inl (omega arith)) (λ f. inr (omega arith)) (apart j e of_j class_j dyn_j));
  }

  -- the ops of the settings lead there
  pub leads_sets : (r : Running) → register r 0 ≡ Some (at_part w g p) → r.top.handed ≡ handed → ((i : Subobject) (b : ClassId) → IsSubobject (world_classes w) c i → class_of i ≡ Some b → IsDynamic (world_classes w) b → fault_at r.memory.regions (at_part w g (inner_part p i)) 8 ≡ None)
      → (list : List Subobject) → ((i : Subobject) → Has list i → IsSubobject (world_classes w) c i) → (bit : ℕ → Option Bool) (rest : List Op) (P : Running → Stop → Type 0)
      → ((bit' : ℕ → Option Bool) → Sets bit bit' list → OpsLead (fixed w) rest (record r { memory = record r.memory { bit = bit' } }) P) → OpsLead (fixed w) (settings_then w.setup form c list rest) (record r { memory = record r.memory { bit = bit } }) P
  leads_sets r this same open_there [] all bit rest P go = go bit (no_sets bit)
  leads_sets r this same open_there (i ∷ list) all bit rest P go = split (is_set_apart w.setup i)
      (λ b. is_set_apart w.setup i ≡ b → OpsLead (fixed w) (if b then SetTable (setting_by w.setup form c i i.root) ∷ settings_then w.setup form c list rest else settings_then w.setup form c list rest) (record r { memory = record r.memory { bit = bit } }) P)
      (λ _ e.
      let valid = all i (inl refl) in
      let apart = set_apart w c i valid e in
      let class = has_class w world i apart.dynamic in
      let how = setting_by w.setup form c i i.root in
      let set = setting w world g x p c d class.class form handed stands.of i apart class.of i.root refl in
      leads_set_table (fixed w) {s = record r { memory = record r.memory { bit = bit } }} how (at_part w g p) set.first (at_part w g (inner_part p i)) this (ap (λ (h : Handed). source_word (fixed w) h how.source) same ∙ set.source) (ap (λ (h : Handed). place_through (fixed w) h (moved (at_part w g p) how.place) how.through) same ∙ set.place)
      (open_there i class.class valid class.of class.dynamic)
      (leads_sets r this same open_there list (λ j has. all j (inr has)) (stored bit (8 * at_part w g (inner_part p i)) (8 * 8) (moved set.first how.distance)) rest P
      (λ bit' sets. go bit' (one_set bit bit' i list class.class (moved set.first how.distance) valid class.of class.dynamic set.is_point sets))))
      (λ _ e. leads_sets r this same open_there list (λ j has. all j (inr has)) bit rest P (λ bit' sets. go bit' (not_set bit bit' i list e sets))) refl

  -- the head of a chain has a setting of its own
  head_apart : (t : Subobject) → IsSubobject (world_classes w) x.class t → is_head (world_classes w) (places_in w) x t ≡ true → IsApart w c t
  head_apart t valid head =
      let h = world_classes w in
      let l = places_in w in
      let both = parts (is_dynamic_class h (class_of t)) (is_first h l x t) head in
      record {
        valid = out_of_view t valid;
        dynamic = both.0;
        first = is_false (ends_in_primary l t.path) (λ ends.
            let before = derived h l x t valid ends in
            let test : is_subobject_in (next l x before.deriver) t ≡ true = ap (λ o. is_subobject_in o t) before.goes ∙ same_itself t in
            let any = has_any (λ u. is_subobject_in (next l x u) t) (preorder h x.class) before.deriver (preorder_has h x.class world.hierarchy before.deriver before.valid) test in
            let off : is_first h l x t ≡ false = ap not any in
            not_both both.1 off);
      }
    where
      parts : (a b : Bool) → (a && b) ≡ true → (a ≡ true) × (b ≡ true)
      parts true b e = (refl, e)
      parts false b e = absurd (cc)

  -- each virtual pointer of the view leads to its table, by the head of its chain
  each_pointed : (bit bit' : ℕ → Option Bool) → Sets bit bit' (preorder (world_classes w) c) → (i : Subobject) (e : ClassId) → IsSubobject (world_classes w) c i → class_of i ≡ Some e → IsDynamic (world_classes w) e → IsPointed w g x number group p bit' i
  each_pointed bit bit' sets i e valid class dynamic =
      let h = world_classes w in
      let l = places_in w in
      let some = seen.some_point i e (in_view i valid) class dynamic in
      let t = some.1.head in
      let serves = some.1.serves in
      let apart = head_apart t serves.valid serves.head in
      let of = sets.set t (preorder_has h c world.hierarchy t apart.valid) apart in
      let chain = setting_of h w.setup.rows world.hierarchy world.sound x view in
      let under = (walk_under h l x chain serves.steps t i serves.valid serves.leads).under in
      let lies_t = stands.lies t apart.valid in
      let lies_i = stands.lies i valid in
      let one : at_part w g (inner_part p i) ≡ at_part w g (inner_part p t) = let same = under.same_place in omega arith in
      let share : SharePointer h l x t i = record { same_place = sym under.same_place; head = t; first = record { valid = serves.valid; head = serves.head; steps = 0; leads = refl }; second = serves } in
      record { point = of.point; there = ap (λ a. number_from bit' (8 * a) (8 * 8)) one ∙ of.there; is_point = same_point h l x chain (tables_at w number group) t i of.point share of.is_point }

  -- so the view has its pointers
  pub pointers_set : x ≡ group_view w d p.at c → (memory : Store) (bit bit' : ℕ → Option Bool) → ((i : Subobject) (b : ClassId) → IsSubobject (world_classes w) c i → class_of i ≡ Some b → IsDynamic (world_classes w) b → fault_at memory.regions (at_part w g (inner_part p i)) 8 ≡ None)
      → Sets bit bit' (preorder (world_classes w) c) → HasPointers w g (record memory { bit = bit' }) p c d
  pointers_set is memory bit bit' open_there sets = record {
    placed = tables_at w number group;
    stand = subst (λ (v : View). ArePlacedFor w v (tables_at w number group)) is (record { number = number; group = group; there = stands.of.tabled.there; named = stands.of.tabled.named; is = refl });
    pointer = λ i e valid class dynamic.
        let of = each_pointed bit bit' sets i e valid class dynamic in
        let at = at_part w g (inner_part p i) in
        let fault = open_there i e valid class dynamic in
        let there = of.there in
        (of.point, loaded_word (record memory { bit = bit' }) at of.point fault there, subst (λ (v : View). IsPointOf (world_classes w) (places_in w) v (tables_at w number group) i of.point) is of.is_point);
  }
    where
      loaded_word : (m : Store) (at point : ℕ) → fault_at m.regions at 8 ≡ None → number_from m.bit (8 * at) (8 * 8) ≡ Some point → table_of m at ≡ Some point
      loaded_word m at point fault there = table_loaded m at point (rw (fault, there) refl)
