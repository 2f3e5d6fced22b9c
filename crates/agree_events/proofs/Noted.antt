-- What an event of one part does to the notes: the phases, and the views.
use Rattle.std.proofs.Common.{◌≡◌, ℕ, ⊎_elim, Some, List, refl, ap, subst, sym, ◌∙◌}
use Rattle.std.specs.Prelude.{if◌then◌else◌}
use Rattle.cxx_hierarchy.specs.declared.records.ClassId.{ClassId}
use Rattle.cxx_subobject.specs.declared.Subobject.{Subobject}
use Rattle.cxx_subobject.specs.Subobjects.{class_of, whole_of}
use Rattle.cxx_subobject.specs.Locations.{Step, ObjectPart}
use Rattle.foundation.proofs.Deciding.{decide_number}
use Rattle.path_plan.specs.Places.{part}
use Rattle.path_plan.specs.Phases.{Phase, Phases, phases_after, is_complete, top_subobject}
use Rattle.path_plan.specs.Views.{view}
use Rattle.path_plan.proofs.Same.{part_cases, pushed_other, popped_other, Owns, owner_cases, part_owns}
use Rattle.path_model.specs.TypedStates.{IsPartMade}
use Rattle.byte_shadow.specs.Shadows.{Notes}
use Rattle.agree_parts.specs.Heaps.{Heap}
use Rattle.agree_parts.specs.Addresses.{address}
use Rattle.agree_parts.specs.Placed.{AreObjectsLaid}
use Rattle.agree_parts.proofs.Apart.{one_part}
use Rattle.agree_parts.proofs.Made.{whole_owner}
use Rattle.code_blocks.specs.Items.{event_of}
use Rattle.code_blocks.specs.declared.items.Kind.{Kind}
use Rattle.code_blocks.specs.declared.items.Kind.TheVariants.{AtBegin, AtReady, AtInit, AtBody, AtDone, AtEnding, AtBases, AtEnd}
use Rattle.agree_relation.specs.Worlds.{World, world_classes, places_in}
use Rattle.agree_relation.specs.Columns.{noted_phase, shadow_pair, PhasesStand, ViewsAreNoted}
use Rattle.agree_relation.proofs.Owners.{same_class}
use Rattle.agree_events.proofs.Parts.{part_is}
use Rattle.agree_events.proofs.Planned.{event_phase}
use Rattle.agree_events.proofs.Own.{whole_in}

-- only p changes, and the stack of its complete object
pub record IsOnly (p : ObjectPart) (s s' : Phases) : Type 0 where
  pub phase : (q : ObjectPart) → (p ≡ q → ⊥) → s'.phase q ≡ s.phase q
  pub running : (k : ℕ) (o : List Step) → (Owns p k o → ⊥) → s'.running k o ≡ s.running k o

event_running : (s : Phases) (k : Kind) (p : ObjectPart) (i : ℕ) (o : List Step) → (Owns p i o → ⊥) → (phases_after s (event_of k p)).running i o ≡ s.running i o
event_running s AtBegin p i o differ = pushed_other s.running p i o differ
event_running s AtReady p i o differ = refl
event_running s (AtInit m) p i o differ = refl
event_running s AtBody p i o differ = refl
event_running s AtDone p i o differ = popped_other s.running p i o differ
event_running s AtEnding p i o differ = pushed_other s.running p i o differ
event_running s AtBases p i o differ = refl
event_running s AtEnd p i o differ = popped_other s.running p i o differ

pub event_only : (s : Phases) (k : Kind) (p : ObjectPart) → IsOnly p s (phases_after s (event_of k p))
event_only s k p = record { phase = event_phase s k p; running = event_running s k p }

-- a part is of one class, and so is its complete object
abbrev pub Made : World → Heap → ObjectPart → ClassId → Type 0
Made w g q c = IsPartMade (world_classes w) g.classes q c

pub class_once : (w : World) (g : Heap) (q : ObjectPart) (c d : ClassId) → Made w g q c → Made w g q d → c ≡ d
class_once w g q c d a b = let f : Some c ≡ Some d = sym a.of_class ∙ b.of_class in cc

pub complete_once : (w : World) (g : Heap) (k : ℕ) (o : List Step) (d e : ClassId) → Made w g (part k o (whole_of d)) d → Made w g (part k o (whole_of e)) e → d ≡ e
complete_once w g k o d e a b = let f : Some d ≡ Some e = sym (whole_owner (world_classes w) g (part k o (whole_of d)) d a refl) ∙ whole_owner (world_classes w) g (part k o (whole_of e)) e b refl in cc

abbrev pub at_part : World → Heap → ObjectPart → ℕ
at_part w g p = address (world_classes w) (places_in w) g p

-- another part of the class lies elsewhere
pub elsewhere : (w : World) (g : Heap) → AreObjectsLaid (world_classes w) w.setup.rows g → (p q : ObjectPart) (c d : ClassId) → Made w g p c → Made w g q d → (p ≡ q → ⊥) → at_part w g p ≡ at_part w g q → c.0 ≡ d.0 → ⊥
elsewhere w g laid p q c d a b differ at class = differ (one_part (world_classes w) w.setup.rows g p q c laid a (subst (λ (e : ClassId). Made w g q e) (sym (same_class c d class)) b) at)

-- the phase and the owner that are noted, given anew at one part, whose complete object is of class d
pub record IsPhased (w : World) (g : Heap) (p : ObjectPart) (c d : ClassId) (v : Phase) (notes notes' : Notes) : Type 0 where
  pub here : notes'.phase (at_part w g p) c.0 ≡ noted_phase v
  pub there : (a n : ℕ) → (at_part w g p ≡ a → c.0 ≡ n → ⊥) → notes'.phase a n ≡ notes.phase a n
  pub owner : notes'.owner (at_part w g p) c.0 ≡ Some (shadow_pair w g (whole_in p d) d)
  pub owners : (a n : ℕ) → (at_part w g p ≡ a → c.0 ≡ n → ⊥) → notes'.owner a n ≡ notes.owner a n

pub phases_change : (w : World) (g : Heap) → AreObjectsLaid (world_classes w) w.setup.rows g → (s s' : Phases) (notes notes' : Notes) (p : ObjectPart) (c d : ClassId) (v : Phase) → Made w g p c → Made w g (whole_in p d) d → IsOnly p s s' → s'.phase p ≡ v
    → IsPhased w g p c d v notes notes' → PhasesStand w g s notes → PhasesStand w g s' notes'
phases_change w g laid s s' notes notes' p c d v made whole only is new old = record {
  phase = λ q e at. ⊎_elim
      (λ same. phase_here q e at same)
      (λ differ. new.there (at_part w g q) e.0 (elsewhere w g laid p q c e made at differ) ∙ (old.phase q e at ∙ ap noted_phase (sym (only.phase q differ))))
      (part_cases p q);
  owner = λ q e b at there begun. ⊎_elim
      (λ same. owner_here q e b at there same)
      (λ differ. new.owners (at_part w g q) e.0 (elsewhere w g laid p q c e made at differ) ∙ old.owner q e b at there (λ raw. begun (only.phase q differ ∙ raw)))
      (part_cases p q);
  only = λ at class x noted. ⊎_elim
      (λ same. ⊎_elim
      (λ number. (p, c, record { made = made; at_is = sym same; class_is = sym number }))
      (λ differ. old.only at class x (sym (new.there at class (λ e n. differ n)) ∙ noted)) (decide_number c.0 class))
      (λ differ. old.only at class x (sym (new.there at class (λ e n. differ e)) ∙ noted)) (decide_number (at_part w g p) at);
}
  where
    same_made : (q : ObjectPart) (e : ClassId) → Made w g q e → p ≡ q → c ≡ e
    same_made q e at same = class_once w g p c e made (subst (λ (r : ObjectPart). Made w g r e) (sym same) at)

    phase_here : (q : ObjectPart) (e : ClassId) → Made w g q e → p ≡ q → notes'.phase (at_part w g q) e.0 ≡ noted_phase (s'.phase q)
    phase_here q e at same = subst (λ (r : ObjectPart). notes'.phase (at_part w g r) e.0 ≡ noted_phase (s'.phase r)) same (subst (λ (b : ClassId). notes'.phase (at_part w g p) b.0 ≡ noted_phase (s'.phase p)) (same_made q e at same) (new.here ∙ ap noted_phase (sym is)))

    owner_here : (q : ObjectPart) (e b : ClassId) → Made w g q e → Made w g (whole_in q b) b → p ≡ q → notes'.owner (at_part w g q) e.0 ≡ Some (shadow_pair w g (whole_in q b) b)
    owner_here q e b at there same =
        let one = complete_once w g p.object p.owner d b whole (subst (λ (r : ObjectPart). Made w g (whole_in r b) b) (sym same) there) in
        subst (λ (r : ObjectPart). notes'.owner (at_part w g r) e.0 ≡ Some (shadow_pair w g (whole_in r b) b)) same
        (subst (λ (a : ClassId). notes'.owner (at_part w g p) a.0 ≡ Some (shadow_pair w g (whole_in p b) b)) (same_made q e at same)
        (subst (λ (a : ClassId). notes'.owner (at_part w g p) c.0 ≡ Some (shadow_pair w g (whole_in p a) a)) one new.owner))

pub view_elsewhere : (p : ObjectPart) (s s' : Phases) → IsOnly p s s' → (k : ℕ) (o : List Step) (d : ClassId) → (Owns p k o → ⊥) → view s' k o d ≡ view s k o d
view_elsewhere p s s' only k o d differ = λ i. if is_complete (only.phase (part k o (whole_of d)) (λ same. differ (part_owns p k o (whole_of d) same)) i) then Some (whole_of d) else top_subobject (only.running k o differ i)

-- the views that are noted, but for that of p's complete object
pub record IsViewed (w : World) (g : Heap) (p : ObjectPart) (d : ClassId) (notes notes' : Notes) : Type 0 where
  pub there : (a n : ℕ) → (at_part w g (whole_in p d) ≡ a → d.0 ≡ n → ⊥) → notes'.view a n ≡ notes.view a n

other_whole : (w : World) (g : Heap) → AreObjectsLaid (world_classes w) w.setup.rows g → (p : ObjectPart) (d : ClassId) (k : ℕ) (o : List Step) (e : ClassId) → Made w g (whole_in p d) d → Made w g (part k o (whole_of e)) e → (Owns p k o → ⊥) → at_part w g (whole_in p d) ≡ at_part w g (part k o (whole_of e)) → d.0 ≡ e.0 → ⊥
other_whole w g laid p d k o e a b differ = elsewhere w g laid (whole_in p d) (part k o (whole_of e)) d e a b (λ same. differ (record { object = ap (λ (r : ObjectPart). r.object) same; owner = ap (λ (r : ObjectPart). r.owner) same }))

-- after an event the view of p's complete object, of class d, is the subobject y, of class e, and so it is noted
pub record HasView (w : World) (g : Heap) (s : Phases) (notes : Notes) (p : ObjectPart) (d : ClassId) (y : Subobject) (e : ClassId) : Type 0 where
  pub class : class_of y ≡ Some e
  pub view_is : view s p.object p.owner d ≡ Some y
  pub noted : notes.view (at_part w g (whole_in p d)) d.0 ≡ Some (shadow_pair w g (part p.object p.owner y) e)

-- the view of a complete object is one subobject, of one class
pub one_view : (w : World) (g : Heap) (s : Phases) (notes : Notes) (p : ObjectPart) (d : ClassId) (y : Subobject) (e : ClassId) → Made w g (whole_in p d) d → HasView w g s notes p d y e → (k : ℕ) (o : List Step) (b c : ClassId) (x : Subobject) → Owns p k o → Made w g (part k o (whole_of b)) b
    → view s k o b ≡ Some x → Made w g (part k o x) c → (part p.object p.owner y ≡ part k o x) × (d ≡ b) × (e ≡ c)
one_view w g s notes p d y e whole has k o b c x owns there is made =
    let moved : Made w g (part k o (whole_of d)) d = subst (λ i. Made w g (part i o (whole_of d)) d) owns.object (subst (λ (r : List Step). Made w g (part p.object r (whole_of d)) d) owns.owner whole) in
    let one = complete_once w g k o d b moved there in
    let mine : view s k o b ≡ Some y = subst (λ (a : ClassId). view s k o a ≡ Some y) one (subst (λ i. view s i o d ≡ Some y) owns.object (subst (λ (r : List Step). view s p.object r d ≡ Some y) owns.owner has.view_is)) in
    let same : y ≡ x = let f : Some y ≡ Some x = sym mine ∙ is in cc (f) in
    let class : e ≡ c = let f : Some e ≡ Some c = sym has.class ∙ (ap class_of same ∙ made.of_class) in cc (f) in
    (part_is (part p.object p.owner y) k o x (record { object = owns.object; owner = owns.owner }) same, one, class)

pub views_change : (w : World) (g : Heap) → AreObjectsLaid (world_classes w) w.setup.rows g → (s s' : Phases) (notes notes' : Notes) (p : ObjectPart) (d : ClassId) → Made w g (whole_in p d) d → IsOnly p s s' → IsViewed w g p d notes notes'
    → ((k : ℕ) (o : List Step) (b c : ClassId) (x : Subobject) → Owns p k o → Made w g (part k o (whole_of b)) b → view s' k o b ≡ Some x → Made w g (part k o x) c → notes'.view (at_part w g (part k o (whole_of b))) b.0 ≡ Some (shadow_pair w g (part k o x) c))
    → ViewsAreNoted w g s notes → ViewsAreNoted w g s' notes'
views_change w g laid s s' notes notes' p d whole only new here old = record {
  view = λ k o b c x there is made. ⊎_elim
      (λ owns. here k o b c x owns there is made)
      (λ differ. new.there (at_part w g (part k o (whole_of b))) b.0 (other_whole w g laid p d k o b whole there differ) ∙ old.view k o b c x there (sym (view_elsewhere p s s' only k o b differ) ∙ is) made)
      (owner_cases p k o);
}

pub views_here : (w : World) (g : Heap) (s : Phases) (notes : Notes) (p : ObjectPart) (d : ClassId) (y : Subobject) (e : ClassId) → Made w g (whole_in p d) d → HasView w g s notes p d y e
    → (k : ℕ) (o : List Step) (b c : ClassId) (x : Subobject) → Owns p k o → Made w g (part k o (whole_of b)) b → view s k o b ≡ Some x → Made w g (part k o x) c → notes.view (at_part w g (part k o (whole_of b))) b.0 ≡ Some (shadow_pair w g (part k o x) c)
views_here w g s notes p d y e whole has k o b c x owns there is made =
    let one = one_view w g s notes p d y e whole has k o b c x owns there is made in
    let whole_is : whole_in p b ≡ part k o (whole_of b) = part_is (whole_in p b) k o (whole_of b) (record { object = owns.object; owner = owns.owner }) refl in
    subst (λ (q : ObjectPart). notes.view (at_part w g q) b.0 ≡ Some (shadow_pair w g (part k o x) c)) whole_is
    (subst (λ (q : ObjectPart). notes.view (at_part w g (whole_in p b)) b.0 ≡ Some (shadow_pair w g q c)) one.0
    (subst (λ (a : ClassId). notes.view (at_part w g (whole_in p b)) b.0 ≡ Some (shadow_pair w g (part p.object p.owner y) a)) one.2
    (subst (λ (a : ClassId). notes.view (at_part w g (whole_in p a)) a.0 ≡ Some (shadow_pair w g (part p.object p.owner y) e)) one.1 has.noted)))
