-- The plans do not depend on the number of steps: each is its seven points over the plans of its parts.
use Rattle.std.proofs.Common.{◌≡◌, ℕ, zero, suc, ◌+◌, ◌<◌, Option, Some, None, List, [], ◌∷◌, ◌++◌, length, refl, ap, sym, ◌∙◌, arith}
use Rattle.std.specs.Prelude.{slice_get, if◌then◌else◌}
use Rattle.cxx_hierarchy.specs.declared.records.ClassId.{ClassId}
use Rattle.cxx_hierarchy.specs.declared.records.Base.{Base}
use Rattle.cxx_hierarchy.specs.declared.records.Member.{Member}
use Rattle.cxx_hierarchy.specs.declared.records.FieldType.{FieldType}
use Rattle.cxx_hierarchy.specs.declared.records.FieldType.TheVariants.{Value, Object}
use Rattle.cxx_hierarchy.specs.Classes.{Classes, bases_of, members_of}
use Rattle.cxx_hierarchy.specs.Hierarchies.{IsHierarchy}
use Rattle.cxx_hierarchy.specs.Declarations.{elements_of}
use Rattle.foundation.proofs.Members.{has_at, contains_from_has, flat_map_same}
use Rattle.foundation.proofs.Truth.{split}
use Rattle.cxx_subobject.proofs.PathLemmas.{virtual_below}
use Rattle.path_plan.specs.Places.{ObjectPart, base_part, shared_part, element}
use Rattle.path_plan.specs.Phases.{Begin, Ready, Done}
use Rattle.path_plan.specs.declared.form.Form.{Form}
use Rattle.path_plan.specs.declared.form.Form.TheVariants.{InFull, AsBase}
use Rattle.path_plan.specs.Plans.{Bodies, Inner, virtual_order, upto, shared_events, base_events, typed_events, member_events, body_events, built_by, build, ended_by, plan, unplan}
use Rattle.path_plan.proofs.Order.{order_virtual}
use Rattle.path_plan.specs.Mirrors.{mirrored, exchanged}
use Rattle.path_plan.proofs.Mirror.{law_step, mirror_law}

-- the same for all classes below n
abbrev AreSame : Inner → Inner → ℕ → Type 0
AreSame f g n = (form : Form) (c : ClassId) (p : ObjectPart) → c.0 < n → f form c p ≡ g form c p

typed_same : (f g : Inner) (bodies : Bodies) (c : ClassId) (p : ObjectPart) (m : ℕ) (indices : List ℕ) (ty : FieldType ClassId) (n : ℕ) → AreSame f g n → ((d : ClassId) → ty ≡ Object d → d.0 < n)
    → typed_events f bodies c p m indices ty ≡ typed_events g bodies c p m indices ty
typed_same f g bodies c p m indices (Value type) n same below = refl
typed_same f g bodies c p m indices (Object d) n same below = flat_map_same (λ i. f InFull d (element p m i d)) (λ i. g InFull d (element p m i d)) indices (λ i has. same InFull d (element p m i d) (below d refl))

member_same : (h : Classes) → IsHierarchy h → (f g : Inner) (bodies : Bodies) (c : ClassId) (p : ObjectPart) (m : ℕ) (o : Option (Member ClassId)) → slice_get (members_of h c) m ≡ o → AreSame f g c.0
    → member_events f bodies c p m o ≡ member_events g bodies c p m o
member_same h keeps f g bodies c p m None at same = refl
member_same h keeps f g bodies c p m (Some member) at same = typed_same f g bodies c p m (upto (elements_of member.count)) member.ty c.0 same
    (λ d e. keeps.objects c d member (contains_from_has (members_of h c) member (has_at (members_of h c) m member at)) e)

shared_same : (h : Classes) → IsHierarchy h → (f g : Inner) (form : Form) (c : ClassId) (p : ObjectPart) → AreSame f g c.0 → shared_events f form p (virtual_order h c) ≡ shared_events g form p (virtual_order h c)
shared_same h keeps f g AsBase c p same = refl
shared_same h keeps f g InFull c p same = flat_map_same (λ v. f AsBase v (shared_part p v)) (λ v. g AsBase v (shared_part p v)) (virtual_order h c)
    (λ v has. same AsBase v (shared_part p v) (virtual_below h keeps c v (order_virtual h keeps c v has)))

base_same : (f g : Inner) (p : ObjectPart) (b : Base ClassId) (n : ℕ) → AreSame f g n → b.class.0 < n → base_events f p b ≡ base_events g p b
base_same f g p b n same below = split b.is_virtual (λ t. (if t then [] else f AsBase b.class (base_part p b)) ≡ (if t then [] else g AsBase b.class (base_part p b))) (λ e. refl) (λ e. same AsBase b.class (base_part p b) below)

built_same : (h : Classes) → IsHierarchy h → (bodies : Bodies) (f g : Inner) (form : Form) (c : ClassId) (p : ObjectPart) → AreSame f g c.0 → built_by h bodies f form c p ≡ built_by h bodies g form c p
built_same h keeps bodies f g form c p same = λ i.
    Begin p ∷ (shared_same h keeps f g form c p same i
    ++ (flat_map_same (base_events f p) (base_events g p) (bases_of h c) (λ b has. base_same f g p b c.0 same (keeps.bases c b (contains_from_has (bases_of h c) b has))) i
    ++ (Ready p ∷ (flat_map_same (λ m. member_events f bodies c p m (slice_get (members_of h c) m)) (λ m. member_events g bodies c p m (slice_get (members_of h c) m)) (upto (length (members_of h c))) (λ m has. member_same h keeps f g bodies c p m (slice_get (members_of h c) m) refl same) i
    ++ (body_events (bodies.constructor c) p ++ Done p ∷ [])))))

pub build_steps : (h : Classes) → IsHierarchy h → (bodies : Bodies) (n m : ℕ) (form : Form) (c : ClassId) (p : ObjectPart) → c.0 < n → c.0 < m → build h bodies n form c p ≡ build h bodies m form c p
unfolding build
build_steps h keeps bodies zero m form c p a b = absurd (omega arith)
build_steps h keeps bodies (suc n) zero form c p a b = absurd (omega arith)
build_steps h keeps bodies (suc n) (suc m) form c p a b = built_same h keeps bodies (build h bodies n) (build h bodies m) form c p (λ f d q lt. build_steps h keeps bodies n m f d q (omega arith) (omega arith))

one_step : (h : Classes) (bodies : Bodies) (n k : ℕ) (form : Form) (c : ClassId) (p : ObjectPart) → n ≡ suc k → build h bodies n form c p ≡ built_by h bodies (build h bodies k) form c p
unfolding build
one_step h bodies n k form c p e = ap (λ j. build h bodies j form c p) e

pub plan_is : (h : Classes) → IsHierarchy h → (bodies : Bodies) (form : Form) (c : ClassId) (p : ObjectPart) → plan h bodies form c p ≡ built_by h bodies (plan h bodies) form c p
plan_is h keeps bodies form c p = one_step h bodies (c.0 + 1) c.0 form c p (omega arith)
    ∙ built_same h keeps bodies (build h bodies c.0) (plan h bodies) form c p (λ f d q lt. build_steps h keeps bodies c.0 (d.0 + 1) f d q lt (omega arith))

pub unplan_is : (h : Classes) → IsHierarchy h → (bodies : Bodies) (form : Form) (c : ClassId) (p : ObjectPart) → unplan h bodies form c p ≡ ended_by h bodies (unplan h bodies) form c p
unplan_is h keeps bodies form c p =
    sym (mirror_law h bodies (c.0 + 1) form c p) ∙ (ap mirrored (plan_is h keeps (exchanged bodies) form c p) ∙ (law_step h bodies (plan h (exchanged bodies)) form c p
    ∙ λ i. ended_by h bodies (λ f d q. mirror_law h bodies (d.0 + 1) f d q i) form c p))
