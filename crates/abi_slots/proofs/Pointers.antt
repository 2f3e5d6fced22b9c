-- The virtual pointers of a view: shared along a chain, and apart otherwise.
use Rattle.std.proofs.Common.{◌≡◌, ℕ, zero, suc, ◌+◌, ◌≤◌, ◌⊎◌, inl, inr, ⊎_elim, Option, Some, None, List, [], ◌∷◌, ◌++◌, refl, subst, sym, ◌∙◌, arith}
use Rattle.std.specs.Prelude.{if◌then◌else◌}
use Rattle.cxx_hierarchy.specs.declared.records.ClassId.{ClassId}
use Rattle.cxx_hierarchy.specs.Classes.{Classes}
use Rattle.cxx_hierarchy.specs.Hierarchies.{IsHierarchy}
use Rattle.cxx_subobject.specs.declared.Subobject.{Subobject}
use Rattle.cxx_subobject.specs.declared.locations.Hop.{Hop}
use Rattle.cxx_subobject.specs.declared.locations.Hop.TheVariants.{Inherit}
use Rattle.cxx_subobject.specs.Locations.{to_subobject}
use Rattle.cxx_subobject.specs.Subobjects.{IsSubobject, subobject, shared_base, class_of}
use Rattle.cxx_subobject.proofs.PathLemmas.{class_there}
use Rattle.cxx_subobject.proofs.InsideLemmas.{join_injective}
use Rattle.abi_primary.specs.declared.Primary.{Primary}
use Rattle.abi_primary.specs.declared.Primary.TheVariants.{None as NoPrimary, Direct, Virtual}
use Rattle.abi_primary.specs.Kinds.{IsDynamic}
use Rattle.abi_sound.specs.declared.class_layout.ClassLayout.{ClassLayout}
use Rattle.abi_sound.specs.Chains.{primary_part, primary_of_class, primary_by, is_subobject_in, IsInChain, itself, further, ShareChain, downwards, upwards, in_element}
use Rattle.abi_sound.specs.Places.{Places, places_of}
use Rattle.abi_sound.specs.Sound.{IsSoundLayout}
use Rattle.abi_slots.specs.Seen.{PlacedTables, IsPointOf, SharePointer}
use Rattle.abi_slots.specs.Views.{View, IsView, seen, place, next_by, next_in, next, along_chain, Serves}
use Rattle.abi_slots.proofs.Chains.{Setting, same_some, seen_down, seen_valid, seen_class, next_under, walk_under}
use Rattle.abi_slots.proofs.Heads.{some_head}
use Rattle.abi_slots.proofs.OneHead.{one_head}
use Rattle.abi_slots.proofs.Settings.{setting_of}
use Rattle.foundation.proofs.Truth.{split}

-- two walks, one after the other
walk_on : (go : Subobject → Option Subobject) (m n : ℕ) (u s t : Subobject) → along_chain go m (Some u) ≡ Some s → along_chain go n (Some s) ≡ Some t → along_chain go (m + n) (Some u) ≡ Some t
walk_on go zero n u s t a b =
    let here : u ≡ s = same_some u s a in
    let z : 0 + n ≡ n = omega arith in
    subst (λ k. along_chain go k (Some u) ≡ Some t) (sym z) (subst (λ v. along_chain go n (Some v) ≡ Some t) (sym here) b)
walk_on go (suc m) n u s t a b =
    let z : suc m + n ≡ suc (m + n) = omega arith in
    subst (λ k. along_chain go k (Some u) ≡ Some t) (sym z) (by_next (go u) a (λ v there. walk_on go m n v s t there b))
  where
    by_next : (o : Option Subobject) → along_chain go m o ≡ Some s → ((v : Subobject) → along_chain go m (Some v) ≡ Some s → along_chain go (m + n) (Some v) ≡ Some t) → along_chain go (m + n) o ≡ Some t
    by_next None there rest = absurd (none m there)
      where
        none : (j : ℕ) → along_chain go j None ≡ Some s → ⊥
        none zero g = cc
        none (suc j) g = cc
    by_next (Some v) there rest = rest v there

module _ (h : Classes) (l : Places) (x : View) (set : Setting h l x) where
  -- the primary base in the complete object of what the view has is the next in the view
  record IsNextSeen (s q : Subobject) : Type 0 where
    after : Subobject
    goes : next l x s ≡ Some after
    is : seen x after ≡ q

  next_seen : (s q : Subobject) → IsSubobject h x.class s → primary_part l x.complete (seen x s) ≡ Some q → IsNextSeen s q
  next_seen s q valid e =
      let d = class_there h x.class s valid in
      let class = seen_class h l x set s d.0 valid d.1 in
      by_primary d.0 d.1 (l.primary d.0) refl (subst (λ o. primary_of_class l x.complete (seen x s) o ≡ Some q) class e)
    where
      goes_by : (d : ClassId) (p : Primary) (t : Subobject) → class_of s ≡ Some d → l.primary d ≡ p → next_by l x s p ≡ Some t → next l x s ≡ Some t
      goes_by d p t of is f = subst (λ o. next_in l x s o ≡ Some t) (sym of) (subst (λ a. next_by l x s a ≡ Some t) (sym is) f)

      by_primary : (d : ClassId) → class_of s ≡ Some d → (p : Primary) → l.primary d ≡ p → primary_by l x.complete (seen x s) p ≡ Some q → IsNextSeen s q
      by_primary d of NoPrimary is f = absurd (cc)
      by_primary d of (Direct b) is f = record {
        after = subobject s.root (s.path ++ b ∷ []);
        goes = goes_by d (Direct b) (subobject s.root (s.path ++ b ∷ [])) of is refl;
        is = seen_down h x x.class s b valid ∙ same_some (subobject (seen x s).root ((seen x s).path ++ b ∷ [])) q f;
      }
      by_primary d of (Virtual v) is f = split (is_subobject_in (l.holder x.complete v) (seen x s))
          (λ b. is_subobject_in (l.holder x.complete v) (seen x s) ≡ b → (if b then Some (shared_base v) else None) ≡ Some q → IsNextSeen s q)
          (λ t held there. record { after = shared_base v; goes = goes_by d (Virtual v) (shared_base v) of is (rw held refl); is = same_some (shared_base v) q there })
          (λ t held there. absurd (cc))
          refl f

  record IsWalkSeen (s r : Subobject) : Type 0 where
    steps : ℕ
    last : Subobject
    leads : along_chain (next l x) steps (Some s) ≡ Some last
    is : seen x last ≡ r

  walk_seen : (p r s : Subobject) → IsInChain l x.complete p r → p ≡ seen x s → IsSubobject h x.class s → IsWalkSeen s r
  walk_seen p _ s (itself _) e valid = record { steps = 0; last = s; leads = refl; is = sym e }
  walk_seen p r s (further _ q _ f rest) e valid =
      let n = next_seen s q valid (subst (λ a. primary_part l x.complete a ≡ Some q) e f) in
      let under = next_under h l x set s n.after valid n.goes in
      let more = walk_seen q r n.after rest (sym n.is) under.under.valid_below in
      record { steps = suc more.steps; last = more.last; leads = rw n.goes more.leads; is = more.is }

  -- what is in the chain of another shares its pointer
  chain_shares : (s t : Subobject) (c : ClassId) → IsSubobject h x.class s → IsSubobject h x.class t → class_of s ≡ Some c → IsDynamic h c → IsInChain l x.complete (seen x s) (seen x t) → SharePointer h l x s t
  chain_shares s t c of_s of_t e dyn there =
      let w = walk_seen (seen x s) (seen x t) s there refl of_s in
      let under = (walk_under h l x set w.steps s w.last of_s w.leads).under in
      let same : w.last ≡ t = join_injective h set.keeps x.complete x.class x.at_sub w.last t set.view.valid set.view.of_class under.valid_below of_t w.is in
      let leads : along_chain (next l x) w.steps (Some s) ≡ Some t = subst (λ a. along_chain (next l x) w.steps (Some s) ≡ Some a) same w.leads in
      let head = some_head h l x set s c of_s e dyn in
      record {
        same_place = subst (λ a. place l x s ≡ place l x a) same (sym under.same_place);
        head = head.0;
        first = head.1;
        second = record { valid = head.1.valid; head = head.1.head; steps = head.1.steps + w.steps; leads = walk_on (next l x) head.1.steps w.steps head.0 s t head.1.leads leads };
      }

  turned : (s t : Subobject) → SharePointer h l x s t → SharePointer h l x t s
  turned s t a = record { same_place = sym a.same_place; head = a.head; first = a.second; second = a.first }

  shares : (s t : Subobject) (c d : ClassId) → IsSubobject h x.class s → IsSubobject h x.class t → class_of s ≡ Some c → class_of t ≡ Some d → IsDynamic h c → IsDynamic h d → (hops others : List Hop) → ShareChain h l x.complete hops others → hops ≡ Inherit (seen x s) ∷ [] → others ≡ Inherit (seen x t) ∷ [] → SharePointer h l x s t
  shares s t c d of_s of_t e f dyn also _ _ (downwards _ p q there) a b =
      let first : p ≡ seen x s = cc in
      let second : q ≡ seen x t = cc in
      chain_shares s t c of_s of_t e dyn (subst (λ r. IsInChain l x.complete r (seen x t)) first (subst (λ r. IsInChain l x.complete p r) second there))
  shares s t c d of_s of_t e f dyn also _ _ (upwards _ p q there) a b =
      let first : p ≡ seen x s = cc in
      let second : q ≡ seen x t = cc in
      turned t s (chain_shares t s d of_t of_s f also (subst (λ r. IsInChain l x.complete r (seen x s)) second (subst (λ r. IsInChain l x.complete q r) first there)))
  shares s t c d of_s of_t e f dyn also _ _ (in_element _ k m u i j hops others g element inner) a b = absurd (cc)

  pub same_point : (placed : PlacedTables) (s t : Subobject) (p : ℕ) → SharePointer h l x s t → IsPointOf h l x placed s p → IsPointOf h l x placed t p
  same_point placed s t p a at_point =
      let same : a.head ≡ at_point.head = one_head h l x set a.head at_point.head s a.first at_point.serves in
      record { number = at_point.number; head = at_point.head; at_head = at_point.at_head; serves = subst (λ u. Serves h l x u t) same a.second; is = at_point.is }

  pub next_place : (s t : Subobject) → IsSubobject h x.class s → next l x s ≡ Some t → place l x t ≡ place l x s
  next_place s t valid e = (next_under h l x set s t valid e).under.same_place

pub pointers_apart : (h : Classes) (rows : List ClassLayout) (x : View) (s t : Subobject) (c d : ClassId) → IsHierarchy h → IsSoundLayout h rows → IsView h x → IsSubobject h x.class s → IsSubobject h x.class t → class_of s ≡ Some c → class_of t ≡ Some d → IsDynamic h c → IsDynamic h d →
    SharePointer h (places_of h rows) x s t ⊎ ((place (places_of h rows) x s + 8 ≤ place (places_of h rows) x t) ⊎ (place (places_of h rows) x t + 8 ≤ place (places_of h rows) x s))
pointers_apart h rows x s t c d keeps sound view of_s of_t e f dyn also =
    let l = places_of h rows in
    let set = setting_of h rows keeps sound x view in
    let one = to_subobject x.complete c (seen x s) (seen_valid h l x set s of_s) (seen_class h l x set s c of_s e) in
    let two = to_subobject x.complete d (seen x t) (seen_valid h l x set t of_t) (seen_class h l x set t d of_t f) in
    ⊎_elim (λ share. inl (shares h l x set s t c d of_s of_t e f dyn also (Inherit (seen x s) ∷ []) (Inherit (seen x t) ∷ []) share refl refl))
    (λ apart. inr (⊎_elim (λ less. inl (omega arith)) (λ more. inr (omega arith)) apart))
    ((sound.each x.complete view.known).pointers_apart c d (Inherit (seen x s) ∷ []) (Inherit (seen x t) ∷ []) dyn also one two)
