-- Chains of primary bases: what lies in them, their heads, and the virtual pointers of these.
use Rattle.std.proofs.Common.{◌≡◌, ℕ, zero, suc, ◌+◌, ◌<◌, ◌≤◌, ◌⊎◌, inl, inr, ⊎_elim, Bool, true, false, Option, Some, None, List, [], ◌∷◌, ◌++◌, length, refl, ap, subst, sym, ◌∙◌, arith, append_assoc}
use Rattle.std.specs.Prelude.{if◌then◌else◌, Contains, ◌↔◌}
use Rattle.std.specs.List.{find}
use Rattle.cxx_hierarchy.specs.declared.records.ClassId.{ClassId}
use Rattle.cxx_hierarchy.specs.Classes.{Classes}
use Rattle.cxx_hierarchy.specs.Hierarchies.{IsHierarchy}
use Rattle.cxx_subobject.specs.declared.locations.Hop.{Hop}
use Rattle.cxx_subobject.specs.declared.locations.Hop.TheVariants.{Inherit, Member as MemberHop}
use Rattle.cxx_subobject.specs.declared.Root.{Root}
use Rattle.cxx_subobject.specs.declared.Root.TheVariants.{Whole, Shared}
use Rattle.cxx_subobject.specs.declared.Subobject.{Subobject}
use Rattle.cxx_subobject.specs.Locations.{to_subobject}
use Rattle.cxx_subobject.specs.Subobjects.{Leads, subobject, shared_base, whole, shared, IsSubobject, class_of, join}
use Rattle.cxx_subobject.specs.Preorder.{preorder}
use Rattle.cxx_subobject.specs.Inside.{IsInside}
use Rattle.cxx_subobject.proofs.DecidingLemmas.{base_of_shared}
use Rattle.cxx_subobject.proofs.PathLemmas.{leads_front, class_there, class_low}
use Rattle.cxx_subobject.proofs.InsideLemmas.{inside_itself, inside_through, join_class}
use Rattle.cxx_subobject.proofs.TreeLemmas.{has_preorder}
use Rattle.foundation.proofs.Members.{Has, has_from_contains, contains_from_has}
use Rattle.abi_primary.specs.declared.Primary.TheVariants.{Direct}
use Rattle.abi_primary.specs.Kinds.{IsDynamic}
use Rattle.abi_sound.specs.declared.class_layout.ClassLayout.{ClassLayout}
use Rattle.abi_sound.specs.Places.{Places, places_of}
use Rattle.abi_sound.specs.Chains.{is_subobject_in, primary_part, IsInChain, itself, further, ShareChain, downwards, upwards, in_element, chain_behind, chain_within, chain, but_last, only_above, kept_above, above, climbed, head_after, chain_head}
use Rattle.abi_sound.specs.Sound.{is_primary_of, IsSoundLayout}
use Rattle.abi_sound.proofs.PlaceLemmas.{place_at_base}
use Rattle.abi_sound.proofs.PrimaryParts.{IsPrimaryPart, by_direct, by_holder, is_in, in_itself, primary_cases, primary_is, primary_base, primary_valid}

-- a chain goes on at its end
pub chain_more : (l : Places) (c : ClassId) (s t u : Subobject) → IsInChain l c s t → primary_part l c t ≡ Some u → IsInChain l c s u
chain_more l c _ _ u (itself s) e = further s u u e (itself u)
chain_more l c _ _ u (further s t w first rest) e = further s t u first (chain_more l c t w u rest e)

-- two chains, one behind the other, are one
pub chain_joined : (l : Places) (c : ClassId) (s t u : Subobject) → IsInChain l c s t → IsInChain l c t u → IsInChain l c s u
chain_joined l c _ _ u (itself s) on = on
chain_joined l c _ _ u (further s t w first rest) on = further s t u first (chain_joined l c t w u rest on)

-- the last step of a chain
pub record IsLastStep (l : Places) (c : ClassId) (s u : Subobject) : Type 0 where
  pub before : Subobject
  pub chain : IsInChain l c s before
  pub step : primary_part l c before ≡ Some u

pub last_step : (l : Places) (c : ClassId) (s u : Subobject) → IsInChain l c s u → (s ≡ u) ⊎ IsLastStep l c s u
last_step l c _ _ (itself s) = inl refl
last_step l c _ _ (further s t u first rest) = inr (⊎_elim
    (λ same. record { before = s; chain = itself s; step = first ∙ ap Some same })
    (λ x. record { before = x.before; chain = further s t x.before first x.chain; step = x.step })
    (last_step l c t u rest))

-- what lies in a chain is a subobject
pub chain_valid : (h : Classes) (rows : List ClassLayout) → IsHierarchy h → IsSoundLayout h rows → (c : ClassId) (s t : Subobject) → c.0 < length h → IsSubobject h c s → IsInChain (places_of h rows) c s t → IsSubobject h c t
chain_valid h rows keeps sound c _ _ lt valid (itself s) = valid
chain_valid h rows keeps sound c _ _ lt valid (further s t u first rest) = chain_valid h rows keeps sound c t u lt (primary_valid h rows keeps sound c s t lt valid first) rest

-- all of a chain lies in its first
pub chain_inside : (h : Classes) (rows : List ClassLayout) → IsHierarchy h → IsSoundLayout h rows → (c : ClassId) (s t : Subobject) → c.0 < length h → IsSubobject h c s → IsInChain (places_of h rows) c s t → IsInside h s t
chain_inside h rows keeps sound c _ _ lt valid (itself s) = inside_itself h c s valid
chain_inside h rows keeps sound c _ _ lt valid (further s t u first rest) =
    inside_through h s t u (primary_base h rows keeps sound c s t lt valid first).inside (chain_inside h rows keeps sound c t u lt (primary_valid h rows keeps sound c s t lt valid first) rest)

-- a chain that begins in a subobject stays in it
pub chain_stays : (h : Classes) (rows : List ClassLayout) → IsHierarchy h → IsSoundLayout h rows → (c : ClassId) (x s t : Subobject) → c.0 < length h → IsSubobject h c s → IsInside h x s → IsInChain (places_of h rows) c s t → IsInside h x t
chain_stays h rows keeps sound c x s t lt valid inside chain = inside_through h x s t inside (chain_inside h rows keeps sound c s t lt valid chain)

-- all of a chain has one place
pub chain_place : (h : Classes) (rows : List ClassLayout) → IsHierarchy h → IsSoundLayout h rows → (c : ClassId) (s t : Subobject) → c.0 < length h → IsSubobject h c s → IsInChain (places_of h rows) c s t → (places_of h rows).place c t ≡ (places_of h rows).place c s
chain_place h rows keeps sound c _ _ lt valid (itself s) = refl
chain_place h rows keeps sound c _ _ lt valid (further s t u first rest) =
    chain_place h rows keeps sound c t u lt (primary_valid h rows keeps sound c s t lt valid first) rest ∙ (sound.each c lt).one_place s t valid first

-- all of the chain of a dynamic subobject is dynamic
pub chain_dynamic : (h : Classes) (rows : List ClassLayout) → IsHierarchy h → IsSoundLayout h rows → (c d e : ClassId) (s t : Subobject) → c.0 < length h → IsSubobject h c s → class_of s ≡ Some d → IsDynamic h d → IsInChain (places_of h rows) c s t → class_of t ≡ Some e → IsDynamic h e
chain_dynamic h rows keeps sound c d e _ _ lt valid class dynamic (itself s) other = let same : d ≡ e = cc in subst (IsDynamic h) same dynamic
chain_dynamic h rows keeps sound c d e _ _ lt valid class dynamic (further s t u first rest) other =
    let b = primary_base h rows keeps sound c s t lt valid first in
    chain_dynamic h rows keeps sound c b.class e t u lt (primary_valid h rows keeps sound c s t lt valid first) b.class_is b.dynamic rest other

-- the list of a chain has what lies in it, and no more
listed_in : (l : Places) (n : ℕ) (c : ClassId) (s t : Subobject) → Has (chain_within l n c s) t → IsInChain l c s t
listed_in l zero c s t has = absurd has
listed_in l (suc n) c s t has = ⊎_elim
    (λ same. subst (IsInChain l c s) same (itself s))
    (by_option (primary_part l c s) refl (λ u k. listed_in l n c u t k))
    has
  where
    by_option : (o : Option Subobject) → primary_part l c s ≡ o → ((u : Subobject) → Has (chain_within l n c u) t → IsInChain l c u t) → Has (chain_behind (chain_within l n c) o) t → IsInChain l c s t
    by_option None e next k = absurd k
    by_option (Some u) e next k = further s u t e (next u k)

in_listed : (h : Classes) (rows : List ClassLayout) → IsHierarchy h → IsSoundLayout h rows → (n : ℕ) (c d : ClassId) (s t : Subobject) → c.0 < length h → IsSubobject h c s → class_of s ≡ Some d → d.0 < n → IsInChain (places_of h rows) c s t → Has (chain_within (places_of h rows) n c s) t
in_listed h rows keeps sound zero c d s t lt valid class few chain = absurd (omega arith)
in_listed h rows keeps sound (suc n) c d _ _ lt valid class few (itself s) = inl refl
in_listed h rows keeps sound (suc n) c d _ _ lt valid class few (further s t u first rest) =
    let b = primary_base h rows keeps sound c s t lt valid first in
    let both : Some b.of ≡ Some d = sym b.of_is ∙ class in
    let same : b.of ≡ d = cc in
    let number : b.of.0 ≡ d.0 = ap (λ (x : ClassId). x.0) same in
    let falls = b.falls in
    let more = in_listed h rows keeps sound n c b.class t u lt (primary_valid h rows keeps sound c s t lt valid first) b.class_is (omega (arith, number, falls, few)) rest in
    inr (subst (λ (o : Option Subobject). Has (chain_behind (chain_within (places_of h rows) n c) o) u) (sym first) more)

pub chain_lists : (h : Classes) (rows : List ClassLayout) → IsHierarchy h → IsSoundLayout h rows → (c : ClassId) (s t : Subobject) → c.0 < length h → IsSubobject h c s → Contains (chain (places_of h rows) c s) t ↔ IsInChain (places_of h rows) c s t
chain_lists h rows keeps sound c s t lt valid =
    let l = places_of h rows in
    let k = class_there h c s valid in
    let low = class_low h keeps c k.0 s valid k.1 in (
      λ x. listed_in l (c.0 + 1) c s t (has_from_contains (chain l c s) t x),
      λ x. contains_from_has (chain l c s) t (in_listed h rows keeps sound (c.0 + 1) c k.0 s t lt valid k.1 (omega (arith, low)) x),
    )

-- the one above has the subobject as its primary base
pub primary_above : (l : Places) (c : ClassId) (s t : Subobject) → above l c s ≡ Some t → primary_part l c t ≡ Some s
primary_above l c s t e = by_option (only_above l c s.root s.path) e
  where
    by_test : (u : Subobject) (b : Bool) → is_subobject_in (primary_part l c u) s ≡ b → (if b then Some u else None) ≡ Some t → primary_part l c t ≡ Some s
    by_test u true f g = let same : u ≡ t = cc in subst (λ (x : Subobject). primary_part l c x ≡ Some s) same (is_in (primary_part l c u) s f)
    by_test u false f g = let k : None ≡ Some t = g in cc

    by_option : (o : Option Subobject) → kept_above l c s o ≡ Some t → primary_part l c t ≡ Some s
    by_option None g = let k : None ≡ Some t = g in cc
    by_option (Some u) g = by_test u (is_subobject_in (primary_part l c u) s) refl g

but_last_pushed : (path : List ClassId) (b : ClassId) → but_last (path ++ b ∷ []) ≡ path
but_last_pushed [] b = refl
but_last_pushed (a ∷ []) b = refl
but_last_pushed (a ∷ e ∷ path) b = ap (λ (p : List ClassId). a ∷ p) (but_last_pushed (e ∷ path) b)

only_direct : (l : Places) (c a b : ClassId) (root : Root) (path : List ClassId) → only_above l c root (a ∷ (path ++ b ∷ [])) ≡ Some (subobject root (a ∷ path))
only_direct l c a b Whole [] = refl
only_direct l c a b (Shared v) [] = refl
only_direct l c a b Whole (e ∷ path) = ap (λ (p : List ClassId). Some (subobject Whole p)) (but_last_pushed (a ∷ e ∷ path) b)
only_direct l c a b (Shared v) (e ∷ path) = ap (λ (p : List ClassId). Some (subobject (Shared v) p)) (but_last_pushed (a ∷ e ∷ path) b)

-- the one whose primary base a subobject is stands above it
pub above_primary : (l : Places) (c : ClassId) (s t : Subobject) → primary_part l c t ≡ Some s → above l c s ≡ Some t
above_primary l c s t e =
    ap (kept_above l c s) (only s t (primary_cases l c t s e))
    ∙ ap (λ b. if b then Some t else None) (in_itself (primary_part l c t) s e)
  where
    by_path : (d b : ClassId) (root : Root) (path : List ClassId) → class_of (subobject root path) ≡ Some d → only_above l c root (path ++ b ∷ []) ≡ Some (subobject root path)
    by_path d b root [] class = let k : None ≡ Some d = class in cc
    by_path d b root (a ∷ path) class = only_direct l c a b root path

    only : (x y : Subobject) → IsPrimaryPart l c y x → only_above l c x.root x.path ≡ Some y
    only _ _ (by_direct y d b class primary) = by_path d b y.root y.path class
    only _ _ (by_holder y d v class primary held) = held

pub find_has : {X : Type 0} (test : X → Bool) (xs : List X) (x : X) → find test xs ≡ Some x → Has xs x
find_has test [] x e = let k : None ≡ Some x = e in cc
find_has {X} test (y ∷ xs) x e = by_test (test y) e (λ f. find_has test xs x f)
  where
    by_test : (b : Bool) → (if b then Some y else find test xs) ≡ Some x → (find test xs ≡ Some x → Has xs x) → Has (y ∷ xs) x
    by_test true f next = let same : y ≡ x = cc in inl same
    by_test false f next = inr (next f)

front_valid : (h : Classes) (c a b : ClassId) (root : Root) (path : List ClassId) (s : Subobject) → IsSubobject h c s → s ≡ subobject root (a ∷ (path ++ b ∷ [])) → IsSubobject h c (subobject root (a ∷ path))
front_valid h c a b root path _ (whole p l) e =
    let r : Whole ≡ root = ap (λ (t : Subobject). t.root) e in
    let f : (c ∷ p) ≡ (a ∷ (path ++ b ∷ [])) = ap (λ (t : Subobject). t.path) e in
    let first : c ≡ a = cc in
    let rest : p ≡ path ++ b ∷ [] = cc in
    let valid : IsSubobject h c (subobject Whole (c ∷ path)) = whole path (leads_front h c path (b ∷ []) (subst (Leads h c) rest l)) in
    subst (λ (x : Root). IsSubobject h c (subobject x (a ∷ path))) r (subst (λ (y : ClassId). IsSubobject h c (subobject Whole (y ∷ path))) first valid)
front_valid h c a b root path _ (shared v p has l) e =
    let r : Shared v ≡ root = ap (λ (t : Subobject). t.root) e in
    let f : (v ∷ p) ≡ (a ∷ (path ++ b ∷ [])) = ap (λ (t : Subobject). t.path) e in
    let first : v ≡ a = cc in
    let rest : p ≡ path ++ b ∷ [] = cc in
    let valid : IsSubobject h c (subobject (Shared v) (v ∷ path)) = shared v path has (leads_front h v path (b ∷ []) (subst (Leads h v) rest l)) in
    subst (λ (x : Root). IsSubobject h c (subobject x (a ∷ path))) r (subst (λ (y : ClassId). IsSubobject h c (subobject (Shared v) (y ∷ path))) first valid)

-- what is above a subobject is one too
pub above_valid : (h : Classes) (rows : List ClassLayout) → IsSoundLayout h rows → (c : ClassId) (s t : Subobject) → c.0 < length h → IsSubobject h c s → above (places_of h rows) c s ≡ Some t → IsSubobject h c t
above_valid h rows sound c s t lt valid e = by_cases s t valid (primary_cases (places_of h rows) c t s (primary_above (places_of h rows) c s t e))
  where
    by_path : (x : Subobject) (d b : ClassId) (root : Root) (path : List ClassId) → IsSubobject h c x → x ≡ subobject root (path ++ b ∷ []) → class_of (subobject root path) ≡ Some d → IsSubobject h c (subobject root path)
    by_path x d b root [] is f class = let k : None ≡ Some d = class in cc
    by_path x d b root (a ∷ path) is f class = front_valid h c a b root path x is f

    by_cases : (x y : Subobject) → IsSubobject h c x → IsPrimaryPart (places_of h rows) c y x → IsSubobject h c y
    by_cases _ _ is (by_direct y d b class primary) = by_path (subobject y.root (y.path ++ b ∷ [])) d b y.root y.path is refl class
    by_cases _ _ is (by_holder y d v class primary held) =
        let has = base_of_shared h c v (shared_base v) is refl in
        has_preorder h c y (find_has (λ (z : Subobject). is_primary_of (places_of h rows) v (class_of z)) (preorder h c) y (sym ((sound.each c lt).holder v has) ∙ held))

-- no subobject that the test picks stands above this one
abbrev pub IsTop : Places → (Subobject → Bool) → ClassId → Subobject → Type 0
IsTop l within c s = (t : Subobject) → above l c s ≡ Some t → within t ≡ false

-- of what the test picks it picks the primary base too
abbrev pub IsClosed : Classes → Places → (Subobject → Bool) → ClassId → Type 0
IsClosed h l within c = (s t : Subobject) → IsSubobject h c s → within s ≡ true → primary_part l c s ≡ Some t → within t ≡ true

-- a head begins a chain that has the subobject
chain_after : (l : Places) (within : Subobject → Bool) (n : ℕ) (c : ClassId) (s : Subobject) → IsInChain l c (head_after l within n c s) s
chain_after l within zero c s = itself s
chain_after l within (suc n) c s = by_option (above l c s) refl (chain_after l within n c)
  where
    by_test : (t : Subobject) (b : Bool) → above l c s ≡ Some t → IsInChain l c (head_after l within n c t) t → IsInChain l c (if b then head_after l within n c t else s) s
    by_test t true e chain = chain_more l c (head_after l within n c t) t s chain (primary_above l c s t e)
    by_test t false e chain = itself s

    by_option : (o : Option Subobject) → above l c s ≡ o → ((t : Subobject) → IsInChain l c (head_after l within n c t) t) → IsInChain l c (climbed within (head_after l within n c) s o) s
    by_option None e next = itself s
    by_option (Some t) e next = by_test t (within t) e (next t)

pub head_chain : (l : Places) (within : Subobject → Bool) (c : ClassId) (s : Subobject) → IsInChain l c (chain_head l within c s) s
head_chain l within c s = chain_after l within (c.0 + 1) c s

-- a head is picked where the subobject is
picked_after : (l : Places) (within : Subobject → Bool) (n : ℕ) (c : ClassId) (s : Subobject) → within s ≡ true → within (head_after l within n c s) ≡ true
picked_after l within zero c s picked = picked
picked_after l within (suc n) c s picked = by_option (above l c s) (picked_after l within n c)
  where
    by_test : (t : Subobject) (b : Bool) → within t ≡ b → (within t ≡ true → within (head_after l within n c t) ≡ true) → within (if b then head_after l within n c t else s) ≡ true
    by_test t true e next = next e
    by_test t false e next = picked

    by_option : (o : Option Subobject) → ((t : Subobject) → within t ≡ true → within (head_after l within n c t) ≡ true) → within (climbed within (head_after l within n c) s o) ≡ true
    by_option None next = picked
    by_option (Some t) next = by_test t (within t) refl (next t)

pub head_picked : (l : Places) (within : Subobject → Bool) (c : ClassId) (s : Subobject) → within s ≡ true → within (chain_head l within c s) ≡ true
head_picked l within c s picked = picked_after l within (c.0 + 1) c s picked

valid_after : (h : Classes) (rows : List ClassLayout) → IsSoundLayout h rows → (within : Subobject → Bool) (n : ℕ) (c : ClassId) (s : Subobject) → c.0 < length h → IsSubobject h c s → IsSubobject h c (head_after (places_of h rows) within n c s)
valid_after h rows sound within zero c s lt valid = valid
valid_after h rows sound within (suc n) c s lt valid = by_option (above (places_of h rows) c s) refl (λ t is. valid_after h rows sound within n c t lt is)
  where
    by_test : (t : Subobject) (b : Bool) → IsSubobject h c (head_after (places_of h rows) within n c t) → IsSubobject h c (if b then head_after (places_of h rows) within n c t else s)
    by_test t true is = is
    by_test t false is = valid

    by_option : (o : Option Subobject) → above (places_of h rows) c s ≡ o → ((t : Subobject) → IsSubobject h c t → IsSubobject h c (head_after (places_of h rows) within n c t)) → IsSubobject h c (climbed within (head_after (places_of h rows) within n c) s o)
    by_option None e next = valid
    by_option (Some t) e next = by_test t (within t) (next t (above_valid h rows sound c s t lt valid e))

-- a head is a subobject
pub head_valid : (h : Classes) (rows : List ClassLayout) → IsSoundLayout h rows → (within : Subobject → Bool) (c : ClassId) (s : Subobject) → c.0 < length h → IsSubobject h c s → IsSubobject h c (chain_head (places_of h rows) within c s)
head_valid h rows sound within c s lt valid = valid_after h rows sound within (c.0 + 1) c s lt valid

-- what is above a subobject is of a later class, up to the class of the object
rises : (h : Classes) (rows : List ClassLayout) → IsHierarchy h → IsSoundLayout h rows → (c d : ClassId) (s t : Subobject) → c.0 < length h → IsSubobject h c t → class_of s ≡ Some d → primary_part (places_of h rows) c t ≡ Some s → (e : ClassId) × (class_of t ≡ Some e) × (d.0 < e.0)
rises h rows keeps sound c d s t lt valid class step =
    let b = primary_base h rows keeps sound c t s lt valid step in
    let both : Some b.class ≡ Some d = sym b.class_is ∙ class in
    let same : b.class ≡ d = cc in
    let number : b.class.0 ≡ d.0 = ap (λ (x : ClassId). x.0) same in
    let falls = b.falls in
    (b.of, b.of_is, omega (arith, number, falls))

top_after : (h : Classes) (rows : List ClassLayout) → IsHierarchy h → IsSoundLayout h rows → (within : Subobject → Bool) (n : ℕ) (c d : ClassId) (s : Subobject) → c.0 < length h → IsSubobject h c s → class_of s ≡ Some d → c.0 < d.0 + n → IsTop (places_of h rows) within c (head_after (places_of h rows) within n c s)
top_after h rows keeps sound within zero c d s lt valid class few = let low = class_low h keeps c d s valid class in absurd (omega (arith, low, few))
top_after h rows keeps sound within (suc n) c d s lt valid class few =
    by_option (above l c s) refl (λ t e is f less. top_after h rows keeps sound within n c e t lt is f less)
  where
    l : Places
    l = places_of h rows

    by_test : (t : Subobject) (b : Bool) → within t ≡ b → above (places_of h rows) c s ≡ Some t → IsTop (places_of h rows) within c (head_after (places_of h rows) within n c t) → IsTop (places_of h rows) within c (if b then head_after (places_of h rows) within n c t else s)
    by_test t true test e next = next
    by_test t false test e next = λ u f. let both : Some t ≡ Some u = sym e ∙ f in let same : t ≡ u = cc in subst (λ (x : Subobject). within x ≡ false) same test

    by_option : (o : Option Subobject) → above (places_of h rows) c s ≡ o → ((t : Subobject) (e : ClassId) → IsSubobject h c t → class_of t ≡ Some e → c.0 < e.0 + n → IsTop (places_of h rows) within c (head_after (places_of h rows) within n c t)) → IsTop (places_of h rows) within c (climbed within (head_after (places_of h rows) within n c) s o)
    by_option None e next = λ u f. let k : None ≡ Some u = sym e ∙ f in cc
    by_option (Some t) e next =
        let is = above_valid h rows sound c s t lt valid e in
        let up = rises h rows keeps sound c d s t lt is class (primary_above (places_of h rows) c s t e) in
        let more = up.2 in
        by_test t (within t) refl e (next t up.0 is up.1 (omega (arith, more, few)))

-- nothing that is picked stands above a head
pub head_top : (h : Classes) (rows : List ClassLayout) → IsHierarchy h → IsSoundLayout h rows → (within : Subobject → Bool) (c : ClassId) (s : Subobject) → c.0 < length h → IsSubobject h c s → IsTop (places_of h rows) within c (chain_head (places_of h rows) within c s)
head_top h rows keeps sound within c s lt valid = let k = class_there h c s valid in top_after h rows keeps sound within (c.0 + 1) c k.0 s lt valid k.1 (omega arith)

picked_along : (h : Classes) (rows : List ClassLayout) → IsHierarchy h → IsSoundLayout h rows → (within : Subobject → Bool) (c : ClassId) (s t : Subobject) → c.0 < length h → IsSubobject h c s → within s ≡ true → IsClosed h (places_of h rows) within c → IsInChain (places_of h rows) c s t → within t ≡ true
picked_along h rows keeps sound within c _ _ lt valid picked closed (itself s) = picked
picked_along h rows keeps sound within c _ _ lt valid picked closed (further s t u first rest) =
    picked_along h rows keeps sound within c t u lt (primary_valid h rows keeps sound c s t lt valid first) (closed s t valid picked first) closed rest

one_after : (h : Classes) (rows : List ClassLayout) → IsHierarchy h → IsSoundLayout h rows → (within : Subobject → Bool) (n : ℕ) (c d : ClassId) (s t : Subobject) → c.0 < length h → IsSubobject h c t → within t ≡ true → IsClosed h (places_of h rows) within c → IsTop (places_of h rows) within c t
    → IsInChain (places_of h rows) c t s → class_of s ≡ Some d → c.0 < d.0 + n → t ≡ head_after (places_of h rows) within n c s
one_after h rows keeps sound within zero c d s t lt valid picked closed top chain class few =
    let low = class_low h keeps c d s (chain_valid h rows keeps sound c t s lt valid chain) class in absurd (omega (arith, low, few))
one_after h rows keeps sound within (suc n) c d s t lt valid picked closed top chain class few =
    ⊎_elim
    (λ same. by_top (above l c s) refl same)
    (λ x. by_step x (one_after h rows keeps sound within n c))
    (last_step l c t s chain)
  where
    l : Places
    l = places_of h rows

    by_test : (u : Subobject) (b : Bool) → within u ≡ b → within u ≡ false → s ≡ (if b then head_after (places_of h rows) within n c u else s)
    by_test u true e f = let k : true ≡ false = sym e ∙ f in cc
    by_test u false e f = refl

    by_top : (o : Option Subobject) → above (places_of h rows) c s ≡ o → t ≡ s → t ≡ climbed within (head_after (places_of h rows) within n c) s o
    by_top None e same = same
    by_top (Some u) e same = same ∙ by_test u (within u) refl (top u (ap (above (places_of h rows) c) same ∙ e))

    by_step : (x : IsLastStep (places_of h rows) c t s) → ((e : ClassId) (u w : Subobject) → c.0 < length h → IsSubobject h c w → within w ≡ true → IsClosed h (places_of h rows) within c → IsTop (places_of h rows) within c w → IsInChain (places_of h rows) c w u → class_of u ≡ Some e → c.0 < e.0 + n → w ≡ head_after (places_of h rows) within n c u)
        → t ≡ climbed within (head_after (places_of h rows) within n c) s (above (places_of h rows) c s)
    by_step x next =
        let is = chain_valid h rows keeps sound c t x.before lt valid x.chain in
        let up = rises h rows keeps sound c d s x.before lt is class x.step in
        let more = up.2 in
        let inner : t ≡ head_after (places_of h rows) within n c x.before = next up.0 x.before t lt valid picked closed top x.chain up.1 (omega (arith, more, few)) in
        let there : climbed within (head_after (places_of h rows) within n c) s (above (places_of h rows) c s) ≡ climbed within (head_after (places_of h rows) within n c) s (Some x.before) = ap (climbed within (head_after (places_of h rows) within n c) s) (above_primary (places_of h rows) c s x.before x.step) in
        let on : (if within x.before then head_after (places_of h rows) within n c x.before else s) ≡ head_after (places_of h rows) within n c x.before = ap (λ b. if b then head_after (places_of h rows) within n c x.before else s) (picked_along h rows keeps sound within c t x.before lt valid picked closed x.chain) in
        inner ∙ sym (there ∙ on)

-- a picked subobject above which nothing is picked is the head of all that is in its chain
pub one_head : (h : Classes) (rows : List ClassLayout) → IsHierarchy h → IsSoundLayout h rows → (within : Subobject → Bool) (c : ClassId) (s t : Subobject) → c.0 < length h → IsSubobject h c t → within t ≡ true → IsClosed h (places_of h rows) within c → IsTop (places_of h rows) within c t
    → IsInChain (places_of h rows) c t s → t ≡ chain_head (places_of h rows) within c s
one_head h rows keeps sound within c s t lt valid picked closed top chain =
    let k = class_there h c s (chain_valid h rows keeps sound c t s lt valid chain) in
    one_after h rows keeps sound within (c.0 + 1) c k.0 s t lt valid picked closed top chain k.1 (omega arith)

-- a subobject and what is in its chain have one head
pub heads_same : (h : Classes) (rows : List ClassLayout) → IsHierarchy h → IsSoundLayout h rows → (within : Subobject → Bool) (c : ClassId) (s t : Subobject) → c.0 < length h → IsSubobject h c s → within s ≡ true → IsClosed h (places_of h rows) within c → IsInChain (places_of h rows) c s t
    → chain_head (places_of h rows) within c s ≡ chain_head (places_of h rows) within c t
heads_same h rows keeps sound within c s t lt valid picked closed chain =
    let l = places_of h rows in
    one_head h rows keeps sound within c t (chain_head l within c s) lt (head_valid h rows sound within c s lt valid) (head_picked l within c s picked) closed (head_top h rows keeps sound within c s lt valid)
    (chain_joined l c (chain_head l within c s) s t (head_chain l within c s) chain)

-- a head lies where the subobject does
pub head_place : (h : Classes) (rows : List ClassLayout) → IsHierarchy h → IsSoundLayout h rows → (within : Subobject → Bool) (c : ClassId) (s : Subobject) → c.0 < length h → IsSubobject h c s → (places_of h rows).place c (chain_head (places_of h rows) within c s) ≡ (places_of h rows).place c s
head_place h rows keeps sound within c s lt valid =
    sym (chain_place h rows keeps sound c (chain_head (places_of h rows) within c s) s lt (head_valid h rows sound within c s lt valid) (head_chain (places_of h rows) within c s))

-- what two subobjects of one object share is a chain of theirs
share_cases : (h : Classes) (l : Places) (c : ClassId) (s t : Subobject) (hops others : List Hop) → ShareChain h l c hops others → hops ≡ Inherit s ∷ [] → others ≡ Inherit t ∷ [] → IsInChain l c s t ⊎ IsInChain l c t s
share_cases h l _ s t _ _ (downwards c x y chain) e f =
    let a : x ≡ s = cc in
    let b : y ≡ t = cc in
    inl (subst (λ (z : Subobject). IsInChain l c z t) a (subst (IsInChain l c x) b chain))
share_cases h l _ s t _ _ (upwards c x y chain) e f =
    let a : x ≡ s = cc in
    let b : y ≡ t = cc in
    inr (subst (λ (z : Subobject). IsInChain l c z s) b (subst (IsInChain l c y) a chain))
share_cases h l _ s t _ _ (in_element c d k x m i hops others class element rest) e f = let g : (Inherit x ∷ MemberHop m i ∷ hops) ≡ (Inherit s ∷ []) = e in cc

-- the virtual pointers of two dynamic subobjects whose heads differ have no byte in common
pub heads_apart : (h : Classes) (rows : List ClassLayout) → IsHierarchy h → IsSoundLayout h rows → (within : Subobject → Bool) (c d e : ClassId) (s t : Subobject) → c.0 < length h → IsClosed h (places_of h rows) within c → IsSubobject h c s → IsSubobject h c t → within s ≡ true → within t ≡ true
    → class_of s ≡ Some d → class_of t ≡ Some e → IsDynamic h d → IsDynamic h e → (chain_head (places_of h rows) within c s ≡ chain_head (places_of h rows) within c t → ⊥)
    → ((places_of h rows).place c s + 8 ≤ (places_of h rows).place c t) ⊎ ((places_of h rows).place c t + 8 ≤ (places_of h rows).place c s)
heads_apart h rows keeps sound within c d e s t lt closed valid other picked also class class_other moves moves_other differ =
    let l = places_of h rows in
    let a = place_at_base h l c s in
    let b = place_at_base h l c t in
    ⊎_elim
    (λ shares. absurd (⊎_elim
    (λ chain. differ (heads_same h rows keeps sound within c s t lt valid picked closed chain))
    (λ chain. differ (sym (heads_same h rows keeps sound within c t s lt other also closed chain)))
    (share_cases h l c s t (Inherit s ∷ []) (Inherit t ∷ []) shares refl refl)))
    (λ apart. ⊎_elim (λ x. inl (omega (arith, a, b, x))) (λ x. inr (omega (arith, a, b, x))) apart)
    ((sound.each c lt).pointers_apart d e (Inherit s ∷ []) (Inherit t ∷ []) moves moves_other (to_subobject c d s valid class) (to_subobject c e t other class_other))

-- the test picks what lies in the subobject x
pub record Picks (h : Classes) (c : ClassId) (x : Subobject) (within : Subobject → Bool) : Type 0 where
  pub inside : (t : Subobject) → IsSubobject h c t → within t ≡ true → IsInside h x t
  pub picked : (t : Subobject) → IsSubobject h c t → IsInside h x t → within t ≡ true

-- of what lies in a subobject the primary base lies there too
pub view_closed : (h : Classes) (rows : List ClassLayout) → IsHierarchy h → IsSoundLayout h rows → (within : Subobject → Bool) (c : ClassId) (x : Subobject) → c.0 < length h → Picks h c x within → IsClosed h (places_of h rows) within c
view_closed h rows keeps sound within c x lt picks = λ s t valid is step.
    picks.picked t (primary_valid h rows keeps sound c s t lt valid step) (inside_through h x s t (picks.inside s valid is) (primary_base h rows keeps sound c s t lt valid step).inside)

-- a part that is reached by a direct primary base goes along with its object
pub direct_joined : (h : Classes) (l : Places) (c d e b : ClassId) (x i : Subobject) → class_of x ≡ Some d → IsSubobject h d i → class_of i ≡ Some e → l.primary e ≡ Direct b → primary_part l c (join x i) ≡ Some (join x (subobject i.root (i.path ++ b ∷ [])))
direct_joined h l c d e b x i class valid inner primary =
    primary_is l c (join x i) (subobject (join x i).root ((join x i).path ++ b ∷ [])) (by_direct (join x i) e b (join_class h d x i class valid ∙ inner) primary) ∙ ap Some (longer i valid)
  where
    longer : (t : Subobject) → IsSubobject h d t → subobject (join x t).root ((join x t).path ++ b ∷ []) ≡ join x (subobject t.root (t.path ++ b ∷ []))
    longer _ (whole q l) = ap (subobject x.root) (append_assoc x.path q (b ∷ []))
    longer _ (shared v q has l) = refl
