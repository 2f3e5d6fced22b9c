-- The parts of a view are its subobjects, each with the number of the next of its chain.
use Rattle.std.proofs.Common.{◌≡◌, ℕ, ◌+◌, ◌<◌, ◌≤◌, ⊎_elim, Bool, true, false, Option, Some, None, List, [], ◌∷◌, ◌++◌, map, length, get_or, refl, ap, subst, sym, ◌∙◌, arith, below_more}
use Rattle.std.specs.Prelude.{if◌then◌else◌, slice_get, MatchOption}
use Rattle.std.proofs.lemmas.Option.{slice_get_within}
use Rattle.std.proofs.lemmas.List.{length-map}
use Rattle.foundation.proofs.Places.{contains_at, place_of, get_behind, get_pushed, get_read, length_pushed}
use Rattle.cxx_hierarchy.specs.declared.records.ClassId.{ClassId}
use Rattle.cxx_hierarchy.specs.Classes.{Classes}
use Rattle.cxx_hierarchy.specs.Hierarchies.{IsHierarchy}
use Rattle.cxx_subobject.specs.declared.Subobject.{Subobject}
use Rattle.cxx_subobject.specs.Subobjects.{IsSubobject, subobject, shared_base, class_of}
use Rattle.cxx_subobject.specs.Preorder.{preorder}
use Rattle.cxx_subobject.proofs.PathLemmas.{class_low}
use Rattle.cxx_subobject.proofs.TreeLemmas.{preorder_lists}
use Rattle.abi_primary.specs.declared.Primary.TheVariants.{None as NoPrimary, Direct, Virtual}
use Rattle.abi_sound.specs.declared.class_layout.ClassLayout.{ClassLayout}
use Rattle.abi_sound.specs.Places.{Places, places_of}
use Rattle.abi_sound.specs.Sound.{IsSoundLayout}
use Rattle.abi_sound.specs.Chains.{is_subobject_in}
use Rattle.abi_slots.specs.Views.{View, IsView, seen, next_by, next_in, next}
use Rattle.abi_slots.proofs.Chains.{same_some, next_under}
use Rattle.abi_slots.proofs.Settings.{setting_of}
use Rattle.abi_vtable.specs.declared.view.ViewPart.{ViewPart}
use Rattle.abi_vtable.specs.invariants.Parts.{NumbersSubobject, nothing, number, AreNexts, AreNextsTo, IsViewPart, at_of, AreParts, ArePartsTo, AreStarts, AreStartsTo}
use Rattle.abi_vtable.proofs.Lists.{map_more}

-- the class of a subobject of a view is known
pub class_known : (h : Classes) → IsHierarchy h → (x : View) → IsView h x → (s : Subobject) (d : ClassId) → IsSubobject h x.class s → class_of s ≡ Some d → d.0 < length h
class_known h keeps x view s d valid e =
    let a = class_low h keeps x.class d s valid e in
    let b = class_low h keeps x.complete x.class x.at_sub view.valid view.of_class in
    let k = view.known in
    omega arith

-- what stands in the preorder is a subobject
pub listed_valid : (h : Classes) → IsHierarchy h → (c : ClassId) (list : List Subobject) (i : ℕ) (s : Subobject) → list ≡ preorder h c → slice_get list i ≡ Some s → IsSubobject h c s
listed_valid h keeps c list i s is e = (preorder_lists h c keeps).valid s (contains_at (preorder h c) i s (ap (λ xs. slice_get xs i) (sym is) ∙ e))

pub listed_place : (h : Classes) → IsHierarchy h → (c : ClassId) (s : Subobject) → IsSubobject h c s → (i : ℕ) × (slice_get (preorder h c) i ≡ Some s)
listed_place h keeps c s valid = place_of (preorder h c) s ((preorder_lists h c keeps).listed s valid)

-- the next of a chain, by the primary base of the class

pub no_next : (l : Places) (x : View) (s : Subobject) (d : ClassId) → class_of s ≡ Some d → l.primary d ≡ NoPrimary → next l x s ≡ None
no_next l x s d e is = ap (next_in l x s) e ∙ ap (next_by l x s) is

pub direct_next : (l : Places) (x : View) (s : Subobject) (d b : ClassId) → class_of s ≡ Some d → l.primary d ≡ Direct b → next l x s ≡ Some (subobject s.root (s.path ++ b ∷ []))
direct_next l x s d b e is = ap (next_in l x s) e ∙ ap (next_by l x s) is

by_holder : (l : Places) (x : View) (s t : Subobject) (d v : ClassId) (held : Bool) → class_of s ≡ Some d → l.primary d ≡ Virtual v → t ≡ seen x s → is_subobject_in (l.holder x.complete v) t ≡ held → next l x s ≡ (if held then Some (shared_base v) else None)
by_holder l x s t d v held e is same test = ap (next_in l x s) e ∙ ap (next_by l x s) is ∙ ap (λ a. if is_subobject_in (l.holder x.complete v) a then Some (shared_base v) else None) (sym same) ∙ ap (λ b. if b then Some (shared_base v) else None) test

pub held_next : (l : Places) (x : View) (s t : Subobject) (d v : ClassId) → class_of s ≡ Some d → l.primary d ≡ Virtual v → t ≡ seen x s → is_subobject_in (l.holder x.complete v) t ≡ true → next l x s ≡ Some (shared_base v)
held_next l x s t d v e is same test = by_holder l x s t d v true e is same test

pub elsewhere_next : (l : Places) (x : View) (s t : Subobject) (d v : ClassId) → class_of s ≡ Some d → l.primary d ≡ Virtual v → t ≡ seen x s → is_subobject_in (l.holder x.complete v) t ≡ false → next l x s ≡ None
elsewhere_next l x s t d v e is same test = by_holder l x s t d v false e is same test

pub no_number : (list : List Subobject) (o : Option Subobject) → o ≡ None → NumbersSubobject list None o
no_number list o e = subst (λ a. NumbersSubobject list None a) (sym e) nothing

number_found : (list : List Subobject) (u : Subobject) (i : ℕ) → slice_get list i ≡ Some u → (o : Option ℕ) → MatchOption o ((i : ℕ) → slice_get list i ≡ Some u → ⊥) (λ i. slice_get list i ≡ Some u) → NumbersSubobject list o (Some u)
number_found list u i there None m = absurd (m i there)
number_found list u i there (Some n) m = number n u m

-- the next of a chain has a number
pub next_number : (h : Classes) (rows : List ClassLayout) → IsHierarchy h → IsSoundLayout h rows → (x : View) → IsView h x → (list : List Subobject) (s t u : Subobject) (o : Option ℕ) → list ≡ preorder h x.class → IsSubobject h x.class s → next (places_of h rows) x s ≡ Some u → t ≡ u →
    MatchOption o ((i : ℕ) → slice_get list i ≡ Some t → ⊥) (λ i. slice_get list i ≡ Some t) → NumbersSubobject list o (next (places_of h rows) x s)
next_number h rows keeps sound x view list s t u o is valid e same m =
    let set = setting_of h rows keeps sound x view in
    let under = (next_under h (places_of h rows) x set s u valid e).under in
    let at = listed_place h keeps x.class u under.valid_below in
    let here : slice_get list at.0 ≡ Some u = ap (λ xs. slice_get xs at.0) is ∙ at.1 in
    let found = subst (λ a. MatchOption o ((i : ℕ) → slice_get list i ≡ Some a → ⊥) (λ i. slice_get list i ≡ Some a)) same m in
    subst (λ a. NumbersSubobject list o a) (sym e) (number_found list u at.0 here o found)

-- one number more
pub next_more : (l : Places) (x : View) (list : List Subobject) (i : ℕ) (s : Subobject) (nexts new : List (Option ℕ)) (n : Option ℕ) → i < length list → s ≡ get_or list i s → NumbersSubobject list n (next l x s) → new ≡ nexts ++ n ∷ [] → AreNextsTo l x list i nexts → AreNextsTo l x list (i + 1) new
next_more l x list i s nexts new n lt is found e so = record {
  size = ap length e ∙ length_pushed nexts n ∙ ap (λ k. k + 1) so.size;
  each = λ j t m there at. ⊎_elim (λ old. so.each j t m there old)
      (λ last. let same : t ≡ s = same_some t s (sym there ∙ ap (slice_get list) (last.0 ∙ so.size) ∙ get_read list i s lt is) in subst (λ a. NumbersSubobject list a (next l x t)) (sym last.1) (subst (λ a. NumbersSubobject list n (next l x a)) (sym same) found))
      (get_pushed nexts n j m (ap (λ xs. slice_get xs j) (sym e) ∙ at));
}

pub nexts_all : (l : Places) (x : View) (list : List Subobject) (i : ℕ) (nexts : List (Option ℕ)) → length list ≤ i → AreNextsTo l x list i nexts → AreNexts l x list nexts
nexts_all l x list i nexts le so = let size = so.size in record { size = omega arith; each = so.each }

pub no_nexts : (l : Places) (x : View) (list : List Subobject) (nexts : List (Option ℕ)) → nexts ≡ [] → AreNextsTo l x list 0 nexts
no_nexts l x list nexts e = subst (λ a. AreNextsTo l x list 0 a) (sym e) (record { size = refl; each = λ j s n there at. absurd (let lt = slice_get_within [] j n at in omega arith) })

-- the one that is taken from the list next
pub taken_next : (list taken rest : List Subobject) (s : Subobject) → taken ++ s ∷ rest ≡ list → slice_get list (length taken) ≡ Some s
taken_next list taken rest s e = ap (λ xs. slice_get xs (length taken)) (sym e) ∙ get_behind taken s rest

pub parts_count : (h : Classes) (l : Places) (x : View) (list taken : List Subobject) (parts : List ViewPart) → ArePartsTo h l x list taken parts → length parts ≡ length taken
parts_count h l x list taken parts so = sym (length-map parts at_of) ∙ ap length so.subobjects

-- the number of the next of that one is known
pub next_known : (h : Classes) (l : Places) (x : View) (list taken rest : List Subobject) (s : Subobject) (parts : List ViewPart) (nexts : List (Option ℕ)) (n : Option ℕ) (k : ℕ) → taken ++ s ∷ rest ≡ list → ArePartsTo h l x list taken parts → k ≡ length parts → AreNexts l x list nexts → slice_get nexts k ≡ Some n → NumbersSubobject list n (next l x s)
next_known h l x list taken rest s parts nexts n k e so count are there =
    let same : k ≡ length taken = count ∙ parts_count h l x list taken parts so in
    are.each k s n (ap (slice_get list) same ∙ taken_next list taken rest s e) there

pub next_there : (h : Classes) (l : Places) (x : View) (list taken rest : List Subobject) (s : Subobject) (parts : List ViewPart) (nexts : List (Option ℕ)) (k : ℕ) → taken ++ s ∷ rest ≡ list → ArePartsTo h l x list taken parts → k ≡ length parts → AreNexts l x list nexts → k < length nexts
next_there h l x list taken rest s parts nexts k e so count are =
    let same : k ≡ length taken = count ∙ parts_count h l x list taken parts so in
    let lt = slice_get_within list (length taken) s (taken_next list taken rest s e) in
    let size = are.size in
    omega arith

pub nothing_left : {X : Type 0} (xs : List X) → length xs ≡ 0 → xs ≡ []
nothing_left [] e = refl
nothing_left (x ∷ xs) e = absurd (omega arith)

-- one part more
pub part_more : (h : Classes) (l : Places) (x : View) (list taken : List Subobject) (s : Subobject) (parts new : List ViewPart) (part : ViewPart) → part.at ≡ s → IsViewPart h l x list part → new ≡ parts ++ part ∷ [] → ArePartsTo h l x list taken parts → ArePartsTo h l x list (taken ++ s ∷ []) new
part_more h l x list taken s parts new part at of e so = record {
  subobjects = ap (map at_of) e ∙ map_more at_of parts part ∙ ap (λ a. map at_of parts ++ a ∷ []) at ∙ ap (λ xs. xs ++ s ∷ []) so.subobjects;
  each = λ j q there. ⊎_elim (λ old. so.each j q old) (λ last. subst (λ a. IsViewPart h l x list a) (sym last.1) of) (get_pushed parts part j q (ap (λ xs. slice_get xs j) (sym e) ∙ there));
}

pub no_parts : (h : Classes) (l : Places) (x : View) (list : List Subobject) (parts : List ViewPart) → parts ≡ [] → ArePartsTo h l x list [] parts
no_parts h l x list parts e = subst (λ a. ArePartsTo h l x list [] a) (sym e) (record { subobjects = refl; each = λ j q at. absurd (let lt = slice_get_within [] j q at in omega arith) })

pub parts_all : (h : Classes) (l : Places) (x : View) (taken : List Subobject) (parts : List ViewPart) → taken ≡ preorder h x.class → ArePartsTo h l x (preorder h x.class) taken parts → AreParts h l x parts
parts_all h l x taken parts is so = record { subobjects = so.subobjects ∙ is; each = so.each }

-- one part more is noted
pub start_more : (starts new : List ℕ) (parts : List ViewPart) (i : ℕ) (part : ViewPart) → i < length parts → part ≡ get_or parts i part → ((d k : ℕ) → get_or starts d 0 ≤ k → get_or new d 0 ≤ k) → get_or new part.class.0 0 ≤ i → AreStartsTo starts parts i → AreStartsTo new parts (i + 1)
start_more starts new parts i part lt is kept noted so = record {
  each = λ k q less there. below_more (λ k. slice_get parts k ≡ Some q → get_or new q.class.0 0 ≤ k) i (λ j small at. kept q.class.0 j (so.each j q small at))
      (λ at. let same : part ≡ q = same_some part q (sym (get_read parts i part lt is) ∙ at) in subst (λ (a : ViewPart). get_or new a.class.0 0 ≤ i) same noted) k less there;
}

pub starts_all : (starts : List ℕ) (parts : List ViewPart) (i : ℕ) → length parts ≤ i → AreStartsTo starts parts i → AreStarts starts parts
starts_all starts parts i le so = record { each = λ k part there. let lt = slice_get_within parts k part there in so.each k part (omega arith) there }
