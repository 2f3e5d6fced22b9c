-- Of which subobject a part is a base, by numbers.
use Rattle.std.proofs.Common.{◌≡◌, ℕ, ◌+◌, Bool, true, false, List, [], ◌∷◌, ◌++◌, refl, ap, subst, sym, ◌∙◌, arith, inl, inr}
use Rattle.std.specs.Prelude.{Some, None, ◌&&◌, find}
use Rattle.std.proofs.lemmas.Bool.{and_parts, and_from}
use Rattle.foundation.proofs.Truth.{split, not_both, is_false}
use Rattle.foundation.proofs.Members.{Has}
use Rattle.foundation.proofs.Chosen.{find_passes}
use Rattle.cxx_hierarchy.specs.declared.records.ClassId.{ClassId}
use Rattle.cxx_hierarchy.specs.Classes.{Classes, class_by_number}
use Rattle.cxx_hierarchy.specs.Hierarchies.{IsHierarchy}
use Rattle.cxx_subobject.specs.declared.Root.{Root}
use Rattle.cxx_subobject.specs.declared.Root.TheVariants.{Whole, Shared}
use Rattle.cxx_subobject.specs.declared.Subobject.{Subobject}
use Rattle.cxx_subobject.specs.Subobjects.{Leads, IsSubobject, whole, shared, subobject, class_of, last_of, tail_of, join, join_at, same_subobject, is_of_class}
use Rattle.cxx_subobject.specs.Preorder.{preorder}
use Rattle.cxx_subobject.proofs.PathLemmas.{leads_rest}
use Rattle.cxx_subobject.proofs.InsideLemmas.{join_valid}
use Rattle.cxx_subobject.proofs.TreeLemmas.{preorder_has, has_preorder, subobject_same, same_itself}
use Rattle.cxx_search.proofs.Finding.{finds_some}
use Rattle.cxx_search.proofs.Casts.{of_class, is_the_class}
use Rattle.path_numbers.specs.Numbers.{base_number, path_number, subobject_number}
use Rattle.path_tables.specs.declared.kept.DownKey.{DownKey}
use Rattle.path_tables.specs.Parts.{IsNumbered, number_where_found, derived_in}
use Rattle.path_tables.specs.Kept.{IsDownAnswer}
use Rattle.path_tables.proofs.Numbered.{one_numbered}
use Rattle.path_tables.proofs.Within.{walked, same_some, cons_parts}

-- what a search finds
find_none : {X : Type 0} (p : X → Bool) (xs : List X) → ((x : X) → Has xs x → p x ≡ true → ⊥) → find p xs ≡ None
find_none p [] none = refl
find_none p (x ∷ xs) none = let here = is_false (p x) (none x (inl refl)) in rw here (find_none p xs (λ y has e. none y (inr has) e))

find_same : {X : Type 0} (p q : X → Bool) (xs : List X) → ((x : X) → p x ≡ q x) → find p xs ≡ find q xs
find_same p q [] same = refl
find_same p q (x ∷ xs) same = split (q x) (λ b. q x ≡ b → find p (x ∷ xs) ≡ find q (x ∷ xs))
    (λ _ e. rw (same x, e) refl)
    (λ _ e. rw (same x, e) (find_same p q xs same)) refl

path_more : (h : Classes) (c : ClassId) (p q : List ClassId) → path_number h c (p ++ q) ≡ path_number h c p + path_number h (last_of c p) q
path_more h c [] q = omega arith
path_more h c (b ∷ p) q = let r = path_more h b p q in let e : base_number h c b + path_number h b (p ++ q) ≡ base_number h c b + path_number h b p + path_number h (last_of b p) q = omega arith in e

-- the number of a base of a subobject
number_below : (h : Classes) (c d : ClassId) (t : Subobject) (q : List ClassId) → IsSubobject h c t → class_of t ≡ Some d → subobject_number h c (subobject t.root (t.path ++ q)) ≡ subobject_number h c t + path_number h d q
number_below h c d _ q (whole path leads) class =
    let last : last_of c path ≡ d = same_some (last_of c path) d class in path_more h c path q ∙ ap (λ k. path_number h c path + path_number h k q) last
number_below h c d _ q (shared v path has leads) class =
    let last : last_of v path ≡ d = same_some (last_of v path) d class in let m = path_more h v path q ∙ ap (λ k. path_number h v path + path_number h k q) last in omega arith

joined : (t i : Subobject) → i.root ≡ Whole → join t i ≡ subobject t.root (t.path ++ tail_of i.path)
joined t i root = ap (λ (r : Root). join_at r t i) root

shared_joined : (t i : Subobject) (v : ClassId) → i.root ≡ Shared v → join t i ≡ i
shared_joined t i v root = ap (λ (r : Root). join_at r t i) root

-- where a path leads on from a subobject to another, it is one of its class
leads_on : (h : Classes) (c d : ClassId) (t y : Subobject) (q : List ClassId) → IsSubobject h c t → class_of t ≡ Some d → IsSubobject h c y → subobject t.root (t.path ++ q) ≡ y → Leads h d q
leads_on h c d t y q vt class vy e =
    let a = walked h c t vt in
    let b = walked h c y vy in
    let both : b.head ∷ b.tail ≡ a.head ∷ (a.tail ++ q) = sym b.path ∙ (ap (λ (s : Subobject). s.path) (sym e) ∙ ap (λ (p : List ClassId). p ++ q) a.path) in
    let parts = cons_parts b.head a.head b.tail (a.tail ++ q) both in
    let leads : Leads h a.head (a.tail ++ q) = subst (λ (k : ClassId). Leads h k (a.tail ++ q)) parts.0 (subst (λ (p : List ClassId). Leads h b.head p) parts.1 b.leads) in
    let last : last_of a.head a.tail ≡ d = same_some (last_of a.head a.tail) d (let f : class_of (subobject t.root (a.head ∷ a.tail)) ≡ Some d = ap (λ (p : List ClassId). class_of (subobject t.root p)) (sym a.path) ∙ class in f) in
    subst (λ (k : ClassId). Leads h k q) last (leads_rest h a.head a.tail q leads)

below_valid : (h : Classes) (c d : ClassId) (t : Subobject) (q : List ClassId) → IsSubobject h c t → class_of t ≡ Some d → Leads h d q → IsSubobject h c (subobject t.root (t.path ++ q))
below_valid h c d t q vt class leads = join_valid h c d t (subobject Whole (d ∷ q)) vt class (whole q leads)

-- the test of a search for the subobject whose base i is y
abbrev is_derived : ClassId → Subobject → Subobject → Subobject → Bool
is_derived target i y t = is_of_class target t && same_subobject (join t i) y

record IsDerived (h : Classes) (c target : ClassId) (t : Subobject) (offset source : ℕ) : Type 0 where
  class : class_of t ≡ Some target
  number : subobject_number h c t + offset ≡ source

derived_true : (h : Classes) (c target : ClassId) (i y t : Subobject) (offset source : ℕ) → IsNumbered h c source y → i.root ≡ Whole → path_number h target (tail_of i.path) ≡ offset → IsSubobject h c t → is_derived target i y t ≡ true → IsDerived h c target t offset source
derived_true h c target i y t offset source ny root number vt e =
    let both = and_parts (is_of_class target t) (same_subobject (join t i) y) e in
    let class = of_class target (class_of t) both.0 in
    let same : subobject t.root (t.path ++ tail_of i.path) ≡ y = sym (joined t i root) ∙ subobject_same (join t i) y both.1 in
    record { class = class; number = ap (λ k. subobject_number h c t + k) (sym number) ∙ (sym (number_below h c target t (tail_of i.path) vt class) ∙ (ap (subobject_number h c) same ∙ ny.number)) }

true_derived : (h : Classes) → IsHierarchy h → (c target : ClassId) (i y t : Subobject) (offset source : ℕ) → IsNumbered h c source y → i.root ≡ Whole → Leads h target (tail_of i.path) → path_number h target (tail_of i.path) ≡ offset → IsSubobject h c t
    → IsDerived h c target t offset source → is_derived target i y t ≡ true
true_derived h keeps c target i y t offset source ny root leads number vt is =
    let below = subobject t.root (t.path ++ tail_of i.path) in
    let numbered : IsNumbered h c source below = record {
      valid = below_valid h c target t (tail_of i.path) vt is.class leads;
      number = number_below h c target t (tail_of i.path) vt is.class ∙ (ap (λ k. subobject_number h c t + k) number ∙ is.number);
    } in
    let same = joined t i root ∙ one_numbered h keeps c source below y numbered ny in
    and_from (is_of_class target t) (same_subobject (join t i) y) (is_the_class target (class_of t) is.class) (ap (λ (z : Subobject). same_subobject z y) same ∙ same_itself y)

-- none, where no subobject of the class has the number
pub down_none : (h : Classes) (key : DownKey) → ((t : Subobject) → IsSubobject h (class_by_number key.class) t → class_of t ≡ Some (class_by_number key.target) → subobject_number h (class_by_number key.class) t + key.offset ≡ key.source → ⊥) → IsDownAnswer h key None
down_none h key none = λ y i ny root leads number.
    let c = class_by_number key.class in
    let target = class_by_number key.target in
    ap (number_where_found h c) (sym (find_none (is_derived target i y) (preorder h c) (λ t has e. let vt = has_preorder h c t has in let d = derived_true h c target i y t key.offset key.source ny root number vt e in none t vt d.class d.number)))

-- the one of the number
pub down_some : (h : Classes) → IsHierarchy h → (key : DownKey) (n : ℕ) (t : Subobject) → n + key.offset ≡ key.source → IsNumbered h (class_by_number key.class) n t → class_of t ≡ Some (class_by_number key.target) → IsDownAnswer h key (Some n)
down_some h keeps key n t sum nt class = λ y i ny root leads number.
    let c = class_by_number key.class in
    let target = class_by_number key.target in
    let is : is_derived target i y t ≡ true = true_derived h keeps c target i y t key.offset key.source ny root leads number nt.valid (record { class = class; number = ap (λ k. k + key.offset) nt.number ∙ sum }) in
    let found = finds_some (is_derived target i y) (preorder h c) t (preorder_has h c keeps t nt.valid) is in
    let passes = find_passes (is_derived target i y) (preorder h c) found.0 found.1 in
    let d = derived_true h c target i y found.0 key.offset key.source ny root number (has_preorder h c found.0 passes.0) passes.1 in
    let same : n ≡ subobject_number h c found.0 = let a = d.number in omega arith in
    ap (λ k. Some k) same ∙ ap (number_where_found h c) (sym found.1)

-- none, where no path leads on
pub derived_nowhere : (h : Classes) (c target : ClassId) (i y : Subobject) → i.root ≡ Whole → (Leads h target (tail_of i.path) → ⊥) → IsSubobject h c y → None ≡ number_where_found h c (derived_in h c target i y)
derived_nowhere h c target i y root none vy = ap (number_where_found h c) (sym (find_none (is_derived target i y) (preorder h c) (λ t has e.
    let both = and_parts (is_of_class target t) (same_subobject (join t i) y) e in
    none (leads_on h c target t y (tail_of i.path) (has_preorder h c t has) (of_class target (class_of t) both.0) vy (sym (joined t i root) ∙ subobject_same (join t i) y both.1)))))

and_true : (a : Bool) → (a && true) ≡ a
and_true true = refl
and_true false = refl

-- a virtual base is that of each subobject that reaches it
pub derived_shared : (h : Classes) (c target v : ClassId) (i y : Subobject) → i.root ≡ Shared v → true ≡ same_subobject i y → number_where_found h c (find (is_of_class target) (preorder h c)) ≡ number_where_found h c (derived_in h c target i y)
derived_shared h c target v i y root same = ap (number_where_found h c) (sym (find_same (is_derived target i y) (is_of_class target) (preorder h c)
    (λ t. ap (λ (z : Subobject). is_of_class target t && same_subobject z y) (shared_joined t i v root) ∙ (ap (λ b. is_of_class target t && b) (sym same) ∙ and_true (is_of_class target t)))))

pub derived_other : (h : Classes) (c target v : ClassId) (i y : Subobject) → i.root ≡ Shared v → false ≡ same_subobject i y → None ≡ number_where_found h c (derived_in h c target i y)
derived_other h c target v i y root other = ap (number_where_found h c) (sym (find_none (is_derived target i y) (preorder h c) (λ t has e.
    let both = and_parts (is_of_class target t) (same_subobject (join t i) y) e in
    not_both (ap (λ (z : Subobject). same_subobject z y) (sym (shared_joined t i v root)) ∙ both.1) (sym other))))
