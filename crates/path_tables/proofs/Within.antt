-- What lies in a subobject, as a subobject of its class alone; and the final overrider there.
use Rattle.std.proofs.Common.{◌≡◌, ℕ, ◌<◌, ⊎_elim, Bool, true, false, List, [], ◌∷◌, ◌++◌, length, take, drop, ◌-◌, refl, ap, subst, sym, ◌∙◌, arith, append-nil}
use Rattle.std.specs.Prelude.{Option, Some, None, IsTrue, ◌↔◌}
use Rattle.std.proofs.Math.Seq.{drop-append_seam}
use Rattle.std.proofs.lemmas.List.{take_rest}
use Rattle.cxx_hierarchy.specs.declared.records.ClassId.{ClassId}
use Rattle.cxx_hierarchy.specs.Classes.{Classes}
use Rattle.cxx_hierarchy.specs.Hierarchies.{IsHierarchy}
use Rattle.cxx_subobject.specs.declared.Root.TheVariants.{Whole}
use Rattle.cxx_subobject.specs.declared.Subobject.{Subobject}
use Rattle.cxx_subobject.specs.Subobjects.{Leads, IsSubobject, whole, shared, subobject, class_of, last_of, join}
use Rattle.cxx_subobject.specs.Inside.{IsInside}
use Rattle.cxx_subobject.specs.invariants.Tests.{is_longer, ReachesRoot}
use Rattle.cxx_subobject.proofs.PathLemmas.{leads_rest, class_low}
use Rattle.cxx_subobject.proofs.TestLemmas.{longer_sound, inside_cases}
use Rattle.cxx_subobject.proofs.InsideLemmas.{join_class, inside_through}
use Rattle.foundation.proofs.Truth.{not_both, is_false}
use Rattle.cxx_overrider.specs.declared.FunctionId.{FunctionId}
use Rattle.cxx_overrider.specs.declared.Overrider.{Overrider}
use Rattle.cxx_overrider.specs.Overriding.{IsFinalOverrider}
use Rattle.cxx_overrider.proofs.ViewLaws.{view_final}
use Rattle.cxx_search.specs.Searches.{is_within, final_in}
use Rattle.cxx_search.proofs.Within.{within_inside, inside_within}
use Rattle.cxx_search.proofs.Finals.{found_final, final_found}
use Rattle.path_numbers.specs.Numbers.{subobject_number}
use Rattle.path_tables.specs.Parts.{numbered_overrider}

pub same_some : {X : Type 0} (x y : X) → Some x ≡ Some y → x ≡ y
same_some x y e = cc

-- the path of a subobject from a head on
pub record Walked (h : Classes) (s : Subobject) : Type 0 where
  pub head : ClassId
  pub tail : List ClassId
  pub path : s.path ≡ head ∷ tail
  pub leads : Leads h head tail

pub walked : (h : Classes) (c : ClassId) (s : Subobject) → IsSubobject h c s → Walked h s
walked h c _ (whole path l) = record { head = c; tail = path; path = refl; leads = l }
walked h c _ (shared v path has l) = record { head = v; tail = path; path = refl; leads = l }

pub cons_parts : (a b : ClassId) (p q : List ClassId) → a ∷ p ≡ b ∷ q → (a ≡ b) × (p ≡ q)
cons_parts a b p q e = (cc, cc)

pub part_longer : (h : Classes) (c d : ClassId) (x y i : Subobject) → IsSubobject h c x → IsSubobject h c y → class_of x ≡ Some d → is_longer x y ≡ true → i ≡ subobject Whole (d ∷ drop (length x.path) y.path) → IsSubobject h d i × (join x i ≡ y)
part_longer h c d x y i vx vy class longer is =
    let l = longer_sound x y longer in
    let a = walked h c x vx in
    let b = walked h c y vy in
    let paths : y.path ≡ x.path ++ l.rest = ap (λ (s : Subobject). s.path) l.is in
    let rest : drop (length x.path) y.path ≡ l.rest = ap (drop (length x.path)) paths ∙ drop-append_seam x.path l.rest in
    let both : b.head ∷ b.tail ≡ a.head ∷ (a.tail ++ l.rest) = sym b.path ∙ (paths ∙ ap (λ (p : List ClassId). p ++ l.rest) a.path) in
    let parts = cons_parts b.head a.head b.tail (a.tail ++ l.rest) both in
    let leads : Leads h a.head (a.tail ++ l.rest) = subst (λ (k : ClassId). Leads h k (a.tail ++ l.rest)) parts.0 (subst (λ (p : List ClassId). Leads h b.head p) parts.1 b.leads) in
    let last : last_of a.head a.tail ≡ d = same_some (last_of a.head a.tail) d (let e : class_of (subobject x.root (a.head ∷ a.tail)) ≡ Some d = ap (λ (p : List ClassId). class_of (subobject x.root p)) (sym a.path) ∙ class in e) in
    let below : Leads h d l.rest = subst (λ (k : ClassId). Leads h k l.rest) last (leads_rest h a.head a.tail l.rest leads) in
    let made : i ≡ subobject Whole (d ∷ l.rest) = is ∙ ap (λ (p : List ClassId). subobject Whole (d ∷ p)) rest in
    (subst (λ (s : Subobject). IsSubobject h d s) (sym made) (whole l.rest below), ap (join x) made ∙ sym l.is)

shared_part : (h : Classes) (c d : ClassId) (x y : Subobject) → IsSubobject h c y → ReachesRoot h (Some d) y.root → IsSubobject h d y × (join x y ≡ y)
shared_part h c d x _ (whole path l) reaches = absurd reaches
shared_part h c d x _ (shared v path has l) reaches = (shared v path reaches l, refl)

pub part_shared : (h : Classes) (c d : ClassId) (x y i : Subobject) → IsSubobject h c y → class_of x ≡ Some d → IsInside h x y → is_longer x y ≡ false → i ≡ subobject y.root (y.path ++ []) → IsSubobject h d i × (join x i ≡ y)
part_shared h c d x y i vy class inside longer is = ⊎_elim
    (λ e. absurd (not_both e longer))
    (λ r.
    let same : i ≡ y = is ∙ ap (subobject y.root) (append-nil y.path) in
    let p = shared_part h c d x y vy (subst (λ (o : Option ClassId). ReachesRoot h o y.root) class r) in
    (subst (λ (s : Subobject). IsSubobject h d s) (sym same) p.0, ap (join x) same ∙ p.1))
    (inside_cases h x y inside)

-- nothing overrides what does not lie in the view
pub final_outside : (h : Classes) → IsHierarchy h → (c : ClassId) (x y : Subobject) (f : FunctionId) → IsSubobject h c x → (IsInside h x y → ⊥) → None ≡ numbered_overrider h c (final_in h x y f)
final_outside h keeps c x y f there outside = by_answer (final_in h x y f) refl
  where
    by_answer : (o : Option Overrider) → final_in h x y f ≡ o → None ≡ numbered_overrider h c o
    by_answer None e = refl
    by_answer (Some o) e = let k = found_final h keeps c x there y f o e in absurd (outside (inside_through h x o.at y k.candidate.inside k.candidate.candidate.contains))

pub final_inside : (h : Classes) → IsHierarchy h → (c d : ClassId) (x y i : Subobject) (f : FunctionId) (o : Overrider) (at : Subobject) (n : ℕ) → IsSubobject h c x → class_of x ≡ Some d → join x i ≡ y → IsFinalOverrider h d i f o → at ≡ join x o.at → n ≡ subobject_number h c at
    → Some (record { at = n; function = o.function }) ≡ numbered_overrider h c (final_in h x y f)
final_inside h keeps c d x y i f o at n there class joined final is number =
    let found = final_found h keeps c x there (join x i) f (record { at = join x o.at; function = o.function }) (view_final h keeps c d x there class i f o final) in
    ap (λ (k : ℕ). Some (record { at = k; function = o.function })) (number ∙ ap (subobject_number h c) is)
    ∙ ap (numbered_overrider h c) (sym (ap (λ (s : Subobject). final_in h x s f) (sym joined) ∙ found))

-- a test of containment is the search for it
pub within_is : (h : Classes) → IsHierarchy h → (x y : Subobject) (b : Bool) → (IsTrue b ↔ IsInside h x y) → b ≡ is_within h x y
within_is h keeps x y true k = sym (inside_within h keeps x y (k.0 refl))
within_is h keeps x y false k = sym (is_false (is_within h x y) (λ e. let f : false ≡ true = k.1 (within_inside h x y e) in cc))

-- a class of a subobject is known where its whole is
pub class_known : (h : Classes) → IsHierarchy h → (c d : ClassId) (n : ℕ) (x : Subobject) → IsSubobject h c x → class_of x ≡ Some d → c.0 < n → d.0 < n
class_known h keeps c d n x valid class lt = let a = class_low h keeps c d x valid class in omega arith

pub part_class : (h : Classes) (d : ClassId) (x y i : Subobject) (o : Option ClassId) → class_of x ≡ Some d → IsSubobject h d i → join x i ≡ y → class_of y ≡ o → class_of i ≡ o
part_class h d x y i o class valid joined is = sym (join_class h d x i class valid) ∙ (ap class_of joined ∙ is)

-- a class, and a slice from a place on
pub path_made : (new pushed : List ClassId) (d : ClassId) (front whole_ x y : List ClassId) → new ≡ [] → pushed ≡ new ++ d ∷ [] → front ≡ x → whole_ ≡ y → pushed ++ take (length whole_ - length front) (drop (length front) whole_) ≡ d ∷ drop (length x) y
path_made new pushed d front whole_ x y e p f w =
    ap (λ (l : List ClassId). l ++ take (length whole_ - length front) (drop (length front) whole_)) (p ∙ ap (λ (l : List ClassId). l ++ d ∷ []) e)
    ∙ ap (λ (l : List ClassId). d ∷ l) (take_rest whole_ (length front) ∙ (ap (λ (l : List ClassId). drop (length l) whole_) f ∙ ap (drop (length x)) w))
