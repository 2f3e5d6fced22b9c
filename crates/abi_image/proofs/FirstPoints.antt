use Rattle.std.proofs.Common.{◌≡◌, ℕ, ◌+◌, ◌*◌, ◌<◌, ◌≤◌, ◌≢◌, ⊎_elim, true, false, Some, List, [], ◌∷◌, ◌++◌, length, refl, ap, sym, ◌∙◌, subst, arith}
use Rattle.std.specs.Prelude.{nat_eq}
use Rattle.std.specs.List.{slice_index_or}
use Rattle.std.proofs.Math.ListN.{set, length-set, replicate, length-replicate}
use Rattle.std.proofs.lemmas.List.{get_or-set_same, get_or-set_other, get_or-replicate}
use Rattle.std.proofs.lemmas.Bool.{cases_order}
use Rattle.std.proofs.lemmas.Bool.Decides.{nat_tests}
use Rattle.foundation.proofs.Places.{get_front, get_last, get_pushed}
use Rattle.cxx_hierarchy.specs.declared.records.ClassId.{ClassId}
use Rattle.cxx_subobject.specs.declared.Root.{Root}
use Rattle.cxx_subobject.specs.declared.Root.TheVariants.{Whole, Shared}
use Rattle.abi_slots.specs.declared.words.GroupName.{GroupName}
use Rattle.abi_slots.specs.declared.words.Group.{Group}
use Rattle.abi_slots.specs.declared.words.VttWord.{VttWord}
use Rattle.abi_slots.specs.Images.{IsFirstPoint, first, no_group, IsPoint, point_at, vtt_address, whole_name}
use Rattle.abi_image.specs.declared.draft.Draft.{Draft}
use Rattle.abi_image.specs.invariants.Drafts.{Puts, address_in}
use Rattle.abi_image.specs.invariants.Points.{AreFirstPoints, is_whole_name}
use Rattle.abi_image.proofs.Filling.{puts_as}
use Rattle.abi_image.proofs.InfoWords.{puts_two}

by_parts : (c : ClassId) (root : Root) (path : List ClassId) → is_whole_name (record { complete = c; view = record { root = root; path = path } }) ≡ true → path ≡ c ∷ []
by_parts c Whole [] e = absurd (cc)
by_parts c Whole (d ∷ []) e = let same : d.0 ≡ c.0 = grind (arith, nat_tests) in ap (λ (n : ℕ). (record { 0 = n }) ∷ []) same
by_parts c Whole (d ∷ f ∷ path) e = absurd (cc)
by_parts c (Shared v) path e = absurd (cc)

by_root : (c : ClassId) (root : Root) (path : List ClassId) → is_whole_name (record { complete = c; view = record { root = root; path = path } }) ≡ true → root ≡ Whole
by_root c Whole path e = refl
by_root c (Shared v) path e = absurd (cc)

-- the own name of a class
pub own_name : (name : GroupName) → is_whole_name name ≡ true → name ≡ whole_name name.complete
own_name name e =
    let root = by_root name.complete name.view.root name.view.path e in
    let path = by_parts name.complete name.view.root name.view.path e in
    ap (λ (r : Root). record { complete = name.complete; view = record { root = r; path = name.view.path } }) root ∙ ap (λ (p : List ClassId). record { complete = name.complete; view = record { root = Whole; path = p } }) path

pub own_test : (c : ClassId) → is_whole_name (whole_name c) ≡ true
own_test c = let e : nat_eq c.0 c.0 ≡ true = grind (arith, nat_tests) in e

-- a name that the test refuses is of no class
pub not_own : (name : GroupName) (c : ClassId) → is_whole_name name ≡ false → name ≡ whole_name c → ⊥
not_own name c e is = let f : is_whole_name name ≡ true = ap is_whole_name is ∙ own_test c in absurd (cc)

-- a class that is not below a number is not one below it
pub not_below : (name : GroupName) (classes : ℕ) (c : ClassId) → classes ≤ name.complete.0 → c.0 < classes → name ≡ whole_name c → ⊥
not_below name classes c over below is = let e : name.complete.0 ≡ c.0 = ap (λ (n : GroupName). n.complete.0) is in absurd (omega arith)

point_more : (groups : List Group) (group : Group) (group_at : ℕ → ℕ) (name : GroupName) (table address : ℕ) → IsPoint groups group_at name table address → IsPoint (groups ++ group ∷ []) group_at name table address
point_more groups group group_at name table address p = record {
  number = p.number;
  group = p.group;
  there = get_front groups (group ∷ []) p.number p.group p.there;
  named = p.named;
  point = p.point;
}

-- a group that is not the class's own changes nothing
other_group : (groups : List Group) (group : Group) (group_at : ℕ → ℕ) (c : ClassId) (address : ℕ) → (group.name ≡ whole_name c → ⊥) → IsFirstPoint groups group_at c address → IsFirstPoint (groups ++ group ∷ []) group_at c address
other_group groups group group_at c address other_name (first p) = first (point_more groups group group_at (whole_name c) 0 address p)
other_group groups group group_at c address other_name (no_group none_there is) = no_group (λ i g e named. ⊎_elim (λ old. none_there i g old named) (λ new. other_name (ap (λ (x : Group). x.name) (sym new.1) ∙ named)) (get_pushed groups group i g e)) is

-- the own group of a class
own_group : (groups : List Group) (group : Group) (group_at : ℕ → ℕ) (c : ClassId) (address : ℕ) → group.name ≡ whole_name c → address ≡ point_at (group_at (length groups)) group.tables 0 → IsFirstPoint (groups ++ group ∷ []) group_at c address
own_group groups group group_at c address named is = first (record { number = length groups; group = group; there = get_last groups group; named = named; point = is })

pub firsts_kept : (groups : List Group) (group : Group) (group_at : ℕ → ℕ) (classes : ℕ) (firsts : List ℕ) → ((c : ClassId) → c.0 < length firsts → group.name ≡ whole_name c → ⊥) → AreFirstPoints groups group_at classes firsts → AreFirstPoints (groups ++ group ∷ []) group_at classes firsts
firsts_kept groups group group_at classes firsts other_name h = record {
  size = h.size;
  each = λ c less. other_group groups group group_at c (slice_index_or firsts c.0 0) (other_name c (let s = h.size in omega arith)) (h.each c less);
}

pub firsts_set : (groups : List Group) (group : Group) (group_at : ℕ → ℕ) (classes : ℕ) (firsts new : List ℕ) (k address : ℕ) → k < length firsts → group.name ≡ whole_name (record { 0 = k }) → address ≡ point_at (group_at (length groups)) group.tables 0 → new ≡ set firsts k address →
    AreFirstPoints groups group_at classes firsts → AreFirstPoints (groups ++ group ∷ []) group_at classes new
firsts_set groups group group_at classes firsts new k address less named is e h = record {
  size = ap length e ∙ length-set firsts k address ∙ h.size;
  each = λ c below. ⊎_elim
      (λ (same : c.0 ≡ k).
      let value : slice_index_or new c.0 0 ≡ address = ap (λ l. slice_index_or l c.0 0) e ∙ ap (λ n. slice_index_or (set firsts k address) n 0) same ∙ get_or-set_same firsts k address 0 less in
      let class_is : whole_name (record { 0 = k }) ≡ whole_name c = ap (λ (n : ℕ). whole_name (record { 0 = n })) (sym same) in
      own_group groups group group_at c (slice_index_or new c.0 0) (named ∙ class_is) (value ∙ is))
      (λ o.
      let apart : c.0 ≢ k = ⊎_elim (λ l e. absurd (omega arith)) (λ l e. absurd (omega arith)) o in
      let value : slice_index_or firsts c.0 0 ≡ slice_index_or new c.0 0 = sym (ap (λ l. slice_index_or l c.0 0) e ∙ get_or-set_other firsts k c.0 address 0 apart) in
      subst (λ n. IsFirstPoint (groups ++ group ∷ []) group_at c n) value
      (other_group groups group group_at c (slice_index_or firsts c.0 0) (λ f. apart (ap (λ (n : GroupName). n.complete.0) (sym f ∙ named))) (h.each c below)))
      (cases_order c.0 k);
}

-- the two words of a class are put
pub puts_class : (a b c : Draft) (firsts vtt_at : List ℕ) (i v w : ℕ) (vtt : List VttWord) → v ≡ slice_index_or firsts i 0 → w ≡ vtt_address (address_in vtt_at i) vtt →
    b.words.items ≡ a.words.items ++ v ∷ [] → b.records ≡ a.records → b.records_at ≡ a.records_at →
    c.words.items ≡ b.words.items ++ w ∷ [] → c.records ≡ b.records → c.records_at ≡ b.records_at →
    Puts a c 2 (λ image at. (image at ≡ Some (slice_index_or firsts i 0)) × (image (at + 8) ≡ Some (vtt_address (address_in vtt_at i) vtt)))
puts_class a b c firsts vtt_at i v w vtt one two b1 b2 b3 c1 c2 c3 = puts_as a c 2 2 (λ image at. (image at ≡ Some v) × (image (at + 8 * 1) ≡ Some w)) (λ image at. (image at ≡ Some (slice_index_or firsts i 0)) × (image (at + 8) ≡ Some (vtt_address (address_in vtt_at i) vtt)))
    (puts_two a b c v w b1 b2 b3 c1 c2 c3) refl (λ image at h. (h.0 ∙ ap Some one, h.1 ∙ ap Some two))

-- no group was looked at, and each class has 0
pub firsts_none : (group_at : ℕ → ℕ) (classes : ℕ) (firsts : List ℕ) → firsts ≡ replicate classes 0 → AreFirstPoints [] group_at classes firsts
firsts_none group_at classes firsts e = record {
  size = ap length e ∙ length-replicate classes 0;
  each = λ c less. no_group (λ i g there named. absurd (cc)) (ap (λ l. slice_index_or l c.0 0) e ∙ get_or-replicate classes c.0 0 0 less);
}
