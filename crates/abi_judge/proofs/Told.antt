-- A test that says that something is not so: where it fails, it is so.
use Rattle.std.proofs.Common.{◌≡◌, ℕ, ◌+◌, ◌<◌, ◌≤◌, ◌⊎◌, inl, inr, ⊎_elim, Bool, true, false, Some, List, length, get_or, refl, ap, sym, ◌∙◌, arith, eq-eqb}
use Rattle.std.specs.Prelude.{◌↔◌, IsTrue, nat_eq}
use Rattle.std.specs.List.{list_all}
use Rattle.std.proofs.lemmas.Bool.{eqb-true}
use Rattle.foundation.proofs.Members.{has_at}
use Rattle.foundation.proofs.Places.{any_default, get_read}
use Rattle.foundation.proofs.Chosen.{all_each}
use Rattle.foundation.proofs.Truth.{not_both}
use Rattle.cxx_hierarchy.specs.declared.records.ClassId.{ClassId}
use Rattle.cxx_hierarchy.specs.Classes.{Classes}
use Rattle.cxx_subobject.specs.declared.Subobject.{Subobject}
use Rattle.cxx_subobject.specs.Subobjects.{same_subobject}
use Rattle.cxx_subobject.proofs.TreeLemmas.{subobject_same, same_itself}
use Rattle.abi_sound.specs.declared.class_layout.ClassLayout.{ClassLayout}
use Rattle.abi_sound.specs.Places.{places_of, place_in_class, virtual_place}
use Rattle.abi_judge.specs.declared.apart.BitSpan.{BitSpan}
use Rattle.abi_judge.specs.invariants.Apart.{EachTwo, LieApart, ShareNoBit, Differ, AreDistinct}
use Rattle.abi_judge.specs.invariants.Places.{LiesAtHeld}

le_or_less : (m n : ℕ) → (m ≤ n) ⊎ (n < m)
le_or_less m n = grind arith

apart_stable : (a b : BitSpan) → ((LieApart a b → ⊥) → ⊥) → LieApart a b
apart_stable a b some =
    ⊎_elim (λ le. inl le)
    (λ less. ⊎_elim (λ le. inr le)
    (λ more. absurd (some (λ apart. ⊎_elim (λ u. let v : a.start + a.length ≤ b.start = u in omega (arith, v, less)) (λ u. let v : b.start + b.length ≤ a.start = u in omega (arith, v, more)) apart)))
    (le_or_less (b.start + b.length) a.start))
    (le_or_less (a.start + a.length) b.start)

differ_stable : (x y : ℕ × ℕ) → ((Differ x y → ⊥) → ⊥) → Differ x y
differ_stable x y some = λ same. some (λ differ. differ same)

two_stable : {X : Type 0} (R : X → X → Type 0) → ((x y : X) → ((R x y → ⊥) → ⊥) → R x y) → (xs : List X) (b : Bool) → IsTrue b ↔ (EachTwo R xs → ⊥) → b ≡ false → EachTwo R xs
two_stable R stable xs b told off = record {
  each = λ i j x y differ e f. stable x y (λ none. not_both (told.1 (λ two. none (two.each i j x y differ e f))) off);
}

-- no bit is shared
pub none_shared : (spans : List BitSpan) (b : Bool) → IsTrue b ↔ (ShareNoBit spans → ⊥) → b ≡ false → ShareNoBit spans
none_shared spans b told off = two_stable LieApart apart_stable spans b told off

-- and no key stands twice
pub none_twice : (keys : List (ℕ × ℕ)) (b : Bool) → IsTrue b ↔ (AreDistinct keys → ⊥) → b ≡ false → AreDistinct keys
none_twice keys b told off = two_stable Differ differ_stable keys b told off

-- what holds of all items holds of the one that is read
pub all_read : {X : Type 0} (p : X → Bool) (xs : List X) (i : ℕ) (d : X) → list_all p xs ≡ true → i < length xs → p (get_or xs i d) ≡ true
all_read p xs i d all lt = all_each p xs all (get_or xs i d) (has_at xs i (get_or xs i d) (get_read xs i (get_or xs i d) lt (any_default xs i d (get_or xs i d) lt)))

-- the places of a virtual base and of the subobject that holds it
pub at_held : (h : Classes) (rows : List ClassLayout) (c v : ClassId) (s t : Subobject) (b : Bool) (m n : ℕ) → Some t ≡ (places_of h rows).holder c v → b ≡ same_subobject t s → b ≡ true → m ≡ virtual_place rows c v → n ≡ place_in_class h rows c s
    → IsTrue (nat_eq m n) ↔ LiesAtHeld h rows c v s
at_held h rows c v s t b m n holds is on at place =
    let same : t ≡ s = subobject_same t s (sym is ∙ on) in
    let one : Some t ≡ Some s = cc in (
      λ e. record { same = λ held. sym at ∙ (eqb-true m n e ∙ place) },
      λ lies. eq-eqb m n (at ∙ (lies.same (sym holds ∙ one) ∙ sym place)),
    )

pub not_held : (h : Classes) (rows : List ClassLayout) (c v : ClassId) (s t : Subobject) (b : Bool) → Some t ≡ (places_of h rows).holder c v → b ≡ same_subobject t s → b ≡ false → IsTrue true ↔ LiesAtHeld h rows c v s
not_held h rows c v s t b holds is off = (
  λ e. record {
    same = λ held.
        let both : Some t ≡ Some s = holds ∙ held in
        let same : t ≡ s = cc in
        let itself : same_subobject t s ≡ true = ap (λ (u : Subobject). same_subobject u s) same ∙ same_itself s in
        absurd (not_both (is ∙ itself) off);
  },
  λ lies. refl,
)
