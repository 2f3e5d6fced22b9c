-- One class more that is met.
use Rattle.std.proofs.Common.{◌≡◌, ℕ, ◌+◌, ◌<◌, ◌≤◌, true, false, ◌||◌, List, [], ◌∷◌, ◌++◌, length, get_or, refl, ap, sym, ◌∙◌, arith}
use Rattle.std.specs.Prelude.{nat_eq, if◌then◌else◌, slice_set}
use Rattle.std.proofs.lemmas.Bool.{eqb-true, eq-eqb}
use Rattle.std.proofs.lemmas.List.{get_or-set_same, get_or-set_other}
use Rattle.cxx_hierarchy.specs.declared.records.ClassId.{ClassId}
use Rattle.foundation.proofs.Truth.{split, not_both}
use Rattle.path_plan.specs.declared.form.Form.TheVariants.{AsBase}
use Rattle.path_plan.specs.Plans.{is_among}
use Rattle.path_numbers.specs.declared.sharing.Sharing.{Sharing}
use Rattle.path_numbers.specs.Sizes.{Sizes, total}
use Rattle.path_numbers.specs.Numbers.{before_first, place_among}
use Rattle.path_numbers.specs.invariants.Sharing.{met, IsSharing, HasRoom}
use Rattle.path_numbers.proofs.Meeting.{among_push, total_append}

first_among : (f : ClassId → ℕ) (order ys : List ClassId) (v : ClassId) → is_among order v ≡ true → before_first f (λ w. nat_eq w.0 v.0) (order ++ ys) ≡ before_first f (λ w. nat_eq w.0 v.0) order
first_among f [] ys v e = absurd (cc)
first_among f (x ∷ order) ys v e = split (nat_eq x.0 v.0)
    (λ b. (b || is_among order v) ≡ true → (if b then 0 else f x + before_first f (λ w. nat_eq w.0 v.0) (order ++ ys)) ≡ (if b then 0 else f x + before_first f (λ w. nat_eq w.0 v.0) order))
    (λ _ _. refl) (λ _ k. ap (λ n. f x + n) (first_among f order ys v k)) e

first_new : (f : ClassId → ℕ) (order : List ClassId) (x v : ClassId) → is_among order v ≡ false → nat_eq x.0 v.0 ≡ true → before_first f (λ w. nat_eq w.0 v.0) (order ++ x ∷ []) ≡ total f order
first_new f [] x v e same = rw same refl
first_new f (y ∷ order) x v e same = split (nat_eq y.0 v.0)
    (λ b. (b || is_among order v) ≡ false → (if b then 0 else f y + before_first f (λ w. nat_eq w.0 v.0) (order ++ x ∷ [])) ≡ f y + total f order)
    (λ _ k. absurd (cc)) (λ _ k. ap (λ n. f y + n) (first_new f order x v k same)) e

-- no offset, not met
pub unmet_zero : (size : Sizes) (s : Sharing) (v : ClassId) → IsSharing size s → v.0 < length s.offsets.items → get_or s.offsets.items v.0 0 ≡ 0 → is_among s.order.items v ≡ false
unmet_zero size s v is lt e = split (is_among s.order.items v) (λ b. get_or s.offsets.items v.0 0 ≡ (if b then place_among size s.start s.order.items v else 0) → b ≡ false)
    (λ _ k. let a = is.start in let p : get_or s.offsets.items v.0 0 ≡ s.start + before_first (size AsBase) (λ w. nat_eq w.0 v.0) s.order.items = k in absurd (omega arith)) (λ _ k. refl) (is.offsets v lt)

pub met_some : (size : Sizes) (s : Sharing) (v : ClassId) → IsSharing size s → v.0 < length s.offsets.items → (get_or s.offsets.items v.0 0 ≡ 0 → ⊥) → is_among s.order.items v ≡ true
met_some size s v is lt e = split (is_among s.order.items v) (λ b. get_or s.offsets.items v.0 0 ≡ (if b then place_among size s.start s.order.items v else 0) → b ≡ true) (λ _ k. refl) (λ _ k. absurd (e k)) (is.offsets v lt)

pub met_new : (order : List ClassId) (v : ClassId) → is_among order v ≡ false → met order v ≡ order ++ v ∷ []
met_new order v e = rw e refl

pub met_old : (order : List ClassId) (v : ClassId) → is_among order v ≡ true → met order v ≡ order
met_old order v e = rw e refl

-- the next class has room
pub room_new : (size : Sizes) (s : Sharing) (v : ClassId) (width : ℕ) → IsSharing size s → is_among s.order.items v ≡ false → width ≡ size AsBase v → HasRoom size s.start (met s.order.items v) → s.end + width ≤ 65536
room_new size s v width is new w room =
    let a : total (size AsBase) (met s.order.items v) ≡ total (size AsBase) s.order.items + total (size AsBase) (v ∷ []) = ap (total (size AsBase)) (met_new s.order.items v new) ∙ total_append (size AsBase) s.order.items (v ∷ []) in
    let b : total (size AsBase) (v ∷ []) ≡ size AsBase v + 0 = refl in
    let r = room.room in let e = is.end in omega arith

pub sharing_new : (size : Sizes) (s n : Sharing) (v : ClassId) (width : ℕ) → IsSharing size s → v.0 < length s.offsets.items → is_among s.order.items v ≡ false → width ≡ size AsBase v
    → n.start ≡ s.start → n.order.items ≡ s.order.items ++ v ∷ [] → n.offsets.items ≡ slice_set s.offsets.items v.0 s.end → length n.offsets.items ≡ length s.offsets.items → n.end ≡ s.end + width → IsSharing size n
sharing_new size s n v width is lt new w start order offsets len end = record {
  start = let a = is.start in omega arith;
  offsets = λ x within. each x (let l = len in omega arith);
  end = let a = total_append (size AsBase) s.order.items (v ∷ []) in let b : total (size AsBase) (v ∷ []) ≡ size AsBase v + 0 = refl in let c = ap (total (size AsBase)) order in let e = is.end in omega arith;
}
  where
    set_entry : (x : ClassId) → x.0 < length s.offsets.items → get_or (slice_set s.offsets.items v.0 s.end) x.0 0 ≡ (if is_among (s.order.items ++ v ∷ []) x then place_among size s.start (s.order.items ++ v ∷ []) x else 0)
    set_entry x within = split (nat_eq v.0 x.0) (λ b. nat_eq v.0 x.0 ≡ b → get_or (slice_set s.offsets.items v.0 s.end) x.0 0 ≡ (if is_among (s.order.items ++ v ∷ []) x then place_among size s.start (s.order.items ++ v ∷ []) x else 0))
        (λ _ e.
        let number : v.0 ≡ x.0 = eqb-true v.0 x.0 e in
        let fresh : is_among s.order.items x ≡ false = ap (λ k. is_among s.order.items (record { 0 = k })) (sym number) ∙ new in
        let there : is_among (s.order.items ++ v ∷ []) x ≡ true = among_push s.order.items v x ∙ ap (λ b. b || is_among s.order.items x) e in
        ap (λ k. get_or (slice_set s.offsets.items v.0 s.end) k 0) (sym number) ∙ get_or-set_same s.offsets.items v.0 s.end 0 lt ∙ is.end
        ∙ ap (λ k. s.start + k) (sym (first_new (size AsBase) s.order.items v x fresh e)) ∙ sym (ap (λ b. if b then place_among size s.start (s.order.items ++ v ∷ []) x else 0) there))
        (λ _ e.
        let there : is_among (s.order.items ++ v ∷ []) x ≡ is_among s.order.items x = among_push s.order.items v x ∙ ap (λ b. b || is_among s.order.items x) e in
        get_or-set_other s.offsets.items v.0 x.0 s.end 0 (λ k. not_both (eq-eqb v.0 x.0 (sym k)) e) ∙ is.offsets x within
        ∙ split (is_among s.order.items x) (λ b. is_among s.order.items x ≡ b → (if b then place_among size s.start s.order.items x else 0) ≡ (if b then place_among size s.start (s.order.items ++ v ∷ []) x else 0))
        (λ _ a. ap (λ k. s.start + k) (sym (first_among (size AsBase) s.order.items (v ∷ []) x a))) (λ _ a. refl) refl
        ∙ sym (ap (λ b. if b then place_among size s.start (s.order.items ++ v ∷ []) x else 0) there))
        refl

    each : (x : ClassId) → x.0 < length s.offsets.items → get_or n.offsets.items x.0 0 ≡ (if is_among n.order.items x then place_among size n.start n.order.items x else 0)
    each x within = ap (λ (l : List ℕ). get_or l x.0 0) offsets ∙ set_entry x within ∙ ap (λ (o : List ClassId). if is_among o x then place_among size s.start o x else 0) (sym order) ∙ ap (λ k. if is_among n.order.items x then place_among size k n.order.items x else 0) (sym start)
