-- What is met has room, since all that is met in the end has.
use Rattle.std.proofs.Common.{◌≡◌, ℕ, suc, ◌+◌, ◌<◌, true, false, List, [], ◌∷◌, ◌++◌, length, get_or, drop, drop-cons, ap, subst, sym, ◌∙◌, arith, add-one}
use Rattle.std.specs.Prelude.{if◌then◌else◌}
use Rattle.std.specs.List.{flat_map}
use Rattle.cxx_hierarchy.specs.declared.records.ClassId.{ClassId}
use Rattle.cxx_hierarchy.specs.declared.records.Base.{Base}
use Rattle.cxx_hierarchy.specs.Classes.{Classes}
use Rattle.path_plan.specs.declared.form.Form.TheVariants.{AsBase}
use Rattle.path_plan.specs.Plans.{virtual_order}
use Rattle.path_numbers.specs.Sizes.{Sizes, total}
use Rattle.path_numbers.specs.invariants.Sharing.{met, meet_all, brings, HasRoom}
use Rattle.path_numbers.proofs.Meeting.{meet_append, total_meets}

pub room_front : (size : Sizes) (start : ℕ) (order xs ys : List ClassId) → HasRoom size start (meet_all order (xs ++ ys)) → HasRoom size start (meet_all order xs)
room_front size start order xs ys r = record {
  room = let a = total_meets (size AsBase) (meet_all order xs) ys in let b = ap (total (size AsBase)) (meet_append order xs ys) in let k = r.room in omega arith;
}

pub room_one : (size : Sizes) (start first : ℕ) (order list all : List ClassId) (i : ℕ) (d : ClassId) → i < length list → meet_all order (drop i list) ≡ all → start ≡ first → HasRoom size first all → HasRoom size start (met order (get_or list i d))
room_one size start first order list all i d lt e s r =
    let k : meet_all order (get_or list i d ∷ drop (suc i) list) ≡ all = ap (meet_all order) (sym (drop-cons list i d lt)) ∙ e in
    room_front size start order (get_or list i d ∷ []) (drop (suc i) list) (subst (λ n. HasRoom size n (meet_all order (get_or list i d ∷ drop (suc i) list))) (sym s) (subst (HasRoom size first) (sym k) r))

flat_drop : (h : Classes) (bases : List (Base ClassId)) (i : ℕ) (d : Base ClassId) → i < length bases → flat_map (brings h) (drop i bases) ≡ brings h (get_or bases i d) ++ flat_map (brings h) (drop (suc i) bases)
flat_drop h bases i d lt = ap (flat_map (brings h)) (drop-cons bases i d lt)

pub room_base : (h : Classes) (size : Sizes) (start first : ℕ) (order all : List ClassId) (bases : List (Base ClassId)) (i : ℕ) (d : Base ClassId) → i < length bases → meet_all order (flat_map (brings h) (drop i bases)) ≡ all → start ≡ first → HasRoom size first all
    → HasRoom size start (meet_all order (brings h (get_or bases i d)))
room_base h size start first order all bases i d lt e s r =
    let k : meet_all order (brings h (get_or bases i d) ++ flat_map (brings h) (drop (suc i) bases)) ≡ all = ap (meet_all order) (sym (flat_drop h bases i d lt)) ∙ e in
    room_front size start order (brings h (get_or bases i d)) (flat_map (brings h) (drop (suc i) bases)) (subst (λ n. HasRoom size n (meet_all order (brings h (get_or bases i d) ++ flat_map (brings h) (drop (suc i) bases)))) (sym s) (subst (HasRoom size first) (sym k) r))

pub base_met : (h : Classes) (order new all : List ClassId) (bases : List (Base ClassId)) (i : ℕ) (d : Base ClassId) → i < length bases → meet_all order (flat_map (brings h) (drop i bases)) ≡ all → new ≡ meet_all order (brings h (get_or bases i d))
    → meet_all new (flat_map (brings h) (drop (i + 1) bases)) ≡ all
base_met h order new all bases i d lt e n =
    ap (λ (o : List ClassId). meet_all o (flat_map (brings h) (drop (i + 1) bases))) n
    ∙ ap (λ k. meet_all (meet_all order (brings h (get_or bases i d))) (flat_map (brings h) (drop k bases))) (add-one i)
    ∙ sym (meet_append order (brings h (get_or bases i d)) (flat_map (brings h) (drop (suc i) bases)))
    ∙ ap (meet_all order) (sym (flat_drop h bases i d lt)) ∙ e

-- a base brings what its class has, and itself where it is virtual
pub brings_virtual : (h : Classes) (order : List ClassId) (base : Base ClassId) → base.is_virtual ≡ true → meet_all order (brings h base) ≡ met (meet_all order (virtual_order h base.class)) base.class
brings_virtual h order base e = meet_append order (virtual_order h base.class) (if base.is_virtual then base.class ∷ [] else []) ∙ ap (λ b. meet_all (meet_all order (virtual_order h base.class)) (if b then base.class ∷ [] else [])) e

pub brings_other : (h : Classes) (order : List ClassId) (base : Base ClassId) → base.is_virtual ≡ false → meet_all order (brings h base) ≡ meet_all order (virtual_order h base.class)
brings_other h order base e = meet_append order (virtual_order h base.class) (if base.is_virtual then base.class ∷ [] else []) ∙ ap (λ b. meet_all (meet_all order (virtual_order h base.class)) (if b then base.class ∷ [] else [])) e
