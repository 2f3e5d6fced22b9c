-- The row of one class more.
use Rattle.std.proofs.Common.{◌≡◌, ℕ, ◌+◌, ◌<◌, ◌≤◌, ⊎_elim, List, [], ◌∷◌, ◌++◌, length, get_or, refl, ap, subst, sym, ◌∙◌, arith}
use Rattle.std.specs.Prelude.{Some, slice_get, if◌then◌else◌, Contains}
use Rattle.std.specs.List.{flat_map}
use Rattle.std.proofs.lemmas.Option.{slice_get-get_or}
use Rattle.std.proofs.lemmas.List.Elements.{Contains-get_or}
use Rattle.cxx_hierarchy.specs.declared.records.ClassId.{ClassId}
use Rattle.cxx_hierarchy.specs.declared.records.Base.{Base}
use Rattle.cxx_hierarchy.specs.declared.records.Member.{Member}
use Rattle.cxx_hierarchy.specs.declared.records.FieldType.TheVariants.{Object}
use Rattle.cxx_hierarchy.specs.Classes.{Class, Classes, class_at, bases_in, members_in, bases_of, members_of}
use Rattle.cxx_hierarchy.specs.Hierarchies.{IsHierarchy}
use Rattle.cxx_subobject.proofs.PathLemmas.{virtual_below, same_id}
use Rattle.foundation.proofs.Members.{Has, has_at}
use Rattle.foundation.proofs.Places.{get_pushed}
use Rattle.path_plan.specs.declared.form.Form.TheVariants.{InFull, AsBase}
use Rattle.path_plan.specs.Plans.{is_among, virtual_order}
use Rattle.path_plan.proofs.Order.{order_virtual}
use Rattle.path_numbers.specs.declared.numbers.ClassNumbers.{ClassNumbers}
use Rattle.path_numbers.specs.declared.numbers.Line.{Line}
use Rattle.path_numbers.specs.declared.sharing.Sharing.{Sharing}
use Rattle.path_numbers.specs.Sizes.{before, total, base_size, member_size, sizes_of, member_offset}
use Rattle.path_numbers.specs.Numbers.{place_among, shared_number, HasClassNumbers, AreNumberRows}
use Rattle.path_numbers.specs.invariants.Lines.{IsLinedUp, HaveFewParts}
use Rattle.path_numbers.specs.invariants.Sharing.{meet_all, brings, IsSharing, HasRoom}
use Rattle.path_numbers.proofs.Sized.{sizes_are}
use Rattle.path_numbers.proofs.Meeting.{order_met}
use Rattle.path_numbers.proofs.Placed.{base_opened}

pub bases_are : (h : Classes) (c : ClassId) (x : Class) (list : List (Base ClassId)) → class_at h c ≡ Some x → list ≡ x.bases → list ≡ bases_of h c
bases_are h c x list at e = e ∙ sym (ap bases_in at)

pub members_are : (h : Classes) (c : ClassId) (x : Class) (list : List (Member ClassId)) → class_at h c ≡ Some x → list ≡ x.members → list ≡ members_of h c
members_are h c x list at e = e ∙ sym (ap members_in at)

pub bases_known : (h : Classes) → IsHierarchy h → (c : ClassId) (n : ℕ) (list : List (Base ClassId)) → list ≡ bases_of h c → n ≡ c.0 → (k : ℕ) (d : Base ClassId) → k < length list → (get_or list k d).class.0 < n
bases_known h keeps c n list e is k d lt = let a = keeps.bases c (get_or list k d) (subst (λ (bs : List (Base ClassId)). Contains bs (get_or list k d)) e (Contains-get_or list k d lt)) in omega arith

pub members_known : (h : Classes) → IsHierarchy h → (c : ClassId) (n : ℕ) (list : List (Member ClassId)) → list ≡ members_of h c → n ≡ c.0 → (m : Member ClassId) (d : ClassId) → Contains list m → m.ty ≡ Object d → d.0 < n
members_known h keeps c n list e is m d has ty = let a = keeps.objects c d m (subst (λ (ms : List (Member ClassId)). Contains ms m) e has) ty in omega arith

pub order_below : (h : Classes) → IsHierarchy h → (c : ClassId) (n k : ℕ) (list : List ClassId) (d : ClassId) → list ≡ virtual_order h c → c.0 < n → k < length list → (get_or list k d).0 < n
order_below h keeps c n k list d e less lt =
    let has : Has (virtual_order h c) (get_or list k d) = subst (λ (o : List ClassId). Has o (get_or list k d)) e (has_at list k (get_or list k d) (slice_get-get_or list k d lt)) in
    let a = virtual_below h keeps c (get_or list k d) (order_virtual h keeps c (get_or list k d) has) in omega arith

-- the sizes as sums, within the limit
pub record HasSums (h : Classes) (c : ClassId) : Type 0 where
  pub own : sizes_of h AsBase c ≡ 1 + (total (base_size (sizes_of h)) (bases_of h c) + total (member_size (sizes_of h)) (members_of h c))
  pub full : sizes_of h InFull c ≡ sizes_of h AsBase c + total (sizes_of h AsBase) (virtual_order h c)
  pub small : sizes_of h InFull c ≤ 65536

pub has_sums : (h : Classes) → IsHierarchy h → HaveFewParts h → (c : ClassId) → c.0 < length h → HasSums h c
has_sums h keeps small c lt = record { own = (sizes_are h keeps).own c; full = (sizes_are h keeps).full c; small = small.each c lt }

pub bases_room : (h : Classes) → IsHierarchy h → HaveFewParts h → (c : ClassId) → c.0 < length h → (list : List (Base ClassId)) → list ≡ bases_of h c → 1 + total (base_size (sizes_of h)) list ≤ 65536
bases_room h keeps small c lt list e = let s = has_sums h keeps small c lt in let a = s.own in let b = s.full in let k = s.small in let t = ap (total (base_size (sizes_of h))) e in omega arith

pub members_room : (h : Classes) → IsHierarchy h → HaveFewParts h → (c : ClassId) → c.0 < length h → (bases : List (Base ClassId)) (list : List (Member ClassId)) (start : ℕ) → bases ≡ bases_of h c → list ≡ members_of h c → start ≡ 1 + total (base_size (sizes_of h)) bases
    → start + total (member_size (sizes_of h)) list ≤ 65536
members_room h keeps small c lt bases list start eb em es = let s = has_sums h keeps small c lt in let a = s.own in let b = s.full in let k = s.small in let t = ap (total (base_size (sizes_of h))) eb in let u = ap (total (member_size (sizes_of h))) em in omega arith

pub own_is : (h : Classes) → IsHierarchy h → (c : ClassId) (bases : List (Base ClassId)) (list : List (Member ClassId)) (start end : ℕ) → bases ≡ bases_of h c → list ≡ members_of h c → start ≡ 1 + total (base_size (sizes_of h)) bases
    → end ≡ start + total (member_size (sizes_of h)) list → end ≡ sizes_of h AsBase c
own_is h keeps c bases list start end eb em es ee = let a = (sizes_are h keeps).own c in let t = ap (total (base_size (sizes_of h))) eb in let u = ap (total (member_size (sizes_of h))) em in omega arith

pub all_met : (h : Classes) → IsHierarchy h → (c : ClassId) (bases : List (Base ClassId)) → bases ≡ bases_of h c → meet_all [] (flat_map (brings h) bases) ≡ virtual_order h c
all_met h keeps c bases e = ap (λ (bs : List (Base ClassId)). meet_all [] (flat_map (brings h) bs)) e ∙ order_met h keeps c

pub shared_room : (h : Classes) → IsHierarchy h → HaveFewParts h → (c : ClassId) → c.0 < length h → (bases : List (Base ClassId)) (start : ℕ) → bases ≡ bases_of h c → start ≡ sizes_of h AsBase c → HasRoom (sizes_of h) start (meet_all [] (flat_map (brings h) bases))
shared_room h keeps small c lt bases start eb es = record {
  room = let s = has_sums h keeps small c lt in let a = s.full in let k = s.small in let t = ap (total (sizes_of h AsBase)) (all_met h keeps c bases eb) in omega arith;
}

member_opened : (h : Classes) (c : ClassId) (m : ℕ) → member_offset h (sizes_of h) c m ≡ 1 + (total (base_size (sizes_of h)) (bases_of h c) + before (member_size (sizes_of h)) m (members_of h c))
unfolding member_offset
member_opened h c m = refl

shared_opened : (h : Classes) (c v : ClassId) → shared_number h c v ≡ place_among (sizes_of h) (sizes_of h AsBase c) (virtual_order h c) v
unfolding shared_number
shared_opened h c v = refl

pub row_made : (h : Classes) → IsHierarchy h → (c : ClassId) (bases : List (Base ClassId)) (members : List (Member ClassId)) (first second : Line) (s : Sharing) (row : ClassNumbers) → bases ≡ bases_of h c → members ≡ members_of h c
    → IsLinedUp (base_size (sizes_of h)) 1 bases first → IsLinedUp (member_size (sizes_of h)) first.end members second → IsSharing (sizes_of h) s
    → s.order.items ≡ meet_all [] (flat_map (brings h) bases) → s.start ≡ second.end → length s.offsets.items ≡ c.0
    → row.as_base ≡ second.end → row.in_full ≡ s.end → row.bases ≡ first.offsets.items → row.members ≡ second.offsets.items → row.order ≡ s.order.items → row.shared ≡ s.offsets.items
    → HasClassNumbers h c row
row_made h keeps c bases members first second s row eb em a b sharing met start count own full rb rm ro rs =
    let order : s.order.items ≡ virtual_order h c = met ∙ all_met h keeps c bases eb in
    let size : second.end ≡ sizes_of h AsBase c = own_is h keeps c bases members first.end second.end eb em a.end b.end in
    record {
      as_base = own ∙ size;
      in_full = full ∙ sharing.end ∙ ap (λ n. n + total (sizes_of h AsBase) s.order.items) (start ∙ size) ∙ ap (λ (o : List ClassId). sizes_of h AsBase c + total (sizes_of h AsBase) o) order ∙ sym ((sizes_are h keeps).full c);
      bases = λ i lt. ap (λ (l : List ℕ). get_or l i 0) rb ∙ a.each i (let k = ap length eb in omega arith) ∙ ap (λ (bs : List (Base ClassId)). 1 + before (base_size (sizes_of h)) i bs) eb ∙ sym (base_opened h c i);
      members = λ m lt. ap (λ (l : List ℕ). get_or l m 0) rm ∙ b.each m (let k = ap length em in omega arith)
          ∙ (let e = a.end in let o = member_opened h c m in let t = ap (total (base_size (sizes_of h))) eb in let u = ap (λ (ms : List (Member ClassId)). before (member_size (sizes_of h)) m ms) em in omega arith);
      order = ro ∙ order;
      shared_count = ap length rs ∙ count;
      shared = λ v lt. ap (λ (l : List ℕ). get_or l v.0 0) rs ∙ sharing.offsets v (omega arith)
          ∙ ap (λ (o : List ClassId). if is_among o v then place_among (sizes_of h) s.start o v else 0) order
          ∙ ap (λ n. if is_among (virtual_order h c) v then place_among (sizes_of h) n (virtual_order h c) v else 0) (start ∙ size)
          ∙ ap (λ n. if is_among (virtual_order h c) v then n else 0) (sym (shared_opened h c v));
    }

pub rows_none : (h : Classes) (rows : List ClassNumbers) → rows ≡ [] → AreNumberRows h rows
rows_none h rows e = record { row = λ c row at. let k = ap (λ (l : List ClassNumbers). slice_get l c.0) e in absurd (cc) }

pub rows_more : (h : Classes) (rows new : List ClassNumbers) (c : ClassId) (row : ClassNumbers) → AreNumberRows h rows → length rows ≡ c.0 → HasClassNumbers h c row → new ≡ rows ++ row ∷ [] → AreNumberRows h new
rows_more h rows new c row are size is e = record {
  row = λ d x at. ⊎_elim (λ a. are.row d x a)
      (λ a. subst (λ (y : ClassNumbers). HasClassNumbers h d y) (sym a.1) (subst (λ (k : ClassId). HasClassNumbers h k row) (numbered c d (let k = a.0 in omega arith)) is))
      (get_pushed rows row d.0 x (ap (λ (l : List ClassNumbers). slice_get l d.0) (sym e) ∙ at));
}
  where
    numbered : (x y : ClassId) → x.0 ≡ y.0 → x ≡ y
    numbered x y e = same_id x y e

pub row_found : (h : Classes) (rows : List ClassNumbers) (c : ClassId) (row : ClassNumbers) → c.0 < length rows → row ≡ get_or rows c.0 row → AreNumberRows h rows → HasClassNumbers h c row
row_found h rows c row lt e are = are.row c row (slice_get-get_or rows c.0 row lt ∙ ap Some (sym e))
