-- Whether a class is refused is decided, so that the first classes of a hierarchy have a layout or a first refusal.
use Rattle.std.proofs.Common.{◌≡◌, ℕ, zero, suc, ◌+◌, ◌<◌, ◌≤◌, ◌⊎◌, inl, inr, ⊎_elim, false, Some, List, [], ◌∷◌, ◌++◌, take, length, refl, ap, subst, sym, ◌∙◌, arith}
use Rattle.std.specs.List.{slice_get}
use Rattle.std.proofs.lemmas.Bool.{cases_order}
use Rattle.std.proofs.lemmas.Option.{slice_get_within}
use Rattle.cxx_hierarchy.specs.declared.records.ClassId.{ClassId}
use Rattle.cxx_hierarchy.specs.declared.stop.Stop.{Stop}
use Rattle.cxx_hierarchy.specs.declared.stop.Stop.TheVariants.{Refused, Limit}
use Rattle.cxx_hierarchy.specs.declared.stop.Rule.TheVariants.{SharedPlace}
use Rattle.cxx_hierarchy.specs.declared.stop.LimitNo.TheVariants.{L6}
use Rattle.cxx_hierarchy.specs.Classes.{Class, Classes, class_at}
use Rattle.cxx_hierarchy.specs.Hierarchies.{IsHierarchy}
use Rattle.abi_emptybase.specs.declared.Part.{Part}
use Rattle.abi_emptybase.specs.Table.{holds}
use Rattle.abi_primary.specs.declared.Primary.{Primary}
use Rattle.abi_sound.specs.declared.class_layout.ClassLayout.{ClassLayout}
use Rattle.abi_layout.specs.Limits.{size_limit}
use Rattle.abi_layout.specs.declared.placed_bases.PlacedBase.{PlacedBase}
use Rattle.abi_layout.specs.Repeats.{HasRepeat}
use Rattle.abi_layout.specs.Brought.{brought_by}
use Rattle.abi_layout.specs.PlacedBases.{class_of_placed, subobject_of, free_bases}
use Rattle.abi_layout.specs.Layouts.{fronts, object_parts, BringsTwice}
use Rattle.abi_layout.specs.Refusals.{IsNextToLayOut, IsLargeClass, HasSharedPlace, IsWellLaid, StopsLayout, by_size, by_place, IsFirstStop}
use Rattle.abi_layout.proofs.lists.Lists.{number}
use Rattle.abi_layout.proofs.rules.Parts.{split, opposed}
use Rattle.abi_layout.proofs.rules.Stages.{Has}
use Rattle.abi_layout.proofs.rules.KindLemmas.{contains_of, has_of}
use Rattle.abi_layout.proofs.rules.RepeatLemmas.{stands, held}
use Rattle.abi_layout.proofs.rules.AgreeingRows.{AgreeTo, agree_take}
use Rattle.abi_layout.proofs.rules.AgreeingParts.{ArePossible}
use Rattle.abi_layout.proofs.rules.AgreeingClasses.{laid_possible, brings_twice_agrees}
use Rattle.abi_layout.proofs.rules.AgreeingFirst.{one_of}
use Rattle.abi_layout.proofs.rules.OneLayoutLists.{same_class}
use Rattle.abi_layout.proofs.rules.OneLayoutFirst.{next_is_one, not_large_small, laid_size}
use Rattle.abi_layout.proofs.rules.SomeLayout.{HasMore, first_exist}

abbrev IsDecided : Type 0 → Type 0
IsDecided P = P ⊎ (P → ⊥)

-- whether some part stands twice in a list
repeat_later : (x : Part) (parts : List Part) → HasRepeat parts → HasRepeat (x ∷ parts)
repeat_later x parts r = let lt = r.ordered in record { first = suc r.first; second = suc r.second; part = r.part; ordered = omega arith; at_first = r.at_first; at_second = r.at_second }

repeat_decided : (parts : List Part) → IsDecided (HasRepeat parts)
repeat_decided [] = inr (λ r. let lt = slice_get_within [] r.first r.part r.at_first in absurd (omega arith))
repeat_decided (x ∷ parts) = split (holds parts x) (λ b. IsDecided (HasRepeat (x ∷ parts)))
    (λ t. let s = stands parts x t in inl (record { first = 0; second = suc s.number; part = x; ordered = omega arith; at_first = refl; at_second = s.there }))
    (λ f. ⊎_elim (λ r. inl (repeat_later x parts r)) (λ none. inr (λ r. by_first f none r.first r.second r.part r.ordered r.at_first r.at_second)) (repeat_decided parts))
  where
    by_first : holds parts x ≡ false → (HasRepeat parts → ⊥) → (i j : ℕ) (part : Part) → i < j → slice_get (x ∷ parts) i ≡ Some part → slice_get (x ∷ parts) j ≡ Some part → ⊥
    by_first f none i zero part lt a b = absurd (omega arith)
    by_first f none zero (suc j) part lt a b = let same : part ≡ x = cc in opposed (held parts j x (subst (λ (p : Part). slice_get parts j ≡ Some p) same b)) f
    by_first f none (suc i) (suc j) part lt a b = none (record { first = i; second = j; part = part; ordered = omega arith; at_first = a; at_second = b })

-- whether a fact that is decided holds of some item of a list
record HasSuch {X : Type 0} (P : X → Type 0) (xs : List X) : Type 0 where
  item : X
  listed : Has xs item
  is : P item

some_decided : {X : Type 0} (P : X → Type 0) → ((x : X) → IsDecided (P x)) → (xs : List X) → IsDecided (HasSuch P xs)
some_decided P each [] = inr (λ s. s.listed)
some_decided {X} P each (x ∷ xs) = ⊎_elim
    (λ here. inl (record { item = x; listed = inl refl; is = here }))
    (λ other. ⊎_elim
    (λ s. inl (record { item = s.item; listed = inr s.listed; is = s.is }))
    (λ none. inr (λ s. ⊎_elim (λ same. other (subst P (sym same) s.is)) (λ rest. none (record { item = s.item; listed = rest; is = s.is })) s.listed))
    (some_decided P each xs))
    (each x)

-- whether a base of a class brings one pair of class and place twice
twice_decided : (h : Classes) (rows : List ClassLayout) (ps : List Primary) (c : ClassId) (class : Class) → IsDecided (BringsTwice h rows ps c class)
twice_decided h rows ps c class = ⊎_elim
    (λ s. inl (record { base = s.item; placed = contains_of bases s.item s.listed; repeated = s.is }))
    (λ none. inr (λ t. none (record { item = t.base; listed = has_of bases t.base t.placed; is = t.repeated })))
    (some_decided (λ (b : PlacedBase). HasRepeat (brings b)) (λ b. repeat_decided (brings b)) bases)
  where
    bases : List PlacedBase
    bases = fronts ps c class ++ free_bases h ps c

    brings : PlacedBase → List Part
    brings b = brought_by h rows ps (object_parts h rows ps) c (subobject_of c b) (class_of_placed b)

-- whether a class takes more than the limit of sizes
pub large_decided : (h : Classes) → IsHierarchy h → (c : ClassId) → c.0 < length h → IsLargeClass h c ⊎ (IsLargeClass h c → ⊥)
large_decided h keeps c lt = by_front (first_exist h keeps (c.0 + 1) (omega arith))
  where
    by_front : HasMore h (c.0 + 1) → IsLargeClass h c ⊎ (IsLargeClass h c → ⊥)
    by_front made =
        let it = laid_size h (c.0 + 1) made.rows made.nearly made.primaries c keeps (omega arith) (omega arith) made.laid in
        ⊎_elim
        (λ same. inr (not_large_small h c it.row.size keeps it.has (omega arith)))
        (λ o. ⊎_elim
        (λ less. inr (not_large_small h c it.row.size keeps it.has (omega arith)))
        (λ more. inl (record { size = it.row.size; has = it.has; large = more })) o)
        (cases_order it.row.size size_limit)

twice_along : (h : Classes) (c : ClassId) (rows others : List ClassLayout) (ps qs : List Primary) (class kind : Class) → rows ≡ others → ps ≡ qs → class ≡ kind → BringsTwice h rows ps c class → BringsTwice h others qs c kind
twice_along h c rows others ps qs class kind a b d twice =
    subst (λ (k : Class). BringsTwice h others qs c k) d
    (subst (λ (xs : List Primary). BringsTwice h others xs c class) b
    (subst (λ (xs : List ClassLayout). BringsTwice h xs ps c class) a twice))

-- whether a base of a class brings one pair of class and place twice, by the classes before
pub shared_decided : (h : Classes) → IsHierarchy h → (c : ClassId) → c.0 < length h → HasSharedPlace h c ⊎ (HasSharedPlace h c → ⊥)
shared_decided h keeps c lt = by_front (first_exist h keeps (c.0 + 1) (omega arith))
  where
    by_next : (next : IsNextToLayOut h c) → HasSharedPlace h c ⊎ (HasSharedPlace h c → ⊥)
    by_next next = ⊎_elim
        (λ twice. inl (record { next = next; twice = twice }))
        (λ once. inr (λ shared.
        let same = next_is_one h c keeps shared.next next in
        once (twice_along h c shared.next.rows next.rows shared.next.primaries next.primaries shared.next.class next.class same.rows same.primaries same.class shared.twice)))
        (twice_decided h next.rows next.primaries c next.class)

    by_front : HasMore h (c.0 + 1) → HasSharedPlace h c ⊎ (HasSharedPlace h c → ⊥)
    by_front made = by_next (one_of h (c.0 + 1) made.rows made.nearly made.primaries c keeps (omega arith) (omega arith) made.laid).next

-- none of the first n classes is refused
record AreAccepted (h : Classes) (n : ℕ) : Type 0 where
  small : (c : ClassId) → c.0 < n → IsLargeClass h c → ⊥
  apart : (c : ClassId) → c.0 < n → HasSharedPlace h c → ⊥

-- the layout of the first classes
pub record HasLayout (h : Classes) (count : ℕ) : Type 0 where
  pub rows : List ClassLayout
  pub well : IsWellLaid h count rows

accepted_laid : (h : Classes) (count : ℕ) → IsHierarchy h → count ≤ length h → AreAccepted h count → HasLayout h count
accepted_laid h count keeps within accepted = by_rows (first_exist h keeps count within)
  where
    by_rows : HasMore h count → HasLayout h count
    by_rows made = record {
      rows = made.rows;
      well = record {
        nearly = made.nearly;
        primaries = made.primaries;
        by = made.laid;
        small = record { each = small };
        apart = record { each = apart };
      };
    }
      where
        small : (i : ℕ) (row : ClassLayout) → slice_get made.rows i ≡ Some row → row.size ≤ size_limit
        small i row there =
            let each = made.laid.one_each in
            let lt = slice_get_within made.rows i row there in
            let it = laid_size h count made.rows made.nearly made.primaries (number i) keeps within (omega arith) made.laid in
            let same : Some row ≡ Some it.row = sym there ∙ it.there in
            let sizes : row.size ≡ it.row.size = let r : row ≡ it.row = cc in ap (λ (x : ClassLayout). x.size) r in
            ⊎_elim (λ e. omega arith) (λ o. ⊎_elim (λ l. omega arith) (λ g. absurd (accepted.small (number i) (omega arith) (record { size = it.row.size; has = it.has; large = g }))) o) (cases_order it.row.size size_limit)

        apart : (c : ClassId) (class : Class) → c.0 < count → class_at h c ≡ Some class → BringsTwice h made.rows made.primaries c class → ⊥
        apart c class lt there twice =
            let it = one_of h count made.rows made.nearly made.primaries c keeps within lt made.laid in
            let same : class ≡ it.next.class = let e : Some class ≡ Some it.next.class = sym there ∙ it.next.there in cc in
            let alike : AgreeTo (c.0 + 1) made.primaries (take (c.0 + 1) made.primaries) = agree_take (c.0 + 1) made.primaries in
            let possible : ArePossible h (c.0 + 1) made.primaries = laid_possible h count (c.0 + 1) made.rows made.nearly made.primaries (omega arith) (omega arith) made.laid in
            let front = brings_twice_agrees h made.rows (take c.0 made.rows) made.primaries (take (c.0 + 1) made.primaries) c class keeps there (agree_take c.0 made.rows) alike possible twice in
            accepted.apart c lt (record { next = it.next; twice = twice_along h c (take c.0 made.rows) it.next.rows (take (c.0 + 1) made.primaries) it.next.primaries class it.next.class (sym it.rows_are) (sym it.primaries_are) same front })

-- the first refusal of the first classes
pub record HasStop (h : Classes) (count : ℕ) : Type 0 where
  pub stop : Stop
  pub first : IsFirstStop h count stop

stop_more : (h : Classes) (n : ℕ) → HasStop h n → HasStop h (suc n)
stop_more h n s = let lt = s.first.known in record { stop = s.stop; first = record { class = s.first.class; known = omega arith; rows = s.first.rows; before = s.first.before; stops = s.first.stops } }

accepted_or_stopped : (h : Classes) → IsHierarchy h → (n : ℕ) → n ≤ length h → AreAccepted h n ⊎ HasStop h n
accepted_or_stopped h keeps zero le = inl (record { small = λ c lt. absurd (omega arith); apart = λ c lt. absurd (omega arith) })
accepted_or_stopped h keeps (suc n) le = ⊎_elim
    (λ before. ⊎_elim
    (λ large. inr (stopped (accepted_laid h n keeps (omega arith) before) (Limit L6) (by_size large)))
    (λ small. ⊎_elim
    (λ shared. inr (shared_stop (accepted_laid h n keeps (omega arith) before) (first_exist h keeps (n + 1) (omega arith)) small shared))
    (λ apart. inl (record {
      small = λ c lt large. at_last c lt (λ (d : ClassId). IsLargeClass h d) (λ less. before.small c less) small large;
      apart = λ c lt shared. at_last c lt (λ (d : ClassId). HasSharedPlace h d) (λ less. before.apart c less) apart shared;
    }))
    (shared_decided h keeps (number n) (omega arith)))
    (large_decided h keeps (number n) (omega arith)))
    (λ s. inr (stop_more h n s))
    (accepted_or_stopped h keeps n (omega arith))
  where
    stopped : HasLayout h n → (stop : Stop) → StopsLayout h (number n) stop → HasStop h (suc n)
    stopped laid stop is = record { stop = stop; first = record { class = number n; known = omega arith; rows = laid.rows; before = laid.well; stops = is } }

    shared_stop : HasLayout h n → HasMore h (n + 1) → (IsLargeClass h (number n) → ⊥) → HasSharedPlace h (number n) → HasStop h (suc n)
    shared_stop laid made small shared =
        let it = laid_size h (n + 1) made.rows made.nearly made.primaries (number n) keeps (omega arith) (omega arith) made.laid in
        let low : it.row.size ≤ size_limit = ⊎_elim (λ e. omega arith) (λ o. ⊎_elim (λ l. omega arith) (λ g. absurd (small (record { size = it.row.size; has = it.has; large = g }))) o) (cases_order it.row.size size_limit) in
        stopped laid (Refused SharedPlace shared.next.class.at) (by_place shared.next.class it.row.size shared.next.there it.has low shared)

    at_last : (c : ClassId) → c.0 < suc n → (P : ClassId → Type 0) → (c.0 < n → P c → ⊥) → (P (number n) → ⊥) → P c → ⊥
    at_last c lt P earlier here is = ⊎_elim
        (λ e. here (subst P (same_class c (number n) e) is))
        (λ o. ⊎_elim (λ l. earlier l is) (λ g. absurd (omega arith)) o)
        (cases_order c.0 n)

-- the first classes have a layout, or a first one that is refused
pub layout_or_stop : (h : Classes) (count : ℕ) → IsHierarchy h → count ≤ length h → ((rows : List ClassLayout) × IsWellLaid h count rows) ⊎ ((stop : Stop) × IsFirstStop h count stop)
layout_or_stop h count keeps within = ⊎_elim
    (λ accepted. let l = accepted_laid h count keeps within accepted in inl (l.rows, l.well))
    (λ s. inr (s.stop, s.first))
    (accepted_or_stopped h keeps count within)
