-- The first class that is refused is one, and so is how it is refused.
use Rattle.std.proofs.Common.{◌≡◌, ℕ, ◌<◌, ◌≤◌, ⊎_elim, Some, List, length, refl, ap, subst, sym, ◌∙◌, arith}
use Rattle.std.proofs.lemmas.Bool.{cases_order}
use Rattle.cxx_hierarchy.specs.declared.records.ClassId.{ClassId}
use Rattle.cxx_hierarchy.specs.declared.stop.Stop.{Stop}
use Rattle.cxx_hierarchy.specs.declared.stop.Stop.TheVariants.{Refused}
use Rattle.cxx_hierarchy.specs.declared.stop.Rule.TheVariants.{SharedPlace}
use Rattle.cxx_hierarchy.specs.Classes.{Class, Classes}
use Rattle.cxx_hierarchy.specs.Hierarchies.{IsHierarchy}
use Rattle.abi_sound.specs.declared.class_layout.ClassLayout.{ClassLayout}
use Rattle.abi_layout.specs.Refusals.{IsWellLaid, StopsLayout, by_size, by_place, IsFirstStop}
use Rattle.abi_layout.proofs.rules.OneLayoutLists.{same_class}
use Rattle.abi_layout.proofs.rules.OneLayoutFirst.{not_large_small, not_large, not_shared}

-- no class of a layout that is not refused is refused
pub not_stopped : (h : Classes) (count : ℕ) (rows : List ClassLayout) (c : ClassId) (stop : Stop) → IsHierarchy h → count ≤ length h → c.0 < count → IsWellLaid h count rows → StopsLayout h c stop → ⊥
not_stopped h count rows c _ keeps within lt well (by_size large) = not_large h count rows c keeps within lt well large
not_stopped h count rows c _ keeps within lt well (by_place class size there has small shared) = not_shared h count rows c keeps within lt well shared

-- where some class is refused there is no layout
pub laid_or_stopped : (h : Classes) (count : ℕ) (rows : List ClassLayout) (stop : Stop) → IsHierarchy h → count ≤ length h → IsWellLaid h count rows → IsFirstStop h count stop → ⊥
laid_or_stopped h count rows stop keeps within well first = not_stopped h count rows first.class stop keeps within first.known well first.stops

stops_same : (h : Classes) (c : ClassId) (stop other : Stop) → IsHierarchy h → StopsLayout h c stop → StopsLayout h c other → stop ≡ other
stops_same h c _ _ keeps (by_size large) (by_size also) = refl
stops_same h c _ _ keeps (by_size large) (by_place class size there has small shared) = absurd (not_large_small h c size keeps has small large)
stops_same h c _ _ keeps (by_place class size there has small shared) (by_size large) = absurd (not_large_small h c size keeps has small large)
stops_same h c _ _ keeps (by_place class size there has small shared) (by_place kind n here it low also) =
    let e : Some class ≡ Some kind = sym there ∙ here in
    let same : class ≡ kind = cc in
    ap (λ (x : Class). Refused SharedPlace x.at) same

-- a class is refused in one way, and one class is the first
pub stop_is_one : (h : Classes) (count : ℕ) (stop other : Stop) → IsHierarchy h → count ≤ length h → IsFirstStop h count stop → IsFirstStop h count other → stop ≡ other
stop_is_one h count stop other keeps within x y =
    let a = x.known in
    let b = y.known in
    ⊎_elim
    (λ same. stops_same h y.class stop other keeps (subst (λ (c : ClassId). StopsLayout h c stop) (same_class x.class y.class same) x.stops) y.stops)
    (λ o. ⊎_elim
    (λ l. absurd (not_stopped h y.class.0 y.rows x.class stop keeps (omega arith) l y.before x.stops))
    (λ g. absurd (not_stopped h x.class.0 x.rows y.class other keeps (omega arith) g x.before y.stops)) o)
    (cases_order x.class.0 y.class.0)
