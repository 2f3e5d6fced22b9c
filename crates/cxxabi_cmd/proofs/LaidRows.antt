-- The layout of the classes of an accepted source, and whether the words of its tables are within the limit.
use Rattle.std.proofs.Common.{◌≡◌, ◌≤◌, ◌⊎◌, ⊎_elim, inl, inr, List, length, ap, subst, arith}
use Rattle.std.proofs.lemmas.Bool.{cases_lt}
use Rattle.cxx_hierarchy.specs.Classes.{Classes}
use Rattle.cxx_hierarchy.specs.Hierarchies.{IsHierarchy}
use Rattle.cxx_overrider.specs.Faults.{HasNoFault as HasNoMeaning}
use Rattle.abi_sound.specs.declared.class_layout.ClassLayout.{ClassLayout}
use Rattle.abi_sound.specs.Places.{places_of}
use Rattle.abi_sound.specs.Sound.{IsSoundLayout}
use Rattle.abi_tables.specs.Counts.{words_of_all_classes, most_words}
use Rattle.abi_layout.specs.AbiLayouts.{IsAbiLayout}
use Rattle.abi_layout.specs.Layouts.{IsLaid}
use Rattle.abi_layout.specs.Refusals.{IsWellLaid}
use Rattle.abi_layout.proofs.rules.OneLayoutFirst.{layout_is_one}
use Rattle.abi_layout.proofs.rules.SomeAnswers.{layout_or_stop}
use Rattle.abi_layout.proofs.rules.SomeLayout.{some_layout}
use Rattle.abi_layout.proofs.sound.ObjectLaws.{rules_are_sound}
use Rattle.cxxabi_cmd.specs.Verdict.{of_meaning, MeetsNoFault, HasManyWords, HasFewWords}
use Rattle.cxxabi_cmd.proofs.ClassFaults.{layout_first}
use Rattle.cxxabi_cmd.proofs.OneFault.{first_or_none}

-- a hierarchy has one layout
pub laid_is_one : (h : Classes) (rows others : List ClassLayout) → IsHierarchy h → IsLaid h rows → IsLaid h others → rows ≡ others
laid_is_one h rows others keeps laid laid' = layout_is_one h (length h) rows others keeps (omega arith) laid laid'

well_laid : (h : Classes) (rows : List ClassLayout) → IsWellLaid h (length h) rows → IsLaid h rows
well_laid h rows is = record { nearly = is.nearly; primaries = is.primaries; by = is.by }

-- the rows of a layout are the layout
pub is_laid : (h : Classes) (rows : List ClassLayout) → IsAbiLayout h rows → IsLaid h rows
is_laid h rows is = well_laid h rows is.laid

pub no_meaning : (h : Classes) → MeetsNoFault h → HasNoMeaning h
no_meaning h nothing = record { none = λ at stop fault. nothing.none at stop (of_meaning at stop fault) }

-- the layout of classes without a fault is sound
pub sound_rows : (h : Classes) (rows : List ClassLayout) → IsHierarchy h → MeetsNoFault h → IsLaid h rows → IsSoundLayout h rows
sound_rows h rows keeps nothing laid =
    ⊎_elim
    (λ well. subst (λ (r : List ClassLayout). IsSoundLayout h r) (laid_is_one h well.0 rows keeps (well_laid h well.0 well.1) laid) (rules_are_sound h well.0 keeps well.1))
    (λ stops. absurd (first_or_none h stops.0 (layout_first h stops.0 keeps (no_meaning h nothing) stops.1) nothing))
    (layout_or_stop h (length h) keeps (omega arith))

-- the words over any layout are within the limit
pub few_words : (h : Classes) (rows : List ClassLayout) → IsHierarchy h → IsLaid h rows → HasFewWords h → words_of_all_classes h (places_of h rows) ≤ most_words
few_words h rows keeps laid few =
    subst (λ (r : List ClassLayout). words_of_all_classes h (places_of h r) ≤ most_words) (laid_is_one h few.rows rows keeps few.laid laid) few.few

-- the words are more than the limit, or they are not
pub many_or_few : (h : Classes) → IsHierarchy h → HasManyWords h → HasFewWords h → ⊥
many_or_few h keeps many few =
    let same = ap (λ (r : List ClassLayout). words_of_all_classes h (places_of h r)) (laid_is_one h many.rows few.rows keeps many.laid few.laid) in
    let over = many.many in
    let within = few.few in
    omega arith

pub words_decided : (h : Classes) → IsHierarchy h → HasManyWords h ⊎ HasFewWords h
words_decided h keeps =
    let laid = some_layout h keeps in
    ⊎_elim (λ over. inl (record { rows = laid.0; laid = laid.1; many = over })) (λ within. inr (record { rows = laid.0; laid = laid.1; few = within }))
    (cases_lt most_words (words_of_all_classes h (places_of h laid.0)))
