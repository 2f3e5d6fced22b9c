-- The texts of classes that are listed: there are such texts, and only one for each list of classes.
use Rattle.std.proofs.Common.{◌≡◌, ℕ, zero, suc, ◌<◌, ◌≤◌, Some, List, [], ◌∷◌, ◌++◌, length, refl, sym, ◌∙◌, ap, arith}
use Rattle.std.specs.Prelude.{slice_get}
use Rattle.std.specs.List.{AllByRecursion}
use Rattle.std.proofs.ByRecursion.{All-push}
use Rattle.cxx_hierarchy.specs.declared.records.ClassId.{ClassId}
use Rattle.cxx_hierarchy.specs.Classes.{Classes, class_names, class_by_number}
use Rattle.cxx_hierarchy.specs.Hierarchies.{IsHierarchy}
use Rattle.cxx_overrider.specs.Faults.{HasNoFault as HasNoMeaning}
use Rattle.abi_sound.specs.declared.class_layout.ClassLayout.{ClassLayout}
use Rattle.abi_sound.specs.Places.{places_of}
use Rattle.abi_sound.specs.Sound.{IsSoundLayout}
use Rattle.abi_tables.specs.declared.tables.ClassTables.{ClassTables}
use Rattle.abi_tables.specs.Tables.{AreClassTables}
use Rattle.abi_print.specs.LayoutTexts.{layout_text}
use Rattle.abi_print.specs.TableTexts.{tables_text}
use Rattle.cxxabi_words.specs.declared.command.Command.{Command}
use Rattle.cxxabi_cmd.specs.declared.listing.Listing.{Listing}
use Rattle.cxxabi_cmd.specs.declared.listing.Listing.TheVariants.{OfLayout, OfTables}
use Rattle.cxxabi_cmd.specs.Output.{first_classes, AsksFor, all_layouts, one_layout, all_tables, one_tables, IsClassText, AreTexts, no_texts, more_texts}

-- a class has tables, and one list of each
abbrev pub SomeTables : Type 0
SomeTables = (h : Classes) (rows : List ClassLayout) (c : ClassId) → IsHierarchy h → HasNoMeaning h → IsSoundLayout h rows → c.0 < length h → (tables : ClassTables) × AreClassTables h (places_of h rows) c tables

abbrev pub OneTables : Type 0
OneTables = (h : Classes) (rows : List ClassLayout) (c : ClassId) (a b : ClassTables) → IsHierarchy h → IsSoundLayout h rows → c.0 < length h → AreClassTables h (places_of h rows) c a → AreClassTables h (places_of h rows) c b → a ≡ b

-- these are classes of the hierarchy
abbrev pub AreKnown : Classes → List ClassId → Type 0
AreKnown h classes = AllByRecursion (λ (c : ClassId). c.0 < length h) classes

abbrev pub text_with : Classes → List ClassLayout → ClassId → ClassTables → List ℕ
text_with h rows c tables = tables_text h (places_of h rows).place c tables.groups tables.vtt tables.info

some_text : SomeTables → (h : Classes) (rows : List ClassLayout) (listing : Listing) (c : ClassId) → IsHierarchy h → HasNoMeaning h → IsSoundLayout h rows → c.0 < length h → (text : List ℕ) × IsClassText h rows listing c text
some_text law h rows OfLayout c keeps fine sound known = (layout_text h rows (places_of h rows).place c, refl)
some_text law h rows OfTables c keeps fine sound known =
    let made = law h rows c keeps fine sound known in
    (text_with h rows c made.0, record { tables = made.0; made = made.1; is = refl })

-- classes have texts
pub some_texts : SomeTables → (h : Classes) (rows : List ClassLayout) (listing : Listing) (classes : List ClassId) → IsHierarchy h → HasNoMeaning h → IsSoundLayout h rows → AreKnown h classes → (text : List ℕ) × AreTexts h rows listing classes text
some_texts law h rows listing [] keeps fine sound known = ([], no_texts)
some_texts law h rows listing (c ∷ classes) keeps fine sound known =
    let first = some_text law h rows listing c keeps fine sound known.0 in
    let rest = some_texts law h rows listing classes keeps fine sound known.1 in
    (first.0 ++ rest.0, more_texts c classes first.0 rest.0 first.1 rest.1)

one_text : OneTables → (h : Classes) (rows : List ClassLayout) (listing : Listing) (c : ClassId) (a b : List ℕ) → IsHierarchy h → IsSoundLayout h rows → c.0 < length h → IsClassText h rows listing c a → IsClassText h rows listing c b → a ≡ b
one_text law h rows OfLayout c a b keeps sound known x y = x ∙ sym y
one_text law h rows OfTables c a b keeps sound known x y = x.is ∙ ap (text_with h rows c) (law h rows c x.tables y.tables keeps sound known x.made y.made) ∙ sym y.is

-- and one text
pub one_texts : OneTables → (h : Classes) (rows : List ClassLayout) (listing : Listing) (classes : List ClassId) (a b : List ℕ) → IsHierarchy h → IsSoundLayout h rows → AreKnown h classes → AreTexts h rows listing classes a → AreTexts h rows listing classes b → a ≡ b
one_texts law h rows listing _ _ _ keeps sound known no_texts no_texts = refl
one_texts law h rows listing _ _ _ keeps sound known (more_texts c classes text rest is are) (more_texts _ _ text' rest' is' are') =
    ap (λ (t : List ℕ). t ++ rest) (one_text law h rows listing c text text' keeps sound known.0 is is')
    ∙ ap (λ (t : List ℕ). text' ++ t) (one_texts law h rows listing classes rest rest' keeps sound known.1 are are')

-- the classes that a command asks for are known

pub first_known : (h : Classes) (n : ℕ) → n ≤ length h → AreKnown h (first_classes n)
first_known h zero le = tt
first_known h (suc n) le = All-push (λ (c : ClassId). c.0 < length h) (first_classes n) (class_by_number n) (first_known h n (omega arith)) (omega arith)

-- a number that has a name is that of a class
pub named_below : (h : Classes) (n : ℕ) (name : List ℕ) → slice_get (class_names h) n ≡ Some name → n < length h
named_below [] n name at = absurd (cc)
named_below (class ∷ h) zero name at = omega arith
named_below (class ∷ h) (suc n) name at = let rest = named_below h n name at in omega arith

pub asked_known : (h : Classes) (command : Command) (listing : Listing) (classes : List ClassId) → AsksFor h command listing classes → AreKnown h classes
asked_known h _ _ _ all_layouts = first_known h (length h) (omega arith)
asked_known h _ _ _ (one_layout name c at) = (named_below h c.0 name at, tt)
asked_known h _ _ _ all_tables = first_known h (length h) (omega arith)
asked_known h _ _ _ (one_tables name c at) = (named_below h c.0 name at, tt)
