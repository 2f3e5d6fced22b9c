-- What is answered to a dump, and to a listing, is one answer.
use Rattle.std.proofs.Common.{◌≡◌, ℕ, ◌<◌, ◌≤◌, List, refl, sym, ◌∙◌, ap, subst, arith}
use Rattle.cxx_hierarchy.specs.Classes.{Classes}
use Rattle.cxx_hierarchy.specs.Hierarchies.{IsHierarchy}
use Rattle.abi_sound.specs.declared.class_layout.ClassLayout.{ClassLayout}
use Rattle.abi_sound.specs.Places.{Places, places_of}
use Rattle.abi_sound.specs.Sound.{IsSoundLayout}
use Rattle.abi_tables.specs.Counts.{words_of_all_classes, most_words}
use Rattle.abi_layout.specs.Layouts.{IsLaid}
use Rattle.abi_inspect.specs.declared.seen.Seen.{Seen}
use Rattle.abi_inspect.specs.Faults.{AreNamesWords, IsDumpOf, NamesNoClass, IsFirstBadLine}
use Rattle.abi_inspect.specs.Sayings.{seen_text}
use Rattle.abi_foreign.specs.declared.listing_stop.ListingRule.{ListingRule}
use Rattle.abi_foreign.specs.declared.listing_stop.ListingRule.TheVariants.{Form}
use Rattle.abi_foreign.specs.declared.listing_stop.ListingStop.{ListingStop}
use Rattle.abi_foreign.specs.declared.listing_stop.ListingStop.TheVariants.{Bad, NoMemory}
use Rattle.abi_foreign.specs.Listings.{IsForeign}
use Rattle.abi_foreign.specs.Refusals.{IsRefused}
use Rattle.cxxabi_cmd.specs.declared.status.InputRule.TheVariants.{I2}
use Rattle.cxxabi_cmd.specs.declared.status.Status.TheVariants.{BadInput, Limit}
use Rattle.cxx_hierarchy.specs.declared.stop.LimitNo.TheVariants.{L7}
use Rattle.cxxabi_cmd.specs.Answers.{Answer, limited_answer, line_alone}
use Rattle.cxxabi_cmd.specs.Verdict.{MeetsNoFault}
use Rattle.cxxabi_cmd.specs.Divided.{IsDumpReply, dump_says, names_no_class, no_dump, IsListingReply, refused_listing, many_words, listing_rule}
use Rattle.cxxabi_cmd.proofs.LaidRows.{laid_is_one, sound_rows}

-- dumps

-- what is known of classes and a layout where dumps are read
pub record AreReadable (h : Classes) (rows : List ClassLayout) : Type 0 where
  pub keeps : IsHierarchy h
  pub words : AreNamesWords h
  pub sound : IsSoundLayout h rows

-- a dump has one reading, or one line that is its first fault
pub record OneDumps : Type 0 where
  pub seen : (h : Classes) (rows : List ClassLayout) (dump : List ℕ) (s t : Seen) → AreReadable h rows → IsDumpOf h (places_of h rows) s dump → IsDumpOf h (places_of h rows) t dump → s ≡ t
  pub named : (h : Classes) (rows : List ClassLayout) (dump : List ℕ) (s : Seen) → AreReadable h rows → IsDumpOf h (places_of h rows) s dump → NamesNoClass h dump → ⊥
  pub line : (h : Classes) (rows : List ClassLayout) (dump : List ℕ) (m n : ℕ) → AreReadable h rows → IsFirstBadLine h (places_of h rows) dump m → IsFirstBadLine h (places_of h rows) dump n → m ≡ n

readable : (h : Classes) (rows : List ClassLayout) → IsHierarchy h → MeetsNoFault h → AreNamesWords h → IsLaid h rows → AreReadable h rows
readable h rows keeps fine words laid = record { keeps = keeps; words = words; sound = sound_rows h rows keeps fine laid }

pub dump_same : OneDumps → (dump : List ℕ) (h : Classes) (a b : Answer) → IsHierarchy h → MeetsNoFault h → AreNamesWords h → IsDumpReply dump h a → IsDumpReply dump h b → a ≡ b
dump_same law dump h _ _ keeps fine words (dump_says rows s laid is) (dump_says rows' t laid' is') =
    let layout = laid_is_one h rows rows' keeps laid laid' in
    let other = subst (λ (r : List ClassLayout). IsDumpOf h (places_of h r) t dump) (sym layout) is' in
    ap (λ (x : Seen). limited_answer (seen_text h (places_of h rows) x)) (law.seen h rows dump s t (readable h rows keeps fine words laid) is other)
    ∙ ap (λ (r : List ClassLayout). limited_answer (seen_text h (places_of h r) t)) layout
dump_same law dump h _ _ keeps fine words (dump_says rows s laid is) (names_no_class unknown) = absurd (law.named h rows dump s (readable h rows keeps fine words laid) is unknown)
dump_same law dump h _ _ keeps fine words (dump_says rows s laid is) (no_dump rows' line laid' is') =
    absurd (is'.none s (subst (λ (r : List ClassLayout). IsDumpOf h (places_of h r) s dump) (laid_is_one h rows rows' keeps laid laid') is))
dump_same law dump h _ _ keeps fine words (names_no_class unknown) (dump_says rows s laid is) = absurd (law.named h rows dump s (readable h rows keeps fine words laid) is unknown)
dump_same law dump h _ _ keeps fine words (names_no_class unknown) (names_no_class unknown') = refl
dump_same law dump h _ _ keeps fine words (names_no_class unknown) (no_dump rows line laid is) = absurd (is.otherwise unknown)
dump_same law dump h _ _ keeps fine words (no_dump rows line laid is) (dump_says rows' s laid' is') =
    absurd (is.none s (subst (λ (r : List ClassLayout). IsDumpOf h (places_of h r) s dump) (laid_is_one h rows' rows keeps laid' laid) is'))
dump_same law dump h _ _ keeps fine words (no_dump rows line laid is) (names_no_class unknown) = absurd (is.otherwise unknown)
dump_same law dump h _ _ keeps fine words (no_dump rows m laid is) (no_dump rows' n laid' is') =
    let other = subst (λ (r : List ClassLayout). IsFirstBadLine h (places_of h r) dump n) (laid_is_one h rows' rows keeps laid' laid) is' in
    ap (λ (line : ℕ). line_alone (BadInput I2 line)) (law.line h rows dump m n (readable h rows keeps fine words laid) is other)

-- listings

-- a listing stands for one layout, or it is refused for one reason
pub record OneListings : Type 0 where
  pub layout : (h : Classes) (listing : List ℕ) (rows others : List ClassLayout) → IsHierarchy h → IsForeign h listing rows → IsForeign h listing others → rows ≡ others
  pub apart : (h : Classes) (listing : List ℕ) (rows : List ClassLayout) (stop : ListingStop) → IsHierarchy h → IsForeign h listing rows → IsRefused h listing stop → ⊥
  pub stop : (h : Classes) (listing : List ℕ) (one other : ListingStop) → IsHierarchy h → IsRefused h listing one → IsRefused h listing other → one ≡ other

-- where the layout of a listing is run over, the listing has no other reply
pub no_reply : OneListings → (listing : List ℕ) (h : Classes) (rows : List ClassLayout) (a : Answer) → IsHierarchy h → IsForeign h listing rows × (words_of_all_classes h (places_of h rows) ≤ most_words) → IsListingReply listing h a → ⊥
no_reply law listing h rows _ keeps laid (refused_listing rule line refused) = law.apart h listing rows (Bad rule line) keeps laid.0 refused
no_reply law listing h rows _ keeps laid (many_words rows' is many) =
    let same = ap (λ (r : List ClassLayout). words_of_all_classes h (places_of h r)) (law.layout h listing rows rows' keeps laid.0 is) in
    let few = laid.1 in
    omega (arith, same, few, many)

rule_in : ListingStop → ListingRule
rule_in (Bad rule line) = rule
rule_in NoMemory = Form

line_in : ListingStop → ℕ
line_in (Bad rule line) = line
line_in NoMemory = 0

pub listing_same : OneListings → (listing : List ℕ) (h : Classes) (a b : Answer) → IsHierarchy h → IsListingReply listing h a → IsListingReply listing h b → a ≡ b
unfolding rule_in line_in
listing_same law listing h _ _ keeps (refused_listing rule line refused) (refused_listing rule' line' refused') =
    let same = law.stop h listing (Bad rule line) (Bad rule' line') keeps refused refused' in
    ap (λ (r : ListingRule). line_alone (BadInput (listing_rule r) line)) (ap rule_in same) ∙ ap (λ (n : ℕ). line_alone (BadInput (listing_rule rule') n)) (ap line_in same)
listing_same law listing h _ _ keeps (refused_listing rule line refused) (many_words rows is many) = absurd (law.apart h listing rows (Bad rule line) keeps is refused)
listing_same law listing h _ _ keeps (many_words rows is many) (refused_listing rule line refused) = absurd (law.apart h listing rows (Bad rule line) keeps is refused)
listing_same law listing h _ _ keeps (many_words rows is many) (many_words rows' is' many') = refl
