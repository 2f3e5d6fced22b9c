-- A dump has a reply, and a listing a layout or a reply.
use Rattle.std.proofs.Common.{ℕ, ◌⊎◌, inl, inr, List}
use Rattle.cxx_hierarchy.specs.Classes.{Classes}
use Rattle.cxx_hierarchy.specs.Hierarchies.{IsHierarchy}
use Rattle.abi_sound.specs.declared.class_layout.ClassLayout.{ClassLayout}
use Rattle.abi_sound.specs.Places.{Places, places_of}
use Rattle.abi_layout.specs.Layouts.{IsLaid}
use Rattle.abi_inspect.specs.declared.seen.Seen.{Seen}
use Rattle.abi_inspect.specs.Faults.{IsDumpOf, NamesNoClass, IsFirstBadLine}
use Rattle.abi_inspect.specs.Sayings.{seen_text}
use Rattle.abi_foreign.specs.declared.listing_stop.ListingRule.{ListingRule}
use Rattle.abi_foreign.specs.declared.listing_stop.ListingStop.TheVariants.{Bad}
use Rattle.abi_foreign.specs.Listings.{IsForeign}
use Rattle.abi_foreign.specs.Refusals.{IsRefused}
use Rattle.cxxabi_cmd.specs.declared.status.InputRule.TheVariants.{I1, I2}
use Rattle.cxxabi_cmd.specs.declared.status.Status.TheVariants.{BadInput}
use Rattle.cxxabi_cmd.specs.Answers.{Answer, limited_answer, line_alone}
use Rattle.cxxabi_cmd.specs.Divided.{IsDumpReply, dump_says, names_no_class, no_dump}
use Rattle.cxxabi_cmd.proofs.DividedReplies.{AreReadable}

-- what a dump is: that of some values, one that names no class, or none from a line on
pub data HasReading (h : Classes) (rows : List ClassLayout) (dump : List ℕ) : Type 0 where
  is_dump : (seen : Seen) → IsDumpOf h (places_of h rows) seen dump → HasReading h rows dump
  is_unknown : NamesNoClass h dump → HasReading h rows dump
  is_none : (line : ℕ) → IsFirstBadLine h (places_of h rows) dump line → HasReading h rows dump

pub reading_of : (h : Classes) (rows : List ClassLayout) (dump : List ℕ) → ((seen : Seen) × IsDumpOf h (places_of h rows) seen dump) ⊎ (NamesNoClass h dump ⊎ ((line : ℕ) × IsFirstBadLine h (places_of h rows) dump line)) → HasReading h rows dump
reading_of h rows dump (inl found) = is_dump found.0 found.1
reading_of h rows dump (inr (inl unknown)) = is_unknown unknown
reading_of h rows dump (inr (inr none)) = is_none none.0 none.1

abbrev pub SomeDumps : Type 0
SomeDumps = (h : Classes) (rows : List ClassLayout) (dump : List ℕ) → AreReadable h rows → HasReading h rows dump

pub dump_replied : (dump : List ℕ) (h : Classes) (rows : List ClassLayout) → IsLaid h rows → HasReading h rows dump → (answer : Answer) × IsDumpReply dump h answer
dump_replied dump h rows laid (is_dump seen is) = (limited_answer (seen_text h (places_of h rows) seen), dump_says rows seen laid is)
dump_replied dump h rows laid (is_unknown unknown) = (line_alone (BadInput I1 1), names_no_class unknown)
dump_replied dump h rows laid (is_none line is) = (line_alone (BadInput I2 line), no_dump rows line laid is)

-- what a listing is: that of a sound layout, or refused
pub data HasVerdict (h : Classes) (listing : List ℕ) : Type 0 where
  is_sound : (rows : List ClassLayout) → IsForeign h listing rows → HasVerdict h listing
  is_unsound : (rule : ListingRule) (line : ℕ) → IsRefused h listing (Bad rule line) → HasVerdict h listing

pub verdict_of : (h : Classes) (listing : List ℕ) → ((rows : List ClassLayout) × IsForeign h listing rows) ⊎ ((rule : ListingRule) × (line : ℕ) × IsRefused h listing (Bad rule line)) → HasVerdict h listing
verdict_of h listing (inl found) = is_sound found.0 found.1
verdict_of h listing (inr stops) = is_unsound stops.0 stops.1 stops.2

abbrev pub SomeListings : Type 0
SomeListings = (h : Classes) (listing : List ℕ) → IsHierarchy h → HasVerdict h listing
