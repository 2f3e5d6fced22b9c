-- What is answered to an input in two parts: a dump and a source, or a listing and a source.
use Rattle.std.specs.Prelude.{ℕ, ◌<◌, ◌≤◌, List}
use Rattle.cxx_hierarchy.specs.declared.stop.LimitNo.TheVariants.{L7}
use Rattle.cxx_hierarchy.specs.Classes.{Classes}
use Rattle.abi_sound.specs.declared.class_layout.ClassLayout.{ClassLayout}
use Rattle.abi_sound.specs.Places.{places_of}
use Rattle.abi_tables.specs.Counts.{words_of_all_classes, most_words}
use Rattle.abi_layout.specs.Layouts.{IsLaid}
use Rattle.abi_inspect.specs.declared.seen.Seen.{Seen}
use Rattle.abi_inspect.specs.Faults.{IsDumpOf, IsFirstBadLine, NamesNoClass}
use Rattle.abi_inspect.specs.Sayings.{seen_text}
use Rattle.abi_foreign.specs.declared.listing_stop.ListingRule.{ListingRule}
use Rattle.abi_foreign.specs.declared.listing_stop.ListingRule.TheVariants.{Form, Primary, Place, Align, Inside, Overlap, Twice}
use Rattle.abi_foreign.specs.declared.listing_stop.ListingStop.TheVariants.{Bad}
use Rattle.abi_foreign.specs.Listings.{IsForeign}
use Rattle.abi_foreign.specs.Refusals.{IsRefused}
use Rattle.cxxabi_words.specs.declared.command.Command.{Command}
use Rattle.cxxabi_words.specs.declared.command.Command.TheVariants.{Foreign}
use Rattle.cxxabi_cmd.specs.declared.status.InputRule.{InputRule}
use Rattle.cxxabi_cmd.specs.declared.status.InputRule.TheVariants.{F1, F2, F3, F4, F5, F6, F7, I1, I2}
use Rattle.cxxabi_cmd.specs.declared.status.Status.TheVariants.{BadInput, Limit}
use Rattle.cxxabi_cmd.specs.Answers.{Answer, limited_answer, line_alone}

-- the rule on an input that no line divides
abbrev pub undivided_rule : Command → InputRule
undivided_rule (Foreign steps) = F1
undivided_rule other = I2

-- the layout that a command treats: `foreign` that of its listing, which is within the limit on words of tables, and each other that
-- of the rules
abbrev pub IsLayoutOf : Command → List ℕ → Classes → List ClassLayout → Type 0
IsLayoutOf (Foreign steps) front h rows = IsForeign h front rows × (words_of_all_classes h (places_of h rows) ≤ most_words)
IsLayoutOf other front h rows = IsLaid h rows

-- what is answered to a dump: what it says, that it names no class, or the first line that begins none
pub data IsDumpReply (dump : List ℕ) (h : Classes) : Answer → Type 0 where
  dump_says : (rows : List ClassLayout) (seen : Seen) → IsLaid h rows → IsDumpOf h (places_of h rows) seen dump → IsDumpReply dump h (limited_answer (seen_text h (places_of h rows) seen))
  names_no_class : NamesNoClass h dump → IsDumpReply dump h (line_alone (BadInput I1 1))
  no_dump : (rows : List ClassLayout) (line : ℕ) → IsLaid h rows → IsFirstBadLine h (places_of h rows) dump line → IsDumpReply dump h (line_alone (BadInput I2 line))

-- the number of a rule on listings
abbrev pub listing_rule : ListingRule → InputRule
listing_rule Form = F1
listing_rule Primary = F2
listing_rule Place = F3
listing_rule Align = F4
listing_rule Inside = F5
listing_rule Overlap = F6
listing_rule Twice = F7

-- why a listing has no run: it is refused, or the tables over its layout have too many words
pub data IsListingReply (listing : List ℕ) (h : Classes) : Answer → Type 0 where
  refused_listing : (rule : ListingRule) (line : ℕ) → IsRefused h listing (Bad rule line) → IsListingReply listing h (line_alone (BadInput (listing_rule rule) line))
  many_words : (rows : List ClassLayout) → IsForeign h listing rows → most_words < words_of_all_classes h (places_of h rows) → IsListingReply listing h (line_alone (Limit L7))
