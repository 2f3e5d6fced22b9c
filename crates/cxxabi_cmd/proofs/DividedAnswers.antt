-- What the answers to an input in two parts are made of.
use Rattle.std.proofs.Common.{◌≡◌, ◌⊎◌, ⊎_elim, ℕ, ◌<◌, ◌≤◌, Bool, false, Option, Some, None, Result, Ok, Err, List, sym, ◌∙◌, ap, subst, arith}
use Rattle.std.specs.Prelude.{IfOk, OnOk, MatchOption}
use Rattle.foundation.specs.declared.memory.NoMemory.{NoMemory as Want}
use Rattle.cxx_hierarchy.specs.declared.stop.LimitNo.TheVariants.{L7}
use Rattle.cxx_hierarchy.specs.declared.stop.Stop.{Stop}
use Rattle.cxx_hierarchy.specs.declared.stop.Stop.TheVariants as stop
use Rattle.cxx_hierarchy.specs.Classes.{Classes}
use Rattle.cxx_hierarchy.specs.Hierarchies.{IsHierarchy}
use Rattle.cxx_syntax.specs.declared.tree.BodyTree.{BodyTree}
use Rattle.cxx_syntax.specs.declared.source_text.SourceText.{SourceText}
use Rattle.cxx_program.specs.declared.program.TypedProgram.{TypedProgram}
use Rattle.text_told.specs.declared.ending.End.{End}
use Rattle.abi_sound.specs.declared.class_layout.ClassLayout.{ClassLayout}
use Rattle.abi_sound.specs.Places.{places_of}
use Rattle.abi_tables.specs.Counts.{words_of_all_classes, most_words}
use Rattle.abi_layout.specs.Layouts.{IsLaid}
use Rattle.abi_inspect.specs.declared.seen.Seen.{Seen as SeenValues}
use Rattle.abi_inspect.specs.declared.seen.InspectFault.{InspectFault}
use Rattle.abi_inspect.specs.Faults.{IsDumpOf, IsDumpFault}
use Rattle.abi_inspect.specs.Sayings.{seen_text}
use Rattle.abi_foreign.specs.declared.listing_stop.ListingStop.{ListingStop}
use Rattle.abi_foreign.specs.declared.listing_stop.ListingStop.TheVariants.{NoMemory}
use Rattle.abi_foreign.specs.Listings.{IsForeign}
use Rattle.abi_foreign.specs.Refusals.{IsRefused}
use Rattle.cxxabi_words.specs.declared.command.Command.{Command}
use Rattle.cxxabi_words.specs.declared.command.Command.TheVariants.{Foreign}
use Rattle.cxxabi_cmd.specs.declared.reply.Reply.{Reply}
use Rattle.cxxabi_cmd.specs.declared.status.Status.TheVariants.{Limit}
use Rattle.cxxabi_cmd.specs.Commands.{RunsMain, IsOnBytes, SumsUp, by_foreign}
use Rattle.cxxabi_cmd.specs.Divided.{IsLayoutOf, IsDumpReply, dump_says, IsListingReply, many_words}
use Rattle.cxxabi_cmd.specs.Handed.{IsMachineOf}
use Rattle.cxxabi_cmd.specs.Output.{Answer, IsRunAnswer, Yields, ran, no_layout, line_alone, status_of_stop}
use Rattle.cxxabi_cmd.specs.Answers.{limited_answer}
use Rattle.cxxabi_cmd.specs.invariants.Replies.{as_answer, machine_of, HandsBy}
use Rattle.cxxabi_cmd.proofs.AnswerLemmas.{hands_some}
use Rattle.cxxabi_cmd.proofs.DividedReplies.{OneListings}
use Rattle.cxxabi_cmd.proofs.ReplyLemmas.{IsStopped}

-- dumps

pub dump_faulted : (r : Result Reply Want) (fault : InspectFault) (a : Answer) → IfOk r (λ reply. as_answer reply ≡ a) → ((dump : List ℕ) (h : Classes) (rows : List ClassLayout) → IsLaid h rows → IsDumpFault h (places_of h rows) dump fault → IsDumpReply dump h a) →
    IfOk r (λ reply. (dump : List ℕ) (h : Classes) (rows : List ClassLayout) → IsLaid h rows → IsDumpFault h (places_of h rows) dump fault → IsDumpReply dump h (as_answer reply))
dump_faulted (Ok reply) fault a same is = λ dump h rows laid of. subst (IsDumpReply dump h) (sym same) (is dump h rows laid of)
dump_faulted (Err w) fault a same is = same

pub dump_told : (r : Result Reply Want) (dump : List ℕ) (h : Classes) (rows : List ClassLayout) (seen : SeenValues) (text : List ℕ) → IsLaid h rows → IsDumpOf h (places_of h rows) seen dump → text ≡ seen_text h (places_of h rows) seen →
    IfOk r (λ reply. as_answer reply ≡ limited_answer text) → IfOk r (λ reply. IsDumpReply dump h (as_answer reply))
dump_told (Ok reply) dump h rows seen text laid is said same = subst (IsDumpReply dump h) (sym (same ∙ ap (λ (t : List ℕ). limited_answer t) said)) (dump_says rows seen laid is)
dump_told (Err w) dump h rows seen text laid is said same = same

pub dump_refused : (r : Result Reply Want) (dump : List ℕ) (h : Classes) (rows : List ClassLayout) (fault : InspectFault) → IsLaid h rows → IsDumpFault h (places_of h rows) dump fault →
    IfOk r (λ reply. (d : List ℕ) (k : Classes) (others : List ClassLayout) → IsLaid k others → IsDumpFault k (places_of k others) d fault → IsDumpReply d k (as_answer reply)) → IfOk r (λ reply. IsDumpReply dump h (as_answer reply))
dump_refused (Ok reply) dump h rows fault laid is each = each dump h rows laid is
dump_refused (Err w) dump h rows fault laid is each = each

-- listings

pub listing_faulted : (r : Result Reply Want) (stop : ListingStop) (a : Answer) → IfOk r (λ reply. as_answer reply ≡ a) → ((listing : List ℕ) (h : Classes) → IsRefused h listing stop → IsListingReply listing h a) →
    IfOk r (λ reply. (listing : List ℕ) (h : Classes) → IsRefused h listing stop → IsListingReply listing h (as_answer reply))
listing_faulted (Ok reply) stop a same is = λ listing h of. subst (IsListingReply listing h) (sym same) (is listing h of)
listing_faulted (Err w) stop a same is = same

-- a run over the layout of a listing
pub foreign_ran : (r : Result Reply Want) (source : SourceText) (h : Classes) (rows : List ClassLayout) (typed : TypedProgram) (steps : ℕ) → words_of_all_classes h (places_of h rows) ≤ most_words →
    IfOk r (λ reply. (command : Command) → ((e : End) → SumsUp command e → ⊥) → IsRunAnswer command h rows typed false steps (as_answer reply)) →
    IfOk r (λ reply. (listing : List ℕ) (size : ℕ) (tree : BodyTree) → IsForeign h listing rows → source.main ≡ Some tree → Yields listing size source h typed (Foreign steps) (as_answer reply))
foreign_ran (Ok reply) source h rows typed steps few is = λ listing size tree of main. ran (Foreign steps) steps false tree rows (as_answer reply) (by_foreign steps) main (of, few) (is (Foreign steps) (λ e sums. sums))
foreign_ran (Err w) source h rows typed steps few is = is

pub foreign_machine : (r : Result Reply Want) (source : SourceText) (h : Classes) (rows : List ClassLayout) (program : TypedProgram) (steps : ℕ) → words_of_all_classes h (places_of h rows) ≤ most_words →
    IfOk r (λ reply. MatchOption (machine_of reply) ⊥ (IsMachineOf h rows program false steps)) →
    IfOk r (λ reply. (listing : List ℕ) (tree : BodyTree) → IsForeign h listing rows → source.main ≡ Some tree → HandsBy (Foreign steps) listing source h program (machine_of reply))
foreign_machine (Ok reply) source h rows program steps few machine = λ listing tree of main. hands_some (Foreign steps) listing source h program rows false steps tree (machine_of reply) (by_foreign steps) tt main (of, few) machine
foreign_machine (Err w) source h rows program steps few machine = machine

-- too many words over it
pub many_of : (h : Classes) (rows : List ClassLayout) (s : Stop) → (s ≡ stop.NoMemory → ⊥) → (s ≡ stop.NoMemory) ⊎ ((s ≡ stop.Limit L7) × (most_words < words_of_all_classes h (places_of h rows))) → (s ≡ stop.Limit L7) × (most_words < words_of_all_classes h (places_of h rows))
many_of h rows s some either = ⊎_elim (λ memory. absurd (some memory)) (λ many. many) either

pub foreign_many : (r : Result Reply Want) (source : SourceText) (h : Classes) (rows : List ClassLayout) (typed : TypedProgram) (steps : ℕ) (s : Stop) → IfOk r (λ reply. IsStopped s reply) → (s ≡ stop.NoMemory) ⊎ ((s ≡ stop.Limit L7) × (most_words < words_of_all_classes h (places_of h rows))) →
    IfOk r (λ reply. (listing : List ℕ) (size : ℕ) (tree : BodyTree) → IsForeign h listing rows → source.main ≡ Some tree → Yields listing size source h typed (Foreign steps) (as_answer reply))
foreign_many (Ok reply) source h rows typed steps s is either = λ listing size tree of main.
    let many = many_of h rows s is.0 either in
    let same : as_answer reply ≡ line_alone (Limit L7) = is.1 ∙ ap (λ (x : Stop). line_alone (status_of_stop x)) many.0 in
    subst (λ (a : Answer). Yields listing size source h typed (Foreign steps) a) (sym same) (no_layout steps tree (line_alone (Limit L7)) main (many_words rows of many.1))
foreign_many (Err w) source h rows typed steps s is either = is

pub foreign_none : (r : Result Reply Want) (source : SourceText) (h : Classes) (rows : List ClassLayout) (program : TypedProgram) (steps : ℕ) (s : Stop) → OneListings → IsHierarchy h → IfOk r (λ reply. IsStopped s reply) → IfOk r (λ reply. machine_of reply ≡ None) →
    (s ≡ stop.NoMemory) ⊎ ((s ≡ stop.Limit L7) × (most_words < words_of_all_classes h (places_of h rows))) →
    IfOk r (λ reply. (listing : List ℕ) (tree : BodyTree) → IsForeign h listing rows → source.main ≡ Some tree → HandsBy (Foreign steps) listing source h program (machine_of reply))
foreign_none (Ok reply) source h rows program steps s law keeps is none either = λ listing tree of main.
    let many = (many_of h rows s is.0 either).1 in
    subst (λ m. HandsBy (Foreign steps) listing source h program m) (sym none)
    (λ trace n t others runs bytes there laid.
    let same = ap (λ (x : List ClassLayout). words_of_all_classes h (places_of h x)) (law.layout h listing rows others keeps of laid.0) in
    let few = laid.1 in
    omega (arith, same, few, many))
foreign_none (Err w) source h rows program steps s law keeps is none either = is

-- of one listing

pub foreign_given : (r : Result Reply Want) (listing : List ℕ) (size : ℕ) (source : SourceText) (h : Classes) (rows : List ClassLayout) (typed : TypedProgram) (steps : ℕ) (tree : BodyTree) → IsForeign h listing rows → source.main ≡ Some tree →
    IfOk r (λ reply. (l : List ℕ) (n : ℕ) (t : BodyTree) → IsForeign h l rows → source.main ≡ Some t → Yields l n source h typed (Foreign steps) (as_answer reply)) → IfOk r (λ reply. Yields listing size source h typed (Foreign steps) (as_answer reply))
foreign_given (Ok reply) listing size source h rows typed steps tree of main each = each listing size tree of main
foreign_given (Err w) listing size source h rows typed steps tree of main each = each

pub foreign_handed : (r : Result Reply Want) (listing : List ℕ) (source : SourceText) (h : Classes) (rows : List ClassLayout) (program : TypedProgram) (steps : ℕ) (tree : BodyTree) → IsForeign h listing rows → source.main ≡ Some tree →
    IfOk r (λ reply. (l : List ℕ) (t : BodyTree) → IsForeign h l rows → source.main ≡ Some t → HandsBy (Foreign steps) l source h program (machine_of reply)) → IfOk r (λ reply. HandsBy (Foreign steps) listing source h program (machine_of reply))
foreign_handed (Ok reply) listing source h rows program steps tree of main each = each listing tree of main
foreign_handed (Err w) listing source h rows program steps tree of main each = each

-- a listing that is refused
refused_by : (listing : List ℕ) (h : Classes) (s : ListingStop) → (s ≡ NoMemory → ⊥) → (s ≡ NoMemory) ⊎ IsRefused h listing s → IsRefused h listing s
refused_by listing h s some either = ⊎_elim (λ memory. absurd (some memory)) (λ refused. refused) either

pub listing_yields : (r : Result Reply Want) (listing : List ℕ) (size : ℕ) (source : SourceText) (h : Classes) (typed : TypedProgram) (steps : ℕ) (tree : BodyTree) (s : ListingStop) → source.main ≡ Some tree → (s ≡ NoMemory) ⊎ IsRefused h listing s → OnOk r (s ≡ NoMemory → ⊥) →
    IfOk r (λ reply. (l : List ℕ) (k : Classes) → IsRefused k l s → IsListingReply l k (as_answer reply)) → IfOk r (λ reply. Yields listing size source h typed (Foreign steps) (as_answer reply))
listing_yields (Ok reply) listing size source h typed steps tree s main either some each = no_layout steps tree (as_answer reply) main (each listing h (refused_by listing h s some either))
listing_yields (Err w) listing size source h typed steps tree s main either some each = each

pub listing_hands : (r : Result Reply Want) (listing : List ℕ) (source : SourceText) (h : Classes) (program : TypedProgram) (steps : ℕ) (s : ListingStop) → OneListings → IsHierarchy h → (s ≡ NoMemory) ⊎ IsRefused h listing s → OnOk r (s ≡ NoMemory → ⊥) → IfOk r (λ reply. machine_of reply ≡ None) →
    IfOk r (λ reply. HandsBy (Foreign steps) listing source h program (machine_of reply))
listing_hands (Ok reply) listing source h program steps s law keeps either some none =
    subst (λ m. HandsBy (Foreign steps) listing source h program m) (sym none)
    (λ trace n tree rows runs bytes main laid. law.apart h listing rows s keeps laid.0 (refused_by listing h s some either))
listing_hands (Err w) listing source h program steps s law keeps either some none = none
