-- The loop over the classes that are listed.
use Rattle.std.proofs.Common.{◌≡◌, ℕ, zero, suc, ◌+◌, ◌<◌, ◌≤◌, Option, Some, None, Result, Ok, Err, List, [], ◌∷◌, ◌++◌, length, drop, get_or, sym, ◌∙◌, ap, subst, arith, append_assoc, append-nil, length-append, add-one}
use Rattle.std.specs.Prelude.{IfOk, MatchOption, All, Contains, slice_get}
use Rattle.std.proofs.lemmas.List.Elements.{recursion_from_All, All-from_recursion}
use Rattle.std.proofs.lemmas.List.{drop_all}
use Rattle.foundation.proofs.Places.{any_default}
use Rattle.foundation.specs.declared.memory.NoMemory.{NoMemory as Want}
use Rattle.cxx_hierarchy.specs.declared.records.ClassId.{ClassId}
use Rattle.cxx_hierarchy.specs.declared.stop.LimitNo.TheVariants.{L9}
use Rattle.cxx_hierarchy.specs.declared.stop.Rule.TheVariants.{UnknownName}
use Rattle.cxx_hierarchy.specs.Classes.{Classes, class_names, class_by_number}
use Rattle.abi_sound.specs.declared.class_layout.ClassLayout.{ClassLayout}
use Rattle.abi_slots.proofs.Loops.{rest_is}
use Rattle.cxxabi_cmd.specs.declared.listing.Listing.{Listing}
use Rattle.cxxabi_cmd.specs.declared.reply.Reply.{Reply}
use Rattle.cxxabi_cmd.specs.declared.status.Status.TheVariants.{Limit, Refused}
use Rattle.cxxabi_cmd.specs.Output.{Answer, AreTexts, no_texts, more_texts, Lists, whole, too_much, line_alone, text_answer, first_classes}
use Rattle.cxxabi_cmd.specs.invariants.Listings.{IsReady, IsAppended, AreListedTexts, IsTooMuch, ListsName, is_unknown, is_class}
use Rattle.cxxabi_cmd.specs.invariants.Replies.{as_answer}
use Rattle.cxxabi_cmd.specs.declared.verdict.Accepted.{Accepted}
use Rattle.cxxabi_cmd.proofs.LaidRows.{is_laid}
use Rattle.cxxabi_cmd.proofs.Listed.{SomeTables, AreKnown, some_texts, first_known, named_below}

-- behind the text so far, the texts of the classes that are left complete those of all
abbrev pub Completes : Classes → List ClassLayout → Listing → (all left : List ClassId) → List ℕ → Type 0
Completes h rows listing all left text = (rest : List ℕ) → AreTexts h rows listing left rest → AreTexts h rows listing all (text ++ rest)

pub completes_first : (h : Classes) (rows : List ClassLayout) (listing : Listing) (classes : List ClassId) (text : List ℕ) → text ≡ [] → Completes h rows listing classes classes text
completes_first h rows listing classes text empty = λ rest are. subst (λ (t : List ℕ). AreTexts h rows listing classes (t ++ rest)) (sym empty) are

pub completes_more : (h : Classes) (rows : List ClassLayout) (listing : Listing) (classes : List ClassId) (i : ℕ) (d : ClassId) (before after : List ℕ) → i < length classes →
    IsAppended h rows listing (get_or classes i d) before after → Completes h rows listing classes (drop i classes) before → Completes h rows listing classes (drop (i + 1) classes) after
completes_more h rows listing classes i d before after lt put so = λ rest are.
    let c = get_or classes i d in
    subst (λ (t : List ℕ). AreTexts h rows listing classes t)
    (sym (append_assoc before put.piece rest) ∙ ap (λ (t : List ℕ). t ++ rest) (sym put.joined))
    (so (put.piece ++ rest)
    (subst (λ (left : List ClassId). AreTexts h rows listing left (put.piece ++ rest)) (sym (rest_is classes i c lt (any_default classes i d c lt))) (more_texts c (drop (i + 1) classes) put.piece rest put.is are)))

pub completes_all : (h : Classes) (rows : List ClassLayout) (listing : Listing) (classes : List ClassId) (i : ℕ) (text : List ℕ) → length classes ≤ i → Completes h rows listing classes (drop i classes) text → AreTexts h rows listing classes text
completes_all h rows listing classes i text le so =
    subst (λ (t : List ℕ). AreTexts h rows listing classes t) (append-nil text)
    (so [] (subst (λ (left : List ClassId). AreTexts h rows listing left []) (sym (drop_all i classes le)) no_texts))

dropped_known : (h : Classes) (i : ℕ) (classes : List ClassId) → AreKnown h classes → AreKnown h (drop i classes)
dropped_known h zero classes known = known
dropped_known h (suc i) [] known = tt
dropped_known h (suc i) (c ∷ classes) known = dropped_known h i classes known.1

-- a text that passes the limit before all classes are listed
pub passes_all : SomeTables → (accepted : Accepted) (listing : Listing) (classes : List ClassId) (i : ℕ) (text : List ℕ) → IsReady accepted → All (λ (c : ClassId). c.0 < length accepted.hierarchy) classes →
    Completes accepted.hierarchy accepted.layout listing classes (drop i classes) text → 16777216 < length text → IsTooMuch accepted.hierarchy accepted.layout listing classes
passes_all law accepted listing classes i text ready known so past =
    let h = accepted.hierarchy in
    let all = recursion_from_All (λ (c : ClassId). c.0 < length h) classes known in
    let rest = some_texts law h accepted.layout listing (drop i classes) ready.slots.keeps ready.overriders.fine ready.layout.sound (dropped_known h i classes all) in
    let longer = length-append text rest.0 in
    record { text = text ++ rest.0; are = so rest.0 rest.1; past = omega arith }

-- what is answered by what was listed
lists_whole : (accepted : Accepted) (listing : Listing) (classes : List ClassId) (text : List ℕ) → IsReady accepted → AreListedTexts accepted.hierarchy accepted.layout listing classes text → Lists accepted.hierarchy listing classes (text_answer text)
lists_whole accepted listing classes text ready is = whole accepted.layout text (is_laid accepted.hierarchy accepted.layout ready.layout) is.are is.short

lists_none : (accepted : Accepted) (listing : Listing) (classes : List ClassId) → IsReady accepted → IsTooMuch accepted.hierarchy accepted.layout listing classes → Lists accepted.hierarchy listing classes (line_alone (Limit L9))
lists_none accepted listing classes ready is = too_much accepted.layout is.text (is_laid accepted.hierarchy accepted.layout ready.layout) is.are is.past

lists_limit : (r : Result Reply Want) (accepted : Accepted) (listing : Listing) (classes : List ClassId) → IsReady accepted → IsTooMuch accepted.hierarchy accepted.layout listing classes → IfOk r (λ reply. as_answer reply ≡ line_alone (Limit L9)) →
    IfOk r (λ reply. Lists accepted.hierarchy listing classes (as_answer reply))
lists_limit (Ok reply) accepted listing classes ready is same = subst (λ (a : Answer). Lists accepted.hierarchy listing classes a) (sym same) (lists_none accepted listing classes ready is)
lists_limit (Err w) accepted listing classes ready is same = tt

-- what was listed, or that it passes the limit
abbrev pub Found : {X : Type 0} → Option X → (X → List ℕ) → Accepted → Listing → List ClassId → Type 0
Found found items accepted listing classes = MatchOption found (IsTooMuch accepted.hierarchy accepted.layout listing classes) (λ x. AreListedTexts accepted.hierarchy accepted.layout listing classes (items x))

pub found_whole : {X : Type 0} (found : Option X) (items : X → List ℕ) (x : X) (accepted : Accepted) (listing : Listing) (classes : List ClassId) → IsReady accepted → found ≡ Some x → Found found items accepted listing classes → Lists accepted.hierarchy listing classes (text_answer (items x))
found_whole None items x accepted listing classes ready same is = absurd (cc)
found_whole (Some y) items x accepted listing classes ready same is =
    let one : y ≡ x = cc in
    lists_whole accepted listing classes (items x) ready (subst (λ z. AreListedTexts accepted.hierarchy accepted.layout listing classes (items z)) one is)

pub found_none : {X : Type 0} (found : Option X) (items : X → List ℕ) (r : Result Reply Want) (accepted : Accepted) (listing : Listing) (classes : List ClassId) → IsReady accepted → found ≡ None → Found found items accepted listing classes → IfOk r (λ reply. as_answer reply ≡ line_alone (Limit L9)) →
    IfOk r (λ reply. Lists accepted.hierarchy listing classes (as_answer reply))
found_none None items r accepted listing classes ready same is alone = lists_limit r accepted listing classes ready is alone
found_none (Some y) items r accepted listing classes ready same is alone = absurd (cc)

-- one class more of all
pub first_more : (n : ℕ) (list : List ClassId) → list ≡ first_classes n → list ++ class_by_number n ∷ [] ≡ first_classes (n + 1)
first_more n list so = ap (λ (l : List ClassId). l ++ class_by_number n ∷ []) so ∙ ap first_classes (sym (add-one n))

pub all_known : (h : Classes) (classes : List ClassId) → classes ≡ first_classes (length h) → All (λ (c : ClassId). c.0 < length h) classes
all_known h classes so =
    subst (λ (l : List ClassId). All (λ (c : ClassId). c.0 < length h) l) (sym so)
    (All-from_recursion (λ (c : ClassId). c.0 < length h) (first_classes (length h)) (first_known h (length h) (omega arith)))

pub one_known : (h : Classes) (classes : List ClassId) (c : ClassId) (name : List ℕ) → classes ≡ c ∷ [] → slice_get (class_names h) c.0 ≡ Some name → All (λ (d : ClassId). d.0 < length h) classes
one_known h classes c name so at =
    subst (λ (l : List ClassId). All (λ (d : ClassId). d.0 < length h) l) (sym so)
    (All-from_recursion (λ (d : ClassId). d.0 < length h) (c ∷ []) (named_below h c.0 name at, tt))

-- the class of a name, or that there is none
pub name_unknown : (r : Result Reply Want) (size : ℕ) (h : Classes) (listing : Listing) (name : List ℕ) → (Contains (class_names h) name → ⊥) → IfOk r (λ reply. as_answer reply ≡ line_alone (Refused UnknownName size)) → IfOk r (λ reply. ListsName size h listing name (as_answer reply))
name_unknown (Ok reply) size h listing name none same = subst (λ (a : Answer). ListsName size h listing name a) (sym same) (is_unknown none)
name_unknown (Err w) size h listing name none same = tt

pub name_listed : (r : Result Reply Want) (size : ℕ) (h : Classes) (listing : Listing) (name : List ℕ) (c : ClassId) → slice_get (class_names h) c.0 ≡ Some name → IfOk r (λ reply. Lists h listing (c ∷ []) (as_answer reply)) → IfOk r (λ reply. ListsName size h listing name (as_answer reply))
name_listed (Ok reply) size h listing name c at is = is_class c (as_answer reply) at is
name_listed (Err w) size h listing name c at is = tt
