-- The passes say one thing of a text.
use Rattle.std.proofs.Common.{◌≡◌, ℕ, Option, Some, None, Result, Ok, Err, List, [], refl, sym, ◌∙◌, ap, subst}
use Rattle.cxx_text.specs.declared.token.Token.{Token}
use Rattle.cxx_text.proofs.Unique.{tokens_same}
use Rattle.cxx_grammar.specs.declared.sort.Lexeme.{Lexeme}
use Rattle.cxx_grammar.specs.Grammar.{source_form}
use Rattle.cxx_grammar.specs.Lexemes.{lexemes, source_start}
use Rattle.cxx_grammar.specs.Event.{Event, at_start}
use Rattle.cxx_grammar.proofs.OneEvent.{event_same as events_same, no_source_event}
use Rattle.cxx_hierarchy.specs.declared.stop.Stop.{Stop}
use Rattle.cxx_hierarchy.specs.ClassPass.{Record, faults_of, first_of}
use Rattle.cxx_hierarchy.specs.Resolved.{resolved}
use Rattle.cxx_syntax.specs.declared.source_text.SourceText.{SourceText}
use Rattle.cxx_syntax.specs.Sources.{SourceReads}
use Rattle.cxx_syntax.specs.SameSources.{SameSource}
use Rattle.cxx_readings.proofs.SameSources.{source_same}
use Rattle.cxx_program.specs.declared.program.TypedProgram.{TypedProgram}
use Rattle.cxx_resolve.specs.Programs.{program_of}
use Rattle.cxx_resolve.proofs.OneProgram.{one_program}
use Rattle.cxxabi_cmd.specs.Verdict.{AreLexemes, SpellsSource, StopsText, StopsFirst, MeetsNoFault, HasManyWords, HasFewWords, Judgement, Stops, Accepts, Verdict, by_text, by_records, by_classes, by_bodies, by_words, accepted}
use Rattle.cxxabi_cmd.proofs.Accepting.{source_keeps}
use Rattle.cxxabi_cmd.proofs.LaidRows.{many_or_few}
use Rattle.cxxabi_cmd.proofs.OneFault.{first_same, first_or_none}

lexemes_same : (text : List ℕ) (a b : List Lexeme) → AreLexemes text a → AreLexemes text b → a ≡ b
lexemes_same text a b x y =
    let same = tokens_same text x.tokens y.tokens x.bad y.bad x.cover y.cover in
    x.sorted ∙ ap (λ (ts : List Token). lexemes text source_start ts x.bad) same.0 ∙ ap (λ (bad : Option ℕ). lexemes text source_start y.tokens bad) same.1 ∙ sym y.sorted

-- a text spells one source
pub spells_one : (text : List ℕ) (s t : SourceText) → SpellsSource text s → SpellsSource text t → SameSource s t
spells_one text s t x y =
    let same = lexemes_same text x.all y.all x.sorts y.sorts in
    (source_same text s t x.all x.rest y.rest x.reads (subst (λ (all : List Lexeme). SourceReads text t all y.rest) (sym same) y.reads)).0

-- and then no event stops its reading
no_event : (text : List ℕ) (s : SourceText) (e : Stop) → SpellsSource text s → StopsText text e → ⊥
no_event text s e x y =
    let same = lexemes_same text x.all y.all x.sorts y.sorts in
    no_source_event at_start x.all x.rest e x.derives (subst (λ (all : List Lexeme). Event source_form at_start all e) (sym same) y.event)

event_same : (text : List ℕ) (d e : Stop) → StopsText text d → StopsText text e → d ≡ e
event_same text d e x y =
    let same = lexemes_same text x.all y.all x.sorts y.sorts in
    events_same source_form at_start x.all d e x.event (subst (λ (all : List Lexeme). Event source_form at_start all e) (sym same) y.event)

-- what two judgements have in common that say the same
abbrev pub SameJudgement : Judgement → Judgement → Type 0
SameJudgement (Stops d) (Stops e) = d ≡ e
SameJudgement (Stops d) (Accepts t k q) = ⊥
SameJudgement (Accepts s h p) (Stops e) = ⊥
SameJudgement (Accepts s h p) (Accepts t k q) = SameSource s t × (h ≡ k) × (p ≡ q)

-- records that are refused do not pass
refused_passes : (a b : List Record) (e : Stop) → a ≡ b → first_of (faults_of a) ≡ Some e → faults_of b ≡ [] → ⊥
refused_passes a b e same first none = let clash : None ≡ Some e = ap first_of (sym none) ∙ ap (λ (r : List Record). first_of (faults_of r)) (sym same) ∙ first in cc

same_first : (a b : List Record) (d e : Stop) → a ≡ b → first_of (faults_of a) ≡ Some d → first_of (faults_of b) ≡ Some e → d ≡ e
same_first a b d e same one other = let both : Some d ≡ Some e = sym one ∙ ap (λ (r : List Record). first_of (faults_of r)) same ∙ other in cc

-- a first fault is met in records, or none
first_and_none : (a b : List Record) (e : Stop) → a ≡ b → StopsFirst (resolved a) e → MeetsNoFault (resolved b) → ⊥
first_and_none a b e same first nothing = first_or_none (resolved a) e first (subst (λ (r : List Record). MeetsNoFault (resolved r)) (sym same) nothing)

many_and_few : (text : List ℕ) (s t : SourceText) → SpellsSource text s → SpellsSource text t → faults_of s.records ≡ [] → HasManyWords (resolved s.records) → HasFewWords (resolved t.records) → ⊥
many_and_few text s t x y none many few =
    many_or_few (resolved s.records) (source_keeps text s x none) many (subst (λ (r : List Record). HasFewWords (resolved r)) (sym (spells_one text s t x y).records) few)

-- a text resolves to one thing
resolves_same : (text : List ℕ) (s t : SourceText) (a b : Result TypedProgram Stop) → SpellsSource text s → SpellsSource text t → program_of (resolved s.records) s ≡ a → program_of (resolved t.records) t ≡ b → a ≡ b
resolves_same text s t a b x y one other =
    let same = spells_one text s t x y in
    sym one ∙ one_program (resolved s.records) s t same ∙ ap (λ (r : List Record). program_of (resolved r) t) same.records ∙ other

stop_same : (text : List ℕ) (s t : SourceText) (d e : Stop) → SpellsSource text s → SpellsSource text t → program_of (resolved s.records) s ≡ Err d → program_of (resolved t.records) t ≡ Err e → d ≡ e
stop_same text s t d e x y one other = let both = resolves_same text s t (Err d) (Err e) x y one other in cc

typed_same : (text : List ℕ) (s t : SourceText) (p q : TypedProgram) → SpellsSource text s → SpellsSource text t → program_of (resolved s.records) s ≡ Ok p → program_of (resolved t.records) t ≡ Ok q → p ≡ q
typed_same text s t p q x y one other = let both = resolves_same text s t (Ok p) (Ok q) x y one other in cc

stop_and_typed : (text : List ℕ) (s t : SourceText) (d : Stop) (q : TypedProgram) → SpellsSource text s → SpellsSource text t → program_of (resolved s.records) s ≡ Err d → program_of (resolved t.records) t ≡ Ok q → ⊥
stop_and_typed text s t d q x y one other = let both = resolves_same text s t (Err d) (Ok q) x y one other in cc

-- the text has one verdict
pub one_verdict : (text : List ℕ) (a b : Judgement) → Verdict text a → Verdict text b → SameJudgement a b
one_verdict text _ _ (by_text d x) (by_text e y) = event_same text d e x y
one_verdict text _ _ (by_text d x) (by_records t e y first') = absurd (no_event text t d y x)
one_verdict text _ _ (by_text d x) (by_classes t e y none' first') = absurd (no_event text t d y x)
one_verdict text _ _ (by_text d x) (by_bodies t e y none' nothing' resolves') = absurd (no_event text t d y x)
one_verdict text _ _ (by_text d x) (by_words t q y none' nothing' resolves' many') = absurd (no_event text t d y x)
one_verdict text _ _ (by_text d x) (accepted t q y none' nothing' resolves' few') = absurd (no_event text t d y x)
one_verdict text _ _ (by_records s d x first) (by_text e y) = absurd (no_event text s e x y)
one_verdict text _ _ (by_records s d x first) (by_records t e y first') = same_first s.records t.records d e (spells_one text s t x y).records first first'
one_verdict text _ _ (by_records s d x first) (by_classes t e y none' first') = absurd (refused_passes s.records t.records d (spells_one text s t x y).records first none')
one_verdict text _ _ (by_records s d x first) (by_bodies t e y none' nothing' resolves') = absurd (refused_passes s.records t.records d (spells_one text s t x y).records first none')
one_verdict text _ _ (by_records s d x first) (by_words t q y none' nothing' resolves' many') = absurd (refused_passes s.records t.records d (spells_one text s t x y).records first none')
one_verdict text _ _ (by_records s d x first) (accepted t q y none' nothing' resolves' few') = absurd (refused_passes s.records t.records d (spells_one text s t x y).records first none')
one_verdict text _ _ (by_classes s d x none first) (by_text e y) = absurd (no_event text s e x y)
one_verdict text _ _ (by_classes s d x none first) (by_records t e y first') = absurd (refused_passes t.records s.records e (sym (spells_one text s t x y).records) first' none)
one_verdict text _ _ (by_classes s d x none first) (by_classes t e y none' first') =
    first_same (resolved s.records) d e first (subst (λ (r : List Record). StopsFirst (resolved r) e) (sym (spells_one text s t x y).records) first')
one_verdict text _ _ (by_classes s d x none first) (by_bodies t e y none' nothing' resolves') = absurd (first_and_none s.records t.records d (spells_one text s t x y).records first nothing')
one_verdict text _ _ (by_classes s d x none first) (by_words t q y none' nothing' resolves' many') = absurd (first_and_none s.records t.records d (spells_one text s t x y).records first nothing')
one_verdict text _ _ (by_classes s d x none first) (accepted t q y none' nothing' resolves' few') = absurd (first_and_none s.records t.records d (spells_one text s t x y).records first nothing')
one_verdict text _ _ (by_bodies s d x none nothing resolves) (by_text e y) = absurd (no_event text s e x y)
one_verdict text _ _ (by_bodies s d x none nothing resolves) (by_records t e y first') = absurd (refused_passes t.records s.records e (sym (spells_one text s t x y).records) first' none)
one_verdict text _ _ (by_bodies s d x none nothing resolves) (by_classes t e y none' first') = absurd (first_and_none t.records s.records e (sym (spells_one text s t x y).records) first' nothing)
one_verdict text _ _ (by_bodies s d x none nothing resolves) (by_bodies t e y none' nothing' resolves') = stop_same text s t d e x y resolves resolves'
one_verdict text _ _ (by_bodies s d x none nothing resolves) (by_words t q y none' nothing' resolves' many') = absurd (stop_and_typed text s t d q x y resolves resolves')
one_verdict text _ _ (by_bodies s d x none nothing resolves) (accepted t q y none' nothing' resolves' few') = absurd (stop_and_typed text s t d q x y resolves resolves')
one_verdict text _ _ (by_words s p x none nothing resolves many) (by_text e y) = absurd (no_event text s e x y)
one_verdict text _ _ (by_words s p x none nothing resolves many) (by_records t e y first') = absurd (refused_passes t.records s.records e (sym (spells_one text s t x y).records) first' none)
one_verdict text _ _ (by_words s p x none nothing resolves many) (by_classes t e y none' first') = absurd (first_and_none t.records s.records e (sym (spells_one text s t x y).records) first' nothing)
one_verdict text _ _ (by_words s p x none nothing resolves many) (by_bodies t e y none' nothing' resolves') = absurd (stop_and_typed text t s e p y x resolves' resolves)
one_verdict text _ _ (by_words s p x none nothing resolves many) (by_words t q y none' nothing' resolves' many') = refl
one_verdict text _ _ (by_words s p x none nothing resolves many) (accepted t q y none' nothing' resolves' few') = absurd (many_and_few text s t x y none many few')
one_verdict text _ _ (accepted s p x none nothing resolves few) (by_text e y) = absurd (no_event text s e x y)
one_verdict text _ _ (accepted s p x none nothing resolves few) (by_records t e y first') = absurd (refused_passes t.records s.records e (sym (spells_one text s t x y).records) first' none)
one_verdict text _ _ (accepted s p x none nothing resolves few) (by_classes t e y none' first') = absurd (first_and_none t.records s.records e (sym (spells_one text s t x y).records) first' nothing)
one_verdict text _ _ (accepted s p x none nothing resolves few) (by_bodies t e y none' nothing' resolves') = absurd (stop_and_typed text t s e p y x resolves' resolves)
one_verdict text _ _ (accepted s p x none nothing resolves few) (by_words t q y none' nothing' resolves' many') = absurd (many_and_few text t s y x none' many' few)
one_verdict text _ _ (accepted s p x none nothing resolves few) (accepted t q y none' nothing' resolves' few') =
    let same = spells_one text s t x y in (same, ap (λ (r : List Record). resolved r) same.records, typed_same text s t p q x y resolves resolves')
