-- The verdict of the passes that were made.
use Rattle.std.proofs.Common.{◌≡◌, ℕ, ◌+◌, ◌^◌, ◌≤◌, ◌⊎◌, ⊎_elim, inl, inr, Option, Result, Ok, Err, List, [], length, refl, sym, subst, arith}
use Rattle.cxx_text.specs.declared.token.Token.{Token}
use Rattle.cxx_text.specs.Cover.{AreTokens}
use Rattle.cxx_grammar.specs.declared.sort.Lexeme.{Lexeme}
use Rattle.cxx_grammar.specs.Grammar.{source_form}
use Rattle.cxx_grammar.specs.Lexemes.{lexemes, source_start}
use Rattle.cxx_grammar.proofs.Lexed.{length-lexemes}
use Rattle.cxx_grammar.specs.Event.{DerivesPrefix, Event, at_start}
use Rattle.cxx_hierarchy.specs.declared.stop.Stop.{Stop}
use Rattle.cxx_hierarchy.specs.declared.stop.Stop.TheVariants as stop
use Rattle.cxx_hierarchy.specs.Classes.{Classes}
use Rattle.cxx_hierarchy.specs.ClassPass.{faults_of, StopsAt}
use Rattle.cxx_hierarchy.specs.Resolved.{resolved}
use Rattle.cxx_syntax.specs.declared.source_text.SourceText.{SourceText}
use Rattle.cxx_syntax.specs.Sources.{SourceReads}
use Rattle.cxx_hierarchy.specs.declared.stop.LimitNo.TheVariants.{L7}
use Rattle.cxx_program.specs.declared.program.TypedProgram.{TypedProgram}
use Rattle.cxx_resolve.specs.Programs.{program_of, HasFewStatements}
use Rattle.cxx_resolve.proofs.Counted.{statements_are_few}
use Rattle.cxx_resolve.specs.Stops.{Fails}
use Rattle.cxxabi_cmd.proofs.TreeCounts.{source_weight, most_weight, statements_together}
use Rattle.cxxabi_cmd.specs.Verdict.{AreLexemes, SpellsSource, StopsFirst, MeetsNoFault, HasManyWords, HasFewWords, Verdict, Stops, Accepts, by_text, by_records, by_classes, by_bodies, by_words, accepted}
use Rattle.foundation.specs.Limits.{source_limit}

-- what the reader of sources gives
abbrev pub Reads : List ℕ → List Token → Option ℕ → SourceText → Type 0
Reads text tokens bad source = (rest : List Lexeme) × SourceReads text source (lexemes text source_start tokens bad) rest × DerivesPrefix source_form at_start (lexemes text source_start tokens bad) rest

lexemes_of : (text : List ℕ) (tokens : List Token) (bad : Option ℕ) → AreTokens text tokens bad → AreLexemes text (lexemes text source_start tokens bad)
lexemes_of text tokens bad cover = record { tokens = tokens; bad = bad; cover = cover; sorted = refl }

input_of : (text : List ℕ) (tokens : List Token) (bad : Option ℕ) (source : SourceText) → AreTokens text tokens bad → Reads text tokens bad source → SpellsSource text source
input_of text tokens bad source cover reads = record {
  all = lexemes text source_start tokens bad;
  sorts = lexemes_of text tokens bad cover;
  rest = reads.0;
  derives = reads.2;
  reads = reads.1;
}

pub text_stop : (text : List ℕ) (tokens : List Token) (bad : Option ℕ) (e : Stop) → AreTokens text tokens bad → (e ≡ stop.NoMemory) ⊎ Event source_form at_start (lexemes text source_start tokens bad) e →
    (e ≡ stop.NoMemory) ⊎ Verdict text (Stops e)
text_stop text tokens bad e cover either = ⊎_elim (λ memory. inl memory)
    (λ event. inr (by_text e (record { all = lexemes text source_start tokens bad; sorts = lexemes_of text tokens bad cover; event = event }))) either

pub records_stop : (text : List ℕ) (tokens : List Token) (bad : Option ℕ) (source : SourceText) (e : Stop) → AreTokens text tokens bad → Reads text tokens bad source → StopsAt (faults_of source.records) e →
    (e ≡ stop.NoMemory) ⊎ Verdict text (Stops e)
records_stop text tokens bad source e cover reads either = ⊎_elim (λ memory. inl memory)
    (λ first. inr (by_records source e (input_of text tokens bad source cover reads) first)) either

pub classes_stop : (text : List ℕ) (tokens : List Token) (bad : Option ℕ) (source : SourceText) (h : Classes) (e : Stop) → AreTokens text tokens bad → Reads text tokens bad source →
    (faults_of source.records ≡ []) × (h ≡ resolved source.records) → (e ≡ stop.NoMemory) ⊎ StopsFirst h e → (e ≡ stop.NoMemory) ⊎ Verdict text (Stops e)
classes_stop text tokens bad source h e cover reads passes either = ⊎_elim (λ memory. inl memory)
    (λ first. inr (by_classes source e (input_of text tokens bad source cover reads) passes.0 (subst (λ (k : Classes). StopsFirst k e) passes.1 first))) either

-- the bodies of a text have few statements
pub few_statements : (text : List ℕ) (tokens : List Token) (bad : Option ℕ) (source : SourceText) → length tokens ≤ source_limit + 1 → Reads text tokens bad source → HasFewStatements (2 ^ 32) source
few_statements text tokens bad source few reads =
    statements_are_few text source (lexemes text source_start tokens bad) reads.0 (2 ^ 32) reads.1 (let size = length-lexemes text source_start tokens bad in omega (arith, few, size))

-- together they have no more than the text has lexemes
pub few_together : (text : List ℕ) (tokens : List Token) (bad : Option ℕ) (source : SourceText) → length tokens ≤ source_limit + 1 → Reads text tokens bad source → source_weight source ≤ most_weight
few_together text tokens bad source few reads = let size = length-lexemes text source_start tokens bad in omega (arith, few, size, statements_together reads.1)

-- a stop that is no want of memory is the answer
fails : (e : Stop) (answer : Result TypedProgram Stop) → Fails e answer → (e ≡ stop.NoMemory) ⊎ (answer ≡ Err e)
fails stop.NoMemory answer is = inl refl
fails (stop.Refused rule at) answer is = inr is
fails (stop.Limit limit) answer is = inr is

pub bodies_stop : (text : List ℕ) (tokens : List Token) (bad : Option ℕ) (source : SourceText) (h : Classes) (e : Stop) → AreTokens text tokens bad → Reads text tokens bad source →
    (faults_of source.records ≡ []) × (h ≡ resolved source.records) → MeetsNoFault h → Fails e (program_of h source) → (e ≡ stop.NoMemory) ⊎ Verdict text (Stops e)
bodies_stop text tokens bad source h e cover reads passes none is = ⊎_elim (λ memory. inl memory)
    (λ resolves. inr (by_bodies source e (input_of text tokens bad source cover reads) passes.0 (subst (λ (k : Classes). MeetsNoFault k) passes.1 none)
    (subst (λ (k : Classes). program_of k source ≡ Err e) passes.1 resolves)))
    (fails e (program_of h source) is)

pub words_stop : (text : List ℕ) (tokens : List Token) (bad : Option ℕ) (source : SourceText) (h : Classes) (program : TypedProgram) (e : Stop) → AreTokens text tokens bad → Reads text tokens bad source →
    (faults_of source.records ≡ []) × (h ≡ resolved source.records) → MeetsNoFault h → program_of h source ≡ Ok program → (e ≡ stop.NoMemory) ⊎ ((e ≡ stop.Limit L7) × HasManyWords h) → (e ≡ stop.NoMemory) ⊎ Verdict text (Stops e)
words_stop text tokens bad source h program e cover reads passes none resolves either = ⊎_elim (λ memory. inl memory)
    (λ many. inr (subst (λ (d : Stop). Verdict text (Stops d)) (sym many.0)
    (by_words source program (input_of text tokens bad source cover reads) passes.0 (subst (λ (k : Classes). MeetsNoFault k) passes.1 none)
    (subst (λ (k : Classes). program_of k source ≡ Ok program) passes.1 resolves) (subst (λ (k : Classes). HasManyWords k) passes.1 many.1)))) either

pub all_passed : (text : List ℕ) (tokens : List Token) (bad : Option ℕ) (source : SourceText) (h : Classes) (program : TypedProgram) → AreTokens text tokens bad → Reads text tokens bad source →
    (faults_of source.records ≡ []) × (h ≡ resolved source.records) → MeetsNoFault h → program_of h source ≡ Ok program → HasFewWords h → Verdict text (Accepts source h program)
all_passed text tokens bad source h program cover reads passes none resolves few =
    subst (λ (k : Classes). Verdict text (Accepts source k program)) (sym passes.1)
    (accepted source program (input_of text tokens bad source cover reads) passes.0 (subst (λ (k : Classes). MeetsNoFault k) passes.1 none)
    (subst (λ (k : Classes). program_of k source ≡ Ok program) passes.1 resolves) (subst (λ (k : Classes). HasFewWords k) passes.1 few))
