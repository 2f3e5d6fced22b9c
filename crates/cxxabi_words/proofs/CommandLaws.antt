-- Words ask for one command, or for none.
use Rattle.std.proofs.Common.{◌≡◌, ℕ, ◌≤◌, ◌⊎◌, inl, inr, List, [], ◌∷◌, Option, Some, None, refl, sym, ◌∙◌, ap, arith}
use Rattle.std.specs.Prelude.{unwrap_or}
use Rattle.clap.specs.Words.{Kinds, Text, fault_of}
use Rattle.cxxabi_words.specs.declared.command.Command.{Command}
use Rattle.cxxabi_words.specs.Commands as commands
use Rattle.cxxabi_words.specs.Commands.{Given, IsForm, IsBudget, Says, IsCommand, given, simple_command, budget, most_asked_classes}
use Rattle.cxxabi_words.specs.invariants.Asked.{asked}
use Rattle.cxxabi_words.specs.invariants.Few.{HasFew}
use Rattle.cxxabi_words.proofs.Forms.{asked_sound, asked_complete}
use Rattle.foundation.specs.Limits.{most_steps}

-- words ask for one command
pub one_command : (words : List Text) (c d : Command) → Says words c → Says words d → c ≡ d
one_command words c d one other =
    let same : Some c ≡ Some d = sym (asked_complete (given words) c one.form) ∙ asked_complete (given words) d other.form in
    ap (λ (found : Option Command). unwrap_or found c) same

empty_or_not : (kinds : Kinds) → (kinds ≡ []) ⊎ (kinds ≡ [] → ⊥)
empty_or_not [] = inl refl
empty_or_not (kind ∷ kinds) = inr (λ same. cc)

-- where what the words give is no form, they ask for no command
pub no_form : (words : List Text) → asked (given words) ≡ None → IsCommand words → ⊥
no_form words none command =
    let same : None ≡ Some command.0 = sym none ∙ asked_complete (given words) command.0 command.1.form in
    cc

-- where it is a form, they ask for its command
pub by_form : (words : List Text) (c : Command) → fault_of simple_command words ≡ [] → asked (given words) ≡ Some c → Says words c
by_form words c taken same = record { taken = taken; form = asked_sound (given words) c same }

-- words ask for a command, or they ask for none
pub some_command : (words : List Text) → IsCommand words ⊎ (IsCommand words → ⊥)
some_command words = elim (empty_or_not (fault_of simple_command words)) [
  | inl taken ↦ by_asked taken (asked (given words)) refl
  | inr refused ↦ inr (λ command. refused command.1.taken)
]
  where
    by_asked : fault_of simple_command words ≡ [] → (found : Option Command) → asked (given words) ≡ found → IsCommand words ⊎ (IsCommand words → ⊥)
    by_asked taken None same = inr (no_form words same)
    by_asked taken (Some c) same = inl (c, by_form words c taken same)

few_steps : (steps : Option Text) (n : ℕ) → IsBudget steps n → (1 ≤ n) × (n ≤ most_steps)
few_steps None n is = (omega arith, omega arith)
few_steps (Some digits) n is = (is.least, is.within)

few_by_form : (g : Given) (c : Command) → IsForm g c → HasFew c
few_by_form _ _ commands.check = tt
few_by_form _ _ commands.layout = tt
few_by_form _ _ (commands.layout_of class) = tt
few_by_form _ _ commands.tables = tt
few_by_form _ _ (commands.tables_of class) = tt
few_by_form _ _ (commands.run steps n trace is) = few_steps steps n is
few_by_form _ _ (commands.paths steps n is) = few_steps steps n is
few_by_form _ _ (commands.gen digits n is) = (is.least, is.within)
few_by_form _ _ (commands.array class digits n name is) = (is.least, is.within)
few_by_form _ _ (commands.member class member one two) = tt
few_by_form _ _ commands.inspect = tt
few_by_form _ _ (commands.foreign steps n is) = few_steps steps n is
few_by_form _ _ (commands.member_for class member whole one two three) = tt

-- a command that words ask for has such numbers
pub few_said : (words : List Text) (c : Command) → Says words c → HasFew c
few_said words c says = few_by_form (given words) c says.form
