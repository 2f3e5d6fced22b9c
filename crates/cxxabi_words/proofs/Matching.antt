-- The matches that `clap` gives of the simple command, and what they say.
use Rattle.std.proofs.Common.{◌≡◌, true, false, Bool, List, [], ◌∷◌, Option, Some, None, inl, inr, codes, refl, sym, ◌∙◌, ap, subst}
use Rattle.std.specs.Prelude.{unwrap_or}
use Rattle.std.specs.Str.{bytes_eq}
use Rattle.std.specs.Str.Parse.{ParsesBool}
use Rattle.std.specs.declared.str.ParseBoolError.{ParseBoolError}
use Rattle.std.proofs.lemmas.Slice.Eq.{bytes_eq-Decides}
use Rattle.clap.specs.Words.{App, HasKind, Kinds, Row, Text, is_simple, is_simple_and_free, kind_of, matches_of}
use Rattle.clap.specs.Matches.{ReadsOne}
use Rattle.clap.specs.declared.error.Error.{Error}
use Rattle.clap.specs.declared.error.ErrorKind.TheVariants.{OutOfMemory}
use Rattle.foundation.proofs.Truth.{is_false}
use Rattle.cxxabi_words.specs.Commands.{is_true, simple_command}

simple_and_free : is_simple_and_free simple_command ≡ true
unfolding simple_command
simple_and_free = refl

simple : is_simple simple_command ≡ true
unfolding simple_command
simple = refl

-- what holds of a simple command holds of this one
pub over_simple : (app : App) (P : App → Type 0) → app ≡ simple_command → (is_simple_and_free app ≡ true → P app) → P simple_command
over_simple app P is has = subst P is (has (ap is_simple_and_free is ∙ simple_and_free))

-- the rows of the matches
pub rows_over : (app : App) (words : List Text) (rows : List Row) (Q : Type 0) → app ≡ simple_command → (is_simple app ≡ true → (rows ≡ matches_of app words) × Q) → rows ≡ matches_of simple_command words
rows_over app words rows Q is has = (has (ap is_simple is ∙ simple)).0 ∙ ap (λ a. matches_of a words) is

-- an error for another cause than memory comes of words that are refused
pub refused : (kinds : Kinds) (e : Error) → HasKind kinds e → (kind_of e ≡ OutOfMemory → ⊥) → kinds ≡ [] → ⊥
refused [] e (inl memory) other same = other memory
refused [] e (inr among) other same = among
refused (kind ∷ kinds) e has other same = cc

-- the value of a flag, as a getter reads it
pub flag_read : (value : Option Text) (read : Option Bool) → (value ≡ None → read ≡ None) → ((t : Text) → value ≡ Some t → ReadsOne {T = Bool} {E = ParseBoolError} (ParsesBool {E = ParseBoolError}) t read) → unwrap_or read false ≡ is_true value
flag_read None read none some = rw (none refl) refl
flag_read (Some t) read none some = by_read read (some t refl)
  where
    by_read : (r : Option Bool) → ReadsOne {T = Bool} {E = ParseBoolError} (ParsesBool {E = ParseBoolError}) t r → unwrap_or r false ≡ bytes_eq t (codes "true")
    by_read None (e, other) = sym (is_false (bytes_eq t (codes "true")) (λ same. other.0 ((bytes_eq-Decides t (codes "true")).0 same)))
    by_read (Some true) is = rw is refl
    by_read (Some false) is = rw is refl
