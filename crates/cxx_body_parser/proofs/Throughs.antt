-- What stands behind a pointer, as a right side.
use Rattle.std.proofs.Common.{◌≡◌, ℕ, List, [], ◌∷◌, refl}
use Rattle.cxx_grammar.specs.declared.sort.Sort.TheVariants.{Semicolon}
use Rattle.cxx_grammar.specs.declared.sort.Lexeme.{Lexeme}
use Rattle.cxx_grammar.specs.Table.{Read, Only}
use Rattle.cxx_body_parser.specs.declared.place.Through.{Through}
use Rattle.cxx_body_parser.specs.declared.place.Through.TheVariants.{Place, Call}
use Rattle.cxx_syntax.specs.Operands.{RightReads, a_place_read, a_call_read}
use Rattle.cxx_body_parser.specs.invariants.Through.{ThroughReads, tasks_after, right_through}

pub through_right : (text : List ℕ) (t : Through) (ts rest : List Lexeme) → ThroughReads text t ts rest → RightReads text (right_through t) ts rest
through_right text (Place p) ts rest h = a_place_read h
through_right text (Call c) ts rest h = a_call_read h

pub tasks_read : (t : Through) → tasks_after Read t ≡ Only Semicolon ∷ []
tasks_read (Place p) = refl
tasks_read (Call c) = refl
