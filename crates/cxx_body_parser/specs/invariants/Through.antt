-- What stands behind a pointer and "->".
use Rattle.std.specs.Prelude.{ℕ, List, [], ◌∷◌}
use Rattle.cxx_grammar.specs.declared.sort.Sort.TheVariants.{Semicolon}
use Rattle.cxx_grammar.specs.declared.sort.Lexeme.{Lexeme}
use Rattle.cxx_grammar.specs.Table.{Use, Task, Only, end_tasks}
use Rattle.cxx_body_parser.specs.declared.place.Through.{Through}
use Rattle.cxx_body_parser.specs.declared.place.Through.TheVariants.{Place, Call}
use Rattle.cxx_syntax.specs.declared.tree.Right.{Right}
use Rattle.cxx_syntax.specs.declared.tree.Right.TheVariants as right
use Rattle.cxx_syntax.specs.Operands.{PlaceReads, CallReads}

-- place | call
abbrev pub ThroughReads : List ℕ → Through → List Lexeme → List Lexeme → Type 0
ThroughReads text (Place p) ts rest = PlaceReads text p ts rest
ThroughReads text (Call c) ts rest = CallReads text c ts rest

-- the tasks that are left behind it
abbrev pub tasks_after : Use → Through → List Task
tasks_after u (Place p) = end_tasks u
tasks_after u (Call c) = Only Semicolon ∷ []

-- as the right side of an assignment
abbrev pub right_through : Through → Right
right_through (Place p) = right.Place p
right_through (Call c) = right.Call c
