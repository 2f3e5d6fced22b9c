-- The arguments of a call, one after the other.
use Rattle.std.specs.Prelude.{Result, Ok, Err, List, [], ◌∷◌, ◌++◌}
use Rattle.cxx_program.specs.declared.operand.Argument.{Argument}
use Rattle.cxx_expression.specs.declared.faults.Fault.{Fault}

-- one more behind those so far
abbrev pub with_last : List Argument → Result Argument Fault → Result (List Argument) Fault
with_last list (Err f) = Err f
with_last list (Ok x) = Ok (list ++ x ∷ [])

abbrev pub joined : Result (List Argument) Fault → Result Argument Fault → Result (List Argument) Fault
joined (Err f) x = Err f
joined (Ok list) x = with_last list x

abbrev pub with_rest : List Argument → Result (List Argument) Fault → Result (List Argument) Fault
with_rest list (Err f) = Err f
with_rest list (Ok rest) = Ok (list ++ rest)

-- those so far and the rest, where each is typed, or the first fault that refuses one
abbrev pub all_of : Result (List Argument) Fault → Result (List Argument) Fault → Result (List Argument) Fault
all_of (Err f) rest = Err f
all_of (Ok list) rest = with_rest list rest
