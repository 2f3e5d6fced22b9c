-- Within which bounds a program is lowered.
use Rattle.std.specs.Prelude.{ℕ, ◌+◌, ◌^◌, ◌<◌, ◌≤◌, Option, Some, None, length}
use Rattle.std.specs.List.{sum_by}
use Rattle.cxx_program.specs.declared.program.TypedBody.{TypedBody}
use Rattle.cxx_program.specs.declared.program.TypedProgram.{TypedProgram}
use Rattle.code_plans.specs.PlanSites.{HasFewLocals}

-- a block for each statement of a body, and one for its end
abbrev pub body_blocks : Option TypedBody → ℕ
body_blocks None = 0
body_blocks (Some body) = length body.statements + 1

-- the statements of all bodies, and the end of each
unfoldable pub statements_in : TypedProgram → ℕ
statements_in program = sum_by (λ (body : TypedBody). body_blocks (Some body)) program.bodies + body_blocks program.main

-- the statements that a program may have: a class's plans run those of two bodies five times in all, so that 1024 classes have fewer than 2 ^ 32 blocks
abbrev pub most_statements : ℕ
most_statements = 2 ^ 19

-- within these bounds the numbers of blocks, globals and registers fit 32 bits
pub record IsSmall (program : TypedProgram) : Type 0 where
  pub statements : statements_in program ≤ most_statements
  pub globals : length program.globals < 2 ^ 32
  pub locals : HasFewLocals program
