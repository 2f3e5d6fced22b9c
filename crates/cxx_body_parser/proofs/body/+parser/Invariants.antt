use Rattle.std.proofs.Common.{◌+◌, ◌*◌, ◌≤◌, Bool, [], ◌∷◌, length}
use Rattle.cxx_body_parser.proofs.Lists.{StatementsSoFar}
use Rattle.cxx_grammar.specs.Table.{StatementsEnd}
use Rattle.cxx_grammar.specs.invariants.Run.{TasksLead}
use Rattle.cxx_body_parser.proofs.body.+parser.Given as goal

abbrev pub decreases-block : goal.decreases-block
decreases-block l = 2 * length l.rest.now

abbrev pub decreases-if_of : goal.decreases-if_of
decreases-if_of l = 2 * length l.rest.now

abbrev pub decreases-while_of : goal.decreases-while_of
decreases-while_of l = 2 * length l.rest.now

abbrev pub decreases-statement : goal.decreases-statement
decreases-statement l = 2 * length l.rest.now + 1

abbrev pub decreases-statements : goal.decreases-statements
decreases-statements l = 2 * length l.rest.now

abbrev pub invariant-statements-loop-items : goal.invariant-statements-loop-items
invariant-statements-loop-items l = record {
  shorter : length l.left ≤ length l.fn.rest;
  reads : StatementsSoFar l.text.bytes.now l.fn.rest l.left l.items.items;
  follows : (m : Bool) → TasksLead (record { blocks = l.depth; main = m }) (StatementsEnd ∷ []) l.fn.rest (record { blocks = l.depth; main = m }) (StatementsEnd ∷ []) l.left;
}

abbrev pub decreases-statements-loop-items : goal.decreases-statements-loop-items
decreases-statements-loop-items l = length l.left
