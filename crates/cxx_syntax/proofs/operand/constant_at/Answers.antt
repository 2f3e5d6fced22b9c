use Rattle.std.proofs.Common.{rules, refl}
use Rattle.cxx_grammar.proofs.Tails.{number_constant}
use Rattle.cxx_syntax.specs.Operands.{a_number, a_negative}
use Rattle.cxx_syntax.proofs.operand.constant_at.Goals as goal

pub returns-in_ok-number-in-Minus-clause-reads : goal.returns-in_ok-number-in-Minus-clause-reads
returns-in_ok-number-in-Minus-clause-reads c = a_negative (record { front = refl; sort = search rules }) c.in_ok-number-in-Minus.ensures.reads refl refl

pub returns-in_default-clause-reads : goal.returns-in_default-clause-reads
returns-in_default-clause-reads c = a_number (record { front = refl; number = number_constant c.args.first.sort c.requires c.in_default.not-Minus c.in_default.not-True c.in_default.not-False }) refl refl
