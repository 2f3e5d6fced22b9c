use Rattle.std.proofs.Common.{rules, refl}
use Rattle.cxx_syntax.specs.Statements.{a_long, a_long_long}
use Rattle.cxx_syntax.proofs.scalar.long.Goals as goal

pub returns-then-is_same-clause-reads : goal.returns-then-is_same-clause-reads
returns-then-is_same-clause-reads c = a_long_long (record { front = refl; sort = c.requires }) (record { front = c.in_ok-word.ensures.ok; sort = search rules })

pub returns-clause-reads : goal.returns-clause-reads
returns-clause-reads c = a_long (record { front = refl; sort = c.requires })
