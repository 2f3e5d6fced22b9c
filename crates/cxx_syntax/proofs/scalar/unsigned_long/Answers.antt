use Rattle.std.proofs.Common.{rules, refl}
use Rattle.cxx_syntax.specs.Statements.{an_unsigned_long, an_unsigned_long_long}
use Rattle.cxx_syntax.proofs.scalar.unsigned_long.Goals as goal

pub returns-then-is_same-clause-reads : goal.returns-then-is_same-clause-reads
returns-then-is_same-clause-reads c = an_unsigned_long_long (record { front = refl; sort = c.requires.first }) (record { front = refl; sort = c.requires.second }) (record { front = c.in_ok-word.ensures.ok; sort = search rules })

pub returns-clause-reads : goal.returns-clause-reads
returns-clause-reads c = an_unsigned_long (record { front = refl; sort = c.requires.first }) (record { front = refl; sort = c.requires.second })
