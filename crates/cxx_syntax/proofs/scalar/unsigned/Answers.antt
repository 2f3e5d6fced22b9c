use Rattle.std.proofs.Common.{rules, refl, ◌∷◌, []}
use Rattle.cxx_syntax.specs.Statements.{an_unsigned_char, an_unsigned_short, an_unsigned_int, an_unsigned}
use Rattle.cxx_grammar.specs.declared.sort.Sort.TheVariants.{Long}
use Rattle.cxx_grammar.specs.Table.{UnsignedName, LongName, AName}
use Rattle.cxx_grammar.proofs.Tails.{unsigned_alone}
use Rattle.cxx_grammar.proofs.Steps.{same_answer, takes}
use Rattle.cxx_syntax.proofs.scalar.unsigned.Goals as goal

pub returns-in-Char-clause-reads : goal.returns-in-Char-clause-reads
returns-in-Char-clause-reads c = an_unsigned_char (record { front = refl; sort = c.requires }) (record { front = c.in_ok-word.ensures.ok; sort = search rules })

pub returns-in-Short-clause-reads : goal.returns-in-Short-clause-reads
returns-in-Short-clause-reads c = an_unsigned_short (record { front = refl; sort = c.requires }) (record { front = c.in_ok-word.ensures.ok; sort = search rules })

pub returns-in-Int-clause-reads : goal.returns-in-Int-clause-reads
returns-in-Int-clause-reads c = an_unsigned_int (record { front = refl; sort = c.requires }) (record { front = c.in_ok-word.ensures.ok; sort = search rules })

pub returns-in-Long-clause-reads : goal.returns-in-Long-clause-reads
returns-in-Long-clause-reads c = rw c.in_ok-word.ensures.ok c.unsigned_long.ensures.reads

pub returns-in-Long-clause-follows : goal.returns-in-Long-clause-follows
returns-in-Long-clause-follows c = λ s. same_answer (λ x. x.1.now) s s (UnsignedName ∷ []) (LongName ∷ []) (AName ∷ []) c.args.rest.now c.in_ok-word.after.now _ (λ k. takes _ UnsignedName Long (LongName ∷ []) _ _ s k c.in_ok-word.ensures.ok (search rules) refl refl) (c.unsigned_long.ensures.follows s)

pub returns-in_default-clause-reads : goal.returns-in_default-clause-reads
returns-in_default-clause-reads c = an_unsigned (record { front = refl; sort = c.requires })

pub returns-in_default-clause-follows : goal.returns-in_default-clause-follows
returns-in_default-clause-follows c = λ s k. unsigned_alone _ _ _ s k c.in_ok-word.ensures.ok c.in_default.not-Char c.in_default.not-Short c.in_default.not-Int c.in_default.not-Long
