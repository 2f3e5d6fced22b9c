use Rattle.std.proofs.Common.{rules, refl}
use Rattle.cxx_syntax.specs.Statements.{a_bool, a_char, a_short, an_int, a_signed_char}
use Rattle.std.proofs.Common.{◌≡◌}
use Rattle.cxx_grammar.specs.declared.sort.Sort.TheVariants.{Unsigned}
use Rattle.cxx_grammar.proofs.Tails.{long_word}
use Rattle.cxx_syntax.proofs.scalar.scalar.Goals as goal

pub returns-in-Boolean-clause-reads : goal.returns-in-Boolean-clause-reads
returns-in-Boolean-clause-reads c = a_bool (record { front = refl; sort = search rules })

pub returns-in-Char-clause-reads : goal.returns-in-Char-clause-reads
returns-in-Char-clause-reads c = a_char (record { front = refl; sort = search rules })

pub returns-in-Short-clause-reads : goal.returns-in-Short-clause-reads
returns-in-Short-clause-reads c = a_short (record { front = refl; sort = search rules })

pub returns-in-Int-clause-reads : goal.returns-in-Int-clause-reads
returns-in-Int-clause-reads c = an_int (record { front = refl; sort = search rules })

pub returns-in_ok-_char-in-Signed-clause-reads : goal.returns-in_ok-_char-in-Signed-clause-reads
returns-in_ok-_char-in-Signed-clause-reads c = a_signed_char (record { front = refl; sort = search rules }) c.in_ok-_char-in-Signed.ensures.reads

pub long-requires : goal.long-requires
long-requires c = long_word c.args.first.sort c.requires c.in_default.not-Boolean c.in_default.not-Char c.in_default.not-Short c.in_default.not-Int c.in_default.not-Signed c.in_default.not-Unsigned

pub returns-in_default-clause-follows : goal.returns-in_default-clause-follows
returns-in_default-clause-follows c = let e = long_word c.args.first.sort c.requires c.in_default.not-Boolean c.in_default.not-Char c.in_default.not-Short c.in_default.not-Int c.in_default.not-Signed c.in_default.not-Unsigned in λ s. rw e (c.long.ensures.follows s)

pub returns-in-Unsigned-clause-follows : goal.returns-in-Unsigned-clause-follows
returns-in-Unsigned-clause-follows c = let e : c.args.first.sort ≡ Unsigned = search rules in λ s. rw e (c.unsigned.ensures.follows s)
