use Rattle.std.proofs.Common.{◌∙◌, ap, sym}
use Rattle.cxx_program.specs.declared.operand.Conversion.{Conversion}
use Rattle.path_model.specs.Values.{Pointer}
use Rattle.path_model.specs.Uses.{convert, cast_value}
use Rattle.path_model.specs.Rules.{refused}
use Rattle.path_refusals.proofs.Reading.{nothing}
use Rattle.path_refusals.proofs.casts.part_cast_converted.Goals as goal

pub returns-in-Number-clause-is : goal.returns-in-Number-clause-is
returns-in-Number-clause-is c = λ s p from to a b. nothing c.args.moment.now.world.h.now s ∙ ap (λ (k : Conversion). refused c.args.moment.now.world.h.now s (convert (cast_value c.args.moment.now.world.h.now s c.args.how.now (Pointer p)) k)) (sym c.in-Number.is)

pub returns-in-Bits-clause-is : goal.returns-in-Bits-clause-is
returns-in-Bits-clause-is c = λ s p from to a b. nothing c.args.moment.now.world.h.now s ∙ ap (λ (k : Conversion). refused c.args.moment.now.world.h.now s (convert (cast_value c.args.moment.now.world.h.now s c.args.how.now (Pointer p)) k)) (sym c.in-Bits.is)

pub returns-in-Null-clause-is : goal.returns-in-Null-clause-is
returns-in-Null-clause-is c = λ s p from to a b. nothing c.args.moment.now.world.h.now s ∙ ap (λ (k : Conversion). refused c.args.moment.now.world.h.now s (convert (cast_value c.args.moment.now.world.h.now s c.args.how.now (Pointer p)) k)) (sym c.in-Null.is)

pub returns-in-Same-clause-is : goal.returns-in-Same-clause-is
returns-in-Same-clause-is c = λ s p from to a b. nothing c.args.moment.now.world.h.now s ∙ ap (λ (k : Conversion). refused c.args.moment.now.world.h.now s (convert (cast_value c.args.moment.now.world.h.now s c.args.how.now (Pointer p)) k)) (sym c.in-Same.is)
