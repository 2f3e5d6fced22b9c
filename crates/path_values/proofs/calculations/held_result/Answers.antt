use Rattle.std.proofs.Common.{sym, ◌∙◌}
use Rattle.path_values.proofs.Meaning.{means_number}
use Rattle.path_values.proofs.calculations.held_result.Goals as goal

pub returns-else-overflows : goal.returns-else-overflows
returns-else-overflows c = λ h classes v w a b. record {
  first = c.in-Number-Number.field-0-0;
  second = c.in-Number-Number.field-0-1;
  first_is = means_number h classes c.args.a c.in-Number-Number.field-0-0 c.in-Number-Number.is-0 v a;
  second_is = means_number h classes c.args.b c.in-Number-Number.field-0-1 c.in-Number-Number.is-1 w b;
  fits = sym (c.overflows.ensures h classes v w a b) ∙ c.if-overflows.false;
  means = c.calculate.ensures h classes v w a b;
}
