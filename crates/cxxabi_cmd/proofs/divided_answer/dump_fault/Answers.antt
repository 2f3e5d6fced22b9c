use Rattle.std.proofs.Common.{subst}
use Rattle.abi_sound.specs.Places.{places_of}
use Rattle.abi_inspect.specs.Faults.{IsDumpFault}
use Rattle.cxxabi_cmd.specs.declared.status.InputRule.TheVariants.{I1, I2}
use Rattle.cxxabi_cmd.specs.declared.status.Status.TheVariants.{BadInput}
use Rattle.cxxabi_cmd.specs.Answers.{line_alone}
use Rattle.cxxabi_cmd.specs.Divided.{names_no_class, no_dump}
use Rattle.cxxabi_cmd.proofs.DividedAnswers.{dump_faulted}
use Rattle.cxxabi_cmd.proofs.divided_answer.dump_fault.Goals as goal

pub returns-in-UnknownClass-clause-reply : goal.returns-in-UnknownClass-clause-reply
returns-in-UnknownClass-clause-reply c =
    dump_faulted c.line_alone.result c.args.fault (line_alone (BadInput I1 1)) c.line_alone.ensures.answer
    (λ dump h rows laid of. names_no_class (subst (IsDumpFault h (places_of h rows) dump) c.in-UnknownClass.is of))

pub returns-in-Form-clause-reply : goal.returns-in-Form-clause-reply
returns-in-Form-clause-reply c =
    dump_faulted c.line_alone-in-Form.result c.args.fault (line_alone (BadInput I2 c.in-Form.line)) c.line_alone-in-Form.ensures.answer
    (λ dump h rows laid of. no_dump rows c.in-Form.line laid (subst (IsDumpFault h (places_of h rows) dump) c.in-Form.is of))
