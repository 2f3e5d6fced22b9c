use Rattle.path_values.proofs.Meaning.{same_meant}
use Rattle.path_values.proofs.calculations.is_same.Goals as goal

pub returns-in-Pointer-Pointer : goal.returns-in-Pointer-Pointer
returns-in-Pointer-Pointer c = λ h classes v w keeps a b. same_meant h classes keeps c.args.a c.args.b c.in-Pointer-Pointer.n c.in-Pointer-Pointer.m c.in-Pointer-Pointer.is-0 c.in-Pointer-Pointer.is-1 v w a b
