use Rattle.std.proofs.Common.{◌∙◌, subst, sym, ap}
use Rattle.cxx_hierarchy.specs.declared.records.ClassId.{ClassId}
use Rattle.cxx_hierarchy.specs.declared.records.ValueType.{ValueType}
use Rattle.abi_inspect.specs.Values.{IsValueOf, value_text}
use Rattle.abi_inspect.proofs.Readings.{from_pointer, to_pointer}
use Rattle.abi_inspect.proofs.values.value_read.Goals as goal

pub returns-in-Pointer-clause-fits : goal.returns-in-Pointer-clause-fits
returns-in-Pointer-clause-fits c =
    subst (λ (t : ValueType ClassId). IsValueOf c.args.width t c.pointer_read.result) (sym c.in-Pointer.is) (from_pointer c.args.width c.in-Pointer.field-0 c.pointer_read.result c.pointer_read.ensures.fits)

pub returns-in-Pointer-clause-each : goal.returns-in-Pointer-clause-each
returns-in-Pointer-clause-each c = λ v fits is.
    c.pointer_read.ensures.each c.args.width c.in-Pointer.field-0 v
    (to_pointer c.args.width c.in-Pointer.field-0 v (subst (λ (t : ValueType ClassId). IsValueOf c.args.width t v) c.in-Pointer.is fits))
    (is ∙ ap (λ (t : ValueType ClassId). value_text c.args.width t v) c.in-Pointer.is)
