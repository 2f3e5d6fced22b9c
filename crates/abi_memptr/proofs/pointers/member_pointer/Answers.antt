use Rattle.std.proofs.Common.{rules, ◌≡◌, ◌∙◌, None, sym, subst}
use Rattle.abi_memptr.specs.Pointers.{IsDataIn, IsFunctionIn}
use Rattle.cxx_overrider.specs.Virtuals.{function_at}
use Rattle.abi_memptr.proofs.Naming.{field_value, function_value}
use Rattle.abi_memptr.proofs.pointers.member_pointer.Goals as goal

pub returns-in-Some-clause-value : goal.returns-in-Some-clause-value
returns-in-Some-clause-value c =
    let none : c.width_of.result ≡ None = search rules in
    subst (IsDataIn c.args.h.now c.args.k c.args.k c.in-Some.m) (sym c.in_ok-whole.ensures)
    (field_value c.args.h.now c.args.k c.args.name.now c.class-class.result.now c.as_slice-members.result.now c.in-Some.m c.requires.known c.class-class.ensures c.as_slice-members.ensures c.in-Some.ensures (sym c.width_of.ensures ∙ none))

pub returns-in-Some-first_function-clause-value : goal.returns-in-Some-first_function-clause-value
returns-in-Some-first_function-clause-value c =
    subst (IsFunctionIn c.args.h.now c.args.k (function_at c.args.k c.in-Some-first_function.i)) (sym c.in_ok-whole-2.ensures)
    (function_value c.args.h.now c.args.k c.args.name.now c.class-class.result.now c.as_slice-functions.result.now c.in-Some-first_function.i c.requires.known c.class-class.ensures c.as_slice-functions.ensures c.in-Some-first_function.ensures)
