use Rattle.std.proofs.Common.{◌∙◌, ap}
use Rattle.cxx_overrider.specs.invariants.Numbers.{number_of}
use Rattle.abi_slots.proofs.Numbered.{numbers_same}
use Rattle.abi_slots.proofs.functions.is_same_name.Goals as goal

pub returns-in-Some-number_of : goal.returns-in-Some-number_of
returns-in-Some-number_of c = λ h is. numbers_same h c.args.numbering.now.rows.items c.args.numbering.now.count c.args.f c.args.g c.in-Some.n c.in-Some-number_of.m is
    (c.in-Some.ensures ∙ ap (λ rows. number_of rows c.args.f) c.deref.ensures.value)
    (c.in-Some-number_of.ensures ∙ ap (λ rows. number_of rows c.args.g) c.deref-in-Some.ensures.value)
