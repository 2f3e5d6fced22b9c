use Rattle.std.proofs.Common.{◌*◌, ◌∙◌, ap, arith, ℕ, min}
use Rattle.cxx_subobject.specs.Parts.{elements_of, parts_in}
use Rattle.cxx_subobject.proofs.CountLemmas.{member_capped, times_bounded}
use Rattle.cxx_subobject.proofs.parts.parts_of_member.Goals as goal

pub returns-clause-parts : goal.returns-clause-parts
returns-clause-parts c = λ f capped.
    ap (λ (e : ℕ). min (e * c.element_parts.result) 65537) c.elements.ensures
    ∙ member_capped (elements_of c.args.member.now.count) (parts_in f c.args.member.now.ty) c.element_parts.result c.requires.count.some (c.element_parts.ensures.parts f capped)

pub returns-clause-within : goal.returns-clause-within
returns-clause-within c = times_bounded c.elements.result c.element_parts.result (let e = c.elements.ensures in let few = c.requires.count.few in omega arith) c.element_parts.ensures.within
