use Rattle.abi_layout.proofs.algorithm.RowLemmas.{type_within}
use Rattle.abi_layout.proofs.rows.member_component.Goals as goal

pub member_parts-requires-clause-within : goal.member_parts-requires-clause-within
member_parts-requires-clause-within c = rw c.size_of_type-size.ensures (type_within c.args.rows.now c.args.known.now c.args.member.now.ty c.requires.within c.requires.earlier c.requires.known)
