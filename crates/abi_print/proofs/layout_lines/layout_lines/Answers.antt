use Rattle.std.proofs.Common.{List, [], ◌∷◌, subst}
use Rattle.std.specs.List.{Contains}
use Rattle.cxx_subobject.specs.declared.Subobject.{Subobject}
use Rattle.foundation.proofs.Places.{contains_later}
use Rattle.abi_print.specs.LayoutTexts.{proper}
use Rattle.abi_print.proofs.layout_lines.layout_lines.Goals as goal

in_proper : (list : List Subobject) (s : Subobject) → Contains (proper list) s → Contains list s
in_proper [] s has = has
in_proper (x ∷ list) s has = contains_later x list s has

pub append_bases-requires-clause-subobjects : goal.append_bases-requires-clause-subobjects
append_bases-requires-clause-subobjects g c = λ s has. c.requires.subobjects s (in_proper c.args.list.now s (subst (λ (xs : List Subobject). Contains xs s) c.proper_of.ensures has))
