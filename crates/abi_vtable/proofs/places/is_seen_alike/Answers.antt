use Rattle.std.proofs.Common.{sym, ◌∙◌}
use Rattle.abi_vtable.specs.invariants.Parts.{view_of_parts}
use Rattle.abi_vtable.proofs.Seen.{shared_alike, whole_alike}
use Rattle.abi_vtable.proofs.places.is_seen_alike.Goals as goal

pub returns-then-not-is_same_root : goal.returns-then-not-is_same_root
returns-then-not-is_same_root c = λ h view valid is. shared_alike (view_of_parts c.args.x.now) c.args.part.now.at (sym c.is_same_root.ensures ∙ c.if-not-is_same_root.true)

pub returns : goal.returns
returns c = λ h view valid is. whole_alike h (view_of_parts c.args.x.now) view c.args.part.now.at valid (sym c.is_same_root-2.ensures ∙ c.if-not-is_same_root-2.false) (sym c.len-count.ensures ∙ c.if-count-ne1.false)
