use Rattle.abi_image.specs.invariants.Drafts.{class_address}
use Rattle.abi_image.proofs.InfoWords.{puts_info}
use Rattle.cxx_hierarchy.specs.Classes.{class_by_number}
use Rattle.abi_image.proofs.infos.push_info.Goals as goal

pub returns : goal.returns
returns c = puts_info c.args.draft.now c.push_head.new.draft c.push_bases.new.draft (class_address c.args.infos.now) (class_by_number c.args.c) c.args.info.now c.in_ok-push_head.ensures c.in_ok-push_bases.ensures
