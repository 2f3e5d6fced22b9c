use Rattle.std.proofs.Common.{◌≡◌, ◌*◌, Some, length, subst, sym}
use Rattle.std.specs.List.{slice_get}
use Rattle.abi_slots.specs.Images.{info_bases}
use Rattle.abi_image.specs.Conditions.{AreKnownBases}
use Rattle.abi_image.specs.invariants.Drafts.{HasBasesAt, Puts, class_address}
use Rattle.abi_image.proofs.infos.push_bases.Goals as goal

pub push_base_list-requires-in-Single : goal.push_base_list-requires-in-Single
push_base_list-requires-in-Single c = λ i base e. subst (λ t. AreKnownBases (length c.args.infos.now) (info_bases t)) c.in-Single.is c.requires i base e

pub push_base_list-requires-in-Many : goal.push_base_list-requires-in-Many
push_base_list-requires-in-Many c = λ i base e. subst (λ t. AreKnownBases (length c.args.infos.now) (info_bases t)) c.in-Many.is c.requires i base (subst (λ l. slice_get l i ≡ Some base) c.as_slice.ensures e)

pub returns-in_ok-push_base_list-in-Single : goal.returns-in_ok-push_base_list-in-Single
returns-in_ok-push_base_list-in-Single c = subst (λ t. Puts c.args.draft.now c.push_base_list-in-Single.new.draft (2 * length (info_bases t)) (λ image at. HasBasesAt image (class_address c.args.infos.now) (info_bases t) at)) (sym c.in-Single.is) c.in_ok-push_base_list-in-Single.ensures

pub returns-in_ok-push_base_list-in-Many : goal.returns-in_ok-push_base_list-in-Many
returns-in_ok-push_base_list-in-Many c =
    let all = subst (λ l. Puts c.args.draft.now c.push_base_list-in-Many.new.draft (2 * length l) (λ image at. HasBasesAt image (class_address c.args.infos.now) l at)) c.as_slice.ensures c.in_ok-push_base_list-in-Many.ensures in
    subst (λ t. Puts c.args.draft.now c.push_base_list-in-Many.new.draft (2 * length (info_bases t)) (λ image at. HasBasesAt image (class_address c.args.infos.now) (info_bases t) at)) (sym c.in-Many.is) all
