use Rattle.std.proofs.Common.{◌≡◌, ◌+◌, ◌*◌, ◌<◌, ◌^◌, length, rules, arith, ◌∙◌, ap, refl}
use Rattle.abi_image.specs.declared.TheConstants.{BASE}
use Rattle.abi_image.specs.invariants.Drafts.{first_base_address}
use Rattle.abi_image.proofs.InfoWords.{puts_head}
use Rattle.cxx_hierarchy.specs.Classes.{class_by_number}
use Rattle.abi_image.proofs.infos.push_head.Goals as goal

pub returns : goal.returns
returns c =
    let place : c.behind-at.result ≡ BASE + 8 * length c.args.draft.now.words.items = search rules in
    let first : c.first_base-first.result ≡ first_base_address (BASE + 8 * length c.args.draft.now.words.items) c.base_count-bases.result = c.first_base-first.ensures ∙ ap (λ n. first_base_address n c.base_count-bases.result) place in
    let class_fits : c.args.c < 2 ^ 32 = search rules in
    let flags_fit : c.info_flags.result < 2 ^ 32 = search rules in
    let count = c.base_count-bases.ensures in
    let few = c.requires.few in
    let count_fits : c.base_count-bases.result < 2 ^ 32 = omega (arith, count, few) in
    puts_head c.args.draft.now c.push.new.self c.push-2.new.self c.push-3.new.self c.push-4.new.self (class_by_number c.args.c) c.args.info.now c.args.c c.info_flags.result c.base_count-bases.result c.first_base-first.result
    refl c.info_flags.ensures c.base_count-bases.ensures first class_fits flags_fit count_fits
    c.in_ok-push.ensures.words c.in_ok-push.ensures.records c.in_ok-push.ensures.place c.in_ok-push-2.ensures.words c.in_ok-push-2.ensures.records c.in_ok-push-2.ensures.place
    c.in_ok-push-3.ensures.words c.in_ok-push-3.ensures.records c.in_ok-push-3.ensures.place c.in_ok-push-4.ensures.words c.in_ok-push-4.ensures.records c.in_ok-push-4.ensures.place
