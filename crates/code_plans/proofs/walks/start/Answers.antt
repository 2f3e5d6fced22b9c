use Rattle.std.proofs.Common.{◌≡◌, ap, arith, length, sym, ◌∙◌}
use Rattle.cxx_hierarchy.specs.Classes.{bases_in}
use Rattle.code_plans.proofs.Known.{bases_below}
use Rattle.code_plans.proofs.walks.start.Goals as goal

pub base_sum-words-requires-clause-known : goal.base_sum-words-requires-clause-known
base_sum-words-requires-clause-known g c =
    bases_below c.args.site.now.h.now c.requires.site.site.keeps c.args.c c.as_slice-bases.result.now (length c.as_slice.result.now) (c.as_slice-bases.ensures ∙ sym (ap bases_in c.class.ensures))
    (let size : length c.as_slice.result.now ≡ length c.args.site.now.tables.now.blocks = ap length c.as_slice.ensures in let all = c.requires.site.site.are_tables.one_block_each in let known = c.requires.known in omega arith)
