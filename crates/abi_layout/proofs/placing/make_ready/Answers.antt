use Rattle.std.proofs.Common.{List, length, take, ap, subst, sym, ◌∙◌, arith}
use Rattle.abi_emptybase.specs.declared.Part.{Part}
use Rattle.abi_emptybase.specs.Table.{holds}
use Rattle.abi_layout.specs.invariants.Alignments.{LieUpTo}
use Rattle.abi_layout.proofs.rules.Parts.{within_fits, within_rest, rest_is, table_of_all}
use Rattle.abi_layout.proofs.placing.make_ready.Goals as goal

pub add-requires : goal.add-requires
add-requires c =
    let stage = c.args.placing.now.stage in
    let size = c.requires.size in
    within_fits stage.size 0 _ (omega arith)
    (subst (λ (parts : List Part). LieUpTo stage.size parts) (sym (rest_is c.args.placing.now.listed c.as_slice-parts.result.now stage.parts c.as_slice-parts.ensures)) (within_rest c.args.placing.now.listed stage.size stage.parts c.requires.parts))

pub returns-clause-placing : goal.returns-clause-placing
returns-clause-placing c =
    let old = c.args.placing.now in
    let parts = old.stage.parts in
    let all = ap length c.as_slice-parts.ensures in
    record {
      table = record {
        within = omega arith;
        same = λ q. table_of_all old c.add.new.self _ c.requires.table (rest_is old.listed c.as_slice-parts.result.now parts c.as_slice-parts.ensures) c.in_ok-add.ensures.ok q ∙ ap (λ n. holds (take n parts) q) (sym all);
      };
      align = c.requires.align;
      free_bit = c.requires.free_bit;
      dsize = c.requires.dsize;
      size = c.requires.size;
      parts = c.requires.parts;
    }
