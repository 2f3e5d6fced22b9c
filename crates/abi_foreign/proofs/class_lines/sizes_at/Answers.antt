use Rattle.std.proofs.Common.{refl}
use Rattle.abi_foreign.proofs.Found.{none_then}
use Rattle.abi_foreign.proofs.LineReads.{no_head, no_size, no_align, no_dsize, no_nvsize, no_nvalign, sizes_there}
use Rattle.abi_foreign.proofs.class_lines.sizes_at.Goals as goal

pub returns-in_err-rest : goal.returns-in_err-rest
returns-in_err-rest c = none_then c.from_residual.result _ _ c.from_residual.ensures (no_head c.args.text.now c.args.head.now c.in_err-rest.ensures)

pub number_before-requires : goal.number_before-requires
number_before-requires c = refl

pub returns-in_err-size : goal.returns-in_err-size
returns-in_err-size c =
    none_then c.from_residual-in_err-size.result _ _ c.from_residual-in_err-size.ensures
    (no_size c.args.text.now c.args.head.now c.in_ok-rest.rest.now c.in_ok-rest.ensures c.in_err-size.ensures)

pub number_before-requires-2 : goal.number_before-requires-2
number_before-requires-2 c = refl

pub returns-in_err-align : goal.returns-in_err-align
returns-in_err-align c =
    none_then c.from_residual-in_err-align.result _ _ c.from_residual-in_err-align.ensures
    (no_align c.args.text.now c.args.head.now c.in_ok-rest.rest.now c.in_ok-rest.ensures c.in_ok-size.size c.in_ok-size.rest.now c.in_ok-size.ensures c.in_err-align.ensures)

pub number_before-requires-3 : goal.number_before-requires-3
number_before-requires-3 c = refl

pub returns-in_err-dsize : goal.returns-in_err-dsize
returns-in_err-dsize c =
    none_then c.from_residual-in_err-dsize.result _ _ c.from_residual-in_err-dsize.ensures
    (no_dsize c.args.text.now c.args.head.now c.in_ok-rest.rest.now c.in_ok-rest.ensures c.in_ok-size.size c.in_ok-size.rest.now c.in_ok-size.ensures c.in_ok-align.align c.in_ok-align.rest.now c.in_ok-align.ensures c.in_err-dsize.ensures)

pub number_before-requires-4 : goal.number_before-requires-4
number_before-requires-4 c = refl

pub returns-in_err-nvsize : goal.returns-in_err-nvsize
returns-in_err-nvsize c =
    none_then c.from_residual-in_err-nvsize.result _ _ c.from_residual-in_err-nvsize.ensures
    (no_nvsize c.args.text.now c.args.head.now c.in_ok-rest.rest.now c.in_ok-rest.ensures c.in_ok-size.size c.in_ok-size.rest.now c.in_ok-size.ensures c.in_ok-align.align c.in_ok-align.rest.now c.in_ok-align.ensures c.in_ok-dsize.dsize c.in_ok-dsize.rest.now c.in_ok-dsize.ensures c.in_err-nvsize.ensures)

pub number_before-requires-5 : goal.number_before-requires-5
number_before-requires-5 c = refl

pub returns-in_err-nvalign : goal.returns-in_err-nvalign
returns-in_err-nvalign c =
    none_then c.from_residual-in_err-nvalign.result _ _ c.from_residual-in_err-nvalign.ensures
    (no_nvalign c.args.text.now c.args.head.now c.in_ok-rest.rest.now c.in_ok-rest.ensures c.in_ok-size.size c.in_ok-size.rest.now c.in_ok-size.ensures c.in_ok-align.align c.in_ok-align.rest.now c.in_ok-align.ensures c.in_ok-dsize.dsize c.in_ok-dsize.rest.now c.in_ok-dsize.ensures c.in_ok-nvsize.nvsize c.in_ok-nvsize.rest.now c.in_ok-nvsize.ensures c.in_err-nvalign.ensures)

pub returns : goal.returns
returns c = sizes_there c.args.text.now c.args.head.now c.in_ok-rest.rest.now c.in_ok-rest.ensures c.in_ok-size.size c.in_ok-size.rest.now c.in_ok-size.ensures c.in_ok-align.align c.in_ok-align.rest.now c.in_ok-align.ensures c.in_ok-dsize.dsize c.in_ok-dsize.rest.now c.in_ok-dsize.ensures c.in_ok-nvsize.nvsize c.in_ok-nvsize.rest.now c.in_ok-nvsize.ensures c.in_ok-nvalign.nvalign c.in_ok-nvalign.rest.now c.in_ok-nvalign.ensures
