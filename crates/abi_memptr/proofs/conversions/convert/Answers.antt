use Rattle.std.proofs.Common.{subst}
use Rattle.abi_memptr.specs.Pointers.{IsPointerOf}
use Rattle.abi_memptr.proofs.Converting.{data_of_whole, function_of_whole}
use Rattle.abi_memptr.proofs.conversions.convert.Goals as goal

pub returns-in-Data-clause-value : goal.returns-in-Data-clause-value
returns-in-Data-clause-value c =
    data_of_whole c.args.h.now c.args.k c.args.d c.in-Data.c c.in-Data.m c.in_ok-base.base c.in-Data.s c.in_ok-s-in-Data.s c.requires.known c.in_ok-base.ensures.valid.class (subst (IsPointerOf c.args.h.now c.args.k) c.in-Data.is c.requires.value)
    c.in_ok-s-in-Data.ensures.valid c.in_ok-s-in-Data.ensures.joined

pub returns-clause-value : goal.returns-clause-value
returns-clause-value c =
    function_of_whole c.args.h.now c.args.k c.args.d c.in-Function.f c.in_ok-base.base c.in-Function.s c.in_ok-s-in-Function.s c.requires.known c.in_ok-base.ensures.valid.class (subst (IsPointerOf c.args.h.now c.args.k) c.in-Function.is c.requires.value)
    c.in_ok-s-in-Function.ensures.valid c.in_ok-s-in-Function.ensures.joined
