use Rattle.std.proofs.Common.{◌≡◌, ◌++◌, drop}
use Rattle.abi_vtt.specs.Vtts.{views}
use Rattle.abi_vtt.proofs.ViewLemmas.{shared_rest}
use Rattle.abi_vtt.proofs.view_list.views.Given as goal

abbrev pub invariant-loop-s : goal.invariant-loop-s
invariant-loop-s l = l.list ++ shared_rest l.h (drop l.s-index l.s-items) ≡ views l.h l.fn.c
