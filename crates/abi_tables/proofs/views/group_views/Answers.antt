use Rattle.std.proofs.Common.{subst, sym, ◌∙◌}
use Rattle.std.specs.Prelude.{All}
use Rattle.cxx_subobject.specs.Subobjects.{IsSubobject, whole_of}
use Rattle.abi_vtt.specs.Vtts.{HasDynamicClass}
use Rattle.abi_tables.proofs.CheckLemmas.{virtual_dynamic, one_all, whole_valid, whole_dynamic}
use Rattle.abi_tables.proofs.views.group_views.Goals as goal

pub returns-then-has_virtual-clause-dynamic : goal.returns-then-has_virtual-clause-dynamic
returns-then-has_virtual-clause-dynamic g c = c.in_ok-built.ensures.dynamic (virtual_dynamic c.args.h.now c.args.c (sym c.has_virtual.ensures ∙ c.if-has_virtual.true))

pub returns-clause-valid : goal.returns-clause-valid
returns-clause-valid g c = subst (All (IsSubobject c.args.h.now c.args.c)) (sym c.in_ok-list.ensures) (one_all (IsSubobject c.args.h.now c.args.c) (whole_of c.args.c) (whole_valid c.args.h.now c.args.c))

pub returns-clause-dynamic : goal.returns-clause-dynamic
returns-clause-dynamic g c = subst (All (HasDynamicClass c.args.h.now)) (sym c.in_ok-list.ensures) (one_all (HasDynamicClass c.args.h.now) (whole_of c.args.c) (whole_dynamic c.args.h.now c.keeps.ensures c.args.c (sym c.is_dynamic.ensures ∙ c.if-not-is_dynamic.false)))
