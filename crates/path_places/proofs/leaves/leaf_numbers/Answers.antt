use Rattle.std.proofs.Common.{◌∙◌, arith}
use Rattle.cxx_subobject.proofs.PathLemmas.{class_low, class_found}
use Rattle.cxx_subobject.proofs.TreeLemmas.{valid_at}
use Rattle.path_places.proofs.Listing.{number_listed, part_next, part_all, part_past}
use Rattle.path_places.proofs.leaves.leaf_numbers.Goals as goal

pub push_own-requires-clause-known : goal.push_own-requires-clause-known
push_own-requires-clause-known c =
    let h = c.args.world.now.h.now in
    let is = c.as_slice-base-items.ensures ∙ c.requires.list.parts in
    let valid = valid_at h c.args.c c.as_slice-base-items.result.now c.loop-i.i c.base-item.result is c.loop-i-test.true c.base-item.is in
    let low = class_low h c.requires.world.hierarchy c.args.c c.class_or_first-d.result c.base-item.result valid (class_found h c.args.c c.class_or_first-d.result c.base-item.result valid c.class_or_first-d.ensures) in
    let few = c.if-c-len.false in
    let size = c.len.ensures in
    omega arith

pub loop-i-preserved : goal.loop-i-preserved
loop-i-preserved c =
    let h = c.args.world.now.h.now in
    let is = c.as_slice-base-items.ensures ∙ c.requires.list.parts in
    let number = number_listed h c.args.c c.args.list.now c.as_slice-base-items.result.now c.deref.result.now c.requires.list c.as_slice-base-items.ensures c.deref.ensures.value c.loop-i.i c.base-item.result c.loop-i-test.true c.base-item.is c.number_at-number.result c.number_at-number.ensures in
    part_next h c.args.heap.now c.args.n c.args.c c.as_slice-base-items.result.now c.loop-i.i c.base-item.result is c.loop-i-test.true c.base-item.is c.class_or_first-d.result c.class_or_first-d.ensures
    c.numbered_base-start.result (λ s p stands q begun class sub. c.numbered_base-start.ensures s p stands q begun class sub number) c.loop-i.leaves.items c.push_own.new.leaves.items c.loop-i.invariant c.in_ok-push_own.ensures

pub returns : goal.returns
returns c =
    part_all c.args.world.now.h.now c.requires.world.hierarchy c.args.heap.now c.args.n c.args.c c.as_slice-base-items.result.now c.loop-i.i (c.as_slice-base-items.ensures ∙ c.requires.list.parts) c.loop-i-test.false
    c.loop-i.leaves.items c.loop-i.invariant

pub returns-then-c-len : goal.returns-then-c-len
returns-then-c-len c = λ s p stands q begun class.
    let size = c.len.ensures in
    let past = c.if-c-len.true in
    part_past c.args.world.now.h.now c.requires.world.hierarchy s.classes c.args.c p c.new.result.items c.new.ensures.items (omega arith)
