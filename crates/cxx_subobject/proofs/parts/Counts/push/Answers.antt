use Rattle.std.proofs.Common.{◌≡◌, ◌+◌, ◌<◌, ◌∙◌, ap, subst, sym, arith, get_or, length, min, List}
use Rattle.cxx_hierarchy.specs.declared.records.ClassId.{ClassId}
use Rattle.cxx_hierarchy.specs.declared.records.Base.{Base}
use Rattle.cxx_hierarchy.specs.declared.records.Member.{Member}
use Rattle.cxx_hierarchy.proofs.VirtualRows.{known_bases}
use Rattle.cxx_subobject.specs.Parts.{parts_of}
use Rattle.cxx_subobject.specs.invariants.Counts.{AreCapped, IsCapped, KnowsObject, HasGoodCount, own_of, own_bases, parts_weight, parts_of_members}
use Rattle.cxx_subobject.proofs.CountLemmas.{capped_within, known_member, good_count, counts_push}
use Rattle.cxx_subobject.proofs.VirtualFlagLemmas.{no_virtual_bases}
use Rattle.cxx_subobject.proofs.parts.Counts.push.Goals as goal

pub base_sum-own-requires-clause-known : goal.base_sum-own-requires-clause-known
base_sum-own-requires-clause-known c = λ k d lt.
    let less = known_bases c.args.h.now c.class-class.result.now c.args.c.0 c.keeps.ensures c.class-class.ensures k d (subst (λ (bs : List (Base ClassId)). k < length bs) c.as_slice-bases.ensures lt) in
    let here : (get_or c.as_slice-bases.result.now k d).class.0 < c.args.c.0 = subst (λ (bs : List (Base ClassId)). (get_or bs k d).class.0 < c.args.c.0) (sym c.as_slice-bases.ensures) less in
    let size : length c.deref.result.now ≡ c.args.c.0 = ap length c.deref.ensures.value ∙ c.requires.counts.own_size in
    omega arith

pub base_sum-own-requires-clause-values : goal.base_sum-own-requires-clause-values
base_sum-own-requires-clause-values c = subst (AreCapped 1024) (sym c.deref.ensures.value) (capped_within 1024 (own_of (λ d. 1) c.args.h.now) _ c.requires.counts.own)

pub member_sum-itself-requires-clause-known : goal.member_sum-itself-requires-clause-known
member_sum-itself-requires-clause-known c = λ k d lt.
    let here = known_member c.args.h.now c.keeps.ensures c.args.c c.class-class.result.now c.class-class.ensures c.deref-2.result.now (ap length c.deref-2.ensures.value ∙ c.requires.counts.parts_size) k d (subst (λ (ms : List (Member ClassId)). k < length ms) c.as_slice.ensures lt) in
    subst (λ (ms : List (Member ClassId)). KnowsObject c.deref-2.result.now (get_or ms k d).ty) (sym c.as_slice.ensures) here

pub member_sum-itself-requires-clause-counts : goal.member_sum-itself-requires-clause-counts
member_sum-itself-requires-clause-counts c = λ k d lt.
    let here = good_count c.args.h.now c.keeps.ensures c.args.c c.class-class.result.now c.class-class.ensures k d (subst (λ (ms : List (Member ClassId)). k < length ms) c.as_slice.ensures lt) in
    subst (λ (ms : List (Member ClassId)). HasGoodCount (get_or ms k d)) (sym c.as_slice.ensures) here

pub member_sum-itself-requires-clause-parts : goal.member_sum-itself-requires-clause-parts
member_sum-itself-requires-clause-parts c = subst (AreCapped 65536) (sym c.deref-2.ensures.value) (capped_within 65536 (parts_of c.args.h.now) _ c.requires.counts.parts)

pub base_sum-own_parts-requires-clause-known : goal.base_sum-own_parts-requires-clause-known
base_sum-own_parts-requires-clause-known c = λ k d lt.
    let less = known_bases c.args.h.now c.class-class.result.now c.args.c.0 c.keeps.ensures c.class-class.ensures k d (subst (λ (bs : List (Base ClassId)). k < length bs) c.as_slice-bases.ensures lt) in
    let here : (get_or c.as_slice-bases.result.now k d).class.0 < c.args.c.0 = subst (λ (bs : List (Base ClassId)). (get_or bs k d).class.0 < c.args.c.0) (sym c.as_slice-bases.ensures) less in
    let size : length c.deref-3.result.now ≡ c.args.c.0 = ap length c.deref-3.ensures.value ∙ c.requires.counts.own_parts_size in
    omega arith

pub base_sum-own_parts-requires-clause-values : goal.base_sum-own_parts-requires-clause-values
base_sum-own_parts-requires-clause-values c = subst (AreCapped 65536) (sym c.deref-3.ensures.value) (capped_within 65536 (own_of (parts_weight c.args.h.now) c.args.h.now) _ c.requires.counts.own_parts)

pub shared_sum-all-requires-clause-values : goal.shared_sum-all-requires-clause-values
shared_sum-all-requires-clause-values c = subst (AreCapped 1024) (sym c.deref-4.ensures.value) (capped_within 1024 (own_of (λ d. 1) c.args.h.now) _ c.requires.counts.own)

pub shared_sum-parts-requires-clause-values : goal.shared_sum-parts-requires-clause-values
shared_sum-parts-requires-clause-values c = subst (AreCapped 65536) (sym c.deref-5.ensures.value) (capped_within 65536 (own_of (parts_weight c.args.h.now) c.args.h.now) _ c.requires.counts.own_parts)

pub shared_sum-all-requires-clause-with_virtual : goal.shared_sum-all-requires-clause-with_virtual
shared_sum-all-requires-clause-with_virtual c = λ e v has. no_virtual_bases c.args.h.now c.args.with_virtual.now c.args.c v c.has_virtual_bases-is_one.result c.requires.with_virtual (let a = c.requires.known in let b = c.requires.flags in omega arith) c.has_virtual_bases-is_one.ensures e has

pub shared_sum-parts-requires-clause-with_virtual : goal.shared_sum-parts-requires-clause-with_virtual
shared_sum-parts-requires-clause-with_virtual c = λ e v has. no_virtual_bases c.args.h.now c.args.with_virtual.now c.args.c v c.has_virtual_bases-is_one.result c.requires.with_virtual (let a = c.requires.known in let b = c.requires.flags in omega arith) c.has_virtual_bases-is_one.ensures e has

pub returns : goal.returns
returns c = counts_push c.args.h.now c.keeps.ensures c.args.c c.class-class.result.now c.class-class.ensures c.args.self.now _
    c.base_sum-own.result c.member_sum-itself.result c.base_sum-own_parts.result c.shared_sum-all.result c.shared_sum-parts.result c.is_small.result c.requires.counts
    (λ f n capped start. c.base_sum-own.ensures.sum f n (subst (IsCapped 1024 f) (sym c.deref.ensures.value) capped) start ∙ ap (λ (bs : List (Base ClassId)). min (n + own_bases f bs) 1025) c.as_slice-bases.ensures)
    (λ f capped. c.member_sum-itself.ensures.parts f (subst (IsCapped 65536 f) (sym c.deref-2.ensures.value) capped) ∙ ap (λ (ms : List (Member ClassId)). min (1 + parts_of_members f ms) 65537) c.as_slice.ensures)
    (λ f n capped start. c.base_sum-own_parts.ensures.sum f n (subst (IsCapped 65536 f) (sym c.deref-3.ensures.value) capped) start ∙ ap (λ (bs : List (Base ClassId)). min (n + own_bases f bs) 65537) c.as_slice-bases.ensures)
    (λ f n capped start. c.shared_sum-all.ensures.sum f n (subst (IsCapped 1024 f) (sym c.deref-4.ensures.value) capped) start)
    (λ f n capped start. c.shared_sum-parts.ensures.sum f n (subst (IsCapped 65536 f) (sym c.deref-5.ensures.value) capped) start)
    c.is_small.ensures c.in_ok-push.ensures.items c.in_ok-push-2.ensures.items c.in_ok-push-3.ensures.items c.in_ok-push-4.ensures.items
