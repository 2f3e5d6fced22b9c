use Rattle.std.proofs.Common.{arith, ◌∙◌, ◌≡◌, true, false, List, Option, Some, ap, sym, subst, refl, rules}
use Rattle.std.specs.Prelude.{length, slice_get}
use Rattle.cxx_hierarchy.specs.declared.records.ClassId.{ClassId}
use Rattle.path_plan.specs.Phases.{is_complete}
use Rattle.path_plan.specs.Places.{element}
use Rattle.path_model.specs.Rules.{refused}
use Rattle.path_model.specs.Uses.{member_uses}
use Rattle.path_model.specs.Order.{asked_covers}
use Rattle.cxx_hierarchy.specs.declared.records.Member.{Member}
use Rattle.path_numbers.proofs.Rows.{members_are}
use Rattle.path_refusals.specs.invariants.Pieces.{TellsReadiness}
use Rattle.path_refusals.specs.invariants.Left.{element_asked, member_asked}
use Rattle.path_refusals.proofs.Reading.{begun_of}
use Rattle.path_refusals.proofs.Covering.{element_unready, element_ready, left_start, left_more, left_stops, left_end, elements_late, members_late, value_member, object_member, element_of, member_below, past_covers, own_covers, complete_covered}
use Rattle.path_refusals.proofs.copies.+covers.Goals as goal

-- elements

pub is_element_covered-returns-then-is_unready : goal.is_element_covered-returns-then-is_unready
is_element_covered-returns-then-is_unready t c = λ s p k stands q settled class l. element_unready c.args.moment.now.world.h.now s p k c.args.d (c.is_unready.ensures c.args.moment.now.world.h.now s p stands q ∙ c.if-is_unready.true)

pub is_element_covered-returns : goal.is_element_covered-returns
is_element_covered-returns t c = λ s p k stands q settled class l.
    let e = c.is_unready.ensures c.args.moment.now.world.h.now s p stands q ∙ c.if-is_unready.false in
    element_ready c.args.moment.now.world.h.now s p k c.args.d c.is_covered.result e (c.is_covered.ensures s p k (record { heap_stands = stands; points = q; ready = e; settled = settled; of_class = class }) l)

-- members

pub is_member_covered-returns-in-Value : goal.is_member_covered-returns-in-Value
is_member_covered-returns-in-Value t c = λ s p k a l. value_member c.args.moment.now.world.h.now s k p c.args.m c.args.member.now c.in-Value.field-0 c.in-Value.is

pub is_member_covered-loop-i-init : goal.is_member_covered-loop-i-init
is_member_covered-loop-i-init t c = λ s p k a l. left_start c.args.moment.now.world.h.now s (element_asked c.args.moment.now.world.h.now k p c.args.m c.in-Object.d) c.elements-i-end.result

pub is_member_covered-is_element_covered-requires : goal.is_member_covered-is_element_covered-requires
is_member_covered-is_element_covered-requires t c =
    let below = member_below c.args.moment.now.world.h.now c.requires.world.hierarchy c.args.c c.args.m c.args.member.now c.in-Object.d c.requires.listed c.in-Object.is in
    (search rules, c.requires.world)

pub is_member_covered-loop-i-preserved : goal.is_member_covered-loop-i-preserved
is_member_covered-loop-i-preserved t c = λ s p k a l.
    let d = c.in-Object.d in
    let there = element_of c.args.moment.now.world.h.now c.args.c c.args.m c.loop-i.i c.args.member.now d c.elements-i-end.result c.requires.listed c.in-Object.is c.elements-i-end.ensures c.loop-i-test.true in
    let below = member_below c.args.moment.now.world.h.now c.requires.world.hierarchy c.args.c c.args.m c.args.member.now d c.requires.listed c.in-Object.is in
    let q = c.element-e.ensures s p c.args.c d a.heap_stands a.points (begun_of s p a.ready) a.of_class there in
    let told = c.is_element_covered.ensures s (element p c.args.m c.loop-i.i d) k a.heap_stands q a.settled refl (omega (arith, below, l)) in
    left_more c.args.moment.now.world.h.now s (element_asked c.args.moment.now.world.h.now k p c.args.m d) c.elements-i-end.result c.loop-i.i c.loop-i-test.true
    (subst (λ b. TellsReadiness c.args.moment.now.world.h.now s b (element_asked c.args.moment.now.world.h.now k p c.args.m d c.loop-i.i)) c.if-not-is_element_covered.false told) (c.loop-i.invariant s p k a l)

pub is_member_covered-returns-then-not-is_element_covered : goal.is_member_covered-returns-then-not-is_element_covered
is_member_covered-returns-then-not-is_element_covered t c = λ s p k a l.
    let d = c.in-Object.d in
    let there = element_of c.args.moment.now.world.h.now c.args.c c.args.m c.loop-i.i c.args.member.now d c.elements-i-end.result c.requires.listed c.in-Object.is c.elements-i-end.ensures c.loop-i-test.true in
    let below = member_below c.args.moment.now.world.h.now c.requires.world.hierarchy c.args.c c.args.m c.args.member.now d c.requires.listed c.in-Object.is in
    let q = c.element-e.ensures s p c.args.c d a.heap_stands a.points (begun_of s p a.ready) a.of_class there in
    let told = c.is_element_covered.ensures s (element p c.args.m c.loop-i.i d) k a.heap_stands q a.settled refl (omega (arith, below, l)) in
    object_member c.args.moment.now.world.h.now s k p c.args.m c.args.member.now d c.elements-i-end.result false c.in-Object.is c.elements-i-end.ensures
    (left_stops c.args.moment.now.world.h.now s (element_asked c.args.moment.now.world.h.now k p c.args.m d) c.elements-i-end.result c.loop-i.i c.loop-i-test.true (subst (λ b. TellsReadiness c.args.moment.now.world.h.now s b (element_asked c.args.moment.now.world.h.now k p c.args.m d c.loop-i.i)) c.if-not-is_element_covered.true told) (elements_late c.args.moment.now.world.h.now s k p c.args.m d) (c.loop-i.invariant s p k a l))

pub is_member_covered-returns-after-loop-i : goal.is_member_covered-returns-after-loop-i
is_member_covered-returns-after-loop-i t c = λ s p k a l.
    object_member c.args.moment.now.world.h.now s k p c.args.m c.args.member.now c.in-Object.d c.elements-i-end.result true c.in-Object.is c.elements-i-end.ensures
    (left_end c.args.moment.now.world.h.now s (element_asked c.args.moment.now.world.h.now k p c.args.m c.in-Object.d) c.elements-i-end.result c.loop-i.i c.loop-i-test.false (c.loop-i.invariant s p k a l))

-- classes

pub is_covered-returns-then-is_complete : goal.is_covered-returns-then-is_complete
is_covered-returns-then-is_complete t c = λ s p k a l.
    complete_covered c.args.moment.now.world.h.now c.keeps.ensures c.args.moment.now.heap.now s c.args.n p c.args.c k a (ap is_complete (c.phase.ensures c.args.moment.now.world.h.now s p a.heap_stands a.points) ∙ (sym c.is_complete.ensures ∙ c.if-is_complete.true))

pub is_covered-returns-then-c-len : goal.is_covered-returns-then-c-len
is_covered-returns-then-c-len t c = λ s p k a l. past_covers c.args.moment.now.world.h.now s k c.args.c p (let e = c.len.ensures in let g = c.if-c-len.true in omega (arith, e, g))

pub is_covered-loop-m-init : goal.is_covered-loop-m-init
is_covered-loop-m-init t c = λ s p k a l. left_start c.args.moment.now.world.h.now s (member_asked c.args.moment.now.world.h.now k p c.args.c) (length c.as_slice-members.result.now)

pub is_covered-loop-m-preserved : goal.is_covered-loop-m-preserved
is_covered-loop-m-preserved t c = λ s p k a l.
    let same = members_are c.args.moment.now.world.h.now c.args.c c.class.result.now c.as_slice-members.result.now c.class.ensures c.as_slice-members.ensures in
    let listed = subst (λ (xs : List (Member ClassId)). slice_get xs c.loop-m.m ≡ Some c.member_at.result.now) same c.member_at.ensures in
    left_more c.args.moment.now.world.h.now s (member_asked c.args.moment.now.world.h.now k p c.args.c) (length c.as_slice-members.result.now) c.loop-m.m c.loop-m-test.true
    (ap (λ (o : Option (Member ClassId)). refused c.args.moment.now.world.h.now s (member_uses (asked_covers c.args.moment.now.world.h.now k) p c.loop-m.m o)) listed
    ∙ subst (λ b. TellsReadiness c.args.moment.now.world.h.now s b (member_uses (asked_covers c.args.moment.now.world.h.now k) p c.loop-m.m (Some c.member_at.result.now))) c.if-not-is_member_covered.false (c.is_member_covered.ensures s p k a l)) (c.loop-m.invariant s p k a l)

pub is_covered-returns-then-not-is_member_covered : goal.is_covered-returns-then-not-is_member_covered
is_covered-returns-then-not-is_member_covered t c = λ s p k a l.
    let same = members_are c.args.moment.now.world.h.now c.args.c c.class.result.now c.as_slice-members.result.now c.class.ensures c.as_slice-members.ensures in
    let listed = subst (λ (xs : List (Member ClassId)). slice_get xs c.loop-m.m ≡ Some c.member_at.result.now) same c.member_at.ensures in
    own_covers c.args.moment.now.world.h.now s k c.args.c p (length c.as_slice-members.result.now) false l (ap length same) (λ j le. left_stops c.args.moment.now.world.h.now s (member_asked c.args.moment.now.world.h.now j p c.args.c) (length c.as_slice-members.result.now) c.loop-m.m c.loop-m-test.true
    (ap (λ (o : Option (Member ClassId)). refused c.args.moment.now.world.h.now s (member_uses (asked_covers c.args.moment.now.world.h.now j) p c.loop-m.m o)) listed
    ∙ subst (λ b. TellsReadiness c.args.moment.now.world.h.now s b (member_uses (asked_covers c.args.moment.now.world.h.now j) p c.loop-m.m (Some c.member_at.result.now))) c.if-not-is_member_covered.true (c.is_member_covered.ensures s p j a le)) (members_late c.args.moment.now.world.h.now s j p c.args.c) (c.loop-m.invariant s p j a le))

pub is_covered-returns : goal.is_covered-returns
is_covered-returns t c = λ s p k a l.
    let same = members_are c.args.moment.now.world.h.now c.args.c c.class.result.now c.as_slice-members.result.now c.class.ensures c.as_slice-members.ensures in
    own_covers c.args.moment.now.world.h.now s k c.args.c p (length c.as_slice-members.result.now) true l (ap length same) (λ j le. left_end c.args.moment.now.world.h.now s (member_asked c.args.moment.now.world.h.now j p c.args.c) (length c.as_slice-members.result.now) c.loop-m.m c.loop-m-test.false (c.loop-m.invariant s p j a le))
