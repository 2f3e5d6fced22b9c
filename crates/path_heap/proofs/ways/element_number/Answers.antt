use Rattle.std.proofs.Common.{◌<◌, ◌≤◌, length, rules}
use Rattle.cxx_hierarchy.specs.declared.records.FieldType.TheVariants.{Value, Object}
use Rattle.path_numbers.proofs.Rows.{members_are}
use Rattle.path_heap.proofs.Reaching.{element_past, element_none, slot_object, slot_value}
use Rattle.path_heap.proofs.ways.element_number.Goals as goal

pub returns-then-c-len-clause-object : goal.returns-then-c-len-clause-object
returns-then-c-len-clause-object c = λ d e. absurd (element_past c.args.h.now c.args.c c.args.member c.args.index (Object d) e (search rules))

pub returns-then-c-len-clause-value : goal.returns-then-c-len-clause-value
returns-then-c-len-clause-value c = λ t e. absurd (element_past c.args.h.now c.args.c c.args.member c.args.index (Value t) e (search rules))

pub returns-then-member-members-clause-object : goal.returns-then-member-members-clause-object
returns-then-member-members-clause-object c = λ d e.
    let past : length c.as_slice-members.result.now ≤ c.args.member = search rules in
    absurd (element_none c.args.h.now c.args.c c.args.member c.args.index (Object d) e c.as_slice-members.result.now (members_are c.args.h.now c.args.c c.class.result.now c.as_slice-members.result.now c.class.ensures c.as_slice-members.ensures) past)

pub returns-then-member-members-clause-value : goal.returns-then-member-members-clause-value
returns-then-member-members-clause-value c = λ t e.
    let past : length c.as_slice-members.result.now ≤ c.args.member = search rules in
    absurd (element_none c.args.h.now c.args.c c.args.member c.args.index (Value t) e c.as_slice-members.result.now (members_are c.args.h.now c.args.c c.class.result.now c.as_slice-members.result.now c.class.ensures c.as_slice-members.ensures) past)

pub returns-clause-object : goal.returns-clause-object
returns-clause-object c = λ d e.
    let known : c.args.c.0 < length c.args.h.now = search rules in
    slot_object c.args.h.now c.keeps.ensures c.args.c c.args.member c.args.index d known e c.as_slice-members.result.now c.member_at-field.result.now (members_are c.args.h.now c.args.c c.class.result.now c.as_slice-members.result.now c.class.ensures c.as_slice-members.ensures) c.member_at-field.ensures
    c.args.n c.member_offset-offset.result c.unit_size-unit.result (c.member_offset-offset.ensures c.args.h.now c.requires) c.unit_size-unit.ensures.object

pub returns-clause-value : goal.returns-clause-value
returns-clause-value c = λ t e.
    slot_value c.args.h.now c.args.c c.args.member c.args.index t e c.as_slice-members.result.now c.member_at-field.result.now (members_are c.args.h.now c.args.c c.class.result.now c.as_slice-members.result.now c.class.ensures c.as_slice-members.ensures) c.member_at-field.ensures
    c.args.n c.member_offset-offset.result c.unit_size-unit.result (c.member_offset-offset.ensures c.args.h.now c.requires) c.unit_size-unit.ensures.value
