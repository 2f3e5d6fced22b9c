use Rattle.std.proofs.Common.{◌≡◌, ◌∙◌, List, length, map, ◌⊎◌, inl, inr, ap, subst, sym, arith}
use Rattle.std.specs.Prelude.{Contains}
use Rattle.std.proofs.lemmas.Result.{err_from_is_err_and}
use Rattle.cxx_hierarchy.specs.declared.records.ClassId.{ClassId}
use Rattle.cxx_hierarchy.specs.declared.records.Member.{Member}
use Rattle.cxx_hierarchy.specs.declared.stop.LimitNo.TheVariants.{L6}
use Rattle.cxx_hierarchy.specs.declared.stop.Stop.TheVariants.{NoMemory, Limit}
use Rattle.abi_layout.specs.Placements.{member_component}
use Rattle.abi_layout.specs.invariants.Alignments.{AreFit, AreLittle}
use Rattle.abi_layout.specs.invariants.Known.{known_parts_of, members_by, HasLarge}
use Rattle.abi_layout.specs.Layouts.{start_stage}
use Rattle.abi_layout.specs.invariants.Arrangements.{components_by}
use Rattle.abi_layout.specs.Repeats.{SomeRepeats}
use Rattle.abi_layout.proofs.algorithm.RowLemmas.{members_fit}
use Rattle.abi_layout.proofs.algorithm.SceneFits.{placed_all_fit, bit_fields, fields_small, nvsize_small, earlier_members, member_refuses, size_refuses, repeat_refuses, no_place_by}
use Rattle.abi_layout.proofs.placed_class.arrange_class.Goals as goal

pub placed_components-requires-clause-fits : goal.placed_components-requires-clause-fits
placed_components-requires-clause-fits c =
    let x = c.args.scene.now in
    let row_each = c.requires.scene.row_each in
    let known_each = c.requires.scene.known_each in
    λ d lt. nvsize_small x.rows.now x.known.now d c.requires.sized (omega arith) (omega arith)

pub placed_components-requires-2-clause-fits : goal.placed_components-requires-2-clause-fits
placed_components-requires-2-clause-fits c =
    let x = c.args.scene.now in
    let row_each = c.requires.scene.row_each in
    let known_each = c.requires.scene.known_each in
    λ d lt. nvsize_small x.rows.now x.known.now d c.requires.sized (omega arith) (omega arith)

pub member_components-requires-clause-earlier : goal.member_components-requires-clause-earlier
member_components-requires-clause-earlier c =
    let x = c.args.scene.now in
    λ member has. earlier_members x.h.now x.c c.args.class.now (length x.rows.now) c.keeps.ensures c.requires.class c.requires.scene.row_each member (subst (λ (xs : List (Member ClassId)). Contains xs member) c.as_slice.ensures has)

pub returns-in_err-members-clause-refused : goal.returns-in_err-members-clause-refused
returns-in_err-members-clause-refused c =
    let p = err_from_is_err_and c.from_residual-in_err-members.result c.from_residual-in_err-members.ensures.1 in
    let x = c.args.scene.now in
    rw (p.1, p.2)
    (member_refuses (start_stage x.c c.args.has_pointer) (components_by x.h.now x.rows.now x.known.now x.primaries.now x.c c.args.front.now) (members_by x.rows.now x.known.now c.args.class.now)
    (components_by x.h.now x.rows.now x.known.now x.primaries.now x.c c.args.free.now) c.args.is_pod c.args.class.now.at c.in_err-members.field-0.0
    (fields_small x.rows.now (known_parts_of x.known.now) c.args.class.now.members (bit_fields x.h.now x.c c.args.class.now c.keeps.ensures c.requires.class))
    (subst (λ (xs : List (Member ClassId)). (c.in_err-members.field-0.0 ≡ NoMemory) ⊎ ((c.in_err-members.field-0.0 ≡ Limit L6) × HasLarge (map (member_component x.rows.now (known_parts_of x.known.now)) xs))) c.as_slice.ensures c.in_err-members.ensures.limit))

pub arrange-requires-clause-fronts : goal.arrange-requires-clause-fronts
arrange-requires-clause-fronts c =
    let x = c.args.scene.now in
    subst AreFit (sym (c.deref.ensures.value ∙ c.in_ok-bases.ensures)) (placed_all_fit x.h.now x.c x.rows.now x.known.now x.members.now x.primaries.now x.list.now x.holders.now c.keeps.ensures c.requires.scene c.requires.sized c.args.front.now c.requires.fronts)

pub arrange-requires-clause-members : goal.arrange-requires-clause-members
arrange-requires-clause-members c =
    let x = c.args.scene.now in
    let class = c.args.class.now in
    let are : c.in_ok-members.members.items ≡ members_by x.rows.now x.known.now class = c.in_ok-members.ensures.components ∙ ap (λ (xs : List (Member ClassId)). map (member_component x.rows.now (known_parts_of x.known.now)) xs) c.as_slice.ensures in
    let same : length x.known.now ≡ length x.rows.now = c.requires.scene.known_each ∙ sym c.requires.scene.row_each in
    subst AreFit (sym (c.deref-2.ensures.value ∙ are))
    (members_fit x.rows.now x.known.now class.members c.requires.sized same
    (earlier_members x.h.now x.c class (length x.rows.now) c.keeps.ensures c.requires.class c.requires.scene.row_each) (bit_fields x.h.now x.c class c.keeps.ensures c.requires.class) (subst AreLittle are c.in_ok-members.ensures.little))

pub arrange-requires-clause-frees : goal.arrange-requires-clause-frees
arrange-requires-clause-frees c =
    let x = c.args.scene.now in
    subst AreFit (sym (c.deref-3.ensures.value ∙ c.in_ok-frees.ensures)) (placed_all_fit x.h.now x.c x.rows.now x.known.now x.members.now x.primaries.now x.list.now x.holders.now c.keeps.ensures c.requires.scene c.requires.sized c.args.free.now c.requires.frees)

pub refuse_repeated-requires : goal.refuse_repeated-requires
refuse_repeated-requires c =
    let x = c.args.scene.now in
    subst AreFit (sym (c.deref-4.ensures.value ∙ c.in_ok-bases.ensures)) (placed_all_fit x.h.now x.c x.rows.now x.known.now x.members.now x.primaries.now x.list.now x.holders.now c.keeps.ensures c.requires.scene c.requires.sized c.args.front.now c.requires.fronts)

pub refuse_repeated-requires-2 : goal.refuse_repeated-requires-2
refuse_repeated-requires-2 c =
    let x = c.args.scene.now in
    subst AreFit (sym (c.deref-5.ensures.value ∙ c.in_ok-frees.ensures)) (placed_all_fit x.h.now x.c x.rows.now x.known.now x.members.now x.primaries.now x.list.now x.holders.now c.keeps.ensures c.requires.scene c.requires.sized c.args.free.now c.requires.frees)

pub returns-in_err-arrangement-clause-refused : goal.returns-in_err-arrangement-clause-refused
returns-in_err-arrangement-clause-refused c =
    let p = err_from_is_err_and c.from_residual-in_err-arrangement.result c.from_residual-in_err-arrangement.ensures.1 in
    let x = c.args.scene.now in
    let fronts = components_by x.h.now x.rows.now x.known.now x.primaries.now x.c c.args.front.now in
    let members = members_by x.rows.now x.known.now c.args.class.now in
    let frees = components_by x.h.now x.rows.now x.known.now x.primaries.now x.c c.args.free.now in
    let fronts_are = c.deref.ensures.value ∙ c.in_ok-bases.ensures in
    let members_are = c.deref-2.ensures.value ∙ (c.in_ok-members.ensures.components ∙ ap (λ (xs : List (Member ClassId)). map (member_component x.rows.now (known_parts_of x.known.now)) xs) c.as_slice.ensures) in
    let frees_are = c.deref-3.ensures.value ∙ c.in_ok-frees.ensures in
    rw (p.1, p.2)
    (size_refuses (start_stage x.c c.args.has_pointer) c.deref.result.now fronts c.deref-2.result.now members c.deref-3.result.now frees c.args.is_pod c.args.class.now.at c.in_err-arrangement.field-0.0
    fronts_are members_are frees_are c.in_err-arrangement.ensures.limit)

pub returns-in_err-refuse_repeated-clause-refused : goal.returns-in_err-refuse_repeated-clause-refused
returns-in_err-refuse_repeated-clause-refused c =
    let p = err_from_is_err_and c.from_residual-in_err-refuse_repeated.result c.from_residual-in_err-refuse_repeated.ensures.1 in
    let x = c.args.scene.now in
    let fronts = components_by x.h.now x.rows.now x.known.now x.primaries.now x.c c.args.front.now in
    let members = members_by x.rows.now x.known.now c.args.class.now in
    let frees = components_by x.h.now x.rows.now x.known.now x.primaries.now x.c c.args.free.now in
    let fronts_are = c.deref.ensures.value ∙ c.in_ok-bases.ensures in
    let members_are = c.deref-2.ensures.value ∙ (c.in_ok-members.ensures.components ∙ ap (λ (xs : List (Member ClassId)). map (member_component x.rows.now (known_parts_of x.known.now)) xs) c.as_slice.ensures) in
    let frees_are = c.deref-3.ensures.value ∙ c.in_ok-frees.ensures in
    let again = c.deref-4.ensures.value ∙ c.in_ok-bases.ensures in
    rw (p.1, p.2)
    (repeat_refuses (start_stage x.c c.args.has_pointer) fronts members frees c.deref-4.result.now c.args.is_pod c.args.class.now.at c.in_err-refuse_repeated.field-0.0
    (λ twice. no_place_by (start_stage x.c c.args.has_pointer) c.deref.result.now fronts c.deref-2.result.now members c.deref-3.result.now frees c.args.is_pod c.in_ok-arrangement.arrangement
    fronts_are members_are frees_are c.in_ok-arrangement.ensures.arranged c.in_ok-arrangement.ensures.within (inl (subst SomeRepeats again twice)))
    c.in_err-refuse_repeated.ensures.refused)

pub returns-in_err-refuse_repeated-2-clause-refused : goal.returns-in_err-refuse_repeated-2-clause-refused
returns-in_err-refuse_repeated-2-clause-refused c =
    let p = err_from_is_err_and c.from_residual-in_err-refuse_repeated-2.result c.from_residual-in_err-refuse_repeated-2.ensures.1 in
    let x = c.args.scene.now in
    let fronts = components_by x.h.now x.rows.now x.known.now x.primaries.now x.c c.args.front.now in
    let members = members_by x.rows.now x.known.now c.args.class.now in
    let frees = components_by x.h.now x.rows.now x.known.now x.primaries.now x.c c.args.free.now in
    let fronts_are = c.deref.ensures.value ∙ c.in_ok-bases.ensures in
    let members_are = c.deref-2.ensures.value ∙ (c.in_ok-members.ensures.components ∙ ap (λ (xs : List (Member ClassId)). map (member_component x.rows.now (known_parts_of x.known.now)) xs) c.as_slice.ensures) in
    let frees_are = c.deref-3.ensures.value ∙ c.in_ok-frees.ensures in
    let again = c.deref-5.ensures.value ∙ c.in_ok-frees.ensures in
    rw (p.1, p.2)
    (repeat_refuses (start_stage x.c c.args.has_pointer) fronts members frees c.deref-5.result.now c.args.is_pod c.args.class.now.at c.in_err-refuse_repeated-2.field-0.0
    (λ twice. no_place_by (start_stage x.c c.args.has_pointer) c.deref.result.now fronts c.deref-2.result.now members c.deref-3.result.now frees c.args.is_pod c.in_ok-arrangement.arrangement
    fronts_are members_are frees_are c.in_ok-arrangement.ensures.arranged c.in_ok-arrangement.ensures.within (inr (subst SomeRepeats again twice)))
    c.in_err-refuse_repeated-2.ensures.refused)
