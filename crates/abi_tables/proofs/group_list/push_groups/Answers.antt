use Rattle.abi_sound.specs.Places.{places_of}
use Rattle.abi_tables.specs.Tables.{IsNamed, group_name}
use Rattle.abi_tables.proofs.Along.{grows_none, grows_more, grows_all}
use Rattle.abi_tables.proofs.Steps.{view_there, name_known, name_valid, name_dynamic, named_group, groups_done}
use Rattle.abi_tables.proofs.group_list.push_groups.Goals as goal

pub group_by-requires-clause-complete : goal.group_by-requires-clause-complete
group_by-requires-clause-complete g c = name_known c.args.h.now c.args.c c.view-item.result c.in_ok-name.name c.in_ok-name.ensures c.requires.known

pub group_by-requires-clause-view : goal.group_by-requires-clause-view
group_by-requires-clause-view g c =
    name_valid c.args.h.now c.args.c c.view-item.result c.in_ok-name.name c.in_ok-name.ensures
    (view_there c.args.h.now c.keeps.ensures c.args.c c.as_slice-view-items.result.now c.in_ok-list.list c.loop-n.n c.view-item.result c.as_slice-view-items.ensures c.in_ok-list.ensures.list c.loop-n-test.true c.view-item.is)

pub group_by-requires-clause-dynamic : goal.group_by-requires-clause-dynamic
group_by-requires-clause-dynamic g c =
    name_dynamic c.args.h.now c.args.c c.view-item.result c.in_ok-name.name c.in_ok-name.ensures
    (view_there c.args.h.now c.keeps.ensures c.args.c c.as_slice-view-items.result.now c.in_ok-list.list c.loop-n.n c.view-item.result c.as_slice-view-items.ensures c.in_ok-list.ensures.list c.loop-n-test.true c.view-item.is)

pub loop-n-init : goal.loop-n-init
loop-n-init g c = grows_none (IsNamed c.args.h.now (places_of c.args.h.now (g.L.SoundLayout.rows c.args.layout.now))) c.args.groups.now

pub loop-n-preserved : goal.loop-n-preserved
loop-n-preserved g c =
    let h = c.args.h.now in
    let l = places_of h (g.L.SoundLayout.rows c.args.layout.now) in
    grows_more (IsNamed h l) (group_name c.args.c) c.as_slice-view-items.result.now c.loop-n.n c.view-item.result c.in_ok-one.one c.args.groups.now c.loop-n.groups c.push.new.self c.loop-n-test.true c.view-item.is
    (named_group h l c.args.c c.view-item.result c.in_ok-name.name c.in_ok-one.one c.in_ok-one.ensures.name c.in_ok-name.ensures c.in_ok-one.ensures.group) c.in_ok-push.ensures.ok c.loop-n.invariant

pub returns : goal.returns
returns g c =
    let h = c.args.h.now in
    let l = places_of h (g.L.SoundLayout.rows c.args.layout.now) in
    groups_done h l c.args.c c.as_slice-view-items.result.now c.in_ok-list.list c.args.groups.now c.loop-n.groups c.as_slice-view-items.ensures c.in_ok-list.ensures.list
    (grows_all (IsNamed h l) (group_name c.args.c) c.as_slice-view-items.result.now c.loop-n.n c.args.groups.now c.loop-n.groups c.loop-n-test.false c.loop-n.invariant)
