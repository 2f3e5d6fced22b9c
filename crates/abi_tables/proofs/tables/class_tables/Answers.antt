use Rattle.std.proofs.Common.{[], subst, sym}
use Rattle.abi_sound.specs.Places.{places_of}
use Rattle.abi_slots.specs.Groups.{GoAlong}
use Rattle.abi_vtable.specs.invariants.Kept.{AreViews}
use Rattle.abi_vtable.proofs.Kept.{no_views}
use Rattle.abi_vtt.specs.Vtts.{IsVttWord}
use Rattle.abi_tables.specs.Tables.{IsNamed, class_items, group_names}
use Rattle.abi_tables.proofs.Along.{along_empty}
use Rattle.abi_tables.proofs.tables.class_tables.Goals as goal

pub push_groups-requires-clause-views : goal.push_groups-requires-clause-views
push_groups-requires-clause-views g c =
    let h = c.args.h.now in
    let l = places_of h (g.L.SoundLayout.rows c.args.layout.now) in
    subst (λ xs. AreViews h l xs) (sym c.as_slice.ensures) (c.in_ok-vtt.ensures.views.views (no_views h l c.new-views.result c.new-views.ensures))

pub returns : goal.returns
returns g c =
    let h = c.args.h.now in
    let l = places_of h (g.L.SoundLayout.rows c.args.layout.now) in
    record {
      groups = subst (λ gs. GoAlong (IsNamed h l) (group_names h c.args.c) gs) (sym c.groups.view_is) (c.in_ok-push_groups.ensures.along [] (along_empty (IsNamed h l) c.new-groups.result c.new-groups.ensures));
      vtt = subst (λ ws. GoAlong (IsVttWord h l c.args.c) (class_items h l c.args.c) ws) (sym c.vtt.view_is) c.in_ok-vtt.ensures.words;
      info = c.in_ok-type_info.ensures;
    }
