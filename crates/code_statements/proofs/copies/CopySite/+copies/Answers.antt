use Rattle.std.proofs.Common.{◌≡◌, ℕ, ◌+◌, ◌*◌, ◌++◌, map, refl, ap, sym, subst, arith}
use Rattle.std.proofs.lemmas.Result.{on_ok_weaker}
use Rattle.cxx_subobject.proofs.PathLemmas.{class_low, class_found}
use Rattle.cxx_subobject.proofs.TreeLemmas.{valid_at}
use Rattle.cxx_hierarchy.specs.Declarations.{elements_of}
use Rattle.path_plan.specs.Plans.{upto}
use Rattle.abi_sound.specs.Locations.{size_of_type}
use Rattle.code_ops.specs.Setups.{places}
use Rattle.code_ops.specs.Leaves.{leaf_width, copy_op}
use Rattle.code_statements.specs.invariants.CopyFits.{FitsOwn}
use Rattle.code_statements.specs.invariants.Pushes.{CopiesObjects}
use Rattle.code_statements.proofs.Near.{base_low, object_low, own_fits, near_member}
use Rattle.code_statements.proofs.MemberSteps.{object_more, objects_whole, member_more}
use Rattle.code_statements.proofs.CopySteps.{object_copied, bases_next, values_whole}
use Rattle.code_statements.proofs.copies.CopySite.+copies.Goals as goal
use Rattle.code_ops.specs.invariants.Sites.{site_setup, site_places}

pub push_member-returns-in-Value : goal.push_member-returns-in-Value
push_member-returns-in-Value g t c =
    let x = site_setup g.L.SoundLayout.rows c.args.self.now.site.now in
    let sides = c.args.self.now.sides in
    let member = c.args.member.now in
    let leaf = leaf_width x c.args.b c.args.m in
    let at : ℕ → ℕ = λ i. c.args.start + i * size_of_type (places x) member.ty in
    let old = c.args.ops.now in
    let new = c.push_leaves.new.ops in
    on_ok_weaker c.push_leaves.result
    (λ (added : new ≡ old ++ map (λ i. copy_op leaf sides.to sides.from (at i)) (upto (elements_of member.count))).
    values_whole x sides c.args.b leaf c.in-Value.field-0 member c.args.start old new c.in-Value.is added) c.push_leaves.ensures

pub push_member-returns-in-Object : goal.push_member-returns-in-Object
push_member-returns-in-Object g t c =
    let x = site_setup g.L.SoundLayout.rows c.args.self.now.site.now in
    on_ok_weaker c.push_objects.result
    (λ (added : CopiesObjects x c.args.self.now.sides c.in-Object.d c.args.start c.type_bytes.result c.elements.result c.args.ops.now c.push_objects.new.ops).
    objects_whole _ _ x c.args.b c.in-Object.d c.args.member.now c.args.start c.type_bytes.result c.elements.result c.args.ops.now c.push_objects.new.ops c.in-Object.is c.type_bytes.ensures c.elements.ensures (c.requires.fits.below c.in-Object.d c.in-Object.is) added (λ n at indices. refl)) c.push_objects.ensures

pub push_object-place-requires-clause-subobject : goal.push_object-place-requires-clause-subobject
push_object-place-requires-clause-subobject g t c = valid_at c.args.self.now.site.now.h.now c.args.d c.args.bases.now c.loop-base.base-index c.base-item.result c.requires.listed c.loop-base-test.true c.base-item.is

pub push_object-overflow_add-start : goal.push_object-overflow_add-start
push_object-overflow_add-start g t c =
    let h = c.args.self.now.site.now.h.now in
    let l = site_places g.L.SoundLayout.rows c.args.self.now.site.now in
    let valid = valid_at h c.args.d c.args.bases.now c.loop-base.base-index c.base-item.result c.requires.listed c.loop-base-test.true c.base-item.is in
    let low = base_low h c.requires.site.laid.site.keeps l c.args.d c.args.offset c.base-item.result c.requires.fits valid in
    let place = c.place.ensures in
    omega (arith, low, place)

pub push_object-push_own-requires : goal.push_object-push_own-requires
push_object-push_own-requires g t c κs within =
    let h = c.args.self.now.site.now.h.now in
    let l = site_places g.L.SoundLayout.rows c.args.self.now.site.now in
    let keeps = c.requires.site.laid.site.keeps in
    let valid = valid_at h c.args.d c.args.bases.now c.loop-base.base-index c.base-item.result c.requires.listed c.loop-base-test.true c.base-item.is in
    let class = class_found h c.args.d c.class_or_first.result c.base-item.result valid c.class_or_first.ensures in
    let low = class_low h keeps c.args.d c.class_or_first.result c.base-item.result valid class in
    let known = c.requires.site.known in
    let d = c.decreases in
    let fits = own_fits h keeps l c.args.d c.class_or_first.result c.args.offset c.base-item.result c.requires.fits valid class in
    (omega arith, (within, (record { laid = c.requires.site.laid; known = omega arith }, (subst (λ (n : ℕ). FitsOwn h l c.class_or_first.result (c.args.offset + n)) (sym c.place.ensures) fits))))

pub push_object-loop-base-preserved : goal.push_object-loop-base-preserved
push_object-loop-base-preserved g t c =
    let h = c.args.self.now.site.now.h.now in
    let x = site_setup g.L.SoundLayout.rows c.args.self.now.site.now in
    let valid = valid_at h c.args.d c.args.bases.now c.loop-base.base-index c.base-item.result c.requires.listed c.loop-base-test.true c.base-item.is in
    let class = class_found h c.args.d c.class_or_first.result c.base-item.result valid c.class_or_first.ensures in
    bases_next x c.requires.site.laid.site.keeps c.args.self.now.sides c.args.d c.class_or_first.result c.args.offset (c.args.offset + c.place.result) c.args.bases.now c.loop-base.base-index c.base-item.result c.args.ops.now c.loop-base.ops c.push_own.new.ops
    c.loop-base-test.true c.base-item.is valid class (ap (λ (n : ℕ). c.args.offset + n) c.place.ensures) c.loop-base.invariant c.in_ok-push_own.ensures

pub push_objects-place-requires : goal.push_objects-place-requires
push_objects-place-requires g t c =
    let h = c.args.self.now.site.now.h.now in
    let l = site_places g.L.SoundLayout.rows c.args.self.now.site.now in
    let low = object_low h c.requires.site.laid.site.keeps l c.args.d (c.args.elements.start + c.loop-i.i * c.args.elements.stride) (c.requires.fits c.loop-i.i c.loop-i-test.true) in
    omega arith

pub push_objects-loop-i-preserved : goal.push_objects-loop-i-preserved
push_objects-loop-i-preserved g t c =
    let x = site_setup g.L.SoundLayout.rows c.args.self.now.site.now in
    object_more _ c.args.d c.args.elements.start c.args.elements.stride c.loop-i.i c.place.result c.args.ops.now c.loop-i.ops c.push_object.new.ops c.place.ensures c.loop-i.invariant
    (object_copied x c.args.self.now.sides c.args.d c.place.result c.loop-i.ops c.push_object.new.ops c.in_ok-push_object.ensures)

pub push_own-overflow_add-start : goal.push_own-overflow_add-start
push_own-overflow_add-start g t c =
    let h = c.args.self.now.site.now.h.now in
    let near = near_member h c.requires.site.laid.site.keeps (site_places g.L.SoundLayout.rows c.args.self.now.site.now) c.loop-m.m c.requires.fits c.class.ensures c.as_slice-members.ensures c.loop-m-test.true c.index-members-m.is c.member_place.ensures in
    let low = near.low in
    omega (arith, low)

pub push_own-push_member-requires : goal.push_own-push_member-requires
push_own-push_member-requires g t c κs within =
    let h = c.args.self.now.site.now.h.now in
    let near = near_member h c.requires.site.laid.site.keeps (site_places g.L.SoundLayout.rows c.args.self.now.site.now) c.loop-m.m c.requires.fits c.class.ensures c.as_slice-members.ensures c.loop-m-test.true c.index-members-m.is c.member_place.ensures in
    let d = c.decreases in
    (omega arith, (within, (c.requires.site, near.fits)))

pub push_own-loop-m-preserved : goal.push_own-loop-m-preserved
push_own-loop-m-preserved g t c =
    let h = c.args.self.now.site.now.h.now in
    let x = site_setup g.L.SoundLayout.rows c.args.self.now.site.now in
    let near = near_member h c.requires.site.laid.site.keeps (site_places g.L.SoundLayout.rows c.args.self.now.site.now) c.loop-m.m c.requires.fits c.class.ensures c.as_slice-members.ensures c.loop-m-test.true c.index-members-m.is c.member_place.ensures in
    member_more _ _ x c.args.b c.args.offset (c.args.offset + c.member_place.result) c.loop-m.m c.index-members-m.result c.args.ops.now c.loop-m.ops c.push_member.new.ops near.there near.lies c.loop-m.invariant c.in_ok-push_member.ensures
    (λ n at. refl)
