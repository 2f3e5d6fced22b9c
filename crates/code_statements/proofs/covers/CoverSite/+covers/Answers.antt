use Rattle.std.proofs.Common.{ℕ, ◌+◌, ◌*◌, refl, sym, subst, arith}
use Rattle.std.proofs.lemmas.Result.{on_ok_weaker}
use Rattle.abi_sound.specs.Places.{places_of}
use Rattle.code_statements.specs.invariants.CopyFits.{FitsOwn}
use Rattle.code_statements.specs.invariants.Pushes.{CoversObjects}
use Rattle.code_statements.proofs.Near.{object_low, whole_own, near_member}
use Rattle.code_statements.proofs.MemberSteps.{object_more, objects_whole, member_more}
use Rattle.code_statements.proofs.CoverSteps.{object_tested}
use Rattle.code_statements.proofs.covers.CoverSite.+covers.Goals as goal
use Rattle.code_ops.specs.invariants.Sites.{site_setup, site_places}

pub push_member_used-returns-in-Object : goal.push_member_used-returns-in-Object
push_member_used-returns-in-Object g t c =
    let x = site_setup g.L.SoundLayout.rows c.args.self.now.site.now in
    on_ok_weaker c.push_elements_used.result
    (λ (added : CoversObjects x c.args.self.now.register c.in-Object.d c.args.start c.type_bytes.result c.elements.result c.args.uses.now c.push_elements_used.new.uses).
    objects_whole _ _ x c.args.b c.in-Object.d c.args.member.now c.args.start c.type_bytes.result c.elements.result c.args.uses.now c.push_elements_used.new.uses c.in-Object.is c.type_bytes.ensures c.elements.ensures (c.requires.fits.below c.in-Object.d c.in-Object.is) added (λ n at indices. refl)) c.push_elements_used.ensures

pub push_elements_used-place-distance-requires : goal.push_elements_used-place-distance-requires
push_elements_used-place-distance-requires g t c =
    let h = c.args.self.now.site.now.h.now in
    let l = site_places g.L.SoundLayout.rows c.args.self.now.site.now in
    let low = object_low h c.requires.site.laid.site.keeps l c.args.d (c.args.elements.start + c.loop-i.i * c.args.elements.stride) (c.requires.fits c.loop-i.i c.loop-i-test.true) in
    omega arith

pub push_elements_used-push_covered-requires : goal.push_elements_used-push_covered-requires
push_elements_used-push_covered-requires g t c κs within =
    let h = c.args.self.now.site.now.h.now in
    let rows = g.L.SoundLayout.rows c.args.self.now.site.now.layout.now in
    let d = c.decreases in
    let fits = whole_own h c.requires.site.laid.site.keeps rows c.args.d (c.args.elements.start + c.loop-i.i * c.args.elements.stride) (c.requires.fits c.loop-i.i c.loop-i-test.true) in
    (omega arith, (within, (c.requires.site, (subst (λ (n : ℕ). FitsOwn h (places_of h rows) c.args.d n) (sym c.place-distance.ensures) fits))))

pub push_elements_used-loop-i-preserved : goal.push_elements_used-loop-i-preserved
push_elements_used-loop-i-preserved g t c =
    let x = site_setup g.L.SoundLayout.rows c.args.self.now.site.now in
    object_more _ c.args.d c.args.elements.start c.args.elements.stride c.loop-i.i c.place-distance.result c.args.uses.now c.loop-i.uses c.push_covered.new.uses c.place-distance.ensures c.loop-i.invariant
    (object_tested x c.args.self.now.register c.args.d c.place-distance.result c.loop-i.uses c.push_guards.new.uses c.push_covered.new.uses c.in_ok-push_guards.ensures c.in_ok-push_covered.ensures)

pub push_covered-overflow_add-start : goal.push_covered-overflow_add-start
push_covered-overflow_add-start g t c =
    let h = c.args.self.now.site.now.h.now in
    let near = near_member h c.requires.site.laid.site.keeps (site_places g.L.SoundLayout.rows c.args.self.now.site.now) c.loop-m.m c.requires.fits c.class.ensures c.as_slice-members.ensures c.loop-m-test.true c.index-members-m.is c.member_place.ensures in
    let low = near.low in
    omega (arith, low)

pub push_covered-push_member_used-requires : goal.push_covered-push_member_used-requires
push_covered-push_member_used-requires g t c κs within =
    let h = c.args.self.now.site.now.h.now in
    let near = near_member h c.requires.site.laid.site.keeps (site_places g.L.SoundLayout.rows c.args.self.now.site.now) c.loop-m.m c.requires.fits c.class.ensures c.as_slice-members.ensures c.loop-m-test.true c.index-members-m.is c.member_place.ensures in
    let d = c.decreases in
    (omega arith, (within, (c.requires.site, near.fits)))

pub push_covered-loop-m-preserved : goal.push_covered-loop-m-preserved
push_covered-loop-m-preserved g t c =
    let h = c.args.self.now.site.now.h.now in
    let x = site_setup g.L.SoundLayout.rows c.args.self.now.site.now in
    let near = near_member h c.requires.site.laid.site.keeps (site_places g.L.SoundLayout.rows c.args.self.now.site.now) c.loop-m.m c.requires.fits c.class.ensures c.as_slice-members.ensures c.loop-m-test.true c.index-members-m.is c.member_place.ensures in
    member_more _ _ x c.args.c c.args.offset (c.args.offset + c.member_place.result) c.loop-m.m c.index-members-m.result c.args.uses.now c.loop-m.uses c.push_member_used.new.uses near.there near.lies c.loop-m.invariant c.in_ok-push_member_used.ensures (λ n at. refl)
