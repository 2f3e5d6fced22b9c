use Rattle.std.proofs.Common.{◌≡◌, ◌∙◌, ℕ, ◌+◌, Some, List, ◌++◌, length, ap, sym, subst, refl}
use Rattle.std.specs.List.{slice_get}
use Rattle.std.proofs.lemmas.Option.{slice_get_read}
use Rattle.cxx_hierarchy.specs.declared.records.ClassId.{ClassId}
use Rattle.cxx_hierarchy.specs.declared.records.Member.{Member}
use Rattle.cxx_hierarchy.specs.Classes.{members_in, members_of}
use Rattle.abi_sound.specs.Places.{places_of}
use Rattle.text_told.specs.declared.pointers.MemberObjects.{MemberObjects}
use Rattle.text_told.specs.Pointers.{objects_by_member}
use Rattle.text_told.proofs.Steps.{member_is, range_more}
use Rattle.text_told.proofs.pointers.push_objects.Goals as goal

pub loop-m-preserved : goal.loop-m-preserved
loop-m-preserved g c =
    let h = c.args.h.now in
    let l = places_of h (g.L.SoundLayout.rows c.args.layout.now) in
    let b = c.args.b in
    let m = c.loop-m.m in
    let member = c.index-members-m.result in
    let f : ℕ → List MemberObjects = λ n. objects_by_member (c.args.place + l.member b n) (slice_get (members_of h b) n) in
    let members : c.as_slice-members.result.now ≡ members_of h b = c.as_slice-members.ensures ∙ ap members_in (sym c.class.ensures) in
    let there : slice_get (members_of h b) m ≡ Some member = subst (λ (xs : List (Member ClassId)). slice_get xs m ≡ Some member) members (slice_get_read c.as_slice-members.result.now (length c.as_slice-members.result.now) m member refl c.loop-m-test.true c.index-members-m.is) in
    let adds = member_is h b m (c.args.place + l.member b m) (c.args.place + c.member_place.result) c.elements.result member there (ap (λ k. c.args.place + k) c.member_place.ensures) c.elements.ensures in
    c.in_ok-push_by_type.ensures
    ∙ (ap (λ (list : List MemberObjects). c.loop-m.list.items ++ list) adds
    ∙ (ap (λ (list : List MemberObjects). list ++ f m) c.loop-m.invariant ∙ range_more f c.args.list.now.items m))
