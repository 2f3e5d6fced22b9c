use Rattle.std.proofs.Common.{◌≡◌, ◌∷◌, [], ◌++◌, length, refl, sym, ap, subst, ◌∙◌, append_assoc, append-nil, arith, rules}
use Rattle.std.specs.Prelude.{vec_len}
use Rattle.std.specs.Vec.Iter.{into_iter_items}
use Rattle.cxx_subobject.specs.Preorder.{preorder}
use Rattle.abi_sound.specs.Places.{places_of}
use Rattle.abi_vtable.specs.invariants.Parts.{AreNexts, AreParts, view_of_parts}
use Rattle.abi_vtable.proofs.Parts.{listed_valid, taken_next, next_there, next_known, no_parts, part_more, parts_all, nothing_left}
use Rattle.abi_vtable.proofs.view.parts_of.Goals as goal

pub loop-s-init : goal.loop-s-init
loop-s-init g c =
    let gives = c.into_iter-s-iterator.ensures.into_iter_gives in
    let items = c.into_vec-s-items.result in
    let counted : length items.items ≡ vec_len items = search rules in (
      gives.0 ∙ c.into_vec-s-items.ensures ∙ c.requires.list,
      no_parts c.args.h.now (places_of c.args.h.now (g.L.SoundLayout.rows c.args.layout.now)) (view_of_parts c.args.x.now) (preorder c.args.h.now c.args.x.now.class) c.in_ok-parts.parts.items c.in_ok-parts.ensures.items,
      gives.1 ∙ sym counted ∙ sym (ap length gives.0),
    )

pub next_at-next-requires : goal.next_at-next-requires
next_at-next-requires g c =
    let h = c.args.h.now in
    let l = places_of h (g.L.SoundLayout.rows c.args.layout.now) in
    let x = view_of_parts c.args.x.now in
    let list = preorder h c.args.x.now.class in
    let at = c.loop-s in
    let rest = into_iter_items c.next.new.self in
    let steps : into_iter_items at.s-iterator ≡ c.in-Some.s ∷ rest = c.in-Some.ensures.steps.0 in
    let whole : at.yielded ++ c.in-Some.s ∷ rest ≡ list = ap (λ xs. at.yielded ++ xs) (sym steps) ∙ at.invariant.0 in
    let count : c.len-n.result ≡ length at.parts.items = search rules in
    let nexts : AreNexts l x list c.deref.result.now = subst (λ ns. AreNexts l x list ns) (sym c.deref.ensures.value) (subst (λ xs. AreNexts l x xs c.in_ok-nexts.nexts.items) (c.as_slice.ensures ∙ c.requires.list) c.in_ok-nexts.ensures) in
    next_there h l x list at.yielded rest c.in-Some.s at.parts.items c.deref.result.now c.len-n.result whole at.invariant.1 count nexts

pub part_of-part-requires-clause-valid : goal.part_of-part-requires-clause-valid
part_of-part-requires-clause-valid g c =
    let h = c.args.h.now in
    let l = places_of h (g.L.SoundLayout.rows c.args.layout.now) in
    let x = view_of_parts c.args.x.now in
    let list = preorder h c.args.x.now.class in
    let at = c.loop-s in
    let rest = into_iter_items c.next.new.self in
    let steps : into_iter_items at.s-iterator ≡ c.in-Some.s ∷ rest = c.in-Some.ensures.steps.0 in
    let whole : at.yielded ++ c.in-Some.s ∷ rest ≡ list = ap (λ xs. at.yielded ++ xs) (sym steps) ∙ at.invariant.0 in
    listed_valid h c.keeps.ensures c.args.x.now.class list (length at.yielded) c.in-Some.s refl (taken_next list at.yielded rest c.in-Some.s whole)

pub loop-s-preserved : goal.loop-s-preserved
loop-s-preserved g c =
    let h = c.args.h.now in
    let l = places_of h (g.L.SoundLayout.rows c.args.layout.now) in
    let x = view_of_parts c.args.x.now in
    let list = preorder h c.args.x.now.class in
    let at = c.loop-s in
    let rest = into_iter_items c.next.new.self in
    let steps : into_iter_items at.s-iterator ≡ c.in-Some.s ∷ rest = c.in-Some.ensures.steps.0 in
    let whole : at.yielded ++ c.in-Some.s ∷ rest ≡ list = ap (λ xs. at.yielded ++ xs) (sym steps) ∙ at.invariant.0 in
    let count : c.len-n.result ≡ length at.parts.items = search rules in
    let nexts : AreNexts l x list c.deref.result.now = subst (λ ns. AreNexts l x list ns) (sym c.deref.ensures.value) (subst (λ xs. AreNexts l x xs c.in_ok-nexts.nexts.items) (c.as_slice.ensures ∙ c.requires.list) c.in_ok-nexts.ensures) in
    let number = next_known h l x list at.yielded rest c.in-Some.s at.parts.items c.deref.result.now c.next_at-next.result c.len-n.result whole at.invariant.1 count nexts c.next_at-next.ensures in (
      append_assoc at.yielded (c.in-Some.s ∷ []) _ ∙ whole,
      part_more h l x list at.yielded c.in-Some.s at.parts.items c.push.new.self.items c.part_of-part.result c.part_of-part.ensures.at (c.part_of-part.ensures.part l list number) c.in_ok-push.ensures.items at.invariant.1,
      let was = at.invariant.2 in
          let gone = c.in-Some.ensures.steps.1 in
          let short = ap length steps in
          omega arith,
    )

pub returns : goal.returns
returns g c =
    let h = c.args.h.now in
    let l = places_of h (g.L.SoundLayout.rows c.args.layout.now) in
    let x = view_of_parts c.args.x.now in
    let at = c.loop-s in
    let none = c.in-None.ensures.steps in
    let empty : into_iter_items at.s-iterator ≡ [] = nothing_left _ (sym at.invariant.2 ∙ none.0) in
    let all : at.yielded ≡ preorder h c.args.x.now.class = sym (append-nil at.yielded) ∙ ap (λ xs. at.yielded ++ xs) (sym empty) ∙ at.invariant.0 in
    subst (λ ps. AreParts h l x ps) (sym c.from_vec.ensures) (parts_all h l x at.yielded at.parts.items all at.invariant.1)
