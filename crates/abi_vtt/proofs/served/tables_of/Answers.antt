use Rattle.std.proofs.Common.{◌≡◌, ◌+◌, ◌≤◌, Some, length, drop, get_or, ap, sym, subst, ◌∙◌, arith}
use Rattle.foundation.proofs.Places.{any_default}
use Rattle.cxx_subobject.specs.Preorder.{preorder}
use Rattle.abi_sound.specs.Places.{places_of}
use Rattle.abi_slots.proofs.Settings.{setting_of}
use Rattle.abi_slots.specs.Views.{next}
use Rattle.abi_vtable.specs.invariants.Parts.{number, view_of_parts, subobjects_numbered}
use Rattle.abi_vtt.specs.invariants.Served.{IsNoted, AreServingTo}
use Rattle.abi_vtt.proofs.Noting.{front_of}
use Rattle.abi_vtt.proofs.Serving.{leads_within, parts_numbered, parts_size, head_at, head_within, serving_more, serving_all}
use Rattle.abi_vtt.proofs.served.tables_of.Goals as goal

pub note_chain-requires-clause-within : goal.note_chain-requires-clause-within
note_chain-requires-clause-within g c =
    let h = c.args.h.now in
    let l = places_of h (g.L.SoundLayout.rows c.args.layout.now) in
    let v = c.args.x.now in
    let numbers = c.as_slice-head-items.result.now in
    head_within h l (view_of_parts v) numbers c.loop-n.n (get_or numbers c.loop-n.n 0) (length c.as_slice-parts.result.now)
    (ap (subobjects_numbered (preorder h v.class)) c.as_slice-head-items.ensures.value ∙ c.in_ok-heads.ensures h l (record { keeps = c.keeps.ensures; view = c.requires.view }))
    c.loop-n-test.true (any_default numbers c.loop-n.n 0 (get_or numbers c.loop-n.n 0) c.loop-n-test.true) (parts_size h l v c.requires.view ∙ ap length (sym c.as_slice-parts.ensures))

pub note_chain-requires-clause-closed : goal.note_chain-requires-clause-closed
note_chain-requires-clause-closed g c = leads_within c.args.h.now (places_of c.args.h.now (g.L.SoundLayout.rows c.args.layout.now)) c.args.x.now c.requires.view c.as_slice-parts.result.now c.as_slice-parts.ensures

pub loop-n-preserved : goal.loop-n-preserved
loop-n-preserved g c =
    let h = c.args.h.now in
    let rows = g.L.SoundLayout.rows c.args.layout.now in
    let l = places_of h rows in
    let v = c.args.x.now in
    let x = view_of_parts v in
    let set = setting_of h rows c.keeps.ensures (g.met.L.SoundLayout.sound c.args.layout.now h c.requires.layout) x c.requires.view.view in
    let list = preorder h v.class in
    let numbers = c.as_slice-head-items.result.now in
    let n = get_or numbers c.loop-n.n 0 in
    let new = c.note_chain.new.tables in
    let old = c.loop-n.tables.items in
    let at = head_at h l x numbers c.loop-n.n n
    (ap (subobjects_numbered list) c.as_slice-head-items.ensures.value ∙ c.in_ok-heads.ensures h l (record { keeps = c.keeps.ensures; view = c.requires.view }))
    c.loop-n-test.true (any_default numbers c.loop-n.n 0 n c.loop-n-test.true) in
    let are = parts_numbered h l v c.requires.view c.keeps.ensures c.as_slice-parts.result.now c.as_slice-parts.ensures in
    let size : length new ≡ c.loop-n.tables.len = (c.note_chain.ensures list (next l x) (Some at.head) are (number n at.head at.there)).size ∙ c.deref_mut.ensures.len in
    subst (λ ts. AreServingTo h l x (c.loop-n.n + 1) ts) (sym (front_of new (drop (length new) old) c.loop-n.tables.len size))
    (serving_more h l x set c.loop-n.n n old new at (λ s of. subst (λ ts. IsNoted list (next l x) s c.loop-n.n (v.class.0 + 1) ts new) c.deref_mut.ensures.value (c.note_chain.ensures list (next l x) s are of)) c.loop-n.invariant)

pub returns : goal.returns
returns g c =
    let h = c.args.h.now in
    let rows = g.L.SoundLayout.rows c.args.layout.now in
    let l = places_of h rows in
    let x = view_of_parts c.args.x.now in
    let set = setting_of h rows c.keeps.ensures (g.met.L.SoundLayout.sound c.args.layout.now h c.requires.layout) x c.requires.view.view in
    serving_all h l x set c.loop-n.n c.in_ok-heads.heads.items c.loop-n.tables.items (c.in_ok-heads.ensures h l (record { keeps = c.keeps.ensures; view = c.requires.view })) (subst (λ xs. length xs ≤ c.loop-n.n) c.as_slice-head-items.ensures.value (let e = c.loop-n-test.false in omega arith)) c.loop-n.invariant
