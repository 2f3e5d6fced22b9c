use Rattle.std.proofs.Common.{◌≡◌, ◌≤◌, ◌+◌, ◌∙◌, length, ap, sym, subst, arith}
use Rattle.std.specs.Prelude.{Contains}
use Rattle.cxx_overrider.specs.declared.FunctionId.{FunctionId}
use Rattle.cxx_overrider.specs.Virtuals.{own}
use Rattle.cxx_search.specs.Searches.{destructor_of}
use Rattle.abi_slots.specs.Listing.{entries, entry_number, listing, same_entry_key}
use Rattle.abi_slots.specs.Slots.{first_key}
use Rattle.abi_slots.proofs.EntryPlaces.{place_within}
use Rattle.code_ops.specs.invariants.Sites.{site_places}
use Rattle.code_statements.proofs.EndEntries.{own_end, end_entry}
use Rattle.code_statements.proofs.deletes.deleting_entry.Goals as goal

pub overflow_add-result : goal.overflow_add-result
overflow_add-result g c =
    let h = c.args.site.now.h.now in
    let l = site_places g.L.SoundLayout.rows c.args.site.now in
    let f = c.destructor_of.result in
    let is : f ≡ destructor_of h c.args.c = c.destructor_of.ensures in
    let listed : Contains (own h f.class) f = subst (λ (e : FunctionId). Contains (own h e.class) e) (sym is) (own_end h c.requires.laid.site.keeps c.args.c c.requires.is_virtual) in
    let entry : c.entry.result ≡ entry_number h l (first_key h f) = c.entry.ensures h l c.requires.laid.site.are_slots listed in
    let low : entry_number h l (first_key h f) ≤ length (entries h l f.class) = place_within (same_entry_key (listing h l (first_key h f))) (entries h l f.class) in
    let size : length c.entries-entries.result.now ≡ length (entries h l c.args.c) = ap (λ (xs : _). length xs) (c.entries-entries.ensures.entries h l c.requires.laid.site.are_slots c.requires.known) in
    let class : length (entries h l f.class) ≡ length (entries h l c.args.c) = ap (λ (e : FunctionId). length (entries h l e.class)) is in
    let few = c.entries-entries.ensures.few in
    omega arith

pub returns : goal.returns
returns g c =
    let h = c.args.site.now.h.now in
    let rows = g.L.SoundLayout.rows c.args.site.now.layout.now in
    let l = site_places g.L.SoundLayout.rows c.args.site.now in
    let f = c.destructor_of.result in
    let is : f ≡ destructor_of h c.args.c = c.destructor_of.ensures in
    let listed : Contains (own h f.class) f = subst (λ (e : FunctionId). Contains (own h e.class) e) (sym is) (own_end h c.requires.laid.site.keeps c.args.c c.requires.is_virtual) in
    let entry : c.entry.result ≡ entry_number h l (first_key h f) = c.entry.ensures h l c.requires.laid.site.are_slots listed in
    let next = end_entry h rows c.requires.laid.site.keeps (g.met.L.SoundLayout.sound c.args.site.now.layout.now h c.requires.laid.layout) c.args.c c.requires.known c.requires.is_virtual in
    ap (λ n. n + 1) (entry ∙ ap (λ (e : FunctionId). entry_number h l (first_key h e)) is) ∙ sym next
