use Rattle.std.proofs.Common.{◌≡◌, Some}
use Rattle.std.specs.Prelude.{slice_get}
use Rattle.cxx_subobject.specs.declared.Subobject.{Subobject}
use Rattle.cxx_subobject.specs.Preorder.{preorder}
use Rattle.abi_sound.specs.Places.{places_of}
use Rattle.abi_slots.specs.Groups.{IsEntryWord}
use Rattle.abi_vtable.specs.invariants.Parts.{view_of_parts}
use Rattle.abi_vtable.specs.invariants.Returns.{AreKnown}
use Rattle.abi_vtable.specs.invariants.Words.{GoAlongTo}
use Rattle.abi_vtable.proofs.tables.entry_words.Given as goal

abbrev pub invariant-loop-n : goal.invariant-loop-n
invariant-loop-n g l = AreKnown l.site.h.now (places_of l.site.h.now (g.L.SoundLayout.rows l.site.layout.now)) l.known.items × ((t : Subobject) → slice_get (preorder l.site.h.now l.x.class) l.number ≡ Some t → GoAlongTo (IsEntryWord l.site.h.now (places_of l.site.h.now (g.L.SoundLayout.rows l.site.layout.now)) (view_of_parts l.x) t) l.entries l.n l.words.items)
