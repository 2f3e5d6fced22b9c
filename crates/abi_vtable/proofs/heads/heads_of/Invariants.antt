use Rattle.std.proofs.Common.{◌≡◌, ◌++◌, drop}
use Rattle.cxx_hierarchy.specs.Classes.{Classes}
use Rattle.cxx_subobject.specs.Preorder.{preorder}
use Rattle.abi_sound.specs.Places.{Places}
use Rattle.abi_vtable.specs.invariants.Parts.{AreKeptParts, view_of_parts, subobjects_numbered, heads_of_bases}
use Rattle.abi_vtable.proofs.heads.heads_of.Given as goal

abbrev pub invariant-loop-part : goal.invariant-loop-part
invariant-loop-part l = (h : Classes) (p : Places) → AreKeptParts h p l.x → subobjects_numbered (preorder h l.x.class) l.heads.items ++ heads_of_bases h p (view_of_parts l.x) (drop l.part-index l.part-items) ≡ subobjects_numbered (preorder h l.x.class) l.initial.heads.items ++ heads_of_bases h p (view_of_parts l.x) l.part-items
