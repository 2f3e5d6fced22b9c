-- A marked class is a virtual base, and a virtual base is marked.
use Rattle.std.proofs.Common.{◌≡◌, List, sym, ◌∙◌, ap, subst}
use Rattle.cxx_hierarchy.specs.Classes.{Classes}
use Rattle.cxx_hierarchy.specs.VirtualBases.{HasVirtualBase}
use Rattle.cxx_hierarchy.specs.invariants.VirtualRows.{Row, mark}
use Rattle.cxx_hierarchy.proofs.VirtualRows.{virtual_sound, virtual_complete}
use Rattle.cxx_hierarchy.proofs.hierarchy.Hierarchy.has_virtual_base.Goals as goal

pub returns : goal.returns
returns c =
    let tables = c.self.invariant.2 in
    let is : c.is_marked.result ≡ mark c.self.inside.virtual_bases.items c.args.c.0 c.args.v.0 = c.is_marked.ensures ∙ ap (λ (rows : List Row). mark rows c.args.c.0 c.args.v.0) c.deref.ensures.value in (
      λ t. subst (λ (h : Classes). HasVirtualBase h c.args.c c.args.v) c.self.view_is (virtual_sound c.self.inside.classes.items c.self.inside.virtual_bases.items c.self.invariant.0 tables.every_rows c.args.c c.args.v (sym is ∙ t)),
      λ has. is ∙ virtual_complete c.self.inside.classes.items c.self.inside.virtual_bases.items tables.every_rows tables.every_size c.args.c c.args.v (subst (λ (h : Classes). HasVirtualBase h c.args.c c.args.v) (sym c.self.view_is) has),
    )
