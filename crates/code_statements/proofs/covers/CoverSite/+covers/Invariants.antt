use Rattle.std.proofs.Common.{◌+◌, ◌*◌}
use Rattle.code_statements.specs.invariants.Pushes.{CoversObjects, CoversMembers}
use Rattle.code_statements.proofs.covers.CoverSite.+covers.Given as goal
use Rattle.code_ops.specs.invariants.Sites.{site_setup}

-- a member object is of a class of a smaller number than the class that declares it
abbrev pub decreases-push_elements_used : goal.decreases-push_elements_used
decreases-push_elements_used g l = 3 * l.d.0 + 2

abbrev pub decreases-push_covered : goal.decreases-push_covered
decreases-push_covered g l = 3 * l.c.0 + 1

abbrev pub decreases-push_member_used : goal.decreases-push_member_used
decreases-push_member_used g l = 3 * l.b.0

abbrev pub invariant-push_elements_used-loop-i : goal.invariant-push_elements_used-loop-i
invariant-push_elements_used-loop-i g l = CoversObjects (site_setup g.L.SoundLayout.rows l.self.site.now) l.self.register l.d l.elements.start l.elements.stride l.i l.fn.uses l.uses

abbrev pub invariant-push_covered-loop-m : goal.invariant-push_covered-loop-m
invariant-push_covered-loop-m g l = CoversMembers (site_setup g.L.SoundLayout.rows l.self.site.now) l.self.register l.c l.offset l.m l.fn.uses l.uses
