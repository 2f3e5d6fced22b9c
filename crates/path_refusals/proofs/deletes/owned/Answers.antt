use Rattle.std.proofs.Common.{◌∙◌, true, false}
use Rattle.path_refusals.proofs.Reading.{begun_of}
use Rattle.path_refusals.proofs.Owning.{no_owner, incomplete_owner}
use Rattle.path_refusals.proofs.deletes.owned.Goals as goal

pub returns-then-not-is_in_heap_object : goal.returns-then-not-is_in_heap_object
returns-then-not-is_in_heap_object c = λ h s p stands q e. no_owner h s p (c.is_in_heap_object.ensures h s p stands q (begun_of s p e) ∙ c.if-not-is_in_heap_object.true)

pub returns-then-is_incomplete : goal.returns-then-is_incomplete
returns-then-is_incomplete c = λ h s p stands q e. incomplete_owner h s p true (c.is_in_heap_object.ensures h s p stands q (begun_of s p e) ∙ c.if-not-is_in_heap_object.false) (c.is_incomplete.ensures h s p stands q ∙ c.if-is_incomplete.true)

pub returns-else-is_incomplete : goal.returns-else-is_incomplete
returns-else-is_incomplete c = λ h s p stands q e. incomplete_owner h s p false (c.is_in_heap_object.ensures h s p stands q (begun_of s p e) ∙ c.if-not-is_in_heap_object.false) (c.is_incomplete.ensures h s p stands q ∙ c.if-is_incomplete.false)
