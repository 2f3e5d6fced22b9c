-- Where a state stands in memory, virtual pointers show its views.
use Rattle.std.proofs.Common.{List}
use Rattle.agree_calls.specs.Shown.{ShowsViews}
use Rattle.agree_relation.specs.Columns.{ColumnsStand}
use Rattle.agree_relation.specs.Goings.{ArePlanned, Going}
use Rattle.agree_relation.specs.Worlds.{IsProgramWorld, World, world_classes}
use Rattle.agree_statements.proofs.Bases.{under, seen_from}
use Rattle.agree_statements.proofs.Seen.{in_sight}
use Rattle.agree_statements.specs.Statements.{AreSeen}
use Rattle.byte_machine.specs.Running.{Running}
use Rattle.path_model.specs.Typed.{AllSettled}
use Rattle.path_model.specs.Values.{Objects}

pub shows_views : (w : World) (s : Objects) (goings : List Going) (b : Running) → IsProgramWorld w → ColumnsStand w s b.memory b.objects b.heap b.notes → ArePlanned w s.classes s.phases goings → AllSettled (world_classes w) s → AreSeen (world_classes w) s → ShowsViews w s b.memory
shows_views w s goings b world columns planned settled seen = record {
  of = λ p c made unclosed ready within dynamic.
      seen_from w s b p c (under w s b world columns p c (in_sight w s goings p c planned settled seen made ready) made unclosed within dynamic);
  is_view = λ p c made unclosed ready within dynamic. (under w s b world columns p c (in_sight w s goings p c planned settled seen made ready) made unclosed within dynamic).sight.is_view;
}
