-- When answers that are kept are right.
use Rattle.std.specs.Prelude.{IsSome}
use Rattle.cxx_hierarchy.specs.declared.records.ClassId.{ClassId}
use Rattle.cxx_hierarchy.specs.Classes.{Classes}
use Rattle.path_tables.specs.declared.asked.Answers.{Answers}
use Rattle.path_tables.specs.Kept.{list_of, AreLists, AreCasts, AreFinals, AreWithins, AreDowns}

-- each list is that of its class, and each answer that of its key
pub record AreAnswers (h : Classes) (answers : Answers) : Type 0 where
  pub lists_right : AreLists h answers.lists
  pub casts_right : AreCasts h answers.casts
  pub finals_right : AreFinals h answers.finals
  pub withins_right : AreWithins h answers.withins
  pub downs_right : AreDowns h answers.downs

-- the list of a class was made
abbrev pub IsListed : Answers → ClassId → Type 0
IsListed answers c = IsSome (list_of answers.lists c.0)
