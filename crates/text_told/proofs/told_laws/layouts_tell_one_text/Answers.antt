use Rattle.text_told.proofs.OneText.{one_text}
use Rattle.text_told.proofs.told_laws.layouts_tell_one_text.Goals as goal

pub returns : goal.returns
returns c = λ h one other program steps one_fits other_fits plain. one_text h one other program steps one_fits other_fits plain
