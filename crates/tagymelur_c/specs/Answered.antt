-- What a call leaves in the buffer of its caller.
use Rattle.std.specs.Prelude.{◌≡◌, ℕ, List, ◌++◌}
use Rattle.cxxabi_cmd.specs.Statuses.{exit_status}
use Rattle.cxxabi_cmd.specs.Output.{Answer, Output}

-- the text is the whole text of the answer, and the code is that of its status
pub record IsWhole (words : List (List ℕ)) (bytes : List ℕ) (code : ℕ) (text : List ℕ) : Type 0 where
  pub answer : Answer
  pub output : Output words bytes answer
  pub same : code ≡ exit_status answer.status
  pub is : text ≡ answer.text

-- the text is a front of that of the answer
pub record IsAnswerFront (words : List (List ℕ)) (bytes : List ℕ) (text : List ℕ) : Type 0 where
  pub answer : Answer
  pub output : Output words bytes answer
  pub rest : List ℕ
  pub is : answer.text ≡ text ++ rest
