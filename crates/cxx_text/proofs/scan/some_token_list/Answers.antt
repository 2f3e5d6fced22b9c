use Rattle.cxx_text.proofs.SomeTokens.{some_tokens}
use Rattle.cxx_text.proofs.scan.some_token_list.Goals as goal

pub returns : goal.returns
returns c = some_tokens
