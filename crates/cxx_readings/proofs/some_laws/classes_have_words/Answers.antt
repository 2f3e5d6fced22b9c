use Rattle.cxx_readings.proofs.NameWords.{names_are_words, named_at}
use Rattle.cxx_readings.proofs.some_laws.classes_have_words.Goals as goal

pub returns : goal.returns
returns c = λ text s ts bad rest cover reads n r is. named_at s.records n r (names_are_words text s ts bad rest cover reads) is
