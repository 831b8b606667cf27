-- Assumes nothing.
use Rattle.reader.proofs.Spelling.{one_spelling}
use Rattle.reader.proofs.laws.numbers_have_one_spelling.Goals as goal

pub returns : goal.returns
returns c = one_spelling
