-- Assumes nothing.
use Rattle.reader.proofs.Covering.{words_cover}
use Rattle.reader.proofs.laws.words_cover_their_line.Goals as goal

pub returns : goal.returns
returns c = words_cover
