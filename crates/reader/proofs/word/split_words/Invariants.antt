-- Assumes nothing.
use Rattle.std.proofs.Common.{length}
use Rattle.reader.proofs.Splitting.{Read}
use Rattle.reader.proofs.word.split_words.Given as goal

abbrev pub invariant-loop-from : goal.invariant-loop-from
invariant-loop-from l = Read l.line l.column l.rest l.words.items

abbrev pub decreases-loop-from : goal.decreases-loop-from
decreases-loop-from l = length l.rest
