-- So many rounds are done. Assumes nothing.
use Rattle.std.proofs.Common.{◌≡◌}
use Rattle.book.specs.View.{state_of}
use Rattle.exports.specs.Exports.{exchange_rounds}
use Rattle.exports.proofs.rounds.convert_rounds.Given as goal

abbrev pub invariant-loop-round : goal.invariant-loop-round
invariant-loop-round g l = state_of g.L.Balances l.book ≡ exchange_rounds (state_of g.L.Balances l.initial.book) l.exchange l._round
