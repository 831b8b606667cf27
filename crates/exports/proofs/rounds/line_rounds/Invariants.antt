-- So many rounds are done. Assumes nothing.
use Rattle.std.proofs.Common.{◌≡◌}
use Rattle.apportion.specs.Ties.{Lawful, by_place}
use Rattle.book.specs.View.{state_of}
use Rattle.requests.specs.Requests.{ruled}
use Rattle.exports.specs.Exports.{line_rounds}
use Rattle.exports.proofs.rounds.line_rounds.Given as goal

abbrev pub invariant-loop-round : goal.invariant-loop-round
invariant-loop-round g l = (law : Lawful by_place) → state_of g.L.Balances l.book ≡ line_rounds (ruled law) (state_of g.L.Balances l.initial.book) l.line l._round
