-- Assumes nothing.
use Rattle.std.proofs.Common.{◌≡◌, map, length, drop}
use Rattle.reader.specs.Kinds.{view}
use Rattle.reader.specs.Requests.{shares_of}
use Rattle.reader.proofs.Patterns.{prepend}
use Rattle.reader.proofs.pattern.read_shares.Given as goal

abbrev pub invariant-loop-word : goal.invariant-loop-word
invariant-loop-word l = record {
  count : length l.shares.items ≡ l.word-index;
  read : prepend l.shares.items (shares_of (map view (drop l.word-index l.words))) ≡ shares_of (map view l.words);
}
