-- Assumes nothing.
use Rattle.std.proofs.Common.{◌≡◌, ◌+◌, ◌*◌, map, length}
use Rattle.std.specs.Slice.Iter.{chunks_exact_rest, chunks_exact_size}
use Rattle.reader.specs.Kinds.{view}
use Rattle.reader.specs.Requests.{postings_of}
use Rattle.reader.proofs.Patterns.{prepend}
use Rattle.reader.proofs.pattern.read_post.Given as goal

abbrev pub invariant-loop-triple : goal.invariant-loop-triple
invariant-loop-triple l = record {
  size : chunks_exact_size l.triple-iterator ≡ 3;
  count : 3 * length l.postings.items + length (chunks_exact_rest l.triple-iterator) ≡ length l.words;
  read : prepend l.postings.items (postings_of (map view (chunks_exact_rest l.triple-iterator))) ≡ postings_of (map view l.words);
}
