-- The legs so far and those left are all. Assumes nothing.
use Rattle.std.proofs.Common.{◌≡◌, ◌+◌, drop, length}
use Rattle.model.specs.Step.{posted_legs}
use Rattle.postings.proofs.Posting.{joined}
use Rattle.postings.proofs.post.posted_legs.Given as goal

abbrev pub invariant-loop-i : goal.invariant-loop-i
invariant-loop-i l = record {
  counted : length l.legs.items ≡ l.i;
  all : joined l.legs.items (posted_legs (l.i + 1) (drop l.i l.postings)) ≡ posted_legs 1 l.postings;
}
