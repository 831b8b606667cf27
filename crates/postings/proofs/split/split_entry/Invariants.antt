-- The legs drawn and those left are all. Assumes nothing.
use Rattle.std.proofs.Common.{◌≡◌}
use Rattle.model.specs.Postings.{portion_legs}
use Rattle.postings.specs.Drafts.{drawn, with_legs}
use Rattle.postings.proofs.split.split_entry.Given as goal

abbrev pub invariant-loop-share : goal.invariant-loop-share
invariant-loop-share l =
    with_legs (drawn l.draft) (portion_legs l.column l.share-iterator.a.rest.now l.share-iterator.b.rest.now)
    ≡ with_legs (drawn l.initial.draft) (portion_legs l.column l.shares l.portions)
