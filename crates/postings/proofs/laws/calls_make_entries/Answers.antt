-- The legs of each call make an entry. Assumes nothing.
use Rattle.postings.proofs.Valid.{calls_make_entries}
use Rattle.postings.proofs.laws.calls_make_entries.Goals as goal

pub returns : goal.returns
returns c = calls_make_entries
