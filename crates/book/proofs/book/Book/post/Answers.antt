-- The step, and with it the law. Assumes nothing.
use Rattle.model.specs.Calls.{post}
use Rattle.model.proofs.Runs.{still_conserved}
use Rattle.book.specs.View.{state_of}
use Rattle.book.proofs.book.Book.post.Goals as goal

pub returns : goal.returns
returns g c =
    let s = state_of g.L.Balances c.args.self.now in
    let t = state_of g.L.Balances c.enter_post.new.self in
    record { step = c.enter_post.ensures; law = still_conserved s (post c.args.postings.now) _ t c.enter_post.ensures }
