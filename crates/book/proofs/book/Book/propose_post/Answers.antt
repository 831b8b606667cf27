-- The entry of the post, once the book is fit. Assumes nothing.
use Rattle.book.specs.View.{state_of}
use Rattle.book.proofs.Admitted.{fit_passes}
use Rattle.book.proofs.Posts.{posting_proposed}
use Rattle.book.proofs.book.Book.propose_post.Goals as goal

pub returns : goal.returns
returns g c =
    let s = state_of g.L.Balances c.args.self.now in
    posting_proposed s c.args.postings.now c.post_entry.result (fit_passes s c.in_ok-check_fit.ensures) c.post_entry.ensures
