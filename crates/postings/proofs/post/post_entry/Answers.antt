-- Balanced legs make an entry. Assumes nothing.
use Rattle.std.proofs.Common.{◌≡◌, Ok, sym, ap, ◌∙◌, rules}
use Rattle.model.specs.Step.{posted_legs}
use Rattle.postings.proofs.Posting.{read_entry}
use Rattle.postings.proofs.post.post_entry.Goals as goal

pub unwrap-requires : goal.unwrap-requires
unwrap-requires c =
    let ps = c.args.postings.now in
    let read : posted_legs 1 ps ≡ Ok c.as_slice-2.result.now = sym c.in_ok-legs.ensures ∙ ap Ok (sym c.as_slice-2.ensures.value) in
    c.new-2.ensures.tells.1 (read_entry ps _ (search rules) read (search rules))
