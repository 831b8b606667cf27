-- A post is what is posted, once the book is fit. Assumes nothing.
use Rattle.std.proofs.Common.{◌≡◌, true, List, Some, Ok, Err, Result, sym, refl, ap, ◌∙◌}
use Rattle.register.specs.Register.{BookFault}
use Rattle.register.specs.Register.{Refusal, book_answer}
use Rattle.ledger.specs.declared.entry.Entry.{Entry}
use Rattle.ledger.specs.declared.leg.Leg.{Leg}
use Rattle.model.specs.declared.request.Posting.{Posting}
use Rattle.model.specs.Results.{and_then, unless}
use Rattle.model.specs.State.{State}
use Rattle.model.specs.Step.{Movement, unchanged, posting}
use Rattle.postings.specs.Posts.{posted, legs_in}
use Rattle.postings.proofs.Valid.{posting_is}
use Rattle.book.specs.Proposals.{entering, proposes}

-- legs are put to the ledger
abbrev put : List Leg → Result (Movement (Unit {0})) Refusal
put ls = Ok (record { answer = tt; legs = Some ls; change = unchanged })

put_entry : (r : Result Entry BookFault) → proposes (λ e. entering tt e unchanged) r ≡ and_then (legs_in (book_answer r)) put
put_entry (Ok e) = refl
put_entry (Err f) = refl

pub posting_proposed : (s : State) (ps : List Posting) (r : Result Entry BookFault) → s.fit ≡ true → legs_in (book_answer r) ≡ posted ps → proposes (λ e. entering tt e unchanged) r ≡ posting s ps
posting_proposed s ps r fit e =
    put_entry r ∙ ap (λ x. and_then x put) e ∙ ap (λ b. and_then (unless b 1 0) (λ _. and_then (posted ps) put)) (sym fit) ∙ sym (posting_is s ps)
