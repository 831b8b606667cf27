-- What a post answers, but for the book's fitness. Assumes nothing.
use Rattle.std.specs.Prelude.{◌&&◌, List, length, Ok, Err, Option, Result, nat_le}
use Rattle.arrayvec.specs.ArrayVec.{ArrayVec}
use Rattle.register.specs.Register.{Refusal}
use Rattle.money.specs.declared.currency.Currency.{Currency}
use Rattle.ledger.specs.declared.entry.Entry.{Entry}
use Rattle.ledger.specs.declared.leg.Leg.{Leg}
use Rattle.ledger.specs.Entries.{most_legs}
use Rattle.ledger.specs.Held.{legs_of}
use Rattle.model.specs.declared.request.Posting.{Posting}
use Rattle.model.specs.Results.{and_then, unless}
use Rattle.model.specs.Step.{least_legs, posted_legs, unbalanced, balance}

-- the lowest currency that does not sum to zero
unfoldable pub lowest_unbalanced : List Leg → Option Currency
lowest_unbalanced ls = unbalanced ls

-- the legs of a post: 6 for their number, each leg 4, 2 or 5 at its place, then 7 for a currency that does not balance
unfoldable pub posted : List Posting → Result (List Leg) Refusal
posted ps =
    and_then (unless (nat_le least_legs (length ps) && nat_le (length ps) most_legs) 6 0) (λ _.
    and_then (posted_legs 1 ps) (λ ls.
    and_then (balance (lowest_unbalanced ls)) (λ _.
    Ok ls)))

-- an answer, with the legs of the entry in its place
abbrev pub legs_in : Result Entry Refusal → Result (List Leg) Refusal
legs_in (Ok e) = Ok (legs_of e)
legs_in (Err refusal) = Err refusal

-- an answer, with the legs of the vector in its place
abbrev pub items_in : Result (ArrayVec Leg) Refusal → Result (List Leg) Refusal
items_in (Ok v) = Ok v.items
items_in (Err refusal) = Err refusal
