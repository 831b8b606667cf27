-- The conversion, then the parking of its slip. Assumes nothing.
use Rattle.std.proofs.lemmas.Result.{err_from_is_err_and}
use Rattle.model.specs.Calls.{convert}
use Rattle.model.proofs.Runs.{conserved_through}
use Rattle.book.specs.View.{state_of}
use Rattle.requests.specs.Requests.{conversion_calls}
use Rattle.requests.proofs.Sequences.{answered, conversion_refused, conversion_parked}
use Rattle.requests.proofs.slips.convert_and_park.Goals as goal

pub returns-in_err-booked : goal.returns-in_err-booked
returns-in_err-booked g c =
    let s = state_of g.L.Balances c.args.book.now in
    let t = state_of g.L.Balances c.convert.new.self in
    let p = err_from_is_err_and c.from_residual.result c.from_residual.ensures.1 in
    let e = c.in_err-booked.ensures.step in
    let state = conversion_refused s t c.args.exchange _ e in
    rw (p.1, p.2) (record { value = answered s (convert c.args.exchange) _ t e; state = state; law = conserved_through s (conversion_calls s c.args.exchange) t state })

pub returns : goal.returns
returns g c =
    let s = state_of g.L.Balances c.args.book.now in
    let t = state_of g.L.Balances c.convert.new.self in
    let u = state_of g.L.Balances c.park.new.book in
    let slip = c.in_ok-booked.slip in
    let e = c.in_ok-booked.ensures.step in
    let state = conversion_parked s t c.args.exchange c.in_ok-booked.booked slip.number slip.mark _ u e c.in_ok-booked.ensures.marked c.park.ensures.step in
    record { value = cc (answered s (convert c.args.exchange) _ t e); state = state; law = conserved_through s (conversion_calls s c.args.exchange) u state }
