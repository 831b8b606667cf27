-- The take-up, the carry and, where that is refused, the parking. Assumes nothing.
use Rattle.std.proofs.Common.{Ok, Err, subst}
use Rattle.std.proofs.lemmas.Result.{err_from_is_err_and}
use Rattle.register.specs.Register.{registered}
use Rattle.model.specs.Calls.{park}
use Rattle.model.proofs.Runs.{conserved_through}
use Rattle.book.specs.View.{state_of}
use Rattle.book.specs.declared.slip.Slip.{Slip}
use Rattle.requests.specs.Requests.{carry_calls}
use Rattle.requests.proofs.Sequences.{Did, not_taken_up, not_taken_up_answer, carry_answer_lem, carry_accepted, carry_refused}
use Rattle.requests.proofs.slips.carry_number.Goals as goal

pub returns-in_err-slip : goal.returns-in_err-slip
returns-in_err-slip g c =
    let s = state_of g.L.Balances c.args.book.now in
    let t = state_of g.L.Balances c.take_up.new.self in
    let p = err_from_is_err_and c.from_residual.result c.from_residual.ensures.1 in
    let e = c.in_err-slip.ensures.step in
    let state = not_taken_up s t c.args.number c.args.account _ e in
    rw (p.1, p.2) (record { value = not_taken_up_answer s t c.args.number c.args.account _ e; state = state; law = conserved_through s (carry_calls s c.args.number c.args.account) t state })

pub returns-in-Ok : goal.returns-in-Ok
returns-in-Ok g c =
    let s = state_of g.L.Balances c.args.book.now in
    let t = state_of g.L.Balances c.take_up.new.self in
    let u = state_of g.L.Balances c.carry.new.book in
    let slip = c.in_ok-slip.slip in
    let taken = c.in_ok-slip.ensures in
    let done = c.in-Ok.ensures.step in
    let state = carry_accepted s t c.args.number c.args.account slip.number slip.mark taken.step taken.marked u done in
    record {
      value = carry_answer_lem s t c.args.number c.args.account slip.number slip.mark taken.step taken.marked (Ok tt) u done;
      state = state;
      law = conserved_through s (carry_calls s c.args.number c.args.account) u state;
    }

pub returns-in-Err : goal.returns-in-Err
returns-in-Err g c =
    let s = state_of g.L.Balances c.args.book.now in
    let t = state_of g.L.Balances c.take_up.new.self in
    let u = state_of g.L.Balances c.carry.new.book in
    let v = state_of g.L.Balances c.park.new.book in
    let slip = c.in_ok-slip.slip in
    let taken = c.in_ok-slip.ensures in
    let refused = c.in-Err.ensures in
    let parked : Did u (park slip.mark slip.number) (Ok c.park.result) v = subst (λ (x : Slip). Did u (park x.mark x.number) (Ok c.park.result) v) refused.back c.park.ensures.step in
    let state = carry_refused s t c.args.number c.args.account slip.number slip.mark taken.step taken.marked (registered c.in-Err.fault) u v c.park.result refused.step parked in
    record {
      value = carry_answer_lem s t c.args.number c.args.account slip.number slip.mark taken.step taken.marked (Err (registered c.in-Err.fault)) u refused.step;
      state = state;
      law = conserved_through s (carry_calls s c.args.number c.args.account) v state;
    }
