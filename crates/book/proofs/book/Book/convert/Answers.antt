-- The step, with a slip for its number, and the law. Assumes nothing.
use Rattle.std.proofs.Common.{◌≡◌, Ok, Err, ap, ◌∙◌}
use Rattle.std.proofs.lemmas.Result.{err_from_is_err_and}
use Rattle.register.specs.Register.{registered}
use Rattle.model.specs.Calls.{convert}
use Rattle.model.proofs.Runs.{still_conserved}
use Rattle.book.specs.View.{state_of}
use Rattle.book.proofs.Settled.{step_mark}
use Rattle.book.proofs.book.Book.convert.Goals as goal

pub returns-in_err-booked : goal.returns-in_err-booked
returns-in_err-booked g c =
    let s = state_of g.L.Balances c.args.self.now in
    let t = state_of g.L.Balances c.issue.new.self in
    let p = err_from_is_err_and c.from_residual.result c.from_residual.ensures.1 in
    let e = c.in_err-booked.ensures in
    rw (p.1, p.2) (record { step = e; marked = tt; law = still_conserved s (convert c.args.exchange) (Err (registered c.in_err-booked.field-0.0)) t e })

pub returns : goal.returns
returns g c =
    let s = state_of g.L.Balances c.args.self.now in
    let t = state_of g.L.Balances c.issue.new.self in
    let same : c.new.result.mark ≡ t.mark = ap (λ z. z.mark) c.new.ensures in
    let e = (λ i. (Ok (c.in_ok-booked.booked, (c.new.ensures i).number), t)) ∙ c.in_ok-booked.ensures in
    record {
      step = e;
      marked = same ∙ ap (λ z. z.1.mark) e ∙ step_mark s (convert c.args.exchange);
      law = still_conserved s (convert c.args.exchange) (Ok (c.in_ok-booked.booked, c.new.result.number)) t e;
    }
