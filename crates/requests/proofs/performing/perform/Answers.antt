-- Each request is one call, or the calls that were shown of it. Assumes nothing.
use Rattle.std.proofs.Common.{◌≡◌, List, [], ◌∷◌, ℤ, Result, sym, ap, ◌∙◌}
use Rattle.std.proofs.lemmas.Result.{err_from_is_err_and}
use Rattle.register.specs.Register.{Refusal}
use Rattle.money.specs.declared.quantity.Minor.{Minor}
use Rattle.apportion.specs.Ties.{Lawful}
use Rattle.model.specs.Calls as calls
use Rattle.model.specs.History.{after}
use Rattle.model.proofs.Runs.{conserved_through}
use Rattle.reader.specs.Requests.{Asked, post, split, sweep, asked, given_by}
use Rattle.book.specs.View.{state_of}
use Rattle.requests.specs.Requests.{ruled, request_calls, performed}
use Rattle.requests.proofs.Sequences.{answered, one_call}
use Rattle.requests.proofs.performing.perform.Goals as goal

pub returns-in_err-post-in-Post : goal.returns-in_err-post-in-Post
returns-in_err-post-in-Post g c =
    let s = state_of g.L.Balances c.args.book.now in
    let t = state_of g.L.Balances c.post.new.self in
    let tie = g.R.TieRule.tie c.args.rule.now in
    let p = err_from_is_err_and c.from_residual.result c.from_residual.ensures.1 in
    let legs = c.as_slice.result.now in
    let e = c.in_err-post-in-Post.ensures.step in
    let q : post legs ≡ asked c.args.request.now = ap post c.as_slice.ensures.value ∙ sym (ap asked c.in-Post.is) in
    let state : (law : Lawful tie) → t ≡ after s (request_calls (ruled law) s (asked c.args.request.now)) = λ law. one_call s (calls.post legs) _ t e ∙ ap (λ (a : Asked). after s (request_calls (ruled law) s a)) q in
    rw (p.1, p.2) (record {
      value = λ law. ap (λ (r : Result (Unit {0}) Refusal). given_by {B = List ℤ} (λ done. []) r) (answered s (calls.post legs) _ t e) ∙ ap (performed (ruled law) s) q;
      state = state;
      law = λ law. conserved_through s _ t (state law);
    })

pub returns-in_ok-post-in-Post : goal.returns-in_ok-post-in-Post
returns-in_ok-post-in-Post g c =
    let s = state_of g.L.Balances c.args.book.now in
    let t = state_of g.L.Balances c.post.new.self in
    let tie = g.R.TieRule.tie c.args.rule.now in
    let legs = c.as_slice.result.now in
    let e = c.in_ok-post-in-Post.ensures.step in
    let q : post legs ≡ asked c.args.request.now = ap post c.as_slice.ensures.value ∙ sym (ap asked c.in-Post.is) in
    let state : (law : Lawful tie) → t ≡ after s (request_calls (ruled law) s (asked c.args.request.now)) = λ law. one_call s (calls.post legs) _ t e ∙ ap (λ (a : Asked). after s (request_calls (ruled law) s a)) q in
    record {
      value = λ law. ap (λ (r : Result (Unit {0}) Refusal). given_by {B = List ℤ} (λ done. []) r) (answered s (calls.post legs) _ t e) ∙ ap (performed (ruled law) s) q;
      state = state;
      law = λ law. conserved_through s _ t (state law);
    }

pub returns-in_err-moved-in-Sweep : goal.returns-in_err-moved-in-Sweep
returns-in_err-moved-in-Sweep g c =
    let s = state_of g.L.Balances c.args.book.now in
    let t = state_of g.L.Balances c.sweep.new.self in
    let tie = g.R.TieRule.tie c.args.rule.now in
    let p = err_from_is_err_and c.from_residual-in_err-moved-in-Sweep.result c.from_residual-in_err-moved-in-Sweep.ensures.1 in
    let account = c.in-Sweep.account in
    let column = c.in-Sweep.column in
    let e = c.in_err-moved-in-Sweep.ensures.step in
    let q : sweep account column ≡ asked c.args.request.now = sym (ap asked c.in-Sweep.is) in
    let state : (law : Lawful tie) → t ≡ after s (request_calls (ruled law) s (asked c.args.request.now)) = λ law. one_call s (calls.sweep account column) _ t e ∙ ap (λ (a : Asked). after s (request_calls (ruled law) s a)) q in
    rw (p.1, p.2) (record {
      value = λ law. ap (λ (r : Result Minor Refusal). given_by (λ moved. moved.0 ∷ []) r) (answered s (calls.sweep account column) _ t e) ∙ ap (performed (ruled law) s) q;
      state = state;
      law = λ law. conserved_through s _ t (state law);
    })

pub returns-in_ok-moved-in-Sweep : goal.returns-in_ok-moved-in-Sweep
returns-in_ok-moved-in-Sweep g c =
    let s = state_of g.L.Balances c.args.book.now in
    let t = state_of g.L.Balances c.sweep.new.self in
    let tie = g.R.TieRule.tie c.args.rule.now in
    let account = c.in-Sweep.account in
    let column = c.in-Sweep.column in
    let e = c.in_ok-moved-in-Sweep.ensures.step in
    let q : sweep account column ≡ asked c.args.request.now = sym (ap asked c.in-Sweep.is) in
    let state : (law : Lawful tie) → t ≡ after s (request_calls (ruled law) s (asked c.args.request.now)) = λ law. one_call s (calls.sweep account column) _ t e ∙ ap (λ (a : Asked). after s (request_calls (ruled law) s a)) q in
    record {
      value = λ law. ap (λ (r : Result Minor Refusal). given_by (λ moved. moved.0 ∷ []) r) (answered s (calls.sweep account column) _ t e) ∙ ap (performed (ruled law) s) q;
      state = state;
      law = λ law. conserved_through s _ t (state law);
    }

pub returns-in-Split : goal.returns-in-Split
returns-in-Split g c =
    let s = state_of g.L.Balances c.args.book.now in
    let t = state_of g.L.Balances c.split_among.new.book in
    let tie = g.R.TieRule.tie c.args.rule.now in
    let facts = c.split_among.ensures in
    let shares = c.as_slice-in-Split.result.now in
    let q : split c.in-Split.division shares ≡ asked c.args.request.now = ap (split c.in-Split.division) c.as_slice-in-Split.ensures.value ∙ sym (ap asked c.in-Split.is) in
    let state : (law : Lawful tie) → t ≡ after s (request_calls (ruled law) s (asked c.args.request.now)) = λ law. facts.state law ∙ ap (λ (a : Asked). after s (request_calls (ruled law) s a)) q in
    record {
      value = λ law. facts.value law ∙ ap (performed (ruled law) s) q;
      state = state;
      law = λ law. conserved_through s _ t (state law);
    }
