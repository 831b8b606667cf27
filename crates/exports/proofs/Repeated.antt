-- One round more. Assumes nothing.
use Rattle.std.proofs.Common.{◌≡◌, ℕ, zero, suc, ◌+◌, List, [], Some, Ok, Option, Result, sym, refl, ap, ◌∙◌, add-one}
use Rattle.register.specs.Register.{Refusal}
use Rattle.model.specs.declared.request.Exchange.{Exchange}
use Rattle.model.specs.Calls.{Call}
use Rattle.model.specs.History.{after}
use Rattle.model.specs.State.{State}
use Rattle.reader.specs.Requests.{Asked, read_line}
use Rattle.requests.specs.Requests.{Rule, request_calls, read_calls, line_calls}
use Rattle.exports.specs.Exports.{exchange_round, exchange_rounds, line_rounds}

pub no_exchange : (s : State) (x : Exchange) → s ≡ exchange_rounds s x 0
unfolding exchange_rounds
no_exchange s x = refl

pub one_exchange_more : (s t u : State) (x : Exchange) (n : ℕ) → t ≡ exchange_rounds s x n → u ≡ exchange_round t x → u ≡ exchange_rounds s x (n + 1)
unfolding exchange_rounds
one_exchange_more s t u x n e f =
    f ∙ ap (λ (v : State). exchange_round v x) e ∙ ap (λ (k : ℕ). exchange_rounds s x k) (sym (add-one n))

-- a line that makes no call leaves the book as it is, however often it is carried out
pub idle : (rule : Rule) (s : State) (line : List ℕ) → ((t : State) → line_calls rule t line ≡ []) → (n : ℕ) → s ≡ line_rounds rule s line n
unfolding line_rounds after
idle rule s line none zero = refl
idle rule s line none (suc n) =
    idle rule s line none n ∙ sym (ap (λ (cs : List Call). after (line_rounds rule s line n) cs) (none (line_rounds rule s line n)))

pub none_of : (rule : Rule) (line : List ℕ) (r : Result (Option Asked) Refusal) → r ≡ read_line line → ((t : State) → read_calls rule t r ≡ []) → (t : State) → line_calls rule t line ≡ []
none_of rule line r e none t = ap (λ (q : Result (Option Asked) Refusal). read_calls rule t q) (sym e) ∙ none t

pub no_line : (rule : Rule) (s : State) (line : List ℕ) → s ≡ line_rounds rule s line 0
unfolding line_rounds
no_line rule s line = refl

pub one_line_more : (rule : Rule) (s t u : State) (line : List ℕ) (request : Asked) (n : ℕ) → Ok (Some request) ≡ read_line line → t ≡ line_rounds rule s line n → u ≡ after t (request_calls rule t request) → u ≡ line_rounds rule s line (n + 1)
unfolding line_rounds
one_line_more rule s t u line request n read e f =
    f
    ∙ ap (λ (q : Result (Option Asked) Refusal). after t (read_calls rule t q)) read
    ∙ ap (λ (v : State). after v (line_calls rule v line)) e
    ∙ ap (λ (k : ℕ). line_rounds rule s line k) (sym (add-one n))
