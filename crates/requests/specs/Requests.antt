-- What a request makes of a book: the calls, told from the latest back, and the numbers that it answers. Assumes nothing.
use Rattle.std.specs.Prelude.{ℕ, List, [], ◌∷◌, ◌++◌, map, ℤ, pos, Some, None, Ok, Err, Option, Result}
use Rattle.register.specs.Register.{Refusal}
use Rattle.money.specs.declared.quantity.Minor.{Minor}
use Rattle.apportion.specs.Refusals.{most_shares}
use Rattle.apportion.specs.Ties.{Tie, Lawful}
use Rattle.model.specs.declared.request.Exchange.{Exchange}
use Rattle.model.specs.Calls as calls
use Rattle.model.specs.Calls.{Call}
use Rattle.model.specs.Results.{and_then}
use Rattle.model.specs.State.{State}
use Rattle.model.specs.Step.{step}
use Rattle.reader.specs.Requests.{Asked, post, convert, split, carry, sweep, listed, given_by, read_line}
use Rattle.requests.specs.declared.reply.Reply.{Reply}
use Rattle.requests.specs.declared.reply.Reply.TheVariants.{Done, Converted, Split, Swept}

-- a tie rule with its law
pub record Rule : Type 0 where
  pub tie : Tie
  pub law : Lawful tie

abbrev pub ruled : {tie : Tie} → Lawful tie → Rule
ruled {tie = t} law = record { tie = t; law = law }

-- ---- a conversion, whose slip is parked at once

abbrev pub parked : State → Result (Minor × ℕ) Refusal → List Call
parked s (Ok given) = calls.park s.mark given.1 ∷ []
parked s (Err refusal) = []

abbrev pub conversion_calls : State → Exchange → List Call
conversion_calls s x = parked s (step s (calls.convert x)).0 ++ (calls.convert x ∷ [])

-- ---- a carry: the number is taken up and its slip carried; if that is refused, the slip is parked again

-- what follows a carry of the number n
abbrev pub handed_back : State → ℕ → Result (Unit {0}) Refusal → List Call
handed_back s n (Ok done) = []
handed_back s n (Err refusal) = calls.park s.mark n ∷ []

-- what follows a take-up that left t
abbrev pub taken_up : State → State → (account : ℕ) → Result ℕ Refusal → List Call
taken_up s t a (Ok n) = handed_back s n (step t (calls.carry s.mark n a)).0 ++ (calls.carry s.mark n a ∷ [])
taken_up s t a (Err refusal) = []

abbrev pub carry_calls : State → (number account : ℕ) → List Call
carry_calls s n a = taken_up s (step s (calls.take_up n)).1 a (step s (calls.take_up n)).0 ++ (calls.take_up n ∷ [])

-- the answer is that of the take-up if it is refused, and else that of the carry
abbrev pub carried : State → (number account : ℕ) → Result (Unit {0}) Refusal
carried s n a = and_then (step s (calls.take_up n)).0 (λ k. (step (step s (calls.take_up n)).1 (calls.carry s.mark k a)).0)

-- ---- a request

-- the calls that a request makes; a split lends lists for as many portions and fractions as there may be shares
abbrev pub request_calls : Rule → State → Asked → List Call
request_calls rule s (post ps) = calls.post ps ∷ []
request_calls rule s (convert x) = conversion_calls s x
request_calls rule s (split d shares) = calls.split rule.tie rule.law d shares most_shares most_shares ∷ []
request_calls rule s (carry n a) = carry_calls s n a
request_calls rule s (sweep a k) = calls.sweep a k ∷ []

-- amounts as numbers
abbrev pub amounts : List Minor → List ℤ
amounts bs = map (λ b. b.0) bs

-- the numbers that a request answers, or its refusal: of a conversion b and the slip's number, of a split the portions, of a
-- sweep q, and of the others none
abbrev pub performed : Rule → State → Asked → Result (List ℤ) Refusal
performed rule s (post ps) = given_by (λ done. []) (step s (calls.post ps)).0
performed rule s (convert x) = given_by (λ given. given.0.0 ∷ pos given.1 ∷ []) (step s (calls.convert x)).0
performed rule s (split d shares) = given_by (λ given. amounts given.0) (step s (calls.split rule.tie rule.law d shares most_shares most_shares)).0
performed rule s (carry n a) = given_by (λ done. []) (carried s n a)
performed rule s (sweep a k) = given_by (λ q. q.0 ∷ []) (step s (calls.sweep a k)).0

-- the numbers of a reply of the program
abbrev pub numbers : Reply → List ℤ
numbers Done = []
numbers (Converted b n) = b.0 ∷ pos n ∷ []
numbers (Split portions) = amounts (listed portions)
numbers (Swept q) = q.0 ∷ []

-- ---- a line

-- a line that asks for nothing, or that the reader refuses, makes no call
abbrev pub read_calls : Rule → State → Result (Option Asked) Refusal → List Call
read_calls rule s (Ok None) = []
read_calls rule s (Ok (Some request)) = request_calls rule s request
read_calls rule s (Err refusal) = []

abbrev pub line_calls : Rule → State → List ℕ → List Call
line_calls rule s line = read_calls rule s (read_line line)

-- what follows the reading: nothing of no words, and else the numbers or the first refusal
abbrev pub read_performed : Rule → State → Result (Option Asked) Refusal → Result (Option (List ℤ)) Refusal
read_performed rule s (Ok None) = Ok None
read_performed rule s (Ok (Some request)) = given_by Some (performed rule s request)
read_performed rule s (Err refusal) = Err refusal

abbrev pub line_performed : Rule → State → List ℕ → Result (Option (List ℤ)) Refusal
line_performed rule s line = read_performed rule s (read_line line)
