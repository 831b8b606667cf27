-- What the exported functions answer. Assumes nothing.
use Rattle.std.specs.Prelude.{◌≡◌, ℕ, zero, suc, ◌⊎◌, List, length, take, ℤ, pos, neg_ℤ, Ok, Err, Result}
use Rattle.register.specs.Register.{Refusal}
use Rattle.money.specs.declared.conversion.Conversion.{Conversion}
use Rattle.money.specs.declared.quantity.Minor.{Minor}
use Rattle.money.specs.Conversions.{booked, converting}
use Rattle.apportion.specs.Splits.{over}
use Rattle.model.specs.declared.request.Exchange.{Exchange}
use Rattle.model.specs.Calls.{convert}
use Rattle.model.specs.History.{after}
use Rattle.model.specs.Results.{and_then}
use Rattle.model.specs.State.{State}
use Rattle.model.specs.Step.{step, currency_at}
use Rattle.requests.specs.Requests.{Rule, conversion_calls, carry_calls, line_calls}

-- ---- one conversion

-- a conversion between the currencies of two numbers: refused 2 for a number that is no currency's, then 3, 5 or 9
abbrev pub converting_numbers : (source target : ℕ) → ℤ → Result Conversion Refusal
converting_numbers source target amount =
    and_then (currency_at source 0) (λ from. and_then (currency_at target 0) (λ to. converting from to amount))

-- what is booked, or below zero the number of the refusal
abbrev pub booked_or_refusal : Result Conversion Refusal → ℤ
booked_or_refusal (Ok c) = (booked c).0
booked_or_refusal (Err refusal) = neg_ℤ (pos refusal.number)

-- ---- rounds

-- what follows a conversion that left t: the slip's number is carried to the account
abbrev pub carried_on : State → (account : ℕ) → Result (Minor × ℕ) Refusal → State
carried_on t a (Ok given) = after t (carry_calls t given.1 a)
carried_on t a (Err refusal) = t

-- a conversion whose residues are carried to the account that gets what is booked
abbrev pub exchange_round : State → Exchange → State
exchange_round s x = carried_on (after s (conversion_calls s x)) x.to (step s (convert x)).0

-- the book after n such rounds
unfoldable pub exchange_rounds : State → Exchange → ℕ → State
exchange_rounds s x zero = s
exchange_rounds s x (suc n) = exchange_round (exchange_rounds s x n) x

-- the book after the line was carried out n times
unfoldable pub line_rounds : Rule → State → List ℕ → ℕ → State
line_rounds rule s line zero = s
line_rounds rule s line (suc n) = after (line_rounds rule s line n) (line_calls rule (line_rounds rule s line n) line)

-- a conversion from account 2 to account 3
abbrev pub exchange_of : (source target : ℕ) → ℤ → Exchange
exchange_of source target amount = record { from = 2; to = 3; source = source; target = target; amount = record { 0 = amount } }

-- ---- a text handed out

-- As much of the text as the list takes stands over its front, and the length of the text is answered.
abbrev pub HandsOut : (answer : ℕ) (text before since : List ℕ) → Type 0
HandsOut n text before since = (n ≡ length text) × (since ≡ over (take (length before) text) before)

-- The text is handed out; or memory ran out, 0 is answered and the list is as it was.
abbrev pub HandedOut : (answer : ℕ) (text before since : List ℕ) → Type 0
HandedOut n text before since = HandsOut n text before since ⊎ ((n ≡ 0) × (since ≡ before))
