-- The calls that a book hears, and what each answers when it is accepted. Assumes nothing.
use Rattle.std.specs.Prelude.{ℕ, Bool, List, ℤ}
use Rattle.money.specs.declared.quantity.Minor.{Minor}
use Rattle.apportion.specs.declared.fraction.Fraction.{Fraction}
use Rattle.apportion.specs.declared.share.Share.{Share}
use Rattle.apportion.specs.Ties.{Tie, Lawful}
use Rattle.model.specs.declared.audit.Audit.{Audit}
use Rattle.model.specs.declared.record.Record.{Record}
use Rattle.model.specs.declared.request.Division.{Division}
use Rattle.model.specs.declared.request.Exchange.{Exchange}
use Rattle.model.specs.declared.request.Posting.{Posting}

-- what can be asked of a book
pub data Question : Type 0 where
  cell : (account column : ℕ) → Question
  room : Question
  kind : Question
  fit : Question
  mark : Question
  given : Question
  records : Question
  audit : Question

-- A split comes with its tie rule, the rule's law, and the lengths of the lists lent for portions and fractions; a carry
-- and a parking come with what the slip bears, the mark of its book and its number.
pub data Call : Type 0 where
  post : (legs : List Posting) → Call
  convert : Exchange → Call
  split : (tie : Tie) → Lawful tie → Division → List Share → (portions fractions : ℕ) → Call
  carry : (mark number account : ℕ) → Call
  park : (mark number : ℕ) → Call
  take_up : (number : ℕ) → Call
  sweep : (account column : ℕ) → Call
  ask : Question → Call

-- what a question answers
abbrev pub Answer : Question → Type 0
Answer (cell a k) = ℤ
Answer room = ℕ
Answer kind = ℕ
Answer fit = Bool
Answer mark = ℕ
Answer given = ℕ
Answer records = List Record
Answer audit = Audit

-- what an accepted call answers: a conversion b and its slip's number, a split the portions and the fractions, a parking
-- and a take-up the number (a parking 0 for a slip that is not this book's), a sweep q
abbrev pub Reply : Call → Type 0
Reply (post ps) = Unit {0}
Reply (convert x) = Minor × ℕ
Reply (split tie law d shares m n) = List Minor × List Fraction
Reply (carry m n a) = Unit {0}
Reply (park m n) = ℕ
Reply (take_up n) = ℕ
Reply (sweep a k) = Minor
Reply (ask q) = Answer q
