-- How a request is written in the words of a line. Assumes nothing.
use Rattle.std.specs.Prelude.{◌≡◌, ℕ, ◌^◌, ◌<◌, ◌≤◌, ◌⊎◌, List, [], ◌∷◌, ◌++◌, map, length, pos, neg_ℤ, Some, None, Ok, Err, codes, decimal, Option, Result}
use Rattle.register.specs.Register.{Refusal, by_reader}
use Rattle.money.specs.Conversions.{minors}
use Rattle.money.specs.Table.{code_of, number_of}
use Rattle.money.specs.declared.currency.Currency.{Currency}
use Rattle.money.specs.declared.quantity.Minor.{Minor}
use Rattle.apportion.specs.declared.share.Share.{Share}
use Rattle.model.specs.declared.request.Posting.{Posting}
use Rattle.model.specs.declared.request.Exchange.{Exchange}
use Rattle.model.specs.declared.request.Division.{Division}
use Rattle.reader.specs.Limits.{most_digits, most_words}
use Rattle.reader.specs.Requests.{Asked, post, convert, split, carry, sweep}
use Rattle.reader.specs.Words.{Piece, words_of}

-- a number is written in its decimal digits, at most 11
pub record SpellsNumber (n : ℕ) (text : List ℕ) : Type 0 where
  pub short : n < 10 ^ most_digits
  pub digits : text ≡ decimal n

-- an amount is written as a number
pub record SpellsAmount (amount : Minor) (text : List ℕ) : Type 0 where
  pub count : ℕ
  pub is : amount ≡ minors count
  pub number : SpellsNumber count text

-- a signed amount is written as + or -, then a number
pub record SpellsSigned (amount : Minor) (text : List ℕ) : Type 0 where
  pub count : ℕ
  pub short : count < 10 ^ most_digits
  pub sign : ((amount ≡ minors count) × (text ≡ codes "+" ++ decimal count)) ⊎ ((amount ≡ record { 0 = neg_ℤ (pos count) }) × (text ≡ codes "-" ++ decimal count))

-- a currency is written as its code
pub record SpellsCurrency (n : ℕ) (text : List ℕ) : Type 0 where
  pub currency : Currency
  pub number : number_of currency ≡ n
  pub code : text ≡ code_of currency

-- a share is written as its account, a colon and its weight
pub record SpellsShare (share : Share) (text : List ℕ) : Type 0 where
  pub account : share.account < 10 ^ most_digits
  pub weight : share.weight < 10 ^ most_digits
  pub pair : text ≡ decimal share.account ++ (codes ":" ++ decimal share.weight)

-- postings are written one after another, each in three words
abbrev pub SpellsPostings : List Posting → List (List ℕ) → Type 0
SpellsPostings [] [] = Unit {0}
SpellsPostings [] (a ∷ ts) = ⊥
SpellsPostings (p ∷ ps) [] = ⊥
SpellsPostings (p ∷ ps) (a ∷ []) = ⊥
SpellsPostings (p ∷ ps) (a ∷ c ∷ []) = ⊥
SpellsPostings (p ∷ ps) (a ∷ c ∷ z ∷ ts) =
    SpellsNumber p.account a × SpellsCurrency p.currency c × SpellsSigned p.amount z × SpellsPostings ps ts

-- shares are written one after another, each in one word
abbrev pub SpellsShares : List Share → List (List ℕ) → Type 0
SpellsShares [] [] = Unit {0}
SpellsShares [] (t ∷ ts) = ⊥
SpellsShares (s ∷ ss) [] = ⊥
SpellsShares (s ∷ ss) (t ∷ ts) = SpellsShare s t × SpellsShares ss ts

-- a conversion is written as from, to, code, code, amount
abbrev pub SpellsExchange : Exchange → List (List ℕ) → Type 0
SpellsExchange e [] = ⊥
SpellsExchange e (a ∷ []) = ⊥
SpellsExchange e (a ∷ b ∷ []) = ⊥
SpellsExchange e (a ∷ b ∷ c ∷ []) = ⊥
SpellsExchange e (a ∷ b ∷ c ∷ d ∷ []) = ⊥
SpellsExchange e (a ∷ b ∷ c ∷ d ∷ z ∷ []) =
    SpellsNumber e.from a × SpellsNumber e.to b × SpellsCurrency e.source c × SpellsCurrency e.target d × SpellsAmount e.amount z
SpellsExchange e (a ∷ b ∷ c ∷ d ∷ z ∷ x ∷ ts) = ⊥

-- a split is written as account, code, amount, then the shares
abbrev pub SpellsDivision : Division → List Share → List (List ℕ) → Type 0
SpellsDivision d ss [] = ⊥
SpellsDivision d ss (a ∷ []) = ⊥
SpellsDivision d ss (a ∷ c ∷ []) = ⊥
SpellsDivision d ss (a ∷ c ∷ z ∷ ts) =
    SpellsNumber d.account a × SpellsCurrency d.currency c × SpellsAmount d.amount z × SpellsShares ss ts

-- two numbers are written one after the other
abbrev pub SpellsBoth : ℕ → ℕ → List (List ℕ) → Type 0
SpellsBoth m n [] = ⊥
SpellsBoth m n (a ∷ []) = ⊥
SpellsBoth m n (a ∷ b ∷ []) = SpellsNumber m a × SpellsNumber n b
SpellsBoth m n (a ∷ b ∷ c ∷ ts) = ⊥

-- a request is written as its first word and what follows it
abbrev pub SpellsWords : Asked → List (List ℕ) → Type 0
SpellsWords (post ps) [] = ⊥
SpellsWords (post ps) (t ∷ ts) = (t ≡ codes "post") × SpellsPostings ps ts
SpellsWords (convert e) [] = ⊥
SpellsWords (convert e) (t ∷ ts) = (t ≡ codes "conv") × SpellsExchange e ts
SpellsWords (split d ss) [] = ⊥
SpellsWords (split d ss) (t ∷ ts) = (t ≡ codes "split") × SpellsDivision d ss ts
SpellsWords (carry n account) [] = ⊥
SpellsWords (carry n account) (t ∷ ts) = (t ≡ codes "carry") × SpellsBoth n account ts
SpellsWords (sweep account column) [] = ⊥
SpellsWords (sweep account column) (t ∷ ts) = (t ≡ codes "sweep") × SpellsBoth account column ts

-- the bytes of a word
abbrev pub text_of : Piece → List ℕ
text_of w = w.text

-- a line is a request's if its words, not too many, are those in which the request is written
pub record Spells (asked : Asked) (line : List ℕ) : Type 0 where
  pub few : length (words_of line) ≤ most_words
  pub words : SpellsWords asked (map text_of (words_of line))

-- one of the words passes
abbrev pub OneOf : (Piece → Type 0) → List Piece → Type 0
OneOf P [] = ⊥
OneOf P (w ∷ ws) = P w ⊎ OneOf P ws

-- what can be refused of a line with these words: the line, by 20 at place 1, or one of its words, by 19 at its column
abbrev pub RefusedAt : List Piece → Refusal → Type 0
RefusedAt ws r = (r ≡ by_reader 20 1) ⊎ OneOf (λ w. r ≡ by_reader 19 w.column) ws

-- A line is answered rightly: with nothing exactly if it has no words; with a request exactly if its words are those in
-- which that request is written; and otherwise with the refusal of the line or of one of its words.
pub record Answers (line : List ℕ) (r : Result (Option Asked) Refusal) : Type 0 where
  pub blank : (r ≡ Ok None → words_of line ≡ []) × (words_of line ≡ [] → r ≡ Ok None)
  pub reads : (asked : Asked) → r ≡ Ok (Some asked) → Spells asked line
  pub spelled : (asked : Asked) → Spells asked line → r ≡ Ok (Some asked)
  pub refused : (refusal : Refusal) → r ≡ Err refusal → RefusedAt (words_of line) refusal
