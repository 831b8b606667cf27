-- What a line asks for, or with what it is refused. Assumes nothing.
use Rattle.std.specs.Prelude.{ℕ, ◌%◌, cond, List, [], ◌∷◌, length, drop, Some, None, Ok, Err, codes, Option, Result, ◌==◌, nat_le, slice_index_or}
use Rattle.std.specs.Str.{bytes_eq}
use Rattle.register.specs.Register.{Refusal, by_reader}
use Rattle.money.specs.Conversions.{minors}
use Rattle.money.specs.Table.{coded, number_of}
use Rattle.money.specs.declared.currency.Currency.{Currency}
use Rattle.money.specs.declared.quantity.Minor.{Minor}
use Rattle.apportion.specs.declared.share.Share.{Share}
use Rattle.model.specs.declared.request.Posting.{Posting}
use Rattle.model.specs.declared.request.Exchange.{Exchange}
use Rattle.model.specs.declared.request.Division.{Division}
use Rattle.arrayvec.specs.ArrayVec.{ArrayVec}
use Rattle.reader.specs.declared.request.Request.{Request}
use Rattle.reader.specs.declared.request.Request.TheVariants as requests
use Rattle.reader.specs.declared.pattern.Verb.{Verb}
use Rattle.reader.specs.declared.pattern.Verb.TheVariants.{Post, Conv, Split, Carry, Sweep}
use Rattle.reader.specs.Kinds.{Kind, name, number, signed, code, pair, WordRead, words_in}
use Rattle.reader.specs.Limits.{most_words}
use Rattle.reader.specs.Words.{words_of}

-- what a line can ask for
pub data Asked : Type 0 where
  post : List Posting → Asked
  convert : Exchange → Asked
  split : Division → List Share → Asked
  carry : ℕ → ℕ → Asked
  sweep : ℕ → ℕ → Asked

-- the refusal of a word in column c that is not of its kind, or a code that is not in the table
abbrev pub unreadable : ℕ → Refusal
unreadable c = by_reader 19 c

-- the refusal of a line that has too many words or is of no known pattern
abbrev pub unknown_pattern : Refusal
unknown_pattern = by_reader 20 1

-- the first refusal, or what is read on
abbrev pub and_then : {A B : Type 0} → Result A Refusal → (A → Result B Refusal) → Result B Refusal
and_then (Ok x) f = f x
and_then (Err e) f = Err e

-- the number that a word of that kind is
abbrev pub as_number : ℕ → Kind → Result ℕ Refusal
as_number c (number n) = Ok n
as_number c _ = Err (unreadable c)

-- the amount that a signed number is
abbrev pub as_signed : ℕ → Kind → Result Minor Refusal
as_signed c (signed z) = Ok (record { 0 = z })
as_signed c _ = Err (unreadable c)

-- the account and the weight that a pair is
abbrev pub as_share : ℕ → Kind → Result Share Refusal
as_share c (pair m n) = Ok (record { account = m; weight = n })
as_share c _ = Err (unreadable c)

-- the number of a currency that the table has
abbrev pub number_if_known : ℕ → Option Currency → Result ℕ Refusal
number_if_known c (Some k) = Ok (number_of k)
number_if_known c None = Err (unreadable c)

-- the number of the currency whose code a word is
abbrev pub as_currency : ℕ → Kind → Result ℕ Refusal
as_currency c (code bs) = number_if_known c (coded bs)
as_currency c _ = Err (unreadable c)

-- what a word says where a number, an amount, a signed amount, a currency or a share is asked for; a word of another
-- kind is refused at its column
unfoldable pub number_at : WordRead → Result ℕ Refusal
number_at w = as_number w.column w.kind

unfoldable pub amount_at : WordRead → Result Minor Refusal
amount_at w = and_then (as_number w.column w.kind) (λ n. Ok (minors n))

unfoldable pub signed_at : WordRead → Result Minor Refusal
signed_at w = as_signed w.column w.kind

unfoldable pub currency_at : WordRead → Result ℕ Refusal
currency_at w = as_currency w.column w.kind

unfoldable pub share_at : WordRead → Result Share Refusal
share_at w = as_share w.column w.kind

-- x in front of the list, if it was read
abbrev pub put_first : {X : Type 0} → X → Result (List X) Refusal → Result (List X) Refusal
put_first x (Ok xs) = Ok (x ∷ xs)
put_first x (Err e) = Err e

-- a posting: account, code and signed amount
unfoldable pub posting_of : WordRead → WordRead → WordRead → Result Posting Refusal
posting_of a c z =
    and_then (number_at a) (λ account.
    and_then (currency_at c) (λ currency.
    and_then (signed_at z) (λ amount.
    Ok (record { account = account; currency = currency; amount = amount }))))

-- the postings of words, three to each
abbrev pub postings_of : List WordRead → Result (List Posting) Refusal
postings_of [] = Ok []
postings_of (a ∷ []) = Err unknown_pattern
postings_of (a ∷ c ∷ []) = Err unknown_pattern
postings_of (a ∷ c ∷ z ∷ ws) = and_then (posting_of a c z) (λ p. put_first p (postings_of ws))

-- the shares of words, one to each
abbrev pub shares_of : List WordRead → Result (List Share) Refusal
shares_of [] = Ok []
shares_of (w ∷ ws) = and_then (share_at w) (λ s. put_first s (shares_of ws))

-- the word at place i, from 0
abbrev pub word_at : List WordRead → ℕ → WordRead
word_at ws i = slice_index_or ws i (record { column = 0; text = []; kind = name })

-- a posting, and no other word
abbrev pub one_posting : List WordRead → Result Posting Refusal
one_posting ws = cond (length ws == 3) (posting_of (word_at ws 0) (word_at ws 1) (word_at ws 2)) (Err unknown_pattern)

-- what the first word of a line asks for
abbrev pub verb_of : List ℕ → Option Verb
verb_of bs =
    cond (bytes_eq bs (codes "post")) (Some Post)
    (cond (bytes_eq bs (codes "conv")) (Some Conv)
    (cond (bytes_eq bs (codes "split")) (Some Split)
    (cond (bytes_eq bs (codes "carry")) (Some Carry)
    (cond (bytes_eq bs (codes "sweep")) (Some Sweep) None))))

-- post: account, code and signed amount, repeated
abbrev pub read_post : List WordRead → Result Asked Refusal
read_post ws = and_then (postings_of ws) (λ ps. Ok (post ps))

-- conv: from, to, code, code, amount
abbrev pub read_conv : List WordRead → Result Asked Refusal
read_conv ws =
    and_then (number_at (word_at ws 0)) (λ from.
    and_then (number_at (word_at ws 1)) (λ to.
    and_then (currency_at (word_at ws 2)) (λ source.
    and_then (currency_at (word_at ws 3)) (λ target.
    and_then (amount_at (word_at ws 4)) (λ amount.
    Ok (convert (record { from = from; to = to; source = source; target = target; amount = amount })))))))

-- split: account, code, amount, then pairs of account and weight
abbrev pub read_split : List WordRead → Result Asked Refusal
read_split ws =
    and_then (number_at (word_at ws 0)) (λ account.
    and_then (currency_at (word_at ws 1)) (λ currency.
    and_then (amount_at (word_at ws 2)) (λ amount.
    and_then (shares_of (drop 3 ws)) (λ shares.
    Ok (split (record { account = account; currency = currency; amount = amount }) shares)))))

-- two numbers, and no other word
abbrev pub two_numbers : List WordRead → Result (ℕ × ℕ) Refusal
two_numbers ws =
    cond (length ws == 2)
    (and_then (number_at (word_at ws 0)) (λ m. and_then (number_at (word_at ws 1)) (λ n. Ok (m, n))))
    (Err unknown_pattern)

-- carry: number, account
abbrev pub read_carry : List WordRead → Result Asked Refusal
read_carry ws = and_then (number_at (word_at ws 0)) (λ n. and_then (number_at (word_at ws 1)) (λ account. Ok (carry n account)))

-- sweep: account, column
abbrev pub read_sweep : List WordRead → Result Asked Refusal
read_sweep ws =
    and_then (number_at (word_at ws 0)) (λ account. and_then (number_at (word_at ws 1)) (λ column. Ok (sweep account column)))

-- the words after the first: their number has to fit the pattern, then each is read in turn
abbrev pub read_as : Option Verb → List WordRead → Result Asked Refusal
read_as None ws = Err unknown_pattern
read_as (Some Post) ws = cond (length ws % 3 == 0) (read_post ws) (Err unknown_pattern)
read_as (Some Conv) ws = cond (length ws == 5) (read_conv ws) (Err unknown_pattern)
read_as (Some Split) ws = cond (nat_le 3 (length ws)) (read_split ws) (Err unknown_pattern)
read_as (Some Carry) ws = cond (length ws == 2) (read_carry ws) (Err unknown_pattern)
read_as (Some Sweep) ws = cond (length ws == 2) (read_sweep ws) (Err unknown_pattern)

-- what words ask for; no words ask for nothing
abbrev pub read_words : List WordRead → Result (Option Asked) Refusal
read_words [] = Ok None
read_words (w ∷ ws) = and_then (read_as (verb_of w.text) ws) (λ a. Ok (Some a))

-- what a line asks for, or with what it is refused
unfoldable pub read_line : List ℕ → Result (Option Asked) Refusal
read_line bs = cond (nat_le (length (words_of bs)) most_words) (read_words (words_in bs)) (Err unknown_pattern)

-- the items of a list of the program
abbrev pub listed : {X : Type 0} → ArrayVec X → List X
listed v = v.items

-- what a request of the program asks for
abbrev pub asked : Request → Asked
asked (requests.Post ps) = post (listed ps)
asked (requests.Convert e) = convert e
asked (requests.Split d ss) = split d (listed ss)
asked (requests.Carry n account) = carry n account
asked (requests.Sweep account column) = sweep account column

-- an answer, with f of what is given
abbrev pub given_by : {A B : Type 0} → (A → B) → Result A Refusal → Result B Refusal
given_by f (Ok x) = Ok (f x)
given_by f (Err e) = Err e
