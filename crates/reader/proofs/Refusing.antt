-- Whatever is refused of a line is the line or one of its words. Assumes nothing.
use Rattle.std.proofs.Common.{◌≡◌, ℕ, ◌%◌, ◌≤◌, Bool, true, false, cond, eqb, leb, List, [], ◌∷◌, map, length, Some, None, Ok, Err, Option, Result, refl, subst, inl, inr, arith}
use Rattle.std.proofs.lemmas.Bool.{eqb-true, leb-true}
use Rattle.register.specs.Register.{Refusal}
use Rattle.money.specs.Conversions.{minors}
use Rattle.money.specs.Table.{coded}
use Rattle.money.specs.declared.currency.Currency.{Currency}
use Rattle.reader.specs.declared.pattern.Verb.{Verb}
use Rattle.reader.specs.declared.pattern.Verb.TheVariants.{Post, Conv, Split, Carry, Sweep}
use Rattle.reader.specs.Kinds.{Kind, number, signed, code, pair, kind_of, read_piece}
use Rattle.reader.specs.Limits.{most_words}
use Rattle.reader.specs.Requests.{Asked, post, carry, sweep, and_then, put_first, as_number, as_signed, as_share, as_currency, number_if_known, number_at, amount_at, signed_at, currency_at, share_at, posting_of, postings_of, shares_of, word_at, verb_of, read_as, read_words, read_line, read_post, read_conv, read_split, read_carry, read_sweep, unknown_pattern}
use Rattle.reader.specs.Words.{Piece, words_of}
use Rattle.reader.specs.Writing.{RefusedAt}

-- a refusal is of the words ws
abbrev Rightly : {X : Type 0} → List Piece → Result X Refusal → Type 0
Rightly ws (Ok x) = Unit {0}
Rightly ws (Err e) = RefusedAt ws e

then_rightly : {X Y : Type 0} (ws : List Piece) (r : Result X Refusal) (f : X → Result Y Refusal) → Rightly ws r → ((x : X) → Rightly ws (f x)) → Rightly ws (and_then r f)
then_rightly ws (Ok x) f h g = g x
then_rightly ws (Err e) f h g = h

cond_rightly : {X : Type 0} (ws : List Piece) (t : Bool) (r : Result X Refusal) → (t ≡ true → Rightly ws r) → Rightly ws (cond t r (Err unknown_pattern))
cond_rightly ws true r h = h refl
cond_rightly ws false r h = inl refl

put_rightly : {X : Type 0} (ws : List Piece) (x : X) (r : Result (List X) Refusal) → Rightly ws r → Rightly ws (put_first x r)
put_rightly ws x (Ok xs) h = tt
put_rightly ws x (Err e) h = h

-- more words in front
more_rightly : {X : Type 0} (w : Piece) (ws : List Piece) (r : Result X Refusal) → Rightly ws r → Rightly (w ∷ ws) r
more_rightly w ws (Ok x) h = tt
more_rightly w ws (Err e) (inl l) = inl l
more_rightly w ws (Err e) (inr o) = inr (inr o)

-- one word

number_rightly : (w : Piece) (k : Kind) → Rightly (w ∷ []) (as_number w.column k)
number_rightly w (number n) = tt
number_rightly w _ = inr (inl refl)

signed_rightly : (w : Piece) (k : Kind) → Rightly (w ∷ []) (as_signed w.column k)
signed_rightly w (signed z) = tt
signed_rightly w _ = inr (inl refl)

share_rightly : (w : Piece) (k : Kind) → Rightly (w ∷ []) (as_share w.column k)
share_rightly w (pair m n) = tt
share_rightly w _ = inr (inl refl)

known_rightly : (w : Piece) (o : Option Currency) → Rightly (w ∷ []) (number_if_known w.column o)
known_rightly w (Some k) = tt
known_rightly w None = inr (inl refl)

currency_rightly : (w : Piece) (k : Kind) → Rightly (w ∷ []) (as_currency w.column k)
currency_rightly w (code bs) = known_rightly w (coded bs)
currency_rightly w _ = inr (inl refl)

-- the first word of some is one of them
first_rightly : {X : Type 0} (w : Piece) (ws : List Piece) (r : Result X Refusal) → Rightly (w ∷ []) r → Rightly (w ∷ ws) r
first_rightly w ws (Ok x) h = tt
first_rightly w ws (Err e) (inl l) = inl l
first_rightly w ws (Err e) (inr (inl e')) = inr (inl e')
first_rightly w ws (Err e) (inr (inr o)) = absurd o

module _ (w : Piece) (ws : List Piece) where
  at_number : Rightly (w ∷ ws) (number_at (read_piece w))
  unfolding number_at
  at_number = first_rightly w ws _ (number_rightly w (kind_of w.text))

  at_amount : Rightly (w ∷ ws) (amount_at (read_piece w))
  unfolding amount_at
  at_amount = then_rightly (w ∷ ws) (as_number w.column (kind_of w.text)) (λ n. Ok (minors n)) (first_rightly w ws _ (number_rightly w (kind_of w.text))) (λ n. tt)

  at_signed : Rightly (w ∷ ws) (signed_at (read_piece w))
  unfolding signed_at
  at_signed = first_rightly w ws _ (signed_rightly w (kind_of w.text))

  at_currency : Rightly (w ∷ ws) (currency_at (read_piece w))
  unfolding currency_at
  at_currency = first_rightly w ws _ (currency_rightly w (kind_of w.text))

  at_share : Rightly (w ∷ ws) (share_at (read_piece w))
  unfolding share_at
  at_share = first_rightly w ws _ (share_rightly w (kind_of w.text))

-- the words of a pattern, one after another

next_rightly : {X Y : Type 0} (w : Piece) (ws : List Piece) (r : Result X Refusal) (f : X → Result Y Refusal) → Rightly (w ∷ ws) r → ((x : X) → Rightly ws (f x)) → Rightly (w ∷ ws) (and_then r f)
next_rightly w ws r f h g = then_rightly (w ∷ ws) r f h (λ x. more_rightly w ws (f x) (g x))

posting_rightly : (a c z : Piece) (ws : List Piece) → Rightly (a ∷ c ∷ z ∷ ws) (posting_of (read_piece a) (read_piece c) (read_piece z))
unfolding posting_of
posting_rightly a c z ws =
    next_rightly a (c ∷ z ∷ ws) (number_at (read_piece a)) _ (at_number a (c ∷ z ∷ ws)) (λ account.
    next_rightly c (z ∷ ws) (currency_at (read_piece c)) _ (at_currency c (z ∷ ws)) (λ currency.
    next_rightly z ws (signed_at (read_piece z)) _ (at_signed z ws) (λ amount. tt)))

postings_rightly : (ws : List Piece) → Rightly ws (postings_of (map read_piece ws))
postings_rightly [] = tt
postings_rightly (a ∷ []) = inl refl
postings_rightly (a ∷ c ∷ []) = inl refl
postings_rightly (a ∷ c ∷ z ∷ ws) =
    let rest = postings_of (map read_piece ws) in
    let later = more_rightly a (c ∷ z ∷ ws) rest (more_rightly c (z ∷ ws) rest (more_rightly z ws rest (postings_rightly ws))) in
    then_rightly (a ∷ c ∷ z ∷ ws) (posting_of (read_piece a) (read_piece c) (read_piece z)) _ (posting_rightly a c z ws) (λ p.
    put_rightly (a ∷ c ∷ z ∷ ws) p rest later)

shares_rightly : (ws : List Piece) → Rightly ws (shares_of (map read_piece ws))
shares_rightly [] = tt
shares_rightly (w ∷ ws) =
    next_rightly w ws (share_at (read_piece w)) _ (at_share w ws) (λ s. put_rightly ws s (shares_of (map read_piece ws)) (shares_rightly ws))

both_rightly : (f : ℕ → ℕ → Asked) (ws : List Piece) → length (map read_piece ws) ≡ 2 → Rightly ws (and_then (number_at (word_at (map read_piece ws) 0)) (λ m. and_then (number_at (word_at (map read_piece ws) 1)) (λ n. Ok (f m n))))
both_rightly f (a ∷ b ∷ []) h =
    next_rightly a (b ∷ []) (number_at (read_piece a)) _ (at_number a (b ∷ [])) (λ m.
    next_rightly b [] (number_at (read_piece b)) _ (at_number b []) (λ n. tt))
both_rightly f _ h = absurd (omega arith)

conv_rightly : (ws : List Piece) → length (map read_piece ws) ≡ 5 → Rightly ws (read_conv (map read_piece ws))
conv_rightly (a ∷ b ∷ c ∷ d ∷ z ∷ []) h =
    next_rightly a (b ∷ c ∷ d ∷ z ∷ []) (number_at (read_piece a)) _ (at_number a (b ∷ c ∷ d ∷ z ∷ [])) (λ from.
    next_rightly b (c ∷ d ∷ z ∷ []) (number_at (read_piece b)) _ (at_number b (c ∷ d ∷ z ∷ [])) (λ to.
    next_rightly c (d ∷ z ∷ []) (currency_at (read_piece c)) _ (at_currency c (d ∷ z ∷ [])) (λ source.
    next_rightly d (z ∷ []) (currency_at (read_piece d)) _ (at_currency d (z ∷ [])) (λ target.
    next_rightly z [] (amount_at (read_piece z)) _ (at_amount z []) (λ amount. tt)))))
conv_rightly _ h = absurd (omega arith)

split_rightly : (ws : List Piece) → 3 ≤ length (map read_piece ws) → Rightly ws (read_split (map read_piece ws))
split_rightly (a ∷ c ∷ z ∷ ws) h =
    next_rightly a (c ∷ z ∷ ws) (number_at (read_piece a)) _ (at_number a (c ∷ z ∷ ws)) (λ account.
    next_rightly c (z ∷ ws) (currency_at (read_piece c)) _ (at_currency c (z ∷ ws)) (λ currency.
    next_rightly z ws (amount_at (read_piece z)) _ (at_amount z ws) (λ amount.
    then_rightly ws (shares_of (map read_piece ws)) _ (shares_rightly ws) (λ shares. tt))))
split_rightly _ h = absurd (omega arith)

as_rightly : (v : Option Verb) (ws : List Piece) → Rightly ws (read_as v (map read_piece ws))
as_rightly None ws = inl refl
as_rightly (Some Post) ws =
    cond_rightly ws (eqb (length (map read_piece ws) % 3) 0) (read_post (map read_piece ws)) (λ _.
    then_rightly ws (postings_of (map read_piece ws)) (λ ps. Ok (post ps)) (postings_rightly ws) (λ ps. tt))
as_rightly (Some Conv) ws =
    cond_rightly ws (eqb (length (map read_piece ws)) 5) (read_conv (map read_piece ws)) (λ e. conv_rightly ws (eqb-true _ 5 e))
as_rightly (Some Split) ws =
    cond_rightly ws (leb 3 (length (map read_piece ws))) (read_split (map read_piece ws)) (λ e. split_rightly ws (leb-true 3 _ e))
as_rightly (Some Carry) ws =
    cond_rightly ws (eqb (length (map read_piece ws)) 2) (read_carry (map read_piece ws)) (λ e. both_rightly carry ws (eqb-true _ 2 e))
as_rightly (Some Sweep) ws =
    cond_rightly ws (eqb (length (map read_piece ws)) 2) (read_sweep (map read_piece ws)) (λ e. both_rightly sweep ws (eqb-true _ 2 e))

words_rightly : (ws : List Piece) → Rightly ws (read_words (map read_piece ws))
words_rightly [] = tt
words_rightly (w ∷ ws) =
    then_rightly (w ∷ ws) (read_as (verb_of w.text) (map read_piece ws)) (λ a. Ok (Some a)) (more_rightly w ws _ (as_rightly (verb_of w.text) ws)) (λ a. tt)

line_rightly : (line : List ℕ) → Rightly (words_of line) (read_line line)
unfolding read_line
line_rightly line = cond_rightly (words_of line) (leb (length (words_of line)) most_words) (read_words (map read_piece (words_of line))) (λ _. words_rightly (words_of line))

pub line_refused : (line : List ℕ) (refusal : Refusal) → read_line line ≡ Err refusal → RefusedAt (words_of line) refusal
line_refused line refusal h = subst (Rightly (words_of line)) h (line_rightly line)
