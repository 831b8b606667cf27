-- A line asks for a request exactly if it is written so. Assumes nothing.
use Rattle.std.proofs.Common.{◌≡◌, ℕ, ◌%◌, Bool, true, false, cond, eqb, leb, List, [], ◌∷◌, map, length, Some, None, Ok, Err, codes, Option, Result, sym, refl, ap, ◌∙◌, subst, ⊎_elim, arith}
use Rattle.std.specs.Str.{bytes_eq}
use Rattle.std.proofs.lemmas.Slice.Eq.{bytes_eq-Decides}
use Rattle.std.proofs.lemmas.Bool.{eqb-true, leb-true, le-leb, cases_Bool, cond-true, cond-false, eq-eqb}
use Rattle.register.specs.Register.{Refusal}
use Rattle.apportion.specs.declared.share.Share.{Share}
use Rattle.model.specs.declared.request.Posting.{Posting}
use Rattle.model.specs.declared.request.Exchange.{Exchange}
use Rattle.model.specs.declared.request.Division.{Division}
use Rattle.reader.specs.declared.pattern.Verb.{Verb}
use Rattle.reader.specs.declared.pattern.Verb.TheVariants.{Post, Conv, Split, Carry, Sweep}
use Rattle.reader.specs.Kinds.{read_piece}
use Rattle.reader.specs.Limits.{most_words}
use Rattle.reader.specs.Requests.{Asked, post, convert, split, carry, sweep, and_then, put_first, number_at, amount_at, signed_at, currency_at, share_at, posting_of, postings_of, shares_of, word_at, verb_of, read_as, read_words, read_line, unknown_pattern}
use Rattle.reader.specs.Words.{Piece, words_of}
use Rattle.reader.specs.Writing.{SpellsPostings, SpellsShares, SpellsExchange, SpellsDivision, SpellsBoth, SpellsWords, Spells, text_of}
use Rattle.reader.proofs.Texts.{chained, number_spelt, number_read, amount_spelt, amount_read, signed_spelt, signed_read, currency_spelt, currency_read, share_spelt, share_read}

-- a test that gave something was passed
taken : {X : Type 0} (t : Bool) (r : Result X Refusal) (e : Refusal) (x : X) → cond t r (Err e) ≡ Ok x → (t ≡ true) × (r ≡ Ok x)
taken true r e x h = (refl, h)
taken false r e x h = cc

same_ok : {X : Type 0} (x y : X) → ◌≡◌ {A = Result X Refusal} (Ok x) (Ok y) → x ≡ y
same_ok x y h = cc

-- what is put first stands first
put_first_lem : {X : Type 0} (x : X) (r : Result (List X) Refusal) (ys : List X) → put_first x r ≡ Ok ys → (xs : List X) × (r ≡ Ok xs) × (x ∷ xs ≡ ys)
put_first_lem x (Ok xs) ys h = (xs, refl, same_ok (x ∷ xs) ys h)
put_first_lem x (Err e) ys h = cc

-- postings

postings_spelt : (ws : List Piece) (ps : List Posting) → postings_of (map read_piece ws) ≡ Ok ps → SpellsPostings ps (map text_of ws)
unfolding posting_of
postings_spelt [] ps h = subst (λ l. SpellsPostings l []) (same_ok [] ps h) tt
postings_spelt (a ∷ c ∷ z ∷ ws) ps h =
    let p = chained (posting_of (read_piece a) (read_piece c) (read_piece z)) _ ps h in
    let x = chained (number_at (read_piece a)) _ p.0 p.1 in
    let y = chained (currency_at (read_piece c)) _ p.0 x.2 in
    let v = chained (signed_at (read_piece z)) _ p.0 y.2 in
    let l = put_first_lem p.0 (postings_of (map read_piece ws)) ps p.2 in
    subst (λ l. SpellsPostings l (map text_of (a ∷ c ∷ z ∷ ws))) l.2
    (subst (λ q. SpellsPostings (q ∷ l.0) (map text_of (a ∷ c ∷ z ∷ ws))) (same_ok _ p.0 v.2)
    (number_spelt a x.0 x.1, currency_spelt c y.0 y.1, signed_spelt z v.0 v.1, postings_spelt ws l.0 l.1))
postings_spelt _ ps h = cc

postings_read : (ws : List Piece) (ps : List Posting) → SpellsPostings ps (map text_of ws) → postings_of (map read_piece ws) ≡ Ok ps
unfolding posting_of
postings_read [] [] h = refl
postings_read (a ∷ c ∷ z ∷ ws) (p ∷ ps) h =
    rw (number_read a p.account h.0, currency_read c p.currency h.1, signed_read z p.amount h.2, postings_read ws ps h.3)
postings_read _ [] h = absurd h
postings_read _ (p ∷ ps) h = absurd h

-- three words are a posting
postings_thirds : (ws : List Piece) (ps : List Posting) → SpellsPostings ps (map text_of ws) → length (map read_piece ws) % 3 ≡ 0
postings_thirds [] [] h = refl
postings_thirds (a ∷ c ∷ z ∷ ws) (p ∷ ps) h = let q = postings_thirds ws ps h.3 in omega arith
postings_thirds _ [] h = absurd h
postings_thirds _ (p ∷ ps) h = absurd h

-- shares

shares_spelt : (ws : List Piece) (ss : List Share) → shares_of (map read_piece ws) ≡ Ok ss → SpellsShares ss (map text_of ws)
shares_spelt [] ss h = subst (λ l. SpellsShares l []) (same_ok [] ss h) tt
shares_spelt (w ∷ ws) ss h =
    let s = chained (share_at (read_piece w)) _ ss h in
    let l = put_first_lem s.0 (shares_of (map read_piece ws)) ss s.2 in
    subst (λ l. SpellsShares l (map text_of (w ∷ ws))) l.2 (share_spelt w s.0 s.1, shares_spelt ws l.0 l.1)

shares_read : (ws : List Piece) (ss : List Share) → SpellsShares ss (map text_of ws) → shares_of (map read_piece ws) ≡ Ok ss
shares_read [] [] h = refl
shares_read (w ∷ ws) (s ∷ ss) h = rw (share_read w s h.0, shares_read ws ss h.1)
shares_read _ _ h = absurd h

-- the pattern of each first word

post_spelt : (ws : List Piece) (asked : Asked) (text : List ℕ) → text ≡ codes "post" → read_as (Some Post) (map read_piece ws) ≡ Ok asked → SpellsWords asked (text ∷ map text_of ws)
post_spelt ws asked text v h =
    let t = taken (eqb (length (map read_piece ws) % 3) 0) _ unknown_pattern asked h in
    let p = chained (postings_of (map read_piece ws)) _ asked t.1 in
    subst (λ a. SpellsWords a (text ∷ map text_of ws)) (same_ok (post p.0) asked p.2) (v, postings_spelt ws p.0 p.1)

post_read : (ws : List Piece) (ps : List Posting) → SpellsPostings ps (map text_of ws) → read_as (Some Post) (map read_piece ws) ≡ Ok (post ps)
post_read ws ps h =
    cond-true (eqb (length (map read_piece ws) % 3) 0) _ (Err unknown_pattern) (eq-eqb _ 0 (postings_thirds ws ps h))
    ∙ ap (λ r. and_then r (λ l. Ok (post l))) (postings_read ws ps h)

conv_spelt : (ws : List Piece) (asked : Asked) (text : List ℕ) → text ≡ codes "conv" → read_as (Some Conv) (map read_piece ws) ≡ Ok asked → SpellsWords asked (text ∷ map text_of ws)
conv_spelt (a ∷ b ∷ c ∷ d ∷ z ∷ []) asked text v h =
    let p = chained (number_at (read_piece a)) _ asked h in
    let q = chained (number_at (read_piece b)) _ asked p.2 in
    let r = chained (currency_at (read_piece c)) _ asked q.2 in
    let s = chained (currency_at (read_piece d)) _ asked r.2 in
    let t = chained (amount_at (read_piece z)) _ asked s.2 in
    subst (λ a'. SpellsWords a' (text ∷ map text_of (a ∷ b ∷ c ∷ d ∷ z ∷ []))) (same_ok _ asked t.2)
    (v, (number_spelt a p.0 p.1, number_spelt b q.0 q.1, currency_spelt c r.0 r.1, currency_spelt d s.0 s.1, amount_spelt z t.0 t.1))
conv_spelt (a ∷ b ∷ c ∷ d ∷ z ∷ x ∷ ws) asked text v h =
    let n = length (map read_piece (a ∷ b ∷ c ∷ d ∷ z ∷ x ∷ ws)) in
    let t = taken (eqb n 5) _ unknown_pattern asked h in
    absurd (omega (arith, eqb-true n 5 t.0))
conv_spelt _ asked text v h = cc

conv_read : (ws : List Piece) (e : Exchange) → SpellsExchange e (map text_of ws) → read_as (Some Conv) (map read_piece ws) ≡ Ok (convert e)
conv_read (a ∷ b ∷ c ∷ d ∷ z ∷ []) e h =
    rw (number_read a e.from h.0, number_read b e.to h.1, currency_read c e.source h.2, currency_read d e.target h.3, amount_read z e.amount h.4)
conv_read _ e h = absurd h

split_spelt : (ws : List Piece) (asked : Asked) (text : List ℕ) → text ≡ codes "split" → read_as (Some Split) (map read_piece ws) ≡ Ok asked → SpellsWords asked (text ∷ map text_of ws)
split_spelt (a ∷ c ∷ z ∷ ws) asked text v h =
    let i = taken _ _ unknown_pattern asked h in
    let p = chained (number_at (read_piece a)) _ asked i.1 in
    let q = chained (currency_at (read_piece c)) _ asked p.2 in
    let r = chained (amount_at (read_piece z)) _ asked q.2 in
    let s = chained (shares_of (map read_piece ws)) _ asked r.2 in
    subst (λ a'. SpellsWords a' (text ∷ map text_of (a ∷ c ∷ z ∷ ws))) (same_ok (split (record { account = p.0; currency = q.0; amount = r.0 }) s.0) asked s.2)
    (v, (number_spelt a p.0 p.1, currency_spelt c q.0 q.1, amount_spelt z r.0 r.1, shares_spelt ws s.0 s.1))
split_spelt _ asked text v h = cc

split_read : (ws : List Piece) (d : Division) (ss : List Share) → SpellsDivision d ss (map text_of ws) → read_as (Some Split) (map read_piece ws) ≡ Ok (split d ss)
split_read (a ∷ c ∷ z ∷ ws) d ss h =
    cond-true (leb 3 (length (map read_piece (a ∷ c ∷ z ∷ ws)))) _ (Err unknown_pattern) (le-leb 3 _ (omega arith))
    ∙ rw (number_read a d.account h.0, currency_read c d.currency h.1, amount_read z d.amount h.2, shares_read ws ss h.3)
split_read _ d ss h = absurd h

-- what is made by f of two numbers, and no other word
abbrev both_by : (ℕ → ℕ → Asked) → List Piece → Result Asked Refusal
both_by f ws =
    cond (eqb (length (map read_piece ws)) 2)
    (and_then (number_at (word_at (map read_piece ws) 0)) (λ m. and_then (number_at (word_at (map read_piece ws) 1)) (λ n. Ok (f m n))))
    (Err unknown_pattern)

both_spelt : (f : ℕ → ℕ → Asked) (ws : List Piece) (asked : Asked) → both_by f ws ≡ Ok asked → (m : ℕ) × (n : ℕ) × (f m n ≡ asked) × SpellsBoth m n (map text_of ws)
both_spelt f (a ∷ b ∷ []) asked h =
    let p = chained (number_at (read_piece a)) _ asked h in
    let q = chained (number_at (read_piece b)) _ asked p.2 in
    (p.0, q.0, same_ok _ asked q.2, (number_spelt a p.0 p.1, number_spelt b q.0 q.1))
both_spelt f (a ∷ b ∷ c ∷ ws) asked h =
    let n = length (map read_piece (a ∷ b ∷ c ∷ ws)) in
    let t = taken (eqb n 2) _ unknown_pattern asked h in
    absurd (omega (arith, eqb-true n 2 t.0))
both_spelt f _ asked h = cc

both_read : (f : ℕ → ℕ → Asked) (ws : List Piece) (m n : ℕ) → SpellsBoth m n (map text_of ws) → both_by f ws ≡ Ok (f m n)
both_read f (a ∷ b ∷ []) m n h = rw (number_read a m h.0, number_read b n h.1)
both_read f _ m n h = absurd h

-- the first word

abbrev verb_text : Verb → List ℕ
verb_text Post = codes "post"
verb_text Conv = codes "conv"
verb_text Split = codes "split"
verb_text Carry = codes "carry"
verb_text Sweep = codes "sweep"

verb_or : (bs : List ℕ) (u v : Verb) (rest : Option Verb) → (rest ≡ Some v → bs ≡ verb_text v) → cond (bytes_eq bs (verb_text u)) (Some u) rest ≡ Some v → bs ≡ verb_text v
verb_or bs u v rest on h =
    ⊎_elim
    (λ e.
    let s : u ≡ v = let q = sym (cond-true (bytes_eq bs (verb_text u)) (Some u) rest e) ∙ h in cc in
    (bytes_eq-Decides bs (verb_text u)).0 e ∙ ap verb_text s)
    (λ e. on (sym (cond-false (bytes_eq bs (verb_text u)) (Some u) rest e) ∙ h))
    (cases_Bool (bytes_eq bs (verb_text u)))

verb_is : (bs : List ℕ) (v : Verb) → verb_of bs ≡ Some v → bs ≡ verb_text v
verb_is bs v h =
    verb_or bs Post v _ (verb_or bs Conv v _ (verb_or bs Split v _ (verb_or bs Carry v _ (verb_or bs Sweep v None (λ e. cc))))) h

as_spelt : (ws : List Piece) (text : List ℕ) (v : Option Verb) (asked : Asked) → verb_of text ≡ v → read_as v (map read_piece ws) ≡ Ok asked → SpellsWords asked (text ∷ map text_of ws)
as_spelt ws text None asked e h = cc
as_spelt ws text (Some Post) asked e h = post_spelt ws asked text (verb_is text Post e) h
as_spelt ws text (Some Conv) asked e h = conv_spelt ws asked text (verb_is text Conv e) h
as_spelt ws text (Some Split) asked e h = split_spelt ws asked text (verb_is text Split e) h
as_spelt ws text (Some Carry) asked e h =
    let b = both_spelt carry ws asked h in
    subst (λ a. SpellsWords a (text ∷ map text_of ws)) b.2 (verb_is text Carry e, b.3)
as_spelt ws text (Some Sweep) asked e h =
    let b = both_spelt sweep ws asked h in
    subst (λ a. SpellsWords a (text ∷ map text_of ws)) b.2 (verb_is text Sweep e, b.3)

words_spelt : (ws : List Piece) (asked : Asked) → read_words (map read_piece ws) ≡ Ok (Some asked) → SpellsWords asked (map text_of ws)
words_spelt [] asked h = cc
words_spelt (w ∷ ws) asked h =
    let s = chained (read_as (verb_of w.text) (map read_piece ws)) _ (Some asked) h in
    let same : s.0 ≡ asked = let q = same_ok (Some s.0) (Some asked) s.2 in cc in
    as_spelt ws w.text (verb_of w.text) asked refl (s.1 ∙ ap (λ a. Ok a) same)

-- a line is read by its first word
first_read : (w : Piece) (ws : List Piece) (asked : Asked) (v : List ℕ) → w.text ≡ v → read_as (verb_of v) (map read_piece ws) ≡ Ok asked → read_words (map read_piece (w ∷ ws)) ≡ Ok (Some asked)
first_read w ws asked v e h = ap (λ t. and_then (read_as (verb_of t) (map read_piece ws)) (λ a. Ok (Some a))) e ∙ ap (λ r. and_then r (λ a. Ok (Some a))) h

words_read : (ws : List Piece) (asked : Asked) → SpellsWords asked (map text_of ws) → read_words (map read_piece ws) ≡ Ok (Some asked)
words_read (w ∷ ws) (post ps) h = first_read w ws (post ps) (codes "post") h.0 (post_read ws ps h.1)
words_read (w ∷ ws) (convert e) h = first_read w ws (convert e) (codes "conv") h.0 (conv_read ws e h.1)
words_read (w ∷ ws) (split d ss) h = first_read w ws (split d ss) (codes "split") h.0 (split_read ws d ss h.1)
words_read (w ∷ ws) (carry m n) h = first_read w ws (carry m n) (codes "carry") h.0 (both_read carry ws m n h.1)
words_read (w ∷ ws) (sweep m n) h = first_read w ws (sweep m n) (codes "sweep") h.0 (both_read sweep ws m n h.1)
words_read _ (post ps) h = absurd h
words_read _ (convert e) h = absurd h
words_read _ (split d ss) h = absurd h
words_read _ (carry m n) h = absurd h
words_read _ (sweep m n) h = absurd h

-- whole lines

pub line_spelt : (line : List ℕ) (asked : Asked) → read_line line ≡ Ok (Some asked) → Spells asked line
unfolding read_line
line_spelt line asked h =
    let t = taken (leb (length (words_of line)) most_words) _ unknown_pattern (Some asked) h in
    record { few = leb-true _ most_words t.0; words = words_spelt (words_of line) asked t.1 }

pub spelt_read : (line : List ℕ) (asked : Asked) → Spells asked line → read_line line ≡ Ok (Some asked)
unfolding read_line
spelt_read line asked h =
    cond-true (leb (length (words_of line)) most_words) _ (Err unknown_pattern) (le-leb _ most_words h.few) ∙ words_read (words_of line) asked h.words

words_blank : (ws : List Piece) → read_words (map read_piece ws) ≡ Ok None → ws ≡ []
words_blank [] h = refl
words_blank (w ∷ ws) h =
    let s = chained (read_as (verb_of w.text) (map read_piece ws)) _ None h in
    let q = same_ok (Some s.0) None s.2 in cc

pub line_blank : (line : List ℕ) → read_line line ≡ Ok None → words_of line ≡ []
unfolding read_line
line_blank line h =
    let t = taken (leb (length (words_of line)) most_words) _ unknown_pattern None h in
    words_blank (words_of line) t.1

pub blank_read : (line : List ℕ) → words_of line ≡ [] → read_line line ≡ Ok None
unfolding read_line
blank_read line h = ap (λ ws. cond (leb (length ws) most_words) (read_words (map read_piece ws)) (Err unknown_pattern)) h
