-- A line, cut into words one at a time. Assumes nothing.
use Rattle.std.proofs.Common.{◌≡◌, ℕ, suc, ◌+◌, ◌<◌, ◌≤◌, true, false, cond, eqb, List, [], ◌∷◌, ◌++◌, map, length, take, drop, sym, refl, ap, ◌∙◌, subst, ⊎_elim, add-zero, append_assoc, append-nil, arith, length-drop}
use Rattle.std.proofs.lemmas.Bool.{ne_eqb, eq-eqb, cond-false, cond-true, cases_Bool, cases_lt}
use Rattle.std.proofs.lemmas.List.{length-map, length-append, map-append}
use Rattle.reader.specs.declared.word.Word.{Word}
use Rattle.reader.specs.Bytes.{before, leading, space}
use Rattle.reader.specs.Kinds.{read_piece, words_in, view}
use Rattle.reader.specs.Limits.{most_words}
use Rattle.reader.specs.Words.{Piece, extend, words_from, words_of}
use Rattle.reader.proofs.Parts.{before_le, runs_le}

-- no word stands before column c
abbrev From : ℕ → List Piece → Type 0
From c [] = Unit {0}
From c (w ∷ ws) = c ≤ w.column

from_less : (c d : ℕ) (ws : List Piece) → d ≤ c → From c ws → From d ws
from_less c d [] l h = tt
from_less c d (w ∷ ws) l h = omega arith

from_join : (c b : ℕ) (ws : List Piece) → From c (extend c b ws)
from_join c b [] = omega arith
from_join c b (w ∷ ws) =
    elim (eqb w.column (suc c)) as (λ t. From c (cond t (record { column = c; text = b ∷ w.text } ∷ ws) (record { column = c; text = b ∷ [] } ∷ (w ∷ ws))))
    [ true ↦ omega arith | false ↦ omega arith ]

words_later : (c : ℕ) (bs : List ℕ) → From c (words_from c bs)
words_later c [] = tt
words_later c (b ∷ bs) =
    elim (eqb b space) as (λ t. From c (cond t (words_from (suc c) bs) (extend c b (words_from (suc c) bs))))
    [ true ↦ from_less (suc c) c (words_from (suc c) bs) (omega arith) (words_later (suc c) bs) | false ↦ from_join c b (words_from (suc c) bs) ]

-- spaces in front only move the column
pub words_skip : (c : ℕ) (bs : List ℕ) → words_from c bs ≡ words_from (c + leading space bs) (drop (leading space bs) bs)
words_skip c [] = refl
words_skip c (b ∷ bs) =
    ⊎_elim
    (λ e.
    let up : suc c + leading space bs ≡ c + suc (leading space bs) = omega arith in
    cond-true (eqb b space) _ _ e ∙ words_skip (suc c) bs ∙ ap (λ k. words_from k (drop (leading space bs) bs)) up
    ∙ ap (λ k. words_from (c + k) (drop k (b ∷ bs))) (sym (cond-true (eqb b space) (suc (leading space bs)) 0 e)))
    (λ e.
    ap (λ k. words_from k (b ∷ bs)) (sym (add-zero c)) ∙ ap (λ k. words_from (c + k) (drop k (b ∷ bs))) (sym (cond-false (eqb b space) (suc (leading space bs)) 0 e)))
    (cases_Bool (eqb b space))

-- after a space, or at the end, no word stands at the column itself
words_apart : (c : ℕ) (bs : List ℕ) → before space bs ≡ 0 → From (suc c) (words_from c bs)
words_apart c [] h = tt
words_apart c (b ∷ bs) h =
    ⊎_elim
    (λ e. subst (From (suc c)) (sym (cond-true (eqb b space) _ _ e)) (words_later (suc c) bs))
    (λ e. absurd (omega (arith, sym (cond-false (eqb b space) 0 (suc (before space bs)) e) ∙ h)))
    (cases_Bool (eqb b space))

join_apart : (c b : ℕ) (ws : List Piece) → From (suc (suc c)) ws → extend c b ws ≡ record { column = c; text = b ∷ [] } ∷ ws
join_apart c b [] h = refl
join_apart c b (w ∷ ws) h = cond-false (eqb w.column (suc c)) _ _ (ne_eqb _ _ (λ e. omega arith))

join_next : (c b : ℕ) (t : List ℕ) (ws : List Piece) → extend c b (record { column = suc c; text = t } ∷ ws) ≡ record { column = c; text = b ∷ t } ∷ ws
join_next c b t ws = cond-true (eqb (suc c) (suc c)) _ _ (eq-eqb (suc c) (suc c) refl)

words_on : (c b : ℕ) (bs : List ℕ) → (0 < before space bs → words_from (suc c) bs ≡ record { column = suc c; text = take (before space bs) bs } ∷ words_from (suc c + before space bs) (drop (before space bs) bs)) → extend c b (words_from (suc c) bs) ≡ record { column = c; text = b ∷ take (before space bs) bs } ∷ words_from (suc c + before space bs) (drop (before space bs) bs)
words_on c b bs more =
    ⊎_elim
    (λ some. ap (extend c b) (more some) ∙ join_next c b (take (before space bs) bs) _)
    (λ none.
    let z : 0 ≡ before space bs = omega arith in
    join_apart c b (words_from (suc c) bs) (words_apart (suc c) bs (sym z))
    ∙ ap (λ k. record { column = c; text = b ∷ [] } ∷ words_from k bs) (sym (add-zero (suc c)))
    ∙ ap (λ k. record { column = c; text = b ∷ take k bs } ∷ words_from (suc c + k) (drop k bs)) z)
    (cases_lt 0 (before space bs))

-- a word at the front reaches to the first space
pub words_take : (c : ℕ) (bs : List ℕ) → 0 < before space bs → words_from c bs ≡ record { column = c; text = take (before space bs) bs } ∷ words_from (c + before space bs) (drop (before space bs) bs)
words_take c [] h = absurd (omega arith)
words_take c (b ∷ bs) h =
    ⊎_elim
    (λ e. absurd (omega (arith, cond-true (eqb b space) 0 (suc (before space bs)) e)))
    (λ e.
    let up : suc c + before space bs ≡ c + suc (before space bs) = omega arith in
    cond-false (eqb b space) _ _ e ∙ words_on c b bs (words_take (suc c) bs)
    ∙ ap (λ k. record { column = c; text = b ∷ take (before space bs) bs } ∷ words_from k (drop (before space bs) bs)) up
    ∙ ap (λ k. record { column = c; text = take k (b ∷ bs) } ∷ words_from (c + k) (drop k (b ∷ bs))) (sym (cond-false (eqb b space) 0 (suc (before space bs)) e)))
    (cases_Bool (eqb b space))

-- no word is left after the spaces
pub words_none : (c : ℕ) (bs : List ℕ) → before space bs ≡ 0 → leading space bs ≡ 0 → words_from c bs ≡ []
words_none c [] h k = refl
words_none c (b ∷ bs) h k =
    ⊎_elim
    (λ e. absurd (omega (arith, sym (cond-true (eqb b space) (suc (leading space bs)) 0 e) ∙ k)))
    (λ e. absurd (omega (arith, sym (cond-false (eqb b space) 0 (suc (before space bs)) e) ∙ h)))
    (cases_Bool (eqb b space))

-- nothing more is skipped after what was skipped
pub runs_done : (bs : List ℕ) → leading space (drop (leading space bs) bs) ≡ 0
runs_done [] = refl
runs_done (b ∷ bs) =
    ⊎_elim
    (λ e. ap (λ k. leading space (drop k (b ∷ bs))) (cond-true (eqb b space) (suc (leading space bs)) 0 e) ∙ runs_done bs)
    (λ e. ap (λ k. leading space (drop k (b ∷ bs))) (cond-false (eqb b space) (suc (leading space bs)) 0 e) ∙ cond-false (eqb b space) (suc (leading space bs)) 0 e)
    (cases_Bool (eqb b space))

-- one word of what is left of a line: g spaces, then n bytes
module _ (column : ℕ) (rest : List ℕ) (g n : ℕ) (from : List ℕ) (skipped : g ≡ leading space rest) (starts : from ≡ drop g rest) (runs_on : n ≡ before space from) where
  pub words_end : n ≡ 0 → words_from column rest ≡ []
  words_end none =
      let starts' : from ≡ drop (leading space rest) rest = starts ∙ ap (λ k. drop k rest) skipped in
      words_skip column rest ∙ ap (words_from (column + leading space rest)) (sym starts')
      ∙ words_none (column + leading space rest) from (sym runs_on ∙ none) (ap (leading space) starts' ∙ runs_done rest)

  pub words_next : (after : List ℕ) → after ≡ drop n from → 0 < n → words_from column rest ≡ record { column = column + g; text = take n from } ∷ words_from (column + g + n) after
  words_next after left some =
      words_skip column rest ∙ ap (λ k. words_from (column + k) (drop k rest)) (sym skipped) ∙ ap (words_from (column + g)) (sym starts)
      ∙ words_take (column + g) from (omega arith)
      ∙ ap (λ k. record { column = column + g; text = take k from } ∷ words_from (column + g + k) (drop k from)) (sym runs_on)
      ∙ ap (λ l. record { column = column + g; text = take n from } ∷ words_from (column + g + n) l) (sym left)

  pub words_left : (after : List ℕ) → after ≡ drop n from → (g + n + length after ≡ length rest)
  words_left after left =
      omega (arith, ap length left ∙ length-drop n from, ap length starts ∙ length-drop g rest, runs_le space rest, before_le space from)

-- the words before column are read, and rest is what is left of the line
pub record Read (line : List ℕ) (column : ℕ) (rest : List ℕ) (words : List Word) : Type 0 where
  pub columns : column + length rest ≡ length line + 1
  pub few : length words ≤ most_words
  pub all : map view words ++ map read_piece (words_from column rest) ≡ words_in line

pub read_none : (line : List ℕ) (words : List Word) → words ≡ [] → Read line 1 line words
read_none line words e = rw e (record { columns = omega arith; few = omega arith; all = refl })

module _ (line : List ℕ) (column : ℕ) (rest : List ℕ) (words : List Word) (h : Read line column rest words) (g n : ℕ) (from : List ℕ) (skipped : g ≡ leading space rest) (starts : from ≡ drop g rest) (runs_on : n ≡ before space from) where
  pub read_all : n ≡ 0 → map view words ≡ words_in line
  read_all none =
      sym (append-nil (map view words))
      ∙ ap (λ ws. map view words ++ map read_piece ws) (sym (words_end column rest g n from skipped starts runs_on none)) ∙ h.all

  pub read_fits : column + g + n ≤ length line + 1
  read_fits = omega (arith, words_left column rest g n from skipped starts runs_on (drop n from) refl, h.columns)

  -- one word more
  module _ (after : List ℕ) (left : after ≡ drop n from) (some : 0 < n) where
    one : map view words ++ map read_piece (record { column = column + g; text = take n from } ∷ words_from (column + g + n) after) ≡ words_in line
    one = ap (λ ws. map view words ++ map read_piece ws) (sym (words_next column rest g n from skipped starts runs_on after left some)) ∙ h.all

    pub read_more : (w : Word) → length words < most_words → view w ≡ read_piece (record { column = column + g; text = take n from }) → Read line (column + g + n) after (words ++ w ∷ [])
    read_more w room v =
        let ws = map read_piece (words_from (column + g + n) after) in
        record {
          columns = omega (arith, words_left column rest g n from skipped starts runs_on after left, h.columns);
          few = omega (arith, length-append words (w ∷ []));
          all =
              ap (λ l. l ++ ws) (map-append view words (w ∷ []))
              ∙ append_assoc (map view words) (view w ∷ []) ws
              ∙ ap (λ x. map view words ++ (x ∷ ws)) v ∙ one;
        }

    pub read_past : length words ≡ most_words → most_words < length (words_of line)
    read_past full =
        omega (arith, ap length one, length-append (map view words) (map read_piece (record { column = column + g; text = take n from } ∷ words_from (column + g + n) after)), length-map words view, length-map (words_of line) read_piece)
