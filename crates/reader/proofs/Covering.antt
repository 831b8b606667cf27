-- The words of a line cover it. Assumes nothing.
use Rattle.std.proofs.Common.{◌≡◌, ℕ, zero, suc, ◌+◌, ◌-◌, ◌<◌, ◌≤◌, true, false, cond, ◌&&◌, eqb, ltb, List, [], ◌∷◌, length, get_or, take, drop, sym, refl, ap, ◌∙◌, ⊎_elim, zero-add, arith}
use Rattle.std.specs.List.{AllByRecursion}
use Rattle.std.proofs.lemmas.Bool.{eqb-true, eqb-false, cond-true, cond-false, cond_both, le-leb, lt-leb, lt-ltb, le-ltb, and_left, and_right, and_from, cases_lt}
use Rattle.reader.specs.Bytes.{space}
use Rattle.reader.specs.Laws.{Stands, Apart, holds, holders, Covers, WordsCover}
use Rattle.reader.specs.Words.{Piece, extend, words_from}

-- a byte more in front only moves the column
stands_later : (c b : ℕ) (bs : List ℕ) (w : Piece) → Stands (suc c) bs w → Stands c (b ∷ bs) w
stands_later c b bs w h =
    let k : w.column - c ≡ suc (w.column - suc c) = omega (arith, h.later) in
    record {
      later = omega (arith, h.later);
      part = ap (λ i. take (length w.text) (drop i (b ∷ bs))) k ∙ h.part;
      some = h.some;
      solid = h.solid;
    }

all_later : (c b : ℕ) (bs : List ℕ) (ws : List Piece) → AllByRecursion (Stands (suc c) bs) ws → AllByRecursion (Stands c (b ∷ bs)) ws
all_later c b bs [] h = tt
all_later c b bs (w ∷ ws) h = (stands_later c b bs w h.0, all_later c b bs ws h.1)

-- a word that begins with the first byte
stands_first : (c b : ℕ) (bs t : List ℕ) → (b ≡ space → ⊥) → AllByRecursion (λ x. x ≡ space → ⊥) t → take (length t) bs ≡ t → Stands c (b ∷ bs) (record { column = c; text = b ∷ t })
stands_first c b bs t ne solid h =
    let z : c - c ≡ 0 = omega arith in
    record {
      later = omega arith;
      part = ap (λ i. take (suc (length t)) (drop i (b ∷ bs))) z ∙ ap (λ l. b ∷ l) h;
      some = omega arith;
      solid = (ne, solid);
    }

-- a byte before the first column belongs to no word
none_before : (c k : ℕ) (bs : List ℕ) (ws : List Piece) → k < c → AllByRecursion (Stands c bs) ws → holders k ws ≡ 0
none_before c k bs [] lt h = refl
none_before c k bs (w ∷ ws) lt h =
    let out : holds k w ≡ false = and_left _ _ (lt-leb w.column k (omega (arith, h.0.later))) in
    (λ i. cond (out i) 1 0 + none_before c k bs ws lt h.1 i)

-- of a byte from its column on, a word's end alone decides
held_from : (k : ℕ) (w : Piece) → w.column ≤ k → holds k w ≡ ltb k (w.column + length w.text)
held_from k w le = ap (λ t. t && ltb k (w.column + length w.text)) (le-leb w.column k le)

-- a word that begins with the first byte has that byte
held_first : (c b : ℕ) (t : List ℕ) → holds c (record { column = c; text = b ∷ t }) ≡ true
held_first c b t = and_from _ _ (le-leb c c (omega arith)) (lt-ltb c (c + suc (length t)) (omega arith))

-- a space more in front
covers_space : (c b : ℕ) (bs : List ℕ) (ws : List Piece) → eqb b space ≡ true → Covers (suc c) bs ws → Covers c (b ∷ bs) ws
covers_space c b bs ws e h = record { parts = all_later c b bs ws h.parts; apart = h.apart; whole = whole }
  where
    whole : (i : ℕ) → i < length (b ∷ bs) → holders (c + i) ws ≡ cond (eqb (get_or (b ∷ bs) i 0) space) 0 1
    whole zero lt = none_before (suc c) (c + 0) bs ws (omega arith) h.parts ∙ sym (cond-true (eqb b space) 0 1 e)
    whole (suc i) lt =
        let up : c + suc i ≡ suc c + i = omega arith in
        ap (λ k. holders k ws) up ∙ h.whole i (omega arith)

-- a byte more in front that is no space: what it does to the words, to the word that it belongs to, and to the rest
module _ (c b : ℕ) (bs : List ℕ) (e : eqb b space ≡ false) where
  ne : b ≡ space → ⊥
  ne = eqb-false b space e

  -- whichever word begins with the byte: the others are as they were in each later column
  whole_first : (t : List ℕ) (ws ls : List Piece) → AllByRecursion (Stands (suc c) bs) ls → Covers (suc c) bs ws → ((k : ℕ) → c < k → cond (holds k (record { column = c; text = b ∷ t })) 1 0 + holders k ls ≡ holders k ws) → (i : ℕ) → i < length (b ∷ bs) → holders (c + i) (record { column = c; text = b ∷ t } ∷ ls) ≡ cond (eqb (get_or (b ∷ bs) i 0) space) 0 1
  whole_first t ws ls parts h same zero lt =
      let z : c + 0 ≡ c = omega arith in
      ap (λ k. holders k (record { column = c; text = b ∷ t } ∷ ls)) z
      ∙ (λ i. cond (held_first c b t i) 1 0 + none_before (suc c) c bs ls (omega arith) parts i)
      ∙ sym (cond-false (eqb b space) 0 1 e)
  whole_first t ws ls parts h same (suc i) lt =
      let up : c + suc i ≡ suc c + i = omega arith in
      same (c + suc i) (omega arith) ∙ ap (λ k. holders k ws) up ∙ h.whole i (omega arith)

  -- a word of its own
  alone_later : (k : ℕ) (ls : List Piece) → c < k → cond (holds k (record { column = c; text = b ∷ [] })) 1 0 + holders k ls ≡ holders k ls
  alone_later k ls lt =
      let out : holds k (record { column = c; text = b ∷ [] }) ≡ false = and_right _ _ (le-ltb k (c + 1) (omega arith)) in
      ap (λ t. cond t 1 0 + holders k ls) out ∙ zero-add (holders k ls)

  -- the front of the word in the next column
  joined_later : (k : ℕ) (w : Piece) (ls : List Piece) → w.column ≡ suc c → c < k → cond (holds k (record { column = c; text = b ∷ w.text })) 1 0 + holders k ls ≡ cond (holds k w) 1 0 + holders k ls
  joined_later k w ls at lt =
      let end : c + suc (length w.text) ≡ w.column + length w.text = omega arith in
      ap (λ t. cond t 1 0 + holders k ls)
      (held_from k (record { column = c; text = b ∷ w.text }) (omega arith) ∙ ap (ltb k) end ∙ sym (held_from k w (omega arith)))

  apart_next : (t : List ℕ) (w v : Piece) (ws : List Piece) → v.column ≡ c → v.column + length v.text ≡ w.column + length w.text → Apart (w ∷ ws) → Apart (v ∷ ws)
  apart_next t w v [] at end h = tt
  apart_next t w v (x ∷ ws) at end h = (omega (arith, h.0), h.1)

  covers_byte : (ws : List Piece) → Covers (suc c) bs ws → Covers c (b ∷ bs) (extend c b ws)
  covers_byte [] h = record {
    parts = (stands_first c b bs [] ne tt refl, tt);
    apart = tt;
    whole = whole_first [] [] [] tt h (λ k lt. alone_later k [] lt);
  }
  covers_byte (w ∷ ws) h =
      cond_both (eqb w.column (suc c)) (record { column = c; text = b ∷ w.text } ∷ ws) (record { column = c; text = b ∷ [] } ∷ (w ∷ ws)) (Covers c (b ∷ bs))
      (λ at.
      let next : w.column ≡ suc c = eqb-true w.column (suc c) at in
      let z : w.column - suc c ≡ 0 = omega arith in
      record {
        parts = (
          stands_first c b bs w.text ne h.parts.0.solid (ap (λ i. take (length w.text) (drop i bs)) (sym z) ∙ h.parts.0.part),
          all_later c b bs ws h.parts.1,
        );
        apart = apart_next w.text w (record { column = c; text = b ∷ w.text }) ws refl (omega arith) h.apart;
        whole = whole_first w.text (w ∷ ws) ws h.parts.1 h (λ k lt. joined_later k w ws next lt);
      })
      (λ at.
      let gap : w.column ≡ suc c → ⊥ = eqb-false w.column (suc c) at in
      record {
        parts = (stands_first c b bs [] ne tt refl, all_later c b bs (w ∷ ws) h.parts);
        apart = (⊎_elim (λ lt. omega arith) (λ le. absurd (gap (omega (arith, h.parts.0.later)))) (cases_lt (suc c) w.column), h.apart);
        whole = whole_first [] (w ∷ ws) (w ∷ ws) h.parts h (λ k lt. alone_later k (w ∷ ws) lt);
      })

covers_from : (c : ℕ) (bs : List ℕ) → Covers c bs (words_from c bs)
covers_from c [] = record { parts = tt; apart = tt; whole = λ i lt. absurd (omega arith) }
covers_from c (b ∷ bs) =
    cond_both (eqb b space) (words_from (suc c) bs) (extend c b (words_from (suc c) bs)) (Covers c (b ∷ bs))
    (λ e. covers_space c b bs (words_from (suc c) bs) e (covers_from (suc c) bs))
    (λ e. covers_byte c b bs e (words_from (suc c) bs) (covers_from (suc c) bs))

pub words_cover : WordsCover
words_cover line = covers_from 1 line
