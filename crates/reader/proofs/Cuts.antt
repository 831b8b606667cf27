-- How an input is cut into lines. Assumes nothing.
use Rattle.std.proofs.Common.{◌≡◌, ℕ, suc, ◌+◌, ◌<◌, true, false, cond, eqb, List, [], ◌∷◌, ◌++◌, length, take, drop, sym, refl, ap, ◌∙◌, subst, inl, inr, ⊎_elim, arith}
use Rattle.std.proofs.lemmas.Bool.{eqb-false, cases_lt, cond_both}
use Rattle.std.proofs.lemmas.List.{take_all, drop_all}
use Rattle.reader.specs.Bytes.{before, newline}
use Rattle.reader.specs.Lines.{onto, lines_of, OneLine, Cut}
use Rattle.reader.proofs.Parts.{before_joins}

lines_on : (b : ℕ) (bs : List ℕ) → (0 < length bs → lines_of bs ≡ take (before newline bs) bs ∷ lines_of (drop (suc (before newline bs)) bs)) → onto b (lines_of bs) ≡ (b ∷ take (before newline bs) bs) ∷ lines_of (drop (suc (before newline bs)) bs)
lines_on b [] h = refl
lines_on b (x ∷ bs) h = ap (onto b) (h (omega arith))

-- the first line ends at the first byte 10, which belongs to no line
lines_cut : (bs : List ℕ) → 0 < length bs → lines_of bs ≡ take (before newline bs) bs ∷ lines_of (drop (suc (before newline bs)) bs)
lines_cut [] h = absurd (omega arith)
lines_cut (b ∷ bs) h =
    elim (eqb b newline) as (λ t. cond t ([] ∷ lines_of bs) (onto b (lines_of bs)) ≡ take (cond t 0 (suc (before newline bs))) (b ∷ bs) ∷ lines_of (drop (suc (cond t 0 (suc (before newline bs)))) (b ∷ bs)))
    [ true ↦ refl | false ↦ lines_on b bs (lines_cut bs) ]

pub lines_first : (bs l r : List ℕ) → l ≡ take (before newline bs) bs → r ≡ drop (before newline bs + 1) bs → 0 < length bs → lines_of bs ≡ l ∷ lines_of r
lines_first bs l r p q h =
    let up : before newline bs + 1 ≡ suc (before newline bs) = omega arith in
    let q' : r ≡ drop (suc (before newline bs)) bs = q ∙ ap (λ k. drop k bs) up in
    lines_cut bs h ∙ (λ i. sym p i ∷ lines_of (sym q' i))

before_whole : (bs : List ℕ) → OneLine (take (before newline bs) bs)
before_whole [] = tt
before_whole (b ∷ bs) =
    cond_both (eqb b newline) 0 (suc (before newline bs)) (λ k. OneLine (take k (b ∷ bs)))
    (λ e. tt)
    (λ e. (eqb-false b newline e, before_whole bs))

-- the first line and the rest are what the input was
pub line_cut : (bs l r : List ℕ) → l ≡ take (before newline bs) bs → r ≡ drop (before newline bs + 1) bs → Cut bs l r
line_cut bs l r p q = record {
  one_line = subst OneLine (sym p) (before_whole bs);
  joins =
      ⊎_elim
      (λ lt. inl (before_joins newline bs lt ∙ (λ i. sym p i ++ (newline ∷ sym q i))))
      (λ le. inr (sym (p ∙ take_all (before newline bs) bs le), q ∙ drop_all (before newline bs + 1) bs (omega arith)))
      (cases_lt (before newline bs) (length bs));
}
