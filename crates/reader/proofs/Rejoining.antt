-- The lines of an input, joined again. Assumes nothing.
use Rattle.std.proofs.Common.{◌≡◌, ℕ, ◌<◌, true, false, cond, eqb, List, [], ◌∷◌, ◌++◌, length, sym, refl, ap, ◌∙◌, arith}
use Rattle.std.specs.List.{AllByRecursion}
use Rattle.std.proofs.lemmas.Bool.{eqb-true, eqb-false, cond_both}
use Rattle.reader.specs.Bytes.{newline}
use Rattle.reader.specs.Laws.{LinesRejoin}
use Rattle.reader.specs.Lines.{OneLine, onto, lines_of, rejoined, last_newline}

onto_one_line : (b : ℕ) (ls : List (List ℕ)) → (b ≡ newline → ⊥) → AllByRecursion OneLine ls → AllByRecursion OneLine (onto b ls)
onto_one_line b [] ne h = ((ne, tt), tt)
onto_one_line b (l ∷ ls) ne h = ((ne, h.0), h.1)

one_line_lem : (bs : List ℕ) → AllByRecursion OneLine (lines_of bs)
one_line_lem [] = tt
one_line_lem (b ∷ bs) =
    cond_both (eqb b newline) ([] ∷ lines_of bs) (onto b (lines_of bs)) (AllByRecursion OneLine)
    (λ e. (tt, one_line_lem bs))
    (λ e. onto_one_line b (lines_of bs) (eqb-false b newline e) (one_line_lem bs))

onto_some : (b : ℕ) (ls : List (List ℕ)) → 0 < length (onto b ls)
onto_some b [] = omega arith
onto_some b (l ∷ ls) = omega arith

-- an input that is not empty has a line
lines_some : (b : ℕ) (bs : List ℕ) → 0 < length (lines_of (b ∷ bs))
lines_some b bs =
    cond_both (eqb b newline) ([] ∷ lines_of bs) (onto b (lines_of bs)) (λ ls. 0 < length ls)
    (λ e. omega arith)
    (λ e. onto_some b (lines_of bs))

rejoined-onto : (b : ℕ) (ls : List (List ℕ)) → rejoined (onto b ls) ≡ b ∷ rejoined ls
rejoined-onto b [] = refl
rejoined-onto b (l ∷ []) = refl
rejoined-onto b (l ∷ m ∷ ls) = refl

rejoined_after : (ls : List (List ℕ)) → 0 < length ls → rejoined ([] ∷ ls) ≡ newline ∷ rejoined ls
rejoined_after [] h = absurd (omega arith)
rejoined_after (l ∷ ls) h = refl

rejoins : (bs : List ℕ) → rejoined (lines_of bs) ++ last_newline bs ≡ bs
rejoins [] = refl
rejoins (b ∷ []) =
    elim (eqb b newline) as (λ t. eqb b newline ≡ t → rejoined (cond t ([] ∷ []) ((b ∷ []) ∷ [])) ++ cond t (newline ∷ []) [] ≡ b ∷ [])
    [ true ↦ (λ e. ap (λ x. x ∷ []) (sym (eqb-true b newline e))) | false ↦ (λ e. refl) ] refl
rejoins (b ∷ c ∷ bs) =
    cond_both (eqb b newline) ([] ∷ lines_of (c ∷ bs)) (onto b (lines_of (c ∷ bs))) (λ ls. rejoined ls ++ last_newline (c ∷ bs) ≡ b ∷ c ∷ bs)
    (λ e.
    ap (λ l. l ++ last_newline (c ∷ bs)) (rejoined_after (lines_of (c ∷ bs)) (lines_some c bs))
    ∙ (λ i. sym (eqb-true b newline e) i ∷ rejoins (c ∷ bs) i))
    (λ e. ap (λ l. l ++ last_newline (c ∷ bs)) (rejoined-onto b (lines_of (c ∷ bs))) ∙ ap (λ l. b ∷ l) (rejoins (c ∷ bs)))

pub lines_rejoin : LinesRejoin
lines_rejoin = record { one_line = one_line_lem; rejoins = rejoins }
