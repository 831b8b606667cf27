-- A text, parted at the first byte of a kind. Assumes nothing.
use Rattle.std.proofs.Common.{◌≡◌, ℕ, Bool, suc, ◌+◌, ◌-◌, ◌<◌, ◌≤◌, true, false, cond, eqb, ltb, not, List, [], ◌∷◌, ◌++◌, length, take, drop, Some, None, Option, sym, refl, ap, ◌∙◌, subst, ⊎_elim, arith}
use Rattle.std.specs.List.{position, position_or_len}
use Rattle.std.specs.Option.{unwrap_or}
use Rattle.std.proofs.lemmas.Bool.{eqb-true, cond-true, cond-false, lt-ltb, le-ltb, ltb-true, cases_Bool, cases_lt}
use Rattle.std.proofs.lemmas.List.{take_rest}
use Rattle.std.proofs.lemmas.List.Recursion.{is_position_or_len}
use Rattle.std.proofs.lemmas.Option.{cond_some, none-some}
use Rattle.reader.specs.Bytes.{Parted, before, leading}

before_is : (s : ℕ) (bs : List ℕ) → before s bs ≡ position_or_len (λ b. eqb b s) bs
before_is s bs = is_position_or_len (before s) (λ b. eqb b s) refl (λ x xs. let up : suc (before s xs) ≡ 1 + before s xs = omega arith in ap (cond (eqb x s) 0) up) bs

pub before_le : (s : ℕ) (bs : List ℕ) → before s bs ≤ length bs
before_le s [] = omega arith
before_le s (b ∷ bs) =
    let h = before_le s bs in
    elim (eqb b s) as (λ t. cond t 0 (suc (before s bs)) ≤ suc (length bs)) [ true ↦ omega arith | false ↦ omega arith ]

pub runs_le : (s : ℕ) (bs : List ℕ) → leading s bs ≤ length bs
runs_le s [] = omega arith
runs_le s (b ∷ bs) =
    let h = runs_le s bs in
    elim (eqb b s) as (λ t. cond t (suc (leading s bs)) 0 ≤ suc (length bs)) [ true ↦ omega arith | false ↦ omega arith ]

leading_is : (s : ℕ) (bs : List ℕ) → leading s bs ≡ position_or_len (λ b. not (eqb b s)) bs
leading_is s bs = is_position_or_len (leading s) (λ b. not (eqb b s)) refl (λ x xs. elim (eqb x s) as (λ t. cond t (suc (leading s xs)) 0 ≡ cond (not t) 0 (1 + leading s xs)) [ true ↦ omega arith | false ↦ refl ]) bs

-- the bytes before the first s, that s, and what follows it
pub before_joins : (s : ℕ) (bs : List ℕ) → before s bs < length bs → bs ≡ take (before s bs) bs ++ (s ∷ drop (before s bs + 1) bs)
before_joins s [] h = absurd (omega arith)
before_joins s (b ∷ bs) h =
    ⊎_elim
    (λ e.
    ap (λ x. x ∷ bs) (eqb-true b s e)
    ∙ ap (λ k. take k (b ∷ bs) ++ (s ∷ drop (k + 1) (b ∷ bs))) (sym (cond-true (eqb b s) 0 (suc (before s bs)) e)))
    (λ e.
    let k = cond-false (eqb b s) 0 (suc (before s bs)) e in
    let less : suc (before s bs) < suc (length bs) = subst (λ n. n < suc (length bs)) k h in
    let up : suc (before s bs + 1) ≡ suc (before s bs) + 1 = omega arith in
    ap (λ l. b ∷ l) (before_joins s bs (omega arith))
    ∙ ap (λ n. b ∷ (take (before s bs) bs ++ (s ∷ drop n (b ∷ bs)))) up
    ∙ ap (λ k. take k (b ∷ bs) ++ (s ∷ drop (k + 1) (b ∷ bs))) (sym k))
    (cases_Bool (eqb b s))

module _ (s : ℕ) (bs : List ℕ) (r : Option ℕ) (is : r ≡ position (λ b. eqb b s) bs) where
  pub parted_at : (n : ℕ) → r ≡ Some n → Parted s bs (take n bs) (take (length bs - (n + 1)) (drop (n + 1) bs))
  parted_at n h =
      let k = position_or_len (λ b. eqb b s) bs in
      let found = cond_some (ltb k (length bs)) k n (sym is ∙ h) in
      let at : n ≡ before s bs = sym found.1 ∙ sym (before_is s bs) in
      let within : k < length bs = ltb-true k (length bs) found.0 in
      record {
        found = omega (arith, before_is s bs);
        front_is = ap (λ i. take i bs) at;
        back_is = take_rest bs (n + 1) ∙ ap (λ i. drop (i + 1) bs) at;
      }

  pub not_parted : r ≡ None → before s bs ≡ length bs
  not_parted h =
      let k = position_or_len (λ b. eqb b s) bs in
      ⊎_elim
      (λ lt. absurd (none-some k (sym h ∙ is ∙ cond-true (ltb k (length bs)) (Some k) None (lt-ltb k (length bs) lt))))
      (λ le. omega (arith, before_is s bs, before_le s bs))
      (cases_lt k (length bs))

-- where the first byte of a kind stands, or how many bytes there are
pub or_length : (p : ℕ → Bool) (bs : List ℕ) (r : Option ℕ) → r ≡ position p bs → position_or_len p bs ≤ length bs → unwrap_or r (length bs) ≡ position_or_len p bs
or_length p bs r is within =
    let k = position_or_len p bs in
    ⊎_elim
    (λ lt. ap (λ o. unwrap_or o (length bs)) (is ∙ cond-true (ltb k (length bs)) (Some k) None (lt-ltb k (length bs) lt)))
    (λ le.
    let all : length bs ≡ k = omega arith in
    ap (λ o. unwrap_or o (length bs)) (is ∙ cond-false (ltb k (length bs)) (Some k) None (le-ltb k (length bs) le)) ∙ all)
    (cases_lt k (length bs))

pub counts_before : (s : ℕ) (bs : List ℕ) (r : Option ℕ) → r ≡ position (λ b. eqb b s) bs → unwrap_or r (length bs) ≡ before s bs
counts_before s bs r is = or_length (λ b. eqb b s) bs r is (omega (arith, before_is s bs, before_le s bs)) ∙ sym (before_is s bs)

pub counts_leading : (s : ℕ) (bs : List ℕ) (r : Option ℕ) → r ≡ position (λ b. not (eqb b s)) bs → unwrap_or r (length bs) ≡ leading s bs
counts_leading s bs r is = or_length (λ b. not (eqb b s)) bs r is (omega (arith, leading_is s bs, runs_le s bs)) ∙ sym (leading_is s bs)
