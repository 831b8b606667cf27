-- Lists that are written from the front. Assumes nothing.
use Rattle.std.proofs.Common.{◌≡◌, ℕ, ◌+◌, ◌<◌, ◌≤◌, List, [], ◌∷◌, ◌++◌, map, length, get_or, drop, set, sym, ap, ◌∙◌, arith}
use Rattle.std.specs.List.{range_with_len}
use Rattle.std.proofs.lemmas.List.FromFn.{map-range_with_len_more, length-map-range_with_len}
use Rattle.std.proofs.lemmas.List.{drop_more, set_at, append_assoc}
use Rattle.apportion.specs.Splits.{over}

-- the first i places of a list hold what f gives there, and the others are as they were in d
abbrev pub Filled : {X : Type 0} → (ℕ → X) → List X → List X → ℕ → Type 0
Filled f d list i = list ≡ map f (range_with_len 0 i) ++ drop i d

-- one place more is written
pub fill_more : {X : Type 0} (f : ℕ → X) (d list : List X) (i : ℕ) (x : X) → Filled f d list i → x ≡ f i → i < length d → Filled f d (set list i x) (i + 1)
fill_more f d list i x w e h =
    ap (set list i) e
    ∙ ap (λ l. set l i (f i)) (w ∙ ap (λ l. map f (range_with_len 0 i) ++ l) (drop_more d i x h))
    ∙ set_at (map f (range_with_len 0 i)) (get_or d i x) (drop (i + 1) d) (f i) i (length-map-range_with_len f 0 i)
    ∙ sym (append_assoc (map f (range_with_len 0 i)) (f i ∷ []) (drop (i + 1) d))
    ∙ ap (λ l. l ++ drop (i + 1) d) (sym (map-range_with_len_more f 0 i i (omega arith)))

-- all of n places are written
pub filled_all : {X : Type 0} (f : ℕ → X) (d list : List X) (i n : ℕ) → Filled f d list i → i ≤ n → n ≤ i → list ≡ over (map f (range_with_len 0 n)) d
filled_all f d list i n w le ge =
    let e : i ≡ n = omega arith in
    w ∙ ap (λ k. map f (range_with_len 0 k) ++ drop k d) e ∙ ap (λ k. map f (range_with_len 0 n) ++ drop k d) (sym (length-map-range_with_len f 0 n))
