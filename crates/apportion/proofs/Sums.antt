-- Sums of lists that are made place by place. Assumes nothing.
use Rattle.std.proofs.Common.{◌≡◌, ℕ, zero, suc, ◌+◌, List, map, ℤ, pos, ◌+ℤ◌, ◌-ℤ◌, sym, refl, ap, ◌∙◌, add-one, arith}
use Rattle.std.specs.List.{range_with_len}
use Rattle.std.proofs.lemmas.List.FromFn.{map-range_with_len_more}
use Rattle.std.proofs.lemmas.Int.{ints}
use Rattle.std.proofs.lemmas.List.Sums.{fold_push}
use mathlib.Core.List.{map-map}
use Rattle.apportion.specs.Laws.{int_sum}
use Rattle.apportion.specs.Places.{sum_below}

int_sum_more : (h : ℕ → ℤ) (n : ℕ) → int_sum (map h (range_with_len 0 (suc n))) ≡ int_sum (map h (range_with_len 0 n)) +ℤ h n
int_sum_more h n =
    ap (λ m. int_sum (map h (range_with_len 0 m))) (sym (add-one n))
    ∙ ap int_sum (map-range_with_len_more h 0 n n (omega arith))
    ∙ fold_push ◌+ℤ◌ (pos 0) (map h (range_with_len 0 n)) (h n)

difference_add : (a b c d : ℕ) → (pos a -ℤ pos b) +ℤ (pos c -ℤ pos d) ≡ pos (a + c) -ℤ pos (b + d)
difference_add a b c d = omega (arith, ints)

pub int_sum-map : {X Y : Type 0} (f : Y → ℤ) (g : X → Y) (l : List X) → int_sum (map f (map g l)) ≡ int_sum (map (λ x. f (g x)) l)
int_sum-map f g l = ap int_sum (map-map f g l)

-- a list made place by place sums to the sum over the places
pub int_sum_listed : (f : ℕ → ℕ) (n : ℕ) → int_sum (map (λ k. pos (f k)) (range_with_len 0 n)) ≡ pos (sum_below f n)
int_sum_listed f zero = refl
int_sum_listed f (suc n) = int_sum_more (λ k. pos (f k)) n ∙ ap (λ z. z +ℤ pos (f n)) (int_sum_listed f n)

pub int_sum_differences : (f g : ℕ → ℕ) (n : ℕ) → int_sum (map (λ k. pos (f k) -ℤ pos (g k)) (range_with_len 0 n)) ≡ pos (sum_below f n) -ℤ pos (sum_below g n)
int_sum_differences f g zero = refl
int_sum_differences f g (suc n) =
    int_sum_more (λ k. pos (f k) -ℤ pos (g k)) n
    ∙ ap (λ z. z +ℤ (pos (f n) -ℤ pos (g n))) (int_sum_differences f g n)
    ∙ difference_add (sum_below f n) (sum_below g n) (f n) (g n)
