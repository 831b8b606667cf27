-- Counting places, sums over places, and the rank of a place in an order. Assumes nothing.
use Rattle.std.specs.Prelude.{◌≡◌, ℕ, zero, suc, ◌+◌, ◌<◌, ◌≤◌, Bool, true, false, cond, not, ◌≢◌, nat_lt}

-- the sum of f over the places below n
abbrev pub sum_below : (ℕ → ℕ) → ℕ → ℕ
sum_below f zero = 0
sum_below f (suc n) = sum_below f n + f n

-- 1 where the test holds, else 0
abbrev pub one_if : Bool → ℕ
one_if b = cond b 1 0

-- how many places below n pass the test
abbrev pub count : (ℕ → Bool) → ℕ → ℕ
count p n = sum_below (λ k. one_if (p k)) n

-- the rank of place i: the number of places below n that stand ahead of it
abbrev pub rank_in : (ℕ → ℕ → Bool) → ℕ → ℕ → ℕ
rank_in ahead n i = count (λ k. ahead k i) n

-- `ahead` is a strict total order on the places below n
pub record Strict (ahead : ℕ → ℕ → Bool) (n : ℕ) : Type 0 where
  pub irreflexive : (i : ℕ) → i < n → ahead i i ≡ false
  pub total : (i j : ℕ) → i < n → j < n → (i ≢ j) → ahead i j ≡ not (ahead j i)
  pub transitive : (i j k : ℕ) → i < n → j < n → k < n → ahead i j ≡ true → ahead j k ≡ true → ahead i k ≡ true

-- Exactly k places have a rank below k, for every k up to the number of places.
abbrev pub RanksFill : Type 0
RanksFill = (ahead : ℕ → ℕ → Bool) (n k : ℕ) → Strict ahead n → k ≤ n → count (λ i. nat_lt (rank_in ahead n i) k) n ≡ k
