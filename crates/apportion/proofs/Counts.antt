-- The counting argument: exactly k places have a rank below k. Assumes nothing.
use Rattle.std.proofs.Common.{◌≡◌, ℕ, zero, suc, ◌+◌, ◌-◌, ◌*◌, ◌<◌, ◌≤◌, Bool, true, false, map, sum, not, eqb, ltb, sym, refl, ap, ◌∙◌, subst, ⊎_elim, suc-mul, mul-zero, mul-add, add-one, arith}
use Rattle.std.specs.List.{range_with_len}
use Rattle.std.proofs.lemmas.List.FromFn.{sum_by-map-range_with_len_more}
use Rattle.std.proofs.lemmas.Bool.{both_ways, cases_Bool, cases_eq, lt-ltb, le-ltb, eqb-true}
use Rattle.std.proofs.lemmas.Bool.Decides.{nat_tests}
use Rattle.apportion.specs.Places.{sum_below, one_if, count, rank_in, Strict, RanksFill}

-- a sum over no more than n places is no larger, place by place
pub sum_mono : (f g : ℕ → ℕ) (n : ℕ) → ((k : ℕ) → k < n → f k ≤ g k) → sum_below f n ≤ sum_below g n
sum_mono f g zero h = omega arith
sum_mono f g (suc n) h = omega (arith, sum_mono f g n (λ k l. h k (omega arith)), h n (omega arith))

pub sum_same : (f g : ℕ → ℕ) (n : ℕ) → ((k : ℕ) → k < n → f k ≡ g k) → sum_below f n ≡ sum_below g n
sum_same f g zero h = refl
sum_same f g (suc n) h = omega (arith, sum_same f g n (λ k l. h k (omega arith)), h n (omega arith))

-- and smaller where one place is smaller
pub sum_less : (f g : ℕ → ℕ) (n i : ℕ) → i < n → f i < g i → ((k : ℕ) → k < n → f k ≤ g k) → sum_below f n < sum_below g n
sum_less f g zero i l s h = omega arith
sum_less f g (suc n) i l s h =
    ⊎_elim
    (λ e. let s' : f n < g n = subst (λ x. f x < g x) e s in omega (arith, sum_mono f g n (λ k l. h k (omega arith))))
    (λ d. omega (arith, sum_less f g n i (omega arith) s (λ k l. h k (omega arith)), h n (omega arith)))
    (cases_eq i n)

pub sum_add : (f g : ℕ → ℕ) (n : ℕ) → sum_below (λ k. f k + g k) n ≡ sum_below f n + sum_below g n
sum_add f g zero = refl
sum_add f g (suc n) = omega (arith, sum_add f g n)

pub sum_scale : (c : ℕ) (f : ℕ → ℕ) (n : ℕ) → sum_below (λ k. c * f k) n ≡ c * sum_below f n
sum_scale c f zero = sym (mul-zero c)
sum_scale c f (suc n) = omega (arith, sum_scale c f n, mul-add c (sum_below f n) (f n))

pub sum_part : (f : ℕ → ℕ) (i n : ℕ) → i ≤ n → sum_below f i ≤ sum_below f n
sum_part f i zero h = let e : i ≡ 0 = omega arith in rw e (omega arith)
sum_part f i (suc n) h =
    ⊎_elim (λ e. rw e (omega arith)) (λ d. omega (arith, sum_part f i n (omega arith))) (cases_eq i (suc n))

-- the sum over the places below n, as a sum over the list of them
pub sum_mapped : (f : ℕ → ℕ) (n : ℕ) → sum (map f (range_with_len 0 n)) ≡ sum_below f n
sum_mapped f zero = refl
sum_mapped f (suc n) =
    ap (λ m. sum (map f (range_with_len 0 m))) (sym (add-one n))
    ∙ sum_by-map-range_with_len_more (λ x. x) f 0 n n (omega arith)
    ∙ ap (λ x. x + f n) (sum_mapped f n)

-- a sum of numbers of at most m each
pub sum_bound : (f : ℕ → ℕ) (m n : ℕ) → ((k : ℕ) → f k ≤ m) → sum_below f n ≤ n * m
sum_bound f m zero h = omega arith
sum_bound f m (suc n) h = omega (arith, sum_bound f m n h, h n, suc-mul n m)

one_or_none_mono : (a b : Bool) → (a ≡ true → b ≡ true) → one_if a ≤ one_if b
one_or_none_mono true b h = subst (λ x. 1 ≤ one_if x) (sym (h refl)) (omega arith)
one_or_none_mono false b h = omega arith

pub count_all : (n : ℕ) → count (λ _. true) n ≡ n
count_all zero = refl
count_all (suc n) = omega (arith, count_all n)

pub count_none : (p : ℕ → Bool) (n : ℕ) → ((k : ℕ) → k < n → p k ≡ false) → count p n ≡ 0
count_none p zero h = refl
count_none p (suc n) h = omega (arith, count_none p n (λ k l. h k (omega arith)), ap one_if (h n (omega arith)))

pub count_mono : (p q : ℕ → Bool) (n : ℕ) → ((k : ℕ) → k < n → p k ≡ true → q k ≡ true) → count p n ≤ count q n
count_mono p q n h = sum_mono (λ k. one_if (p k)) (λ k. one_if (q k)) n (λ k l. one_or_none_mono (p k) (q k) (h k l))

pub count_less : (p q : ℕ → Bool) (n i : ℕ) → i < n → p i ≡ false → q i ≡ true → ((k : ℕ) → k < n → p k ≡ true → q k ≡ true) → count p n < count q n
count_less p q n i l no_p yes_q h =
    sum_less (λ k. one_if (p k)) (λ k. one_if (q k)) n i l (omega (arith, ap one_if no_p, ap one_if yes_q)) (λ k l. one_or_none_mono (p k) (q k) (h k l))

-- a test that only one place can pass is passed at most once
pub count_once : (p : ℕ → Bool) (n : ℕ) → ((i j : ℕ) → i < n → j < n → p i ≡ true → p j ≡ true → i ≡ j) → count p n ≤ 1
count_once p zero h = omega arith
count_once p (suc n) h =
    ⊎_elim
    (λ yes_n. omega (
      arith,
      ap one_if yes_n,
      count_none p n (λ k l. ⊎_elim (λ yes_k. absurd (omega (arith, h k n (omega arith) (omega arith) yes_k yes_n))) (λ e. e) (cases_Bool (p k))),
    ))
    (λ no_n. omega (arith, ap one_if no_n, count_once p n (λ i j k l. h i j (omega arith) (omega arith))))
    (cases_Bool (p n))

-- a test on a number, one higher: it was passed before, or the number is the bound itself
one_or_none_step : (r k : ℕ) → one_if (ltb r (suc k)) ≡ one_if (ltb r k) + one_if (eqb r k)
one_or_none_step r k = grind (arith, nat_tests)

pub count_step : (r : ℕ → ℕ) (k n : ℕ) → count (λ i. ltb (r i) (suc k)) n ≡ count (λ i. ltb (r i) k) n + count (λ i. eqb (r i) k) n
count_step r k zero = refl
count_step r k (suc n) = omega (arith, count_step r k n, one_or_none_step (r n) k)

-- Numbers below n, no two of n places with the same: for each k, at most k are below k,
-- and for each rise of k by d at most d more.
module _ (r : ℕ → ℕ) (n : ℕ) (apart : (i j : ℕ) → i < n → j < n → r i ≡ r j → i ≡ j) where
  at_most : (k : ℕ) → count (λ i. ltb (r i) k) n ≤ k
  at_most zero = omega (arith, count_none (λ i. ltb (r i) 0) n (λ i l. le-ltb (r i) 0 (omega arith)))
  at_most (suc k) =
      omega (
        arith,
        count_step r k n,
        at_most k,
        count_once (λ i. eqb (r i) k) n (λ i j li lj ei ej. apart i j li lj (eqb-true (r i) k ei ∙ sym (eqb-true (r j) k ej))),
      )

  rises : (k d : ℕ) → count (λ i. ltb (r i) (k + d)) n ≤ count (λ i. ltb (r i) k) n + d
  rises k zero = let e : k + 0 ≡ k = omega arith in rw e (omega arith)
  rises k (suc d) =
      let e : k + suc d ≡ suc (k + d) = omega arith in
      rw e (omega (
        arith,
        count_step r (k + d) n,
        rises k d,
        count_once (λ i. eqb (r i) (k + d)) n (λ i j li lj ei ej. apart i j li lj (eqb-true (r i) (k + d) ei ∙ sym (eqb-true (r j) (k + d) ej))),
      ))

  pub exactly : ((i : ℕ) → i < n → r i < n) → (k : ℕ) → k ≤ n → count (λ i. ltb (r i) k) n ≡ k
  exactly within k le =
      let all : n ≤ count (λ i. ltb (r i) n) n =
      omega (arith, count_all n, count_mono (λ _. true) (λ i. ltb (r i) n) n (λ i l _. lt-ltb (r i) n (within i l))) in
      let e : k + (n - k) ≡ n = omega arith in
      let up : count (λ i. ltb (r i) n) n ≤ count (λ i. ltb (r i) k) n + (n - k) = rw e at (rises k (n - k)) in
      omega (arith, at_most k)

-- In a strict order the rank is below the number of places, and rises along the order.
module _ (ahead : ℕ → ℕ → Bool) (n : ℕ) (o : Strict ahead n) where
  pub rank_within : (i : ℕ) → i < n → rank_in ahead n i < n
  rank_within i l =
      omega (arith, count_all n, count_less (λ k. ahead k i) (λ _. true) n i l (o.irreflexive i l) refl (λ _ _ _. refl))

  pub rank_rises : (i j : ℕ) → i < n → j < n → ahead i j ≡ true → rank_in ahead n i < rank_in ahead n j
  rank_rises i j li lj h =
      count_less (λ k. ahead k i) (λ k. ahead k j) n i li (o.irreflexive i li) h (λ k lk a. o.transitive k i j lk li lj a h)

  pub rank_apart : (i j : ℕ) → i < n → j < n → rank_in ahead n i ≡ rank_in ahead n j → i ≡ j
  rank_apart i j li lj e =
      ⊎_elim (λ s. s)
      (λ d. ⊎_elim
      (λ a. absurd (omega (arith, rank_rises i j li lj a)))
      (λ b. absurd (omega (arith, rank_rises j i lj li (o.total j i lj li (λ s. d (sym s)) ∙ ap not b))))
      (cases_Bool (ahead i j)))
      (cases_eq i j)

  -- the smaller rank is ahead
  pub rank_orders : (i j : ℕ) → i < n → j < n → rank_in ahead n i < rank_in ahead n j → ahead i j ≡ true
  rank_orders i j li lj h =
      ⊎_elim (λ a. a)
      (λ b. absurd (omega (arith, rank_rises j i lj li (o.total j i lj li (λ s. let e = ap (rank_in ahead n) s in omega arith) ∙ ap not b))))
      (cases_Bool (ahead i j))

  -- two tests that as many places pass, each passed by those ahead of the others, are passed by the same places
  pub passed_by_both : (p q : ℕ → Bool) → count p n ≡ count q n
      → ((i j : ℕ) → i < n → j < n → p i ≡ true → p j ≡ false → ahead i j ≡ true)
      → ((i j : ℕ) → i < n → j < n → q i ≡ true → q j ≡ false → ahead i j ≡ true)
      → (i : ℕ) → i < n → p i ≡ true → q i ≡ true
  passed_by_both p q e p_first q_first i l yes_p =
      ⊎_elim (λ yes_q. yes_q)
      (λ no_q. absurd (omega (
        arith,
        count_less q p n i l no_q yes_p (λ k lk yes_k. ⊎_elim (λ t. t)
            (λ no_k. absurd (both_ways (ahead i i) (o.irreflexive i l) (o.transitive i k i l lk l (p_first i k l lk yes_p no_k) (q_first k i lk l yes_k no_q))))
            (cases_Bool (p k))),
      )))
      (cases_Bool (q i))

pub ranks_fill : RanksFill
ranks_fill ahead n k o le = exactly (rank_in ahead n) n (rank_apart ahead n o) (rank_within ahead n o) k le
