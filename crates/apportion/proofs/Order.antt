-- The order of the shares, and which of them are served. Assumes nothing.
use Rattle.std.proofs.Common.{◌≡◌, ℕ, ◌<◌, true, false, eqb, ltb, List, length, sym, refl, ◌∙◌, inl, inr, ⊎_elim, arith}
use Rattle.std.proofs.lemmas.Bool.{cases_eq, lt-ltb, le-ltb, ltb-true, ltb-false, eq-eqb, ne_eqb, cond-true, cond-false}
use Rattle.std.proofs.lemmas.Bool.Decides.{nat_tests}
use Rattle.apportion.specs.declared.share.Share.{Share}
use Rattle.apportion.specs.Laws.{ComesBefore}
use Rattle.apportion.specs.Places.{count, Strict}
use Rattle.apportion.specs.Splits.{candidate_at, all_weights, remainder, units_left, before, rank, served}
use Rattle.apportion.specs.Ties.{Tie, Lawful}
use Rattle.apportion.proofs.Counts.{count_mono, ranks_fill, rank_orders}
use Rattle.apportion.proofs.Remainders.{left_le_uneven, left_le_length}

module _ (tie : Tie) (amount : ℕ) (shares : List Share) where
  -- under a lawful tie rule the shares stand in a strict order
  pub before_strict : Lawful tie → Strict (before tie amount shares) (length shares)
  unfolding before
  before_strict law = record {
    irreflexive = λ i _.
        let t = law.irreflexive (candidate_at shares i) in
        let e = eq-eqb (remainder amount shares i) (remainder amount shares i) refl in
        grind (arith, nat_tests);
    total = λ i j _ _ d.
        let t = law.total (candidate_at shares i) (candidate_at shares j) d in
        grind (arith, nat_tests);
    transitive = λ i j k _ _ _ a b.
        let t = law.transitive (candidate_at shares i) (candidate_at shares j) (candidate_at shares k) in
        grind (arith, nat_tests);
  }

  pub before_tied : (i j : ℕ) → remainder amount shares i ≡ remainder amount shares j → before tie amount shares i j ≡ tie (candidate_at shares i) (candidate_at shares j)
  unfolding before
  before_tied i j e = cond-true (eqb (remainder amount shares i) (remainder amount shares j)) _ _ (eq-eqb _ _ e)

  pub before_apart : (i j : ℕ) → (remainder amount shares i ≡ remainder amount shares j → ⊥) → before tie amount shares i j ≡ ltb (remainder amount shares j) (remainder amount shares i)
  unfolding before
  before_apart i j d = cond-false (eqb (remainder amount shares i) (remainder amount shares j)) _ _ (ne_eqb _ _ d)

  -- the test and the relation agree
  pub comes_before : (i j : ℕ) → before tie amount shares i j ≡ true → ComesBefore tie amount shares i j
  comes_before i j t =
      ⊎_elim
      (λ e. inr (e, sym (before_tied i j e) ∙ t))
      (λ d. inl (ltb-true _ _ (sym (before_apart i j d) ∙ t)))
      (cases_eq (remainder amount shares i) (remainder amount shares j))

  pub from_comes_before : (i j : ℕ) → ComesBefore tie amount shares i j → before tie amount shares i j ≡ true
  from_comes_before i j c =
      ⊎_elim
      (λ l. before_apart i j (λ e. omega arith) ∙ lt-ltb _ _ l)
      (λ e. before_tied i j e.0 ∙ e.1)
      c

  -- as many are served as units are left
  pub served_left : Lawful tie → 0 < all_weights shares → count (served tie amount shares) (length shares) ≡ units_left amount shares
  unfolding served rank
  served_left law h = ranks_fill (before tie amount shares) (length shares) (units_left amount shares) (before_strict law) (left_le_length amount shares h)

  -- who is served comes before who is not
  pub served_first : Lawful tie → (i j : ℕ) → i < length shares → j < length shares → served tie amount shares i ≡ true → served tie amount shares j ≡ false → before tie amount shares i j ≡ true
  unfolding served rank
  served_first law i j li lj t f =
      let a = ltb-true (rank tie amount shares i) (units_left amount shares) t in
      let b = ltb-false (rank tie amount shares j) (units_left amount shares) f in
      rank_orders (before tie amount shares) (length shares) (before_strict law) i j li lj (omega arith)

  -- every share with a remainder comes before one without
  uneven_first : (i k : ℕ) → remainder amount shares i ≡ 0 → ltb 0 (remainder amount shares k) ≡ true → before tie amount shares k i ≡ true
  uneven_first i k z t =
      let p : 0 < remainder amount shares k = ltb-true 0 (remainder amount shares k) t in
      before_apart k i (λ e. omega arith) ∙ lt-ltb (remainder amount shares i) (remainder amount shares k) (omega arith)

  -- so one without is never served
  pub even_unserved : 0 < all_weights shares → (i : ℕ) → remainder amount shares i ≡ 0 → served tie amount shares i ≡ false
  unfolding served rank
  even_unserved h i z =
      le-ltb (rank tie amount shares i) (units_left amount shares)
      (omega (
        arith,
        left_le_uneven amount shares h,
        count_mono (λ k. ltb 0 (remainder amount shares k)) (λ k. before tie amount shares k i) (length shares) (λ k _ t. uneven_first i k z t),
      ))
