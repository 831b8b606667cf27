-- What the check of a split does, share by share. Assumes nothing.
use Rattle.std.proofs.Common.{◌≡◌, ℕ, ◌+◌, ◌≤◌, true, false, eqb, List, length, drop, ℤ, Ok, Result, sym, ap, ◌∙◌, add-one, arith}
use Rattle.std.proofs.lemmas.List.{at_drop_all}
use Rattle.std.proofs.lemmas.Bool.{le-ltb, ne_eqb, or_from, cond-true, cond-false}
use Rattle.register.specs.Register.{Refusal}
use Rattle.money.specs.Conversions.{convertible}
use Rattle.apportion.specs.declared.share.Share.{Share}
use Rattle.apportion.specs.Places.{sum_below}
use Rattle.apportion.specs.Refusals.{most_shares, each_share, some_weight, checked}
use Rattle.apportion.specs.Splits.{weight_at, all_weights}

pub sum_more : (f : ℕ → ℕ) (n : ℕ) → sum_below f (n + 1) ≡ sum_below f n + f n
sum_more f n = ap (sum_below f) (add-one n)

-- an amount and a number of shares in range leave the answer to the shares
pub in_range_lem : (amount : ℤ) (shares : List Share) → convertible amount ≡ true → false ≡ eqb (length shares) 0 → length shares ≤ most_shares
    → checked amount shares ≡ each_share 1 shares (some_weight shares)
in_range_lem amount shares a c d =
    cond-true _ _ _ a
    ∙ cond-false _ _ _ (or_from _ _ (sym c) (le-ltb most_shares (length shares) d))

-- past the last share the answer is the last one
pub shares_pass : (shares : List Share) (last : Result ℕ Refusal) (i : ℕ) → length shares ≤ i → each_share (i + 1) (drop i shares) last ≡ last
shares_pass shares last i h = at_drop_all (λ l. each_share (i + 1) l last) shares i h

pub weight_some : (shares : List Share) → (all_weights shares ≡ 0 → ⊥) → some_weight shares ≡ Ok (all_weights shares)
weight_some shares e = cond-false _ _ _ (ne_eqb (all_weights shares) 0 e)

-- all the weights, once every place is summed
pub weights_all : (shares : List Share) (i w : ℕ) → w ≡ sum_below (weight_at shares) i → i ≤ length shares → length shares ≤ i → all_weights shares ≡ w
unfolding all_weights
weights_all shares i w e below above = let s : length shares ≡ i = omega arith in ap (sum_below (weight_at shares)) s ∙ sym e
