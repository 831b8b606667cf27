-- Splits reckoned by hand: the portions and the fractions. Assumes nothing.
use Rattle.std.specs.Prelude.{◌≡◌, ℕ, [], ◌∷◌, map, pos, neg_ℤ}
use Rattle.money.specs.Conversions.{minors}
use Rattle.apportion.specs.declared.share.Share.{Share}
use Rattle.apportion.specs.Ties.{by_place, by_weight}
use Rattle.apportion.specs.Splits.{portions, fractions, fraction_of}

-- a share of a weight
abbrev share : ℕ → ℕ → Share
share account weight = record { account = account; weight = weight }

pub record ReckonedSplits : Type 0 where
  -- 100 by equal weights: the first share gets the unit that is left
  pub thirds : (a b c : ℕ)
      → portions by_place 100 (share a 1 ∷ share b 1 ∷ share c 1 ∷ []) ≡ map minors (34 ∷ 33 ∷ 33 ∷ [])
  pub thirds_owed : (a b c : ℕ)
      → fractions by_place 100 (share a 1 ∷ share b 1 ∷ share c 1 ∷ []) ≡ map fraction_of (neg_ℤ (pos 2) ∷ pos 1 ∷ pos 1 ∷ [])
  -- 3 by 1, 3, 2: halves are left at the first two, and the tie rule decides
  pub place_first : (a b c : ℕ)
      → portions by_place 3 (share a 1 ∷ share b 3 ∷ share c 2 ∷ []) ≡ map minors (1 ∷ 1 ∷ 1 ∷ [])
  pub weight_first : (a b c : ℕ)
      → portions by_weight 3 (share a 1 ∷ share b 3 ∷ share c 2 ∷ []) ≡ map minors (0 ∷ 2 ∷ 1 ∷ [])
