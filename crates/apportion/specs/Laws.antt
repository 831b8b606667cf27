-- What holds of every split, for every lawful tie rule and any number of shares. Assumes nothing.
use Rattle.std.specs.Prelude.{◌≡◌, ℕ, ◌+◌, ◌<◌, Bool, true, false, ◌⊎◌, List, map, length, ℤ, pos, ◌+ℤ◌, ◌*ℤ◌, fold, ◌≢◌, nat_lt, slice_index_or, unsigned_abs}
use Rattle.money.specs.declared.quantity.Minor.{Minor}
use Rattle.money.specs.Conversions.{minors}
use Rattle.apportion.specs.declared.fraction.Fraction.{Fraction}
use Rattle.apportion.specs.declared.share.Share.{Share}
use Rattle.apportion.specs.Places.{count}
use Rattle.apportion.specs.Ties.{Tie, Lawful}
use Rattle.apportion.specs.Splits.{weight_at, candidate_at, all_weights, quotient, remainder, units_left, fraction_of, portions, fractions}

-- the sum of signed numbers
abbrev pub int_sum : List ℤ → ℤ
int_sum zs = fold ◌+ℤ◌ (pos 0) zs

-- the minor units at a place of a list
abbrev pub units_at : List Minor → ℕ → ℤ
units_at given i = (slice_index_or given i (minors 0)).0

-- the fraction at a place of a list, in parts of 1 ÷ W
abbrev pub parts_at : List Fraction → ℕ → ℤ
parts_at owed i = (slice_index_or owed i (fraction_of (pos 0))).0

-- The exact part of the share at place i, amount × weight ÷ W, rounded down; or one unit more, and that only where
-- the exact part is no whole number.
abbrev pub DownOrUp : ℕ → List Share → ℕ → ℤ → Type 0
DownOrUp amount shares i units =
    (units ≡ pos (quotient amount shares i))
    ⊎ ((units ≡ pos (quotient amount shares i + 1)) × (remainder amount shares i ≢ 0))

-- The share at place i comes before that at place j: its remainder is larger, or equal and the tie rule has it ahead.
abbrev pub ComesBefore : Tie → ℕ → List Share → ℕ → ℕ → Type 0
ComesBefore tie amount shares i j =
    (remainder amount shares j < remainder amount shares i)
    ⊎ ((remainder amount shares i ≡ remainder amount shares j) × (tie (candidate_at shares i) (candidate_at shares j) ≡ true))

-- whether the share at place i got more than its exact part rounded down
abbrev pub raised : ℕ → List Share → List Minor → ℕ → Bool
raised amount shares given i = nat_lt (quotient amount shares i) (unsigned_abs (units_at given i))

-- What holds of the portions given and of the fractions owed, for an amount and its shares:
pub record Fair (tie : Tie) (amount : ℤ) (shares : List Share) (given : List Minor) (owed : List Fraction) : Type 0 where
  -- there are one portion and one fraction for each share
  pub portion_each : length given ≡ length shares
  pub fraction_each : length owed ≡ length shares
  -- the portions sum to the whole amount
  pub whole : int_sum (map (λ m. m.0) given) ≡ amount
  -- every portion is the share's exact part rounded down, or one more where there is a remainder
  pub rounded : (i : ℕ) → i < length shares → DownOrUp (unsigned_abs amount) shares i (units_at given i)
  -- as many shares get one more as units are left
  pub served : count (raised (unsigned_abs amount) shares given) (length shares) ≡ units_left (unsigned_abs amount) shares
  -- no share left out comes before one that was served: the largest remainders are served
  pub largest : (i j : ℕ) → i < length shares → j < length shares
      → raised (unsigned_abs amount) shares given i ≡ true → raised (unsigned_abs amount) shares given j ≡ false
      → ComesBefore tie (unsigned_abs amount) shares i j
  -- a fraction is what the exact part has above the portion, in parts of 1 ÷ W
  pub owes : (i : ℕ) → i < length shares
      → units_at given i *ℤ pos (all_weights shares) +ℤ parts_at owed i ≡ amount *ℤ pos (weight_at shares i)
  -- the fractions sum to zero
  pub cancel : int_sum (map (λ f. f.0) owed) ≡ pos 0

-- Every split is fair, under every lawful tie rule.
abbrev pub AlwaysFair : Type 0
AlwaysFair = (tie : Tie) → Lawful tie → (amount : ℕ) (shares : List Share) → 0 < all_weights shares
    → Fair tie (pos amount) shares (portions tie amount shares) (fractions tie amount shares)

-- And nothing else is fair.
abbrev pub OnlyFair : Type 0
OnlyFair = (tie : Tie) → Lawful tie → (amount : ℕ) (shares : List Share) → 0 < all_weights shares
    → (given : List Minor) (owed : List Fraction) → Fair tie (pos amount) shares given owed
    → (given ≡ portions tie amount shares) × (owed ≡ fractions tie amount shares)
