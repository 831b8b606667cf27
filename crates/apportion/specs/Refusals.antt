-- When a split is refused, and with what. Assumes nothing.
use Rattle.std.specs.Prelude.{◌≡◌, ℕ, ◌+◌, ◌<◌, ◌≤◌, Bool, true, cond, ◌||◌, List, [], ◌∷◌, length, ℤ, pos, Ok, Err, Result, MatchResult, ◌==◌, nat_lt}
use Rattle.register.specs.Register.{BookFault}
use Rattle.register.specs.Register.{Refusal, by_book}
use Rattle.money.specs.Conversions.{most_amount, convertible}
use Rattle.apportion.specs.declared.share.Share.{Share}
use Rattle.apportion.specs.Accounts.{named}
use Rattle.apportion.specs.Splits.{share_at, weight_at, all_weights}

-- the most shares that a split may have
abbrev pub most_shares : ℕ
most_shares = 15

-- the largest weight of a share
abbrev pub most_weight : ℕ
most_weight = 1_000_000

-- the last answer, unless a share is refused: 4 for its account, 8 for its weight; the first of them has the place `from`
abbrev pub each_share : ℕ → List Share → Result ℕ Refusal → Result ℕ Refusal
each_share from [] last = last
each_share from (s ∷ shares) last =
    cond (named s.account)
    (cond (nat_lt most_weight s.weight) (Err (by_book 8 from)) (each_share (from + 1) shares last))
    (Err (by_book 4 from))

-- W, or 8 where it is 0
abbrev pub some_weight : List Share → Result ℕ Refusal
some_weight shares = cond (all_weights shares == 0) (Err (by_book 8 0)) (Ok (all_weights shares))

-- W, or what is wrong with the amount and the shares: 5 for an amount out of range, 8 for the number of shares,
-- then each share in turn, and last W
abbrev pub checked : ℤ → List Share → Result ℕ Refusal
checked amount shares =
    cond (convertible amount)
    (cond (length shares == 0 || nat_lt most_shares (length shares)) (Err (by_book 8 0))
    (each_share 1 shares (some_weight shares)))
    (Err (by_book 5 0))

-- 21 where a list is too short, unless the check refuses
abbrev if_room : Result ℕ Refusal → Bool → Result (Unit {0}) Refusal
if_room (Err refusal) short = Err refusal
if_room (Ok w) short = cond short (Err (by_book 21 0)) (Ok tt)

-- the answer of a split with lists of the lengths m and n to take the portions and the fractions
abbrev pub verdict : ℤ → List Share → ℕ → ℕ → Result (Unit {0}) Refusal
verdict amount shares m n = if_room (checked amount shares) (nat_lt m (length shares) || nat_lt n (length shares))

-- What can be divided: an amount of 1 to T, 1 to 15 shares with named accounts and weights in range, and W not 0.
pub record Divisible (amount : ℕ) (shares : List Share) (w : ℕ) : Type 0 where
  pub amount_least : 0 < amount
  pub amount_most : amount ≤ most_amount
  pub shares_least : 0 < length shares
  pub shares_most : length shares ≤ most_shares
  pub account : (i : ℕ) → i < length shares → named (share_at shares i).account ≡ true
  pub weight : (i : ℕ) → weight_at shares i ≤ most_weight
  pub sum : w ≡ all_weights shares
  pub sum_least : 0 < w

-- The check passes exactly what can be divided, and answers W.
abbrev pub Checks : ℤ → List Share → Result ℕ BookFault → Type 0
Checks amount shares r =
    MatchResult r (λ w. (n : ℕ) × (amount ≡ pos n) × Divisible n shares w)
    (λ fault. (n w : ℕ) → amount ≡ pos n → Divisible n shares w → ⊥)
