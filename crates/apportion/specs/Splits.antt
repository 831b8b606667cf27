-- Hamilton's largest remainders, over any number of shares. Assumes nothing.
use Rattle.std.specs.Prelude.{ℕ, ◌+◌, ◌-◌, ◌*◌, ◌/◌, ◌%◌, Bool, cond, List, ◌++◌, map, length, drop, ℤ, pos, ◌-ℤ◌, ◌==◌, nat_lt, slice_index_or}
use Rattle.std.specs.List.{range_with_len}
use Rattle.money.specs.declared.quantity.Minor.{Minor}
use Rattle.money.specs.Conversions.{minors}
use Rattle.apportion.specs.declared.fraction.Fraction.{Fraction}
use Rattle.apportion.specs.declared.share.Share.{Share}
use Rattle.apportion.specs.declared.share.Candidate.{Candidate}
use Rattle.apportion.specs.Places.{sum_below, one_if, rank_in}
use Rattle.apportion.specs.Ties.{Tie}

-- what a list reads past its end
abbrev pub no_share : Share
no_share = record { account = 0; weight = 0 }

-- the share at a place, from 0
abbrev pub share_at : List Share → ℕ → Share
share_at shares i = slice_index_or shares i no_share

-- its weight
abbrev pub weight_at : List Share → ℕ → ℕ
weight_at shares i = (share_at shares i).weight

-- the share as a tie rule sees it
abbrev pub candidate_at : List Share → ℕ → Candidate
candidate_at shares i = record { account = (share_at shares i).account; weight = weight_at shares i; place = i }

-- W, the sum of the weights
unfoldable pub all_weights : List Share → ℕ
all_weights shares = sum_below (weight_at shares) (length shares)

-- what a share first gets: amount × weight ÷ W rounded down
unfoldable pub quotient : ℕ → List Share → ℕ → ℕ
quotient amount shares i = amount * weight_at shares i / all_weights shares

-- what that leaves of its exact part: amount × weight mod W
unfoldable pub remainder : ℕ → List Share → ℕ → ℕ
remainder amount shares i = amount * weight_at shares i % all_weights shares

-- the units left when every share has what it first gets
unfoldable pub units_left : ℕ → List Share → ℕ
units_left amount shares = amount - sum_below (quotient amount shares) (length shares)

-- place i comes before place j: by larger remainder, then by the tie rule
unfoldable pub before : Tie → ℕ → List Share → ℕ → ℕ → Bool
before tie amount shares i j =
    cond (remainder amount shares i == remainder amount shares j)
    (tie (candidate_at shares i) (candidate_at shares j))
    (nat_lt (remainder amount shares j) (remainder amount shares i))

-- how many shares come before that at place i
unfoldable pub rank : Tie → ℕ → List Share → ℕ → ℕ
rank tie amount shares i = rank_in (before tie amount shares) (length shares) i

-- whether the share at place i gets one of the units left
unfoldable pub served : Tie → ℕ → List Share → ℕ → Bool
served tie amount shares i = nat_lt (rank tie amount shares i) (units_left amount shares)

-- what the share at place i gets
unfoldable pub portion : Tie → ℕ → List Share → ℕ → ℕ
portion tie amount shares i = quotient amount shares i + one_if (served tie amount shares i)

-- its fraction: the remainder, less W if the share got a unit
unfoldable pub fraction : Tie → ℕ → List Share → ℕ → ℤ
fraction tie amount shares i = pos (remainder amount shares i) -ℤ pos (cond (served tie amount shares i) (all_weights shares) 0)

-- a count of 1 ÷ W of a unit
abbrev pub fraction_of : ℤ → Fraction
fraction_of z = record { 0 = z }

-- what every share gets, in list order
unfoldable pub portions : Tie → ℕ → List Share → List Minor
portions tie amount shares = map (λ i. minors (portion tie amount shares i)) (range_with_len 0 (length shares))

-- every fraction, in list order
unfoldable pub fractions : Tie → ℕ → List Share → List Fraction
fractions tie amount shares = map (λ i. fraction_of (fraction tie amount shares i)) (range_with_len 0 (length shares))

-- a list with another written over its front; what follows is as it was
abbrev pub over : {X : Type 0} → List X → List X → List X
over front list = front ++ drop (length front) list
