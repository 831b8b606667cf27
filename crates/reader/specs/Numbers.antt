-- What bytes say as a number, a signed number, a code or a pair. Assumes nothing.
use Rattle.std.specs.Prelude.{ℕ, ◌+◌, ◌-◌, ◌*◌, Bool, true, false, cond, ◌&&◌, List, [], ◌∷◌, length, take, drop, ℤ, pos, neg_ℤ, Some, None, Option, ◌==◌, nat_le, nat_lt}
use Rattle.std.specs.Option.{option_map}
use Rattle.reader.specs.Bytes.{before, colon}
use Rattle.reader.specs.Limits.{most_digits}

-- whether a byte is a digit, 0 to 9
abbrev pub digit : ℕ → Bool
digit b = nat_le 48 b && nat_le b 57

-- the number that digits to the end make after the number n, if all are digits
abbrev pub digits_after : ℕ → List ℕ → Option ℕ
digits_after n [] = Some n
digits_after n (b ∷ bs) = cond (digit b) (digits_after (n * 10 + (b - 48)) bs) None

-- whether there is a byte, and no needless 0 in front: a first 0 stands alone
abbrev pub plain : List ℕ → Bool
plain [] = false
plain (b ∷ []) = true
plain (b ∷ c ∷ bs) = nat_le 49 b

-- a number: 1 to 11 digits, no needless 0 in front
abbrev pub number_in : List ℕ → Option ℕ
number_in bs = cond (plain bs && nat_le (length bs) most_digits) (digits_after 0 bs) None

-- a signed number: + or - first, then a number
abbrev pub signed_in : List ℕ → Option ℤ
signed_in [] = None
signed_in (b ∷ bs) =
    cond (b == 43) (option_map pos (number_in bs))
    (cond (b == 45) (option_map (λ n. neg_ℤ (pos n)) (number_in bs)) None)

-- whether a byte is a capital, A to Z
abbrev pub capital : ℕ → Bool
capital b = nat_le 65 b && nat_le b 90

-- a code: three capitals
abbrev pub code_in : List ℕ → Option (List ℕ)
code_in [] = None
code_in (a ∷ []) = None
code_in (a ∷ b ∷ []) = None
code_in (a ∷ b ∷ c ∷ []) = cond (capital a && (capital b && capital c)) (Some (a ∷ b ∷ c ∷ [])) None
code_in (a ∷ b ∷ c ∷ x ∷ bs) = None

-- two numbers, if both are numbers
abbrev pub both : Option ℕ → Option ℕ → Option (ℕ × ℕ)
both None n = None
both (Some m) None = None
both (Some m) (Some n) = Some (m, n)

-- a pair: two numbers around the first colon
abbrev pub pair_in : List ℕ → Option (ℕ × ℕ)
pair_in bs =
    cond (nat_lt (before colon bs) (length bs))
    (both (number_in (take (before colon bs) bs)) (number_in (drop (before colon bs + 1) bs)))
    None
