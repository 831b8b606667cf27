-- A number has one spelling. Assumes nothing.
use Rattle.std.proofs.Common.{◌≡◌, ℕ, ◌+◌, ◌-◌, ◌*◌, ◌^◌, ◌<◌, ◌≤◌, Bool, true, false, cond, ◌&&◌, leb, List, [], ◌∷◌, length, get_or, Some, None, decimal, Option, sym, refl, ap, ◌∙◌, ⊎_elim, arith, rules}
use Rattle.std.proofs.lemmas.Fmt.{decimal_digit, digits_decimal, digits_value-decimal, length-decimal-le, decimal_nonempty, first_decimal, decimal-digits_value}
use Rattle.std.proofs.lemmas.Str.Parse.{IsNumeralModel, numerals_by_fold, digits_value_short}
use Rattle.std.proofs.lemmas.Option.{same_Some}
use Rattle.std.proofs.lemmas.Bool.{and_parts, and_from, le-leb, leb-true, cond-true, cases_lt}
use Rattle.reader.specs.Numbers.{digit, digits_after, plain, number_in}
use Rattle.reader.specs.Limits.{most_digits}
use Rattle.reader.specs.Laws.{OneSpelling}

abbrev pub all_digits : List ℕ → Bool
all_digits [] = true
all_digits (b ∷ bs) = digit b && all_digits bs

abbrev fold : ℕ → List ℕ → ℕ
fold n [] = n
fold n (b ∷ bs) = fold (n * 10 + (b - 48)) bs

own : IsNumeralModel (λ ds. all_digits ds ≡ true) (fold 0)
own = numerals_by_fold _ (search rules) fold (search rules)

-- what is read is the fold, where all bytes are digits
digits_is : (n : ℕ) (bs : List ℕ) → digits_after n bs ≡ cond (all_digits bs) (Some (fold n bs)) None
digits_is n [] = refl
digits_is n (b ∷ bs) =
    elim (digit b) as (λ t. cond t (digits_after (n * 10 + (b - 48)) bs) None ≡ cond (t && all_digits bs) (Some (fold (n * 10 + (b - 48)) bs)) None)
    [ true ↦ digits_is (n * 10 + (b - 48)) bs | false ↦ refl ]

plain_from : (bs : List ℕ) → 0 < length bs → (2 ≤ length bs → 48 < get_or bs 0 0) → plain bs ≡ true
plain_from [] some first = absurd (omega arith)
plain_from (b ∷ []) some first = refl
plain_from (b ∷ c ∷ bs) some first = le-leb 49 b (first (omega arith))

plain_some : (bs : List ℕ) → plain bs ≡ true → 0 < length bs
plain_some [] h = grind arith
plain_some (b ∷ bs) h = omega arith

plain_first : (bs : List ℕ) → plain bs ≡ true → get_or bs 0 0 ≡ 48 → length bs ≡ 1
plain_first [] h e = grind arith
plain_first (b ∷ []) h e = refl
plain_first (b ∷ c ∷ bs) h e = absurd (omega (arith, leb-true 49 b h))

written_plain : (n : ℕ) → n < 2 ^ 64 → plain (decimal n) ≡ true
written_plain n h =
    ⊎_elim
    (λ small. ap plain (decimal_digit n small))
    (λ large. plain_from (decimal n) (decimal_nonempty n h) (λ _. first_decimal n (omega arith) h))
    (cases_lt n 10)

forward : (n : ℕ) → n < 10 ^ most_digits → number_in (decimal n) ≡ Some n
forward n h =
    let fits : n < 2 ^ 64 = omega arith in
    let short = le-leb (length (decimal n)) most_digits (length-decimal-le most_digits n (omega arith) h fits) in
    cond-true (plain (decimal n) && leb (length (decimal n)) most_digits) _ None (and_from _ _ (written_plain n fits) short)
    ∙ digits_is 0 (decimal n) ∙ cond-true (all_digits (decimal n)) _ None (digits_decimal own n fits)
    ∙ ap (λ k. Some k) (digits_value-decimal own n fits)

-- a `cond` that gives something took its first way
pub some_way : {A : Type 0} (t : Bool) (o : Option A) (x : A) → cond t o None ≡ Some x → (t ≡ true) × (o ≡ Some x)
some_way true o x e = (refl, e)
some_way false o x e = cc

backward : (bs : List ℕ) (n : ℕ) → number_in bs ≡ Some n → (bs ≡ decimal n) × (n < 10 ^ most_digits)
backward bs n e =
    let a = some_way (plain bs && leb (length bs) most_digits) (digits_after 0 bs) n e in
    let p = and_parts (plain bs) (leb (length bs) most_digits) a.0 in
    let b = some_way (all_digits bs) (Some (fold 0 bs)) n (sym (digits_is 0 bs) ∙ a.1) in
    let v = same_Some (fold 0 bs) n b.1 in
    let small = digits_value_short own bs most_digits b.0 (leb-true (length bs) most_digits p.1) in
    let fits : fold 0 bs < 2 ^ 64 = omega arith in
    (sym (decimal-digits_value own bs b.0 (plain_some bs p.0) (plain_first bs p.0) fits) ∙ ap decimal v, omega arith)

pub decimal_digits : (n : ℕ) → n < 10 ^ most_digits → all_digits (decimal n) ≡ true
decimal_digits n h = digits_decimal own n (omega arith)

pub one_spelling : OneSpelling
one_spelling = record { reads_back = forward; nothing_else = backward }
