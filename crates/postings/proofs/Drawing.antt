-- Legs drawn up one after the other are those legs, or void where they make no entry. Assumes nothing.
use Rattle.std.proofs.Common.{◌≡◌, ◌+◌, ◌<◌, ◌≤◌, ◌^◌, true, ◌&&◌, ltb, ◌⊎◌, List, [], ◌∷◌, ◌++◌, length, ℤ, pos, ◌-ℤ◌, neg_ℤ, nat_abs, Some, None, sym, refl, ap, ◌∙◌, inl, inr, ⊎_elim, arith, w64, SFits, to_z, of_z}
use mir.Syntax.{w128}
use Rattle.std.proofs.lemmas.Int.{ints}
use Rattle.std.specs.List.{AllByRecursion}
use Rattle.std.proofs.lemmas.List.{append-nil, append_assoc, length-append}
use Rattle.std.proofs.lemmas.Bool.{cond-true, cond-false, cases_Bool, and_from, le-leb, lt-ltb}
use Rattle.ledger.specs.declared.leg.Leg.{Leg}
use Rattle.ledger.specs.Entries.{most_legs, InRange, in_range, is_entry}
use Rattle.ledger.proofs.Entries.{entry_legs_lem}
use Rattle.postings.specs.Drafts.{with_leg, with_legs, entry_legs, entry_in}

void_stays : (ls : List Leg) → with_legs None ls ≡ None
unfolding with_leg
void_stays [] = refl
void_stays (l ∷ ls) = void_stays ls

range_in : (l : Leg) → InRange l → in_range l ≡ true
range_in l h = and_from _ _ (le-leb _ _ h.account) (and_from _ _ (le-leb _ _ h.column) (le-leb _ _ h.amount))

-- legs in range, and not too many, are all drawn
all_drawn : (xs ys : List Leg) → length xs + length ys ≤ most_legs → AllByRecursion InRange ys → with_legs (Some xs) ys ≡ Some (xs ++ ys)
unfolding with_leg
all_drawn xs [] h a = ap Some (sym (append-nil xs))
all_drawn xs (y ∷ ys) h a =
    let n : length (xs ++ y ∷ []) ≡ length xs + 1 = length-append xs (y ∷ []) in
    ap (λ o. with_legs o ys) (cond-true _ _ _ (and_from _ _ (lt-ltb (length xs) most_legs (omega arith)) (range_in y a.0)))
    ∙ all_drawn (xs ++ y ∷ []) ys (omega arith) a.1
    ∙ ap Some (append_assoc xs (y ∷ []) ys)

-- all are drawn, or the draft is void
drawn_or_void : (xs ys : List Leg) → (with_legs (Some xs) ys ≡ None) ⊎ (with_legs (Some xs) ys ≡ Some (xs ++ ys))
unfolding with_leg
drawn_or_void xs [] = inr (ap Some (sym (append-nil xs)))
drawn_or_void xs (y ∷ ys) =
    ⊎_elim
    (λ t.
    let on = ap (λ o. with_legs o ys) (cond-true (ltb (length xs) most_legs && in_range y) (Some (xs ++ y ∷ [])) None t) in
    ⊎_elim (λ v. inl (on ∙ v)) (λ d. inr (on ∙ d ∙ ap Some (append_assoc xs (y ∷ []) ys))) (drawn_or_void (xs ++ y ∷ []) ys))
    (λ f. inl (ap (λ o. with_legs o ys) (cond-false (ltb (length xs) most_legs && in_range y) (Some (xs ++ y ∷ [])) None f) ∙ void_stays ys))
    (cases_Bool (ltb (length xs) most_legs && in_range y))

-- so the entry that a draft makes has the legs, if they make one
pub drawn_up : (ls : List Leg) → entry_in (with_legs (Some []) ls) ≡ entry_legs ls
drawn_up ls =
    ⊎_elim
    (λ t. let e = entry_legs_lem ls t in ap entry_in (all_drawn [] ls (omega (arith, e.few)) e.each))
    (λ f. ⊎_elim (λ v. ap entry_in v ∙ sym (cond-false _ _ _ f)) (λ d. ap entry_in d) (drawn_or_void [] ls))
    (cases_Bool (is_entry ls))

-- an amount as the machine has it, and less that amount
pub widened : (z : ℤ) → SFits w64 z → to_z w128 (of_z w128 (to_z w64 (of_z w64 z))) ≡ z
widened z fits = omega (arith, ints)

pub negated : (z : ℤ) → nat_abs z < 2 ^ 127 → to_z w128 (of_z w128 (pos 0 -ℤ z)) ≡ neg_ℤ z
negated z small = omega (arith, ints)
