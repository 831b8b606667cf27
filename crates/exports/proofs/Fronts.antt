-- The front of a text over the front of a list. Assumes nothing.
use Rattle.std.proofs.Common.{◌≡◌, ℕ, ◌-◌, min, List, ◌++◌, length, take, drop, sym, ap, ◌∙◌, inl, inr, arith, length-take}
use native.Mathlib.Nat.{sub-zero, min_comm}
use Rattle.std.proofs.lemmas.List.{take_all}
use Rattle.std.proofs.lemmas.Bool.{cases_lt}
use borrow.Rule.Slice.PartMut.{post_of}
use Rattle.apportion.specs.Splits.{over}

-- no more of a text is taken than it has
pub take_min : (text : List ℕ) (n k : ℕ) → k ≡ min (length text) n → take k text ≡ take n text
take_min text n k e =
    elim (cases_lt n (length text)) [ inl h ↦ ap (λ (j : ℕ). take j text) (omega arith) | inr h ↦ take_all k text (omega arith) ∙ sym (take_all n text h) ]

pub front_written : (text list copied : List ℕ) (count : ℕ) → count ≡ min (length text) (length list) → copied ≡ take (count - 0) text → copied ++ post_of 0 (count - 0) list ≡ over (take (length list) text) list
front_written text list copied count e copy =
    let whole : count - 0 ≡ count = sub-zero count in
    let front : copied ≡ take (length list) text = copy ∙ take_min text (length list) (count - 0) (whole ∙ e) in
    let size : count - 0 ≡ length (take (length list) text) = whole ∙ e ∙ min_comm _ _ ∙ sym (length-take (length list) text) in
    λ i. front i ++ drop (size i) list
