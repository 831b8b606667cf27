-- Meanings that agree everywhere are equal, and legs entered one after another. Assumes nothing.
use Rattle.std.proofs.Common.{◌≡◌, ℕ, ◌+◌, ◌<◌, List, [], ◌∷◌, ◌++◌, length, get_or, take, ℤ, pos, Ok, Err, sym, refl, ap, ◌∙◌, arith, length-append}
use borrow.Author.Differences.{ints}
use Rattle.std.proofs.lemmas.List.FromFn.{fill_by_all, get_or-map-range_with_len}
use Rattle.std.proofs.lemmas.List.{take_more}
use Rattle.register.specs.Register.{Refusal}
use Rattle.ledger.specs.declared.leg.Leg.{Leg}
use Rattle.ledger.specs.Limits.{columns}
use Rattle.ledger.specs.Meaning.{Meaning, row_of, entered, verdict, after, settled}
use Rattle.ledger.proofs.Rises.{rise_none, rise-append}

pub same_meaning : (m n : Meaning) → m.room ≡ n.room → ((a k : ℕ) → m.cell a k ≡ n.cell a k) → ((a k : ℕ) → m.floor a k ≡ n.floor a k) → ((a k : ℕ) → m.ceiling a k ≡ n.ceiling a k) → m ≡ n
same_meaning m n r c f t = λ i. record { room = r i; cell = λ a k. c a k i; floor = λ a k. f a k i; ceiling = λ a k. t a k i }

-- no legs change nothing
pub entered_none : (m : Meaning) → entered m [] ≡ m
unfolding entered
entered_none m = same_meaning (entered m []) m (omega arith) (λ a k. omega (arith, ints, rise_none a k)) (λ a k. refl) (λ a k. refl)

-- legs in two parts
pub entered-append : (m : Meaning) (xs ys : List Leg) → entered (entered m xs) ys ≡ entered m (xs ++ ys)
unfolding entered
entered-append m xs ys =
    same_meaning (entered (entered m xs) ys) (entered m (xs ++ ys))
    (simp length-append (omega arith))
    (λ a k. omega (arith, ints, rise-append xs ys a k))
    (λ a k. refl)
    (λ a k. refl)

-- one leg more of a list
pub entered_more : (m : Meaning) (ls : List Leg) (i : ℕ) (d : Leg) → i < length ls → entered (entered m (take i ls)) (get_or ls i d ∷ []) ≡ entered m (take (i + 1) ls)
entered_more m ls i d h = entered-append m (take i ls) (get_or ls i d ∷ []) ∙ ap (entered m) (sym (take_more ls i d h))

pub after_taken : (m : Meaning) (ls : List Leg) → verdict m ls ≡ Ok tt → after m ls ≡ entered m ls
after_taken m ls e = ap (λ r. settled r (entered m ls) m) e

pub after_refused : (m : Meaning) (ls : List Leg) (f : Refusal) → verdict m ls ≡ Err f → after m ls ≡ m
after_refused m ls f e = ap (λ r. settled r (entered m ls) m) e

-- ---- the cells of an account

pub row_is : (m : Meaning) (a : ℕ) (row : List ℤ) → length row ≡ columns → ((k : ℕ) → k < columns → get_or row k (pos 0) ≡ m.cell a k) → row ≡ row_of m a
unfolding row_of
row_is m a row l f = fill_by_all (m.cell a) row columns (pos 0) l f

pub row_reads : (m : Meaning) (a k : ℕ) (d : ℤ) → k < columns → get_or (row_of m a) k d ≡ m.cell a k
unfolding row_of
row_reads m a k d h = get_or-map-range_with_len (m.cell a) 0 columns k k d h (omega arith)
