-- Sums over numbers and accounts. Assumes nothing.
use Rattle.std.proofs.Common.{◌≡◌, ℕ, zero, suc, ◌+◌, ◌*◌, ◌<◌, ◌≢◌, List, ℤ, pos, ◌+ℤ◌, ◌-ℤ◌, ◌*ℤ◌, sym, refl, ap, arith}
use borrow.Author.Differences.{ints, sum_is_lem}
use Rattle.std.specs.List.{AllByRecursion}
use Rattle.ledger.specs.declared.leg.Leg.{Leg}
use Rattle.ledger.specs.Legs.{column_sum, rise, sum_to}
use Rattle.ledger.specs.Limits.{accounts}
use Rattle.ledger.proofs.Rises.{by_equal, sum_add, rise_sum}

pub distrib : (n : ℕ) (a b : ℤ) → pos n *ℤ (a +ℤ b) ≡ pos n *ℤ a +ℤ pos n *ℤ b
distrib n a b = omega (arith, ints, ap (λ (x : ℕ). n * x) (sum_is_lem a b))

regroup : (a b c d : ℤ) → a +ℤ b +ℤ (c +ℤ d) ≡ a +ℤ c +ℤ (b +ℤ d)
regroup a b c d = omega (arith, ints)

-- one more call in the sums between two points: e, b, s, m of the call, e' .. of those before it; u is what the exchange
-- account rises by
pub more_euro : (d r : ℕ) (e b s m u e' b' s' m' o o' o'' : ℤ)
    → e ≡ pos d *ℤ (b +ℤ s) +ℤ pos r *ℤ m -ℤ u
    → e' ≡ pos d *ℤ (b' +ℤ s') +ℤ pos r *ℤ m' +ℤ (o' -ℤ o)
    → o'' ≡ o' -ℤ u
    → e +ℤ e' ≡ pos d *ℤ (b +ℤ b' +ℤ (s +ℤ s')) +ℤ pos r *ℤ (m +ℤ m') +ℤ (o'' -ℤ o)
more_euro d r e b s m u e' b' s' m' o o' o'' p q t = rw (regroup b b' s s', distrib d (b +ℤ s) (b' +ℤ s'), distrib r m m') (omega (arith, ints))

pub more_national : (d : ℕ) (e b s u e' b' s' o o' o'' : ℤ)
    → e ≡ pos d *ℤ (b +ℤ s) -ℤ u
    → e' ≡ pos d *ℤ (b' +ℤ s') +ℤ (o' -ℤ o)
    → o'' ≡ o' -ℤ u
    → e +ℤ e' ≡ pos d *ℤ (b +ℤ b' +ℤ (s +ℤ s')) +ℤ (o'' -ℤ o)
more_national d e b s u e' b' s' o o' o'' p q t = rw (regroup b b' s s', distrib d (b +ℤ s) (b' +ℤ s')) (omega (arith, ints))

pub sum_same : (n : ℕ) (f g : ℕ → ℤ) → ((a : ℕ) → a < n → f a ≡ g a) → sum_to n f ≡ sum_to n g
unfolding sum_to
sum_same zero f g e = refl
sum_same (suc n) f g e =
    let h : sum_to n f ≡ sum_to n g = sum_same n f g (λ a l. e a (omega arith)) in
    let i : f n ≡ g n = e n (omega arith) in
    omega (arith, ints)

sum_front : (n : ℕ) (f : ℕ → ℤ) → sum_to (suc n) f ≡ f 0 +ℤ sum_to n (λ a. f (a + 1))
unfolding sum_to
sum_front zero f = omega (arith, ints)
sum_front (suc n) f =
    let h : sum_to (suc n) f ≡ f 0 +ℤ sum_to n (λ a. f (a + 1)) = sum_front n f in
    let e : f (suc n) ≡ f (n + 1) = ap f (omega arith) in
    omega (arith, ints)

-- one summand changes
pub sum_change : (g n : ℕ) (f f' : ℕ → ℤ) → n < g → ((m : ℕ) → m ≢ n → f' m ≡ f m) → sum_to g f' +ℤ f n ≡ sum_to g f +ℤ f' n
unfolding sum_to
sum_change zero n f f' h d = absurd (omega arith)
sum_change (suc g) n f f' h d =
    by_equal n g
    (λ e.
    let s : sum_to g f' ≡ sum_to g f = sum_same g f' f (λ m l. d m (omega arith)) in
    let p : f g ≡ f n = ap f (sym e) in
    let q : f' g ≡ f' n = ap f' (sym e) in
    omega (arith, ints))
    (λ ne.
    let s : sum_to g f' +ℤ f n ≡ sum_to g f +ℤ f' n = sum_change g n f f' (omega arith) d in
    let p : f' g ≡ f g = d g (λ e. ne (sym e)) in
    omega (arith, ints))

-- cells that have risen by legs that balance: the column's sum over all accounts stands
pub total_stands : (f f' : ℕ → ℤ) (ls : List Leg) (k : ℕ) → ((a : ℕ) → f' a ≡ f a +ℤ rise ls a k) → AllByRecursion (λ l. l.account < accounts) ls → column_sum ls k ≡ pos 0
    → sum_to accounts f' ≡ sum_to accounts f
total_stands f f' ls k e h z =
    let t : sum_to accounts (λ a. rise ls a k) ≡ column_sum ls k = rise_sum accounts ls k h in
    let s : sum_to accounts f' ≡ sum_to accounts (λ a. f a +ℤ rise ls a k) = sum_same accounts f' (λ a. f a +ℤ rise ls a k) (λ a _. e a) in
    let d : sum_to accounts (λ a. f a +ℤ rise ls a k) ≡ sum_to accounts f +ℤ sum_to accounts (λ a. rise ls a k) = sum_add accounts f (λ a. rise ls a k) in
    omega (arith, ints)

-- and the sum over the others rises by what account 0 loses
pub others_rise : (f f' : ℕ → ℤ) (ls : List Leg) (k : ℕ) → ((a : ℕ) → f' a ≡ f a +ℤ rise ls a k) → AllByRecursion (λ l. l.account < accounts) ls → column_sum ls k ≡ pos 0
    → sum_to 127 (λ a. f' (a + 1)) ≡ sum_to 127 (λ a. f (a + 1)) -ℤ rise ls 0 k
others_rise f f' ls k e h z =
    let t : sum_to 128 f' ≡ sum_to 128 f = total_stands f f' ls k e h z in
    let p : sum_to 128 f' ≡ f' 0 +ℤ sum_to 127 (λ a. f' (a + 1)) = sum_front 127 f' in
    let q : sum_to 128 f ≡ f 0 +ℤ sum_to 127 (λ a. f (a + 1)) = sum_front 127 f in
    let c : f' 0 ≡ f 0 +ℤ rise ls 0 k = e 0 in
    omega (arith, ints)

-- a call that books, sweeps and passes on nothing, and whose legs add nothing to the exchange account
pub nothing_euro : (d r : ℕ) (u : ℤ) → u ≡ pos 0 → pos 0 ≡ pos d *ℤ (pos 0 +ℤ pos 0) +ℤ pos r *ℤ pos 0 -ℤ u
nothing_euro d r u e = omega (arith, ints)

pub nothing_national : (d : ℕ) (u : ℤ) → u ≡ pos 0 → pos 0 ≡ pos d *ℤ (pos 0 +ℤ pos 0) -ℤ u
nothing_national d u e = omega (arith, ints)

-- a call that sweeps z, and whose legs add D for each unit to the exchange account
pub swept_euro : (d r : ℕ) (z u : ℤ) → u ≡ pos d *ℤ z → pos 0 ≡ pos d *ℤ (pos 0 +ℤ z) +ℤ pos r *ℤ pos 0 -ℤ u
swept_euro d r z u e = let none : pos 0 +ℤ z ≡ z = omega (arith, ints) in rw none (omega (arith, ints))

pub swept_national : (d : ℕ) (z u : ℤ) → u ≡ pos d *ℤ z → pos 0 ≡ pos d *ℤ (pos 0 +ℤ z) -ℤ u
swept_national d z u e = let none : pos 0 +ℤ z ≡ z = omega (arith, ints) in rw none (omega (arith, ints))
