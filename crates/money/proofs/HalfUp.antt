-- Half-up, its bounds, and that it is the nearest whole number. Assumes nothing.
use Rattle.std.proofs.Common.{◌≡◌, ℕ, ◌+◌, ◌-◌, ◌*◌, ◌/◌, ◌%◌, ◌<◌, ◌≤◌, sym, ap, ◌∙◌, subst, inl, inr, mul-le-mul_right, mod-lt, mul_comm, mul-le-mul_left, div-add-mod', mul-suc, mul_left_comm, add-one, arith}
use Rattle.std.proofs.lemmas.Bool.{cases_order}
use Rattle.money.specs.Rounding.{half_up, Nearest, distance, HalfUpIsNearest}

-- twice x lies from y below twice b wholes up to, but not including, y above
pub record Rounds (x y b : ℕ) : Type 0 where
  pub low : 2 * (y * b) ≤ 2 * x + y
  pub high : 2 * x < 2 * (y * b) + y

twice : (q y : ℕ) → q * (2 * y) ≡ 2 * (y * q)
twice q y = mul_left_comm q 2 y ∙ ap (λ n. 2 * n) (mul_comm q y)

pub half_up_rounds : (x y : ℕ) → 0 < y → Rounds x y (half_up x y)
unfolding half_up
half_up_rounds x y h =
    let q : ℕ = (2 * x + y) / (2 * y) in
    let p : 0 < 2 * y = omega arith in
    let e : q * (2 * y) ≡ 2 * (y * q) = twice q y in
    let d : q * (2 * y) + (2 * x + y) % (2 * y) ≡ 2 * x + y = div-add-mod' (2 * x + y) (2 * y) in
    let r : (2 * x + y) % (2 * y) < 2 * y = mod-lt (2 * x + y) p in
    record { low = omega arith; high = omega arith }

-- one whole more is y more
step : (y : ℕ) {b c : ℕ} → b < c → y * b + y ≤ y * c
step y {b} {c} h = omega (arith, mul-le-mul_left y h, mul-suc y b)

pub rounds_once : (x y b c : ℕ) → Rounds x y b → Rounds x y c → b ≡ c
rounds_once x y b c p q =
    elim (cases_order b c) [
      | inl e ↦ e
      | inr o ↦ elim o [ inl l ↦ absurd (omega (arith, step y l)) | inr l ↦ absurd (omega (arith, step y l)) ]
    ]

pub half_up_from : (x y b : ℕ) → 0 < y → Rounds x y b → b ≡ half_up x y
half_up_from x y b h r = rounds_once x y b (half_up x y) r (half_up_rounds x y h)

pub nearest_from : (x y b : ℕ) → Rounds x y b → Nearest x y b
nearest_from x y b r = record { nearest = near; upper = up }
  where
    near : (c : ℕ) → distance x (y * b) ≤ distance x (y * c)
    near c =
        elim (cases_order b c) [
          | inl e ↦ omega (arith, ap (λ n. y * n) e)
          | inr o ↦ elim o [ inl l ↦ omega (arith, step y l) | inr l ↦ omega (arith, step y l) ]
        ]

    up : (c : ℕ) → distance x (y * b) ≡ distance x (y * c) → c ≤ b
    up c e =
        elim (cases_order b c) [
          | inl e' ↦ omega arith
          | inr o ↦ elim o [ inl l ↦ absurd (omega (arith, step y l)) | inr l ↦ omega arith ]
        ]

pub nearest_once : (x y b c : ℕ) → Nearest x y b → Nearest x y c → b ≡ c
nearest_once x y b c p q =
    let same : distance x (y * b) ≡ distance x (y * c) = omega (arith, p.nearest c, q.nearest b) in
    omega (arith, p.upper c same, q.upper b (sym same))

pub half_up_is_nearest : HalfUpIsNearest
half_up_is_nearest x y h =
    let n : Nearest x y (half_up x y) = nearest_from x y (half_up x y) (half_up_rounds x y h) in
    (n, λ b m. nearest_once x y b (half_up x y) m n)

-- from the whole part and the remainder, as a machine has them
module _ (x y : ℕ) (h : 0 < y) where
  split : x / y * y + x % y ≡ x
  split = div-add-mod' x y

  pub half_up_above : y - x % y ≤ x % y → x / y + 1 ≡ half_up x y
  half_up_above up =
      let e : x / y * y ≡ y * (x / y) = mul_comm (x / y) y in
      let s : y * (x / y + 1) ≡ y * (x / y) + y = ap (λ n. y * n) (add-one (x / y)) ∙ mul-suc y (x / y) in
      let l : x % y < y = mod-lt x h in
      let d : x / y * y + x % y ≡ x = split in
      half_up_from x y (x / y + 1) h (record { low = omega arith; high = omega arith })

  pub half_up_below : x % y < y - x % y → x / y ≡ half_up x y
  half_up_below down =
      let e : x / y * y ≡ y * (x / y) = mul_comm (x / y) y in
      let d : x / y * y + x % y ≡ x = split in
      half_up_from x y (x / y) h (record { low = omega arith; high = omega arith })

pub rounds_at : (x y b : ℕ) → 0 < y → b ≡ half_up x y → Rounds x y b
rounds_at x y b h e = subst (λ n. Rounds x y n) (sym e) (half_up_rounds x y h)

pub nearest_at : (x y b : ℕ) → 0 < y → b ≡ half_up x y → Nearest x y b
nearest_at x y b h e = nearest_from x y b (rounds_at x y b h e)

pub rounds_small : (x y b : ℕ) → 0 < y → Rounds x y b → b ≤ x + y
rounds_small x y b h r = let l : 1 * b ≤ y * b = mul-le-mul_right b h in omega arith
