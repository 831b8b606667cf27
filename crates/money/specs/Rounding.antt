-- Half-up: the nearest whole number to x ÷ y, the upper one at exactly half. Assumes nothing.
use Rattle.std.specs.Prelude.{◌≡◌, ℕ, ◌+◌, ◌-◌, ◌*◌, ◌/◌, ◌<◌, ◌≤◌, ℤ, pos, ◌-ℤ◌}

-- how far apart two numbers are
abbrev pub distance : ℕ → ℕ → ℕ
distance m n = (m - n) + (n - m)

-- No multiple of y lies nearer to x than b times y, and of two equally near ones b is the upper.
pub record Nearest (x y b : ℕ) : Type 0 where
  pub nearest : (c : ℕ) → distance x (y * b) ≤ distance x (y * c)
  pub upper : (c : ℕ) → distance x (y * b) ≡ distance x (y * c) → c ≤ b

-- x ÷ y and a half, rounded down
unfoldable pub half_up : ℕ → ℕ → ℕ
half_up x y = (2 * x + y) / (2 * y)

-- Half-up is the nearest whole number, and the only such, for every divisor.
abbrev pub HalfUpIsNearest : Type 0
HalfUpIsNearest = (x y : ℕ) → 0 < y → Nearest x y (half_up x y) × ((b : ℕ) → Nearest x y b → b ≡ half_up x y)

-- what x has above its nearest whole units of y
unfoldable pub residue_of : ℕ → ℕ → ℤ
residue_of x y = pos x -ℤ pos (y * half_up x y)
