-- Bytes that part others, and how far it is to them. Assumes nothing.
use Rattle.std.specs.Prelude.{◌≡◌, ℕ, suc, ◌+◌, ◌<◌, cond, List, [], ◌∷◌, length, take, drop, ◌==◌}

-- the byte that ends a line
abbrev pub newline : ℕ
newline = 10

-- the byte between words
abbrev pub space : ℕ
space = 32

-- the byte between the numbers of a pair
abbrev pub colon : ℕ
colon = 58

-- how many bytes stand before the first s, or before the end
abbrev pub before : ℕ → List ℕ → ℕ
before s [] = 0
before s (b ∷ bs) = cond (b == s) 0 (suc (before s bs))

-- how many bytes s stand at the front
abbrev pub leading : ℕ → List ℕ → ℕ
leading s [] = 0
leading s (b ∷ bs) = cond (b == s) (suc (leading s bs)) 0

-- there is a byte s: the front stands before the first, and the back follows it
pub record Parted (s : ℕ) (bs front back : List ℕ) : Type 0 where
  pub found : before s bs < length bs
  pub front_is : front ≡ take (before s bs) bs
  pub back_is : back ≡ drop (before s bs + 1) bs
