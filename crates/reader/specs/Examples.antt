-- Lines, and what each asks for or with what it is refused. Assumes nothing.
use Rattle.std.specs.Prelude.{◌≡◌, ℕ, [], ◌∷◌, pos, neg_ℤ, Some, None, Ok, Err, codes}
use Prim.Native.String.{String}
use Rattle.register.specs.Register.{by_reader}
use Rattle.money.specs.Conversions.{minors}
use Rattle.reader.specs.Requests.{Asked, post, convert, split, carry, sweep, read_line}

-- the line asks for that
abbrev Asks : String → Asked → Type 0
Asks line asked = read_line (codes line) ≡ Ok (Some asked)

-- the line is refused with that number at that place
abbrev RefusedWith : String → ℕ → ℕ → Type 0
RefusedWith line n place = read_line (codes line) ≡ Err (by_reader n place)

pub record WorkedLines : Type 0 where
  -- a line of spaces asks for nothing
  pub blank : read_line (codes "   ") ≡ Ok None
  -- 100 marks into euro, from account 10 to account 20
  pub conversion : Asks "conv 10 20 DEM EUR 10000" (convert (record { from = 10; to = 20; source = 2; target = 0; amount = minors 10000 }))
  -- spaces more or fewer do not matter, and any number of postings fits
  pub postings : Asks "  post 10 DEM +5  20 DEM -5 " (post (record { account = 10; currency = 2; amount = minors 5 } ∷ record { account = 20; currency = 2; amount = record { 0 = neg_ℤ (pos 5) } } ∷ []))
  pub no_postings : Asks "post" (post [])
  -- an account and a weight to each pair
  pub shares : Asks "split 10 ITL 100 11:1 12:2" (split (record { account = 10; currency = 6; amount = minors 100 }) (record { account = 11; weight = 1 } ∷ record { account = 12; weight = 2 } ∷ []))
  pub carried : Asks "carry 1 40" (carry 1 40)
  pub swept : Asks "sweep 40 17" (sweep 40 17)
  -- a code that is not in the table, at its column
  pub unknown_code : RefusedWith "conv 10 20 DEM XXX 1" 19 16
  -- a needless 0, and a twelfth digit
  pub needless_zero : RefusedWith "split 10 DEM 007 11:1" 19 14
  pub too_long : RefusedWith "carry 123456789012 40" 19 7
  -- the first word that is not of its kind
  pub first : RefusedWith "sweep +40 x" 19 7
  -- another first word, and another count of words
  pub other_word : RefusedWith "hello 1 2" 20 1
  pub other_count : RefusedWith "post 1 x" 20 1
