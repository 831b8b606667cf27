-- The tie rules, as tests on two candidates. Assumes nothing.
use Rattle.std.specs.Prelude.{◌≡◌, Bool, true, false, cond, not, ◌==◌, ◌≢◌, nat_lt}
use Rattle.apportion.specs.declared.share.Candidate.{Candidate}

-- what a tie rule says of two candidates: whether the first is ahead of the second
abbrev pub Tie : Type 0
Tie = Candidate → Candidate → Bool

-- what is asked of a tie rule
pub record Lawful (tie : Tie) : Type 0 where
  -- no share is ahead of itself
  pub irreflexive : (a : Candidate) → tie a a ≡ false
  -- of two at different places exactly one is ahead
  pub total : (a b : Candidate) → (a.place ≢ b.place) → tie a b ≡ not (tie b a)
  -- being ahead is transitive
  pub transitive : (a b c : Candidate) → tie a b ≡ true → tie b c ≡ true → tie a c ≡ true

-- the smaller place is ahead
abbrev pub by_place : Tie
by_place a b = nat_lt a.place b.place

-- the larger weight is ahead, and at equal weights the smaller place
abbrev pub by_weight : Tie
by_weight a b = cond (a.weight == b.weight) (by_place a b) (nat_lt b.weight a.weight)
