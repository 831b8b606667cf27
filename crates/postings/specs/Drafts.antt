-- Legs on their way into an entry. Assumes nothing.
use Rattle.std.specs.Prelude.{cond, ◌&&◌, List, [], ◌∷◌, ◌++◌, length, Some, None, Option, nat_lt}
use Rattle.std.specs.Option.{option_map}
use Rattle.ledger.specs.declared.leg.Leg.{Leg}
use Rattle.ledger.specs.Entries.{most_legs, in_range, is_entry}
use Rattle.postings.specs.declared.draft.Draft.{Draft}

-- the legs of a draft, unless it is void
abbrev pub drawn : Draft → Option (List Leg)
drawn d = option_map (λ legs. legs.items) d.legs

-- one leg more, unless it is out of range or one too many
unfoldable pub with_leg : Option (List Leg) → Leg → Option (List Leg)
with_leg None l = None
with_leg (Some ls) l = cond (nat_lt (length ls) most_legs && in_range l) (Some (ls ++ l ∷ [])) None

-- more legs, one after the other
abbrev pub with_legs : Option (List Leg) → List Leg → Option (List Leg)
with_legs o [] = o
with_legs o (l ∷ ls) = with_legs (with_leg o l) ls

-- the legs if they make an entry, else none
abbrev pub entry_legs : List Leg → List Leg
entry_legs ls = cond (is_entry ls) ls []

-- the legs of the entry that a draft makes
abbrev pub entry_in : Option (List Leg) → List Leg
entry_in None = []
entry_in (Some ls) = entry_legs ls
