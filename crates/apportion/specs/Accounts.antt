-- The accounts that a call may name. Assumes nothing.
use Rattle.std.specs.Prelude.{ℕ, Bool, ◌&&◌, nat_le}

-- the named accounts are those from here
abbrev pub first_named : ℕ
first_named = 2

-- to here
abbrev pub last_named : ℕ
last_named = 127

-- whether an account is a named one
abbrev pub named : ℕ → Bool
named account = nat_le first_named account && nat_le account last_named
