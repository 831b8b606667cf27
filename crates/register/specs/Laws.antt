-- What the register says as a whole. Assumes nothing.
use Rattle.std.specs.Prelude.{◌≡◌, ℕ, ◌≤◌}
use Rattle.register.specs.declared.fault.Fault.{Fault}
use Rattle.register.specs.Register.{registered}

pub record NamesEachFault : Type 0 where
  -- the register's numbers are 1 to 22
  pub within : (f : Fault) → (1 ≤ (registered f).number) × ((registered f).number ≤ 22)
  -- and each is a fault's
  pub every : (n : ℕ) → 1 ≤ n → n ≤ 22 → (f : Fault) × ((registered f).number ≡ n)
  -- two faults of which the register says the same are the same
  pub apart : (f g : Fault) → registered f ≡ registered g → f ≡ g
