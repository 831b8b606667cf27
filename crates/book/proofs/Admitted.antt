-- What the refusals that several calls share let pass. Assumes nothing.
use Rattle.std.proofs.Common.{◌≡◌, ℕ, Bool, true, false, Some, None, Option, Ok, IfSome, refl, subst, arith}
use Rattle.std.specs.Option.{ok_or}
use Rattle.apportion.specs.Accounts.{named}
use Rattle.model.specs.Results.{unless}
use Rattle.model.specs.State.{State}
use Rattle.model.specs.Step.{account_at, fitness}

unless_passes : (b : Bool) (n place : ℕ) → Ok tt ≡ unless b n place → b ≡ true
unless_passes true n place e = refl
unless_passes false n place e = absurd (let z : ◌≡◌ {A = ℕ} 0 1 = cc in omega arith)

pub fit_passes : (s : State) → Ok tt ≡ fitness s → s.fit ≡ true
fit_passes s e = unless_passes s.fit 1 0 e

pub named_passes : (a : ℕ) → Ok tt ≡ account_at a 0 → named a ≡ true
named_passes a e = unless_passes (named a) 4 0 e

-- what is found passes
pub found_passes : {A E : Type 0} (P : A → Type 0) (o : Option A) (e : E) (x : A) → Ok x ≡ ok_or o e → IfSome o P → P x
found_passes P None e x h p = absurd (let z : ◌≡◌ {A = ℕ} 0 1 = cc in omega arith)
found_passes P (Some y) e x h p = let s : y ≡ x = cc in subst P s p
