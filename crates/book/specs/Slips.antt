-- Which standing each call on a slip asks for. Assumes nothing.
use Rattle.std.specs.Prelude.{not, Result}
use Rattle.register.specs.Register.{Refusal}
use Rattle.model.specs.declared.record.Standing.{Standing}
use Rattle.model.specs.Docket.{is_out}
use Rattle.model.specs.Results.{unless}
use Rattle.book.specs.declared.book.slips.SlipCall.{SlipCall}
use Rattle.book.specs.declared.book.slips.SlipCall.TheVariants.{End, TakeUp}

-- only a slip that is out can end, else 12; only a parked one is taken up, else 14
abbrev pub admitted : Standing → SlipCall → Result (Unit {0}) Refusal
admitted standing End = unless (is_out standing) 12 0
admitted standing TakeUp = unless (not (is_out standing)) 14 0
