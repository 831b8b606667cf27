-- Assumes nothing.
use Rattle.std.proofs.Common.{◌≡◌, ◌*◌, ap, arith}
use Rattle.std.proofs.lemmas.Int.{ints}
use Rattle.money.specs.Rounding.{half_up, residue_of}
use Rattle.money.proofs.HalfUp.{Rounds, rounds_at, rounds_small}
use Rattle.money.proofs.rounding.Rounded.nearest.Goals as goal

pub overflow_mul-residue : goal.overflow_mul-residue
overflow_mul-residue c =
    let r : Rounds c.args.exact c.args.unit c.half_up-whole.result = rounds_at _ _ _ c.requires.some c.half_up-whole.ensures in
    omega arith

pub overflow_cast-residue-2 : goal.overflow_cast-residue-2
overflow_cast-residue-2 c =
    let r : Rounds c.args.exact c.args.unit c.half_up-whole.result = rounds_at _ _ _ c.requires.some c.half_up-whole.ensures in
    omega (arith, ints)

pub overflow_sub-residue : goal.overflow_sub-residue
overflow_sub-residue c =
    let r : Rounds c.args.exact c.args.unit c.half_up-whole.result = rounds_at _ _ _ c.requires.some c.half_up-whole.ensures in
    omega (arith, ints)

pub returns : goal.returns
unfolding residue_of
returns c =
    let r : Rounds c.args.exact c.args.unit c.half_up-whole.result = rounds_at _ _ _ c.requires.some c.half_up-whole.ensures in
    let e : c.half_up-whole.result ≡ half_up c.args.exact c.args.unit = c.half_up-whole.ensures in
    let same : _ ≡ residue_of c.args.exact c.args.unit = omega (arith, ints, ap (λ n. c.args.unit * n) e) in
    record {
      value = λ i. record { whole = e i; residue = record { 0 = same i } };
      small = omega (arith, rounds_small _ _ _ c.requires.some r);
    }
