-- Cut toward zero, and at most the limit. Assumes nothing.
use Rattle.std.proofs.Common.{pos, neg_ℤ, sym, ap, ◌∙◌, subst, arith, w64, SFits}
use lib.Signed.{quot_z}
use Rattle.std.specs.Int.{int_max, int_min}
use Rattle.std.proofs.lemmas.Int.{ints, to_z-of_z, quot_is, quot_fits}
use Rattle.model.specs.Postings.{most_swept, within}
use Rattle.postings.specs.Sweeps.{Swept}
use Rattle.postings.proofs.Sweeping.{parts_small, swept, clamped}
use Rattle.postings.proofs.sweep.sweepable.Goals as goal

pub returns : goal.returns
returns c =
    let f = c.args.column in
    let z = c.args.cell in
    let parts = pos c.parts.result in
    let small = parts_small f in
    let fits : SFits w64 parts = record { sfits = omega (arith, c.parts.ensures, small.1) } in
    let cut = quot_is w64 z parts c.ranges.cell fits (quot_fits w64 z parts c.ranges.cell (omega (arith, ints, c.parts.ensures, small.0))) in
    let value =
    to_z-of_z w64 c.clamp.result (record { sfits = c.clamp.type_inv })
    ∙ c.clamp.ensures.value
    ∙ ap (λ q. int_max (neg_ℤ (pos most_swept)) (int_min q (pos most_swept))) cut
    ∙ clamped (quot_z z parts)
    ∙ ap (λ p. within most_swept (quot_z z (pos p))) c.parts.ensures in
    record { value = value; swept = subst (Swept f z) (sym value) (swept f z) }
