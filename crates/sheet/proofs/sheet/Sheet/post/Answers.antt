-- Each leg is added in turn. Assumes nothing.
use Rattle.std.proofs.Common.{◌≡◌, ◌<◌, ◌≤◌, length, get_or, set, pos, ◌+ℤ◌, sym, refl, ap, ◌∙◌, arith, w64, SFits, to_z, of_z}
use Rattle.std.proofs.lemmas.Int.{ints}
use Rattle.std.proofs.lemmas.Bool.{cond_both}
use Rattle.ledger.proofs.Walk.{verdict_walk, verdict_taken}
use Rattle.sheet.specs.Cells.{long, place_of}
use Rattle.sheet.specs.Sheet.{sheet_meaning}
use Rattle.sheet.proofs.Posting.{Next, next_leg, leg_at}
use Rattle.sheet.proofs.sheet.Sheet.post.Goals as goal
use Rattle.sheet.proofs.sheet.Sheet.post.Goals.{After-place_of-place}

pub loop-leg-init : goal.loop-leg-init
loop-leg-init c =
    let m = sheet_meaning c.args.self.now in
    let ls = c.args.legs.now in
    (refl, sym (verdict_walk m ls (verdict_taken m ls c.requires.taken).0) ∙ c.requires.taken, refl, refl)

pub place_of-place-requires : goal.place_of-place-requires
place_of-place-requires c = (next_leg _ _ _ _ _ c.requires.taken c.requires.lawful c.loop-leg-test.true c.loop-leg.invariant.0 c.loop-leg.invariant.1).listed

-- what holds once the leg's place is known
at_place : (c : After-place_of-place) → Next c.args.self.now.cells.now c.loop-leg.self.cells.now c.args.self.now.room c.args.legs.now c.loop-leg.leg-index
at_place c = next_leg _ _ _ _ _ c.requires.taken c.requires.lawful c.loop-leg-test.true c.loop-leg.invariant.0 c.loop-leg.invariant.1

-- the number that the leg's cell gets, and that it fits
pub record Sum (c : After-place_of-place) : Type 0 where
  pub place : c.place_of-place.result < length c.loop-leg.self.cells.now
  pub fits : SFits w64 (to_z w64 (of_z w64 (get_or c.loop-leg.self.cells.now c.place_of-place.result (pos 0))) +ℤ to_z w64 (of_z w64 (leg_at c.args.legs.now c.loop-leg.leg-index).amount))
  pub is : to_z w64 (of_z w64 (to_z w64 (of_z w64 (get_or c.loop-leg.self.cells.now c.place_of-place.result (pos 0))) +ℤ to_z w64 (of_z w64 (leg_at c.args.legs.now c.loop-leg.leg-index).amount))) ≡ get_or c.loop-leg.self.cells.now c.place_of-place.result (pos 0) +ℤ (leg_at c.args.legs.now c.loop-leg.leg-index).amount

sum : (c : After-place_of-place) → Sum c
sum c =
    let ys = c.loop-leg.self.cells.now in
    let l = leg_at c.args.legs.now c.loop-leg.leg-index in
    let n : Next c.args.self.now.cells.now ys c.args.self.now.room c.args.legs.now c.loop-leg.leg-index = at_place c in
    let same : get_or ys c.place_of-place.result (pos 0) ≡ get_or ys (place_of l.account l.column) (pos 0) = ap (λ k. get_or ys k (pos 0)) c.place_of-place.ensures in
    record {
      place = omega (arith, n.place, c.place_of-place.ensures);
      fits = omega (arith, ints, n.low, n.high, n.range.amount);
      is = omega (arith, ints, n.low, n.high, n.range.amount);
    }

pub bounds-self-place : goal.bounds-self-place
bounds-self-place c = (sum (goal.at.bounds-self-place c).After-place_of-place).place

pub overflow_add-self : goal.overflow_add-self
overflow_add-self c = (sum (goal.at.overflow_add-self c).After-place_of-place).fits

pub bounds-self-place-in-loop-leg : goal.bounds-self-place-in-loop-leg
bounds-self-place-in-loop-leg c = (sum (goal.at.bounds-self-place-in-loop-leg c).After-place_of-place).place

pub loop-leg-preserved : goal.loop-leg-preserved
loop-leg-preserved c =
    let ys = c.loop-leg.self.cells.now in
    let l = leg_at c.args.legs.now c.loop-leg.leg-index in
    let n = at_place (goal.at.loop-leg-preserved c).After-place_of-place in (
      ap (set ys c.place_of-place.result) (sum (goal.at.loop-leg-preserved c).After-place_of-place).is
          ∙ ap (λ k. set ys k (get_or ys k (pos 0) +ℤ l.amount)) c.place_of-place.ensures
          ∙ n.cells,
      n.on,
      c.loop-leg.invariant.2,
      c.loop-leg.invariant.3,
    )

pub overflow_sub-self : goal.overflow_sub-self
overflow_sub-self c =
    let m = sheet_meaning c.args.self.now in
    let room = c.args.self.now.room in
    let enough : length c.args.legs.now ≤ m.room = (verdict_taken m c.args.legs.now c.requires.taken).0 in
    omega (arith, enough, c.loop-leg.invariant.2, cond_both (long c.args.self.now.cells.now) room 0 (λ n. n ≤ room) (λ _. omega arith) (λ _. omega arith))
