-- The loop is the walk over the legs. Assumes nothing.
use Rattle.std.proofs.Common.{◌≡◌, ◌+◌, ◌-◌, ◌≤◌, ◌&&◌, length, get_or, take, pos, ◌+ℤ◌, sym, ap, ◌∙◌, arith, w64, to_z, of_z, rules}
use lib.Signed.{le_z}
use Rattle.std.proofs.lemmas.List.{length-take}
use Rattle.std.proofs.lemmas.Bool.{cond-true}
use Rattle.ledger.specs.Entries.{most_legs}
use Rattle.ledger.specs.Legs.{leg, rise}
use Rattle.ledger.specs.Meaning.{fits, entered, roomy, verdict}
use Rattle.ledger.proofs.Walk.{left_more, room_suffices, room_refused, verdict_stopped, verdict_walked}
use Rattle.ledger.proofs.Widths.{read_back, sum_back}
use Rattle.ledger.proofs.verdict.check.Given as given
use Rattle.ledger.proofs.verdict.check.Goals as goal
use Rattle.ledger.proofs.verdict.check.Goals.{After-within, After-legs-legs}

-- what `within` says is whether the leg's cell is within its limits
told : (g : given.Over) (c : After-within g) → fits (entered (g.B.Balances.meaning c.args.ledger.now) (take (c.loop-i.i + 1) c.legs-legs.result.now)) (get_or c.legs-legs.result.now c.loop-i.i (leg 0 0 (pos 0))) ≡ c.within.result
unfolding entered
told g c =
    let m = g.B.Balances.meaning c.args.ledger.now in
    let ls = c.legs-legs.result.now in
    let l = get_or ls c.loop-i.i (leg 0 0 (pos 0)) in
    let part : take (c.loop-i.i + 1 - 0) ls ≡ take (c.loop-i.i + 1) ls = ap (λ n. take n ls) (omega arith) in
    let up : c.rise.result ≡ rise (take (c.loop-i.i + 1) ls) l.account l.column = c.rise.ensures.value ∙ ap (λ xs. rise xs l.account l.column) part in
    let few : length (take (c.loop-i.i + 1 - 0) ls) ≤ most_legs = simp length-take (omega (arith, c.legs-legs.ensures.lawful.few)) in
    let next = sum_back c.cell.result c.rise.result _ c.cell.type_inv c.rise.ensures.bound few ∙ (λ i. c.cell.ensures.value i +ℤ up i) in
    let low : to_z w64 (of_z w64 c.floor.result) ≡ m.floor l.account l.column = read_back c.floor.result c.floor.type_inv ∙ c.floor.ensures.value in
    let high : to_z w64 (of_z w64 c.ceiling.result) ≡ m.ceiling l.account l.column = read_back c.ceiling.result c.ceiling.type_inv ∙ c.ceiling.ensures.value in
    sym (c.within.ensures ∙ (λ i. le_z (low i) (next i) && le_z (next i) (high i)))

pub returns-in_err-check_room : goal.returns-in_err-check_room
returns-in_err-check_room g c =
    let l = room_refused (g.B.Balances.meaning c.args.ledger.now) _ _ (sym c.in_err-check_room.ensures) in
    search rules

-- the room suffices for the legs
enough : (g : given.Over) (c : After-legs-legs g) → length c.legs-legs.result.now ≤ (g.B.Balances.meaning c.args.ledger.now).room
enough g c =
    let m = g.B.Balances.meaning c.args.ledger.now in
    room_suffices m c.legs-legs.result.now (ap (roomy m) c.legs-legs.ensures.value ∙ sym c.in_ok-check_room.ensures)

pub returns-then-not-within : goal.returns-then-not-within
returns-then-not-within g c =
    let m = g.B.Balances.meaning c.args.ledger.now in
    let ls = c.legs-legs.result.now in
    let out = told g (goal.at.returns-then-not-within g c).After-within ∙ c.if-not-within.true in
    verdict_stopped m ls c.loop-i.i (leg 0 0 (pos 0)) (enough g (goal.at.returns-then-not-within g c).After-legs-legs) c.loop-i-test.true c.loop-i.invariant out ∙ ap (verdict m) c.legs-legs.ensures.value

pub loop-i-preserved : goal.loop-i-preserved
loop-i-preserved g c =
    let m = g.B.Balances.meaning c.args.ledger.now in
    let ls = c.legs-legs.result.now in
    let ok = told g (goal.at.loop-i-preserved g c).After-within ∙ c.if-not-within.false in
    sym (left_more m ls c.loop-i.i (leg 0 0 (pos 0)) c.loop-i-test.true ∙ cond-true _ _ _ ok) ∙ c.loop-i.invariant

pub returns : goal.returns
returns g c =
    let m = g.B.Balances.meaning c.args.ledger.now in
    let ls = c.legs-legs.result.now in
    verdict_walked m ls c.loop-i.i (enough g (goal.at.returns g c).After-legs-legs) c.loop-i-test.false c.loop-i.invariant ∙ ap (verdict m) c.legs-legs.ensures.value
