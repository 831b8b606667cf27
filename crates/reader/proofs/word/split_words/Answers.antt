-- Assumes nothing.
use Rattle.std.proofs.Common.{◌-◌, ◌<◌, length, take, drop, refl, arith, rules, tests}
use Rattle.std.proofs.lemmas.List.{take_rest}
use Rattle.reader.proofs.Splitting.{read_all, read_more, read_past}
use Rattle.reader.proofs.word.split_words.Goals as goal

pub returns-then-len-eq0 : goal.returns-then-len-eq0
returns-then-len-eq0 c =
    let rest = c.loop-from.rest.now in
    let g = c.count_leading-gap.result in
    read_all _ _ _ _ c.loop-from.invariant g c.count_before-len.result _ c.count_leading-gap.ensures.value (take_rest rest g) c.count_before-len.ensures.value c.if-len-eq0.true

pub returns-then-is_full : goal.returns-then-is_full
returns-then-is_full c =
    let rest = c.loop-from.rest.now in
    let g = c.count_leading-gap.result in
    let some : 0 < c.count_before-len.result = omega arith in
    read_past _ _ _ _ c.loop-from.invariant g c.count_before-len.result _ c.count_leading-gap.ensures.value (take_rest rest g) c.count_before-len.ensures.value _ refl some (search (rules, tests))

pub loop-from-preserved : goal.loop-from-preserved
loop-from-preserved c =
    let rest = c.loop-from.rest.now in
    let g = c.count_leading-gap.result in
    let some : 0 < c.count_before-len.result = omega arith in
    let left = take_rest (take (length rest - g) (drop g rest)) c.count_before-len.result in
    rw c.push.ensures.items (read_more _ _ _ _ c.loop-from.invariant g c.count_before-len.result _ c.count_leading-gap.ensures.value (take_rest rest g) c.count_before-len.ensures.value _ left some _ (search (rules, tests)) c.read_word.ensures)
