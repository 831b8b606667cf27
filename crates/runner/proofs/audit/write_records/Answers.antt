-- One record more is written. Assumes nothing.
use Rattle.std.proofs.Common.{ℕ, List, ◌++◌, get_or, take, pos, string_bytes, sym, ap, ◌∙◌}
use Rattle.std.specs.List.{flat_map}
use Rattle.std.proofs.lemmas.List.{flat_map_more, take_more, take_all}
use Rattle.money.specs.declared.currency.Currency.TheVariants.{Euro}
use Rattle.model.specs.declared.record.Record.{Record}
use Rattle.model.specs.declared.record.Standing.TheVariants.{Out}
use Rattle.transcript.specs.Text.{open_text}
use Rattle.runner.proofs.audit.write_records.Goals as goal

pub loop-record-preserved : goal.loop-record-preserved
loop-record-preserved c =
    let rs = c.args.records.now in
    let i = c.loop-record.record-index in
    let before = string_bytes c.args.transcript.now in
    let blank : Record = record { number = 0; from = Euro; to = Euro; euro = record { 0 = pos 0 }; national = record { 0 = pos 0 }; standing = Out } in
    let r = get_or rs i blank in
    c.in_ok-append.ensures
    ∙ ap (λ (bs : List ℕ). bs ++ open_text r) c.loop-record.invariant
    ∙ flat_map_more open_text before (take i rs) r
    ∙ ap (λ (xs : List Record). before ++ flat_map open_text xs) (sym (take_more rs i blank c.loop-record-test.true))

pub returns : goal.returns
returns c =
    let rs = c.args.records.now in
    let before = string_bytes c.args.transcript.now in
    c.loop-record.invariant ∙ ap (λ (xs : List Record). before ++ flat_map open_text xs) (take_all c.loop-record.record-index rs c.loop-record-test.false)
