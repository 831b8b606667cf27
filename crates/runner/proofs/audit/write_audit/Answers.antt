-- Heading, cells, records and end, one after the other. Assumes nothing.
use Rattle.std.proofs.Common.{◌++◌, string_bytes, ◌∙◌}
use Rattle.std.specs.List.{flat_map}
use Rattle.std.proofs.lemmas.Result.{IfOk-weaker}
use Rattle.ledger.specs.Limits.{accounts}
use Rattle.transcript.specs.Text.{heading_text, cell_text, open_text, end_text}
use Rattle.book.specs.View.{state_of}
use Rattle.runner.specs.Audit.{cells_below, audit_text}
use Rattle.runner.proofs.Joining.{appended_four}
use Rattle.runner.proofs.audit.write_audit.Goals as goal

pub returns : goal.returns
unfolding audit_text
returns g c =
    let s = state_of g.L.Balances c.args.book.now in
    let before = string_bytes c.args.transcript.now in
    let head = c.audit-kind.ensures.value in
    IfOk-weaker c.append-2.result _ _ (λ _ e.
    appended_four before (string_bytes c.append.new.transcript) (string_bytes c.write_cells.new.transcript) (string_bytes c.write_records.new.transcript) (string_bytes c.append-2.new.transcript) _ _ _ _
    c.in_ok-append.ensures c.in_ok-cells.ensures.text c.in_ok-write_records.ensures e
    ∙ (λ i. before ++ (heading_text (record { kind = (head i).kind; room = (head i).room })
    ++ (flat_map cell_text (cells_below s accounts)
    ++ (flat_map open_text (c.records.ensures.value i)
    ++ end_text (record { cells = c.in_ok-cells.ensures.count i; records = (head i).records })))))
    ) c.append-2.ensures
