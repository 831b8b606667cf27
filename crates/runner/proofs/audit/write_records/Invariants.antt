-- The records so far are written. Assumes nothing.
use Rattle.std.proofs.Common.{◌≡◌, ◌++◌, take, string_bytes}
use Rattle.std.specs.List.{flat_map}
use Rattle.transcript.specs.Text.{open_text}
use Rattle.runner.proofs.audit.write_records.Given as goal

abbrev pub invariant-loop-record : goal.invariant-loop-record
invariant-loop-record l = string_bytes l.transcript ≡ string_bytes l.initial.transcript ++ flat_map open_text (take l.record-index l.records)
