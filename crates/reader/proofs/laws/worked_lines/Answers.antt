-- Each example is computed. Assumes nothing.
use Rattle.std.proofs.Common.{refl}
use Rattle.money.specs.Table.{coded}
use Rattle.reader.specs.Requests.{number_at, amount_at, signed_at, currency_at, share_at, posting_of, read_line}
use Rattle.reader.proofs.laws.worked_lines.Goals as goal

pub returns : goal.returns
unfolding coded number_at amount_at signed_at currency_at share_at posting_of read_line
returns c = record {
  blank = refl;
  conversion = refl;
  postings = refl;
  no_postings = refl;
  shares = refl;
  carried = refl;
  swept = refl;
  unknown_code = refl;
  needless_zero = refl;
  too_long = refl;
  first = refl;
  other_word = refl;
  other_count = refl;
}
