-- The worked run and the examples, by computing. Assumes nothing.
use Rattle.std.proofs.Common.{refl}
use Rattle.money.specs.Rounding.{half_up, residue_of}
use Rattle.ledger.specs.Legs.{in_column, in_cell, column_sum, rise}
use Rattle.ledger.specs.Meaning.{entered, stops, verdict}
use Rattle.apportion.specs.Splits.{all_weights, quotient, remainder, units_left, before, rank, served, portion, fraction, portions, fractions}
use Rattle.model.specs.Examples.{WorkedRun, ReckonedSweeps, ReckonedRefusals}
use Rattle.model.specs.History.{after, events}
use Rattle.model.specs.State.{all_below}

pub worked_run : WorkedRun
unfolding all_below after events half_up residue_of in_column in_cell column_sum rise entered stops verdict all_weights quotient remainder units_left before rank served portion fraction portions fractions
worked_run = record { fits = refl; answers = λ law. refl }

pub reckoned_sweeps : ReckonedSweeps
reckoned_sweeps = record { none = refl; one = refl; debt = refl; most = refl; most_debt = refl }

pub reckoned_refusals : ReckonedRefusals
unfolding all_below half_up residue_of in_column in_cell column_sum rise entered stops verdict all_weights
reckoned_refusals = record {
  unfit = (refl, refl, refl);
  unfit_parks = refl;
  unknown_currency = refl;
  equal_currencies = refl;
  unnamed_account = refl;
  amount_out_of_range = (refl, refl);
  booked_too_much = refl;
  docket_full = refl;
  slips_exhausted = refl;
  last_slip = refl;
  one_leg = refl;
  second_account = refl;
  second_currency = refl;
  second_amount = refl;
  first_amount = refl;
  unbalanced = refl;
  split_currency = λ law. refl;
  split_account = λ law. refl;
  split_amount = λ law. refl;
  split_count = λ law. refl;
  share_account = λ law. refl;
  share_weight = λ law. refl;
  no_weight = λ law. refl;
  lists_too_short = λ law. refl;
  foreign_slip = refl;
  not_on_docket = refl;
  slip_is_out = refl;
  other_mark = refl;
  carry_account = refl;
  sweep_account = refl;
  sweep_column = (refl, refl);
  sweep_nothing = refl;
  no_room = refl;
  enough_room = refl;
  above_ceiling = refl;
}
