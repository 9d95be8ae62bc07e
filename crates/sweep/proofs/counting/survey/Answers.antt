use Rattle.account_calls.proofs.lemmas.Idle.{goes_trans}
use Rattle.account_calls.proofs.lemmas.Left.{throughout_then}
use Rattle.sweep.proofs.Surveys.{survey_stopped, survey_told, survey_unnamed, survey_unsealed}
use Rattle.sweep.proofs.counting.survey.Goals as goal

pub returns-in_err-sealed : goal.returns-in_err-sealed
returns-in_err-sealed g c = record {
  asks = survey_unsealed _ _ c.from_residual.ensures.1 c.in_err-sealed.ensures.asks;
  leaves = c.in_err-sealed.ensures.leaves;
}

pub returns-in_err-names : goal.returns-in_err-names
returns-in_err-names g c = record {
  asks = survey_unnamed c.in_ok-sealed.ensures.asks _ _ c.from_residual-in_err-names.ensures.1 c.in_err-names.ensures.asks;
  leaves = throughout_then c.in_ok-sealed.ensures.asks.grows.on c.in_err-names.ensures.asks.grows.on c.in_ok-sealed.ensures.leaves c.in_err-names.ensures.leaves;
}

pub returns-in_err-told : goal.returns-in_err-told
returns-in_err-told g c = record {
  asks = survey_stopped c.in_ok-sealed.ensures.asks c.in_ok-names.ensures.asks c.as_slice.ensures _ _ c.from_residual-in_err-told.ensures.1 c.in_err-told.ensures.asks;
  leaves = throughout_then (goes_trans c.in_ok-sealed.ensures.asks.grows.on c.in_ok-names.ensures.asks.grows.on) c.in_err-told.ensures.asks.grows.on (throughout_then c.in_ok-sealed.ensures.asks.grows.on c.in_ok-names.ensures.asks.grows.on c.in_ok-sealed.ensures.leaves c.in_ok-names.ensures.leaves) c.in_err-told.ensures.leaves;
}

pub returns : goal.returns
returns g c = record {
  asks = survey_told c.in_ok-sealed.ensures.asks c.in_ok-names.ensures.asks c.as_slice.ensures c.in_ok-told.ensures.asks _ c.is_some.ensures;
  leaves = throughout_then (goes_trans c.in_ok-sealed.ensures.asks.grows.on c.in_ok-names.ensures.asks.grows.on) c.in_ok-told.ensures.asks.grows.on (throughout_then c.in_ok-sealed.ensures.asks.grows.on c.in_ok-names.ensures.asks.grows.on c.in_ok-sealed.ensures.leaves c.in_ok-names.ensures.leaves) c.in_ok-told.ensures.leaves;
}
