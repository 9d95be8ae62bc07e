use Rattle.request_fields.proofs.Tokens.{token_returns}
use Rattle.request_fields.proofs.laws.law_token_returns.Goals as goal

pub returns : goal.returns
returns c = token_returns
