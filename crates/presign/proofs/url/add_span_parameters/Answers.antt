use Rattle.presign.proofs.Appends.{two_more}
use Rattle.presign.proofs.url.add_span_parameters.Goals as goal

pub returns : goal.returns
returns c = two_more _ _ _ _ _ c.in_ok-add_parameter.ensures c.in_ok-add_parameter-2.ensures
