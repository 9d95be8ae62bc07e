use Rattle.presign.proofs.Appends.{three_more}
use Rattle.presign.proofs.url.add_credential_parameters.Goals as goal

pub returns : goal.returns
returns c = three_more _ _ _ _ _ _ _ c.in_ok-add_parameter.ensures c.in_ok-add_parameter-2.ensures c.in_ok-add_parameter-3.ensures
