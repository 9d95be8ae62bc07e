use Rattle.request_fields.proofs.Sources.{source_named}
use Rattle.request_fields.proofs.laws.law_source_named.Goals as goal

pub returns : goal.returns
returns c = source_named
