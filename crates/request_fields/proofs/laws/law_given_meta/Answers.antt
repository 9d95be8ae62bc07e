use Rattle.request_fields.proofs.Entries.{has_made}
use Rattle.request_fields.proofs.laws.law_given_meta.Goals as goal

pub returns : goal.returns
returns c = λ headers. has_made headers
