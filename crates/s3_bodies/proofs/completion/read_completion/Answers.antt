use Rattle.s3_bodies.proofs.lemmas.Listings.{listed_tells}
use Rattle.s3_bodies.proofs.completion.read_completion.Goals as goal

pub returns-clause-tells : goal.returns-clause-tells
returns-clause-tells c = listed_tells c.args.bytes.now c.listed_in_completion_xml.result c.listed_in_completion_xml.ensures
