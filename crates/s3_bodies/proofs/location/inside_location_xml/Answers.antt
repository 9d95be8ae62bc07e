use Rattle.s3_bodies.proofs.Locations.{inside_reads}
use Rattle.s3_bodies.proofs.location.inside_location_xml.Goals as goal

pub returns : goal.returns
returns c = inside_reads c.args.bytes.now _ _ c.skip_space-rest.ensures.1 _ _ _ c.nearer.ensures c.location_xml_without_constraint.ensures c.location_xml_constraint.ensures
