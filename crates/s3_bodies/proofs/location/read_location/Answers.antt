use Rattle.s3_bodies.proofs.LocationTests.{location_tells}
use Rattle.s3_bodies.proofs.location.read_location.Goals as goal

pub returns-clause-tells : goal.returns-clause-tells
returns-clause-tells c = location_tells c.args.bytes.now c.region_in_location_xml.result c.region_in_location_xml.ensures
