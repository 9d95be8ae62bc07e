use Rattle.s3_bodies.proofs.Locations.{not_empty}
use Rattle.s3_bodies.proofs.location.region_in_location_xml.Goals as goal

pub returns-in-Err : goal.returns-in-Err
returns-in-Err c = not_empty c.args.bytes.now _ c.if-is_empty.ensures c.in-Err.ensures.1
