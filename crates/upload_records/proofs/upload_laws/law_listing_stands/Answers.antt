use Rattle.upload_records.proofs.Completed.{listing_stands}
use Rattle.upload_records.proofs.upload_laws.law_listing_stands.Goals as goal

pub returns : goal.returns
returns c = listing_stands
