use Rattle.upload_records.proofs.Proper.{listing_found}
use Rattle.upload_records.proofs.upload_laws.law_listing_found.Goals as goal

pub returns : goal.returns
returns c = listing_found
