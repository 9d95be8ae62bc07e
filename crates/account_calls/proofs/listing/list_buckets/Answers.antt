use Rattle.account_calls.proofs.Listed.{listed_of}
use Rattle.account_calls.proofs.listing.list_buckets.Goals as goal

pub returns-clause-asks : goal.returns-clause-asks
returns-clause-asks g c = listed_of c.as_slice.ensures c.in_ok-names.ensures.asks c.buckets_of_containers.result c.buckets_of_containers.ensures.asks
