use Rattle.std.proofs.Common.{ℕ, List}
use Rattle.s3_machine.specs.declared.items.BucketItem.{BucketItem}
use Rattle.account_calls.proofs.lemmas.Ask.{asks_fault, asks_told}
use Rattle.account_calls.proofs.lemmas.One.{not_asked}
use Rattle.account_calls.proofs.listing.head_bucket_item.Goals as goal

abbrev made : List ℕ → ℕ → BucketItem
made name created = record { name = name; created = created }

pub returns-in_err-name-clause-asks : goal.returns-in_err-name-clause-asks
returns-in_err-name-clause-asks g c = not_asked _ _ _ c.from_residual.ensures.1

pub returns-in_err-created-clause-asks : goal.returns-in_err-created-clause-asks
returns-in_err-created-clause-asks g c = asks_fault (λ tree has. has) c.in_err-created.ensures.asks _ c.from_residual-in_err-created.ensures.1

pub returns-clause-asks : goal.returns-clause-asks
returns-clause-asks g c = asks_told (λ tree has. has) _ (λ tree sound has tells. λ i. made (c.in_ok-name.ensures i) (tells i)) c.in_ok-created.ensures.asks
