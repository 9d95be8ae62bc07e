use Rattle.std.proofs.Common.{refl, sym, ap, subst, ◌∙◌}
use Rattle.s3_bodies.specs.declared.delete.Deletes.{Deletes}
use Rattle.s3_machine.specs.declared.buckets.BucketListing.{BucketListing}
use Rattle.s3_machine.specs.Ops as op
use Rattle.s3_machine.specs.Proper.{IsProperKeys}
use Rattle.s3_requests.specs.declared.meant.Meant.TheVariants as meant
use Rattle.s3_requests.specs.Meaning.{op_of}
use Rattle.s3_requests.proofs.Left.{service_asked, bucket_asked, object_asked, texts_left, keys_left}
use Rattle.s3_requests.proofs.operation.op_of.Goals as goal

pub returns-in-Service-clause-value : goal.returns-in-Service-clause-value
returns-in-Service-clause-value c =
    c.objects_op.ensures ∙ ap (λ (asked : BucketListing). meant.Op (op.ListBuckets asked)) c.every_bucket.ensures
    ∙ sym (ap (λ row. op_of row c.args.message.now c.args.asking.now.target.now) (service_asked c.requires.left c.in-Service.is))

pub op_of_named_bucket-requires-clause-level : goal.op_of_named_bucket-requires-clause-level
op_of_named_bucket-requires-clause-level c = (bucket_asked c.requires.left _ c.in-Bucket.is).0

pub op_of_named_bucket-requires-clause-texts : goal.op_of_named_bucket-requires-clause-texts
op_of_named_bucket-requires-clause-texts c = texts_left c.requires.left

pub op_of_named_bucket-requires-clause-keys : goal.op_of_named_bucket-requires-clause-keys
op_of_named_bucket-requires-clause-keys c = λ e. subst (λ (deletes : Deletes). IsProperKeys deletes.keys) (sym c.requires.deletes) (keys_left c.requires.left e)

pub returns-in-Bucket-clause-value : goal.returns-in-Bucket-clause-value
returns-in-Bucket-clause-value c =
    c.op_of_named_bucket.ensures c.args.message.now c.args.asking.now.target.now (bucket_asked c.requires.left _ c.in-Bucket.is).1 refl c.requires.taken c.requires.deletes

pub op_of_named_key-requires-clause-level : goal.op_of_named_key-requires-clause-level
op_of_named_key-requires-clause-level c = (object_asked c.requires.left _ c.in-Object.is).0

pub op_of_named_key-requires-clause-bucket : goal.op_of_named_key-requires-clause-bucket
op_of_named_key-requires-clause-bucket c = (object_asked c.requires.left _ c.in-Object.is).1

pub op_of_named_key-requires-clause-key : goal.op_of_named_key-requires-clause-key
op_of_named_key-requires-clause-key c = (object_asked c.requires.left _ c.in-Object.is).2
