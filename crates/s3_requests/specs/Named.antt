-- What a target names. Source: this profile.
use Rattle.s3_names.specs.declared.target.Target.{Target}
use Rattle.s3_requests.specs.Rows.{level_of}
use Rattle.s3_requests.specs.declared.named.Named.{Named}
use Rattle.s3_requests.specs.declared.named.Named.TheVariants as named
use Rattle.s3_requests.specs.declared.rows.Level.{Level}
use Rattle.s3_requests.specs.declared.rows.Level.TheVariants.{Service, Bucket, Key}

-- what a target of this level names
abbrev pub named_at : Level → Target → Named
named_at Service target = named.Service
named_at Bucket target = named.Bucket target.bucket
named_at Key target = named.Object (record { bucket = target.bucket; key = target.key })

-- what a target names: the service, where it has no bucket, a bucket, or an object of one
abbrev pub named_by : Target → Named
named_by target = named_at (level_of target.bucket target.key) target
