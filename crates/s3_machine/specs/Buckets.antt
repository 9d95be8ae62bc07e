-- Which buckets ListBuckets lists. Source: Amazon S3 API Reference, "ListBuckets".
use Rattle.std.specs.Prelude.{ℕ, Bool, true, false, ◌&&◌, List, [], Option, Some, None}
use Rattle.std.specs.List.{filter}
use Rattle.std.specs.Option.{option_map_or}
use Rattle.std.specs.Ordering.{is_lt}
use Rattle.gate_base.specs.Maps.{name_cmp}
use Rattle.s3_machine.specs.declared.buckets.BucketListing.{BucketListing}
use Rattle.s3_machine.specs.declared.items.BucketItem.{BucketItem}
use Rattle.s3_machine.specs.Items.{begins}
use Rattle.s3_machine.specs.Uploads.{cut}

-- all buckets in one page
abbrev pub all_buckets : BucketListing
all_buckets = record { prefix = []; token = None; max = None }

-- the name comes behind the token, where one is given
abbrev pub is_behind_token : Option (List ℕ) → List ℕ → Bool
is_behind_token token name = option_map_or (λ t. is_lt (name_cmp t name)) token true

-- the bucket is of those that are asked for
abbrev pub is_of_page : BucketListing → BucketItem → Bool
is_of_page asked item = begins asked.prefix item.name && is_behind_token asked.token item.name

-- the first items, and whether one is left over; where no limit is given, all of them
abbrev pub cut_by : {A : Type 0} → Option ℕ → List A → List A × Bool
cut_by None items = (items, false)
cut_by (Some max) items = cut max items

-- the page of these buckets, and whether one is left over
abbrev pub bucket_page : BucketListing → List BucketItem → List BucketItem × Bool
bucket_page asked items = cut_by asked.max (filter (is_of_page asked) items)
