-- The page of all buckets, and what each bucket of a page has.
use Rattle.std.specs.Prelude.{◌≡◌, ℕ, Bool, true, false, cond, List, [], ◌∷◌, Option, Some, None}
use Rattle.std.proofs.Common.{refl, ap}
use Rattle.std.specs.List.{All, filter}
use Rattle.std.proofs.lemmas.List.Elements.{All-cons, All-head, All-nil, All-tail, All-take}
use Rattle.s3_machine.specs.declared.buckets.BucketListing.{BucketListing}
use Rattle.s3_machine.specs.declared.items.BucketItem.{BucketItem}
use Rattle.s3_machine.specs.Buckets.{all_buckets, bucket_page, cut_by, is_of_page}

all_kept : (items : List BucketItem) → filter (is_of_page all_buckets) items ≡ items
all_kept [] = refl
all_kept (item ∷ items) = ap (λ rest. item ∷ rest) (all_kept items)

-- where all buckets are asked for, all are on the page
pub page_of_all : (items : List BucketItem) → bucket_page all_buckets items ≡ (items, false)
page_of_all items = ap (λ kept. (kept, false)) (all_kept items)

module _ (P : BucketItem → Type 0) where
  kept_one : (t : Bool) (item : BucketItem) (rest : List BucketItem) → P item → All P rest → All P (cond t (item ∷ rest) rest)
  kept_one true item rest has all = All-cons P item rest has all
  kept_one false item rest has all = all

  kept_have : (asked : BucketListing) (items : List BucketItem) → All P items → All P (filter (is_of_page asked) items)
  kept_have asked [] all = All-nil P
  kept_have asked (item ∷ items) all =
      kept_one (is_of_page asked item) item (filter (is_of_page asked) items) (All-head P item items all) (kept_have asked items (All-tail P item items all))

  cut_have : (max : Option ℕ) (items : List BucketItem) → All P items → All P (cut_by max items).0
  cut_have None items all = all
  cut_have (Some max) items all = All-take P max items all

  -- what each bucket has, each of a page has
  pub page_has : (asked : BucketListing) (items : List BucketItem) → All P items → All P (bucket_page asked items).0
  page_has asked items all = cut_have asked.max (filter (is_of_page asked) items) (kept_have asked items all)
