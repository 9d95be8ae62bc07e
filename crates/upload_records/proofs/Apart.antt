-- The containers beside a bucket, and the gateway's own, are no buckets.
use Rattle.std.specs.Prelude.{◌≡◌, ◌≢◌, ◌==◌, ℕ, Bool, true, false, ◌||◌, List, [], ◌++◌, codes}
use Rattle.std.specs.List.{list_any}
use Rattle.std.specs.Ordering.{eq_by_cmp}
use Rattle.std.proofs.Common.{refl, sym, ap, ◌∙◌, true≢false}
use Rattle.std.proofs.lemmas.List.Folds.{list_any-append}
use Rattle.gate_base.specs.Maps.{name_cmp}
use Rattle.gate_base.proofs.lemmas.Maps.{by_name, apart}
use Rattle.s3_names.specs.Bucket.{is_bucket}
use Rattle.s3_names.proofs.lemmas.BucketLemmas.{bucket_has_no_plus}
use Rattle.upload_records.specs.Layout.{uploads_name, segments_name, gateway_name}

or_true : (a : Bool) → (a || true) ≡ true
or_true true = refl
or_true false = refl

-- a name with a `+` is no bucket's
has_plus : (name rest : List ℕ) → list_any (λ b. b == 43) rest ≡ true → list_any (λ b. b == 43) (name ++ rest) ≡ true
has_plus name rest in_rest = list_any-append (λ b. b == 43) name rest ∙ ap (λ t. list_any (λ b. b == 43) name || t) in_rest ∙ or_true _

no_bucket : (b name rest : List ℕ) → is_bucket b ≡ true → list_any (λ b. b == 43) rest ≡ true → name ++ rest ≢ b
no_bucket b name rest is in_rest e = true≢false (sym (has_plus name rest in_rest) ∙ ap (list_any (λ b. b == 43)) e ∙ bucket_has_no_plus b is)

pub uploads_apart : (b name : List ℕ) → is_bucket b ≡ true → eq_by_cmp name_cmp (uploads_name name) b ≡ false
unfolding uploads_name
uploads_apart b name is = apart by_name (uploads_name name) b (no_bucket b name (codes "+uploads") is refl)

pub segments_apart : (b name : List ℕ) → is_bucket b ≡ true → eq_by_cmp name_cmp (segments_name name) b ≡ false
unfolding segments_name
segments_apart b name is = apart by_name (segments_name name) b (no_bucket b name (codes "+segments") is refl)

pub gateway_apart : (b : List ℕ) → is_bucket b ≡ true → eq_by_cmp name_cmp gateway_name b ≡ false
unfolding gateway_name
gateway_apart b is = apart by_name gateway_name b (no_bucket b [] (codes "+gateway") is refl)
