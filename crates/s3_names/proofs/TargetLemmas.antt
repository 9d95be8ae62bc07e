-- A target, once its parts are read.
use Rattle.std.proofs.Common.{◌≡◌, ℕ, true, List, Ok, refl}
use Rattle.percent_encoding.specs.Percent.{percent_decode}
use Rattle.gate_base.specs.declared.page.Pair.{Pair}
use Rattle.s3_names.specs.Query.{query_of}
use Rattle.s3_names.specs.Target.{path_text, query_text, bucket_text, key_text, is_path, target_of}
use Rattle.s3_names.specs.Text.{is_text}

pub target_is : (text path bucket key : List ℕ) (query : List Pair) → path ≡ path_text text → is_path path ≡ true → bucket ≡ bucket_text path → key ≡ percent_decode (key_text path) → is_text key ≡ true → query_of (query_text text) ≡ Ok query
    → target_of text ≡ Ok (record { raw_path = path; path = percent_decode path; bucket = percent_decode bucket; key = key; query = query })
unfolding target_of
target_is text path bucket key query one fit two three clean four =
    rw (← one, fit, ← three, clean, four, ← two, ← three) refl
