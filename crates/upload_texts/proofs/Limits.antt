-- What has a text keeps its limits, part by part.
use Rattle.std.specs.Prelude.{◌≡◌, ◌^◌, ℕ, true, ◌&&◌, nat_lt, List, length, Option}
use Rattle.std.specs.List.{list_all}
use Rattle.std.specs.Str.{is_utf8}
use Rattle.std.proofs.lemmas.Bool.{and_parts}
use Rattle.gate_base.specs.declared.page.Pair.{Pair}
use Rattle.s3_names.specs.Bucket.{is_bucket}
use Rattle.s3_names.specs.Key.{is_key}
use Rattle.s3_names.specs.Meta.{names_ascend}
use Rattle.s3_machine.specs.Limits.{is_content_type, is_proper_meta, is_proper_pair}
use Rattle.s3_machine.specs.declared.operation.Listed.{Listed}
use Rattle.swift_marks.specs.Tag as mark
use Rattle.upload_texts.specs.Places.{is_part_count}
use Rattle.upload_texts.specs.Records.{has_record_text, content_fits_record_text, list_fits_record_text, part_fits_record_text}
use Rattle.upload_texts.specs.Sealed.{has_sealed_text, is_sealed_dated, is_sealed_list, part_fits_sealed_text, is_sealed_place}
use Rattle.upload_texts.specs.declared.record.Record.TheVariants.{Open, Done}
use Rattle.upload_texts.specs.declared.sealed.Sealed.{Sealed}
use Rattle.upload_texts.proofs.Utf8.{key_is_utf8, mark_is_utf8, type_is_utf8, bucket_is_utf8}

-- what an object is put with
pub record Content (content_type : List ℕ) (meta : List Pair) : Type 0 where
  pub typed : is_utf8 content_type ≡ true
  pub pairs : list_all is_proper_pair meta ≡ true
  pub ascends : names_ascend meta ≡ true

content_of : (content_type : List ℕ) (meta : List Pair) → content_fits_record_text content_type meta ≡ true → Content content_type meta
unfolding is_proper_meta
content_of content_type meta h =
    let outer = and_parts (is_content_type content_type) _ h in
    let inner = and_parts _ (names_ascend meta) outer.1 in
    record {
      typed = type_is_utf8 content_type outer.0;
      pairs = (and_parts _ (list_all is_proper_pair meta) (and_parts _ _ inner.0).0).1;
      ascends = inner.1;
    }

module _ (key content_type : List ℕ) (meta : List Pair) (started : ℕ) (h : has_record_text (Open key content_type meta started) ≡ true) where
  open_content : Content content_type meta
  unfolding has_record_text
  open_content = content_of content_type meta (and_parts (content_fits_record_text content_type meta) _ (and_parts (is_key key) _ h).1).0

  pub open_key : is_utf8 key ≡ true
  unfolding has_record_text
  open_key = key_is_utf8 key (and_parts (is_key key) _ h).0

  pub open_type : is_utf8 content_type ≡ true
  open_type = open_content.typed

  pub open_pairs : list_all is_proper_pair meta ≡ true
  open_pairs = open_content.pairs

  pub open_meta : names_ascend meta ≡ true
  open_meta = open_content.ascends

module _ (key : List ℕ) (list : List Listed) (etag : List ℕ) (started : ℕ) (moment : Option ℕ) (h : has_record_text (Done key list etag started moment) ≡ true) where
  pub done_key : is_utf8 key ≡ true
  unfolding has_record_text
  done_key = key_is_utf8 key (and_parts (is_key key) _ h).0

  pub done_list : list_all part_fits_record_text list ≡ true
  unfolding has_record_text
  done_list = (and_parts (is_part_count (length list)) (list_all part_fits_record_text list) (and_parts (list_fits_record_text list) _ (and_parts (is_key key) _ h).1).0).1

  pub done_etag : is_utf8 etag ≡ true
  unfolding has_record_text
  done_etag = mark_is_utf8 etag (and_parts (mark.is_etag etag) _ (and_parts (list_fits_record_text list) _ (and_parts (is_key key) _ h).1).1).0

module _ (s : Sealed) (h : has_sealed_text s ≡ true) where
  sealed_content : Content s.content_type s.meta
  unfolding has_sealed_text
  sealed_content =
      let behind = and_parts (nat_lt s.id (2 ^ 128)) _ (and_parts (is_sealed_place s) _ h).1 in
      content_of s.content_type s.meta (and_parts (content_fits_record_text s.content_type s.meta) _ behind.1).0

  sealed_rest : ((is_sealed_list s.list && (mark.is_etag s.etag && is_sealed_dated s)) ≡ true)
  unfolding has_sealed_text
  sealed_rest = (and_parts (content_fits_record_text s.content_type s.meta) _ (and_parts (nat_lt s.id (2 ^ 128)) _ (and_parts (is_sealed_place s) _ h).1).1).1

  pub sealed_bucket : is_utf8 s.bucket ≡ true
  unfolding has_sealed_text
  sealed_bucket = bucket_is_utf8 s.bucket (and_parts (is_bucket s.bucket) (is_key s.key) (and_parts (is_sealed_place s) _ h).0).0

  pub sealed_key : is_utf8 s.key ≡ true
  unfolding has_sealed_text
  sealed_key = key_is_utf8 s.key (and_parts (is_bucket s.bucket) (is_key s.key) (and_parts (is_sealed_place s) _ h).0).1

  pub sealed_type : is_utf8 s.content_type ≡ true
  sealed_type = sealed_content.typed

  pub sealed_pairs : list_all is_proper_pair s.meta ≡ true
  sealed_pairs = sealed_content.pairs

  pub sealed_meta : names_ascend s.meta ≡ true
  sealed_meta = sealed_content.ascends

  pub sealed_parts : list_all part_fits_sealed_text s.list ≡ true
  sealed_parts = (and_parts (is_part_count (length s.list)) (list_all part_fits_sealed_text s.list) (and_parts (is_sealed_list s.list) _ sealed_rest).0).1

  pub sealed_etag : is_utf8 s.etag ≡ true
  sealed_etag = mark_is_utf8 s.etag (and_parts (mark.is_etag s.etag) _ (and_parts (is_sealed_list s.list) _ sealed_rest).1).0
