-- The target of a request in origin form, path style. Sources: RFC 9112, section 3.2.1, RFC 3986, section 3.3, and
-- Amazon S3 User Guide, "Virtual hosting of buckets", path-style requests; which refusal goes first is this profile.
use Rattle.std.specs.Prelude.{ℕ, Bool, false, not, ◌&&◌, ◌==◌, if◌then◌else◌, List, [], ◌∷◌, drop, Result, Ok, Err}
use Rattle.std.specs.List.{before_first, after_first}
use Rattle.percent_encoding.specs.Percent.{percent_decode}
use Rattle.gate_base.specs.Ascii.{is_slash}
use Rattle.gate_base.specs.declared.page.Pair.{Pair}
use Rattle.s3_names.specs.declared.fault.NameFault.{NameFault}
use Rattle.s3_names.specs.declared.fault.NameFault.TheVariants.{NotUtf8, BadEscape}
use Rattle.s3_names.specs.declared.target.Target.{Target}
use Rattle.s3_names.specs.Escapes.{has_bad_escape}
use Rattle.s3_names.specs.Query.{query_of}
use Rattle.s3_names.specs.Text.{is_text}

abbrev pub is_question : ℕ → Bool
is_question byte = byte == 63

-- the text before the first `?`
abbrev pub path_text : List ℕ → List ℕ
path_text text = before_first is_question text

-- the text behind it
abbrev pub query_text : List ℕ → List ℕ
query_text text = after_first is_question text

abbrev pub begins_with_slash : List ℕ → Bool
begins_with_slash [] = false
begins_with_slash (byte ∷ path) = byte == 47

-- a path begins with `/` and has no bad escape
abbrev pub is_path : List ℕ → Bool
is_path path = begins_with_slash path && not (has_bad_escape path)

-- the bytes behind the first `/` up to the next
abbrev pub bucket_text : List ℕ → List ℕ
bucket_text path = before_first is_slash (drop 1 path)

-- all that follows that next `/`
abbrev pub key_text : List ℕ → List ℕ
key_text path = after_first is_slash (drop 1 path)

-- the target of a path that is one, once its query is read
abbrev pub target_with : List ℕ → Result (List Pair) NameFault → Result Target NameFault
target_with path (Ok query) = Ok (record {
  raw_path = path;
  path = percent_decode path;
  bucket = percent_decode (bucket_text path);
  key = percent_decode (key_text path);
  query = query;
})
target_with path (Err fault) = Err fault

-- first the path, then the key, then the query; a bucket that is no text is no refusal
unfoldable pub target_of : List ℕ → Result Target NameFault
target_of text =
    if is_path (path_text text)
    then (if is_text (percent_decode (key_text (path_text text))) then target_with (path_text text) (query_of (query_text text)) else Err NotUtf8)
    else Err BadEscape
