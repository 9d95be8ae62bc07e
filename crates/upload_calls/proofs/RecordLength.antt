-- The text of the record of an open upload is short: far below the greatest body that a call puts.
use Rattle.std.specs.Prelude.{◌≡◌, ◌<◌, ◌≤◌, ℕ, true, false, List, codes, length, Result, Ok, Err, IfOk}
use Rattle.std.proofs.Common.{sym, subst, arith}
use Rattle.std.proofs.lemmas.Bool.{and_from, lt-ltb}
use Rattle.std.proofs.lemmas.Fmt.{length-decimal-le}
use Rattle.serde_json.specs.Data.{number, unsigned, string, Members, no_members, member}
use Rattle.serde_json.specs.Written.{compact_text}
use Rattle.gate_base.specs.Told.{moment_limit}
use Rattle.gate_base.specs.declared.page.Pair.{Pair}
use Rattle.s3_names.specs.Key.{is_key}
use Rattle.s3_names.specs.Meta.{names_ascend}
use Rattle.s3_names.proofs.lemmas.KeyLemmas.{key_length}
use Rattle.s3_machine.specs.Limits.{is_content_type, is_proper_meta}
use Rattle.upload_texts.specs.Places.{array_of, metadata_pair_json}
use Rattle.upload_texts.specs.Records.{has_record_text, record_text}
use Rattle.upload_texts.specs.declared.record.Record.TheVariants.{Open}
use Rattle.upload_records.proofs.lemmas.TextLengths.{quoted_short, meta_short, type_size, member_short}
use Rattle.upload_calls.specs.Interpret.{most_open_text}

-- the members of an open record, from behind
abbrev from_version : Members
from_version = member (codes "v") (number (unsigned 1)) no_members

abbrev from_type : List ℕ → Members
from_type content_type = member (codes "type") (string content_type) from_version

abbrev from_state : List ℕ → Members
from_state content_type = member (codes "state") (string (codes "open")) (from_type content_type)

abbrev from_meta : List ℕ → List Pair → Members
from_meta content_type meta = member (codes "meta") (array_of metadata_pair_json meta) (from_state content_type)

abbrev from_key : List ℕ → List ℕ → List Pair → Members
from_key key content_type meta = member (codes "key") (string key) (from_meta content_type meta)

-- the text of an open record
pub open_short : (key content_type : List ℕ) (meta : List Pair) (started : ℕ) → is_key key ≡ true → is_content_type content_type ≡ true → is_proper_meta meta ≡ true → started < moment_limit
    → length (record_text (Open key content_type meta started)) ≤ most_open_text
unfolding record_text
open_short key content_type meta started keyed typed described below =
    let keys = (key_length key keyed).1 in
    let types = type_size content_type typed in
    let version : length (compact_text (number (unsigned 1))) ≤ 1 = length-decimal-le 1 1 (omega arith) (omega arith) (omega arith) in
    let moment : length (compact_text (number (unsigned started))) ≤ 12 = length-decimal-le 12 started (omega arith) (omega (arith, below)) (omega (arith, below)) in
    let state = quoted_short (codes "open") in
    let type_text = quoted_short content_type in
    let key_text = quoted_short key in
    let v = member_short true (codes "v") (number (unsigned 1)) no_members 1 1 (omega arith) version (omega arith) in
    let t = member_short true (codes "type") (string content_type) from_version 1538 48 (omega arith) (omega (arith, types, type_text)) v in
    let s = member_short true (codes "state") (string (codes "open")) (from_type content_type) 26 1632 (omega arith) (omega (arith, state)) t in
    let m = member_short true (codes "meta") (array_of metadata_pair_json meta) (from_state content_type) 13194 1704 (omega arith) (meta_short meta described) s in
    let k = member_short true (codes "key") (string key) (from_meta content_type meta) 6146 14944 (omega arith) (omega (arith, keys, key_text)) m in
    let all = member_short false (codes "at") (number (unsigned started)) (from_key key content_type meta) 12 21136 (omega arith) moment k in
    omega (arith, all)

-- a text that has so many bytes
pub short_by_text : {F : Type 0} (most : ℕ) (text : List ℕ) (result : Result (List ℕ) F) → length text ≤ most → IfOk result (λ t. t ≡ text) → IfOk result (λ t. length t ≤ most)
short_by_text most text (Ok t) short is = subst (λ t. length t ≤ most) (sym is) short
short_by_text most text (Err fault) short is = tt

-- an open record has a text
pub open_has_text : (key content_type : List ℕ) (meta : List Pair) (started : ℕ) → is_key key ≡ true → is_content_type content_type ≡ true → is_proper_meta meta ≡ true → names_ascend meta ≡ true
    → started < moment_limit → has_record_text (Open key content_type meta started) ≡ true
unfolding has_record_text
open_has_text key content_type meta started keyed typed described ascend below =
    and_from _ _ keyed (and_from _ _ (and_from _ _ typed (and_from _ _ described ascend)) (lt-ltb started moment_limit below))
