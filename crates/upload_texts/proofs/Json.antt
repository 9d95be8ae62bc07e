-- The JSON of a text, as it was read or refused.
use Rattle.std.proofs.Common.{◌≡◌, ℕ, Bool, true, false, cond, List, Some, None, refl}
use Rattle.std.specs.Str.{IsUtf8, is_utf8}
use Rattle.std.proofs.lemmas.Str.{is_utf8-from_IsUtf8, IsUtf8-from_is_utf8}
use Rattle.serde_json.specs.Data.{Data}
use Rattle.serde_json.specs.Read.{read}
use Rattle.slo_manifest.specs.Manifest.{json_of}

pub json_read : (text : List ℕ) (json : Data) → IsUtf8 text → read text ≡ Some json → json_of text ≡ Some json
json_read text json utf8 h = rw (is_utf8-from_IsUtf8 text utf8) h

refused_at : (b : Bool) (text : List ℕ) → is_utf8 text ≡ b → (IsUtf8 text → read text ≡ None) → cond b (read text) None ≡ None
refused_at true text e h = h (IsUtf8-from_is_utf8 text e)
refused_at false text e h = refl

pub json_refused : (text : List ℕ) → (IsUtf8 text → read text ≡ None) → json_of text ≡ None
json_refused text h = refused_at (is_utf8 text) text refl h
