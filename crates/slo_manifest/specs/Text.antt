-- The text of a manifest: compact JSON with the fields in the order of their names. Source: Object Storage API v1,
-- "Static large objects"; the type and the time of a Got form are fixed, since the store has neither here.
use Rattle.std.specs.Prelude.{ℕ, List, codes, map}
use Rattle.serde_json.specs.Data.{Data, array, object, number, unsigned, string, no_members, member}
use Rattle.serde_json.specs.View.{items_of}
use Rattle.serde_json.specs.Written.{compact_text}
use Rattle.slo_manifest.specs.Path.{path_of}
use Rattle.slo_manifest.specs.declared.Segment.{Segment}
use Rattle.slo_manifest.specs.declared.manifest.Form.{Form}
use Rattle.slo_manifest.specs.declared.manifest.Form.TheVariants.{Put, Got}

abbrev pub manifest_put_entry : List ℕ → List ℕ → ℕ → Data
manifest_put_entry etag path size =
    object (member (codes "etag") (string etag) (member (codes "path") (string path)
    (member (codes "size_bytes") (number (unsigned size)) no_members)))

abbrev pub manifest_got_entry : List ℕ → List ℕ → ℕ → Data
manifest_got_entry etag path size =
    object (member (codes "bytes") (number (unsigned size))
    (member (codes "content_type") (string (codes "application/octet-stream")) (member (codes "hash") (string etag)
    (member (codes "last_modified") (string (codes "1970-01-01T00:00:00.000000"))
    (member (codes "name") (string path) no_members)))))

-- the entry of a segment
abbrev pub entry_value : Form → Segment → Data
entry_value Put s = manifest_put_entry s.etag (path_of s.container s.name) s.size
entry_value Got s = manifest_got_entry s.etag (path_of s.container s.name) s.size

abbrev pub manifest_value : Form → List Segment → Data
manifest_value form segments = array (items_of (map (entry_value form) segments))

unfoldable pub manifest_text : Form → List Segment → List ℕ
manifest_text form segments = compact_text (manifest_value form segments)
