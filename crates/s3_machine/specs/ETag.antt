-- The ETag of a body. Source: Amazon S3 API Reference, "Object", and RFC 1321 for MD5.
use Rattle.std.specs.Prelude.{ℕ, List}
use Rattle.md5.specs.Md5.{md5}
use Rattle.hex.specs.Hex.{encode_lower}

-- the MD5 of the bytes, in lower-case hexadecimal digits
unfoldable pub body_etag : List ℕ → List ℕ
body_etag body = encode_lower (md5 body)
