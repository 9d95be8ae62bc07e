-- What the headers of a request say. Sources: RFC 9110, section 5.3 (several headers of one name), and Amazon S3 API
-- Reference, "Common request headers"; which of them are refused is this profile.
use Rattle.std.specs.Prelude.{ℕ, Bool, false, not, ◌&&◌, ◌||◌, nat_eq, if◌then◌else◌, List, [], ◌∷◌, Option, Some, None, is_none, codes, bytes_eq}
use Rattle.std.specs.List.{list_any, starts_with}
use Rattle.gate_base.specs.declared.page.Pair.{Pair}
use Rattle.s3_names.specs.declared.acl.Acl.{Acl}
use Rattle.s3_names.specs.declared.acl.Acl.TheVariants.{Private, PublicRead}
use Rattle.http_wire.specs.Headers.{has_header, text_of}

-- tags, redirections and the tokens of sessions
abbrev pub is_unsupported_name : List ℕ → Bool
is_unsupported_name name =
    bytes_eq name (codes "x-amz-tagging") || bytes_eq name (codes "x-amz-website-redirect-location")
    || bytes_eq name (codes "x-amz-security-token")

-- encryption, locks and grants
abbrev pub is_unsupported_kind : List ℕ → Bool
is_unsupported_kind name =
    starts_with nat_eq name (codes "x-amz-server-side-encryption") || starts_with nat_eq name (codes "x-amz-object-lock")
    || starts_with nat_eq name (codes "x-amz-bucket-object-lock") || starts_with nat_eq name (codes "x-amz-grant-")

-- a header asks for what isn't implemented; one of several headers does
abbrev pub is_unsupported : Pair → Bool
is_unsupported header = is_unsupported_name header.name || is_unsupported_kind header.name

abbrev pub has_unsupported : List Pair → Bool
has_unsupported headers = list_any is_unsupported headers

-- the word, which isn't empty, stands somewhere in the text
unfoldable pub has_part : List ℕ → List ℕ → Bool
has_part word [] = false
has_part word (byte ∷ text) = starts_with nat_eq (byte ∷ text) word || has_part word text

-- the body would come in the chunks of Signature Version 4
abbrev pub is_chunked : List Pair → Bool
is_chunked headers = has_part (codes "aws-chunked") (text_of (codes "content-encoding") headers)

abbrev pub is_read : List ℕ → Bool
is_read method = bytes_eq method (codes "GET") || bytes_eq method (codes "HEAD")

-- a condition on the ETag with another method than GET and HEAD
abbrev pub is_conditional_write : List ℕ → List Pair → Bool
is_conditional_write method headers =
    not (is_read method) && (has_header (codes "if-match") headers || has_header (codes "if-none-match") headers)

-- the canned access control list of a name, if the profile has it
abbrev pub acl_named : List ℕ → Option Acl
acl_named name =
    if bytes_eq name (codes "private") then Some Private else if bytes_eq name (codes "public-read") then Some PublicRead else None

-- there is a header that names one
abbrev pub names_acl : List Pair → Bool
names_acl headers = has_header (codes "x-amz-acl") headers

-- the one that is named, if any is
abbrev pub given_acl : List Pair → Option Acl
given_acl headers = acl_named (text_of (codes "x-amz-acl") headers)

-- a name of another list
abbrev pub has_other_acl : List Pair → Bool
has_other_acl headers = names_acl headers && is_none (given_acl headers)

-- a storage class other than `STANDARD`
abbrev pub has_other_class : List Pair → Bool
has_other_class headers =
    has_header (codes "x-amz-storage-class") headers && not (bytes_eq (text_of (codes "x-amz-storage-class") headers) (codes "STANDARD"))
