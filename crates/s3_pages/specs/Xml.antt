-- XML that is written. Source: Extensible Markup Language 1.0; which bytes are escaped is this profile's.
use Rattle.std.specs.Prelude.{ℕ, Bool, true, false, ◌==◌, nat_lt, if◌then◌else◌, List, [], ◌∷◌, ◌++◌, codes, decimal, Option, Some}
use Rattle.std.specs.List.{flat_map}
use Rattle.s3_machine.specs.declared.code.Code.{Code}
use Rattle.s3_machine.specs.declared.code.Code.TheVariants.{AuthorizationHeaderMalformed, InvalidRange}
use Rattle.s3_pages.specs.declared.context.ExtendedPage.{ExtendedPage}
use Rattle.s3_pages.specs.Codes.{name_of, message_of}
use Rattle.s3_pages.specs.Texts.{id_text}

-- the first line of a document
abbrev pub declaration : List ℕ
declaration = codes "<?xml version=\"1.0\" encoding=\"UTF-8\"?>" ++ 10 ∷ []

-- `&`, `<`, `>` and `"` by their names, a byte below 32 by its number, and any other as it is
abbrev pub escape_of : ℕ → List ℕ
escape_of byte =
    if byte == 38 then codes "&amp;" else if byte == 60 then codes "&lt;" else if byte == 62 then codes "&gt;" else if byte == 34 then codes "&quot;"
    else if nat_lt byte 32 then codes "&#" ++ decimal byte ++ codes ";" else byte ∷ []

-- a byte that stands in a document as it is
abbrev pub is_plain : ℕ → Bool
is_plain byte =
    if byte == 38 then false else if byte == 60 then false else if byte == 62 then false else if byte == 34 then false else if nat_lt byte 32 then false else true

-- a text as it stands in a document
unfoldable pub escaped : List ℕ → List ℕ
escaped text = flat_map escape_of text

-- an element that has a text alone
unfoldable pub element : List ℕ → List ℕ → List ℕ
element name text = codes "<" ++ name ++ codes ">" ++ escaped text ++ codes "</" ++ name ++ codes ">"

-- the first tag of a document's root, and the last tag of an element
unfoldable pub root : List ℕ → List ℕ
root name = codes "<" ++ name ++ codes " xmlns=\"http://s3.amazonaws.com/doc/2006-03-01/\">"

unfoldable pub end_of : List ℕ → List ℕ
end_of name = codes "</" ++ name ++ codes ">"

-- what a refusal tells behind its message, where the settings are extended: the region for which a request should be signed, and the size
-- of an object that has no byte of the range
abbrev pub error_details : Option ExtendedPage → Code → List ℕ
error_details (Some extended) AuthorizationHeaderMalformed = element (codes "Region") extended.region
error_details (Some extended) (InvalidRange (Some size)) = element (codes "ActualObjectSize") (decimal size)
error_details _ code = []

-- the body of a refusal: its code, its message, the path that was asked for, and the id of the request
unfoldable pub error_body : Option ExtendedPage → Code → List ℕ → ℕ → List ℕ
error_body extended code resource id =
    declaration ++ codes "<Error>" ++ element (codes "Code") (name_of code) ++ element (codes "Message") (message_of code)
    ++ error_details extended code ++ element (codes "Resource") resource ++ element (codes "RequestId") (id_text id) ++ codes "</Error>"
