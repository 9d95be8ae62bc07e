-- The header fields that every call has.
use Rattle.std.proofs.Common.{◌≡◌, ℕ, Bool, true, false, List, [], ◌∷◌, ◌++◌, length, map, Some, None, refl, ap, ap₂, ◌∙◌}
use Rattle.std.specs.Prelude.{codes, decimal, bytes_eq}
use Rattle.std.specs.Char.{to_ascii_lowercase}
use Rattle.http1.specs.Fields.{Header}
use Rattle.swift_calls.specs.declared.calls.SwiftRequest.{SwiftRequest}
use Rattle.swift_calls.specs.declared.calls.SwiftRequest.TheVariants.{
  ListContainers,
  HeadContainer,
  PutContainer,
  PostContainer,
  DeleteContainer,
  ListNames,
  PutObject,
  PutManifest,
  HeadObject,
  GetObject,
  GetManifest,
  DeleteObject,
}
use Rattle.swift_requests.specs.CallText.{newest_fields, fresh_fields, own_fields, call_fields, body_of, call_message}
use Rattle.swift_replies.specs.AnswerText.{meta_fields}
use Rattle.swift_requests.specs.Place.{HasToken}
use Rattle.swift_requests.specs.declared.place.Place.{Place}
use Rattle.swift_replies.proofs.lemmas.GivenLemmas.{given, given-append, given_meta}

-- a name that neither the metadata of an object nor its condition has
file_own : (name : List ℕ) → ((index : ℕ) → bytes_eq (map to_ascii_lowercase (codes "X-Object-Meta-S3-" ++ decimal index)) name ≡ false) → (meta : List (List ℕ)) (fresh : Bool)
    → given name (fresh_fields fresh) ≡ [] → given name (meta_fields 0 meta ++ fresh_fields fresh) ≡ []
file_own name other meta fresh none =
    given-append name (meta_fields 0 meta) (fresh_fields fresh) ∙ ap₂ (λ a b. a ++ b) (given_meta name other 0 meta) none

token_fresh : (fresh : Bool) → given (codes "x-auth-token") (fresh_fields fresh) ≡ []
token_fresh false = refl
token_fresh true = refl

length_fresh : (fresh : Bool) → given (codes "content-length") (fresh_fields fresh) ≡ []
length_fresh false = refl
length_fresh true = refl

coding_fresh : (fresh : Bool) → given (codes "transfer-encoding") (fresh_fields fresh) ≡ []
coding_fresh false = refl
coding_fresh true = refl

token_own : (call : SwiftRequest) → given (codes "x-auth-token") (own_fields call) ≡ []
token_own (ListContainers marker limit) = refl
token_own (HeadContainer container) = refl
token_own (PutContainer container readers None) = refl
token_own (PutContainer container readers (Some moment)) = refl
token_own (PostContainer container readers) = refl
token_own (DeleteContainer container) = refl
token_own (ListNames container prefix marker limit) = refl
token_own (PutObject put) = file_own (codes "x-auth-token") (λ index. refl) put.meta put.fresh (token_fresh put.fresh)
token_own (PutManifest container name content_type meta segments) = given_meta (codes "x-auth-token") (λ index. refl) 0 meta
token_own (HeadObject container name) = refl
token_own (GetObject container name None) = refl
token_own (GetObject container name (Some range)) = refl
token_own (GetManifest container name) = refl
token_own (DeleteObject container name) = refl

length_own : (call : SwiftRequest) → given (codes "content-length") (own_fields call) ≡ []
length_own (ListContainers marker limit) = refl
length_own (HeadContainer container) = refl
length_own (PutContainer container readers None) = refl
length_own (PutContainer container readers (Some moment)) = refl
length_own (PostContainer container readers) = refl
length_own (DeleteContainer container) = refl
length_own (ListNames container prefix marker limit) = refl
length_own (PutObject put) = file_own (codes "content-length") (λ index. refl) put.meta put.fresh (length_fresh put.fresh)
length_own (PutManifest container name content_type meta segments) = given_meta (codes "content-length") (λ index. refl) 0 meta
length_own (HeadObject container name) = refl
length_own (GetObject container name None) = refl
length_own (GetObject container name (Some range)) = refl
length_own (GetManifest container name) = refl
length_own (DeleteObject container name) = refl

coding_own : (call : SwiftRequest) → given (codes "transfer-encoding") (own_fields call) ≡ []
coding_own (ListContainers marker limit) = refl
coding_own (HeadContainer container) = refl
coding_own (PutContainer container readers None) = refl
coding_own (PutContainer container readers (Some moment)) = refl
coding_own (PostContainer container readers) = refl
coding_own (DeleteContainer container) = refl
coding_own (ListNames container prefix marker limit) = refl
coding_own (PutObject put) = file_own (codes "transfer-encoding") (λ index. refl) put.meta put.fresh (coding_fresh put.fresh)
coding_own (PutManifest container name content_type meta segments) = given_meta (codes "transfer-encoding") (λ index. refl) 0 meta
coding_own (HeadObject container name) = refl
coding_own (GetObject container name None) = refl
coding_own (GetObject container name (Some range)) = refl
coding_own (GetManifest container name) = refl
coding_own (DeleteObject container name) = refl

-- those, and that all replicas are asked
token_asked : (newest : Bool) (call : SwiftRequest) → given (codes "x-auth-token") (newest_fields newest ++ own_fields call) ≡ []
token_asked false call = token_own call
token_asked true call = token_own call

length_asked : (newest : Bool) (call : SwiftRequest) → given (codes "content-length") (newest_fields newest ++ own_fields call) ≡ []
length_asked false call = length_own call
length_asked true call = length_own call

coding_asked : (newest : Bool) (call : SwiftRequest) → given (codes "transfer-encoding") (newest_fields newest ++ own_fields call) ≡ []
coding_asked false call = coding_own call
coding_asked true call = coding_own call

abbrev length_field : SwiftRequest → Header
length_field call = (codes "Content-Length", decimal (length (body_of call)))

-- a message that is written has the token
pub has_token : (newest : Bool) (place : Place) (call : SwiftRequest) → HasToken place (call_message newest place call)
has_token newest place call =
    ap (λ values. place.token ∷ values)
    (given-append (codes "x-auth-token") (newest_fields newest ++ own_fields call) (length_field call ∷ []) ∙ ap (λ values. values ++ []) (token_asked newest call))

-- one length, of the body
pub has_length : (newest : Bool) (place : Place) (call : SwiftRequest) → given (codes "content-length") (call_fields newest place call) ≡ decimal (length (body_of call)) ∷ []
has_length newest place call =
    given-append (codes "content-length") (newest_fields newest ++ own_fields call) (length_field call ∷ [])
    ∙ ap (λ values. values ++ decimal (length (body_of call)) ∷ []) (length_asked newest call)

pub has_no_coding : (newest : Bool) (place : Place) (call : SwiftRequest) → given (codes "transfer-encoding") (call_fields newest place call) ≡ []
has_no_coding newest place call =
    given-append (codes "transfer-encoding") (newest_fields newest ++ own_fields call) (length_field call ∷ []) ∙ ap (λ values. values ++ []) (coding_asked newest call)
