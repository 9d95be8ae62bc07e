-- Headers that are added one after the other.
use Rattle.std.proofs.Common.{◌≡◌, ℕ, Bool, true, false, cond, List, [], ◌∷◌, ◌++◌, codes, decimal, Option, Some, sym, ap, ◌∙◌, append_assoc}
use Rattle.gate_base.specs.declared.page.Pair.{Pair}
use Rattle.s3_machine.specs.declared.code.Code.{Code}
use Rattle.s3_machine.specs.declared.code.Code.TheVariants.{InvalidRange}
use Rattle.s3_machine.specs.declared.operation.ObjectHead.{ObjectHead}
use Rattle.s3_pages.specs.Date.{http_date}
use Rattle.s3_pages.specs.Texts.{quoted}
use Rattle.s3_pages.specs.declared.context.ExtendedPage.{ExtendedPage}
use Rattle.s3_pages.specs.Pages.{header, head_headers, range_headers, range_text, region_headers, size_headers}

pub range_added : (b : Bool) (from length size : ℕ) (old new : List Pair) (text : List ℕ) → b ≡ true → text ≡ range_text from length size
    → new ≡ old ++ header (codes "Content-Range") text ∷ [] → new ≡ old ++ range_headers b from length size
range_added true from length size old new text partial is added = added ∙ ap (λ t. old ++ header (codes "Content-Range") t ∷ []) is
range_added false from length size old new text partial is added = cc

four : (old : List Pair) (a b c d : Pair) → old ++ a ∷ [] ++ b ∷ [] ++ c ∷ [] ++ d ∷ [] ≡ old ++ a ∷ b ∷ c ∷ d ∷ []
four old a b c d = simp append_assoc

pub head_added : (head : ObjectHead) (date etag content_type : List ℕ) (old first second third new : List Pair) → date ≡ http_date head.modified → etag ≡ quoted head.etag → content_type ≡ head.content_type
    → first ≡ old ++ header (codes "Last-Modified") date ∷ [] → second ≡ first ++ header (codes "ETag") etag ∷ [] → third ≡ second ++ header (codes "Accept-Ranges") (codes "bytes") ∷ []
    → new ≡ third ++ header (codes "Content-Type") content_type ∷ [] → new ≡ old ++ head_headers head
head_added head date etag content_type old first second third new d e t one two three four_th =
    let a = λ (x : List ℕ). header (codes "Last-Modified") x in
    let b = λ (x : List ℕ). header (codes "ETag") x in
    let r : Pair = header (codes "Accept-Ranges") (codes "bytes") in
    let c = λ (x : List ℕ). header (codes "Content-Type") x in
    let all : new ≡ old ++ a date ∷ [] ++ b etag ∷ [] ++ r ∷ [] ++ c content_type ∷ [] =
    four_th ∙ ap (λ l. l ++ c content_type ∷ []) (three ∙ ap (λ l. l ++ r ∷ []) (two ∙ ap (λ l. l ++ b etag ∷ []) one)) in
    all ∙ four old (a date) (b etag) r (c content_type) ∙ (λ i. old ++ a (d i) ∷ b (e i) ∷ r ∷ c (t i) ∷ [])

-- those of an object: what each page begins with, what is said of the object, its range, how many parts it has, and its length
pub object_added : (common own range parts length first second third fourth : List Pair) → first ≡ common ++ own → second ≡ first ++ range → third ≡ second ++ parts
    → fourth ≡ third ++ length → fourth ≡ common ++ own ++ range ++ parts ++ length
object_added common own range parts length first second third fourth one two three four_th =
    four_th ∙ ap (λ l. l ++ length) (three ∙ ap (λ l. l ++ parts) (two ∙ ap (λ l. l ++ range) one)) ∙ simp append_assoc

-- ---- beside a reply

-- the size of an object that has no byte of the range
pub size_added : (code : Option Code) (refused : Code) (range : Option ℕ) (size : ℕ) (old new : List Pair) (front text value : List ℕ) → code ≡ Some refused → refused ≡ InvalidRange range → range ≡ Some size
    → front ≡ codes "bytes */" → text ≡ front ++ decimal size → value ≡ text → new ≡ old ++ header (codes "Content-Range") value ∷ [] → new ≡ old ++ size_headers code
size_added code refused range size old new front text value of_code of_refused of_range of_front of_text of_value added =
    let whole : value ≡ codes "bytes */" ++ decimal size = of_value ∙ of_text ∙ ap (λ f. f ++ decimal size) of_front in
    let is : code ≡ Some (InvalidRange (Some size)) = of_code ∙ ap (λ (c : Code). Some c) (of_refused ∙ ap (λ (r : Option ℕ). InvalidRange r) of_range) in
    added ∙ ap (λ v. old ++ header (codes "Content-Range") v ∷ []) whole ∙ ap (λ c. old ++ size_headers c) (sym is)

region_by : (b : Bool) (old new : List Pair) (pair : Pair) → b ≡ true → new ≡ old ++ pair ∷ [] → new ≡ old ++ cond b (pair ∷ []) []
region_by true old new pair heads added = added
region_by false old new pair heads added = cc

-- the region, in the page of a HEAD of a bucket
pub region_added : (extended : ExtendedPage) (old new : List Pair) (region : List ℕ) → extended.heads_bucket ≡ true → region ≡ extended.region
    → new ≡ old ++ header (codes "x-amz-bucket-region") region ∷ [] → new ≡ old ++ region_headers extended
region_added extended old new region heads is added =
    region_by extended.heads_bucket old new (header (codes "x-amz-bucket-region") extended.region) heads (added ∙ ap (λ r. old ++ header (codes "x-amz-bucket-region") r ∷ []) is)
