use Rattle.std.proofs.Common.{◌≡◌, ℕ, List, [], ◌∷◌, ◌++◌, codes, IfOk, ap, subst, ◌∙◌}
use Rattle.hex.specs.Hex.{encode_lower}
use Rattle.presign.specs.Url.{url_of}
use Rattle.presign.proofs.Appends.{url_joined}
use Rattle.presign.proofs.url.presigned_url_of.Goals as goal

pub returns : goal.returns
unfolding url_of
returns c =
    let path = c.as_slice-path.ensures ∙ c.in_ok-path.ensures.escaped in
    let query = c.as_slice-query.ensures ∙ c.in_ok-query.ensures in
    let digits = c.as_bytes.ensures.value ∙ c.in_ok-digits.ensures ∙ ap encode_lower c.in_ok-signature.ensures in
    subst (λ (t : List ℕ). IfOk c.concatenated.result (λ whole. whole ≡ t))
    (url_joined c.as_slice-path.result.now c.as_slice-query.result.now (codes "&X-Amz-Signature=") c.as_bytes.result.now ∙ (λ i. ((path i ++ 63 ∷ []) ++ query i) ++ codes "&X-Amz-Signature=" ++ digits i)) c.concatenated.ensures
