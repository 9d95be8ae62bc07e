-- Texts that are appended in a row.
use Rattle.std.proofs.Common.{◌≡◌, ◌∙◌, ℕ, List, ◌++◌, ap, append_assoc}
use Rattle.trial_requests.specs.declared.asked.TrialRequest.{TrialRequest}
use Rattle.trial_requests.specs.Trial.{credential_of, hash_text, head_of, request_text, trial_time}

pub three_appended : (text a b c one two all : List ℕ) → one ≡ text ++ a → two ≡ one ++ b → all ≡ two ++ c → all ≡ text ++ ((a ++ b) ++ c)
three_appended text a b c one two all first second third =
    third ∙ ap (λ t. t ++ c) (second ∙ ap (λ t. t ++ b) first ∙ append_assoc text a b) ∙ append_assoc text (a ++ b) c

pub request_is : (index : ℕ) (request : TrialRequest) (text one two : List ℕ)
    → one ≡ text ++ head_of request (hash_text request.body) (trial_time index) (credential_of request (hash_text request.body) (trial_time index))
    → two ≡ one ++ request.body → two ≡ text ++ request_text index request
unfolding request_text
request_is index request text one two first second =
    second ∙ ap (λ t. t ++ request.body) first
    ∙ append_assoc text (head_of request (hash_text request.body) (trial_time index) (credential_of request (hash_text request.body) (trial_time index))) request.body
