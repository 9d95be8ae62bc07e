use Rattle.std.proofs.Common.{◌≡◌, ◌∙◌, ◌++◌, ap}
use Rattle.std.proofs.lemmas.Result.{on_ok_weaker}
use Rattle.trial_requests.specs.Trial.{credential_of, hash_text, head_of, trial_time}
use Rattle.trial_requests.proofs.Appends.{request_is}
use Rattle.trial_requests.proofs.print.append_trial_request.Goals as goal

pub returns : goal.returns
returns c =
    let request = c.args.request.now in
    let text = c.args.text.now in
    let time = c.trial_time-time.ensures.value in
    let made = c.in_ok-hash.ensures ∙ ap hash_text c.as_slice.ensures in
    let signed : c.as_slice-2.result.now ≡ hash_text request.body = c.as_slice-2.ensures ∙ made in
    let sent : c.as_slice-3.result.now ≡ hash_text request.body = c.as_slice-3.ensures ∙ made in
    let credential : c.as_slice-4.result.now ≡ credential_of request (hash_text request.body) (trial_time c.args.index) =
    c.as_slice-4.ensures ∙ c.in_ok-credential.ensures ∙ (λ i. credential_of request (signed i) (time i)) in
    on_ok_weaker c.append.result
    (λ is. request_is c.args.index request text c.append_head.new.text c.append.new.self
    (c.in_ok-append_head.ensures ∙ (λ i. text ++ head_of request (sent i) (time i) (credential i)))
    (is ∙ ap (λ body. c.append_head.new.text ++ body) c.as_slice-5.ensures))
    c.append.ensures.ok
