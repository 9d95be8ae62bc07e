use Rattle.std.proofs.Common.{◌≡◌, ◌∙◌, ◌++◌, ap, codes}
use Rattle.std.proofs.lemmas.Result.{on_ok_weaker}
use Rattle.trial_requests.specs.Trial.{method_and_path, query_text}
use Rattle.trial_requests.proofs.Appends.{three_appended}
use Rattle.trial_requests.proofs.print.append_first_line.Goals as goal

pub returns : goal.returns
returns c =
    let request = c.args.request.now in
    let one = c.append_method_and_path.new.text in
    let query : c.as_slice-2.result.now ≡ query_text request.query = c.as_slice-2.ensures ∙ c.in_ok-query.ensures ∙ ap query_text c.as_slice.ensures in
    on_ok_weaker c.append-2.result
    (three_appended c.args.text.now (method_and_path request) (query_text request.query) (codes " HTTP/1.1\r\n") one c.append.new.self c.append-2.new.self
    c.in_ok-append_method_and_path.ensures (c.in_ok-append.ensures.ok ∙ ap (λ q. one ++ q) query))
    c.append-2.ensures.ok
