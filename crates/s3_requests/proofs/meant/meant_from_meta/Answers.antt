use Rattle.std.proofs.Common.{◌≡◌, ℕ, List, Option, Some, None, IfOk, ap, sym, subst, ◌∙◌}
use Rattle.std.proofs.lemmas.Bool.{not-false}
use Rattle.gate_base.specs.declared.page.Pair.{Pair}
use Rattle.s3_machine.specs.declared.code.Code.{Code}
use Rattle.http_wire.specs.declared.message.Message.{Message}
use Rattle.s3_requests.specs.declared.rows.Row.{Row}
use Rattle.s3_requests.specs.Content.{taken_meta}
use Rattle.s3_requests.specs.Meaning.{body_reasons, first_code, op_of, own_meta_reasons}
use Rattle.s3_requests.proofs.Left.{goes_past}
use Rattle.s3_requests.proofs.Reasons.{code_passes, code_refuses, no_code}
use Rattle.s3_requests.proofs.meant.meant_from_meta.Goals as goal

-- what the code was found to be, by the request's own metadata and body
code_of : (row : Row) (message : Message) (headers meta : List Pair) (body : List ℕ) (found end : Option Code) → headers ≡ message.headers → body ≡ message.body → meta ≡ taken_meta row headers
    → found ≡ first_code (own_meta_reasons row meta body) → found ≡ end → first_code (own_meta_reasons row (taken_meta row message.headers) message.body) ≡ end
code_of row message headers meta body found end of_headers of_body of_meta of_code is =
    ap (λ (text : List ℕ). first_code (own_meta_reasons row (taken_meta row message.headers) text)) (sym of_body)
    ∙ ap (λ (pairs : List Pair). first_code (own_meta_reasons row pairs body)) (sym (of_meta ∙ ap (taken_meta row) of_headers))
    ∙ sym of_code ∙ is

pub taken_with-requires-clause-described : goal.taken_with-requires-clause-described
taken_with-requires-clause-described c =
    not-false _ (no_code (own_meta_reasons c.args.asking.now.row c.in_ok-meta.meta c.as_slice-2.result.now) (sym c.meta_refusal.ensures ∙ c.in-None.is)).1.1.0

pub meant_from_body-requires-clause-left : goal.meant_from_body-requires-clause-left
meant_from_body-requires-clause-left c =
    let asking = c.args.asking.now in
    let message = c.args.message.now in
    goes_past (own_meta_reasons asking.row (taken_meta asking.row message.headers) message.body) c.requires.left
    (code_of asking.row message c.as_slice.result.now c.in_ok-meta.meta c.as_slice-2.result.now c.meta_refusal.result None c.as_slice.ensures c.as_slice-2.ensures c.in_ok-meta.ensures
    c.meta_refusal.ensures c.in-None.is)

pub returns-in_ok-taken-in-None-clause-value : goal.returns-in_ok-taken-in-None-clause-value
returns-in_ok-taken-in-None-clause-value c =
    let asking = c.args.asking.now in
    let message = c.args.message.now in
    let none =
    code_of asking.row message c.as_slice.result.now c.in_ok-meta.meta c.as_slice-2.result.now c.meta_refusal.result None c.as_slice.ensures c.as_slice-2.ensures c.in_ok-meta.ensures
    c.meta_refusal.ensures c.in-None.is in
    subst (λ m. IfOk c.meant_from_body.result (λ meant. meant ≡ m))
    (sym (code_passes (own_meta_reasons asking.row (taken_meta asking.row message.headers) message.body) (body_reasons asking.settings.now asking.row message asking.caller.now)
    (op_of asking.row message asking.target.now) none))
    c.meant_from_body.ensures.value

pub returns-in-Some-clause-value : goal.returns-in-Some-clause-value
returns-in-Some-clause-value c =
    let asking = c.args.asking.now in
    let message = c.args.message.now in
    let some =
    code_of asking.row message c.as_slice.result.now c.in_ok-meta.meta c.as_slice-2.result.now c.meta_refusal.result (Some c.in-Some.code) c.as_slice.ensures c.as_slice-2.ensures c.in_ok-meta.ensures
    c.meta_refusal.ensures c.in-Some.is in
    sym (code_refuses (own_meta_reasons asking.row (taken_meta asking.row message.headers) message.body) (body_reasons asking.settings.now asking.row message asking.caller.now)
    (op_of asking.row message asking.target.now) c.in-Some.code some)
