use Rattle.std.proofs.Common.{◌≡◌, ℕ, List, Some, None, IfOk, ap, sym, subst, ◌∙◌}
use Rattle.s3_requests.specs.Meaning.{first_code, list_reasons, op_of, own_body_reasons}
use Rattle.s3_requests.proofs.Left.{goes_past}
use Rattle.s3_requests.proofs.Reasons.{code_passes, code_refuses}
use Rattle.s3_requests.proofs.meant.meant_from_body.Goals as goal

pub meant_from_list-requires-clause-left : goal.meant_from_list-requires-clause-left
meant_from_list-requires-clause-left c =
    let asking = c.args.asking.now in
    let message = c.args.message.now in
    let none : first_code (own_body_reasons asking.settings.now asking.row message.body) ≡ None =
    ap (λ (body : List ℕ). first_code (own_body_reasons asking.settings.now asking.row body)) (sym c.as_slice.ensures) ∙ sym c.in_ok-code.ensures ∙ c.in-None.is in
    goes_past (own_body_reasons asking.settings.now asking.row message.body) c.requires.left none

pub returns-in-None-clause-value : goal.returns-in-None-clause-value
returns-in-None-clause-value c =
    let asking = c.args.asking.now in
    let message = c.args.message.now in
    let none : first_code (own_body_reasons asking.settings.now asking.row message.body) ≡ None =
    ap (λ (body : List ℕ). first_code (own_body_reasons asking.settings.now asking.row body)) (sym c.as_slice.ensures) ∙ sym c.in_ok-code.ensures ∙ c.in-None.is in
    subst (λ m. IfOk c.meant_from_list.result (λ meant. meant ≡ m))
    (sym (code_passes (own_body_reasons asking.settings.now asking.row message.body) (list_reasons asking.row message asking.caller.now) (op_of asking.row message asking.target.now) none))
    c.meant_from_list.ensures.value

pub returns-in-Some-clause-value : goal.returns-in-Some-clause-value
returns-in-Some-clause-value c =
    let asking = c.args.asking.now in
    let message = c.args.message.now in
    let some : first_code (own_body_reasons asking.settings.now asking.row message.body) ≡ Some c.in-Some.code =
    ap (λ (body : List ℕ). first_code (own_body_reasons asking.settings.now asking.row body)) (sym c.as_slice.ensures) ∙ sym c.in_ok-code.ensures ∙ c.in-Some.is in
    sym (code_refuses (own_body_reasons asking.settings.now asking.row message.body) (list_reasons asking.row message asking.caller.now) (op_of asking.row message asking.target.now) c.in-Some.code some)
