-- What is meant by what a message says of its body.
use Rattle.std.proofs.Common.{◌≡◌, ◌≢◌, List, ap, ◌∙◌}
use Rattle.gate_base.specs.declared.page.Pair.{Pair}
use Rattle.s3_machine.specs.declared.operation.Settings.{Settings}
use Rattle.s3_names.specs.declared.target.Target.{Target}
use Rattle.http_wire.specs.declared.message.Message.{Message}
use Rattle.s3_requests.specs.declared.meant.Meant.{Meant}
use Rattle.s3_requests.specs.declared.meant.Meant.TheVariants.{Memory}
use Rattle.s3_requests.specs.Meaning.{meaning_of}
use Rattle.extended.specs.declared.claims.Claims.{Claims}
use Rattle.extended.specs.declared.sender.Sender.{Sender}
use Rattle.extended.specs.Checked.{checked, claims_of, extended_meaning}

pub meant_by_claims : (settings : Settings) (message : Message) (target : Target) (sender : Sender) (claims : Claims) (headers : List Pair) (means : Meant)
    → claims ≡ claims_of headers sender → headers ≡ message.headers
    → (means ≢ Memory → means ≡ checked claims (meaning_of settings message target sender.caller)) → means ≢ Memory → means ≡ extended_meaning settings message target sender
unfolding extended_meaning
meant_by_claims settings message target sender claims headers means is at says known =
    says known ∙ ap (λ (c : Claims). checked c (meaning_of settings message target sender.caller)) (is ∙ ap (λ (h : List Pair). claims_of h sender) at)
