-- What stands against an operation is a proper code, so that what is meant stays proper and known.
use Rattle.std.proofs.Common.{◌≡◌, ◌≢◌, ℕ, Bool, true, false, cond, List, [], ◌∷◌, Option, None, Some, IfSome, refl, sym, subst}
use Rattle.gate_base.specs.declared.page.Pair.{Pair}
use Rattle.s3_machine.specs.declared.code.Code.{Code}
use Rattle.s3_machine.specs.declared.code.Code.TheVariants.{InvalidRequest, NotImplemented}
use Rattle.s3_machine.specs.declared.operation.Settings.{Settings}
use Rattle.s3_names.specs.declared.target.Target.{Target}
use Rattle.http_wire.specs.declared.message.Message.{Message}
use Rattle.s3_requests.specs.declared.meant.Meant.{Meant}
use Rattle.s3_requests.specs.declared.meant.Meant.TheVariants as meant
use Rattle.s3_requests.specs.Meaning.{meaning_of}
use Rattle.s3_machine.specs.Proper.{IsProperCode}
use Rattle.s3_requests.specs.Proper.{IsProperMeant}
use Rattle.s3_requests.proofs.lemmas.Proper.{meaning_known, meaning_proper}
use Rattle.checksums.specs.declared.kinds.Kind.{Kind}
use Rattle.checksums.specs.declared.values.Comparison.{Comparison}
use Rattle.checksums.specs.declared.values.Comparison.TheVariants.{Same, Different, NotAChecksum}
use Rattle.checksums.specs.Kinds.{checksum_kind, compared}
use Rattle.extended.specs.declared.claims.Claims.{Claims}
use Rattle.extended.specs.declared.sender.Sender.{Sender}
use Rattle.extended.specs.Checked.{comparison_code, kind_code, or_code, first_code, stored_bytes, objection_by, objection, refused_or, checked, claims_of, extended_meaning}

comparison_proper : (comparison : Comparison) → IfSome (comparison_code comparison) IsProperCode
comparison_proper Same = tt
comparison_proper Different = refl
comparison_proper NotAChecksum = refl

kind_proper : (kind : Option Kind) (value bytes : List ℕ) → IfSome (kind_code kind value bytes) IsProperCode
kind_proper None value bytes = tt
kind_proper (Some kind) value bytes = comparison_proper (compared kind value bytes)

or_proper : (first second : Option Code) → IfSome first IsProperCode → IfSome second IsProperCode → IfSome (or_code first second) IsProperCode
or_proper None second one other = other
or_proper (Some code) second one other = one

first_proper : (bytes : List ℕ) (checksums : List Pair) → IfSome (first_code bytes checksums) IsProperCode
unfolding first_code
first_proper bytes [] = tt
first_proper bytes (header ∷ headers) = or_proper (kind_code (checksum_kind header.name) header.value bytes) (first_code bytes headers) (kind_proper (checksum_kind header.name) header.value bytes) (first_proper bytes headers)

if_proper : (b : Bool) (first second : Option Code) → IfSome first IsProperCode → IfSome second IsProperCode → IfSome (cond b first second) IsProperCode
if_proper true first second one other = one
if_proper false first second one other = other

objection_by_proper : (claims : Claims) (bytes : Option (List ℕ)) → IfSome (objection_by claims bytes) IsProperCode
objection_by_proper claims None = if_proper claims.chunked (Some NotImplemented) None refl tt
objection_by_proper claims (Some bytes) = if_proper claims.misnamed (Some InvalidRequest) (first_code bytes claims.checksums) refl (first_proper bytes claims.checksums)

objection_proper : (claims : Claims) (means : Meant) → IfSome (objection claims means) IsProperCode
objection_proper claims (meant.Op op) = objection_by_proper claims (stored_bytes op)
objection_proper claims (meant.Refused code) = tt
objection_proper claims meant.Memory = tt

refused_or_proper : (code : Option Code) (means : Meant) → IfSome code IsProperCode → IsProperMeant means → IsProperMeant (refused_or code means)
refused_or_proper None means one proper = proper
refused_or_proper (Some code) means one proper = one

refused_or_known : (code : Option Code) (means : Meant) → means ≢ meant.Memory → refused_or code means ≢ meant.Memory
refused_or_known None means known = known
refused_or_known (Some code) means known = λ e. cc

pub checked_proper : (claims : Claims) (means : Meant) → IsProperMeant means → IsProperMeant (checked claims means)
checked_proper claims means proper = refused_or_proper (objection claims means) means (objection_proper claims means) proper

-- a code that stands against what is meant
pub objected_proper : (claims : Claims) (means : Meant) (code : Code) → Some code ≡ objection claims means → IsProperCode code
objected_proper claims means code is = subst (λ (found : Option Code). IfSome found IsProperCode) (sym is) (objection_proper claims means)

pub extended_known : (settings : Settings) (message : Message) (target : Target) (sender : Sender) → extended_meaning settings message target sender ≢ meant.Memory
unfolding extended_meaning
extended_known settings message target sender =
    refused_or_known (objection (claims_of message.headers sender) (meaning_of settings message target sender.caller)) (meaning_of settings message target sender.caller) (meaning_known settings message target sender.caller)

pub extended_proper : (settings : Settings) (message : Message) (target : Target) (sender : Sender) → IsProperMeant (extended_meaning settings message target sender)
unfolding extended_meaning
extended_proper settings message target sender =
    checked_proper (claims_of message.headers sender) (meaning_of settings message target sender.caller) (meaning_proper settings message target sender.caller)
