-- The names of the file of what is sealed, and of its container, are those of an object and of a container.
use Rattle.std.specs.Prelude.{◌≡◌, ℕ, List, codes}
use Rattle.std.proofs.Common.{refl, sym, subst, inr, arith}
use Rattle.swift_calls.specs.Limits.{IsObjectName}
use Rattle.swift_calls.specs.Step.{IsContainerName}
use Rattle.upload_records.specs.Layout.{gateway_name, sealed_name}
use Rattle.account_calls.proofs.lemmas.Markers.{folder_is_marker, text_is_marker}

own_is_container : IsContainerName gateway_name
unfolding gateway_name
own_is_container =
    let text = folder_is_marker gateway_name (inr (inr refl)) in
    record { filled = omega arith; within = omega arith; text = text.utf8; no_zero = text.no_zero }

pub gateway_is_container : (name : List ℕ) → name ≡ gateway_name → IsContainerName name
gateway_is_container name is = subst IsContainerName (sym is) own_is_container

own_is_object : IsObjectName sealed_name
unfolding sealed_name
own_is_object =
    let text = text_is_marker (codes "sealed") refl (omega arith) in
    (omega arith, record { within = omega arith; utf8 = text.utf8; no_zero = text.no_zero })

pub sealed_is_object : (name : List ℕ) → name ≡ sealed_name → IsObjectName name
sealed_is_object name is = subst IsObjectName (sym is) own_is_object
