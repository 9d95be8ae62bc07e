-- Where no connection began, none was faulty; and which were, after one.
use Rattle.std.specs.Prelude.{◌≡◌, ◌-◌, ℕ, Bool, true, false, List, [], ◌∷◌, ◌++◌, replicate, slice_set, if◌then◌else◌}
use Rattle.std.proofs.Common.{sym, ap, subst, ◌∙◌, arith}
use Rattle.std.proofs.lemmas.List.{append-nil}
use Rattle.gate_base.specs.Transcript.{Transcript}
use Rattle.http_service.specs.Running.{NoneFaulty}

pub none_faulty_of_none : (old new : Transcript) → new ≡ old → NoneFaulty old new
none_faulty_of_none old new same =
    let none : 0 ≡ old.begun - old.begun = omega arith in
    subst (NoneFaulty old) (sym same) (record {
      begun = omega arith;
      faulty = sym (append-nil old.faulty) ∙ ap (λ n. old.faulty ++ replicate n false) none;
    })

-- which were faulty, after one connection
pub faulty_then : (failed : Bool) (faulty faulty' faulty'' : List Bool) (begun begun'' : ℕ) → faulty' ≡ faulty ++ false ∷ [] → begun'' ≡ begun → faulty'' ≡ (if failed then slice_set faulty' (begun - 1) true else faulty')
    → faulty'' ≡ (if failed then slice_set (faulty ++ false ∷ []) (begun'' - 1) true else faulty ++ false ∷ [])
faulty_then true faulty faulty' faulty'' begun begun'' began same is = is ∙ (λ i. slice_set (began i) (sym same i - 1) true)
faulty_then false faulty faulty' faulty'' begun begun'' began same is = is ∙ began
