-- The secret of an id in a list of keys is one of a key, and what a URL by it says of a run.
use Rattle.std.specs.Prelude.{◌≡◌, ℕ, Bool, true, false, List, [], ◌∷◌, find, bytes_eq, cond, Option, None, Some, option_map}
use Rattle.std.specs.List.{list_all}
use Rattle.std.proofs.Common.{refl, sym, ap, subst, ◌∙◌}
use Rattle.std.proofs.lemmas.Bool.{and_parts}
use Rattle.std.proofs.lemmas.Slice.Eq.{bytes_eq-Decides}
use Rattle.gate_base.specs.Line.{LineModel}
use Rattle.gate_base.specs.Transcript.{Transcript}
use Rattle.sigv4.specs.declared.keys.AccessKey.{AccessKey}
use Rattle.sigv4.specs.Keys.{is_key, has_id, ids_differ, are_keys, secret_of}
use Rattle.sign_cmd.specs.Signing.{SignsOn}
use Rattle.presign_cmd.specs.Presigning.{Presigns, AnswersFirst, SendsFirst, is_failed_presigning}
use Rattle.presign_cmd.specs.declared.first.Presigning.{Presigning}
use Rattle.presign_cmd.specs.declared.first.Presigning.TheVariants.{Url, NoRequest, LineFailed, Memory}
use Rattle.gateway_cmd.specs.declared.status.RunOutcome.{RunOutcome}
use Rattle.gateway_cmd.specs.Report.{outcome_of_presigning, is_failed_run}

-- the key that is found is of the form, and has the id
one_is : (id secret : List ℕ) (key : AccessKey) → bytes_eq key.id id ≡ true → is_key key ≡ true → Some key.secret ≡ Some secret → is_key (record { id = id; secret = secret }) ≡ true
one_is id secret key same good is =
    let of_id : key.id ≡ id = (bytes_eq-Decides key.id id).0 same in
    let of_secret : key.secret ≡ secret = cc in
    (λ i. is_key (record { id = sym of_id i; secret = sym of_secret i })) ∙ good

found_by : (test : Bool) (id secret : List ℕ) (key : AccessKey) (found : Option AccessKey) → has_id id key ≡ test → is_key key ≡ true
    → (option_map (λ k. k.secret) found ≡ Some secret → is_key (record { id = id; secret = secret }) ≡ true)
    → option_map (λ k. k.secret) (cond test (Some key) found) ≡ Some secret → is_key (record { id = id; secret = secret }) ≡ true
found_by true id secret key found same good later is = one_is id secret key same good is
found_by false id secret key found other good later is = later is

found_is : (id secret : List ℕ) (keys : List AccessKey) → list_all is_key keys ≡ true → secret_of id keys ≡ Some secret → is_key (record { id = id; secret = secret }) ≡ true
found_is id secret [] good is = absurd (let no : None ≡ Some secret = is in cc)
found_is id secret (key ∷ keys) good is =
    let parts = and_parts (is_key key) (list_all is_key keys) good in
    found_by (has_id id key) id secret key (find (has_id id) keys) refl parts.0 (found_is id secret keys parts.1) is

-- the id and the secret that is found of it are a key
pub signer_is_key : (id other secret : List ℕ) (keys : List AccessKey) → are_keys keys ≡ true → id ≡ other → Some secret ≡ secret_of other keys → is_key (record { id = id; secret = secret }) ≡ true
signer_is_key id other secret keys good same is =
    found_is id secret keys (and_parts (list_all is_key keys) (ids_differ keys) good).0 (ap (λ k. secret_of k keys) same ∙ sym is)

-- whether the line failed is whether the run ends for it
url_failed : (presigning : Presigning) → is_failed_run (outcome_of_presigning presigning) ≡ is_failed_presigning presigning
url_failed (Url url) = refl
url_failed NoRequest = refl
url_failed LineFailed = refl
url_failed Memory = refl

pub url_report_line : {at own : ℕ} {old new : LineModel} (ended : RunOutcome) (presigning : Presigning) → ended ≡ outcome_of_presigning presigning → at ≡ own → SignsOn (is_failed_presigning presigning) own old new → SignsOn (is_failed_run ended) at old new
url_report_line {at = at} {old = old} {new = new} ended presigning is same on =
    let failed : is_failed_run ended ≡ is_failed_presigning presigning = ap is_failed_run is ∙ url_failed presigning in
    subst (λ f. SignsOn f at old new) (sym failed) (subst (λ n. SignsOn (is_failed_presigning presigning) n old new) (sym same) on)

-- the secret is the one that is found, the id and the region are those that are given
pub url_first : (waiting : List (List ℕ)) (secret own id id' named region region' : List ℕ) (keys : List AccessKey) (moment expires : ℕ) (presigning : Presigning)
    → Some own ≡ secret_of named keys → named ≡ id → secret_of id keys ≡ Some secret → id' ≡ id → region' ≡ region
    → AnswersFirst (Presigns own id' region' moment expires) waiting presigning → AnswersFirst (Presigns secret id region moment expires) waiting presigning
url_first waiting secret own id id' named region region' keys moment expires presigning found name is same place first =
    let both : Some own ≡ Some secret = found ∙ (ap (λ k. secret_of k keys) name ∙ is) in
    let one : own ≡ secret = cc in
    subst (λ s. AnswersFirst (Presigns s id region moment expires) waiting presigning) one
    (subst (λ k. AnswersFirst (Presigns own k region moment expires) waiting presigning) same
    (subst (λ r. AnswersFirst (Presigns own id' r moment expires) waiting presigning) place first))

pub url_sends : {at own : ℕ} (old new : Transcript) (presigning : Presigning) → at ≡ own → SendsFirst own old presigning new → SendsFirst at old presigning new
url_sends old new presigning same sends = subst (λ n. SendsFirst n old presigning new) (sym same) sends
