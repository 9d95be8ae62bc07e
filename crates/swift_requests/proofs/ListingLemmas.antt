-- The listings that a query asks for, by its limit and by what stands behind that.
use Rattle.std.proofs.Common.{◌≡◌, ℕ, Bool, true, false, cond, List, [], ◌∷◌, Option, Some, None, refl, ap, sym, ◌∙◌}
use Rattle.std.specs.Prelude.{codes, option_map, option_and_then}
use Rattle.swift_calls.specs.declared.calls.SwiftRequest.{SwiftRequest}
use Rattle.swift_calls.specs.declared.calls.SwiftRequest.TheVariants.{ListContainers, ListNames}
use Rattle.swift_requests.specs.Paths.{first_value, last_call_query_value, values_named}
use Rattle.swift_requests.specs.Calls.{account_names, container_names, is_json, limit_of, listing_limit, marker_and_prefix, containers_listing_call, names_listing_call}

abbrev no_call : Option SwiftRequest
no_call = None

-- ---- the calls by the values behind the limit

abbrev containers_behind : ℕ → List (List ℕ) → Option SwiftRequest
containers_behind most [] = None
containers_behind most (marker ∷ []) = Some (ListContainers marker most)
containers_behind most (marker ∷ other ∷ values) = None

abbrev names_behind : List ℕ → ℕ → List (List ℕ) → Option SwiftRequest
names_behind container most [] = None
names_behind container most (marker ∷ []) = None
names_behind container most (marker ∷ prefix ∷ []) = Some (ListNames container prefix marker most)
names_behind container most (marker ∷ prefix ∷ other ∷ values) = None

-- where the first value says JSON, and the second how many names
abbrev asked : (ℕ → List (List ℕ) → Option SwiftRequest) → List ℕ → List ℕ → List (List ℕ) → Option SwiftRequest
asked behind format limit values = cond (is_json format) (option_and_then (λ most. behind most values) (limit_of limit)) None

nothing_asked : (json : Bool) (most : Option ℕ) → no_call ≡ cond json (option_and_then (λ n. no_call) most) no_call
nothing_asked true None = refl
nothing_asked true (Some n) = refl
nothing_asked false most = refl

one_asked : (json : Bool) (most : Option ℕ) (call : ℕ → SwiftRequest) → cond json (option_map call most) no_call ≡ cond json (option_and_then (λ n. Some (call n)) most) no_call
one_asked true None call = refl
one_asked true (Some n) call = refl
one_asked false most call = refl

containers_asked : (format limit : List ℕ) (values : List (List ℕ)) → containers_listing_call (format ∷ limit ∷ values) ≡ asked containers_behind format limit values
containers_asked format limit [] = nothing_asked (is_json format) (limit_of limit)
containers_asked format limit (marker ∷ []) = one_asked (is_json format) (limit_of limit) (λ most. ListContainers marker most)
containers_asked format limit (marker ∷ other ∷ values) = nothing_asked (is_json format) (limit_of limit)

names_asked : (container format limit : List ℕ) (values : List (List ℕ))
    → names_listing_call container (format ∷ limit ∷ values) ≡ asked (names_behind container) format limit values
names_asked container format limit [] = nothing_asked (is_json format) (limit_of limit)
names_asked container format limit (marker ∷ []) = nothing_asked (is_json format) (limit_of limit)
names_asked container format limit (marker ∷ prefix ∷ []) = one_asked (is_json format) (limit_of limit) (λ most. ListNames container prefix marker most)
names_asked container format limit (marker ∷ prefix ∷ other ∷ values) = nothing_asked (is_json format) (limit_of limit)

-- ---- the limit first

nothing_then : (values : Option (List (List ℕ))) → option_and_then (λ vs. no_call) values ≡ no_call
nothing_then None = refl
nothing_then (Some vs) = refl

abbrev then_behind : (ℕ → List (List ℕ) → Option SwiftRequest) → (List ℕ → Option (List (List ℕ))) → Option (ℕ × List ℕ) → Option SwiftRequest
then_behind behind others found = option_and_then (λ f. option_and_then (behind f.0) (others f.1)) found

by_most : (behind : ℕ → List (List ℕ) → Option SwiftRequest) (others : List ℕ → Option (List (List ℕ))) (rest : List ℕ) (most : Option ℕ)
    → option_and_then (λ vs. option_and_then (λ n. behind n vs) most) (others rest) ≡ then_behind behind others (option_map (λ n. (n, rest)) most)
by_most behind others rest None = nothing_then (others rest)
by_most behind others rest (Some n) = refl

abbrev Law : (List (List ℕ) → Option SwiftRequest) → (ℕ → List (List ℕ) → Option SwiftRequest) → Type 0
Law call behind = (format limit : List ℕ) (values : List (List ℕ)) → call (format ∷ limit ∷ values) ≡ asked behind format limit values

both_first : (call : List (List ℕ) → Option SwiftRequest) (behind : ℕ → List (List ℕ) → Option SwiftRequest) (law : Law call behind) (format limit : List ℕ)
    (values : Option (List (List ℕ))) → option_and_then call (option_map (λ vs. format ∷ vs) (option_map (λ vs. limit ∷ vs) values))
    ≡ option_and_then (λ vs. asked behind format limit vs) values
both_first call behind law format limit None = refl
both_first call behind law format limit (Some vs) = law format limit vs

abbrev limited : Option (List ℕ × List ℕ) → Option (ℕ × List ℕ)
limited found = option_and_then (λ limit. option_map (λ most. (most, limit.1)) (limit_of limit.0)) found

abbrev valued : (List ℕ → Option (List (List ℕ))) → Option (List ℕ × List ℕ) → Option (List (List ℕ))
valued others found = option_and_then (λ first. option_map (λ values. first.0 ∷ values) (others first.1)) found

in_json : (call : List (List ℕ) → Option SwiftRequest) (behind : ℕ → List (List ℕ) → Option SwiftRequest) (law : Law call behind)
    (others : List ℕ → Option (List (List ℕ))) (format : List ℕ) (found : Option (List ℕ × List ℕ)) → is_json format ≡ true
    → option_and_then call (option_map (λ vs. format ∷ vs) (valued others found)) ≡ then_behind behind others (limited found)
in_json call behind law others format None json = refl
in_json call behind law others format (Some f) json =
    both_first call behind law format f.0 (others f.1)
    ∙ ap (λ j. option_and_then (λ vs. cond j (option_and_then (λ n. behind n vs) (limit_of f.0)) no_call) (others f.1)) json
    ∙ by_most behind others f.1 (limit_of f.0)

in_other : (call : List (List ℕ) → Option SwiftRequest) (behind : ℕ → List (List ℕ) → Option SwiftRequest) (law : Law call behind)
    (others : List ℕ → Option (List (List ℕ))) (format : List ℕ) (found : Option (List ℕ × List ℕ)) → is_json format ≡ false
    → option_and_then call (option_map (λ vs. format ∷ vs) (valued others found)) ≡ no_call
in_other call behind law others format None json = refl
in_other call behind law others format (Some f) json =
    both_first call behind law format f.0 (others f.1)
    ∙ ap (λ j. option_and_then (λ vs. cond j (option_and_then (λ n. behind n vs) (limit_of f.0)) no_call) (others f.1)) json
    ∙ nothing_then (others f.1)

by_format : (call : List (List ℕ) → Option SwiftRequest) (behind : ℕ → List (List ℕ) → Option SwiftRequest) (law : Law call behind)
    (others : List ℕ → Option (List (List ℕ))) (limits : List ℕ → Option (List ℕ × List ℕ)) (format rest : List ℕ) (json : Bool) → is_json format ≡ json
    → option_and_then call (option_map (λ vs. format ∷ vs) (valued others (limits rest)))
    ≡ then_behind behind others (option_and_then (λ r. limited (limits r)) (cond json (Some rest) None))
by_format call behind law others limits format rest true json = in_json call behind law others format (limits rest) json
by_format call behind law others limits format rest false json = in_other call behind law others format (limits rest) json

by_first : (call : List (List ℕ) → Option SwiftRequest) (behind : ℕ → List (List ℕ) → Option SwiftRequest) (law : Law call behind)
    (others : List ℕ → Option (List (List ℕ))) (limits : List ℕ → Option (List ℕ × List ℕ)) (found : Option (List ℕ × List ℕ))
    → option_and_then call (valued (λ rest. valued others (limits rest)) found)
    ≡ then_behind behind others (option_and_then (λ r. limited (limits r)) (option_and_then (λ f. cond (is_json f.0) (Some f.1) None) found))
by_first call behind law others limits None = refl
by_first call behind law others limits (Some f) = by_format call behind law others limits f.0 f.1 (is_json f.0) refl

containers_by_limit : (query : List ℕ)
    → option_and_then containers_listing_call (values_named account_names query)
    ≡ then_behind containers_behind (values_named (codes "marker" ∷ [])) (listing_limit query)
unfolding listing_limit
containers_by_limit query =
    by_first containers_listing_call containers_behind containers_asked (values_named (codes "marker" ∷ [])) (first_value (codes "limit"))
    (first_value (codes "format") query)

names_by_limit : (container query : List ℕ)
    → option_and_then (names_listing_call container) (values_named container_names query)
    ≡ then_behind (names_behind container) (values_named (codes "marker" ∷ codes "prefix" ∷ [])) (listing_limit query)
unfolding listing_limit
names_by_limit container query =
    by_first (names_listing_call container) (names_behind container) (names_asked container) (values_named (codes "marker" ∷ codes "prefix" ∷ []))
    (first_value (codes "limit")) (first_value (codes "format") query)

-- ---- as a listing is read

abbrev no_limit : Option (ℕ × List ℕ)
no_limit = None

pub containers_no_limit : (query : List ℕ) → no_limit ≡ listing_limit query → no_call ≡ option_and_then containers_listing_call (values_named account_names query)
containers_no_limit query none = sym (containers_by_limit query ∙ ap (then_behind containers_behind (values_named (codes "marker" ∷ []))) (sym none))

one_value : (most : ℕ) (marker : Option (List ℕ))
    → option_and_then (containers_behind most) (option_map (λ value. value ∷ []) marker) ≡ option_map (λ m. ListContainers m most) marker
one_value most None = refl
one_value most (Some marker) = refl

pub containers_behind_limit : (query rest : List ℕ) (most : ℕ) → Some (most, rest) ≡ listing_limit query
    → option_map (λ m. ListContainers m most) (last_call_query_value (codes "marker") rest)
    ≡ option_and_then containers_listing_call (values_named account_names query)
containers_behind_limit query rest most some =
    sym (containers_by_limit query ∙ ap (then_behind containers_behind (values_named (codes "marker" ∷ []))) (sym some)
    ∙ one_value most (last_call_query_value (codes "marker") rest))

pub names_no_limit : (container query : List ℕ) → no_limit ≡ listing_limit query
    → no_call ≡ option_and_then (names_listing_call container) (values_named container_names query)
names_no_limit container query none =
    sym (names_by_limit container query ∙ ap (then_behind (names_behind container) (values_named (codes "marker" ∷ codes "prefix" ∷ []))) (sym none))

two_values_at : (container marker : List ℕ) (most : ℕ) (prefix : Option (List ℕ))
    → option_and_then (names_behind container most) (option_map (λ values. marker ∷ values) (option_map (λ value. value ∷ []) prefix))
    ≡ option_map (λ (v : List ℕ × List ℕ). ListNames container v.1 v.0 most) (option_map (λ p. (marker, p)) prefix)
two_values_at container marker most None = refl
two_values_at container marker most (Some prefix) = refl

two_values : (container : List ℕ) (most : ℕ) (prefixes : List ℕ → Option (List ℕ)) (found : Option (List ℕ × List ℕ))
    → option_and_then (names_behind container most) (valued (λ rest. option_map (λ value. value ∷ []) (prefixes rest)) found)
    ≡ option_map (λ (v : List ℕ × List ℕ). ListNames container v.1 v.0 most) (option_and_then (λ m. option_map (λ p. (m.0, p)) (prefixes m.1)) found)
two_values container most prefixes None = refl
two_values container most prefixes (Some m) = two_values_at container m.0 most (prefixes m.1)

pub names_behind_limit : (container query rest : List ℕ) (most : ℕ) → Some (most, rest) ≡ listing_limit query
    → option_map (λ (v : List ℕ × List ℕ). ListNames container v.1 v.0 most) (marker_and_prefix rest)
    ≡ option_and_then (names_listing_call container) (values_named container_names query)
names_behind_limit container query rest most some =
    sym (names_by_limit container query ∙ ap (then_behind (names_behind container) (values_named (codes "marker" ∷ codes "prefix" ∷ []))) (sym some)
    ∙ two_values container most (last_call_query_value (codes "prefix")) (first_value (codes "marker") rest))
