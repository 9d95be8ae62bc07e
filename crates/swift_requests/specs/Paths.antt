-- The target of a call: the path names an account, a container or an object, and the query has values. Sources: Object
-- Storage API v1; RFC 3986, sections 2.1 and 3.4.
use Rattle.std.specs.Prelude.{ℕ, Bool, nat_eq, List, [], ◌∷◌, drop, codes, bytes_eq, if◌then◌else◌, Result, Ok, Err}
use Rattle.std.specs.List.{list_any, starts_with, before_first, after_first}
use Rattle.std.specs.Prelude.{Option, None, Some, option_map, option_and_then}
use Rattle.gate_base.specs.Ascii.{is_slash}
use Rattle.s3_names.specs.declared.fault.NameFault.{NameFault}
use Rattle.s3_names.specs.Escapes.{decoded}
use Rattle.s3_names.specs.Query.{is_ampersand, is_equals}
use Rattle.s3_names.specs.Target.{path_text}
use Rattle.swift_replies.specs.Answers.{both}
use Rattle.swift_requests.specs.declared.paths.Path.{Path}
use Rattle.swift_requests.specs.declared.paths.Path.TheVariants.{Account, Container, Object}

abbrev pub value_of : Result (List ℕ) NameFault → Option (List ℕ)
value_of (Ok value) = Some value
value_of (Err fault) = None

-- the bytes that an escaped text stands for, whichever way they are escaped; none where it has a bad escape
abbrev pub unescaped : List ℕ → Option (List ℕ)
unescaped text = value_of (decoded text)

-- ---- the path

abbrev pub is_nested_call_path : List ℕ → Bool
is_nested_call_path text = list_any is_slash text

abbrev pub first_part : List ℕ → List ℕ
first_part text = before_first is_slash text

-- all that follows the first `/`
abbrev pub other_parts : List ℕ → List ℕ
other_parts text = after_first is_slash text

abbrev pub object_path : Option (List ℕ) → Option (List ℕ) → Option (List ℕ) → Option Path
object_path None container name = None
object_path (Some account) None name = None
object_path (Some account) (Some container) None = None
object_path (Some account) (Some container) (Some name) = Some (Object account container name)

-- a container, or behind a `/` an object in it, whose name may have more of them
abbrev pub path_below : List ℕ → List ℕ → Option Path
path_below account text =
    if is_nested_call_path text then object_path (unescaped account) (unescaped (first_part text)) (unescaped (other_parts text))
    else both (λ a c. Container a c) (unescaped account) (unescaped text)

-- an account, or behind a `/` what is in it
abbrev pub account_call_path : List ℕ → Option Path
account_call_path text = if is_nested_call_path text then path_below (first_part text) (other_parts text) else option_map (λ a. Account a) (unescaped text)

abbrev pub is_versioned_call_path : List ℕ → Bool
is_versioned_call_path path = starts_with nat_eq path (codes "/v1/")

-- what a target names: its path is `/v1/`, the account, and as they apply `/` and the container, `/` and the object's name
abbrev pub path_of : List ℕ → Option Path
path_of target = if is_versioned_call_path (path_text target) then account_call_path (drop 4 (path_text target)) else None

-- ---- the query

-- the value of a piece `name=value` that has this name
abbrev pub named_call_query_value : List ℕ → List ℕ → Option (List ℕ)
named_call_query_value name piece = if bytes_eq (before_first is_equals piece) name then unescaped (after_first is_equals piece) else None

abbrev pub has_more_call_query : List ℕ → Bool
has_more_call_query text = list_any is_ampersand text

-- the value of the first piece, and what follows its `&`, which has to be there
abbrev pub first_value : List ℕ → List ℕ → Option (List ℕ × List ℕ)
first_value name text =
    if has_more_call_query text then option_map (λ value. (value, after_first is_ampersand text)) (named_call_query_value name (before_first is_ampersand text)) else None

-- the value of the last piece
abbrev pub last_call_query_value : List ℕ → List ℕ → Option (List ℕ)
last_call_query_value name text = if has_more_call_query text then None else named_call_query_value name text

-- the values of pieces with `&` between each two, whose names are these in this order
abbrev pub values_named : List (List ℕ) → List ℕ → Option (List (List ℕ))
values_named [] text = if bytes_eq text [] then Some [] else None
values_named (name ∷ []) text = option_map (λ value. value ∷ []) (last_call_query_value name text)
values_named (name ∷ other ∷ names) text =
    option_and_then (λ first. option_map (λ values. first.0 ∷ values) (values_named (other ∷ names) first.1)) (first_value name text)
