-- The names of a query, and the values that they have. Source: this profile.
use Rattle.std.specs.Prelude.{ℕ, Bool, not, nat_lt, List, [], codes, count_by, filter, find, bytes_eq}
use Rattle.std.specs.List.{list_any}
use Rattle.std.specs.Option.{option_map_or}
use Rattle.gate_base.specs.declared.page.Pair.{Pair}

-- all names of a query count but `x-id`, by which clients name the operation a second time
abbrev pub counts_as_query_name : Pair → Bool
counts_as_query_name pair = not (bytes_eq pair.name (codes "x-id"))

abbrev pub asked : List Pair → List Pair
asked query = filter counts_as_query_name query

-- a name counts in a query
abbrev pub is_asked : List Pair → List ℕ → Bool
is_asked query name = list_any (λ pair. bytes_eq pair.name name) (asked query)

-- how often a query has a name
abbrev pub occurrences : List ℕ → List Pair → ℕ
occurrences name query = count_by (λ pair. bytes_eq pair.name name) (asked query)

abbrev pub is_given_twice : List Pair → Pair → Bool
is_given_twice query pair = nat_lt 1 (occurrences pair.name query)

-- a name that is given twice
abbrev pub has_name_twice : List Pair → Bool
has_name_twice query = list_any (is_given_twice query) (asked query)

abbrev pub value_of : Pair → List ℕ
value_of pair = pair.value

-- the value of a name, nothing where the query doesn't have the name
abbrev pub text_at : List ℕ → List Pair → List ℕ
text_at name query = option_map_or value_of (find (λ pair. bytes_eq pair.name name) query) []
