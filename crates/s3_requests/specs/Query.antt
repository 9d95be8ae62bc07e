-- Which names the query of a request may have: those of the rows, and of its row those that the row has. Source: this profile.
use Rattle.std.specs.Prelude.{Bool, false, not, ◌&&◌, ◌||◌, ◌==◌, List, length, codes, bytes_eq}
use Rattle.std.specs.List.{list_any}
use Rattle.gate_base.specs.declared.page.Pair.{Pair}
use Rattle.request_fields.specs.Query.{asked}
use Rattle.s3_requests.specs.declared.rows.Row.{Row}
use Rattle.s3_requests.specs.declared.rows.Row.TheVariants.{ListMultipartUploads}
use Rattle.s3_requests.specs.Rows.{rows, is_query_name_of_row}

abbrev pub is_unknown : Pair → Bool
is_unknown pair = not (list_any (is_query_name_of_row pair.name) rows)

-- a name that no row has
abbrev pub has_unknown_name : List Pair → Bool
has_unknown_name query = list_any is_unknown (asked query)

-- what the extended profile has of a row beside the names of the table: of a listing of uploads an empty delimiter, and the encoding of
-- its texts
abbrev pub is_extended_pair : Row → Pair → Bool
is_extended_pair ListMultipartUploads pair =
    (bytes_eq pair.name (codes "delimiter") && length pair.value == 0) || bytes_eq pair.name (codes "encoding-type")
is_extended_pair _ pair = false

abbrev pub is_foreign : Bool → Row → Pair → Bool
is_foreign extended row pair = not (is_query_name_of_row pair.name row) && not (extended && is_extended_pair row pair)

-- a name that isn't the row's
abbrev pub has_foreign_name : Bool → Row → List Pair → Bool
has_foreign_name extended row query = list_any (is_foreign extended row) (asked query)
