-- What conditions say of an object, by its ETag and the moment of its last change. Source: RFC 9110, section 13.2.2.
use Rattle.std.specs.Prelude.{ℕ, Bool, true, false, not, nat_le, nat_lt, List, bytes_eq, Option, Some, None}
use Rattle.std.specs.List.{list_any}
use Rattle.s3_machine.specs.declared.reading.Conditions.{Conditions}
use Rattle.s3_machine.specs.declared.reading.ETags.{ETags}
use Rattle.s3_machine.specs.declared.reading.ETags.TheVariants.{Absent, Any, Listed}

-- one of these is the ETag
abbrev pub is_among : List (List ℕ) → List ℕ → Bool
is_among etags etag = list_any (λ listed. bytes_eq listed etag) etags

-- the moment is after the one that is given
abbrev pub is_after : ℕ → Option ℕ → Bool
is_after moment None = false
is_after moment (Some since) = nat_lt since moment

-- the moment is the one that is given, or before it
abbrev pub is_not_after : ℕ → Option ℕ → Bool
is_not_after moment None = false
is_not_after moment (Some since) = nat_le moment since

-- whether a condition fails: If-Match, and without it If-Unmodified-Since
abbrev pub fails_by : ETags → Option ℕ → List ℕ → ℕ → Bool
fails_by Absent unmodified etag modified = is_after modified unmodified
fails_by Any unmodified etag modified = false
fails_by (Listed etags) unmodified etag modified = not (is_among etags etag)

-- whether the client has the object as it is: by If-None-Match, and without it by If-Modified-Since
abbrev pub is_known_by : ETags → Option ℕ → List ℕ → ℕ → Bool
is_known_by Absent since etag modified = is_not_after modified since
is_known_by Any since etag modified = true
is_known_by (Listed etags) since etag modified = is_among etags etag

abbrev pub fails : Conditions → List ℕ → ℕ → Bool
fails conditions etag modified = fails_by conditions.matched conditions.unmodified etag modified

abbrev pub is_known : Conditions → List ℕ → ℕ → Bool
is_known conditions etag modified = is_known_by conditions.unmatched conditions.modified etag modified

-- nothing is asked
abbrev pub no_conditions : Conditions
no_conditions = record { matched = Absent; unmatched = Absent; modified = None; unmodified = None }
