-- Lists whose entries are counted.
use Rattle.std.proofs.Common.{◌≡◌, ℕ, Bool, true, false, cond, List, [], ◌∷◌, length, Option, Some, None, zero, suc, ◌+◌, ◌-◌, ◌<◌, refl, sym, ap, ◌∙◌, arith}
use Rattle.std.specs.Prelude.{nat_le, option_map, option_and_then, if◌then◌else◌}
use Rattle.std.specs.Str.{is_utf8}
use Rattle.std.proofs.lemmas.Bool.Decides.{nat_tests}
use Rattle.std.proofs.lemmas.Option.{none-some, same_Some, some_pair_parts}
use Rattle.json.specs.Token.{Token, begin_array}
use Rattle.json.specs.Lex.{tokens}
use Rattle.json.specs.Json.{Json, array, Items, no_items, item, items, value, parse_map, if_last}
use Rattle.json.proofs.Grammar.{items_more, left_some, value-begin_array}
use Rattle.serde_json.specs.Data as told
use Rattle.serde_json.specs.Data.{Data}
use Rattle.serde_json.specs.Find.{as_array}
use Rattle.serde_json.specs.Read.{of_json, of_items, read}
use Rattle.slo_manifest.specs.Entry.{Entry}
use Rattle.slo_manifest.specs.Manifest.{entries, entries_of}
use Rattle.slo_manifest.specs.declared.Segment.{Segment}
use Rattle.slo_manifest.specs.declared.manifest.Form.TheVariants.{Put}
use Rattle.swift_replies.specs.Answers.{segments_of, segments_within, segments_in}
use Rattle.swift_requests.specs.Counted.{count, Passed, PassesEntry, HasMore, IsLong}

-- ---- entries passed over

pub passed_none : (start : List Token) → Passed 0 start start
passed_none start turns all end e = (turns, all, e, omega arith)

-- what is behind one more
one_less : (more : Option (Items × List Token)) (j : Json) (rest : Items) (end : List Token) → parse_map (item j) more ≡ Some (rest, end)
    → (tail : Items) × (more ≡ Some (tail, end)) × (count rest ≡ suc (count tail))
one_less None j rest end e = absurd (none-some _ e)
one_less (Some (tail, left)) j rest end e =
    let same = some_pair_parts (item j tail) rest left end e in
    (tail, ap (λ t. Some (tail, t)) same.1, sym (ap count same.0))

turned : (left : ℕ) (now : List Token) (rest : Items) (end : List Token) → items (value 126) left now ≡ Some (rest, end) → 0 < left
unfolding items
turned zero now rest end e = absurd (none-some _ e)
turned (suc left) now rest end e = omega arith

pub passed_more : (n : ℕ) (start now next : List Token) → Passed n start now → PassesEntry now next → Passed (n + 1) start next
passed_more n start now next passed entry turns all end e =
    let (left, rest, found, counted) = passed turns all end e in
    let (j, one) = left_some (value 126 now) next entry.1 in
    let (tail, more, fewer) =
    one_less (items (value 126) (left - 1) next) j rest end (sym (items_more (value 126) left now next j (turned left now rest end found) entry.0 one) ∙ found) in
    (left - 1, tail, more, omega (arith, counted, fewer))

pub passed_all : (start now : List Token) → Passed 1001 start now → HasMore start
passed_all start now passed turns all end e =
    let (left, rest, found, counted) = passed turns all end e in
    omega (arith, counted)

pub begins_long : (ts start : List Token) → ts ≡ begin_array ∷ start → HasMore start → IsLong ts
begins_long ts start e more = (start, e, more)

-- ---- what they are as data

abbrev as_many : Items → Option told.Items → Type 0
as_many js found = (ds : told.Items) → found ≡ Some ds → length (entries Put ds) ≡ count js

one_more : (js : Items) (head : Option Data) (tail : Option told.Items) (j : Json) → as_many js tail
    → as_many (item j js) (option_and_then (λ d. option_map (told.item d) tail) head)
one_more js None tail j each ds e = absurd (none-some _ e)
one_more js (Some d) None j each ds e = absurd (none-some _ e)
one_more js (Some d) (Some t) j each ds e =
    ap (λ x. length (entries Put x)) (sym (same_Some (told.item d t) ds e)) ∙ ap suc (each t refl)

each_counts : (js : Items) → as_many js (of_items js)
each_counts no_items ds e = ap (λ x. length (entries Put x)) (sym (same_Some told.no_items ds e))
each_counts (item j js) ds e = one_more js (of_json j) (of_items js) j (each_counts js) ds e

too_many : (es : List Entry) → 1000 < length es → segments_within es ≡ None
too_many es many =
    let no : nat_le (length es) 1000 ≡ false = grind (arith, nat_tests) in
    ap (λ b. if b then segments_of es else None) no

-- ---- and as segments

abbrev listed_by : Option Data → Option (List Segment)
listed_by found = option_and_then segments_within (option_map (entries Put) (option_and_then as_array found))

abbrev listed : Option (Items × List Token) → Option (List Segment)
listed found = listed_by (option_and_then of_json (option_and_then (λ p. if_last p.0 p.1) (parse_map array found)))

by_items : (js : Items) → 1000 < count js → (found : Option told.Items) → as_many js found → listed_by (option_map told.array found) ≡ None
by_items js many None each = refl
by_items js many (Some ds) each = too_many (entries Put ds) (omega (arith, many, each ds refl))

none_listed : (found : Option (Items × List Token)) → ((all : Items) (end : List Token) → found ≡ Some (all, end) → 1000 < count all) → listed found ≡ None
none_listed None more = refl
none_listed (Some (js, [])) more = by_items js (more js [] refl) (of_items js) (each_counts js)
none_listed (Some (js, (t ∷ ts))) more = refl

if_text : (b : Bool) (text : List ℕ) → listed_by (read text) ≡ None → listed_by (cond b (read text) None) ≡ None
if_text true text h = h
if_text false text h = refl

pub long_list : (text : List ℕ) → IsLong (tokens text) → segments_in Put text ≡ None
unfolding segments_in entries_of
long_list text (start, e, more) =
    if_text (is_utf8 text) text
    (ap (λ found. listed_by (option_and_then of_json (option_and_then (λ p. if_last p.0 p.1) found))) (ap (value 127) e ∙ value-begin_array 127 start (omega arith))
    ∙ none_listed (items (value 126) (length start) start) (more (length start)))
