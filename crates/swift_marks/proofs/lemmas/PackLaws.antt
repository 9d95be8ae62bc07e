-- Metadata and its pack.
use Rattle.std.proofs.Common.{◌≡◌, ℕ, zero, suc, ◌-◌, ◌<◌, ◌≤◌, ◌^◌, true, cond, not, List, [], ◌∷◌, ◌++◌, length, map, take, drop, refl, ap, sym, ◌∙◌, arith, append_assoc, length-drop, length-take, length-append, take-append-drop, take_at, drop_at}
use Rattle.std.specs.Prelude.{◌&&◌, flat_map, decimal, nat_lt, Some, None}
use Rattle.std.specs.Cmp.Lexicographic.{pointwise}
use Rattle.std.specs.List.{list_all, before_first, after_first}
use Rattle.std.specs.Str.{bytes_eq}
use Rattle.std.proofs.lemmas.Bool.{and_parts, and_from}
use Rattle.std.proofs.lemmas.Bool.Decides.{nat_tests}
use Rattle.std.proofs.lemmas.Slice.Eq.{bytes_eq-Decides, slice_eq-Decides}
use Rattle.gate_base.specs.declared.page.Pair.{Pair}
use Rattle.s3_names.specs.Meta.{names_ascend}
use Rattle.gate_base.specs.Ascii.{is_digit}
use Rattle.swift_marks.specs.Number.{number_of}
use Rattle.swift_marks.specs.Tag.{is_dot}
use Rattle.swift_marks.specs.Pack.{entry_text, cut_in, bracketed, pieces_of, pack_of, inside, first_entry, other_entries, entries_in, entries_of, name_size, value_size, entry_body, is_short, has_pack, packed_entries, unpacked}
use Rattle.swift_marks.proofs.Cuts.{before_first_at, after_first_at}
use Rattle.text_forms.proofs.lemmas.Decimals.{decimal_digits}
use Rattle.swift_marks.proofs.NumberLemmas.{number_of_decimal, number_is_below}
use Rattle.swift_marks.proofs.PackLemmas.{entries_from}
use Rattle.swift_marks.proofs.lemmas.TagLaws.{kept, weaken}

inside_is : (piece : List ℕ) → inside (bracketed piece) ≡ piece
inside_is piece =
    let at : length ((91 ∷ piece) ++ 93 ∷ []) - 1 ≡ length (91 ∷ piece) = omega (arith, length-append (91 ∷ piece) (93 ∷ [])) in
    ap (λ n. drop 1 (take n ((91 ∷ piece) ++ 93 ∷ []))) at ∙ ap (drop 1) (take_at (91 ∷ piece) (93 ∷ []) (length (91 ∷ piece)) refl)

-- the pieces of a text hold the text
insides_in : (turns : ℕ) (text : List ℕ) → length text ≤ turns → flat_map inside (map bracketed (cut_in turns text)) ≡ text
unfolding cut_in
insides_in zero [] h = refl
insides_in zero (byte ∷ text) h = absurd (omega arith)
insides_in (suc turns) [] h = refl
insides_in (suc turns) (byte ∷ text) h =
    let rest = drop 254 (byte ∷ text) in
    let more = insides_in turns rest (omega (arith, length-drop 254 (byte ∷ text))) in
    rw (inside_is (take 254 (byte ∷ text)), more) (take-append-drop 254 (byte ∷ text))

insides_of : (text : List ℕ) → flat_map inside (pieces_of text) ≡ text
insides_of text = insides_in (length text) text (omega arith)

digit_is_no_dot : (byte : ℕ) → is_digit byte ≡ true → not (is_dot byte) ≡ true
digit_is_no_dot byte h = grind (arith, nat_tests)

undotted : (n : ℕ) → n < 10 ^ 19 → list_all (λ byte. not (is_dot byte)) (decimal n) ≡ true
undotted n small = weaken is_digit (λ byte. not (is_dot byte)) digit_is_no_dot (decimal n) (decimal_digits n (omega arith))

regroup : (n v name value rest : List ℕ) → (((((n ++ 46 ∷ []) ++ v) ++ 46 ∷ []) ++ name) ++ value) ++ rest ≡ n ++ 46 ∷ (v ++ 46 ∷ (name ++ (value ++ rest)))
regroup n v name value rest = simp append_assoc

-- an entry's text before a rest reads as the entry and the rest
pub record ReadsFirst (entry : Pair) (text rest : List ℕ) : Type 0 where
  pub first : first_entry text ≡ entry
  pub others : other_entries text ≡ rest

reads_first : (entry : Pair) (rest : List ℕ) → is_short entry ≡ true → ReadsFirst entry (entry_text entry ++ rest) rest
unfolding first_entry other_entries
reads_first entry rest h =
    let both = and_parts (nat_lt (length entry.name) (10 ^ 19)) (nat_lt (length entry.value) (10 ^ 19)) h in
    let name_short : length entry.name < 10 ^ 19 = grind (arith, nat_tests, both.0) in
    let value_short : length entry.value < 10 ^ 19 = grind (arith, nat_tests, both.1) in
    let n = decimal (length entry.name) in
    let v = decimal (length entry.value) in
    let body = entry.name ++ (entry.value ++ rest) in
    let text = entry_text entry ++ rest in
    let grouped : text ≡ n ++ 46 ∷ (v ++ 46 ∷ body) = regroup n v entry.name entry.value rest in
    let behind : after_first is_dot text ≡ v ++ 46 ∷ body = ap (after_first is_dot) grouped ∙ after_first_at is_dot n 46 (v ++ 46 ∷ body) refl (undotted (length entry.name) name_short) in
    let is_body : entry_body text ≡ body = ap (after_first is_dot) behind ∙ after_first_at is_dot v 46 body refl (undotted (length entry.value) value_short) in
    let is_name_size : name_size text ≡ length entry.name =
    ap (λ t. number_of (before_first is_dot t)) grouped ∙ ap number_of (before_first_at is_dot n 46 (v ++ 46 ∷ body) refl (undotted (length entry.name) name_short)) ∙ number_of_decimal (length entry.name) name_short in
    let is_value_size : value_size text ≡ length entry.value =
    ap (λ t. number_of (before_first is_dot t)) behind ∙ ap number_of (before_first_at is_dot v 46 body refl (undotted (length entry.value) value_short)) ∙ number_of_decimal (length entry.value) value_short in
    let is_name : take (name_size text) (entry_body text) ≡ entry.name =
    ap (λ k. take k (entry_body text)) is_name_size ∙ ap (take (length entry.name)) is_body ∙ take_at entry.name (entry.value ++ rest) (length entry.name) refl in
    let is_more : drop (name_size text) (entry_body text) ≡ entry.value ++ rest =
    ap (λ k. drop k (entry_body text)) is_name_size ∙ ap (drop (length entry.name)) is_body ∙ drop_at entry.name (entry.value ++ rest) (length entry.name) refl in
    let is_value : take (value_size text) (drop (name_size text) (entry_body text)) ≡ entry.value =
    ap (λ k. take k (drop (name_size text) (entry_body text))) is_value_size ∙ ap (take (length entry.value)) is_more ∙ take_at entry.value rest (length entry.value) refl in
    let is_rest : drop (value_size text) (drop (name_size text) (entry_body text)) ≡ rest =
    ap (λ k. drop k (drop (name_size text) (entry_body text))) is_value_size ∙ ap (drop (length entry.value)) is_more ∙ drop_at entry.value rest (length entry.value) refl in
    record { first = λ i. record { name = is_name i; value = is_value i }; others = is_rest }

text_is_full : (entry : Pair) (rest : List ℕ) → 0 < length (entry_text entry ++ rest)
text_is_full entry rest =
    let n = decimal (length entry.name) in
    let v = decimal (length entry.value) in
    omega (arith, ap length (regroup n v entry.name entry.value rest), length-append n (46 ∷ (v ++ 46 ∷ (entry.name ++ (entry.value ++ rest)))))

entries_read : (entries : List Pair) → list_all is_short entries ≡ true → entries_of (flat_map entry_text entries) ≡ entries
unfolding entries_of entries_in
entries_read [] h = refl
entries_read (entry ∷ entries) h =
    let parts = and_parts (is_short entry) (list_all is_short entries) h in
    let rest = flat_map entry_text entries in
    let reads = reads_first entry rest parts.0 in
    entries_from (entry_text entry ++ rest) (text_is_full entry rest)
    ∙ ap (λ first. first ∷ entries_of (other_entries (entry_text entry ++ rest))) reads.first
    ∙ ap (λ text. entry ∷ entries_of text) reads.others
    ∙ ap (λ others. entry ∷ others) (entries_read entries parts.1)

same_pieces : (xs ys : List (List ℕ)) → pointwise bytes_eq xs ys ≡ true → xs ≡ ys
same_pieces xs ys h = (slice_eq-Decides bytes_eq-Decides xs ys (pointwise bytes_eq xs ys) refl).0 h

pieces_same : (xs : List (List ℕ)) → pointwise bytes_eq xs xs ≡ true
pieces_same xs = (slice_eq-Decides bytes_eq-Decides xs xs (pointwise bytes_eq xs xs) refl).1 refl

packed_read : (entries : List Pair) → list_all is_short entries ≡ true → packed_entries (pack_of entries) ≡ entries
unfolding pack_of
packed_read entries h = ap entries_of (insides_of (flat_map entry_text entries)) ∙ entries_read entries h

pub pack_unpacks : (entries : List Pair) → has_pack entries ≡ true → unpacked (pack_of entries) ≡ Some entries
unfolding unpacked
pack_unpacks entries h =
    let parts = and_parts (names_ascend entries) (list_all is_short entries) h in
    ap (λ found. cond (names_ascend found && pointwise bytes_eq (pack_of entries) (pack_of found)) (Some found) None) (packed_read entries parts.1)
    ∙ ap (λ b. cond b (Some entries) None) (and_from _ _ parts.0 (pieces_same (pack_of entries)))

first_is_short : (text : List ℕ) → is_short (first_entry text) ≡ true
unfolding first_entry
first_is_short text =
    let body = entry_body text in
    let more = drop (name_size text) body in
    let name : length (take (name_size text) body) < 10 ^ 19 = omega (arith, length-take (name_size text) body, number_is_below (before_first is_dot text)) in
    let value : length (take (value_size text) more) < 10 ^ 19 = omega (arith, length-take (value_size text) more, number_is_below (before_first is_dot (after_first is_dot text))) in
    let name_test : nat_lt (length (take (name_size text) body)) (10 ^ 19) ≡ true = grind (arith, nat_tests) in
    let value_test : nat_lt (length (take (value_size text) more)) (10 ^ 19) ≡ true = grind (arith, nat_tests) in
    and_from _ _ name_test value_test

entries_are_short : (turns : ℕ) (text : List ℕ) → list_all is_short (entries_in turns text) ≡ true
unfolding entries_in
entries_are_short zero text = refl
entries_are_short (suc turns) [] = refl
entries_are_short (suc turns) (byte ∷ text) = and_from _ _ (first_is_short (byte ∷ text)) (entries_are_short turns (other_entries (byte ∷ text)))

packed_are_short : (text : List ℕ) → list_all is_short (entries_of text) ≡ true
unfolding entries_of
packed_are_short text = entries_are_short (length text) text

pub metadata_has_one_pack : (pieces : List (List ℕ)) (entries : List Pair) → unpacked pieces ≡ Some entries → (has_pack entries ≡ true) × (pieces ≡ pack_of entries)
unfolding unpacked
metadata_has_one_pack pieces entries h =
    let packed = packed_entries pieces in
    let found = kept (names_ascend packed && pointwise bytes_eq pieces (pack_of packed)) packed entries h in
    let both = and_parts (names_ascend packed) (pointwise bytes_eq pieces (pack_of packed)) found.0 in (
      ap has_pack (sym found.1) ∙ and_from _ _ both.0 (packed_are_short (flat_map inside pieces)),
      same_pieces pieces (pack_of packed) both.1 ∙ ap pack_of found.1,
    )
