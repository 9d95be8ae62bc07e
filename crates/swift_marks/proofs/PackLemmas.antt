-- Metadata, its text and its pieces.
use Rattle.std.proofs.Common.{◌≡◌, ℕ, zero, suc, ◌+◌, ◌-◌, ◌<◌, ◌≤◌, Bool, true, false, cond, not, List, [], ◌∷◌, ◌++◌, length, map, take, drop, refl, ap, sym, ◌∙◌, arith, append_assoc, append-nil, length-drop}
use Rattle.std.specs.Prelude.{◌&&◌, slice_get}
use Rattle.std.specs.List.{position_or_len, after_first}
use Rattle.std.proofs.lemmas.Bool.{and_from}
use Rattle.gate_base.specs.declared.page.Pair.{Pair}
use Rattle.s3_names.specs.Meta.{is_before, names_ascend, has_name, with_pair}
use Rattle.s3_names.proofs.lemmas.MetaLemmas.{with_pair_push}
use Rattle.swift_marks.specs.Tag.{is_dot}
use Rattle.swift_marks.specs.Pack.{cut_in, bracketed, pieces_of, first_entry, other_entries, entries_in, entries_of, name_size, value_size, entry_body, is_past, is_behind}

-- more turns than bytes change nothing
cut_turns : (m n : ℕ) (text : List ℕ) → length text ≤ m → length text ≤ n → cut_in m text ≡ cut_in n text
unfolding cut_in
cut_turns zero zero text h k = refl
cut_turns zero (suc n) [] h k = refl
cut_turns zero (suc n) (byte ∷ text) h k = absurd (omega arith)
cut_turns (suc m) zero [] h k = refl
cut_turns (suc m) zero (byte ∷ text) h k = absurd (omega arith)
cut_turns (suc m) (suc n) [] h k = refl
cut_turns (suc m) (suc n) (byte ∷ text) h k =
    ap (λ pieces. take 254 (byte ∷ text) ∷ pieces) (cut_turns m n (drop 254 (byte ∷ text)) (omega (arith, length-drop 254 (byte ∷ text))) (omega (arith, length-drop 254 (byte ∷ text))))

-- the first piece and the others
pub pieces_from : (text : List ℕ) → 0 < length text → pieces_of text ≡ bracketed (take 254 text) ∷ pieces_of (drop 254 text)
unfolding cut_in
pieces_from [] full = absurd (omega arith)
pieces_from (byte ∷ text) full =
    ap (λ pieces. bracketed (take 254 (byte ∷ text)) ∷ map bracketed pieces) (cut_turns (length text) (length (drop 254 (byte ∷ text))) (drop 254 (byte ∷ text)) (omega (arith, length-drop 254 (byte ∷ text))) (omega arith))

pub pieces_more : (text rest piece behind : List ℕ) (done more : List (List ℕ)) → pieces_of text ≡ done ++ pieces_of rest → 0 < length rest → piece ≡ bracketed (take 254 rest) → behind ≡ drop 254 rest → more ≡ done ++ piece ∷ [] → pieces_of text ≡ more ++ pieces_of behind
pieces_more text rest piece behind done more h full made left grown =
    rw (grown, left, made, append_assoc done (bracketed (take 254 rest) ∷ []) (pieces_of (drop 254 rest))) (h ∙ ap (λ pieces. done ++ pieces) (pieces_from rest full))

pub pieces_all : (text rest : List ℕ) (done : List (List ℕ)) → pieces_of text ≡ done ++ pieces_of rest → length rest ≡ 0 → done ≡ pieces_of text
unfolding cut_in
pieces_all text [] done h none = sym (h ∙ append-nil done)
pieces_all text (byte ∷ rest) done h none = absurd (omega arith)

pub behind_is_shorter : (text : List ℕ) → 0 < length text → length (drop 254 text) < length text
behind_is_shorter text full = omega (arith, length-drop 254 text)

-- what stands behind an entry is shorter
pub others_are_shorter : (text : List ℕ) → 0 < length text → length (other_entries text) < length text
unfolding other_entries
others_are_shorter text full =
    let sized = length-drop (position_or_len is_dot text + 1) text in
    let body = length-drop (position_or_len is_dot (after_first is_dot text) + 1) (after_first is_dot text) in
    let more = length-drop (name_size text) (entry_body text) in
    let behind = length-drop (value_size text) (drop (name_size text) (entry_body text)) in
    omega arith

entry_turns : (m n : ℕ) (text : List ℕ) → length text ≤ m → length text ≤ n → entries_in m text ≡ entries_in n text
unfolding entries_in
entry_turns zero zero text h k = refl
entry_turns zero (suc n) [] h k = refl
entry_turns zero (suc n) (byte ∷ text) h k = absurd (omega arith)
entry_turns (suc m) zero [] h k = refl
entry_turns (suc m) zero (byte ∷ text) h k = absurd (omega arith)
entry_turns (suc m) (suc n) [] h k = refl
entry_turns (suc m) (suc n) (byte ∷ text) h k =
    let less = others_are_shorter (byte ∷ text) (omega arith) in
    ap (λ entries. first_entry (byte ∷ text) ∷ entries) (entry_turns m n (other_entries (byte ∷ text)) (omega arith) (omega arith))

-- the first entry and the others
pub entries_from : (text : List ℕ) → 0 < length text → entries_of text ≡ first_entry text ∷ entries_of (other_entries text)
unfolding entries_of entries_in
entries_from [] full = absurd (omega arith)
entries_from (byte ∷ text) full =
    let less = others_are_shorter (byte ∷ text) (omega arith) in
    ap (λ entries. first_entry (byte ∷ text) ∷ entries) (entry_turns (length text) (length (other_entries (byte ∷ text))) (other_entries (byte ∷ text)) (omega arith) (omega arith))

entries_none : (text : List ℕ) → length text ≡ 0 → entries_of text ≡ []
unfolding entries_of entries_in
entries_none [] h = refl
entries_none (byte ∷ text) h = absurd (omega arith)

-- the last of more than one entry
last_is : (name : List ℕ) (q r : Pair) (rs : List Pair) → is_behind name (q ∷ r ∷ rs) ≡ is_behind name (r ∷ rs)
last_is name q r rs =
    let at : length (q ∷ r ∷ rs) - 1 ≡ suc (length (r ∷ rs) - 1) = omega arith in
    ap (λ i. is_past name (slice_get (q ∷ r ∷ rs) i)) at

-- names ascend where they do on both sides of a seam, and across it
pub ascend_at : (done : List Pair) (p : Pair) (more : List Pair) → names_ascend (done ++ p ∷ more) ≡ (names_ascend done && is_behind p.name done && names_ascend (p ∷ more))
unfolding names_ascend
ascend_at [] p more = refl
ascend_at (q ∷ []) p more = refl
ascend_at (q ∷ r ∷ rs) p more =
    ap (λ b. is_before r.name q && b) (ascend_at (r ∷ rs) p more)
    ∙ regroup (is_before r.name q) (names_ascend (r ∷ rs)) (is_behind p.name (r ∷ rs)) (names_ascend (p ∷ more))
    ∙ ap (λ b. (is_before r.name q && names_ascend (r ∷ rs)) && b && names_ascend (p ∷ more)) (sym (last_is p.name q r rs))
  where
    regroup : (a b c d : Bool) → (a && (b && c && d)) ≡ ((a && b) && c && d)
    regroup true b c d = refl
    regroup false b c d = refl

-- these entries of the text were read, in order, and this is left
pub record HasRead (text : List ℕ) (done : List Pair) (rest : List ℕ) : Type 0 where
  pub entries : entries_of text ≡ done ++ entries_of rest
  pub ascend : names_ascend done ≡ true

pub read_nothing : (text : List ℕ) → HasRead text [] text
unfolding names_ascend
read_nothing text = record { entries = refl; ascend = refl }

next_entry : (text : List ℕ) (done : List Pair) (rest name value behind : List ℕ) → HasRead text done rest → 0 < length rest → name ≡ (first_entry rest).name → value ≡ (first_entry rest).value → behind ≡ other_entries rest → entries_of text ≡ done ++ record { name = name; value = value } ∷ entries_of behind
next_entry text done rest name value behind h full named valued left =
    rw (named, valued, left) (h.entries ∙ ap (λ entries. done ++ entries) (entries_from rest full))

pub read_more : (text : List ℕ) (done : List Pair) (rest name value behind : List ℕ) (added : Bool) (more : List Pair) → HasRead text done rest → 0 < length rest → name ≡ (first_entry rest).name → value ≡ (first_entry rest).value → behind ≡ other_entries rest → is_behind name done ≡ true → added ≡ not (has_name name done) → more ≡ cond added (with_pair name value done) done → HasRead text more behind
unfolding names_ascend
read_more text done rest name value behind added more h full named valued left past told grown =
    let entry : Pair = record { name = name; value = value } in
    let ascends : names_ascend (done ++ entry ∷ []) ≡ true = ascend_at done entry [] ∙ and_from _ _ (and_from _ _ h.ascend past) refl in
    let put = with_pair_push done entry ascends in
    let is_new : added ≡ true = told ∙ ap not put.0 in
    let pushed : more ≡ done ++ entry ∷ [] = grown ∙ ap (λ b. cond b (with_pair name value done) done) is_new ∙ put.1 in
    rw pushed (record {
      entries = next_entry text done rest name value behind h full named valued left ∙ sym (append_assoc done (entry ∷ []) (entries_of behind));
      ascend = ascends;
    })

pub read_bad : (text : List ℕ) (done : List Pair) (rest name value behind : List ℕ) → HasRead text done rest → 0 < length rest → name ≡ (first_entry rest).name → value ≡ (first_entry rest).value → behind ≡ other_entries rest → is_behind name done ≡ false → names_ascend (entries_of text) ≡ false
read_bad text done rest name value behind h full named valued left past =
    let entry : Pair = record { name = name; value = value } in
    ap names_ascend (next_entry text done rest name value behind h full named valued left)
    ∙ ascend_at done entry (entries_of behind)
    ∙ ap (λ b. names_ascend done && b && names_ascend (entry ∷ entries_of behind)) past
    ∙ neither (names_ascend done) (names_ascend (entry ∷ entries_of behind))
  where
    neither : (a b : Bool) → (a && false && b) ≡ false
    neither true b = refl
    neither false b = refl

pub read_all : (text : List ℕ) (done : List Pair) (rest : List ℕ) → HasRead text done rest → length rest ≡ 0 → (done ≡ entries_of text) × (names_ascend (entries_of text) ≡ true)
read_all text done rest h none =
    let all : entries_of text ≡ done = h.entries ∙ ap (λ entries. done ++ entries) (entries_none rest none) ∙ append-nil done in
    (sym all, ap names_ascend all ∙ h.ascend)

pub filled_where : (n : ℕ) → (n ≡ 0 → ⊥) → 0 < n
filled_where n h = omega arith
