-- The names of a consistent account's containers may be markers.
use Rattle.std.proofs.Common.{◌≡◌, ℕ, ◌<◌, ◌≤◌, ◌==◌, ◌||◌, not, Bool, true, false, cond, T, List, [], ◌∷◌, ◌++◌, map, length, codes, Some, refl, sym, ap, subst, ◌∙◌, inl, inr, arith}
use Rattle.std.specs.declared.cmp.Ordering.TheVariants.{Less}
use Rattle.std.specs.Ordering.{is_eq, is_lt, ordering_reverse}
use Rattle.std.specs.Cmp.{tied_itself}
use Rattle.std.specs.List.{list_all, AllByRecursion}
use Rattle.std.specs.Option.{option_map}
use Rattle.std.specs.FinMap.{entries, entries_sorted, find, get, get-entries, keys, is_sorted}
use Rattle.std.specs.FinMap.Entries.{below_all}
use Rattle.std.proofs.lemmas.Bool.Decides.{nat_tests}
use Rattle.std.proofs.lemmas.List.{length-append}
use Rattle.std.proofs.lemmas.List.Elements.{All-contains, All-weaker}
use Rattle.std.proofs.lemmas.List.Sums.{AllPass-from_list_all}
use Rattle.std.proofs.lemmas.Str.{IsUtf8-from_ascii}
use Rattle.std.proofs.lemmas.Str.Ascii.{IsAscii-from_all}
use Rattle.gate_base.specs.Maps.{Names, name_cmp}
use Rattle.gate_base.proofs.lemmas.Maps.{name_total}
use Rattle.s3_names.specs.Bucket.{is_bucket, is_bucket_byte}
use Rattle.s3_names.proofs.lemmas.BucketLemmas.{bucket_length, bucket_bytes}
use Rattle.swift_calls.specs.Account.{SwiftContainer, SwiftAccount}
use Rattle.swift_calls.specs.Limits.{IsMarker}
use Rattle.upload_records.specs.Consistent.{IsConsistent, IsFolderName, head_of}
use Rattle.upload_records.specs.Layout.{uploads_name, segments_name, gateway_name}
use Rattle.account_calls.proofs.lemmas.Ascending.{front, back, lt_is}

-- ---- what is found under the name of an entry

module _ {X : Type 0} where
  abbrev pub IsFoundIn : List (List ℕ × X) → List ℕ × X → Type 0
  IsFoundIn es e = find name_cmp e.0 es ≡ Some e.1

  -- an entry behind one that is below it is found behind it
  behind : (e x : List ℕ × X) (es : List (List ℕ × X)) → name_cmp e.0 x.0 ≡ Less → IsFoundIn es x → IsFoundIn (e ∷ es) x
  behind e x es less found =
      ap (λ r. cond (is_eq r) (Some e.1) (find name_cmp x.0 es)) (name_total.antisymm x.0 e.0 ∙ ap ordering_reverse less) ∙ found

  all_behind : (e : List ℕ × X) (es xs : List (List ℕ × X)) → T (below_all name_cmp e.0 xs) → AllByRecursion (IsFoundIn es) xs → AllByRecursion (IsFoundIn (e ∷ es)) xs
  all_behind e es [] below found = tt
  all_behind e es (x ∷ xs) below found = (
    behind e x es (lt_is (name_cmp e.0 x.0) (front (is_lt (name_cmp e.0 x.0)) (below_all name_cmp e.0 xs) below)) found.0,
    all_behind e es xs (back (is_lt (name_cmp e.0 x.0)) (below_all name_cmp e.0 xs) below) found.1,
  )

  all_found : (es : List (List ℕ × X)) → T (is_sorted name_cmp es) → AllByRecursion (IsFoundIn es) es
  all_found [] sorted = tt
  all_found (e ∷ es) sorted = (
    ap (λ r. cond (is_eq r) (Some e.1) (find name_cmp e.0 es)) (tied_itself name_total e.0),
    all_behind e es es (front (below_all name_cmp e.0 es) (is_sorted name_cmp es) sorted)
        (all_found es (back (below_all name_cmp e.0 es) (is_sorted name_cmp es) sorted)),
  )

  abbrev pub IsEntry : Names X → List ℕ × X → Type 0
  IsEntry m e = get m e.0 ≡ Some e.1

  each : {P Q : List ℕ × X → Type 0} → ((e : List ℕ × X) → P e → Q e) → (es : List (List ℕ × X)) → AllByRecursion P es → AllByRecursion Q es
  each f [] h = tt
  each f (e ∷ es) h = (f e h.0, each f es h.1)

  pub entries_are : (m : Names X) → AllByRecursion (IsEntry m) (entries m)
  entries_are m = each (λ e found. get-entries m e.0 ∙ found) (entries m) (all_found (entries m) (entries_sorted m))

-- a name under which there is a container
abbrev pub IsKey : SwiftAccount → List ℕ → Type 0
IsKey tree name = (folder : SwiftContainer) × (get tree name ≡ Some folder)

names_of : (tree : SwiftAccount) (es : List (List ℕ × SwiftContainer)) → AllByRecursion (IsEntry tree) es → AllByRecursion (IsKey tree) (map (λ e. e.0) es)
names_of tree [] h = tt
names_of tree (e ∷ es) h = ((e.1, h.0), names_of tree es h.1)

pub keys_are : (tree : SwiftAccount) → AllByRecursion (IsKey tree) (keys tree)
keys_are tree = names_of tree (entries tree) (entries_are tree)

-- ---- and that name may be a marker

-- a byte of the name of a container
abbrev is_byte : ℕ → Bool
is_byte b = is_bucket_byte b || b == 43

byte_small : (b : ℕ) → is_byte b ≡ true → b < 128
byte_small b e = grind (arith, nat_tests)

byte_filled : (b : ℕ) → is_byte b ≡ true → not (b == 0) ≡ true
byte_filled b e = grind (arith, nat_tests)

pub text_is_marker : (text : List ℕ) → list_all is_byte text ≡ true → length text ≤ 1028 → IsMarker text
text_is_marker text bytes near = record {
  within = near;
  utf8 = IsUtf8-from_ascii text (IsAscii-from_all text (All-weaker (λ b. is_byte b ≡ true) (λ b. b < 128) byte_small text (AllPass-from_list_all is_byte text bytes)));
  no_zero = λ has.
      let zero_is : false ≡ true = All-contains (λ b. not (b == 0) ≡ true) text 0
      (All-weaker (λ b. is_byte b ≡ true) (λ b. not (b == 0) ≡ true) byte_filled text (AllPass-from_list_all is_byte text bytes)) has in
      cc;
}

or_left : (a b : Bool) → a ≡ true → (a || b) ≡ true
or_left a b e = ap (λ t. t || b) e

of_bucket : (xs : List ℕ) → list_all is_bucket_byte xs ≡ true → list_all is_byte xs ≡ true
of_bucket [] e = refl
of_bucket (x ∷ xs) e = grind (arith, nat_tests, of_bucket xs)

with_more : (xs ys : List ℕ) → list_all is_byte xs ≡ true → list_all is_byte ys ≡ true → list_all is_byte (xs ++ ys) ≡ true
with_more [] ys e f = f
with_more (x ∷ xs) ys e f = grind (arith, nat_tests, with_more xs ys)

beside_is_marker : (bucket more : List ℕ) → is_bucket bucket ≡ true → list_all is_byte more ≡ true → length more ≤ 100 → IsMarker (bucket ++ more)
beside_is_marker bucket more is bytes near =
    let long = bucket_length bucket is in
    text_is_marker (bucket ++ more) (with_more bucket more (of_bucket bucket (bucket_bytes bucket is)) bytes) (omega (arith, length-append bucket more))

pub folder_is_marker : (name : List ℕ) → IsFolderName name → IsMarker name
unfolding uploads_name segments_name gateway_name
folder_is_marker name (inl is) = let long = bucket_length name is in text_is_marker name (of_bucket name (bucket_bytes name is)) (omega arith)
folder_is_marker name (inr (inl (bucket, beside))) = elim beside.is [
  | inl e ↦ subst IsMarker (sym e) (beside_is_marker bucket (codes "+uploads") beside.of_bucket refl (omega arith))
  | inr e ↦ subst IsMarker (sym e) (beside_is_marker bucket (codes "+segments") beside.of_bucket refl (omega arith))
]
folder_is_marker name (inr (inr e)) = subst IsMarker (sym e) (text_is_marker (codes "+gateway") refl (omega arith))

pub entry_is_marker : (tree : SwiftAccount) → IsConsistent tree → (name : List ℕ) → IsKey tree name → IsMarker name
entry_is_marker tree sound name key = folder_is_marker name (sound.folders.names name (head_of key.0) (ap (option_map head_of) key.1))
