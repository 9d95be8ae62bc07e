-- What is counted of a bucket and beside it, by the names that were gathered.
use Rattle.std.specs.Prelude.{◌≡◌, ℕ, Bool, true, false, cond, not, ◌&&◌, ◌||◌, bytes_eq, is_some, List, [], ◌∷◌, map, length, Option, None, Some}
use Rattle.std.specs.List.{AllByRecursion, filter, list_any}
use Rattle.std.specs.Option.{option_and_then}
use Rattle.std.specs.FinMap.{empty, entries, get, keys, len, len-entries}
use Rattle.std.proofs.Common.{refl, sym, ap, ◌∙◌, arith}
use Rattle.std.proofs.lemmas.List.{length-map}
use Rattle.gate_base.specs.Maps.{Names}
use Rattle.gate_base.proofs.lemmas.Maps.{by_name, get_empty}
use Rattle.s3_names.specs.Bucket.{is_bucket}
use Rattle.s3_names.specs.Id.{id_digits}
use Rattle.swift_calls.specs.Account.{SwiftAccount, SwiftObject, files}
use Rattle.swift_calls.specs.Bodies.{plain_bytes}
use Rattle.upload_texts.specs.Records.{read_record}
use Rattle.upload_texts.specs.declared.record.Record.{Record}
use Rattle.upload_texts.specs.declared.record.Record.TheVariants.{Open, Done}
use Rattle.upload_texts.specs.declared.sealed.Sealed.{Sealed}
use Rattle.upload_texts.specs.declared.sealed.SealedPart.{SealedPart}
use Rattle.upload_records.specs.Layout.{segment_name, segments_name, uploads_name}
use Rattle.upload_records.specs.Native.{record_at, record_of, seal_of}
use Rattle.upload_records.specs.Consistent.{IsConsistent, IsThere}
use Rattle.account_calls.proofs.lemmas.Markers.{IsEntry, entries_are}
use Rattle.leftovers.specs.declared.gathering.Source.TheVariants.{Objects, Records}
use Rattle.sweep.specs.declared.file_counts.FileCount.{FileCount}
use Rattle.leftovers.specs.declared.used.Used.{Used}
use Rattle.leftovers.specs.Gathering.{TellsAll}
use Rattle.leftovers.specs.Leftovers.{id_in, is_listed_in, is_missing, is_open, is_orphan, is_sealed_in, is_sub_manifest_name, is_used}
use Rattle.leftovers.specs.Used.{id_if, is_sub_of, is_taken, sealed_id_in, seals_part}
use Rattle.sweep.specs.Surveying.{orphans_beside, TellsRecords, TellsTally}
use Rattle.sweep.specs.Swept.{is_done}
use Rattle.leftovers.proofs.lemmas.KeptOf.{listed_are, opened_are}

-- ---- names and entries

or_end : (t : Bool) → (t || false) ≡ t
or_end true = refl
or_end false = refl

-- as many names pass one test as entries pass another, where both agree
module _ {X : Type 0} (m : Names X) (p : List ℕ → Bool) (q : List ℕ × X → Bool) where
  by_test : (t : Bool) (e : List ℕ × X) (ns : List (List ℕ)) (es : List (List ℕ × X)) → length ns ≡ length es → length (cond t (e.0 ∷ ns) ns) ≡ length (cond t (e ∷ es) es)
  by_test true e ns es same = omega (arith, same)
  by_test false e ns es same = same

  rows : ((e : List ℕ × X) → IsEntry m e → p e.0 ≡ q e) → (es : List (List ℕ × X)) → AllByRecursion (IsEntry m) es → length (filter p (map (λ e. e.0) es)) ≡ length (filter q es)
  rows agree [] h = refl
  rows agree (e ∷ es) h =
      ap (λ t. length (cond t (e.0 ∷ filter p (map (λ e. e.0) es)) (filter p (map (λ e. e.0) es)))) (agree e h.0)
      ∙ by_test (q e) e (filter p (map (λ e. e.0) es)) (filter q es) (rows agree es h.1)

  pub as_entries : ((e : List ℕ × X) → IsEntry m e → p e.0 ≡ q e) → length (filter p (keys m)) ≡ length (filter q (entries m))
  as_entries agree = rows agree (entries m) (entries_are m)

all_pass : (p : List ℕ → Bool) → ((name : List ℕ) → p name ≡ true) → (names : List (List ℕ)) → length (filter p names) ≡ length names
all_pass p pass [] = refl
all_pass p pass (name ∷ names) = ap (λ t. length (cond t (name ∷ filter p names) (filter p names))) (pass name) ∙ (let rest = all_pass p pass names in omega (arith, rest))

pub keys_length : {X : Type 0} (m : Names X) → length (keys m) ≡ len m
keys_length m = length-map (entries m) (λ e. e.0) ∙ sym (len-entries m)

-- ---- where nothing is used

gone : (text : List ℕ) → is_some (get (let none : Names Bool = empty in none) text) ≡ false
gone text = ap is_some (get_empty by_name text)

module _ (used : Used) (listed : used.kept.listed ≡ empty) (opened : used.kept.opened ≡ empty) (sealed : used.sealed ≡ None) where
  none_taken : (name : List ℕ) → is_taken used name ≡ false
  none_taken name =
      (λ i. (is_some (get (listed i) name) || is_some (get (opened i) (id_in name))) || is_sub_of (sealed i) name)
      ∙ (λ i. (gone name i || gone (id_in name) i) || false)

  -- all files of a container are counted
  pub all_unused : (tree : SwiftAccount) (folder : List ℕ) (told : FileCount) → TellsTally (is_taken used) folder tree told → told.unused ≡ len (files tree folder)
  all_unused tree folder told tells =
      let all = all_pass (λ name. not (is_taken used name)) (λ name. ap not (none_taken name)) (keys (files tree folder)) in
      omega (arith, tells.unused, all, keys_length (files tree folder))

  -- so many orphans stand beside a bucket that is missing
  pub all_strays : (tree : SwiftAccount) (bucket : List ℕ) (told : FileCount) → is_missing tree bucket ≡ true → TellsTally (is_taken used) (segments_name bucket) tree told → told.unused ≡ orphans_beside tree bucket
  all_strays tree bucket told missing tells =
      let same = as_entries (files tree (segments_name bucket)) (λ name. not (is_taken used name)) (λ e. is_orphan tree bucket e.0)
      (λ e found. ap not (none_taken e.0) ∙ ap (λ t. t || not (is_used tree bucket e.0)) (sym missing)) in
      omega (arith, tells.unused, same)

-- ---- records

module _ (tree : SwiftAccount) (bucket : List ℕ) (is : is_bucket bucket ≡ true) (sound : IsConsistent tree) (there : IsThere tree bucket) where
  abbrev R : Names SwiftObject
  R = files tree (uploads_name bucket)

  -- each is that of an open upload or of a kept completion
  other_done : (o : Option Record) (told : Record) → o ≡ Some told → not (is_open o) ≡ is_done o
  other_done None told e = cc
  other_done (Some (Open key content_type meta started)) told e = refl
  other_done (Some (Done key list etag started moment)) told e = refl

  done_is : (e : List ℕ × SwiftObject) → IsEntry R e → not (is_open (record_of e.1)) ≡ is_done (record_of e.1)
  done_is e found =
      let kept = (sound.buckets bucket is there).of_records e.0 e.1 found in
      other_done (record_of e.1) kept.is (ap (λ c. option_and_then read_record (plain_bytes c)) kept.own ∙ kept.reads)

  module _ (opened : Names Bool) (all : TellsAll Records (uploads_name bucket) bucket tree opened) (used : Used) (listed : used.kept.listed ≡ opened) (none : used.kept.opened ≡ empty) (sealed : used.sealed ≡ None) where
    opened_taken : (name : List ℕ) → is_taken used name ≡ is_open (record_at R name)
    opened_taken name =
        (λ i. (is_some (get (listed i) name) || is_some (get (none i) (id_in name))) || is_sub_of (sealed i) name)
        ∙ (λ i. (is_some (get opened name) || gone (id_in name) i) || false)
        ∙ or_end (is_some (get opened name) || false) ∙ or_end (is_some (get opened name)) ∙ all name ∙ opened_are R name

    taken_is : (e : List ℕ × SwiftObject) → IsEntry R e → is_taken used e.0 ≡ is_open (record_of e.1)
    taken_is e found = opened_taken e.0 ∙ ap (λ o. is_open (option_and_then record_of o)) found

    pub records_told : (told : FileCount) → TellsTally (is_taken used) (uploads_name bucket) tree told → TellsRecords bucket tree (opened, told)
    records_told told tells = record {
      opened = all;
      uploads = let same = as_entries R (is_taken used) (λ e. is_open (record_of e.1)) taken_is in omega (arith, tells.used, same);
      kept = let same = as_entries R (λ name. not (is_taken used name)) (λ e. is_done (record_of e.1)) (λ e found. ap not (taken_is e found) ∙ done_is e found) in omega (arith, tells.unused, same);
    }

-- ---- orphans

turned : (l p o s : Bool) → (((l || p) || o) || s) ≡ (l || (o || (p || s)))
turned true p o s = refl
turned false true true s = refl
turned false true false s = refl
turned false false o s = refl

-- what a sealed completion names is a part that it lists or a sub-manifest of its id
sealed_by_both : (sealed : Option Sealed) (bucket name : List ℕ) → is_sealed_in sealed bucket name ≡ (seals_part sealed bucket name || is_sub_of (sealed_id_in sealed bucket) name)
sealed_by_both None bucket name = refl
sealed_by_both (Some s) bucket name = by (bytes_eq s.bucket bucket)
  where
    by : (t : Bool) → (t && (list_any (λ (p : SealedPart). bytes_eq (segment_name (id_digits s.id) p.number) name) s.list || (is_sub_manifest_name name && bytes_eq (id_in name) (id_digits s.id))))
        ≡ ((t && list_any (λ (p : SealedPart). bytes_eq (segment_name (id_digits s.id) p.number) name) s.list) || is_sub_of (id_if t s) name)
    by true = refl
    by false = refl

module _ (tree : SwiftAccount) (bucket : List ℕ) (there : IsThere tree bucket) (sealed : Option Sealed) (seals : seal_of tree ≡ sealed)
    (opened listed : Names Bool) (opens : TellsAll Records (uploads_name bucket) bucket tree opened) (lists : TellsAll Objects bucket bucket tree listed)
    (used : Used) (added : (text : List ℕ) → is_some (get used.kept.listed text) ≡ (is_some (get listed text) || seals_part sealed bucket text)) (same : used.kept.opened ≡ opened) (id : used.sealed ≡ sealed_id_in sealed bucket) where
  used_taken : (name : List ℕ) → is_taken used name ≡ is_used tree bucket name
  used_taken name =
      (λ i. (added name i || is_some (get (same i) (id_in name))) || is_sub_of (id i) name)
      ∙ (λ i. (((lists name ∙ listed_are tree bucket name) i || seals_part sealed bucket name) || (opens (id_in name) ∙ opened_are (files tree (uploads_name bucket)) (id_in name)) i) || is_sub_of (sealed_id_in sealed bucket) name)
      ∙ turned (is_listed_in (files tree bucket) (files tree (segments_name bucket)) name) (seals_part sealed bucket name) (is_open (record_at (files tree (uploads_name bucket)) (id_in name))) (is_sub_of (sealed_id_in sealed bucket) name)
      ∙ ap (λ t. is_listed_in (files tree bucket) (files tree (segments_name bucket)) name || (is_open (record_at (files tree (uploads_name bucket)) (id_in name)) || t))
      (sym (sealed_by_both sealed bucket name) ∙ ap (λ s. is_sealed_in s bucket name) (sym seals))

  pub orphans_told : (told : FileCount) → TellsTally (is_taken used) (segments_name bucket) tree told → told.unused ≡ orphans_beside tree bucket
  orphans_told told tells =
      let same = as_entries (files tree (segments_name bucket)) (λ name. not (is_taken used name)) (λ e. is_orphan tree bucket e.0)
      (λ e found. ap not (used_taken e.0) ∙ ap (λ t. not t || not (is_used tree bucket e.0)) (sym there)) in
      omega (arith, tells.unused, same)
