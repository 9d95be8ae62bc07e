-- The completion that an open upload is sealed with, over a consistent account, by what its parts and its list come to.
use Rattle.std.specs.Prelude.{◌≡◌, ◌<◌, ◌≤◌, ◌+◌, ◌/◌, ◌^◌, ◌&&◌, ℕ, suc, Bool, true, false, nat_le, nat_lt, cond, List, [], ◌∷◌, map, length, Option, Some, None, bytes_eq}
use Rattle.std.proofs.Common.{refl, sym, ap, subst, ◌∙◌, arith, true≢false}
use Rattle.std.specs.Option.{option_and_then, option_map}
use Rattle.std.specs.FinMap.{get}
use Rattle.std.proofs.lemmas.Bool.{and_from, and_parts, le-leb, leb-true, lt-ltb}
use Rattle.std.proofs.lemmas.List.{length-map}
use Rattle.std.proofs.lemmas.Option.{none-some, same_Some}
use Rattle.gate_base.specs.Told.{moment_limit}
use Rattle.gate_base.specs.Maps.{Names}
use Rattle.gate_base.specs.declared.page.Pair.{Pair}
use Rattle.s3_names.specs.Bucket.{is_bucket}
use Rattle.s3_names.specs.Id.{id_digits}
use Rattle.s3_names.specs.Key.{is_key}
use Rattle.s3_machine.specs.Finish.{finished}
use Rattle.s3_machine.specs.State.{Part}
use Rattle.s3_machine.specs.Step.{S3Step}
use Rattle.s3_machine.specs.Proper.{IsPlace, IsProperList}
use Rattle.s3_machine.specs.Uploads.{chosen, etag_in, etag_listed, greatest_part, most_parts, part_item, rises, upload_etag}
use Rattle.s3_machine.specs.declared.code.Code.{Code}
use Rattle.account_calls.specs.Condition.{TellsRefusal}
use Rattle.s3_machine.specs.declared.code.Code.TheVariants.{EntityTooSmall, InvalidPart}
use Rattle.s3_machine.specs.declared.items.PartItem.{PartItem}
use Rattle.s3_machine.specs.declared.operation.Label.{Label}
use Rattle.s3_machine.specs.declared.operation.Listed.{Listed}
use Rattle.s3_machine.specs.declared.only_if.OnlyIf.{OnlyIf}
use Rattle.s3_machine.specs.declared.only_if.OnlyIf.TheVariants.{Always}
use Rattle.s3_machine.specs.Ops.{CompleteUpload}
use Rattle.s3_machine.specs.declared.operation.Reply.TheVariants.{Refused}
use Rattle.s3_machine.specs.Replies.{Completed}
use Rattle.s3_machine.specs.declared.operation.Settings.{Settings}
use Rattle.swift_calls.specs.Account.{SwiftAccount, SwiftObject, files}
use Rattle.swift_calls.specs.Bodies.{plain_bytes}
use Rattle.upload_texts.specs.Places.{is_part_count, json_or_null}
use Rattle.upload_texts.specs.Records.{has_record_text, content_fits_record_text, read_record, record_in, record_text}
use Rattle.upload_texts.specs.Sealed.{has_sealed_text}
use Rattle.upload_texts.specs.declared.record.Record.{Record}
use Rattle.upload_texts.specs.declared.record.Record.TheVariants.{Open}
use Rattle.upload_texts.specs.declared.sealed.Sealed.{Sealed}
use Rattle.upload_texts.specs.declared.sealed.SealedPart.{SealedPart}
use Rattle.upload_records.proofs.lemmas.Settled.{unsealed_of}
use Rattle.upload_records.proofs.lemmas.SideCalls.{open_unlisted}
use Rattle.s3_machine.specs.declared.limits.TheConstants.{MOST_PARTS}
use Rattle.upload_records.specs.Layout.{segments_name, uploads_name}
use Rattle.upload_records.specs.Native.{filled_parts, listed_of, part_at, part_segment, parts_of, record_at, record_of, s3_state, sealed_segments, sealed_sub_manifests, sub_manifests}
use Rattle.upload_records.specs.Consistent.{Agrees, IsConsistent, IsOpen, SealedIn}
use Rattle.account_calls.specs.Listing.{TellsOf}
use Rattle.upload_calls.specs.Records.{HasOnlyParts, TellsParts, items_above}
use Rattle.plan_uploads.specs.declared.completed.Opened.{Opened}
use Rattle.plan_uploads.specs.Completing.{Ascend, HasParts, IsOpenAs, MayComplete, by_number, completion_of, finishes, has_small_chosen_part, listed_parts}
use Rattle.plan_uploads.proofs.ByNumber.{all_listed, found_by_number, items_ascend}
use Rattle.plan_uploads.proofs.ChosenParts.{Chooses, chosen_found, chosen_missing, same_etags, same_list, same_small, sealed_have_etags}
use Rattle.plan_uploads.proofs.CompletionSteps.{condition_refused, is_completed, part_refused, small_refused}
use Rattle.plan_uploads.proofs.PartsStand.{are_sealed, parts_have_text, same_bytes}
use Rattle.plan_uploads.proofs.SealedTexts.{completion_etag}
use Rattle.plan_uploads.proofs.Steps.{only_parts}
use Rattle.slo_manifest.specs.declared.manifest.TheConstants.{MOST_SEGMENTS}

-- ---- the record

-- what reads as a record has a text
record_has : (text : List ℕ) (r : Record) → read_record text ≡ Some r → has_record_text r ≡ true
unfolding read_record
record_has text r reads = by (record_in (json_or_null text)) _ refl reads
  where
    by : (s : Record) (t : Bool) → (has_record_text s && bytes_eq (record_text s) text) ≡ t → cond t (Some s) None ≡ Some r → has_record_text r ≡ true
    by s true both same = ap has_record_text (sym (same_Some s r same)) ∙ (and_parts (has_record_text s) _ both).0
    by s false both never = absurd (none-some r never)

record_read : (file : SwiftObject) (r : Record) → record_of file ≡ Some r → has_record_text r ≡ true
record_read file r reads = by (plain_bytes file.content) reads
  where
    by : (o : Option (List ℕ)) → option_and_then read_record o ≡ Some r → has_record_text r ≡ true
    by None never = absurd (none-some r never)
    by (Some text) reads = record_has text r reads

stands_with_text : (records : Names SwiftObject) (text : List ℕ) (r : Record) → record_at records text ≡ Some r → has_record_text r ≡ true
stands_with_text records text r reads = by (get records text) reads
  where
    by : (o : Option SwiftObject) → option_and_then record_of o ≡ Some r → has_record_text r ≡ true
    by None never = absurd (none-some r never)
    by (Some file) reads = record_read file r reads

-- what a record of an open upload keeps
pub record KeepsOpen (content_type : List ℕ) (meta : List Pair) (started : ℕ) : Type 0 where
  pub content : content_fits_record_text content_type meta ≡ true
  pub dated : nat_lt started moment_limit ≡ true

keeps_open : (key content_type : List ℕ) (meta : List Pair) (started : ℕ) → has_record_text (Open key content_type meta started) ≡ true → KeepsOpen content_type meta started
unfolding has_record_text
keeps_open key content_type meta started has =
    let rest = and_parts (content_fits_record_text content_type meta) (nat_lt started moment_limit) (and_parts (is_key key) _ has).1 in
    record { content = rest.0; dated = rest.1 }

few_parts : (n : ℕ) → n ≤ most_parts → n ≤ 10000
unfolding most_parts
few_parts n few = omega (arith, few)

-- ---- what was told

-- the parts of a list, as they were found
pub listed_as : (parts : List PartItem) {slice list : List Listed} {told : Option (List SealedPart)} → slice ≡ list → (Ascend parts → told ≡ listed_parts (by_number parts) slice)
    → (value : Option (List SealedPart)) → told ≡ value → Ascend parts → listed_parts (by_number parts) list ≡ value
listed_as parts same tells value is ascend = ap (listed_parts (by_number parts)) (sym same) ∙ sym (tells ascend) ∙ is

-- and whether one is too small
pub small_as : {here settings : Settings} {slice sealed : List SealedPart} {told : Bool} → here ≡ settings → slice ≡ sealed → told ≡ has_small_chosen_part here.least_part slice → (value : Bool) → told ≡ value → has_small_chosen_part settings.least_part sealed ≡ value
small_as set same tells value is = (λ k. has_small_chosen_part (sym set k).least_part (sym same k)) ∙ sym tells ∙ is

-- ---- an upload that is open under the text of its id

module _ (tree : SwiftAccount) (bucket key : List ℕ) (opened : Opened) (parts : List PartItem) (sound : IsConsistent tree) (is : is_bucket bucket ≡ true) where
  abbrev id : List ℕ
  id = id_digits opened.id

  abbrev segments : Names SwiftObject
  segments = files tree (segments_name bucket)

  abbrev records : Names SwiftObject
  records = files tree (uploads_name bucket)

  module _ (text : List ℕ) (has : HasParts bucket key text opened parts tree) where
    abbrev all : List PartItem
    all = items_above 0 (parts_of segments text)

    found : (q : ℕ) → get (by_number parts) q ≡ option_map (λ p. part_item (q, p)) (get (parts_of segments text) q)
    found q = ap (λ items. get (by_number items) q) has.are ∙ found_by_number (part_at segments text) greatest_part q

    -- its parts ascend
    parts_ascend : Ascend parts
    parts_ascend = subst Ascend (sym has.are) (items_ascend 0 (parts_of segments text))

    module _ (settings : Settings) (list : List Listed) (label : Label) (ascends : rises list ≡ true) where
      -- a part of the list isn't there
      pub invalid_part : (only_if : OnlyIf) → (Ascend parts → listed_parts (by_number parts) list ≡ None) → S3Step settings (s3_state tree) (CompleteUpload bucket key text list only_if) label (Refused InvalidPart) (s3_state tree)
      invalid_part only_if none = part_refused tree bucket key text opened is has.opens settings list only_if label ascends (chosen_missing (parts_of segments text) parts found list (none parts_ascend))

      module _ (sealed : List SealedPart) (lists : Ascend parts → listed_parts (by_number parts) list ≡ Some sealed) where
        chose : (ps : List Part) × (chosen (parts_of segments text) list ≡ Some ps) × Chooses (parts_of segments text) list ps sealed
        chose = chosen_found (parts_of segments text) parts found list sealed (lists parts_ascend)

        -- one is too small
        pub too_small : (only_if : OnlyIf) → has_small_chosen_part settings.least_part sealed ≡ true → S3Step settings (s3_state tree) (CompleteUpload bucket key text list only_if) label (Refused EntityTooSmall) (s3_state tree)
        too_small only_if small = small_refused tree bucket key text opened is has.opens settings list only_if label ascends chose.0 chose.1 (same_small chose.2 settings.least_part ∙ small)

        -- its condition refuses it
        pub held_back : (only_if : OnlyIf) → has_small_chosen_part settings.least_part sealed ≡ false → (code : Code) → TellsRefusal bucket key only_if (s3_state tree) (Some code)
            → S3Step settings (s3_state tree) (CompleteUpload bucket key text list only_if) label (Refused code) (s3_state tree)
        held_back only_if large code told =
            condition_refused tree bucket key text opened is has.opens settings list only_if label ascends chose.0 chose.1 (same_small chose.2 settings.least_part ∙ large) code told

  module _ (has : HasParts bucket key id opened parts tree) (settings : Settings) (list : List Listed) (label : Label) (ascends : rises list ≡ true)
      (sealed : List SealedPart) (lists : Ascend parts → listed_parts (by_number parts) list ≡ Some sealed) (large : has_small_chosen_part settings.least_part sealed ≡ false) where
    abbrev s : Sealed
    s = completion_of bucket key opened sealed list label.moment

    abbrev ps : List Part
    ps = (chose id has settings list label ascends sealed lists).0

    chooses : Chooses (parts_of segments id) list ps sealed
    chooses = (chose id has settings list label ascends sealed lists).2

    -- it stands beside the bucket
    sealed_in : SealedIn tree s
    sealed_in = record {
      there = has.opens.there;
      stands = record {
        ascends = ap rises (same_list chooses) ∙ ascends;
        parts = are_sealed tree bucket id is sound has.opens.there chooses;
        etag = ap upload_etag (sym (sealed_have_etags chooses));
        agrees = subst (Agrees s) (sym has.opens.reads) (refl, refl, refl, refl);
        subs = λ number file found. absurd (none-some file (sym (open_unlisted tree bucket opened.id is has.opens.there (subst IsOpen (sym has.opens.reads) tt) sound (unsealed_of has.opens.settled) number) ∙ found));
      };
    }

    -- the machine completes it so
    same_etag : upload_etag (map etag_in ps) ≡ upload_etag (map etag_listed list)
    same_etag = ap upload_etag (same_etags chooses)

    completes_as : S3Step settings (s3_state tree) (CompleteUpload bucket key id list Always) label (Completed bucket key s.etag) (finishes s tree (s3_state tree))
    completes_as =
        let bytes = sym (same_bytes tree bucket id is sound has.opens.there chooses) in
        let lists_same = sym (same_list chooses) in
        let done = is_completed tree bucket key id opened is has.opens settings list Always label ascends ps (chose id has settings list label ascends sealed lists).1 (same_small chooses settings.least_part ∙ large) refl in
        record {
          choice = done.choice;
          free = done.free;
          replies = ap (Completed bucket key) (sym same_etag) ∙ done.replies;
          goes = (λ i. finished (record {
            bucket = bucket;
            key = key;
            id = id;
            object = record { bytes = sym bytes i; etag = sym same_etag i; content_type = opened.content_type; meta = opened.meta; modified = label.moment };
            kept = record { key = key; list = sym lists_same i; etag = sym same_etag i; started = opened.started; moment = label.moment };
          }) (s3_state tree)) ∙ done.goes;
        }

    -- it has a text
    has_text : IsPlace bucket key → IsProperList list → label.moment < moment_limit → opened.id < 2 ^ 128 → has_sealed_text s ≡ true
    unfolding has_sealed_text
    has_text place proper dated small =
        let keeps = keeps_open key opened.content_type opened.meta opened.started (stands_with_text records id _ has.opens.reads) in
        let some = proper.filled in
        let few = proper.few in
        let as_many : length list ≡ length sealed = ap length (sym (same_list chooses)) ∙ length-map sealed listed_of in
        let etags : length (map etag_listed list) ≡ length list = length-map list etag_listed in
        let within = few_parts (length list) few in
        and_from _ _ (and_from _ _ place.named place.keyed)
        (and_from _ _ (lt-ltb opened.id (2 ^ 128) small)
        (and_from _ _ keeps.content
        (and_from _ _
        (and_from _ _ (ap is_part_count (sym as_many) ∙ and_from _ _ (le-leb 1 (length list) some) (le-leb (length list) most_parts few)) (parts_have_text tree bucket id is sound has.opens.there chooses))
        (and_from _ _ (completion_etag (map etag_listed list) (omega (arith, etags, some)) (omega (arith, etags, within)))
        (and_from _ _ keeps.dated (lt-ltb label.moment moment_limit dated))))))

    pub may_complete_id : IsPlace bucket key → IsProperList list → label.moment < moment_limit → opened.id < 2 ^ 128 → MayComplete settings id list label s tree
    may_complete_id place proper dated small = record {
      has = has_text place proper dated small;
      completes = record { stands = sealed_in; step = completes_as };
    }

  -- so it is under whatever text is that of its id
  pub may_complete : (text : List ℕ) → HasParts bucket key text opened parts tree → (settings : Settings) (list : List Listed) (label : Label) → rises list ≡ true
      → (sealed : List SealedPart) → (Ascend parts → listed_parts (by_number parts) list ≡ Some sealed) → has_small_chosen_part settings.least_part sealed ≡ false
      → IsPlace bucket key → IsProperList list → label.moment < moment_limit → opened.id < 2 ^ 128 → MayComplete settings text list label (completion_of bucket key opened sealed list label.moment) tree
  may_complete text has settings list label ascends sealed lists large place proper dated small =
      subst (λ t. MayComplete settings t list label (completion_of bucket key opened sealed list label.moment) tree) (sym has.opens.is)
      (may_complete_id (subst (λ t. HasParts bucket key t opened parts tree) has.opens.is has) settings list label ascends sealed lists large place proper dated small)

-- ---- the parts that a listing of all of them tells

most_listed : greatest_part ≤ MOST_PARTS
unfolding greatest_part
most_listed = omega arith

-- an upload that was found open has them
pub has_parts : {bucket key text : List ℕ} {opened : Opened} {old new : SwiftAccount} {told : List PartItem × Bool} {parts : List PartItem} → parts ≡ told.0 → IsOpenAs bucket key text opened old
    → TellsOf (TellsParts bucket opened.id 0 MOST_PARTS) old new told → HasParts bucket key text opened parts new
has_parts {bucket = bucket} {key = key} {text = text} {opened = opened} {old = old} {told = told} are opens tells =
    let all : told.0 ≡ items_above 0 (parts_of (files old (segments_name bucket)) (id_digits opened.id)) =
    ap (λ (t : List PartItem × Bool). t.0) tells.of_account ∙ all_listed (part_at (files old (segments_name bucket)) (id_digits opened.id)) greatest_part MOST_PARTS most_listed in
    record {
      opens = subst (IsOpenAs bucket key text opened) (sym tells.same) opens;
      are = are ∙ all ∙ (λ i. items_above 0 (parts_of (files (sym tells.same i) (segments_name bucket)) (sym opens.is i)));
    }

-- over a consistent account all that stands under the id of an upload that was found open are parts
pub opened_parts : {bucket key text : List ℕ} {opened : Opened} → is_bucket bucket ≡ true → (tree : SwiftAccount) → IsOpenAs bucket key text opened tree → HasOnlyParts bucket opened.id tree
opened_parts {bucket = bucket} is tree opens = only_parts is opens.settled (record {
  there = opens.there;
  opens = subst IsOpen (sym (ap (record_at (files tree (uploads_name bucket))) (sym opens.is) ∙ opens.reads)) tt;
})

-- how many parts of a completion aren't empty
few_filled : (list : List SealedPart) → length (filled_parts list) ≤ length list
few_filled [] = omega arith
few_filled (p ∷ list) = by (nat_lt 0 p.size) (few_filled list)
  where
    by : (t : Bool) → length (filled_parts list) ≤ length list → length (cond t (p ∷ filled_parts list) (filled_parts list)) ≤ suc (length list)
    by true few = omega (arith, few)
    by false few = omega (arith, few)

more_runs : (n k : ℕ) (t u : Bool) → nat_le n MOST_SEGMENTS ≡ t → nat_le k MOST_SEGMENTS ≡ u → n ≤ k → cond t 0 ((n + 999) / MOST_SEGMENTS) ≤ cond u 0 ((k + 999) / MOST_SEGMENTS)
more_runs n k true u few most less = omega arith
more_runs n k false true few most less = absurd (let far : nat_le n MOST_SEGMENTS ≡ true = le-leb n MOST_SEGMENTS (let near = leb-true k MOST_SEGMENTS most in omega (arith, near, less)) in true≢false (sym far ∙ few))
more_runs n k false false few most less = omega (arith, less)

-- a completion of a list has no more sub-manifests than one of as many parts that aren't empty
pub few_subs : (s : Sealed) (list : List Listed) → length s.list ≡ length list → sealed_sub_manifests s ≤ sub_manifests (length list)
few_subs s list as_many =
    let counted : length (sealed_segments s) ≡ length (filled_parts s.list) = length-map (filled_parts s.list) (part_segment (segments_name s.bucket) (id_digits s.id)) in
    let filled = few_filled s.list in
    more_runs (length (sealed_segments s)) (length list) (nat_le (length (sealed_segments s)) MOST_SEGMENTS) (nat_le (length list) MOST_SEGMENTS) refl refl (omega (arith, counted, filled, as_many))
