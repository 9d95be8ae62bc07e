-- The records beside a bucket are gone through: those of old completions go, and those of the others get their moment. Calls that
-- forget completions in this way, one after the other. Source: this profile.
use Rattle.std.specs.Prelude.{◌≡◌, ◌≤◌, ◌+◌, ◌*◌, ℕ, nat_lt, Bool, true, false, cond, bytes_eq, codes, is_none, is_some, IsTrue, List, [], ◌∷◌, map, flat_map, length, take, drop, sum_by, Option, None, Some, Result, Ok, Err}
use Rattle.std.specs.Option.{option_map, unwrap_or}
use Rattle.std.specs.List.{AllByRecursion, filter, list_any}
use Rattle.std.specs.FinMap.{get, keys, len}
use Rattle.s3_names.specs.Bucket.{is_bucket}
use Rattle.swift_calls.specs.Account.{SwiftAccount, files}
use Rattle.swift_calls.specs.History.{History, present}
use Rattle.swift_calls.specs.Files.{PutObject}
use Rattle.upload_texts.specs.Records.{read_record}
use Rattle.upload_texts.specs.declared.record.Record.{Record}
use Rattle.upload_texts.specs.declared.record.Record.TheVariants.{Open, Done}
use Rattle.upload_records.specs.Layout.{uploads_name}
use Rattle.upload_records.specs.Native.{record_at, s3_state, IsSettled}
use Rattle.upload_records.specs.Consistent.{IsConsistent}
use Rattle.list_pages.specs.declared.page.TheConstants.{MOST_NAMES}
use Rattle.account_calls.specs.declared.fault.PlanFault.{PlanFault}
use Rattle.account_calls.specs.declared.fault.PlanFault.TheVariants as fault
use Rattle.account_calls.specs.Answers.{pages}
use Rattle.account_calls.specs.Calls.{GoesOn, Met}
use Rattle.account_calls.specs.Fault.{CausesFault}
use Rattle.account_calls.specs.Purging.{Touches}
use Rattle.account_calls.specs.Puts.{StandsIn}
use Rattle.account_calls.specs.Stutters.{LastFailed}
use Rattle.sweep.specs.declared.forget.Fate.{Fate}
use Rattle.sweep.specs.declared.forget.Fate.TheVariants.{Left, Forgotten, Migrated}
use Rattle.sweep.specs.declared.forget.Aged.{Aged}
use Rattle.sweep.specs.Forgetting.{AreDated, is_undated_since, without_kept}
use Rattle.leftovers.specs.Gathering.{names_after}
use Rattle.leftovers.specs.Segments.{HasSettled}
use Rattle.leftovers.specs.Sides.{is_uploads_of}
use Rattle.sweep.specs.Swept.{TellsSwept, files_in}
use Rattle.sweep.specs.declared.account.Swept.{Swept}

-- a container's name is that of the records beside this bucket
abbrev pub IsRecordsOf : List ℕ → List ℕ → Type 0
IsRecordsOf folder bucket = (is_bucket bucket ≡ true) × (folder ≡ uploads_name bucket)

-- ---- one record

-- it is that of a completion, whose moment is before this one; where that isn't known, the start of its upload stands for it
abbrev pub is_old : ℕ → Option Record → Bool
is_old before None = false
is_old before (Some (Open key content_type meta started)) = false
is_old before (Some (Done key list etag started moment)) = nat_lt (unwrap_or moment started) before

-- the record with the moment of its completion
abbrev pub dated : Record → Record
dated (Open key content_type meta started) = Open key content_type meta started
dated (Done key list etag started moment) = Done key list etag started (Some (unwrap_or moment started))

-- what becomes of a record: an old one goes, and any other has its moment
abbrev pub aged : ℕ → Option Record → Option Record
aged before told = cond (is_old before told) None (option_map dated told)

-- what is done with it for that
abbrev pub done_fate : ℕ → ℕ → Option ℕ → Fate
done_fate before started moment = cond (nat_lt (unwrap_or moment started) before) Forgotten (cond (is_none moment) Migrated Left)

abbrev pub fate : ℕ → Record → Fate
fate before (Open key content_type meta started) = Left
fate before (Done key list etag started moment) = done_fate before started moment

-- the record of a name beside a bucket
abbrev pub record_beside : SwiftAccount → List ℕ → List ℕ → Option Record
record_beside tree bucket id = record_at (files tree (uploads_name bucket)) id

-- a bucket is there on a settled account, beside which the record of a name is this one
pub record HasRecord (bucket id : List ℕ) (told : Record) (tree : SwiftAccount) : Type 0 where
  pub has : HasSettled bucket tree
  pub is : record_beside tree bucket id ≡ Some told

-- its file is there
pub record HasFile (bucket id : List ℕ) (tree : SwiftAccount) : Type 0 where
  pub has : HasSettled bucket tree
  pub there : is_some (get (files tree (uploads_name bucket)) id) ≡ true

-- or those of these names are
pub record HasFiles (bucket : List ℕ) (ids : List (List ℕ)) (tree : SwiftAccount) : Type 0 where
  pub has : HasSettled bucket tree
  pub there : AllByRecursion (λ id. is_some (get (files tree (uploads_name bucket)) id) ≡ true) ids

-- what the file of a record is put with, and the most bytes that its text has
abbrev pub record_type : List ℕ
record_type = codes "application/json"

abbrev pub most_record_text : ℕ
most_record_text = 2040000

-- the record of a name stands with its moment, in a file of this container
pub record StandsDated (folder name : List ℕ) (told : Record) (tree : SwiftAccount) : Type 0 where
  pub text : List ℕ
  pub reads : read_record text ≡ Some (dated told)
  pub stands : StandsIn tree (PutObject folder name record_type [] text)

-- ---- some records beside a bucket

abbrev pub is_in : List ℕ → List (List ℕ) → Bool
is_in name names = list_any (bytes_eq name) names

-- no name comes twice
abbrev pub AreDistinct : List (List ℕ) → Type 0
AreDistinct [] = Unit {0}
AreDistinct (name ∷ names) = (is_in name names ≡ false) × AreDistinct names

-- those of these names that are old, each with the name of the bucket, in the order of the names
abbrev pub old_among : ℕ → List ℕ → List (List ℕ) → SwiftAccount → List (List ℕ × List ℕ)
old_among before bucket ids tree = map (λ id. (bucket, id)) (filter (λ id. is_old before (record_beside tree bucket id)) ids)

-- how many of them get their moment
abbrev pub undated_among : ℕ → List ℕ → List (List ℕ) → SwiftAccount → ℕ
undated_among before bucket ids tree = length (filter (λ id. is_undated_since before (record_beside tree bucket id)) ids)

-- of the records beside a bucket those of these names became what is to become of them, and the others stayed. No container but theirs
-- changed, and it has no more files
pub record Ages (before : ℕ) (bucket : List ℕ) (ids : List (List ℕ)) (old new : SwiftAccount) : Type 0 where
  pub touches : Touches (uploads_name bucket) old new
  pub became : (id : List ℕ) → is_in id ids ≡ true → record_beside new bucket id ≡ aged before (record_beside old bucket id)
  pub others : (id : List ℕ) → is_in id ids ≡ false → get (files new (uploads_name bucket)) id ≡ get (files old (uploads_name bucket)) id
  pub fewer : len (files new (uploads_name bucket)) ≤ len (files old (uploads_name bucket))

-- and what was done with them is counted
pub record TellsAged (before : ℕ) (bucket : List ℕ) (ids : List (List ℕ)) (old new : SwiftAccount) (told : Aged) : Type 0 where
  pub ages : Ages before bucket ids old new
  pub settled : IsSettled new
  pub forgotten : told.forgotten ≡ length (old_among before bucket ids old)
  pub migrated : told.migrated ≡ undated_among before bucket ids old

-- the record of one name became what is to become of it
abbrev pub TellsGone : ℕ → List ℕ → List ℕ → SwiftAccount → SwiftAccount → Unit {0} → Type 0
TellsGone before bucket id old new done = Ages before bucket (id ∷ []) old new × IsSettled new

-- ---- page by page

-- the names of a page after a marker
abbrev pub page_of : List ℕ → List ℕ → SwiftAccount → List (List ℕ)
page_of bucket marker tree = take MOST_NAMES (names_after (uploads_name bucket) marker tree)

-- what is behind a page: the names that it doesn't have, which stayed
pub record TurnsTo (bucket marker next : List ℕ) (old new : SwiftAccount) : Type 0 where
  pub rest : names_after (uploads_name bucket) next old ≡ drop MOST_NAMES (names_after (uploads_name bucket) marker old)
  pub whole : MOST_NAMES ≤ length (names_after (uploads_name bucket) marker old)
  pub stays : names_after (uploads_name bucket) next new ≡ names_after (uploads_name bucket) next old

abbrev pub TurnsBy : List ℕ → List ℕ → SwiftAccount → SwiftAccount → Option (List ℕ) → Type 0
TurnsBy bucket marker old new None = page_of bucket marker old ≡ names_after (uploads_name bucket) marker old
TurnsBy bucket marker old new (Some next) = TurnsTo bucket marker next old new

pub record TellsAgedPage (before : ℕ) (bucket marker : List ℕ) (old new : SwiftAccount) (told : Aged × Option (List ℕ)) : Type 0 where
  pub aged : TellsAged before bucket (page_of bucket marker old) old new told.0
  pub turns : TurnsBy bucket marker old new told.1

-- ---- all records beside a bucket

abbrev pub ids_beside : List ℕ → SwiftAccount → List (List ℕ)
ids_beside bucket tree = keys (files tree (uploads_name bucket))

abbrev pub old_beside : ℕ → List ℕ → SwiftAccount → List (List ℕ × List ℕ)
old_beside before bucket tree = old_among before bucket (ids_beside bucket tree) tree

abbrev pub undated_beside : ℕ → List ℕ → SwiftAccount → ℕ
undated_beside before bucket tree = undated_among before bucket (ids_beside bucket tree) tree

abbrev pub TellsBeside : ℕ → List ℕ → SwiftAccount → SwiftAccount → Aged → Type 0
TellsBeside before bucket old new told = TellsAged before bucket (ids_beside bucket old) old new told

-- ---- those beside the buckets of these names

abbrev pub old_of : ℕ → List (List ℕ) → SwiftAccount → List (List ℕ × List ℕ)
old_of before names tree = flat_map (λ bucket. old_beside before bucket tree) (filter is_bucket names)

abbrev pub undated_of : ℕ → List (List ℕ) → SwiftAccount → ℕ
undated_of before names tree = sum_by (λ bucket. undated_beside before bucket tree) (filter is_bucket names)

-- a container is that of the records beside one of these
abbrev pub is_beside_one : List (List ℕ) → List ℕ → Bool
is_beside_one names name = list_any (λ bucket. is_uploads_of bucket name) names

-- beside each of these buckets each record became what is to become of it; no other container changed, none went, and none has more
-- files than before
pub record AgesAll (before : ℕ) (names : List (List ℕ)) (old new : SwiftAccount) : Type 0 where
  pub stays : (name : List ℕ) → is_some (get new name) ≡ is_some (get old name)
  pub others : (name : List ℕ) → is_beside_one names name ≡ false → get new name ≡ get old name
  pub became : (bucket id : List ℕ) → is_bucket bucket ≡ true → is_in bucket names ≡ true → record_beside new bucket id ≡ aged before (record_beside old bucket id)
  pub fewer : (name : List ℕ) → len (files new name) ≤ len (files old name)

pub record TellsAllAged (before : ℕ) (names : List (List ℕ)) (old new : SwiftAccount) (told : Aged) : Type 0 where
  pub ages : AgesAll before names old new
  pub settled : IsSettled new
  pub forgotten : told.forgotten ≡ length (old_of before names old)
  pub migrated : told.migrated ≡ undated_of before names old

-- ---- calls that forget

-- at each number of calls the first of these completions are forgotten, and nothing else of the state changed. How many, never falls
pub record ForgetsFirst (olds : List (List ℕ × List ℕ)) (h : History) (p q : ℕ) : Type 0 where
  pub ordered : p ≤ q
  pub gone : ℕ → ℕ
  pub most : (k : ℕ) → p ≤ k → k ≤ q → gone k ≤ length olds
  pub rises : (j k : ℕ) → p ≤ j → j ≤ k → k ≤ q → gone j ≤ gone k
  pub is : (k : ℕ) → p ≤ k → k ≤ q → s3_state (h.account_at k) ≡ without_kept (take (gone k) olds) (s3_state (h.account_at p))
  pub sound : (k : ℕ) → p ≤ k → k ≤ q → IsConsistent (h.account_at k)

-- and all of them are, where the calls were answered
abbrev pub ForgetsOf : {T : Type 0} → List (List ℕ × List ℕ) → History → ℕ → ℕ → (SwiftAccount → SwiftAccount → T → Type 0) → Result T PlanFault → Type 0
ForgetsOf olds h p q P (Ok told) = ForgetsFirst olds h p q × (s3_state (h.account_at q) ≡ without_kept olds (s3_state (h.account_at p)))
    × (h.faults_at q ≡ h.faults_at p) × P (h.account_at p) (h.account_at q) told
ForgetsOf olds h p q P (Err fault.Failed) = ForgetsFirst olds h p q × LastFailed h p q
ForgetsOf olds h p q P (Err fault.Memory) = ForgetsFirst olds h p q × (h.faults_at q ≡ h.faults_at p)
ForgetsOf olds h p q P (Err fault.Inconsistent) = ⊥

-- calls that forget the completions that this names on the account that they begin on, where this is given of it
pub record Forgetting {T : Type 0} (old new : History) (given : SwiftAccount → Type 0) (olds : SwiftAccount → List (List ℕ × List ℕ))
    (P : SwiftAccount → SwiftAccount → T → Type 0) (result : Result T PlanFault) : Type 0 where
  pub on : GoesOn old new
  pub cause : CausesFault old.faults new.faults result
  pub effect : Met given old → ForgetsOf (olds (present old)) new old.called new.called P result
  pub settled : IsTrue old.observable → IsSettled (present old) → IsSettled (present new)

-- ---- how many calls

-- a page for each 1000 records, and for each GET of it and one call more
abbrev pub aging_calls : ℕ → ℕ
aging_calls records = pages records + 2 * records

abbrev pub forget_calls : List ℕ → SwiftAccount → ℕ
forget_calls bucket tree = aging_calls (len (files tree (uploads_name bucket)))

-- those that are still to be made behind a marker
abbrev pub forget_after : List ℕ → List ℕ → SwiftAccount → ℕ
forget_after bucket marker tree = aging_calls (length (names_after (uploads_name bucket) marker tree))

abbrev pub forget_left : List ℕ → SwiftAccount → Option (List ℕ) → ℕ
forget_left bucket tree None = 0
forget_left bucket tree (Some marker) = forget_after bucket marker tree

abbrev pub left_to_forget : List ℕ → SwiftAccount → Result (Aged × Option (List ℕ)) PlanFault → ℕ
left_to_forget bucket tree (Ok told) = forget_left bucket tree told.1
left_to_forget bucket tree (Err f) = 0

-- a page is paid for: the calls that were made, and those that are still to be made, are no more than were to be made before
abbrev pub PaysForgetting : List ℕ → List ℕ → History → History → Result (Aged × Option (List ℕ)) PlanFault → Type 0
PaysForgetting bucket marker old new result = Met (HasSettled bucket) old
    → new.called + left_to_forget bucket (present old) result ≤ old.called + forget_after bucket marker (present old)

-- the records beside a bucket are paid for
abbrev pub MakesForgetCalls : List ℕ → History → History → Type 0
MakesForgetCalls bucket old new = Met (HasSettled bucket) old → new.called ≤ old.called + forget_calls bucket (present old)

-- those beside the buckets of these names
abbrev pub names_forget_calls : List (List ℕ) → SwiftAccount → ℕ
names_forget_calls names tree = sum_by (λ bucket. forget_calls bucket tree) (filter is_bucket names)

-- ---- and then what is left over is removed

-- the containers of these names are all that the account had: what was left over is removed and counted, and each record beside a bucket
-- that is there has its moment
pub record TellsSweptBefore (before : ℕ) (names : List (List ℕ)) (old new : SwiftAccount) (swept : Swept) : Type 0 where
  pub sweeps : TellsSwept old new swept
  pub dated : AreDated new
  pub forgotten : swept.forgotten ≡ length (old_of before names old)
  pub migrated : swept.migrated ≡ undated_of before names old

abbrev pub before_calls : List (List ℕ) → SwiftAccount → ℕ
before_calls names tree = names_forget_calls names tree + 5 * len tree + 12 * files_in tree
