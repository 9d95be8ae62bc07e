-- A bucket that is there is surveyed, with what stands beside it.
use Rattle.std.specs.Prelude.{◌≡◌, ◌≤◌, ◌+◌, ◌||◌, ℕ, Bool, true, false, not, is_some, List, Option, None, Result, Ok, Err}
use Rattle.std.specs.Result.{IsErrAnd}
use Rattle.std.specs.FinMap.{empty, get}
use Rattle.std.proofs.Common.{sym, ap, subst, ◌∙◌, arith}
use Rattle.gate_base.specs.Maps.{Names}
use Rattle.s3_names.specs.Bucket.{is_bucket}
use Rattle.swift_calls.specs.Account.{SwiftAccount}
use Rattle.swift_calls.specs.History.{History, present}
use Rattle.upload_texts.specs.declared.sealed.Sealed.{Sealed}
use Rattle.upload_records.specs.Layout.{segments_name, uploads_name}
use Rattle.account_calls.specs.declared.fault.PlanFault.{PlanFault}
use Rattle.account_calls.specs.declared.fault.PlanFault.TheVariants as fault
use Rattle.account_calls.specs.Calls.{always, by_account, Any, Asks}
use Rattle.account_calls.specs.Listing.{TellsOf}
use Rattle.account_calls.proofs.lemmas.Ask.{asks_fault, asks_out_of_memory, asks_told}
use Rattle.sweep.specs.declared.counting.Surveyed.{Surveyed}
use Rattle.leftovers.specs.declared.gathering.Source.TheVariants.{Objects, Records}
use Rattle.sweep.specs.declared.file_counts.FileCount.{FileCount}
use Rattle.leftovers.specs.declared.used.Used.{Used}
use Rattle.leftovers.specs.Gathering.{InBucket, TellsAll, gather_calls}
use Rattle.leftovers.specs.Leftovers.{all_if, is_missing}
use Rattle.sweep.specs.Surveying.{bucket_calls, orphans_beside, orphans_calls, page_calls, records_calls, stray_calls, HasName, HasOpened, TellsBucketShare, TellsObjects, TellsOrphans, TellsRecords, TellsStray, TellsTally}
use Rattle.leftovers.specs.Used.{is_taken, sealed_id_in, seals_part}
use Rattle.leftovers.specs.Strays.{TellsThere}
use Rattle.leftovers.proofs.lemmas.Readings.{asks_account}
use Rattle.sweep.proofs.BucketShares.{all_strays, orphans_told, records_told}
use Rattle.sweep.proofs.Steps.{asks_wider, first_fault, reads_then_fault, reads_then_told}

-- ---- its records

module _ (bucket : List ℕ) (is : is_bucket bucket ≡ true) {folder : List ℕ} (named : folder ≡ uploads_name bucket) {a b : History} where
  pub records_ungathered : {f : PlanFault} → Asks (by_account (gather_calls (present a) folder)) a b (InBucket bucket) (TellsOf (TellsAll Records folder bucket)) (Err f)
      → (result : Result (Names Bool × FileCount) PlanFault) → IsErrAnd result (λ e. e ≡ f) → Asks (by_account (records_calls (present a) bucket)) a b (InBucket bucket) (TellsOf (TellsRecords bucket)) result
  records_ungathered first result gives = first_fault (λ tree has. has) (omega (arith, ap (gather_calls (present a)) named)) first result gives

  module _ {opened : Names Bool} (first : Asks (by_account (gather_calls (present a) folder)) a b (InBucket bucket) (TellsOf (TellsAll Records folder bucket)) (Ok opened)) (used : Used) where
    gathered : Asks (by_account (gather_calls (present a) (uploads_name bucket))) a b (InBucket bucket) (TellsOf (TellsAll Records (uploads_name bucket) bucket)) (Ok opened)
    gathered = subst (λ f. Asks (by_account (gather_calls (present a) f)) a b (InBucket bucket) (TellsOf (TellsAll Records f bucket)) (Ok opened)) named first

    counted : {c : History} (result : Result FileCount PlanFault) → Asks (by_account (page_calls (present b) folder)) b c Any (TellsOf (TellsTally (is_taken used) folder)) result
        → Asks (by_account (page_calls (present b) (uploads_name bucket))) b c Any (TellsOf (TellsTally (is_taken used) (uploads_name bucket))) result
    counted {c = c} result then = subst (λ f. Asks (by_account (page_calls (present b) f)) b c Any (TellsOf (TellsTally (is_taken used) f)) result) named then

    within : present b ≡ present a → gather_calls (present a) (uploads_name bucket) + page_calls (present b) (uploads_name bucket) ≤ records_calls (present a) bucket
    within same = omega (arith, ap (λ tree. page_calls tree (uploads_name bucket)) same)

    pub records_surveyed : {c : History} → used.kept.listed ≡ opened → used.kept.opened ≡ empty → used.sealed ≡ None → {told : FileCount}
        → Asks (by_account (page_calls (present b) folder)) b c Any (TellsOf (TellsTally (is_taken used) folder)) (Ok told)
        → Asks (by_account (records_calls (present a) bucket)) a c (InBucket bucket) (TellsOf (TellsRecords bucket)) (Ok (used.kept.listed, told))
    records_surveyed listed none sealed {told = told} then =
        reads_then_told gathered (λ tree sound has p. tt) (λ met p same. within same) (used.kept.listed, told) (counted (Ok told) then)
        (λ tree sound has p q. subst (λ t. TellsRecords bucket tree (t, told)) (sym listed) (records_told tree bucket is sound has opened p used listed none sealed told q))

    pub records_uncounted : {c : History} {f : PlanFault} → Asks (by_account (page_calls (present b) folder)) b c Any (TellsOf (TellsTally (is_taken used) folder)) (Err f)
        → (result : Result (Names Bool × FileCount) PlanFault) → IsErrAnd result (λ e. e ≡ f) → Asks (by_account (records_calls (present a) bucket)) a c (InBucket bucket) (TellsOf (TellsRecords bucket)) result
    records_uncounted {f = f} then result gives = reads_then_fault gathered (λ tree sound has p. tt) (λ met p same. within same) (counted (Err f) then) result gives

-- ---- its orphans

module _ (bucket : List ℕ) (sealed : Option Sealed) (opened : Names Bool) {a b : History} where
  pub orphans_ungathered : {f : PlanFault} → Asks (by_account (gather_calls (present a) bucket)) a b (InBucket bucket) (TellsOf (TellsAll Objects bucket bucket)) (Err f)
      → (result : Result ℕ PlanFault) → IsErrAnd result (λ e. e ≡ f) → Asks (by_account (orphans_calls (present a) bucket)) a b (HasOpened sealed bucket opened) (TellsOf (TellsOrphans bucket)) result
  orphans_ungathered first result gives = first_fault (λ tree has. has.there) (omega arith) first result gives

  module _ {listed : Names Bool} (first : Asks (by_account (gather_calls (present a) bucket)) a b (InBucket bucket) (TellsOf (TellsAll Objects bucket bucket)) (Ok listed)) where
    gathered_here : Asks (by_account (gather_calls (present a) bucket)) a b (HasOpened sealed bucket opened) (TellsOf (TellsAll Objects bucket bucket)) (Ok listed)
    gathered_here = asks_wider (λ tree has. has.there) (omega arith) first

    pub orphans_unsealed : (result : Result ℕ PlanFault) → IsErrAnd result (λ e. e ≡ fault.Memory) → Asks (by_account (orphans_calls (present a) bucket)) a b (HasOpened sealed bucket opened) (TellsOf (TellsOrphans bucket)) result
    orphans_unsealed result gives = asks_wider {n = gather_calls (present a) bucket} (λ tree has. has) (omega arith) (asks_out_of_memory (λ tree has. has) gathered_here result gives)

    module _ {folder : List ℕ} (named : folder ≡ segments_name bucket) (used : Used) where
      counted_beside : {c : History} (result : Result FileCount PlanFault) → Asks (by_account (page_calls (present b) folder)) b c Any (TellsOf (TellsTally (is_taken used) folder)) result
          → Asks (by_account (page_calls (present b) (segments_name bucket))) b c Any (TellsOf (TellsTally (is_taken used) (segments_name bucket))) result
      counted_beside {c = c} result then = subst (λ f. Asks (by_account (page_calls (present b) f)) b c Any (TellsOf (TellsTally (is_taken used) f)) result) named then

      within_beside : present b ≡ present a → gather_calls (present a) bucket + page_calls (present b) (segments_name bucket) ≤ orphans_calls (present a) bucket
      within_beside same = omega (arith, ap (λ tree. page_calls tree (segments_name bucket)) same)

      pub orphans_counted : {c : History} → ((text : List ℕ) → is_some (get used.kept.listed text) ≡ (is_some (get listed text) || seals_part sealed bucket text)) → used.kept.opened ≡ opened → used.sealed ≡ sealed_id_in sealed bucket → {told : FileCount}
          → Asks (by_account (page_calls (present b) folder)) b c Any (TellsOf (TellsTally (is_taken used) folder)) (Ok told)
          → Asks (by_account (orphans_calls (present a) bucket)) a c (HasOpened sealed bucket opened) (TellsOf (TellsOrphans bucket)) (Ok told.unused)
      orphans_counted added same id {told = told} then =
          reads_then_told gathered_here (λ tree sound has p. tt) (λ met p same. within_beside same) told.unused (counted_beside (Ok told) then)
          (λ tree sound has p q. orphans_told tree bucket has.there sealed has.seals opened listed has.opens p used added same id told q)

      pub orphans_uncounted : {c : History} {f : PlanFault} → Asks (by_account (page_calls (present b) folder)) b c Any (TellsOf (TellsTally (is_taken used) folder)) (Err f)
          → (result : Result ℕ PlanFault) → IsErrAnd result (λ e. e ≡ f) → Asks (by_account (orphans_calls (present a) bucket)) a c (HasOpened sealed bucket opened) (TellsOf (TellsOrphans bucket)) result
      orphans_uncounted {f = f} then result gives = reads_then_fault gathered_here (λ tree sound has p. tt) (λ met p same. within_beside same) (counted_beside (Err f) then) result gives

-- ---- all of it

module _ (bucket : List ℕ) (sealed : Option Sealed) {a b : History} where
  -- the objects weren't counted
  pub bucket_uncounted : {f : PlanFault} → Asks (by_account (page_calls (present a) bucket)) a b Any (TellsOf (TellsObjects bucket)) (Err f)
      → (result : Result Surveyed PlanFault) → IsErrAnd result (λ e. e ≡ f) → Asks (by_account (bucket_calls (present a) bucket)) a b (HasName sealed bucket) (TellsOf (TellsBucketShare bucket)) result
  bucket_uncounted first result gives = first_fault (λ tree has. tt) (omega arith) first result gives

  module _ {objects : ℕ} (first : Asks (by_account (page_calls (present a) bucket)) a b Any (TellsOf (TellsObjects bucket)) (Ok objects)) where
    objects_here : Asks (by_account (page_calls (present a) bucket)) a b (HasName sealed bucket) (TellsOf (TellsObjects bucket)) (Ok objects)
    objects_here = asks_wider (λ tree has. tt) (omega arith) first

    within_records : {most : ℕ} → page_calls (present a) bucket + records_calls (present a) bucket ≤ most → present b ≡ present a → page_calls (present a) bucket + records_calls (present b) bucket ≤ most
    within_records near same = omega (arith, near, ap (λ tree. records_calls tree bucket) same)

    -- nor the records
    pub bucket_unrecorded : {c : History} {f : PlanFault} → Asks (by_account (records_calls (present b) bucket)) b c (InBucket bucket) (TellsOf (TellsRecords bucket)) (Err f)
        → (result : Result Surveyed PlanFault) → IsErrAnd result (λ e. e ≡ f) → Asks (by_account (bucket_calls (present a) bucket)) a c (HasName sealed bucket) (TellsOf (TellsBucketShare bucket)) result
    bucket_unrecorded then result gives = reads_then_fault objects_here (λ tree sound has p. has.there) (λ met p same. within_records (omega arith) same) then result gives

    module _ {c : History} {told : Names Bool × FileCount} (then : Asks (by_account (records_calls (present b) bucket)) b c (InBucket bucket) (TellsOf (TellsRecords bucket)) (Ok told)) where
      -- both were counted
      record Both (tree : SwiftAccount) (done : Unit {0}) : Type 0 where
        count : TellsObjects bucket tree objects
        records : TellsRecords bucket tree told

      both : Asks (by_account (page_calls (present a) bucket + records_calls (present a) bucket)) a c (HasName sealed bucket) (TellsOf Both) (Ok tt)
      both = reads_then_told objects_here (λ tree sound has p. has.there) (λ met p same. within_records (omega arith) same) tt then (λ tree sound has p q. record { count = p; records = q })

      opened_here : (tree : SwiftAccount) → HasName sealed bucket tree → Both tree tt → HasOpened sealed bucket told.0 tree
      opened_here tree has p = record { there = has.there; seals = has.seals; opens = p.records.opened }

      within_all : present c ≡ present a → page_calls (present a) bucket + records_calls (present a) bucket + orphans_calls (present c) bucket ≤ bucket_calls (present a) bucket
      within_all same = omega (arith, ap (λ tree. orphans_calls tree bucket) same)

      pub bucket_surveyed : {d : History} {orphans : ℕ} → Asks (by_account (orphans_calls (present c) bucket)) c d (HasOpened sealed bucket told.0) (TellsOf (TellsOrphans bucket)) (Ok orphans)
          → Asks (by_account (bucket_calls (present a) bucket)) a d (HasName sealed bucket) (TellsOf (TellsBucketShare bucket)) (Ok (record { buckets = 1; objects = objects; uploads = told.1.used; kept = told.1.unused; orphans = orphans; sealed = false }))
      bucket_surveyed {orphans = orphans} last =
          reads_then_told both (λ tree sound has p. opened_here tree has p) (λ met p same. within_all same) (record { buckets = 1; objects = objects; uploads = told.1.used; kept = told.1.unused; orphans = orphans; sealed = false }) last
          (λ tree sound has p q. (λ i. record { buckets = 1; objects = p.count i; uploads = p.records.uploads i; kept = p.records.kept i; orphans = q i; sealed = false }))

      -- the orphans weren't
      pub bucket_unorphaned : {d : History} {f : PlanFault} → Asks (by_account (orphans_calls (present c) bucket)) c d (HasOpened sealed bucket told.0) (TellsOf (TellsOrphans bucket)) (Err f)
          → (result : Result Surveyed PlanFault) → IsErrAnd result (λ e. e ≡ f) → Asks (by_account (bucket_calls (present a) bucket)) a d (HasName sealed bucket) (TellsOf (TellsBucketShare bucket)) result
      bucket_unorphaned last result gives = reads_then_fault both (λ tree sound has p. opened_here tree has p) (λ met p same. within_all same) last result gives

-- ---- beside a bucket that may be missing

module _ (bucket : List ℕ) {a b : History} where
  pub stray_unknown : {f : PlanFault} → Asks (always 1) a b Any (TellsOf (TellsThere bucket)) (Err f) → (result : Result ℕ PlanFault) → IsErrAnd result (λ e. e ≡ f)
      → Asks (by_account (stray_calls (present a) bucket)) a b Any (TellsOf (TellsStray bucket)) result
  stray_unknown asks result gives = asks_account (λ met. omega arith) (asks_fault (λ tree has. has) asks result gives)

  module _ {there : Bool} (first : Asks (always 1) a b Any (TellsOf (TellsThere bucket)) (Ok there)) where
    -- it is there
    pub stray_none : there ≡ true → Asks (by_account (stray_calls (present a) bucket)) a b Any (TellsOf (TellsStray bucket)) (Ok 0)
    stray_none is = asks_account (λ met. omega arith)
        (asks_told {given' = Any} {Q = TellsStray bucket} (λ tree has. has) 0 (λ tree sound has told. sym (ap (λ t. all_if (not t) (orphans_beside tree bucket)) (sym told ∙ is))) first)

    headed : Asks (by_account 1) a b Any (TellsOf (TellsThere bucket)) (Ok there)
    headed = asks_account (λ met. omega arith) first

    module _ {folder : List ℕ} (named : folder ≡ segments_name bucket) (used : Used) (isnt : there ≡ false) where
      counted_stray : {c : History} (result : Result FileCount PlanFault) → Asks (by_account (page_calls (present b) folder)) b c Any (TellsOf (TellsTally (is_taken used) folder)) result
          → Asks (by_account (page_calls (present b) (segments_name bucket))) b c Any (TellsOf (TellsTally (is_taken used) (segments_name bucket))) result
      counted_stray {c = c} result then = subst (λ f. Asks (by_account (page_calls (present b) f)) b c Any (TellsOf (TellsTally (is_taken used) f)) result) named then

      within_stray : present b ≡ present a → 1 + page_calls (present b) (segments_name bucket) ≤ stray_calls (present a) bucket
      within_stray same = omega (arith, ap (λ tree. page_calls tree (segments_name bucket)) same)

      pub stray_counted : {c : History} → used.kept.listed ≡ empty → used.kept.opened ≡ empty → used.sealed ≡ None → {told : FileCount}
          → Asks (by_account (page_calls (present b) folder)) b c Any (TellsOf (TellsTally (is_taken used) folder)) (Ok told)
          → Asks (by_account (stray_calls (present a) bucket)) a c Any (TellsOf (TellsStray bucket)) (Ok told.unused)
      stray_counted listed opened sealed {told = told} then =
          reads_then_told headed (λ tree sound has p. tt) (λ met p same. within_stray same) told.unused (counted_stray (Ok told) then)
          (λ tree sound has p q.
          let missing : is_missing tree bucket ≡ true = ap not (sym p ∙ isnt) in
          all_strays used listed opened sealed tree bucket told missing q ∙ ap (λ t. all_if t (orphans_beside tree bucket)) (sym missing))

      pub stray_uncounted : {c : History} {f : PlanFault} → Asks (by_account (page_calls (present b) folder)) b c Any (TellsOf (TellsTally (is_taken used) folder)) (Err f)
          → (result : Result ℕ PlanFault) → IsErrAnd result (λ e. e ≡ f) → Asks (by_account (stray_calls (present a) bucket)) a c Any (TellsOf (TellsStray bucket)) result
      stray_uncounted {f = f} then result gives = reads_then_fault headed (λ tree sound has p. tt) (λ met p same. within_stray same) (counted_stray (Err f) then) result gives
