-- The record of one name goes, or is put anew with its moment.
use Rattle.std.specs.Prelude.{◌≡◌, ◌≤◌, ◌+◌, ◌||◌, ◌-◌, ℕ, Bool, true, false, cond, bytes_eq, is_some, List, [], ◌∷◌, map, length, Option, None, Some, Result, Ok, Err}
use Rattle.std.specs.Option.{option_and_then, option_map}
use Rattle.std.specs.FinMap.{contains_key, get, insert, len, len-insert, len-remove, remove}
use Rattle.std.proofs.Common.{refl, sym, ap, subst, ◌∙◌, inl, arith, true≢false}
use Rattle.std.proofs.lemmas.Map.Text.{is_eq-slice_cmp}
use Rattle.std.proofs.lemmas.Slice.Eq.{bytes_eq-Decides}
use Rattle.gate_base.specs.Maps.{Names, adjust}
use Rattle.gate_base.proofs.lemmas.Maps.{by_name, name_total, some_value, at_adjust, at_insert, off_insert, at_remove, off_remove}
use Rattle.s3_names.specs.Bucket.{is_bucket}
use Rattle.s3_names.specs.Key.{is_key}
use Rattle.s3_machine.specs.ETag.{body_etag}
use Rattle.s3_machine.specs.State.{State}
use Rattle.s3_machine.specs.declared.operation.Listed.{Listed}
use Rattle.swift_calls.specs.Account.{SwiftObject, SwiftContainer, SwiftAccount, files, find_object, on_files, put_file, remove_file}
use Rattle.swift_calls.specs.Step.{Fit, IsContainerName, delete_object, put_object, swift_step}
use Rattle.swift_calls.specs.declared.calls.SwiftRequest.{SwiftRequest}
use Rattle.swift_calls.specs.Files.{PutObject}
use Rattle.swift_calls.specs.declared.calls.SwiftRequest.TheVariants.{DeleteObject}
use Rattle.upload_texts.specs.Records.{read_record}
use Rattle.upload_texts.specs.declared.record.Record.{Record}
use Rattle.upload_texts.specs.declared.record.Record.TheVariants.{Open, Done}
use Rattle.upload_records.specs.Layout.{uploads_name}
use Rattle.upload_records.specs.Native.{IsSettled, record_at, record_of, s3_state}
use Rattle.upload_records.specs.Consistent.{IsBeside, IsConsistent, IsStored, IsThere}
use Rattle.upload_records.specs.Laws.{IsQuiet, file_put}
use Rattle.upload_records.proofs.lemmas.Beside.{file_off, files_new, records_there, same_beside}
use Rattle.upload_records.proofs.lemmas.Objects.{delete_leaves, put_leaves}
use Rattle.upload_records.proofs.lemmas.Settled.{settled_same}
use Rattle.upload_records.proofs.lemmas.SideCalls.{delete_settled}
use Rattle.account_calls.specs.declared.fault.PlanFault.TheVariants.{Inconsistent}
use Rattle.account_calls.specs.Interpret.{gone_due, stored_due}
use Rattle.account_calls.proofs.lemmas.Etags.{etag_agrees}
use Rattle.account_calls.proofs.lemmas.Names.{object_name}
use Rattle.account_calls.proofs.lemmas.One.{LeavesSettled}
use Rattle.account_calls.proofs.lemmas.Quiet.{IsQuietOf, QuietEffect}
use Rattle.swift_calls.specs.History.{History, Calls, present}
use Rattle.swift_calls.specs.declared.calls.SwiftReply.{SwiftReply}
use Rattle.account_calls.specs.declared.fault.PlanFault.{PlanFault}
use Rattle.account_calls.specs.Puts.{Ensures, StandsIn}
use Rattle.account_calls.proofs.lemmas.Puts.{file_stands}
use Rattle.sweep.specs.Aging.{Ages, HasFile, HasRecord, StandsDated, TellsGone, aged, dated, is_in, is_old, most_record_text, old_among, record_beside, record_type}
use Rattle.sweep.specs.Forgetting.{forget_kept, is_undated, without_kept}
use Rattle.sweep.specs.Laws.{HasDone}
use Rattle.sweep.proofs.ForgetOne.{ForgetEffect, IsForgetOf}
use Rattle.sweep.proofs.KeptRecords.{kept_dated, kept_forgotten}
use Rattle.leftovers.specs.Gathering.{HasRecord as HasListed}
use Rattle.leftovers.proofs.lemmas.Touched.{touches_none}

-- ---- the file of a record

pub file_listed : (bucket name : List ℕ) (tree : SwiftAccount) → HasFile bucket name tree → HasListed bucket name tree
file_listed bucket name tree has = by (get (files tree (uploads_name bucket)) name) refl has.there
  where
    by : (o : Option SwiftObject) → get (files tree (uploads_name bucket)) name ≡ o → is_some o ≡ true → HasListed bucket name tree
    by None none never = cc
    by (Some file) found some = record { there = has.has.there; file = file; found = found }

-- ---- one name

pub same_name : (name id : List ℕ) → is_in id (name ∷ []) ≡ true → id ≡ name
same_name name id is = by (bytes_eq id name) refl is
  where
    by : (t : Bool) → bytes_eq id name ≡ t → (t || false) ≡ true → id ≡ name
    by true e is = (bytes_eq-Decides id name).0 e
    by false e is = cc

pub other_name : (name id : List ℕ) → is_in id (name ∷ []) ≡ false → bytes_eq id name ≡ false
other_name name id is = by (bytes_eq id name) refl is
  where
    by : (t : Bool) → bytes_eq id name ≡ t → (t || false) ≡ false → t ≡ false
    by true e is = cc
    by false e is = refl

still_some : (g : Names SwiftObject → Names SwiftObject) (o : Option SwiftContainer) → is_some (option_map (on_files g) o) ≡ is_some o
still_some g None = refl
still_some g (Some folder) = refl

-- ---- a change of the records beside a bucket

module _ (tree : SwiftAccount) (bucket : List ℕ) (is : is_bucket bucket ≡ true) (sound : IsConsistent tree) (there : IsThere tree bucket) (before : ℕ) (name : List ℕ) (g : Names SwiftObject → Names SwiftObject) where
  abbrev pub side : IsBeside (uploads_name bucket) bucket
  side = record { of_bucket = is; is = inl refl }

  abbrev changed : SwiftAccount
  changed = adjust (uploads_name bucket) (on_files g) tree

  records_new : files changed (uploads_name bucket) ≡ g (files tree (uploads_name bucket))
  records_new = files_new tree bucket (uploads_name bucket) g side (records_there tree bucket sound is there)

  pub ages_by : record_at (g (files tree (uploads_name bucket))) name ≡ aged before (record_beside tree bucket name)
      → ((id : List ℕ) → bytes_eq id name ≡ false → get (g (files tree (uploads_name bucket))) id ≡ get (files tree (uploads_name bucket)) id)
      → len (g (files tree (uploads_name bucket))) ≤ len (files tree (uploads_name bucket))
      → Ages before bucket (name ∷ []) tree changed
  ages_by became others fewer = record {
    touches = record {
      others = λ n apart. file_off tree bucket (uploads_name bucket) g side n (is_eq-slice_cmp n (uploads_name bucket) ∙ apart);
      stays = ap is_some (at_adjust by_name (uploads_name bucket) (on_files g) tree) ∙ still_some g (get tree (uploads_name bucket));
    };
    became = λ id here. subst (λ n. record_beside changed bucket n ≡ aged before (record_beside tree bucket n)) (sym (same_name name id here)) (ap (λ fs. record_at fs name) records_new ∙ became);
    others = λ id apart. ap (λ fs. get fs id) records_new ∙ others id (other_name name id apart);
    fewer = subst (λ fs. len fs ≤ len (files tree (uploads_name bucket))) (sym records_new) fewer;
  }

  pub settled_by : IsSettled tree → IsSettled changed
  settled_by settled = settled_same (same_beside tree changed bucket (uploads_name bucket) side (file_off tree bucket (uploads_name bucket) g side)) settled

fewer_by : (t : Bool) (n : ℕ) → cond t (n - 1) n ≤ n
fewer_by true n = omega arith
fewer_by false n = omega arith

removed_fewer : (fs : Names SwiftObject) (name : List ℕ) → len (remove fs name) ≤ len fs
removed_fewer fs name = subst (λ n. n ≤ len fs) (sym (len-remove name_total fs name)) (fewer_by (contains_key fs name) (len fs))

-- ---- a record that is old goes

done_by : (before : ℕ) (told : Record) → is_old before (Some told) ≡ true → (tree : SwiftAccount) (bucket name : List ℕ) → record_beside tree bucket name ≡ Some told → HasDone tree bucket name
done_by before (Open key content_type meta started) old tree bucket name is = cc
done_by before (Done key list etag started moment) old tree bucket name is = record { key = key; list = list; etag = etag; started = started; moment = moment; is = is }

abbrev pub pair_with : List ℕ → List ℕ → List ℕ × List ℕ
pair_with bucket id = (bucket, id)

abbrev pairs_if : List ℕ → List ℕ → Bool → List (List ℕ × List ℕ)
pairs_if bucket name t = map (pair_with bucket) (cond t (name ∷ []) [])

paired_by : (bucket name : List ℕ) (t : Bool) → pairs_if bucket name t ≡ cond t (pair_with bucket name ∷ []) []
paired_by bucket name true = refl
paired_by bucket name false = refl

pub olds_one : (before : ℕ) (bucket name : List ℕ) (tree : SwiftAccount) (t : Bool) → is_old before (record_beside tree bucket name) ≡ t → old_among before bucket (name ∷ []) tree ≡ cond t (pair_with bucket name ∷ []) []
olds_one before bucket name tree t e = ap (pairs_if bucket name) e ∙ paired_by bucket name t

one_forgotten : (bucket id : List ℕ) (state : State) → adjust bucket (forget_kept id) state ≡ without_kept ((bucket, id) ∷ []) state
unfolding without_kept
one_forgotten bucket id state = refl

gone_says : (o : Option SwiftObject) (folder name : List ℕ) (tree : SwiftAccount) → gone_due (delete_object o folder name tree).reply ≡ Ok tt
gone_says None folder name tree = refl
gone_says (Some file) folder name tree = refl

module _ (before : ℕ) (bucket name : List ℕ) (told : Record) (is : is_bucket bucket ≡ true) (old : is_old before (Some told) ≡ true) (tree : SwiftAccount) (sound : IsConsistent tree) (has : HasRecord bucket name told tree) where
  abbrev leaves : (swift_step (DeleteObject (uploads_name bucket) name) tree).tree ≡ remove_file (uploads_name bucket) name tree
  leaves = delete_leaves (find_object tree (uploads_name bucket) name) (uploads_name bucket) name tree refl

  is_old_here : is_old before (record_beside tree bucket name) ≡ true
  is_old_here = ap (is_old before) has.is ∙ old

  goes : Ages before bucket (name ∷ []) tree (remove_file (uploads_name bucket) name tree)
  goes = ages_by tree bucket is sound has.has.there before name (λ fs. remove fs name)
      (ap (option_and_then record_of) (at_remove by_name (files tree (uploads_name bucket)) name) ∙ sym (ap (λ t. cond t None (option_map dated (record_beside tree bucket name))) is_old_here))
      (λ id apart. off_remove by_name (files tree (uploads_name bucket)) name id (is_eq-slice_cmp id name ∙ apart))
      (removed_fewer (files tree (uploads_name bucket)) name)

  forget_effect : ForgetEffect tree (DeleteObject (uploads_name bucket) name) gone_due (old_among before bucket (name ∷ []) tree) (TellsGone before bucket name)
  forget_effect =
      let forgets = kept_forgotten tree bucket name is sound has.has.settled.none (done_by before told old tree bucket name has.is) in
      record {
        told = tt;
        says = gone_says (find_object tree (uploads_name bucket) name) (uploads_name bucket) name tree;
        sound = forgets.sound;
        state = forgets.state ∙ one_forgotten bucket name (s3_state tree) ∙ sym (ap (λ l. without_kept l (s3_state tree)) (olds_one before bucket name tree true is_old_here));
        tells = subst (λ (new : SwiftAccount). Ages before bucket (name ∷ []) tree new × IsSettled new) (sym leaves)
            (goes, settled_by tree bucket is sound has.has.there before name (λ fs. remove fs name) has.has.settled);
      }

forgets_record : (before : ℕ) (bucket name : List ℕ) (told : Record) → is_bucket bucket ≡ true → is_old before (Some told) ≡ true
    → IsForgetOf (HasRecord bucket name told) (DeleteObject (uploads_name bucket) name) gone_due (old_among before bucket (name ∷ [])) (TellsGone before bucket name)
forgets_record before bucket name told is old = record {
  effect = λ tree sound has. forget_effect before bucket name told is old tree sound has;
  settled = λ tree settled. delete_settled tree (uploads_name bucket) name settled;
}

pub deletes_old : {folder name container named : List ℕ} → container ≡ folder → named ≡ name → (before : ℕ) (bucket : List ℕ) (told : Record) → is_bucket bucket ≡ true → folder ≡ uploads_name bucket → is_old before (Some told) ≡ true
    → IsForgetOf (HasRecord bucket name told) (DeleteObject container named) gone_due (old_among before bucket (name ∷ [])) (TellsGone before bucket name)
deletes_old {name = name} foldered is before bucket told of of_folder old =
    subst {A = List ℕ × List ℕ} (λ n. IsForgetOf (HasRecord bucket name told) (DeleteObject n.0 n.1) gone_due (old_among before bucket (name ∷ [])) (TellsGone before bucket name))
    (λ i. (sym (foldered ∙ of_folder) i, sym is i)) (forgets_record before bucket name told of old)

-- ---- one that lacks its moment gets it

inserted_fewer : (fs : Names SwiftObject) (name : List ℕ) (file : SwiftObject) → is_some (get fs name) ≡ true → len (insert fs name file) ≤ len fs
inserted_fewer fs name file there = subst (λ n. n ≤ len fs) (sym (len-insert name_total fs name file ∙ ap (λ t. cond t (len fs) (len fs + 1)) there)) (omega arith)

put_says : (o : Option SwiftContainer) (folder name : List ℕ) (file : SwiftObject) (text : List ℕ) (tree : SwiftAccount) → is_some o ≡ true → file ≡ file_put record_type [] text → stored_due (body_etag text) (put_object o folder name file tree).reply ≡ Ok tt
put_says None folder name file text tree there is = cc
put_says (Some c) folder name file text tree there is =
    ap (λ (f : SwiftObject). stored_due (body_etag text) (put_object (Some c) folder name f tree).reply) is ∙ ap (λ t. cond t (Ok tt) (Err Inconsistent)) (etag_agrees text)

found_by : (o : Option SwiftObject) (told : Record) → option_and_then record_of o ≡ Some told → is_some o ≡ true
found_by None told e = cc
found_by (Some file) told e = refl

module _ (before : ℕ) (bucket name : List ℕ) (key : List ℕ) (etag : List ℕ) (started : ℕ) (list : List Listed) (text : List ℕ) (is : is_bucket bucket ≡ true)
    (reads : read_record text ≡ Some (Done key list etag started (Some started))) (short : length text ≤ most_record_text) (new : is_old before (Some (Done key list etag started None)) ≡ false)
    (tree : SwiftAccount) (sound : IsConsistent tree) (has : HasRecord bucket name (Done key list etag started None) tree) where
  abbrev file : SwiftObject
  file = file_put record_type [] text

  there_now : is_some (get (files tree (uploads_name bucket)) name) ≡ true
  there_now = found_by (get (files tree (uploads_name bucket)) name) (Done key list etag started None) has.is

  stored : IsStored name file
  stored = let f = some_value (get (files tree (uploads_name bucket)) name) there_now in record { named = (sound.stored (uploads_name bucket) name f.0 f.1).named; sized = omega (arith, short) }

  puts : (swift_step (PutObject (uploads_name bucket) name record_type [] text) tree).tree ≡ put_file (uploads_name bucket) name file tree
  puts = put_leaves (get tree (uploads_name bucket)) (uploads_name bucket) name file tree refl

  becomes : Ages before bucket (name ∷ []) tree (put_file (uploads_name bucket) name file tree)
  becomes = ages_by tree bucket is sound has.has.there before name (λ fs. insert fs name file)
      (ap (option_and_then record_of) (at_insert by_name (files tree (uploads_name bucket)) name file) ∙ reads
      ∙ sym (ap (aged before) has.is ∙ ap (λ t. cond t None (Some (Done key list etag started (Some started)))) new))
      (λ id apart. off_insert by_name (files tree (uploads_name bucket)) name file id (is_eq-slice_cmp id name ∙ apart))
      (inserted_fewer (files tree (uploads_name bucket)) name file there_now)

  tells_dated : TellsGone before bucket name tree (swift_step (PutObject (uploads_name bucket) name record_type [] text) tree).tree tt
  tells_dated =
      subst (λ (last : SwiftAccount). Ages before bucket (name ∷ []) tree last × IsSettled last) (sym puts)
      (becomes, settled_by tree bucket is sound has.has.there before name (λ fs. insert fs name file) has.has.settled)

  quiet_here : IsQuiet tree (PutObject (uploads_name bucket) name record_type [] text)
  quiet_here = kept_dated tree bucket name key list etag started record_type [] text is has.is reads stored sound has.has.settled.none

-- the PUT of its record
module _ (before : ℕ) (bucket name key etag : List ℕ) (started : ℕ) (list : List Listed) (text : List ℕ) (is : is_bucket bucket ≡ true)
    (reads : read_record text ≡ Some (Done key list etag started (Some started))) (short : length text ≤ most_record_text) (new : is_old before (Some (Done key list etag started None)) ≡ false) where
  dates_effect : (tree : SwiftAccount) → IsConsistent tree → HasRecord bucket name (Done key list etag started None) tree
      → QuietEffect tree (PutObject (uploads_name bucket) name record_type [] text) (stored_due (body_etag text)) (TellsGone before bucket name)
  dates_effect tree sound has =
      let quiet = quiet_here before bucket name key etag started list text is reads short new tree sound has in
      record {
        told = tt;
        says = put_says (get tree (uploads_name bucket)) (uploads_name bucket) name (file_put record_type [] text) text tree (records_there tree bucket sound is has.has.there) refl;
        sound = quiet.sound;
        same = quiet.state;
        tells = tells_dated before bucket name key etag started list text is reads short new tree sound has;
      }

put_settled : (bucket name text : List ℕ) → is_bucket bucket ≡ true → LeavesSettled (PutObject (uploads_name bucket) name record_type [] text)
put_settled bucket name text is tree settled =
    let beside : IsBeside (uploads_name bucket) bucket = record { of_bucket = is; is = inl refl } in
    let file : SwiftObject = file_put record_type [] text in
    subst IsSettled (sym (put_leaves (get tree (uploads_name bucket)) (uploads_name bucket) name file tree refl))
    (settled_same (same_beside tree (put_file (uploads_name bucket) name file tree) bucket (uploads_name bucket) beside (file_off tree bucket (uploads_name bucket) (λ fs. insert fs name file) beside)) settled)

dates_done : (before : ℕ) (bucket name key etag : List ℕ) (started : ℕ) (list : List Listed) (text : List ℕ) → is_bucket bucket ≡ true → read_record text ≡ Some (Done key list etag started (Some started)) → length text ≤ most_record_text
    → is_old before (Some (Done key list etag started None)) ≡ false
    → IsQuietOf (HasRecord bucket name (Done key list etag started None)) (PutObject (uploads_name bucket) name record_type [] text) (stored_due (body_etag text)) (TellsGone before bucket name)
dates_done before bucket name key etag started list text is reads short new = record {
  effect = dates_effect before bucket name key etag started list text is reads short new;
  settled = put_settled bucket name text is;
}

abbrev DatesOf : ℕ → List ℕ → List ℕ → Record → List ℕ → Type 0
DatesOf before bucket name told text = IsQuietOf (HasRecord bucket name told) (PutObject (uploads_name bucket) name record_type [] text) (stored_due (body_etag text)) (TellsGone before bucket name)

pub dates_record : (before : ℕ) (bucket name : List ℕ) (told : Record) (text : List ℕ) → is_bucket bucket ≡ true → is_undated (Some told) ≡ true → read_record text ≡ Some (dated told) → length text ≤ most_record_text
    → is_old before (Some told) ≡ false → DatesOf before bucket name told text
dates_record before bucket name (Open key content_type meta started) text is undated reads short new = absurd (true≢false (sym undated))
dates_record before bucket name (Done key list etag started (Some moment)) text is undated reads short new = absurd (true≢false (sym undated))
dates_record before bucket name (Done key list etag started None) text is undated reads short new = dates_done before bucket name key etag started list text is reads short new

-- where nothing becomes of it
pub stays_so : (before : ℕ) (bucket name : List ℕ) (tree : SwiftAccount) → record_beside tree bucket name ≡ aged before (record_beside tree bucket name) → Ages before bucket (name ∷ []) tree tree
stays_so before bucket name tree same = record {
  touches = touches_none (uploads_name bucket) tree;
  became = λ id here. subst (λ n. record_beside tree bucket n ≡ aged before (record_beside tree bucket n)) (sym (same_name name id here)) same;
  others = λ id apart. refl;
  fewer = omega arith;
}

-- a store takes the PUT
pub dated_fits : (folder name text : List ℕ) → IsContainerName folder → is_key name ≡ true → length text ≤ most_record_text → Fit (PutObject folder name record_type [] text)
dated_fits folder name text contained keyed short = (contained, object_name name keyed, refl, refl, omega (arith, short))

-- by the request that was made
pub puts_dated : {folder name text : List ℕ} {request : SwiftRequest} → request ≡ PutObject folder name record_type [] text → (told : Record) → is_undated (Some told) ≡ true → read_record text ≡ Some (dated told) → length text ≤ most_record_text
    → (before : ℕ) (bucket : List ℕ) → is_bucket bucket ≡ true → folder ≡ uploads_name bucket → is_old before (Some told) ≡ false
    → IsQuietOf (HasRecord bucket name told) request (stored_due (body_etag text)) (TellsGone before bucket name)
puts_dated {name = name} {text = text} same told undated reads short before bucket is of new =
    subst (λ r. IsQuietOf (HasRecord bucket name told) r (stored_due (body_etag text)) (TellsGone before bucket name)) (sym (same ∙ ap (λ n. PutObject n name record_type [] text) of))
    (dates_record before bucket name told text is undated reads short new)

-- over every observable store its file stands, where it was answered so
pub stands_dated : {a b : History} {request : SwiftRequest} {reply : SwiftReply} {folder name : List ℕ} {told : Record} {text : List ℕ} (etag : List ℕ)
    → request ≡ PutObject folder name record_type [] text → read_record text ≡ Some (dated told) → Calls a b request (Ok reply)
    → (result : Result (Unit {0}) PlanFault) → result ≡ stored_due etag reply → Ensures b (StandsDated folder name told) result
stands_dated {b = b} {text = text} etag same reads calls (Ok done) is = record { so = λ observable. record { text = text; reads = reads; stands = subst (StandsIn (present b)) same (file_stands etag calls (sym is) observable) } }
stands_dated etag same reads calls (Err fault) is = record { so = λ observable. tt }
