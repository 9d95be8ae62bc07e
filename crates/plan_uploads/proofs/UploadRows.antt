-- The rows of the open uploads, one added after another.
use Rattle.std.proofs.Common.{◌≡◌, ℕ, ◌+◌, ◌<◌, ◌≤◌, IsTrue, Bool, true, false, cond, ◌&&◌, nat_lt, List, [], ◌∷◌, ◌++◌, length, take, get_or, is_some, Option, Some, None, Result, Ok, Err, refl, sym, ap, subst, ◌∙◌, arith}
use Rattle.std.specs.Result.{IsErrAnd}
use Rattle.std.specs.List.{cons_option, filter_map}
use Rattle.std.specs.Option.{option_and_then, option_or}
use Rattle.std.specs.Ordering.{eq_by_cmp}
use Rattle.std.specs.FinMap.{empty, find, from_entries, from_entries_push, get, get-empty, get-from_entries, insert}
use Rattle.std.proofs.lemmas.Bool.{and_parts}
use Rattle.std.proofs.lemmas.Bool.Decides.{nat_tests}
use Rattle.std.proofs.lemmas.List.{append-nil, take_all, take_more}
use Rattle.std.proofs.lemmas.List.Elements.{filter_map-append}
use Rattle.gate_base.specs.Maps.{name_cmp, Names}
use Rattle.gate_base.specs.Told.{moment_limit}
use Rattle.gate_base.specs.declared.page.Pair.{Pair}
use Rattle.gate_base.proofs.lemmas.Maps.{by_name, insert_is, name_antisymmetric, name_total, same_at_and_off}
use Rattle.s3_names.specs.Id.{id_digits}
use Rattle.s3_names.specs.Key.{is_key}
use Rattle.s3_machine.specs.Shown.{IsShownUpload}
use Rattle.s3_machine.specs.declared.items.UploadItem.{UploadItem}
use Rattle.swift_calls.specs.Account.{SwiftObject, SwiftAccount, files}
use Rattle.swift_calls.specs.Bodies.{plain_bytes}
use Rattle.swift_calls.specs.History.{History, present}
use Rattle.swift_calls.specs.declared.account.Content.{Content}
use Rattle.swift_calls.specs.declared.account.Content.TheVariants.{Plain, Segments}
use Rattle.upload_texts.specs.Records.{has_record_text, content_fits_record_text, read_record}
use Rattle.upload_texts.specs.declared.record.Record.{Record}
use Rattle.upload_texts.specs.declared.record.Record.TheVariants.{Open}
use Rattle.upload_texts.proofs.lemmas.Back.{record_has_one}
use Rattle.upload_records.specs.Layout.{uploads_name}
use Rattle.upload_records.specs.Native.{record_of, record_at, IsSettled}
use Rattle.account_calls.specs.declared.fault.PlanFault.{PlanFault}
use Rattle.account_calls.specs.declared.fault.PlanFault.TheVariants as plan
use Rattle.account_calls.specs.Calls.{always, Asks, GivenOf, GoesOn, Met}
use Rattle.account_calls.specs.Listing.{TellsOf}
use Rattle.account_calls.proofs.lemmas.Ask.{asks_out_of_memory, asks_told}
use Rattle.account_calls.proofs.lemmas.Faults.{err_is}
use Rattle.account_calls.proofs.lemmas.Idle.{goes_none, goes_trans}
use Rattle.account_calls.specs.Told.{Idles}
use Rattle.account_calls.proofs.lemmas.Walk.{idles_none, idles_trans, cause_after, keeps_after}
use Rattle.upload_calls.specs.Records.{InBucket, TellsRecord}
use Rattle.upload_calls.proofs.lemmas.Taking.{met_after, same_after}
use Rattle.s3_machine.specs.declared.items.UploadsAsked.{UploadsAsked}
use Rattle.plan_uploads.specs.Listing.{added, added_if, row_due, row_of_record, AddsRow, AllShown, HasRecord, HasRecords, TellsRow, TellsRows}

-- ---- rows with dates

shown_by : (t : Bool) (rows : Names UploadItem) (place : List ℕ) (item : UploadItem) → AllShown rows → IsShownUpload item → AllShown (cond t rows (insert rows place item))
shown_by true rows place item shown is = shown
shown_by false rows place item shown is = record { each = λ q x found. insert_is by_name (λ k y. IsShownUpload y) rows place item q x is (shown.each q x) found }

pub shown_more : (new rows : Names UploadItem) (place : List ℕ) (item : UploadItem) → new ≡ added (place, item) rows → IsShownUpload item → AllShown rows → AllShown new
shown_more new rows place item is dated shown = subst AllShown (sym is) (shown_by (is_some (get rows place)) rows place item shown dated)

-- ---- the record of an open upload has a moment with a date

open_dated : (key content_type : List ℕ) (meta : List Pair) (started : ℕ) → has_record_text (Open key content_type meta started) ≡ true → started < moment_limit
unfolding has_record_text
open_dated key content_type meta started h =
    let a = and_parts (is_key key) (content_fits_record_text content_type meta && nat_lt started moment_limit) h in
    let b = and_parts (content_fits_record_text content_type meta) (nat_lt started moment_limit) a.1 in
    grind (arith, nat_tests, b.1)

content_dated : (content : Content) (key content_type : List ℕ) (meta : List Pair) (started : ℕ) → option_and_then read_record (plain_bytes content) ≡ Some (Open key content_type meta started) → started < moment_limit
content_dated (Plain text) key content_type meta started is = open_dated key content_type meta started (record_has_one text (Open key content_type meta started) is).0
content_dated (Segments list) key content_type meta started is = cc

record_dated : (o : Option SwiftObject) (key content_type : List ℕ) (meta : List Pair) (started : ℕ) → option_and_then record_of o ≡ Some (Open key content_type meta started) → started < moment_limit
record_dated None key content_type meta started is = cc
record_dated (Some file) key content_type meta started is = content_dated file.content key content_type meta started is

-- ---- one upload

there_of : {bucket : List ℕ} {id : ℕ} (tree : SwiftAccount) → GivenOf (HasRecord bucket id) tree → GivenOf (InBucket bucket) tree
there_of tree has = record { settled = has.settled; is = has.is.there }

met_there : {bucket : List ℕ} {id : ℕ} {a : History} → Met (GivenOf (HasRecord bucket id)) a → Met (GivenOf (InBucket bucket)) a
met_there {a = a} met = record { observable = met.observable; sound = met.sound; has = there_of (present a) met.has }

module _ (bucket : List ℕ) (asked : UploadsAsked) (id : ℕ) {a b : History} (old : Names UploadItem) where
  -- a record that is no row
  pub asks_no_row : (told : Option Record) → row_of_record asked id told ≡ None → Asks (always 1) a b (GivenOf (InBucket bucket)) (TellsOf (TellsRecord bucket id)) (Ok told)
      → Asks (always 1) a b (GivenOf (HasRecord bucket id)) (TellsOf (TellsRow asked bucket id old old)) (Ok tt)
  asks_no_row told nothing asks = asks_told there_of tt (λ tree sound has tells. sym (ap (λ r. added_if (row_of_record asked id r) old) tells ∙ ap (λ o. added_if o old) nothing)) asks

  -- no record, where one is
  pub asks_missing : Asks (always 1) a b (GivenOf (InBucket bucket)) (TellsOf (TellsRecord bucket id)) (Ok None)
      → Asks (always 1) a b (GivenOf (HasRecord bucket id)) (TellsOf (TellsRow asked bucket id old old)) (Err plan.Inconsistent)
  asks_missing asks = record {
    grows = record { on = asks.grows.on; calls = asks.grows.calls };
    cause = asks.cause;
    effect = λ met.
        let keeps = asks.effect (met_there met) in
        let from : b.account_at a.called ≡ present a = (asks.grows.on.kept met.observable).accounts a.called (omega arith) in
        let gone : record_at (files (present a) (uploads_name bucket)) (id_digits id) ≡ None = subst (λ tree. record_at (files tree (uploads_name bucket)) (id_digits id) ≡ None) from keeps.2.of_account in
        let never : false ≡ true = sym (ap is_some gone) ∙ met.has.is.has in
        cc;
    settled = asks.settled;
  }

module _ (bucket : List ℕ) (asked : UploadsAsked) (id : ℕ) {a b : History} (key content_type : List ℕ) (meta : List Pair) (started : ℕ) (told : Option Record) (is : told ≡ Some (Open key content_type meta started))
    (asks : Asks (always 1) a b (GivenOf (InBucket bucket)) (TellsOf (TellsRecord bucket id)) (Ok told)) (old new : Names UploadItem) where
  record_is : (tree : SwiftAccount) → TellsRecord bucket id tree told → record_at (files tree (uploads_name bucket)) (id_digits id) ≡ Some (Open key content_type meta started)
  record_is tree tells = tells ∙ is

  -- the row of an open upload
  pub asks_row : (result : Result (Unit {0}) PlanFault) → AddsRow asked id key started old new result → Asks (always 1) a b (GivenOf (HasRecord bucket id)) (TellsOf (TellsRow asked bucket id old new)) result
  asks_row (Ok tt) adds = asks_told there_of tt (λ tree sound has tells. adds ∙ ap (λ r. added_if (row_of_record asked id r) old) (sym (record_is tree tells))) asks
  asks_row (Err plan.Failed) never = absurd never
  asks_row (Err plan.Memory) done = asks_out_of_memory there_of asks (Err plan.Memory) refl
  asks_row (Err plan.Inconsistent) late = record {
    grows = record { on = asks.grows.on; calls = asks.grows.calls };
    cause = asks.cause;
    effect = λ met.
        let keeps = asks.effect (met_there met) in
        let soon = record_dated _ key content_type meta started (record_is (b.account_at a.called) keeps.2.of_account) in
        omega (arith, soon, late);
    settled = asks.settled;
  }

-- ---- one row more

found_by : {X : Type 0} (t : Bool) (x : X) (found rest more : Option X) → found ≡ option_or rest more → cond t (Some x) found ≡ option_or (cond t (Some x) rest) more
found_by true x found rest more e = refl
found_by false x found rest more e = e

found_more : (es : List (List ℕ × UploadItem)) (k : List ℕ) (v : UploadItem) (q : List ℕ) → find name_cmp q (es ++ (k, v) ∷ []) ≡ option_or (find name_cmp q es) (cond (eq_by_cmp name_cmp q k) (Some v) None)
found_more [] k v q = refl
found_more (e ∷ es) k v q = found_by (eq_by_cmp name_cmp q e.0) e.1 _ (find name_cmp q es) _ (found_more es k v q)

or_none : {X : Type 0} (o : Option X) → option_or o None ≡ o
or_none None = refl
or_none (Some x) = refl

-- a row at whose place one stands already adds nothing
push_there : (es : List (List ℕ × UploadItem)) (k : List ℕ) (v x : UploadItem) → find name_cmp k es ≡ Some x → from_entries {R = name_cmp} (es ++ (k, v) ∷ []) ≡ from_entries es
push_there es k v x is =
    same_at_and_off by_name _ _ k
    (get-from_entries name_total (es ++ (k, v) ∷ []) k ∙ found_more es k v k ∙ ap (λ o. option_or o (cond (eq_by_cmp name_cmp k k) (Some v) None)) is ∙ sym is ∙ sym (get-from_entries name_total es k))
    (λ q a. get-from_entries name_total (es ++ (k, v) ∷ []) q ∙ found_more es k v q ∙ ap (option_or (find name_cmp q es)) (ap (λ t. cond t (Some v) None) a)
    ∙ or_none (find name_cmp q es) ∙ sym (get-from_entries name_total es q))

add_by : (es : List (List ℕ × UploadItem)) (e : List ℕ × UploadItem) (found : Option UploadItem) → find name_cmp e.0 es ≡ found → added e (from_entries es) ≡ from_entries (es ++ e ∷ [])
add_by es e None is =
    ap (λ o. cond (is_some o) (from_entries es) (insert (from_entries es) e.0 e.1)) (get-from_entries name_total es e.0 ∙ is)
    ∙ sym (from_entries_push name_total name_antisymmetric es e.0 e.1 is)
add_by es e (Some x) is =
    ap (λ o. cond (is_some o) (from_entries es) (insert (from_entries es) e.0 e.1)) (get-from_entries name_total es e.0 ∙ is)
    ∙ sym (push_there es e.0 e.1 x is)

add_option : (es : List (List ℕ × UploadItem)) (o : Option (List ℕ × UploadItem)) → added_if o (from_entries es) ≡ from_entries (es ++ cons_option o [])
add_option es None = ap (λ l. from_entries l) (sym (append-nil es))
add_option es (Some e) = add_by es e (find name_cmp e.0 es) refl

-- ---- one after another

abbrev rows_of : UploadsAsked → List ℕ → SwiftAccount → List ℕ → Names UploadItem
rows_of asked bucket tree ids = from_entries {R = name_cmp} (filter_map (row_due asked bucket tree) ids)

one_more : (asked : UploadsAsked) (bucket : List ℕ) (tree : SwiftAccount) (ids : List ℕ) (i id : ℕ) → i < length ids → id ≡ get_or ids i 0
    → added_if (row_due asked bucket tree id) (rows_of asked bucket tree (take i ids)) ≡ rows_of asked bucket tree (take (i + 1) ids)
one_more asked bucket tree ids i id near is =
    add_option (filter_map (row_due asked bucket tree) (take i ids)) (row_due asked bucket tree id)
    ∙ ap (λ l. from_entries {R = name_cmp} l)
    (ap (λ n. filter_map (row_due asked bucket tree) (take i ids) ++ filter_map (row_due asked bucket tree) (n ∷ [])) is
    ∙ sym (filter_map-append (row_due asked bucket tree) (take i ids) (get_or ids i 0 ∷ [])) ∙ ap (filter_map (row_due asked bucket tree)) (sym (take_more ids i 0 near)))

-- the rows of the first ids were added
pub record Gathered (a b : History) (asked : UploadsAsked) (bucket ids : List ℕ) (i : ℕ) (rows : Names UploadItem) : Type 0 where
  pub on : GoesOn a b
  pub faults : b.faults ≡ a.faults
  pub settled : IsTrue a.observable → IsSettled (present a) → IsSettled (present b)
  pub calls : b.called ≤ a.called + i
  pub idles : Met (GivenOf (HasRecords bucket ids)) a → Idles b a.called b.called
  pub are : Met (GivenOf (HasRecords bucket ids)) a → rows ≡ rows_of asked bucket (present a) (take i ids)

take_none : (ids : List ℕ) → take 0 ids ≡ []
take_none [] = refl
take_none (id ∷ ids) = refl

pub gathered_none : (a : History) (asked : UploadsAsked) (bucket ids : List ℕ) (rows : Names UploadItem) → rows ≡ empty → Gathered a a asked bucket ids 0 rows
gathered_none a asked bucket ids rows none = record {
  on = goes_none a;
  faults = refl;
  settled = λ observable settled. settled;
  calls = omega arith;
  idles = λ met. idles_none a met.sound;
  are = λ met. none ∙ ap (rows_of asked bucket (present a)) (sym (take_none ids));
}

module _ {a b : History} {asked : UploadsAsked} {bucket ids : List ℕ} {i : ℕ} {rows : Names UploadItem} (so : Gathered a b asked bucket ids i rows) (id : ℕ) (near : i < length ids) (is : id ≡ get_or ids i 0) where
  -- which has a record
  one_of : {h : History} → Met (GivenOf (HasRecords bucket ids)) h → Met (GivenOf (HasRecord bucket id)) h
  one_of {h = h} met = record {
    observable = met.observable;
    sound = met.sound;
    has = record {
      settled = met.has.settled;
      is = record { there = met.has.is.there; has = ap (λ n. is_some (record_at (files (present h) (uploads_name bucket)) (id_digits n))) is ∙ met.has.is.each i 0 near };
    };
  }

  -- one more
  pub gathered_more : {c : History} {new : Names UploadItem} {told : Unit {0}} → Asks (always 1) b c (GivenOf (HasRecord bucket id)) (TellsOf (TellsRow asked bucket id rows new)) (Ok told) → Gathered a c asked bucket ids (i + 1) new
  gathered_more {c = c} {new = new} asks =
      let calls = asks.grows.calls in
      let before = so.calls in
      record {
        on = goes_trans so.on asks.grows.on;
        faults = asks.cause ∙ so.faults;
        settled = λ observable settled. asks.settled (so.on.observable observable) (so.settled observable settled);
        calls = omega (arith, calls, before);
        idles = λ met.
            let keeps = asks.effect (one_of (met_after (HasRecords bucket ids) so.on so.settled (so.idles met) met)) in
            idles_trans so.on.ordered (asks.grows.on.kept (so.on.observable met.observable)) (so.idles met) (record { quiet = keeps.0; still = keeps.1; same = keeps.2.same });
        are = λ met.
            let keeps = asks.effect (one_of (met_after (HasRecords bucket ids) so.on so.settled (so.idles met) met)) in
            let same : c.account_at b.called ≡ present a =
            (asks.grows.on.kept (so.on.observable met.observable)).accounts b.called (omega arith) ∙ same_after (HasRecords bucket ids) so.on so.settled (so.idles met) met in
            let more : new ≡ added_if (row_due asked bucket (present a) id) rows = subst (λ tree. new ≡ added_if (row_due asked bucket tree id) rows) same keeps.2.of_account in
            more ∙ ap (added_if (row_due asked bucket (present a) id)) (so.are met) ∙ one_more asked bucket (present a) ids i id near is;
      }

  -- one that wasn't added
  pub gathered_fault : {T : Type 0} {P : SwiftAccount → T → Type 0} {c : History} {f : PlanFault} → Asks (always 1) b c (GivenOf (HasRecord bucket id)) (TellsOf P) (Err f)
      → (result : Result (Names UploadItem) PlanFault) → IsErrAnd result (λ e. e ≡ f) → Asks (always (length ids)) a c (GivenOf (HasRecords bucket ids)) (TellsOf (TellsRows asked bucket ids)) result
  gathered_fault {T = T} {P = P} {c = c} {f = f} asks result err =
      let calls = asks.grows.calls in
      let before = so.calls in
      subst (Asks (always (length ids)) a c (GivenOf (HasRecords bucket ids)) (TellsOf (TellsRows asked bucket ids))) (sym (err_is result f err)) (record {
        grows = record { on = goes_trans so.on asks.grows.on; calls = omega (arith, calls, before, near) };
        cause = cause_after T (Names UploadItem) a.faults b.faults c.faults f so.faults asks.cause;
        effect = λ met. keeps_after T (Names UploadItem) P (TellsRows asked bucket ids) b c a.called b.called c.called f so.on.ordered
            (asks.grows.on.kept (so.on.observable met.observable)) (so.idles met) (asks.effect (one_of (met_after (HasRecords bucket ids) so.on so.settled (so.idles met) met)));
        settled = λ observable settled. asks.settled (so.on.observable observable) (so.settled observable settled);
      })

-- all were
pub gathered_all : {a b : History} {asked : UploadsAsked} {bucket ids : List ℕ} {i : ℕ} {rows : Names UploadItem} → Gathered a b asked bucket ids i rows → i ≤ length ids → length ids ≤ i
    → Asks (always (length ids)) a b (GivenOf (HasRecords bucket ids)) (TellsOf (TellsRows asked bucket ids)) (Ok rows)
gathered_all {a = a} {b = b} {asked = asked} {bucket = bucket} {ids = ids} {i = i} so within all =
    let before = so.calls in
    record {
      grows = record { on = so.on; calls = omega (arith, before, within) };
      cause = so.faults;
      effect = λ met.
          let idles = so.idles met in
          let from : b.account_at a.called ≡ present a = (so.on.kept met.observable).accounts a.called (omega arith) in
          (idles.quiet, idles.still, record { of_account = so.are met ∙ ap (rows_of asked bucket (present a)) (take_all i ids all) ∙ ap (λ tree. rows_of asked bucket tree ids) (sym from); same = idles.same });
      settled = so.settled;
    }

pub shown_none : (rows : Names UploadItem) → rows ≡ empty → AllShown rows
shown_none rows none = record { each = λ place item found. let never : None ≡ Some item = sym (get-empty name_cmp place) ∙ ap (λ m. get m place) (sym none) ∙ found in cc }
