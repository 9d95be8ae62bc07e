-- GET of the lists of the segments of an object: over a consistent account they cut its bytes.
use Rattle.std.specs.Prelude.{◌≡◌, ◌<◌, ◌≤◌, ◌+◌, ◌-◌, ◌&&◌, ℕ, suc, true, false, nat_lt, sum_by, List, [], ◌∷◌, ◌++◌, length, drop, Option, None, Some, Result, Ok, Err}
use Rattle.std.specs.Result.{IsErrAnd}
use Rattle.std.specs.List.{All, list_all}
use Rattle.std.specs.Option.{option_map, unwrap_or}
use Rattle.std.specs.FinMap.{get}
use Rattle.std.proofs.Common.{refl, sym, ap, subst, ◌∙◌, arith, append_assoc}
use Rattle.std.proofs.lemmas.Bool.{and_from, lt-ltb, le-leb, eq-eqb}
use Rattle.std.proofs.lemmas.List.{length-append, length-map, map-append}
use Rattle.std.proofs.lemmas.List.Elements.{All-head, All-tail}
use Rattle.std.proofs.lemmas.List.Sums.{sum_by-cons}
use Rattle.gate_base.specs.Maps.{Names}
use Rattle.s3_names.specs.Bucket.{is_bucket}
use Rattle.s3_names.specs.Id.{id_digits}
use Rattle.s3_machine.specs.Limits.{most_body_bytes}
use Rattle.s3_machine.specs.State.{Object}
use Rattle.s3_machine.specs.Step.{head_of}
use Rattle.s3_machine.specs.Uploads.{greatest_part, most_parts}
use Rattle.s3_machine.specs.declared.operation.ObjectHead.{ObjectHead}
use Rattle.slo_manifest.specs.declared.Segment.{Segment}
use Rattle.swift_calls.specs.Account.{SwiftObject, SwiftAccount, files, find_object}
use Rattle.swift_calls.specs.Bodies as bodies
use Rattle.swift_calls.specs.Bodies.{joined, joined_two, outer_bytes, plain_bytes}
use Rattle.swift_calls.specs.History.{History, present}
use Rattle.swift_calls.specs.Step.{manifest_by, manifest_reply}
use Rattle.swift_calls.specs.declared.calls.SwiftRequest.{SwiftRequest}
use Rattle.swift_calls.specs.declared.calls.SwiftRequest.TheVariants.{GetManifest}
use Rattle.upload_records.specs.Consistent.{AreParts, IsConsistent, IsThere}
use Rattle.upload_records.specs.Laws.{ListingFound, ListsParts, ObjectListed}
use Rattle.upload_records.specs.Layout.{five_digits, segment_name, segments_name, sub_manifest_name}
use Rattle.upload_records.specs.Native.{object_at, run, s3_state, sub_manifests, within}
use Rattle.upload_records.proofs.lemmas.Subs.{outer_part}
use Rattle.account_calls.specs.Answers.{listed_in, listed_twice}
use Rattle.account_calls.specs.Calls.{always, Asks, Given, GivenOf, HasObject}
use Rattle.account_calls.specs.Interpret.{listed_due}
use Rattle.account_calls.specs.Listing.{TellsOf}
use Rattle.account_calls.specs.declared.fault.PlanFault.{PlanFault}
use Rattle.account_calls.specs.declared.fault.PlanFault.TheVariants as fault
use Rattle.account_calls.proofs.lemmas.Idle.{grows_none, none_made}
use Rattle.account_calls.proofs.lemmas.One.{IsReadingOf}
use Rattle.account_calls.proofs.lemmas.Quiet.{asks_failed, asks_left, asks_no_memory, asks_then}
use Rattle.upload_calls.specs.Listing.{digits_in}
use Rattle.upload_calls.proofs.lemmas.Digits.{digits_read}
use Rattle.many_keys.specs.CopiedLists.{
  ArePiecesHere,
  HasListed,
  HasSubs,
  ListsSegments,
  TellsCut,
  TellsRuns,
  TellsSub,
  cut_bytes,
  cut_of,
  is_cut,
  is_piece_to_copy,
  list_id,
  lists_subs,
  number_at,
  piece_bytes,
  piece_of,
  pieces_ascend_from,
  plain_in,
  runs_listed,
  size_of_cut,
  subs_in,
}
use Rattle.many_keys.specs.declared.cut.Piece.{Piece}
use Rattle.many_keys.proofs.Runs.{ReadsAs, first_name, id_by_name, id_told, list_reads}
use Rattle.many_keys.proofs.SideFiles.{listed_there}

-- ---- the number of a name

drop_front : (front rest : List ℕ) → drop (length front) (front ++ rest) ≡ rest
drop_front [] rest = refl
drop_front (b ∷ front) rest = drop_front front rest

last_five : (id : List ℕ) (n : ℕ) → drop (length (id ++ 47 ∷ five_digits n) - 5) (id ++ 47 ∷ five_digits n) ≡ five_digits n
last_five id n =
    let front : List ℕ = id ++ 47 ∷ [] in
    let far : length (id ++ 47 ∷ five_digits n) - 5 ≡ length front = omega (arith, length-append id (47 ∷ five_digits n), length-append id (47 ∷ [])) in
    ap (λ k. drop k (id ++ 47 ∷ five_digits n)) far ∙ ap (drop (length front)) (sym (append_assoc id (47 ∷ []) (five_digits n))) ∙ drop_front front (five_digits n)

number_read : (id : List ℕ) (n : ℕ) → n ≤ greatest_part → number_at (segment_name id n) ≡ n
unfolding segment_name greatest_part
number_read id n small = ap (λ text. unwrap_or (digits_in text) 0) (last_five id n) ∙ ap (λ o. unwrap_or o 0) (digits_read n (omega (arith, small)))

pub segment_number : (id : List ℕ) (k n : ℕ) → k ≤ greatest_part → n ≤ greatest_part → segment_name id k ≡ segment_name id n → k ≡ n
segment_number id k n low high e = sym (number_read id k low) ∙ ap number_at e ∙ number_read id n high

-- ---- the segments of an object are a cut

module _ (segments : Names SwiftObject) (folder id : List ℕ) where
  parts_ascend : (above : ℕ) (list : List Segment) → AreParts segments folder id above list → pieces_ascend_from above (cut_of list) ≡ true
  parts_ascend above [] parts = refl
  parts_ascend above (s ∷ list) (number, low, high, listed, rest) =
      subst (λ n. (nat_lt above n && pieces_ascend_from n (cut_of list)) ≡ true) (sym (ap number_at listed.named ∙ number_read id number high))
      (and_from _ _ (lt-ltb above number low) (parts_ascend number list rest))

  parts_are_pieces : (above : ℕ) (list : List Segment) → AreParts segments folder id above list → All (λ s. (0 < s.size) × (s.size ≤ most_body_bytes)) list → list_all is_piece_to_copy (cut_of list) ≡ true
  parts_are_pieces above [] parts sized = refl
  parts_are_pieces above (s ∷ list) (number, low, high, listed, rest) sized =
      let size = All-head (λ (s : Segment). (0 < s.size) × (s.size ≤ most_body_bytes)) s list sized in
      let some = size.0 in
      and_from _ _ (and_from _ _ (le-leb (number_at s.name) greatest_part (subst (λ n. n ≤ greatest_part) (sym (ap number_at listed.named ∙ number_read id number high)) high))
      (and_from _ _ (le-leb 1 s.size (omega (arith, some))) (le-leb s.size most_body_bytes size.1)))
      (parts_are_pieces number list rest (All-tail (λ (s : Segment). (0 < s.size) × (s.size ≤ most_body_bytes)) s list sized))

same_size : (list : List Segment) → size_of_cut (cut_of list) ≡ sum_by (λ (s : Segment). s.size) list
same_size [] = refl
same_size (s ∷ list) =
    let one = sum_by-cons (λ (p : Piece). p.size) (piece_of s) (cut_of list) in
    let other = sum_by-cons (λ (s : Segment). s.size) s list in
    one ∙ ap (λ n. s.size + n) (same_size list) ∙ sym other

-- parts that make an object of so many bytes
parts_cut : (segments : Names SwiftObject) (folder : List ℕ) (listed : List Segment) (o : Object) (size : ℕ) → length o.bytes ≡ size → (lists : ListsParts segments folder listed o) → is_cut size (cut_of lists.list.parts) ≡ true
unfolding is_cut
parts_cut segments folder listed o size whole lists =
    let list = lists.list in
    let some = list.some in
    let few = list.few in
    let long = length-map list.parts piece_of in
    and_from _ _ (le-leb 1 (length (cut_of list.parts)) (omega (arith, some, long)))
    (and_from _ _ (le-leb (length (cut_of list.parts)) most_parts (omega (arith, few, long)))
    (and_from _ _ (parts_are_pieces segments folder (id_digits lists.id) 0 list.parts list.are lists.sized)
    (and_from _ _ (parts_ascend segments folder (id_digits lists.id) 0 list.parts list.are) (eq-eqb (size_of_cut (cut_of list.parts)) size (same_size list.parts ∙ lists.whole ∙ whole)))))

-- ---- the files that they are

module _ (segments : Names SwiftObject) (folder id : List ℕ) where
  parts_here : (above : ℕ) (list : List Segment) → AreParts segments folder id above list → ArePiecesHere segments id (cut_of list)
  parts_here above [] are = tt
  parts_here above (s ∷ list) (number, low, high, listed, rest) = (
    record {
      file = listed.file;
      bytes = listed.bytes;
      there = ap (λ n. get segments (segment_name id n)) (ap number_at listed.named ∙ number_read id number high) ∙ listed.there;
      own = listed.own;
      size = sym listed.size;
    },
    parts_here number list rest,
  )

  parts_joined : (above : ℕ) (list : List Segment) → AreParts segments folder id above list → joined (outer_bytes (within segments)) list ≡ Some (cut_bytes segments id (cut_of list))
  unfolding joined
  parts_joined above [] are = refl
  parts_joined above (s ∷ list) (number, low, high, listed, rest) =
      let own : piece_bytes segments id (piece_of s) ≡ listed.bytes
      = ap (λ n. plain_in (get segments (segment_name id n))) (ap number_at listed.named ∙ number_read id number high) ∙ ap plain_in listed.there ∙ ap (λ c. unwrap_or (plain_bytes c) []) listed.own in
      let one : outer_bytes (within segments) s ≡ Some (piece_bytes segments id (piece_of s))
      = outer_part segments folder id (within segments) (λ name file there. there) number s listed ∙ ap Some (sym own) in
      let later = parts_joined number list rest in
      λ i. joined_two (one i) (later i)

same_bytes : (x y : List ℕ) → Some x ≡ Some y → x ≡ y
same_bytes x y e = cc

-- ---- what was read is a cut of the object

pub object_of_head : (o : Option Object) (head : ObjectHead) → option_map head_of o ≡ Some head → (x : Object) × (o ≡ Some x) × (head_of x ≡ head)
object_of_head None head e = cc
object_of_head (Some x) head e = (x, refl, (λ i. unwrap_or (e i) head))

same_object : (x y : Object) → Some x ≡ Some y → x ≡ y
same_object x y e = cc

-- the pieces that the lists of an object were read as
pub record IsCutRead (bucket key : List ℕ) (size : ℕ) (listed : List Segment) (pieces : List Piece) (tree : SwiftAccount) : Type 0 where
  pub proper : is_cut size pieces ≡ true
  pub tells : TellsCut bucket key tree (record { id = list_id listed; pieces = pieces })

module _ (law : ObjectListed) (tree : SwiftAccount) (bucket key etag : List ℕ) (size : ℕ) (listed : List Segment) (is : is_bucket bucket ≡ true) (sound : IsConsistent tree)
    (given : GivenOf (HasListed bucket key etag size listed) tree) where
  abbrev segments : Names SwiftObject
  segments = files tree (segments_name bucket)

  pub object_listed : (o : Object) × (object_at (get (s3_state tree) bucket) key ≡ Some o) × (length o.bytes ≡ size) × ListsParts segments (segments_name bucket) listed o
  object_listed =
      let has = given.is.object in
      let object = object_of_head (object_at (get (s3_state tree) bucket) key) has.0 has.1 in (
        object.0,
        object.1,
        ap (λ (h : ObjectHead). h.size) object.2 ∙ has.3,
        law tree bucket key given.is.lists.file listed object.0 is sound given.settled.none given.is.lists.there given.is.lists.own object.1,
      )

  abbrev here : ListsParts segments (segments_name bucket) listed object_listed.0
  here = object_listed.3

  pub reads : ReadsAs segments (id_digits here.id) here.list.parts listed (sub_manifests (length here.list.parts))
  reads = list_reads segments (segments_name bucket) (id_digits here.id) listed here.list

  there_too : IsThere tree bucket
  there_too = listed_there tree bucket key is given.settled object_listed.0 object_listed.1

  pub same_id : id_digits (list_id listed) ≡ id_digits here.id
  same_id =
      ap id_digits (id_by_name listed reads.some)
      ∙ id_told (first_name listed) reads.file here.id ((sound.buckets bucket is there_too).of_segments (first_name listed) reads.file reads.there) reads.behind

  -- they are the parts
  parts_read : IsCutRead bucket key size listed (cut_of here.list.parts) tree
  parts_read =
      let list = here.list in
      let long = length-map list.parts piece_of in
      let counts : sub_manifests (length list.parts) ≡ sub_manifests (length (cut_of list.parts)) = ap sub_manifests (sym long) in
      let of_file : listed_in (find_object tree bucket key) ≡ listed = ap listed_in given.is.lists.there ∙ ap (λ c. unwrap_or (bodies.listed_in c) []) given.is.lists.own in
      record {
        proper = parts_cut segments (segments_name bucket) listed object_listed.0 size object_listed.2 here;
        tells = record {
          counted = ap (listed_twice segments) of_file ∙ reads.twice ∙ (λ i. sym long i + counts i);
          asked = ap subs_in of_file ∙ reads.asked ∙ counts;
          here = subst (λ id. ArePiecesHere segments id (cut_of list.parts)) (sym same_id) (parts_here segments (segments_name bucket) (id_digits here.id) 0 list.parts list.are);
          bytes = λ o found.
              let same = same_object object_listed.0 o (sym object_listed.1 ∙ found) in
              ap (λ id. cut_bytes segments id (cut_of list.parts)) same_id
              ∙ same_bytes (cut_bytes segments (id_digits here.id) (cut_of list.parts)) object_listed.0.bytes (sym (parts_joined segments (segments_name bucket) (id_digits here.id) 0 list.parts list.are) ∙ here.bytes)
              ∙ ap (λ (x : Object). x.bytes) same;
        };
      }

  -- and what is listed, where it isn't sub-manifests
  pub direct_read : lists_subs listed ≡ false → IsCutRead bucket key size listed (cut_of listed) tree
  direct_read plain = subst (λ list. IsCutRead bucket key size listed (cut_of list) tree) (sym (reads.direct plain)) parts_read

  -- or what these list
  pub runs_read : lists_subs listed ≡ true → (pieces : List Piece) → TellsRuns bucket (list_id listed) (length listed) tree pieces → IsCutRead bucket key size listed pieces tree
  runs_read are pieces told =
      let same : runs_listed segments (id_digits (list_id listed)) (length listed) ≡ here.list.parts = ap (λ id. runs_listed segments id (length listed)) same_id ∙ reads.runs are in
      subst (λ list. IsCutRead bucket key size listed list tree) (sym (told ∙ ap cut_of same)) parts_read

  pub subs_here : lists_subs listed ≡ true → HasSubs bucket (list_id listed) (length listed) tree
  subs_here are = λ n below.
      let sub = reads.here are n below in
      record { file = sub.file; listed = run n here.list.parts; there = ap (λ id. get segments (sub_manifest_name id (n + 1))) same_id ∙ sub.there; own = sub.own }

  pub subs_few : lists_subs listed ≡ true → length listed ≤ 10
  subs_few are = reads.few are

-- ---- the calls

-- over a consistent account the list of the segments of an object that isn't empty is told
pub list_reads_so : {container name bucket key etag : List ℕ} {size : ℕ} → ListingFound → container ≡ bucket → name ≡ key → is_bucket bucket ≡ true → 32 < length etag → 0 < size
    → IsReadingOf (Given (HasObject bucket key etag size)) (GetManifest container name) listed_due (ListsSegments bucket key)
list_reads_so {bucket = bucket} {key = key} {etag = etag} {size = size} found named under is of_parts filled = record {
  leaves = λ tree. refl;
  tells = λ tree sound given reply replied.
      let has = given.is in
      let object = object_of_head (object_at (get (s3_state tree) bucket) key) has.0 has.1 in
      let o = object.0 in
      let whole : length o.bytes ≡ size = ap (λ (h : ObjectHead). h.size) object.2 ∙ has.3 in
      let long : 32 < length o.etag = subst (λ e. 32 < length e) (sym (ap (λ (h : ObjectHead). h.etag) object.2 ∙ has.2)) of_parts in
      let lists = found tree bucket key o is sound given.settled.none object.1 long (omega (arith, filled, whole)) in (
        lists.listed,
        ap listed_due (replied ∙ (λ i. manifest_reply (find_object tree (named i) (under i))) ∙ ap manifest_reply lists.there ∙ ap (λ c. manifest_by (bodies.listed_in c)) lists.lists),
        record { file = lists.file; there = lists.there; own = lists.lists },
      );
}

-- and so is that of a sub-manifest which is there
pub sub_reads_so : {request : SwiftRequest} (bucket : List ℕ) (id n : ℕ) → request ≡ GetManifest (segments_name bucket) (sub_manifest_name (id_digits id) (n + 1))
    → IsReadingOf (GivenOf (HasSubs bucket id (n + 1))) request listed_due (TellsSub bucket id n)
sub_reads_so bucket id n same = subst (λ r. IsReadingOf (GivenOf (HasSubs bucket id (n + 1))) r listed_due (TellsSub bucket id n)) (sym same) (record {
  leaves = λ tree. refl;
  tells = λ tree sound given reply replied.
      let sub = given.is n (omega arith) in (
        sub.listed,
        ap listed_due (replied ∙ ap manifest_reply sub.there ∙ ap (λ c. manifest_by (bodies.listed_in c)) sub.own),
        sym (ap listed_in sub.there ∙ ap (λ c. unwrap_or (bodies.listed_in c) []) sub.own),
      );
})

-- ---- the sub-manifests, one after another

runs_next : (S : Names SwiftObject) (id : List ℕ) (n : ℕ) → runs_listed S id (n + 1) ≡ runs_listed S id n ++ listed_in (get S (sub_manifest_name id (n + 1)))
unfolding runs_listed
runs_next S id n = let next : n + 1 ≡ suc n = omega arith in ap (runs_listed S id) next

no_runs : (S : Names SwiftObject) (id : List ℕ) → runs_listed S id 0 ≡ []
unfolding runs_listed
no_runs S id = refl

module _ (bucket : List ℕ) (id : ℕ) where
  pub runs_none : (h : History) (count : ℕ) (pieces : List Piece) → pieces ≡ [] → Asks (always 0) h h (GivenOf (HasSubs bucket id count)) (TellsOf (TellsRuns bucket id 0)) (Ok pieces)
  runs_none h count pieces none = record {
    grows = grows_none (always 0) (GivenOf (HasSubs bucket id count)) h;
    cause = refl;
    effect = λ met. (none_made refl met.sound, refl, record { of_account = none ∙ sym (ap cut_of (no_runs (files (present h) (segments_name bucket)) (id_digits id))); same = refl });
    settled = λ observable settled. settled;
  }

  module _ {count n : ℕ} {pieces : List Piece} {a b : History} (below : n < count) (before : Asks (always n) a b (GivenOf (HasSubs bucket id count)) (TellsOf (TellsRuns bucket id n)) (Ok pieces)) where
    still : (old new : SwiftAccount) → IsConsistent old → s3_state new ≡ s3_state old → GivenOf (HasSubs bucket id count) old → TellsOf (TellsRuns bucket id n) old new pieces → GivenOf (HasSubs bucket id (n + 1)) new
    still old new sound same has told = subst (GivenOf (HasSubs bucket id (n + 1))) (sym told.same) (record { settled = has.settled; is = λ k low. has.is k (omega (arith, low, below)) })

    -- one more was read
    pub runs_more : {c : History} {listed : List Segment} (pieces' : List Piece) → Asks (always 1) b c (GivenOf (HasSubs bucket id (n + 1))) (TellsOf (TellsSub bucket id n)) (Ok listed) → pieces' ≡ pieces ++ cut_of listed
        → Asks (always (n + 1)) a c (GivenOf (HasSubs bucket id count)) (TellsOf (TellsRuns bucket id (n + 1))) (Ok pieces')
    runs_more {listed = listed} pieces' one grown =
        asks_left {n = n + 1} {R = TellsOf (TellsRuns bucket id (n + 1))} pieces' (omega arith)
        (asks_then {R = λ old last l. TellsOf (TellsRuns bucket id n) old last pieces × TellsSub bucket id n old l} (omega arith) before one still
        (λ old new last l sound has told sub. (record { of_account = told.of_account; same = sub.same ∙ told.same }, subst (λ t. TellsSub bucket id n t l) told.same sub.of_account)))
        (λ old new sound same has both. record {
          of_account = grown ∙ (λ i. both.0.of_account i ++ cut_of (both.1 i))
              ∙ sym (map-append piece_of (runs_listed (files old (segments_name bucket)) (id_digits id) n) (listed_in (get (files old (segments_name bucket)) (sub_manifest_name (id_digits id) (n + 1)))))
              ∙ sym (ap cut_of (runs_next (files old (segments_name bucket)) (id_digits id) n));
          same = both.0.same;
        })

    both_made : {c : History} {U : Type 0} {result : Result U PlanFault} {P : SwiftAccount → SwiftAccount → U → Type 0} → Asks (always 1) b c (GivenOf (HasSubs bucket id (n + 1))) P result
        → Asks (always (n + 1)) a c (GivenOf (HasSubs bucket id count)) (λ old last (l : U). Unit {0}) result
    both_made one = asks_then {R = λ old last l. Unit {0}} (omega arith) before one still (λ old new last l sound has told sub. tt)

    -- it wasn't
    pub runs_fault : {c : History} {f : PlanFault} → Asks (always 1) b c (GivenOf (HasSubs bucket id (n + 1))) (TellsOf (TellsSub bucket id n)) (Err f) → (result : Result (List Piece) PlanFault) → IsErrAnd result (λ e. e ≡ f)
        → Asks (always count) a c (GivenOf (HasSubs bucket id count)) (TellsOf (TellsRuns bucket id count)) result
    runs_fault one result is = asks_failed {R = TellsOf (TellsRuns bucket id count)} (omega (arith, below)) (both_made one) result is

    -- and then there was no memory to keep it
    pub runs_unkept : {c : History} {listed : List Segment} → Asks (always 1) b c (GivenOf (HasSubs bucket id (n + 1))) (TellsOf (TellsSub bucket id n)) (Ok listed) → (result : Result (List Piece) PlanFault) → IsErrAnd result (λ e. e ≡ fault.Memory)
        → Asks (always count) a c (GivenOf (HasSubs bucket id count)) (TellsOf (TellsRuns bucket id count)) result
    runs_unkept one result is = asks_no_memory {R = TellsOf (TellsRuns bucket id count)} (omega (arith, below)) (both_made one) result is

  -- all were
  pub runs_read_all : {count n : ℕ} {pieces : List Piece} {a b : History} → n ≡ count → Asks (always n) a b (GivenOf (HasSubs bucket id count)) (TellsOf (TellsRuns bucket id n)) (Ok pieces)
      → Asks (always count) a b (GivenOf (HasSubs bucket id count)) (TellsOf (TellsRuns bucket id count)) (Ok pieces)
  runs_read_all {count = count} {pieces = pieces} {a = a} {b = b} same asks = subst (λ k. Asks (always k) a b (GivenOf (HasSubs bucket id count)) (TellsOf (TellsRuns bucket id k)) (Ok pieces)) same asks
