-- What is put for a copy stays as it was put, over every observable store.
use Rattle.std.specs.Prelude.{◌≡◌, ◌≤◌, ◌<◌, ◌+◌, ℕ, Bool, true, false, IsTrue, nat_lt, get_or, List, [], ◌∷◌, ◌++◌, length, map, take, Option, None, Some, Result, Ok, Err, IfOk}
use Rattle.std.specs.List.{list_all}
use Rattle.std.specs.Option.{option_map}
use Rattle.std.specs.Result.{IsErrAnd}
use Rattle.std.specs.FinMap.{get, insert}
use Rattle.std.proofs.Common.{refl, sym, ap, subst, ◌∙◌, inl, inr, arith, true≢false}
use Rattle.std.proofs.lemmas.Bool.{and_parts, cases_lt, ltb-true}
use Rattle.gate_base.proofs.lemmas.Maps.{apart, at_adjust, by_name, off_adjust, off_insert, same_key}
use Rattle.s3_names.specs.Bucket.{is_bucket}
use Rattle.s3_names.specs.Id.{id_digits}
use Rattle.s3_machine.specs.ETag.{body_etag}
use Rattle.s3_machine.specs.Uploads.{greatest_part}
use Rattle.s3_machine.specs.declared.operation.Reply.{Reply}
use Rattle.slo_manifest.specs.declared.Segment.{Segment}
use Rattle.swift_calls.specs.Account.{SwiftObject, SwiftContainer, SwiftAccount, files_of, find_object, on_files, put_file}
use Rattle.swift_calls.specs.Bodies.{is_good_list}
use Rattle.swift_calls.specs.History.{History, present, Calls}
use Rattle.swift_calls.specs.Step.{put_listed, put_manifest, put_object, swift_step}
use Rattle.swift_calls.specs.declared.account.Content.TheVariants.{Plain, Segments}
use Rattle.swift_calls.specs.declared.calls.SwiftReply.{SwiftReply}
use Rattle.swift_calls.specs.declared.calls.SwiftFault.{SwiftFault}
use Rattle.swift_calls.specs.declared.calls.SwiftRequest.{SwiftRequest}
use Rattle.swift_calls.specs.Files.{PutObject}
use Rattle.swift_calls.specs.declared.calls.SwiftRequest.TheVariants.{PutManifest}
use Rattle.swift_marks.specs.Pack.{pack_of}
use Rattle.swift_marks.specs.Tag.{tag_text}
use Rattle.upload_texts.specs.declared.sealed.Sealed.{Sealed}
use Rattle.upload_texts.specs.declared.sealed.SealedPart.{SealedPart}
use Rattle.upload_records.specs.Layout.{segment_name, segments_name, sub_manifest_name}
use Rattle.upload_records.specs.Native.{sealed_sub_manifests, sealed_tag}
use Rattle.upload_records.proofs.lemmas.Sides.{part_no_sub, side_is_none, sub_number}
use Rattle.account_calls.specs.declared.fault.PlanFault.{PlanFault}
use Rattle.account_calls.specs.Puts.{EnsuresIfDone, Stands, StandsIn}
use Rattle.account_calls.specs.Sealed.{put_object_of, put_sub_of, sealed_listing}
use Rattle.account_calls.specs.Told.{LeavesAccount}
use Rattle.account_calls.proofs.lemmas.Faults.{err_is}
use Rattle.account_calls.proofs.lemmas.ListPut.{by_stays}
use Rattle.account_calls.proofs.lemmas.One.{stays_so}
use Rattle.account_calls.proofs.lemmas.Puts.{if_done}
use Rattle.upload_calls.specs.Interpret.{put_part_of}
use Rattle.many_keys.specs.CopiedLists.{AreOfCut, piece_in, is_cut, size_of_cut}
use Rattle.many_keys.specs.OwnSegments.{HasOwnSegments, KeepsAllBut, KeepsSegments, LeavesOutside, PutsWithSubs, PutsOwn, PutsSubs, StandSegments, StandSubs, StandsSegment}
use Rattle.many_keys.specs.declared.cut.Piece.{Piece}
use Rattle.many_keys.proofs.CutCalls.{segment_number}
use Rattle.many_keys.proofs.Copying.{Copying, piece_at, same_below}

-- ---- the PUT of a file leaves each other one

module _ (tree : SwiftAccount) (folder name : List ℕ) where
  object_keeps : (file : SwiftObject) (o : Option SwiftContainer) → get tree folder ≡ o → KeepsAllBut folder name tree (put_object o folder name file tree).tree
  object_keeps file None is container other never = refl
  object_keeps file (Some c) is container other never = elim (same_key by_name container folder) [
    | inl same ↦ ap (λ f. find_object (put_file folder name file tree) f other) same
        ∙ ap (λ o. get (files_of o) other) (at_adjust by_name folder (on_files (λ fs. insert fs name file)) tree ∙ ap (option_map (on_files (λ fs. insert fs name file))) is)
        ∙ off_insert by_name c.files name file other (apart by_name other name (λ e. never same e))
        ∙ sym (ap (λ o. get (files_of o) other) is)
        ∙ ap (λ f. find_object tree f other) (sym same)
    | inr away ↦ ap (λ o. get (files_of o) other) (off_adjust by_name folder (on_files (λ fs. insert fs name file)) tree container away)
  ]

  listed_keeps : (t : Bool) (file : SwiftObject) (c : SwiftContainer) → get tree folder ≡ Some c → KeepsAllBut folder name tree (put_listed t (Some c) folder name file tree).tree
  listed_keeps true file c is container other never = object_keeps file (Some c) is container other never
  listed_keeps false file c is container other never = refl

  manifest_keeps : (content_type : List ℕ) (meta : List (List ℕ)) (segments : List Segment) (o : Option SwiftContainer) → get tree folder ≡ o
      → KeepsAllBut folder name tree (put_manifest o folder name content_type meta segments tree).tree
  manifest_keeps content_type meta segments None is container other never = refl
  manifest_keeps content_type meta segments (Some c) is container other never =
      listed_keeps (is_good_list (find_object tree) segments) (record { content_type = content_type; meta = meta; content = Segments segments }) c is container other never

module _ {a b : History} {request : SwiftRequest} {result : Result SwiftReply SwiftFault} (calls : Calls a b request result) (observable : IsTrue a.observable) where
  -- what the request keeps on every account the call keeps, whatever came of it
  kept : (folder name : List ℕ) → ((tree : SwiftAccount) → find_object (swift_step request tree).tree folder name ≡ find_object tree folder name)
      → find_object (present b) folder name ≡ find_object (present a) folder name
  kept folder name keeps = stays_so {P = λ tree. find_object tree folder name ≡ find_object (present a) folder name} (λ tree was. keeps tree ∙ was) calls observable refl

-- the PUT of an object, and that of one that lists segments
pub put_keeps : {a b : History} {request : SwiftRequest} {result : Result SwiftReply SwiftFault} {folder name content_type : List ℕ} {meta : List (List ℕ)} {body : List ℕ} → request ≡ PutObject folder name content_type meta body
    → Calls a b request result → IsTrue a.observable → KeepsAllBut folder name (present a) (present b)
put_keeps {folder = folder} {name = name} {content_type = content_type} {meta = meta} {body = body} same calls observable container other never =
    kept calls observable container other
    (λ tree. ap (λ r. find_object (swift_step r tree).tree container other) same
    ∙ object_keeps tree folder name (record { content_type = content_type; meta = meta; content = Plain body }) (get tree folder) refl container other never)

pub list_keeps : {a b : History} {request : SwiftRequest} {result : Result SwiftReply SwiftFault} {folder name content_type : List ℕ} {meta : List (List ℕ)} {segments : List Segment}
    → request ≡ PutManifest folder name content_type meta segments → Calls a b request result → IsTrue a.observable → KeepsAllBut folder name (present a) (present b)
list_keeps {folder = folder} {name = name} {content_type = content_type} {meta = meta} {segments = segments} same calls observable container other never =
    kept calls observable container other
    (λ tree. ap (λ r. find_object (swift_step r tree).tree container other) same
    ∙ manifest_keeps tree folder name content_type meta segments (get tree folder) refl container other never)

-- the PUT of the copy itself leaves what is outside of its bucket
pub object_leaves : {a b : History} {request : SwiftRequest} {result : Result SwiftReply SwiftFault} (s : Sealed) → request ≡ put_object_of s → Calls a b request result → LeavesOutside s.bucket a b
object_leaves s same calls = record {
  told = calls.told;
  keeps = λ observable container other never.
      kept calls observable container other
      (λ tree. ap (λ r. find_object (swift_step r tree).tree container other) same
      ∙ ap (λ o. get (files_of o) other) (by_stays tree s.bucket s.key (tag_text (sealed_tag s)) (pack_of s.meta) (sealed_listing s) container (apart by_name container s.bucket never)));
}

pub nothing_leaves : (folder : List ℕ) (h : History) → LeavesOutside folder h h
nothing_leaves folder h = record { told = λ observable. observable; keeps = λ observable container other never. refl }

-- ---- one segment

module _ {a b : History} {bucket : List ℕ} {id number moment : ℕ} where
  -- it wasn't put, or that isn't told
  pub own_failed : (f : PlanFault) (result : Result SealedPart PlanFault) → IsErrAnd result (λ e. e ≡ f) → (IsTrue a.observable → KeepsAllBut (segments_name bucket) (segment_name (id_digits id) number) (present a) (present b))
      → PutsOwn bucket id number moment a b result
  own_failed f result is keeps = subst (PutsOwn bucket id number moment a b) (sym (err_is result f is)) (record { keeps = keeps; stands = λ observable. tt })

pub own_put : {a b : History} {bucket : List ℕ} {id number : ℕ} (body : List ℕ) {moment : ℕ} (part : SealedPart) → part.number ≡ number → part.size ≡ length body → part.etag ≡ body_etag body
    → (IsTrue a.observable → KeepsAllBut (segments_name bucket) (segment_name (id_digits id) number) (present a) (present b))
    → (result : Result SealedPart PlanFault) → IfOk result (λ told. told ≡ part) → Stands b (put_part_of bucket id number body moment) result → PutsOwn bucket id number moment a b result
own_put {b = b} {bucket = bucket} {id = id} body {moment = moment} part numbered size etag keeps (Ok told) is stands = record {
  keeps = keeps;
  stands = λ observable. subst (λ p. StandsSegment bucket id moment p (present b)) (sym is)
      (record { body = body; etag = etag; size = size; stands = subst (λ n. StandsIn (present b) (put_part_of bucket id n body moment)) (sym numbered) (stands.so observable) });
}
own_put body part numbered size etag keeps (Err fault) is stands = record { keeps = keeps; stands = λ observable. tt }

-- behind a call that left the account
pub own_behind : {a b c : History} {bucket : List ℕ} {id number moment : ℕ} {result : Result SealedPart PlanFault} → LeavesAccount a b → (IsTrue a.observable → IsTrue b.observable)
    → PutsOwn bucket id number moment b c result → PutsOwn bucket id number moment a c result
own_behind leaves on own = record {
  keeps = λ observable container other never. own.keeps (on observable) container other never ∙ ap (λ tree. find_object tree container other) (leaves observable);
  stands = own.stands;
}

-- ---- all of them

module _ (bucket : List ℕ) (id moment : ℕ) where
  pub stand_none : (tree : SwiftAccount) (list : List SealedPart) → list ≡ [] → StandSegments bucket id moment list tree
  stand_none tree list none = subst (λ l. StandSegments bucket id moment l tree) (sym none) tt

  -- those of smaller numbers stay
  stand_stay : (old new : SwiftAccount) (number : ℕ) → number ≤ greatest_part → KeepsAllBut (segments_name bucket) (segment_name (id_digits id) number) old new
      → (list : List SealedPart) → list_all (λ (p : SealedPart). nat_lt p.number number) list ≡ true → StandSegments bucket id moment list old → StandSegments bucket id moment list new
  stand_stay old new number counted keeps [] below stand = tt
  stand_stay old new number counted keeps (p ∷ list) below stand =
      let less = and_parts (nat_lt p.number number) (list_all (λ (p : SealedPart). nat_lt p.number number) list) below in
      let low = ltb-true p.number number less.0 in (
        record {
          body = stand.0.body;
          etag = stand.0.etag;
          size = stand.0.size;
          stands = keeps (segments_name bucket) (segment_name (id_digits id) p.number)
              (λ here e. let same = segment_number (id_digits id) p.number number (omega (arith, low, counted)) counted e in omega (arith, same, low))
              ∙ stand.0.stands;
        },
        stand_stay old new number counted keeps list less.1 stand.1,
      )

  stand_more : (tree : SwiftAccount) (list : List SealedPart) (p : SealedPart) → StandSegments bucket id moment list tree → StandsSegment bucket id moment p tree → StandSegments bucket id moment (list ++ p ∷ []) tree
  stand_more tree [] p stand one = (one, tt)
  stand_more tree (q ∷ list) p stand one = (stand.0, stand_more tree list p stand.1 one)

  -- where each segment is as it was
  stand_kept : (old new : SwiftAccount) → KeepsSegments bucket id old new → (list : List SealedPart) → StandSegments bucket id moment list old → StandSegments bucket id moment list new
  stand_kept old new keeps [] stand = tt
  stand_kept old new keeps (p ∷ list) stand =
      (record { body = stand.0.body; etag = stand.0.etag; size = stand.0.size; stands = keeps p.number ∙ stand.0.stands }, stand_kept old new keeps list stand.1)

-- the first ones, and the next
pub own_next : {a b c : History} {bucket : List ℕ} {id : ℕ} {from_bucket : List ℕ} {from_id moment : ℕ} (cut : List Piece) (i : ℕ) (d : Piece) {list list' : List SealedPart} {part : SealedPart}
    → Copying a b bucket id from_bucket from_id moment cut (take i cut) list → i < length cut → is_cut (size_of_cut cut) cut ≡ true → (IsTrue c.observable → IsTrue b.observable)
    → (IsTrue b.observable → StandSegments bucket id moment list (present b)) → PutsOwn bucket id (get_or cut i d).number moment b c (Ok part) → list' ≡ list ++ part ∷ []
    → IsTrue c.observable → StandSegments bucket id moment list' (present c)
own_next {b = b} {c = c} {bucket = bucket} {id = id} {moment = moment} cut i d {list = list} {part = part} copying below is on before own grown observable =
    let at = piece_at i cut d is below in
    let number : ℕ = (get_or cut i d).number in
    let less : list_all (λ (p : SealedPart). nat_lt p.number number) list ≡ true = sym (same_below number list) ∙ ap (list_all (λ (q : Piece). nat_lt q.number number)) copying.listed.pieces ∙ at.below in
    subst (λ l. StandSegments bucket id moment l (present c)) (sym grown)
    (stand_more bucket id moment (present c) list part (stand_stay bucket id moment (present b) (present c) number at.number.within (own.keeps (on observable)) list less (before (on observable))) (own.stands observable))

-- ---- the sub-manifests

pub subs_own_none : (s : Sealed) (h : History) → PutsSubs s 0 h h (Ok tt)
subs_own_none s h = record { keeps = λ observable number. refl; stand = λ observable k never. absurd (omega (arith, never)) }

-- the segments are apart from each sub-manifest
sub_apart : (s : Sealed) (n : ℕ) (old new : SwiftAccount) → KeepsAllBut (segments_name s.bucket) (sub_manifest_name (id_digits s.id) (n + 1)) old new → KeepsSegments s.bucket s.id old new
sub_apart s n old new keeps number = keeps (segments_name s.bucket) (segment_name (id_digits s.id) number) (λ here e. part_no_sub (id_digits s.id) (id_digits s.id) number (n + 1) e)

module _ {s : Sealed} {n : ℕ} {a b : History} (c : History) (on : IsTrue a.observable → IsTrue b.observable) (back : IsTrue c.observable → IsTrue b.observable)
    (keeps : IsTrue b.observable → KeepsAllBut (segments_name s.bucket) (sub_manifest_name (id_digits s.id) (n + 1)) (present b) (present c)) (before : PutsSubs s n a b (Ok tt)) where
  both_keep : IsTrue a.observable → KeepsSegments s.bucket s.id (present a) (present c)
  both_keep observable number = sub_apart s n (present b) (present c) (keeps (on observable)) number ∙ before.keeps observable number

  -- one more
  pub subs_own_next : Stands {T = Unit {0}} c (put_sub_of s n) (Ok tt) → PutsSubs s (n + 1) a c (Ok tt)
  subs_own_next stands = record {
    keeps = both_keep;
    stand = λ observable k below. elim (cases_lt k n) [
      | inl earlier ↦ keeps (back observable) (segments_name s.bucket) (sub_manifest_name (id_digits s.id) (k + 1))
          (λ here e. let same = sub_number (id_digits s.id) (k + 1) (n + 1) e in omega (arith, same, earlier))
          ∙ before.stand (back observable) k earlier
      | inr last ↦ let same : n ≡ k = omega (arith, below, last) in subst (λ m. StandsIn (present c) (put_sub_of s m)) same (stands.so observable)
    ];
  }

  pub subs_own_failed : (f : PlanFault) {most : ℕ} (result : Result (Unit {0}) PlanFault) → IsErrAnd result (λ e. e ≡ f) → PutsSubs s most a c result
  subs_own_failed f {most = most} result is = subst (PutsSubs s most a c) (sym (err_is result f is)) (record { keeps = both_keep; stand = λ observable. tt })

pub subs_own_all : {s : Sealed} {n most : ℕ} {a b : History} → n ≡ most → PutsSubs s n a b (Ok tt) → PutsSubs s most a b (Ok tt)
subs_own_all {s = s} {a = a} {b = b} same own = subst (λ m. PutsSubs s m a b (Ok tt)) same own

pub subs_own_unmade : {s : Sealed} {most : ℕ} {h : History} (f : PlanFault) (result : Result (Unit {0}) PlanFault) → IsErrAnd result (λ e. e ≡ f) → PutsSubs s most h h result
subs_own_unmade {s = s} {most = most} {h = h} f result is = subst (PutsSubs s most h h) (sym (err_is result f is)) (record { keeps = λ observable number. refl; stand = λ observable. tt })

-- ---- the copy

segments_apart : (bucket : List ℕ) → is_bucket bucket ≡ true → segments_name bucket ≡ bucket → ⊥
segments_apart bucket is same = true≢false (sym is ∙ ap is_bucket (sym same) ∙ side_is_none (segments_name bucket) bucket (record { of_bucket = is; is = inr refl }))

module _ {s : Sealed} {a b c : History} (is : is_bucket s.bucket ≡ true) where
  pub listed_own : (IsTrue a.observable → IsTrue b.observable) → (IsTrue b.observable → IsTrue a.observable) → PutsSubs s (sealed_sub_manifests s) a b (Ok tt)
      → LeavesOutside s.bucket b c → (end : Result Reply PlanFault) → PutsWithSubs s a c end
  listed_own on back subs leaves end = record {
    told = λ observable. back (leaves.told observable);
    keeps = λ observable number. leaves.keeps (on observable) (segments_name s.bucket) (segment_name (id_digits s.id) number) (segments_apart s.bucket is) ∙ subs.keeps observable number;
    stand = λ observable. by end (λ k below. leaves.keeps (leaves.told observable) (segments_name s.bucket) (sub_manifest_name (id_digits s.id) (k + 1)) (segments_apart s.bucket is) ∙ subs.stand (leaves.told observable) k below);
  }
    where
      by : (end : Result Reply PlanFault) → StandSubs s (sealed_sub_manifests s) (present c) → IfOk end (λ reply. StandSubs s (sealed_sub_manifests s) (present c))
      by (Ok reply) stand = stand
      by (Err fault) stand = tt

pub listed_own_failed : {s : Sealed} {a b : History} {most : ℕ} (f : PlanFault) {g : PlanFault} → (IsTrue b.observable → IsTrue a.observable) → PutsSubs s most a b (Err g) → (end : Result Reply PlanFault) → IsErrAnd end (λ e. e ≡ f) → PutsWithSubs s a b end
listed_own_failed {s = s} {a = a} {b = b} f back subs end is = subst (PutsWithSubs s a b) (sym (err_is end f is)) (record { told = back; keeps = subs.keeps; stand = λ observable. tt })

-- the parts that were put, and then the copy
pub has_own : {s : Sealed} {b c : History} {bucket key : List ℕ} {id moment : ℕ} {cut walked : List Piece} {list : List SealedPart}
    → s.bucket ≡ bucket → s.key ≡ key → s.id ≡ id → s.moment ≡ moment → s.list ≡ list → walked ≡ cut → AreOfCut walked list → (IsTrue b.observable → StandSegments bucket id moment list (present b))
    → (end : Result Reply PlanFault) → PutsWithSubs s b c end → EnsuresIfDone c (λ tree. StandsIn tree (put_object_of s)) end → EnsuresIfDone c (HasOwnSegments bucket key id cut moment) end
has_own {s = s} {b = b} {c = c} {bucket = bucket} {id = id} {moment = moment} {list = list} in_bucket under_key under_id at_moment listed walked are stand (Ok reply) puts stands = record {
  so = λ observable.
      if_done (λ put. record {
        sealed = s;
        in_bucket = in_bucket;
        under_key = under_key;
        under_id = under_id;
        at_moment = at_moment;
        pieces = ap (map piece_in) listed ∙ are.pieces ∙ walked;
        stands = put;
        subs = puts.stand observable;
        own = subst (λ l. StandSegments bucket id moment l (present c)) (sym listed)
            (stand_kept bucket id moment (present b) (present c) (subst {A = List ℕ × ℕ} (λ x. KeepsSegments x.0 x.1 (present b) (present c)) (λ i. (in_bucket i, under_id i)) (puts.keeps (puts.told observable))) list (stand (puts.told observable)));
      }) reply (stands.so observable);
}
has_own in_bucket under_key under_id at_moment listed walked are stand (Err fault) puts stands = record { so = λ observable. tt }
