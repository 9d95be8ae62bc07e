-- The calls that finish a sealed completion: what each does to the account, and what it leaves.
use Rattle.std.specs.Prelude.{◌≡◌, ◌⊎◌, ◌<◌, ◌+◌, ℕ, Bool, true, false, cond, IsTrue, List, [], codes, Option, None, Some, Result, Ok, Err}
use Rattle.std.specs.FinMap.{get}
use Rattle.std.proofs.Common.{refl, sym, ap, subst, ◌∙◌, inl, inr, arith}
use Rattle.gate_base.proofs.lemmas.Maps.{some_value}
use Rattle.s3_names.specs.Id.{id_digits}
use Rattle.s3_machine.specs.ETag.{body_etag}
use Rattle.swift_calls.specs.Account.{SwiftObject, SwiftAccount, files, find_object, put_file}
use Rattle.swift_calls.specs.Bodies.{etag_of}
use Rattle.swift_calls.specs.History.{History, Calls, present}
use Rattle.swift_calls.specs.Step.{Answer, delete_object, put_object, swift_step}
use Rattle.swift_calls.specs.declared.calls.SwiftFault.{SwiftFault}
use Rattle.swift_calls.specs.declared.calls.SwiftReply.{SwiftReply}
use Rattle.swift_calls.specs.declared.calls.SwiftReply.TheVariants.{Made, There, Gone, Stored, NotFound, Exists, NotEmpty, BadManifest, Unsatisfiable, Containers, Readers, Names, Head, Bytes, Manifest}
use Rattle.swift_calls.specs.declared.calls.SwiftRequest.{SwiftRequest}
use Rattle.swift_calls.specs.declared.calls.SwiftRequest.TheVariants.{DeleteObject, GetObject}
use Rattle.swift_marks.specs.Pack.{pack_of}
use Rattle.swift_marks.specs.Tag.{tag_text}
use Rattle.upload_texts.specs.Records.{read_record, record_text}
use Rattle.upload_texts.specs.Sealed.{read_sealed, has_sealed_text}
use Rattle.upload_texts.specs.declared.sealed.Sealed.{Sealed}
use Rattle.upload_records.specs.Consistent.{IsConsistent, IsStored}
use Rattle.upload_records.specs.Laws.{IsRolled, Rolls, Stands, file_put}
use Rattle.upload_records.specs.Layout.{uploads_name, segments_name, gateway_name, sealed_name, sub_manifest_name}
use Rattle.upload_records.specs.Native.{SameGateway, IsSettled, IsUnsealed, completed_file, object_of, run, seal_of, sealed_object, sealed_record, sealed_segments, sealed_sub_manifests, sealed_tag, sub_file_at, sub_tag, s3_state}
use Rattle.upload_records.proofs.lemmas.Beside.{records_there, same_beside, segments_there}
use Rattle.upload_records.proofs.lemmas.Rolling as rolls
use Rattle.upload_records.proofs.lemmas.Rolling.{TellsNone, TellsSeal, sealed_told}
use Rattle.upload_records.proofs.lemmas.Settled.{same_off, seal_same, settled_same, unsealed_by}
use Rattle.upload_records.proofs.lemmas.SideCalls.{delete_settled, none_sealed}
use Rattle.account_calls.specs.declared.fault.PlanFault.{PlanFault}
use Rattle.account_calls.specs.declared.fault.PlanFault.TheVariants as fault
use Rattle.account_calls.specs.Interpret.{Gives, gone_due, known, stored_due}
use Rattle.account_calls.specs.Puts.{etag_put}
use Rattle.account_calls.specs.Sealed.{put_object_of, put_record_of, put_sub_of, sealed_by, sealed_due, sealed_listing}
use Rattle.account_calls.proofs.lemmas.SealStands.{limits, may_stand, object_stored, record_short, segments_are, sub_stands, sub_stored, takes_list, takes_sub}
use Rattle.account_calls.proofs.lemmas.Etags.{etag_agrees}
use Rattle.account_calls.proofs.lemmas.ListPut.{by_stays, manifest_stays, manifest_step, put_stays, put_step}
use Rattle.account_calls.proofs.lemmas.One.{found, stays_so}
use Rattle.account_calls.proofs.lemmas.Puts.{by_etag, due_of}
use Rattle.account_calls.proofs.lemmas.Quiet.{IsQuietOf, QuietEffect}
use Rattle.account_calls.proofs.lemmas.SideNames.{file_name, id_fits}
use Rattle.recovery.specs.Rolls.{HasGateway, HasObject, HasRecord, HasSubs, IsSealed, KeepsGateway, Leaves, LeavesClear, TellsSealed}

-- ---- the GET of what is sealed

told_of : (tree : SwiftAccount) → TellsNone tree ⊎ ((s : Sealed) × TellsSeal tree s) → IsConsistent tree → QuietEffect tree (GetObject gateway_name sealed_name None) sealed_due TellsSealed
told_of tree (inl none) sound =
    record { told = None; says = ap sealed_due none.reply; sound = sound; same = refl; tells = record { same = refl; is = sym none.none } }
told_of tree (inr (s, seal)) sound =
    record {
      told = Some s;
      says = ap sealed_due seal.reply ∙ ap (λ t. sealed_by t seal.text) seal.own ∙ ap known seal.reads;
      sound = sound;
      same = refl;
      tells = record { same = refl; is = sym seal.seals };
    }

sealed_got : IsQuietOf HasGateway (GetObject gateway_name sealed_name None) sealed_due TellsSealed
sealed_got = record { effect = λ tree sound has. told_of tree (sealed_told tree sound) sound; settled = λ tree settled. settled }

pub gets_sealed : {folder name : List ℕ} → folder ≡ gateway_name → name ≡ sealed_name → IsQuietOf HasGateway (GetObject folder name None) sealed_due TellsSealed
gets_sealed foldered named = subst {A = List ℕ × List ℕ} (λ n. IsQuietOf HasGateway (GetObject n.0 n.1 None) sealed_due TellsSealed) (λ i. (sym foldered i, sym named i)) sealed_got

none_known : (o : Option Sealed) → known o ≡ Ok None → ⊥
none_known None e = cc
none_known (Some s) e = cc

none_told : (lists : Bool) (text : List ℕ) → sealed_by lists text ≡ Ok None → ⊥
none_told true text e = cc
none_told false text e = none_known (read_sealed text) e

absent : (reply : SwiftReply) → sealed_due reply ≡ Ok None → reply ≡ NotFound
absent Made e = cc
absent There e = cc
absent Gone e = cc
absent (Stored etag) e = cc
absent NotFound e = refl
absent Exists e = cc
absent NotEmpty e = cc
absent BadManifest e = cc
absent Unsatisfiable e = cc
absent (Containers names) e = cc
absent (Readers readers created) e = cc
absent (Names items) e = cc
absent (Head head) e = cc
absent (Bytes head body) e = absurd (none_told head.manifest body e)
absent (Manifest segments) e = cc

none_given : (reply : SwiftReply) → Gives (Ok None) (sealed_due reply) → reply ≡ NotFound
none_given reply (inl e) = cc
none_given reply (inr e) = absent reply (sym e)

unsealed_as : {a b : History} {reply : SwiftReply} → Calls a b (GetObject gateway_name sealed_name None) (Ok reply) → IsTrue a.observable → reply ≡ NotFound → IsUnsealed (present b)
unsealed_as {a = a} {b = b} calls observable is =
    let replied = calls.effect observable in
    subst IsUnsealed (sym replied.tree) (none_sealed (b.account_at a.called) (sym replied.reply ∙ is))

-- it leaves the account
pub get_keeps : {a b : History} {folder name : List ℕ} {range : Option (ℕ × ℕ)} {result : Result SwiftReply SwiftFault} → Calls a b (GetObject folder name range) result → KeepsGateway a b
get_keeps calls = stays_so {P = HasGateway} (λ tree has. has) calls

-- over every account the answer that nothing is there says that none is sealed
pub got_none : {a b : History} {folder name : List ℕ} {reply : SwiftReply} {result : Result (Option Sealed) PlanFault} → folder ≡ gateway_name → name ≡ sealed_name → Calls a b (GetObject folder name None) (Ok reply)
    → Gives result (sealed_due reply) → LeavesClear None a b result
got_none {a = a} {b = b} {reply = reply} foldered named calls gives observable has none = record {
  none = unsealed_as (subst {A = List ℕ × List ℕ} (λ n. Calls a b (GetObject n.0 n.1 None) (Ok reply)) (λ i. (foldered i, named i)) calls) observable
      (none_given reply (subst (λ r. Gives r (sealed_due reply)) none gives));
  gateway = get_keeps calls observable has;
}

-- what it told
pub found_sealed : (old new : SwiftAccount) (told : Option Sealed) (s : Sealed) → told ≡ Some s → HasGateway old → TellsSealed old new told → IsSealed s new
found_sealed old new told s is has tells = record { gateway = subst HasGateway (sym tells.same) has; is = ap seal_of tells.same ∙ sym tells.is ∙ is }

pub found_none : (old new : SwiftAccount) (told : Option Sealed) → told ≡ None → HasGateway old → TellsSealed old new told → IsSettled new
found_none old new told is has tells = record { none = unsealed_by new (ap seal_of tells.same ∙ sym tells.is ∙ is); gateway = subst HasGateway (sym tells.same) has }

-- ---- the PUT of a sub-manifest

module _ (tree : SwiftAccount) (s : Sealed) (n : ℕ) (has : has_sealed_text s ≡ true) (below : n < sealed_sub_manifests s) (sound : IsConsistent tree) (given : HasSubs s n tree) where
  abbrev after_sub : SwiftAccount
  after_sub = put_file (segments_name s.bucket) (sub_manifest_name (id_digits s.id) (n + 1)) (sub_file_at s n) tree

  sub_rolled : Rolls tree after_sub
  sub_rolled = rolls.sub_rolls tree s n given.sealed.is below (sub_stands s n has below) (sub_stored s n has below) sound

  sub_answered : swift_step (put_sub_of s n) tree ≡ put_object (Some (some_value (get tree (segments_name s.bucket)) (segments_there tree s.bucket sound (limits s has).bucket (sound.sealed s given.sealed.is).there)).0)
      (segments_name s.bucket) (sub_manifest_name (id_digits s.id) (n + 1)) (sub_file_at s n) tree
  sub_answered =
      let there = some_value (get tree (segments_name s.bucket)) (segments_there tree s.bucket sound (limits s has).bucket (sound.sealed s given.sealed.is).there) in
      manifest_step tree (segments_name s.bucket) (sub_manifest_name (id_digits s.id) (n + 1)) (tag_text (sub_tag s (run n (sealed_segments s)))) [] (run n (sealed_segments s)) there.0 there.1
      (takes_sub s n has below tree (segments_are tree s sound given.sealed.is))

  has_sub : HasSubs s (n + 1) after_sub
  has_sub = record {
    sealed = record { gateway = sub_rolled.gateway.there ∙ given.sealed.gateway; is = seal_same tree after_sub sub_rolled.gateway ∙ given.sealed.is };
    subs = rolls.subs_grow tree s n given.sealed.is below (sub_stands s n has below) (sub_stored s n has below) sound given.subs;
  }

  sub_effect : QuietEffect tree (put_sub_of s n) (stored_due (etag_put (put_sub_of s n))) (Leaves (HasSubs s (n + 1)))
  sub_effect = record {
    told = tt;
    says = ap (λ (a : Answer). stored_due (etag_put (put_sub_of s n)) a.reply) sub_answered ∙ due_of (etag_of (sub_file_at s n).content) (etag_put (put_sub_of s n)) refl;
    sound = subst IsConsistent (sym (ap (λ (a : Answer). a.tree) sub_answered)) sub_rolled.sound;
    same = ap (λ (a : Answer). s3_state a.tree) sub_answered ∙ sub_rolled.same;
    tells = subst (HasSubs s (n + 1)) (sym (ap (λ (a : Answer). a.tree) sub_answered)) has_sub;
  }

pub sub_same : (tree : SwiftAccount) (s : Sealed) (n : ℕ) → has_sealed_text s ≡ true → SameGateway tree (swift_step (put_sub_of s n) tree).tree
sub_same tree s n has = same_beside tree (swift_step (put_sub_of s n) tree).tree s.bucket (segments_name s.bucket) (record { of_bucket = (limits s has).bucket; is = inr refl })
    (manifest_stays tree (segments_name s.bucket) (sub_manifest_name (id_digits s.id) (n + 1)) (tag_text (sub_tag s (run n (sealed_segments s)))) [] (get tree (segments_name s.bucket)) (run n (sealed_segments s)))

sub_put : (s : Sealed) (n : ℕ) → has_sealed_text s ≡ true → n < sealed_sub_manifests s → IsQuietOf (HasSubs s n) (put_sub_of s n) (stored_due (etag_put (put_sub_of s n))) (Leaves (HasSubs s (n + 1)))
sub_put s n has below = record {
  effect = λ tree sound given. sub_effect tree s n has below sound given;
  settled = λ tree. settled_same (sub_same tree s n has);
}

pub puts_sub : {request : SwiftRequest} {s : Sealed} {n : ℕ} → request ≡ put_sub_of s n → has_sealed_text s ≡ true → n < sealed_sub_manifests s
    → IsQuietOf (HasSubs s n) request (stored_due (etag_put request)) (Leaves (HasSubs s (n + 1)))
puts_sub {s = s} {n = n} same has below = subst (λ r. IsQuietOf (HasSubs s n) r (stored_due (etag_put r)) (Leaves (HasSubs s (n + 1)))) (sym same) (sub_put s n has below)

pub sub_keeps : {a b : History} {request : SwiftRequest} (s : Sealed) (n : ℕ) {result : Result SwiftReply SwiftFault} → request ≡ put_sub_of s n → has_sealed_text s ≡ true → Calls a b request result → KeepsGateway a b
sub_keeps {a = a} {b = b} s n {result = result} same has calls =
    stays_so {P = HasGateway} (λ tree there. (sub_same tree s n has).there ∙ there) (subst (λ r. Calls a b r result) same calls)

-- none is asked for at first
pub no_subs : (old new : SwiftAccount) (s : Sealed) → new ≡ old → IsSealed s old → HasSubs s 0 new
no_subs old new s same sealed = subst (HasSubs s 0) (sym same) (record { sealed = sealed; subs = λ n below. absurd (omega (arith, below)) })

-- ---- the PUT of its object

module _ (tree : SwiftAccount) (s : Sealed) (has : has_sealed_text s ≡ true) (sound : IsConsistent tree) (given : HasSubs s (sealed_sub_manifests s) tree) where
  abbrev after_object : SwiftAccount
  after_object = put_file s.bucket s.key (completed_file s) tree

  stands : Stands (files tree (segments_name s.bucket)) s (completed_file s)
  stands = rolls.completed_stands (files tree (segments_name s.bucket)) s (may_stand tree s sound given.sealed.is given.subs)

  object_rolled : Rolls tree after_object
  object_rolled = rolls.object_rolls tree s (completed_file s) given.sealed.is stands.is stands.lists (object_stored s has) sound

  object_answered : swift_step (put_object_of s) tree ≡ put_object (Some (some_value (get tree s.bucket) (sound.sealed s given.sealed.is).there).0) s.bucket s.key (completed_file s) tree
  object_answered =
      let there = some_value (get tree s.bucket) (sound.sealed s given.sealed.is).there in
      put_step tree s.bucket s.key (tag_text (sealed_tag s)) (pack_of s.meta) (sealed_listing s) there.0 there.1 (takes_list tree s sound given.sealed.is given.subs)

  has_object : HasObject s after_object
  has_object = record {
    sealed = record { gateway = object_rolled.gateway.there ∙ given.sealed.gateway; is = seal_same tree after_object object_rolled.gateway ∙ given.sealed.is };
    file = completed_file s;
    there = rolls.object_there tree s (completed_file s) given.sealed.is stands.is stands.lists (object_stored s has) sound;
    stands = subst (λ fs. object_of fs s.key (completed_file s) ≡ Some (sealed_object fs s))
        (sym (rolls.object_segments tree s (completed_file s) given.sealed.is stands.is stands.lists (object_stored s has) sound)) stands.reads;
  }

  object_effect : QuietEffect tree (put_object_of s) (stored_due (etag_put (put_object_of s))) (Leaves (HasObject s))
  object_effect = record {
    told = tt;
    says = ap (λ (a : Answer). stored_due (etag_put (put_object_of s)) a.reply) object_answered
        ∙ due_of (etag_of (completed_file s).content) (etag_put (put_object_of s)) (by_etag s.bucket s.key (tag_text (sealed_tag s)) (pack_of s.meta) (sealed_listing s));
    sound = subst IsConsistent (sym (ap (λ (a : Answer). a.tree) object_answered)) object_rolled.sound;
    same = ap (λ (a : Answer). s3_state a.tree) object_answered ∙ object_rolled.same;
    tells = subst (HasObject s) (sym (ap (λ (a : Answer). a.tree) object_answered)) has_object;
  }

pub object_same : (tree : SwiftAccount) (s : Sealed) → has_sealed_text s ≡ true → SameGateway tree (swift_step (put_object_of s) tree).tree
object_same tree s has = same_off tree (swift_step (put_object_of s) tree).tree s.bucket (limits s has).bucket (by_stays tree s.bucket s.key (tag_text (sealed_tag s)) (pack_of s.meta) (sealed_listing s))

object_put : (s : Sealed) → has_sealed_text s ≡ true → IsQuietOf (HasSubs s (sealed_sub_manifests s)) (put_object_of s) (stored_due (etag_put (put_object_of s))) (Leaves (HasObject s))
object_put s has = record {
  effect = λ tree sound given. object_effect tree s has sound given;
  settled = λ tree. settled_same (object_same tree s has);
}

pub puts_object : {request : SwiftRequest} {s : Sealed} → request ≡ put_object_of s → has_sealed_text s ≡ true
    → IsQuietOf (HasSubs s (sealed_sub_manifests s)) request (stored_due (etag_put request)) (Leaves (HasObject s))
puts_object {s = s} same has = subst (λ r. IsQuietOf (HasSubs s (sealed_sub_manifests s)) r (stored_due (etag_put r)) (Leaves (HasObject s))) (sym same) (object_put s has)

pub object_keeps : {a b : History} {request : SwiftRequest} (s : Sealed) {result : Result SwiftReply SwiftFault} → request ≡ put_object_of s → has_sealed_text s ≡ true → Calls a b request result → KeepsGateway a b
object_keeps {a = a} {b = b} s {result = result} same has calls =
    stays_so {P = HasGateway} (λ tree there. (object_same tree s has).there ∙ there) (subst (λ r. Calls a b r result) same calls)

-- ---- the PUT of its record

-- the text of the record is read as it
abbrev pub Written : Sealed → Type 0
Written s = read_record (record_text (sealed_record s)) ≡ Some (sealed_record s)

module _ (tree : SwiftAccount) (s : Sealed) (has : has_sealed_text s ≡ true) (written : Written s) (sound : IsConsistent tree) (given : HasObject s tree) where
  abbrev kept_file : SwiftObject
  kept_file = file_put (codes "application/json") [] (record_text (sealed_record s))

  abbrev after_record : SwiftAccount
  after_record = (swift_step (put_record_of s) tree).tree

  stored : IsStored (id_digits s.id) kept_file
  stored = let short = record_short s has in record { named = file_name (id_digits s.id) (id_fits s.id); sized = omega (arith, short) }

  record_rolled : Rolls tree after_record
  record_rolled = rolls.record_rolls tree s (codes "application/json") [] (record_text (sealed_record s)) given.sealed.is written stored sound

  has_record : HasRecord s after_record
  has_record = record {
    object = record {
      sealed = record { gateway = record_rolled.gateway.there ∙ given.sealed.gateway; is = seal_same tree after_record record_rolled.gateway ∙ given.sealed.is };
      file = given.file;
      there = rolls.record_object tree s (codes "application/json") [] (record_text (sealed_record s)) given.sealed.is written stored sound ∙ given.there;
      stands = subst (λ fs. object_of fs s.key given.file ≡ Some (sealed_object fs s))
          (sym (rolls.record_segments tree s (codes "application/json") [] (record_text (sealed_record s)) given.sealed.is written stored sound)) given.stands;
    };
    kept = rolls.record_there tree s (codes "application/json") [] (record_text (sealed_record s)) given.sealed.is written stored sound;
  }

  record_effect : QuietEffect tree (put_record_of s) (stored_due (body_etag (record_text (sealed_record s)))) (Leaves (HasRecord s))
  record_effect =
      let there = some_value (get tree (uploads_name s.bucket)) (records_there tree s.bucket sound (limits s has).bucket (sound.sealed s given.sealed.is).there) in
      record {
        told = tt;
        says = ap (λ o. stored_due (body_etag (record_text (sealed_record s))) (put_object o (uploads_name s.bucket) (id_digits s.id) kept_file tree).reply) there.1
            ∙ ap (λ t. cond t (Ok tt) (Err fault.Inconsistent)) (etag_agrees (record_text (sealed_record s)));
        sound = record_rolled.sound;
        same = record_rolled.same;
        tells = has_record;
      }

pub record_same : (tree : SwiftAccount) (s : Sealed) → has_sealed_text s ≡ true → SameGateway tree (swift_step (put_record_of s) tree).tree
record_same tree s has = same_beside tree (swift_step (put_record_of s) tree).tree s.bucket (uploads_name s.bucket) (record { of_bucket = (limits s has).bucket; is = inl refl })
    (put_stays tree (uploads_name s.bucket) (id_digits s.id) (codes "application/json") [] (get tree (uploads_name s.bucket)) (file_put (codes "application/json") [] (record_text (sealed_record s))))

record_put : (s : Sealed) → has_sealed_text s ≡ true → Written s → IsQuietOf (HasObject s) (put_record_of s) (stored_due (body_etag (record_text (sealed_record s)))) (Leaves (HasRecord s))
record_put s has written = record {
  effect = λ tree sound given. record_effect tree s has written sound given;
  settled = λ tree. settled_same (record_same tree s has);
}

pub puts_record : {request : SwiftRequest} {s : Sealed} → request ≡ put_record_of s → has_sealed_text s ≡ true → Written s
    → IsQuietOf (HasObject s) request (stored_due (body_etag (record_text (sealed_record s)))) (Leaves (HasRecord s))
puts_record {s = s} same has written =
    subst (λ r. IsQuietOf (HasObject s) r (stored_due (body_etag (record_text (sealed_record s)))) (Leaves (HasRecord s))) (sym same) (record_put s has written)

pub record_keeps : {a b : History} {request : SwiftRequest} (s : Sealed) {result : Result SwiftReply SwiftFault} → request ≡ put_record_of s → has_sealed_text s ≡ true → Calls a b request result → KeepsGateway a b
record_keeps {a = a} {b = b} s {result = result} same has calls =
    stays_so {P = HasGateway} (λ tree there. (record_same tree s has).there ∙ there) (subst (λ r. Calls a b r result) same calls)

-- the text that was written is the record's
pub written_by : (s : Sealed) (text : List ℕ) → text ≡ record_text (sealed_record s) → read_record text ≡ Some (sealed_record s) → read_record (record_text (sealed_record s)) ≡ Some (sealed_record s)
written_by s text is reads = subst (λ t. read_record t ≡ Some (sealed_record s)) is reads

-- ---- the DELETE of what is sealed

gone_says : (o : Option SwiftObject) (tree : SwiftAccount) → gone_due (delete_object o gateway_name sealed_name tree).reply ≡ Ok tt
gone_says None tree = refl
gone_says (Some file) tree = refl

sealed_gone : (s : Sealed) → IsQuietOf (HasRecord s) (DeleteObject gateway_name sealed_name) gone_due (Leaves IsSettled)
sealed_gone s = record {
  effect = λ tree sound given.
      let rolled : IsRolled tree s = record { file = given.object.file; there = given.object.there; stands = given.object.stands; recorded = given.kept } in
      let done = rolls.seal_rolls tree s given.object.sealed.is rolled sound in
      record {
        told = tt;
        says = gone_says (find_object tree gateway_name sealed_name) tree;
        sound = done.sound;
        same = done.same;
        tells = record { none = done.none; gateway = rolls.delete_there tree given.object.sealed.gateway };
      };
  settled = λ tree settled. delete_settled tree gateway_name sealed_name settled;
}

pub deletes_sealed : {folder name : List ℕ} (s : Sealed) → folder ≡ gateway_name → name ≡ sealed_name → IsQuietOf (HasRecord s) (DeleteObject folder name) gone_due (Leaves IsSettled)
deletes_sealed s foldered named = subst {A = List ℕ × List ℕ} (λ n. IsQuietOf (HasRecord s) (DeleteObject n.0 n.1) gone_due (Leaves IsSettled)) (λ i. (sym foldered i, sym named i)) (sealed_gone s)

-- both names are those of what is sealed
abbrev pub called_so : List ℕ → List ℕ → History → History → Result SwiftReply SwiftFault → Type 0
called_so folder name a b result = Calls a b (DeleteObject folder name) result

pub so_called : {a b : History} {folder name : List ℕ} {result : Result SwiftReply SwiftFault} → folder ≡ gateway_name → name ≡ sealed_name → called_so folder name a b result → called_so gateway_name sealed_name a b result
so_called {a = a} {b = b} {result = result} foldered named calls = subst {A = List ℕ × List ℕ} (λ n. called_so n.0 n.1 a b result) (λ i. (foldered i, named i)) calls

-- it leaves the container
pub delete_keeps : {a b : History} {folder name : List ℕ} {result : Result SwiftReply SwiftFault} → folder ≡ gateway_name → name ≡ sealed_name → Calls a b (DeleteObject folder name) result → KeepsGateway a b
delete_keeps foldered named calls = stays_so {P = HasGateway} rolls.delete_there (so_called foldered named calls)

gone_by : {a b : History} {reply : SwiftReply} → called_so gateway_name sealed_name a b (Ok reply) → IsTrue a.observable → HasGateway (present a) → IsSettled (present b)
gone_by {a = a} {b = b} calls observable has =
    subst IsSettled (sym (calls.effect observable).tree) (rolls.delete_unseals (b.account_at a.called) (subst HasGateway (sym (found calls observable)) has))

-- over every account that has it none is sealed after an answer
pub deleted : {a b : History} {folder name : List ℕ} {reply : SwiftReply} → folder ≡ gateway_name → name ≡ sealed_name → Calls a b (DeleteObject folder name) (Ok reply)
    → IsTrue a.observable → HasGateway (present a) → IsSettled (present b)
deleted foldered named calls = gone_by (so_called foldered named calls)
