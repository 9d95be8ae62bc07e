-- What the calls on an object's file tell of the object, and do to it.
use Rattle.std.proofs.lemmas.Bool.{and_from, eq-eqb}
use Rattle.std.proofs.lemmas.Slice.Eq.{bytes_eq-Decides}
use Rattle.std.proofs.lemmas.Option.{same_Some}
use Rattle.std.specs.Prelude.{◌≡◌, ◌<◌, ℕ, cond, List, length, true, Option, Some, None, Ok, Err, is_some}
use Rattle.std.specs.Option.{option_and_then, option_map}
use Rattle.std.specs.FinMap.{get}
use Rattle.std.proofs.Common.{refl, sym, ap, subst, ◌∙◌, arith}
use Rattle.gate_base.proofs.lemmas.Maps.{some_value}
use Rattle.gate_base.specs.Told.{moment_limit}
use Rattle.gate_base.specs.Maps.{Names}
use Rattle.gate_base.specs.declared.page.Pair.{Pair}
use Rattle.s3_names.specs.Bucket.{is_bucket}
use Rattle.s3_names.specs.Key.{is_key}
use Rattle.s3_names.specs.Meta.{names_ascend}
use Rattle.s3_names.specs.declared.acl.Acl.{Acl}
use Rattle.s3_machine.specs.declared.operation.ObjectHead.{ObjectHead}
use Rattle.s3_machine.specs.ETag.{body_etag}
use Rattle.s3_machine.specs.Proper.{IsProperContent}
use Rattle.s3_machine.specs.Step.{head_of}
use Rattle.swift_calls.specs.Account.{SwiftObject, SwiftContainer, SwiftAccount, files, find_object, size_of}
use Rattle.swift_calls.specs.Bodies.{bytes_of, etag_text, ranged}
use Rattle.swift_calls.specs.Bodies as bodies
use Rattle.swift_calls.specs.Step.{Answer, swift_step, head_reply, get_reply, body_reply, part_reply, delete_object}
use Rattle.swift_calls.specs.Step as store
use Rattle.swift_calls.specs.declared.calls.SwiftRequest.{SwiftRequest}
use Rattle.swift_calls.specs.declared.calls.SwiftRequest.TheVariants.{HeadObject, GetObject, DeleteObject}
use Rattle.swift_calls.specs.declared.calls.SwiftReply.{SwiftReply}
use Rattle.swift_calls.specs.declared.heads.StoredHead.{StoredHead}
use Rattle.swift_marks.specs.Tag.{tag_text}
use Rattle.swift_marks.specs.Pack.{pack_of}
use Rattle.swift_marks.proofs.lemmas.TagLaws.{tag_text_reads}
use Rattle.swift_marks.proofs.lemmas.PackLaws.{pack_unpacks}
use Rattle.upload_records.specs.Layout.{segments_name}
use Rattle.upload_records.specs.Native.{SameGateway, object_at, IsSettled, s3_state}
use Rattle.upload_records.specs.Consistent.{IsConsistent, IsPlainObject, IsStored}
use Rattle.upload_records.specs.Laws.{ChangesBy, FindsObject, file_put}
use Rattle.upload_records.proofs.lemmas.Buckets.{s3_state_there}
use Rattle.upload_records.proofs.lemmas.Objects.{found, object_put, object_gone}
use Rattle.upload_records.proofs.lemmas.Off.{same_put_file, same_delete_file}
use Rattle.upload_records.proofs.lemmas.Settled.{unsealed_of, settled_same}
use Rattle.account_calls.specs.Calls.{Given, TellsBucket, TellsObject, TellsBytes, HasObject, acl_of_bucket, bytes_in, Any, Becomes, HasBucket, puts_object, drops_object}
use Rattle.account_calls.specs.declared.fault.PlanFault.TheVariants.{Inconsistent}
use Rattle.account_calls.specs.Interpret.{object_head_agrees_with_tag, known, head_by, head_due, unchanged_by, is_unchanged, bytes_due, stored_due, gone_due, plain_tag, put_of}
use Rattle.account_calls.proofs.lemmas.Etags.{etag_agrees}
use Rattle.account_calls.proofs.lemmas.Fits.{has_a_pack, tag_has_text}
use Rattle.account_calls.proofs.lemmas.Forms.{Says, object_said, said, says_of}
use Rattle.account_calls.proofs.lemmas.Names.{object_name}
use Rattle.account_calls.proofs.lemmas.One.{IsReadingOf, IsReading, Effect, IsWriting}

-- ---- HEAD and GET

-- the bytes of a range, of which there may be none
part_due : (etag : List ℕ) (size : ℕ) (head : StoredHead) (part : Option (List ℕ)) → is_unchanged etag size head ≡ true → bytes_due etag size (part_reply head part) ≡ Ok part
part_due etag size head None same = refl
part_due etag size head (Some bytes) same = ap (λ t. cond t (Ok (Some bytes)) (Err Inconsistent)) same

-- the head that a file says has these
said_head : {segments : Names SwiftObject} {folder : List ℕ} {file : SwiftObject} (says : Says segments folder file)
    → record { etag = says.tag.etag; modified = says.tag.moment; size = size_of file.content; content_type = says.tag.content_type; meta = says.meta } ≡ head_of (object_said says)
said_head says = λ i. record { etag = says.tag.etag; modified = says.tag.moment; size = says.sized i; content_type = says.tag.content_type; meta = says.meta }

-- a file that says this ETag and this size
said_unchanged : {segments : Names SwiftObject} {folder : List ℕ} {file : SwiftObject} (says : Says segments folder file) → object_head_agrees_with_tag (bodies.head_of file) says.tag ≡ true
    → (etag : List ℕ) (size : ℕ) → says.tag.etag ≡ etag → length says.bytes ≡ size → is_unchanged etag size (bodies.head_of file) ≡ true
said_unchanged {file = file} says agreed etag size same_etag same_size =
    ap (unchanged_by etag size (bodies.head_of file)) says.tagged
    ∙ and_from _ _ (and_from _ _ agreed ((bytes_eq-Decides says.tag.etag etag).1 same_etag)) (eq-eqb (size_of file.content) size (says.sized ∙ same_size))

module _ (tree : SwiftAccount) (bucket key : List ℕ) (sound : IsConsistent tree) where
  abbrev segments : Names SwiftObject
  segments = files tree (segments_name bucket)

  module _ (file : SwiftObject) (at : find_object tree bucket key ≡ Some file) (found : FindsObject tree bucket key (Some file)) where
    says : Says segments (segments_name bucket) file
    says = says_of segments (segments_name bucket) file key found.0

    -- what is found of an object is what its file says
    there_says : object_at (get (s3_state tree) bucket) key ≡ Some (object_said says)
    there_says = found.3 ∙ sym found.2 ∙ said key says

    agrees_there : object_head_agrees_with_tag (bodies.head_of file) says.tag ≡ true
    agrees_there = says.as_tagged (sound.stored bucket key file at).sized

  head_told_by : (o : Option SwiftObject) → find_object tree bucket key ≡ o → FindsObject tree bucket key o → (reply : SwiftReply) → reply ≡ head_reply o
      → (told : Option ObjectHead) × (head_due reply ≡ Ok told) × TellsObject bucket key (s3_state tree) told
  head_told_by None at none reply e = (None, ap head_due e, ap (option_map head_of) none)
  head_told_by (Some file) at found reply e =
      let now = says file at found in (
        Some (head_of (object_said now)),
        ap head_due e
            ∙ (λ i. known (head_by (bodies.head_of file) (now.tagged i) (now.packed i)))
            ∙ ap (λ t. known (cond t (Some (record { etag = now.tag.etag; modified = now.tag.moment; size = size_of file.content; content_type = now.tag.content_type; meta = now.meta })) None)) (agrees_there file at found)
            ∙ ap (λ head. known (Some head)) (said_head now),
        ap (option_map head_of) (there_says file at found),
      )

  module _ (etag : List ℕ) (size : ℕ) (has : HasObject bucket key etag size (s3_state tree)) where
    -- the file of the object that is there
    file_unchanged : (file : SwiftObject) → find_object tree bucket key ≡ Some file → (found : FindsObject tree bucket key (Some file)) → is_unchanged etag size (bodies.head_of file) ≡ true
    file_unchanged file at found =
        let now = says file at found in
        let is : head_of (object_said now) ≡ has.0 = same_Some _ _ (sym (ap (option_map head_of) (there_says file at found)) ∙ has.1) in
        said_unchanged now (agrees_there file at found) etag size (ap (λ (h : ObjectHead). h.etag) is ∙ has.2) (ap (λ (h : ObjectHead). h.size) is ∙ has.3)

    bytes_told_by : (range : Option (ℕ × ℕ)) (o : Option SwiftObject) → find_object tree bucket key ≡ o → FindsObject tree bucket key o → (reply : SwiftReply) → reply ≡ get_reply (find_object tree) range o
        → (told : Option (List ℕ)) × (bytes_due etag size reply ≡ Ok told) × TellsBytes bucket key range (s3_state tree) told
    bytes_told_by range None at none reply e = (None, ap (bytes_due etag size) e, ap (λ o. option_and_then (ranged range) (option_map bytes_in o)) none)
    bytes_told_by range (Some file) at found reply e =
        let now = says file at found in (
          ranged range now.bytes,
          ap (bytes_due etag size) e
              ∙ ap (λ b. bytes_due etag size (body_reply (bodies.head_of file) range b)) (now.over (find_object tree) (λ name f there. there))
              ∙ part_due etag size (bodies.head_of file) (ranged range now.bytes) (file_unchanged file at found),
          ap (λ o. option_and_then (ranged range) (option_map bytes_in o)) (there_says file at found),
        )

module _ (tree : SwiftAccount) (container name bucket key : List ℕ) (named : container ≡ bucket) (under : name ≡ key) (is : is_bucket bucket ≡ true) (sound : IsConsistent tree) (settled : IsSettled tree) where
  same_file : find_object tree container name ≡ find_object tree bucket key
  same_file = λ i. find_object tree (named i) (under i)

  head_tells : (reply : SwiftReply) → reply ≡ (swift_step (HeadObject container name) tree).reply → (told : Option ObjectHead) × (head_due reply ≡ Ok told) × TellsObject bucket key (s3_state tree) told
  head_tells reply replied = head_told_by tree bucket key sound (find_object tree bucket key) refl (found tree bucket key is sound (unsealed_of settled)) reply (replied ∙ ap head_reply same_file)

  get_tells : (etag : List ℕ) (size : ℕ) → HasObject bucket key etag size (s3_state tree) → (range : Option (ℕ × ℕ)) (reply : SwiftReply) → reply ≡ (swift_step (GetObject container name range) tree).reply
      → (told : Option (List ℕ)) × (bytes_due etag size reply ≡ Ok told) × TellsBytes bucket key range (s3_state tree) told
  get_tells etag size has range reply replied =
      bytes_told_by tree bucket key sound etag size has range (find_object tree bucket key) refl (found tree bucket key is sound (unsealed_of settled)) reply (replied ∙ ap (get_reply (find_object tree) range) same_file)

module _ {container name bucket key : List ℕ} (named : container ≡ bucket) (under : name ≡ key) (is : is_bucket bucket ≡ true) where
  -- HEAD of an object's file tells of its head
  pub head_reads : IsReading (HeadObject container name) head_due (TellsObject bucket key)
  head_reads = record {
    leaves = λ tree. refl;
    tells = λ tree sound settled reply replied. head_tells tree container name bucket key named under is sound settled reply replied;
  }

  -- GET of it tells of its bytes, or of those of a range, where the object has the ETag and the size that HEAD told
  pub get_reads : {etag : List ℕ} {size : ℕ} {range : Option (ℕ × ℕ)}
      → IsReadingOf (Given (HasObject bucket key etag size)) (GetObject container name range) (bytes_due etag size) (λ tree. TellsBytes bucket key range (s3_state tree))
  get_reads {etag = etag} {size = size} {range = range} = record {
    leaves = λ tree. refl;
    tells = λ tree sound given reply replied. get_tells tree container name bucket key named under is sound given.settled etag size given.is range reply replied;
  }

-- ---- PUT

-- the request, for an object's own name, content, metadata and body
pub record IsPutOf (request : SwiftRequest) (bucket key content_type : List ℕ) (meta : List Pair) (body : List ℕ) (moment : ℕ) : Type 0 where
  pub same : request ≡ put_of bucket key content_type meta body moment
  pub is : is_bucket bucket ≡ true
  pub keyed : is_key key ≡ true
  pub content : IsProperContent content_type meta body
  pub ascend : names_ascend meta ≡ true
  pub below : moment < moment_limit

-- the file of an object as it is put
abbrev file_of_put : List ℕ → List Pair → List ℕ → ℕ → SwiftObject
file_of_put content_type meta body moment = file_put (tag_text (plain_tag content_type (body_etag body) moment)) (pack_of meta) body

is_there : {X Y : Type 0} (f : X → Y) (o : Option X) (y : Y) → option_map f o ≡ Some y → is_some o ≡ true
is_there f None y e = cc
is_there f (Some x) y e = refl

-- a bucket that is there has its container
container_there : (tree : SwiftAccount) (bucket : List ℕ) (acl : Acl) → is_bucket bucket ≡ true → IsSettled tree → TellsBucket bucket (s3_state tree) (Some acl) → (folder : SwiftContainer) × (get tree bucket ≡ Some folder)
container_there tree bucket acl is settled told = some_value (get tree bucket) (sym (s3_state_there tree bucket is (unsealed_of settled)) ∙ is_there acl_of_bucket (get (s3_state tree) bucket) acl told)

module _ (tree : SwiftAccount) (request : SwiftRequest) (bucket key content_type : List ℕ) (meta : List Pair) (body : List ℕ) (moment : ℕ)
    (put : IsPutOf request bucket key content_type meta body moment) (sound : IsConsistent tree) (settled : IsSettled tree) (acl : Acl) (told : TellsBucket bucket (s3_state tree) (Some acl)) where
  there : (folder : SwiftContainer) × (get tree bucket ≡ Some folder)
  there = container_there tree bucket acl put.is settled told

  abbrev plain_file : IsPlainObject (file_of_put content_type meta body moment)
  plain_file = record {
    bytes = body;
    content_type = content_type;
    meta = meta;
    moment = moment;
    own = refl;
    sized = put.content.sized;
    tagged = tag_text_reads (plain_tag content_type (body_etag body) moment) (tag_has_text content_type (body_etag body) body moment put.content.typed refl put.below);
    packed = pack_unpacks meta (has_a_pack meta put.content.described put.ascend);
    described = put.content.described;
  }

  stored : IsStored key (file_of_put content_type meta body moment)
  stored =
      let name_is = object_name key put.keyed in
      let sized = put.content.sized in
      record {
        named = record { filled = name_is.0; within = name_is.1.within; text = name_is.1.utf8; no_zero = name_is.1.no_zero };
        sized = (omega (arith, sized));
      }

  answered : swift_step request tree ≡ store.put_object (Some there.0) bucket key (file_of_put content_type meta body moment) tree
  answered = ap (λ r. swift_step r tree) put.same ∙ ap (λ o. store.put_object o bucket key (file_of_put content_type meta body moment) tree) there.1

  -- the object is put, and the store says so
  put_effect : Effect tree request (stored_due (body_etag body)) (Becomes (puts_object bucket key content_type meta body moment))
  put_effect =
      let done : ChangesBy tree (put_of bucket key content_type meta body moment) (puts_object bucket key content_type meta body moment)
      = object_put tree bucket key (tag_text (plain_tag content_type (body_etag body) moment)) (pack_of meta) body plain_file put.is put.keyed stored sound (unsealed_of settled) in
      let same : (swift_step request tree).tree ≡ (swift_step (put_of bucket key content_type meta body moment) tree).tree = ap (λ r. (swift_step r tree).tree) put.same in
      record {
        answer = tt;
        says = ap (λ (a : Answer). stored_due (body_etag body) a.reply) answered ∙ ap (λ t. cond t (Ok tt) (Err Inconsistent)) (etag_agrees body);
        after = subst IsConsistent (sym same) done.sound;
        state = ap s3_state same ∙ done.state;
      }

-- PUT of an object's file puts the object, into a bucket that is there
pub puts : {request : SwiftRequest} {bucket key content_type : List ℕ} {meta : List Pair} {body : List ℕ} {moment : ℕ} → IsPutOf request bucket key content_type meta body moment
    → IsWriting request (stored_due (body_etag body)) (HasBucket bucket) (Becomes (puts_object bucket key content_type meta body moment))
puts {request = request} {bucket = bucket} {key = key} {content_type = content_type} {meta = meta} {body = body} {moment = moment} put = record {
  effect = λ tree sound settled has. put_effect tree request bucket key content_type meta body moment put sound settled has.0 has.1;
  settled = λ tree. settled_same (subst (λ r. SameGateway tree (swift_step r tree).tree) (sym put.same) (same_put_file tree bucket put.is key (tag_text (plain_tag content_type (body_etag body) moment)) (pack_of meta) body));
}

-- ---- DELETE

gone_by : (tree : SwiftAccount) (bucket key : List ℕ) (o : Option SwiftObject) → gone_due (delete_object o bucket key tree).reply ≡ Ok tt
gone_by tree bucket key None = refl
gone_by tree bucket key (Some file) = refl

module _ (tree : SwiftAccount) (container name bucket key : List ℕ) (named : container ≡ bucket) (under : name ≡ key) (is : is_bucket bucket ≡ true) where
  same_step : swift_step (DeleteObject container name) tree ≡ swift_step (DeleteObject bucket key) tree
  same_step = λ i. swift_step (DeleteObject (named i) (under i)) tree

  delete_effect : IsConsistent tree → IsSettled tree → Effect tree (DeleteObject container name) gone_due (Becomes (drops_object bucket key))
  delete_effect sound settled =
      let done = object_gone tree bucket key is sound (unsealed_of settled) in
      record {
        answer = tt;
        says = ap (λ (a : Answer). gone_due a.reply) same_step ∙ gone_by tree bucket key (find_object tree bucket key);
        after = subst IsConsistent (sym (ap (λ (a : Answer). a.tree) same_step)) done.sound;
        state = ap (λ (a : Answer). s3_state a.tree) same_step ∙ done.state;
      }

  delete_gateway : SameGateway tree (swift_step (DeleteObject container name) tree).tree
  delete_gateway = subst (SameGateway tree) (sym (ap (λ (a : Answer). a.tree) same_step)) (same_delete_file tree bucket is key)

-- DELETE of an object's file deletes the object
pub deletes : {container name bucket key : List ℕ} → container ≡ bucket → name ≡ key → is_bucket bucket ≡ true → IsWriting (DeleteObject container name) gone_due Any (Becomes (drops_object bucket key))
deletes {container = container} {name = name} {bucket = bucket} {key = key} named under is = record {
  effect = λ tree sound settled any. delete_effect tree container name bucket key named under is sound settled;
  settled = λ tree. settled_same (delete_gateway tree container name bucket key named under is);
}
