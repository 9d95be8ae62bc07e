-- The calls on the containers beside a bucket, and on the gateway's own, that leave the state: what is consistent after them, and
-- that accounts on which no completion is sealed stay such.
use Rattle.std.specs.Prelude.{◌≡◌, ◌==◌, ℕ, true, false, List, [], ◌∷◌, ◌++◌, length, Option, None, Some}
use Rattle.std.specs.Option.{option_and_then}
use Rattle.std.specs.FinMap.{get, remove}
use Rattle.std.specs.Ordering.{eq_by_cmp}
use Rattle.std.proofs.Common.{refl, sym, ap, subst, ◌∙◌, inl, inr, arith}
use Rattle.std.proofs.lemmas.Bool.{and_parts, eqb-true}
use Rattle.gate_base.specs.Maps.{name_cmp}
use Rattle.gate_base.proofs.lemmas.Maps.{by_name, same_key, at_adjust, off_adjust, removed_is}
use Rattle.s3_names.specs.Bucket.{is_bucket}
use Rattle.s3_names.specs.Id.{id_digits}
use Rattle.s3_names.proofs.lemmas.Ids.{length-id_digits}
use Rattle.s3_machine.specs.Items.{begins}
use Rattle.swift_calls.specs.declared.account.Content.{Content}
use Rattle.swift_calls.specs.declared.account.Content.TheVariants.{Plain, Segments}
use Rattle.swift_calls.specs.declared.account.ReadList.{ReadList}
use Rattle.swift_calls.specs.declared.account.ReadList.TheVariants.{Nobody}
use Rattle.swift_calls.specs.declared.calls.SwiftRequest.TheVariants.{PutContainer, GetObject, DeleteObject}
use Rattle.swift_calls.specs.declared.calls.SwiftReply.TheVariants.{NotFound}
use Rattle.swift_calls.specs.Account.{SwiftObject, SwiftAccount, files, files_of, find_object, on_files, remove_file}
use Rattle.swift_calls.specs.Bodies.{Look, bytes_of, head_of, plain_bytes}
use Rattle.swift_calls.specs.Step.{swift_step, body_reply, get_reply, delete_object}
use Rattle.upload_texts.specs.Sealed.{read_sealed}
use Rattle.upload_records.specs.Layout.{uploads_name, segments_name, gateway_name, sealed_name, segment_name, segments_prefix, sub_manifest_name, five_digits}
use Rattle.upload_records.specs.Native.{record_at, seal_by, seal_of, SameGateway, IsUnsealed, IsSettled, s3_state}
use Rattle.upload_records.specs.Consistent.{IsBeside, IsSegment, is_part, is_sub_manifest, IsOpen, sealed_in, sealed_id, IsThere, IsConsistent}
use Rattle.upload_records.specs.Laws.{IsQuiet, MakesSide, LeavesContainers, IsAbandoned, IsNameUnder, of_part, of_sub_manifest, MakesGateway, StaysThere}
use Rattle.upload_records.proofs.lemmas.Settled.{same_apart, same_none, seal_holds, seal_none, settled_same, unsealed_by}
use Rattle.upload_records.proofs.lemmas.Objects.{delete_leaves}
use Rattle.upload_records.proofs.lemmas.Off.{put_off}
use Rattle.upload_records.proofs.Carried.{found_after, none_found}
use Rattle.upload_records.proofs.GatewayPut as gateway
use Rattle.upload_records.proofs.SideCalls as side
use Rattle.upload_records.proofs.lemmas.Sides.{gateway_side, part_no_sub, segments_uploads, sub_id}

-- ---- the two containers

pub sides_apart : (b : List ℕ) → is_bucket b ≡ true → eq_by_cmp name_cmp (segments_name b) (uploads_name b) ≡ false
sides_apart b is = segments_uploads b b is is

-- ---- the PUT of a container beside a bucket

pub side_made : (tree : SwiftAccount) (b c : List ℕ) (created : Option ℕ) → IsBeside c b → IsConsistent tree → IsUnsealed tree → MakesSide tree (PutContainer c Nobody created) c
side_made tree b c created beside sound unsealed = side.side_made tree b c created beside sound unsealed

-- over every account
pub side_settled : (tree : SwiftAccount) (b c : List ℕ) (readers : ReadList) (created : Option ℕ) → IsBeside c b → IsSettled tree → IsSettled (swift_step (PutContainer c readers created) tree).tree
side_settled tree b c readers created beside settled = settled_same (same_apart tree _ c (gateway_side c b beside) (put_off (get tree c) c readers created tree)) settled

-- ---- the DELETE of a file

-- it leaves what is sealed, or takes it away
found_before : (tree : SwiftAccount) (c name : List ℕ) (file : SwiftObject) → find_object (remove_file c name tree) gateway_name sealed_name ≡ Some file → find_object tree gateway_name sealed_name ≡ Some file
found_before tree c name file found = elim (same_key by_name gateway_name c) [
  | inl e ↦ ap (λ n. find_object tree n sealed_name) e ∙ removed_is (λ n f. get (files tree c) n ≡ Some f) (files tree c) name sealed_name file (λ f. f)
      (found_after (λ fs. remove fs name) (get tree c) sealed_name file
      (ap (λ o. get (files_of o) sealed_name) (sym (at_adjust by_name c (on_files (λ fs. remove fs name)) tree)) ∙ ap (λ n. find_object (remove_file c name tree) n sealed_name) (sym e) ∙ found))
  | inr a ↦ ap (λ o. get (files_of o) sealed_name) (sym (off_adjust by_name c (on_files (λ fs. remove fs name)) tree gateway_name a)) ∙ found
]

removed_seals : (tree : SwiftAccount) (c name : List ℕ) → seal_of tree ≡ None → seal_of (remove_file c name tree) ≡ None
unfolding seal_of
removed_seals tree c name none = by (find_object (remove_file c name tree) gateway_name sealed_name) refl
  where
    by : (o : Option SwiftObject) → find_object (remove_file c name tree) gateway_name sealed_name ≡ o → seal_by o ≡ None
    by None e = refl
    by (Some file) e = ap seal_by (sym (found_before tree c name file e)) ∙ none

-- each container stays where it is
delete_stays : (tree : SwiftAccount) (c name : List ℕ) → StaysThere tree (swift_step (DeleteObject c name) tree).tree
delete_stays tree c name = subst (StaysThere tree) (sym (delete_leaves (find_object tree c name) c name tree refl)) (side.containers_stay tree c (λ fs. remove fs name))

-- over every account, whatever container it stands in
pub delete_settled : (tree : SwiftAccount) (c name : List ℕ) → IsSettled tree → IsSettled (swift_step (DeleteObject c name) tree).tree
delete_settled tree c name settled = record {
  none = subst IsUnsealed (sym (delete_leaves (find_object tree c name) c name tree refl)) (unsealed_by (remove_file c name tree) (removed_seals tree c name (seal_none tree settled.none)));
  gateway = delete_stays tree c name gateway_name settled.gateway;
}

-- beside a bucket that is missing
pub side_file_gone : (tree : SwiftAccount) (b c name : List ℕ) → IsBeside c b → get tree b ≡ None → IsConsistent tree → IsUnsealed tree
    → LeavesContainers tree (DeleteObject c name) × (get (swift_step (DeleteObject c name) tree).tree b ≡ None)
side_file_gone tree b c name beside none sound unsealed = side.side_file_gone tree b c name beside none sound unsealed

-- ---- the DELETE of a file under the id of an upload that nothing names

begins_same : (xs ys front rest : List ℕ) → length xs ≡ length ys → begins (xs ++ front) (ys ++ rest) ≡ true → ys ≡ xs
begins_same [] [] front rest same e = refl
begins_same [] (y ∷ ys) front rest same e = absurd (omega (arith, same))
begins_same (x ∷ xs) [] front rest same e = absurd (omega (arith, same))
begins_same (x ∷ xs) (y ∷ ys) front rest same e =
    let parts = and_parts (x == y) (begins (xs ++ front) (ys ++ rest)) e in
    let first : x ≡ y = eqb-true x y parts.0 in
    let rest_same = begins_same xs ys front rest (omega (arith, same)) parts.1 in
    λ i. sym first i ∷ rest_same i

-- a part, or a sub-manifest, that begins with an id is of that id
id_of_part : (id j n : ℕ) → begins (segments_prefix (id_digits id)) (segment_name (id_digits j) n) ≡ true → id_digits j ≡ id_digits id
unfolding segments_prefix segment_name
id_of_part id j n e = begins_same (id_digits id) (id_digits j) (47 ∷ []) (47 ∷ five_digits n) (length-id_digits id ∙ sym (length-id_digits j)) e

id_of_sub : (id j n : ℕ) → begins (segments_prefix (id_digits id)) (sub_manifest_name (id_digits j) n) ≡ true → id_digits j ≡ id_digits id
unfolding segments_prefix sub_manifest_name
id_of_sub id j n e = begins_same (id_digits id) (id_digits j) (47 ∷ []) (47 ∷ (109 ∷ five_digits n)) (length-id_digits id ∙ sym (length-id_digits j)) e

deleted_none : (o : Option SwiftObject) (c name : List ℕ) (tree : SwiftAccount) → o ≡ None → (delete_object o c name tree).tree ≡ tree
deleted_none o c name tree none = ap (λ v. (delete_object v c name tree).tree) none

module _ (tree : SwiftAccount) (b : List ℕ) (id : ℕ) (name : List ℕ) (is : is_bucket b ≡ true) (there : IsThere tree b) (abandoned : IsAbandoned tree b (id_digits id))
    (under : begins (segments_prefix (id_digits id)) name ≡ true) (sound : IsConsistent tree) (unsealed : IsUnsealed tree) where
  abbrev Gone : Type 0
  Gone = IsQuiet tree (DeleteObject (segments_name b) name) × IsAbandoned (swift_step (DeleteObject (segments_name b) name) tree).tree b (id_digits id)

  name_under : (file : SwiftObject) → IsSegment name file → IsNameUnder (id_digits id) name
  name_under file (is_part part) =
      let of_id : id_digits part.id ≡ id_digits id = id_of_part id part.id part.number (ap (begins (segments_prefix (id_digits id))) (sym part.named) ∙ under) in
      of_part part.number (part.named ∙ ap (λ t. segment_name t part.number) of_id)
  name_under file (is_sub_manifest sub) =
      let of_id : id_digits sub.id ≡ id_digits id = id_of_sub id sub.id sub.number (ap (begins (segments_prefix (id_digits id))) (sym sub.named) ∙ under) in
      of_sub_manifest sub.number (sub.named ∙ ap (λ t. sub_manifest_name t sub.number) of_id)

  gone_part : (file : SwiftObject) → IsSegment name file → Gone
  gone_part file segment = side.orphan_gone tree b (id_digits id) name (name_under file segment) is abandoned sound unsealed

  gone_by : (o : Option SwiftObject) → find_object tree (segments_name b) name ≡ o → Gone
  gone_by None e =
      let same : (swift_step (DeleteObject (segments_name b) name) tree).tree ≡ tree = deleted_none (find_object tree (segments_name b) name) (segments_name b) name tree e in (
        record { sound = subst IsConsistent (sym same) sound; state = ap s3_state same; gateway = subst (SameGateway tree) (sym same) (same_none tree) },
        subst (λ x. IsAbandoned x b (id_digits id)) (sym same) abandoned,
      )
  gone_by (Some file) e = gone_part file ((sound.buckets b is there).of_segments name file e)

  pub orphan_gone : Gone
  orphan_gone = gone_by (find_object tree (segments_name b) name) refl

-- ---- an upload that is open

-- no sub-manifest stands under the id of one
pub open_unlisted : (tree : SwiftAccount) (b : List ℕ) (id : ℕ) → is_bucket b ≡ true → IsThere tree b → IsOpen (record_at (files tree (uploads_name b)) (id_digits id)) → IsConsistent tree → IsUnsealed tree
    → (number : ℕ) → get (files tree (segments_name b)) (sub_manifest_name (id_digits id) number) ≡ None
open_unlisted tree b id is there opens sound unsealed number = by (get (files tree (segments_name b)) (sub_manifest_name (id_digits id) number)) refl
  where
    none_sealed_here : sealed_id tree b ≡ None
    none_sealed_here = ap (λ s. sealed_in s b) (seal_none tree unsealed)

    never : (file : SwiftObject) → get (files tree (segments_name b)) (sub_manifest_name (id_digits id) number) ≡ Some file → IsSegment (sub_manifest_name (id_digits id) number) file → ⊥
    never file found (is_part part) = part_no_sub (id_digits part.id) (id_digits id) part.number number (sym part.named)
    never file found (is_sub_manifest sub) =
        let same : id_digits id ≡ id_digits sub.id = sub_id (id_digits id) (id_digits sub.id) number sub.number sub.named in
        none_found sub.id (sym none_sealed_here ∙ (sound.buckets b is there).subs_apart (sub_manifest_name (id_digits id) number) file sub found
        (subst (λ t. IsOpen (record_at (files tree (uploads_name b)) t)) same opens))

    by : (o : Option SwiftObject) → get (files tree (segments_name b)) (sub_manifest_name (id_digits id) number) ≡ o → get (files tree (segments_name b)) (sub_manifest_name (id_digits id) number) ≡ None
    by None e = e
    by (Some file) e = absurd (never file e ((sound.buckets b is there).of_segments (sub_manifest_name (id_digits id) number) file e))

-- ---- the gateway's own container

pub gateway_made : (tree : SwiftAccount) (created : Option ℕ) → IsConsistent tree → MakesGateway tree (PutContainer gateway_name Nobody created)
gateway_made tree created sound = gateway.gateway_made tree created sound

-- over every account it is there after its PUT
pub gateway_there : (tree : SwiftAccount) (created : Option ℕ) → IsThere (swift_step (PutContainer gateway_name Nobody created) tree).tree gateway_name
gateway_there tree created = gateway.made_there tree created (get tree gateway_name) refl

-- and what is sealed is as it was
pub gateway_seals : (tree : SwiftAccount) (created : Option ℕ) → seal_of (swift_step (PutContainer gateway_name Nobody created) tree).tree ≡ seal_of tree
gateway_seals tree created = seal_holds tree (swift_step (PutContainer gateway_name Nobody created) tree).tree (gateway.made_files tree created (get tree gateway_name) refl)

pub gateway_settled : (tree : SwiftAccount) (created : Option ℕ) → IsSettled tree → IsSettled (swift_step (PutContainer gateway_name Nobody created) tree).tree
gateway_settled tree created settled = record {
  none = unsealed_by _ (seal_holds tree (swift_step (PutContainer gateway_name Nobody created) tree).tree (gateway.made_files tree created (get tree gateway_name) refl) ∙ seal_none tree settled.none);
  gateway = gateway_there tree created;
}

-- a GET of what is sealed that finds nothing
no_body : (look : Look) (file : SwiftObject) → body_reply (head_of file) None (bytes_of look file.content) ≡ NotFound → seal_by (Some file) ≡ None
no_body look file e = by file.content e
  where
    by : (content : Content) → body_reply (head_of file) None (bytes_of look content) ≡ NotFound → option_and_then read_sealed (plain_bytes content) ≡ None
    by (Plain bytes) e = cc
    by (Segments segments) e = refl

no_seal : (look : Look) (o : Option SwiftObject) → get_reply look None o ≡ NotFound → seal_by o ≡ None
no_seal look None e = refl
no_seal look (Some file) e = no_body look file e

-- tells that nothing is, over every account
pub none_sealed : (tree : SwiftAccount) → (swift_step (GetObject gateway_name sealed_name None) tree).reply ≡ NotFound → IsUnsealed tree
unfolding seal_of
none_sealed tree e = unsealed_by tree (no_seal (find_object tree) (find_object tree gateway_name sealed_name) e)
