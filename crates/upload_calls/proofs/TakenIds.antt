-- What HEAD of a record's file and a listing of one segment tell of an id: whether something stands under it.
use Rattle.std.specs.Prelude.{◌≡◌, ◌||◌, ℕ, cond, Bool, true, false, List, [], ◌∷◌, ◌++◌, map, take, Option, None, Some, Ok, is_some}
use Rattle.std.specs.List.{filter, list_any}
use Rattle.std.specs.FinMap.{entries, get}
use Rattle.std.proofs.Common.{refl, sym, ap, ◌∙◌, inl, inr, append_assoc}
use Rattle.std.proofs.lemmas.Bool.{and_from, eq-eqb}
use Rattle.s3_names.specs.Bucket.{is_bucket}
use Rattle.s3_names.specs.Id.{id_digits}
use Rattle.s3_machine.specs.Items.{begins}
use Rattle.s3_machine.proofs.lemmas.Starts.{starts_begins}
use Rattle.swift_calls.specs.Account.{SwiftObject, SwiftContainer, SwiftAccount, files, files_of, find_object}
use Rattle.swift_calls.specs.Bodies.{item_of}
use Rattle.swift_calls.specs.Step.{head_reply, is_listed, items_reply, page}
use Rattle.swift_calls.specs.declared.calls.SwiftRequest.TheVariants.{HeadObject, ListNames}
use Rattle.swift_calls.specs.declared.calls.SwiftReply.TheVariants.{Names as Listed}
use Rattle.swift_calls.specs.declared.heads.NameItem.{NameItem}
use Rattle.list_pages.proofs.lemmas.Rising.{begins_cut}
use Rattle.upload_records.specs.Layout.{segments_name, segments_prefix, uploads_name}
use Rattle.upload_records.proofs.lemmas.Beside.{segments_there}
use Rattle.account_calls.specs.Answers.{IsNamedBy}
use Rattle.account_calls.specs.Calls.{GivenOf}
use Rattle.account_calls.proofs.lemmas.One.{IsReadingOf}
use Rattle.upload_calls.specs.Interpret.{any_due, there_due}
use Rattle.upload_calls.specs.Records.{InBucket, TellsTaken}
use Rattle.upload_calls.specs.Taken.{TellsRecorded, TellsSegmented}
use Rattle.upload_calls.proofs.Members.{found, passes}

-- ---- the record

module _ {container name : List ℕ} (bucket : List ℕ) (id : ℕ) (named : container ≡ uploads_name bucket) (under : name ≡ id_digits id) where
  recorded_by : (o : Option SwiftObject) → there_due (head_reply o) ≡ Ok (is_some o)
  recorded_by None = refl
  recorded_by (Some file) = refl

  -- HEAD of a record's file tells whether it is there
  pub recorded : IsReadingOf (GivenOf (InBucket bucket)) (HeadObject container name) there_due (TellsRecorded bucket id)
  recorded = record {
    leaves = λ tree. refl;
    tells = λ tree sound given reply replied. (
      is_some (find_object tree (uploads_name bucket) (id_digits id)),
      ap there_due (replied ∙ (λ i. head_reply (find_object tree (named i) (under i)))) ∙ recorded_by (find_object tree (uploads_name bucket) (id_digits id)),
      refl,
    );
  }

-- ---- the segments

-- a name begins with the id of which it is a segment, and with no other's
begins_itself : (front rest : List ℕ) → begins front (front ++ rest) ≡ true
begins_itself [] rest = refl
begins_itself (c ∷ front) rest = and_from _ _ (eq-eqb c c refl) (begins_itself front rest)

named_begins : (id name : List ℕ) → IsNamedBy id name → begins (segments_prefix id) name ≡ true
unfolding segments_prefix
named_begins id name (rest, is) = ap (begins (id ++ 47 ∷ [])) (is ∙ sym (append_assoc id (47 ∷ []) rest)) ∙ begins_itself (id ++ 47 ∷ []) rest

begins_named : (id name : List ℕ) → begins (segments_prefix id) name ≡ true → IsNamedBy id name
unfolding segments_prefix
begins_named id name is = let cut = begins_cut (id ++ 47 ∷ []) name is in (cut.0, cut.1 ∙ append_assoc id (47 ∷ []) cut.0)

-- every name with such a prefix comes after the empty marker
listed_is : (id name : List ℕ) → is_listed (segments_prefix id) [] name ≡ begins (segments_prefix id) name
unfolding segments_prefix
listed_is id [] = by id
  where
    by : (id : List ℕ) → is_listed (id ++ 47 ∷ []) [] [] ≡ begins (id ++ 47 ∷ []) []
    by [] = refl
    by (c ∷ id) = refl
listed_is id (b ∷ name) = starts_begins (id ++ 47 ∷ []) (b ∷ name)

-- a listing of one
first_by : {X Y : Type 0} (f : X → Y) (test : X → Bool) (es : List X) (one : List Y → Bool) → ((y : Y) (ys : List Y) → one (y ∷ ys) ≡ true) → one [] ≡ false
    → one (take 1 (map f (filter test es))) ≡ list_any test es
first_by f test [] one some none = none
first_by f test (e ∷ es) one some none =
    elim (test e) as (λ t. one (take 1 (map f (cond t (e ∷ filter test es) (filter test es)))) ≡ (t || list_any test es)) [
      | true ↦ some _ _
      | false ↦ first_by f test es one some none
    ]

-- whether a name is a segment's
abbrev is_segment_of : List ℕ → List ℕ → Bool
is_segment_of id name = is_listed (segments_prefix id) [] name

abbrev one : List NameItem → Bool
one [] = false
one (item ∷ items) = true

any_one : (items : List NameItem) → any_due (Listed items) ≡ Ok (one items)
any_one [] = refl
any_one (item ∷ items) = refl

first_listed : (id : List ℕ) (es : List (List ℕ × SwiftObject)) → one (page 1 (λ e. item_of e.0 e.1) (λ e. is_segment_of id e.0) es) ≡ list_any (λ e. is_segment_of id e.0) es
unfolding page
first_listed id es = first_by (λ (e : List ℕ × SwiftObject). item_of e.0 e.1) (λ e. is_segment_of id e.0) es one (λ y ys. refl) refl

module _ (bucket : List ℕ) (id : ℕ) where
  told_by : (tree : SwiftAccount) (t : Bool) → list_any (λ e. is_segment_of (id_digits id) e.0) (entries (files tree (segments_name bucket))) ≡ t → TellsSegmented bucket id tree t
  told_by tree true has =
      let f = found (is_segment_of (id_digits id)) (files tree (segments_name bucket)) has in
      (f.name, begins_named (id_digits id) f.name (sym (listed_is (id_digits id) f.name) ∙ f.is), f.there)
  told_by tree false none = λ has.
      let never : true ≡ false =
      sym (passes (is_segment_of (id_digits id)) (files tree (segments_name bucket)) has.0 has.2 (listed_is (id_digits id) has.0 ∙ named_begins (id_digits id) has.0 has.1)) ∙ none in
      cc

  listed_by : (tree : SwiftAccount) (o : Option SwiftContainer) → get tree (segments_name bucket) ≡ o → is_some o ≡ true
      → any_due (items_reply 1 (segments_prefix (id_digits id)) [] o) ≡ Ok (list_any (λ e. is_segment_of (id_digits id) e.0) (entries (files tree (segments_name bucket))))
  listed_by tree None none never = cc
  listed_by tree (Some folder) is there =
      any_one (page 1 (λ e. item_of e.0 e.1) (λ e. is_segment_of (id_digits id) e.0) (entries folder.files))
      ∙ ap (λ t. Ok t) (first_listed (id_digits id) (entries folder.files) ∙ ap (λ o. list_any (λ e. is_segment_of (id_digits id) e.0) (entries (files_of o))) (sym is))

  -- a listing of one segment tells whether there is one
  pub segmented : {container prefix marker : List ℕ} → container ≡ segments_name bucket → prefix ≡ segments_prefix (id_digits id) → marker ≡ [] → is_bucket bucket ≡ true
      → IsReadingOf (GivenOf (InBucket bucket)) (ListNames container prefix marker 1) any_due (TellsSegmented bucket id)
  segmented named fronted empty is = record {
    leaves = λ tree. refl;
    tells = λ tree sound given reply replied. (
      list_any (λ e. is_segment_of (id_digits id) e.0) (entries (files tree (segments_name bucket))),
      ap any_due (replied ∙ (λ i. items_reply 1 (fronted i) (empty i) (get tree (named i))))
          ∙ listed_by tree (get tree (segments_name bucket)) refl (segments_there tree bucket sound is given.is),
      told_by tree _ refl,
    );
  }

-- ---- both

pub taken_by : (bucket : List ℕ) (id : ℕ) (tree : SwiftAccount) (t : Bool) → TellsRecorded bucket id tree false → TellsSegmented bucket id tree t → TellsTaken bucket id tree t
taken_by bucket id tree true none has = inr has
taken_by bucket id tree false none never = λ taken. elim taken [ inl there ↦ (let no_record : true ≡ false = sym there ∙ none in cc) | inr has ↦ never has ]
