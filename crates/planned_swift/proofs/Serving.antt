-- What stands in the lists of an account, and what a call leaves of it, against the maps.
use Rattle.std.specs.Prelude.{◌≡◌, ℕ, ◌<◌, ◌^◌, Bool, true, false, cond, nat_eq, List, [], ◌∷◌, map, Option, None, Some, is_some, slice_get, slice_set}
use Rattle.std.specs.List.{list_all}
use Rattle.std.specs.Option.{option_map}
use Rattle.std.specs.FinMap.{get, insert, remove, len, len-empty}
use Rattle.std.proofs.Common.{refl, sym, ap, ◌∙◌, true≢false}
use Rattle.std.proofs.lemmas.Bool.{ltb-true, eq-eqb, ne_eqb, cond-true, cond-false}
use Rattle.std.proofs.lemmas.Option.{none-some, same_Some}
use Rattle.gate_base.specs.Maps.{name_cmp, adjust}
use Rattle.gate_base.proofs.lemmas.Maps.{by_name, get_empty, adjust_missing, adjust_stays, remove_missing}
use Rattle.gate_base.specs.Named.{ascends, map_of, named, index_named, changed}
use Rattle.gate_base.proofs.lemmas.Named.{first_of_two, second_of_two, get-map_of, map_placed, map_changed, index_changed}
use Rattle.swift_calls.specs.Account.{SwiftAccount, SwiftObject, SwiftContainer, file_of, files_of, find_object, size_of, with_head, with_readers as with_list_of, put_file, remove_file, on_files}
use Rattle.planned_swift.specs.Accounts.{folder_of, tree_of, is_sized_object}
use Rattle.slo_manifest.specs.declared.Segment.{Segment}
use Rattle.swift_calls.specs.Bodies.{etag_of, head_of, is_good_list, item_of, listed_in}
use Rattle.swift_calls.specs.Step.{Answer, page, swift_step, is_taken, plain_file, put_unless, items_reply, head_container, put_container, post_container, delete_container, delete_by, is_bare, put_object, put_listed, put_manifest, manifest_by, manifest_reply, head_reply, get_reply, delete_object, is_listed}
use Rattle.planned_swift.specs.Lists.{name_of, object_name, listed, look_in, stored, stored_of, stored_in, stored_item, AreOrdered, AreSized, AreSizedObjects, is_nil, without, with_readers, with_list, with_object, without_object, with_container, without_container, served}
use Rattle.swift_calls.specs.declared.account.ReadList.{ReadList}
use Rattle.swift_calls.specs.declared.account.Content.TheVariants.{Plain, Segments}
use Rattle.swift_calls.specs.declared.account.Stored.{Stored as StoredObject}
use Rattle.planned_swift.specs.declared.account.Container.{Container}
use Rattle.planned_swift.specs.declared.account.Account.{Account}
use Rattle.swift_calls.specs.declared.heads.NameItem.{NameItem}
use Rattle.swift_calls.specs.declared.calls.FilePut.{FilePut}
use Rattle.swift_calls.specs.declared.calls.SwiftRequest.{SwiftRequest}
use Rattle.swift_calls.specs.declared.calls.SwiftRequest.TheVariants.{ListContainers, HeadContainer, PutContainer, PostContainer, DeleteContainer, ListNames, PutObject, PutManifest, HeadObject, GetObject, GetManifest, DeleteObject}
use Rattle.swift_calls.specs.declared.calls.SwiftReply.{SwiftReply}
use Rattle.swift_calls.specs.declared.calls.SwiftReply.TheVariants.{Made, There, Gone, Stored, NotFound, Exists, NotEmpty, BadManifest, Containers, Readers, Names, Head}
use Rattle.planned_swift.proofs.ByName.{found_at, found_none, all_named, changed_missing, map_without, entries_list, filled}
use Rattle.planned_swift.proofs.Paging.{page_map}

-- ---- what is found

get_named : (n : List ℕ) (cs : List Container) (v : Option Container) → v ≡ named name_of n cs → get (tree_of (listed cs)) n ≡ option_map folder_of v
get_named n cs v e = get-map_of name_of folder_of n cs ∙ ap (option_map folder_of) (sym e)

in_folder : (n : List ℕ) (v : Option Container) → get (files_of (option_map folder_of v)) n ≡ option_map file_of (stored_in n v)
in_folder n None = get_empty by_name n
in_folder n (Some c) = get-map_of object_name file_of n c.objects

-- an object is found by its names
pub look_named : (c n : List ℕ) (cs : List Container) (v : Option StoredObject) → v ≡ stored c n cs → look_in cs c n ≡ option_map file_of v
look_named c n cs v e = ap (λ o. get (files_of o) n) (get-map_of name_of folder_of c cs) ∙ in_folder n (named name_of c cs) ∙ ap (option_map file_of) (sym e)

sized_in : (n : List ℕ) (s : StoredObject) (v : Option Container) → ((x : Container) → Some x ≡ v → list_all is_sized_object x.objects ≡ true) → Some s ≡ stored_in n v → is_sized_object s ≡ true
sized_in n s None h e = absurd (none-some s (sym e))
sized_in n s (Some x) h e = all_named object_name is_sized_object n x.objects s (h x refl) e

-- and its size is within the limit
pub sized_stored : (c n : List ℕ) (cs : List Container) (s : StoredObject) → AreSized cs → Some s ≡ stored c n cs → size_of s.content < 2 ^ 63
sized_stored c n cs s sized e = ltb-true _ _ (sized_in n s (named name_of c cs) (λ x is. all_named name_of (λ y. list_all is_sized_object y.objects) c cs x sized is) e)

-- ---- listings

pub names_listed : (limit : ℕ) (marker : List ℕ) (cs : List Container) (names : List (List ℕ)) → AreOrdered cs → names ≡ page limit name_of (λ c. is_listed [] marker c.name) cs → Containers names ≡ (swift_step (ListContainers marker limit) (tree_of (listed cs))).reply
names_listed limit marker cs names ordered e =
    let first : List ℕ × SwiftContainer → List ℕ = λ p. p.0 in
    let test : List ℕ × SwiftContainer → Bool = λ p. is_listed [] marker p.0 in
    ap Containers (e ∙ sym (ap (page limit first test) (entries_list name_of folder_of cs (first_of_two _ _ ordered)) ∙ page_map first test (λ c. (name_of c, folder_of c)) limit cs))

pub items_listed : (limit : ℕ) (prefix marker n : List ℕ) (cs : List Container) (c : Container) (items : List NameItem) (objects : List StoredObject) → AreOrdered cs → Some c ≡ named name_of n cs → objects ≡ c.objects → items ≡ page limit stored_item (λ s. is_listed prefix marker s.name) objects → Names items ≡ (swift_step (ListNames n prefix marker limit) (tree_of (listed cs))).reply
items_listed limit prefix marker n cs c items objects ordered e same is =
    let item : List ℕ × SwiftObject → NameItem = λ p. item_of p.0 p.1 in
    let test : List ℕ × SwiftObject → Bool = λ p. is_listed prefix marker p.0 in
    let ascending = all_named name_of (λ x. ascends (map (λ s. s.name) x.objects)) n cs c (second_of_two _ _ ordered) e in
    ap Names (is ∙ ap (page limit stored_item (λ s. is_listed prefix marker s.name)) same ∙ sym (ap (page limit item test) (entries_list object_name file_of c.objects ascending) ∙ page_map item test (λ s. (object_name s, file_of s)) limit c.objects))
    ∙ ap (items_reply limit prefix marker) (sym (get_named n cs (Some c) e))

pub items_missing : (limit : ℕ) (prefix marker n : List ℕ) (cs : List Container) → None ≡ named name_of n cs → NotFound ≡ (swift_step (ListNames n prefix marker limit) (tree_of (listed cs))).reply
items_missing limit prefix marker n cs e = ap (items_reply limit prefix marker) (sym (get_named n cs None e))

pub sized_objects : (n : List ℕ) (cs : List Container) (c : Container) → AreSized cs → Some c ≡ named name_of n cs → AreSizedObjects c.objects
sized_objects n cs c sized e = all_named name_of (λ y. list_all is_sized_object y.objects) n cs c sized e

-- ---- HEAD and PUT of a container

pub head_some : (n : List ℕ) (cs : List Container) (c : Container) → Some c ≡ named name_of n cs → (swift_step (HeadContainer n) (tree_of (listed cs))).reply ≡ Readers c.readers c.created
head_some n cs c e = ap (λ v. (head_container v (tree_of (listed cs))).reply) (get_named n cs (Some c) e)

pub head_none : (n : List ℕ) (cs : List Container) → None ≡ named name_of n cs → (swift_step (HeadContainer n) (tree_of (listed cs))).reply ≡ NotFound
head_none n cs e = ap (λ v. (head_container v (tree_of (listed cs))).reply) (get_named n cs None e)

pub put_made : (n : List ℕ) (cs : List Container) (readers : ReadList) (created : Option ℕ) → index_named name_of n cs ≡ None → (swift_step (PutContainer n readers created) (tree_of (listed cs))).reply ≡ Made
put_made n cs readers created e = ap (λ v. (put_container v n readers created (tree_of (listed cs))).reply) (get_named n cs None (found_none name_of n cs e))

pub put_there : (n : List ℕ) (cs : List Container) (readers : ReadList) (created : Option ℕ) (i : ℕ) (c : Container) → index_named name_of n cs ≡ Some i → slice_get cs i ≡ Some c → (swift_step (PutContainer n readers created) (tree_of (listed cs))).reply ≡ There
put_there n cs readers created i c e at = ap (λ v. (put_container v n readers created (tree_of (listed cs))).reply) (get_named n cs (Some c) (found_at name_of n cs i c e at))

-- with_container by the index
pub made : (n : List ℕ) (cs : List Container) (readers : ReadList) (created : Option ℕ) → index_named name_of n cs ≡ None → with_container None n readers created cs ≡ with_container (named name_of n cs) n readers created cs
made n cs readers created e = ap (λ v. with_container v n readers created cs) (found_none name_of n cs e)

pub written : (n : List ℕ) (cs : List Container) (readers : ReadList) (created : Option ℕ) (i : ℕ) (c : Container) → index_named name_of n cs ≡ Some i → slice_get cs i ≡ Some c → slice_set cs i (with_readers readers created c) ≡ with_container (named name_of n cs) n readers created cs
written n cs readers created i c e at = index_changed name_of n (with_readers readers created) cs i c e at ∙ ap (λ v. with_container v n readers created cs) (found_at name_of n cs i c e at)

-- ---- POST of a container

pub post_missing : (n : List ℕ) (cs : List Container) (readers : ReadList) → index_named name_of n cs ≡ None → (swift_step (PostContainer n readers) (tree_of (listed cs))).reply ≡ NotFound
post_missing n cs readers e = ap (λ v. (post_container v n readers (tree_of (listed cs))).reply) (get_named n cs None (found_none name_of n cs e))

pub post_there : (n : List ℕ) (cs : List Container) (readers : ReadList) (i : ℕ) (c : Container) → index_named name_of n cs ≡ Some i → slice_get cs i ≡ Some c → (swift_step (PostContainer n readers) (tree_of (listed cs))).reply ≡ Gone
post_there n cs readers i c e at = ap (λ v. (post_container v n readers (tree_of (listed cs))).reply) (get_named n cs (Some c) (found_at name_of n cs i c e at))

pub posted : (n : List ℕ) (cs : List Container) (readers : ReadList) (i : ℕ) (c : Container) → index_named name_of n cs ≡ Some i → slice_get cs i ≡ Some c → slice_set cs i (with_list readers c) ≡ changed name_of n (with_list readers) cs
posted n cs readers i c e at = index_changed name_of n (with_list readers) cs i c e at

-- nothing changes under a name that isn't there
pub missed : (n : List ℕ) (f : Container → Container) (cs : List Container) → index_named name_of n cs ≡ None → cs ≡ changed name_of n f cs
missed n f cs e = changed_missing name_of n f cs (found_none name_of n cs e)

-- ---- DELETE of a container

bare_objects : (objects : List StoredObject) → nat_eq (len (map_of object_name file_of objects)) 0 ≡ is_nil objects
bare_objects [] = eq-eqb _ 0 (len-empty name_cmp SwiftObject)
bare_objects (s ∷ rest) = ne_eqb _ 0 (filled (map_of object_name file_of rest) s.name (file_of s))

bare_folder : (c : Container) → is_bare (folder_of c) ≡ is_nil c.objects
bare_folder c = bare_objects c.objects

-- whether a container has no objects, where it is there
abbrev pub bare_in : List ℕ → List Container → Option Bool
bare_in n cs = option_map (λ c. is_nil c.objects) (named name_of n cs)

module _ (n : List ℕ) (tree : SwiftAccount) where
  gone_by : (v : Option Container) → Some true ≡ option_map (λ c. is_nil c.objects) v → (delete_container (option_map folder_of v) n tree).reply ≡ Gone
  gone_by None e = absurd (none-some true (sym e))
  gone_by (Some c) e = ap (λ b. (delete_by b n tree).reply) (bare_folder c ∙ same_Some _ _ (sym e))

  full_by : (v : Option Container) → Some false ≡ option_map (λ c. is_nil c.objects) v → (delete_container (option_map folder_of v) n tree).reply ≡ NotEmpty
  full_by None e = absurd (none-some false (sym e))
  full_by (Some c) e = ap (λ b. (delete_by b n tree).reply) (bare_folder c ∙ same_Some _ _ (sym e))

  missing_by : (v : Option Container) → None ≡ option_map (λ c. is_nil c.objects) v → (delete_container (option_map folder_of v) n tree).reply ≡ NotFound
  missing_by None e = refl
  missing_by (Some c) e = absurd (none-some (is_nil c.objects) e)

delete_at : (n : List ℕ) (cs : List Container) → (swift_step (DeleteContainer n) (tree_of (listed cs))).reply ≡ (delete_container (option_map folder_of (named name_of n cs)) n (tree_of (listed cs))).reply
delete_at n cs = ap (λ o. (delete_container o n (tree_of (listed cs))).reply) (get-map_of name_of folder_of n cs)

pub delete_gone : (n : List ℕ) (cs : List Container) → Some true ≡ bare_in n cs → (swift_step (DeleteContainer n) (tree_of (listed cs))).reply ≡ Gone
delete_gone n cs e = delete_at n cs ∙ gone_by n (tree_of (listed cs)) (named name_of n cs) e

pub delete_full : (n : List ℕ) (cs : List Container) → Some false ≡ bare_in n cs → (swift_step (DeleteContainer n) (tree_of (listed cs))).reply ≡ NotEmpty
delete_full n cs e = delete_at n cs ∙ full_by n (tree_of (listed cs)) (named name_of n cs) e

pub delete_missing : (n : List ℕ) (cs : List Container) → None ≡ bare_in n cs → (swift_step (DeleteContainer n) (tree_of (listed cs))).reply ≡ NotFound
delete_missing n cs e = delete_at n cs ∙ missing_by n (tree_of (listed cs)) (named name_of n cs) e

module _ (n : List ℕ) (cs : List Container) where
  lists_gone : (v : Option Container) → Some true ≡ option_map (λ c. is_nil c.objects) v → without name_of n cs ≡ without_container v n cs
  lists_gone None e = absurd (none-some true (sym e))
  lists_gone (Some c) e = sym (cond-true _ _ _ (same_Some _ _ (sym e)))

  lists_full : (v : Option Container) → Some false ≡ option_map (λ c. is_nil c.objects) v → cs ≡ without_container v n cs
  lists_full None e = absurd (none-some false (sym e))
  lists_full (Some c) e = sym (cond-false _ _ _ (same_Some _ _ (sym e)))

  lists_missing : (v : Option Container) → None ≡ option_map (λ c. is_nil c.objects) v → cs ≡ without_container v n cs
  lists_missing None e = refl
  lists_missing (Some c) e = absurd (none-some (is_nil c.objects) e)

pub deleted_gone : (n : List ℕ) (cs : List Container) → Some true ≡ bare_in n cs → without name_of n cs ≡ without_container (named name_of n cs) n cs
deleted_gone n cs e = lists_gone n cs (named name_of n cs) e

pub deleted_full : (n : List ℕ) (cs : List Container) → Some false ≡ bare_in n cs → cs ≡ without_container (named name_of n cs) n cs
deleted_full n cs e = lists_full n cs (named name_of n cs) e

pub deleted_missing : (n : List ℕ) (cs : List Container) → None ≡ bare_in n cs → cs ≡ without_container (named name_of n cs) n cs
deleted_missing n cs e = lists_missing n cs (named name_of n cs) e

-- ---- PUT of an object

abbrev pub put_answer : List ℕ → StoredObject → List Container → SwiftReply
put_answer n s cs = (put_object (get (tree_of (listed cs)) n) n s.name (file_of s) (tree_of (listed cs))).reply

pub stored_missing : (n : List ℕ) (s : StoredObject) (cs : List Container) → index_named name_of n cs ≡ None → put_answer n s cs ≡ NotFound
stored_missing n s cs e = ap (λ v. (put_object v n s.name (file_of s) (tree_of (listed cs))).reply) (get_named n cs None (found_none name_of n cs e))

pub stored_there : (n : List ℕ) (s : StoredObject) (cs : List Container) (i : ℕ) (c : Container) (etag : List ℕ) → index_named name_of n cs ≡ Some i → slice_get cs i ≡ Some c → etag ≡ etag_of s.content → Stored etag ≡ put_answer n s cs
stored_there n s cs i c etag e at is = ap Stored is ∙ ap (λ v. (put_object v n s.name (file_of s) (tree_of (listed cs))).reply) (sym (get_named n cs (Some c) (found_at name_of n cs i c e at)))

pub stored_put : (n : List ℕ) (s : StoredObject) (cs : List Container) (i : ℕ) (c : Container) → index_named name_of n cs ≡ Some i → slice_get cs i ≡ Some c → slice_set cs i (with_object s c) ≡ changed name_of n (with_object s) cs
stored_put n s cs i c e at = index_changed name_of n (with_object s) cs i c e at

-- ---- by whether its name is taken for it

module _ (put : FilePut) (cs : List Container) where
  abbrev free : Answer
  free = put_object (get (tree_of (listed cs)) put.container) put.container put.name (plain_file put) (tree_of (listed cs))

  abbrev taken : Bool
  taken = is_taken put.fresh (stored put.container put.name cs)

  -- by the maps as by the lists
  same_taken : is_taken put.fresh (look_in cs put.container put.name) ≡ taken
  same_taken = ap (is_taken put.fresh) (look_named put.container put.name cs (stored put.container put.name cs) refl) ∙ by put.fresh (stored put.container put.name cs)
    where
      by : (fresh : Bool) (v : Option StoredObject) → is_taken fresh (option_map file_of v) ≡ is_taken fresh v
      by false v = refl
      by true None = refl
      by true (Some s) = refl

  pub put_taken : (b : Bool) → b ≡ taken → b ≡ true → Exists ≡ (swift_step (PutObject put) (tree_of (listed cs))).reply
  put_taken b e is = ap (λ t. (put_unless t free (tree_of (listed cs))).reply) (sym is ∙ e ∙ sym same_taken)

  pub put_free : (b : Bool) → b ≡ taken → b ≡ false → free.reply ≡ (swift_step (PutObject put) (tree_of (listed cs))).reply
  put_free b e is = ap (λ t. (put_unless t free (tree_of (listed cs))).reply) (sym is ∙ e ∙ sym same_taken)

  abbrev after : Bool → List Container
  after b = (cond b (listed cs) (listed (changed name_of put.container (with_object (stored_of put)) cs))).containers

  pub taken_stays : (b : Bool) → b ≡ taken → b ≡ true → cs ≡ (served (PutObject put) (listed cs)).containers
  taken_stays b e is = ap after (sym is ∙ e)

  pub free_put : (b : Bool) → b ≡ taken → b ≡ false → changed name_of put.container (with_object (stored_of put)) cs ≡ (served (PutObject put) (listed cs)).containers
  free_put b e is = ap after (sym is ∙ e)

-- ---- PUT of an object that lists segments

module _ (c n content_type : List ℕ) (meta : List (List ℕ)) (segments : List Segment) (cs : List Container) where
  abbrev manifest_answer : Option SwiftContainer → SwiftReply
  manifest_answer v = (put_manifest v c n content_type meta segments (tree_of (listed cs))).reply

  pub manifest_nowhere : None ≡ named name_of c cs → (swift_step (PutManifest c n content_type meta segments) (tree_of (listed cs))).reply ≡ NotFound
  manifest_nowhere e = ap manifest_answer (get_named c cs None e)

  pub manifest_refused : (x : Container) → Some x ≡ named name_of c cs → false ≡ is_good_list (look_in cs) segments → (swift_step (PutManifest c n content_type meta segments) (tree_of (listed cs))).reply ≡ BadManifest
  manifest_refused x e bad =
      ap manifest_answer (get_named c cs (Some x) e)
      ∙ ap (λ b. (put_listed b (Some (folder_of x)) c n (record { content_type = content_type; meta = meta; content = Segments segments }) (tree_of (listed cs))).reply) (sym bad)

-- nothing is put into a container that isn't there, whether the segments may be listed or not
pub manifest_missed : (c : List ℕ) (f : Container → Container) (b : Bool) (cs : List Container) → None ≡ named name_of c cs → cs ≡ (cond b (listed (changed name_of c f cs)) (listed cs)).containers
manifest_missed c f true cs e = changed_missing name_of c f cs e
manifest_missed c f false cs e = refl

-- ---- HEAD, GET and DELETE of an object

pub head_object_some : (c n : List ℕ) (cs : List Container) (s : StoredObject) → Some s ≡ stored c n cs → (swift_step (HeadObject c n) (tree_of (listed cs))).reply ≡ Head (head_of (file_of s))
head_object_some c n cs s e = ap head_reply (look_named c n cs (Some s) e)

pub head_object_none : (c n : List ℕ) (cs : List Container) → None ≡ stored c n cs → (swift_step (HeadObject c n) (tree_of (listed cs))).reply ≡ NotFound
head_object_none c n cs e = ap head_reply (look_named c n cs None e)

pub get_object_some : (c n : List ℕ) (range : Option (ℕ × ℕ)) (cs : List Container) (s : StoredObject) → Some s ≡ stored c n cs → (swift_step (GetObject c n range) (tree_of (listed cs))).reply ≡ get_reply (look_in cs) range (Some (file_of s))
get_object_some c n range cs s e = ap (get_reply (look_in cs) range) (look_named c n cs (Some s) e)

pub get_object_none : (c n : List ℕ) (range : Option (ℕ × ℕ)) (cs : List Container) → None ≡ stored c n cs → (swift_step (GetObject c n range) (tree_of (listed cs))).reply ≡ NotFound
get_object_none c n range cs e = ap (get_reply (look_in cs) range) (look_named c n cs None e)

pub manifest_some : (c n : List ℕ) (cs : List Container) (s : StoredObject) → Some s ≡ stored c n cs → (swift_step (GetManifest c n) (tree_of (listed cs))).reply ≡ manifest_by (listed_in s.content)
manifest_some c n cs s e = ap manifest_reply (look_named c n cs (Some s) e)

pub manifest_none_there : (c n : List ℕ) (cs : List Container) → None ≡ stored c n cs → (swift_step (GetManifest c n) (tree_of (listed cs))).reply ≡ NotFound
manifest_none_there c n cs e = ap manifest_reply (look_named c n cs None e)

delete_object_at : (c n : List ℕ) (cs : List Container) (v : Option Container) → v ≡ named name_of c cs → look_in cs c n ≡ option_map file_of (stored_in n v)
delete_object_at c n cs v e = look_named c n cs (stored_in n v) (ap (stored_in n) e)

module _ (c n : List ℕ) (tree : SwiftAccount) where
  object_gone_by : (v : Option StoredObject) → is_some v ≡ true → (delete_object (option_map file_of v) c n tree).reply ≡ Gone
  object_gone_by None e = absurd (true≢false (sym e))
  object_gone_by (Some s) e = refl

  object_missing_by : (v : Option StoredObject) → is_some v ≡ false → (delete_object (option_map file_of v) c n tree).reply ≡ NotFound
  object_missing_by None e = refl
  object_missing_by (Some s) e = absurd (true≢false e)

pub object_gone : (c n : List ℕ) (cs : List Container) (i : ℕ) (x : Container) → index_named name_of c cs ≡ Some i → slice_get cs i ≡ Some x → is_some (named object_name n x.objects) ≡ true → (swift_step (DeleteObject c n) (tree_of (listed cs))).reply ≡ Gone
object_gone c n cs i x e at is = ap (λ o. (delete_object o c n (tree_of (listed cs))).reply) (delete_object_at c n cs (Some x) (found_at name_of c cs i x e at)) ∙ object_gone_by c n (tree_of (listed cs)) (named object_name n x.objects) is

pub object_missing : (c n : List ℕ) (cs : List Container) (i : ℕ) (x : Container) → index_named name_of c cs ≡ Some i → slice_get cs i ≡ Some x → is_some (named object_name n x.objects) ≡ false → (swift_step (DeleteObject c n) (tree_of (listed cs))).reply ≡ NotFound
object_missing c n cs i x e at is = ap (λ o. (delete_object o c n (tree_of (listed cs))).reply) (delete_object_at c n cs (Some x) (found_at name_of c cs i x e at)) ∙ object_missing_by c n (tree_of (listed cs)) (named object_name n x.objects) is

pub object_nowhere : (c n : List ℕ) (cs : List Container) → index_named name_of c cs ≡ None → (swift_step (DeleteObject c n) (tree_of (listed cs))).reply ≡ NotFound
object_nowhere c n cs e = ap (λ o. (delete_object o c n (tree_of (listed cs))).reply) (delete_object_at c n cs None (found_none name_of c cs e))

pub object_deleted : (c n : List ℕ) (cs : List Container) (i : ℕ) (x : Container) → index_named name_of c cs ≡ Some i → slice_get cs i ≡ Some x → slice_set cs i (without_object n x) ≡ changed name_of c (without_object n) cs
object_deleted c n cs i x e at = index_changed name_of c (without_object n) cs i x e at

-- ---- the account after a call, as maps

head_tree : (v : Option SwiftContainer) (tree : SwiftAccount) → (head_container v tree).tree ≡ tree
head_tree None tree = refl
head_tree (Some folder) tree = refl

put_tree : (v : Option Container) (n : List ℕ) (readers : ReadList) (created : Option ℕ) (cs : List Container) → tree_of (listed (with_container v n readers created cs)) ≡ (put_container (option_map folder_of v) n readers created (tree_of (listed cs))).tree
put_tree None n readers created cs = map_placed name_of folder_of _ cs
put_tree (Some c) n readers created cs = map_changed name_of folder_of n (with_readers readers created) (with_head readers created) (λ c. refl) (λ c. refl) cs

post_tree : (n : List ℕ) (readers : ReadList) (tree : SwiftAccount) (v : Option SwiftContainer) → get tree n ≡ v → (post_container v n readers tree).tree ≡ adjust n (with_list_of readers) tree
post_tree n readers tree None e = sym (adjust_missing by_name n (with_list_of readers) tree e)
post_tree n readers tree (Some folder) e = refl

delete_tree : (v : Option Container) (n : List ℕ) (cs : List Container) → tree_of (listed (without_container v n cs)) ≡ (delete_container (option_map folder_of v) n (tree_of (listed cs))).tree
delete_tree None n cs = refl
delete_tree (Some c) n cs =
    let tree = tree_of (listed cs) in
    elim (is_nil c.objects) as (λ b. is_bare (folder_of c) ≡ b → tree_of (listed (cond b (without name_of n cs) cs)) ≡ (delete_by (is_bare (folder_of c)) n tree).tree) [
      | true ↦ λ e. map_without name_of folder_of n cs ∙ ap (λ b. (delete_by b n tree).tree) (sym e)
      | false ↦ λ e. ap (λ b. (delete_by b n tree).tree) (sym e)
    ] (bare_folder c)

object_tree : (c n : List ℕ) (file : SwiftObject) (tree : SwiftAccount) (v : Option SwiftContainer) → get tree c ≡ v → (put_object v c n file tree).tree ≡ put_file c n file tree
object_tree c n file tree None e = sym (adjust_missing by_name c (on_files (λ fs. insert fs n file)) tree e)
object_tree c n file tree (Some folder) e = refl

-- an object that isn't there is taken away
nothing_removed : (c n : List ℕ) (tree : SwiftAccount) → find_object tree c n ≡ None → remove_file c n tree ≡ tree
nothing_removed c n tree e = adjust_stays by_name c (on_files (λ fs. remove fs n)) tree (λ folder is.
    let missing : get folder.files n ≡ None = ap (λ o. get (files_of o) n) (sym is) ∙ e in
    λ i. record folder { files = remove_missing by_name folder.files n missing i })

gone_tree : (c n : List ℕ) (tree : SwiftAccount) (v : Option SwiftObject) → find_object tree c n ≡ v → (delete_object v c n tree).tree ≡ remove_file c n tree
gone_tree c n tree None e = sym (nothing_removed c n tree e)
gone_tree c n tree (Some file) e = refl

with_object_tree : (c : List ℕ) (s : StoredObject) (cs : List Container) → tree_of (listed (changed name_of c (with_object s) cs)) ≡ put_file c s.name (file_of s) (tree_of (listed cs))
with_object_tree c s cs = map_changed name_of folder_of c (with_object s) (on_files (λ fs. insert fs s.name (file_of s))) (λ x. refl) (λ x i. record { readers = x.readers; created = x.created; files = map_placed object_name file_of s x.objects i }) cs

without_object_tree : (c n : List ℕ) (cs : List Container) → tree_of (listed (changed name_of c (without_object n) cs)) ≡ remove_file c n (tree_of (listed cs))
without_object_tree c n cs = map_changed name_of folder_of c (without_object n) (on_files (λ fs. remove fs n)) (λ x. refl) (λ x i. record { readers = x.readers; created = x.created; files = map_without object_name file_of n x.objects i }) cs

module _ (c n content_type : List ℕ) (meta : List (List ℕ)) (segments : List Segment) (tree : SwiftAccount) where
  manifest_none : (t : Bool) → get tree c ≡ None → tree ≡ cond t (put_file c n (record { content_type = content_type; meta = meta; content = Segments segments }) tree) tree
  manifest_none true none = sym (adjust_missing by_name c (on_files (λ fs. insert fs n (record { content_type = content_type; meta = meta; content = Segments segments }))) tree none)
  manifest_none false none = refl

  manifest_there : (t : Bool) (folder : SwiftContainer)
      → (put_listed t (Some folder) c n (record { content_type = content_type; meta = meta; content = Segments segments }) tree).tree ≡ cond t (put_file c n (record { content_type = content_type; meta = meta; content = Segments segments }) tree) tree
  manifest_there true folder = refl
  manifest_there false folder = refl

  manifest_tree : (v : Option SwiftContainer) → get tree c ≡ v
      → (put_manifest v c n content_type meta segments tree).tree ≡ cond (is_good_list (find_object tree) segments) (put_file c n (record { content_type = content_type; meta = meta; content = Segments segments }) tree) tree
  manifest_tree None none = manifest_none (is_good_list (find_object tree) segments) none
  manifest_tree (Some folder) there = manifest_there (is_good_list (find_object tree) segments) folder

-- the account after a call with effect is the step's, as maps
pub tree_served : (request : SwiftRequest) (account : Account) → tree_of (served request account) ≡ (swift_step request (tree_of account)).tree
tree_served (ListContainers marker limit) account = refl
tree_served (HeadContainer n) account = sym (head_tree _ _)
tree_served (PutContainer n readers created) account =
    put_tree (named name_of n account.containers) n readers created account.containers
    ∙ ap (λ v. (put_container v n readers created (tree_of account)).tree) (sym (get-map_of name_of folder_of n account.containers))
tree_served (PostContainer n readers) account =
    map_changed name_of folder_of n (with_list readers) (with_list_of readers) (λ c. refl) (λ c. refl) account.containers
    ∙ sym (post_tree n readers (tree_of account) _ refl)
tree_served (DeleteContainer n) account =
    delete_tree (named name_of n account.containers) n account.containers
    ∙ ap (λ v. (delete_container v n (tree_of account)).tree) (sym (get-map_of name_of folder_of n account.containers))
tree_served (ListNames n prefix marker limit) account = refl
tree_served (PutObject put) account =
    let put_into : Bool → Answer = λ b. put_unless b (put_object (get (tree_of account) put.container) put.container put.name (plain_file put) (tree_of account)) (tree_of account) in
    elim (is_taken put.fresh (stored put.container put.name account.containers)) as (λ b. tree_of (cond b account (record { containers = changed name_of put.container (with_object (stored_of put)) account.containers })) ≡ (put_into b).tree) [
      | true ↦ refl
      | false ↦ with_object_tree put.container (stored_of put) account.containers ∙ sym (object_tree put.container put.name (plain_file put) (tree_of account) _ refl)
    ]
    ∙ ap (λ b. (put_into b).tree) (sym (same_taken put account.containers))
tree_served (PutManifest c n content_type meta segments) account =
    let s : StoredObject = record { name = n; content_type = content_type; meta = meta; content = Segments segments } in
    elim (is_good_list (look_in account.containers) segments) as (λ b. tree_of (cond b (record { containers = changed name_of c (with_object s) account.containers }) account) ≡ cond b (put_file c n (file_of s) (tree_of account)) (tree_of account)) [
      | true ↦ with_object_tree c s account.containers
      | false ↦ refl
    ]
    ∙ sym (manifest_tree c n content_type meta segments (tree_of account) _ refl)
tree_served (HeadObject c n) account = refl
tree_served (GetObject c n range) account = refl
tree_served (GetManifest c n) account = refl
tree_served (DeleteObject c n) account = without_object_tree c n account.containers ∙ sym (gone_tree c n (tree_of account) _ refl)
