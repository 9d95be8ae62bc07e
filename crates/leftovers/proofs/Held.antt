-- What a table holds of the files of a container, over every observable store.
use Rattle.std.specs.Prelude.{◌≡◌, ◌<◌, ◌≤◌, ◌+◌, ◌||◌, ℕ, zero, suc, Bool, true, false, cond, bytes_eq, IsTrue, List, [], ◌∷◌, ◌++◌, map, length, take, drop, get_or, is_some, Option, None, Some, Result, Ok, Err, IfOk, OnOk}
use Rattle.std.specs.List.{AllByRecursion}
use Rattle.std.specs.Result.{IsErrAnd}
use Rattle.std.specs.FinMap.{get, insert}
use Rattle.std.proofs.Common.{refl, sym, ap, subst, ◌∙◌, true≢false, inl, inr}
use Rattle.std.proofs.lemmas.List.{append-nil, append_assoc, take_all, take_more}
use Rattle.std.proofs.lemmas.Bool.{and_from, eq-eqb}
use Rattle.gate_base.specs.Maps.{Names}
use Rattle.gate_base.proofs.lemmas.Maps.{by_name, key_itself}
use Rattle.std.proofs.lemmas.Map.Text.{is_eq-slice_cmp}
use Rattle.s3_machine.specs.ETag.{body_etag}
use Rattle.slo_manifest.specs.declared.Segment.{Segment}
use Rattle.swift_calls.specs.Account.{SwiftAccount, SwiftObject, files, find_object}
use Rattle.swift_calls.specs.Bodies.{listed_in}
use Rattle.swift_calls.specs.History.{History, Calls, present}
use Rattle.swift_calls.specs.Step.{get_reply, manifest_by, manifest_reply}
use Rattle.swift_calls.specs.declared.account.Content.{Content}
use Rattle.swift_calls.specs.declared.account.Content.TheVariants.{Plain, Segments}
use Rattle.swift_calls.specs.declared.calls.SwiftReply.{SwiftReply}
use Rattle.swift_calls.specs.declared.calls.SwiftRequest.TheVariants.{GetManifest, GetObject}
use Rattle.swift_calls.specs.declared.heads.NameItem.{NameItem}
use Rattle.swift_marks.specs.Tag.{read_stamp}
use Rattle.swift_marks.specs.declared.tag.Stamp.{Stamp}
use Rattle.upload_texts.specs.declared.record.Record.{Record}
use Rattle.list_pages.specs.Listing.{name_in}
use Rattle.account_calls.specs.FilePages.{item_at, items_after, next_after, rows_after, TellsFiles}
use Rattle.account_calls.specs.Interpret.{Gives, listed_due}
use Rattle.account_calls.specs.Told.{LeavesThroughout}
use Rattle.account_calls.specs.Calls.{GoesOn}
use Rattle.account_calls.specs.declared.fault.PlanFault.{PlanFault}
use Rattle.account_calls.specs.declared.fault.PlanFault.TheVariants as fault
use Rattle.account_calls.proofs.lemmas.Left.{throughout_end}
use Rattle.account_calls.proofs.lemmas.One.{found}
use Rattle.account_calls.proofs.lemmas.Turned.{turned, ended}
use Rattle.leftovers.specs.Leftovers.{is_open, is_sub_manifest_name}
use Rattle.leftovers.specs.Lists.{nothing_due, is_empty_item, record_told, items_left, AreHeld, AreItemsHeld, HasName, HoldsAll, IsHeld, IsInnerHeld, IsItemHeld, IsListByStamp, IsListOfId, IsListThere, IsObjectHeldById, IsObjectHeldByStamp, IsPageHeld, IsRecordHeld, IsWholeList, SaysListing, SaysRecord, Stays}
use Rattle.leftovers.specs.Records.{listed_record_due}
use Rattle.leftovers.specs.declared.gathering.Source.{Source}
use Rattle.leftovers.specs.declared.gathering.Source.TheVariants.{Records, Objects}
use Rattle.leftovers.proofs.Gathers.{or_true_first, put_adds}
use Rattle.leftovers.proofs.lemmas.Lists.{halves}

-- ---- what wasn't had says nothing

pub none_said : {T E : Type 0} (P : T → Type 0) (result : Result T E) (Q : E → Type 0) → IsErrAnd result Q → IfOk result P
none_said P (Ok x) Q is = absurd is
none_said P (Err e) Q is = tt

-- ---- GET of a list

list_by : (file : SwiftObject) (c : Content) (told : List Segment) → file.content ≡ c → Ok told ≡ listed_due (manifest_by (listed_in c)) → file.content ≡ Segments told
list_by file (Plain bytes) told own e = cc
list_by file (Segments list) told own e = let same : told ≡ list = cc in own ∙ ap Segments (sym same)

list_there : (tree : SwiftAccount) (container name : List ℕ) (o : Option SwiftObject) (told : List Segment) → find_object tree container name ≡ o → Ok told ≡ listed_due (manifest_reply o) → IsListThere container name tree told
list_there tree container name None told is e = cc
list_there tree container name (Some file) told is e = record { file = file; found = is; lists = list_by file file.content told refl e }

pub says_listing : {a b : History} {bucket key container name : List ℕ} {reply : SwiftReply} → container ≡ bucket → name ≡ key → Calls a b (GetManifest container name) (Ok reply)
    → (result : Result (List Segment) PlanFault) → result ≡ listed_due reply → SaysListing bucket key a result
says_listing named under calls (Err f) is = λ observable. tt
says_listing {a = a} {b = b} {bucket = bucket} {key = key} {container = container} {name = name} named under calls (Ok told) is = λ observable.
    let tree = b.account_at a.called in
    let told_is : Ok told ≡ listed_due (manifest_reply (find_object tree bucket key)) = is ∙ ap listed_due (calls.effect observable).reply ∙ (λ i. listed_due (manifest_reply (find_object tree (named i) (under i)))) in
    subst (λ t. IsListThere bucket key t told) (found calls observable) (list_there tree bucket key (find_object tree bucket key) told refl told_is)

-- ---- GET of a record

pub says_record : {a b : History} {folder key container name : List ℕ} {reply : SwiftReply} → container ≡ folder → name ≡ key → Calls a b (GetObject container name None) (Ok reply)
    → (result : Result Record PlanFault) → Gives result (listed_record_due reply) → SaysRecord folder key a result
says_record named under calls (Err f) gives = λ observable. tt
says_record named under calls (Ok told) (inl out) = cc
says_record {a = a} {b = b} {folder = folder} {key = key} {container = container} {name = name} named under calls (Ok told) (inr is) = λ observable.
    let tree = b.account_at a.called in
    let told_is : Ok told ≡ listed_record_due (get_reply (find_object tree) None (find_object tree folder key)) =
    is ∙ ap listed_record_due (calls.effect observable).reply ∙ (λ i. listed_record_due (get_reply (find_object tree) None (find_object tree (named i) (under i)))) in
    subst (λ t. record_told folder key t ≡ Ok told) (found calls observable) (sym told_is)

-- ---- an item of size 0

pub says_nothing : (bucket : List ℕ) (id : ℕ) (item : NameItem) (tree : SwiftAccount) (result : Result (List Segment) PlanFault) → item.size ≡ 0 → result ≡ nothing_due item → IfOk result (IsListOfId (Some id) bucket item tree)
says_nothing bucket id item tree (Err f) none is = tt
says_nothing bucket id item tree (Ok told) none is = λ not. by (bytes_eq item.hash (body_etag [])) refl not is
  where
    by : (t : Bool) → bytes_eq item.hash (body_etag []) ≡ t → is_empty_item item ≡ false → Ok told ≡ cond t (Ok []) (Err fault.Inconsistent) → IsWholeList bucket id item tree told
    by true same not e = absurd (true≢false (sym (and_from _ _ (eq-eqb item.size 0 none) same) ∙ not))
    by false same not e = cc

-- ---- what stays

pub stays_none : (table : Names Bool) → Stays table table
stays_none table = record { so = λ text has. has }

pub stays_then : {a b c : Names Bool} → Stays a b → Stays b c → Stays a c
stays_then first then = record { so = λ text has. then.so text (first.so text has) }

pub stays_put : (a : Names Bool) {b : Names Bool} (name : List ℕ) → b ≡ insert a name true → Stays a b
stays_put a name grown = record { so = λ text has. ap (λ t. is_some (get t text)) grown ∙ put_adds a name text ∙ ap (λ t. t || bytes_eq name text) has }

-- it has the name that was put
pub put_there : (a : Names Bool) {b : Names Bool} (name : List ℕ) → b ≡ insert a name true → is_some (get b name) ≡ true
put_there a name grown =
    ap (λ t. is_some (get t name)) grown ∙ put_adds a name name ∙ ap (λ t. is_some (get a name) || t) (sym (is_eq-slice_cmp name name) ∙ key_itself by_name name) ∙ or_true_first (is_some (get a name))

pub all_later : {X : Type 0} (P Q : X → Type 0) → ((x : X) → P x → Q x) → (xs : List X) → AllByRecursion P xs → AllByRecursion Q xs
all_later P Q later [] h = tt
all_later P Q later (x ∷ xs) h = (later x h.0, all_later P Q later xs h.1)

pub held_names : {a b : Names Bool} → Stays a b → (list : List Segment) → AllByRecursion (HasName a) list → AllByRecursion (HasName b) list
held_names {a = a} {b = b} stays list h = all_later (HasName a) (HasName b) (λ s has. stays.so s.name has) list h

inner_later : {a b : Names Bool} {bucket : List ℕ} {s : Segment} {tree : SwiftAccount} → Stays a b → IsInnerHeld bucket s tree a → IsInnerHeld bucket s tree b
inner_later stays h = record { inner = h.inner; is = h.is; held = held_names stays h.inner h.held }

segment_later : {a b : Names Bool} {bucket : List ℕ} {tree : SwiftAccount} → Stays a b → (s : Segment) → IsHeld bucket tree a s → IsHeld bucket tree b s
segment_later stays s h = record { named = stays.so s.name h.named; inner = λ sub. inner_later stays (h.inner sub) }

pub list_later : {a b : Names Bool} (bucket : List ℕ) (tree : SwiftAccount) → Stays a b → (list : List Segment) → AreHeld bucket tree a list → AreHeld bucket tree b list
list_later {a = a} {b = b} bucket tree stays list h = all_later (IsHeld bucket tree a) (IsHeld bucket tree b) (segment_later stays) list h

object_by_id : {a b : Names Bool} (bucket : List ℕ) (item : NameItem) (tree : SwiftAccount) (id : Option ℕ) → Stays a b → IsObjectHeldById id bucket item tree a → IsObjectHeldById id bucket item tree b
object_by_id bucket item tree None stays h = tt
object_by_id bucket item tree (Some id) stays h = λ some. let was = h some in record { list = was.list; is = was.is; held = list_later bucket tree stays was.list was.held }

object_by_stamp : {a b : Names Bool} (bucket : List ℕ) (item : NameItem) (tree : SwiftAccount) (stamp : Option Stamp) → Stays a b → IsObjectHeldByStamp stamp bucket item tree a → IsObjectHeldByStamp stamp bucket item tree b
object_by_stamp bucket item tree None stays h = h
object_by_stamp bucket item tree (Some stamp) stays h = object_by_id bucket item tree stamp.id stays h

item_later : {a b : Names Bool} (source : Source) (folder bucket : List ℕ) (tree : SwiftAccount) → Stays a b → (item : NameItem) → IsItemHeld source folder bucket tree a item → IsItemHeld source folder bucket tree b item
item_later Records folder bucket tree stays item h = record { told = h.told; reads = h.reads; held = λ opens. stays.so item.name (h.held opens) }
item_later Objects folder bucket tree stays item h = object_by_stamp bucket item tree (read_stamp item.content_type) stays h

pub items_later : {a b : Names Bool} (source : Source) (folder bucket : List ℕ) (tree : SwiftAccount) → Stays a b → (items : List NameItem) → AreItemsHeld source folder bucket tree a items → AreItemsHeld source folder bucket tree b items
items_later {a = a} {b = b} source folder bucket tree stays items h = all_later (IsItemHeld source folder bucket tree a) (IsItemHeld source folder bucket tree b) (item_later source folder bucket tree stays) items h

-- ---- one record

-- what GET of a record told of whether its upload is open
abbrev pub IsToldOpen : List ℕ → List ℕ → SwiftAccount → Bool → Type 0
IsToldOpen folder name tree opened = (told : Record) × (record_told folder name tree ≡ Ok told) × (opened ≡ is_open (Some told))

pub record_unopened : {folder name : List ℕ} {tree : SwiftAccount} {opened : Bool} {table : Names Bool} → IsToldOpen folder name tree opened → opened ≡ false → IsRecordHeld folder name tree table
record_unopened (told, reads, is) not = record { told = told; reads = reads; held = λ opens. absurd (true≢false (sym opens ∙ sym is ∙ not)) }

pub record_opened : {folder name : List ℕ} {tree : SwiftAccount} {opened : Bool} (a : Names Bool) {b : Names Bool} (key : List ℕ) → key ≡ name → b ≡ insert a key true → IsToldOpen folder name tree opened → IsRecordHeld folder name tree b
record_opened a {b = b} key keyed grown (told, reads, is) = record { told = told; reads = reads; held = λ opens. ap (λ n. is_some (get b n)) (sym keyed) ∙ put_there a key grown }

-- ---- one segment

pub part_held : (a : Names Bool) {b : Names Bool} (bucket : List ℕ) (tree : SwiftAccount) (s : Segment) (name : List ℕ) → name ≡ s.name → is_sub_manifest_name s.name ≡ false → b ≡ insert a name true → IsHeld bucket tree b s
part_held a {b = b} bucket tree s name named not grown = record { named = ap (λ n. is_some (get b n)) (sym named) ∙ put_there a name grown; inner = λ sub. absurd (true≢false (sym sub ∙ not)) }

-- a name was put, and then others, if memory was there
pub stays_after : (a b : Names Bool) {mid : Names Bool} (name : List ℕ) → mid ≡ insert a name true → (result : Result (Unit {0}) PlanFault) → OnOk result (Stays mid b) → OnOk result (Stays a b)
stays_after a b name grown (Ok done) stays = stays_then (stays_put a name grown) stays
stays_after a b name grown (Err f) stays = tt

pub sub_held : (a b : Names Bool) {mid : Names Bool} (bucket : List ℕ) (tree : SwiftAccount) (s : Segment) (name : List ℕ) → name ≡ s.name → mid ≡ insert a name true → (result : Result (Unit {0}) PlanFault) → OnOk result (Stays mid b)
    → OnOk result (IsInnerHeld bucket s tree b) → OnOk result (IsHeld bucket tree b s)
sub_held a b {mid = mid} bucket tree s name named grown (Ok done) stays inner = record { named = stays.so s.name (ap (λ n. is_some (get mid n)) (sym named) ∙ put_there a name grown); inner = λ sub. inner }
sub_held a b bucket tree s name named grown (Err f) stays inner = tt

-- ---- one after the other

pub all_append : {X : Type 0} (P : X → Type 0) (xs ys : List X) → AllByRecursion P xs → AllByRecursion P ys → AllByRecursion P (xs ++ ys)
all_append P [] ys h k = k
all_append P (x ∷ xs) ys h k = (h.0, all_append P xs ys h.1 k)

-- the first so many, and the one at the place behind them
pub all_more : {X : Type 0} (P : X → Type 0) (xs : List X) (i : ℕ) (x : X) → i < length xs → x ≡ get_or xs i x → AllByRecursion P (take i xs) → P x → AllByRecursion P (take (i + 1) xs)
all_more P xs i x near is front here =
    subst (AllByRecursion P) (sym (take_more xs i x near ∙ ap (λ y. take i xs ++ y ∷ []) (sym is))) (all_append P (take i xs) (x ∷ []) front (here, tt))

pub all_ended : {X : Type 0} (P : X → Type 0) (xs : List X) (i : ℕ) → length xs ≤ i → AllByRecursion P (take i xs) → AllByRecursion P xs
all_ended P xs i far h = subst (AllByRecursion P) (take_all i xs far) h

-- ---- an object

pub object_held : (bucket : List ℕ) (item : NameItem) (tree : SwiftAccount) (table : Names Bool) (list : List Segment) (stamp : Option Stamp) → IsListByStamp stamp bucket item tree list → AreHeld bucket tree table list
    → IsObjectHeldByStamp stamp bucket item tree table
object_held bucket item tree table list None says held = says
object_held bucket item tree table list (Some stamp) says held = by stamp.id says
  where
    by : (id : Option ℕ) → IsListOfId id bucket item tree list → IsObjectHeldById id bucket item tree table
    by None says = tt
    by (Some id) says = λ some. record { list = list; is = says some; held = held }

-- ---- a page

module _ (source : Source) (folder bucket marker : List ℕ) (tree : SwiftAccount) (table : Names Bool) (page : List NameItem) (tells : TellsFiles folder [] marker tree page) (held : AreItemsHeld source folder bucket tree table page) where
  pub page_held : (next : Option (List ℕ)) → next ≡ next_after (map name_in page) → IsPageHeld source folder bucket marker tree table next
  page_held None is = record {
    page = page;
    all = sym (ended [] marker (files tree folder) page tells.items (sym is)) ∙ sym (append-nil page);
    held = held;
  }
  page_held (Some next) is =
      let turns = turned [] marker (files tree folder) page next tells.items (sym is) in
      record {
        page = page;
        all =
            sym (halves 1000 (items_after [] marker (files tree folder)))
            ∙ (λ i. sym tells.items i ++ drop_items 1000 (rows_after [] marker (files tree folder)) i)
            ∙ ap (λ rows. page ++ map item_at rows) (sym turns.0);
        held = held;
      }
    where
      drop_items : (n : ℕ) (rows : List (List ℕ × SwiftObject)) → drop n (map item_at rows) ≡ map item_at (drop n rows)
      drop_items zero [] = refl
      drop_items zero (e ∷ rows) = refl
      drop_items (suc n) [] = refl
      drop_items (suc n) (e ∷ rows) = drop_items n rows

-- the pages so far
pub record HeldSo (source : Source) (folder bucket marker : List ℕ) (tree : SwiftAccount) (table : Names Bool) : Type 0 where
  pub front : List NameItem
  pub all : items_after [] [] (files tree folder) ≡ front ++ items_after [] marker (files tree folder)
  pub held : AreItemsHeld source folder bucket tree table front

abbrev pub HoldsSo : History → Source → List ℕ → List ℕ → List ℕ → Names Bool → Type 0
HoldsSo old source folder bucket marker table = IsTrue old.observable → HeldSo source folder bucket marker (present old) table

pub held_none : (old : History) (source : Source) (folder bucket : List ℕ) (table : Names Bool) → HoldsSo old source folder bucket [] table
held_none old source folder bucket table = λ observable. record { front = []; all = refl; held = tt }

module _ {source : Source} {folder bucket marker : List ℕ} {tree : SwiftAccount} {table new : Names Bool} (so : HeldSo source folder bucket marker tree table) (stays : Stays table new) where
  both : {next : Option (List ℕ)} (page : IsPageHeld source folder bucket marker tree new next) → AreItemsHeld source folder bucket tree new (so.front ++ page.page)
  both page = all_append (IsItemHeld source folder bucket tree new) so.front page.page (items_later source folder bucket tree stays so.front so.held) page.held

  pub held_more : (told : Option (List ℕ)) (next : List ℕ) → told ≡ Some next → IsPageHeld source folder bucket marker tree new told → HeldSo source folder bucket next tree new
  held_more told next is page = record {
    front = so.front ++ page.page;
    all = so.all ∙ ap (λ l. so.front ++ l) (page.all ∙ ap (λ o. page.page ++ items_left folder tree o) is) ∙ sym (append_assoc so.front page.page (items_after [] next (files tree folder)));
    held = both page;
  }

  pub held_end : (told : Option (List ℕ)) → told ≡ None → IsPageHeld source folder bucket marker tree new told → AreItemsHeld source folder bucket tree new (items_after [] [] (files tree folder))
  held_end told is page =
      subst (AreItemsHeld source folder bucket tree new)
      (sym (so.all ∙ ap (λ l. so.front ++ l) (page.all ∙ ap (λ o. page.page ++ items_left folder tree o) is ∙ append-nil page.page)))
      (both page)

-- ---- the account stays between two calls

pub said_there : {a b : History} (P : SwiftAccount → Type 0) → GoesOn a b → LeavesThroughout a b → IsTrue a.observable → (IsTrue b.observable → P (present b)) → P (present a)
said_there P on leaves observable says = subst P (throughout_end on leaves observable) (says (on.observable observable))

-- with what was held before
pub segment_more : {a b : Names Bool} {at then : History} (bucket : List ℕ) (list : List Segment) {i : ℕ} (s : Segment) → i < length list → s ≡ get_or list i s → GoesOn at then → LeavesThroughout at then → Stays a b
    → (IsTrue at.observable → AreHeld bucket (present at) a (take i list)) → (IsTrue then.observable → IsHeld bucket (present then) b s) → IsTrue at.observable → AreHeld bucket (present at) b (take (i + 1) list)
segment_more {b = b} {at = at} bucket list {i = i} s near is on leaves stays so one observable =
    all_more (IsHeld bucket (present at) b) list i s near is (list_later bucket (present at) stays (take i list) (so observable)) (said_there (λ tree. IsHeld bucket tree b s) on leaves observable one)

pub item_more : {a b : Names Bool} {at then : History} (source : Source) (folder bucket : List ℕ) (items : List NameItem) {i : ℕ} (item : NameItem) → i < length items → item ≡ get_or items i item → GoesOn at then → LeavesThroughout at then → Stays a b
    → (IsTrue at.observable → AreItemsHeld source folder bucket (present at) a (take i items)) → (IsTrue then.observable → IsItemHeld source folder bucket (present then) b item)
    → IsTrue at.observable → AreItemsHeld source folder bucket (present at) b (take (i + 1) items)
item_more {b = b} {at = at} source folder bucket items {i = i} item near is on leaves stays so one observable =
    all_more (IsItemHeld source folder bucket (present at) b) items i item near is (items_later source folder bucket (present at) stays (take i items) (so observable))
    (said_there (λ tree. IsItemHeld source folder bucket tree b item) on leaves observable one)

-- what an object lists was added after its list was had
pub object_holds : (b : Names Bool) {at then : History} (bucket : List ℕ) (item : NameItem) (stamp : Option Stamp) → GoesOn at then → LeavesThroughout at then → IsTrue at.observable → (list handed : List Segment) → handed ≡ list
    → IsListByStamp stamp bucket item (present at) list → (result : Result (Unit {0}) PlanFault) → (IsTrue then.observable → OnOk result (AreHeld bucket (present then) b handed))
    → OnOk result (IsObjectHeldByStamp stamp bucket item (present at) b)
object_holds b bucket item stamp on leaves observable list handed same says (Err f) held = tt
object_holds b {at = at} bucket item stamp on leaves observable list handed same says (Ok done) held =
    object_held bucket item (present at) b list stamp says (subst (AreHeld bucket (present at) b) same (said_there (λ tree. AreHeld bucket tree b handed) on leaves observable held))

-- a page was had, and what it adds was added
pub page_holds : {at then : History} (source : Source) (folder bucket marker : List ℕ) (b : Names Bool) {named behind : List ℕ} → GoesOn at then → LeavesThroughout at then → IsTrue at.observable → (page handed : List NameItem)
    → named ≡ folder → behind ≡ marker → handed ≡ page → TellsFiles named [] behind (present at) page → (IsTrue then.observable → AreItemsHeld source folder bucket (present then) b handed)
    → (next : Option (List ℕ)) → next ≡ next_after (map name_in handed) → IsPageHeld source folder bucket marker (present at) b next
page_holds {at = at} source folder bucket marker b {named = named} {behind = behind} on leaves observable page handed foldered marked same tells held next is =
    page_held source folder bucket marker (present at) b handed
    (subst {A = List NameItem × List ℕ × List ℕ} (λ x. TellsFiles x.1 [] x.2 (present at) x.0) (λ i. (sym same i, foldered i, marked i)) tells)
    (said_there (λ tree. AreItemsHeld source folder bucket tree b handed) on leaves observable held) next is

module _ {a b : History} {source : Source} {folder bucket marker : List ℕ} {table new : Names Bool} (on : GoesOn a b) (leaves : LeavesThroughout a b) (so : HoldsSo a source folder bucket marker table) (stays : Stays table new) (told : Option (List ℕ))
    (says : IsTrue b.observable → IsPageHeld source folder bucket marker (present b) new told) where
  here : IsTrue a.observable → IsPageHeld source folder bucket marker (present a) new told
  here observable = said_there (λ tree. IsPageHeld source folder bucket marker tree new told) on leaves observable says

  pub pages_more : (next : List ℕ) → told ≡ Some next → HoldsSo a source folder bucket next new
  pages_more next is = λ observable. held_more (so observable) stays told next is (here observable)

  pub pages_end : told ≡ None → HoldsAll {E = PlanFault} source folder bucket a (Ok new)
  pages_end is = λ observable. held_end (so observable) stays told is (here observable)
