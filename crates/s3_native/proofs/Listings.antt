-- The rows of a listing, added one by one: the same as the set of all, and the items among them.
use Rattle.std.proofs.Common.{◌≡◌, ℕ, Bool, true, false, cond, List, [], ◌∷◌, ◌++◌, map, length, take, nat_lt, ◌&&◌, Option, Some, None, is_some, refl, sym, ◌∙◌, ap, append_assoc}
use Rattle.std.specs.FinMap.{empty, find, from_entries, from_entries_push, get-from_entries, insert}
use Rattle.std.specs.Option.{option_or}
use Rattle.std.specs.List.{filter, take-map}
use Rattle.std.specs.Ordering.{eq_by_cmp}
use Rattle.std.proofs.lemmas.List.{append-nil, length-map}
use Rattle.gate_base.specs.Maps.{name_cmp, Names}
use Rattle.gate_base.proofs.lemmas.Maps.{by_name, name_antisymmetric, name_total, same_at_and_off}
use Rattle.s3_machine.specs.declared.items.Item.{Item}
use Rattle.s3_machine.specs.declared.items.ItemHead.{ItemHead}
use Rattle.s3_machine.specs.declared.items.UploadItem.{UploadItem}
use Rattle.s3_machine.specs.Items.{begins, row_of, with_prefix}
use Rattle.s3_native.specs.Native.{added}
use Rattle.s3_machine.specs.State.{Upload}
use Rattle.s3_machine.specs.Step.{item_of}
use Rattle.s3_machine.specs.Uploads.{is_upload_listed, upload_row}
use Rattle.s3_machine.specs.Uploads.{cut as first_of}

abbrev pub Row : Type 0
Row = List ℕ × Option ItemHead

-- what is found once an entry is at the end
found_by : {X : Type 0} (b : Bool) (x : X) (found rest more : Option X) → found ≡ option_or rest more → cond b (Some x) found ≡ option_or (cond b (Some x) rest) more
found_by true x found rest more e = refl
found_by false x found rest more e = e

found_more : {X : Type 0} (es : List (List ℕ × X)) (k : List ℕ) (v : X) (q : List ℕ)
    → find name_cmp q (es ++ (k, v) ∷ []) ≡ option_or (find name_cmp q es) (cond (eq_by_cmp name_cmp q k) (Some v) None)
found_more [] k v q = refl
found_more (e ∷ es) k v q = found_by (eq_by_cmp name_cmp q e.0) e.1 _ (find name_cmp q es) _ (found_more es k v q)

or_none : {X : Type 0} (o : Option X) → option_or o None ≡ o
or_none None = refl
or_none (Some x) = refl

-- an entry whose key is there already adds nothing
push_there : {X : Type 0} (es : List (List ℕ × X)) (k : List ℕ) (v x : X) → find name_cmp k es ≡ Some x → from_entries {R = name_cmp} (es ++ (k, v) ∷ []) ≡ from_entries es
push_there es k v x is =
    same_at_and_off by_name _ _ k
    (get-from_entries name_total (es ++ (k, v) ∷ []) k ∙ found_more es k v k ∙ ap (λ o. option_or o (cond (eq_by_cmp name_cmp k k) (Some v) None)) is ∙ sym is ∙ sym (get-from_entries name_total es k))
    (λ q a. get-from_entries name_total (es ++ (k, v) ∷ []) q ∙ found_more es k v q ∙ ap (option_or (find name_cmp q es)) (ap (λ b. cond b (Some v) None) a)
    ∙ or_none (find name_cmp q es) ∙ sym (get-from_entries name_total es q))

-- a row added is a row at the end
module _ {X : Type 0} where
  add_by : (es : List (List ℕ × X)) (e : List ℕ × X) (found : Option X) → find name_cmp e.0 es ≡ found → added e (from_entries es) ≡ from_entries (es ++ e ∷ [])
  add_by es e None is =
      ap (λ o. cond (is_some o) (from_entries es) (insert (from_entries es) e.0 e.1)) (get-from_entries name_total es e.0 ∙ is)
      ∙ sym (from_entries_push name_total name_antisymmetric es e.0 e.1 is)
  add_by es e (Some x) is =
      ap (λ o. cond (is_some o) (from_entries es) (insert (from_entries es) e.0 e.1)) (get-from_entries name_total es e.0 ∙ is)
      ∙ sym (push_there es e.0 e.1 x is)

  -- rows added one after another
  abbrev pub add_all : List (List ℕ × X) → Names X → Names X
  add_all [] m = m
  add_all (e ∷ es) m = add_all es (added e m)

  add_rest : (ds es : List (List ℕ × X)) → add_all es (from_entries ds) ≡ from_entries (ds ++ es)
  add_rest ds [] = ap (λ l. from_entries l) (sym (append-nil ds))
  add_rest ds (e ∷ es) = ap (add_all es) (add_by ds e (find name_cmp e.0 ds) refl) ∙ add_rest (ds ++ e ∷ []) es ∙ ap (λ l. from_entries l) (append_assoc ds (e ∷ []) es)

  pub added_all : (es : List (List ℕ × X)) → add_all es empty ≡ from_entries es
  added_all es = add_rest [] es

-- the rows of keys, one key after another
abbrev pub rows_for : List ℕ → List ℕ → List (List ℕ × ItemHead) → List Row
rows_for p d keys = map (row_of p d) (with_prefix p keys)

pub rows_in : (p d : List ℕ) (key : List ℕ × ItemHead) (keys : List (List ℕ × ItemHead)) → begins p key.0 ≡ true → rows_for p d (key ∷ keys) ≡ row_of p d key ∷ rows_for p d keys
rows_in p d key keys is = ap (map (row_of p d)) (ap (λ b. cond b (key ∷ with_prefix p keys) (with_prefix p keys)) is)

pub rows_out : (p d : List ℕ) (key : List ℕ × ItemHead) (keys : List (List ℕ × ItemHead)) → begins p key.0 ≡ false → rows_for p d (key ∷ keys) ≡ rows_for p d keys
rows_out p d key keys is = ap (map (row_of p d)) (ap (λ b. cond b (key ∷ with_prefix p keys) (with_prefix p keys)) is)

-- ---- the items of a reply

pub pair : {A B : Type 0} {a c : A} {b d : B} → a ≡ c → b ≡ d → ◌≡◌ {A = A × B} (a, b) (c, d)
pair e f = λ i. (e i, f i)

-- the first items of rows, and whether one is left over
pub cut : (max : ℕ) (rows : List Row) (items : List Item) → items ≡ map item_of rows
    → ◌≡◌ {A = List Item × Bool} (take max items, nat_lt 0 max && nat_lt max (length items)) (map item_of (take max rows), nat_lt 0 max && nat_lt max (length rows))
cut max rows items e =
    pair (ap (take max) e ∙ take-map item_of max rows) (ap (λ n. nat_lt 0 max && nat_lt max n) (ap length e ∙ length-map rows item_of))

-- ---- uploads

-- the rows of the uploads that are listed, one upload after another
abbrev pub upload_rows : List ℕ → List ℕ → List ℕ → List (List ℕ × Upload) → List (List ℕ × UploadItem)
upload_rows prefix key_marker id_marker uploads = map upload_row (filter (is_upload_listed prefix key_marker id_marker) uploads)

-- the first items of anything, and whether one is left over
pub cut_to : {A : Type 0} (max : ℕ) (all items : List A) → items ≡ all → ◌≡◌ {A = List A × Bool} (take max items, nat_lt 0 max && nat_lt max (length items)) (first_of max all)
cut_to max all items e = ap (first_of max) e
