-- The entries of an ordered map of std, seen as a finite map: what is found, put, changed and taken away is the same.
use Rattle.std.proofs.Common.{◌≡◌, Bool, true, false, cond, List, [], ◌∷◌, map, Some, None, refl, sym, ap, ◌∙◌}
use Rattle.std.specs.declared.cmp.Ordering.{Ordering}
use Rattle.std.specs.declared.cmp.Ordering.TheVariants.{Less, Equal, Greater}
use Rattle.std.specs.Cmp.{Equal-is}
use Rattle.std.specs.Ordering.{is_eq, eq_by_cmp, match_ordering}
use Rattle.std.specs.Map.{lookup, remove_entry, set_value}
use Rattle.std.specs.Option.{option_map}
use Rattle.std.specs.BTreeMap.{insert_entry}
use Rattle.std.specs.FinMap.{get, insert, remove, from_entries, find, put, get-from_entries}
use Rattle.std.specs.FinMap.Entries.{by_order, find-put}
use Rattle.std.proofs.lemmas.Bool.{cond-false, cond-true}
use Rattle.gate_base.specs.Maps.{adjust}
use Rattle.gate_base.proofs.lemmas.Maps.{IsKeyOrder, adjust_there, at_insert, off_insert, at_remove, off_remove, key_itself, same_at_and_off}

-- keys of type J represent keys of type K
module _ {J K : Type 0} (R : K → K → Ordering) (key : J → K) where
  abbrev pub order : J → J → Ordering
  order j i = R (key j) (key i)

  -- a key represents q
  abbrev pub stands_for : K → J → Bool
  stands_for q j = is_eq (R q (key j))

  -- a key that represents one name represents no other
  stands_apart : IsKeyOrder R → (q name : K) (j : J) → eq_by_cmp R q name ≡ false → stands_for name j ≡ true → stands_for q j ≡ false
  stands_apart o q name j a t = ap (λ k. eq_by_cmp R q k) (sym (o.antisymmetric name (key j) ((Equal-is (R name (key j))).0 t))) ∙ a

module _ {J K V : Type 0} (R : K → K → Ordering) (key : J → K) where
  abbrev pub seen : J × V → K × V
  seen e = (key e.0, e.1)

  find-seen : (q : K) (es : List (J × V)) → find R q (map seen es) ≡ lookup (stands_for R key q) es
  find-seen q [] = refl
  find-seen q (e ∷ es) = ap (cond (stands_for R key q e.0) (Some e.1)) (find-seen q es)

  by_order-seen : (o : Ordering) (xs ys zs : List (J × V)) (ds : List (K × V)) → map seen zs ≡ ds → map seen (match_ordering o xs ys zs) ≡ by_order o (map seen xs) (map seen ys) ds
  by_order-seen Less xs ys zs ds e = refl
  by_order-seen Equal xs ys zs ds e = refl
  by_order-seen Greater xs ys zs ds e = e

  map-insert_entry : (es : List (J × V)) (j : J) (v : V) → map seen (insert_entry (order R key) es j v) ≡ put R (key j) v (map seen es)
  map-insert_entry [] j v = refl
  map-insert_entry (e ∷ es) j v = by_order-seen (order R key j e.0) _ _ _ _ (ap (λ ds. seen e ∷ ds) (map-insert_entry es j v))

  -- a value that is written is found
  set_by : (b : Bool) (test : J → Bool) (e : J × V) (es rest : List (J × V)) (w : V) → test e.0 ≡ b → lookup test rest ≡ option_map (λ _. w) (lookup test es)
      → lookup test (cond b ((e.0, w) ∷ es) (e ∷ rest)) ≡ option_map (λ _. w) (lookup test (e ∷ es))
  set_by true test e es rest w t ih = cond-true _ _ _ t ∙ sym (ap (option_map (λ _. w)) (cond-true _ (Some e.1) (lookup test es) t))
  set_by false test e es rest w t ih = cond-false _ _ _ t ∙ ih ∙ sym (ap (option_map (λ _. w)) (cond-false _ (Some e.1) (lookup test es) t))

  lookup_set : (test : J → Bool) (es : List (J × V)) (w : V) → lookup test (set_value test es w) ≡ option_map (λ _. w) (lookup test es)
  lookup_set test [] w = refl
  lookup_set test (e ∷ es) w = set_by (test e.0) test e es (set_value test es w) w refl (lookup_set test es w)

  module _ (o : IsKeyOrder R) where
    -- to take an entry away changes nothing at a name apart
    remove_by : (b : Bool) (test : J → Bool) (e : J × V) (es rest : List (J × V)) → (b ≡ true → test e.0 ≡ false) → lookup test rest ≡ lookup test es → lookup test (cond b es (e ∷ rest)) ≡ lookup test (e ∷ es)
    remove_by true test e es rest t ih = sym (cond-false _ _ _ (t refl))
    remove_by false test e es rest t ih = ap (cond (test e.0) (Some e.1)) ih

    off_remove_entry : (q name : K) → eq_by_cmp R q name ≡ false → (es : List (J × V)) → lookup (stands_for R key q) (remove_entry (stands_for R key name) es) ≡ lookup (stands_for R key q) es
    off_remove_entry q name a [] = refl
    off_remove_entry q name a (e ∷ es) = remove_by (stands_for R key name e.0) (stands_for R key q) e es _ (stands_apart R key o q name e.0 a) (off_remove_entry q name a es)

    -- nor does a value that is written
    write_by : (b : Bool) (test : J → Bool) (e : J × V) (es rest : List (J × V)) (w : V) → (b ≡ true → test e.0 ≡ false) → lookup test rest ≡ lookup test es → lookup test (cond b ((e.0, w) ∷ es) (e ∷ rest)) ≡ lookup test (e ∷ es)
    write_by true test e es rest w t ih = cond-false _ _ _ (t refl) ∙ sym (cond-false _ _ _ (t refl))
    write_by false test e es rest w t ih = ap (cond (test e.0) (Some e.1)) ih

    off_set_value : (q name : K) → eq_by_cmp R q name ≡ false → (es : List (J × V)) (w : V) → lookup (stands_for R key q) (set_value (stands_for R key name) es w) ≡ lookup (stands_for R key q) es
    off_set_value q name a [] w = refl
    off_set_value q name a (e ∷ es) w = write_by (stands_for R key name e.0) (stands_for R key q) e es _ w (stands_apart R key o q name e.0 a) (off_set_value q name a es w)

    -- what is found under a name is what is looked up
    pub get-seen : (es : List (J × V)) (q : K) → get (from_entries {R = R} (map seen es)) q ≡ lookup (stands_for R key q) es
    get-seen es q = get-from_entries o.total (map seen es) q ∙ find-seen q es

    get-changed : (es ds : List (J × V)) (q : K) → lookup (stands_for R key q) es ≡ lookup (stands_for R key q) ds → get (from_entries {R = R} (map seen es)) q ≡ get (from_entries {R = R} (map seen ds)) q
    get-changed es ds q e = get-seen es q ∙ e ∙ sym (get-seen ds q)

    -- an entry that is inserted is inserted into the finite map
    pub seen_insert : (es : List (J × V)) (j : J) (v : V) → from_entries {R = R} (map seen (insert_entry (order R key) es j v)) ≡ insert (from_entries (map seen es)) (key j) v
    seen_insert es j v =
        let found = λ (q : K). get-from_entries o.total (map seen (insert_entry (order R key) es j v)) q ∙ ap (find R q) (map-insert_entry es j v) ∙ find-put R o.total q (key j) v (map seen es) in
        same_at_and_off o _ _ (key j)
        (found (key j) ∙ cond-true _ _ _ (key_itself o (key j)) ∙ sym (at_insert o _ (key j) v))
        (λ q a. found q ∙ cond-false _ _ _ a ∙ sym (get-from_entries o.total (map seen es) q) ∙ sym (off_insert o _ (key j) v q a))

    -- a value that is written over another is the change of it
    pub seen_adjust : (es : List (J × V)) (name : K) (f : V → V) (v : V) → lookup (stands_for R key name) es ≡ Some v → from_entries {R = R} (map seen (set_value (stands_for R key name) es (f v))) ≡ adjust name f (from_entries (map seen es))
    seen_adjust es name f v is =
        let at = get-seen (set_value (stands_for R key name) es (f v)) name ∙ lookup_set (stands_for R key name) es (f v) ∙ ap (option_map (λ _. f v)) is in
        same_at_and_off o _ _ name
        (at ∙ sym (at_insert o _ name (f v)))
        (λ q a. get-changed (set_value (stands_for R key name) es (f v)) es q (off_set_value q name a es (f v)) ∙ sym (off_insert o _ name (f v) q a))
        ∙ sym (adjust_there o name f _ v (get-seen es name ∙ is))

    -- an entry that is taken away, and no other stands under its name
    pub seen_remove : (es : List (J × V)) (name : K) → lookup (stands_for R key name) (remove_entry (stands_for R key name) es) ≡ None → from_entries {R = R} (map seen (remove_entry (stands_for R key name) es)) ≡ remove (from_entries (map seen es)) name
    seen_remove es name none =
        same_at_and_off o _ _ name
        (get-seen (remove_entry (stands_for R key name) es) name ∙ none ∙ sym (at_remove o _ name))
        (λ q a. get-changed (remove_entry (stands_for R key name) es) es q (off_remove_entry q name a es) ∙ sym (off_remove o _ name q a))
