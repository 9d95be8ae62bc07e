-- Keys that a listing leaves out, and how many rows it shows.
use Rattle.std.proofs.Common.{◌≡◌, ℕ, ◌≤◌, ◌<◌, Bool, true, false, cond, not, List, [], ◌∷◌, ◌++◌, length, Option, refl, sym, ◌∙◌, ap, subst, T, append_assoc, arith, inl, inr, ◌⊎◌}
use Rattle.std.specs.List.{AllByRecursion, list_all}
use Rattle.std.specs.Ordering.{is_lt}
use Rattle.std.specs.FinMap.{is_sorted}
use Rattle.std.proofs.lemmas.Bool.{and_parts, ltb-false}
use Rattle.std.proofs.lemmas.List.{append-nil, length-take, take_all}
use Rattle.gate_base.specs.Maps.{name_cmp}
use Rattle.s3_machine.specs.Items.{begins, behind, row_of}
use Rattle.s3_machine.specs.Limits.{is_listing_text}
use Rattle.s3_names.specs.Key.{is_key}
use Rattle.list_pages.specs.Jumps.{next_marker}
use Rattle.list_pages.specs.Rolling.{Wanted, all_rows, first_rows, ends, Rises, Rolled, UpTo}
use Rattle.list_pages.proofs.lemmas.Jumps.{key_upto_marker, text_upto_name, texts_alike}
use Rattle.list_pages.proofs.lemmas.Pushing.{same_ends}
use Rattle.list_pages.proofs.lemmas.Rising.{tells, upto_trans}
use Rattle.list_pages.proofs.lemmas.Rolling.{push_alike, push_behind, push_counts, push_is_last, push_keeps, push_next, push_repeats}
use Rattle.list_pages.proofs.lemmas.Sorted.{all_filter, rises_sorted, sorted_filter}
use Rattle.list_pages.proofs.lemmas.Starting.{no_rows, not_behind, rolled_none}
use Rattle.list_pages.proofs.lemmas.Turning.{behind_it, split_at_marker, up_to}

-- ---- keys one after the other

pub rises_two : {H : Type 0} (prefix : List ℕ) (seen front rest : List (List ℕ × H)) → Rises prefix seen (front ++ rest) → Rises prefix seen front × Rises prefix (seen ++ front) rest
rises_two prefix seen [] rest r = (tt, subst (λ l. Rises prefix l rest) (sym (append-nil seen)) r)
rises_two prefix seen (k ∷ front) rest r =
    let two = rises_two prefix (seen ++ k ∷ []) front rest r.2 in
    ((r.0, r.1, two.0), subst (λ l. Rises prefix l rest) (append_assoc seen (k ∷ []) front) two.1)

last_or_none : {X : Type 0} (xs : List X) → (xs ≡ []) ⊎ ((front : List X) × (x : X) × (xs ≡ front ++ x ∷ []))
last_or_none [] = inl refl
last_or_none (x ∷ xs) = elim (last_or_none xs) [
  | inl e ↦ inr ([], x, ap (λ l. x ∷ l) e)
  | inr s ↦ inr (x ∷ s.0, s.1, ap (λ l. x ∷ l) s.2)
]

all_last : {X : Type 0} (P : X → Type 0) (front : List X) (x : X) → AllByRecursion P (front ++ x ∷ []) → P x
all_last P [] x h = h.0
all_last P (y ∷ front) x h = all_last P front x h.1

module _ {H : Type 0} (w : Wanted) where
  abbrev text : List ℕ × H → List ℕ
  text k = (row_of w.prefix w.delimiter k).0

  abbrev rows : List (List ℕ × H) → List (List ℕ × Option H)
  rows seen = behind w.marker (all_rows w seen)

  -- each has the text of the last row
  pub skip_alike : (c : List ℕ) (shown : List (List ℕ × Option H)) (more : Bool) (seen rest : List (List ℕ × H)) → Rolled w shown more seen → Rises w.prefix seen rest → AllByRecursion (λ k. text k ≡ c) rest
      → ends c (all_rows w seen) ≡ true → Rolled w shown more (seen ++ rest)
  skip_alike c shown more seen [] r rises all last = subst (λ l. Rolled w shown more l) (sym (append-nil seen)) r
  skip_alike c shown more seen (k ∷ rest) r rises all last =
      let again : ends (text k) (all_rows w seen) ≡ true = ap (λ t. ends t (all_rows w seen)) all.0 ∙ last in
      subst (λ l. Rolled w shown more l) (append_assoc seen (k ∷ []) rest)
      (skip_alike c shown more (seen ++ k ∷ []) rest (push_alike w r k rises.0 rises.1 again) rises.2 all.1
      (ap (ends c) (push_repeats w r k rises.0 rises.1 again) ∙ last))

  -- the text of none comes after the marker
  pub skip_hidden : (shown : List (List ℕ × Option H)) (more : Bool) (seen rest : List (List ℕ × H)) → Rolled w shown more seen → Rises w.prefix seen rest → AllByRecursion (λ k. UpTo (text k) w.marker) rest → Rolled w shown more (seen ++ rest)
  skip_hidden shown more seen [] r rises all = subst (λ l. Rolled w shown more l) (sym (append-nil seen)) r
  skip_hidden shown more seen (k ∷ rest) r rises all =
      subst (λ l. Rolled w shown more l) (append_assoc seen (k ∷ []) rest)
      (skip_hidden shown more (seen ++ k ∷ []) rest
      (push_behind w shown more seen k.0 k.1 rises.0 r rises.1 (text k) (row_of w.prefix w.delimiter k).1 refl (not_behind w.marker (text k) ∙ all.0)) rises.2 all.1)

  -- ---- how many rows there are

  pub rows_keep : (seen rest : List (List ℕ × H)) {shown : List (List ℕ × Option H)} {more : Bool} → Rolled w shown more seen → Rises w.prefix seen rest → length (rows seen) ≤ length (rows (seen ++ rest))
  rows_keep seen [] r rises = let e = ap (λ l. length (rows l)) (append-nil seen) in omega (arith, e)
  rows_keep seen (k ∷ rest) r rises =
      let one = push_keeps w r k rises.0 rises.1 in
      let more = rows_keep (seen ++ k ∷ []) rest (push_next w r k rises.0 rises.1) rises.2 in
      let e = ap (λ l. length (rows l)) (append_assoc seen (k ∷ []) rest) in
      omega (arith, one, more, e)

  all_shown : {shown : List (List ℕ × Option H)} {more : Bool} {seen : List (List ℕ × H)} → Rolled w shown more seen → more ≡ false → length shown ≡ length (rows seen)
  all_shown {seen = seen} r room = ap length (r.rows ∙ take_all w.max (rows seen) (ltb-false w.max (length (rows seen)) (sym r.over ∙ room)))

  -- no more are shown than of all keys
  pub shown_within : {shown : List (List ℕ × Option H)} {more : Bool} (seen rest : List (List ℕ × H)) → Rolled w shown more seen → Rises w.prefix seen rest → length shown ≤ length (first_rows w (seen ++ rest)).0
  shown_within seen rest r rises =
      let keep = rows_keep seen rest r rises in
      omega (arith, keep, ap length r.rows, length-take w.max (rows seen), length-take w.max (rows (seen ++ rest)))

  -- more are shown, where the first key shows another row
  pub shown_more : {shown shown' : List (List ℕ × Option H)} {more more' : Bool} (seen : List (List ℕ × H)) (k : List ℕ × H) (rest : List (List ℕ × H)) → Rolled w shown more seen → more ≡ false → Rolled w shown' more' (seen ++ k ∷ rest) → more' ≡ false
      → Rises w.prefix seen (k ∷ rest) → is_lt (name_cmp w.marker (text k)) ≡ true → ends (text k) (all_rows w seen) ≡ false → length shown < length shown'
  shown_more seen k rest r room r' room' rises shows other =
      let one = push_counts w r k rises.0 rises.1 shows other in
      let keep = rows_keep (seen ++ k ∷ []) rest (push_next w r k rises.0 rises.1) rises.2 in
      let e = ap (λ l. length (rows l)) (append_assoc seen (k ∷ []) rest) in
      omega (arith, one, keep, e, all_shown r room, all_shown r' room')

  -- ---- the last row

  next_all : (seen rest : List (List ℕ × H)) {shown : List (List ℕ × Option H)} {more : Bool} → Rolled w shown more seen → Rises w.prefix seen rest → (shown' : List (List ℕ × Option H)) × (more' : Bool) × Rolled w shown' more' (seen ++ rest)
  next_all seen [] {shown = shown} {more = more} r rises = (shown, more, subst (λ l. Rolled w shown more l) (sym (append-nil seen)) r)
  next_all seen (k ∷ rest) r rises =
      let n = next_all (seen ++ k ∷ []) rest (push_next w r k rises.0 rises.1) rises.2 in
      (n.0, n.1, subst (λ l. Rolled w n.0 n.1 l) (append_assoc seen (k ∷ []) rest) n.2)

  pub last_row : (front : List (List ℕ × H)) (e : List ℕ × H) → Rises w.prefix [] (front ++ e ∷ []) → ends (text e) (all_rows w (front ++ e ∷ [])) ≡ true
  last_row front e rises =
      let two = rises_two w.prefix [] front (e ∷ []) rises in
      let all = next_all [] front (rolled_none H w) two.0 in
      push_is_last w all.2 e two.1.0 two.1.1

  -- where all texts are up to a name, the last row has no text behind it
  pub no_last_row : (n t : List ℕ) (seen : List (List ℕ × H)) → Rises w.prefix [] seen → AllByRecursion (λ k. UpTo (text k) n) seen → (UpTo t n → ⊥) → ends t (all_rows w seen) ≡ false
  no_last_row n t seen rises all later = elim (last_or_none seen) [
    | inl e ↦ ap (λ l. ends t (all_rows w l)) e ∙ ap (ends t) (no_rows (Option H))
    | inr s ↦ elim (tells (ends t (all_rows w seen))) [
      | inr f ↦ f
      | inl h ↦
          let last = last_row s.0 s.1 (subst (Rises w.prefix []) s.2 rises) in
          let alike : t ≡ text s.1 = same_ends t (text s.1) (all_rows w (s.0 ++ s.1 ∷ [])) (ap (λ l. ends t (all_rows w l)) (sym s.2) ∙ h) last in
          absurd (later (subst (λ x. UpTo x n) (sym alike) (all_last (λ k. UpTo (text k) n) s.0 s.1 (subst (AllByRecursion (λ k. UpTo (text k) n)) s.2 all))))
    ]
  ]

-- ---- up to one marker and up to a later one

upto_of : (m k : List ℕ) → is_lt (name_cmp m k) ≡ false → UpTo k m
upto_of m k e = sym (not_behind m k) ∙ e

not_upto : (m k : List ℕ) → is_lt (name_cmp m k) ≡ true → UpTo k m → ⊥
not_upto m k e up = let h : true ≡ false = sym e ∙ not_behind m k ∙ up in cc h

-- what comes after the later one comes after the other
after_both : (n j k : List ℕ) → UpTo n j → is_lt (name_cmp j k) ≡ true → is_lt (name_cmp n k) ≡ true
after_both n j k le e = elim (tells (is_lt (name_cmp n k))) [ inl t ↦ t | inr f ↦ absurd (not_upto j k e (upto_trans k n j (upto_of n k f) le)) ]

module _ {H : Type 0} where
  -- what holds of each key between the two
  each_between : (P : List ℕ × H → Type 0) (prefix n j : List ℕ) → ((k : List ℕ × H) → begins prefix k.0 ≡ true → (UpTo k.0 n → ⊥) → UpTo k.0 j → P k) → (ks : List (List ℕ × H)) → list_all (λ k. begins prefix k.0) ks ≡ true
      → AllByRecursion P (behind_it n (up_to j ks))
  each_between P prefix n j f [] all = tt
  each_between P prefix n j f (k ∷ ks) all =
      let both = and_parts (begins prefix k.0) (list_all (λ k. begins prefix k.0) ks) all in
      let rest = each_between P prefix n j f ks both.1 in
      elim (is_lt (name_cmp j k.0)) as (λ t. is_lt (name_cmp j k.0) ≡ t → AllByRecursion P (behind_it n (cond (not t) (k ∷ up_to j ks) (up_to j ks)))) [
        | true ↦ λ e. rest
        | false ↦ λ e. elim (is_lt (name_cmp n k.0)) as (λ t. is_lt (name_cmp n k.0) ≡ t → AllByRecursion P (cond t (k ∷ behind_it n (up_to j ks)) (behind_it n (up_to j ks)))) [
          | true ↦ λ l. (f k both.0 (not_upto n k.0 l) (upto_of j k.0 e), rest)
          | false ↦ λ l. rest
        ] refl
      ] refl

  each_upto : (P : List ℕ × H → Type 0) (prefix j : List ℕ) → ((k : List ℕ × H) → begins prefix k.0 ≡ true → UpTo k.0 j → P k) → (ks : List (List ℕ × H)) → list_all (λ k. begins prefix k.0) ks ≡ true → AllByRecursion P (up_to j ks)
  each_upto P prefix j f [] all = tt
  each_upto P prefix j f (k ∷ ks) all =
      let both = and_parts (begins prefix k.0) (list_all (λ k. begins prefix k.0) ks) all in
      let rest = each_upto P prefix j f ks both.1 in
      elim (is_lt (name_cmp j k.0)) as (λ t. is_lt (name_cmp j k.0) ≡ t → AllByRecursion P (cond (not t) (k ∷ up_to j ks) (up_to j ks))) [
        | true ↦ λ e. rest
        | false ↦ λ e. (f k both.0 (upto_of j k.0 e), rest)
      ] refl

  module _ (n j : List ℕ) (le : UpTo n j) where
    up_to_twice : (ks : List (List ℕ × H)) → up_to n (up_to j ks) ≡ up_to n ks
    up_to_twice [] = refl
    up_to_twice (k ∷ ks) =
        let rest = up_to_twice ks in
        elim (is_lt (name_cmp j k.0)) as (λ t. is_lt (name_cmp j k.0) ≡ t → up_to n (cond (not t) (k ∷ up_to j ks) (up_to j ks)) ≡ up_to n (k ∷ ks)) [
          | true ↦ λ e. rest ∙ sym (ap (λ t. cond (not t) (k ∷ up_to n ks) (up_to n ks)) (after_both n j k.0 le e))
          | false ↦ λ e. ap (λ l. cond (not (is_lt (name_cmp n k.0))) (k ∷ l) l) rest
        ] refl

    pub behind_fewer : (ks : List (List ℕ × H)) → length (behind_it j ks) ≤ length (behind_it n ks)
    behind_fewer [] = omega arith
    behind_fewer (k ∷ ks) =
        let rest = behind_fewer ks in
        elim (is_lt (name_cmp j k.0)) as (λ t. is_lt (name_cmp j k.0) ≡ t → length (cond t (k ∷ behind_it j ks) (behind_it j ks)) ≤ length (behind_it n (k ∷ ks))) [
          | true ↦ λ e. let same = ap (λ t. length (cond t (k ∷ behind_it n ks) (behind_it n ks))) (after_both n j k.0 le e) in omega (arith, rest, same)
          | false ↦ λ e. elim (is_lt (name_cmp n k.0)) as (λ t. length (behind_it j ks) ≤ length (cond t (k ∷ behind_it n ks) (behind_it n ks))) [ true ↦ omega (arith, rest) | false ↦ rest ]
        ] refl

    -- up to the later one stand those up to the other, and those between
    up_to_later : (ks : List (List ℕ × H)) → T (is_sorted name_cmp ks) → up_to j ks ≡ up_to n ks ++ behind_it n (up_to j ks)
    up_to_later ks sorted = split_at_marker n (up_to j ks) (sorted_filter (λ k. not (is_lt (name_cmp j k.0))) ks sorted) ∙ ap (λ l. l ++ behind_it n (up_to j ks)) (up_to_twice ks)

-- ---- the next marker

module _ {H : Type 0} (w : Wanted) (ks : List (List ℕ × H)) (sorted : T (is_sorted name_cmp ks)) (fit : list_all (λ k. begins w.prefix k.0) ks ≡ true) where
  abbrev next : List ℕ → List ℕ
  next n = next_marker w.prefix w.delimiter n

  pub up_to_rises : (m : List ℕ) → Rises w.prefix [] (up_to m ks)
  up_to_rises m = rises_sorted w.prefix [] (up_to m ks) (sorted_filter (λ k. not (is_lt (name_cmp m k.0))) ks sorted) (all_filter (λ k. begins w.prefix k.0) (λ k. not (is_lt (name_cmp m k.0))) ks fit)

  -- the texts of the keys up to it are up to the name
  pub texts_upto : (n : List ℕ) → AllByRecursion (λ k. UpTo (text w k) n) (up_to (next n) ks)
  texts_upto n = each_upto (λ k. UpTo (text w k) n) w.prefix (next n) (λ k of_k up. text_upto_name w.prefix w.delimiter n k.0 k.1 of_k up) ks fit

  -- a listing that begins behind the marker has shown nothing up to there
  pub rolled_first : Rolled w [] false (up_to (next w.marker) ks)
  rolled_first = skip_hidden w [] false [] (up_to (next w.marker) ks) (rolled_none H w) (up_to_rises (next w.marker)) (texts_upto w.marker)

  -- a listing that goes on behind its last name leaves out what shows nothing more
  pub rolled_on : {shown : List (List ℕ × Option H)} {more : Bool} (front : List (List ℕ × H)) (e : List ℕ × H) → begins w.prefix e.0 ≡ true → up_to e.0 ks ≡ front ++ e ∷ [] → UpTo e.0 (next e.0) → Rolled w shown more (up_to e.0 ks)
      → Rolled w shown more (up_to (next e.0) ks)
  rolled_on {shown = shown} {more = more} front e of_e at le r =
      let later = up_to_later e.0 (next e.0) le ks sorted in
      let between = behind_it e.0 (up_to (next e.0) ks) in
      let fits = all_filter (λ k. begins w.prefix k.0) (λ k. is_lt (name_cmp e.0 k.0)) (up_to (next e.0) ks) (all_filter (λ k. begins w.prefix k.0) (λ k. not (is_lt (name_cmp (next e.0) k.0))) ks fit) in
      let rises = rises_sorted w.prefix (up_to e.0 ks) between (subst (λ l. T (is_sorted name_cmp l)) later (sorted_filter (λ k. not (is_lt (name_cmp (next e.0) k.0))) ks sorted)) fits in
      let alike = each_between (λ k. text w k ≡ text w e) w.prefix e.0 (next e.0)
      (λ k of_k behind up. texts_alike w.prefix w.delimiter e k of_e of_k (text_upto_name w.prefix w.delimiter e.0 k.0 k.1 of_k up) behind) ks fit in
      let last = ap (λ l. ends (text w e) (all_rows w l)) at ∙ last_row w front e (subst (Rises w.prefix []) at (up_to_rises e.0)) in
      subst (Rolled w shown more) (sym later) (skip_alike w (text w e) shown more (up_to e.0 ks) between r rises alike last)

  -- a key behind the next marker of a name shows another row than all keys up to it
  pub shows_another : is_listing_text w.delimiter ≡ true → (n : List ℕ) → is_listing_text n ≡ true → (k : List ℕ × H) → is_key k.0 ≡ true → begins w.prefix k.0 ≡ true → is_lt (name_cmp (next n) k.0) ≡ true → UpTo w.marker n
      → (is_lt (name_cmp w.marker (text w k)) ≡ true) × (ends (text w k) (all_rows w (up_to (next n) ks)) ≡ false)
  shows_another of_d n of_n k named of_k behind from =
      let later : UpTo (text w k) n → ⊥ = λ up. not_upto (next n) k.0 behind (key_upto_marker w.prefix w.delimiter of_d n k.0 k.1 of_n named of_k up) in (
        elim (tells (is_lt (name_cmp w.marker (text w k)))) [ inl t ↦ t | inr f ↦ absurd (later (upto_trans (text w k) w.marker n (upto_of w.marker (text w k) f) from)) ],
        no_last_row w n (text w k) (up_to (next n) ks) (up_to_rises (next n)) (texts_upto n) later,
      )
