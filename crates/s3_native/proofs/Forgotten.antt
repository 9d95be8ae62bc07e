-- What a pass over all entries leaves of kept completions and of buckets, seen as maps, and how many completions it counts.
use Rattle.std.specs.Prelude.{◌≡◌, ℕ, suc, Bool, true, false, not, cond, List, [], ◌∷◌, ◌++◌, map, flat_map, length, count_by, Option, None, Some, IsSomeAnd}
use Rattle.std.proofs.Common.{refl, sym, ap, subst, ◌∙◌, ◌+◌, min, arith}
use Rattle.std.proofs.lemmas.List.{length-append, length-map}
use Rattle.std.proofs.lemmas.List.Sums.{length-filter}
use Rattle.std.specs.Global.{Vec}
use Rattle.std.specs.List.{filter, filter_map, cons_option}
use Rattle.std.specs.Map.{values_of}
use Rattle.std.specs.Option.{option_and_then, option_map}
use Rattle.std.specs.FinMap.{entries, from_entries, get}
use Rattle.gate_base.specs.Maps.{Names, pick_entry, picked}
use Rattle.gate_base.proofs.lemmas.Maps.{by_name, get-picked}
use Rattle.name_table.specs.Table.{entry_of, names_of}
use Rattle.s3_machine.specs.State.{Bucket, State}
use Rattle.s3_native.specs.Forgetting.{Forgets, ForgetsAt, ForgetsIn, all_old, is_older, newer_in, newer_in_each, old_in, unless_older}

-- ---- what is left

module _ {X : Type 0} where
  -- an entry stays, or not
  stays_by : (b : Bool) (e : Vec ℕ × X) (rest : List (Vec ℕ × X)) (more : List (List ℕ × X)) → map entry_of rest ≡ more
      → map entry_of (cond (not b) (e ∷ rest) rest) ≡ cons_option (option_map (λ y. ((entry_of e).0, y)) (cond b None (Some e.1))) more
  stays_by true e rest more h = h
  stays_by false e rest more h = ap (λ r. entry_of e ∷ r) h

  -- those stay that don't pass a test
  filtered : (test : X → Bool) (es : List (Vec ℕ × X))
      → map entry_of (filter (λ e. not (test e.1)) es) ≡ filter_map (pick_entry (λ name x. cond (test x) None (Some x))) (map entry_of es)
  filtered test [] = refl
  filtered test (e ∷ es) = stays_by (test e.1) e (filter (λ e. not (test e.1)) es) _ (filtered test es)

  -- each is changed
  changed : (g : X → X) (es : List (Vec ℕ × X)) → map entry_of (map (λ e. (e.0, g e.1)) es) ≡ filter_map (pick_entry (λ name x. Some (g x))) (map entry_of es)
  changed g [] = refl
  changed g (e ∷ es) = ap (λ r. (e.0.items, g e.1) ∷ r) (changed g es)

-- one more in both lists, or in none
longer : {A B : Type 0} (b : Bool) (x : A) (y : B) (xs : List A) (ys : List B) → length xs ≡ length ys → length (cond b (x ∷ xs) xs) ≡ length (cond b (y ∷ ys) ys)
longer true x y xs ys h = ap suc h
longer false x y xs ys h = h

module _ {X : Type 0} (es : List (Vec ℕ × X)) (m : Names X) (e : names_of es ≡ m) (are : entries (names_of es) ≡ map entry_of es) where
  -- the entries of the map are these
  entries_of_map : entries m ≡ map entry_of es
  entries_of_map = sym (ap entries e) ∙ are

  -- a pass that drops what passes a test
  pub left_by_test : (test : X → Bool) (ds : List (Vec ℕ × X)) → ds ≡ filter (λ e. not (test e.1)) es → names_of ds ≡ picked (λ name x. cond (test x) None (Some x)) m
  unfolding picked
  left_by_test test ds is =
      ap names_of is ∙ ap from_entries (filtered test es) ∙ ap (λ es. from_entries (filter_map (pick_entry (λ name x. cond (test x) None (Some x))) es)) (sym entries_of_map)

  -- a pass that changes each value
  pub left_by_change : (g : X → X) (ds : List (Vec ℕ × X)) → ds ≡ map (λ e. (e.0, g e.1)) es → names_of ds ≡ picked (λ name x. Some (g x)) m
  unfolding picked
  left_by_change g ds is =
      ap names_of is ∙ ap from_entries (changed g es) ∙ ap (λ es. from_entries (filter_map (pick_entry (λ name x. Some (g x))) es)) (sym entries_of_map)

  -- how many values pass a test
  pub counted : (test : X → Bool) → count_by test (values_of es) ≡ count_by (λ entry. test entry.1) (entries m)
  counted test =
      sym (length-filter test (values_of es)) ∙ along es ∙ length-filter (λ entry. test entry.1) (map entry_of es)
      ∙ ap (count_by (λ entry. test entry.1)) (sym entries_of_map)
    where
      along : (es : List (Vec ℕ × X)) → length (filter test (values_of es)) ≡ length (filter (λ entry. test entry.1) (map entry_of es))
      along [] = refl
      along (e ∷ es) = longer (test e.1) e.1 (entry_of e) (filter test (values_of es)) (filter (λ entry. test entry.1) (map entry_of es)) (along es)

-- ---- the same by lookups

bucket_forgets : (before : ℕ) (old new : Option Bucket) → new ≡ option_and_then (λ b. Some (newer_in before b)) old → ForgetsAt before old new
bucket_forgets before None new e = e
bucket_forgets before (Some b) new e =
    subst (λ v. IsSomeAnd v (ForgetsIn before b)) (sym e)
    (record { but_for_kept = refl; kept = λ id. get-picked by_name (λ id one. unless_older before one) b.kept id })

pub state_forgets : (before : ℕ) (old new : State) → new ≡ newer_in_each before old → Forgets before old new
state_forgets before old new e name =
    bucket_forgets before (get old name) (get new name)
    (ap (λ m. get m name) e ∙ get-picked by_name (λ name b. Some (newer_in before b)) old name)

-- ---- how many

pub old_count : (before : ℕ) (entry : List ℕ × Bucket) → count_by (λ one. is_older before one.1) (entries entry.1.kept) ≡ length (old_in before entry)
old_count before entry =
    sym (length-filter (λ one. is_older before one.1) (entries entry.1.kept))
    ∙ sym (length-map (filter (λ one. is_older before one.1) (entries entry.1.kept)) (λ one. (entry.0, one.0)))

-- how many are old in the buckets of these entries
abbrev pub old_among : ℕ → List (Vec ℕ × Bucket) → ℕ
old_among before es = length (flat_map (λ e. old_in before (entry_of e)) es)

pub old_among_more : (before : ℕ) (it rest : List (Vec ℕ × Bucket)) (e : Vec ℕ × Bucket) → it ≡ e ∷ rest
    → old_among before it ≡ count_by (λ one. is_older before one.1) (entries e.1.kept) + old_among before rest
old_among_more before it rest e is =
    ap (old_among before) is ∙ length-append (old_in before (entry_of e)) (flat_map (λ e. old_in before (entry_of e)) rest)
    ∙ ap (λ n. n + old_among before rest) (sym (old_count before (entry_of e)))

pub old_among_all : (before : ℕ) (es : List (Vec ℕ × Bucket)) (m : State) → names_of es ≡ m → entries (names_of es) ≡ map entry_of es
    → old_among before es ≡ length (all_old before m)
old_among_all before es m e are =
    ap length (along es) ∙ ap (λ es. length (flat_map (old_in before) es)) (sym (entries_of_map es m e are))
  where
    along : (es : List (Vec ℕ × Bucket)) → flat_map (λ e. old_in before (entry_of e)) es ≡ flat_map (old_in before) (map entry_of es)
    along [] = refl
    along (e ∷ es) = ap (λ r. old_in before (entry_of e) ++ r) (along es)

-- a count that stays at the most that its type has
pub saturates : (count n s t all most : ℕ) → min (count + t) most ≡ min all most → t ≡ n + s → min (min (count + n) most + s) most ≡ min all most
saturates count n s t all most h e = omega arith
