-- Tables, seen as maps by names.
use Rattle.std.proofs.Common.{◌≡◌, ℕ, Bool, List, Option, Result, Ok, Err, Some, None, sym, ap, subst, ◌∙◌}
use Rattle.std.specs.Global.{Vec}
use Rattle.std.specs.Ordering.{nat_cmp, is_eq}
use Rattle.std.specs.Map.{lookup, remove_entry, set_value}
use Rattle.std.specs.Cmp.Lexicographic.{slice_cmp}
use Rattle.std.specs.BTreeMap.{insert_entry}
use Rattle.std.specs.FinMap.{get, insert, remove}
use Rattle.std.specs.Borrow.{MutBor}
use Rattle.std.specs.Option.{OnSome, option_copied_mut}
use Rattle.std.specs.Result.{OnOk, OnErr}
use Rattle.gate_base.specs.Maps.{Names, name_cmp, adjust}
use Rattle.gate_base.proofs.lemmas.Maps.{by_name, adjust_missing, adjust_there, insert_there}
use Rattle.name_table.specs.Table.{names_of}
use Rattle.name_table.proofs.lemmas.Entries.{get-seen, seen_insert, seen_adjust, seen_remove}

abbrev pub is_named : List ℕ → Vec ℕ → Bool
is_named name k = is_eq (slice_cmp nat_cmp name k.items)

module _ {X : Type 0} (es : List (Vec ℕ × X)) (m : Names X) (e : names_of es ≡ m) where
  pub table_get : (name : List ℕ) → lookup (is_named name) es ≡ get m name
  table_get name = sym (get-seen name_cmp (λ (k : Vec ℕ). k.items) by_name es name) ∙ ap (λ m. get m name) e

  pub table_insert : (k : Vec ℕ) (x : X) → names_of (insert_entry (λ (x y : Vec ℕ). slice_cmp nat_cmp x.items y.items) es k x) ≡ insert m k.items x
  table_insert k x = seen_insert name_cmp (λ (k : Vec ℕ). k.items) by_name es k x ∙ ap (λ m. insert m k.items x) e

  pub table_remove : (name : List ℕ) → lookup (is_named name) (remove_entry (is_named name) es) ≡ None → names_of (remove_entry (is_named name) es) ≡ remove m name
  table_remove name none = seen_remove name_cmp (λ (k : Vec ℕ). k.items) by_name es name none ∙ ap (λ m. remove m name) e

  pub table_adjust : (name : List ℕ) (f : X → X) (x : X) → lookup (is_named name) es ≡ Some x → names_of (set_value (is_named name) es (f x)) ≡ adjust name f m
  table_adjust name f x is = seen_adjust name_cmp (λ (k : Vec ℕ). k.items) by_name es name f x is ∙ ap (adjust name f) e

  -- what stands under a name is written over, where it was found
  pub table_written : (ds : List (Vec ℕ × X)) (name : List ℕ) (w : X) (r : Option (MutBor X)) → option_copied_mut r ≡ lookup (is_named name) es → ds ≡ set_value (is_named name) es w
      → OnSome r (names_of ds ≡ insert m name w)
  table_written ds name w None found wrote = tt
  table_written ds name w (Some x) found wrote =
      ap names_of wrote ∙ table_adjust name (λ _. w) x.now (sym found) ∙ adjust_there by_name name (λ _. w) m x.now (sym (table_get name) ∙ sym found)

-- ---- what a map becomes where a value was asked for, to be changed in its place

module _ {X : Type 0} (m n : Names X) (name : List ℕ) (r : Option (MutBor X)) (found : option_copied_mut r ≡ get m name) where
  -- it was there, and w was left behind it
  written_there : (x : MutBor X) (w : X) → r ≡ Some x → OnSome r (n ≡ insert m name w) → (get m name ≡ Some x.now) × (n ≡ insert m name w)
  written_there x w is wrote = (sym found ∙ ap option_copied_mut is, subst (λ r. OnSome r (n ≡ insert m name w)) is wrote)

  -- the change of it was left
  pub changed_there : (f : X → X) (x : MutBor X) (w : X) → r ≡ Some x → OnSome r (n ≡ insert m name w) → w ≡ f x.now → n ≡ adjust name f m
  changed_there f x w is wrote change =
      let there = written_there x w is wrote in
      there.1 ∙ ap (insert m name) change ∙ sym (adjust_there by_name name f m x.now there.0)

  -- it was left as it was
  pub left_there : (x : MutBor X) (w : X) → r ≡ Some x → OnSome r (n ≡ insert m name w) → w ≡ x.now → n ≡ m
  left_there x w is wrote same =
      let there = written_there x w is wrote in
      there.1 ∙ ap (insert m name) same ∙ insert_there by_name m name x.now there.0

  -- nothing was there
  pub nothing_there : (f : X → X) → r ≡ None → n ≡ m → n ≡ adjust name f m
  nothing_there f none same = same ∙ sym (adjust_missing by_name name f m (sym found ∙ ap option_copied_mut none))

-- what follows from a fact of an Ok, and of an Err
pub on_ok : {T E P Q : Type 0} (r : Result T E) → (P → Q) → OnOk r P → OnOk r Q
on_ok (Ok x) f h = f h
on_ok (Err x) f h = tt

pub on_err : {T E P Q : Type 0} (r : Result T E) → (P → Q) → OnErr r P → OnErr r Q
on_err (Ok x) f h = tt
on_err (Err x) f h = f h
